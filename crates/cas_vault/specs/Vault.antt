-- What a vault shows, and what of it stands on its disk.
use Rattle.std.specs.Prelude.{◌≡◌, ◌⊎◌, ℕ, ◌+◌, ◌^◌, ◌≤◌, min, max, nat_lt, if◌then◌else◌, List, [], ◌∷◌, Some, None}
use Rattle.cas_cells.specs.Format.{IsImageOf, foreign_at, payload_at, payload_place}
use Rattle.cas_cells.specs.Cells as cells
use Rattle.cas_vault.specs.Codec.{RecordFits, spelling, IsFirstWrongByte}
use Rattle.cas_vault.specs.declared.kept.Kept.{Kept}
use Rattle.cas_vault.specs.declared.vault.Vault.{Vault}

-- the disk of a vault
abbrev pub disk_of : {D : Type 0} → Vault D → D
disk_of vault = cells.disk_of vault.cells

-- the last number that was drawn or forwarded to
abbrev pub counter_of : {D : Type 0} → Vault D → ℕ
counter_of vault = vault.counter

-- what the vault keeps on its disk: the bound, the age and the era
abbrev pub kept_of : {D : Type 0} → Vault D → Kept
kept_of vault = vault.kept

-- a vault that was just started keeps zeros
abbrev pub fresh : Kept
fresh = record { bound = 0; age = 0; era = 0 }

-- a disk is a vault's and keeps this
pub record KeptOn (kept : Kept) (disk : List ℕ) : Type 0 where
  pub fits : RecordFits kept
  pub row : IsImageOf (Some (spelling kept) ∷ []) disk

-- a disk keeps what was kept before a change or what is kept after it
abbrev pub KeepsBeforeOrAfter : Kept → Kept → List ℕ → Type 0
KeepsBeforeOrAfter before after disk = KeptOn before disk ⊎ KeptOn after disk

-- a vault is in use: its counter is within its end, and where the disk tells its content, a crash leaves what the vault keeps
pub record VaultStands {D : Type 0} (tells : Type 0) (seen : D → List ℕ) (may_leave : D → List ℕ → Type 0) (vault : Vault D) : Type 0 where
  pub row : cells.CellsStand tells seen may_leave vault.cells
  pub held : cells.cells_of vault.cells ≡ Some (spelling vault.kept) ∷ []
  pub fits : RecordFits vault.kept
  pub counter : vault.counter ≤ 2 ^ 48
  pub images : tells → (c : List ℕ) → may_leave (disk_of vault) c → KeptOn vault.kept c

-- A vault is past a number: its counter is at least that, and so is the bound in every image that a crash may leave. What was
-- drawn once is never drawn again from then on.
pub record IsPast {D : Type 0} (may_leave : D → List ℕ → Type 0) (n : ℕ) (vault : Vault D) : Type 0 where
  pub counter : n ≤ vault.counter
  pub images : (c : List ℕ) → may_leave (disk_of vault) c → (kept : Kept) × KeptOn kept c × (n ≤ kept.bound)

-- what is kept once the number after this counter is drawn: where it is above the bound, a bound of 99 more, at most 2 ^ 48
abbrev pub kept_to_draw : ℕ → Kept → Kept
kept_to_draw counter kept = if nat_lt kept.bound (counter + 1) then record kept { bound = min (counter + 100) (2 ^ 48) } else kept

-- what is kept once the age is raised: with it the bound rises to the counter
abbrev pub kept_one_older : ℕ → Kept → Kept
kept_one_older counter kept = record { bound = max kept.bound counter; age = kept.age + 1; era = kept.era }

-- what is kept in another era
abbrev pub kept_in_era : ℕ → Kept → Kept
kept_in_era number kept = record kept { era = number }

-- At this place stands the first byte of a disk that is not as the format of a vault demands: one that no row of cells has, or, in
-- a sound row, one that no record has in the payload of cell 0.
abbrev pub IsForeignAt : List ℕ → ℕ → Type 0
IsForeignAt disk at = (foreign_at disk ≡ Some at)
    ⊎ ((place : ℕ) × (payload : List ℕ) × (wrong : ℕ) × (foreign_at disk ≡ None) × (payload_at 0 disk 0 ≡ Some payload) × (payload_place 0 disk 0 ≡ Some place) × IsFirstWrongByte payload wrong × (at ≡ place + wrong))
