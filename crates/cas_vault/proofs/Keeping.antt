-- What a disk keeps, and the numbers that a vault is past. The crates above may cite this.
use Rattle.std.specs.Prelude.{IsErrAnd, slice_get, unwrap_or}
use Rattle.std.specs.Option.{option_map}
use Rattle.std.proofs.Common.{Result, Ok, Err, Bool, true, false, cond, ltb, ◌≡◌, ⊎_elim, ℕ, ◌+◌, ◌^◌, ◌≤◌, Option, Some, None, List, [], ◌∷◌, length, refl, sym, ap, subst, ◌∙◌, arith}
use Rattle.std.proofs.lemmas.Bool.{ltb-true}
use Rattle.std.proofs.lemmas.List.{nil_from_length}
use Rattle.cas_base.proofs.Bools.{some_is}
use Rattle.cas_disk.specs.Disk.{Only, LeavesOnly}
use Rattle.cas_cells.specs.Format.{IsImageOf, head_in, count_told, cells_on, payload_at, payload_place, place_of, payload_in, frame_at, cell_place, half_size, is_open}
use Rattle.cas_cells.specs.Held.{IsRow}
use Rattle.cas_cells.specs.Cells as cells
use Rattle.cas_cells.specs.declared.cells.Cells.{Cells}
use Rattle.cas_cells.proofs.Survival.{crash_leaves, same_row}
use Rattle.cas_cells.specs.declared.fault.CellFault.{CellFault}
use Rattle.cas_cells.specs.declared.fault.CellFault.TheVariants.{DiskFault, Foreign as ForeignCells, NoMemory as NoMemoryOfCells}
use Rattle.cas_vault.specs.ErrorOf.{error_of}
use Rattle.cas_vault.specs.declared.error.VaultError.{VaultError}
use Rattle.cas_vault.specs.declared.error.VaultError.TheVariants.{NoMemory}
use Rattle.cas_vault.specs.Codec.{RecordFits, spelling, SpellsRecord}
use Rattle.cas_vault.specs.Vault.{disk_of, KeptOn, KeepsBeforeOrAfter, VaultStands, IsPast, kept_to_draw}
use Rattle.cas_vault.specs.declared.kept.Kept.{Kept}
use Rattle.cas_vault.specs.declared.vault.Vault.{Vault}
use Rattle.cas_vault.proofs.Spellings.{same_spelling}

-- a disk keeps one record
pub same_kept : (kept kept' : Kept) (disk : List ℕ) → KeptOn kept disk → KeptOn kept' disk → kept ≡ kept'
same_kept kept kept' disk one two =
    same_spelling kept kept' one.fits two.fits
    (ap head_in (same_row (Some (spelling kept) ∷ []) (Some (spelling kept') ∷ []) disk one.row two.row))

-- the cells' want of memory is the only one that a vault tells
no_memory_of_cells : (e : CellFault) → error_of e ≡ NoMemory → e ≡ NoMemoryOfCells
no_memory_of_cells DiskFault is = absurd (cc)
no_memory_of_cells (ForeignCells at) is = absurd (cc)
no_memory_of_cells NoMemoryOfCells is = refl

pub told_no_memory : {T : Type 0} (r : Result T VaultError) (e : CellFault) → IsErrAnd r (λ f. f ≡ error_of e) → r ≡ Err NoMemory → e ≡ NoMemoryOfCells
told_no_memory (Ok x) e gives is = absurd (cc)
told_no_memory (Err f) e gives is = no_memory_of_cells e (let same : f ≡ NoMemory = cc in sym gives ∙ same)

-- a record tells no further cells
pub tells_no_cells : (kept : Kept) → count_told (spelling kept) ≡ 0
tells_no_cells kept = refl

-- a row whose cell 0 holds a record is that cell alone
pub only_cell : (row : List (Option (List ℕ))) (kept : Kept) → IsRow row → head_in row ≡ spelling kept → row ≡ Some (spelling kept) ∷ []
only_cell [] kept is held = absurd is
only_cell (None ∷ rest) kept is held = absurd is
only_cell (Some head ∷ rest) kept is held =
    let none : length rest ≡ 0 = is ∙ ap count_told held ∙ tells_no_cells kept in
    (λ t. Some (held t) ∷ nil_from_length rest none t)

module _ {D : Type 0} (tells : Type 0) (seen : D → List ℕ) (may_leave : D → List ℕ → Type 0) where
  -- cells in use that hold a record keep it in every image
  pub cells_keep : (row : Cells D) (kept : Kept) → RecordFits kept → cells.CellsStand tells seen may_leave row → cells.cells_of row ≡ Some (spelling kept) ∷ [] → tells → (c : List ℕ) → may_leave (cells.disk_of row) c → KeptOn kept c
  cells_keep row kept fits is held t c left = record { fits = fits; row = subst (λ (l : List (Option (List ℕ))). IsImageOf l c) held (crash_leaves tells seen may_leave row is t c left) }

  -- a vault is in use where its cells are and hold its record
  pub in_use : (vault : Vault D) → cells.CellsStand tells seen may_leave vault.cells → cells.cells_of vault.cells ≡ Some (spelling vault.kept) ∷ [] → RecordFits vault.kept → vault.counter ≤ 2 ^ 48 → VaultStands tells seen may_leave vault
  in_use vault row held fits counter = record {
    row = row;
    held = held;
    fits = fits;
    counter = counter;
    images = cells_keep vault.cells vault.kept fits row held;
  }

  -- so it is where its cells were left as they were
  pub still_in_use : (old new : Vault D) → VaultStands tells seen may_leave old → cells.CellsStand tells seen may_leave new.cells → cells.cells_of new.cells ≡ cells.cells_of old.cells → new.kept ≡ old.kept → new.counter ≡ old.counter → VaultStands tells seen may_leave new
  still_in_use old new is row same kept counter =
      let held = same ∙ is.held ∙ ap (λ (k : Kept). Some (spelling k) ∷ []) (sym kept) in
      in_use new row held (subst RecordFits (sym kept) is.fits) (omega (arith, counter, is.counter))

  -- A change after which the bound is not lower, and the counter neither, keeps the vault past what it was past.
  pub past_along : (moment : D → ℕ) (left_since : D → ℕ → List ℕ → Type 0) (old new : Vault D) (after : Kept) (n : ℕ) → VaultStands tells seen may_leave old → tells
      → may_leave (disk_of old) (seen (disk_of old))
      → ((t : ℕ) (c : List ℕ) → t ≤ moment (disk_of new) → may_leave (disk_of new) c → left_since (disk_of new) t c)
      → LeavesOnly moment left_since (disk_of old) (disk_of new) (KeepsBeforeOrAfter old.kept after) → old.kept.bound ≤ after.bound → old.counter ≤ new.counter
      → IsPast may_leave n old → IsPast may_leave n new
  past_along moment left_since old new after n is t stays now run higher counter past =
      let here = past.images (seen (disk_of old)) stays in
      let same : here.0 ≡ old.kept = same_kept here.0 old.kept (seen (disk_of old)) here.1 (is.images t (seen (disk_of old)) stays) in
      let bound : n ≤ old.kept.bound = omega (arith, here.2, ap (λ (k : Kept). k.bound) same) in
      record {
        counter = omega (arith, past.counter, counter);
        images = λ c left. ⊎_elim
            (λ before. (old.kept, before, bound))
            (λ changed. (after, changed, omega (arith, bound, higher)))
            (run.each c (now (moment (disk_of old)) c run.later left));
      }

chosen_bound : (b : Bool) (kept kept' : Kept) (n : ℕ) → (b ≡ true → n ≤ kept.bound) → (b ≡ false → n ≤ kept'.bound) → n ≤ (cond b kept kept').bound
chosen_bound true kept kept' n here there = here refl
chosen_bound false kept kept' n here there = there refl

-- drawing a number does not lower the bound
pub bound_to_draw : (counter : ℕ) (kept : Kept) → kept.bound ≤ 2 ^ 48 → kept.bound ≤ (kept_to_draw counter kept).bound
bound_to_draw counter kept low =
    chosen_bound (ltb kept.bound (counter + 1)) _ kept kept.bound (λ is. omega (arith, ltb-true kept.bound (counter + 1) is)) (λ is. omega arith)

-- ---- reopening

-- cell 0 of a row is not blank
row_head : (row : List (Option (List ℕ))) → IsRow row → slice_get row 0 ≡ Some (Some (head_in row))
row_head [] is = absurd is
row_head (None ∷ rest) is = absurd is
row_head (Some head ∷ rest) is = refl

-- the payload of cell 0 of a row
pub head_is : (row : List (Option (List ℕ))) (payload : List ℕ) → IsRow row → ((p : List ℕ) → slice_get row 0 ≡ Some (Some p) → Some payload ≡ Some p) → payload ≡ head_in row
head_is row payload is held = some_is payload (head_in row) (held (head_in row) (row_head row is))

-- a row whose cell 0 spells a record is that cell alone
pub row_read : (row : List (Option (List ℕ))) (payload : List ℕ) (kept : Kept) → IsRow row → ((p : List ℕ) → slice_get row 0 ≡ Some (Some p) → Some payload ≡ Some p) → SpellsRecord payload kept → row ≡ Some (spelling kept) ∷ []
row_read row payload kept is held spells = only_cell row kept is (sym (head_is row payload is held) ∙ spells.bytes_are)

-- and a disk of that row has it in its cell 0
pub payload_there : (row : List (Option (List ℕ))) (payload disk : List ℕ) → IsRow row → payload ≡ head_in row → cells_on disk ≡ row → payload_at 0 disk 0 ≡ Some payload
payload_there row payload disk is held same =
    some_is (payload_at 0 disk 0) (Some payload) (ap (λ (l : List (Option (List ℕ))). slice_get l 0) same ∙ row_head row is ∙ (λ t. Some (Some (sym held t))))

-- where a payload begins, by which frame holds it
abbrev place_by : ℕ → Bool → Bool → Option ℕ
place_by size second first = cond second (Some (size + 4)) (cond first (Some 4) None)

-- a payload begins somewhere
placed_there : (size : ℕ) (second first : Bool) (p q payload : List ℕ) → cond second (Some q) (cond first (Some p) None) ≡ Some payload → place_by size second first ≡ Some (unwrap_or (place_by size second first) 0)
placed_there size true first p q payload is = refl
placed_there size false true p q payload is = refl
placed_there size false false p q payload is = absurd (cc)

mapped_there : (o : Option ℕ) (n : ℕ) → o ≡ Some (unwrap_or o 0) → option_map (λ place. n + place) o ≡ Some (unwrap_or (option_map (λ place. n + place) o) 0)
mapped_there None n is = absurd (cc)
mapped_there (Some place) n is = refl

pub place_there : (disk payload : List ℕ) → payload_at 0 disk 0 ≡ Some payload → payload_place 0 disk 0 ≡ Some (unwrap_or (payload_place 0 disk 0) 0)
place_there disk payload is =
    mapped_there (place_of (half_size 0 0) (frame_at 0 disk 0) (frame_at 0 disk 1)) (cell_place 0 0) (placed_there (half_size 0 0) _ (is_open (frame_at 0 disk 0)) (payload_in (frame_at 0 disk 0)) (payload_in (frame_at 0 disk 1)) payload is)

-- what a vault was past, it is past over an image of its disk, if its counter is not below the bound there
pub past_image : {D : Type 0} (may_leave : D → List ℕ → Type 0) (old new : Vault D) (seen : List ℕ) (n : ℕ) → may_leave (disk_of old) seen → Only seen (may_leave (disk_of new)) → ((kept : Kept) → KeptOn kept seen → n ≤ old.counter → n ≤ kept.bound → n ≤ new.counter) → IsPast may_leave n old → IsPast may_leave n new
past_image may_leave old new seen n image only counter past =
    let there = past.images seen image in
    record {
      counter = counter there.0 there.1 past.counter there.2;
      images = λ c left. (there.0, subst (λ (l : List ℕ). KeptOn there.0 l) (sym (only c left)) there.1, there.2);
    }

-- a disk that stands for a row of a record alone keeps it
pub row_keeps : (row : List (Option (List ℕ))) (kept : Kept) (disk : List ℕ) → RecordFits kept → row ≡ Some (spelling kept) ∷ [] → IsImageOf row disk → KeptOn kept disk
row_keeps row kept disk fits is stands = record { fits = fits; row = subst (λ (l : List (Option (List ℕ))). IsImageOf l disk) is stands }
