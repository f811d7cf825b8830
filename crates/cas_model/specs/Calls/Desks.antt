-- What a step does to a desk and its vault.
use Rattle.std.specs.Prelude.{◌≡◌, ◌⊎◌, ℕ, ◌+◌, ◌^◌, ◌≤◌, max, true, false, List, [], Option, None, Some}
use Rattle.cas_base.specs.Faults.{Rose}
use Rattle.cas_ballot.specs.declared.ballot.Ballot.{Ballot}
use Rattle.cas_ballot.specs.Ballot.{FitsBallot}
use Rattle.cas_cache.specs.declared.ready.Ready.{Ready}
use Rattle.cas_cache.specs.Entries.{promise_at, without}
use Rattle.cas_proposer.specs.Desk.{DeskView, Draws, ShowsTheSame, IsCrashed, IsOpened, cache_after, cache_without, counter_after, counter_without}
use Rattle.cas_proposer.specs.declared.began.Began.TheVariants as began
use Rattle.cas_proposer.specs.declared.round.Round.{Round}
use Rattle.cas_proposer.specs.Round.{Hears, TurnsToAccept}
use Rattle.cas_quorum.specs.declared.era.Era.{Era}
use Rattle.cas_slot.specs.declared.message.Reply.{Reply}
use Rattle.cas_vault.specs.declared.vault.Vault.{Vault}
use Rattle.cas_vault.specs.Vault.{disk_of, counter_of, kept_of, KeptOn, IsPast, kept_in_era, kept_one_older}
use Rattle.cas_model.specs.Parties.{VaultKeepsEra, IsAged}
use Rattle.cas_model.specs.View.{DiskMeaning}

-- ---- vaults
-- the vault is past all that it was past, at the ages that it was, and in the same eras, wherever it stops; the count of its disk's faults
-- does not fall
pub record VaultGoesOn {V : Type 0} (m : DiskMeaning V) (old new : Vault V) : Type 0 where
  pub still_past : m.tells → (n : ℕ) → IsPast m.may_leave n old → IsPast m.may_leave n new
  pub ages : m.tells → (age : ℕ) → IsAged m age old → IsAged m age new
  pub era : m.tells → (era other : ℕ) → VaultKeepsEra m era other old → VaultKeepsEra m era other new
  pub never_falls : m.faults (disk_of old) ≤ m.faults (disk_of new)

-- a ballot of this proposer was drawn, and is never drawn again
pub record HasDrawn {V : Type 0} (m : DiskMeaning V) (id : ℕ) (old new : Vault V) (ballot : Ballot) : Type 0 where
  pub draws : Draws id old new ballot
  pub fits : FitsBallot ballot
  pub past : m.tells → IsPast m.may_leave ballot.counter new
  pub goes_on : VaultGoesOn m old new

-- what it shows stays
pub record HasKept {V : Type 0} (m : DiskMeaning V) (old new : Vault V) : Type 0 where
  pub shows : ShowsTheSame old new
  pub goes_on : VaultGoesOn m old new

-- the ballot that may ride: one that was drawn, or none
abbrev pub MayHaveDrawn : {V : Type 0} → DiskMeaning V → ℕ → Vault V → Vault V → Option Ballot → Type 0
MayHaveDrawn m id old new None = HasKept m old new
MayHaveDrawn m id old new (Some ballot) = HasDrawn m id old new ballot

-- No ballot rides exactly for proposer 0, and where the counter has come to its end.
abbrev pub IsRideDue : ℕ → ℕ → Option Ballot → Type 0
IsRideDue id counter None = (id ≡ 0) ⊎ (counter ≡ 2 ^ 48)
IsRideDue id counter (Some ballot) = ((id ≡ 0) ⊎ (counter ≡ 2 ^ 48)) → ⊥

-- ---- rounds
-- What asks bears the age that the desk shows as it begins, and its vault keeps that age then, wherever it stops.

-- a round begins at a ballot that is drawn
pub record BeginsToPrepare {V : Type 0} (m : DiskMeaning V) (era : Era) (key : List ℕ) (old new : DeskView V) (ballot : Ballot) (round : Round) : Type 0 where
  pub none_open : old.round ≡ None
  pub no_promise : promise_at key old.cache ≡ None
  pub drawn : HasDrawn m old.id old.vault new.vault ballot
  pub aged : m.tells → IsAged m (kept_of old.vault).age new.vault
  pub opened : IsOpened key era (began.Prepare ballot) round
  pub desk : new ≡ record old { vault = new.vault; cache = without key old.cache; round = Some round }

-- a round begins by a promise, and goes on with the ballot that rides with its accepts
pub record BeginsByPromise {V : Type 0} (m : DiskMeaning V) (era : Era) (key : List ℕ) (old new : DeskView V) (ready : Ready) (ride : Option Ballot) (round : Round) : Type 0 where
  pub none_open : old.round ≡ None
  pub promise : promise_at key old.cache ≡ Some ready
  pub due : IsRideDue old.id (counter_of old.vault) ride
  pub drawn : MayHaveDrawn m old.id old.vault new.vault ride
  pub aged : m.tells → IsAged m (kept_of old.vault).age new.vault
  pub opened : IsOpened key era (began.Accept ready) round
  pub desk : new ≡ record old { vault = new.vault; cache = without key old.cache; round = Some (record round { ride = ride }) }

-- its prepare phase ends and its accept phase begins, with the ballot that rides
pub record TurnsWith {V : Type 0} (m : DiskMeaning V) (old new : DeskView V) (round turned : Round) (ride : Option Ballot) : Type 0 where
  pub turns : TurnsToAccept round turned
  pub due : IsRideDue old.id (counter_of old.vault) ride
  pub drawn : MayHaveDrawn m old.id old.vault new.vault ride
  pub aged : m.tells → IsAged m (kept_of old.vault).age new.vault
  pub desk : new ≡ record old { vault = new.vault; round = Some (record turned { ride = ride }) }

-- a reply is heard
pub record HearsReply {V : Type 0} (old new : DeskView V) (round heard : Round) (reply : Reply) : Type 0 where
  pub hears : Hears round reply heard
  pub desk : new ≡ record old { round = Some heard }

-- the open round ends: the counter moves up to what it met, and the promise that it offers may be kept
pub record EndsRound {V : Type 0} (m : DiskMeaning V) (old new : DeskView V) (round : Round) (offered : Option Ready) : Type 0 where
  pub desk : new ≡ record old { vault = new.vault; cache = cache_after round offered old.cache; round = None }
  pub counter : counter_of new.vault ≡ counter_after (counter_of old.vault) round.met
  pub kept : kept_of new.vault ≡ kept_of old.vault
  pub goes_on : VaultGoesOn m old.vault new.vault

-- ---- failures
-- its vault failed in a draw, and the count of its disk's faults rose: a round that was open ends, and these promises stay
pub record FailsToDraw {V : Type 0} (m : DiskMeaning V) (promises : List (List ℕ × Ready)) (old new : DeskView V) : Type 0 where
  pub desk : new ≡ record old { vault = new.vault; cache = promises; round = None; down = true }
  pub counter : counter_of new.vault ≡ counter_without old.round (counter_of old.vault)
  pub kept : kept_of new.vault ≡ kept_of old.vault
  pub goes_on : VaultGoesOn m old.vault new.vault
  pub faulted : Rose (m.faults (disk_of old.vault)) (m.faults (disk_of new.vault))

-- No memory was found: a ballot may be drawn, the promise of the key may be gone, and a round that was open ends.
pub record LosesMemory {V : Type 0} (m : DiskMeaning V) (key : List ℕ) (old new : DeskView V) (ballot : Option Ballot) : Type 0 where
  pub desk : new ≡ record old { vault = new.vault; cache = new.cache; round = None }
  pub cache : (new.cache ≡ old.cache) ⊎ (new.cache ≡ without key old.cache)
  pub middle : Vault V
  pub drawn : MayHaveDrawn m old.id old.vault middle ballot
  pub counter : counter_of new.vault ≡ counter_without old.round (counter_of middle)
  pub kept : kept_of new.vault ≡ kept_of middle
  pub goes_on : VaultGoesOn m middle new.vault

pub record Crashes {V : Type 0} (m : DiskMeaning V) (old new : DeskView V) : Type 0 where
  pub crashed : IsCrashed old new
  pub shows : ShowsTheSame old.vault new.vault
  pub goes_on : VaultGoesOn m old.vault new.vault

-- ---- eras
-- It works in this era from now on: no promise stays, and a round that was open ends. The counter stays, whatever that round met.
pub record EntersEra {V : Type 0} (m : DiskMeaning V) (era : Era) (old new : DeskView V) : Type 0 where
  pub up : old.down ≡ false
  pub desk : new ≡ record old { vault = new.vault; cache = []; round = None }
  pub counter : counter_of new.vault ≡ counter_of old.vault
  pub kept : kept_of new.vault ≡ kept_in_era era.number (kept_of old.vault)
  pub still_past : m.tells → (n : ℕ) → IsPast m.may_leave n old.vault → IsPast m.may_leave n new.vault
  pub ages : m.tells → (age : ℕ) → IsAged m age old.vault → IsAged m age new.vault
  pub in_era : m.tells → VaultKeepsEra m era.number era.number new.vault
  pub never_falls : m.faults (disk_of old.vault) ≤ m.faults (disk_of new.vault)

-- its vault failed within that, and the count of its disk's faults rose: it is down, and a crash leaves the vault in the era or as it was
pub record FailsToEnter {V : Type 0} (m : DiskMeaning V) (era : Era) (old new : DeskView V) : Type 0 where
  pub up : old.down ≡ false
  pub crashed : IsCrashed old new
  pub shows : ShowsTheSame old.vault new.vault
  pub still_past : m.tells → (n : ℕ) → IsPast m.may_leave n old.vault → IsPast m.may_leave n new.vault
  pub ages : m.tells → (age : ℕ) → IsAged m age old.vault → IsAged m age new.vault
  pub torn : m.tells → (number : ℕ) → VaultKeepsEra m number number old.vault → VaultKeepsEra m number era.number new.vault
  pub faulted : Rose (m.faults (disk_of old.vault)) (m.faults (disk_of new.vault))

-- ---- ages
-- It is renewed to this age before the key's tombstone is removed: a round that was open ends, and the key has no promise. The counter
-- is at least the tombstone's, and is kept with the age, whatever that round met.
pub record Renews {V : Type 0} (m : DiskMeaning V) (key : List ℕ) (tomb : Ballot) (age : ℕ) (old new : DeskView V) : Type 0 where
  pub up : old.down ≡ false
  pub desk : new ≡ record old { vault = new.vault; cache = without key (cache_without old.round old.cache); round = None }
  pub one_more : age ≡ (kept_of old.vault).age + 1
  pub counter : counter_of new.vault ≡ max (counter_of old.vault) tomb.counter
  pub kept : kept_of new.vault ≡ kept_one_older (max (counter_of old.vault) tomb.counter) (kept_of old.vault)
  pub past : m.tells → IsPast m.may_leave tomb.counter new.vault
  pub aged : m.tells → IsAged m age new.vault
  pub goes_on : VaultGoesOn m old.vault new.vault

-- its vault failed within that, and the count of its disk's faults rose: it is down, and a crash leaves the vault at the new age or as it was
pub record FailsToRenew {V : Type 0} (m : DiskMeaning V) (tomb : Ballot) (old new : DeskView V) : Type 0 where
  pub up : old.down ≡ false
  pub crashed : IsCrashed old new
  pub counter : counter_of new.vault ≡ max (counter_of old.vault) tomb.counter
  pub kept : kept_of new.vault ≡ kept_of old.vault
  pub goes_on : VaultGoesOn m old.vault new.vault
  pub faulted : Rose (m.faults (disk_of old.vault)) (m.faults (disk_of new.vault))

-- no memory was found for that: the counter is at least the tombstone's, and all else stays
pub record FindsNoAge {V : Type 0} (m : DiskMeaning V) (tomb : Ballot) (old new : DeskView V) : Type 0 where
  pub desk : new ≡ record old { vault = new.vault }
  pub counter : counter_of new.vault ≡ max (counter_of old.vault) tomb.counter
  pub kept : kept_of new.vault ≡ kept_of old.vault
  pub goes_on : VaultGoesOn m old.vault new.vault

-- ---- restarts
-- A desk is up again, in the era that its vault showed, or stays down. Up, it shows what the vault may have left, and its counter is that
-- bound. Down, it shows what it showed.
pub record Restarts {V : Type 0} (m : DiskMeaning V) (old new : DeskView V) : Type 0 where
  pub desk : new ≡ record old { vault = new.vault; down = new.down }
  pub counter : new.down ≡ false → counter_of new.vault ≡ (kept_of new.vault).bound
  pub image : new.down ≡ false → m.tells → (c : List ℕ) × m.may_leave (disk_of old.vault) c × KeptOn (kept_of new.vault) c
  pub unread : new.down ≡ true → ShowsTheSame old.vault new.vault
  pub still_past : m.tells → (n : ℕ) → IsPast m.may_leave n old.vault → IsPast m.may_leave n new.vault
  pub ages : m.tells → (age : ℕ) → IsAged m age old.vault → IsAged m age new.vault
  pub shows : new.down ≡ false → m.tells → (era other : ℕ) → VaultKeepsEra m era other old.vault → VaultKeepsEra m era era new.vault ⊎ VaultKeepsEra m other other new.vault
  pub stays : new.down ≡ true → m.tells → (era other : ℕ) → VaultKeepsEra m era other old.vault → VaultKeepsEra m era other new.vault
  pub never_falls : m.faults (disk_of old.vault) ≤ m.faults (disk_of new.vault)
