-- What members that stopped still hold of each key.
use Rattle.std.specs.Prelude.{◌≡◌, ◌⊎◌, ◌≤◌, ℕ, true, List, Option, None, Some, slice_get, if◌then◌else◌}
use Rattle.std.specs.Ordering.{is_lt}
use Rattle.cas_ballot.specs.declared.ballot.Ballot.{Ballot}
use Rattle.cas_ballot.specs.Ballot.{zero_ballot, ballot_cmp, BallotAtMost, BallotLess}
use Rattle.cas_ballot.specs.Members.{has_member}
use Rattle.cas_slot.specs.declared.slot.Accepted.{Accepted}
use Rattle.cas_slot.specs.declared.slot.Slot.{Slot}
use Rattle.cas_slot.specs.Contents.{Contents, nothing}
use Rattle.cas_slot.specs.Slot.{accepted_ballot, accepted_of}
use Rattle.cas_slot.specs.Slots.{Slots, slot_at, with_slot}
use Rattle.cas_slot.specs.Table.{accepted_at, seen_at}

-- ---- what is looked through
-- what is kept on the shelf of this number; nothing where there is none
abbrev pub kept_of : {S : Type 0} → (S → Contents) → Option S → Contents
kept_of contents None = nothing
kept_of contents (Some shelf) = contents shelf

abbrev pub kept_on : {S : Type 0} → (S → Contents) → List S → ℕ → Contents
kept_on contents shelves id = kept_of contents (slice_get shelves id)

-- the shelf of each member is up
abbrev pub AreUp : {S : Type 0} → (S → Type 0) → List ℕ → List S → Type 0
AreUp {S} is_up members shelves = (id : ℕ) (shelf : S) → has_member members id ≡ true → slice_get shelves id ≡ Some shelf → is_up shelf

-- ---- what is found
-- the slot from which a register goes on of which this was accepted last: the same state at the same ballot, in era 0, with no promise
abbrev pub found_slot : Accepted → Slot
found_slot accepted = record { promise = zero_ballot; accepted = Some (record { ballot = accepted.ballot; era = 0; state = accepted.state }) }

-- the ballot of what was found of a key; zero where nothing was
abbrev pub found_ballot : Option Slot → Ballot
found_ballot found = accepted_ballot (accepted_of found)

-- the slot goes on from what is accepted there, above ballot zero
pub record GoesOnFromAccepted (kept : Contents) (key : List ℕ) (slot : Slot) : Type 0 where
  pub accepted : Accepted
  pub at : accepted_at kept key ≡ Some accepted
  pub above : BallotLess zero_ballot accepted.ballot
  pub is : slot ≡ found_slot accepted

-- What was found of a key goes on from what one of these members accepted, and none of them accepted anything at a greater ballot. Where
-- nothing was found, none of them accepted anything above ballot zero.
pub record IsFinding (In : ℕ → Type 0) (kept : ℕ → Contents) (key : List ℕ) (found : Option Slot) : Type 0 where
  pub from : (slot : Slot) → found ≡ Some slot → (id : ℕ) × In id × GoesOnFromAccepted (kept id) key slot
  pub greatest : (id : ℕ) → In id → BallotAtMost (accepted_ballot (accepted_at (kept id) key)) (found_ballot found)

abbrev pub AreFindings : List ℕ → (ℕ → Contents) → Slots → Type 0
AreFindings members kept found = (key : List ℕ) → IsFinding (λ id. has_member members id ≡ true) kept key (slot_at found key)

-- no ballot that one of these promised or accepted has a greater counter; it is the counter of one, or 0
pub record IsGreatestAmong (In : ℕ → Type 0) (kept : ℕ → Contents) (past : ℕ) : Type 0 where
  pub most : (id : ℕ) (key : List ℕ) → In id → (seen_at (kept id) key).counter ≤ past
  pub reached : (past ≡ 0) ⊎ ((id : ℕ) × In id × (key : List ℕ) × ((seen_at (kept id) key).counter ≡ past))

abbrev pub IsGreatestCounter : List ℕ → (ℕ → Contents) → ℕ → Type 0
IsGreatestCounter members kept past = IsGreatestAmong (λ id. has_member members id ≡ true) kept past

-- ---- one shelf
-- the slots with what was accepted of the key, if its ballot is greater than that of what was found before
abbrev pub noted : Slots → List ℕ → Option Accepted → Slots
noted found key None = found
noted found key (Some accepted) = if is_lt (ballot_cmp (found_ballot (slot_at found key)) accepted.ballot) then with_slot found key (found_slot accepted) else found

-- what was found before, with what these contents hold
pub record FindsMore (kept : Contents) (old new : Slots) : Type 0 where
  pub from : (key : List ℕ) (slot : Slot) → slot_at new key ≡ Some slot → (slot_at old key ≡ Some slot) ⊎ GoesOnFromAccepted kept key slot
  pub grows : (key : List ℕ) → BallotAtMost (found_ballot (slot_at old key)) (found_ballot (slot_at new key))
  pub reaches : (key : List ℕ) → BallotAtMost (accepted_ballot (accepted_at kept key)) (found_ballot (slot_at new key))

-- what was found before, with what these contents hold of this key
pub record GathersKey (kept : Contents) (key : List ℕ) (old new : Slots) : Type 0 where
  pub from : (q : List ℕ) (slot : Slot) → slot_at new q ≡ Some slot → (slot_at old q ≡ Some slot) ⊎ GoesOnFromAccepted kept q slot
  pub grows : (q : List ℕ) → BallotAtMost (found_ballot (slot_at old q)) (found_ballot (slot_at new q))
  pub reaches : BallotAtMost (accepted_ballot (accepted_at kept key)) (found_ballot (slot_at new key))

-- the greater of a counter and of those of the ballots in these contents
pub record CountsOn (kept : Contents) (old new : ℕ) : Type 0 where
  pub grows : old ≤ new
  pub reaches : (key : List ℕ) → (seen_at kept key).counter ≤ new
  pub from : (new ≡ old) ⊎ ((key : List ℕ) × ((seen_at kept key).counter ≡ new))
