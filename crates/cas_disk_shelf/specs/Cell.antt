-- The payload of a cell behind the head: 0 where the cell is free, and else 1 and the slot of a key.
use Rattle.std.specs.Prelude.{◌≡◌, ℕ, ◌-◌, ◌≤◌, ◌==◌, if◌then◌else◌, List, ◌++◌, length, drop, Option, Some, None, IfSome, Result, Ok, Err}
use Rattle.cas_ballot.specs.declared.ballot.Ballot.{Ballot}
use Rattle.cas_ballot.specs.Ballot.{FitsBallot}
use Rattle.cas_slot.specs.declared.slot.Accepted.{Accepted}
use Rattle.cas_slot.specs.declared.slot.Slot.{Slot}
use Rattle.cas_slot.specs.Limits.{SlotBallotsFit}
use Rattle.cas_wire.specs.Reading.{Reading, pair_at, made_at, key_at, ballot_at, accepted_at, optional_at}
use Rattle.cas_wire.specs.Spelling.{key_spelling, ballot_spelling, accepted_spelling, optional_spelling, FitsAccepted}
use Rattle.cas_disk_shelf.specs.declared.codec.Found.{Found}
use Rattle.cas_disk_shelf.specs.declared.codec.Found.TheVariants.{Free, Kept, Wrong}

-- a key and its slot
abbrev pub KeyedSlot : Type 0
KeyedSlot = List ℕ × Slot

-- the key, what was promised, and what was accepted
abbrev pub entry_spelling : KeyedSlot → List ℕ
entry_spelling entry = key_spelling entry.0 ++ (ballot_spelling entry.1.promise ++ optional_spelling accepted_spelling entry.1.accepted)

-- the payload of a cell
abbrev pub cell_spelling : Option KeyedSlot → List ℕ
cell_spelling = optional_spelling entry_spelling

-- a slot has a spelling
pub record FitsSlot (slot : Slot) : Type 0 where
  pub promise : FitsBallot slot.promise
  pub accepted : IfSome slot.accepted FitsAccepted

-- ---- reading

abbrev pub entry_of : List ℕ × (Ballot × Option Accepted) → KeyedSlot
entry_of parts = (parts.0, record { promise = parts.1.0; accepted = parts.1.1 })

abbrev pub entry_at : List ℕ → Reading KeyedSlot
entry_at = made_at entry_of (pair_at key_at (pair_at ballot_at (optional_at accepted_at)))

-- what is read of these bytes, if none is left over
abbrev pub whole : {A : Type 0} → List ℕ → Reading A → Result A ℕ
whole bytes (Ok x) = if length x.1 == 0 then Ok x.0 else Err (length bytes - length x.1)
whole bytes (Err left) = Err (length bytes - left)

-- what a payload spells, or the place of the first byte that no payload has there
unfoldable pub entry_in : List ℕ → Result (Option KeyedSlot) ℕ
entry_in bytes = whole bytes (optional_at entry_at bytes)

-- what a function found in a payload is what the payload spells
abbrev pub IsSpelledByPayload : List ℕ → Found → Type 0
IsSpelledByPayload bytes Free = entry_in bytes ≡ Ok None
IsSpelledByPayload bytes (Kept key slot) = entry_in bytes ≡ Ok (Some (key, slot))
IsSpelledByPayload bytes (Wrong at) = entry_in bytes ≡ Err at

-- the ballots of a slot that was found are within their limits
abbrev pub FoundBallotsFit : Found → Type 0
FoundBallotsFit (Kept key slot) = SlotBallotsFit slot
FoundBallotsFit other = Unit {0}

-- a key and a promise were read up to this place
pub record IsReadSoFar (bytes : List ℕ) (from : ℕ) (key : List ℕ) (promise : Ballot) : Type 0 where
  pub within : from ≤ length bytes
  pub rest : List ℕ
  pub key_read : key_at bytes ≡ Ok (key, rest)
  pub promise_read : ballot_at rest ≡ Ok (promise, drop from bytes)
