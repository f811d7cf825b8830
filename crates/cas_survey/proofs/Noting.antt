-- What is noted of a key, and what that does to what was found.
use Rattle.std.proofs.Common.{◌≡◌, ◌∙◌, ℕ, List, Option, Some, Bool, true, false, ap, sym}
use Rattle.std.specs.Prelude.{if◌then◌else◌, Result, Ok, Err, OnOk}
use Rattle.std.specs.Ordering.{is_lt, nat_cmp}
use Rattle.std.specs.Cmp.Lexicographic.{slice_cmp}
use Rattle.std.specs.Map.{lookup}
use Rattle.std.specs.BTreeMap.{is_at}
use Rattle.std.specs.FinMap.{from_entries}
use Rattle.cas_ballot.specs.declared.ballot.Ballot.{Ballot}
use Rattle.cas_ballot.specs.Ballot.{ballot_cmp}
use Rattle.cas_slot.specs.declared.slot.Accepted.{Accepted}
use Rattle.cas_slot.specs.declared.slot.Slot.{Slot}
use Rattle.cas_slot.specs.Slots.{Slots, slot_at, with_slot}
use Rattle.cas_slot.proofs.SlotsLemmas.{lookup-slots}
use Rattle.cas_survey.specs.Survey.{found_slot, found_ballot, noted}

-- it is noted where its ballot is greater
pub noted_greater : (found : Slots) (key : List ℕ) (accepted : Accepted) → is_lt (ballot_cmp (found_ballot (slot_at found key)) accepted.ballot) ≡ true
    → noted found key (Some accepted) ≡ with_slot found key (found_slot accepted)
noted_greater found key accepted greater = ap (λ (b : Bool). if b then with_slot found key (found_slot accepted) else found) greater

-- and not where it is no greater
pub noted_no_greater : (found : Slots) (key : List ℕ) (accepted : Accepted) → is_lt (ballot_cmp (found_ballot (slot_at found key)) accepted.ballot) ≡ false
    → noted found key (Some accepted) ≡ found
noted_no_greater found key accepted other = ap (λ (b : Bool). if b then with_slot found key (found_slot accepted) else found) other

-- how the ballot of what an entry holds compares is how that of what was found does
pub before : (entries : List (List ℕ × Slot)) (key : List ℕ) (slot : Option Slot) (ballot other : Ballot) (b : Bool) → ballot ≡ found_ballot slot
    → slot ≡ lookup (is_at (slice_cmp nat_cmp key)) entries → is_lt (ballot_cmp ballot other) ≡ b → is_lt (ballot_cmp (found_ballot (slot_at (from_entries entries) key)) other) ≡ b
before entries key slot ballot other b is at compares =
    ap (λ (slot : Option Slot). is_lt (ballot_cmp (found_ballot slot) other)) (sym (at ∙ lookup-slots key entries))
    ∙ ap (λ (ballot : Ballot). is_lt (ballot_cmp ballot other)) (sym is) ∙ compares

pub on_ok : {T F : Type 0} {P Q : Type 0} (result : Result T F) → (P → Q) → OnOk result P → OnOk result Q
on_ok (Ok value) turn holds = turn holds
on_ok (Err fault) turn holds = tt
