-- Shelves of members that are given what they hold together.
use Rattle.std.proofs.Common.{◌≡◌, ◌∙◌, ◌≤◌, ◌<◌, ℕ, List, [], ◌∷◌, max, Option, None, Some, true, ap, sym, subst, refl, inl, inr, arith}
use Rattle.std.specs.Prelude.{slice_get, Contains, Result, Ok, Err, min}
use Rattle.std.specs.Result.{OkIff, result_unwrap_or}
use Rattle.std.proofs.lemmas.Bool.{cases_lt}
use Rattle.std.proofs.Math.Nat.{min-eq_left, min-eq_right}
use Rattle.cas_base.proofs.Bools.{some_is}
use Rattle.cas_ballot.specs.declared.ballot.Ballot.{Ballot}
use Rattle.cas_ballot.specs.Ballot.{zero_ballot, BallotAtMost, BallotLess}
use Rattle.cas_ballot.specs.Members.{has_member}
use Rattle.cas_ballot.proofs.BallotLemmas.{at_most_greater_right}
use Rattle.cas_slot.specs.declared.slot.Accepted.{Accepted}
use Rattle.cas_slot.specs.declared.slot.Slot.{Slot}
use Rattle.cas_slot.specs.Contents.{Contents, kept_at}
use Rattle.cas_slot.specs.Shelf.{Left}
use Rattle.cas_slot.specs.Slot.{accepted_ballot, accepted_of, seen_of}
use Rattle.cas_slot.specs.Slots.{Slots, slot_at}
use Rattle.cas_slot.specs.Table.{accepted_at, seen_at}
use Rattle.cas_model.specs.Openings.{Opening, AreOpenings, HoldsFloors, slot_of}
use Rattle.cas_model.proofs.Places.{contains_new, contains_older}
use Rattle.cas_world.specs.declared.reopen.OpeningFloor.{OpeningFloor}
use Rattle.cas_world.specs.Openings.OpeningOn.{MembersHold, opening_of, openings_of, greatest_counter}
use Rattle.cas_survey.specs.Survey.{found_slot, kept_of, kept_on, AreFindings, IsGreatestCounter}
use Rattle.cas_slot.specs.declared.fault.ShelfFault.{ShelfFault}
use Rattle.cas_slot.specs.declared.fault.ShelfFault.TheVariants as shelf
use Rattle.cas_restore.specs.declared.members.RestoreFault.{RestoreFault}
use Rattle.cas_restore.specs.Members.{MembersBecome, GoesTowards, OneMemberFails}
use Rattle.cas_restore.specs.Restored.{HoldsJust, LeftBetween}
use Rattle.cas_restore.proofs.Placing.{there_too}
use Rattle.cas_reopen.specs.Faults.{fault_on, fault_of_member, IsWhyNotSettled}
use Rattle.cas_reopen.specs.Floors.{opening_with, floor_in, AreFloorsOf}
use Rattle.cas_reopen.specs.Shelves.{AreLeftBetween}

-- ---- floors of what is found
module _ (members : List ℕ) (left : ℕ → Contents) (slots : Slots) (floors : List Opening) (found : AreFindings members left slots) (listed : AreFloorsOf slots floors) where
  -- what a floor goes on from
  pub goes_from : (floor : Opening) → Contains floors floor
      → (id : ℕ) × (has_member members id ≡ true) × (accepted : Accepted) × (accepted_at (left id) floor.key ≡ Some accepted) × BallotLess zero_ballot accepted.ballot
      × (slot_at slots floor.key ≡ Some (found_slot accepted)) × (opening_with floor.key accepted ≡ floor)
  goes_from floor there =
      let it = listed.each floor there in
      let from = (found floor.key).from it.0 it.1 in
      let goes = from.2 in
      (from.0, from.1, goes.accepted, goes.at, goes.above, it.1 ∙ ap Some goes.is, some_is _ _ (sym (ap (floor_in floor.key) goes.is) ∙ it.2))

  pub floors_open : AreOpenings floors
  floors_open = record {
    some = λ floor there. let it = goes_from floor there in subst (λ (f : Opening). BallotLess zero_ballot f.ballot) it.6 it.4;
    differ = listed.differ;
  }

  slot_is : (floor : Opening) → Contains floors floor → slot_at slots floor.key ≡ Some (slot_of floor)
  slot_is floor there = let it = goes_from floor there in it.5 ∙ ap (λ (f : Opening). Some (slot_of f)) it.6

  no_slot : (key : List ℕ) (one : Option Slot) → slot_at slots key ≡ one → ((floor : Opening) → Contains floors floor → floor.key ≡ key → ⊥) → one ≡ None
  no_slot key None at none = refl
  no_slot key (Some slot) at none =
      let it = (found key).from slot at in
      absurd (none (opening_with key it.2.accepted) (listed.all key slot (opening_with key it.2.accepted) at (ap (floor_in key) it.2.is)) refl)

  pub holds_floors : (kept : Contents) → ((key : List ℕ) → kept_at kept key ≡ slot_at slots key) → HoldsFloors floors kept
  holds_floors kept same = record {
    each = λ floor there. same floor.key ∙ slot_is floor there;
    no_other = λ key none. same key ∙ no_slot key (slot_at slots key) refl none;
  }

  -- the counter of a floor is one that was seen
  pub counter_low : (past : ℕ) → IsGreatestCounter members left past → (floor : Opening) → Contains floors floor → floor.ballot.counter ≤ past
  counter_low past greatest floor there =
      let it = goes_from floor there in
      let seen = greatest.most it.0 floor.key it.1 in
      let low = (accepted_low (left it.0) floor.key it.2 it.3).counters in
      subst (λ (f : Opening). f.ballot.counter ≤ past) it.6 (omega (arith, seen, low))
    where
      of_slot : (slot : Option Slot) (accepted : Accepted) → accepted_of slot ≡ Some accepted → BallotAtMost accepted.ballot (seen_of slot)
      of_slot None accepted at = absurd (cc at)
      of_slot (Some slot) accepted at = subst (λ (b : Ballot). BallotAtMost b (seen_of (Some slot))) (ap accepted_ballot at) (at_most_greater_right slot.promise (accepted_ballot slot.accepted))

      accepted_low : (kept : Contents) (key : List ℕ) (accepted : Accepted) → accepted_at kept key ≡ Some accepted → BallotAtMost accepted.ballot (seen_at kept key)
      accepted_low kept key accepted at = of_slot (kept_at kept key) accepted at

-- no floor of a list has a greater counter
pub greatest_low : (floors : List OpeningFloor) (past : ℕ) → ((floor : Opening) → Contains (openings_of floors) floor → floor.ballot.counter ≤ past) → greatest_counter floors ≤ past
greatest_low [] past low = omega arith
greatest_low (floor ∷ floors) past low =
    let first = low (opening_of floor) (contains_new (opening_of floor) (openings_of floors)) in
    let rest = greatest_low floors past (λ other there. low other (contains_older (openings_of floors) there)) in
    max_low floor.ballot.counter (greatest_counter floors) past first rest
  where
    max_low : (a b n : ℕ) → a ≤ n → b ≤ n → max a b ≤ n
    max_low a b n p q = omega (arith, p, q)

-- ---- shelves
module _ {S : Type 0} (tells : Type 0) (is_up : S → Type 0) (contents : S → Contents) (may_leave : S → Left → Type 0) (fault_count : S → ℕ) (members : List ℕ) (slots : Slots) (old new : List S) where
  at_place : (became : MembersBecome members (HoldsJust contents is_up slots) old new) (id : ℕ) (now : S) → has_member members id ≡ true → slice_get new id ≡ Some now
      → (was : S) × HoldsJust contents is_up slots was now
  at_place became id now member at = let was = there_too old new became.places id now at in (was.0, became.each id was.0 now member was.1 at)

  pub all_hold : (floors : List Opening) → AreFindings members (kept_on contents old) slots → AreFloorsOf slots floors → MembersBecome members (HoldsJust contents is_up slots) old new
      → MembersHold is_up contents members floors new
  all_hold floors found listed became = record {
    up = λ id now member at. (at_place became id now member at).1.up;
    holds = λ id now member at. holds_floors members (kept_on contents old) slots floors found listed (contents now)
        (λ key. ap (λ (c : Contents). kept_at c key) (at_place became id now member at).1.holds);
  }

  pub left_between : tells → AreFindings members (kept_on contents old) slots → MembersBecome members (GoesTowards tells contents may_leave fault_count slots) old new
      → AreLeftBetween may_leave members (kept_on contents old) new
  left_between told found became = record {
    slots = slots;
    found = found;
    each = λ id now l member at may.
        let was = there_too old new became.places id now at in
        subst (λ (c : Contents). LeftBetween c slots l) (sym (ap (kept_of contents) was.1)) ((became.each id was.0 now member was.1 at).towards.left told l may);
  }

-- ---- faults
not_settled_by : {S : Type 0} (contents : S → Contents) (is_up : S → Type 0) (fault_count : S → ℕ) (members : List ℕ) (old new : List S) (fault : RestoreFault) (kind : ShelfFault) → fault.fault ≡ kind
    → OneMemberFails is_up fault_count members fault old new → IsWhyNotSettled contents fault_count members old new (fault_on fault.member kind)
not_settled_by contents is_up fault_count members old new fault shelf.DiskFault is fails = (fails.member, λ was now at at_now. (fails.fails was now at at_now).cause is)
not_settled_by contents is_up fault_count members old new fault shelf.NoMemory is fails = tt
not_settled_by contents is_up fault_count members old new fault shelf.Full is fails = tt
not_settled_by contents is_up fault_count members old new fault (shelf.Foreign at) is fails = (
  fails.member,
  λ was now at_was at_now. elim (fails.fails was now at_was at_now).nothing_else [
    | inl failed ↦ let no : shelf.Foreign at ≡ shelf.DiskFault = sym is ∙ failed in absurd (cc no)
    | inr none ↦ let no : shelf.Foreign at ≡ shelf.NoMemory = sym is ∙ none in absurd (cc no)
  ],
)

pub not_settled : {S : Type 0} (contents : S → Contents) (is_up : S → Type 0) (fault_count : S → ℕ) (members : List ℕ) (old new : List S) (fault : RestoreFault)
    → OneMemberFails is_up fault_count members fault old new → IsWhyNotSettled contents fault_count members old new (fault_of_member fault)
not_settled contents is_up fault_count members old new fault fails = not_settled_by contents is_up fault_count members old new fault fault.fault refl fails

-- a number as a `u32`, or the greatest of these
pub capped : {F : Type 0} (result : Result ℕ F) (n m : ℕ) → n ≡ m → OkIff result (n < 4294967296) n → result_unwrap_or result 4294967295 ≡ min m 4294967295
capped (Ok value) n m same is = is.1 ∙ same ∙ sym (min-eq_left (omega (arith, is.0, same)))
capped (Err fault) n m same is = elim (cases_lt n 4294967296) [
  | inl low ↦ absurd (is low)
  | inr high ↦ sym (min-eq_right (omega (arith, high, same)))
]
