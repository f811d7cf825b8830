-- What is settled stands at the floors of what members hold, also between.
use Rattle.std.proofs.Common.{◌≡◌, ◌∙◌, ◌⊎◌, ℕ, List, Option, None, Some, true, ap, sym, subst, refl, inl, inr}
use Rattle.std.specs.Prelude.{reverse, Contains}
use Rattle.cas_base.proofs.Bools.{some_is}
use Rattle.cas_ballot.specs.declared.ballot.Ballot.{Ballot}
use Rattle.cas_ballot.specs.Ballot.{zero_ballot, BallotAtMost}
use Rattle.cas_ballot.specs.Members.{has_member}
use Rattle.cas_ballot.proofs.BallotLemmas.{at_most_antisym, at_most_refl, zero_at_most, less_not_at_most}
use Rattle.cas_slot.specs.declared.slot.Accepted.{Accepted}
use Rattle.cas_slot.specs.declared.slot.Slot.{Slot}
use Rattle.cas_slot.specs.Contents.{Contents}
use Rattle.cas_slot.specs.Slot.{accepted_ballot, accepted_of}
use Rattle.cas_slot.specs.Slots.{slot_at}
use Rattle.cas_slot.specs.Table.{accepted_at}
use Rattle.cas_change.specs.declared.state.State.{State}
use Rattle.cas_change.specs.declared.state.State.TheVariants.{Empty}
use Rattle.cas_record.specs.declared.mark.Mark.{Mark}
use Rattle.cas_record.specs.Histories.Chain.{chain_of, settled_of}
use Rattle.cas_record.specs.Histories.Replay.{replay_from, opening_state}
use Rattle.cas_record.specs.Places.{IsPrefix}
use Rattle.cas_model.specs.Openings.{Opening}
use Rattle.cas_model_stops.specs.Stopped.{HoldSettled}
use Rattle.cas_survey.specs.Survey.{found_ballot, IsFinding}
use Rattle.cas_reopen.specs.Floors.{opening_with, floor_in}
use Rattle.cas_reopen.specs.Standing.{ClosedStoresGoOn, SettledStandsAtFloors, SettledIsHeldBetween}

module _ (marks : List Mark) (members : List ℕ) (left : ℕ → Contents) (key : List ℕ) (held : HoldSettled marks members left key) where
  by_floor : (slot : Slot) (floor : Opening) → IsFinding (λ id. has_member members id ≡ true) left key (Some slot) → floor_in key slot ≡ Some floor
      → IsPrefix (settled_of key marks) (chain_of key floor.ballot marks) × (floor.state ≡ replay_from (opening_state key marks) (chain_of key floor.ballot marks))
  by_floor slot floor finding is =
      let it = finding.from slot refl in
      let goes = it.2 in
      let same : opening_with key goes.accepted ≡ floor = some_is _ _ (sym (ap (floor_in key) goes.is) ∙ is) in
      subst (λ (f : Opening). IsPrefix (settled_of key marks) (chain_of key f.ballot marks) × (f.state ≡ replay_from (opening_state key marks) (chain_of key f.ballot marks))) same
      (held.greatest it.0 goes.accepted it.1 goes.at goes.above (λ other member. subst (λ (s : Slot). BallotAtMost (accepted_ballot (accepted_at (left other) key)) (found_ballot (Some s)))
      goes.is (finding.greatest other member)))

  by_none : IsFinding (λ id. has_member members id ≡ true) left key None → replay_from (opening_state key marks) (settled_of key marks) ≡ Empty
  by_none finding = held.none (λ id member. at_most_antisym (finding.greatest id member) (zero_at_most (accepted_ballot (accepted_at (left id) key))))

pub settled_stands : SettledStandsAtFloors
settled_stands marks members left floors key found held = record {
  floor = λ floor there same.
      let it = found.listed.each floor there in
      by_floor marks members left key held it.0 floor (subst (IsFinding (λ id. has_member members id ≡ true) left key) (ap (slot_at found.slots) (sym same) ∙ it.1) (found.found key))
      (ap (λ (k : List ℕ). floor_in k it.0) (sym same) ∙ it.2);
  none = λ none. by_slot (slot_at found.slots key) refl none;
}
  where
    by_slot : (found_one : Option Slot) → slot_at found.slots key ≡ found_one → ((floor : Opening) → Contains floors floor → floor.key ≡ key → ⊥) → replay_from (opening_state key marks)
        (settled_of key marks) ≡ Empty
    by_slot None at none = by_none marks members left key held (subst (IsFinding (λ id. has_member members id ≡ true) left key) at (found.found key))
    by_slot (Some slot) at none =
        let it = (found.found key).from slot at in
        absurd (none (opening_with key it.2.accepted) (found.listed.all key slot (opening_with key it.2.accepted) at (ap (floor_in key) it.2.is)) refl)

-- ---- between
-- what a history leaves stands at this ballot with this state
abbrev pub Leads : List Mark → List ℕ → Ballot → State → Type 0
Leads marks key ballot state = IsPrefix (settled_of key marks) (chain_of key ballot marks) × (state ≡ replay_from (opening_state key marks) (chain_of key ballot marks))

module _ (marks : List Mark) (members : List ℕ) (old new : ℕ → Contents) (key : List ℕ) (found : Option Slot) (finding : IsFinding (λ id. has_member members id ≡ true) old key found)
    (each : (id : ℕ) → has_member members id ≡ true → (accepted_at (new id) key ≡ accepted_at (old id) key) ⊎ (accepted_at (new id) key ≡ accepted_of found))
    (held : HoldSettled marks members old key) where
  none_greater : (id : ℕ) → has_member members id ≡ true → BallotAtMost (accepted_ballot (accepted_at (new id) key)) (found_ballot found)
  none_greater id member = elim (each id member) [
    | inl same ↦ subst (λ (a : Option Accepted). BallotAtMost (accepted_ballot a) (found_ballot found)) (sym same) (finding.greatest id member)
    | inr given ↦ subst (λ (a : Option Accepted). BallotAtMost (accepted_ballot a) (found_ballot found)) (sym given) (at_most_refl (found_ballot found))
  ]

  -- the member that accepted what was found has a state of that ballot still
  stays : (id : ℕ) (accepted : Accepted) → has_member members id ≡ true → accepted_at (old id) key ≡ Some accepted → accepted_ballot (accepted_of found) ≡ accepted.ballot
      → accepted_ballot (accepted_at (new id) key) ≡ accepted.ballot
  stays id accepted member at is = elim (each id member) [
    | inl same ↦ ap accepted_ballot (same ∙ at)
    | inr given ↦ ap accepted_ballot given ∙ is
  ]

between_found : (marks : List Mark) (members : List ℕ) (old new : ℕ → Contents) (key : List ℕ) (slot : Slot) (finding : IsFinding (λ id. has_member members id ≡ true) old key (Some slot))
    (each : (id : ℕ) → has_member members id ≡ true → (accepted_at (new id) key ≡ accepted_at (old id) key) ⊎ (accepted_at (new id) key ≡ accepted_of (Some slot)))
    (held : HoldSettled marks members old key)
    → HoldSettled marks members new key
between_found marks members old new key slot finding each held =
    let it = finding.from slot refl in
    let best = it.2.accepted in
    let ballot : accepted_ballot (accepted_of (Some slot)) ≡ best.ballot = ap (λ (s : Slot). accepted_ballot s.accepted) it.2.is in
    let none_above : (other : ℕ) → has_member members other ≡ true → BallotAtMost (accepted_ballot (accepted_at (old other) key)) best.ballot =
    λ other member. subst (BallotAtMost (accepted_ballot (accepted_at (old other) key))) ballot (finding.greatest other member) in
    let leads = held.greatest it.0 best it.1 it.2.at it.2.above none_above in
    let still = stays marks members old new key (Some slot) finding each held it.0 best it.1 it.2.at ballot in
    record {
      greatest = λ id accepted member at above greatest.
          let low : BallotAtMost accepted.ballot best.ballot = subst (BallotAtMost accepted.ballot) ballot
          (subst (λ (a : Option Accepted). BallotAtMost (accepted_ballot a) (found_ballot (Some slot))) at
          (none_greater marks members old new key (Some slot) finding each held id member)) in
          let high : BallotAtMost best.ballot accepted.ballot = subst (λ (b : Ballot). BallotAtMost b accepted.ballot) still (greatest it.0 it.1) in
          let same_ballot = at_most_antisym low high in
          elim (each id member) [
            | inl same ↦ held.greatest id accepted member (sym same ∙ at) above (λ other m. subst (BallotAtMost (accepted_ballot (accepted_at (old other) key))) (sym same_ballot) (none_above other m))
            | inr given ↦
                let state : best.state ≡ accepted.state = ap (λ (a : Accepted). a.state) (some_is _ _ (sym (ap (λ (s : Slot). s.accepted) it.2.is) ∙ sym given ∙ at)) in
                subst (λ (s : State). Leads marks key accepted.ballot s) state (subst (λ (b : Ballot). Leads marks key b best.state) (sym same_ballot) leads)
          ];
      none = λ none. absurd (less_not_at_most it.2.above (subst (λ (b : Ballot). BallotAtMost b zero_ballot) (sym (none it.0 it.1) ∙ still) (at_most_refl zero_ballot)));
    }

between_none : (marks : List Mark) (members : List ℕ) (old new : ℕ → Contents) (key : List ℕ) (finding : IsFinding (λ id. has_member members id ≡ true) old key None)
    (each : (id : ℕ) → has_member members id ≡ true → (accepted_at (new id) key ≡ accepted_at (old id) key) ⊎ (accepted_at (new id) key ≡ accepted_of None)) (held : HoldSettled marks members old key)
    → HoldSettled marks members new key
between_none marks members old new key finding each held = record {
  greatest = λ id accepted member at above greatest. absurd (less_not_at_most above (subst (λ (a : Option Accepted). BallotAtMost (accepted_ballot a) zero_ballot) at
      (none_greater marks members old new key None finding each held id member)));
  none = λ none. held.none (λ id member. at_most_antisym (finding.greatest id member) (zero_at_most (accepted_ballot (accepted_at (old id) key))));
}

between_by : (marks : List Mark) (members : List ℕ) (old new : ℕ → Contents) (key : List ℕ) (found : Option Slot) (finding : IsFinding (λ id. has_member members id ≡ true) old key found)
    (each : (id : ℕ) → has_member members id ≡ true → (accepted_at (new id) key ≡ accepted_at (old id) key) ⊎ (accepted_at (new id) key ≡ accepted_of found)) (held : HoldSettled marks members old key)
    → HoldSettled marks members new key
between_by marks members old new key None finding each held = between_none marks members old new key finding each held
between_by marks members old new key (Some slot) finding each held = between_found marks members old new key slot finding each held

pub settled_is_held : SettledIsHeldBetween
settled_is_held marks members old new key between held = between_by marks members old new key (slot_at between.slots key) (between.found key)
    (λ id member. elim ((between.each id member).each key) [
      | inl same ↦ inl (ap accepted_of same)
      | inr given ↦ inr (ap accepted_of given)
    ]) held

-- ---- a store that was closed
pub closed_go_on : {D : Type 0} (may_leave : D → List ℕ → Type 0) → ClosedStoresGoOn may_leave
closed_go_on may_leave world disks members floors key held goes =
    settled_stands (reverse world.marks) members goes.left floors key goes.found (held goes.proposer members goes.left goes.works goes.quorum goes.on_disks key)
