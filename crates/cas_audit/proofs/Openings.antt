-- The floor with which a key's history opens, in a legal record.
use Rattle.std.proofs.Common.{◌≡◌, ℕ, Bool, true, false, not, List, [], ◌∷◌, refl, sym, ap, ◌∙◌}
use Rattle.std.specs.Prelude.{◌&&◌, ◌||◌, Some}
use mathlib.Core.Logic.{inl, inr}
use Rattle.cas_base.proofs.Bools.{if_true, if_false, true_or_false, and_left, and_right, not_both, not_tells, false_of_not}
use Rattle.cas_ballot.specs.declared.ballot.Ballot.{Ballot}
use Rattle.cas_change.specs.declared.state.State.{State}
use Rattle.cas_record.specs.declared.mark.Mark.{Mark}
use Rattle.cas_record.specs.declared.mark.Mark.TheVariants.{Floor}
use Rattle.cas_record.specs.Places.{here, whole, later}
use Rattle.cas_record.specs.Histories.Chain.{is_key, is_ballot, has_calls, has_opening}
use Rattle.cas_record.specs.Histories.Replay.{opening_state}
use Rattle.cas_record.specs.Legal.{IsAcked, IsLegal}
use Rattle.cas_record.proofs.PlaceLemmas.{stands_at, part_at, deeper}
use Rattle.cas_record.proofs.Tests.{key_same}
use Rattle.cas_record.proofs.Histories.Chains.{opening_tells}
use Rattle.cas_record.proofs.LawLemmas.{earlier_is_legal}
use Rattle.cas_audit.specs.Told.{opening_of, start_of, opens_with}
use Rattle.cas_audit.proofs.Histories.{calls_proposed, calls_later}

pub start_is : (key : List ℕ) (marks : List Mark) → opening_state key marks ≡ start_of (opening_of key marks)
start_is key [] = refl
start_is key (Floor k f s ∷ older) = elim (true_or_false (is_key k key && not (has_calls older))) [
  | inl e ↦ if_true (is_key k key && not (has_calls older)) s (opening_state key older) e
      ∙ ap start_of (sym (if_true (is_key k key && not (has_calls older)) (Some (record { ballot = f; state = s })) (opening_of key older) e))
  | inr e ↦ if_false (is_key k key && not (has_calls older)) s (opening_state key older) e ∙ start_is key older
      ∙ ap start_of (sym (if_false (is_key k key && not (has_calls older)) (Some (record { ballot = f; state = s })) (opening_of key older) e))
]
start_is key (mark ∷ older) = start_is key older

-- what was acknowledged was begun
pub acked_calls : {key : List ℕ} {ballot : Ballot} {marks : List Mark} → IsLegal marks → IsAcked key ballot marks → has_calls marks ≡ true
acked_calls legal a =
    let at = deeper (legal.has_votes a.stands.at).proposed.at a.stands.at in
    calls_later (part_at at) (calls_proposed legal.numbered at)

none_before : (key : List ℕ) (ballot f : Ballot) (s : State) (older : List Mark) → IsLegal (Floor key f s ∷ older) → has_calls older ≡ false → has_opening key ballot older ≡ false
none_before key ballot f s older legal none = false_of_not (has_opening key ballot older) (λ e.
    let o = opening_tells key ballot older e in
    elim (legal.floors here) [
      | inl opening ↦ opening.first (stands_at o.at)
      | inr tomb ↦ not_both (has_calls older) (acked_calls (earlier_is_legal (Floor key f s ∷ older) older (later whole) legal) tomb.acked) none
    ])

-- a legal record opens a key once
pub opened_is : (key : List ℕ) (ballot : Ballot) (marks : List Mark) → IsLegal marks → has_opening key ballot marks ≡ opens_with ballot (opening_of key marks)
opened_is key ballot [] legal = refl
opened_is key ballot (Floor k f s ∷ older) legal = elim (true_or_false (is_key k key && not (has_calls older))) [
  | inl e ↦
      let same = key_same (and_left (is_key k key) (not (has_calls older)) e) in
      let none = not_tells (has_calls older) (and_right (is_key k key) (not (has_calls older)) e) in
      let before : has_opening key ballot older ≡ false = ap (λ x. has_opening x ballot older) (sym same) ∙ none_before k ballot f s older legal none in
      opens_true (is_key k key) (is_ballot f ballot) (not (has_calls older)) (has_opening key ballot older) (and_left (is_key k key) (not (has_calls older)) e) (and_right (is_key k key) (not (has_calls older)) e) before
      ∙ ap (opens_with ballot) (sym (if_true (is_key k key && not (has_calls older)) (Some (record { ballot = f; state = s })) (opening_of key older) e))
  | inr e ↦
      opens_false (is_key k key) (is_ballot f ballot) (not (has_calls older)) (has_opening key ballot older) e
      ∙ opened_is key ballot older (earlier_is_legal (Floor k f s ∷ older) older (later whole) legal)
      ∙ ap (opens_with ballot) (sym (if_false (is_key k key && not (has_calls older)) (Some (record { ballot = f; state = s })) (opening_of key older) e))
]
  where
    opens_true : (k b n rest : Bool) → k ≡ true → n ≡ true → rest ≡ false → (k && (b && n) || rest) ≡ b
    opens_true true true true false e f g = refl
    opens_true true false true false e f g = refl
    opens_true false b n rest e f g = absurd cc
    opens_true true b false rest e f g = absurd cc
    opens_true true b true true e f g = absurd cc

    opens_false : (k b n rest : Bool) → (k && n) ≡ false → (k && (b && n) || rest) ≡ rest
    opens_false true true true rest e = absurd cc
    opens_false true true false rest e = refl
    opens_false true false n rest e = refl
    opens_false false b n rest e = refl
opened_is key ballot (mark ∷ older) legal = opened_is key ballot older (earlier_is_legal (mark ∷ older) older (later whole) legal)
