-- No floor is made while the operator reads: a floor is a mark of the operator's, and a read makes none but those of harms.
use Rattle.std.proofs.Common.{◌≡◌, ◌<◌, ℕ, true, List, [], ◌∷◌, ◌++◌, length, reverse, Result, Ok, arith, refl, sym, ap, subst, ◌∙◌, inl, inr}
use Rattle.std.specs.Prelude.{All}
use Rattle.std.proofs.lemmas.List.{append_cancel_left, reverse-append}
use Rattle.std.proofs.lemmas.List.Elements.{All-nil, All-cons, All-head, All-tail, All-append}
use Rattle.cas_base.proofs.Bools.{true_or_false, if_true, if_false}
use Rattle.cas_record.specs.declared.answer.Answer.{Answer}
use Rattle.cas_record.specs.declared.mark.Mark.{Mark}
use Rattle.cas_record.specs.declared.mark.Mark.TheVariants.{Floor}
use Rattle.cas_record.specs.declared.operator.Asked.TheVariants as asked
use Rattle.cas_record.specs.Places.{At, IsOlderPart, here, past}
use Rattle.cas_model.specs.Exchanges.Step.{told_marks}
use Rattle.cas_agreement.specs.Nothing.{HasNoFloorSince}
use Rattle.cas_agreement.proofs.Nothing.{part_shorter}
use Rattle.cas_turn.specs.Seen.{Begins}
use Rattle.cas_turn.specs.Sitting.{Sitting}
use Rattle.cas_board_steps.specs.Exchanges.Orders.{IsAskingHarm}
use Rattle.cas_board_steps.specs.Mine.{FrontGoesOn, is_owner, mine}
use Rattle.cas_board_steps.specs.Owners.{owner_of}
use Rattle.cas_board_steps.proofs.Fronts.{mine_append}
use Rattle.cas_board.specs.Looks.{told_by_look}
use Rattle.cas_board.specs.Operations.{Operates, is_told, is_not_begun}
use Rattle.cas_board.specs.declared.probing.Look.{Look}

-- if the operator owns it, it tells of a harm
abbrev IsHarmIfOwned : Mark → Type 0
IsHarmIfOwned mark = is_owner 0 (owner_of mark) ≡ true → IsAskingHarm mark

owned_harms : (marks : List Mark) → All IsAskingHarm (mine 0 marks) → All IsHarmIfOwned marks
owned_harms [] all = All-nil IsHarmIfOwned
owned_harms (mark ∷ marks) all = elim (true_or_false (is_owner 0 (owner_of mark))) [
  | inl own ↦
      let rest : All IsAskingHarm (mark ∷ mine 0 marks) = subst (All IsAskingHarm) (if_true (is_owner 0 (owner_of mark)) (mark ∷ mine 0 marks) (mine 0 marks) own) all in
      All-cons IsHarmIfOwned mark marks (λ is. All-head IsAskingHarm mark (mine 0 marks) rest) (owned_harms marks (All-tail IsAskingHarm mark (mine 0 marks) rest))
  | inr other ↦
      All-cons IsHarmIfOwned mark marks (λ is. absurd (cc (is, other)))
      (owned_harms marks (subst (All IsAskingHarm) (if_false (is_owner 0 (owner_of mark)) (mark ∷ mine 0 marks) (mine 0 marks) other) all))
]

all_reversed : {A : Type 0} (P : A → Type 0) (xs : List A) → All P xs → All P (reverse xs)
all_reversed P [] all = All-nil P
all_reversed P (x ∷ xs) all =
    subst (All P) (sym (reverse-append (x ∷ []) xs))
    (All-append P (reverse xs) (x ∷ []) (all_reversed P xs (All-tail P x xs all)) (All-cons P x [] (All-head P x xs all) (All-nil P)))

behind_it : {A : Type 0} {x : A} {older all : List A} → At x older all → length older < length all
behind_it here = omega arith
behind_it (past at) = omega (arith, behind_it at)

-- what stands behind a list's older part is one of those before that part
at_newer : {A : Type 0} (P : A → Type 0) (newer part : List A) {x : A} {older : List A} → At x older (newer ++ part) → IsOlderPart part older → All P newer → P x
at_newer P [] part at since all = absurd (omega (arith, behind_it at, part_shorter since))
at_newer P (y ∷ newer) part here since all = All-head P y newer all
at_newer P (y ∷ newer) part (past at) since all = at_newer P newer part at since (All-tail P y newer all)

pub none_floored : (key : List ℕ) (before all own : List Mark) → FrontGoesOn 0 before all own → All IsAskingHarm own → HasNoFloorSince key (reverse before) (reverse all)
none_floored key before all own goes harms floor state older at since =
    let whole : before ++ goes.begins.behind ≡ all = goes.begins.whole in
    let owned : mine 0 before ++ mine 0 goes.begins.behind ≡ mine 0 before ++ own = sym (mine_append 0 before goes.begins.behind) ∙ ap (mine 0) whole ∙ goes.own_marks in
    let same : mine 0 goes.begins.behind ≡ own = append_cancel_left (mine 0 before) (mine 0 goes.begins.behind) own owned in
    let such = all_reversed IsHarmIfOwned goes.begins.behind (owned_harms goes.begins.behind (subst (All IsAskingHarm) (sym same) harms)) in
    at_newer IsHarmIfOwned (reverse goes.begins.behind) (reverse before) (subst (At (Floor key floor state) older) (ap (λ (l : List Mark). reverse l) (sym whole) ∙ reverse-append before goes.begins.behind) at) since such refl

-- so it is of a look that ended
pub look_floorless : {V : Type 0} (key : List ℕ) (harms harms_then : ℕ) (old new : Sitting V Mark) (looked : Result Look Answer) (look : Look) → old.number ≡ 0 → looked ≡ Ok look
    → Operates (asked.Read key) IsAskingHarm harms harms_then old new (told_by_look key looked) → Begins old.seen new.seen × HasNoFloorSince key (reverse old.seen) (reverse new.seen)
look_floorless key harms harms_then old new looked look zero is (is_told marks front last such counted counts) =
    let own : List Mark = marks ++ told_marks (asked.Read key) (told_by_look key looked) in
    let all : All IsAskingHarm own =
    subst (λ (r : Result Look Answer). All IsAskingHarm (marks ++ told_marks (asked.Read key) (told_by_look key r))) (sym is) (All-append IsAskingHarm marks [] such (All-nil IsAskingHarm)) in
    (front.begins, none_floored key old.seen new.seen own (subst (λ (n : ℕ). FrontGoesOn n old.seen new.seen own) zero front) all)
look_floorless key harms harms_then old new looked look zero is (is_not_begun why refusal stopped counted front counts) =
    (front.begins, none_floored key old.seen new.seen [] (subst (λ (n : ℕ). FrontGoesOn n old.seen new.seen []) zero front) (All-nil IsAskingHarm))
