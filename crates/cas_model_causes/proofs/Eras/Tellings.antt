-- That each step leaves what the operator was told so in the record.
use Rattle.std.proofs.Common.{◌≡◌, ◌⊎◌, ℕ, suc, List, [], ◌∷◌, ◌++◌, Option, None, inl, inr, refl, sym, ap, subst, ◌∙◌, append-nil, append_assoc, reverse, arith}
use Rattle.std.specs.Prelude.{IfSome}
use Rattle.std.proofs.lemmas.List.{reverse-append}
use Rattle.cas_record.specs.Places.{At, here, past}
use Rattle.cas_record.specs.declared.mark.Mark.{Mark}
use Rattle.cas_record.specs.declared.mark.Mark.TheVariants.{Told}
use Rattle.cas_record.specs.declared.operator.Asked.{Asked}
use Rattle.cas_record.specs.declared.operator.Asked.TheVariants as asked
use Rattle.cas_record.specs.declared.operator.OpAnswer.{OpAnswer}
use Rattle.cas_record.specs.declared.operator.OpAnswer.TheVariants as told
use Rattle.cas_model.specs.Collection.Laws.{HasItsFloor}
use Rattle.cas_model.specs.History.{IsRemembered}
use Rattle.cas_model.specs.Safe.{IsSafe}
use Rattle.cas_model.specs.SafeLaws.{HaveAllEntered, HaveEnteredIts}
use Rattle.cas_model.specs.Exchanges.Tellings.{WasToldSo}
use Rattle.cas_model.specs.Step.{Event, Step}
use Rattle.cas_model.specs.Exchanges.Step as council
use Rattle.cas_model.specs.Exchanges.Step.{StepTell, SaysTheSame, told_marks}
use Rattle.cas_model.specs.View.{Meaning, View}
use Rattle.cas_model.proofs.Collection.Laws.{collected_floors}
use Rattle.cas_model.proofs.Eras.Finishing.{finished_have_entered}
use Rattle.cas_model_causes.specs.Eras.Tellings.{HaveAllMoved, IsSo, AreTellingsSo, IsPassing, TellingsAreTrue, StepsTellTruly}
use Rattle.cas_model.proofs.Marks.{IsPlain, ArePlain, AddsMarks, adds_by, tells_or_not}

-- ---- marks
-- it is the newest one, or stands behind it
newest_or : {A : Type 0} {x y : A} {older rest : List A} → At x older (y ∷ rest) → ((y ≡ x) × (rest ≡ older)) ⊎ At x older rest
newest_or here = inl (refl, refl)
newest_or (past at) = inr at

pushed : (marks : List Mark) (mark : Mark) → reverse (marks ++ mark ∷ []) ≡ mark ∷ reverse marks
pushed marks mark = reverse-append marks (mark ∷ [])

module _ (proposers : ℕ) where
  -- one more mark
  so_pushed : (marks : List Mark) (mark : Mark) → ((asks : Asked) (answer : OpAnswer) → mark ≡ Told asks answer → IsSo proposers answer marks) → AreTellingsSo proposers marks → AreTellingsSo proposers (mark ∷ marks)
  so_pushed marks mark now were = record { so = λ at. by_place _ _ _ (newest_or at) }
    where
      by_place : (asks : Asked) (answer : OpAnswer) (older : List Mark) → ((mark ≡ Told asks answer) × (marks ≡ older)) ⊎ At (Told asks answer) older marks → IsSo proposers answer older
      by_place asks answer older (inl newest) = subst (IsSo proposers answer) newest.1 (now asks answer newest.0)
      by_place asks answer older (inr at) = were.so at

  no_telling : (mark : Mark) (marks : List Mark) → IsPlain mark → (asks : Asked) (answer : OpAnswer) → mark ≡ Told asks answer → IsSo proposers answer marks
  no_telling mark marks plain asks answer is = absurd (subst IsPlain is plain)

  -- plain ones leave it so
  plain_so : (marks more : List Mark) → ArePlain more → AreTellingsSo proposers (reverse marks) → AreTellingsSo proposers (reverse (marks ++ more))
  plain_so marks [] plain were = subst (λ (l : List Mark). AreTellingsSo proposers (reverse l)) (sym (append-nil marks)) were
  plain_so marks (mark ∷ more) plain were =
      subst (λ (l : List Mark). AreTellingsSo proposers (reverse l)) (append_assoc marks (mark ∷ []) more)
      (plain_so (marks ++ mark ∷ []) more plain.1 (subst (AreTellingsSo proposers) (sym (pushed marks mark)) (so_pushed (reverse marks) mark (no_telling mark (reverse marks) plain.0) were)))

  -- an answer that tells of no end says nothing here
  passing_so : (answer : OpAnswer) (marks : List Mark) → IsPassing answer → IsSo proposers answer marks
  passing_so (told.Joined id era rescanned) marks passing = absurd passing
  passing_so (told.Left id era rescanned) marks passing = absurd passing
  passing_so (told.Resized need_prep need_acc era rescanned) marks passing = absurd passing
  passing_so (told.Refused fault) marks passing = tt
  passing_so (told.Busy era) marks passing = tt
  passing_so (told.Collected key ballot removed kept) marks passing = absurd passing
  passing_so (told.NotEmpty version) marks passing = tt
  passing_so (told.Absent acceptor) marks passing = tt
  passing_so (told.ProposerDown proposer) marks passing = tt
  passing_so (told.Stopped why) marks passing = tt
  passing_so (told.Probed key found) marks passing = tt

-- ---- what the operator is told
-- what is said to be the same tells of no end either
same_passing : (said answer : OpAnswer) → SaysTheSame said answer → IsPassing said → IsPassing answer
same_passing (told.Probed key found) (told.Probed other seen) says passing = tt
same_passing (told.Probed key found) (told.Joined id era rescanned) says passing = absurd (cc says)
same_passing (told.Probed key found) (told.Left id era rescanned) says passing = absurd (cc says)
same_passing (told.Probed key found) (told.Resized need_prep need_acc era rescanned) says passing = absurd (cc says)
same_passing (told.Probed key found) (told.Refused fault) says passing = tt
same_passing (told.Probed key found) (told.Busy era) says passing = tt
same_passing (told.Probed key found) (told.Collected k ballot removed kept) says passing = absurd (cc says)
same_passing (told.Probed key found) (told.NotEmpty version) says passing = tt
same_passing (told.Probed key found) (told.Absent acceptor) says passing = tt
same_passing (told.Probed key found) (told.ProposerDown proposer) says passing = tt
same_passing (told.Probed key found) (told.Stopped why) says passing = tt
same_passing (told.Joined id era rescanned) answer says passing = absurd passing
same_passing (told.Left id era rescanned) answer says passing = absurd passing
same_passing (told.Resized need_prep need_acc era rescanned) answer says passing = absurd passing
same_passing (told.Refused fault) answer says passing = subst IsPassing says tt
same_passing (told.Busy era) answer says passing = subst IsPassing says tt
same_passing (told.Collected key ballot removed kept) answer says passing = absurd passing
same_passing (told.NotEmpty version) answer says passing = subst IsPassing says tt
same_passing (told.Absent acceptor) answer says passing = subst IsPassing says tt
same_passing (told.ProposerDown proposer) answer says passing = subst IsPassing says tt
same_passing (told.Stopped why) answer says passing = subst IsPassing says tt

-- one that is so is marked, or is what a probe found
told_more : (marks : List Mark) (asks : Asked) (answer : OpAnswer) → (told_marks asks answer ≡ []) ⊎ (told_marks asks answer ≡ Told asks answer ∷ [])
told_more marks asks (told.Probed key found) = inl refl
told_more marks asks (told.Joined id era rescanned) = inr refl
told_more marks asks (told.Left id era rescanned) = inr refl
told_more marks asks (told.Resized need_prep need_acc era rescanned) = inr refl
told_more marks asks (told.Refused fault) = inr refl
told_more marks asks (told.Busy era) = inr refl
told_more marks asks (told.Collected key ballot removed kept) = inr refl
told_more marks asks (told.NotEmpty version) = inr refl
told_more marks asks (told.Absent acceptor) = inr refl
told_more marks asks (told.ProposerDown proposer) = inr refl
told_more marks asks (told.Stopped why) = inr refl

module _ {S V : Type 0} (m : Meaning S V) (old new : View S V) (were : TellingsAreTrue old) where
  abbrev P : ℕ
  P = suc old.last_proposer

  as_many : new.last_proposer ≡ old.last_proposer → AreTellingsSo P (reverse new.marks) → AreTellingsSo (suc new.last_proposer) (reverse new.marks)
  as_many last_proposer so = subst (λ (g : ℕ). AreTellingsSo (suc g) (reverse new.marks)) (sym last_proposer) so

  tells_so : (asks : Asked) (answer : OpAnswer) → IsSo P answer (reverse old.marks) → new.last_proposer ≡ old.last_proposer → new.council.order ≡ None → new.marks ≡ old.marks ++ told_marks asks answer → TellingsAreTrue new
  tells_so asks answer so last_proposer none marks = elim (told_more old.marks asks answer) [
    | inl unmarked ↦ let same : new.marks ≡ old.marks = marks ∙ ap (λ (l : List Mark). old.marks ++ l) unmarked ∙ append-nil old.marks in record {
      tellings = as_many last_proposer (subst (λ (l : List Mark). AreTellingsSo P (reverse l)) (sym same) were.tellings);
      passing = subst (WasToldSo IsPassing) (sym none) tt;
    }
    | inr marked ↦ let more : reverse new.marks ≡ Told asks answer ∷ reverse old.marks = ap (λ (l : List Mark). reverse l) (marks ∙ ap (λ (l : List Mark). old.marks ++ l) marked) ∙ pushed old.marks (Told asks answer) in record {
      tellings = as_many last_proposer
          (subst (AreTellingsSo P) (sym more) (so_pushed P (reverse old.marks) (Told asks answer) (λ asked_ answer_ is. subst (λ (a : OpAnswer). IsSo P a (reverse old.marks)) (answer_of is) so) were.tellings));
      passing = subst (WasToldSo IsPassing) (sym none) tt;
    }
  ]
    where
      answer_in : Mark → OpAnswer
      answer_in (Told asked_ answer_) = answer_
      answer_in other = answer

      answer_of : {asked_ : Asked} {answer_ : OpAnswer} → Told asks answer ≡ Told asked_ answer_ → answer ≡ answer_
      answer_of is = ap answer_in is

  all_moved : (era : ℕ) → HaveAllEntered old.last_proposer era (reverse old.marks) → HaveAllMoved P era (reverse old.marks)
  all_moved era entered proposer few = entered proposer (omega (arith, few))

  finished_so : (asks : Asked) (answer : OpAnswer) (era rescanned : ℕ) → council.finished asks era rescanned answer → HaveEnteredIts old.last_proposer answer (reverse old.marks) → IsSo P answer (reverse old.marks)
  finished_so (asked.Join id) answer era rescanned is entered =
      subst (λ (a : OpAnswer). IsSo P a (reverse old.marks)) (sym is) (all_moved era (subst (λ (a : OpAnswer). HaveEnteredIts old.last_proposer a (reverse old.marks)) is entered))
  finished_so (asked.Leave id) answer era rescanned is entered =
      subst (λ (a : OpAnswer). IsSo P a (reverse old.marks)) (sym is) (all_moved era (subst (λ (a : OpAnswer). HaveEnteredIts old.last_proposer a (reverse old.marks)) is entered))
  finished_so (asked.Resize need_prep need_acc) answer era rescanned is entered =
      subst (λ (a : OpAnswer). IsSo P a (reverse old.marks)) (sym is) (all_moved era (subst (λ (a : OpAnswer). HaveEnteredIts old.last_proposer a (reverse old.marks)) is entered))
  finished_so (asked.Collect key) answer era rescanned is entered = absurd is
  finished_so (asked.Probe key) answer era rescanned is entered = absurd is
  finished_so (asked.Read key) answer era rescanned is entered = absurd is

  told_then : (answer : OpAnswer) → IsSafe old → IsRemembered m old → StepTell old answer new → TellingsAreTrue new
  told_then answer safe remembered (council.tells order said is_open was says is) =
      tells_so order.asked answer (passing_so P answer (reverse old.marks) (same_passing said answer says (subst (λ (o : Option OpAnswer). IfSome o IsPassing) was (subst (WasToldSo IsPassing) is_open were.passing))))
      (ap (λ (v : View S V). v.last_proposer) is) (ap (λ (v : View S V). v.council.order) is) (ap (λ (v : View S V). v.marks) is)
  told_then answer safe remembered (council.finishes order is_open by is) =
      tells_so order.asked answer (finished_so order.asked answer by.plan.progress.era.number by.plan.rescanned by.tells (finished_have_entered old order answer safe by))
      (ap (λ (v : View S V). v.last_proposer) is) (ap (λ (v : View S V). v.council.order) is) (ap (λ (v : View S V). v.marks) is)
  told_then answer safe remembered (council.collects order is_open by is) =
      tells_so order.asked answer (subst (λ (a : OpAnswer). IsSo P a (reverse old.marks)) (sym by.tells) (subst (λ (a : OpAnswer). HasItsFloor a (reverse old.marks)) by.tells (collected_floors m old order answer remembered by)))
      (ap (λ (v : View S V). v.last_proposer) is) (ap (λ (v : View S V). v.council.order) is) (ap (λ (v : View S V). v.marks) is)

  added_then : AddsMarks IsPassing old new → TellingsAreTrue new
  added_then adds = record {
    tellings = as_many adds.last_proposer (subst (λ (l : List Mark). AreTellingsSo P (reverse l)) (sym adds.marks) (plain_so P old.marks adds.more adds.plain were.tellings));
    passing = adds.passing were.passing;
  }

-- each step leaves it so
pub steps_tell_truly : {S V : Type 0} (m : Meaning S V) → StepsTellTruly m
steps_tell_truly m old event new safe remembered by were = elim (tells_or_not event) [
  | inl tells ↦ told_then m old new were tells.0 safe remembered (subst (λ (e : Event). Step m old e new) tells.1 by)
  | inr untold ↦ added_then m old new were (adds_by IsPassing (λ answer passing undone. passing) m old event new untold by)
]
