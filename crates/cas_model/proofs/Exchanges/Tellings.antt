-- What the operator is told stays what a record bears, at each step.
use Rattle.std.proofs.Common.{◌≡◌, ℕ, true, Option, None, Some, List, [], ◌∷◌, ◌++◌, inl, inr, refl, sym, ap, subst, arith}
use Rattle.std.specs.Prelude.{IfSome, Contains, map, option_map}
use Rattle.cas_record.specs.Answers.{is_told}
use Rattle.cas_record.specs.declared.answer.Answer.TheVariants as answer
use Rattle.cas_record.specs.declared.mark.Mark.{Mark}
use Rattle.cas_record.specs.declared.mark.Mark.TheVariants.{Told}
use Rattle.cas_record.specs.declared.operator.Asked.{Asked}
use Rattle.cas_record.specs.declared.operator.Asked.TheVariants as asked
use Rattle.cas_record.specs.declared.operator.OpAnswer.{OpAnswer}
use Rattle.cas_record.specs.declared.operator.OpAnswer.TheVariants as told
use Rattle.cas_model.specs.Council.{OrderView, told_so}
use Rattle.cas_model.specs.Exchanges.Step as council
use Rattle.cas_model.specs.Exchanges.Step.{StepTell, SaysTheSame, told_marks, told_view}
use Rattle.cas_model.specs.Exchanges.Tellings.{StopsUndone, WasToldSo, AreToldAnswers, AreTellingsSafe, AreWritable}
use Rattle.cas_model.specs.Openings.{Opening, mark_of}
use Rattle.cas_model.specs.Safe.{IsSafe}
use Rattle.cas_model.specs.Step as step
use Rattle.cas_model.specs.Step.{Event, Step}
use Rattle.cas_model.specs.Stops.Step.{CrashesDesk, broken_off_view}
use Rattle.cas_model.specs.View.{Meaning, View}
use Rattle.cas_model.proofs.Marks.{IsPlain, ArePlain, AddsMarks, adds_by, tells_or_not, leaves}
use Rattle.cas_model.proofs.Places.{contains_append, contains_none, newest_or_older}

-- ---- answers
-- what says the same stops no call by a change that is done either
same_undone : (said other : OpAnswer) → SaysTheSame said other → StopsUndone said → StopsUndone other
same_undone (told.Joined id era rescanned) other says undone = subst StopsUndone says undone
same_undone (told.Left id era rescanned) other says undone = subst StopsUndone says undone
same_undone (told.Resized need_prep need_acc era rescanned) other says undone = subst StopsUndone says undone
same_undone (told.Refused fault) other says undone = subst StopsUndone says undone
same_undone (told.Busy era) other says undone = subst StopsUndone says undone
same_undone (told.Collected key ballot removed kept) other says undone = subst StopsUndone says undone
same_undone (told.NotEmpty version) other says undone = subst StopsUndone says undone
same_undone (told.Absent acceptor) other says undone = subst StopsUndone says undone
same_undone (told.ProposerDown proposer) other says undone = subst StopsUndone says undone
same_undone (told.Stopped why) other says undone = subst StopsUndone says undone
same_undone (told.Probed key found) (told.Probed k seen) says undone = tt
same_undone (told.Probed key found) (told.Joined id era rescanned) says undone = tt
same_undone (told.Probed key found) (told.Left id era rescanned) says undone = tt
same_undone (told.Probed key found) (told.Resized need_prep need_acc era rescanned) says undone = tt
same_undone (told.Probed key found) (told.Refused fault) says undone = tt
same_undone (told.Probed key found) (told.Busy era) says undone = tt
same_undone (told.Probed key found) (told.Collected k ballot removed kept) says undone = tt
same_undone (told.Probed key found) (told.NotEmpty version) says undone = tt
same_undone (told.Probed key found) (told.Absent acceptor) says undone = tt
same_undone (told.Probed key found) (told.ProposerDown proposer) says undone = tt
same_undone (told.Probed key found) (told.Stopped why) says undone = absurd (cc says)

finished_undone : (asks : Asked) (era rescanned : ℕ) (said : OpAnswer) → council.finished asks era rescanned said → StopsUndone said
finished_undone (asked.Join id) era rescanned said is = subst StopsUndone (sym is) tt
finished_undone (asked.Leave id) era rescanned said is = subst StopsUndone (sym is) tt
finished_undone (asked.Resize need_prep need_acc) era rescanned said is = subst StopsUndone (sym is) tt
finished_undone (asked.Collect key) era rescanned said is = absurd is
finished_undone (asked.Probe key) era rescanned said is = absurd is
finished_undone (asked.Read key) era rescanned said is = absurd is

-- ---- marks
answer_in : OpAnswer → Mark → OpAnswer
answer_in other (Told asks said) = said
answer_in other mark = other

one_mark : (asks : Asked) (said : OpAnswer) → is_told said ≡ true → AreToldAnswers (Told asks said ∷ [])
unfolding answer_in
one_mark asks said borne a b has = elim (newest_or_older [] has) [
  | inl is ↦ subst (λ (o : OpAnswer). is_told o ≡ true) (ap (answer_in said) is) borne
  | inr none ↦ absurd (contains_none none)
]

its_marks : (asks : Asked) (said : OpAnswer) → StopsUndone said → AreToldAnswers (told_marks asks said)
its_marks asks (told.Probed key found) undone = λ a b has. absurd (contains_none has)
its_marks asks (told.Joined id era rescanned) undone = one_mark asks (told.Joined id era rescanned) refl
its_marks asks (told.Left id era rescanned) undone = one_mark asks (told.Left id era rescanned) refl
its_marks asks (told.Resized need_prep need_acc era rescanned) undone = one_mark asks (told.Resized need_prep need_acc era rescanned) refl
its_marks asks (told.Refused fault) undone = one_mark asks (told.Refused fault) refl
its_marks asks (told.Busy era) undone = one_mark asks (told.Busy era) refl
its_marks asks (told.Collected key ballot removed kept) undone = one_mark asks (told.Collected key ballot removed kept) refl
its_marks asks (told.NotEmpty version) undone = one_mark asks (told.NotEmpty version) refl
its_marks asks (told.Absent acceptor) undone = one_mark asks (told.Absent acceptor) refl
its_marks asks (told.ProposerDown proposer) undone = one_mark asks (told.ProposerDown proposer) refl
its_marks asks (told.Stopped (answer.Done state took ballot)) undone = absurd undone
its_marks asks (told.Stopped (answer.Conflict met)) undone = one_mark asks (told.Stopped (answer.Conflict met)) refl
its_marks asks (told.Stopped (answer.Aged least)) undone = one_mark asks (told.Stopped (answer.Aged least)) refl
its_marks asks (told.Stopped (answer.Full acceptor)) undone = one_mark asks (told.Stopped (answer.Full acceptor)) refl
its_marks asks (told.Stopped (answer.Short got need)) undone = one_mark asks (told.Stopped (answer.Short got need)) refl
its_marks asks (told.Stopped (answer.Moved era)) undone = one_mark asks (told.Stopped (answer.Moved era)) refl
its_marks asks (told.Stopped answer.Crashed) undone = one_mark asks (told.Stopped answer.Crashed) refl
its_marks asks (told.Stopped (answer.Unsettled why)) undone = one_mark asks (told.Stopped (answer.Unsettled why)) refl
its_marks asks (told.Stopped answer.Down) undone = one_mark asks (told.Stopped answer.Down) refl
its_marks asks (told.Stopped answer.VaultFault) undone = one_mark asks (told.Stopped answer.VaultFault) refl
its_marks asks (told.Stopped answer.Spent) undone = one_mark asks (told.Stopped answer.Spent) refl
its_marks asks (told.Stopped answer.RecordFull) undone = one_mark asks (told.Stopped answer.RecordFull) refl
its_marks asks (told.Stopped (answer.NoMemory proposed)) undone = one_mark asks (told.Stopped (answer.NoMemory proposed)) refl

plain_marks : (more : List Mark) → ArePlain more → AreToldAnswers more
plain_marks [] plain a b has = absurd (contains_none has)
plain_marks (mark ∷ more) plain a b has = elim (newest_or_older more has) [
  | inl is ↦ absurd (subst IsPlain is plain.0)
  | inr older ↦ plain_marks more plain.1 a b older
]

both_marks : (marks more : List Mark) → AreToldAnswers marks → AreToldAnswers more → AreToldAnswers (marks ++ more)
both_marks marks more first next a b has = elim (contains_append marks more has) [
  | inl front ↦ first a b front
  | inr back ↦ next a b back
]

pub floor_marks : (floors : List Opening) → AreToldAnswers (map mark_of floors)
floor_marks [] a b has = absurd (contains_none has)
floor_marks (o ∷ floors) a b has = elim (newest_or_older (map mark_of floors) has) [
  | inl is ↦ absurd (cc is)
  | inr older ↦ floor_marks floors a b older
]

-- ---- steps
module _ {S V : Type 0} where
  adds_so : (old new : View S V) → AddsMarks StopsUndone old new → AreTellingsSafe old → AreTellingsSafe new
  adds_so old new adds was = record {
    marked = subst AreToldAnswers (sym adds.marks) (both_marks old.marks adds.more was.marked (plain_marks adds.more adds.plain));
    last = adds.passing was.last;
  }

  ends_so : (old new : View S V) (asks : Asked) (said : OpAnswer) → StopsUndone said → new.council.order ≡ None → new.marks ≡ old.marks ++ told_marks asks said → AreTellingsSafe old
      → AreTellingsSafe new
  ends_so old new asks said undone none marks was = record {
    marked = subst AreToldAnswers (sym marks) (both_marks old.marks (told_marks asks said) was.marked (its_marks asks said undone));
    last = subst (WasToldSo StopsUndone) (sym none) tt;
  }

  tells_so : (old new : View S V) (said : OpAnswer) → StepTell old said new → AreTellingsSafe old → AreTellingsSafe new
  tells_so old new said (council.tells order first is_open was_told says is) was =
      ends_so old new order.asked said (same_undone first said says (subst (λ (o : Option OpAnswer). IfSome o StopsUndone) was_told (subst (WasToldSo StopsUndone) is_open was.last)))
      (ap (λ (v : View S V). v.council.order) is) (ap (λ (v : View S V). v.marks) is) was
  tells_so old new said (council.finishes order is_open by is) was =
      ends_so old new order.asked said (finished_undone order.asked by.plan.progress.era.number by.plan.rescanned said by.tells)
      (ap (λ (v : View S V). v.council.order) is) (ap (λ (v : View S V). v.marks) is) was
  tells_so old new said (council.collects order is_open by is) was =
      ends_so old new order.asked said (subst StopsUndone (sym by.tells) tt)
      (ap (λ (v : View S V). v.council.order) is) (ap (λ (v : View S V). v.marks) is) was

  pub tellings_safe : (m : Meaning S V) (old : View S V) (event : Event) (new : View S V) → Step m old event new → AreTellingsSafe old → AreTellingsSafe new
  tellings_safe m old event new by was = elim (tells_or_not event) [
    | inl tells ↦ tells_so old new tells.0 (subst (λ (e : Event). Step m old e new) tells.1 by) was
    | inr untold ↦ adds_so old new (adds_by StopsUndone (λ said passing undone. undone) m old event new untold by) was
  ]

  -- ---- parts of calls
  pub crashed_desk_tellings : (m : Meaning S V) (old : View S V) (id : ℕ) (new : View S V) → CrashesDesk m old id new → AreTellingsSafe old → AreTellingsSafe new
  crashed_desk_tellings m old id new by was = adds_so old new (leaves StopsUndone (λ said passing undone. undone) m old new id new by) was

  pub broken_off_tellings : (old : View S V) → AreTellingsSafe old → AreTellingsSafe (broken_off_view old)
  broken_off_tellings old was = record { marked = was.marked; last = was.last }

  pub told_tellings : (old : View S V) (said : OpAnswer) → StopsUndone said → AreTellingsSafe old → AreTellingsSafe (told_view old said)
  told_tellings old said undone was = record { marked = was.marked; last = by_order old.council.order }
    where
      by_order : (order : Option OrderView) → WasToldSo StopsUndone (option_map (told_so said) order)
      by_order None = tt
      by_order (Some order) = undone

-- ---- records
pub writable : {S V : Type 0} (view : View S V) → IsSafe view → AreWritable view.marks
writable view safe = record { few = omega (arith, safe.sound.room); told = safe.tellings.marked }
