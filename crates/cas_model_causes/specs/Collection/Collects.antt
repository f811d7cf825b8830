-- Why the round of a collection ends as it does, and that it is done where nothing disturbs it, as the round of a change is.
use Rattle.std.specs.Prelude.{◌≡◌, ℕ, true, false, List, [], Some, None}
use Rattle.cas_change.specs.declared.outcome.Outcome.{Outcome}
use Rattle.cas_proposer.specs.declared.round.Round.{Round}
use Rattle.cas_quorum.specs.Era.{holds_prep, holds_acc}
use Rattle.cas_round.specs.declared.verdict.RoundVerdict.TheVariants as verdict
use Rattle.cas_record.specs.declared.answer.Answer.{Answer}
use Rattle.cas_record.specs.declared.answer.Answer.TheVariants as answer
use Rattle.cas_record.specs.declared.operator.OpAnswer.TheVariants as op
use Rattle.cas_slot.specs.declared.message.Reply.{Reply}
use Rattle.cas_model.specs.Council.{OrderView}
use Rattle.cas_model.specs.Safe.{IsSafe}
use Rattle.cas_model.specs.Step.{Step, BeginCollect, Propose, ReadHeld, CountCollect}
use Rattle.cas_model.specs.Calls.Step.{IsFull}
use Rattle.cas_model.specs.View.{Meaning, View, CallerView, IsAt}
use Rattle.cas_model_causes.specs.Calls.Causes.{CallIsTold}
use Rattle.cas_model_causes.specs.Calls.Rounds.{RoundSteps, PreparesWith}
use Rattle.cas_model_causes.specs.Calls.Told.{IsDown, HasVerdict, BeginsBy, AcceptsBy}
use Rattle.cas_model_causes.specs.Calls.Undisturbed.{AreUndisturbed, CallHasProposed, BeginsToAsk}

-- ---- causes
-- The collection's call does not begin: proposer 0 is down, the marks of a round do not fit, or there is no memory.
abbrev pub RefusesBy : {S V : Type 0} → View S V → Answer → Type 0
RefusesBy old answer.Down = IsDown old 0
RefusesBy old answer.RecordFull = IsFull old 0
RefusesBy old (answer.NoMemory proposed) = proposed ≡ false
RefusesBy old other = ⊥

-- the operator's open call was told that its step stopped by this answer
pub record IsStoppedBy {S V : Type 0} (view : View S V) (answer : Answer) : Type 0 where
  pub order : OrderView
  pub is_open : view.council.order ≡ Some order
  pub told : order.told ≡ Some (op.Stopped answer)

-- What is told of a collection's round has its cause: its call does not begin, its round does not begin, or the round is counted. A held
-- state is found only by a quorum of promises. And where its prepare phase ends otherwise, that is as of any call.
pub record CollectionsHaveCauses {S V : Type 0} (m : Meaning S V) : Type 0 where
  pub refuses : (old new : View S V) (key : List ℕ) (told : Answer) → Step m old (BeginCollect key) new → ((caller : CallerView) → IsAt old.callers 0 caller → caller.call ≡ None) → IsStoppedBy new told → RefusesBy old told
  pub begins : (old new : View S V) (key : List ℕ) (told : Answer) → Step m old (BeginCollect key) new → CallIsTold new 0 (Some told) → BeginsBy m old 0 key told new
  pub reads : (old new : View S V) → Step m old ReadHeld new → HasVerdict old 0 verdict.Quorum
  pub accepts : (old new : View S V) (told : Answer) → Step m old CountCollect new → CallIsTold new 0 (Some told) → AcceptsBy old 0 told

-- ---- completeness
-- a collection's round that begins asks the members of its phase
abbrev pub CollectionsBeginToAsk : {S V : Type 0} → Meaning S V → Type 0
CollectionsBeginToAsk {S} {V} m = (old new : View S V) (key : List ℕ) → IsSafe old → Step m old (BeginCollect key) new → CallIsTold new 0 None → BeginsToAsk new 0

-- Its round that begins to prepare, proposes and is counted, and that nothing disturbs with a quorum in each phase, is done.
abbrev pub UndisturbedCollectionsAreDone : {S V : Type 0} → Meaning S V → Type 0
UndisturbedCollectionsAreDone {S} {V} m = (old first mid turned last new : View S V) (key : List ℕ) (promising accepting : List ℕ) (promised accepted : List Reply) (round : Round)
    (to_prepare : RoundSteps m 0 first promised mid) (to_accept : RoundSteps m 0 turned accepted last) → IsSafe old → holds_prep round.era promising ≡ true → holds_acc round.era accepting ≡ true
    → Step m old (BeginCollect key) first → CallIsTold first 0 None → PreparesWith first.desks 0 [] round → AreUndisturbed m 0 promising first mid promised to_prepare → Step m mid (Propose 0) turned → CallIsTold turned 0 None
    → AreUndisturbed m 0 accepting turned last accepted to_accept → Step m last CountCollect new
    → (outcome : Outcome) × CallHasProposed turned.callers 0 outcome × CallIsTold new 0 (Some (answer.Done outcome.state outcome.took round.ballot))
