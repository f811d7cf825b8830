-- Why a round ends as it does, by the replies that arrived at it.
use Rattle.std.specs.Prelude.{◌≡◌, ℕ, false, List, [], Option, None, Some}
use Rattle.cas_change.specs.declared.program.Clause.{Clause}
use Rattle.cas_change.specs.declared.outcome.Outcome.{Outcome}
use Rattle.cas_proposer.specs.Desk.{DeskView}
use Rattle.cas_proposer.specs.declared.round.Round.{Round}
use Rattle.cas_round.specs.Round.{IsPrepareVerdict, IsAcceptVerdict}
use Rattle.cas_round.specs.declared.verdict.RoundVerdict.{RoundVerdict}
use Rattle.cas_round.specs.declared.verdict.RoundVerdict.TheVariants.{Quorum}
use Rattle.cas_record.specs.declared.answer.Answer.{Answer}
use Rattle.cas_record.specs.declared.answer.Answer.TheVariants as answer
use Rattle.cas_record.specs.declared.answer.Cause.{Cause}
use Rattle.cas_slot.specs.declared.message.Reply.{Reply}
use Rattle.cas_model.specs.Step.{Event, Step, Begin, Propose, Count}
use Rattle.cas_model.specs.Calls.Step.{refusal_by, cause_by}
use Rattle.cas_model.specs.View.{Meaning, View, CallView, CallerView, IsAt}
use Rattle.cas_model_causes.specs.Calls.Rounds.{IsOwnCall, Brings, RoundSteps, PreparesWith, AcceptsWith}

-- ---- what is told
-- the caller's open call was told this, or nothing yet
pub record CallIsTold {S V : Type 0} (view : View S V) (id : ℕ) (told : Option Answer) : Type 0 where
  pub caller : CallerView
  pub at_caller : IsAt view.callers id caller
  pub call : CallView
  pub is_open : caller.call ≡ Some call
  pub told_is : call.told ≡ told

-- ---- steps
-- Every step that is no call of the proposer's own brings its open round a reply that was under way, or passes it by.
abbrev pub StepsPassOrBring : {S V : Type 0} → Meaning S V → Type 0
StepsPassOrBring {S} {V} m = (old new : View S V) (id : ℕ) (event : Event) → (IsOwnCall id event → ⊥) → Step m old event new → (brought : List Reply) × Brings old new id brought

-- ---- the prepare phase
-- a call begins a round in its prepare phase with no reply yet, one in its accept phase, or none
pub data BeginsAtMostOne {S V : Type 0} (new : View S V) (id : ℕ) : Type 0 where
  prepares : (round : Round) → PreparesWith new.desks id [] round → CallIsTold new id None → BeginsAtMostOne new id
  accepts : (round : Round) → AcceptsWith new.desks id [] [] round → CallIsTold new id None → BeginsAtMostOne new id
  begins_none : (told : Answer) → ((desk : DeskView V) → IsAt new.desks id desk → desk.round ≡ None) → CallIsTold new id (Some told) → BeginsAtMostOne new id

abbrev pub RoundsBeginAfresh : {S V : Type 0} → Meaning S V → Type 0
RoundsBeginAfresh {S} {V} m = (old new : View S V) (id : ℕ) (key : List ℕ) (program : List Clause) → Step m old (Begin id key program) new → BeginsAtMostOne new id

-- The end of the prepare phase after these replies: with a quorum of promises it proposes, and its accept phase begins with no reply yet,
-- unless the vault fails or no memory is found; without one the caller is told the refusal of their verdict.
pub data PrepareEnds {S V : Type 0} (new : View S V) (id : ℕ) (replies : List Reply) (round : Round) : Type 0 where
  proposes : (turned : Round) → IsPrepareVerdict round.era round.ballot replies Quorum → AcceptsWith new.desks id replies [] turned → CallIsTold new id None → PrepareEnds new id replies round
  refuses : (verdict : RoundVerdict) (answer : Answer) → IsPrepareVerdict round.era round.ballot replies verdict → refusal_by verdict ≡ Some answer → CallIsTold new id (Some answer) → PrepareEnds new id replies round
  vault_fails : CallIsTold new id (Some answer.VaultFault) → PrepareEnds new id replies round
  no_memory : CallIsTold new id (Some (answer.NoMemory false)) → PrepareEnds new id replies round

abbrev pub PreparesEndByReplies : {S V : Type 0} → Meaning S V → Type 0
PreparesEndByReplies {S} {V} m = (first mid new : View S V) (id : ℕ) (replies : List Reply) (round : Round) → PreparesWith first.desks id [] round → RoundSteps m id first replies mid → Step m mid (Propose id) new
    → (ended : Round) × PreparesWith mid.desks id replies ended × PrepareEnds new id replies ended

-- ---- the accept phase
-- The end of the accept phase after these replies: with a quorum of acceptances the change is done, and without one it is unsettled by the
-- cause of their verdict.
pub data AcceptEnds {S V : Type 0} (new : View S V) (id : ℕ) (replies : List Reply) (round : Round) : Type 0 where
  done : (outcome : Outcome) → IsAcceptVerdict round.era round.ballot replies Quorum → CallIsTold new id (Some (answer.Done outcome.state outcome.took round.ballot)) → AcceptEnds new id replies round
  unsettled : (verdict : RoundVerdict) (why : Cause) → IsAcceptVerdict round.era round.ballot replies verdict → cause_by verdict ≡ Some why → CallIsTold new id (Some (answer.Unsettled why)) → AcceptEnds new id replies round

abbrev pub AcceptsEndByReplies : {S V : Type 0} → Meaning S V → Type 0
AcceptsEndByReplies {S} {V} m = (first mid new : View S V) (id : ℕ) (prepared replies : List Reply) (round : Round) → AcceptsWith first.desks id prepared [] round → RoundSteps m id first replies mid → Step m mid (Count id) new
    → (ended : Round) × AcceptsWith mid.desks id prepared replies ended × AcceptEnds new id replies ended
