-- How a desk stops or moves on, and what that does to its open round.
use Rattle.std.specs.Prelude.{◌≡◌, ℕ, true, is_some, None, Some, if◌then◌else◌}
use Rattle.cas_flow.specs.Flow.{abandoned}
use Rattle.cas_proposer.specs.Desk.{DeskView}
use Rattle.cas_proposer.specs.declared.round.Round.{Round}
use Rattle.cas_record.specs.declared.answer.Answer.{Answer}
use Rattle.cas_record.specs.declared.answer.Answer.TheVariants as answer
use Rattle.cas_record.specs.declared.answer.Cause.{Cause}
use Rattle.cas_record.specs.declared.answer.Cause.TheVariants as cause
use Rattle.cas_model.specs.Council.{exchange_place, crashed_in}
use Rattle.cas_model.specs.Calls.Step.{with_call}
use Rattle.cas_model.specs.Exchanges.Step.{with_council}
use Rattle.cas_model.specs.Calls.Desks.{Crashes}
use Rattle.cas_model.specs.View.{Meaning, View, CallView, CallerView, IsAt, with_desk}

-- a caller's open call and its desk
pub record OpenCallAt {S V : Type 0} (view : View S V) (id : ℕ) : Type 0 where
  pub caller : CallerView
  pub at_caller : IsAt view.callers id caller
  pub call : CallView
  pub is_open : caller.call ≡ Some call

-- its caller is told that its round was closed, where one was open, and whether its change was proposed
abbrev pub closed_by : Answer → Cause → CallView → CallView
closed_by told why call = record call { reserved = 1; told = Some (if is_some call.proposed then answer.Unsettled why else told); is_closed = true }

abbrev pub closed_by_crash : CallView → CallView
closed_by_crash call = closed_by answer.Crashed cause.Crashed call

-- a desk changes so and has no open round then: the frames of the one that it had join the late ones
pub data LeavesRound {S V : Type 0} (DeskTurns : DeskView V → DeskView V → Type 0) (closed : CallView → CallView) (old : View S V) (id : ℕ) (new : View S V) : Type 0 where
  idle : (desk now : DeskView V) → IsAt old.desks id desk → desk.round ≡ None → DeskTurns desk now → new ≡ record (with_desk old id now) { flow = abandoned old.flow id } → LeavesRound DeskTurns closed old id new
  closes : (desk now : DeskView V) (round : Round) (of_call : OpenCallAt old id) → IsAt old.desks id desk → desk.round ≡ Some round → DeskTurns desk now
      → new ≡ record (with_call (with_desk old id now) id of_call.caller (closed of_call.call)) { flow = abandoned old.flow id } → LeavesRound DeskTurns closed old id new

-- an exchange, if one is open, is broken off, and its frames join the late ones
abbrev pub broken_off_view : {S V : Type 0} → View S V → View S V
broken_off_view view = with_council (record view { flow = abandoned view.flow exchange_place }) (crashed_in view.council)

-- a desk goes down so; only the operator has exchanges
pub data GoesDown {S V : Type 0} (DeskTurns : DeskView V → DeskView V → Type 0) (old : View S V) (id : ℕ) (new : View S V) : Type 0 where
  of_client : (id ≡ 0 → ⊥) → LeavesRound DeskTurns closed_by_crash old id new → GoesDown DeskTurns old id new
  of_operator : (middle : View S V) → id ≡ 0 → LeavesRound DeskTurns closed_by_crash old id middle → new ≡ broken_off_view middle → GoesDown DeskTurns old id new

-- a desk crashes, within a round or beside one
abbrev pub CrashesDesk : {S V : Type 0} → Meaning S V → View S V → ℕ → View S V → Type 0
CrashesDesk m old id new = LeavesRound (Crashes m.disks) closed_by_crash old id new

abbrev pub StepCrashProposer : {S V : Type 0} → Meaning S V → View S V → ℕ → View S V → Type 0
StepCrashProposer m old id new = GoesDown (Crashes m.disks) old id new
