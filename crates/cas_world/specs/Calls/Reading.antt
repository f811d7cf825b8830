-- The end of a prepare phase.
use Rattle.std.specs.Prelude.{◌≡◌, ◌<◌, ◌≤◌, ℕ, true, false, List, Option, None, Some, length}
use Rattle.cas_ballot.specs.declared.ballot.Ballot.{Ballot}
use Rattle.cas_ballot.specs.Ballot.{FitsBallot}
use Rattle.cas_cache.specs.declared.ready.Ready.{Ready}
use Rattle.cas_change.specs.Outcome.{outcome_of}
use Rattle.cas_flow.specs.Flow.{FlowView}
use Rattle.cas_proposer.specs.Desk.{DeskView}
use Rattle.cas_proposer.specs.Round.{is_preparing, has_quorum, IsReadOf, IsVerdictOf, IsConfirmersOf}
use Rattle.cas_proposer.specs.declared.round.Round.{Round}
use Rattle.cas_quorum.specs.declared.era.Era.{Era}
use Rattle.cas_record.specs.declared.answer.Answer.{Answer}
use Rattle.cas_round.specs.declared.verdict.RoundVerdict.{RoundVerdict}
use Rattle.cas_slot.specs.declared.slot.Accepted.{Accepted}
use Rattle.cas_slot.specs.Slot.{accepted_ballot}
use Rattle.cas_vault.specs.Vault.{kept_of}
use Rattle.cas_protocol.specs.Proposers.{state_read}
use Rattle.cas_model.specs.Calls.Step.{Sends, accepts_to, refusal_by}
use Rattle.cas_model.specs.Calls.Desks.{TurnsWith, EndsRound}
use Rattle.cas_model.specs.View.{DiskMeaning, View, CallView, CallerView, IsAt}
use Rattle.cas_world_calls.specs.Proposing.{proposing_of, FailsToPropose}
use Rattle.cas_world_calls.specs.declared.call.Caller.{Caller}
use Rattle.cas_world_calls.specs.declared.call.OpenCall.{OpenCall}
use Rattle.cas_world_calls.specs.declared.proposal.Proposing.{Proposing}

-- a prepare phase that may end, of an open call for the same key
pub record MayEndPrepare {V : Type 0} (desk : DeskView V) (caller : Caller) (flow : FlowView) (proposer : ℕ) : Type 0 where
  pub round : Round
  pub is_round : desk.round ≡ Some round
  pub preparing : is_preparing round.phase ≡ true
  pub up : desk.down ≡ false
  pub call : OpenCall
  pub is_open : caller.call ≡ Some call
  pub same_key : round.key ≡ call.key
  pub ballot : FitsBallot round.ballot
  pub number : desk.id ≤ 16
  pub few : proposer ≤ 16
  pub queue : proposer < length flow.own

-- what stands ready then: what was read, at the round's own ballot, which these promised
abbrev pub ready_of : Round → Option Accepted → List ℕ → Ready
ready_of round read by = record { ballot = round.ballot; state = state_read read; read = accepted_ballot read; by = by }

pub record ReadsRound (round : Round) (era : Era) (ready : Ready) : Type 0 where
  pub read : Option Accepted
  pub by : List ℕ
  pub confirmers : IsConfirmersOf round by
  pub is_read : IsReadOf round read
  pub in_era : era ≡ round.era
  pub is_ready : ready ≡ ready_of round read by

-- what the call's program makes of what was read is proposed, and each member that accepts is asked to
pub record Proposes {V : Type 0} (m : DiskMeaning V) (proposer number : ℕ) (round : Round) (call : OpenCall) (old new : DeskView V) (before after : FlowView) (proposing : Proposing) : Type 0 where
  pub turned : Round
  pub read : Option Accepted
  pub by : List ℕ
  pub ride : Option Ballot
  pub quorum : has_quorum round.phase ≡ true
  pub confirmers : IsConfirmersOf round by
  pub is_read : IsReadOf round read
  pub turns : TurnsWith m old new round turned ride
  pub made : proposing ≡ proposing_of (record { caller = proposer; call = number }) round.key round.era.number call.program (ready_of round read by)
  pub sends : Sends before proposer (accepts_to proposer (kept_of old.vault).age round.key round.ballot round.era.number ride (outcome_of call.program (state_read read)).state round.era.acc) after

-- why the round ends without a proposal, and what its caller is told
pub data EndsShort {V : Type 0} (m : DiskMeaning V) (round : Round) (old new : DeskView V) (told : Answer) : Type 0 where
  by_verdict : (verdict : RoundVerdict) → IsVerdictOf round verdict → refusal_by verdict ≡ Some told → EndsRound m old new round None → EndsShort m round old new told
  by_failure : FailsToPropose m round.key old new told → EndsShort m round old new told

-- the round of the proposer is in its accept phase, and its caller was told nothing
pub record HasProposed {S V : Type 0} (view : View S V) (proposer : ℕ) : Type 0 where
  pub desk : DeskView V
  pub at_desk : IsAt view.desks proposer desk
  pub round : Round
  pub is_round : desk.round ≡ Some round
  pub accepting : is_preparing round.phase ≡ false
  pub caller : CallerView
  pub at_caller : IsAt view.callers proposer caller
  pub call : CallView
  pub is_open : caller.call ≡ Some call
  pub not_told : call.told ≡ None
