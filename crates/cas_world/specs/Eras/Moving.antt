-- How a desk moves on to the next era, or does not.
use Rattle.std.specs.Prelude.{◌≡◌, ⊤, ℕ, ◌+◌, ◌++◌, ◌∷◌, zero, suc, [], Bool, true, false, List, None, Some, Result, Ok, Err, is_some, slice_set}
use Rattle.cas_flow.specs.Flow.{FlowView, abandoned}
use Rattle.cas_proposer.specs.Desk.{DeskView}
use Rattle.cas_proposer.specs.declared.round.Round.{Round}
use Rattle.cas_quorum.specs.declared.era.Era.{Era}
use Rattle.cas_record.specs.Book.{Book}
use Rattle.cas_record.specs.declared.answer.Answer.{Answer}
use Rattle.cas_record.specs.declared.answer.Answer.TheVariants as answer
use Rattle.cas_record.specs.declared.mark.Mark.TheVariants.{EraEntered}
use Rattle.cas_record.specs.declared.operator.OpAnswer.{OpAnswer}
use Rattle.cas_record.specs.declared.operator.OpAnswer.TheVariants as op
use Rattle.cas_vault.specs.declared.error.VaultError.{VaultError}
use Rattle.cas_vault.specs.declared.error.VaultError.TheVariants as error
use Rattle.cas_model.specs.Council as cluster
use Rattle.cas_model.specs.Council.{PlanView, exchange_place, crashed_in, telling, hushed}
use Rattle.cas_model.specs.Calls.Desks.{HasKept}
use Rattle.cas_model.specs.Eras.Step.{plan_after}
use Rattle.cas_model.specs.View.{DiskMeaning}
use Rattle.cas_world_calls.specs.Call.{over}
use Rattle.cas_world_calls.specs.declared.call.Caller.{Caller}
use Rattle.cas_world_calls.specs.declared.call.OpenCall.{OpenCall}

-- its round is closed, and it is told so by whether it proposed something
abbrev pub closed_with : (Bool → Answer) → OpenCall → OpenCall
closed_with told call = record (over call (told (is_some call.proposed))) { is_closed = true }

-- the desk changes so and has no open round then: the caller of one is told, and its frames join the late ones
pub data LeavesDesk {V : Type 0} (DeskTurns : DeskView V → DeskView V → Type 0) (closed : OpenCall → OpenCall) (id : ℕ) (desk now : DeskView V) (caller caller_now : Caller) (flow flow_now : FlowView) : Type 0 where
  idle : desk.round ≡ None → DeskTurns desk now → caller_now ≡ caller → flow_now ≡ abandoned flow id → LeavesDesk DeskTurns closed id desk now caller caller_now flow flow_now
  closes : (round : Round) (call : OpenCall) → desk.round ≡ Some round → caller.call ≡ Some call → DeskTurns desk now → caller_now ≡ record caller { call = Some (closed call) } → flow_now ≡ abandoned flow id
      → LeavesDesk DeskTurns closed id desk now caller caller_now flow flow_now

-- all stays but for what the vault lost with the memory
pub record Stays {V : Type 0} (m : DiskMeaning V) (desk now : DeskView V) (caller caller_now : Caller) (flow flow_now : FlowView) : Type 0 where
  pub kept : HasKept m desk.vault now.vault
  pub desk_ : now ≡ record desk { vault = now.vault }
  pub caller_ : caller_now ≡ caller
  pub flow_ : flow_now ≡ flow

-- ---- what is marked and told of it
-- proposer 0 breaks off its exchange, and the others have none
abbrev pub crash_at : ℕ → cluster.Council → cluster.Council
crash_at zero council = crashed_in council
crash_at (suc id) council = council

abbrev pub abandoned_at : ℕ → FlowView → FlowView
abandoned_at zero flow = abandoned flow exchange_place
abandoned_at (suc id) flow = flow

pub data MarksMove (last_proposer id : ℕ) (next : Era) (moved : Result ⊤ VaultError) (old new : cluster.Council) (eras eras_now : List Era) (flow flow_now : FlowView) (before after : Book) (result : Result ⊤ OpAnswer) : Type 0 where
  moves : (plan : PlanView) → moved ≡ Ok tt → old.plan ≡ Some plan → new ≡ record (hushed old) { plan = Some (plan_after last_proposer plan next) } → eras_now ≡ slice_set eras id next → flow_now ≡ flow
      → after.marks ≡ before.marks ++ EraEntered id next.number ∷ [] → after.room + 1 ≡ before.room → result ≡ Ok tt → MarksMove last_proposer id next moved old new eras eras_now flow flow_now before after result
  fails : moved ≡ Err error.VaultFault → new ≡ telling (crash_at id old) (op.ProposerDown id) → eras_now ≡ eras → flow_now ≡ abandoned_at id flow → after ≡ before → result ≡ Err (op.ProposerDown id)
      → MarksMove last_proposer id next moved old new eras eras_now flow flow_now before after result
  no_memory : moved ≡ Err error.NoMemory → new ≡ telling old (op.Stopped (answer.NoMemory false)) → eras_now ≡ eras → flow_now ≡ flow → after ≡ before → result ≡ Err (op.Stopped (answer.NoMemory false))
      → MarksMove last_proposer id next moved old new eras eras_now flow flow_now before after result
