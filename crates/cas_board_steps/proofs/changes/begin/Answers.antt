use Rattle.std.proofs.Common.{sym, subst, ◌∙◌, arith}
use Rattle.std.specs.Prelude.{⊤}
use Rattle.cas_board_steps.specs.Calls.Changes.{BeginsNot}
use Rattle.cas_board_steps.proofs.Calls.Holds.{begin_may, begin_ok, begin_refused, begin_told, begin_passes}
use Rattle.cas_board_steps.proofs.Parts.{idle_quiet}
use Rattle.cas_board_steps.proofs.Calls.Stages.{stage_unmet, round_running}
use Rattle.cas_board_steps.proofs.changes.begin.Goals as goal

pub begin-requires-clause-unasked : goal.begin-requires-clause-unasked
begin-requires-clause-unasked g c is_first = (idle_quiet c.args.world.now c.args.caller c.requires.idle is_first).exchange

pub begin-requires-clause-may : goal.begin-requires-clause-may
begin-requires-clause-may g c = begin_may c.args.world.now c.args.caller c.next_call-call.result c.args.key.now c.args.program.now c.next_call-call.ensures c.requires.idle

pub stage_of-requires : goal.stage_of-requires
stage_of-requires g c = let same = (begin_ok _ c.args.caller c.next_call-call.result c.args.key.now c.args.program.now c.args.world.now c.begin.new.self c.next_call-call.ensures c.requires.idle c.requires.kept c.in-Ok.ensures.step.0 c.in-Ok.ensures.step.1).last_proposer in omega (arith, same, c.requires.known)

pub end-requires-clause-told : goal.end-requires-clause-told
end-requires-clause-told g c = (begin_told ⊤ _ c.args.caller c.next_call-call.result c.args.key.now c.args.program.now c.in-Err.refusal c.args.world.now c.begin.new.self (sym c.is_refusal.ensures ∙ c.if-is_refusal.false) c.in-Err.ensures.step).1

pub returns-in-Ok-clause-kept : goal.returns-in-Ok-clause-kept
returns-in-Ok-clause-kept g c = (begin_ok _ c.args.caller c.next_call-call.result c.args.key.now c.args.program.now c.args.world.now c.begin.new.self c.next_call-call.ensures c.requires.idle c.requires.kept c.in-Ok.ensures.step.0 c.in-Ok.ensures.step.1).kept

pub returns-in-Ok-clause-last_proposer : goal.returns-in-Ok-clause-last_proposer
returns-in-Ok-clause-last_proposer g c = (begin_ok _ c.args.caller c.next_call-call.result c.args.key.now c.args.program.now c.args.world.now c.begin.new.self c.next_call-call.ensures c.requires.idle c.requires.kept c.in-Ok.ensures.step.0 c.in-Ok.ensures.step.1).last_proposer

pub returns-in-Ok-clause-begun : goal.returns-in-Ok-clause-begun
returns-in-Ok-clause-begun g c = (begin_ok _ c.args.caller c.next_call-call.result c.args.key.now c.args.program.now c.args.world.now c.begin.new.self c.next_call-call.ensures c.requires.idle c.requires.kept c.in-Ok.ensures.step.0 c.in-Ok.ensures.step.1).does

pub returns-in-Err-clause-kept : goal.returns-in-Err-clause-kept
returns-in-Err-clause-kept g c = (begin_refused ⊤ _ c.args.caller c.next_call-call.result c.args.key.now c.args.program.now c.in-Err.refusal c.args.world.now c.begin.new.self c.next_call-call.ensures c.requires.idle c.requires.kept (sym c.is_refusal.ensures ∙ c.if-is_refusal.true) c.in-Err.ensures.long c.in-Err.ensures.step).kept

pub returns-in-Err-clause-last_proposer : goal.returns-in-Err-clause-last_proposer
returns-in-Err-clause-last_proposer g c = (begin_refused ⊤ _ c.args.caller c.next_call-call.result c.args.key.now c.args.program.now c.in-Err.refusal c.args.world.now c.begin.new.self c.next_call-call.ensures c.requires.idle c.requires.kept (sym c.is_refusal.ensures ∙ c.if-is_refusal.true) c.in-Err.ensures.long c.in-Err.ensures.step).last_proposer

pub returns-in-Err-clause-not_begun : goal.returns-in-Err-clause-not_begun
returns-in-Err-clause-not_begun g c = (begin_refused ⊤ _ c.args.caller c.next_call-call.result c.args.key.now c.args.program.now c.in-Err.refusal c.args.world.now c.begin.new.self c.next_call-call.ensures c.requires.idle c.requires.kept (sym c.is_refusal.ensures ∙ c.if-is_refusal.true) c.in-Err.ensures.long c.in-Err.ensures.step).does

pub returns-in-Err-2-clause-kept : goal.returns-in-Err-2-clause-kept
returns-in-Err-2-clause-kept g c = (begin_passes ⊤ _ c.args.caller c.next_call-call.result c.args.key.now c.args.program.now c.in-Err.refusal c.args.world.now c.begin.new.self c.end.new.self c.next_call-call.ensures c.requires.idle c.requires.kept (sym c.is_refusal.ensures ∙ c.if-is_refusal.false) c.in-Err.ensures.step c.in-Err.ensures.cause c.end.ensures.step).kept

pub returns-in-Err-2-clause-last_proposer : goal.returns-in-Err-2-clause-last_proposer
returns-in-Err-2-clause-last_proposer g c = (begin_passes ⊤ _ c.args.caller c.next_call-call.result c.args.key.now c.args.program.now c.in-Err.refusal c.args.world.now c.begin.new.self c.end.new.self c.next_call-call.ensures c.requires.idle c.requires.kept (sym c.is_refusal.ensures ∙ c.if-is_refusal.false) c.in-Err.ensures.step c.in-Err.ensures.cause c.end.ensures.step).last_proposer

pub returns-in-Err-2-clause-not_begun : goal.returns-in-Err-2-clause-not_begun
returns-in-Err-2-clause-not_begun g c = subst (BeginsNot c.args.caller c.args.key.now c.args.program.now c.args.world.now c.end.new.self) (sym c.end.ensures.same) (begin_passes ⊤ _ c.args.caller c.next_call-call.result c.args.key.now c.args.program.now c.in-Err.refusal c.args.world.now c.begin.new.self c.end.new.self c.next_call-call.ensures c.requires.idle c.requires.kept (sym c.is_refusal.ensures ∙ c.if-is_refusal.false) c.in-Err.ensures.step c.in-Err.ensures.cause c.end.ensures.step).does

pub returns-in-Ok-clause-fresh : goal.returns-in-Ok-clause-fresh
returns-in-Ok-clause-fresh g c =
    let held = begin_ok _ c.args.caller c.next_call-call.result c.args.key.now c.args.program.now c.args.world.now c.begin.new.self c.next_call-call.ensures c.requires.idle c.requires.kept c.in-Ok.ensures.step.0 c.in-Ok.ensures.step.1 in
    stage_unmet c.begin.new.self c.args.caller c.next_call-call.result c.stage_of.result held.does.is_open held.kept (round_running c.begin.new.self c.args.caller c.next_call-call.result c.in-Ok.ensures.step.1) c.stage_of.ensures
