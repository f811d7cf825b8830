use Rattle.std.proofs.Common.{◌≡◌, false, sym, subst, arith}
use Rattle.std.specs.Prelude.{⊤}
use Rattle.cas_board_steps.specs.Calls.Conflicts.{is_conflict}
use Rattle.cas_board_steps.specs.Calls.Changes.{EndsMarked}
use Rattle.cas_board_steps.proofs.Calls.Holds.{again_ok, again_told, again_ends, again_no_conflict}
use Rattle.cas_board_steps.proofs.Parts.{open_quiet}
use Rattle.cas_board_steps.proofs.Calls.Stages.{may_again, unmet_there, running_tells, round_running}
use Rattle.cas_board_steps.proofs.changes.begin_again.Goals as goal

pub begin-requires-clause-unasked : goal.begin-requires-clause-unasked
begin-requires-clause-unasked g c is_first = (open_quiet c.args.world.now c.args.caller c.args.call c.requires.called is_first).exchange

pub begin-requires-clause-may : goal.begin-requires-clause-may
begin-requires-clause-may g c = may_again c.args.world.now c.args.caller c.args.call c.args.key.now c.args.program.now c.requires.known c.requires.kept c.requires.called c.requires.wanted c.requires.idle c.requires.unclosed

pub stage_of-requires : goal.stage_of-requires
stage_of-requires g c = let same = (again_ok _ c.args.caller c.args.call 0 c.args.key.now c.args.program.now c.args.world.now c.begin.new.self c.requires.called c.requires.kept c.in-Ok.ensures.step.0 c.in-Ok.ensures.step.1).last_proposer in omega (arith, same, c.requires.known)

pub end-requires-clause-told : goal.end-requires-clause-told
end-requires-clause-told g c = (again_told ⊤ _ c.args.caller c.args.call c.args.key.now c.args.program.now c.in-Err.told c.args.world.now c.begin.new.self c.requires.called c.in-Err.ensures.step).1

pub returns-in-Ok-clause-kept : goal.returns-in-Ok-clause-kept
returns-in-Ok-clause-kept g c = (again_ok _ c.args.caller c.args.call 0 c.args.key.now c.args.program.now c.args.world.now c.begin.new.self c.requires.called c.requires.kept c.in-Ok.ensures.step.0 c.in-Ok.ensures.step.1).kept

pub returns-in-Ok-clause-last_proposer : goal.returns-in-Ok-clause-last_proposer
returns-in-Ok-clause-last_proposer g c = (again_ok _ c.args.caller c.args.call 0 c.args.key.now c.args.program.now c.args.world.now c.begin.new.self c.requires.called c.requires.kept c.in-Ok.ensures.step.0 c.in-Ok.ensures.step.1).last_proposer

pub returns-in-Ok-clause-goes_on : goal.returns-in-Ok-clause-goes_on
returns-in-Ok-clause-goes_on g c most = (again_ok _ c.args.caller c.args.call most c.args.key.now c.args.program.now c.args.world.now c.begin.new.self c.requires.called c.requires.kept c.in-Ok.ensures.step.0 c.in-Ok.ensures.step.1).does

pub returns-in-Err-clause-kept : goal.returns-in-Err-clause-kept
returns-in-Err-clause-kept g c = (again_ends ⊤ _ c.args.caller c.args.call 0 c.args.key.now c.args.program.now c.in-Err.told c.args.world.now c.begin.new.self c.end.new.self c.requires.called c.requires.kept c.in-Err.ensures.step c.end.ensures.step).kept

pub returns-in-Err-clause-last_proposer : goal.returns-in-Err-clause-last_proposer
returns-in-Err-clause-last_proposer g c = (again_ends ⊤ _ c.args.caller c.args.call 0 c.args.key.now c.args.program.now c.in-Err.told c.args.world.now c.begin.new.self c.end.new.self c.requires.called c.requires.kept c.in-Err.ensures.step c.end.ensures.step).last_proposer

pub returns-in-Err-clause-ends : goal.returns-in-Err-clause-ends
returns-in-Err-clause-ends g c most = subst (EndsMarked c.args.caller c.args.call most c.args.world.now c.end.new.self) (sym c.end.ensures.same) (again_ends ⊤ _ c.args.caller c.args.call most c.args.key.now c.args.program.now c.in-Err.told c.args.world.now c.begin.new.self c.end.new.self c.requires.called c.requires.kept c.in-Err.ensures.step c.end.ensures.step).does

pub returns-in-Ok-clause-met : goal.returns-in-Ok-clause-met
returns-in-Ok-clause-met g c =
    let held = again_ok _ c.args.caller c.args.call 0 c.args.key.now c.args.program.now c.args.world.now c.begin.new.self c.requires.called c.requires.kept c.in-Ok.ensures.step.0 c.in-Ok.ensures.step.1 in
    running_tells c.begin.new.self c.args.caller c.args.call c.stage_of.result held.does.is_open held.kept (round_running c.begin.new.self c.args.caller c.args.call c.in-Ok.ensures.step.1) c.stage_of.ensures

pub returns-in-Ok-clause-unmet : goal.returns-in-Ok-clause-unmet
returns-in-Ok-clause-unmet g c =
    let held = again_ok _ c.args.caller c.args.call 0 c.args.key.now c.args.program.now c.args.world.now c.begin.new.self c.requires.called c.requires.kept c.in-Ok.ensures.step.0 c.in-Ok.ensures.step.1 in
    unmet_there c.begin.new.self c.args.caller c.args.call held.does.is_open held.kept (round_running c.begin.new.self c.args.caller c.args.call c.in-Ok.ensures.step.1)

pub returns-in-Err-clause-no_conflict : goal.returns-in-Err-clause-no_conflict
returns-in-Err-clause-no_conflict g c = subst (λ told. is_conflict told ≡ false) (sym c.end.ensures.same) (again_no_conflict ⊤ _ c.args.caller c.args.call c.args.key.now c.args.program.now c.in-Err.told c.args.world.now c.begin.new.self c.in-Err.ensures.step c.in-Err.ensures.cause)
