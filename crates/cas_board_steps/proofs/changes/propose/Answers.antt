use Rattle.std.proofs.Common.{sym, subst, ◌∙◌, arith}
use Rattle.cas_board_steps.specs.Calls.Changes.{EndsMarked}
use Rattle.cas_board_steps.proofs.Calls.Holds.{propose_ok, propose_told, propose_is_met, propose_ends, greatest_proposed}
use Rattle.cas_board_steps.proofs.Parts.{open_quiet}
use Rattle.cas_board_steps.proofs.Calls.Stages.{unmet_there, running_tells, proposed_running, met_tells}
use Rattle.cas_board_steps.proofs.changes.propose.Goals as goal

pub stage_of-requires : goal.stage_of-requires
stage_of-requires g c = let same = greatest_proposed _ c.args.caller c.args.world.now c.propose.new.self c.propose.ensures.step in omega (arith, same, c.requires.known)

pub end-requires-clause-known : goal.end-requires-clause-known
end-requires-clause-known g c = let same = greatest_proposed _ c.args.caller c.args.world.now c.propose.new.self c.propose.ensures.step in omega (arith, same, c.requires.known)

pub end-requires-clause-told : goal.end-requires-clause-told
end-requires-clause-told g c = (propose_told c.args.caller c.args.call c.in-Err.told c.args.world.now c.propose.new.self c.requires.called c.in-Err.ensures.told)

pub returns-in-Ok-clause-kept : goal.returns-in-Ok-clause-kept
returns-in-Ok-clause-kept g c = (propose_ok _ c.args.caller c.args.call 0 c.args.world.now c.propose.new.self c.requires.called c.requires.kept c.in-Ok.ensures.proposed c.in-Ok.ensures.step).kept

pub returns-in-Ok-clause-last_proposer : goal.returns-in-Ok-clause-last_proposer
returns-in-Ok-clause-last_proposer g c = (propose_ok _ c.args.caller c.args.call 0 c.args.world.now c.propose.new.self c.requires.called c.requires.kept c.in-Ok.ensures.proposed c.in-Ok.ensures.step).last_proposer

pub returns-in-Ok-clause-goes_on : goal.returns-in-Ok-clause-goes_on
returns-in-Ok-clause-goes_on g c most = (propose_ok _ c.args.caller c.args.call most c.args.world.now c.propose.new.self c.requires.called c.requires.kept c.in-Ok.ensures.proposed c.in-Ok.ensures.step).does

pub returns-then-is_conflict-clause-kept : goal.returns-then-is_conflict-clause-kept
returns-then-is_conflict-clause-kept g c = (propose_is_met _ c.args.caller c.args.call 0 c.in-Err.told c.args.world.now c.propose.new.self c.requires.called c.requires.kept c.requires.unproposed (propose_told c.args.caller c.args.call c.in-Err.told c.args.world.now c.propose.new.self c.requires.called c.in-Err.ensures.told) (sym c.is_conflict.ensures ∙ c.if-is_conflict.true) c.in-Err.ensures.step).kept

pub returns-then-is_conflict-clause-last_proposer : goal.returns-then-is_conflict-clause-last_proposer
returns-then-is_conflict-clause-last_proposer g c = (propose_is_met _ c.args.caller c.args.call 0 c.in-Err.told c.args.world.now c.propose.new.self c.requires.called c.requires.kept c.requires.unproposed (propose_told c.args.caller c.args.call c.in-Err.told c.args.world.now c.propose.new.self c.requires.called c.in-Err.ensures.told) (sym c.is_conflict.ensures ∙ c.if-is_conflict.true) c.in-Err.ensures.step).last_proposer

pub returns-then-is_conflict-clause-goes_on : goal.returns-then-is_conflict-clause-goes_on
returns-then-is_conflict-clause-goes_on g c most = (propose_is_met _ c.args.caller c.args.call most c.in-Err.told c.args.world.now c.propose.new.self c.requires.called c.requires.kept c.requires.unproposed (propose_told c.args.caller c.args.call c.in-Err.told c.args.world.now c.propose.new.self c.requires.called c.in-Err.ensures.told) (sym c.is_conflict.ensures ∙ c.if-is_conflict.true) c.in-Err.ensures.step).does

pub returns-else-may_repeat-clause-kept : goal.returns-else-may_repeat-clause-kept
returns-else-may_repeat-clause-kept g c = (propose_ends _ c.args.caller c.args.call 0 c.in-Err.told c.args.world.now c.propose.new.self c.end.new.self c.requires.called c.requires.kept (propose_told c.args.caller c.args.call c.in-Err.told c.args.world.now c.propose.new.self c.requires.called c.in-Err.ensures.told) c.in-Err.ensures.step c.end.ensures.step).kept

pub returns-else-may_repeat-clause-last_proposer : goal.returns-else-may_repeat-clause-last_proposer
returns-else-may_repeat-clause-last_proposer g c = (propose_ends _ c.args.caller c.args.call 0 c.in-Err.told c.args.world.now c.propose.new.self c.end.new.self c.requires.called c.requires.kept (propose_told c.args.caller c.args.call c.in-Err.told c.args.world.now c.propose.new.self c.requires.called c.in-Err.ensures.told) c.in-Err.ensures.step c.end.ensures.step).last_proposer

pub returns-else-may_repeat-clause-ends : goal.returns-else-may_repeat-clause-ends
returns-else-may_repeat-clause-ends g c most = subst (EndsMarked c.args.caller c.args.call most c.args.world.now c.end.new.self) (sym c.end.ensures.same) (propose_ends _ c.args.caller c.args.call most c.in-Err.told c.args.world.now c.propose.new.self c.end.new.self c.requires.called c.requires.kept (propose_told c.args.caller c.args.call c.in-Err.told c.args.world.now c.propose.new.self c.requires.called c.in-Err.ensures.told) c.in-Err.ensures.step c.end.ensures.step).does

pub returns-in-Ok-clause-met : goal.returns-in-Ok-clause-met
returns-in-Ok-clause-met g c =
    let held = propose_ok _ c.args.caller c.args.call 0 c.args.world.now c.propose.new.self c.requires.called c.requires.kept c.in-Ok.ensures.proposed c.in-Ok.ensures.step in
    running_tells c.propose.new.self c.args.caller c.args.call c.stage_of.result held.does.is_open held.kept (proposed_running c.propose.new.self c.args.caller c.in-Ok.ensures.proposed) c.stage_of.ensures

pub returns-in-Ok-clause-repeats : goal.returns-in-Ok-clause-repeats
returns-in-Ok-clause-repeats g c met =
    let held = propose_ok _ c.args.caller c.args.call 0 c.args.world.now c.propose.new.self c.requires.called c.requires.kept c.in-Ok.ensures.proposed c.in-Ok.ensures.step in
    absurd (cc (unmet_there c.propose.new.self c.args.caller c.args.call held.does.is_open held.kept (proposed_running c.propose.new.self c.args.caller c.in-Ok.ensures.proposed), met))

pub returns-then-is_conflict-clause-met : goal.returns-then-is_conflict-clause-met
returns-then-is_conflict-clause-met g c =
    let was = propose_told c.args.caller c.args.call c.in-Err.told c.args.world.now c.propose.new.self c.requires.called c.in-Err.ensures.told in
    let conflict = sym c.is_conflict.ensures ∙ c.if-is_conflict.true in
    let held = propose_is_met _ c.args.caller c.args.call 0 c.in-Err.told c.args.world.now c.propose.new.self c.requires.called c.requires.kept c.requires.unproposed was conflict c.in-Err.ensures.step in
    met_tells _ c.args.caller c.args.call c.in-Err.told c.stage_of-then-is_conflict.result c.args.world.now c.propose.new.self (λ is_first. (open_quiet c.args.world.now c.args.caller c.args.call c.requires.called is_first).exchange) held.does.is_open held.kept was conflict c.in-Err.ensures.step c.stage_of-then-is_conflict.ensures
