use Rattle.std.proofs.Common.{sym, ap, subst, arith}
use Rattle.cas_board_steps.specs.Calls.Conflicts.{is_conflict}
use Rattle.cas_board_steps.specs.Calls.Changes.{EndsMarked, harm_by}
use Rattle.cas_board_steps.proofs.Calls.Holds.{turn_ok, turn_told, turn_ends, greatest_refused}
use Rattle.cas_board_steps.proofs.Parts.{open_quiet}
use Rattle.cas_board_steps.proofs.Calls.Stages.{as_turn, as_refusal, waits_there, turn_running, unmet_there, running_tells}
use Rattle.cas_board_steps.proofs.changes.take_turn.Goals as goal

pub turn-requires-clause-waits : goal.turn-requires-clause-waits
turn-requires-clause-waits g c = waits_there c.args.world.now c.args.caller (λ is_first. (open_quiet c.args.world.now c.args.caller c.args.call c.requires.called is_first).exchange) c.requires.waits

pub stage_of-requires : goal.stage_of-requires
stage_of-requires g c = let same = (turn_ok _ c.args.caller c.args.call c.args.verdict c.args.world.now c.turn.new.self c.requires.called c.requires.kept c.requires.running (as_turn _ c.args.world.now c.turn.new.self c.args.caller c.args.verdict (λ is_first. (open_quiet c.args.world.now c.args.caller c.args.call c.requires.called is_first).exchange) c.in-Ok.ensures.ok)).last_proposer in omega (arith, same, c.requires.known)

pub has_proposed-proposed-requires : goal.has_proposed-proposed-requires
has_proposed-proposed-requires g c = let same = greatest_refused _ c.args.caller c.args.world.now c.turn.new.self (as_refusal _ c.args.world.now c.turn.new.self c.args.caller (λ is_first. (open_quiet c.args.world.now c.args.caller c.args.call c.requires.called is_first).exchange) c.in-Err.ensures.err) in omega (arith, same, c.requires.known)

pub end-requires-clause-known : goal.end-requires-clause-known
end-requires-clause-known g c = let same = greatest_refused _ c.args.caller c.args.world.now c.turn.new.self (as_refusal _ c.args.world.now c.turn.new.self c.args.caller (λ is_first. (open_quiet c.args.world.now c.args.caller c.args.call c.requires.called is_first).exchange) c.in-Err.ensures.err) in omega (arith, same, c.requires.known)

pub end-requires-clause-told : goal.end-requires-clause-told
end-requires-clause-told g c = (turn_told _ c.args.caller c.args.call c.has_proposed-proposed.result c.args.world.now c.turn.new.self c.requires.called (as_refusal _ c.args.world.now c.turn.new.self c.args.caller (λ is_first. (open_quiet c.args.world.now c.args.caller c.args.call c.requires.called is_first).exchange) c.in-Err.ensures.err) c.has_proposed-proposed.ensures.proposed)

pub returns-in-Ok-clause-kept : goal.returns-in-Ok-clause-kept
returns-in-Ok-clause-kept g c = (turn_ok _ c.args.caller c.args.call c.args.verdict c.args.world.now c.turn.new.self c.requires.called c.requires.kept c.requires.running (as_turn _ c.args.world.now c.turn.new.self c.args.caller c.args.verdict (λ is_first. (open_quiet c.args.world.now c.args.caller c.args.call c.requires.called is_first).exchange) c.in-Ok.ensures.ok)).kept

pub returns-in-Ok-clause-last_proposer : goal.returns-in-Ok-clause-last_proposer
returns-in-Ok-clause-last_proposer g c = (turn_ok _ c.args.caller c.args.call c.args.verdict c.args.world.now c.turn.new.self c.requires.called c.requires.kept c.requires.running (as_turn _ c.args.world.now c.turn.new.self c.args.caller c.args.verdict (λ is_first. (open_quiet c.args.world.now c.args.caller c.args.call c.requires.called is_first).exchange) c.in-Ok.ensures.ok)).last_proposer

pub returns-in-Ok-clause-goes_on : goal.returns-in-Ok-clause-goes_on
returns-in-Ok-clause-goes_on g c = (turn_ok _ c.args.caller c.args.call c.args.verdict c.args.world.now c.turn.new.self c.requires.called c.requires.kept c.requires.running (as_turn _ c.args.world.now c.turn.new.self c.args.caller c.args.verdict (λ is_first. (open_quiet c.args.world.now c.args.caller c.args.call c.requires.called is_first).exchange) c.in-Ok.ensures.ok)).does

pub returns-in-Err-clause-kept : goal.returns-in-Err-clause-kept
returns-in-Err-clause-kept g c = (turn_ends _ c.args.caller c.args.call (harm_by c.args.verdict) _ c.args.world.now c.turn.new.self c.end.new.self c.requires.called c.requires.kept c.requires.running (as_refusal _ c.args.world.now c.turn.new.self c.args.caller (λ is_first. (open_quiet c.args.world.now c.args.caller c.args.call c.requires.called is_first).exchange) c.in-Err.ensures.err) (turn_told _ c.args.caller c.args.call c.has_proposed-proposed.result c.args.world.now c.turn.new.self c.requires.called (as_refusal _ c.args.world.now c.turn.new.self c.args.caller (λ is_first. (open_quiet c.args.world.now c.args.caller c.args.call c.requires.called is_first).exchange) c.in-Err.ensures.err) c.has_proposed-proposed.ensures.proposed) c.end.ensures.step).kept

pub returns-in-Err-clause-last_proposer : goal.returns-in-Err-clause-last_proposer
returns-in-Err-clause-last_proposer g c = (turn_ends _ c.args.caller c.args.call (harm_by c.args.verdict) _ c.args.world.now c.turn.new.self c.end.new.self c.requires.called c.requires.kept c.requires.running (as_refusal _ c.args.world.now c.turn.new.self c.args.caller (λ is_first. (open_quiet c.args.world.now c.args.caller c.args.call c.requires.called is_first).exchange) c.in-Err.ensures.err) (turn_told _ c.args.caller c.args.call c.has_proposed-proposed.result c.args.world.now c.turn.new.self c.requires.called (as_refusal _ c.args.world.now c.turn.new.self c.args.caller (λ is_first. (open_quiet c.args.world.now c.args.caller c.args.call c.requires.called is_first).exchange) c.in-Err.ensures.err) c.has_proposed-proposed.ensures.proposed) c.end.ensures.step).last_proposer

pub returns-in-Err-clause-ends : goal.returns-in-Err-clause-ends
returns-in-Err-clause-ends g c = subst (EndsMarked c.args.caller c.args.call (harm_by c.args.verdict) c.args.world.now c.end.new.self) (sym c.end.ensures.same) (turn_ends _ c.args.caller c.args.call (harm_by c.args.verdict) _ c.args.world.now c.turn.new.self c.end.new.self c.requires.called c.requires.kept c.requires.running (as_refusal _ c.args.world.now c.turn.new.self c.args.caller (λ is_first. (open_quiet c.args.world.now c.args.caller c.args.call c.requires.called is_first).exchange) c.in-Err.ensures.err) (turn_told _ c.args.caller c.args.call c.has_proposed-proposed.result c.args.world.now c.turn.new.self c.requires.called (as_refusal _ c.args.world.now c.turn.new.self c.args.caller (λ is_first. (open_quiet c.args.world.now c.args.caller c.args.call c.requires.called is_first).exchange) c.in-Err.ensures.err) c.has_proposed-proposed.ensures.proposed) c.end.ensures.step).does

pub returns-in-Ok-clause-met : goal.returns-in-Ok-clause-met
returns-in-Ok-clause-met g c =
    let by = as_turn _ c.args.world.now c.turn.new.self c.args.caller c.args.verdict (λ is_first. (open_quiet c.args.world.now c.args.caller c.args.call c.requires.called is_first).exchange) c.in-Ok.ensures.ok in
    let held = turn_ok _ c.args.caller c.args.call c.args.verdict c.args.world.now c.turn.new.self c.requires.called c.requires.kept c.requires.running by in
    running_tells c.turn.new.self c.args.caller c.args.call c.stage_of.result held.does.is_open held.kept (turn_running _ c.args.caller c.args.verdict c.args.world.now c.turn.new.self c.requires.running by) c.stage_of.ensures

pub returns-in-Ok-clause-unmet : goal.returns-in-Ok-clause-unmet
returns-in-Ok-clause-unmet g c =
    let by = as_turn _ c.args.world.now c.turn.new.self c.args.caller c.args.verdict (λ is_first. (open_quiet c.args.world.now c.args.caller c.args.call c.requires.called is_first).exchange) c.in-Ok.ensures.ok in
    let held = turn_ok _ c.args.caller c.args.call c.args.verdict c.args.world.now c.turn.new.self c.requires.called c.requires.kept c.requires.running by in
    unmet_there c.turn.new.self c.args.caller c.args.call held.does.is_open held.kept (turn_running _ c.args.caller c.args.verdict c.args.world.now c.turn.new.self c.requires.running by)

pub returns-in-Err-clause-no_conflict : goal.returns-in-Err-clause-no_conflict
returns-in-Err-clause-no_conflict g c = ap is_conflict c.end.ensures.same
