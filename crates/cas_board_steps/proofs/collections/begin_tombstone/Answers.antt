use Rattle.std.proofs.Common.{sym, subst}
use Rattle.std.specs.Prelude.{Err}
use Rattle.cas_board_steps.specs.Collection.Collecting.{CollectsIn}
use Rattle.cas_board_steps.proofs.Collection.RoundCalls.{may_first, first_may, begun_held, begun_within, refused_tombstone, refusal_held}
use Rattle.cas_board_steps.proofs.Calls.Tries.{told_within}
use Rattle.cas_board_steps.proofs.collections.begin_tombstone.Goals as goal

pub begin_collect-requires-clause-asked : goal.begin_collect-requires-clause-asked
begin_collect-requires-clause-asked g c = may_first c.args.world.now c.args.key.now c.requires.at

pub begin_collect-requires-clause-may : goal.begin_collect-requires-clause-may
begin_collect-requires-clause-may g c = first_may c.args.world.now c.args.key.now c.next_call-call.result c.args.program.now c.next_call-call.ensures c.requires.at

pub refuse_tombstone-requires : goal.refuse_tombstone-requires
refuse_tombstone-requires g c = record { refused = refused_tombstone _ c.args.key.now c.next_call-call.result c.args.world.now c.begin_collect.new.self c.in-Err.refusal c.requires.kept c.requires.at c.begin_collect.ensures.step c.in-Err.ensures.err }

pub returns-in-Ok-clause-kept : goal.returns-in-Ok-clause-kept
returns-in-Ok-clause-kept g c = (begun_held _ c.args.key.now c.next_call-call.result 0 c.args.world.now c.begin_collect.new.self c.next_call-call.ensures c.requires.at c.requires.kept c.begin_collect.ensures.step c.in-Ok.ensures.ok).kept

pub returns-in-Ok-clause-last_proposer : goal.returns-in-Ok-clause-last_proposer
returns-in-Ok-clause-last_proposer g c = (begun_held _ c.args.key.now c.next_call-call.result 0 c.args.world.now c.begin_collect.new.self c.next_call-call.ensures c.requires.at c.requires.kept c.begin_collect.ensures.step c.in-Ok.ensures.ok).last_proposer

pub returns-in-Ok-clause-collects : goal.returns-in-Ok-clause-collects
returns-in-Ok-clause-collects g c tries most some =
    let does = (begun_held _ c.args.key.now c.next_call-call.result most c.args.world.now c.begin_collect.new.self c.next_call-call.ensures c.requires.at c.requires.kept c.begin_collect.ensures.step c.in-Ok.ensures.ok).does in
    (does.0, (does.1, begun_within _ c.args.key.now c.next_call-call.result tries c.args.world.now c.begin_collect.new.self c.requires.at c.begin_collect.ensures.step c.in-Ok.ensures.ok some))

pub returns-in-Err-clause-kept : goal.returns-in-Err-clause-kept
returns-in-Err-clause-kept g c = (refusal_held _ c.args.key.now c.next_call-call.result 0 c.args.world.now c.begin_collect.new.self c.refuse_tombstone.new.world c.in-Err.refusal c.next_call-call.ensures c.requires.at c.requires.kept c.begin_collect.ensures.step c.in-Err.ensures.err c.refuse_tombstone.ensures.stops).kept

pub returns-in-Err-clause-last_proposer : goal.returns-in-Err-clause-last_proposer
returns-in-Err-clause-last_proposer g c = (refusal_held _ c.args.key.now c.next_call-call.result 0 c.args.world.now c.begin_collect.new.self c.refuse_tombstone.new.world c.in-Err.refusal c.next_call-call.ensures c.requires.at c.requires.kept c.begin_collect.ensures.step c.in-Err.ensures.err c.refuse_tombstone.ensures.stops).last_proposer

pub returns-in-Err-clause-collects : goal.returns-in-Err-clause-collects
returns-in-Err-clause-collects g c tries most some = subst (λ a. CollectsIn c.args.key.now tries most c.args.world.now c.refuse_tombstone.new.world (Err a)) (sym c.refuse_tombstone.ensures.same) (told_within c.args.key.now tries (refusal_held _ c.args.key.now c.next_call-call.result most c.args.world.now c.begin_collect.new.self c.refuse_tombstone.new.world c.in-Err.refusal c.next_call-call.ensures c.requires.at c.requires.kept c.begin_collect.ensures.step c.in-Err.ensures.err c.refuse_tombstone.ensures.stops).does)
