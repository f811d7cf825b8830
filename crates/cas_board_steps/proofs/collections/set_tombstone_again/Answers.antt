use Rattle.std.proofs.Common.{sym, subst}
use Rattle.std.specs.Prelude.{Err}
use Rattle.cas_board_steps.specs.Collection.Collecting.{CollectsIn}
use Rattle.cas_board_steps.proofs.Collection.RoundCalls.{may_again, again_may, again_held, again_within, again_stops, again_told, again_calling}
use Rattle.cas_board_steps.proofs.Calls.Tries.{told_within}
use Rattle.cas_board_steps.proofs.collections.set_tombstone_again.Goals as goal

pub begin_collect-requires-clause-asked : goal.begin_collect-requires-clause-asked
begin_collect-requires-clause-asked g c = may_again c.args.world.now c.args.key.now c.args.call _ c.requires.at

pub begin_collect-requires-clause-may : goal.begin_collect-requires-clause-may
begin_collect-requires-clause-may g c = again_may c.args.world.now c.args.key.now c.args.call c.args.program.now c.requires.keeps c.requires.kept c.requires.at c.requires.idle c.requires.unclosed

pub returns-in-Ok-clause-kept : goal.returns-in-Ok-clause-kept
returns-in-Ok-clause-kept g c = (again_held _ c.args.key.now c.args.call 0 c.args.world.now c.begin_collect.new.self c.requires.at c.requires.kept c.begin_collect.ensures.step c.in-Ok.ensures.ok).kept

pub returns-in-Ok-clause-last_proposer : goal.returns-in-Ok-clause-last_proposer
returns-in-Ok-clause-last_proposer g c = (again_held _ c.args.key.now c.args.call 0 c.args.world.now c.begin_collect.new.self c.requires.at c.requires.kept c.begin_collect.ensures.step c.in-Ok.ensures.ok).last_proposer

pub returns-in-Ok-clause-collects : goal.returns-in-Ok-clause-collects
returns-in-Ok-clause-collects g c tries most within =
    let does = (again_held _ c.args.key.now c.args.call most c.args.world.now c.begin_collect.new.self c.requires.at c.requires.kept c.begin_collect.ensures.step c.in-Ok.ensures.ok).does in
    (does.0, (does.1, again_within _ c.args.key.now c.args.call tries c.args.rounds c.saturating_add.result c.args.world.now c.begin_collect.new.self c.requires.at c.begin_collect.ensures.step c.saturating_add.ensures within))

pub stop-requires-clause-told : goal.stop-requires-clause-told
stop-requires-clause-told g c = (again_told c.args.world.now c.begin_collect.new.self c.args.key.now c.args.call c.in-Err-Stopped.field-0 c.in-Err-Stopped.told c.requires.at c.in-Err-Stopped.ensures.err c.in-Err-Stopped.field-0-is).was

pub stop-requires-clause-undone : goal.stop-requires-clause-undone
stop-requires-clause-undone g c = (again_told c.args.world.now c.begin_collect.new.self c.args.key.now c.args.call c.in-Err-Stopped.field-0 c.in-Err-Stopped.told c.requires.at c.in-Err-Stopped.ensures.err c.in-Err-Stopped.field-0-is).undone

pub stop-requires-clause-calling : goal.stop-requires-clause-calling
stop-requires-clause-calling g c = again_calling _ c.args.world.now c.begin_collect.new.self c.args.key.now c.args.call c.in-Err-Stopped.told c.requires.at c.requires.kept c.begin_collect.ensures.step (again_told c.args.world.now c.begin_collect.new.self c.args.key.now c.args.call c.in-Err-Stopped.field-0 c.in-Err-Stopped.told c.requires.at c.in-Err-Stopped.ensures.err c.in-Err-Stopped.field-0-is).was

pub returns-in-Err-Stopped-clause-kept : goal.returns-in-Err-Stopped-clause-kept
returns-in-Err-Stopped-clause-kept g c = (again_stops _ c.args.key.now c.args.call 0 c.args.world.now c.begin_collect.new.self c.stop.new.world c.in-Err-Stopped.told c.requires.at c.requires.kept c.begin_collect.ensures.step (again_told c.args.world.now c.begin_collect.new.self c.args.key.now c.args.call c.in-Err-Stopped.field-0 c.in-Err-Stopped.told c.requires.at c.in-Err-Stopped.ensures.err c.in-Err-Stopped.field-0-is).was (again_told c.args.world.now c.begin_collect.new.self c.args.key.now c.args.call c.in-Err-Stopped.field-0 c.in-Err-Stopped.told c.requires.at c.in-Err-Stopped.ensures.err c.in-Err-Stopped.field-0-is).undone c.stop.ensures.stops).kept

pub returns-in-Err-Stopped-clause-last_proposer : goal.returns-in-Err-Stopped-clause-last_proposer
returns-in-Err-Stopped-clause-last_proposer g c = (again_stops _ c.args.key.now c.args.call 0 c.args.world.now c.begin_collect.new.self c.stop.new.world c.in-Err-Stopped.told c.requires.at c.requires.kept c.begin_collect.ensures.step (again_told c.args.world.now c.begin_collect.new.self c.args.key.now c.args.call c.in-Err-Stopped.field-0 c.in-Err-Stopped.told c.requires.at c.in-Err-Stopped.ensures.err c.in-Err-Stopped.field-0-is).was (again_told c.args.world.now c.begin_collect.new.self c.args.key.now c.args.call c.in-Err-Stopped.field-0 c.in-Err-Stopped.told c.requires.at c.in-Err-Stopped.ensures.err c.in-Err-Stopped.field-0-is).undone c.stop.ensures.stops).last_proposer

pub returns-in-Err-Stopped-clause-collects : goal.returns-in-Err-Stopped-clause-collects
returns-in-Err-Stopped-clause-collects g c tries most within = subst (λ a. CollectsIn c.args.key.now tries most c.args.world.now c.stop.new.world (Err a)) (sym c.stop.ensures.same) (told_within c.args.key.now tries (again_stops _ c.args.key.now c.args.call most c.args.world.now c.begin_collect.new.self c.stop.new.world c.in-Err-Stopped.told c.requires.at c.requires.kept c.begin_collect.ensures.step (again_told c.args.world.now c.begin_collect.new.self c.args.key.now c.args.call c.in-Err-Stopped.field-0 c.in-Err-Stopped.told c.requires.at c.in-Err-Stopped.ensures.err c.in-Err-Stopped.field-0-is).was (again_told c.args.world.now c.begin_collect.new.self c.args.key.now c.args.call c.in-Err-Stopped.field-0 c.in-Err-Stopped.told c.requires.at c.in-Err-Stopped.ensures.err c.in-Err-Stopped.field-0-is).undone c.stop.ensures.stops).does)
