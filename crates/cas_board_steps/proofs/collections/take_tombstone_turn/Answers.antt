use Rattle.std.proofs.Common.{sym, subst, refl}
use Rattle.std.specs.Prelude.{Err}
use Rattle.cas_record.specs.declared.answer.Answer.TheVariants as answer
use Rattle.cas_board_steps.specs.Collection.Collecting.{CollectsIn}
use Rattle.cas_board_steps.specs.Calls.Changes.{harm_by}
use Rattle.cas_board_steps.proofs.Collection.RoundCalls.{tombstone_waits, tombstone_turn, tombstone_refusal, turn_held, turn_within, turn_said, turn_calling, turn_stops}
use Rattle.cas_board_steps.proofs.Calls.Tries.{told_within}
use Rattle.cas_board_steps.proofs.collections.take_tombstone_turn.Goals as goal

pub turn-requires-clause-waits : goal.turn-requires-clause-waits
turn-requires-clause-waits g c = tombstone_waits c.args.world.now c.args.key.now c.args.call c.requires.at c.requires.waits

pub returns-in-Ok-clause-kept : goal.returns-in-Ok-clause-kept
returns-in-Ok-clause-kept g c = (turn_held _ c.args.key.now c.args.call c.args.verdict c.args.world.now c.turn.new.self c.requires.at c.requires.kept c.requires.running (tombstone_turn _ c.args.world.now c.turn.new.self c.args.key.now c.args.call c.args.verdict c.requires.at c.in-Ok.ensures.ok)).kept

pub returns-in-Ok-clause-last_proposer : goal.returns-in-Ok-clause-last_proposer
returns-in-Ok-clause-last_proposer g c = (turn_held _ c.args.key.now c.args.call c.args.verdict c.args.world.now c.turn.new.self c.requires.at c.requires.kept c.requires.running (tombstone_turn _ c.args.world.now c.turn.new.self c.args.key.now c.args.call c.args.verdict c.requires.at c.in-Ok.ensures.ok)).last_proposer

pub returns-in-Ok-clause-collects : goal.returns-in-Ok-clause-collects
returns-in-Ok-clause-collects g c tries within =
    let by = tombstone_turn _ c.args.world.now c.turn.new.self c.args.key.now c.args.call c.args.verdict c.requires.at c.in-Ok.ensures.ok in
    let does = (turn_held _ c.args.key.now c.args.call c.args.verdict c.args.world.now c.turn.new.self c.requires.at c.requires.kept c.requires.running by).does in
    (does.0, (does.1, turn_within _ c.args.key.now c.args.call tries c.args.rounds c.args.verdict c.args.world.now c.turn.new.self c.requires.at c.requires.kept c.requires.running by within))

pub stop-requires-clause-told : goal.stop-requires-clause-told
stop-requires-clause-told g c = (turn_said _ c.args.world.now c.turn.new.self c.args.key.now c.args.call c.has_proposed-proposed.result c.requires.at (tombstone_refusal _ c.args.world.now c.turn.new.self c.args.key.now c.args.call c.requires.at c.in-Err.ensures.err) c.has_proposed-proposed.ensures.proposed)

pub stop-requires-clause-calling : goal.stop-requires-clause-calling
stop-requires-clause-calling g c = turn_calling _ c.args.world.now c.turn.new.self c.args.key.now c.args.call (answer.NoMemory c.has_proposed-proposed.result) c.requires.at c.requires.kept (tombstone_refusal _ c.args.world.now c.turn.new.self c.args.key.now c.args.call c.requires.at c.in-Err.ensures.err) (turn_said _ c.args.world.now c.turn.new.self c.args.key.now c.args.call c.has_proposed-proposed.result c.requires.at (tombstone_refusal _ c.args.world.now c.turn.new.self c.args.key.now c.args.call c.requires.at c.in-Err.ensures.err) c.has_proposed-proposed.ensures.proposed)

pub returns-in-Err-clause-kept : goal.returns-in-Err-clause-kept
returns-in-Err-clause-kept g c = (turn_stops _ c.args.key.now c.args.call (harm_by c.args.verdict) c.args.world.now c.turn.new.self c.stop.new.world (answer.NoMemory c.has_proposed-proposed.result) c.requires.at c.requires.kept (tombstone_refusal _ c.args.world.now c.turn.new.self c.args.key.now c.args.call c.requires.at c.in-Err.ensures.err) (turn_said _ c.args.world.now c.turn.new.self c.args.key.now c.args.call c.has_proposed-proposed.result c.requires.at (tombstone_refusal _ c.args.world.now c.turn.new.self c.args.key.now c.args.call c.requires.at c.in-Err.ensures.err) c.has_proposed-proposed.ensures.proposed) refl refl c.stop.ensures.stops).kept

pub returns-in-Err-clause-last_proposer : goal.returns-in-Err-clause-last_proposer
returns-in-Err-clause-last_proposer g c = (turn_stops _ c.args.key.now c.args.call (harm_by c.args.verdict) c.args.world.now c.turn.new.self c.stop.new.world (answer.NoMemory c.has_proposed-proposed.result) c.requires.at c.requires.kept (tombstone_refusal _ c.args.world.now c.turn.new.self c.args.key.now c.args.call c.requires.at c.in-Err.ensures.err) (turn_said _ c.args.world.now c.turn.new.self c.args.key.now c.args.call c.has_proposed-proposed.result c.requires.at (tombstone_refusal _ c.args.world.now c.turn.new.self c.args.key.now c.args.call c.requires.at c.in-Err.ensures.err) c.has_proposed-proposed.ensures.proposed) refl refl c.stop.ensures.stops).last_proposer

pub returns-in-Err-clause-collects : goal.returns-in-Err-clause-collects
returns-in-Err-clause-collects g c tries within = subst (λ a. CollectsIn c.args.key.now tries (harm_by c.args.verdict) c.args.world.now c.stop.new.world (Err a)) (sym c.stop.ensures.same) (told_within c.args.key.now tries (turn_stops _ c.args.key.now c.args.call (harm_by c.args.verdict) c.args.world.now c.turn.new.self c.stop.new.world (answer.NoMemory c.has_proposed-proposed.result) c.requires.at c.requires.kept (tombstone_refusal _ c.args.world.now c.turn.new.self c.args.key.now c.args.call c.requires.at c.in-Err.ensures.err) (turn_said _ c.args.world.now c.turn.new.self c.args.key.now c.args.call c.has_proposed-proposed.result c.requires.at (tombstone_refusal _ c.args.world.now c.turn.new.self c.args.key.now c.args.call c.requires.at c.in-Err.ensures.err) c.has_proposed-proposed.ensures.proposed) refl refl c.stop.ensures.stops).does)
