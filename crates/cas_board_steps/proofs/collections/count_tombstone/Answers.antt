use Rattle.std.proofs.Common.{sym, subst, ◌∙◌}
use Rattle.std.specs.Prelude.{Err}
use Rattle.cas_board_steps.specs.Collection.Collecting.{CollectsIn}
use Rattle.cas_board_steps.proofs.Collection.RoundCalls.{calling_there, propose_told, done_calling, count_calling, count_stops}
use Rattle.cas_board_steps.proofs.Collection.RoundEnds.{counted_done, counted_not, done_held}
use Rattle.cas_board_steps.proofs.Calls.Tries.{told_within}
use Rattle.cas_board_steps.proofs.collections.count_tombstone.Goals as goal

pub count_tombstone-told-requires-clause-calling : goal.count_tombstone-told-requires-clause-calling
count_tombstone-told-requires-clause-calling g c = calling_there c.args.world.now c.args.key.now c.args.call c.requires.at c.requires.kept

pub end_collect-answer-requires-clause-told : goal.end_collect-answer-requires-clause-told
end_collect-answer-requires-clause-told g c = propose_told c.args.world.now c.count_tombstone-told.new.self c.args.key.now c.args.call c.count_tombstone-told.result c.requires.at c.count_tombstone-told.ensures.told

pub end_collect-answer-requires-clause-calling : goal.end_collect-answer-requires-clause-calling
end_collect-answer-requires-clause-calling g c = done_calling _ c.args.world.now c.count_tombstone-told.new.self c.args.key.now c.args.call c.count_tombstone-told.result c.requires.at c.requires.kept
    (counted_done _ c.args.world.now c.count_tombstone-told.new.self c.count_tombstone-told.result (sym c.is_done.ensures ∙ c.if-is_done.true) c.count_tombstone-told.ensures.step)
    (propose_told c.args.world.now c.count_tombstone-told.new.self c.args.key.now c.args.call c.count_tombstone-told.result c.requires.at c.count_tombstone-told.ensures.told)

pub returns-then-is_done-clause-kept : goal.returns-then-is_done-clause-kept
returns-then-is_done-clause-kept g c = (done_held _ c.args.key.now c.args.call 0 c.args.world.now c.count_tombstone-told.new.self c.end_collect-answer.new.self c.count_tombstone-told.result c.requires.at c.requires.kept (sym c.is_done.ensures ∙ c.if-is_done.true) c.count_tombstone-told.ensures.step c.end_collect-answer.ensures.step).kept

pub returns-then-is_done-clause-last_proposer : goal.returns-then-is_done-clause-last_proposer
returns-then-is_done-clause-last_proposer g c = (done_held _ c.args.key.now c.args.call 0 c.args.world.now c.count_tombstone-told.new.self c.end_collect-answer.new.self c.count_tombstone-told.result c.requires.at c.requires.kept (sym c.is_done.ensures ∙ c.if-is_done.true) c.count_tombstone-told.ensures.step c.end_collect-answer.ensures.step).last_proposer

pub returns-then-is_done-clause-collects : goal.returns-then-is_done-clause-collects
returns-then-is_done-clause-collects g c tries most = (done_held _ c.args.key.now c.args.call most c.args.world.now c.count_tombstone-told.new.self c.end_collect-answer.new.self c.count_tombstone-told.result c.requires.at c.requires.kept (sym c.is_done.ensures ∙ c.if-is_done.true) c.count_tombstone-told.ensures.step c.end_collect-answer.ensures.step).does

pub stop-requires-clause-told : goal.stop-requires-clause-told
stop-requires-clause-told g c = propose_told c.args.world.now c.count_tombstone-told.new.self c.args.key.now c.args.call c.count_tombstone-told.result c.requires.at c.count_tombstone-told.ensures.told

pub stop-requires-clause-calling : goal.stop-requires-clause-calling
stop-requires-clause-calling g c = count_calling _ c.args.world.now c.count_tombstone-told.new.self c.args.key.now c.args.call c.count_tombstone-told.result c.requires.at c.requires.kept
    (counted_not _ c.args.world.now c.count_tombstone-told.new.self c.count_tombstone-told.result (sym c.is_done.ensures ∙ c.if-is_done.false) c.count_tombstone-told.ensures.step)
    (propose_told c.args.world.now c.count_tombstone-told.new.self c.args.key.now c.args.call c.count_tombstone-told.result c.requires.at c.count_tombstone-told.ensures.told)

pub returns-clause-kept : goal.returns-clause-kept
returns-clause-kept g c = (count_stops _ c.args.key.now c.args.call 0 c.args.world.now c.count_tombstone-told.new.self c.stop.new.world c.count_tombstone-told.result c.requires.at c.requires.kept (counted_not _ c.args.world.now c.count_tombstone-told.new.self c.count_tombstone-told.result (sym c.is_done.ensures ∙ c.if-is_done.false) c.count_tombstone-told.ensures.step) (propose_told c.args.world.now c.count_tombstone-told.new.self c.args.key.now c.args.call c.count_tombstone-told.result c.requires.at c.count_tombstone-told.ensures.told) (sym c.is_done.ensures ∙ c.if-is_done.false) c.stop.ensures.stops).kept

pub returns-clause-last_proposer : goal.returns-clause-last_proposer
returns-clause-last_proposer g c = (count_stops _ c.args.key.now c.args.call 0 c.args.world.now c.count_tombstone-told.new.self c.stop.new.world c.count_tombstone-told.result c.requires.at c.requires.kept (counted_not _ c.args.world.now c.count_tombstone-told.new.self c.count_tombstone-told.result (sym c.is_done.ensures ∙ c.if-is_done.false) c.count_tombstone-told.ensures.step) (propose_told c.args.world.now c.count_tombstone-told.new.self c.args.key.now c.args.call c.count_tombstone-told.result c.requires.at c.count_tombstone-told.ensures.told) (sym c.is_done.ensures ∙ c.if-is_done.false) c.stop.ensures.stops).last_proposer

pub returns-clause-collects : goal.returns-clause-collects
returns-clause-collects g c tries most = subst (λ a. CollectsIn c.args.key.now tries most c.args.world.now c.stop.new.world (Err a)) (sym c.stop.ensures.same) (told_within c.args.key.now tries (count_stops _ c.args.key.now c.args.call most c.args.world.now c.count_tombstone-told.new.self c.stop.new.world c.count_tombstone-told.result c.requires.at c.requires.kept (counted_not _ c.args.world.now c.count_tombstone-told.new.self c.count_tombstone-told.result (sym c.is_done.ensures ∙ c.if-is_done.false) c.count_tombstone-told.ensures.step) (propose_told c.args.world.now c.count_tombstone-told.new.self c.args.key.now c.args.call c.count_tombstone-told.result c.requires.at c.count_tombstone-told.ensures.told) (sym c.is_done.ensures ∙ c.if-is_done.false) c.stop.ensures.stops).does)
