use Rattle.std.proofs.Common.{Bool, not, sym, ap, subst, ◌∙◌, arith}
use Rattle.std.specs.Prelude.{Err}
use Rattle.cas_flow.specs.Flow.{queue_at}
use Rattle.cas_world.specs.World.{IsInPhase}
use Rattle.cas_board_steps.specs.Collection.Collecting.{CollectsIn, most_rounds}
use Rattle.cas_board_steps.specs.Calls.Changes.{harm_by}
use Rattle.cas_board_steps.proofs.Collection.RoundCalls.{calling_there, closed_stops}
use Rattle.cas_board_steps.proofs.Collection.RoundStages.{tombstone_open, closed_undone}
use Rattle.cas_board_steps.proofs.Collection.Collecting.{is_setting_tombstone}
use Rattle.cas_board_steps.proofs.Calls.Stages.{closed_was_told, closed_no_conflict, is_idle, is_through, shown_there, none_waits, some_waits, in_phase}
use Rattle.cas_board_steps.proofs.Calls.Tries.{told_within}
use Rattle.cas_board_steps.proofs.collections.go_on_setting_tombstone.Goals as goal

pub stop-requires-clause-told : goal.stop-requires-clause-told
stop-requires-clause-told g c = closed_was_told c.args.world.now 0 c.args.call c.in-Some.told c.closed.result (tombstone_open c.args.key.now c.args.call _ _ c.requires.at) c.closed.ensures c.in-Some.is

pub stop-requires-clause-calling : goal.stop-requires-clause-calling
stop-requires-clause-calling g c = calling_there c.args.world.now c.args.key.now c.args.call c.requires.at c.requires.kept

pub stop-requires-clause-undone : goal.stop-requires-clause-undone
stop-requires-clause-undone g c = closed_undone c.args.world.now c.args.key.now c.args.call c.in-Some.told c.closed.result c.requires.at c.closed.ensures c.in-Some.is

pub returns-in-Some-clause-kept : goal.returns-in-Some-clause-kept
returns-in-Some-clause-kept g c = (closed_stops _ c.args.key.now c.args.call (harm_by c.args.verdict) c.args.world.now c.stop.new.world c.in-Some.told c.requires.at c.requires.kept (closed_undone c.args.world.now c.args.key.now c.args.call c.in-Some.told c.closed.result c.requires.at c.closed.ensures c.in-Some.is) (closed_no_conflict c.args.world.now 0 c.args.call c.in-Some.told c.closed.result (tombstone_open c.args.key.now c.args.call _ _ c.requires.at) c.requires.kept c.closed.ensures c.in-Some.is) c.stop.ensures.stops).kept

pub returns-in-Some-clause-last_proposer : goal.returns-in-Some-clause-last_proposer
returns-in-Some-clause-last_proposer g c = (closed_stops _ c.args.key.now c.args.call (harm_by c.args.verdict) c.args.world.now c.stop.new.world c.in-Some.told c.requires.at c.requires.kept (closed_undone c.args.world.now c.args.key.now c.args.call c.in-Some.told c.closed.result c.requires.at c.closed.ensures c.in-Some.is) (closed_no_conflict c.args.world.now 0 c.args.call c.in-Some.told c.closed.result (tombstone_open c.args.key.now c.args.call _ _ c.requires.at) c.requires.kept c.closed.ensures c.in-Some.is) c.stop.ensures.stops).last_proposer

pub returns-in-Some-clause-collects : goal.returns-in-Some-clause-collects
returns-in-Some-clause-collects g c = subst (λ a. CollectsIn c.args.key.now (most_rounds c.args.tries) (harm_by c.args.verdict) c.args.world.now c.stop.new.world (Err a)) (sym c.stop.ensures.same) (told_within c.args.key.now (most_rounds c.args.tries) (closed_stops _ c.args.key.now c.args.call (harm_by c.args.verdict) c.args.world.now c.stop.new.world c.in-Some.told c.requires.at c.requires.kept (closed_undone c.args.world.now c.args.key.now c.args.call c.in-Some.told c.closed.result c.requires.at c.closed.ensures c.in-Some.is) (closed_no_conflict c.args.world.now 0 c.args.call c.in-Some.told c.closed.result (tombstone_open c.args.key.now c.args.call _ _ c.requires.at) c.requires.kept c.closed.ensures c.in-Some.is) c.stop.ensures.stops).does)

pub set_tombstone_again-requires-clause-idle : goal.set_tombstone_again-requires-clause-idle
set_tombstone_again-requires-clause-idle g c = is_idle c.args.world.now 0 c.verdict.result c.verdict.ensures (c.is_none.ensures ∙ ap not c.if-is_none.true)

pub take_tombstone_turn-requires-clause-running : goal.take_tombstone_turn-requires-clause-running
take_tombstone_turn-requires-clause-running g c = is_through c.args.world.now 0 c.verdict.result c.verdict.ensures (c.is_none.ensures ∙ ap not c.if-is_none.false)

pub take_tombstone_turn-requires-clause-waits : goal.take_tombstone_turn-requires-clause-waits
take_tombstone_turn-requires-clause-waits g c = some_waits (queue_at c.args.world.now.flow 0).messages c.front.result (shown_there c.args.world.now 0 c.front.result (λ is_first. (is_setting_tombstone c.args.world.now c.args.key.now c.args.call _ c.requires.at).none_asked) c.front.ensures) (sym c.is_some.ensures ∙ c.if-is_some.true)

pub count_tombstone-requires-clause-counting : goal.count_tombstone-requires-clause-counting
count_tombstone-requires-clause-counting g c = subst (λ (b : Bool). IsInPhase c.args.world.now 0 (not b)) c.if-has_proposed.true
    (in_phase c.args.world.now 0 c.has_proposed.result (omega arith) c.requires.kept
    (is_through c.args.world.now 0 c.verdict.result c.verdict.ensures (c.is_none.ensures ∙ ap not c.if-is_none.false)) c.has_proposed.ensures.phase
    (none_waits (queue_at c.args.world.now.flow 0).messages c.front.result (shown_there c.args.world.now 0 c.front.result (λ is_first. (is_setting_tombstone c.args.world.now c.args.key.now c.args.call _ c.requires.at).none_asked) c.front.ensures) (sym c.is_some.ensures ∙ c.if-is_some.false)))

pub propose_tombstone-requires-clause-preparing : goal.propose_tombstone-requires-clause-preparing
propose_tombstone-requires-clause-preparing g c = subst (λ (b : Bool). IsInPhase c.args.world.now 0 (not b)) c.if-has_proposed.false
    (in_phase c.args.world.now 0 c.has_proposed.result (omega arith) c.requires.kept
    (is_through c.args.world.now 0 c.verdict.result c.verdict.ensures (c.is_none.ensures ∙ ap not c.if-is_none.false)) c.has_proposed.ensures.phase
    (none_waits (queue_at c.args.world.now.flow 0).messages c.front.result (shown_there c.args.world.now 0 c.front.result (λ is_first. (is_setting_tombstone c.args.world.now c.args.key.now c.args.call _ c.requires.at).none_asked) c.front.ensures) (sym c.is_some.ensures ∙ c.if-is_some.false)))

pub returns-then-is_none-clause-collects : goal.returns-then-is_none-clause-collects
returns-then-is_none-clause-collects g c = c.set_tombstone_again.ensures.collects (most_rounds c.args.tries) (harm_by c.args.verdict) c.requires.within

pub returns-then-has_proposed-clause-collects : goal.returns-then-has_proposed-clause-collects
returns-then-has_proposed-clause-collects g c = c.count_tombstone.ensures.collects (most_rounds c.args.tries) (harm_by c.args.verdict)

pub returns-clause-collects : goal.returns-clause-collects
returns-clause-collects g c = c.propose_tombstone.ensures.collects (harm_by c.args.verdict)

pub returns-then-is_some-clause-collects : goal.returns-then-is_some-clause-collects
returns-then-is_some-clause-collects g c = c.take_tombstone_turn.ensures.collects (most_rounds c.args.tries) c.requires.within
