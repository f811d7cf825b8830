use Rattle.std.proofs.Common.{Bool, not, sym, ap, subst, ◌∙◌}
use Rattle.cas_world.specs.World.{IsInPhase}
use Rattle.cas_board_steps.specs.Calls.Conflicts.{is_conflict}
use Rattle.cas_board_steps.specs.Calls.Changes.{EndsMarked, harm_by}
use Rattle.cas_board_steps.proofs.Calls.Holds.{closed_ends, count_ends, no_conflict_counted, on_ok, if_err}
use Rattle.cas_board_steps.proofs.Parts.{open_quiet}
use Rattle.cas_board_steps.proofs.Calls.Stages.{closed_was_told, closed_unmet, closed_no_conflict, is_idle, is_through, shown_there, none_waits, some_waits, in_phase}
use Rattle.cas_flow.specs.Flow.{queue_at}
use Rattle.cas_board_steps.proofs.changes.go_on.Goals as goal

pub end-requires-clause-told : goal.end-requires-clause-told
end-requires-clause-told g c = closed_was_told c.args.world.now c.args.caller c.args.call c.in-Some.told c.closed.result c.requires.called c.closed.ensures c.in-Some.is

pub returns-in-Some-clause-kept : goal.returns-in-Some-clause-kept
returns-in-Some-clause-kept g c = (closed_ends _ c.args.caller c.args.call (harm_by c.args.verdict) c.in-Some.told c.args.world.now c.end.new.self c.requires.called c.requires.kept (closed_unmet c.args.world.now c.args.caller c.args.call c.in-Some.told c.closed.result c.requires.called c.requires.kept c.closed.ensures c.in-Some.is) c.end.ensures.step).kept

pub returns-in-Some-clause-ends : goal.returns-in-Some-clause-ends
returns-in-Some-clause-ends g c = subst (EndsMarked c.args.caller c.args.call (harm_by c.args.verdict) c.args.world.now c.end.new.self) (sym c.end.ensures.same) (closed_ends _ c.args.caller c.args.call (harm_by c.args.verdict) c.in-Some.told c.args.world.now c.end.new.self c.requires.called c.requires.kept (closed_unmet c.args.world.now c.args.caller c.args.call c.in-Some.told c.closed.result c.requires.called c.requires.kept c.closed.ensures c.in-Some.is) c.end.ensures.step).does

pub begin_again-requires-clause-idle : goal.begin_again-requires-clause-idle
begin_again-requires-clause-idle g c = is_idle c.args.world.now c.args.caller c.verdict.result c.verdict.ensures (c.is_none.ensures ∙ ap not c.if-is_none.true)

pub take_turn-requires-clause-running : goal.take_turn-requires-clause-running
take_turn-requires-clause-running g c = is_through c.args.world.now c.args.caller c.verdict.result c.verdict.ensures (c.is_none.ensures ∙ ap not c.if-is_none.false)

pub take_turn-requires-clause-waits : goal.take_turn-requires-clause-waits
take_turn-requires-clause-waits g c = some_waits (queue_at c.args.world.now.flow c.args.caller).messages c.front.result
    (shown_there c.args.world.now c.args.caller c.front.result (λ is_first. (open_quiet c.args.world.now c.args.caller c.args.call c.requires.called is_first).exchange) c.front.ensures) (sym c.is_some.ensures ∙ c.if-is_some.true)

pub count-told-requires-clause-counting : goal.count-told-requires-clause-counting
count-told-requires-clause-counting g c = subst (λ (b : Bool). IsInPhase c.args.world.now c.args.caller (not b)) c.if-has_proposed.true
    (in_phase c.args.world.now c.args.caller c.has_proposed.result c.requires.known c.requires.kept
    (is_through c.args.world.now c.args.caller c.verdict.result c.verdict.ensures (c.is_none.ensures ∙ ap not c.if-is_none.false)) c.has_proposed.ensures.phase
    (none_waits (queue_at c.args.world.now.flow c.args.caller).messages c.front.result
    (shown_there c.args.world.now c.args.caller c.front.result (λ is_first. (open_quiet c.args.world.now c.args.caller c.args.call c.requires.called is_first).exchange) c.front.ensures) (sym c.is_some.ensures ∙ c.if-is_some.false)))

pub returns-then-has_proposed-clause-kept : goal.returns-then-has_proposed-clause-kept
returns-then-has_proposed-clause-kept g c = (count_ends _ c.args.caller c.args.call (harm_by c.args.verdict) c.count-told.result c.args.world.now c.count-told.new.self c.end-then-has_proposed.new.self c.requires.called c.requires.kept c.count-told.ensures.step c.end-then-has_proposed.ensures.step).kept

pub returns-then-has_proposed-clause-ends : goal.returns-then-has_proposed-clause-ends
returns-then-has_proposed-clause-ends g c = subst (EndsMarked c.args.caller c.args.call (harm_by c.args.verdict) c.args.world.now c.end-then-has_proposed.new.self) (sym c.end-then-has_proposed.ensures.same) (count_ends _ c.args.caller c.args.call (harm_by c.args.verdict) c.count-told.result c.args.world.now c.count-told.new.self c.end-then-has_proposed.new.self c.requires.called c.requires.kept c.count-told.ensures.step c.end-then-has_proposed.ensures.step).does

pub propose-requires-clause-preparing : goal.propose-requires-clause-preparing
propose-requires-clause-preparing g c = subst (λ (b : Bool). IsInPhase c.args.world.now c.args.caller (not b)) c.if-has_proposed.false
    (in_phase c.args.world.now c.args.caller c.has_proposed.result c.requires.known c.requires.kept
    (is_through c.args.world.now c.args.caller c.verdict.result c.verdict.ensures (c.is_none.ensures ∙ ap not c.if-is_none.false)) c.has_proposed.ensures.phase
    (none_waits (queue_at c.args.world.now.flow c.args.caller).messages c.front.result
    (shown_there c.args.world.now c.args.caller c.front.result (λ is_first. (open_quiet c.args.world.now c.args.caller c.args.call c.requires.called is_first).exchange) c.front.ensures) (sym c.is_some.ensures ∙ c.if-is_some.false)))

pub returns-in-Some-clause-last : goal.returns-in-Some-clause-last
returns-in-Some-clause-last g c conflict =
    absurd (cc (closed_no_conflict c.args.world.now c.args.caller c.args.call c.in-Some.told c.closed.result c.requires.called c.requires.kept c.closed.ensures c.in-Some.is, sym (ap is_conflict c.end.ensures.same) ∙ conflict))

pub returns-then-has_proposed-clause-last : goal.returns-then-has_proposed-clause-last
returns-then-has_proposed-clause-last g c conflict =
    absurd (cc (no_conflict_counted c.args.world.now c.args.caller c.count-told.result c.count-told.ensures.cause, sym (ap is_conflict c.end-then-has_proposed.ensures.same) ∙ conflict))

pub returns-then-is_none-clause-repeats : goal.returns-then-is_none-clause-repeats
returns-then-is_none-clause-repeats g c = on_ok c.begin_again.result (λ unmet met. absurd (cc (unmet, met))) c.begin_again.ensures.unmet

pub returns-then-is_none-clause-last : goal.returns-then-is_none-clause-last
returns-then-is_none-clause-last g c = if_err c.begin_again.result (λ told none conflict. absurd (cc (none, conflict))) c.begin_again.ensures.no_conflict

pub returns-then-is_some-clause-repeats : goal.returns-then-is_some-clause-repeats
returns-then-is_some-clause-repeats g c = on_ok c.take_turn.result (λ unmet met. absurd (cc (unmet, met))) c.take_turn.ensures.unmet

pub returns-then-is_some-clause-last : goal.returns-then-is_some-clause-last
returns-then-is_some-clause-last g c = if_err c.take_turn.result (λ told none conflict. absurd (cc (none, conflict))) c.take_turn.ensures.no_conflict
