use Rattle.std.proofs.Common.{false, refl, sym, subst, ◌∙◌}
use Rattle.cas_record.specs.declared.answer.Answer.TheVariants as answer
use Rattle.cas_world.specs.Eras.Plans.{MayTell, was_told}
use Rattle.cas_board_steps.specs.Calls.Changes.{harm_by}
use Rattle.cas_board_steps.specs.Exchanges.Orders.{asked_for, IsToldIn, IsAskingHarm}
use Rattle.cas_board_steps.proofs.Exchanges.Probes.{frame_waits, turn_held, turn_may_tell, turn_told, has_first}
use Rattle.cas_board_steps.proofs.orders.take_probe_turn.Goals as goal

pub turn-requires-clause-waits : goal.turn-requires-clause-waits
turn-requires-clause-waits g c = frame_waits c.args.world.now c.args.inquiry c.args.key.now c.requires.asks.0 c.requires.asks.1 c.requires.waits

pub tell-requires : goal.tell-requires
tell-requires g c = subst (MayTell c.turn.new.self) (sym c.no_memory.ensures) (was_told (turn_may_tell _ c.args.world.now c.turn.new.self c.args.inquiry c.args.key.now c.requires.asks.0 c.requires.asks.1 c.in-Err.ensures.err))

pub returns-in-Ok-clause-kept : goal.returns-in-Ok-clause-kept
returns-in-Ok-clause-kept g c = (turn_held _ c.args.world.now c.turn.new.self c.args.inquiry c.args.key.now c.requires.asks.0 c.args.verdict c.requires.asks.1 c.requires.kept c.in-Ok.ensures.ok).kept

pub returns-in-Ok-clause-last_proposer : goal.returns-in-Ok-clause-last_proposer
returns-in-Ok-clause-last_proposer g c = (turn_held _ c.args.world.now c.turn.new.self c.args.inquiry c.args.key.now c.requires.asks.0 c.args.verdict c.requires.asks.1 c.requires.kept c.in-Ok.ensures.ok).last_proposer

pub returns-in-Ok-clause-goes_on : goal.returns-in-Ok-clause-goes_on
returns-in-Ok-clause-goes_on g c = (turn_held _ c.args.world.now c.turn.new.self c.args.inquiry c.args.key.now c.requires.asks.0 c.args.verdict c.requires.asks.1 c.requires.kept c.in-Ok.ensures.ok).does.0

pub returns-in-Ok-clause-still : goal.returns-in-Ok-clause-still
returns-in-Ok-clause-still g c = (turn_held _ c.args.world.now c.turn.new.self c.args.inquiry c.args.key.now c.requires.asks.0 c.args.verdict c.requires.asks.1 c.requires.kept c.in-Ok.ensures.ok).does.1

pub returns-in-Ok-clause-harms : goal.returns-in-Ok-clause-harms
returns-in-Ok-clause-harms g c = (turn_held _ c.args.world.now c.turn.new.self c.args.inquiry c.args.key.now c.requires.asks.0 c.args.verdict c.requires.asks.1 c.requires.kept c.in-Ok.ensures.ok).does.2

pub returns-in-Ok-clause-behind : goal.returns-in-Ok-clause-behind
returns-in-Ok-clause-behind g c = (turn_held _ c.args.world.now c.turn.new.self c.args.inquiry c.args.key.now c.requires.asks.0 c.args.verdict c.requires.asks.1 c.requires.kept c.in-Ok.ensures.ok).does.3

pub returns-in-Err-clause-kept : goal.returns-in-Err-clause-kept
returns-in-Err-clause-kept g c = (turn_told _ (harm_by c.args.verdict) c.args.world.now c.turn.new.self c.tell.new.self c.args.inquiry c.args.key.now c.requires.asks.0 c.no_memory.result c.requires.asks.1 c.requires.kept c.in-Err.ensures.err c.tell.ensures.step).kept

pub returns-in-Err-clause-last_proposer : goal.returns-in-Err-clause-last_proposer
returns-in-Err-clause-last_proposer g c = (turn_told _ (harm_by c.args.verdict) c.args.world.now c.turn.new.self c.tell.new.self c.args.inquiry c.args.key.now c.requires.asks.0 c.no_memory.result c.requires.asks.1 c.requires.kept c.in-Err.ensures.err c.tell.ensures.step).last_proposer

pub returns-in-Err-clause-told : goal.returns-in-Err-clause-told
returns-in-Err-clause-told g c = subst (IsToldIn (asked_for c.args.inquiry c.args.key.now) IsAskingHarm (harm_by c.args.verdict) c.args.world.now c.tell.new.self) (sym c.tell.ensures.same) (turn_told _ (harm_by c.args.verdict) c.args.world.now c.turn.new.self c.tell.new.self c.args.inquiry c.args.key.now c.requires.asks.0 c.no_memory.result c.requires.asks.1 c.requires.kept c.in-Err.ensures.err c.tell.ensures.step).does

pub returns-in-Ok-clause-first : goal.returns-in-Ok-clause-first
returns-in-Ok-clause-first g c = has_first c.turn.new.self 0 c.first_frame.result c.first_frame.ensures.first c.first_frame.ensures.none

pub returns-in-Err-clause-stopped : goal.returns-in-Err-clause-stopped
returns-in-Err-clause-stopped g c = record { why = answer.NoMemory false; is = c.tell.ensures.same ∙ c.no_memory.ensures; stops = refl }
