use Rattle.std.proofs.Common.{not, ap, ◌∙◌}
use Rattle.std.specs.Prelude.{take}
use Rattle.cas_board_steps.proofs.Exchanges.Probes.{one_waits, no_frame_waits, stopped_answers, stopped_silent, stop_heard}
use Rattle.cas_board_steps.proofs.orders.go_on_probing.Goals as goal

pub gather_probe-requires-clause-through : goal.gather_probe-requires-clause-through
gather_probe-requires-clause-through g c = no_frame_waits c.args.world.now c.args.probing.inquiry c.args.probing.key c.requires.asks.0 c.front.result c.requires.asks.1 c.front.ensures (c.is_none.ensures ∙ ap not c.if-is_none.true)

pub take_probe_turn-requires-clause-waits : goal.take_probe_turn-requires-clause-waits
take_probe_turn-requires-clause-waits g c = one_waits c.args.world.now c.args.probing.inquiry c.args.probing.key c.requires.asks.0 c.front.result c.requires.asks.1 c.front.ensures (c.is_none.ensures ∙ ap not c.if-is_none.false)

pub returns-in-Err-clause-answer : goal.returns-in-Err-clause-answer
returns-in-Err-clause-answer g c members has = stopped_answers c.args.probing.key members c.in-Err.told c.in-Err.ensures.stopped

pub returns-in-Err-clause-silent : goal.returns-in-Err-clause-silent
returns-in-Err-clause-silent g c harms has = stopped_silent harms c.in-Err.told c.in-Err.ensures.stopped

pub returns-in-Err-clause-truly : goal.returns-in-Err-clause-truly
returns-in-Err-clause-truly g c many asked_then =
    stop_heard c.args.probing.inquiry g.S.Shelf.tells g.V.Disk.tells (take many c.take_probe_turn.new.world.marks) c.take_probe_turn.new.world.marks c.in-Err.told c.in-Err.ensures.stopped
