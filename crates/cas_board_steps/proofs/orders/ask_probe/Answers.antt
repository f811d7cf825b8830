use Rattle.cas_board_steps.proofs.Exchanges.Probes.{order_asks, may_ask, ask_held, ask_told, has_first}
use Rattle.std.proofs.Common.{sym, subst}
use Rattle.cas_board_steps.specs.Exchanges.Orders.{asked_for, IsToldIn, IsAskingHarm, IsProbeStop}
use Rattle.cas_board_steps.proofs.orders.ask_probe.Goals as goal

pub ask_all-requires : goal.ask_all-requires
ask_all-requires g c = may_ask c.args.world.now c.args.order.question c.args.order.inquiry c.args.order.key (order_asks c.requires.order) c.requires.kept c.requires.order.ordered

pub returns-in-Ok-clause-kept : goal.returns-in-Ok-clause-kept
returns-in-Ok-clause-kept g c = (ask_held _ c.args.world.now c.ask_all.new.self c.args.order.question c.args.order.inquiry c.args.order.key (order_asks c.requires.order) c.requires.order.ordered c.requires.kept c.in-Ok.ensures.step c.in-Ok.ensures.ok).kept

pub returns-in-Ok-clause-last_proposer : goal.returns-in-Ok-clause-last_proposer
returns-in-Ok-clause-last_proposer g c = (ask_held _ c.args.world.now c.ask_all.new.self c.args.order.question c.args.order.inquiry c.args.order.key (order_asks c.requires.order) c.requires.order.ordered c.requires.kept c.in-Ok.ensures.step c.in-Ok.ensures.ok).last_proposer

pub returns-in-Ok-clause-makes : goal.returns-in-Ok-clause-makes
returns-in-Ok-clause-makes g c = (ask_held _ c.args.world.now c.ask_all.new.self c.args.order.question c.args.order.inquiry c.args.order.key (order_asks c.requires.order) c.requires.order.ordered c.requires.kept c.in-Ok.ensures.step c.in-Ok.ensures.ok).does.0

pub returns-in-Ok-clause-asks : goal.returns-in-Ok-clause-asks
returns-in-Ok-clause-asks g c = (ask_held _ c.args.world.now c.ask_all.new.self c.args.order.question c.args.order.inquiry c.args.order.key (order_asks c.requires.order) c.requires.order.ordered c.requires.kept c.in-Ok.ensures.step c.in-Ok.ensures.ok).does.1

pub returns-in-Ok-clause-harms : goal.returns-in-Ok-clause-harms
returns-in-Ok-clause-harms g c = (ask_held _ c.args.world.now c.ask_all.new.self c.args.order.question c.args.order.inquiry c.args.order.key (order_asks c.requires.order) c.requires.order.ordered c.requires.kept c.in-Ok.ensures.step c.in-Ok.ensures.ok).does.2

pub returns-in-Ok-clause-behind : goal.returns-in-Ok-clause-behind
returns-in-Ok-clause-behind g c = (ask_held _ c.args.world.now c.ask_all.new.self c.args.order.question c.args.order.inquiry c.args.order.key (order_asks c.requires.order) c.requires.order.ordered c.requires.kept c.in-Ok.ensures.step c.in-Ok.ensures.ok).does.3

pub returns-in-Err-clause-kept : goal.returns-in-Err-clause-kept
returns-in-Err-clause-kept g c = (ask_told _ c.args.world.now c.ask_all.new.self c.tell.new.self c.args.order.question c.args.order.inquiry c.args.order.key c.in-Err.told (order_asks c.requires.order) c.requires.order.ordered c.requires.kept c.in-Err.ensures.step c.in-Err.ensures.none c.in-Err.ensures.err c.tell.ensures.step).kept

pub returns-in-Err-clause-last_proposer : goal.returns-in-Err-clause-last_proposer
returns-in-Err-clause-last_proposer g c = (ask_told _ c.args.world.now c.ask_all.new.self c.tell.new.self c.args.order.question c.args.order.inquiry c.args.order.key c.in-Err.told (order_asks c.requires.order) c.requires.order.ordered c.requires.kept c.in-Err.ensures.step c.in-Err.ensures.none c.in-Err.ensures.err c.tell.ensures.step).last_proposer

pub returns-in-Err-clause-told : goal.returns-in-Err-clause-told
returns-in-Err-clause-told g c = subst (IsToldIn (asked_for c.args.order.inquiry c.args.order.key) IsAskingHarm 0 c.args.world.now c.tell.new.self) (sym c.tell.ensures.same) (ask_told _ c.args.world.now c.ask_all.new.self c.tell.new.self c.args.order.question c.args.order.inquiry c.args.order.key c.in-Err.told (order_asks c.requires.order) c.requires.order.ordered c.requires.kept c.in-Err.ensures.step c.in-Err.ensures.none c.in-Err.ensures.err c.tell.ensures.step).does.0

pub returns-in-Ok-clause-waits : goal.returns-in-Ok-clause-waits
returns-in-Ok-clause-waits g c = has_first c.ask_all.new.self 0 c.first_frame.result c.first_frame.ensures.first c.first_frame.ensures.none

pub returns-in-Err-clause-stopped : goal.returns-in-Err-clause-stopped
returns-in-Err-clause-stopped g c = subst IsProbeStop (sym c.tell.ensures.same) (ask_told _ c.args.world.now c.ask_all.new.self c.tell.new.self c.args.order.question c.args.order.inquiry c.args.order.key c.in-Err.told (order_asks c.requires.order) c.requires.order.ordered c.requires.kept c.in-Err.ensures.step c.in-Err.ensures.none c.in-Err.ensures.err c.tell.ensures.step).does.1

pub returns-in-Ok-clause-counted : goal.returns-in-Ok-clause-counted
returns-in-Ok-clause-counted g c = (ask_held _ c.args.world.now c.ask_all.new.self c.args.order.question c.args.order.inquiry c.args.order.key (order_asks c.requires.order) c.requires.order.ordered c.requires.kept c.in-Ok.ensures.step c.in-Ok.ensures.ok).does.4
