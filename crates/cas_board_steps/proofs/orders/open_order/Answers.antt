use Rattle.std.proofs.Common.{Err, ap}
use Rattle.cas_record.specs.declared.answer.Answer.{Answer}
use Rattle.cas_world.specs.Eras.Plans.{rescanned_of}
use Rattle.cas_board_steps.proofs.Calls.Holds.{refusal_then}
use Rattle.cas_board_steps.proofs.Exchanges.Councils.{free_idle}
use Rattle.cas_board_steps.proofs.Exchanges.Probes.{order_held, unordered, free_still}
use Rattle.cas_board_steps.proofs.orders.open_order.Goals as goal

pub order-requires : goal.order-requires
order-requires g c = (free_idle c.args.world.now c.requires.free).order

pub returns-in-Ok-clause-kept : goal.returns-in-Ok-clause-kept
returns-in-Ok-clause-kept g c = (order_held c.args.world.now c.order.new.self c.args.asked.now c.requires.free c.requires.kept c.in-Ok.ensures.ok).kept

pub returns-in-Ok-clause-last_proposer : goal.returns-in-Ok-clause-last_proposer
returns-in-Ok-clause-last_proposer g c = (order_held c.args.world.now c.order.new.self c.args.asked.now c.requires.free c.requires.kept c.in-Ok.ensures.ok).last_proposer

pub returns-in-Ok-clause-makes : goal.returns-in-Ok-clause-makes
returns-in-Ok-clause-makes g c = (order_held c.args.world.now c.order.new.self c.args.asked.now c.requires.free c.requires.kept c.in-Ok.ensures.ok).does.0

pub returns-in-Ok-clause-ordered : goal.returns-in-Ok-clause-ordered
returns-in-Ok-clause-ordered g c = (order_held c.args.world.now c.order.new.self c.args.asked.now c.requires.free c.requires.kept c.in-Ok.ensures.ok).does.1

pub returns-in-Err-clause-kept : goal.returns-in-Err-clause-kept
returns-in-Err-clause-kept g c = (unordered c.args.world.now c.order.new.self c.in-Err.ensures.err c.requires.free c.requires.kept).kept

pub returns-in-Err-clause-last_proposer : goal.returns-in-Err-clause-last_proposer
returns-in-Err-clause-last_proposer g c = (unordered c.args.world.now c.order.new.self c.in-Err.ensures.err c.requires.free c.requires.kept).last_proposer

pub returns-in-Err-clause-makes : goal.returns-in-Err-clause-makes
returns-in-Err-clause-makes g c = (unordered c.args.world.now c.order.new.self c.in-Err.ensures.err c.requires.free c.requires.kept).does

pub returns-in-Err-clause-refused : goal.returns-in-Err-clause-refused
returns-in-Err-clause-refused g c = (refusal_then c.in-Err.refusal c.args.world.now c.order.new.self c.in-Err.ensures.cause (λ full. c.in-Err.ensures.long (ap (λ (a : Answer). Err a) full)) (ap (λ v. v.marks) c.in-Err.ensures.err), free_still c.args.world.now c.order.new.self c.in-Err.ensures.err c.requires.free)

pub returns-in-Ok-clause-counted : goal.returns-in-Ok-clause-counted
returns-in-Ok-clause-counted g c = ap (λ v. rescanned_of v.council.plan) c.in-Ok.ensures.ok.view

pub returns-in-Err-clause-counted : goal.returns-in-Err-clause-counted
returns-in-Err-clause-counted g c = ap (λ v. rescanned_of v.council.plan) c.in-Err.ensures.err
