use Rattle.std.proofs.Common.{subst}
use Rattle.cas_model.specs.Step as step
use Rattle.cas_model.specs.View.{meaning}
use Rattle.cas_model.proofs.Safety.Steps.{steps_are_safe}
use Rattle.casreg_script.specs.Exchanges.Orders.{IsOrdered}
use Rattle.casreg_script.proofs.Exchanges.Asking.{both_idle, keeps_idle, order_keeps, tell_keeps}
use Rattle.casreg_script.proofs.Eras.Entering.{is_ordered}
use Rattle.test_world.proofs.player.begin_plan.Goals as goal

pub take_up-requires-clause-ordered : goal.take_up-requires-clause-ordered
take_up-requires-clause-ordered g c = subst (IsOrdered c.order.new.self) c.asked-asked.ensures (is_ordered c.args.world.now c.order.new.self c.asked-asked.result c.in-Ok.ensures.ok)

pub take_up-requires-clause-safe : goal.take_up-requires-clause-safe
take_up-requires-clause-safe g c =
    steps_are_safe (meaning g.S.Shelf g.V.Disk) c.args.world.now (step.Order c.asked-asked.result) c.order.new.self c.requires.safe
    c.in-Ok.ensures.ok

pub returns-in-Ok-clause-idle : goal.returns-in-Ok-clause-idle
returns-in-Ok-clause-idle g c =
    both_idle c.args.world.now c.take_up.new.world c.tell.new.self
    (both_idle c.args.world.now c.order.new.self c.take_up.new.world (keeps_idle c.args.world.now c.order.new.self (order_keeps c.args.world.now c.order.new.self c.asked-asked.result c.in-Ok.ensures.ok)) c.take_up.ensures.idle)
    (keeps_idle c.take_up.new.world c.tell.new.self (tell_keeps c.take_up.new.world c.tell.new.self _ c.tell.ensures.step))

pub returns-in-Ok-clause-safe : goal.returns-in-Ok-clause-safe
returns-in-Ok-clause-safe g c =
    steps_are_safe (meaning g.S.Shelf g.V.Disk) c.take_up.new.world (step.Tell c.in-Err-take_up.told) c.tell.new.self c.take_up.ensures.safe
    c.tell.ensures.step
