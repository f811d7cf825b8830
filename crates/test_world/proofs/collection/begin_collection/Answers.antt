use Rattle.std.proofs.Common.{subst}
use Rattle.cas_model.specs.View.{meaning}
use Rattle.casreg_script.specs.Exchanges.Orders.{IsOrdered}
use Rattle.casreg_script.proofs.Exchanges.Asking.{keeps_idle, order_keeps, quiet_after}
use Rattle.casreg_script.proofs.Eras.Entering.{is_ordered, free_then}
use Rattle.test_world.proofs.Leading.{order_goes, tell_goes, then_goes}
use Rattle.test_world.proofs.collection.begin_collection.Goals as goal

pub set_tombstone-requires-clause-ordered : goal.set_tombstone-requires-clause-ordered
set_tombstone-requires-clause-ordered g c = subst (IsOrdered c.order.new.self) c.requires.asked (is_ordered c.args.world.now c.order.new.self c.args.asked.now c.in-Ok.ensures.ok)

pub set_tombstone-requires-clause-free : goal.set_tombstone-requires-clause-free
set_tombstone-requires-clause-free g c =
    free_then c.args.world.now c.order.new.self _ c.requires.rest ((keeps_idle c.args.world.now c.order.new.self (order_keeps c.args.world.now c.order.new.self _ c.in-Ok.ensures.ok)).idle 0 c.requires.idle) c.in-Ok.ensures.ok

pub returns-in-Ok-set_tombstone-clause-goes : goal.returns-in-Ok-set_tombstone-clause-goes
returns-in-Ok-set_tombstone-clause-goes g c = then_goes c.args.world.now c.order.new.self c.set_tombstone.new.world (order_goes (meaning g.S.Shelf g.V.Disk) c.args.world.now c.order.new.self _ c.in-Ok.ensures.ok) c.set_tombstone.ensures.goes

pub returns-in-Err-set_tombstone-clause-rest : goal.returns-in-Err-set_tombstone-clause-rest
returns-in-Err-set_tombstone-clause-rest g c = quiet_after c.set_tombstone.new.world c.tell.new.self _ c.tell.ensures.step

pub returns-in-Err-set_tombstone-clause-goes : goal.returns-in-Err-set_tombstone-clause-goes
returns-in-Err-set_tombstone-clause-goes g c =
    then_goes c.args.world.now c.set_tombstone.new.world c.tell.new.self (then_goes c.args.world.now c.order.new.self c.set_tombstone.new.world (order_goes (meaning g.S.Shelf g.V.Disk) c.args.world.now c.order.new.self _ c.in-Ok.ensures.ok) c.set_tombstone.ensures.goes)
    (tell_goes (meaning g.S.Shelf g.V.Disk) c.set_tombstone.new.world c.tell.new.self _ c.tell.ensures.step)
