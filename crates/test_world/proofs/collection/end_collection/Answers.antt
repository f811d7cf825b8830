use Rattle.cas_model.specs.View.{meaning}
use Rattle.casreg_script.proofs.Exchanges.Asking.{quiet_after}
use Rattle.test_world.proofs.Leading.{tell_goes, then_goes}
use Rattle.test_world.proofs.collection.end_collection.Goals as goal

pub returns-in-Ok-clause-rest : goal.returns-in-Ok-clause-rest
returns-in-Ok-clause-rest g c = quiet_after c.remove_slots.new.world c.tell.new.self _ c.tell.ensures.step

pub returns-in-Ok-clause-goes : goal.returns-in-Ok-clause-goes
returns-in-Ok-clause-goes g c = then_goes c.args.world.now c.remove_slots.new.world c.tell.new.self c.remove_slots.ensures.goes (tell_goes (meaning g.S.Shelf g.V.Disk) c.remove_slots.new.world c.tell.new.self _ c.tell.ensures.step)

pub returns-in-Err-clause-rest : goal.returns-in-Err-clause-rest
returns-in-Err-clause-rest g c = quiet_after c.remove_slots.new.world c.tell-in-Err.new.self _ c.tell-in-Err.ensures.step

pub returns-in-Err-clause-goes : goal.returns-in-Err-clause-goes
returns-in-Err-clause-goes g c = then_goes c.args.world.now c.remove_slots.new.world c.tell-in-Err.new.self c.remove_slots.ensures.goes (tell_goes (meaning g.S.Shelf g.V.Disk) c.remove_slots.new.world c.tell-in-Err.new.self _ c.tell-in-Err.ensures.step)
