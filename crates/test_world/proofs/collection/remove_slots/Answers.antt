use Rattle.cas_collect.specs.declared.collect.CollectStep.TheVariants as due
use Rattle.cas_model.specs.View.{meaning}
use Rattle.casreg_script.proofs.Collection.Collecting.{due_step, may_ask_due}
use Rattle.test_world.proofs.Leading.{floor_goes, led_ages, led_floor, led_removal, then_goes}
use Rattle.test_world.proofs.collection.remove_slots.Goals as goal

pub exchange-requires : goal.exchange-requires
exchange-requires g c = record { may = may_ask_due c.args.world.now c.requires.due.0 due.Ages c.requires.due.1; removal = tt }

pub floor-requires : goal.floor-requires
floor-requires g c =
    due_step c.exchange.new.world c.requires.due.0 due.Floor (led_ages c.args.world.now c.exchange.new.world c.requires.due.0 c.in_ok-exchange.field-0 c.requires.due.1 c.in_ok-exchange.ensures.gathered c.exchange.ensures.goes)

pub exchange-requires-2 : goal.exchange-requires-2
exchange-requires-2 g c =
    let ages = led_ages c.args.world.now c.exchange.new.world c.requires.due.0 c.in_ok-exchange.field-0 c.requires.due.1 c.in_ok-exchange.ensures.gathered c.exchange.ensures.goes in
    record { may = may_ask_due c.floor.new.self c.requires.due.0 due.Remove (led_floor c.exchange.new.world c.floor.new.self c.requires.due.0 ages c.floor.ensures.step c.floor.ensures.goes_on); removal = tt }

pub returns-in_err-exchange-2-clause-goes : goal.returns-in_err-exchange-2-clause-goes
returns-in_err-exchange-2-clause-goes g c =
    then_goes c.args.world.now c.floor.new.self c.exchange-2.new.world (then_goes c.args.world.now c.exchange.new.world c.floor.new.self c.exchange.ensures.goes (floor_goes (meaning g.S.Shelf g.V.Disk) c.exchange.new.world c.floor.new.self c.floor.ensures.step)) c.exchange-2.ensures.goes

pub returns-clause-end : goal.returns-clause-end
returns-clause-end g c key was =
    let ages = led_ages c.args.world.now c.exchange.new.world key c.in_ok-exchange.field-0 was c.in_ok-exchange.ensures.gathered c.exchange.ensures.goes in
    let floor = led_floor c.exchange.new.world c.floor.new.self key ages c.floor.ensures.step c.floor.ensures.goes_on in
    led_removal c.floor.new.self c.exchange-2.new.world key c.in_ok-exchange-2.field-0 floor c.in_ok-exchange-2.ensures.gathered c.exchange-2.ensures.goes

pub returns-clause-goes : goal.returns-clause-goes
returns-clause-goes g c =
    then_goes c.args.world.now c.floor.new.self c.exchange-2.new.world (then_goes c.args.world.now c.exchange.new.world c.floor.new.self c.exchange.ensures.goes (floor_goes (meaning g.S.Shelf g.V.Disk) c.exchange.new.world c.floor.new.self c.floor.ensures.step)) c.exchange-2.ensures.goes
