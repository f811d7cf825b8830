use Rattle.cas_model.specs.Step as step
use Rattle.cas_model.specs.View.{meaning}
use Rattle.casreg_script.proofs.Collection.Collecting.{may_gather_round, as_gather_round, gather_round_idle, round_due}
use Rattle.test_world.proofs.Leading.{step_goes, then_goes}
use Rattle.test_world.proofs.collection.set_tombstone.Goals as goal

pub gather-requires : goal.gather-requires
gather-requires g c = may_gather_round c.run_call.new.world c.args.key.now c.in_ok-run_call.ensures.tombstone_set

pub returns-in_err-gather-clause-goes : goal.returns-in_err-gather-clause-goes
returns-in_err-gather-clause-goes g c =
    let by = as_gather_round (meaning g.S.Shelf g.V.Disk) c.run_call.new.world c.gather.new.self c.args.key.now c.in_ok-run_call.ensures.tombstone_set c.gather.ensures.step in
    then_goes c.args.world.now c.run_call.new.world c.gather.new.self c.run_call.ensures.goes (step_goes (meaning g.S.Shelf g.V.Disk) c.run_call.new.world c.gather.new.self step.GatherRound by (gather_round_idle c.run_call.new.world c.gather.new.self by))

pub returns-clause-due : goal.returns-clause-due
returns-clause-due g c =
    let tombstone_set = c.in_ok-run_call.ensures.tombstone_set in
    let by = as_gather_round (meaning g.S.Shelf g.V.Disk) c.run_call.new.world c.gather.new.self c.args.key.now tombstone_set c.gather.ensures.step in
    round_due c.run_call.new.world c.gather.new.self c.args.key.now c.in_ok-gather.field-0 tombstone_set c.in_ok-gather.ensures.ok ((gather_round_idle c.run_call.new.world c.gather.new.self by).idle 0 tombstone_set.due.idle)

pub returns-clause-goes : goal.returns-clause-goes
returns-clause-goes g c =
    let by = as_gather_round (meaning g.S.Shelf g.V.Disk) c.run_call.new.world c.gather.new.self c.args.key.now c.in_ok-run_call.ensures.tombstone_set c.gather.ensures.step in
    then_goes c.args.world.now c.run_call.new.world c.gather.new.self c.run_call.ensures.goes (step_goes (meaning g.S.Shelf g.V.Disk) c.run_call.new.world c.gather.new.self step.GatherRound by (gather_round_idle c.run_call.new.world c.gather.new.self by))
