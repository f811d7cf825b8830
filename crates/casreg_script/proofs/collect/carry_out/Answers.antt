use Rattle.casreg_script.specs.Collection.Collections.{none}
use Rattle.casreg_script.proofs.Exchanges.Asking.{both_idle}
use Rattle.casreg_script.proofs.Collection.Collecting.{ends_so}
use Rattle.casreg_script.proofs.Eras.Rescanning.{told_stays}
use Rattle.casreg_script.proofs.collect.carry_out.Goals as goal

pub take_steps-requires-clause-tombstone_set : goal.take_steps-requires-clause-tombstone_set
take_steps-requires-clause-tombstone_set g c = (c.args.key.now, c.in_ok-set_tombstone.ensures.tombstone_set)

pub take_steps-requires-clause-network : goal.take_steps-requires-clause-network
take_steps-requires-clause-network g c = c.in_ok-set_tombstone.ensures.network c.requires.network.0 c.requires.network.1

pub returns-in_err-set_tombstone-clause-carried : goal.returns-in_err-set_tombstone-clause-carried
returns-in_err-set_tombstone-clause-carried g c by is =
    let called = c.in_err-set_tombstone.ensures.called by is in
    record {
      view = called.view;
      is = called.is;
      has = record { called = c.set_tombstone.new.world; between = called.view; calls = called.has; takes = none; ends = λ on. told_stays c.set_tombstone.new.world _ c.in_err-set_tombstone.ensures.told on };
    }

pub returns-clause-carried : goal.returns-clause-carried
returns-clause-carried g c by is =
    let called = c.in_ok-set_tombstone.ensures.called by is in
    let taken = c.take_steps.ensures.taken called.view called.is in
    record {
      view = taken.view;
      is = taken.is;
      has = record {
        called = c.set_tombstone.new.world;
        between = called.view;
        calls = called.has;
        takes = taken.has;
        ends = ends_so c.take_steps.new.world c.args.key.now c.take_steps.result (c.take_steps.ensures.end c.args.key.now c.in_ok-set_tombstone.ensures.tombstone_set) c.take_steps.ensures.told;
      };
    }

pub returns-clause-end : goal.returns-clause-end
returns-clause-end g c = c.take_steps.ensures.end c.args.key.now c.in_ok-set_tombstone.ensures.tombstone_set

pub returns-clause-idle : goal.returns-clause-idle
returns-clause-idle g c = both_idle c.args.world.now c.set_tombstone.new.world c.take_steps.new.world c.in_ok-set_tombstone.ensures.idle c.take_steps.ensures.idle
