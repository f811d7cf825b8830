use Rattle.std.proofs.Common.{refl}
use Rattle.cas_store.specs.Rack.{rack_meaning}
use Rattle.cas_store.proofs.Keeping.{stored}
use Rattle.casreg_command.specs.Causes.{not_empty}
use Rattle.casreg_command.specs.declared.words.Request.TheVariants as request
use Rattle.casreg_command.proofs.Written.{wrote_nothing, no_race, wrote_by}
use Rattle.casreg_command.proofs.cluster.start_race.Goals as goal

pub returns-in-Err-clause-wrote : goal.returns-in-Err-clause-wrote
returns-in-Err-clause-wrote g c = wrote_nothing (stored g.D.Disk) (rack_meaning g.D.Disk) (request.Race c.args.options) _ _ (not_empty c.args.options c.in-Err.fault refl c.in-Err.ensures.err c.from.ensures) refl

pub returns-in-Err-open-clause-wrote : goal.returns-in-Err-open-clause-wrote
returns-in-Err-open-clause-wrote g c =
    wrote_nothing (stored g.D.Disk) (rack_meaning g.D.Disk) (request.Race c.args.options) _ _
    (no_race (rack_meaning g.D.Disk) (request.Race c.args.options) _ _ c.args.options c.expect_empty.new.self c.in-Err-open.fault c.config_of.result.acceptors c.config_of.result.proposers c.config_of.ensures.acceptors c.config_of.ensures.proposers refl c.from-in-Err-open.ensures
    c.in_default.ensures.ok c.in-Err-open.ensures.fault) refl

pub returns-in-Ok-clause-wrote : goal.returns-in-Ok-clause-wrote
returns-in-Ok-clause-wrote g c = wrote_by (stored g.D.Disk) (rack_meaning g.D.Disk) (request.Race c.args.options) (request.Race c.args.options) _ _ refl (record {
  rack = c.expect_empty.new.self;
  empty = c.in_default.ensures.ok;
  raced = c.race_board.ensures.raced;
})
