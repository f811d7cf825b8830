use Rattle.std.proofs.Common.{sym}
use Rattle.std.specs.Prelude.{⊤}
use Rattle.cas_store.specs.Rack.{rack_meaning}
use Rattle.cas_store.proofs.Keeping.{stored}
use Rattle.casreg_command.specs.declared.words.Request.TheVariants as request
use Rattle.casreg_command.proofs.Written.{wrote_of, load_told}
use Rattle.casreg_command.proofs.cluster.run.Goals as goal

pub returns-in-Script-clause-wrote : goal.returns-in-Script-clause-wrote
returns-in-Script-clause-wrote g c = wrote_of (stored g.D.Disk) (rack_meaning g.D.Disk) (request.Script c.in-Script.options) c.args.request (sym c.in-Script.is) (c.start_script.ensures.wrote _ _)

pub returns-in-Race-clause-wrote : goal.returns-in-Race-clause-wrote
returns-in-Race-clause-wrote g c = wrote_of (stored g.D.Disk) (rack_meaning g.D.Disk) (request.Race c.in-Race.options) c.args.request (sym c.in-Race.is) c.start_race.ensures.wrote

pub returns-in-Load-clause-wrote : goal.returns-in-Load-clause-wrote
returns-in-Load-clause-wrote g c =
    wrote_of (stored g.D.Disk) (rack_meaning g.D.Disk) (request.Load c.in-Load.options) c.args.request (sym c.in-Load.is)
    (load_told (stored g.D.Disk) (rack_meaning g.D.Disk) c.in-Load.options _ _ (λ lines. ⊤) (c.start_load.ensures.wrote _ _ _ _))
