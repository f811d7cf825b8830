use Rattle.std.proofs.Common.{refl}
use Rattle.cas_store.specs.Rack.{rack_meaning}
use Rattle.cas_store.proofs.Keeping.{stored}
use Rattle.casreg_command.specs.Causes.{not_opened}
use Rattle.casreg_command.specs.declared.words.Request.TheVariants as request
use Rattle.casreg_command.proofs.Opened.{begins_over, begins_idle, opened_as}
use Rattle.casreg_command.proofs.Written.{wrote_nothing, wrote_by, loaded_ends}
use Rattle.casreg_command.proofs.cluster.start_load.Goals as goal

pub load_store-requires-clause-idle : goal.load_store-requires-clause-idle
load_store-requires-clause-idle g c = begins_idle (begins_over _ _ _ _ _ _ _ c.in-Ok.ensures.opened)

pub returns-in-Ok-clause-wrote : goal.returns-in-Ok-clause-wrote
returns-in-Ok-clause-wrote g c input faults harms harms_then =
    wrote_by (stored g.D.Disk) (rack_meaning g.D.Disk) (request.Load c.args.options) (request.Load c.args.options) _ _ refl
    (record { world = c.in-Ok.store.world; over = opened_as _ _ _ _ _ _ _ _ _ _ c.count.ensures.value refl refl c.in-Ok.ensures.opened; loaded = c.load_store.ensures.loaded })

pub returns-in-Ok-clause-ends : goal.returns-in-Ok-clause-ends
returns-in-Ok-clause-ends g c = loaded_ends c.load_store.ensures.loaded

pub returns-in-Err-clause-wrote : goal.returns-in-Err-clause-wrote
returns-in-Err-clause-wrote g c input faults harms harms_then =
    wrote_nothing (stored g.D.Disk) (rack_meaning g.D.Disk) (request.Load c.args.options) _ _ (not_opened c.in-Err.fault tt c.in-Err.ensures.fault c.in-Err.ensures.stops c.from.ensures) refl
