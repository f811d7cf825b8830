use Rattle.cas_model.specs.View.{meaning}
use Rattle.cas_store.specs.Rack.{rack_meaning}
use Rattle.cas_reopen.proofs.Again.{reopened_go_on}
use Rattle.cas_reopen.proofs.laws.reopened_stores_go_on.Goals as goal

pub returns : goal.returns
returns g c = reopened_go_on _ _
