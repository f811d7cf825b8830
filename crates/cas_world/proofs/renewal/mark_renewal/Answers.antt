use Rattle.std.proofs.Common.{refl}
use Rattle.cas_world.specs.Collection.Collect as marks
use Rattle.cas_world.proofs.renewal.mark_renewal.Goals as goal

pub returns-in-Ok-clause-marks : goal.returns-in-Ok-clause-marks
returns-in-Ok-clause-marks c = marks.renews c.in-Ok.age c.in-Ok.is c.renew.ensures.renewed refl refl
