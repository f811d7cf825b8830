use Rattle.casreg_script.specs.Frames.Network.{by_draw}
use Rattle.casreg_script.proofs.network.Network.seeded.Goals as goal

pub returns : goal.returns
returns c = by_draw c.new.ensures.random
