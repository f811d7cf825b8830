use Rattle.casreg_script.specs.Frames.Network.{by_rules}
use Rattle.casreg_script.proofs.network.Network.ruled.Goals as goal

pub returns : goal.returns
returns c = by_rules (record { table = λ l p low. c.new.ensures.all l p; none_held = λ l p is. cc is })
