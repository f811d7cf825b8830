use Rattle.std.proofs.Common.{subst}
use Rattle.casreg_script.specs.Frames.Conditions.{Ruled}
use Rattle.casreg_script.specs.Frames.Network.{IsNetwork}
use Rattle.casreg_script.specs.declared.network.Network.{Network}
use Rattle.casreg_script.proofs.Frames.Networks.{one_rule_more}
use Rattle.casreg_script.proofs.network.Network.set.Goals as goal

pub returns : goal.returns
returns c rules is = one_rule_more _ _ rules _ c.set_rule.ensures (subst (λ (n : Network). IsNetwork n (Ruled rules)) c.in-Ruled.is is)
