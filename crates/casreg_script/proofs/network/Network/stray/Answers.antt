use Rattle.casreg_script.proofs.Frames.Networks.{none_named_of, drawn_named_of, then_known}
use Rattle.casreg_script.proofs.network.Network.stray.Goals as goal

pub returns-in-Ruled-clause-names : goal.returns-in-Ruled-clause-names
returns-in-Ruled-clause-names c = none_named_of c.args.self.now _ c.args.late c.in-Ruled.is

pub returns-in-Drawn-clause-names : goal.returns-in-Drawn-clause-names
returns-in-Drawn-clause-names c = drawn_named_of c.args.self.now c.in-Drawn.fate c.stray.new.self c.args.late c.stray.result c.in-Drawn.is c.stray.ensures.drawn

pub returns-in-Drawn-clause-network : goal.returns-in-Drawn-clause-network
returns-in-Drawn-clause-network c = then_known (returns-in-Drawn-clause-names c)
