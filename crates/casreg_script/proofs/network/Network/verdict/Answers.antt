use Rattle.casreg_script.proofs.Frames.Networks.{ruled_decides, drawn_decides, never_ruled, never_drawn, then_known}
use Rattle.casreg_script.proofs.network.Network.verdict.Goals as goal

pub returns-in-Ruled-clause-decides : goal.returns-in-Ruled-clause-decides
returns-in-Ruled-clause-decides c = ruled_decides c.args.self.now c.in-Ruled.links c.table_verdict.new.links c.args.leg c.args.peer c.args.again c.table_verdict.result c.in-Ruled.is c.table_verdict.ensures.verdict c.table_verdict.ensures.same

pub returns-in-Ruled-clause-network : goal.returns-in-Ruled-clause-network
returns-in-Ruled-clause-network c = then_known (returns-in-Ruled-clause-decides c)

pub returns-in-Ruled-clause-not_held : goal.returns-in-Ruled-clause-not_held
returns-in-Ruled-clause-not_held c = never_ruled c.args.self.now c.in-Ruled.links c.table_verdict.result c.in-Ruled.is c.table_verdict.ensures.not_held c.requires.network.0 c.requires.network.1

pub returns-in-Drawn-clause-decides : goal.returns-in-Drawn-clause-decides
returns-in-Drawn-clause-decides c = drawn_decides c.args.self.now c.in-Drawn.fate c.fate_verdict.new.fate (c.args.leg, c.args.peer) c.args.again c.fate_verdict.result c.in-Drawn.is c.fate_verdict.ensures.draws c.fate_verdict.ensures.repeats

pub returns-in-Drawn-clause-network : goal.returns-in-Drawn-clause-network
returns-in-Drawn-clause-network c = then_known (returns-in-Drawn-clause-decides c)

pub returns-in-Drawn-clause-not_held : goal.returns-in-Drawn-clause-not_held
returns-in-Drawn-clause-not_held c = never_drawn c.args.again _ _ c.fate_verdict.result _ c.fate_verdict.ensures.draws c.fate_verdict.ensures.repeats
