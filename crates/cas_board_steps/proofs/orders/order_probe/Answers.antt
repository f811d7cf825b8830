use Rattle.std.proofs.Common.{refl, inr}
use Rattle.cas_board_steps.proofs.Exchanges.Probes.{unordered}
use Rattle.cas_board_steps.proofs.orders.order_probe.Goals as goal

pub returns-clause-makes : goal.returns-clause-makes
returns-clause-makes g c = (unordered c.args.world.now c.args.world.now refl c.requires.free c.requires.kept).does

pub returns-clause-refused : goal.returns-clause-refused
returns-clause-refused g c = (inr refl, c.requires.free)
