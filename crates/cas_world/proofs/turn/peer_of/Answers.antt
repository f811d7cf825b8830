use Rattle.std.proofs.Common.{sym, ◌∙◌}
use Rattle.cas_world.proofs.Frames.Turning.{none_waits}
use Rattle.cas_world.proofs.turn.peer_of.Goals as goal

-- src/turn.rt:83:17
pub unreachable-requires : goal.unreachable-requires
unreachable-requires c = c.requires.waits (none_waits _ (sym c.in-None.is ∙ c.front.ensures))
