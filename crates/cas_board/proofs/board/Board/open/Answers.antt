use Rattle.std.proofs.Common.{[]}
use Rattle.cas_world.specs.Openings.Opening.{members_to}
use Rattle.cas_model.proofs.Openings.Opens.{opening_on_none}
use Rattle.cas_board_world.proofs.Openings.{opening_ages}
use Rattle.cas_board.proofs.Blamed.{desks_up}
use Rattle.cas_board.proofs.board.Board.open.Goals as goal

pub over-requires-clause-opening : goal.over-requires-clause-opening
over-requires-clause-opening g c = let members = members_to c.args.config.acceptors in (members, members, [], opening_on_none _ members c.in_ok-store.store.world c.in_ok-store.ensures.opening, c.in_ok-store.ensures.up)

pub over-requires-clause-desks : goal.over-requires-clause-desks
over-requires-clause-desks g c = desks_up _ _ _ _ c.in_ok-store.store.world.desks c.in_ok-store.ensures.vaults

pub over-requires-clause-ages : goal.over-requires-clause-ages
over-requires-clause-ages g c tells = opening_ages _ (members_to c.args.config.acceptors) c.in_ok-store.store.world c.in_ok-store.ensures.opening
