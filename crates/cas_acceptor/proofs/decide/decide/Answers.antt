use Rattle.std.proofs.Common.{subst}
use Rattle.cas_slot.specs.Limits.{AskBallotsFit}
use Rattle.cas_acceptor.proofs.Decisions.{accept_decides}
use Rattle.cas_acceptor.proofs.Fitting.{accept_fits}
use Rattle.cas_acceptor.proofs.decide.decide.Goals as goal

pub returns-in-Accept-clause-table : goal.returns-in-Accept-clause-table
returns-in-Accept-clause-table g c = rw (c.put_of-in-Accept.ensures, c.accepted-tell.ensures.tell, c.accepted-tell.ensures.put, c.in_ok-slot-in-Accept.ensures, c.in_ok-copy-in-Accept.ensures, c.in-Accept.is)
    (accept_decides (g.S.Shelf.contents c.args.shelf.now) _ c.in-Accept.ballot c.in-Accept.era c.in-Accept.ride c.in-Accept.state)

pub returns-in-Accept-clause-fits : goal.returns-in-Accept-clause-fits
returns-in-Accept-clause-fits g c = λ all fits.
    let within = subst AskBallotsFit c.in-Accept.is fits in
    rw (c.put_of-in-Accept.ensures, c.accepted-tell.ensures.put) (accept_fits _ _ _ c.in-Accept.ride within.0 within.1)
