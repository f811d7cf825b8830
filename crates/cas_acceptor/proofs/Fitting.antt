-- What is put has ballots within their limits.
use Rattle.std.proofs.Common.{List, ℕ, None, Some}
use Rattle.std.specs.Prelude.{Option, IfSome}
use Rattle.std.specs.Borrow.{Bor}
use Rattle.cas_ballot.specs.declared.ballot.Ballot.{Ballot}
use Rattle.cas_ballot.specs.Ballot.{FitsBallot}
use Rattle.cas_slot.specs.declared.slot.Accepted.{Accepted}
use Rattle.cas_slot.specs.declared.slot.Slot.{Slot}
use Rattle.cas_slot.specs.declared.rules.AcceptRule.{AcceptRule}
use Rattle.cas_slot.specs.declared.rules.AcceptRule.TheVariants as accept
use Rattle.cas_slot.specs.Limits.{SlotBallotsFit}
use Rattle.cas_slot.proofs.LimitLemmas.{zero_fits}
use Rattle.cas_acceptor.specs.Change.{ChangeBallotsFit}
use Rattle.cas_acceptor.specs.Decide.{put_by_accept, put_of}

put_fits : (key : Bor (List ℕ)) (put : Option Slot) → IfSome put SlotBallotsFit → ChangeBallotsFit (put_of key put)
put_fits key None fits = tt
put_fits key (Some slot) fits = fits

taken_fits : (rule : AcceptRule) (accepted : Accepted) (ride : Option Ballot) → FitsBallot accepted.ballot → IfSome ride FitsBallot → IfSome (put_by_accept rule accepted ride) SlotBallotsFit
taken_fits accept.Take accepted None fits rides = record { promise = zero_fits; accepted = fits }
taken_fits accept.Take accepted (Some ride) fits rides = record { promise = rides; accepted = fits }
taken_fits accept.Repeat accepted ride fits rides = tt
taken_fits (accept.Met seen) accepted ride fits rides = tt

pub accept_fits : (key : Bor (List ℕ)) (rule : AcceptRule) (accepted : Accepted) (ride : Option Ballot) → FitsBallot accepted.ballot → IfSome ride FitsBallot
    → ChangeBallotsFit (put_of key (put_by_accept rule accepted ride))
accept_fits key rule accepted ride fits rides = put_fits key (put_by_accept rule accepted ride) (taken_fits rule accepted ride fits rides)
