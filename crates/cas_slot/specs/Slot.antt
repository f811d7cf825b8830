-- What one acceptor keeps for one key.
use Rattle.std.specs.Prelude.{Option, None, Some}
use Rattle.cas_ballot.specs.declared.ballot.Ballot.{Ballot}
use Rattle.cas_ballot.specs.Ballot.{zero_ballot, greater_of}
use Rattle.cas_slot.specs.declared.slot.Accepted.{Accepted}
use Rattle.cas_slot.specs.declared.slot.Slot.{Slot}

-- the ballot at which a state was accepted; zero where none was
abbrev pub accepted_ballot : Option Accepted → Ballot
accepted_ballot None = zero_ballot
accepted_ballot (Some accepted) = accepted.ballot

-- what a slot accepted; nothing where there is no slot
abbrev pub accepted_of : Option Slot → Option Accepted
accepted_of None = None
accepted_of (Some slot) = slot.accepted

-- what a slot promised; zero where there is no slot
abbrev pub promise_of : Option Slot → Ballot
promise_of None = zero_ballot
promise_of (Some slot) = slot.promise

-- the greater of what a slot promised and accepted; zero where there is no slot
abbrev pub seen_of : Option Slot → Ballot
seen_of None = zero_ballot
seen_of (Some slot) = greater_of slot.promise (accepted_ballot slot.accepted)
