-- What a reply bears of its request.
use Rattle.cas_ballot.specs.declared.ballot.Ballot.{Ballot}
use Rattle.cas_slot.specs.declared.message.Ask.{Ask}
use Rattle.cas_slot.specs.declared.message.Ask.TheVariants.{Prepare, Accept, Ages, Remove, List, Probe}
use Rattle.cas_slot.specs.declared.message.Phase.{Phase}
use Rattle.cas_slot.specs.declared.message.Phase.TheVariants as phase

-- the kind of a request, and its ballot: a reply bears both
abbrev pub phase_of : Ask → Phase
phase_of (Prepare key ballot) = phase.Prepare
phase_of (Accept key ballot era ride state) = phase.Accept
phase_of (Ages tag least) = phase.Ages
phase_of (Remove key tomb) = phase.Remove
phase_of (List tag after) = phase.List
phase_of (Probe tag key) = phase.Probe

abbrev pub tag_of : Ask → Ballot
tag_of (Prepare key ballot) = ballot
tag_of (Accept key ballot era ride state) = ballot
tag_of (Ages tag least) = tag
tag_of (Remove key tomb) = tomb
tag_of (List tag after) = tag
tag_of (Probe tag key) = tag
