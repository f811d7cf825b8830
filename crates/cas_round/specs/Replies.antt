-- What the replies to a phase's requests say.
use Rattle.std.specs.Prelude.{ℕ, Bool, true, false, ◌==◌, ◌&&◌, if◌then◌else◌, List, filter, Option, None, Some}
use Rattle.std.specs.List.{list_any, filter_map}
use Rattle.std.specs.Ordering.{is_eq}
use Rattle.cas_ballot.specs.declared.ballot.Ballot.{Ballot}
use Rattle.cas_ballot.specs.Ballot.{ballot_cmp}
use Rattle.cas_ballot.specs.Members.{members_where}
use Rattle.cas_slot.specs.declared.slot.Accepted.{Accepted}
use Rattle.cas_slot.specs.declared.message.Phase.{Phase}
use Rattle.cas_slot.specs.declared.message.Phase.TheVariants as phase
use Rattle.cas_slot.specs.declared.message.Reply.{Reply}
use Rattle.cas_slot.specs.declared.message.Tell.{Tell}
use Rattle.cas_slot.specs.declared.message.Tell.TheVariants as tell

-- ---- replies
-- whether a reply answers a prepare, or an accept
abbrev pub is_prepare : Phase → Bool
is_prepare phase.Prepare = true
is_prepare other = false

abbrev pub is_accept : Phase → Bool
is_accept phase.Accept = true
is_accept other = false

-- whether a reply is one of that phase and that ballot
abbrev pub is_heard : (Phase → Bool) → Ballot → Reply → Bool
is_heard is_phase ballot reply = is_phase reply.phase && is_eq (ballot_cmp reply.tag ballot)

-- those that are
abbrev pub heard : (Phase → Bool) → Ballot → List Reply → List Reply
heard is_phase ballot replies = filter (is_heard is_phase ballot) replies

-- ---- confirmations
abbrev pub is_promise : Tell → Bool
is_promise (tell.Promised accepted) = true
is_promise other = false

abbrev pub is_acceptance : Tell → Bool
is_acceptance tell.Accepted = true
is_acceptance other = false

-- the acceptors of whom a reply confirms
abbrev pub confirmers_of : (Tell → Bool) → List Reply → List ℕ
confirmers_of confirms replies = members_where (λ n. list_any (λ reply. (reply.from == n) && confirms reply.tell) replies)

-- the acceptors that promised the ballot, and those that accepted at it
abbrev pub promisers_of : Ballot → List Reply → List ℕ
promisers_of ballot replies = confirmers_of is_promise (heard is_prepare ballot replies)

abbrev pub accepters_of : Ballot → List Reply → List ℕ
accepters_of ballot replies = confirmers_of is_acceptance (heard is_accept ballot replies)

-- ---- what else is told
abbrev pub met_by : Tell → Option Ballot
met_by (tell.Met ballot) = Some ballot
met_by other = None

abbrev pub age_by : Tell → Option ℕ
age_by (tell.Aged least) = Some least
age_by other = None

abbrev pub is_full : Tell → Bool
is_full tell.Full = true
is_full other = false

abbrev pub accepted_by : Tell → Option Accepted
accepted_by (tell.Promised accepted) = accepted
accepted_by other = None

-- the ballots that were met, the ages that were told, the acceptors that were full, and what was told as accepted
abbrev pub mets_of : List Reply → List Ballot
mets_of replies = filter_map (λ reply. met_by reply.tell) replies

abbrev pub ages_of : List Reply → List ℕ
ages_of replies = filter_map (λ reply. age_by reply.tell) replies

abbrev pub fulls_of : List Reply → List ℕ
fulls_of replies = filter_map (λ reply. if is_full reply.tell then Some reply.from else None) replies

abbrev pub accepteds_of : List Reply → List Accepted
accepteds_of replies = filter_map (λ reply. accepted_by reply.tell) replies
