-- The rules for one slot: what becomes of a prepare, an accept and a removal. The acceptor's whole table is `Table`.
use Rattle.std.specs.Prelude.{ℕ, List, [], Bool, true, false, ◌&&◌, if◌then◌else◌, Option, None, Some}
use Rattle.std.specs.Ordering.{match_ordering, is_eq, is_lt, is_le}
use Rattle.cas_change.specs.declared.state.State.{State}
use Rattle.cas_change.specs.declared.state.State.TheVariants.{Empty, Held}
use Rattle.cas_ballot.specs.declared.ballot.Ballot.{Ballot}
use Rattle.cas_ballot.specs.Ballot.{ballot_cmp}
use Rattle.cas_slot.specs.declared.slot.Accepted.{Accepted}
use Rattle.cas_slot.specs.declared.slot.Slot.{Slot}
use Rattle.cas_slot.specs.declared.rules.PrepareRule.{PrepareRule}
use Rattle.cas_slot.specs.declared.rules.PrepareRule.TheVariants as prepare
use Rattle.cas_slot.specs.declared.rules.AcceptRule.{AcceptRule}
use Rattle.cas_slot.specs.declared.rules.AcceptRule.TheVariants as accept
use Rattle.cas_slot.specs.declared.rules.RemoveRule.{RemoveRule}
use Rattle.cas_slot.specs.declared.rules.RemoveRule.TheVariants as remove
use Rattle.cas_slot.specs.declared.message.Ask.{Ask}
use Rattle.cas_slot.specs.declared.message.Ask.TheVariants.{Prepare, Accept, Ages, Remove, List as Listing, Probe}
use Rattle.cas_slot.specs.declared.message.Tell.{Tell}
use Rattle.cas_slot.specs.declared.message.Tell.TheVariants as tell
use Rattle.cas_slot.specs.Slot.{accepted_of, seen_of}

-- a ballot above all that the slot has seen is promised, and one that it has just seen is promised again
abbrev pub prepare_rule : Option Slot → Ballot → PrepareRule
prepare_rule slot ballot = match_ordering (ballot_cmp (seen_of slot) ballot) prepare.Promise prepare.Again (prepare.Met (seen_of slot))

-- whether it is at this ballot that the slot's state was accepted
abbrev pub is_accepted_at : Option Accepted → Ballot → Bool
is_accepted_at None ballot = false
is_accepted_at (Some accepted) ballot = is_eq (ballot_cmp accepted.ballot ballot)

-- a ballot that is accepted already is confirmed again, one below what the slot has seen meets that, and any other is taken
abbrev pub accept_rule : Option Slot → Ballot → AcceptRule
accept_rule slot ballot =
    if is_accepted_at (accepted_of slot) ballot
    then accept.Repeat
    else (if is_lt (ballot_cmp ballot (seen_of slot)) then accept.Met (seen_of slot) else accept.Take)

abbrev pub is_empty : State → Bool
is_empty Empty = true
is_empty (Held version body) = false

-- whether it is the empty state, accepted at this ballot
abbrev pub is_empty_at : Option Accepted → Ballot → Bool
is_empty_at None ballot = false
is_empty_at (Some accepted) ballot = is_empty accepted.state && is_eq (ballot_cmp accepted.ballot ballot)

-- whether a slot holds the tombstone of this ballot, and has promised nothing greater
abbrev pub is_tombstone : Slot → Ballot → Bool
is_tombstone slot tomb = is_empty_at slot.accepted tomb && is_le (ballot_cmp slot.promise tomb)

-- a tombstone is removed, and any other slot is kept
abbrev pub remove_rule : Option Slot → Ballot → RemoveRule
remove_rule None tomb = remove.Absent
remove_rule (Some slot) tomb = if is_tombstone slot tomb then remove.Remove else remove.Keep

abbrev pub tell_by_prepare : PrepareRule → Option Slot → Tell
tell_by_prepare prepare.Promise slot = tell.Promised (accepted_of slot)
tell_by_prepare prepare.Again slot = tell.Promised (accepted_of slot)
tell_by_prepare (prepare.Met seen) slot = tell.Met seen

abbrev pub tell_by_accept : AcceptRule → Tell
tell_by_accept accept.Take = tell.Accepted
tell_by_accept accept.Repeat = tell.Accepted
tell_by_accept (accept.Met seen) = tell.Met seen

-- the key of a request; no byte, which is no key, where it asks for none
abbrev pub key_of : Ask → List ℕ
key_of (Prepare key ballot) = key
key_of (Accept key ballot era ride state) = key
key_of (Ages tag least) = []
key_of (Remove key tomb) = key
key_of (Listing tag after) = []
key_of (Probe tag key) = key
