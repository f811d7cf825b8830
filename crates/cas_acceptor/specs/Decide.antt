-- What each rule puts in a slot's place, and what a probe and a listing are told.
use Rattle.std.specs.Prelude.{◌≡◌, ◌↔◌, ℕ, ◌<◌, List, take, length, IsTrue, Option, Some, None, unwrap_or}
use Rattle.std.specs.Borrow.{Bor}
use Rattle.cas_ballot.specs.declared.ballot.Ballot.{Ballot}
use Rattle.cas_ballot.specs.Ballot.{zero_ballot}
use Rattle.cas_slot.specs.declared.slot.Accepted.{Accepted}
use Rattle.cas_slot.specs.declared.slot.Slot.{Slot}
use Rattle.cas_slot.specs.declared.rules.PrepareRule.{PrepareRule}
use Rattle.cas_slot.specs.declared.rules.PrepareRule.TheVariants as prepare
use Rattle.cas_slot.specs.declared.rules.AcceptRule.{AcceptRule}
use Rattle.cas_slot.specs.declared.rules.AcceptRule.TheVariants as accept
use Rattle.cas_slot.specs.declared.message.Tell.{Tell}
use Rattle.cas_slot.specs.declared.message.Tell.TheVariants as tell
use Rattle.cas_slot.specs.Contents.{Contents}
use Rattle.cas_slot.specs.Slot.{accepted_of, promise_of}
use Rattle.cas_slot.specs.Slots.{keys_above}
use Rattle.cas_acceptor.specs.declared.change.Change.{Change}
use Rattle.cas_acceptor.specs.declared.change.Change.TheVariants.{Nothing, Put}

-- a new promise keeps what was accepted
abbrev pub put_by_prepare : PrepareRule → Option Slot → Ballot → Option Slot
put_by_prepare prepare.Promise slot ballot = Some (record { promise = ballot; accepted = accepted_of slot })
put_by_prepare prepare.Again slot ballot = None
put_by_prepare (prepare.Met seen) slot ballot = None

-- what is taken brings its own promise along, or none
abbrev pub put_by_accept : AcceptRule → Accepted → Option Ballot → Option Slot
put_by_accept accept.Take accepted ride = Some (record { promise = unwrap_or ride zero_ballot; accepted = Some accepted })
put_by_accept accept.Repeat accepted ride = None
put_by_accept (accept.Met seen) accepted ride = None

-- the change that puts the slot at the key, if there is one
abbrev pub put_of : Bor (List ℕ) → Option Slot → Change
put_of key None = Nothing
put_of key (Some slot) = Put key slot

-- zero and nothing stand for a slot that is not there
abbrev pub tell_by_probe : Option Slot → Tell
tell_by_probe slot = tell.Probed (promise_of slot) (accepted_of slot)

-- the next keys after this one, and whether more follow
abbrev pub IsListing : Contents → Option (List ℕ) → Tell → Type 0
IsListing contents after (tell.Listed told keys more) =
    (told ≡ after) × (keys ≡ take 4 (keys_above contents.slots after)) × (IsTrue more ↔ (4 < length (keys_above contents.slots after)))
IsListing contents after answer = ⊥
