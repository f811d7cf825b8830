-- Reading frames from the front of bytes.
use Rattle.std.specs.Prelude.{ℕ, zero, suc, Bool, nat_eq, nat_le, not, ◌&&◌, ◌||◌, if◌then◌else◌, List, [], ◌∷◌, length, Option, Some, None, Ok, Err}
use Rattle.std.specs.Int.{w32, w64}
use Rattle.cas_ballot.specs.declared.ballot.Ballot.{Ballot}
use Rattle.cas_change.specs.declared.state.State.{State}
use Rattle.cas_slot.specs.declared.slot.Accepted.{Accepted}
use Rattle.cas_slot.specs.declared.message.Ask.{Ask}
use Rattle.cas_slot.specs.declared.message.Ask.TheVariants.{Prepare, Accept, Ages, Remove, List as ListKeys, Probe}
use Rattle.cas_slot.specs.declared.message.Phase.{Phase}
use Rattle.cas_slot.specs.declared.message.Phase.TheVariants as phase
use Rattle.cas_slot.specs.declared.message.Request.{Request}
use Rattle.cas_slot.specs.declared.message.Tell.{Tell}
use Rattle.cas_slot.specs.declared.message.Tell.TheVariants as tell
use Rattle.cas_slot.specs.declared.message.Reply.{Reply}
use Rattle.cas_slot.specs.Slots.{rises}
use Rattle.cas_wire.specs.Kinds.{named, phases, kinds, flags, may_get}
use Rattle.cas_wire.specs.Reading.{Reading, ◌>>=◌, pair_at, made_at, byte_where, number_at, is_proposer, key_at, ballot_at, state_at, accepted_at, optional_at}
use Rattle.cas_wire.specs.declared.kinds.TellKind.{TellKind}
use Rattle.cas_wire.specs.declared.kinds.TellKind.TheVariants as kind
use Rattle.cas_wire.specs.declared.request.RequestHead.{RequestHead}
use Rattle.cas_wire.specs.declared.reply.ReplyHead.{ReplyHead}

-- a value that one before it says how to read
abbrev pub then_at : {A B : Type 0} → (List ℕ → Reading A) → (A → List ℕ → Reading B) → List ℕ → Reading (A × B)
then_at first second bytes = first bytes >>= λ a. second a.0 a.1 >>= λ b. Ok ((a.0, b.0), b.1)

-- a value that passes the test
abbrev pub where_at : {A : Type 0} → (A → Bool) → (List ℕ → Reading A) → List ℕ → Reading A
where_at test read bytes = read bytes >>= λ a. if test a.0 then Ok a else Err (length bytes)

-- so many values
unfoldable pub list_at : {A : Type 0} → (List ℕ → Reading A) → ℕ → List ℕ → Reading (List A)
list_at read zero bytes = Ok ([], bytes)
list_at read (suc n) bytes = read bytes >>= λ first. list_at read n first.1 >>= λ others. Ok (first.0 ∷ others.0, others.1)

abbrev pub known : {A : Type 0} → Option A → List ℕ → ℕ → Reading A
known (Some a) bytes left = Ok (a, bytes)
known None bytes left = Err left

-- a byte of a table
abbrev pub named_at : {A : Type 0} → List (ℕ × A) → List ℕ → Reading A
named_at table [] = Err 0
named_at table (b ∷ bytes) = known (named table b) bytes (length (b ∷ bytes))

-- a value behind which nothing is left
abbrev pub whole_of : {A : Type 0} → A → List ℕ → Option A
whole_of a [] = Some a
whole_of a (b ∷ rest) = None

abbrev pub is_format : ℕ → Bool
is_format n = nat_eq n 2

abbrev pub is_acceptor : ℕ → Bool
is_acceptor n = nat_le n 63

-- ---- requests

abbrev pub prepare_of : List ℕ × Ballot → Ask
prepare_of parts = Prepare parts.0 parts.1

abbrev pub accept_of : List ℕ × (Ballot × (ℕ × (Option Ballot × State))) → Ask
accept_of parts = Accept parts.0 parts.1.0 parts.1.1.0 parts.1.1.1.0 parts.1.1.1.1

abbrev pub ages_of : Ballot × List ℕ → Ask
ages_of parts = Ages parts.0 (record { 0 = parts.1 })

abbrev pub remove_of : List ℕ × Ballot → Ask
remove_of parts = Remove parts.0 parts.1

abbrev pub list_of : Ballot × Option (List ℕ) → Ask
list_of parts = ListKeys parts.0 parts.1

abbrev pub probe_of : Ballot × List ℕ → Ask
probe_of parts = Probe parts.0 parts.1

unfoldable pub accept_at : List ℕ → Reading Ask
accept_at = made_at accept_of (pair_at key_at (pair_at ballot_at (pair_at (number_at w32) (pair_at (optional_at ballot_at) state_at))))

abbrev pub ages_at : List ℕ → Reading (List ℕ)
ages_at = list_at (number_at w64) 17

unfoldable pub ask_at : Phase → List ℕ → Reading Ask
ask_at phase.Prepare = made_at prepare_of (pair_at key_at ballot_at)
ask_at phase.Accept = accept_at
ask_at phase.Ages = made_at ages_of (pair_at ballot_at ages_at)
ask_at phase.Remove = made_at remove_of (pair_at key_at ballot_at)
ask_at phase.List = made_at list_of (pair_at ballot_at (optional_at key_at))
ask_at phase.Probe = made_at probe_of (pair_at ballot_at key_at)

abbrev pub request_head_of : ℕ × (Phase × (ℕ × (ℕ × ℕ))) → RequestHead
request_head_of parts = record { phase = parts.1.0; to = parts.1.1.0; from = parts.1.1.1.0; age = parts.1.1.1.1 }

unfoldable pub request_head_at : List ℕ → Reading RequestHead
request_head_at = made_at request_head_of (pair_at (byte_where is_format) (pair_at (named_at phases) (pair_at (byte_where is_acceptor) (pair_at (byte_where is_proposer) (number_at w64)))))

abbrev pub request_of : RequestHead × Ask → Request
request_of parts = record { to = parts.0.to; from = parts.0.from; age = parts.0.age; ask = parts.1 }

unfoldable pub request_at : List ℕ → Reading Request
request_at = made_at request_of (then_at request_head_at (λ head. ask_at head.phase))

-- ---- replies

abbrev pub is_count : ℕ → Bool
is_count n = nat_le n 4

-- at most four keys, behind their number
unfoldable pub keys_at : List ℕ → Reading (List (List ℕ))
keys_at bytes = byte_where is_count bytes >>= λ n. list_at key_at n.0 n.1

abbrev pub is_listing : Option (List ℕ) × (List (List ℕ) × Bool) → Bool
is_listing parts = rises parts.0 parts.1.0 && (not parts.1.1 || nat_eq (length parts.1.0) 4)

unfoldable pub listing_at : List ℕ → Reading (Option (List ℕ) × (List (List ℕ) × Bool))
listing_at = where_at is_listing (pair_at (optional_at key_at) (pair_at keys_at (named_at flags)))

abbrev pub promised_of : Option Accepted → Tell
promised_of accepted = tell.Promised accepted

abbrev pub met_of : Ballot → Tell
met_of ballot = tell.Met ballot

abbrev pub aged_of : ℕ → Tell
aged_of least = tell.Aged least

abbrev pub listed_of : Option (List ℕ) × (List (List ℕ) × Bool) → Tell
listed_of parts = tell.Listed parts.0 parts.1.0 parts.1.1

abbrev pub probed_of : Ballot × Option Accepted → Tell
probed_of parts = tell.Probed parts.0 parts.1

-- nothing more
abbrev pub plain_at : Tell → List ℕ → Reading Tell
plain_at told bytes = Ok (told, bytes)

unfoldable pub tell_at : TellKind → List ℕ → Reading Tell
tell_at kind.Promised = made_at promised_of (optional_at accepted_at)
tell_at kind.Accepted = plain_at tell.Accepted
tell_at kind.Met = made_at met_of ballot_at
tell_at kind.Aged = made_at aged_of (number_at w64)
tell_at kind.Full = plain_at tell.Full
tell_at kind.AgesSet = plain_at tell.AgesSet
tell_at kind.Removed = plain_at tell.Removed
tell_at kind.Kept = plain_at tell.Kept
tell_at kind.Listed = made_at listed_of listing_at
tell_at kind.Probed = made_at probed_of (pair_at ballot_at (optional_at accepted_at))

abbrev pub reply_head_of : ℕ × (TellKind × (ℕ × (ℕ × (Phase × Ballot)))) → ReplyHead
reply_head_of parts = record { kind = parts.1.0; from = parts.1.1.0; to = parts.1.1.1.0; phase = parts.1.1.1.1.0; tag = parts.1.1.1.1.1 }

abbrev pub is_head : ReplyHead → Bool
is_head head = may_get head.phase head.kind

unfoldable pub reply_head_at : List ℕ → Reading ReplyHead
reply_head_at = where_at is_head (made_at reply_head_of
    (pair_at (byte_where is_format) (pair_at (named_at kinds) (pair_at (byte_where is_acceptor) (pair_at (byte_where is_proposer) (pair_at (named_at phases) ballot_at))))))

abbrev pub reply_of : ReplyHead × Tell → Reply
reply_of parts = record { from = parts.0.from; to = parts.0.to; phase = parts.0.phase; tag = parts.0.tag; tell = parts.1 }

unfoldable pub reply_at : List ℕ → Reading Reply
reply_at = made_at reply_of (then_at reply_head_at (λ head. tell_at head.kind))
