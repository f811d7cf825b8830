-- The acceptor's table: what it answers to a request, and what it keeps then. The cases are read in this order: the age, a repeat,
-- the ballot, the room. Every key that a request does not name keeps its slot.
use Rattle.std.specs.Prelude.{◌≡◌, ◌⊎◌, ◌↔◌, ℕ, ◌<◌, ◌≤◌, List, take, length, IsTrue, Option, Some, None, IsSomeAnd, IsSome, unwrap_or}
use Rattle.cas_ballot.specs.declared.ballot.Ballot.{Ballot}
use Rattle.cas_ballot.specs.Ballot.{BallotAtMost, BallotLess, zero_ballot}
use Rattle.cas_change.specs.declared.state.State.TheVariants.{Empty}
use Rattle.cas_slot.specs.declared.slot.Accepted.{Accepted}
use Rattle.cas_slot.specs.declared.message.Ask.{Ask}
use Rattle.cas_slot.specs.declared.message.Ask.TheVariants as ask
use Rattle.cas_slot.specs.declared.message.Request.{Request}
use Rattle.cas_slot.specs.declared.message.Reply.{Reply}
use Rattle.cas_slot.specs.declared.message.Tell.{Tell}
use Rattle.cas_slot.specs.declared.message.Tell.TheVariants as tell
use Rattle.cas_slot.specs.Ages.{least_age}
use Rattle.cas_slot.specs.Contents.{Contents, kept_at, with_kept, without_kept, with_raised}
use Rattle.cas_slot.specs.Message.{phase_of, tag_of}
use Rattle.cas_slot.specs.Slot.{accepted_of, promise_of, seen_of}
use Rattle.cas_slot.specs.Slots.{IsFullFor, keys_above}

-- the greater of what was promised and accepted for a key
abbrev pub seen_at : Contents → List ℕ → Ballot
seen_at contents key = seen_of (kept_at contents key)

abbrev pub promised_at : Contents → List ℕ → Ballot
promised_at contents key = promise_of (kept_at contents key)

abbrev pub accepted_at : Contents → List ℕ → Option Accepted
accepted_at contents key = accepted_of (kept_at contents key)

-- what is kept for a key was accepted at this ballot
abbrev pub IsRepeat : Contents → List ℕ → Ballot → Type 0
IsRepeat contents key ballot = IsSomeAnd (accepted_at contents key) (λ accepted. accepted.ballot ≡ ballot)

-- the empty state was accepted for a key at this ballot, and nothing greater was promised
abbrev pub IsAcceptedTombstone : Contents → List ℕ → Ballot → Type 0
IsAcceptedTombstone contents key tomb =
    IsSomeAnd (accepted_at contents key) (λ accepted. (accepted.ballot ≡ tomb) × (accepted.state ≡ Empty)) × BallotAtMost (promised_at contents key) tomb

-- From old, a request whose age is not too low may be told this, and leave new.
abbrev pub Answers : Contents → Ask → Tell → Contents → Type 0
Answers old (ask.Prepare key ballot) (tell.Met seen) new = (seen ≡ seen_at old key) × BallotLess ballot seen × (new ≡ old)
Answers old (ask.Prepare key ballot) (tell.Promised accepted) new = (accepted ≡ accepted_at old key) × (
    ((seen_at old key ≡ ballot) × (new ≡ old))
    ⊎ (BallotLess (seen_at old key) ballot × ¬ (IsFullFor old.slots key) × (new ≡ with_kept old key (record { promise = ballot; accepted = accepted }))))
Answers old (ask.Prepare key ballot) tell.Full new = BallotLess (seen_at old key) ballot × IsFullFor old.slots key × (new ≡ old)
Answers old (ask.Accept key ballot era ride state) tell.Accepted new =
    (IsRepeat old key ballot × (new ≡ old))
    ⊎ (¬ (IsRepeat old key ballot) × BallotAtMost (seen_at old key) ballot × ¬ (IsFullFor old.slots key)
    × (new ≡ with_kept old key (record { promise = unwrap_or ride zero_ballot; accepted = Some (record { ballot = ballot; era = era; state = state }) })))
Answers old (ask.Accept key ballot era ride state) (tell.Met seen) new =
    ¬ (IsRepeat old key ballot) × (seen ≡ seen_at old key) × BallotLess ballot seen × (new ≡ old)
Answers old (ask.Accept key ballot era ride state) tell.Full new = BallotAtMost (seen_at old key) ballot × IsFullFor old.slots key × (new ≡ old)
Answers old (ask.Ages tag least) tell.AgesSet new = new ≡ with_raised old least
Answers old (ask.Remove key tomb) tell.Removed new =
    ((kept_at old key ≡ None) × (new ≡ old))
    ⊎ (IsAcceptedTombstone old key tomb × (new ≡ without_kept old key))
Answers old (ask.Remove key tomb) tell.Kept new = IsSome (kept_at old key) × ¬ (IsAcceptedTombstone old key tomb) × (new ≡ old)
Answers old (ask.List tag after) (tell.Listed told keys more) new =
    (told ≡ after) × (keys ≡ take 4 (keys_above old.slots after)) × (IsTrue more ↔ (4 < length (keys_above old.slots after))) × (new ≡ old)
Answers old (ask.Probe tag key) (tell.Probed promise accepted) new = (promise ≡ promised_at old key) × (accepted ≡ accepted_at old key) × (new ≡ old)
-- nothing else is told
Answers old question answer new = ⊥

-- From old, a request may be told this, and leave new.
abbrev pub Handles : Contents → Request → Tell → Contents → Type 0
Handles old request (tell.Aged least) new = (least ≡ least_age old.ages request.from) × (request.age < least) × (new ≡ old)
Handles old request answer new = (least_age old.ages request.from ≤ request.age) × Answers old request.ask answer new

-- a reply of the acceptor of that number, by the table
pub record IsReplyByTable (id : ℕ) (old : Contents) (request : Request) (reply : Reply) (new : Contents) : Type 0 where
  pub from : reply.from ≡ id
  pub to : reply.to ≡ request.from
  pub phase : reply.phase ≡ phase_of request.ask
  pub tag : reply.tag ≡ tag_of request.ask
  pub row : Handles old request reply.tell new
