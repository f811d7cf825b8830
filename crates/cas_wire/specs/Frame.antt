-- The grammar of frames, format 2: the one spelling of each request and each reply, and what has one.
use Rattle.std.specs.Prelude.{◌≡◌, ℕ, ◌^◌, ◌<◌, ◌≤◌, Bool, IsTrue, List, [], ◌∷◌, ◌++◌, length, Option, IfSome}
use Rattle.std.specs.Int.{w32, w64, to_be_bytes}
use Rattle.std.specs.List.{flat_map, AllByRecursion}
use Rattle.cas_ballot.specs.Ballot.{FitsBallot}
use Rattle.cas_change.specs.Key.{IsKey}
use Rattle.cas_slot.specs.declared.message.Ask.{Ask}
use Rattle.cas_slot.specs.declared.message.Ask.TheVariants.{Prepare, Accept, Ages, Remove, List as ListKeys, Probe}
use Rattle.cas_slot.specs.declared.message.Request.{Request}
use Rattle.cas_slot.specs.declared.message.Tell.{Tell}
use Rattle.cas_slot.specs.declared.message.Tell.TheVariants as tell
use Rattle.cas_slot.specs.declared.message.Reply.{Reply}
use Rattle.cas_slot.specs.Limits.{AskBallotsFit, TellFits}
use Rattle.cas_slot.specs.Message.{phase_of}
use Rattle.cas_slot.specs.Slots.{rises}
use Rattle.cas_wire.specs.Kinds.{phase_byte, kind_byte, kind_of, may_get, flag_byte}
use Rattle.cas_wire.specs.Spelling.{key_spelling, ballot_spelling, state_spelling, accepted_spelling, optional_spelling, FitsState, FitsAccepted}

-- ---- requests

-- the parts of a question, one behind the other
unfoldable pub ask_spelling : Ask → List ℕ
ask_spelling (Prepare key ballot) = key_spelling key ++ ballot_spelling ballot
ask_spelling (Accept key ballot era ride state) =
    key_spelling key ++ (ballot_spelling ballot ++ (to_be_bytes w32 era ++ (optional_spelling ballot_spelling ride ++ state_spelling state)))
ask_spelling (Ages tag least) = ballot_spelling tag ++ flat_map (to_be_bytes w64) least.0
ask_spelling (Remove key tomb) = key_spelling key ++ ballot_spelling tomb
ask_spelling (ListKeys tag after) = ballot_spelling tag ++ optional_spelling key_spelling after
ask_spelling (Probe tag key) = ballot_spelling tag ++ key_spelling key

-- the format, the kind, the acceptor, the proposer, and the age in eight bytes
unfoldable pub request_spelling : Request → List ℕ
request_spelling request =
    (2 ∷ phase_byte (phase_of request.ask) ∷ request.to ∷ request.from ∷ to_be_bytes w64 request.age) ++ ask_spelling request.ask

abbrev pub FitsAsk : Ask → Type 0
FitsAsk (Prepare key ballot) = IsKey key × FitsBallot ballot
FitsAsk (Accept key ballot era ride state) = IsKey key × FitsBallot ballot × (era < 2 ^ 32) × IfSome ride FitsBallot × FitsState state
FitsAsk (Ages tag least) = FitsBallot tag × (length least.0 ≡ 17) × AllByRecursion (λ age. age < 2 ^ 64) least.0
FitsAsk (Remove key tomb) = IsKey key × FitsBallot tomb
FitsAsk (ListKeys tag after) = FitsBallot tag × IfSome after IsKey
FitsAsk (Probe tag key) = FitsBallot tag × IsKey key

pub record FitsRequest (request : Request) : Type 0 where
  pub to : request.to ≤ 63
  pub from : request.from ≤ 16
  pub age : request.age < 2 ^ 64
  pub ask : FitsAsk request.ask

-- these bytes are the frame of that request
pub record IsRequestFrame (bytes : List ℕ) (request : Request) : Type 0 where
  pub fits : FitsRequest request
  pub spelled : bytes ≡ request_spelling request

-- ---- replies

-- the key gone on after, the number of keys, the keys, and whether more follow
unfoldable pub listing_spelling : Option (List ℕ) → List (List ℕ) → Bool → List ℕ
listing_spelling after keys more = optional_spelling key_spelling after ++ (length keys ∷ flat_map key_spelling keys ++ flag_byte more ∷ [])

-- the parts of an answer, one behind the other
unfoldable pub tell_spelling : Tell → List ℕ
tell_spelling (tell.Promised accepted) = optional_spelling accepted_spelling accepted
tell_spelling tell.Accepted = []
tell_spelling (tell.Met ballot) = ballot_spelling ballot
tell_spelling (tell.Aged least) = to_be_bytes w64 least
tell_spelling tell.Full = []
tell_spelling tell.AgesSet = []
tell_spelling tell.Removed = []
tell_spelling tell.Kept = []
tell_spelling (tell.Listed after keys more) = listing_spelling after keys more
tell_spelling (tell.Probed promise accepted) = ballot_spelling promise ++ optional_spelling accepted_spelling accepted

-- the format, the kind, the acceptor, the proposer, the kind of the request, and its ballot
unfoldable pub reply_spelling : Reply → List ℕ
reply_spelling reply =
    (2 ∷ kind_byte (kind_of reply.tell) ∷ reply.from ∷ reply.to ∷ phase_byte reply.phase ∷ ballot_spelling reply.tag) ++ tell_spelling reply.tell

-- at most four keys that rise above the one gone on after, and four where more follow
pub record FitsListing (after : Option (List ℕ)) (keys : List (List ℕ)) (more : Bool) : Type 0 where
  pub gone_on : IfSome after IsKey
  pub few : length keys ≤ 4
  pub each : AllByRecursion IsKey keys
  pub rise : IsTrue (rises after keys)
  pub full : IsTrue more → length keys ≡ 4

abbrev pub FitsTell : Tell → Type 0
FitsTell (tell.Promised accepted) = IfSome accepted FitsAccepted
FitsTell tell.Accepted = Unit {0}
FitsTell (tell.Met ballot) = FitsBallot ballot
FitsTell (tell.Aged least) = least < 2 ^ 64
FitsTell tell.Full = Unit {0}
FitsTell tell.AgesSet = Unit {0}
FitsTell tell.Removed = Unit {0}
FitsTell tell.Kept = Unit {0}
FitsTell (tell.Listed after keys more) = FitsListing after keys more
FitsTell (tell.Probed promise accepted) = FitsBallot promise × IfSome accepted FitsAccepted

pub record FitsReply (reply : Reply) : Type 0 where
  pub from : reply.from ≤ 63
  pub to : reply.to ≤ 16
  pub tag : FitsBallot reply.tag
  -- the request may get such a reply
  pub got : IsTrue (may_get reply.phase (kind_of reply.tell))
  pub answer : FitsTell reply.tell

-- these bytes are the frame of that reply
pub record IsReplyFrame (bytes : List ℕ) (reply : Reply) : Type 0 where
  pub fits : FitsReply reply
  pub spelled : bytes ≡ reply_spelling reply

-- ---- what the types of requests and replies leave open

pub record CanBeAsked (request : Request) : Type 0 where
  pub from : request.from ≤ 16
  pub ballots : AskBallotsFit request.ask

pub record CanBeTold (reply : Reply) : Type 0 where
  pub to : reply.to ≤ 16
  pub tag : FitsBallot reply.tag
  pub got : IsTrue (may_get reply.phase (kind_of reply.tell))
  pub answer : TellFits reply.tell
