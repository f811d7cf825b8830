-- A cluster stays safe as the first frame of a proposer has its turn.
use Rattle.std.proofs.Common.{◌≡◌, ◌<◌, ◌≤◌, ℕ, Bool, true, false, List, [], ◌∷◌, ◌++◌, Option, None, Some, refl, sym, ap, subst, ◌∙◌, inl, inr, arith, length-set, length-append, append-nil}
use Rattle.std.specs.Prelude.{◌⊎◌, ◌+◌, ◌*◌, ◌-◌, ◌||◌, ◌==◌, length, is_some, if◌then◌else◌, slice_get, slice_set, Contains}
use Rattle.cas_base.proofs.Bools.{or_cases}
use Rattle.cas_ballot.specs.Ballot.{FitsBallot}
use Rattle.cas_ballot.specs.Members.{has_member, with_member, IsMemberSet}
use Rattle.cas_ballot.proofs.MemberLemmas.{members_where_tells, IsMemberSet-members_where}
use Rattle.cas_change.specs.declared.outcome.Outcome.{Outcome}
use Rattle.cas_fate.specs.declared.fate.Verdict.{Verdict}
use Rattle.cas_fate.specs.declared.fate.Verdict.TheVariants as verdict
use Rattle.cas_flow.specs.Flow.{FlowView, queue_at, queue_after, taken}
use Rattle.cas_flow.specs.Message.{head_of}
use Rattle.cas_flow.specs.Queue.{QueueView, fall_of, popped, pushed}
use Rattle.cas_flow.specs.declared.fall.Fall.TheVariants.{Handle}
use Rattle.cas_flow.specs.declared.message.Message.{Message}
use Rattle.cas_flow.specs.declared.message.Message.TheVariants as message
use Rattle.cas_acceptor.specs.Acceptor.{AcceptorView}
use Rattle.cas_proposer.specs.Desk.{DeskView}
use Rattle.cas_proposer.specs.Round.{is_preparing, Hears}
use Rattle.cas_proposer.specs.declared.round.Round.{Round}
use Rattle.cas_quorum.specs.declared.era.Era.{Era}
use Rattle.cas_round.specs.Replies.{is_prepare}
use Rattle.cas_slot.specs.Message.{phase_of, tag_of}
use Rattle.cas_slot.specs.declared.message.Ask.{Ask}
use Rattle.cas_slot.specs.declared.message.Ask.TheVariants as ask
use Rattle.cas_slot.specs.declared.message.Reply.{Reply}
use Rattle.cas_slot.specs.declared.message.Request.{Request}
use Rattle.cas_slot.specs.declared.message.Tell.{Tell}
use Rattle.cas_record.specs.declared.mark.Mark.{Mark}
use Rattle.cas_record.specs.declared.mark.Mark.TheVariants.{Harmed}
use Rattle.cas_record.specs.Logs.Happening.{marks_of}
use Rattle.cas_record.proofs.Tests.{nat_same}
use Rattle.cas_protocol.specs.Acceptors.{votes_of}
use Rattle.cas_model.specs.Parties.{asked_in}
use Rattle.cas_model.specs.Safe.{requests_in, handled_in, handled_once, IsPartySafe, IsRoundSafe, IsOpenSafe, IsSound}
use Rattle.cas_model.specs.Frames.Acceptors.{AnswersByTable}
use Rattle.cas_model.specs.Calls.Step.{most_round_marks, with_call}
use Rattle.cas_model.specs.Calls.Desks.{HearsReply}
use Rattle.cas_model.specs.Frames.Step as frames
use Rattle.cas_model.specs.Frames.Step.{TakesTurn, silent, marking, votes_marked, harmed_by, harms_marked, harmed_view, replied_flow}
use Rattle.cas_model.specs.View.{Meaning, View, CallView, CallerView, IsAt, reserved_in, with_acceptor, with_desk, with_marks, era_at}
use Rattle.cas_model.proofs.Frames.Steps.{Thins, taken_own, taken_thins, same_asked, recalled}
use Rattle.cas_model.proofs.Frames.Harms.{member_low}
use Rattle.cas_model.proofs.Places.{own_set, other_set, at_one, some_is, queue_same, queue_other, has_queue, contains_at, contains_append, newest_or_older, contains_none}
use Rattle.cas_model.proofs.Safety.Parts.{requests_append, length_with_member, low_at, at_low, reserved_set, safe_but, caller_low, changes_all, more_by, KeepsIds, keeps_same, keeps_set}
use Rattle.cas_model.proofs.Stops.Safe.{asked_set, votes_few, reserves_one}

-- ---- frames that are taken
abbrev queue_of : List Message → Bool → ℕ → QueueView
queue_of messages again room = record { messages = messages; again = again; room = room }

-- so many marks may be made as a queue goes on, and there is room for the replies still, beside so many more
pub record CountsInQueue (queue rest : QueueView) (votes more : ℕ) : Type 0 where
  pub count : votes + 2 * requests_in rest.messages + handled_once queue ≤ 2 * requests_in queue.messages + handled_once rest
  pub room : requests_in queue.messages ≤ queue.room + handled_once queue → requests_in rest.messages ≤ rest.room - more + handled_once rest

popped_counts : (messages : List Message) (again : Bool) (room : ℕ) → CountsInQueue (queue_of messages again room) (popped (queue_of messages again room)) 0 0
popped_counts [] true room = record { count = omega arith; room = λ low. omega (arith, low) }
popped_counts [] false room = record { count = omega arith; room = λ low. omega (arith, low) }
popped_counts (message.Request request ∷ rest) true room = record { count = omega arith; room = λ low. omega (arith, low) }
popped_counts (message.Request request ∷ rest) false room = record { count = omega arith; room = λ low. omega (arith, low) }
popped_counts (message.Reply reply ∷ rest) true room = record { count = omega arith; room = λ low. omega (arith, low) }
popped_counts (message.Reply reply ∷ rest) false room = record { count = omega arith; room = λ low. omega (arith, low) }

again_counts : (messages : List Message) (room : ℕ) → CountsInQueue (queue_of messages false room) (queue_of messages true room) 0 0
again_counts [] room = record { count = omega arith; room = λ low. omega (arith, low) }
again_counts (message.Request request ∷ rest) room = record { count = omega arith; room = λ low. omega (arith, low) }
again_counts (message.Reply reply ∷ rest) room = record { count = omega arith; room = λ low. omega (arith, low) }

counts : (messages : List Message) (again : Bool) (room : ℕ) (v : Verdict) → CountsInQueue (queue_of messages again room) (queue_after (queue_of messages again room) v) 0 0
counts messages true room v = popped_counts messages true room
counts messages false room verdict.Deliver = popped_counts messages false room
counts messages false room verdict.Lose = popped_counts messages false room
counts messages false room verdict.Twice = again_counts messages room
counts messages false room verdict.Late = popped_counts messages false room
counts messages false room verdict.Hold = record { count = omega arith; room = λ low. omega (arith, low) }

-- a request that is handled may have one vote, and one reply
request_counts : (messages : List Message) (again : Bool) (room : ℕ) (v : Verdict) (request : Request) → slice_get messages 0 ≡ Some (message.Request request) → fall_of again v ≡ Handle
    → CountsInQueue (queue_of messages again room) (queue_after (queue_of messages again room) v) 1 1
request_counts [] again room v request e handle = absurd (cc e)
request_counts (message.Reply reply ∷ rest) again room v request e handle = absurd (cc e)
request_counts (message.Request r ∷ rest) true room v request e handle = record { count = omega arith; room = λ low. omega (arith, low) }
request_counts (message.Request r ∷ rest) false room verdict.Deliver request e handle = record { count = omega arith; room = λ low. omega (arith, low) }
request_counts (message.Request r ∷ rest) false room verdict.Twice request e handle = record { count = omega arith; room = λ low. omega (arith, low) }
request_counts (message.Request r ∷ rest) false room verdict.Lose request e handle = absurd (cc handle)
request_counts (message.Request r ∷ rest) false room verdict.Late request e handle = absurd (cc handle)
request_counts (message.Request r ∷ rest) false room verdict.Hold request e handle = absurd (cc handle)

handled_append : (again : Bool) (messages : List Message) (reply : Reply) → handled_in again (messages ++ message.Reply reply ∷ []) ≡ handled_in again messages
handled_append false messages reply = refl
handled_append true [] reply = refl
handled_append true (message.Request request ∷ rest) reply = refl
handled_append true (message.Reply other ∷ rest) reply = refl

-- ---- what becomes of a proposer's frames
-- a reply to a request that waited
pub record IsAnswer (queue : QueueView) (reply : Reply) : Type 0 where
  pub request : Request
  pub waits : Contains queue.messages (message.Request request)
  pub tag : reply.tag ≡ tag_of request.ask
  pub phase : reply.phase ≡ phase_of request.ask

pub record Moves (asked : List ℕ) (queue rest : QueueView) (votes : ℕ) : Type 0 where
  pub about : (each : Message) → Contains rest.messages each → Contains queue.messages each ⊎ (has_member asked (head_of each).1 ≡ true)
  pub requests : (request : Request) → Contains rest.messages (message.Request request) → Contains queue.messages (message.Request request)
  pub replies : (reply : Reply) → Contains rest.messages (message.Reply reply) → Contains queue.messages (message.Reply reply) ⊎ IsAnswer queue reply
  pub counted : CountsInQueue queue rest votes 0

-- the first one is taken
pub taken_moves : (flow : FlowView) (id : ℕ) (v : Verdict) {front : Message} (asked : List ℕ) → slice_get (queue_at flow id).messages 0 ≡ Some front → Moves asked (queue_at flow id) (queue_at (taken flow id v) id) 0
taken_moves flow id v {front} asked e = record {
  about = λ each h. inl ((taken_thins flow id v e).before each h);
  requests = λ request h. (taken_thins flow id v e).before (message.Request request) h;
  replies = λ reply h. inl ((taken_thins flow id v e).before (message.Reply reply) h);
  counted = subst (λ (q : QueueView). CountsInQueue (queue_at flow id) q 0 0) (sym (taken_own flow id v e)) (counts (queue_at flow id).messages (queue_at flow id).again (queue_at flow id).room v);
}

replied_own : (flow : FlowView) (id : ℕ) (v : Verdict) (reply : Reply) {front : Message} → slice_get (queue_at flow id).messages 0 ≡ Some front
    → queue_at (replied_flow flow id v reply) id ≡ pushed (queue_at (taken flow id v) id) (message.Reply reply)
replied_own flow id v reply e =
    queue_same (taken flow id v).own id (pushed (queue_at (taken flow id v) id) (message.Reply reply))
    (omega (arith, has_queue flow.own id e, length-set flow.own id (queue_after (queue_at flow id) v)))

-- and its reply waits behind the others
pub replied_moves : (flow : FlowView) (id : ℕ) (v : Verdict) (request : Request) (reply : Reply) (asked : List ℕ) (votes : ℕ) → slice_get (queue_at flow id).messages 0 ≡ Some (message.Request request)
    → fall_of (queue_at flow id).again v ≡ Handle → has_member asked reply.from ≡ true → (reply.tag ≡ tag_of request.ask) × (reply.phase ≡ phase_of request.ask) → votes ≤ 1 → Moves asked (queue_at flow id) (queue_at (replied_flow flow id v reply) id) votes
replied_moves flow id v request reply asked votes e handle member answers few = subst (λ (q : QueueView). Moves asked (queue_at flow id) q votes) (sym (replied_own flow id v reply e)) (record {
  about = λ each h. elim (contains_append (queue_at (taken flow id v) id).messages (message.Reply reply ∷ []) h) [
    | inl front ↦ inl (thins.before each front)
    | inr back ↦ elim (newest_or_older [] back) [
      | inl now ↦ inr (subst (λ (x : Message). has_member asked (head_of x).1 ≡ true) now member)
      | inr none ↦ absurd (contains_none none)
    ]
  ];
  requests = λ r h. elim (contains_append (queue_at (taken flow id v) id).messages (message.Reply reply ∷ []) h) [
    | inl front ↦ thins.before (message.Request r) front
    | inr back ↦ elim (newest_or_older [] back) [
      | inl now ↦ absurd (cc now)
      | inr none ↦ absurd (contains_none none)
    ]
  ];
  replies = λ r h. elim (contains_append (queue_at (taken flow id v) id).messages (message.Reply reply ∷ []) h) [
    | inl front ↦ inl (thins.before (message.Reply r) front)
    | inr back ↦ elim (newest_or_older [] back) [
      | inl now ↦ let same : reply ≡ r = cc now in inr (subst (IsAnswer (queue_at flow id)) same (record { request = request; waits = contains_at (queue_at flow id).messages 0 (message.Request request) e; tag = answers.0; phase = answers.1 }))
      | inr none ↦ absurd (contains_none none)
    ]
  ];
  counted = record {
    count = omega (arith, few, both.count, requests_append (queue_at (taken flow id v) id).messages (message.Reply reply ∷ []), handled_append (queue_at (taken flow id v) id).again (queue_at (taken flow id v) id).messages reply);
    room = λ low. omega (arith, both.room low, requests_append (queue_at (taken flow id v) id).messages (message.Reply reply ∷ []), handled_append (queue_at (taken flow id v) id).again (queue_at (taken flow id v) id).messages reply);
  };
})
  where
    thins : Thins (queue_at flow id).messages (queue_at (taken flow id v) id).messages request.to
    thins = taken_thins flow id v e

    both : CountsInQueue (queue_at flow id) (queue_at (taken flow id v) id) 1 1
    both = subst (λ (q : QueueView). CountsInQueue (queue_at flow id) q 1 1) (sym (taken_own flow id v e)) (request_counts (queue_at flow id).messages (queue_at flow id).again (queue_at flow id).room v request e handle)

-- ---- what a call spends
-- the acceptors are some of those that were asked
abbrev pub IsWithin : List ℕ → List ℕ → Type 0
IsWithin asked harmed = (a : ℕ) → has_member harmed a ≡ true → has_member asked a ≡ true

-- of the marks that it reserved, so many for votes; those that were harmed stay some of those that were asked
pub record Spends (asked : List ℕ) (call new : CallView) (votes : ℕ) : Type 0 where
  pub key : new.key ≡ call.key
  pub proposed : new.proposed ≡ call.proposed
  pub harmed_set : IsMemberSet new.harmed
  pub harmed_within : IsWithin asked new.harmed
  pub kept : call.reserved + length call.harmed ≤ new.reserved + length new.harmed + votes

spends_votes : (asked : List ℕ) (call : CallView) (votes : ℕ) → IsMemberSet call.harmed → IsWithin asked call.harmed → Spends asked call (marking call votes) votes
spends_votes asked call votes set within = record { key = refl; proposed = refl; harmed_set = set; harmed_within = within; kept = omega arith }

spends_none : (asked : List ℕ) (call : CallView) → IsMemberSet call.harmed → IsWithin asked call.harmed → Spends asked call (silent call) 0
spends_none asked call set within = record { key = refl; proposed = refl; harmed_set = set; harmed_within = within; kept = omega arith }

-- the call as the test of the harmed one goes
abbrev harmed_if : CallView → ℕ → Bool → CallView
harmed_if call acceptor b = record call {
  told = None;
  harmed = if b then call.harmed else with_member call.harmed acceptor;
  reserved = if b then call.reserved else call.reserved - 1;
}

pub spends_harm : (asked : List ℕ) (call : CallView) (acceptor : ℕ) → IsMemberSet call.harmed → IsWithin asked call.harmed → acceptor < 64 → has_member asked acceptor ≡ true → Spends asked call (harmed_by call acceptor) 0
spends_harm asked call acceptor set within low member = by_test (has_member call.harmed acceptor) refl
  where
    by_test : (b : Bool) → has_member call.harmed acceptor ≡ b → Spends asked call (harmed_if call acceptor b) 0
    by_test true e = record { key = refl; proposed = refl; harmed_set = set; harmed_within = within; kept = omega arith }
    by_test false e = record {
      key = refl;
      proposed = refl;
      harmed_set = IsMemberSet-members_where (λ n. n == acceptor || has_member call.harmed n);
      harmed_within = λ a h. elim (or_cases (a == acceptor) (has_member call.harmed a) (members_where_tells (λ n. n == acceptor || has_member call.harmed n) a h)) [
        | inl same ↦ subst (λ (n : ℕ). has_member asked n ≡ true) (sym (nat_same same)) member
        | inr before ↦ within a before
      ];
      kept = omega (arith, length_with_member call.harmed acceptor set low e);
    }

harm_fits : (id number : ℕ) (call : CallView) (acceptor : ℕ) (down : Bool) → 0 < call.reserved → length (harms_marked id number call acceptor down) + (harmed_by call acceptor).reserved ≤ call.reserved
harm_fits id number call acceptor down some = by_test (has_member call.harmed acceptor)
  where
    by_test : (b : Bool) → length (if b then [] else Harmed id number down ∷ []) + (harmed_if call acceptor b).reserved ≤ call.reserved
    by_test true = omega arith
    by_test false = omega (arith, some)

-- ---- votes
no_votes : (id : ℕ) (question : Ask) (answer : Tell) → is_prepare (phase_of question) ≡ true → length (marks_of (votes_of id question answer)) ≡ 0
no_votes id (ask.Prepare key ballot) answer e = refl
no_votes id (ask.Accept key ballot era ride state) answer e = absurd (cc e)
no_votes id (ask.Ages tag least) answer e = absurd (cc e)
no_votes id (ask.Remove key tomb) answer e = absurd (cc e)
no_votes id (ask.List tag after) answer e = absurd (cc e)
no_votes id (ask.Probe tag key) answer e = absurd (cc e)

-- ---- an open round goes on
-- what it is about stays
record RoundStays (round now : Round) : Type 0 where
  pub key : now.key ≡ round.key
  pub era : now.era ≡ round.era
  pub ballot : now.ballot ≡ round.ballot
  pub ride : now.ride ≡ round.ride
  pub preparing : is_preparing now.phase ≡ is_preparing round.phase

stays_same : (round : Round) → RoundStays round round
stays_same round = record { key = refl; era = refl; ballot = refl; ride = refl; preparing = refl }

stays_heard : (round now : Round) (reply : Reply) → Hears round reply now → RoundStays round now
stays_heard round now reply by = record {
  key = ap (λ (r : Round). r.key) by.same;
  era = ap (λ (r : Round). r.era) by.same;
  ballot = ap (λ (r : Round). r.ballot) by.same;
  ride = ap (λ (r : Round). r.ride) by.same;
  preparing = by.same_phase;
}

open_goes_on : (era : Era) (caller : CallerView) (call new : CallView) (queue rest : QueueView) (round now : Round) (votes : ℕ) (was : IsOpenSafe era caller queue round) → was.call ≡ call → RoundStays round now
    → Spends (asked_in era round.phase) call new votes → Moves (asked_in era round.phase) queue rest votes → (is_preparing round.phase ≡ true → votes ≡ 0) → IsOpenSafe era (recalled caller new) rest now
open_goes_on era caller call new queue rest round now votes was same stays spends moves unvoted = record {
  call = new;
  is_open = refl;
  same_key = stays.key ∙ was.same_key ∙ ap (λ (c : CallView). c.key) same ∙ sym spends.key;
  same_era = stays.era ∙ was.same_era;
  ballot = subst FitsBallot (sym stays.ballot) was.ballot;
  ride = λ b some. was.ride b (sym stays.ride ∙ some);
  about = λ each h. elim (moves.about each h) [
    | inl before ↦ asked (head_of each).1 (was.about each before)
    | inr one ↦ asked (head_of each).1 one
  ];
  asks = λ e request h. was.asks (sym stays.preparing ∙ e) request (moves.requests request h);
  harmed_set = spends.harmed_set;
  harmed_within = λ a h. asked a (spends.harmed_within a h);
  unproposed = λ e. spends.proposed ∙ ap (λ (c : CallView). c.proposed) (sym same) ∙ was.unproposed (sym stays.preparing ∙ e);
  prepare_room = λ e. omega (arith, was.prepare_room (sym stays.preparing ∙ e), spends.kept, unvoted (sym stays.preparing ∙ e), reserved_same, harmed_same);
  proposed = λ e. ap (λ (o : Option Outcome). is_some o) (spends.proposed ∙ ap (λ (c : CallView). c.proposed) (sym same)) ∙ was.proposed (sym stays.preparing ∙ e);
  accept_room = λ e. omega (arith, was.accept_room (sym stays.preparing ∙ e), spends.kept, moves.counted.count, reserved_same, harmed_same);
}
  where
    asked : (a : ℕ) → has_member (asked_in era round.phase) a ≡ true → has_member (asked_in era now.phase) a ≡ true
    asked a h = subst (λ (l : List ℕ). has_member l a ≡ true) (sym (same_asked era now.phase round.phase stays.preparing)) h

    reserved_same : was.call.reserved ≡ call.reserved
    reserved_same = ap (λ (c : CallView). c.reserved) same

    harmed_same : length was.call.harmed ≡ length call.harmed
    harmed_same = ap (λ (c : CallView). length c.harmed) same

party_goes_on : {V : Type 0} (era : Era) (few more id : ℕ) (desk next : DeskView V) (caller : CallerView) (call new : CallView) (queue rest : QueueView) (round now : Round) (votes : ℕ) → few ≤ more
    → IsPartySafe era few id desk caller queue → desk.round ≡ Some round → next ≡ record desk { round = Some now } → (was : IsOpenSafe era caller queue round) → was.call ≡ call → RoundStays round now
    → Spends (asked_in era round.phase) call new votes → Moves (asked_in era round.phase) queue rest votes → (is_preparing round.phase ≡ true → votes ≡ 0) → new.reserved ≤ most_round_marks → IsPartySafe era more id next (recalled caller new) rest
party_goes_on {V} era few more id desk next caller call new queue rest round now votes low party is_round next_is was same stays spends moves unvoted fewer = subst (λ (d : DeskView V). IsPartySafe era more id d (recalled caller new) rest) (sym next_is) (record {
  same_id = party.same_id;
  idle = λ down. absurd (cc (party.idle down, is_round));
  number = omega (arith, party.number, low);
  few = fewer;
  cached = party.cached;
  round = open_goes_on era caller call new queue rest round now votes was same stays spends moves unvoted;
  room = omega (arith, moves.counted.room party.room);
})

-- ---- the open round of a proposer with a frame that waits
record IsRoundOpenAt {S V : Type 0} (old : View S V) (id : ℕ) (caller : CallerView) (call : CallView) : Type 0 where
  pub desk : DeskView V
  pub at_desk : IsAt old.desks id desk
  pub round : Round
  pub is_round : desk.round ≡ Some round
  pub safe : IsOpenSafe (era_at old id) caller (queue_at old.flow id) round
  pub same : safe.call ≡ call

open_at : {S V : Type 0} (old : View S V) (id : ℕ) (caller : CallerView) (call : CallView) (front : Message) → IsSound old → IsAt old.callers id caller → caller.call ≡ Some call
    → slice_get (queue_at old.flow id).messages 0 ≡ Some front → IsRoundOpenAt old id caller call
open_at {S} {V} old id caller call front was at is_open waits =
    let desk = at_low old.desks id (omega (arith, low_at old.callers id at, was.desks, was.callers)) in
    by_round desk.0 desk.1 desk.0.round refl (was.parties id desk.0 caller desk.1 at).round
  where
    by_round : (desk : DeskView V) → IsAt old.desks id desk → (r : Option Round) → desk.round ≡ r → IsRoundSafe (era_at old id) caller (queue_at old.flow id) r → IsRoundOpenAt old id caller call
    by_round desk at_desk None e idle = absurd (cc (waits, ap (λ (l : List Message). slice_get l 0) idle.none_waits))
    by_round desk at_desk (Some round) e safe = record { desk = desk; at_desk = at_desk; round = round; is_round = e; safe = safe; same = some_is (sym safe.is_open ∙ is_open) }

-- a mark is reserved still
some_reserved : (era : Era) (caller : CallerView) (queue : QueueView) (round : Round) → IsMemberSet era.prep → IsMemberSet era.acc → (was : IsOpenSafe era caller queue round) → 0 < was.call.reserved
some_reserved era caller queue round prep acc was = omega (arith, reserves_one era caller queue round was prep acc)

-- ---- a turn
-- frames of other proposers stay
pub record KeepsOtherFrames (old new : FlowView) (id : ℕ) : Type 0 where
  pub own : length new.own ≡ length old.own
  pub others : (p : ℕ) → (p ≡ id → ⊥) → queue_at new p ≡ queue_at old p

pub taken_others : (flow : FlowView) (id : ℕ) (v : Verdict) → KeepsOtherFrames flow (taken flow id v) id
taken_others flow id v = record {
  own = length-set flow.own id (queue_after (queue_at flow id) v);
  others = λ p other. queue_other flow.own id p (queue_after (queue_at flow id) v) other;
}

pub replied_others : (flow : FlowView) (id : ℕ) (v : Verdict) (reply : Reply) → KeepsOtherFrames flow (replied_flow flow id v reply) id
replied_others flow id v reply = record {
  own = length-set (taken flow id v).own id (pushed (queue_at (taken flow id v) id) (message.Reply reply)) ∙ (taken_others flow id v).own;
  others = λ p other. queue_other (taken flow id v).own id p (pushed (queue_at (taken flow id v) id) (message.Reply reply)) other ∙ (taken_others flow id v).others p other;
}

-- desks of other proposers stay
record KeepsDesks {V : Type 0} (old new : List (DeskView V)) (id : ℕ) (next : DeskView V) : Type 0 where
  pub length : length new ≡ length old
  pub others : (p : ℕ) (desk : DeskView V) → (p ≡ id → ⊥) → IsAt new p desk → IsAt old p desk
  pub own : (desk : DeskView V) → IsAt new id desk → desk ≡ next

-- the proposer's open round goes on, and marks are made
turned : {S V : Type 0} (old : View S V) (id : ℕ) (caller : CallerView) (call new : CallView) (acceptors : List (AcceptorView S)) (desks : List (DeskView V)) (flow : FlowView) (more : List Mark) (desk next : DeskView V) (round now : Round) (votes : ℕ)
    → IsSound old → IsAt old.callers id caller → caller.call ≡ Some call → IsAt old.desks id desk → desk.round ≡ Some round → next ≡ record desk { round = Some now }
    → (safe : IsOpenSafe (era_at old id) caller (queue_at old.flow id) round) → safe.call ≡ call → RoundStays round now
    → KeepsIds old.acceptors acceptors → KeepsDesks old.desks desks id next → KeepsOtherFrames old.flow flow id → length more + new.reserved ≤ call.reserved
    → Spends (asked_in (era_at old id) round.phase) call new votes → Moves (asked_in (era_at old id) round.phase) (queue_at old.flow id) (queue_at flow id) votes → (is_preparing round.phase ≡ true → votes ≡ 0)
    → IsSound (record old { acceptors = acceptors; desks = desks; callers = slice_set old.callers id (recalled caller new); flow = flow; marks = old.marks ++ more })
turned {S} {V} old id caller call new acceptors desks flow more desk next round now votes was at_caller is_open at_desk is_round next_is safe same stays ids keeps others fits spends moves unvoted =
    safe_but old (record old { acceptors = acceptors; desks = desks; callers = slice_set old.callers id (recalled caller new); flow = flow; marks = old.marks ++ more }) id was (caller_low old id caller was at_caller)
    (changes_all old id acceptors desks (recalled caller new) flow (old.marks ++ more) ids.length (ids.ids was.acceptor_ids) keeps.length keeps.others others.own others.others (more_by old.marks more))
    (λ d c at_d at_c. subst (λ (x : DeskView V). IsPartySafe (era_at old id) (length (old.marks ++ more)) id x c (queue_at flow id)) (sym (keeps.own d at_d))
    (subst (λ (x : CallerView). IsPartySafe (era_at old id) (length (old.marks ++ more)) id next x (queue_at flow id)) (sym (own_set old.callers id (recalled caller new) c at_c))
    (party_goes_on (era_at old id) (length old.marks) (length (old.marks ++ more)) id desk next caller call new (queue_at old.flow id) (queue_at flow id) round now votes (more_by old.marks more) (was.parties id desk caller at_desk at_caller) is_round next_is safe same stays spends moves unvoted
    (omega (arith, fits, (was.parties id desk caller at_desk at_caller).few, ap reserved_in is_open)))))
    (omega (arith, was.room, fits, length-append old.marks more, reserved_set old.callers id caller (recalled caller new) at_caller, ap reserved_in is_open))

-- the round is as it was
turned_here : {S V : Type 0} (old : View S V) (id : ℕ) (caller : CallerView) (call new : CallView) (acceptors : List (AcceptorView S)) (flow : FlowView) (more : List Mark) (votes : ℕ) (is_at : IsRoundOpenAt old id caller call)
    → IsSound old → IsAt old.callers id caller → caller.call ≡ Some call → KeepsIds old.acceptors acceptors → KeepsOtherFrames old.flow flow id → length more + new.reserved ≤ call.reserved
    → Spends (asked_in (era_at old id) is_at.round.phase) call new votes → Moves (asked_in (era_at old id) is_at.round.phase) (queue_at old.flow id) (queue_at flow id) votes → (is_preparing is_at.round.phase ≡ true → votes ≡ 0)
    → IsSound (record old { acceptors = acceptors; callers = slice_set old.callers id (recalled caller new); flow = flow; marks = old.marks ++ more })
turned_here {S} {V} old id caller call new acceptors flow more votes is_at was at_caller is_open ids others fits spends moves unvoted =
    turned old id caller call new acceptors old.desks flow more is_at.desk is_at.desk is_at.round is_at.round votes was at_caller is_open is_at.at_desk is_at.is_round
    (ap (λ (r : Option Round). record is_at.desk { round = r }) is_at.is_round) is_at.safe is_at.same (stays_same is_at.round) ids
    (record { length = refl; others = λ p d other at. at; own = λ d at. at_one old.desks id at is_at.at_desk }) others fits spends moves unvoted

-- a frame to or from an acceptor is harmed, and the acceptor may go down
harmed_safe : {S V : Type 0} (old : View S V) (id : ℕ) (v : Verdict) (front : Message) (caller : CallerView) (call : CallView) (acceptors : List (AcceptorView S)) (acceptor : ℕ) (down : Bool) → IsSound old → IsAt old.callers id caller → caller.call ≡ Some call
    → slice_get (queue_at old.flow id).messages 0 ≡ Some front → acceptor ≡ (head_of front).1 → KeepsIds old.acceptors acceptors
    → IsSound (harmed_view (record old { acceptors = acceptors; flow = taken old.flow id v }) id caller call acceptor down)
harmed_safe {S} {V} old id v front caller call acceptors acceptor down was at is_open waits to ids =
    turned_here old id caller call (harmed_by call acceptor) acceptors (taken old.flow id v) (harms_marked id caller.number call acceptor down) 0 is_at was at is_open ids (taken_others old.flow id v)
    (harm_fits id caller.number call acceptor down (subst (λ (c : CallView). 0 < c.reserved) is_at.same (some_reserved (era_at old id) caller (queue_at old.flow id) is_at.round (was.prep_sets id) (was.acc_sets id) is_at.safe)))
    (spends_harm (asked_in (era_at old id) is_at.round.phase) call acceptor (subst (λ (c : CallView). IsMemberSet c.harmed) is_at.same is_at.safe.harmed_set) (subst (λ (c : CallView). IsWithin (asked_in (era_at old id) is_at.round.phase) c.harmed) is_at.same is_at.safe.harmed_within)
    (member_low (asked_in (era_at old id) is_at.round.phase) acceptor (asked_set (era_at old id) is_at.round.phase (was.prep_sets id) (was.acc_sets id)) member) member)
    (taken_moves old.flow id v (asked_in (era_at old id) is_at.round.phase) waits) (λ e. refl)
  where
    is_at : IsRoundOpenAt old id caller call
    is_at = open_at old id caller call front was at is_open waits

    member : has_member (asked_in (era_at old id) is_at.round.phase) acceptor ≡ true
    member = subst (λ (a : ℕ). has_member (asked_in (era_at old id) is_at.round.phase) a ≡ true) (sym to) (is_at.safe.about front (contains_at (queue_at old.flow id).messages 0 front waits))

-- an acceptor answers
answers_safe : {S V : Type 0} (m : Meaning S V) (old : View S V) (id : ℕ) (v : Verdict) (caller : CallerView) (call : CallView) (request : Request) (acceptor now : AcceptorView S) (reply : Reply) → IsSound old → IsAt old.callers id caller → caller.call ≡ Some call
    → slice_get (queue_at old.flow id).messages 0 ≡ Some (message.Request request) → fall_of (queue_at old.flow id).again v ≡ Handle → IsAt old.acceptors request.to acceptor → AnswersByTable m.shelves acceptor now request reply
    → IsSound (with_marks (record (with_call (with_acceptor old request.to now) id caller (marking call (length (votes_marked request reply)))) { flow = replied_flow old.flow id v reply }) (votes_marked request reply))
answers_safe {S} {V} m old id v caller call request acceptor now reply was at is_open waits handle at_acceptor by =
    turned_here old id caller call (marking call (length (votes_marked request reply))) (slice_set old.acceptors request.to now) (replied_flow old.flow id v reply) (votes_marked request reply) (length (votes_marked request reply)) is_at was at is_open
    (keeps_set old.acceptors request.to acceptor now at_acceptor (ap (λ (a : AcceptorView S). a.id) by.acceptor)) (replied_others old.flow id v reply)
    (omega (arith, few, subst (λ (c : CallView). 0 < c.reserved) is_at.same (some_reserved (era_at old id) caller (queue_at old.flow id) is_at.round (was.prep_sets id) (was.acc_sets id) is_at.safe)))
    (spends_votes (asked_in (era_at old id) is_at.round.phase) call (length (votes_marked request reply)) (subst (λ (c : CallView). IsMemberSet c.harmed) is_at.same is_at.safe.harmed_set)
    (subst (λ (c : CallView). IsWithin (asked_in (era_at old id) is_at.round.phase) c.harmed) is_at.same is_at.safe.harmed_within))
    (replied_moves old.flow id v request reply (asked_in (era_at old id) is_at.round.phase) (length (votes_marked request reply)) waits handle member (by.table.tag, by.table.phase) few)
    (λ e. no_votes request.to request.ask reply.tell (is_at.safe.asks e request (contains_at (queue_at old.flow id).messages 0 (message.Request request) waits)))
  where
    is_at : IsRoundOpenAt old id caller call
    is_at = open_at old id caller call (message.Request request) was at is_open waits

    few : length (votes_marked request reply) ≤ 1
    few = votes_few request reply

    member : has_member (asked_in (era_at old id) is_at.round.phase) reply.from ≡ true
    member =
        subst (λ (a : ℕ). has_member (asked_in (era_at old id) is_at.round.phase) a ≡ true) (sym (by.table.from ∙ was.acceptor_ids request.to acceptor at_acceptor))
        (is_at.safe.about (message.Request request) (contains_at (queue_at old.flow id).messages 0 (message.Request request) waits))

-- a reply arrives at the open round
arrives_safe : {S V : Type 0} (old : View S V) (id : ℕ) (v : Verdict) (front : Message) (caller : CallerView) (call : CallView) (reply : Reply) (desk now : DeskView V) (round next : Round) → IsSound old → IsAt old.callers id caller → caller.call ≡ Some call
    → slice_get (queue_at old.flow id).messages 0 ≡ Some front → IsAt old.desks id desk → desk.round ≡ Some round → HearsReply desk now round next reply
    → IsSound (record (with_call (with_desk old id now) id caller (silent call)) { flow = taken old.flow id v })
arrives_safe {S} {V} old id v front caller call reply desk now round next was at is_open waits at_desk is_round hears =
    subst (λ (l : List Mark). IsSound (record old { desks = slice_set old.desks id now; callers = slice_set old.callers id (recalled caller (silent call)); flow = taken old.flow id v; marks = l })) (append-nil old.marks)
    (turned old id caller call (silent call) old.acceptors (slice_set old.desks id now) (taken old.flow id v) [] desk now round next 0 was at is_open at_desk is_round hears.desk safe same (stays_heard round next reply hears.hears)
    (keeps_same old.acceptors) (record { length = length-set old.desks id now; others = λ p d other at_d. other_set old.desks id now p d other at_d; own = λ d at_d. own_set old.desks id now d at_d }) (taken_others old.flow id v) (omega arith)
    (spends_none (asked_in (era_at old id) round.phase) call (subst (λ (c : CallView). IsMemberSet c.harmed) same safe.harmed_set) (subst (λ (c : CallView). IsWithin (asked_in (era_at old id) round.phase) c.harmed) same safe.harmed_within))
    (taken_moves old.flow id v (asked_in (era_at old id) round.phase) waits) (λ e. refl))
  where
    safe : IsOpenSafe (era_at old id) caller (queue_at old.flow id) round
    safe = subst (IsRoundSafe (era_at old id) caller (queue_at old.flow id)) is_round (was.parties id desk caller at_desk at).round

    same : safe.call ≡ call
    same = some_is (sym safe.is_open ∙ is_open)

pub turns_safe : {S V : Type 0} (m : Meaning S V) (old : View S V) (id : ℕ) (verdict : Verdict) (front : Message) (caller : CallerView) (call : CallView) (new : View S V) → IsSound old → IsAt old.callers id caller → caller.call ≡ Some call
    → slice_get (queue_at old.flow id).messages 0 ≡ Some front → TakesTurn m old id verdict front caller call new → IsSound new
turns_safe m old id v front caller call new was at is_open waits (frames.held fall view) = subst IsSound (sym view) was
turns_safe m old id v front caller call new was at is_open waits (frames.gone fall view) = subst IsSound (sym view) (harmed_safe old id v front caller call old.acceptors (head_of front).1 false was at is_open waits refl (keeps_same old.acceptors))
turns_safe m old id v front caller call new was at is_open waits (frames.answers request acceptor now reply fall is_request at_acceptor by view) =
    subst IsSound (sym view) (answers_safe m old id v caller call request acceptor now reply was at is_open (waits ∙ ap (λ (x : Message). Some x) is_request) fall at_acceptor by)
turns_safe m old id v front caller call new was at is_open waits (frames.finds_down request acceptor fall is_request at_acceptor is_down view) =
    subst IsSound (sym view) (harmed_safe old id v front caller call old.acceptors request.to true was at is_open waits (ap (λ (x : Message). (head_of x).1) (sym is_request)) (keeps_same old.acceptors))
turns_safe {S} {V} m old id v front caller call new was at is_open waits (frames.brings_down request acceptor now fall is_request at_acceptor by view) =
    subst IsSound (sym view) (harmed_safe old id v front caller call (slice_set old.acceptors request.to now) request.to true was at is_open waits (ap (λ (x : Message). (head_of x).1) (sym is_request))
    (keeps_set old.acceptors request.to acceptor now at_acceptor (ap (λ (a : AcceptorView S). a.id) by.acceptor)))
turns_safe m old id v front caller call new was at is_open waits (frames.arrives reply desk now round next fall is_reply at_desk is_round hears view) =
    subst IsSound (sym view) (arrives_safe old id v front caller call reply desk now round next was at is_open waits at_desk is_round hears)
