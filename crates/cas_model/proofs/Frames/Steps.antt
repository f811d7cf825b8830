-- Steps of frames: the first own frame of a proposer has its turn, and a late frame strays in; and a cluster has a history after each.
use Rattle.std.proofs.Common.{◌≡◌, ◌<◌, ◌≤◌, ℕ, suc, Bool, true, false, List, [], ◌∷◌, ◌++◌, Option, None, Some, reverse, refl, sym, ap, subst, ◌∙◌, inl, inr, arith}
use Rattle.std.specs.Prelude.{◌-◌, ◌⊎◌, ◌==◌, ◌&&◌, ◌||◌, ◌+◌, not, nat_lt, length, take, drop, filter, cond, if◌then◌else◌, is_some, slice_get, Contains}
use Rattle.std.specs.List.{range_with_len}
use Rattle.std.specs.Ordering.{is_eq}
use Rattle.std.proofs.lemmas.List.{reverse-append, length-set}
use Rattle.cas_base.proofs.Bools.{if_true, if_false, true_or_false, both_true, or_cases, or_left, or_right}
use Rattle.cas_ballot.specs.Ballot.{ballot_cmp}
use Rattle.cas_ballot.specs.Members.{members_where, has_member, with_member, IsMemberSet}
use Rattle.cas_ballot.proofs.CountLemmas.{length-with_member-le}
use Rattle.cas_ballot.proofs.MemberLemmas.{has-members_where, IsMemberSet-members_where}
use Rattle.cas_change.specs.declared.outcome.Outcome.{Outcome}
use Rattle.cas_fate.specs.declared.fate.Verdict.{Verdict}
use Rattle.cas_flow.specs.Flow.{FlowView, queue_at, is_first_of_two, is_late, queue_by, queue_after, joined_by, late_after, taken}
use Rattle.cas_flow.specs.Message.{head_of}
use Rattle.cas_flow.specs.Queue.{QueueView, popped, pushed, fall_of, joined}
use Rattle.cas_flow.specs.declared.fall.Fall.{Fall}
use Rattle.cas_flow.specs.declared.fall.Fall.TheVariants.{Handle, Gone, Held}
use Rattle.cas_flow.specs.declared.message.Message.{Message}
use Rattle.cas_flow.specs.declared.message.Message.TheVariants as message
use Rattle.cas_acceptor.specs.Acceptor.{AcceptorView}
use Rattle.cas_proposer.specs.Desk.{DeskView}
use Rattle.cas_proposer.specs.Round.{is_heard_at, is_of, is_preparing, IsPreparing, IsAccepting, Hears}
use Rattle.cas_proposer.specs.declared.round.OpenPhase.{OpenPhase}
use Rattle.cas_proposer.specs.declared.round.OpenPhase.TheVariants.{Prepare, Accept}
use Rattle.cas_proposer.specs.declared.round.Round.{Round}
use Rattle.cas_quorum.specs.declared.era.Era.{Era}
use Rattle.cas_slot.specs.Contents.{Contents}
use Rattle.cas_slot.specs.Message.{phase_of}
use Rattle.cas_slot.specs.Table.{IsReplyByTable}
use Rattle.cas_slot.specs.declared.message.Ask.{Ask}
use Rattle.cas_slot.specs.declared.message.Ask.TheVariants as ask
use Rattle.cas_slot.specs.declared.message.Phase.{Phase}
use Rattle.cas_slot.specs.declared.message.Reply.{Reply}
use Rattle.cas_slot.specs.declared.message.Request.{Request}
use Rattle.cas_slot.specs.declared.message.Tell.{Tell}
use Rattle.cas_slot.specs.declared.message.Tell.TheVariants as tell
use Rattle.cas_record.specs.declared.answer.Answer.TheVariants as answer
use Rattle.cas_record.specs.declared.mark.Mark.{Mark}
use Rattle.cas_record.specs.declared.mark.Mark.TheVariants.{Harmed}
use Rattle.cas_record.specs.Histories.Chain.{is_call}
use Rattle.cas_record.specs.Logs.Happening.{Happening, Marked, marks_of}
use Rattle.cas_record.specs.Logs.Lawful.{Cluster}
use Rattle.cas_record.specs.Legal.{harms_of}
use Rattle.cas_record.proofs.Tests.{nat_is, ballot_is, call_is}
use Rattle.cas_protocol.specs.Acceptors.{votes_of}
use Rattle.cas_model.specs.History.{IsLogged}
use Rattle.cas_model.specs.Parties.{HasNone, WasMade, IsMessageTrue, AreMessagesTrue, WereMade, asked_in, IsOfPhase, IsAccountedFor, heard, waits, was_harmed, IsPhaseHeard, IsRoundTrue, IsOpenTrue, IsDeskTrue, IsToldTrue, IsCallTrue, IsCallerTrue}
use Rattle.cas_protocol.specs.Protocol.{Made, GlobalState, HasHistory, Harms}
use Rattle.cas_model.specs.Step.{StepTurn, StepRefuseTurn, StepStray}
use Rattle.cas_model.specs.Frames.Acceptors.{AnswersByTable}
use Rattle.cas_model.specs.Calls.Step.{with_call, telling}
use Rattle.cas_model.specs.Calls.Desks.{HearsReply}
use Rattle.cas_model.specs.Frames.Step as frames
use Rattle.cas_model.specs.Frames.Step.{TakesTurn, FindsNoRoom, Strays, silent, marking, votes_marked, harmed_by, harms_marked, harmed_view, replied_flow, without_late, with_late}
use Rattle.cas_model.specs.View.{Meaning, View, CallView, CallerView, IsAt, with_acceptor, with_desk, with_marks, era_at}
use Rattle.cas_model.proofs.Frames.Acceptors.{answers, answered_global, answered_marks, reply_made, stops_within, finds_none}
use Rattle.cas_model.proofs.Around.{parties_more, Whole, whole_of, logged, around, settles, Everyone, leaves_caller, leaves_desk, parties_seen, Everyone}
use Rattle.cas_protocol.proofs.Events.{keeps}
use Rattle.cas_model.proofs.Others.{calls_of_others, no_floor_of, ended_open, call_still, acceptor_still}
use Rattle.cas_model.proofs.Places.{same_or_not, some_is, own_set, queue_same, queue_other, has_queue, contains_new, contains_older, newest_or_older, contains_none, contains_append, contains_front, contains_back, contains_take, contains_drop, contains_at}

-- ---- what waits
-- What waits then waited before. What waited and is about another acceptor still waits.
pub record Thins (old new : List Message) (acceptor : ℕ) : Type 0 where
  pub before : (each : Message) → Contains new each → Contains old each
  pub still : (each : Message) → Contains old each → ((head_of each).1 ≡ acceptor → ⊥) → Contains new each

thins_not : (old : List Message) (acceptor : ℕ) → Thins old old acceptor
thins_not old acceptor = record { before = λ each has. has; still = λ each has other. has }

-- the first one leaves
first_leaves : (old : List Message) {front : Message} → slice_get old 0 ≡ Some front → Thins old (drop 1 old) (head_of front).1
first_leaves [] e = absurd (cc e)
first_leaves (x ∷ old) {front} e = record {
  before = λ each has. contains_older old has;
  still = λ each has other. elim (newest_or_older old has) [
    | inl now ↦ absurd (other (ap (λ (each : Message). (head_of each).1) (sym now ∙ some_is e)))
    | inr later ↦ later
  ];
}

-- a first one that is handled leaves or stays, one that is gone leaves, and one that is held stays
thins_by : (fall : Fall) (queue : QueueView) (verdict : Verdict) {front : Message} → slice_get queue.messages 0 ≡ Some front → Thins queue.messages (queue_by fall queue verdict).messages (head_of front).1
thins_by Handle queue verdict {front} e = elim (true_or_false (is_first_of_two queue.again verdict)) [
  | inl twice ↦ subst (λ (q : QueueView). Thins queue.messages q.messages (head_of front).1)
      (sym (if_true (is_first_of_two queue.again verdict) (record { messages = queue.messages; again = true; room = queue.room }) (popped queue) twice)) (thins_not queue.messages (head_of front).1)
  | inr once ↦ subst (λ (q : QueueView). Thins queue.messages q.messages (head_of front).1)
      (sym (if_false (is_first_of_two queue.again verdict) (record { messages = queue.messages; again = true; room = queue.room }) (popped queue) once)) (first_leaves queue.messages e)
]
thins_by Gone queue verdict e = first_leaves queue.messages e
thins_by Held queue verdict {front} e = thins_not queue.messages (head_of front).1

-- the queue of a proposer whose first frame is taken
pub taken_own : (flow : FlowView) (id : ℕ) (verdict : Verdict) {front : Message} → slice_get (queue_at flow id).messages 0 ≡ Some front → queue_at (taken flow id verdict) id ≡ queue_after (queue_at flow id) verdict
taken_own flow id verdict e = queue_same flow.own id (queue_after (queue_at flow id) verdict) (has_queue flow.own id e)

pub taken_thins : (flow : FlowView) (id : ℕ) (verdict : Verdict) {front : Message} → slice_get (queue_at flow id).messages 0 ≡ Some front → Thins (queue_at flow id).messages (queue_at (taken flow id verdict) id).messages (head_of front).1
taken_thins flow id verdict {front} e =
    subst (λ (q : QueueView). Thins (queue_at flow id).messages q.messages (head_of front).1) (sym (taken_own flow id verdict e)) (thins_by (fall_of (queue_at flow id).again verdict) (queue_at flow id) verdict e)

pub taken_others : (flow : FlowView) (id : ℕ) (verdict : Verdict) (p : ℕ) → (p ≡ id → ⊥) → (queue_at (taken flow id verdict) p).messages ≡ (queue_at flow p).messages
taken_others flow id verdict p other = ap (λ (q : QueueView). q.messages) (queue_other flow.own id p (queue_after (queue_at flow id) verdict) other)

-- ---- late frames
contains_joined : (late : List Message) (new : Message) {each : Message} → Contains (joined late new) each → (each ≡ new) ⊎ Contains late each
contains_joined late new {each} has = by_room (nat_lt (length late) 65536) has
  where
    by_room : (b : Bool) → Contains (if b then late ++ new ∷ [] else late) each → (each ≡ new) ⊎ Contains late each
    by_room true has = elim (contains_append late (new ∷ []) has) [
      | inl front ↦ inr front
      | inr back ↦ elim (newest_or_older [] back) [
        | inl now ↦ inl (sym now)
        | inr none ↦ absurd (contains_none none)
      ]
    ]
    by_room false has = inr has

pub joined_true : (log : List Happening) (late : List Message) (new : Message) → AreMessagesTrue log late → IsMessageTrue log new → AreMessagesTrue log (joined late new)
joined_true log late new were is each has = elim (contains_joined late new has) [
  | inl now ↦ subst (IsMessageTrue log) (sym now) is
  | inr before ↦ were each before
]

joined_by_true : (log : List Happening) (late : List Message) (new : Option Message) → AreMessagesTrue log late → ((each : Message) → new ≡ Some each → IsMessageTrue log each) → AreMessagesTrue log (joined_by late new)
joined_by_true log late None were is = were
joined_by_true log late (Some new) were is = joined_true log late new were (is new refl)

-- what is late once a first frame is taken
pub late_true : (log : List Happening) (late : List Message) (queue : QueueView) (verdict : Verdict) → AreMessagesTrue log late → AreMessagesTrue log queue.messages → AreMessagesTrue log (late_after late queue verdict)
late_true log late queue verdict were own = by_late (is_late queue.again verdict)
  where
    by_late : (b : Bool) → AreMessagesTrue log (if b then joined_by late (slice_get queue.messages 0) else late)
    by_late true = joined_by_true log late (slice_get queue.messages 0) were (λ each e. own each (contains_at queue.messages 0 each e))
    by_late false = were

-- one late frame leaves
without_true : (log : List Happening) (flow : FlowView) (index : ℕ) → AreMessagesTrue log flow.late → AreMessagesTrue log (without_late flow index).late
without_true log flow index were each has = elim (contains_append (take index flow.late) (drop (index + 1) flow.late) has) [
  | inl front ↦ were each (contains_take index flow.late front)
  | inr back ↦ were each (contains_drop (index + 1) flow.late back)
]

-- ---- sets of acceptors
filter_more : (p q : ℕ → Bool) (xs : List ℕ) (n : ℕ) → ((k : ℕ) → p k ≡ true → q k ≡ true) → has_member (filter p xs) n ≡ true → has_member (filter q xs) n ≡ true
filter_more p q [] n more e = e
filter_more p q (x ∷ xs) n more e = by_tests (p x) (q x) (more x) e (filter_more p q xs n more)
  where
    by_tests : (a b : Bool) → (a ≡ true → b ≡ true) → has_member (cond a (x ∷ filter p xs) (filter p xs)) n ≡ true → (has_member (filter p xs) n ≡ true → has_member (filter q xs) n ≡ true)
        → has_member (cond b (x ∷ filter q xs) (filter q xs)) n ≡ true
    by_tests false false f e rest = rest e
    by_tests false true f e rest = or_right (x == n) (has_member (filter q xs) n) (rest e)
    by_tests true false f e rest = absurd (cc (f refl))
    by_tests true true f e rest = elim (or_cases (x == n) (has_member (filter p xs) n) e) [
      | inl here ↦ or_left (x == n) (has_member (filter q xs) n) here
      | inr later ↦ or_right (x == n) (has_member (filter q xs) n) (rest later)
    ]

members_more : (p q : ℕ → Bool) (n : ℕ) → ((k : ℕ) → p k ≡ true → q k ≡ true) → has_member (members_where p) n ≡ true → has_member (members_where q) n ≡ true
unfolding members_where
members_more p q n more e = filter_more p q (range_with_len 0 64) n more e

-- a set with one more has all that it had, and that one
has_still : (ids : List ℕ) (id n : ℕ) → IsMemberSet ids → has_member ids n ≡ true → has_member (with_member ids id) n ≡ true
has_still ids id n set e =
    members_more (has_member ids) (λ k. k == id || has_member ids k) n (λ k had. or_right (k == id) (has_member ids k) had)
    (subst (λ (l : List ℕ). has_member l n ≡ true) set.lists e)

has_one : (ids : List ℕ) (id : ℕ) → id < 64 → has_member (with_member ids id) id ≡ true
has_one ids id low = has-members_where (λ k. k == id || has_member ids k) id low ∙ or_left (id == id) (has_member ids id) (nat_is refl)

-- ---- whom a phase accounts for
-- fewer frames wait, and the acceptor that those that left were about is accounted for
heard_thins : (round : Round) (replies : List Reply) (waiting rest : List Message) (harmed : List ℕ) (acceptor : ℕ) → Thins waiting rest acceptor → IsAccountedFor round replies rest harmed acceptor
    → IsPhaseHeard round replies waiting harmed → IsPhaseHeard round replies rest harmed
heard_thins round replies waiting rest harmed acceptor thins known was = record {
  of_phase = λ each has. was.of_phase each (thins.before each has);
  each = λ a asked. by_account a (was.each a asked);
}
  where
    by_account : (a : ℕ) → IsAccountedFor round replies waiting harmed a → IsAccountedFor round replies rest harmed a
    by_account a (heard reply has from at) = heard reply has from at
    by_account a (waits each has about) = elim (same_or_not a acceptor) [
      | inl same ↦ subst (IsAccountedFor round replies rest harmed) (sym same) known
      | inr other ↦ waits each (thins.still each has (λ e. other (sym about ∙ e))) about
    ]
    by_account a (was_harmed is) = was_harmed is

-- one more frame of the phase waits
heard_pushes : (round : Round) (replies : List Reply) (waiting : List Message) (harmed : List ℕ) (new : Message) → IsOfPhase round new → IsPhaseHeard round replies waiting harmed → IsPhaseHeard round replies (waiting ++ new ∷ []) harmed
heard_pushes round replies waiting harmed new of was = record {
  of_phase = λ each has. elim (contains_append waiting (new ∷ []) has) [
    | inl front ↦ was.of_phase each front
    | inr back ↦ elim (newest_or_older [] back) [
      | inl now ↦ subst (IsOfPhase round) now of
      | inr none ↦ absurd (contains_none none)
    ]
  ];
  each = λ a asked. by_account a (was.each a asked);
}
  where
    by_account : (a : ℕ) → IsAccountedFor round replies waiting harmed a → IsAccountedFor round replies (waiting ++ new ∷ []) harmed a
    by_account a (heard reply has from at) = heard reply has from at
    by_account a (waits each has about) = waits each (contains_front waiting (new ∷ []) has) about
    by_account a (was_harmed is) = was_harmed is

-- more acceptors were harmed
heard_harmed : (round : Round) (replies : List Reply) (waiting : List Message) (harmed more : List ℕ) → ((n : ℕ) → has_member harmed n ≡ true → has_member more n ≡ true) → IsPhaseHeard round replies waiting harmed → IsPhaseHeard round replies waiting more
heard_harmed round replies waiting harmed more grows was = record { of_phase = was.of_phase; each = λ a asked. by_account a (was.each a asked) }
  where
    by_account : (a : ℕ) → IsAccountedFor round replies waiting harmed a → IsAccountedFor round replies waiting more a
    by_account a (heard reply has from at) = heard reply has from at
    by_account a (waits each has about) = waits each has about
    by_account a (was_harmed is) = was_harmed (grows a is)

-- a reply arrives
same_of : (p q : OpenPhase) (asked : Phase) → is_preparing p ≡ is_preparing q → is_of p asked ≡ is_of q asked
same_of (Prepare p) (Prepare q) asked e = refl
same_of (Accept p) (Accept q) asked e = refl
same_of (Prepare p) (Accept q) asked e = absurd (cc e)
same_of (Accept p) (Prepare q) asked e = absurd (cc e)

pub same_asked : (era : Era) (p q : OpenPhase) → is_preparing p ≡ is_preparing q → asked_in era p ≡ asked_in era q
same_asked era (Prepare p) (Prepare q) e = refl
same_asked era (Accept p) (Accept q) e = refl
same_asked era (Prepare p) (Accept q) e = absurd (cc e)
same_asked era (Accept p) (Prepare q) e = absurd (cc e)

same_heard : (round now : Round) (reply each : Reply) → Hears round reply now → is_heard_at now each ≡ is_heard_at round each
same_heard round now reply each by =
    ap (λ (r : Round). is_heard_at r each) by.same ∙ ap (λ (b : Bool). b && is_eq (ballot_cmp each.tag round.ballot)) (same_of now.phase round.phase each.phase by.same_phase)

phase_same : (round now : Round) (reply : Reply) (each : Message) → Hears round reply now → IsOfPhase round each → IsOfPhase now each
phase_same round now reply (message.Request request) by of = (same_of now.phase round.phase (phase_of request.ask) by.same_phase ∙ of.0, of.1 ∙ sym (ap (λ (r : Round). r.ballot) by.same))
phase_same round now reply (message.Reply each) by of = (same_of now.phase round.phase each.phase by.same_phase ∙ of.0, of.1 ∙ sym (ap (λ (r : Round). r.ballot) by.same))

heard_hears : (round now : Round) (reply : Reply) (replies : List Reply) (waiting : List Message) (harmed : List ℕ) → Hears round reply now → IsPhaseHeard round replies waiting harmed → IsPhaseHeard now (reply ∷ replies) waiting harmed
heard_hears round now reply replies waiting harmed by was = record {
  of_phase = λ each has. phase_same round now reply each by (was.of_phase each has);
  each = λ a asked. by_account a (was.each a (subst (λ (l : List ℕ). has_member l a ≡ true) same_members asked));
}
  where
    same_members : asked_in now.era now.phase ≡ asked_in round.era round.phase
    same_members = ap (λ (r : Round). asked_in r.era now.phase) by.same ∙ same_asked round.era now.phase round.phase by.same_phase

    by_account : (a : ℕ) → IsAccountedFor round replies waiting harmed a → IsAccountedFor now (reply ∷ replies) waiting harmed a
    by_account a (heard each has from at) = heard each (contains_older replies has) from (same_heard round now reply each by ∙ at)
    by_account a (waits each has about) = waits each has about
    by_account a (was_harmed is) = was_harmed is

-- a reply of the phase is heard in it
phase_hears : (round : Round) (reply : Reply) → IsOfPhase round (message.Reply reply) → is_heard_at round reply ≡ true
phase_hears round reply of = both_true (is_of round.phase reply.phase) (is_eq (ballot_cmp reply.tag round.ballot)) of.0 (ballot_is of.1)

-- ---- open rounds
-- a phase that accounts for all whom it asks still does with what waits and was harmed then
abbrev pub StaysHeard : List Message → List ℕ → List Message → List ℕ → Type 0
StaysHeard waiting harmed rest more = (round : Round) (replies : List Reply) → IsPhaseHeard round replies waiting harmed → IsPhaseHeard round replies rest more

-- another of its caller's calls, for which nothing else was proposed
abbrev pub recalled : CallerView → CallView → CallerView
recalled caller call = record caller { call = Some call }

-- its call goes on, with nothing else proposed
round_moves : (cluster : Cluster) (log : List Happening) (all : List Made) (id era : ℕ) (caller : CallerView) (call new : CallView) (waiting rest : List Message) (round : Round) → caller.call ≡ Some call
    → new.proposed ≡ call.proposed → new.key ≡ call.key → StaysHeard waiting call.harmed rest new.harmed
    → IsRoundTrue cluster log all id era caller waiting round → IsRoundTrue cluster log all id era (recalled caller new) rest round
round_moves cluster log all id era caller call new waiting rest round is_open proposed key stays was =
    let same : was.call ≡ call = some_is (sym was.is_open ∙ is_open) in record {
      call = new;
      is_open = refl;
      same_key = was.same_key ∙ ap (λ (c : CallView). c.key) same ∙ sym key;
      own = was.own;
      same_era = was.same_era;
      is_era = was.is_era;
      phase = elim was.phase [
        | inl prepare ↦ inl (record {
          unproposed = proposed ∙ sym (ap (λ (c : CallView). c.proposed) same) ∙ prepare.unproposed;
          in_hand = prepare.in_hand;
          replies = prepare.replies;
          preparing = prepare.preparing;
          made = prepare.made;
          heard = stays round prepare.replies (subst (λ (c : CallView). IsPhaseHeard round prepare.replies waiting c.harmed) same prepare.heard);
        })
        | inr accept ↦ inr (record {
          made = accept.made;
          stands = accept.stands;
          same_caller = accept.same_caller;
          same_call = accept.same_call;
          same_key = accept.same_key;
          same_ballot = accept.same_ballot;
          same_era = accept.same_era;
          proposed = proposed ∙ sym (ap (λ (c : CallView). c.proposed) same) ∙ accept.proposed;
          drawn = accept.drawn;
          above_floors = accept.above_floors;
          prepared = accept.prepared;
          replies = accept.replies;
          accepting = accept.accepting;
          replied = accept.replied;
          heard = stays round accept.replies (subst (λ (c : CallView). IsPhaseHeard round accept.replies waiting c.harmed) same accept.heard);
          ride = accept.ride;
        })
      ];
    }

open_moves : (cluster : Cluster) (log : List Happening) (all : List Made) (id era : ℕ) (caller : CallerView) (call new : CallView) (waiting rest : List Message) (round : Option Round) → caller.call ≡ Some call
    → new.proposed ≡ call.proposed → new.key ≡ call.key → (waiting ≡ [] → rest ≡ []) → StaysHeard waiting call.harmed rest new.harmed
    → IsOpenTrue cluster log all id era caller waiting round → IsOpenTrue cluster log all id era (recalled caller new) rest round
open_moves cluster log all id era caller call new waiting rest None is_open proposed key idle stays was = idle was
open_moves cluster log all id era caller call new waiting rest (Some round) is_open proposed key idle stays was = round_moves cluster log all id era caller call new waiting rest round is_open proposed key stays was

-- a reply is heard
round_hears : (cluster : Cluster) (log : List Happening) (all : List Made) (id era : ℕ) (caller : CallerView) (waiting rest : List Message) (round now : Round) (reply : Reply) → Hears round reply now → WasMade log reply
    → ((replies : List Reply) (harmed : List ℕ) → IsPhaseHeard round replies waiting harmed → IsPhaseHeard now (reply ∷ replies) rest harmed)
    → IsRoundTrue cluster log all id era caller waiting round → IsRoundTrue cluster log all id era caller rest now
round_hears cluster log all id era caller waiting rest round now reply by made stays was = subst (IsRoundTrue cluster log all id era caller rest) (sym by.same) (record {
  call = was.call;
  is_open = was.is_open;
  same_key = was.same_key;
  own = was.own;
  same_era = was.same_era;
  is_era = was.is_era;
  phase = elim was.phase [
    | inl prepare ↦ inl (record {
      unproposed = prepare.unproposed;
      in_hand = prepare.in_hand;
      replies = reply ∷ prepare.replies;
      preparing = subst (IsPreparing (reply ∷ prepare.replies)) by.same (by.prepares prepare.replies prepare.preparing);
      made = both_made prepare.replies prepare.made;
      heard = subst (λ (r : Round). IsPhaseHeard r (reply ∷ prepare.replies) rest was.call.harmed) by.same (stays prepare.replies was.call.harmed prepare.heard);
    })
    | inr accept ↦ inr (record {
      made = accept.made;
      stands = accept.stands;
      same_caller = accept.same_caller;
      same_call = accept.same_call;
      same_key = accept.same_key;
      same_ballot = accept.same_ballot;
      same_era = accept.same_era;
      proposed = accept.proposed;
      drawn = accept.drawn;
      above_floors = accept.above_floors;
      prepared = accept.prepared;
      replies = reply ∷ accept.replies;
      accepting = subst (IsAccepting accept.prepared (reply ∷ accept.replies)) by.same (by.accepts accept.prepared accept.replies accept.accepting);
      replied = both_made accept.replies accept.replied;
      heard = subst (λ (r : Round). IsPhaseHeard r (reply ∷ accept.replies) rest was.call.harmed) by.same (stays accept.replies was.call.harmed accept.heard);
      ride = λ ballot is. let ride = accept.ride ballot is in record { in_hand = ride.in_hand; above = ride.above; all = ride.all };
    })
  ];
})
  where
    both_made : (replies : List Reply) → WereMade log replies → WereMade log (reply ∷ replies)
    both_made replies were each has = elim (newest_or_older replies has) [
      | inl now ↦ subst (WasMade log) now made
      | inr before ↦ were each before
    ]

-- ---- parts of a step
-- what becomes of the frames: those of other proposers stay, all are as the log tells, and nothing waits where nothing did
pub record Flows (log : List Happening) (old new : FlowView) (id : ℕ) : Type 0 where
  pub others : (p : ℕ) → (p ≡ id → ⊥) → (queue_at new p).messages ≡ (queue_at old p).messages
  pub own : AreMessagesTrue log (queue_at new id).messages
  pub late : AreMessagesTrue log new.late
  pub idle : (queue_at old id).messages ≡ [] → (queue_at new id).messages ≡ []

-- a caller's open call and the frames of its proposer go on
pub moves : {S V : Type 0} (m : Meaning S V) (cluster : Cluster) (global : GlobalState) (old : View S V) (id : ℕ) (caller : CallerView) (call new : CallView) (flow : FlowView) → IsAt old.callers id caller → caller.call ≡ Some call
    → new.proposed ≡ call.proposed → new.key ≡ call.key → IsCallTrue global.log global.made id caller.number new → Flows global.log old.flow flow id
    → StaysHeard (queue_at old.flow id).messages call.harmed (queue_at flow id).messages new.harmed
    → Whole m cluster global old → Whole m cluster global (record (with_call old id caller new) { flow = flow })
moves {S} {V} m cluster global old id caller call new flow at is_open proposed key is_true flows stays whole =
    settles m cluster global old (record (with_call old id caller new) { flow = flow }) id (around m cluster global old id whole)
    (leaves_caller old id (recalled caller new) _ _ (λ p other. flows.others p other))
    (record {
      desk = λ desk c at_desk at_caller.
          let of = whole.parties.desks id tt desk caller at_desk at in
          subst (λ (k : CallerView). IsDeskTrue m cluster global.log global.made (era_at old id).number id k (queue_at flow id).messages desk) (sym (own_set old.callers id (recalled caller new) c at_caller))
          (record {
            same_id = of.same_id;
            known = of.known;
            vault = of.vault;
            cached = of.cached;
            one_each = of.one_each;
            none_open = of.none_open;
            round = open_moves cluster global.log global.made id (era_at old id).number caller call new (queue_at old.flow id).messages (queue_at flow id).messages desk.round is_open proposed key flows.idle stays of.round;
          });
      caller = λ c at_caller.
          subst (IsCallerTrue global.log global.made id) (sym (own_set old.callers id (recalled caller new) c at_caller))
          (record {
            number = (whole.parties.callers id tt caller at).number;
            call = λ each is. subst (IsCallTrue global.log global.made id caller.number) (some_is is) is_true;
            ended = ended_open global.log id caller.number caller.call new (whole.parties.callers id tt caller at).ended;
          });
      own = flows.own;
      late = flows.late;
    })

-- a reply is heard at a desk
hears : {S V : Type 0} (m : Meaning S V) (cluster : Cluster) (global : GlobalState) (old : View S V) (id : ℕ) (desk now : DeskView V) (round next : Round) (reply : Reply) (flow : FlowView) → IsAt old.desks id desk → desk.round ≡ Some round
    → HearsReply desk now round next reply → WasMade global.log reply → Flows global.log old.flow flow id
    → ((replies : List Reply) (harmed : List ℕ) → IsPhaseHeard round replies (queue_at old.flow id).messages harmed → IsPhaseHeard next (reply ∷ replies) (queue_at flow id).messages harmed)
    → Whole m cluster global old → Whole m cluster global (record (with_desk old id now) { flow = flow })
hears {S} {V} m cluster global old id desk now round next reply flow at is_open by made flows stays whole =
    settles m cluster global old (record (with_desk old id now) { flow = flow }) id (around m cluster global old id whole)
    (leaves_desk old id now _ (λ p other. flows.others p other))
    (record {
      desk = λ d c at_desk at_caller.
          let of = whole.parties.desks id tt desk c at at_caller in
          subst (λ (k : DeskView V). IsDeskTrue m cluster global.log global.made (era_at old id).number id c (queue_at flow id).messages k) (sym (own_set old.desks id now d at_desk ∙ by.desk))
          (record {
            same_id = of.same_id;
            known = of.known;
            vault = of.vault;
            cached = of.cached;
            one_each = of.one_each;
            none_open = λ ready h. subst (λ (r : Option Round). HasNone r desk.cache) is_open of.none_open ready
                (subst (λ (k : List ℕ). Contains desk.cache (k, ready)) (ap (λ (r : Round). r.key) by.hears.same) h);
            round = round_hears cluster global.log global.made id (era_at old id).number c (queue_at old.flow id).messages (queue_at flow id).messages round next reply by.hears made stays
                (subst (IsOpenTrue cluster global.log global.made id (era_at old id).number c (queue_at old.flow id).messages) is_open of.round);
          });
      caller = λ c at_caller. whole.parties.callers id tt c at_caller;
      own = flows.own;
      late = flows.late;
    })

-- other frames are late
relates : {S V : Type 0} (m : Meaning S V) (cluster : Cluster) (global : GlobalState) (old : View S V) (late : List Message) → AreMessagesTrue global.log late → Whole m cluster global old
    → Whole m cluster global (record old { flow = record { own = old.flow.own; late = late } })
relates m cluster global old late is whole = record {
  meets = whole.meets;
  history = whole.history;
  acceptors = whole.acceptors;
  parties = record {
    last_proposer = whole.parties.last_proposer;
    few = whole.parties.few;
    eras = whole.parties.eras;
    desks = whole.parties.desks;
    callers = whole.parties.callers;
    council = whole.parties.council;
    own = whole.parties.own;
    late = is;
  };
}

-- the record goes on, and the log tells it
pub marked : {S V : Type 0} (m : Meaning S V) (cluster : Cluster) (global : GlobalState) (view : View S V) (marks before : List Mark) → Whole m cluster global view
    → before ≡ reverse view.marks → marks_of global.log ≡ reverse marks ++ before → IsLogged m cluster (with_marks view marks)
marked m cluster global view marks before whole was goes = logged m cluster global (with_marks view marks) (record {
  meets = whole.meets;
  history = whole.history;
  acceptors = whole.acceptors;
  parties = parties_seen m cluster global.log global.made view (with_marks view marks) Everyone refl refl refl refl refl refl whole.parties;
}) (goes ∙ ap (λ (l : List Mark). reverse marks ++ l) was ∙ sym (reverse-append view.marks marks))

-- ---- calls
-- the caller is told nothing, and more may be harmed
call_with : (log : List Happening) (all : List Made) (id number : ℕ) (call : CallView) (harmed : List ℕ) (reserved : ℕ) → IsMemberSet harmed → length harmed ≤ harms_of id number (marks_of log) → IsCallTrue log all id number call
    → IsCallTrue log all id number (record call { told = None; harmed = harmed; reserved = reserved })
call_with log all id number call harmed reserved set low was = record {
  begun = was.begun;
  open_yet = was.open_yet;
  unproposed = was.unproposed;
  proposed = was.proposed;
  harmed_set = set;
  harmed = low;
  told = λ told is. absurd (cc is);
}

call_silent : (log : List Happening) (all : List Made) (id number : ℕ) (call : CallView) (reserved : ℕ) → IsCallTrue log all id number call → IsCallTrue log all id number (record call { told = None; reserved = reserved })
call_silent log all id number call reserved was = call_with log all id number call call.harmed reserved was.harmed_set was.harmed was

-- no memory was found, and the caller is told whether its change was proposed
none_told : (log : List Happening) (all : List Made) (id number : ℕ) (call : CallView) → IsCallTrue log all id number call → IsCallTrue log all id number (telling call (answer.NoMemory (is_some call.proposed)))
none_told log all id number call was = record {
  begun = was.begun;
  open_yet = was.open_yet;
  unproposed = was.unproposed;
  proposed = was.proposed;
  harmed_set = was.harmed_set;
  harmed = was.harmed;
  told = λ told is. subst (IsToldTrue log all id number) (some_is is) (record {
    refused = λ e. was.unproposed (none_proposed call.proposed e);
    unsettled = λ e. was.proposed e;
    harmed = omega arith;
  });
}
  where
    none_proposed : (proposed : Option Outcome) → not (is_some proposed) ≡ true → proposed ≡ None
    none_proposed None e = refl
    none_proposed (Some outcome) e = absurd (cc e)

-- ---- harms
-- A frame of the call was harmed: the log tells it where it is the first one of its acceptor.
record IsHarmed {S V : Type 0} (m : Meaning S V) (cluster : Cluster) (global : GlobalState) (view : View S V) (id : ℕ) (caller : CallerView) (call : CallView) (acceptor : ℕ) (down : Bool) : Type 0 where
  pub after : GlobalState
  pub whole : Whole m cluster after view
  pub is_call : IsCallTrue after.log after.made id caller.number (harmed_by call acceptor)
  pub marks : marks_of after.log ≡ reverse (harms_marked id caller.number call acceptor down) ++ marks_of global.log
  pub still : (n : ℕ) → has_member call.harmed n ≡ true → has_member (harmed_by call acceptor).harmed n ≡ true
  pub has : has_member (harmed_by call acceptor).harmed acceptor ≡ true

harms : {S V : Type 0} (m : Meaning S V) (cluster : Cluster) (global : GlobalState) (view : View S V) (id : ℕ) (caller : CallerView) (call : CallView) (acceptor : ℕ) (down : Bool) → IsAt view.callers id caller → caller.call ≡ Some call
    → acceptor < 64 → Whole m cluster global view → IsHarmed m cluster global view id caller call acceptor down
harms {S} {V} m cluster global view id caller call acceptor down at is_open low whole = by_test (has_member call.harmed acceptor) refl
  where
    before : IsCallTrue global.log global.made id caller.number call
    before = (whole.parties.callers id tt caller at).call call is_open

    harm : Happening
    harm = Marked (Harmed id caller.number down)

    harmed_log : GlobalState
    harmed_log = record { log = Marked (Harmed id caller.number down) ∷ global.log; kept = global.kept; made = global.made }

    history : HasHistory cluster harmed_log
    history = keeps cluster whole.meets global whole.history (Harms id caller.number down)

    one_more : harms_of id caller.number (marks_of harmed_log.log) ≡ suc (harms_of id caller.number (marks_of global.log))
    one_more = if_true (is_call id caller.number id caller.number) (suc (harms_of id caller.number (marks_of global.log))) (harms_of id caller.number (marks_of global.log)) (call_is {caller = id} {call = caller.number} {c = id} {n = caller.number} refl refl)

    by_test : (b : Bool) → has_member call.harmed acceptor ≡ b → IsHarmed m cluster global view id caller call acceptor down
    by_test true e =
        let same : (harmed_by call acceptor).harmed ≡ call.harmed = if_true (has_member call.harmed acceptor) call.harmed (with_member call.harmed acceptor) e in record {
          after = global;
          whole = whole;
          is_call = subst (λ (l : List ℕ). IsCallTrue global.log global.made id caller.number (record call { told = None; harmed = l; reserved = (harmed_by call acceptor).reserved })) (sym same) (call_with global.log global.made id caller.number call call.harmed (harmed_by call acceptor).reserved before.harmed_set before.harmed before);
          marks = sym (ap (λ (l : List Mark). reverse l ++ marks_of global.log) (if_true (has_member call.harmed acceptor) [] (Harmed id caller.number down ∷ []) e));
          still = λ n has. subst (λ (l : List ℕ). has_member l n ≡ true) (sym same) has;
          has = subst (λ (l : List ℕ). has_member l acceptor ≡ true) (sym same) e;
        }
    by_test false e =
        let same : (harmed_by call acceptor).harmed ≡ with_member call.harmed acceptor = if_false (has_member call.harmed acceptor) call.harmed (with_member call.harmed acceptor) e in
        let later : IsCallTrue harmed_log.log global.made id caller.number call = call_still harm global.log global.made (calls_of_others harm id tt) before in
        record {
          after = harmed_log;
          whole = record {
            meets = whole.meets;
            history = history;
            acceptors = λ a each at_each. acceptor_still m cluster harm global.log a (global.kept a) history.lawful tt (whole.acceptors a each at_each);
            parties = parties_more m cluster global.log global.made view Everyone harm history.lawful history.orderly (no_floor_of 0 {h = harm} tt) (λ request now. absurd (cc now)) (λ p these. tt) whole.parties;
          };
          is_call = subst (λ (l : List ℕ). IsCallTrue harmed_log.log global.made id caller.number (record call { told = None; harmed = l; reserved = (harmed_by call acceptor).reserved })) (sym same)
              (call_with harmed_log.log global.made id caller.number call (with_member call.harmed acceptor) (harmed_by call acceptor).reserved (IsMemberSet-members_where (λ k. k == acceptor || has_member call.harmed k))
              (omega (arith, length-with_member-le call.harmed acceptor before.harmed_set, before.harmed, one_more)) later);
          marks = sym (ap (λ (l : List Mark). reverse l ++ marks_of global.log) (if_false (has_member call.harmed acceptor) [] (Harmed id caller.number down ∷ []) e));
          still = λ n has. subst (λ (l : List ℕ). has_member l n ≡ true) (sym same) (has_still call.harmed acceptor n before.harmed_set has);
          has = subst (λ (l : List ℕ). has_member l acceptor ≡ true) (sym same) (has_one call.harmed acceptor low);
        }

-- ---- a first frame is taken
-- the acceptor that a frame is about
pub front_low : (cluster : Cluster) (global : GlobalState) (front : Message) → HasHistory cluster global → IsMessageTrue global.log front → (head_of front).1 < 64
front_low cluster global (message.Request request) history is = (history.knows.known request is).1
front_low cluster global (message.Reply reply) history is = (history.knows.replied is.request reply is.replied).from

none_front : (waiting : List Message) {front : Message} → slice_get waiting 0 ≡ Some front → waiting ≡ [] → ⊥
none_front [] e none = absurd (cc e)
none_front (x ∷ waiting) e none = absurd (cc none)

pub taken_flows : (log : List Happening) (flow : FlowView) (id : ℕ) (verdict : Verdict) {front : Message} → slice_get (queue_at flow id).messages 0 ≡ Some front → AreMessagesTrue log (queue_at flow id).messages → AreMessagesTrue log flow.late
    → Flows log flow (taken flow id verdict) id
taken_flows log flow id verdict e own late = record {
  others = λ p other. taken_others flow id verdict p other;
  own = λ each has. own each ((taken_thins flow id verdict e).before each has);
  late = late_true log flow.late (queue_at flow id) verdict late own;
  idle = λ none. absurd (none_front (queue_at flow id).messages e none);
}

-- it is harmed, and its acceptor counts as harmed from then on
harms_turn : {S V : Type 0} (m : Meaning S V) (cluster : Cluster) (global : GlobalState) (old : View S V) (id : ℕ) (verdict : Verdict) (front : Message) (caller : CallerView) (call : CallView) (down : Bool) → IsAt old.callers id caller → caller.call ≡ Some call
    → slice_get (queue_at old.flow id).messages 0 ≡ Some front → marks_of global.log ≡ reverse old.marks → Whole m cluster global old
    → IsLogged m cluster (harmed_view (record old { flow = taken old.flow id verdict }) id caller call (head_of front).1 down)
harms_turn m cluster global old id verdict front caller call down at is_open in_front marks whole =
    marked m cluster is.after (record (with_call old id caller (harmed_by call (head_of front).1)) { flow = taken old.flow id verdict }) (harms_marked id caller.number call (head_of front).1 down) (marks_of global.log)
    (moves m cluster is.after old id caller call (harmed_by call (head_of front).1) (taken old.flow id verdict) at is_open refl refl is.is_call
    (taken_flows is.after.log old.flow id verdict in_front (is.whole.parties.own id) is.whole.parties.late) stays is.whole)
    marks is.marks
  where
    is : IsHarmed m cluster global old id caller call (head_of front).1 down
    is = harms m cluster global old id caller call (head_of front).1 down at is_open
        (front_low cluster global front whole.history (whole.parties.own id front (contains_at (queue_at old.flow id).messages 0 front in_front))) whole

    stays : StaysHeard (queue_at old.flow id).messages call.harmed (queue_at (taken old.flow id verdict) id).messages (harmed_by call (head_of front).1).harmed
    stays round replies was =
        heard_thins round replies (queue_at old.flow id).messages (queue_at (taken old.flow id verdict) id).messages (harmed_by call (head_of front).1).harmed (head_of front).1 (taken_thins old.flow id verdict in_front) (was_harmed is.has)
        (heard_harmed round replies (queue_at old.flow id).messages call.harmed (harmed_by call (head_of front).1).harmed is.still was)

-- ---- an acceptor answers it
-- its reply is of the phase that its request is of
of_answer : (round : Round) (id : ℕ) (old new : Contents) (request : Request) (reply : Reply) → IsReplyByTable id old request reply new → IsOfPhase round (message.Request request) → IsOfPhase round (message.Reply reply)
of_answer round id old new request reply by of = (ap (is_of round.phase) by.phase ∙ of.0, by.tag ∙ of.1)

-- one more waits behind the others
thins_pushed : (old rest : List Message) (acceptor : ℕ) (new : Message) → Thins old rest acceptor → Thins (old ++ new ∷ []) (rest ++ new ∷ []) acceptor
thins_pushed old rest acceptor new thins = record {
  before = λ each has. elim (contains_append rest (new ∷ []) has) [
    | inl front ↦ contains_front old (new ∷ []) (thins.before each front)
    | inr back ↦ contains_back old (new ∷ []) back
  ];
  still = λ each has other. elim (contains_append old (new ∷ []) has) [
    | inl front ↦ contains_front rest (new ∷ []) (thins.still each front other)
    | inr back ↦ contains_back rest (new ∷ []) back
  ];
}

-- the frames that wait once its reply waits, too
replied_own : (flow : FlowView) (id : ℕ) (verdict : Verdict) (reply : Reply) {front : Message} → slice_get (queue_at flow id).messages 0 ≡ Some front
    → (queue_at (replied_flow flow id verdict reply) id).messages ≡ (queue_at (taken flow id verdict) id).messages ++ message.Reply reply ∷ []
replied_own flow id verdict reply e =
    ap (λ (q : QueueView). q.messages) (queue_same (taken flow id verdict).own id (pushed (queue_at (taken flow id verdict) id) (message.Reply reply)) (omega (arith, has_queue flow.own id e, length-set flow.own id (queue_after (queue_at flow id) verdict))))

replied_others : (flow : FlowView) (id : ℕ) (verdict : Verdict) (reply : Reply) (p : ℕ) → (p ≡ id → ⊥) → (queue_at (replied_flow flow id verdict reply) p).messages ≡ (queue_at flow p).messages
replied_others flow id verdict reply p other =
    ap (λ (q : QueueView). q.messages) (queue_other (taken flow id verdict).own id p (pushed (queue_at (taken flow id verdict) id) (message.Reply reply)) other) ∙ taken_others flow id verdict p other

pub replied_flows : (log : List Happening) (flow : FlowView) (id : ℕ) (verdict : Verdict) (reply : Reply) {front : Message} → slice_get (queue_at flow id).messages 0 ≡ Some front → AreMessagesTrue log (queue_at flow id).messages → AreMessagesTrue log flow.late
    → WasMade log reply → Flows log flow (replied_flow flow id verdict reply) id
replied_flows log flow id verdict reply e own late made = record {
  others = λ p other. replied_others flow id verdict reply p other;
  own = subst (AreMessagesTrue log) (sym (replied_own flow id verdict reply e)) (λ each has. elim (contains_append (queue_at (taken flow id verdict) id).messages (message.Reply reply ∷ []) has) [
    | inl front ↦ own each ((taken_thins flow id verdict e).before each front)
    | inr back ↦ elim (newest_or_older [] back) [
      | inl now ↦ subst (IsMessageTrue log) now made
      | inr none ↦ absurd (contains_none none)
    ]
  ]);
  late = late_true log flow.late (queue_at flow id) verdict late own;
  idle = λ none. absurd (none_front (queue_at flow id).messages e none);
}

-- an answer makes one vote at most
votes_one : (to : ℕ) (question : Ask) (answer : Tell) → reverse (marks_of (votes_of to question answer)) ≡ marks_of (votes_of to question answer)
votes_one to (ask.Accept key ballot era ride state) tell.Accepted = refl
votes_one to question answer = refl

-- the marks of an answer, as the record tells them
pub answer_marks : (global : GlobalState) (request : Request) (reply : Reply) (new : Contents) → marks_of (answered_global global request reply new).log ≡ reverse (votes_marked request reply) ++ marks_of global.log
answer_marks global request reply new = answered_marks global request reply new ∙ ap (λ (l : List Mark). l ++ marks_of global.log) (sym (votes_one request.to request.ask reply.tell))

-- the reply that waits accounts for the acceptor that the request was to
answers_turn : {S V : Type 0} (m : Meaning S V) (cluster : Cluster) (global : GlobalState) (old : View S V) (id : ℕ) (verdict : Verdict) (request : Request) (caller : CallerView) (call : CallView) (acceptor now : AcceptorView S) (reply : Reply) → m.shelves.tells
    → IsAt old.callers id caller → caller.call ≡ Some call → slice_get (queue_at old.flow id).messages 0 ≡ Some (message.Request request) → IsAt old.acceptors request.to acceptor → AnswersByTable m.shelves acceptor now request reply
    → marks_of global.log ≡ reverse old.marks → Whole m cluster global old
    → IsLogged m cluster (with_marks (record (with_call (with_acceptor old request.to now) id caller (marking call (length (votes_marked request reply)))) { flow = replied_flow old.flow id verdict reply }) (votes_marked request reply))
answers_turn {S} {V} m cluster global old id verdict request caller call acceptor now reply tells at is_open in_front at_acceptor by marks whole =
    marked m cluster answered (record (with_call (with_acceptor old request.to now) id caller (marking call (length (votes_marked request reply)))) { flow = replied_flow old.flow id verdict reply }) (votes_marked request reply) (marks_of global.log)
    (moves m cluster answered (with_acceptor old request.to now) id caller call (marking call (length (votes_marked request reply))) (replied_flow old.flow id verdict reply) at is_open refl refl
    (call_silent answered.log answered.made id caller.number call (call.reserved - length (votes_marked request reply)) ((whole_then.parties.callers id tt caller at).call call is_open))
    (replied_flows answered.log old.flow id verdict reply in_front (whole_then.parties.own id) whole_then.parties.late (reply_made m global request reply acceptor now by)) stays whole_then)
    marks (answer_marks global request reply (m.shelves.contents now.shelf))
  where
    answered : GlobalState
    answered = answered_global global request reply (m.shelves.contents now.shelf)

    waits_there : Contains (queue_at old.flow id).messages (message.Request request)
    waits_there = contains_at (queue_at old.flow id).messages 0 (message.Request request) in_front

    whole_then : Whole m cluster (answered_global global request reply (m.shelves.contents now.shelf)) (with_acceptor old request.to now)
    whole_then = answers m cluster global old request reply acceptor now tells at_acceptor by (whole.parties.own id (message.Request request) waits_there) whole

    from : reply.from ≡ request.to
    from = by.table.from ∙ (whole.acceptors request.to acceptor at_acceptor).same_id

    stays : StaysHeard (queue_at old.flow id).messages call.harmed (queue_at (replied_flow old.flow id verdict reply) id).messages call.harmed
    stays round replies was =
        let waiting = (queue_at old.flow id).messages in
        let rest = (queue_at (taken old.flow id verdict) id).messages in
        subst (λ (l : List Message). IsPhaseHeard round replies l call.harmed) (sym (replied_own old.flow id verdict reply in_front))
        (heard_thins round replies (waiting ++ message.Reply reply ∷ []) (rest ++ message.Reply reply ∷ []) call.harmed request.to
        (thins_pushed waiting rest request.to (message.Reply reply) (taken_thins old.flow id verdict in_front))
        (waits (message.Reply reply) (contains_back rest (message.Reply reply ∷ []) (contains_new (message.Reply reply) [])) from)
        (heard_pushes round replies waiting call.harmed (message.Reply reply)
        (of_answer round acceptor.id (m.shelves.contents acceptor.shelf) (m.shelves.contents now.shelf) request reply by.table (was.of_phase (message.Request request) waits_there)) was))

-- ---- a reply arrives
-- it is heard in the open phase, and accounts for the acceptor that made it
arrives_turn : {S V : Type 0} (m : Meaning S V) (cluster : Cluster) (global : GlobalState) (old : View S V) (id : ℕ) (verdict : Verdict) (reply : Reply) (caller : CallerView) (call : CallView) (desk now : DeskView V) (round next : Round)
    → IsAt old.callers id caller → caller.call ≡ Some call → slice_get (queue_at old.flow id).messages 0 ≡ Some (message.Reply reply) → IsAt old.desks id desk → desk.round ≡ Some round → HearsReply desk now round next reply
    → Whole m cluster global old → Whole m cluster global (record (with_call (with_desk old id now) id caller (silent call)) { flow = taken old.flow id verdict })
arrives_turn {S} {V} m cluster global old id verdict reply caller call desk now round next at is_open in_front at_desk has_round by whole =
    moves m cluster global (record (with_desk old id now) { flow = taken old.flow id verdict }) id caller call (silent call) (taken old.flow id verdict) at is_open refl refl
    (call_silent global.log global.made id caller.number call call.reserved ((whole.parties.callers id tt caller at).call call is_open))
    (record { others = λ p other. refl; own = flows.own; late = flows.late; idle = λ none. none })
    (λ r replies was. was)
    (hears m cluster global old id desk now round next reply (taken old.flow id verdict) at_desk has_round by (whole.parties.own id (message.Reply reply) waits_there) flows stays whole)
  where
    waits_there : Contains (queue_at old.flow id).messages (message.Reply reply)
    waits_there = contains_at (queue_at old.flow id).messages 0 (message.Reply reply) in_front

    flows : Flows global.log old.flow (taken old.flow id verdict) id
    flows = taken_flows global.log old.flow id verdict in_front (whole.parties.own id) whole.parties.late

    stays : (replies : List Reply) (harmed : List ℕ) → IsPhaseHeard round replies (queue_at old.flow id).messages harmed → IsPhaseHeard next (reply ∷ replies) (queue_at (taken old.flow id verdict) id).messages harmed
    stays replies harmed was =
        heard_thins next (reply ∷ replies) (queue_at old.flow id).messages (queue_at (taken old.flow id verdict) id).messages harmed reply.from (taken_thins old.flow id verdict in_front)
        (heard reply (contains_new reply replies) refl (same_heard round next reply reply by.hears ∙ phase_hears round reply (was.of_phase (message.Reply reply) waits_there)))
        (heard_hears round next reply replies (queue_at old.flow id).messages harmed by.hears was)

-- ---- turns
-- A cluster that has a history has one after the turn of a proposer's first own frame, whatever becomes of it.
pub turns : {S V : Type 0} {cluster : Cluster} (m : Meaning S V) (old : View S V) (id : ℕ) (verdict : Verdict) (new : View S V) → m.shelves.tells → IsLogged m cluster old → StepTurn m old id verdict new → IsLogged m cluster new
turns {S} {V} {cluster} m old id verdict new tells is step = by_turn step.turn
  where
    caller : CallerView
    caller = step.of_call.caller

    call : CallView
    call = step.of_call.call

    whole : Whole m cluster is.global old
    whole = whole_of m old is

    -- the frame in front, where it is told which one it is
    in_front : {each : Message} → step.front ≡ each → slice_get (queue_at old.flow id).messages 0 ≡ Some each
    in_front same = step.waits ∙ ap (λ (each : Message). Some each) same

    by_turn : TakesTurn m old id verdict step.front step.of_call.caller step.of_call.call new → IsLogged m cluster new
    by_turn (frames.held fall e) = subst (IsLogged m cluster) (sym e) is
    by_turn (frames.gone fall e) =
        subst (IsLogged m cluster) (sym e) (harms_turn m cluster is.global old id verdict step.front caller call false step.of_call.at_caller step.of_call.is_open step.waits is.agrees.marks whole)
    by_turn (frames.answers request acceptor now reply fall front at by e) =
        subst (IsLogged m cluster) (sym e)
        (answers_turn m cluster is.global old id verdict request caller call acceptor now reply tells step.of_call.at_caller step.of_call.is_open (in_front front) at by is.agrees.marks whole)
    by_turn (frames.finds_down request acceptor fall front at down e) =
        subst (IsLogged m cluster) (sym e)
        (harms_turn m cluster is.global old id verdict (message.Request request) caller call true step.of_call.at_caller step.of_call.is_open (in_front front) is.agrees.marks whole)
    by_turn (frames.brings_down request acceptor now fall front at by e) =
        subst (IsLogged m cluster) (sym e)
        (harms_turn m cluster is.global (with_acceptor old request.to now) id verdict (message.Request request) caller call true step.of_call.at_caller step.of_call.is_open (in_front front) is.agrees.marks
        (stops_within m cluster is.global old request acceptor now tells at by
        (whole.parties.own id (message.Request request) (contains_at (queue_at old.flow id).messages 0 (message.Request request) (in_front front))) whole))
    by_turn (frames.arrives reply desk now round next fall front at has_round by e) =
        subst (IsLogged m cluster) (sym e)
        (logged m cluster is.global (record (with_call (with_desk old id now) id caller (silent call)) { flow = taken old.flow id verdict })
        (arrives_turn m cluster is.global old id verdict reply caller call desk now round next step.of_call.at_caller step.of_call.is_open (in_front front) at has_round by whole)
        is.agrees.marks)

-- ---- no memory
-- It has one where no memory was found: nothing changed, or an acceptor keeps what it kept.
pub refuses_stray : {S V : Type 0} {cluster : Cluster} (m : Meaning S V) (old new : View S V) → m.shelves.tells → IsLogged m cluster old → FindsNoRoom m old new → IsLogged m cluster new
refuses_stray {cluster = cluster} m old new tells is (frames.stays e) = subst (IsLogged m cluster) (sym e) is
refuses_stray {cluster = cluster} m old new tells is (frames.kept id acceptor now at by e) =
    subst (IsLogged m cluster) (sym e)
    (logged m cluster is.global (with_acceptor old id now) (finds_none m cluster is.global old id acceptor now tells at by (whole_of m old is)) is.agrees.marks)

same_callers : {S V : Type 0} (m : Meaning S V) (old new : View S V) → FindsNoRoom m old new → new.callers ≡ old.callers
same_callers {S} {V} m old new (frames.stays e) = ap (λ (v : View S V). v.callers) e
same_callers {S} {V} m old new (frames.kept id acceptor now at by e) = ap (λ (v : View S V). v.callers) e

-- And it has one where the caller of a frame that was refused is told so.
pub refuses_turn : {S V : Type 0} {cluster : Cluster} (m : Meaning S V) (old : View S V) (id : ℕ) (new : View S V) → m.shelves.tells → IsLogged m cluster old → StepRefuseTurn m old id new → IsLogged m cluster new
refuses_turn {S} {V} {cluster} m old id new tells is step =
    let caller = step.of_call.caller in
    let call = step.of_call.call in
    let middle = step.middle in
    let was = refuses_stray m old middle tells is step.refuses in
    let whole = whole_of m middle was in
    let at : IsAt middle.callers id caller = subst (λ (l : List CallerView). IsAt l id caller) (sym (same_callers m old middle step.refuses)) step.of_call.at_caller in
    let told = telling call (answer.NoMemory (is_some call.proposed)) in
    subst (IsLogged m cluster) (sym step.view)
    (logged m cluster was.global (with_call middle id caller told)
    (moves m cluster was.global middle id caller call told middle.flow at step.of_call.is_open refl refl
    (none_told was.global.log was.global.made id caller.number call ((whole.parties.callers id tt caller at).call call step.of_call.is_open))
    (record { others = λ p other. refl; own = whole.parties.own id; late = whole.parties.late; idle = λ none. none })
    (λ round replies has. has) whole)
    was.agrees.marks)

-- ---- strays
-- It has one after a late frame strayed in.
pub strays : {S V : Type 0} {cluster : Cluster} (m : Meaning S V) (old : View S V) (index : ℕ) (new : View S V) → m.shelves.tells → IsLogged m cluster old → StepStray m old index new → IsLogged m cluster new
strays {S} {V} {cluster} m old index new tells is step = by_stray step.strays
  where
    whole : Whole m cluster is.global old
    whole = whole_of m old is

    -- what bears the late frame is as the log tells
    late_one : {each : Message} → step.late ≡ each → IsMessageTrue is.global.log each
    late_one {each} same = whole.parties.late each (contains_at old.flow.late index each (step.waits ∙ ap (λ (x : Message). Some x) same))

    by_stray : Strays m old index step.late new → IsLogged m cluster new
    by_stray (frames.answers request acceptor now reply late at by e) =
        let answered = answered_global is.global request reply (m.shelves.contents now.shelf) in
        let whole_then = answers m cluster is.global old request reply acceptor now tells at by (late_one late) whole in
        subst (IsLogged m cluster) (sym e)
        (marked m cluster answered (record (with_acceptor old request.to now) { flow = with_late (without_late old.flow index) (message.Reply reply) }) (votes_marked request reply) (marks_of is.global.log)
        (relates m cluster answered (with_acceptor old request.to now) (joined (without_late old.flow index).late (message.Reply reply))
        (joined_true answered.log (without_late old.flow index).late (message.Reply reply) (without_true answered.log old.flow index whole_then.parties.late) (reply_made m is.global request reply acceptor now by)) whole_then)
        is.agrees.marks (answer_marks is.global request reply (m.shelves.contents now.shelf)))
    by_stray (frames.brings_down request acceptor now late at by e) =
        subst (IsLogged m cluster) (sym e)
        (logged m cluster is.global (record (with_acceptor old request.to now) { flow = without_late old.flow index })
        (relates m cluster is.global (with_acceptor old request.to now) (without_late old.flow index).late (without_true is.global.log old.flow index whole.parties.late)
        (stops_within m cluster is.global old request acceptor now tells at by (late_one late) whole))
        is.agrees.marks)
    by_stray (frames.arrives reply desk now round next late at has_round by e) =
        subst (IsLogged m cluster) (sym e)
        (logged m cluster is.global (record (with_desk old reply.to now) { flow = without_late old.flow index })
        (hears m cluster is.global old reply.to desk now round next reply (without_late old.flow index) at has_round by (late_one late)
        (record { others = λ p other. refl; own = whole.parties.own reply.to; late = without_true is.global.log old.flow index whole.parties.late; idle = λ none. none })
        (λ replies harmed was. heard_hears round next reply replies (queue_at old.flow reply.to).messages harmed by.hears was) whole)
        is.agrees.marks)
    by_stray (frames.drops ignored e) =
        subst (IsLogged m cluster) (sym e)
        (logged m cluster is.global (record old { flow = without_late old.flow index })
        (relates m cluster is.global old (without_late old.flow index).late (without_true is.global.log old.flow index whole.parties.late) whole)
        is.agrees.marks)
