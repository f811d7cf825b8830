-- The confirmations of a phase that is not disturbed: each waits as a request or as a reply, or arrived.
use Rattle.std.proofs.Common.{◌≡◌, ◌<◌, ◌≤◌, ℕ, Bool, true, List, [], ◌∷◌, ◌++◌, Option, Some, slice_set, refl, sym, ap, subst, ◌∙◌, inl, inr, arith, length-set}
use Rattle.std.specs.Prelude.{◌⊎◌, ◌==◌, ◌&&◌, nat_le, drop, Contains, IsSomeAnd}
use Rattle.std.specs.List.{list_any}
use Rattle.std.specs.Ordering.{is_eq}
use Rattle.cas_base.specs.Faults.{Rose}
use Rattle.cas_base.proofs.Bools.{true_or_false, both_true, and_left, and_right, if_true, if_false}
use Rattle.cas_ballot.specs.declared.ballot.Ballot.{Ballot}
use Rattle.cas_ballot.specs.Ballot.{BallotAtMost, ballot_cmp}
use Rattle.cas_ballot.specs.Members.{has_member}
use Rattle.cas_ballot.proofs.BallotLemmas.{cmp_refl, less_not_at_most}
use Rattle.cas_ballot.proofs.CountLemmas.{length-within}
use Rattle.cas_ballot.proofs.MemberLemmas.{has-members_where}
use Rattle.cas_fate.specs.declared.fate.Verdict.{Verdict}
use Rattle.cas_flow.specs.Flow.{FlowView, queue_at, queue_by, queue_after, is_first_of_two, taken}
use Rattle.cas_flow.specs.Message.{head_of}
use Rattle.cas_flow.specs.Queue.{QueueView, fall_of, popped, pushed}
use Rattle.cas_flow.specs.declared.fall.Fall.{Fall}
use Rattle.cas_flow.specs.declared.fall.Fall.TheVariants.{Handle, Gone, Held}
use Rattle.cas_flow.specs.declared.message.Message.{Message}
use Rattle.cas_flow.specs.declared.message.Message.TheVariants as message
use Rattle.cas_acceptor.specs.Acceptor.{AcceptorView}
use Rattle.cas_proposer.specs.Desk.{DeskView}
use Rattle.cas_proposer.specs.Round.{IsPreparing, IsAccepting, IsPrepare, IsAccept, Hears, confirmed_in}
use Rattle.cas_proposer.specs.declared.round.OpenPhase.{OpenPhase}
use Rattle.cas_proposer.specs.declared.round.OpenPhase.TheVariants.{Prepare, Accept}
use Rattle.cas_proposer.specs.declared.round.Round.{Round}
use Rattle.cas_quorum.specs.Quorum.{count_in, has_quorum}
use Rattle.cas_round.specs.Replies.{is_prepare, is_accept, is_heard, heard, is_promise, is_acceptance, confirmers_of}
use Rattle.cas_round.proofs.Lists.{has_filter, has_any, any_has, IsListWithin, within_filter}
use Rattle.cas_slot.specs.Ages.{least_age}
use Rattle.cas_slot.specs.Contents.{Contents}
use Rattle.cas_slot.specs.Message.{phase_of, tag_of}
use Rattle.cas_slot.specs.Slot.{accepted_of}
use Rattle.cas_slot.specs.Table.{Answers, Handles}
use Rattle.cas_slot.specs.declared.message.Ask.{Ask}
use Rattle.cas_slot.specs.declared.message.Ask.TheVariants as ask
use Rattle.cas_slot.specs.declared.message.Phase.{Phase}
use Rattle.cas_slot.specs.declared.message.Reply.{Reply}
use Rattle.cas_slot.specs.declared.message.Request.{Request}
use Rattle.cas_slot.specs.declared.message.Tell.{Tell}
use Rattle.cas_slot.specs.declared.message.Tell.TheVariants as tell
use Rattle.cas_slot.specs.declared.slot.Slot.{Slot}
use Rattle.cas_record.proofs.Tests.{nat_is}
use Rattle.cas_model.specs.Safe.{IsSafe}
use Rattle.cas_model.specs.Step as step
use Rattle.cas_model.specs.Step.{StepTurn}
use Rattle.cas_model.specs.Stops.Step.{OpenCallAt}
use Rattle.cas_model.specs.Frames.Acceptors.{AnswersByTable, StopsWithin}
use Rattle.cas_model.specs.Frames.Step as frames
use Rattle.cas_model.specs.Frames.Step.{replied_flow}
use Rattle.cas_model.specs.View.{Meaning, View, IsAt}
use Rattle.cas_model.proofs.Frames.Steps.{taken_own}
use Rattle.cas_model.proofs.Places.{at_one, at_set, some_is, queue_same, has_queue, contains_new, contains_none, newest_or_older, contains_front, contains_back}
use Rattle.cas_model_causes.specs.Calls.Rounds.{Brings, nothing, one}
use Rattle.cas_model_causes.specs.Calls.Undisturbed.{LetsPass, IsHandledWell, GoesWell, IsUndisturbedBy}
use Rattle.cas_model_causes.proofs.Calls.Queues.{QueueStays, OwnTurn}

-- ---- what an acceptor tells that a request passes
-- not that its age is too low
told : (old new : Contents) (request : Request) (answer : Tell) → least_age old.ages request.from ≤ request.age → Handles old request answer new → Answers old request.ask answer new
told old new request (tell.Aged least) low row = absurd (omega (arith, row.0, row.1, low))
told old new request answer low row = row.1

promise_told : (old new : Contents) (question : Ask) (answer : Tell) → is_prepare (phase_of question) ≡ true → LetsPass old question → Answers old question answer new → is_promise answer ≡ true
promise_told old new (ask.Prepare key ballot) (tell.Promised accepted) phase lets row = refl
promise_told old new (ask.Prepare key ballot) (tell.Met seen) phase lets row = absurd (less_not_at_most row.1 (subst (λ (b : Ballot). BallotAtMost b ballot) (sym row.0) lets.0))
promise_told old new (ask.Prepare key ballot) tell.Full phase lets row = absurd (lets.1 row.1)
promise_told old new (ask.Prepare key ballot) answer phase lets row = absurd row
promise_told old new question answer phase lets row = absurd (cc phase)

acceptance_told : (old new : Contents) (question : Ask) (answer : Tell) → is_accept (phase_of question) ≡ true → LetsPass old question → Answers old question answer new → is_acceptance answer ≡ true
acceptance_told old new (ask.Accept key ballot era ride state) tell.Accepted phase lets row = refl
acceptance_told old new (ask.Accept key ballot era ride state) (tell.Met seen) phase lets row = absurd (elim lets [
  | inl again ↦ row.0 again
  | inr fits ↦ less_not_at_most row.2 (subst (λ (b : Ballot). BallotAtMost b ballot) (sym row.1) fits.0)
])
acceptance_told old new (ask.Accept key ballot era ride state) tell.Full phase lets row = absurd (elim lets [
  | inl again ↦ subst (λ (s : Option Slot). IsSomeAnd (accepted_of s) (λ a. a.ballot ≡ ballot)) row.1.new_key again
  | inr fits ↦ fits.1 row.1
])
acceptance_told old new (ask.Accept key ballot era ride state) answer phase lets row = absurd row
acceptance_told old new question answer phase lets row = absurd (cc phase)

-- ---- phases
-- a phase of rounds: its requests and replies, what confirms, and the rounds that are in it after these replies
pub record IsKind (is_phase : Phase → Bool) (confirms : Tell → Bool) (IsIn : List Reply → Round → Type 0) : Type 0 where
  pub hears : (old new : Round) (reply : Reply) (replies : List Reply) → Hears old reply new → IsIn replies old → IsIn (reply ∷ replies) new
  pub confirmed : (round : Round) (replies : List Reply) → IsIn replies round → confirmed_in round.phase ≡ confirmers_of confirms (heard is_phase round.ballot replies)
  pub tells : (old new : Contents) (question : Ask) (answer : Tell) → is_phase (phase_of question) ≡ true → LetsPass old question → Answers old question answer new → confirms answer ≡ true

pub prepare_kind : IsKind is_prepare is_promise IsPreparing
prepare_kind = record {
  hears = λ old new reply replies hears was. hears.prepares replies was;
  confirmed = λ round replies is. by_phase round.era round.ballot replies round.phase is.phase;
  tells = promise_told;
}
  where
    by_phase : (era : _) (ballot : Ballot) (replies : List Reply) (phase : OpenPhase) → IsPrepare era ballot replies phase → confirmed_in phase ≡ confirmers_of is_promise (heard is_prepare ballot replies)
    by_phase era ballot replies (Prepare phase) after = after.tally.confirmed
    by_phase era ballot replies (Accept phase) after = absurd after

pub accept_kind : (prepared : List Reply) → IsKind is_accept is_acceptance (IsAccepting prepared)
accept_kind prepared = record {
  hears = λ old new reply replies hears was. hears.accepts prepared replies was;
  confirmed = λ round replies is. by_phase round.era round.ballot replies round.phase is.phase;
  tells = acceptance_told;
}
  where
    by_phase : (era : _) (ballot : Ballot) (replies : List Reply) (phase : OpenPhase) → IsAccept era ballot replies phase → confirmed_in phase ≡ confirmers_of is_acceptance (heard is_accept ballot replies)
    by_phase era ballot replies (Prepare phase) after = absurd after
    by_phase era ballot replies (Accept phase) after = after.tally.confirmed

-- ---- who confirmed
-- one more reply takes no confirmation away
confirmed_more : (is_phase : Phase → Bool) (confirms : Tell → Bool) (ballot : Ballot) (reply : Reply) (replies : List Reply) (n : ℕ) → n < 64
    → has_member (confirmers_of confirms (heard is_phase ballot replies)) n ≡ true → has_member (confirmers_of confirms (heard is_phase ballot (reply ∷ replies))) n ≡ true
confirmed_more is_phase confirms ballot reply replies n low was =
    let test : Reply → Bool = λ (r : Reply). (r.from == n) && confirms r.tell in
    let before = any_has test (heard is_phase ballot replies) (sym (has-members_where (λ k. list_any (λ r. (r.from == k) && confirms r.tell) (heard is_phase ballot replies)) n low) ∙ was) in
    let within : IsListWithin (heard is_phase ballot replies) (heard is_phase ballot (reply ∷ replies)) = within_filter (is_heard is_phase ballot) replies (reply ∷ replies) (record { all = λ x h. inr h }) in
    has-members_where (λ k. list_any (λ r. (r.from == k) && confirms r.tell) (heard is_phase ballot (reply ∷ replies))) n low
    ∙ has_any test before.one (heard is_phase ballot (reply ∷ replies)) (within.all before.one before.stands) before.passes

-- and one that confirms adds its acceptor
confirmed_now : (is_phase : Phase → Bool) (confirms : Tell → Bool) (ballot : Ballot) (reply : Reply) (replies : List Reply) (n : ℕ) → n < 64
    → is_heard is_phase ballot reply ≡ true → confirms reply.tell ≡ true → reply.from ≡ n → has_member (confirmers_of confirms (heard is_phase ballot (reply ∷ replies))) n ≡ true
confirmed_now is_phase confirms ballot reply replies n low is_heard_here confirms_here from =
    has-members_where (λ k. list_any (λ r. (r.from == k) && confirms r.tell) (heard is_phase ballot (reply ∷ replies))) n low
    ∙ has_any (λ r. (r.from == n) && confirms r.tell) reply (heard is_phase ballot (reply ∷ replies)) (has_filter (is_heard is_phase ballot) reply (reply ∷ replies) (inl refl) is_heard_here)
    (both_true (reply.from == n) (confirms reply.tell) (nat_is from) confirms_here)

-- a quorum stays one as more confirm
le_more : (need few more : ℕ) → nat_le need few ≡ true → few ≤ more → nat_le need more ≡ true
le_more need few more e low = grind (arith, e, low)

pub quorum_more : (need : ℕ) (members few more : List ℕ) → ((n : ℕ) → n < 64 → has_member members n ≡ true → has_member few n ≡ true → has_member more n ≡ true) → has_quorum need members few ≡ true → has_quorum need members more ≡ true
quorum_more need members few more within e =
    le_more need (count_in members few) (count_in members more) e
    (length-within (λ n. has_member members n && has_member few n) (λ n. has_member members n && has_member more n)
    (λ n low both. both_true (has_member members n) (has_member more n) (and_left (has_member members n) (has_member few n) both)
    (within n low (and_left (has_member members n) (has_member few n) both) (and_right (has_member members n) (has_member few n) both))))

-- ---- an open round
-- the round began as this, and is in the phase after these replies
pub record IsPhaseOpenIn {V : Type 0} (IsIn : List Reply → Round → Type 0) (desks : List (DeskView V)) (id : ℕ) (begun : Round) (replies : List Reply) (round : Round) : Type 0 where
  pub desk : DeskView V
  pub at_desk : IsAt desks id desk
  pub is_open : desk.round ≡ Some round
  pub within : IsIn replies round
  pub same : round ≡ record begun { met = round.met; phase = round.phase }

-- it hears what is brought, and who confirmed has confirmed still
pub record Grows {V : Type 0} (IsIn : List Reply → Round → Type 0) (desks : List (DeskView V)) (id : ℕ) (begun : Round) (replies : List Reply) (old : Round) : Type 0 where
  pub round : Round
  pub is_open : IsPhaseOpenIn IsIn desks id begun replies round
  pub still : (n : ℕ) → n < 64 → has_member (confirmed_in old.phase) n ≡ true → has_member (confirmed_in round.phase) n ≡ true

grows : {S V : Type 0} {is_phase : Phase → Bool} {confirms : Tell → Bool} {IsIn : List Reply → Round → Type 0} (kind : IsKind is_phase confirms IsIn) (old new : View S V) (id : ℕ) (begun : Round) (replies brought : List Reply) (round : Round)
    → IsPhaseOpenIn IsIn old.desks id begun replies round → Brings old new id brought → Grows IsIn new.desks id begun (brought ++ replies) round
grows kind old new id begun replies brought round was (nothing passes) =
    let now = passes was.desk was.at_desk in
    record {
      round = round;
      is_open = record { desk = now.0; at_desk = now.1; is_open = now.2 ∙ was.is_open; within = was.within; same = was.same };
      still = λ n low h. h;
    }
grows {S} {V} {is_phase} {confirms} {IsIn} kind old new id begun replies brought round was (one reply desk now seen next way at is_open hears at_now) =
    let same : seen ≡ round = some_is (sym is_open ∙ ap (λ (d : DeskView V). d.round) (at_one old.desks id at was.at_desk) ∙ was.is_open) in
    let here : Hears round reply next = subst (λ (r : Round). Hears r reply next) same hears.hears in
    let within : IsIn (reply ∷ replies) next = kind.hears round next reply replies here was.within in
    let ballot : next.ballot ≡ round.ballot = ap (λ (r : Round). r.ballot) here.same in
    record {
      round = next;
      is_open = record {
        desk = now;
        at_desk = at_now;
        is_open = ap (λ (d : DeskView V). d.round) hears.desk;
        within = within;
        same = here.same ∙ ap (λ (r : Round). record r { met = next.met; phase = next.phase }) was.same;
      };
      still = λ n low h.
          subst (λ (l : List ℕ). has_member l n ≡ true) (sym (kind.confirmed next (reply ∷ replies) within))
          (subst (λ (b : Ballot). has_member (confirmers_of confirms (heard is_phase b (reply ∷ replies))) n ≡ true) (sym ballot)
          (confirmed_more is_phase confirms round.ballot reply replies n low (subst (λ (l : List ℕ). has_member l n ≡ true) (kind.confirmed round replies was.within) h)));
    }

-- ---- frames that wait
-- the first one, or one behind it
front_or_later : (messages : List Message) {front : Message} (each : Message) → IsAt messages 0 front → Contains messages each → (each ≡ front) ⊎ Contains (drop 1 messages) each
front_or_later [] each at has = absurd (contains_none has)
front_or_later (x ∷ rest) each at has = elim (newest_or_older rest has) [
  | inl now ↦ inl (sym now ∙ some_is at)
  | inr later ↦ inr later
]

-- the first frame had its turn, or is the one, or the one waits still
stays_or_front : (fall : Fall) (queue : QueueView) (v : Verdict) {front : Message} (each : Message) → IsAt queue.messages 0 front → Contains queue.messages each → (each ≡ front) ⊎ Contains (queue_by fall queue v).messages each
stays_or_front Handle queue v each at has = elim (true_or_false (is_first_of_two queue.again v)) [
  | inl twice ↦ inr (subst (λ (q : QueueView). Contains q.messages each) (sym (if_true (is_first_of_two queue.again v) (record { messages = queue.messages; again = true; room = queue.room }) (popped queue) twice)) has)
  | inr once ↦ elim (front_or_later queue.messages each at has) [
    | inl now ↦ inl now
    | inr later ↦ inr (subst (λ (q : QueueView). Contains q.messages each) (sym (if_false (is_first_of_two queue.again v) (record { messages = queue.messages; again = true; room = queue.room }) (popped queue) once)) later)
  ]
]
stays_or_front Gone queue v each at has = front_or_later queue.messages each at has
stays_or_front Held queue v each at has = inr has

taken_or_front : (flow : FlowView) (id : ℕ) (v : Verdict) {front : Message} (each : Message) → IsAt (queue_at flow id).messages 0 front → Contains (queue_at flow id).messages each → (each ≡ front) ⊎ Contains (queue_at (taken flow id v) id).messages each
taken_or_front flow id v each at has = elim (stays_or_front (fall_of (queue_at flow id).again v) (queue_at flow id) v each at has) [
  | inl now ↦ inl now
  | inr later ↦ inr (subst (λ (q : QueueView). Contains q.messages each) (sym (taken_own flow id v at)) later)
]

-- and a reply waits behind the others
replied_own : (flow : FlowView) (id : ℕ) (v : Verdict) (reply : Reply) {front : Message} → IsAt (queue_at flow id).messages 0 front → (queue_at (replied_flow flow id v reply) id).messages ≡ (queue_at (taken flow id v) id).messages ++ message.Reply reply ∷ []
replied_own flow id v reply at =
    ap (λ (q : QueueView). q.messages)
    (queue_same (taken flow id v).own id (pushed (queue_at (taken flow id v) id) (message.Reply reply)) (omega (arith, has_queue flow.own id at, length-set flow.own id (queue_after (queue_at flow id) v))))

-- ---- confirmations that come
-- a request of the phase, or a reply that confirms
abbrev pub Confirms : (Phase → Bool) → (Tell → Bool) → Ballot → Message → Type 0
Confirms is_phase confirms ballot (message.Request request) = (is_phase (phase_of request.ask) ≡ true) × (tag_of request.ask ≡ ballot)
Confirms is_phase confirms ballot (message.Reply reply) = (is_heard is_phase ballot reply ≡ true) × (confirms reply.tell ≡ true)

-- one of the acceptor waits
pub record Waits (is_phase : Phase → Bool) (confirms : Tell → Bool) (ballot : Ballot) (messages : List Message) (n : ℕ) : Type 0 where
  pub each : Message
  pub waits : Contains messages each
  pub about : (head_of each).1 ≡ n
  pub is : Confirms is_phase confirms ballot each

abbrev pub Comes : (Phase → Bool) → (Tell → Bool) → Ballot → List Message → List ℕ → ℕ → Type 0
Comes is_phase confirms ballot messages by n = Waits is_phase confirms ballot messages n ⊎ (has_member by n ≡ true)

-- the round is open, and each of these acceptors that was asked confirmed or will
pub record Coming {V : Type 0} (is_phase : Phase → Bool) (confirms : Tell → Bool) (IsIn : List Reply → Round → Type 0) (desks : List (DeskView V)) (messages : List Message) (id : ℕ) (set asked : List ℕ) (begun : Round) : Type 0 where
  pub replies : List Reply
  pub round : Round
  pub is_open : IsPhaseOpenIn IsIn desks id begun replies round
  pub each : (n : ℕ) → n < 64 → has_member set n ≡ true → has_member asked n ≡ true → Comes is_phase confirms begun.ballot messages (confirmed_in round.phase) n

-- the same of what waits elsewhere, or arrived
abbrev Passed : (Phase → Bool) → (Tell → Bool) → Ballot → List Message → List Message → List ℕ → List ℕ → Type 0
Passed is_phase confirms ballot old new set by = (each : Message) → Contains old each → Confirms is_phase confirms ballot each → (n : ℕ) → n < 64 → (head_of each).1 ≡ n → has_member set n ≡ true → Comes is_phase confirms ballot new by n

comes_on : {S V : Type 0} {is_phase : Phase → Bool} {confirms : Tell → Bool} {IsIn : List Reply → Round → Type 0} (old new : View S V) (id : ℕ) (set asked : List ℕ) (begun : Round) (replies : List Reply)
    → (was : Coming is_phase confirms IsIn old.desks (queue_at old.flow id).messages id set asked begun) → (grown : Grows IsIn new.desks id begun replies was.round)
    → Passed is_phase confirms begun.ballot (queue_at old.flow id).messages (queue_at new.flow id).messages set (confirmed_in grown.round.phase) → Coming is_phase confirms IsIn new.desks (queue_at new.flow id).messages id set asked begun
comes_on old new id set asked begun replies was grown passed = record {
  replies = replies;
  round = grown.round;
  is_open = grown.is_open;
  each = λ n low member is_asked. elim (was.each n low member is_asked) [
    | inl waits ↦ passed waits.each waits.waits waits.is n low waits.about member
    | inr arrived ↦ inr (grown.still n low arrived)
  ];
}

-- ---- a request is handled well
-- its acceptor's reply confirms
reply_confirms : {S V : Type 0} (m : Meaning S V) {is_phase : Phase → Bool} {confirms : Tell → Bool} {IsIn : List Reply → Round → Type 0} (kind : IsKind is_phase confirms IsIn) (old new : View S V) (ballot : Ballot) (request : Request) (acceptor now : AcceptorView S) (reply : Reply)
    → IsHandledWell m old new request → IsAt old.acceptors request.to acceptor → AnswersByTable m.shelves acceptor now request reply → Confirms is_phase confirms ballot (message.Request request) → Confirms is_phase confirms ballot (message.Reply reply)
reply_confirms {S} {V} m {is_phase} {confirms} kind old new ballot request acceptor now reply well at by is = (
  both_true (is_phase reply.phase) (is_eq (ballot_cmp reply.tag ballot)) (ap is_phase by.table.phase ∙ is.0)
      (subst (λ (b : Ballot). is_eq (ballot_cmp b ballot) ≡ true) (sym (by.table.tag ∙ is.1)) (ap is_eq (cmp_refl ballot))),
  kind.tells (m.shelves.contents acceptor.shelf) (m.shelves.contents now.shelf) request.ask reply.tell is.0 (subst (λ (a : AcceptorView S). LetsPass (m.shelves.contents a.shelf) request.ask) same well.passes)
      (told (m.shelves.contents acceptor.shelf) (m.shelves.contents now.shelf) request reply.tell (subst (λ (a : AcceptorView S). least_age (m.shelves.contents a.shelf).ages request.from ≤ request.age) same well.age) by.table.row),
)
  where
    same : well.acceptor ≡ acceptor
    same = at_one old.acceptors request.to well.at_acceptor at

-- it is not down
not_found_down : {S V : Type 0} (m : Meaning S V) (old new : View S V) (request : Request) (acceptor : AcceptorView S) → IsHandledWell m old new request → IsAt old.acceptors request.to acceptor → acceptor.down ≡ true → ⊥
not_found_down {S} {V} m old new request acceptor well at down = cc (well.up, ap (λ (a : AcceptorView S). a.down) (at_one old.acceptors request.to well.at_acceptor at), down)

-- and does not go down
not_brought_down : {S V : Type 0} (m : Meaning S V) (old new : View S V) (request : Request) (acceptor now : AcceptorView S) → IsHandledWell m old new request → IsAt old.acceptors request.to acceptor → StopsWithin m.shelves acceptor now request → new.acceptors ≡ slice_set old.acceptors request.to now → ⊥
not_brought_down {S} {V} m old new request acceptor now well at stops is =
    let before : acceptor ≡ well.acceptor = at_one old.acceptors request.to at well.at_acceptor in
    let after : now ≡ well.now = at_one new.acceptors request.to (subst (λ (l : List (AcceptorView S)). IsAt l request.to now) (sym is) (at_set old.acceptors request.to acceptor now at)) well.at_now in
    well.no_fault (subst (λ (a : AcceptorView S). Rose (m.shelves.faults well.acceptor.shelf) (m.shelves.faults a.shelf)) after (subst (λ (a : AcceptorView S). Rose (m.shelves.faults a.shelf) (m.shelves.faults now.shelf)) before stops.faulted))

-- ---- steps
-- the first own frame of the proposer has its turn
turn_comes : {S V : Type 0} (m : Meaning S V) {is_phase : Phase → Bool} {confirms : Tell → Bool} {IsIn : List Reply → Round → Type 0} (kind : IsKind is_phase confirms IsIn) (old new : View S V) (id : ℕ) (set asked : List ℕ) (begun : Round) (v : Verdict) → IsSafe old → StepTurn m old id v new
    → ((front : Message) → IsAt (queue_at old.flow id).messages 0 front → has_member set (head_of front).1 ≡ true → (fall_of (queue_at old.flow id).again v ≡ Gone → ⊥) × (fall_of (queue_at old.flow id).again v ≡ Handle → GoesWell m old new front))
    → (brought : List Reply) → Brings old new id brought → Coming is_phase confirms IsIn old.desks (queue_at old.flow id).messages id set asked begun → Coming is_phase confirms IsIn new.desks (queue_at new.flow id).messages id set asked begun
turn_comes {S} {V} m {is_phase} {confirms} {IsIn} kind old new id set asked begun v safe by undisturbed brought brings was = in_turn by.of_call by.front by.waits by.turn
  where
    grown : Grows IsIn new.desks id begun (brought ++ was.replies) was.round
    grown = grows kind old new id begun was.replies brought was.round was.is_open brings

    -- what is in front of the proposer's frames is to or from one of the set
    member_front : (front each : Message) (n : ℕ) → each ≡ front → (head_of each).1 ≡ n → has_member set n ≡ true → has_member set (head_of front).1 ≡ true
    member_front front each n now about member = subst (λ (k : ℕ). has_member set k ≡ true) (sym about ∙ ap (λ (x : Message). (head_of x).1) now) member

    well : (front : Message) (request : Request) → IsAt (queue_at old.flow id).messages 0 front → fall_of (queue_at old.flow id).again v ≡ Handle → front ≡ message.Request request → has_member set (head_of front).1 ≡ true → IsHandledWell m old new request
    well front request waits fall front_is member = subst (GoesWell m old new) front_is ((undisturbed front waits member).1 fall)

    -- the first frame leaves, or may: what is behind it waits still
    leaves : (front : Message) → IsAt (queue_at old.flow id).messages 0 front → new.flow ≡ taken old.flow id v
        → (has_member set (head_of front).1 ≡ true → ⊥) → Passed is_phase confirms begun.ballot (queue_at old.flow id).messages (queue_at new.flow id).messages set (confirmed_in grown.round.phase)
    leaves front waits flow not_here each has is n low about member = elim (taken_or_front old.flow id v each waits has) [
      | inl now ↦ absurd (not_here (member_front front each n now about member))
      | inr later ↦ inl (record { each = each; waits = subst (λ (f : FlowView). Contains (queue_at f id).messages each) (sym flow) later; about = about; is = is })
    ]

    -- an acceptor answers, and its reply waits
    answered : (front : Message) (request : Request) (acceptor now : AcceptorView S) (reply : Reply) → IsAt (queue_at old.flow id).messages 0 front → fall_of (queue_at old.flow id).again v ≡ Handle → front ≡ message.Request request → IsAt old.acceptors request.to acceptor
        → AnswersByTable m.shelves acceptor now request reply → new.flow ≡ replied_flow old.flow id v reply → Passed is_phase confirms begun.ballot (queue_at old.flow id).messages (queue_at new.flow id).messages set (confirmed_in grown.round.phase)
    answered front request acceptor now reply waits fall front_is there table flow each has is n low about member = elim (taken_or_front old.flow id v each waits has) [
      | inl here ↦ inl (record {
        each = message.Reply reply;
        waits = subst (λ (l : List Message). Contains l (message.Reply reply)) (sym queue) (contains_back (queue_at (taken old.flow id v) id).messages (message.Reply reply ∷ []) (contains_new (message.Reply reply) []));
        about = table.table.from ∙ safe.sound.acceptor_ids request.to acceptor there ∙ ap (λ (x : Message). (head_of x).1) (sym (here ∙ front_is)) ∙ about;
        is = reply_confirms m kind old new begun.ballot request acceptor now reply (well front request waits fall front_is (member_front front each n here about member)) there table
            (subst (Confirms is_phase confirms begun.ballot) (here ∙ front_is) is);
      })
      | inr later ↦ inl (record {
        each = each;
        waits = subst (λ (l : List Message). Contains l each) (sym queue) (contains_front (queue_at (taken old.flow id v) id).messages (message.Reply reply ∷ []) later);
        about = about;
        is = is;
      })
    ]
      where
        queue : (queue_at new.flow id).messages ≡ (queue_at (taken old.flow id v) id).messages ++ message.Reply reply ∷ []
        queue = ap (λ (f : FlowView). (queue_at f id).messages) flow ∙ replied_own old.flow id v reply waits

    -- a reply arrives, and where it confirms its acceptor confirmed
    arrived : (front : Message) (reply : Reply) → IsAt (queue_at old.flow id).messages 0 front → front ≡ message.Reply reply → new.flow ≡ taken old.flow id v → (next : Grows IsIn new.desks id begun (reply ∷ was.replies) was.round)
        → Passed is_phase confirms begun.ballot (queue_at old.flow id).messages (queue_at new.flow id).messages set (confirmed_in next.round.phase)
    arrived front reply waits front_is flow next each has is n low about member = elim (taken_or_front old.flow id v each waits has) [
      | inl now ↦
          let confirms_here = subst (Confirms is_phase confirms begun.ballot) (now ∙ front_is) is in
          inr (subst (λ (l : List ℕ). has_member l n ≡ true) (sym (kind.confirmed next.round (reply ∷ was.replies) next.is_open.within))
          (subst (λ (b : Ballot). has_member (confirmers_of confirms (heard is_phase b (reply ∷ was.replies))) n ≡ true) (sym (ap (λ (r : Round). r.ballot) next.is_open.same))
          (confirmed_now is_phase confirms begun.ballot reply was.replies n low confirms_here.0 confirms_here.1 (ap (λ (x : Message). (head_of x).1) (sym (now ∙ front_is)) ∙ about))))
      | inr later ↦ inl (record { each = each; waits = subst (λ (f : FlowView). Contains (queue_at f id).messages each) (sym flow) later; about = about; is = is })
    ]

    in_turn : (of_call : OpenCallAt old id) (front : Message) → IsAt (queue_at old.flow id).messages 0 front → frames.TakesTurn m old id v front of_call.caller of_call.call new → Coming is_phase confirms IsIn new.desks (queue_at new.flow id).messages id set asked begun
    in_turn at front waits (frames.held fall is) = comes_on old new id set asked begun (brought ++ was.replies) was grown
        (λ each has confirming n low about member. inl (record { each = each; waits = subst (λ (w : View S V). Contains (queue_at w.flow id).messages each) (sym is) has; about = about; is = confirming }))
    in_turn at front waits (frames.gone fall is) = comes_on old new id set asked begun (brought ++ was.replies) was grown
        (leaves front waits (ap (λ (w : View S V). w.flow) is) (λ member. (undisturbed front waits member).0 fall))
    in_turn at front waits (frames.answers request acceptor now reply fall front_is there table is) = comes_on old new id set asked begun (brought ++ was.replies) was grown
        (answered front request acceptor now reply waits fall front_is there table (ap (λ (w : View S V). w.flow) is))
    in_turn at front waits (frames.finds_down request acceptor fall front_is there down is) = comes_on old new id set asked begun (brought ++ was.replies) was grown
        (leaves front waits (ap (λ (w : View S V). w.flow) is) (λ member. not_found_down m old new request acceptor (well front request waits fall front_is member) there down))
    in_turn at front waits (frames.brings_down request acceptor now fall front_is there stops is) = comes_on old new id set asked begun (brought ++ was.replies) was grown
        (leaves front waits (ap (λ (w : View S V). w.flow) is) (λ member. not_brought_down m old new request acceptor now (well front request waits fall front_is member) there stops (ap (λ (w : View S V). w.acceptors) is)))
    in_turn at front waits (frames.arrives reply desk now round next fall front_is there is_round hears is) =
        let heard_now : Brings old new id (reply ∷ []) = one reply desk now round next (inl (waits ∙ ap (λ (x : Message). Some x) front_is)) there is_round hears
        (subst (λ (l : List (DeskView V)). IsAt l id now) (sym (ap (λ (w : View S V). w.desks) is)) (at_set old.desks id desk now there)) in
        let more : Grows IsIn new.desks id begun (reply ∷ was.replies) was.round = grows kind old new id begun was.replies (reply ∷ []) was.round was.is_open heard_now in
        comes_on old new id set asked begun (reply ∷ was.replies) was more (arrived front reply waits front_is (ap (λ (w : View S V). w.flow) is) more)

-- whatever is called
pub step_comes : {S V : Type 0} (m : Meaning S V) {is_phase : Phase → Bool} {confirms : Tell → Bool} {IsIn : List Reply → Round → Type 0} (kind : IsKind is_phase confirms IsIn) (old new : View S V) (id : ℕ) (set asked : List ℕ) (begun : Round) (event : step.Event) → IsSafe old
    → QueueStays old new id ⊎ OwnTurn m old new id event → IsUndisturbedBy m id set old event new → (brought : List Reply) → Brings old new id brought
    → Coming is_phase confirms IsIn old.desks (queue_at old.flow id).messages id set asked begun → Coming is_phase confirms IsIn new.desks (queue_at new.flow id).messages id set asked begun
step_comes {S} {V} m kind old new id set asked begun event safe (inl stays) undisturbed brought brings was =
    comes_on old new id set asked begun (brought ++ was.replies) was (grows kind old new id begun was.replies brought was.round was.is_open brings)
    (λ each has confirming n low about member. inl (record { each = each; waits = subst (λ (l : List Message). Contains l each) (sym stays.waits) has; about = about; is = confirming }))
step_comes {S} {V} m kind old new id set asked begun (step.Turn proposer v) safe (inr own) undisturbed brought brings was =
    turn_comes m kind old new id set asked begun v safe (subst (λ (p : ℕ). StepTurn m old p v new) own.0 own.1) (undisturbed own.0) brought brings was
step_comes m kind old new id set asked begun event safe (inr own) undisturbed brought brings was = absurd own
