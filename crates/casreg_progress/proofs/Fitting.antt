-- A phase whose members are ready for its requests: its turns disturb nothing.
use Rattle.std.proofs.Common.{◌≡◌, ◌≤◌, ℕ, Bool, true, false, List, [], ◌∷◌, ◌++◌, Option, None, Some, slice_set, refl, sym, ap, subst, ◌∙◌, inl, inr, arith, length-set}
use Rattle.std.specs.Prelude.{⊤, unwrap_or, Contains, IsSomeAnd}
use Rattle.cas_base.specs.Faults.{Rose}
use Rattle.cas_base.proofs.Bools.{not_both}
use Rattle.cas_ballot.specs.declared.ballot.Ballot.{Ballot}
use Rattle.cas_ballot.specs.Ballot.{BallotAtMost}
use Rattle.cas_ballot.proofs.BallotLemmas.{at_most_refl, at_most_trans, at_most_greater_right, greater_at_most}
use Rattle.cas_fate.specs.declared.fate.Verdict.{Verdict}
use Rattle.cas_fate.specs.declared.fate.Verdict.TheVariants.{Deliver}
use Rattle.cas_flow.specs.Flow.{FlowView, queue_at, queue_after, taken}
use Rattle.cas_flow.specs.Queue.{QueueView, fall_of, pushed}
use Rattle.cas_flow.specs.declared.fall.Fall.TheVariants.{Gone}
use Rattle.cas_flow.specs.declared.message.Message.{Message}
use Rattle.cas_flow.specs.declared.message.Message.TheVariants as message
use Rattle.cas_acceptor.specs.Acceptor.{AcceptorView}
use Rattle.cas_proposer.specs.Desk.{DeskView}
use Rattle.cas_quorum.specs.declared.era.Era.{Era}
use Rattle.cas_slot.specs.Ages.{least_age}
use Rattle.cas_slot.specs.Contents.{Contents, kept_at, with_kept}
use Rattle.cas_slot.specs.Slot.{accepted_ballot, accepted_of, seen_of}
use Rattle.cas_slot.specs.Table.{Answers, Handles, seen_at}
use Rattle.cas_slot.specs.declared.message.Ask.{Ask}
use Rattle.cas_slot.specs.declared.message.Ask.TheVariants as ask
use Rattle.cas_slot.specs.declared.message.Reply.{Reply}
use Rattle.cas_slot.specs.declared.message.Request.{Request}
use Rattle.cas_slot.specs.declared.message.Tell.{Tell}
use Rattle.cas_slot.specs.declared.message.Tell.TheVariants as tell
use Rattle.cas_slot.specs.declared.slot.Accepted.{Accepted}
use Rattle.cas_slot.specs.declared.slot.Slot.{Slot}
use Rattle.cas_slot.proofs.SlotsLemmas.{slot_at-with_slot_same}
use Rattle.cas_vault.specs.Vault.{kept_of}
use Rattle.cas_model.specs.Step as step
use Rattle.cas_model.specs.Step.{StepTurn, StepPropose, StepCount}
use Rattle.cas_model.specs.Stops.Step.{OpenCallAt}
use Rattle.cas_model.specs.Frames.Acceptors.{AnswersByTable, StopsWithin}
use Rattle.cas_model.specs.Calls.Step as calls
use Rattle.cas_model.specs.Frames.Step as frames
use Rattle.cas_model.specs.Frames.Step.{replied_flow}
use Rattle.cas_model.specs.View.{Meaning, View, IsAt}
use Rattle.cas_model.proofs.Frames.Steps.{taken_thins}
use Rattle.cas_model.proofs.Places.{at_one, at_set, own_set, same_or_not, contains_at, contains_append, contains_none, newest_or_older, queue_same, has_queue}
use Rattle.cas_model_causes.specs.Calls.Rounds.{RoundSteps, none, one_more}
use Rattle.cas_model_causes.specs.Calls.Undisturbed.{LetsPass, IsHandledWell, GoesWell, IsUndisturbedBy, AreUndisturbed}
use Rattle.cas_model_causes.proofs.Calls.Hearing.{at_other, steps}
use Rattle.casreg_progress.proofs.ByRules as script
use Rattle.casreg_progress.proofs.ByRules.{TurnedByRules}
use Rattle.casreg_script.specs.Frames.Conditions.{Rule, verdict_on}
use Rattle.casreg_progress.specs.Lines.{IsMemberOf}
use Rattle.casreg_progress.proofs.Standing.{StillUp, up_before, turn_keeps}

-- ---- what an acceptor keeps once it answered
abbrev pub IsOfRound : Ask → Type 0
IsOfRound (ask.Prepare key ballot) = ⊤
IsOfRound (ask.Accept key ballot era ride state) = ⊤
IsOfRound other = ⊥

-- what is asked passes again, and no least age changed
abbrev pub PassesStill : Contents → Contents → Ask → Type 0
PassesStill old new question = LetsPass new question × (new.ages ≡ old.ages)

unchanged : (old new : Contents) (question : Ask) → LetsPass old question → new ≡ old → PassesStill old new question
unchanged old new question lets same = (subst (λ (c : Contents). LetsPass c question) (sym same) lets, ap (λ (c : Contents). c.ages) same)

-- what a slot accepted is at most what it has seen
accepted_low : (slot : Option Slot) (ballot : Ballot) → BallotAtMost (seen_of slot) ballot → BallotAtMost (accepted_ballot (accepted_of slot)) ballot
accepted_low None ballot low = low
accepted_low (Some slot) ballot low = at_most_trans (at_most_greater_right slot.promise (accepted_ballot slot.accepted)) low

-- a slot that promises the ballot has seen nothing above it, and there is room for its key
promised_passes : (old : Contents) (key : List ℕ) (ballot : Ballot) → BallotAtMost (seen_at old key) ballot
    → LetsPass (with_kept old key (record { promise = ballot; accepted = accepted_of (kept_at old key) })) (ask.Prepare key ballot)
promised_passes old key ballot low = (
  subst (λ (s : Option Slot). BallotAtMost (seen_of s) ballot) (sym here) (greater_at_most (at_most_refl ballot) (accepted_low (kept_at old key) ballot low)),
  λ full. cc (sym here ∙ full.new_key),
)
  where
    slot : Slot
    slot = record { promise = ballot; accepted = accepted_of (kept_at old key) }

    here : kept_at (with_kept old key slot) key ≡ Some slot
    here = slot_at-with_slot_same old.slots key slot

accepted_passes : (old : Contents) (key : List ℕ) (accepted : Accepted) (promise : Ballot)
    → IsSomeAnd (accepted_of (kept_at (with_kept old key (record { promise = promise; accepted = Some accepted })) key)) (λ a. a.ballot ≡ accepted.ballot)
accepted_passes old key accepted promise =
    subst (λ (s : Option Slot). IsSomeAnd (accepted_of s) (λ a. a.ballot ≡ accepted.ballot)) (sym (slot_at-with_slot_same old.slots key (record { promise = promise; accepted = Some accepted }))) refl

prepare_passes : (old new : Contents) (key : List ℕ) (ballot : Ballot) (answer : Tell) → LetsPass old (ask.Prepare key ballot) → Answers old (ask.Prepare key ballot) answer new → PassesStill old new (ask.Prepare key ballot)
prepare_passes old new key ballot (tell.Promised accepted) lets row = elim row.1 [
  | inl again ↦ unchanged old new (ask.Prepare key ballot) lets again.1
  | inr now ↦
      let put : new ≡ with_kept old key (record { promise = ballot; accepted = accepted_of (kept_at old key) }) = now.2 ∙ ap (λ (a : Option Accepted). with_kept old key (record { promise = ballot; accepted = a })) row.0 in
      (subst (λ (c : Contents). LetsPass c (ask.Prepare key ballot)) (sym put) (promised_passes old key ballot lets.0), ap (λ (c : Contents). c.ages) put)
]
prepare_passes old new key ballot (tell.Met seen) lets row = unchanged old new (ask.Prepare key ballot) lets row.2
prepare_passes old new key ballot tell.Full lets row = unchanged old new (ask.Prepare key ballot) lets row.2
prepare_passes old new key ballot answer lets row = absurd row

accept_passes : (old new : Contents) (key : List ℕ) (ballot : Ballot) (era : ℕ) (ride : Option Ballot) (state : _) (answer : Tell) → LetsPass old (ask.Accept key ballot era ride state) → Answers old (ask.Accept key ballot era ride state) answer new
    → PassesStill old new (ask.Accept key ballot era ride state)
accept_passes old new key ballot era ride state tell.Accepted lets row = elim row [
  | inl again ↦ unchanged old new (ask.Accept key ballot era ride state) lets again.1
  | inr now ↦ (
    subst (λ (c : Contents). LetsPass c (ask.Accept key ballot era ride state)) (sym now.3) (inl (accepted_passes old key (record { ballot = ballot; era = era; state = state }) (unwrap_or ride _))),
    ap (λ (c : Contents). c.ages) now.3,
  )
]
accept_passes old new key ballot era ride state (tell.Met seen) lets row = unchanged old new (ask.Accept key ballot era ride state) lets row.3
accept_passes old new key ballot era ride state tell.Full lets row = unchanged old new (ask.Accept key ballot era ride state) lets row.2
accept_passes old new key ballot era ride state answer lets row = absurd row

asked_passes : (old new : Contents) (question : Ask) (answer : Tell) → IsOfRound question → LetsPass old question → Answers old question answer new → PassesStill old new question
asked_passes old new (ask.Prepare key ballot) answer of_round lets row = prepare_passes old new key ballot answer lets row
asked_passes old new (ask.Accept key ballot era ride state) answer of_round lets row = accept_passes old new key ballot era ride state answer lets row
asked_passes old new question answer of_round lets row = absurd of_round

pub handled_passes : (old new : Contents) (request : Request) (answer : Tell) → IsOfRound request.ask → LetsPass old request.ask → Handles old request answer new → PassesStill old new request.ask
handled_passes old new request (tell.Aged least) of_round lets row = unchanged old new request.ask lets row.2
handled_passes old new request answer of_round lets row = asked_passes old new request.ask answer of_round lets row.1

-- ---- a phase
-- a member is up, keeps no greater age, and lets this pass
pub record IsOpenTo {S V : Type 0} (m : Meaning S V) (view : View S V) (id age : ℕ) (question : Ask) (member : ℕ) : Type 0 where
  pub acceptor : AcceptorView S
  pub at_acceptor : IsAt view.acceptors member acceptor
  pub up : acceptor.down ≡ false
  pub answers_age : least_age (m.shelves.contents acceptor.shelf).ages id ≤ age
  pub passes : LetsPass (m.shelves.contents acceptor.shelf) question

-- a request is this, to a member of the era
pub record IsAskedOfMember (era : Era) (id age : ℕ) (question : Ask) (request : Request) : Type 0 where
  pub to : IsMemberOf era request.to
  pub from : request.from ≡ id
  pub of_age : request.age ≡ age
  pub ask : request.ask ≡ question

abbrev pub AllAsked : Era → ℕ → ℕ → Ask → List Message → Type 0
AllAsked era id age question messages = (request : Request) → Contains messages (message.Request request) → IsAskedOfMember era id age question request

-- Each request that waits asks this of a member, each member lets it pass, and the desk has that age.
pub record IsUnderway {S V : Type 0} (m : Meaning S V) (era : Era) (id age : ℕ) (question : Ask) (view : View S V) : Type 0 where
  pub asked : AllAsked era id age question (queue_at view.flow id).messages
  pub members : (member : ℕ) → IsMemberOf era member → IsOpenTo m view id age question member
  pub desk_age : (desk : DeskView V) → IsAt view.desks id desk → (kept_of desk.vault).age ≡ age

-- ---- a turn
replied_own : (flow : FlowView) (id : ℕ) (v : Verdict) (reply : Reply) {front : Message} → IsAt (queue_at flow id).messages 0 front → (queue_at (replied_flow flow id v reply) id).messages ≡ (queue_at (taken flow id v) id).messages ++ message.Reply reply ∷ []
replied_own flow id v reply at =
    ap (λ (q : QueueView). q.messages)
    (queue_same (taken flow id v).own id (pushed (queue_at (taken flow id v) id) (message.Reply reply)) (omega (arith, has_queue flow.own id at, length-set flow.own id (queue_after (queue_at flow id) v))))

no_request : (reply : Reply) (request : Request) → Contains (message.Reply reply ∷ []) (message.Request request) → ⊥
no_request reply request has = elim (newest_or_older [] has) [
  | inl now ↦ cc now
  | inr later ↦ contains_none later
]

-- no request is new after a turn
no_new_asked : {S V : Type 0} (m : Meaning S V) (old new : View S V) (id : ℕ) (v : Verdict) → StepTurn m old id v new → (request : Request) → Contains (queue_at new.flow id).messages (message.Request request) → Contains (queue_at old.flow id).messages (message.Request request)
no_new_asked {S} {V} m old new id v by request has = in_turn by.of_call by.front by.waits by.turn
  where
    taken_from : {front : Message} → IsAt (queue_at old.flow id).messages 0 front → Contains (queue_at (taken old.flow id v) id).messages (message.Request request) → Contains (queue_at old.flow id).messages (message.Request request)
    taken_from waits was = (taken_thins old.flow id v waits).before (message.Request request) was

    after : (flow : FlowView) → new.flow ≡ flow → Contains (queue_at flow id).messages (message.Request request)
    after flow is = subst (λ (f : FlowView). Contains (queue_at f id).messages (message.Request request)) is has

    in_turn : (of_call : OpenCallAt old id) (front : Message) → IsAt (queue_at old.flow id).messages 0 front → frames.TakesTurn m old id v front of_call.caller of_call.call new → Contains (queue_at old.flow id).messages (message.Request request)
    in_turn at front waits (frames.held fall is) = after old.flow (ap (λ (w : View S V). w.flow) is)
    in_turn at front waits (frames.gone fall is) = taken_from waits (after (taken old.flow id v) (ap (λ (w : View S V). w.flow) is))
    in_turn at front waits (frames.answers asked acceptor now reply fall front_is there table is) =
        elim (contains_append (queue_at (taken old.flow id v) id).messages (message.Reply reply ∷ []) (subst (λ (l : List Message). Contains l (message.Request request)) (replied_own old.flow id v reply waits) (after (replied_flow old.flow id v reply) (ap (λ (w : View S V). w.flow) is)))) [
          | inl was ↦ taken_from waits was
          | inr now_waits ↦ absurd (no_request reply request now_waits)
        ]
    in_turn at front waits (frames.finds_down asked acceptor fall front_is there down is) = taken_from waits (after (taken old.flow id v) (ap (λ (w : View S V). w.flow) is))
    in_turn at front waits (frames.brings_down asked acceptor now fall front_is there stops is) = taken_from waits (after (taken old.flow id v) (ap (λ (w : View S V). w.flow) is))
    in_turn at front waits (frames.arrives reply desk now round heard fall front_is there is_round hears is) = taken_from waits (after (taken old.flow id v) (ap (λ (w : View S V). w.flow) is))

-- the desk keeps its age
turn_age : {S V : Type 0} (m : Meaning S V) (old new : View S V) (id age : ℕ) (v : Verdict) → StepTurn m old id v new → ((desk : DeskView V) → IsAt old.desks id desk → (kept_of desk.vault).age ≡ age) → (desk : DeskView V) → IsAt new.desks id desk → (kept_of desk.vault).age ≡ age
turn_age {S} {V} m old new id age v by was = in_turn by.of_call by.front by.turn
  where
    same : new.desks ≡ old.desks → (desk : DeskView V) → IsAt new.desks id desk → (kept_of desk.vault).age ≡ age
    same is desk at = was desk (subst (λ (l : List (DeskView V)). IsAt l id desk) is at)

    in_turn : (of_call : OpenCallAt old id) (front : Message) → frames.TakesTurn m old id v front of_call.caller of_call.call new → (desk : DeskView V) → IsAt new.desks id desk → (kept_of desk.vault).age ≡ age
    in_turn at front (frames.held fall is) = same (ap (λ (w : View S V). w.desks) is)
    in_turn at front (frames.gone fall is) = same (ap (λ (w : View S V). w.desks) is)
    in_turn at front (frames.answers request acceptor now reply fall front_is there table is) = same (ap (λ (w : View S V). w.desks) is)
    in_turn at front (frames.finds_down request acceptor fall front_is there down is) = same (ap (λ (w : View S V). w.desks) is)
    in_turn at front (frames.brings_down request acceptor now fall front_is there stops is) = same (ap (λ (w : View S V). w.desks) is)
    in_turn at front (frames.arrives reply desk now round heard fall front_is there is_round hears is) = λ seen at_seen.
        let is_now : seen ≡ now = own_set old.desks id now seen (subst (λ (l : List (DeskView V)). IsAt l id seen) (ap (λ (w : View S V). w.desks) is) at_seen) in
        ap (λ (d : DeskView V). (kept_of d.vault).age) (is_now ∙ hears.desk) ∙ was desk there

-- a member that did not change is open as it was
open_same : {S V : Type 0} (m : Meaning S V) (old new : View S V) (id age : ℕ) (question : Ask) (member : ℕ) (acceptor : AcceptorView S) → (was : IsOpenTo m old id age question member) → IsAt new.acceptors member was.acceptor → IsOpenTo m new id age question member
open_same m old new id age question member acceptor was at = record { acceptor = was.acceptor; at_acceptor = at; up = was.up; answers_age = was.answers_age; passes = was.passes }

-- one that answered lets the same pass again
open_answered : {S V : Type 0} (m : Meaning S V) (old new : View S V) (id age : ℕ) (question : Ask) (request : Request) (acceptor now : AcceptorView S) (reply : Reply) → IsOfRound question → request.ask ≡ question → (was : IsOpenTo m old id age question request.to)
    → IsAt old.acceptors request.to acceptor → AnswersByTable m.shelves acceptor now request reply → IsAt new.acceptors request.to now → IsOpenTo m new id age question request.to
open_answered {S} {V} m old new id age question request acceptor now reply of_round is was there table at = record {
  acceptor = now;
  at_acceptor = at;
  up = ap (λ (a : AcceptorView S). a.down) table.acceptor ∙ table.up;
  answers_age = subst (λ (a : _). least_age a id ≤ age) (sym (still.1 ∙ ap (λ (a : AcceptorView S). (m.shelves.contents a.shelf).ages) same)) was.answers_age;
  passes = subst (LetsPass (m.shelves.contents now.shelf)) is still.0;
}
  where
    same : acceptor ≡ was.acceptor
    same = at_one old.acceptors request.to there was.at_acceptor

    still : PassesStill (m.shelves.contents acceptor.shelf) (m.shelves.contents now.shelf) request.ask
    still = handled_passes (m.shelves.contents acceptor.shelf) (m.shelves.contents now.shelf) request reply.tell (subst IsOfRound (sym is) of_round)
        (subst (λ (a : AcceptorView S). LetsPass (m.shelves.contents a.shelf) request.ask) (sym same) (subst (LetsPass (m.shelves.contents was.acceptor.shelf)) (sym is) was.passes)) table.table.row

-- a member that goes down in the turn is not up after it
stays_up : {S V : Type 0} (m : Meaning S V) (era : Era) (old new : View S V) (request : Request) (acceptor now : AcceptorView S) → IsMemberOf era request.to → StillUp era new → IsAt old.acceptors request.to acceptor
    → StopsWithin m.shelves acceptor now request → new.acceptors ≡ slice_set old.acceptors request.to now → ⊥
stays_up {S} {V} m era old new request acceptor now is up there stops same =
    not_both now.down (ap (λ (a : AcceptorView S). a.down) stops.acceptor) (up request.to is now (subst (λ (l : List (AcceptorView S)). IsAt l request.to now) (sym same) (at_set old.acceptors request.to acceptor now there)))

turn_opens : {S V : Type 0} (m : Meaning S V) (era : Era) (old new : View S V) (id age : ℕ) (question : Ask) (v : Verdict) → IsOfRound question → IsUnderway m era id age question old → StillUp era new → StepTurn m old id v new → (member : ℕ) → IsMemberOf era member → IsOpenTo m new id age question member
turn_opens {S} {V} m era old new id age question v of_round was up by member is_member = in_turn by.of_call by.front by.waits by.turn
  where
    before : IsOpenTo m old id age question member
    before = was.members member is_member

    same : new.acceptors ≡ old.acceptors → IsOpenTo m new id age question member
    same is = open_same m old new id age question member before.acceptor before (subst (λ (l : List (AcceptorView S)). IsAt l member before.acceptor) (sym is) before.at_acceptor)

    asked_front : (front : Message) (request : Request) → IsAt (queue_at old.flow id).messages 0 front → front ≡ message.Request request → IsAskedOfMember era id age question request
    asked_front front request waits is = was.asked request (subst (Contains (queue_at old.flow id).messages) is (contains_at (queue_at old.flow id).messages 0 front waits))

    answered : (request : Request) (acceptor now : AcceptorView S) (reply : Reply) → IsAskedOfMember era id age question request → IsAt old.acceptors request.to acceptor → AnswersByTable m.shelves acceptor now request reply → new.acceptors ≡ slice_set old.acceptors request.to now → IsOpenTo m new id age question member
    answered request acceptor now reply asked there table is = elim (same_or_not member request.to) [
      | inl own ↦ subst (IsOpenTo m new id age question) (sym own) (open_answered m old new id age question request acceptor now reply of_round asked.ask (was.members request.to asked.to) there table
          (subst (λ (l : List (AcceptorView S)). IsAt l request.to now) (sym is) (at_set old.acceptors request.to acceptor now there)))
      | inr other ↦ open_same m old new id age question member before.acceptor before (subst (λ (l : List (AcceptorView S)). IsAt l member before.acceptor) (sym is) (at_other old.acceptors request.to now member before.acceptor other before.at_acceptor))
    ]

    in_turn : (of_call : OpenCallAt old id) (front : Message) → IsAt (queue_at old.flow id).messages 0 front → frames.TakesTurn m old id v front of_call.caller of_call.call new → IsOpenTo m new id age question member
    in_turn at front waits (frames.held fall is) = same (ap (λ (w : View S V). w.acceptors) is)
    in_turn at front waits (frames.gone fall is) = same (ap (λ (w : View S V). w.acceptors) is)
    in_turn at front waits (frames.answers request acceptor now reply fall front_is there table is) = answered request acceptor now reply (asked_front front request waits front_is) there table (ap (λ (w : View S V). w.acceptors) is)
    in_turn at front waits (frames.finds_down request acceptor fall front_is there down is) = same (ap (λ (w : View S V). w.acceptors) is)
    in_turn at front waits (frames.brings_down request acceptor now fall front_is there stops is) = absurd (stays_up m era old new request acceptor now (asked_front front request waits front_is).to up there stops (ap (λ (w : View S V). w.acceptors) is))
    in_turn at front waits (frames.arrives reply desk now round heard fall front_is there is_round hears is) = same (ap (λ (w : View S V). w.acceptors) is)

turn_goes_on : {S V : Type 0} (m : Meaning S V) (era : Era) (old new : View S V) (id age : ℕ) (question : Ask) (v : Verdict) → IsOfRound question → IsUnderway m era id age question old → StillUp era new → StepTurn m old id v new → IsUnderway m era id age question new
turn_goes_on m era old new id age question v of_round was up by = record {
  asked = λ request has. was.asked request (no_new_asked m old new id v by request has);
  members = turn_opens m era old new id age question v of_round was up by;
  desk_age = turn_age m old new id age v by was.desk_age;
}

-- ---- no fault
-- the same meaning, where no shelf ever counts a fault
abbrev pub without_faults : {S V : Type 0} → Meaning S V → Meaning S V
without_faults m = record m { shelves = record m.shelves { faults = λ shelf. 0 } }

-- a turn that leaves the members up is one without a fault
faultless_turn : {S V : Type 0} (m : Meaning S V) (era : Era) (old new : View S V) (id age : ℕ) (question : Ask) (v : Verdict) → IsUnderway m era id age question old → StillUp era new → StepTurn m old id v new → StepTurn (without_faults m) old id v new
faultless_turn {S} {V} m era old new id age question v was up by = record { of_call = by.of_call; front = by.front; waits = by.waits; turn = in_turn by.of_call by.front by.waits by.turn }
  where
    in_turn : (of_call : OpenCallAt old id) (front : Message) → IsAt (queue_at old.flow id).messages 0 front → frames.TakesTurn m old id v front of_call.caller of_call.call new → frames.TakesTurn (without_faults m) old id v front of_call.caller of_call.call new
    in_turn at front waits (frames.held fall is) = frames.held fall is
    in_turn at front waits (frames.gone fall is) = frames.gone fall is
    in_turn at front waits (frames.answers request acceptor now reply fall front_is there table is) =
        frames.answers request acceptor now reply fall front_is there (record { up = table.up; acceptor = table.acceptor; table = table.table; lasts = table.lasts; never_falls = omega arith }) is
    in_turn at front waits (frames.finds_down request acceptor fall front_is there down is) = frames.finds_down request acceptor fall front_is there down is
    in_turn at front waits (frames.brings_down request acceptor now fall front_is there stops is) =
        absurd (stays_up m era old new request acceptor now (was.asked request (subst (Contains (queue_at old.flow id).messages) front_is (contains_at (queue_at old.flow id).messages 0 front waits))).to up there stops (ap (λ (w : View S V). w.acceptors) is))
    in_turn at front waits (frames.arrives reply desk now round heard fall front_is there is_round hears is) = frames.arrives reply desk now round heard fall front_is there is_round hears is

pub faultless_propose : {S V : Type 0} (m : Meaning S V) (old new : View S V) (id : ℕ) → StepPropose m old id new → StepPropose (without_faults m) old id new
faultless_propose {S} {V} m old new id by = record { at_round = by.at_round; preparing = by.preparing; proposes = in_phase by.at_round.of_call by.at_round.desk by.at_round.round by.proposes }
  where
    in_phase : (of_call : OpenCallAt old id) (desk : DeskView V) (round : _) → calls.ProposesOrEnds m old id desk round of_call.caller of_call.call new → calls.ProposesOrEnds (without_faults m) old id desk round of_call.caller of_call.call new
    in_phase at desk round (calls.proposes now turned read by_them ride outcome flow quorum confirmers reads turns made sends is) = calls.proposes now turned read by_them ride outcome flow quorum confirmers reads turns made sends is
    in_phase at desk round (calls.ends now verdict told verdict_is refuses ends is) = calls.ends now verdict told verdict_is refuses ends is
    in_phase at desk round (calls.fails now fails is) = calls.fails now fails is
    in_phase at desk round (calls.loses now ballot loses is) = calls.loses now ballot loses is

pub faultless_count : {S V : Type 0} (m : Meaning S V) (old new : View S V) (id : ℕ) → StepCount m old id new → StepCount (without_faults m) old id new
faultless_count {S} {V} m old new id by = record { at_round = by.at_round; accepting = by.accepting; counts = in_phase by.at_round.of_call by.at_round.desk by.at_round.round by.counts }
  where
    in_phase : (of_call : OpenCallAt old id) (desk : DeskView V) (round : _) → calls.CountsOrEnds m old id desk round of_call.caller of_call.call new → calls.CountsOrEnds (without_faults m) old id desk round of_call.caller of_call.call new
    in_phase at desk round (calls.counts now by_them outcome quorum confirmers proposed ends is) = calls.counts now by_them outcome quorum confirmers proposed ends is
    in_phase at desk round (calls.ends now verdict why verdict_is cause ends is) = calls.ends now verdict why verdict_is cause ends is

none_rose : Rose 0 0 → ⊥
none_rose (inl more) = omega (arith, more)
none_rose (inr most) = cc most

-- ---- undisturbed turns
never_gone : (again : Bool) → fall_of again Deliver ≡ Gone → ⊥
never_gone true is = cc is
never_gone false is = cc is

undisturbed_turn : {S V : Type 0} (m : Meaning S V) (era : Era) (old new : View S V) (id age : ℕ) (question : Ask) (set : List ℕ) → IsUnderway m era id age question old → IsUnderway m era id age question new → IsUndisturbedBy (without_faults m) id set old (step.Turn id Deliver) new
undisturbed_turn {S} {V} m era old new id age question set was now own front waits member = (never_gone (queue_at old.flow id).again, λ handled. goes_well front waits)
  where
    handled_well : (request : Request) → IsAskedOfMember era id age question request → IsHandledWell (without_faults m) old new request
    handled_well request asked =
        let before = was.members request.to asked.to in
        let after = now.members request.to asked.to in
        record {
          acceptor = before.acceptor;
          at_acceptor = before.at_acceptor;
          up = before.up;
          age = subst (λ (p : ℕ). least_age (m.shelves.contents before.acceptor.shelf).ages p ≤ request.age) (sym asked.from) (subst (λ (n : ℕ). least_age (m.shelves.contents before.acceptor.shelf).ages id ≤ n) (sym asked.of_age) before.answers_age);
          passes = subst (LetsPass (m.shelves.contents before.acceptor.shelf)) (sym asked.ask) before.passes;
          now = after.acceptor;
          at_now = after.at_acceptor;
          no_fault = none_rose;
        }

    goes_well : (front : Message) → IsAt (queue_at old.flow id).messages 0 front → GoesWell (without_faults m) old new front
    goes_well (message.Request request) waits = handled_well request (was.asked request (contains_at (queue_at old.flow id).messages 0 (message.Request request) waits))
    goes_well (message.Reply reply) waits = tt

-- all turns of a phase that is underway are undisturbed, and it is underway still
pub record GoesUndisturbed {S V : Type 0} (m : Meaning S V) (era : Era) (id age : ℕ) (question : Ask) (set : List ℕ) (first_ mid : View S V) : Type 0 where
  pub replies : List Reply
  pub steps : RoundSteps (without_faults m) id first_ replies mid
  pub undisturbed : AreUndisturbed (without_faults m) id set first_ mid replies steps
  pub underway : IsUnderway m era id age question mid

pub goes : {S V : Type 0} (m : Meaning S V) (era : Era) (rules : List Rule) (id age : ℕ) (question : Ask) (set : List ℕ) (first_ mid : View S V) → ((frame : Message) → verdict_on rules frame ≡ Deliver) → IsOfRound question → IsUnderway m era id age question first_
    → TurnedByRules m rules id first_ mid → StillUp era mid → GoesUndisturbed m era id age question set first_ mid
goes m era rules id age question set first_ mid delivers of_round was script.none up = record { replies = []; steps = none; undisturbed = tt; underway = was }
goes m era rules id age question set first_ mid delivers of_round was (script.one_more {mid = middle} frame turned at by) up =
    let before = goes m era rules id age question set first_ middle delivers of_round was turned (up_before era middle mid (turn_keeps m middle mid id (verdict_on rules frame) by) up) in
    let turn : StepTurn m middle id Deliver mid = subst (λ (v : Verdict). StepTurn m middle id v mid) (delivers frame) by in
    let faultless : StepTurn (without_faults m) middle id Deliver mid = faultless_turn m era middle mid id age question Deliver before.underway up turn in
    let brings = steps (without_faults m) middle mid id (step.Turn id Deliver) (λ x. x) faultless in
    let now = turn_goes_on m era middle mid id age question Deliver of_round before.underway up turn in
    record {
      replies = brings.0 ++ before.replies;
      steps = one_more (step.Turn id Deliver) before.steps (λ x. x) faultless brings.1;
      undisturbed = (before.undisturbed, undisturbed_turn m era middle mid id age question set before.underway now);
      underway = now;
    }
