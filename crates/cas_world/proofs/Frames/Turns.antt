-- A world as the first frame of a proposer has its turn.
use Rattle.std.proofs.Common.{◌≡◌, ◌≢◌, ◌≤◌, ◌<◌, ◌+◌, ◌-◌, ℕ, Bool, true, false, List, [], ◌∷◌, ◌++◌, Option, None, Some, length, map, slice_get, slice_set, option_map, refl, sym, ap, subst, ◌∙◌, inl, inr, arith, append-nil}
use Rattle.std.proofs.lemmas.List.{length-map, map-set}
use Rattle.std.proofs.lemmas.Option.{slice_get-map}
use Rattle.std.specs.Prelude.{IsSome, IfSome, slice_index_or, if◌then◌else◌, is_some}
use Rattle.cas_ballot.specs.Members.{has_member, with_member}
use Rattle.cas_acceptor.specs.Acceptor.{AcceptorView}
use Rattle.cas_fate.specs.declared.fate.Verdict.{Verdict}
use Rattle.cas_fate.specs.declared.fate.Verdict.TheVariants as verdict
use Rattle.cas_flow.specs.Flow.{FlowView, queue_at, queue_after, taken}
use Rattle.cas_flow.specs.Message.{head_of}
use Rattle.cas_flow.specs.Queue.{QueueView, fall_of}
use Rattle.cas_flow.specs.declared.fall.Fall.TheVariants.{Handle, Gone, Held}
use Rattle.cas_flow.specs.declared.message.Message.{Message}
use Rattle.cas_flow.specs.declared.message.Message.TheVariants as message
use Rattle.cas_proposer.specs.Desk.{DeskView}
use Rattle.cas_proposer.specs.declared.round.Round.{Round}
use Rattle.cas_record.specs.Book.{Book}
use Rattle.cas_record.specs.declared.mark.Mark.{Mark}
use Rattle.cas_slot.specs.declared.message.Reply.{Reply}
use Rattle.cas_slot.specs.declared.message.Request.{Request}
use Rattle.cas_change.specs.declared.outcome.Outcome.{Outcome}
use Rattle.cas_proposer.specs.Round.{is_preparing, Hears}
use Rattle.cas_record.specs.declared.mark.Mark.TheVariants.{Harmed}
use Rattle.cas_model.specs.Safe.{IsSafe, requests_in, handled_in, handled_once, IsRoundSafe, IsOpenSafe}
use Rattle.cas_model.specs.View.{Meaning, ShelfMeaning, View, CallView, CallerView, IsAt, new_caller, reserved_in, reserved_of, with_marks, era_in}
use Rattle.cas_model.specs.Step.{StepTurn, StepRefuseTurn}
use Rattle.cas_model.specs.Stops.Step.{OpenCallAt}
use Rattle.cas_model.specs.Calls.Step.{with_call, telling}
use Rattle.cas_record.specs.declared.answer.Answer.TheVariants as answer
use Rattle.cas_model.specs.Frames.Step as frames
use Rattle.cas_model.proofs.Frames.Steps.{taken_own}
use Rattle.cas_model.proofs.Places.{some_is, at_one, at_set, but_set}
use Rattle.cas_model.proofs.Safety.Parts.{reserved_set, at_low, low_at}
use Rattle.cas_model.proofs.Stops.Safe.{reserves_one, votes_few}
use Rattle.cas_world_calls.specs.declared.council.Council.{Council}
use Rattle.cas_world_calls.specs.Call.{harmed_by, harms_marked}
use Rattle.cas_world.specs.Frames.Serve.{was_down, goes_down, KeepsAll, nothing_asked, was_kept}
use Rattle.cas_world.specs.Frames.Turn.{HasReservedMark, MakesInRoom, Harms, HandlesFrame, asks, arrives, is_answered, is_down, marking, silent}
use Rattle.cas_world.specs.World.{call_view, caller_view, view_of, HasCopies, IsWorld}
use Rattle.cas_world_calls.specs.declared.proposal.Copies.{Copies}
use Rattle.cas_world_calls.specs.declared.call.Caller.{Caller}
use Rattle.cas_world_calls.specs.declared.call.OpenCall.{OpenCall}
use Rattle.cas_world.proofs.Parts.{at_place, set_same, some_and, Remembers}
use Rattle.cas_world.proofs.Frames.Turning.{one_waits}

-- ---- parts of what is seen
pub seen_at : (callers : List Caller) (id : ℕ) (caller : Caller) → IsAt callers id caller → IsAt (map caller_view callers) id (caller_view caller)
seen_at callers id caller at = slice_get-map caller_view callers id ∙ ap (λ (o : Option Caller). option_map caller_view o) at

call_of : (o : Option OpenCall) (seen : CallView) → option_map call_view o ≡ Some seen → (call : OpenCall) × (o ≡ Some call) × (call_view call ≡ seen)
call_of None seen e = absurd (cc e)
call_of (Some call) seen e = (call, refl, some_is e)

-- what is reserved for one call is reserved in all
reserved_within : (callers : List CallerView) (id : ℕ) (caller : CallerView) → IsAt callers id caller → reserved_in caller.call ≤ reserved_of callers
reserved_within callers id caller at = omega (arith, reserved_set callers id caller new_caller at)

-- ---- an open round
-- where a frame waits, a round is open at the desk, and so is the call, with marks that are reserved
pub record IsTurnOpenAt {V : Type 0} (desks : List (DeskView V)) (flow : FlowView) (id : ℕ) (caller : Caller) (left : ℕ) : Type 0 where
  pub desk : DeskView V
  pub at_desk : IsAt desks id desk
  pub round : Round
  pub is_round : desk.round ≡ Some round
  pub call : OpenCall
  pub is_call : caller.call ≡ Some call
  pub reserved : 2 ≤ call.reserved
  pub within : call.reserved ≤ left
  pub front : Message
  pub waits : slice_get (queue_at flow id).messages 0 ≡ Some front
  pub replies : requests_in (queue_at flow id).messages ≤ (queue_at flow id).room + handled_once (queue_at flow id)

by_round : {S V : Type 0} {m : Meaning S V} (last_proposer : ℕ) (council : Council) (acceptors : List (AcceptorView S)) (desks : List (DeskView V)) (callers : List Caller) (flow : FlowView) (book : Book) (id : ℕ) (caller : Caller)
    → IsWorld m (view_of last_proposer council acceptors desks callers flow book) callers book.room → (queue_at flow id).messages ≢ [] → IsAt callers id caller
    → (desk : DeskView V) → IsAt desks id desk → (round : Option Round) → desk.round ≡ round → IsTurnOpenAt desks flow id caller book.room
by_round last_proposer council acceptors desks callers flow book id caller inv some at desk at_desk None none =
    let party = inv.safe.sound.parties id desk (caller_view caller) at_desk (seen_at callers id caller at) in
    let idle = subst (λ (r : Option Round). IsRoundSafe (era_in council.eras.0 id) (caller_view caller) (queue_at flow id) r) none party.round in
    absurd (some idle.none_waits)
by_round last_proposer council acceptors desks callers flow book id caller inv some at desk at_desk (Some round) is =
    let party = inv.safe.sound.parties id desk (caller_view caller) at_desk (seen_at callers id caller at) in
    let safe : IsOpenSafe (era_in council.eras.0 id) (caller_view caller) (queue_at flow id) round = subst (λ (r : Option Round). IsRoundSafe (era_in council.eras.0 id) (caller_view caller) (queue_at flow id) r) is party.round in
    let call = call_of caller.call safe.call safe.is_open in
    let front = one_waits (queue_at flow id).messages some in
    let same : call.0.reserved ≡ safe.call.reserved = ap (λ (c : CallView). c.reserved) call.2 in
    let seen : reserved_in (caller_view caller).call ≡ safe.call.reserved = ap reserved_in safe.is_open in
    record {
      desk = desk;
      at_desk = at_desk;
      round = round;
      is_round = is;
      call = call.0;
      is_call = call.1;
      reserved = omega (arith, same, reserves_one (era_in council.eras.0 id) (caller_view caller) (queue_at flow id) round safe (inv.safe.sound.prep_sets id) (inv.safe.sound.acc_sets id));
      within = omega (arith, same, seen, inv.room, reserved_within (map caller_view callers) id (caller_view caller) (seen_at callers id caller at));
      front = front.0;
      waits = front.1;
      replies = party.room;
    }

pub open_at : {S V : Type 0} {m : Meaning S V} (last_proposer : ℕ) (council : Council) (acceptors : List (AcceptorView S)) (desks : List (DeskView V)) (callers : List Caller) (flow : FlowView) (book : Book) (id : ℕ) (caller : Caller)
    → IsWorld m (view_of last_proposer council acceptors desks callers flow book) callers book.room → id ≤ last_proposer → (queue_at flow id).messages ≢ [] → IsAt callers id caller
    → IsTurnOpenAt desks flow id caller book.room
open_at last_proposer council acceptors desks callers flow book id caller inv low some at =
    let desk = at_low desks id (omega (arith, low, inv.safe.sound.desks)) in
    by_round last_proposer council acceptors desks callers flow book id caller inv some at desk.0 desk.1 desk.0.round refl

-- so a mark may be made
pub may_mark : {V : Type 0} (desks : List (DeskView V)) (flow : FlowView) (id : ℕ) (caller : Caller) (left : ℕ) → IsTurnOpenAt desks flow id caller left → HasReservedMark caller left
may_mark desks flow id caller left at = record {
  is_open = subst (λ (o : Option OpenCall). IsSome o) (sym at.is_call) refl;
  reserved = subst (λ (o : Option OpenCall). IfSome o (λ call. 0 < call.reserved)) (sym at.is_call) (omega (arith, at.reserved));
  room = omega (arith, at.reserved, at.within);
}

-- ---- room for a reply
pub room_after : (messages : List Message) (again : Bool) (room : ℕ) (v : Verdict) (request : Request) → slice_get messages 0 ≡ Some (message.Request request) → fall_of again v ≡ Handle
    → requests_in messages ≤ room + handled_in again messages → 0 < (queue_after (record { messages = messages; again = again; room = room }) v).room
room_after [] again room v request e handle low = absurd (cc e)
room_after (message.Reply reply ∷ rest) again room v request e handle low = absurd (cc e)
room_after (message.Request r ∷ rest) true room v request e handle low = omega arith
room_after (message.Request r ∷ rest) false room verdict.Deliver request e handle low = omega arith
room_after (message.Request r ∷ rest) false room verdict.Twice request e handle low = omega (arith, low)
room_after (message.Request r ∷ rest) false room verdict.Lose request e handle low = absurd (cc handle)
room_after (message.Request r ∷ rest) false room verdict.Late request e handle low = absurd (cc handle)
room_after (message.Request r ∷ rest) false room verdict.Hold request e handle low = absurd (cc handle)

pub has_room : {V : Type 0} (desks : List (DeskView V)) (flow : FlowView) (id : ℕ) (caller : Caller) (left : ℕ) (v : Verdict) → IsTurnOpenAt desks flow id caller left → fall_of (queue_at flow id).again v ≡ Handle
    → (request : Request) → slice_get (queue_at flow id).messages 0 ≡ Some (message.Request request) → 0 < (queue_at (taken flow id v) id).room
has_room desks flow id caller left v at handle request waits =
    subst (λ (q : QueueView). 0 < q.room) (sym (taken_own flow id v waits)) (room_after (queue_at flow id).messages (queue_at flow id).again (queue_at flow id).room v request waits handle at.replies)

-- ---- a world from inside
pub record IsTurning {S V : Type 0} (now : View S V) (last_proposer : ℕ) (council : Council) (acceptors : List (AcceptorView S)) (desks : List (DeskView V)) (callers : List Caller) (flow : FlowView) (book : Book) (id : ℕ) : Type 0 where
  pub caller : Caller
  pub at_caller : IsAt callers id caller
  pub is_open : IsTurnOpenAt desks flow id caller book.room

pub turning : {S V : Type 0} {m : Meaning S V} (now : View S V) (last_proposer : ℕ) (council : Council) (acceptors : List (AcceptorView S)) (desks : List (DeskView V)) (callers : List Caller) (flow : FlowView) (book : Book) (id : ℕ)
    → view_of last_proposer council acceptors desks callers flow book ≡ now → IsWorld m (view_of last_proposer council acceptors desks callers flow book) callers book.room → id ≤ now.last_proposer → (queue_at now.flow id).messages ≢ []
    → IsTurning now last_proposer council acceptors desks callers flow book id
turning {S} {V} {m} now last_proposer council acceptors desks callers flow book id same inv low some =
    let within : id ≤ last_proposer = omega (arith, low, ap (λ (v : View S V). v.last_proposer) same) in
    let waits : (queue_at flow id).messages ≢ [] = λ none. some (ap (λ (v : View S V). (queue_at v.flow id).messages) (sym same) ∙ none) in
    let there = at_low callers id (omega (arith, within, inv.safe.sound.callers, length-map callers caller_view)) in
    record {
      caller = there.0;
      at_caller = there.1;
      is_open = open_at last_proposer council acceptors desks callers flow book id there.0 inv within waits there.1;
    }

-- what was read at its place is its caller
pub open_in : {S V : Type 0} (now : View S V) (last_proposer : ℕ) (council : Council) (acceptors : List (AcceptorView S)) (desks : List (DeskView V)) (callers : List Caller) (flow : FlowView) (book : Book) (id n : ℕ) (caller : Caller)
    → IsTurning now last_proposer council acceptors desks callers flow book id → n ≡ id → caller ≡ slice_index_or callers n caller → IsTurnOpenAt desks flow id caller book.room
open_in now last_proposer council acceptors desks callers flow book id n caller at same read =
    let there : IsAt callers id caller = at_place callers n id caller same (low_at callers id at.at_caller) read in
    subst (λ (c : Caller). IsTurnOpenAt desks flow id c book.room) (at_one callers id at.at_caller there) at.is_open

pub place_in : {S V : Type 0} (now : View S V) (last_proposer : ℕ) (council : Council) (acceptors : List (AcceptorView S)) (desks : List (DeskView V)) (callers : List Caller) (flow : FlowView) (book : Book) (id n : ℕ) (caller : Caller)
    → IsTurning now last_proposer council acceptors desks callers flow book id → n ≡ id → caller ≡ slice_index_or callers n caller → IsAt callers id caller
place_in now last_proposer council acceptors desks callers flow book id n caller at same read = at_place callers n id caller same (low_at callers id at.at_caller) read

pub desk_in : {S V : Type 0} (now : View S V) (last_proposer : ℕ) (council : Council) (acceptors : List (AcceptorView S)) (desks : List (DeskView V)) (callers : List Caller) (flow : FlowView) (book : Book) (id n : ℕ) (desk : DeskView V)
    → IsTurning now last_proposer council acceptors desks callers flow book id → n ≡ id → desk ≡ slice_index_or desks n desk → IsAt desks id desk
desk_in now last_proposer council acceptors desks callers flow book id n desk at same read = at_place desks n id desk same (low_at desks id at.is_open.at_desk) read

-- ---- the view of what a caller does
harm_by : (b : Bool) (call : OpenCall) (acceptor : ℕ)
    → call_view (if b then record call { told = None } else record call { told = None; harmed = with_member call.harmed acceptor; reserved = call.reserved - 1 })
    ≡ record (call_view call) { told = None; harmed = if b then call.harmed else with_member call.harmed acceptor; reserved = if b then call.reserved else call.reserved - 1 }
harm_by true call acceptor = refl
harm_by false call acceptor = refl

harm_seen : (call : OpenCall) (acceptor : ℕ) → call_view (harmed_by call acceptor) ≡ frames.harmed_by (call_view call) acceptor
harm_seen call acceptor = harm_by (has_member call.harmed acceptor) call acceptor

view_next : {S V : Type 0} (last_proposer : ℕ) (council : Council) (acceptors : List (AcceptorView S)) (desks : List (DeskView V)) (callers : List Caller) (flow : FlowView) (before after : Book) (id : ℕ) (caller caller_now : Caller) (next : OpenCall) (seen : CallView) (marks : List Mark)
    → caller_now ≡ record caller { call = Some next } → call_view next ≡ seen → after.marks ≡ before.marks ++ marks
    → view_of last_proposer council acceptors desks (slice_set callers id caller_now) flow after ≡ with_marks (with_call (view_of last_proposer council acceptors desks callers flow before) id (caller_view caller) seen) marks
view_next {S} {V} last_proposer council acceptors desks callers flow before after id caller caller_now next seen marks same is made =
    let v : View S V = view_of last_proposer council acceptors desks callers flow before in
    let callers_seen : map caller_view (slice_set callers id caller_now) ≡ slice_set (map caller_view callers) id (record (caller_view caller) { call = Some seen }) =
    map-set caller_view callers id caller_now ∙ ap (λ (c : CallerView). slice_set (map caller_view callers) id c) (ap caller_view same ∙ ap (λ (s : CallView). record (caller_view caller) { call = Some s }) is) in
    ap (λ (cs : List CallerView). record v { callers = cs; marks = after.marks }) callers_seen
    ∙ ap (λ (ms : List Mark). record v { callers = slice_set (map caller_view callers) id (record (caller_view caller) { call = Some seen }); marks = ms }) made

-- ---- steps
abbrev pub call_at : {S V : Type 0} (last_proposer : ℕ) (council : Council) (acceptors : List (AcceptorView S)) (desks : List (DeskView V)) (callers : List Caller) (flow : FlowView) (book : Book) (id : ℕ) (caller : Caller) (call : OpenCall)
    → IsAt callers id caller → caller.call ≡ Some call → OpenCallAt (view_of last_proposer council acceptors desks callers flow book) id
call_at last_proposer council acceptors desks callers flow book id caller call at is_call = record {
  caller = caller_view caller;
  at_caller = seen_at callers id caller at;
  call = call_view call;
  is_open = ap (λ (o : Option OpenCall). option_map call_view o) is_call;
}

-- the frame stays
pub holds : {S V : Type 0} (m : Meaning S V) (now : View S V) (last_proposer : ℕ) (council : Council) (acceptors : List (AcceptorView S)) (desks : List (DeskView V)) (callers : List Caller) (flow : FlowView) (book : Book) (id : ℕ) (v : Verdict)
    → IsTurning now last_proposer council acceptors desks callers flow book id → fall_of (queue_at flow id).again v ≡ Held
    → StepTurn m (view_of last_proposer council acceptors desks callers flow book) id v (view_of last_proposer council acceptors desks callers flow book)
holds m now last_proposer council acceptors desks callers flow book id v at fall = record {
  of_call = call_at last_proposer council acceptors desks callers flow book id at.caller at.is_open.call at.at_caller at.is_open.is_call;
  front = at.is_open.front;
  waits = at.is_open.waits;
  turn = frames.held fall refl;
}

-- it is lost or late
pub loses : {S V : Type 0} (m : Meaning S V) (now : View S V) (last_proposer : ℕ) (council : Council) (acceptors : List (AcceptorView S)) (desks : List (DeskView V)) (callers : List Caller) (flow flow_now : FlowView) (before after : Book) (id : ℕ) (v : Verdict) (caller caller_now : Caller)
    → IsAt callers id caller → IsTurnOpenAt desks flow id caller before.room → fall_of (queue_at flow id).again v ≡ Gone → flow_now ≡ taken flow id v
    → ((front : Message) → slice_get (queue_at flow id).messages 0 ≡ Some front → Harms id caller caller_now before after (head_of front).1 false)
    → StepTurn m (view_of last_proposer council acceptors desks callers flow before) id v (view_of last_proposer council acceptors desks (slice_set callers id caller_now) flow_now after)
loses {S} {V} m now last_proposer council acceptors desks callers flow flow_now before after id v caller caller_now at is_open fall takes harms =
    let by = harms is_open.front is_open.waits in
    record {
      of_call = call_at last_proposer council acceptors desks callers flow before id caller by.call at by.was_open;
      front = is_open.front;
      waits = is_open.waits;
      turn = frames.gone fall (ap (λ (f : FlowView). view_of last_proposer council acceptors desks (slice_set callers id caller_now) f after) takes
          ∙ view_next last_proposer council acceptors desks callers (taken flow id v) before after id caller caller_now (harmed_by by.call (head_of is_open.front).1) (frames.harmed_by (call_view by.call) (head_of is_open.front).1)
          (harms_marked id caller.number by.call (head_of is_open.front).1 false) by.caller (harm_seen by.call (head_of is_open.front).1) by.made);
    }

-- ---- what is kept true
abbrev CopiesBy : Round → Option Outcome → Option Copies → Type 0
CopiesBy round proposed held = is_preparing round.phase ≡ false → IfSome proposed (λ outcome. (copies : Copies) × (held ≡ Some copies)
    × (copies.key ≡ round.key) × (copies.told ≡ outcome.state) × (copies.answer ≡ outcome.state) × (copies.kept ≡ outcome.state))

-- copies that stay are enough where the proposal stays
copies_next : (round : Option Round) (a b : OpenCall) → b.proposed ≡ a.proposed → b.copies ≡ a.copies → HasCopies round (Some a) → HasCopies round (Some b)
copies_next None a b proposed copies has = has
copies_next (Some round) a b proposed copies has =
    subst (λ (o : Option Outcome). CopiesBy round o b.copies) (sym proposed) (subst (λ (k : Option Copies). CopiesBy round a.proposed k) (sym copies) has)

copies_none : (round : Option Round) → HasCopies round None
copies_none None = tt
copies_none (Some round) = tt

abbrev pub KeepsCopies : Option Round → Option Round → Type 0
KeepsCopies old new = (call : OpenCall) → HasCopies old (Some call) → HasCopies new (Some call)

pub keeps_any : (old new : Option Round) → KeepsCopies old new → (call : Option OpenCall) → HasCopies old call → HasCopies new call
keeps_any old new keeps None has = copies_none new
keeps_any old new keeps (Some call) has = keeps call has

-- each desk was there, and its round needs no other copies
abbrev pub KeepsDesks : {V : Type 0} → List (DeskView V) → List (DeskView V) → Type 0
KeepsDesks {V} old new = (p : ℕ) (d : DeskView V) → IsAt new p d → (was : DeskView V) × IsAt old p was × KeepsCopies was.round d.round

pub desks_stay : {V : Type 0} (desks : List (DeskView V)) → KeepsDesks desks desks
desks_stay desks p d at = (d, at, λ call has. has)

next_copies : {V : Type 0} (desks desks_now : List (DeskView V)) (callers : List Caller) (id : ℕ) (caller caller_now : Caller) (call next : OpenCall)
    → ((p : ℕ) (d : DeskView V) (c : Caller) → IsAt desks p d → IsAt callers p c → HasCopies d.round c.call) → KeepsDesks desks desks_now → IsAt callers id caller → caller.call ≡ Some call → caller_now.call ≡ Some next
    → next.proposed ≡ call.proposed → next.copies ≡ call.copies
    → (p : ℕ) (d : DeskView V) (c : Caller) → IsAt desks_now p d → IsAt (slice_set callers id caller_now) p c → HasCopies d.round c.call
next_copies {V} desks desks_now callers id caller caller_now call next copies keeps at was_call is_next proposed kept p d c at_d at_c =
    let was = keeps p d at_d in
    elim (but_set callers id caller_now p c at_c) [
      | inl own ↦
          let had = copies p was.0 caller was.1 (subst (λ (i : ℕ). IsAt callers i caller) (sym own.0) at) in
          let has = was.2 call (subst (λ (o : Option OpenCall). HasCopies was.0.round o) was_call had) in
          subst (λ (o : Option OpenCall). HasCopies d.round o) (sym (ap (λ (x : Caller). x.call) own.1 ∙ is_next)) (copies_next d.round call next proposed kept has)
      | inr other ↦ keeps_any was.0.round d.round was.2 c.call (copies p was.0 c was.1 other.1)
    ]

-- a world whose caller went on, with the marks that it made, is kept true where it is safe
pub next_world : {S V : Type 0} {m : Meaning S V} (last_proposer : ℕ) (council : Council) (acceptors acceptors_now : List (AcceptorView S)) (desks desks_now : List (DeskView V)) (callers : List Caller) (flow flow_now : FlowView) (before after : Book) (id : ℕ) (caller caller_now : Caller)
    (next : OpenCall → OpenCall) (marks : OpenCall → List Mark) → IsWorld m (view_of last_proposer council acceptors desks callers flow before) callers before.room → IsAt callers id caller → (by : MakesInRoom caller caller_now before after next marks)
    → (next by.call).reserved + length (marks by.call) ≡ by.call.reserved → (next by.call).proposed ≡ by.call.proposed → (next by.call).copies ≡ by.call.copies → KeepsDesks desks desks_now
    → IsSafe (view_of last_proposer council acceptors_now desks_now (slice_set callers id caller_now) flow_now after)
    → Remembers m (view_of last_proposer council acceptors_now desks_now (slice_set callers id caller_now) flow_now after)
    → IsWorld m (view_of last_proposer council acceptors_now desks_now (slice_set callers id caller_now) flow_now after) (slice_set callers id caller_now) after.room
next_world last_proposer council acceptors acceptors_now desks desks_now callers flow flow_now before after id caller caller_now next marks inv at by reserves proposed copies keeps safe remembered =
    let moved = ap reserved_of (map-set caller_view callers id caller_now) in
    let had : reserved_in (caller_view caller).call ≡ by.call.reserved = ap (λ (o : Option OpenCall). reserved_in (option_map call_view o)) by.was_open in
    let has : reserved_in (caller_view caller_now).call ≡ (next by.call).reserved = ap (λ (c : Caller). reserved_in (option_map call_view c.call)) by.caller in
    record {
      safe = safe;
      room = omega (arith, moved, reserved_set (map caller_view callers) id (caller_view caller) (caller_view caller_now) (seen_at callers id caller at), had, has, reserves, by.room, inv.room);
      copies = next_copies desks desks_now callers id caller caller_now by.call (next by.call) inv.copies keeps at by.was_open (ap (λ (c : Caller). c.call) by.caller) proposed copies;
      remembered = remembered;
    }

-- ---- harm
abbrev HarmedSo : Bool → OpenCall → ℕ → OpenCall
HarmedSo b call acceptor = if b then record call { told = None } else record call { told = None; harmed = with_member call.harmed acceptor; reserved = call.reserved - 1 }

harm_so : (b : Bool) (call : OpenCall) (acceptor : ℕ) (mark : Mark) → 2 ≤ call.reserved
    → ((HarmedSo b call acceptor).reserved + length (if b then [] else mark ∷ []) ≡ call.reserved) × ((HarmedSo b call acceptor).proposed ≡ call.proposed) × ((HarmedSo b call acceptor).copies ≡ call.copies)
harm_so true call acceptor mark some = (omega arith, refl, refl)
harm_so false call acceptor mark some = (omega (arith, some), refl, refl)

pub harm_kept : {S V : Type 0} {m : Meaning S V} (last_proposer : ℕ) (council : Council) (acceptors acceptors_now : List (AcceptorView S)) (desks : List (DeskView V)) (callers : List Caller) (flow flow_now : FlowView) (before after : Book) (id : ℕ) (caller caller_now : Caller) (acceptor : ℕ) (down : Bool)
    → IsWorld m (view_of last_proposer council acceptors desks callers flow before) callers before.room → IsAt callers id caller → IsTurnOpenAt desks flow id caller before.room → Harms id caller caller_now before after acceptor down
    → IsSafe (view_of last_proposer council acceptors_now desks (slice_set callers id caller_now) flow_now after)
    → Remembers m (view_of last_proposer council acceptors_now desks (slice_set callers id caller_now) flow_now after)
    → IsWorld m (view_of last_proposer council acceptors_now desks (slice_set callers id caller_now) flow_now after) (slice_set callers id caller_now) after.room
harm_kept last_proposer council acceptors acceptors_now desks callers flow flow_now before after id caller caller_now acceptor down inv at is_open by safe remembered =
    let same : is_open.call.reserved ≡ by.call.reserved = ap (λ (c : OpenCall). c.reserved) (some_is (sym is_open.is_call ∙ by.was_open)) in
    let so = harm_so (has_member by.call.harmed acceptor) by.call acceptor (Harmed id caller.number down) (omega (arith, same, is_open.reserved)) in
    next_world last_proposer council acceptors acceptors_now desks desks callers flow flow_now before after id caller caller_now (λ call. harmed_by call acceptor) (λ call. harms_marked id caller.number call acceptor down) inv at by so.0 so.1 so.2 (desks_stay desks) safe remembered

-- ---- what is handled
pub parts_same : {S V : Type 0} (last_proposer : ℕ) (council : Council) {acceptors a : List (AcceptorView S)} {desks d : List (DeskView V)} (callers : List Caller) {flow f : FlowView} (book : Book)
    → acceptors ≡ a → desks ≡ d → flow ≡ f → view_of last_proposer council acceptors desks callers flow book ≡ view_of last_proposer council a d callers f book
parts_same {S} {V} last_proposer council {acceptors} {a} {desks} {d} callers {flow} {f} book same_a same_d same_f =
    ap (λ (x : List (AcceptorView S)). view_of last_proposer council x desks callers flow book) same_a
    ∙ ap (λ (x : List (DeskView V)). view_of last_proposer council a x callers flow book) same_d
    ∙ ap (λ (x : FlowView). view_of last_proposer council a d callers x book) same_f

-- the desk's open round
round_at : {V : Type 0} (desks : List (DeskView V)) (flow : FlowView) (id : ℕ) (caller : Caller) (left : ℕ) (desk : DeskView V) (at : IsTurnOpenAt desks flow id caller left) → IsAt desks id desk → desk.round ≡ Some at.round
round_at {V} desks flow id caller left desk at there = ap (λ (d : DeskView V). d.round) (at_one desks id there at.at_desk) ∙ at.is_round

pub handles : {S V : Type 0} (m : Meaning S V) (last_proposer : ℕ) (council : Council) (acceptors acceptors_now : List (AcceptorView S)) (desks : List (DeskView V)) (desk desk_now : DeskView V) (callers : List Caller) (flow flow_now : FlowView) (before after : Book) (id : ℕ) (v : Verdict) (caller caller_now : Caller)
    → IsAt desks id desk → IsAt callers id caller → IsTurnOpenAt desks flow id caller before.room → fall_of (queue_at flow id).again v ≡ Handle
    → HandlesFrame m.shelves id v acceptors acceptors_now desk desk_now caller caller_now flow flow_now before after
    → StepTurn m (view_of last_proposer council acceptors desks callers flow before) id v (view_of last_proposer council acceptors_now (slice_set desks id desk_now) (slice_set callers id caller_now) flow_now after)
handles {S} {V} m last_proposer council acceptors acceptors_now desks desk desk_now callers flow flow_now before after id v caller caller_now at_desk at is_open fall (asks request waits (is_answered acceptor acceptor_now reply there table changed flows makes) same_desk) = record {
  of_call = call_at last_proposer council acceptors desks callers flow before id caller makes.call at makes.was_open;
  front = message.Request request;
  waits = waits;
  turn = frames.answers request acceptor acceptor_now reply fall refl there table
      (parts_same last_proposer council (slice_set callers id caller_now) after changed (ap (λ (d : DeskView V). slice_set desks id d) same_desk ∙ set_same desks id desk at_desk) flows
      ∙ view_next last_proposer council (slice_set acceptors request.to acceptor_now) desks callers (frames.replied_flow flow id v reply) before after id caller caller_now (marking (frames.votes_marked request reply) makes.call)
      (frames.marking (call_view makes.call) (length (frames.votes_marked request reply))) (frames.votes_marked request reply) makes.caller refl makes.made);
}
handles {S} {V} m last_proposer council acceptors acceptors_now desks desk desk_now callers flow flow_now before after id v caller caller_now at_desk at is_open fall (asks request waits (is_down (was_down acceptor there down still) flows makes) same_desk) = record {
  of_call = call_at last_proposer council acceptors desks callers flow before id caller makes.call at makes.was_open;
  front = message.Request request;
  waits = waits;
  turn = frames.finds_down request acceptor fall refl there down
      (parts_same last_proposer council (slice_set callers id caller_now) after still (ap (λ (d : DeskView V). slice_set desks id d) same_desk ∙ set_same desks id desk at_desk) flows
      ∙ view_next last_proposer council acceptors desks callers (taken flow id v) before after id caller caller_now (harmed_by makes.call request.to) (frames.harmed_by (call_view makes.call) request.to)
      (harms_marked id caller.number makes.call request.to true) makes.caller (harm_seen makes.call request.to) makes.made);
}
handles {S} {V} m last_proposer council acceptors acceptors_now desks desk desk_now callers flow flow_now before after id v caller caller_now at_desk at is_open fall (asks request waits (is_down (goes_down acceptor acceptor_now there stops changed) flows makes) same_desk) = record {
  of_call = call_at last_proposer council acceptors desks callers flow before id caller makes.call at makes.was_open;
  front = message.Request request;
  waits = waits;
  turn = frames.brings_down request acceptor acceptor_now fall refl there stops
      (parts_same last_proposer council (slice_set callers id caller_now) after changed (ap (λ (d : DeskView V). slice_set desks id d) same_desk ∙ set_same desks id desk at_desk) flows
      ∙ view_next last_proposer council (slice_set acceptors request.to acceptor_now) desks callers (taken flow id v) before after id caller caller_now (harmed_by makes.call request.to) (frames.harmed_by (call_view makes.call) request.to)
      (harms_marked id caller.number makes.call request.to true) makes.caller (harm_seen makes.call request.to) makes.made);
}
handles {S} {V} m last_proposer council acceptors acceptors_now desks desk desk_now callers flow flow_now before after id v caller caller_now at_desk at is_open fall (arrives reply waits comes makes still flows) =
    let is_round = round_at desks flow id caller before.room desk is_open at_desk in
    let heard = some_and desk_now.round _ (comes.heard is_open.round is_round) in
    record {
      of_call = call_at last_proposer council acceptors desks callers flow before id caller makes.call at makes.was_open;
      front = message.Reply reply;
      waits = waits;
      turn = frames.arrives reply desk desk_now is_open.round heard.0 fall refl at_desk is_round (record { hears = heard.2; desk = comes.desk ∙ ap (λ (r : Option Round). record desk { round = r }) heard.1 })
          (parts_same last_proposer council (slice_set callers id caller_now) after still refl flows
          ∙ view_next last_proposer council acceptors (slice_set desks id desk_now) callers (taken flow id v) before after id caller caller_now (silent makes.call) (frames.silent (call_view makes.call)) [] makes.caller refl makes.made
          ∙ ap (λ (ms : List Mark). record (with_call (view_of last_proposer council acceptors (slice_set desks id desk_now) callers (taken flow id v) before) id (caller_view caller) (frames.silent (call_view makes.call))) { marks = ms }) (append-nil before.marks));
    }

-- ---- what is kept true as a frame is handled
pub desks_set : {V : Type 0} (desks : List (DeskView V)) (id : ℕ) (desk desk_now : DeskView V) → IsAt desks id desk → KeepsCopies desk.round desk_now.round → KeepsDesks desks (slice_set desks id desk_now)
desks_set {V} desks id desk desk_now at keeps p d at_d = elim (but_set desks id desk_now p d at_d) [
  | inl own ↦ (desk, subst (λ (i : ℕ). IsAt desks i desk) (sym own.0) at, subst (λ (x : DeskView V). KeepsCopies desk.round x.round) (sym own.1) keeps)
  | inr other ↦ (d, other.1, λ call has. has)
]

-- a reply changes nothing of what an open round needs
pub hears_keep : (round heard : Round) (reply : Reply) → Hears round reply heard → KeepsCopies (Some round) (Some heard)
hears_keep round heard reply by call has = λ accepting.
    subst (λ (key : List ℕ). IfSome call.proposed (λ outcome. (copies : Copies) × (call.copies ≡ Some copies) × (copies.key ≡ key) × (copies.told ≡ outcome.state) × (copies.answer ≡ outcome.state) × (copies.kept ≡ outcome.state)))
    (sym (ap (λ (r : Round). r.key) by.same)) (has (sym by.same_phase ∙ accepting))

pub handled_kept : {S V : Type 0} {w : Meaning S V} (m : ShelfMeaning S) (last_proposer : ℕ) (council : Council) (acceptors acceptors_now : List (AcceptorView S)) (desks : List (DeskView V)) (desk desk_now : DeskView V) (callers : List Caller) (flow flow_now : FlowView) (before after : Book) (id : ℕ) (v : Verdict) (caller caller_now : Caller)
    → IsWorld w (view_of last_proposer council acceptors desks callers flow before) callers before.room → IsAt desks id desk → IsAt callers id caller → IsTurnOpenAt desks flow id caller before.room
    → HandlesFrame m id v acceptors acceptors_now desk desk_now caller caller_now flow flow_now before after
    → IsSafe (view_of last_proposer council acceptors_now (slice_set desks id desk_now) (slice_set callers id caller_now) flow_now after)
    → Remembers w (view_of last_proposer council acceptors_now (slice_set desks id desk_now) (slice_set callers id caller_now) flow_now after)
    → IsWorld w (view_of last_proposer council acceptors_now (slice_set desks id desk_now) (slice_set callers id caller_now) flow_now after) (slice_set callers id caller_now) after.room
handled_kept {S} {V} {w} m last_proposer council acceptors acceptors_now desks desk desk_now callers flow flow_now before after id v caller caller_now inv at_desk at is_open (asks request waits (is_answered acceptor acceptor_now reply there table changed flows makes) same_desk) safe remembered =
    let same : is_open.call.reserved ≡ makes.call.reserved = ap (λ (c : OpenCall). c.reserved) (some_is (sym is_open.is_call ∙ makes.was_open)) in
    next_world last_proposer council acceptors acceptors_now desks (slice_set desks id desk_now) callers flow flow_now before after id caller caller_now (marking (frames.votes_marked request reply)) (λ call. frames.votes_marked request reply) inv at makes
    (omega (arith, same, is_open.reserved, votes_few request reply)) refl refl
    (desks_set desks id desk desk_now at_desk (subst (λ (x : DeskView V). KeepsCopies desk.round x.round) (sym same_desk) (λ call has. has))) safe remembered
handled_kept {S} {V} {w} m last_proposer council acceptors acceptors_now desks desk desk_now callers flow flow_now before after id v caller caller_now inv at_desk at is_open (asks request waits (is_down fell flows makes) same_desk) safe remembered =
    let same : is_open.call.reserved ≡ makes.call.reserved = ap (λ (c : OpenCall). c.reserved) (some_is (sym is_open.is_call ∙ makes.was_open)) in
    let so = harm_so (has_member makes.call.harmed request.to) makes.call request.to (Harmed id caller.number true) (omega (arith, same, is_open.reserved)) in
    next_world last_proposer council acceptors acceptors_now desks (slice_set desks id desk_now) callers flow flow_now before after id caller caller_now (λ call. harmed_by call request.to) (λ call. harms_marked id caller.number call request.to true) inv at makes so.0 so.1 so.2
    (desks_set desks id desk desk_now at_desk (subst (λ (x : DeskView V). KeepsCopies desk.round x.round) (sym same_desk) (λ call has. has))) safe remembered
handled_kept {S} {V} {w} m last_proposer council acceptors acceptors_now desks desk desk_now callers flow flow_now before after id v caller caller_now inv at_desk at is_open (arrives reply waits comes makes still flows) safe remembered =
    let is_round = round_at desks flow id caller before.room desk is_open at_desk in
    let heard = some_and desk_now.round _ (comes.heard is_open.round is_round) in
    let keeps : KeepsCopies desk.round desk_now.round = subst (λ (r : Option Round). KeepsCopies r desk_now.round) (sym is_round) (subst (λ (r : Option Round). KeepsCopies (Some is_open.round) r) (sym heard.1) (hears_keep is_open.round heard.0 reply heard.2)) in
    next_world last_proposer council acceptors acceptors_now desks (slice_set desks id desk_now) callers flow flow_now before after id caller caller_now silent (λ call. []) inv at makes (omega arith) refl refl
    (desks_set desks id desk desk_now at_desk keeps) safe remembered

-- ---- no memory
abbrev pub told_full : OpenCall → OpenCall
told_full call = record call { told = Some (answer.NoMemory (is_some call.proposed)) }

pub find_no_room : {S V : Type 0} (m : Meaning S V) (last_proposer : ℕ) (council : Council) (acceptors acceptors_now : List (AcceptorView S)) (desks : List (DeskView V)) (callers : List Caller) (flow : FlowView) (book : Book)
    → KeepsAll m.shelves acceptors acceptors_now → frames.FindsNoRoom m (view_of last_proposer council acceptors desks callers flow book) (view_of last_proposer council acceptors_now desks callers flow book)
find_no_room {S} m last_proposer council acceptors acceptors_now desks callers flow book (nothing_asked same) = frames.stays (ap (λ (x : List (AcceptorView S)). view_of last_proposer council x desks callers flow book) same)
find_no_room {S} m last_proposer council acceptors acceptors_now desks callers flow book (was_kept id acceptor after at finds same) =
    frames.kept id acceptor after at finds (ap (λ (x : List (AcceptorView S)). view_of last_proposer council x desks callers flow book) same)

pub refuses : {S V : Type 0} (m : Meaning S V) (last_proposer : ℕ) (council : Council) (acceptors acceptors_now : List (AcceptorView S)) (desks : List (DeskView V)) (callers : List Caller) (flow : FlowView) (book : Book) (id : ℕ) (caller caller_now : Caller) (call : OpenCall)
    → IsAt callers id caller → caller.call ≡ Some call → caller_now ≡ record caller { call = Some (told_full call) } → KeepsAll m.shelves acceptors acceptors_now
    → StepRefuseTurn m (view_of last_proposer council acceptors desks callers flow book) id (view_of last_proposer council acceptors_now desks (slice_set callers id caller_now) flow book)
refuses {S} {V} m last_proposer council acceptors acceptors_now desks callers flow book id caller caller_now call at is_call told keeps = record {
  of_call = call_at last_proposer council acceptors desks callers flow book id caller call at is_call;
  middle = view_of last_proposer council acceptors_now desks callers flow book;
  refuses = find_no_room m last_proposer council acceptors acceptors_now desks callers flow book keeps;
  view = view_next last_proposer council acceptors_now desks callers flow book book id caller caller_now (told_full call) (telling (call_view call) (answer.NoMemory (is_some call.proposed))) [] told refl (sym (append-nil book.marks))
      ∙ ap (λ (ms : List Mark). record (with_call (view_of last_proposer council acceptors_now desks callers flow book) id (caller_view caller) (telling (call_view call) (answer.NoMemory (is_some call.proposed)))) { marks = ms }) (append-nil book.marks);
}

-- the caller that is told is the one that was there
pub told_caller : (callers : List Caller) (n id : ℕ) (caller caller_now who : Caller) → IsAt callers id caller → n ≡ id → caller_now ≡ caller → who ≡ slice_index_or (slice_set callers n caller_now) n who → who ≡ caller
told_caller callers n id caller caller_now who at same still read =
    let there : IsAt (slice_set callers n caller_now) id caller_now = subst (λ (i : ℕ). IsAt (slice_set callers i caller_now) id caller_now) (sym same) (at_set callers id caller caller_now at) in
    at_one (slice_set callers n caller_now) id (at_place (slice_set callers n caller_now) n id who same (low_at (slice_set callers n caller_now) id there) read) there ∙ still

pub may_tell : {V : Type 0} (desks : List (DeskView V)) (flow : FlowView) (id : ℕ) (caller who : Caller) (left : ℕ) → IsTurnOpenAt desks flow id caller left → who ≡ caller → IsSome who.call
may_tell desks flow id caller who left at same = subst (λ (o : Option OpenCall). IsSome o) (sym (ap (λ (c : Caller). c.call) same ∙ at.is_call)) refl

-- nothing but what the caller is told changes
pub record IsTurnRefused {V : Type 0} (desks : List (DeskView V)) (desk desk_now : DeskView V) (callers : List Caller) (flow flow_now : FlowView) (before after : Book) (id n : ℕ) (caller caller_now who told : Caller) : Type 0 where
  pub at_desk : IsAt desks id desk
  pub at_caller : IsAt callers id caller
  pub is_open : IsTurnOpenAt desks flow id caller before.room
  pub place : n ≡ id
  pub same_who : who ≡ caller
  pub same_desk : desk_now ≡ desk
  pub same_caller : caller_now ≡ caller
  pub same_flow : flow_now ≡ flow
  pub same_book : after ≡ before
  pub tells : IfSome who.call (λ call. told ≡ record who { call = Some (told_full call) })

put_back : {A : Type 0} (xs : List A) (n id : ℕ) (x y : A) → IsAt xs id x → n ≡ id → y ≡ x → slice_set xs n y ≡ xs
put_back {A} xs n id x y at same still = ap (λ (i : ℕ). slice_set xs i y) same ∙ ap (λ (z : A). slice_set xs id z) still ∙ set_same xs id x at

is_told : {V : Type 0} (desks : List (DeskView V)) (desk desk_now : DeskView V) (callers : List Caller) (flow flow_now : FlowView) (before after : Book) (id n : ℕ) (caller caller_now who told : Caller)
    → (by : IsTurnRefused desks desk desk_now callers flow flow_now before after id n caller caller_now who told) → told ≡ record caller { call = Some (told_full by.is_open.call) }
is_told desks desk desk_now callers flow flow_now before after id n caller caller_now who told by =
    subst (λ (o : Option OpenCall). IfSome o (λ call. told ≡ record who { call = Some (told_full call) })) (ap (λ (c : Caller). c.call) by.same_who ∙ by.is_open.is_call) by.tells
    ∙ ap (λ (c : Caller). record c { call = Some (told_full by.is_open.call) }) by.same_who

-- in lists as they were
pub refused : {V : Type 0} (P : List (DeskView V) → List Caller → FlowView → Book → Type 0) (desks : List (DeskView V)) (desk desk_now : DeskView V) (callers : List Caller) (flow flow_now : FlowView) (before after : Book) (id n : ℕ) (caller caller_now who told : Caller)
    → (by : IsTurnRefused desks desk desk_now callers flow flow_now before after id n caller caller_now who told) → P desks (slice_set callers id told) flow before
    → P (slice_set desks n desk_now) (slice_set (slice_set callers n caller_now) n told) flow_now after
refused {V} P desks desk desk_now callers flow flow_now before after id n caller caller_now who told by has =
    let same_desks = put_back desks n id desk desk_now by.at_desk by.place by.same_desk in
    let same_callers : slice_set (slice_set callers n caller_now) n told ≡ slice_set callers id told =
    ap (λ (cs : List Caller). slice_set cs n told) (put_back callers n id caller caller_now by.at_caller by.place by.same_caller) ∙ ap (λ (i : ℕ). slice_set callers i told) by.place in
    subst (λ (d : List (DeskView V)). P d (slice_set (slice_set callers n caller_now) n told) flow_now after) (sym same_desks)
    (subst (λ (cs : List Caller). P desks cs flow_now after) (sym same_callers)
    (subst (λ (f : FlowView). P desks (slice_set callers id told) f after) (sym by.same_flow)
    (subst (λ (b : Book). P desks (slice_set callers id told) flow b) (sym by.same_book) has)))

pub refused_step : {S V : Type 0} (m : Meaning S V) (last_proposer : ℕ) (council : Council) (acceptors acceptors_now : List (AcceptorView S)) (desks : List (DeskView V)) (desk desk_now : DeskView V) (callers : List Caller) (flow flow_now : FlowView) (before after : Book) (id n : ℕ) (caller caller_now who told : Caller)
    → IsTurnRefused desks desk desk_now callers flow flow_now before after id n caller caller_now who told → KeepsAll m.shelves acceptors acceptors_now
    → StepRefuseTurn m (view_of last_proposer council acceptors desks callers flow before) id (view_of last_proposer council acceptors_now desks (slice_set callers id told) flow before)
refused_step m last_proposer council acceptors acceptors_now desks desk desk_now callers flow flow_now before after id n caller caller_now who told by keeps =
    refuses m last_proposer council acceptors acceptors_now desks callers flow before id caller told by.is_open.call by.at_caller by.is_open.is_call
    (is_told desks desk desk_now callers flow flow_now before after id n caller caller_now who told by) keeps

pub refused_kept : {S V : Type 0} (m : Meaning S V) (last_proposer : ℕ) (council : Council) (acceptors acceptors_now : List (AcceptorView S)) (desks : List (DeskView V)) (desk desk_now : DeskView V) (callers : List Caller) (flow flow_now : FlowView) (before after : Book) (id n : ℕ) (caller caller_now who told : Caller)
    → IsWorld m (view_of last_proposer council acceptors desks callers flow before) callers before.room → IsTurnRefused desks desk desk_now callers flow flow_now before after id n caller caller_now who told
    → IsSafe (view_of last_proposer council acceptors_now desks (slice_set callers id told) flow before)
    → Remembers m (view_of last_proposer council acceptors_now desks (slice_set callers id told) flow before)
    → IsWorld m (view_of last_proposer council acceptors_now desks (slice_set callers id told) flow before) (slice_set callers id told) before.room
refused_kept m last_proposer council acceptors acceptors_now desks desk desk_now callers flow flow_now before after id n caller caller_now who told inv by safe remembered =
    next_world last_proposer council acceptors acceptors_now desks desks callers flow flow before before id caller told told_full (λ call. []) inv by.at_caller
    (record { call = by.is_open.call; was_open = by.is_open.is_call; caller = is_told desks desk desk_now callers flow flow_now before after id n caller caller_now who told by; made = sym (append-nil before.marks); room = omega arith })
    (omega arith) refl refl (desks_stay desks) safe remembered
