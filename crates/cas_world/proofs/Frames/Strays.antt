-- A world as a late frame strays in.
use Rattle.std.proofs.Common.{◌≡◌, ◌≤◌, ◌<◌, ◌+◌, ◌^◌, ℕ, false, List, ◌++◌, Option, None, Some, length, map, sum_by, slice_set, refl, sym, ap, subst, ◌∙◌, arith}
use Rattle.std.specs.Prelude.{is_some}
use Rattle.cas_acceptor.specs.Acceptor.{AcceptorView}
use Rattle.cas_flow.specs.Flow.{FlowView}
use Rattle.cas_flow.specs.declared.message.Message.TheVariants as message
use Rattle.cas_proposer.specs.Desk.{DeskView}
use Rattle.cas_proposer.specs.declared.round.Round.{Round}
use Rattle.cas_record.specs.Book.{Book}
use Rattle.cas_record.specs.declared.mark.Mark.{Mark}
use Rattle.cas_slot.specs.declared.message.Reply.{Reply}
use Rattle.cas_model.specs.Safe.{IsSafe}
use Rattle.cas_model.specs.Step.{StepStray}
use Rattle.cas_model.specs.Calls.Step.{most_marks}
use Rattle.cas_model.specs.Frames.Step as frames
use Rattle.cas_model.specs.View.{Meaning, ShelfMeaning, View, IsAt, reserved_of, reserved_in_all}
use Rattle.cas_model.proofs.Places.{at_one}
use Rattle.cas_model.proofs.Safety.Parts.{low_at}
use Rattle.cas_model.proofs.Stops.Safe.{votes_few}
use Rattle.cas_model.specs.Council.{reserved_by}
use Rattle.cas_world_calls.specs.Council.{council_view}
use Rattle.cas_world_calls.specs.declared.council.Council.{Council}
use Rattle.cas_world_calls.specs.Call as calls
use Rattle.cas_world.specs.Frames.Serve.{KeepsAll, was_down, goes_down}
use Rattle.cas_world.specs.Frames.Stray.{is_answered, is_down, at_desk, nowhere, LetsIn, asks, arrives}
use Rattle.cas_world.specs.Frames.Turn.{Arrives}
use Rattle.cas_world.specs.World.{caller_view, view_of, IsWorld}
use Rattle.cas_world_calls.specs.declared.call.Caller.{Caller}
use Rattle.cas_world.proofs.Parts.{set_same, some_and, Remembers}
use Rattle.cas_world.proofs.Calls.Reserving.{sum_seen}
use Rattle.cas_world.proofs.Frames.Turns.{parts_same, KeepsCopies, KeepsDesks, desks_stay, desks_set, hears_keep, keeps_any, find_no_room}

-- ---- what is reserved
pub reserved_is : (callers read : List Caller) (council : Council) (reserved : ℕ) → read ≡ callers → reserved ≡ sum_by calls.reserved_of read + reserved_by (council_view council) → reserved ≡ reserved_of (map caller_view callers) + reserved_by (council_view council)
reserved_is callers read council reserved same sums = omega (arith, sums, ap (λ (cs : List Caller). sum_by calls.reserved_of cs) same, sum_seen callers)

-- so it fits a number
pub reserved_fits : (callers read : List Caller) (council : Council) → read ≡ callers → reserved_of (map caller_view callers) + reserved_by (council_view council) ≤ most_marks → sum_by calls.reserved_of read + reserved_by (council_view council) < 2 ^ 64
reserved_fits callers read council same few = subst (λ (cs : List Caller). sum_by calls.reserved_of cs + reserved_by (council_view council) < 2 ^ 64) (sym same) (omega (arith, sum_seen callers, few))

-- the marks that are made and those that are reserved
pub counted : {S V : Type 0} {inside now : View S V} (made : List Mark) (reserved : ℕ) → inside ≡ now → made ≡ inside.marks → reserved ≡ reserved_in_all inside → length made + reserved ≡ length now.marks + reserved_in_all now
counted {S} {V} {inside} {now} made reserved same is reserves =
    omega (arith, ap (λ (ms : List Mark). length ms) is, reserves, ap (λ (v : View S V). length v.marks + reserved_in_all v) same)

pub few_counted : {S V : Type 0} {inside now : View S V} → inside ≡ now → IsSafe inside → length now.marks + reserved_in_all now ≤ most_marks
few_counted {S} {V} {inside} {now} same safe = subst (λ (v : View S V). length v.marks + reserved_in_all v ≤ most_marks) same safe.sound.room

-- ---- a reply
none_of : {A : Type 0} (o : Option A) → is_some o ≡ false → o ≡ None
none_of None none = refl
none_of (Some x) none = absurd (cc none)

-- where no round is open the desk stays
none_stays : {V : Type 0} (desk desk_now : DeskView V) (reply : Reply) → desk.round ≡ None → Arrives desk desk_now reply → is_some desk_now.round ≡ is_some desk.round → desk_now ≡ desk
none_stays {V} desk desk_now reply none comes still =
    let none_now : desk_now.round ≡ None = none_of desk_now.round (still ∙ ap (λ (r : Option Round). is_some r) none) in
    comes.desk ∙ ap (λ (r : Option Round). record desk { round = r }) (none_now ∙ sym none)

-- ---- the step
-- the view of these parts, with these marks
parts_are : {S V : Type 0} (last_proposer : ℕ) (council : Council) {acceptors a : List (AcceptorView S)} {desks d : List (DeskView V)} (callers : List Caller) {flow f : FlowView} (before after : Book) {marks : List Mark}
    → acceptors ≡ a → desks ≡ d → flow ≡ f → after.marks ≡ marks → view_of last_proposer council acceptors desks callers flow after ≡ record (view_of last_proposer council a d callers f before) { marks = marks }
parts_are {S} {V} last_proposer council {acceptors} {a} {desks} {d} callers {flow} {f} before after {marks} same_a same_d same_f made =
    parts_same last_proposer council callers after same_a same_d same_f ∙ ap (λ (ms : List Mark). record (view_of last_proposer council a d callers f before) { marks = ms }) made

heard_or_dropped : {S V : Type 0} (m : Meaning S V) (last_proposer : ℕ) (council : Council) (acceptors acceptors_now : List (AcceptorView S)) (desks desks_now : List (DeskView V)) (callers : List Caller) (flow flow_now : FlowView) (before after : Book) (index : ℕ) (reply : Reply)
    (desk desk_now : DeskView V) (round : Option Round) → desk.round ≡ round → IsAt desks reply.to desk → Arrives desk desk_now reply → is_some desk_now.round ≡ is_some desk.round
    → acceptors_now ≡ acceptors → desks_now ≡ slice_set desks reply.to desk_now → flow_now ≡ frames.without_late flow index → after.marks ≡ before.marks
    → frames.Strays m (view_of last_proposer council acceptors desks callers flow before) index (message.Reply reply) (view_of last_proposer council acceptors_now desks_now callers flow_now after)
heard_or_dropped {S} {V} m last_proposer council acceptors acceptors_now desks desks_now callers flow flow_now before after index reply desk desk_now None is there comes still same_acceptors same_desks flows made =
    frames.drops (λ other at. ap (λ (d : DeskView V). d.round) (at_one desks reply.to at there) ∙ is)
    (parts_are last_proposer council callers before after same_acceptors
    (same_desks ∙ ap (λ (d : DeskView V). slice_set desks reply.to d) (none_stays desk desk_now reply is comes still) ∙ set_same desks reply.to desk there) flows made)
heard_or_dropped {S} {V} m last_proposer council acceptors acceptors_now desks desks_now callers flow flow_now before after index reply desk desk_now (Some round) is there comes still same_acceptors same_desks flows made =
    let heard = some_and desk_now.round _ (comes.heard round is) in
    frames.arrives reply desk desk_now round heard.0 refl there is (record { hears = heard.2; desk = comes.desk ∙ ap (λ (r : Option Round). record desk { round = r }) heard.1 })
    (parts_are last_proposer council callers before after same_acceptors same_desks flows made)

pub stray_step : {S V : Type 0} (m : Meaning S V) (last_proposer : ℕ) (council : Council) (acceptors acceptors_now : List (AcceptorView S)) (desks desks_now : List (DeskView V)) (callers : List Caller) (flow flow_now : FlowView) (before after : Book) (index marks peer : ℕ)
    → length before.marks + (reserved_of (map caller_view callers) + reserved_by (council_view council)) < most_marks → LetsIn m.shelves index marks peer acceptors acceptors_now desks desks_now flow flow_now before after
    → StepStray m (view_of last_proposer council acceptors desks callers flow before) index (view_of last_proposer council acceptors_now desks_now callers flow_now after)
stray_step {S} {V} m last_proposer council acceptors acceptors_now desks desks_now callers flow flow_now before after index marks peer room (asks request middle waits same_peer has (is_answered acceptor acceptor_now reply there table changed flows made left) same_desks) = record {
  late = message.Request request;
  waits = waits;
  room = room;
  strays = frames.answers request acceptor acceptor_now reply refl there table
      (parts_are last_proposer council callers before after changed same_desks flows (made ∙ ap (λ (ms : List Mark). ms ++ frames.votes_marked request reply) has.same));
}
stray_step {S} {V} m last_proposer council acceptors acceptors_now desks desks_now callers flow flow_now before after index marks peer room (asks request middle waits same_peer has (is_down (was_down acceptor there down still) flows same_book) same_desks) = record {
  late = message.Request request;
  waits = waits;
  room = room;
  strays = frames.drops (λ other at. ap (λ (a : AcceptorView S). a.down) (at_one acceptors request.to at there) ∙ down)
      (parts_are last_proposer council callers before after still same_desks flows (ap (λ (b : Book). b.marks) same_book ∙ has.same));
}
stray_step {S} {V} m last_proposer council acceptors acceptors_now desks desks_now callers flow flow_now before after index marks peer room (asks request middle waits same_peer has (is_down (goes_down acceptor acceptor_now there stops changed) flows same_book) same_desks) = record {
  late = message.Request request;
  waits = waits;
  room = room;
  strays = frames.brings_down request acceptor acceptor_now refl there stops
      (parts_are last_proposer council callers before after changed same_desks flows (ap (λ (b : Book). b.marks) same_book ∙ has.same));
}
stray_step {S} {V} m last_proposer council acceptors acceptors_now desks desks_now callers flow flow_now before after index marks peer room (arrives reply waits same_peer has (at_desk desk desk_now there comes still changed) same_acceptors flows) = record {
  late = message.Reply reply;
  waits = waits;
  room = room;
  strays = heard_or_dropped m last_proposer council acceptors acceptors_now desks desks_now callers flow flow_now before after index reply desk desk_now desk.round refl there comes still same_acceptors changed flows has.same;
}
stray_step {S} {V} m last_proposer council acceptors acceptors_now desks desks_now callers flow flow_now before after index marks peer room (arrives reply waits same_peer has (nowhere high same_desks) same_acceptors flows) = record {
  late = message.Reply reply;
  waits = waits;
  room = room;
  strays = frames.drops (λ desk at. let no : ⊥ = omega (arith, high, low_at desks reply.to at) in absurd no) (parts_are last_proposer council callers before after same_acceptors same_desks flows has.same);
}

-- ---- what is kept true
-- one mark is made at most
room_left : {S V : Type 0} (m : ShelfMeaning S) (acceptors acceptors_now : List (AcceptorView S)) (desks desks_now : List (DeskView V)) (flow flow_now : FlowView) (before after : Book) (index marks peer : ℕ)
    → LetsIn m index marks peer acceptors acceptors_now desks desks_now flow flow_now before after → marks ≤ after.room + 1
room_left m acceptors acceptors_now desks desks_now flow flow_now before after index marks peer (asks request middle waits same_peer has (is_answered acceptor acceptor_now reply there table changed flows made left) same_desks) =
    omega (arith, has.room, left, votes_few request reply)
room_left m acceptors acceptors_now desks desks_now flow flow_now before after index marks peer (asks request middle waits same_peer has (is_down fell flows same_book) same_desks) =
    omega (arith, has.room, ap (λ (b : Book). b.room) same_book)
room_left m acceptors acceptors_now desks desks_now flow flow_now before after index marks peer (arrives reply waits same_peer has by same_acceptors flows) = omega (arith, has.room)

-- a reply changes nothing of what the round at the desk needs
heard_keeps : {V : Type 0} (desk desk_now : DeskView V) (reply : Reply) (round : Option Round) → desk.round ≡ round → Arrives desk desk_now reply → is_some desk_now.round ≡ is_some desk.round → KeepsCopies round desk_now.round
heard_keeps {V} desk desk_now reply None is comes still =
    let none_now : desk_now.round ≡ None = none_of desk_now.round (still ∙ ap (λ (r : Option Round). is_some r) is) in
    subst (λ (r : Option Round). KeepsCopies None r) (sym none_now) (λ call has. has)
heard_keeps {V} desk desk_now reply (Some round) is comes still =
    let heard = some_and desk_now.round _ (comes.heard round is) in
    subst (λ (r : Option Round). KeepsCopies (Some round) r) (sym heard.1) (hears_keep round heard.0 reply heard.2)

desks_keep : {S V : Type 0} (m : ShelfMeaning S) (acceptors acceptors_now : List (AcceptorView S)) (desks desks_now : List (DeskView V)) (flow flow_now : FlowView) (before after : Book) (index marks peer : ℕ)
    → LetsIn m index marks peer acceptors acceptors_now desks desks_now flow flow_now before after → KeepsDesks desks desks_now
desks_keep {S} {V} m acceptors acceptors_now desks desks_now flow flow_now before after index marks peer (asks request middle waits same_peer has by same_desks) =
    subst (λ (ds : List (DeskView V)). KeepsDesks desks ds) (sym same_desks) (desks_stay desks)
desks_keep {S} {V} m acceptors acceptors_now desks desks_now flow flow_now before after index marks peer (arrives reply waits same_peer has (at_desk desk desk_now there comes still changed) same_acceptors flows) =
    subst (λ (ds : List (DeskView V)). KeepsDesks desks ds) (sym changed) (desks_set desks reply.to desk desk_now there (heard_keeps desk desk_now reply desk.round refl comes still))
desks_keep {S} {V} m acceptors acceptors_now desks desks_now flow flow_now before after index marks peer (arrives reply waits same_peer has (nowhere high same_desks) same_acceptors flows) =
    subst (λ (ds : List (DeskView V)). KeepsDesks desks ds) (sym same_desks) (desks_stay desks)

pub strayed_kept : {S V : Type 0} {w : Meaning S V} (m : ShelfMeaning S) (last_proposer : ℕ) (council : Council) (acceptors acceptors_now : List (AcceptorView S)) (desks desks_now : List (DeskView V)) (callers : List Caller) (flow flow_now : FlowView) (before after : Book) (index marks peer : ℕ)
    → IsWorld w (view_of last_proposer council acceptors desks callers flow before) callers before.room → marks ≡ reserved_of (map caller_view callers) + reserved_by (council_view council) + 1
    → LetsIn m index marks peer acceptors acceptors_now desks desks_now flow flow_now before after
    → IsSafe (view_of last_proposer council acceptors_now desks_now callers flow_now after)
    → Remembers w (view_of last_proposer council acceptors_now desks_now callers flow_now after) → IsWorld w (view_of last_proposer council acceptors_now desks_now callers flow_now after) callers after.room
strayed_kept {S} {V} {w} m last_proposer council acceptors acceptors_now desks desks_now callers flow flow_now before after index marks peer inv reserves by safe remembered = record {
  safe = safe;
  room = omega (arith, reserves, room_left m acceptors acceptors_now desks desks_now flow flow_now before after index marks peer by);
  copies = λ p d c at_d at_c.
      let was = desks_keep m acceptors acceptors_now desks desks_now flow flow_now before after index marks peer by p d at_d in
      keeps_any was.0.round d.round was.2 c.call (inv.copies p was.0 c was.1 at_c);
  remembered = remembered;
}

-- ---- no memory
pub no_room : {S V : Type 0} (m : Meaning S V) (last_proposer : ℕ) (council : Council) (acceptors acceptors_now : List (AcceptorView S)) (desks desks_now : List (DeskView V)) (callers : List Caller) (flow flow_now : FlowView) (before after : Book)
    → KeepsAll m.shelves acceptors acceptors_now → desks_now ≡ desks → flow_now ≡ flow → after.marks ≡ before.marks
    → frames.FindsNoRoom m (view_of last_proposer council acceptors desks callers flow before) (view_of last_proposer council acceptors_now desks_now callers flow_now after)
no_room {S} {V} m last_proposer council acceptors acceptors_now desks desks_now callers flow flow_now before after keeps same_desks same_flow made =
    subst (λ (v : View S V). frames.FindsNoRoom m (view_of last_proposer council acceptors desks callers flow before) v) (sym (parts_are last_proposer council callers before after refl same_desks same_flow made))
    (find_no_room m last_proposer council acceptors acceptors_now desks callers flow before keeps)

pub no_room_kept : {S V : Type 0} {m : Meaning S V} (last_proposer : ℕ) (council : Council) (acceptors acceptors_now : List (AcceptorView S)) (desks desks_now : List (DeskView V)) (callers : List Caller) (flow flow_now : FlowView) (before after : Book)
    → IsWorld m (view_of last_proposer council acceptors desks callers flow before) callers before.room → desks_now ≡ desks → before.room ≤ after.room
    → IsSafe (view_of last_proposer council acceptors_now desks_now callers flow_now after)
    → Remembers m (view_of last_proposer council acceptors_now desks_now callers flow_now after) → IsWorld m (view_of last_proposer council acceptors_now desks_now callers flow_now after) callers after.room
no_room_kept {S} {V} {m} last_proposer council acceptors acceptors_now desks desks_now callers flow flow_now before after inv same_desks grows safe remembered = record {
  safe = safe;
  room = omega (arith, inv.room, grows);
  copies = λ p d c at_d at_c. inv.copies p d c (subst (λ (ds : List (DeskView V)). IsAt ds p d) same_desks at_d) at_c;
  remembered = remembered;
}
