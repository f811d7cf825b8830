-- What the operator's calls do to the whole.
use Rattle.std.proofs.Common.{inl, inr, ◌≡◌, ◌≢◌, ◌≤◌, ◌<◌, ℕ, Bool, true, false, List, [], ◌∷◌, ◌++◌, Option, None, Some, Result, Ok, refl, sym, ap, subst, ◌∙◌, arith, append-nil, suc, length-append}
use Rattle.std.specs.Prelude.{◌⊎◌, ◌+◌, ◌-◌, ◌==◌, ◌&&◌, if◌then◌else◌, option_map, unwrap_or, IfSome, IfOk, IfErr, IsSome, length, slice_get, sum_by, reverse, map}
use Rattle.cas_ballot.specs.Members.{has_member, IsMemberSet}
use Rattle.cas_flow.specs.Message.{head_of}
use Rattle.cas_flow.specs.Queue.{QueueView, fall_of, pushed}
use Rattle.cas_flow.specs.declared.fall.Fall.TheVariants.{Handle, Gone, Held}
use Rattle.cas_flow.specs.declared.message.Message.TheVariants as message
use Rattle.cas_slot.specs.declared.message.Request.{Request}
use Rattle.cas_flow.specs.declared.message.Message.{Message}
use Rattle.cas_slot.specs.declared.message.Reply.{Reply}
use Rattle.cas_record.specs.declared.mark.Mark.{Mark}
use Rattle.cas_record.specs.declared.mark.Mark.TheVariants.{Harmed, Voted, Acked}
use Rattle.cas_record.specs.declared.answer.Answer.TheVariants as answer
use Rattle.cas_record.specs.declared.operator.Asked.{Asked}
use Rattle.cas_record.specs.declared.operator.Asked.TheVariants as to_do
use Rattle.cas_record.specs.declared.operator.OpAnswer.{OpAnswer}
use Rattle.cas_record.specs.declared.operator.OpAnswer.TheVariants as op
use Rattle.cas_fate.specs.declared.fate.Verdict.{Verdict}
use Rattle.cas_acceptor.specs.Acceptor.{AcceptorView}
use Rattle.cas_flow.specs.Flow.{FlowView, queue_at, with_queue, taken, abandoned}
use Rattle.cas_proposer.specs.Desk.{DeskView}
use Rattle.cas_record.specs.Book.{Book}
use Rattle.cas_model.specs.Collection.State.{CollectionView}
use Rattle.cas_model.specs.Council as cluster
use Rattle.cas_model.specs.Council.{ExchangeView, OrderView, PlanView, ListingView, MemberPlace, with_listing, without_partial, stepped, silent_order, at_rest, exchange_place, reserved_by, reserved_for_order, reserved_for_exchange, broken_off, crashed_in, telling, told_so, marks_of_read}
use Rattle.cas_model.specs.History.{IsRemembered}
use Rattle.cas_model.specs.Safe.{IsSafe, IsReadSafe, IsExchangeSafe, IsAskingSafe, is_of_collection}
use Rattle.cas_model.specs.Step as step
use Rattle.cas_model.specs.Step.{Step}
use Rattle.cas_model.specs.Stops.Step.{broken_off_view}
use Rattle.cas_model.specs.Exchanges.Step as steps
use Rattle.cas_model.specs.Exchanges.Tellings.{StopsUndone}
use Rattle.cas_model.specs.Eras.Listings.{why_short}
use Rattle.cas_model.specs.Eras.Remaining.{keys_left}
use Rattle.cas_model.specs.Exchanges.Step.{IsCollectedBy, IsFinishedBy, finished, ListsFor, StepOrder, StepTell, StepTurnExchange, Gathers, SaysTheSame, harmed_exchange, harm_marks, harms, hears, with_exchange, told_marks, told_view}
use Rattle.cas_model.specs.Frames.Step.{replied_flow, votes_marked}
use Rattle.cas_model.specs.View.{Meaning, View, IsAt, era_in, reserved_in_all}
use Rattle.cas_quorum.specs.declared.era.Era.{Era}
use Rattle.cas_quorum.specs.Era.{Meet}
use Rattle.cas_model.proofs.Remembering.{broken_off as breaks_off, told_remembered}
use Rattle.cas_model.proofs.Frames.Steps.{taken_own}
use Rattle.cas_model.proofs.Places.{some_is, contains_at}
use Rattle.cas_model.proofs.Eras.Rescanning.{told_reserves}
use Rattle.cas_model.proofs.Exchanges.Safe.{harm_fits, no_vote, few_read_marks}
use Rattle.cas_model.proofs.Safety.Steps.{steps_are_safe, broken_safe as broken_off_safe, told_safe as told_view_safe}
use Rattle.cas_world_calls.specs.Call.{reserved_of}
use Rattle.cas_world_calls.specs.Council.{council_view, exchange_view, order_view, harmed_in, harms_in, harms_of, heard_by, heard_in, IsOfKeys, EraIsListed, MayConclude, MayList, concluded, left_in, left_to_list, listed_if, GathersAs, crashed, probed, lists, is_short, no_memory}
use Rattle.cas_world_calls.specs.Answers.{is_plain}
use Rattle.cas_world.specs.Exchanges.Exchange.{WasToldOrder, HasGathered, IsAsked, IsStopped}
use Rattle.cas_world.specs.Eras.Plans as endings
use Rattle.cas_world.specs.Eras.Plans.{HasCollectedAll, HasFinished, MayTell}
use Rattle.cas_world.specs.Exchanges.Exchange as asked
use Rattle.cas_world.specs.World.{view_of, IsWorld}
use Rattle.cas_world_calls.specs.declared.call.Caller.{Caller}
use Rattle.cas_world_calls.specs.declared.council.Council.{Council}
use Rattle.cas_world_calls.specs.declared.council.Gathered.{Gathered}
use Rattle.cas_world_calls.specs.declared.council.Gathered.TheVariants as gathered
use Rattle.cas_world_calls.specs.declared.council.OpenExchange.{OpenExchange}
use Rattle.cas_world_calls.specs.declared.council.Order.{Order}
use Rattle.cas_world.proofs.Parts.{Remembers, remembered_then}
use Rattle.cas_world.proofs.Calls.Reserving.{sum_seen}
use Rattle.cas_world.proofs.Frames.Turning.{one_waits}
use Rattle.cas_world.proofs.Frames.Turns.{room_after}
use Rattle.cas_world.specs.Frames.Serve.{Serves, FindsDown, was_down, goes_down}
use Rattle.cas_world.specs.declared.serve.Served.TheVariants as served
use Rattle.cas_world_calls.specs.Read.{MarksFit, GathersIn, plain, read}
use Rattle.cas_model.specs.Exchanges.Read.{MarksRead, holders_of}
use Rattle.cas_record.specs.declared.operator.Probe.{Probe as Answered}

-- ---- what is seen
-- where the council changes, and not the eras
pub council_next : {S V : Type 0} (last_proposer : ℕ) (council now : Council) (acceptors : List (AcceptorView S)) (desks : List (DeskView V)) (callers : List Caller) (flow : FlowView) (book : Book) (next : cluster.Council) → now.eras ≡ council.eras → council_view now ≡ next
    → view_of last_proposer now acceptors desks callers flow book ≡ record (view_of last_proposer council acceptors desks callers flow book) { council = next }
council_next last_proposer council now acceptors desks callers flow book next eras is =
    λ i. record (view_of last_proposer council acceptors desks callers flow book) { eras = (eras i).0; council = is i }

-- ---- what is kept true
-- where no desk and no caller changes
pub council_world : {S V : Type 0} {m : Meaning S V} (old new : View S V) (callers : List Caller) (left now : ℕ) → IsWorld m old callers left → new.desks ≡ old.desks → IsSafe new → Remembers m new
    → reserved_in_all new ≤ now → IsWorld m new callers now
council_world {S} {V} old new callers left now was desks safe remembered room = record {
  safe = safe;
  room = room;
  copies = λ id desk caller at_desk at_caller. was.copies id desk caller (subst (λ (l : List (DeskView V)). IsAt l id desk) desks at_desk) at_caller;
  remembered = remembered;
}

-- where the record has more room
pub grown_world : {S V : Type 0} {m : Meaning S V} (last_proposer : ℕ) (council : Council) (acceptors : List (AcceptorView S)) (desks : List (DeskView V)) (callers : List Caller) (flow : FlowView) (before after : Book) → IsWorld m (view_of last_proposer council acceptors desks callers flow before) callers before.room
    → after.marks ≡ before.marks → before.room ≤ after.room → IsWorld m (view_of last_proposer council acceptors desks callers flow after) callers after.room
grown_world {S} {V} {m} last_proposer council acceptors desks callers flow before after was marks grows =
    let same : view_of last_proposer council acceptors desks callers flow before ≡ view_of last_proposer council acceptors desks callers flow after =
    ap (λ (ms : List Mark). record (view_of last_proposer council acceptors desks callers flow before) { marks = ms }) (sym marks) in
    record {
      safe = subst IsSafe same was.safe;
      room = omega (arith, was.room, grows);
      copies = was.copies;
      remembered = λ shelves disks. subst (IsRemembered m) same (was.remembered shelves disks);
    }

-- ---- a crash
pub broken_reserved : (exchange : Option ExchangeView) → reserved_for_exchange (option_map broken_off exchange) ≡ reserved_for_exchange exchange
broken_reserved None = refl
broken_reserved (Some exchange) = refl

-- an exchange is broken off
pub broken_seen : {S V : Type 0} (last_proposer : ℕ) (council now : Council) (acceptors : List (AcceptorView S)) (desks : List (DeskView V)) (callers : List Caller) (flow flow_now : FlowView) (book : Book) → flow_now ≡ abandoned flow exchange_place
    → now.eras ≡ council.eras → council_view now ≡ crashed_in (council_view council)
    → view_of last_proposer now acceptors desks callers flow_now book ≡ broken_off_view (view_of last_proposer council acceptors desks callers flow book)
broken_seen last_proposer council now acceptors desks callers flow flow_now book flows eras is =
    ap (λ (f : FlowView). view_of last_proposer now acceptors desks callers f book) flows
    ∙ council_next last_proposer council now acceptors desks callers (abandoned flow exchange_place) book (crashed_in (council_view council)) eras is

pub broken_world : {S V : Type 0} {m : Meaning S V} (old : View S V) (callers : List Caller) (left : ℕ) → IsWorld m old callers left → IsWorld m (broken_off_view old) callers left
broken_world {S} {V} {m} old callers left was =
    council_world old (broken_off_view old) callers left left was refl (broken_off_safe old was.safe) (λ shelves disks. breaks_off m old (was.remembered shelves disks))
    (omega (arith, was.room, broken_reserved old.council.exchange))

-- ---- the operator's call
-- what is reserved fits
pub reserved_fits : {S V : Type 0} (last_proposer : ℕ) (council : Council) (acceptors : List (AcceptorView S)) (desks : List (DeskView V)) (callers : List Caller) (flow : FlowView) (book : Book)
    → IsSafe (view_of last_proposer council acceptors desks callers flow book)
    → length book.marks + (sum_by reserved_of callers + reserved_by (council_view council)) ≤ 1000000
reserved_fits last_proposer council acceptors desks callers flow book safe = omega (arith, safe.sound.room, sum_seen callers)

-- it opens
pub ordered : {S V : Type 0} (last_proposer : ℕ) (council : Council) (acceptors : List (AcceptorView S)) (desks : List (DeskView V)) (callers : List Caller) (flow : FlowView) (before after : Book) (order : Order) (asked : Asked) → option_map order_view council.order ≡ None → order ≡ record { asked = asked; told = None } → after.marks ≡ before.marks → length before.marks + (sum_by reserved_of callers + reserved_by (council_view council)) < 1000000
    → StepOrder (view_of last_proposer council acceptors desks callers flow before) asked (view_of last_proposer (record council { order = Some order }) acceptors desks callers flow after)
ordered last_proposer council acceptors desks callers flow before after order asked none is marks room = record {
  none_open = none;
  room = omega (arith, room, sum_seen callers);
  view = λ i. record (view_of last_proposer council acceptors desks callers flow before) {
    council = record (council_view council) { order = Some (order_view (is i)) };
    marks = marks i;
  };
}

-- an open call as it is seen
order_in : (o : Option Order) (seen : OrderView) → option_map order_view o ≡ Some seen → (order : Order) × (o ≡ Some order) × (order_view order ≡ seen)
order_in None seen is = absurd (cc is)
order_in (Some order) seen is = (order, refl, some_is is)

-- it was told something, and this is what it was asked
pub record IsOrderToldIn (council : Council) (answer : OpAnswer) : Type 0 where
  pub order : Order
  pub is_open : council.order ≡ Some order
  pub said : OpAnswer
  pub was_said : order.told ≡ Some said
  pub same : SaysTheSame said answer

pub told_in : {S V : Type 0} (council : Council) (now : View S V) (answer : OpAnswer) → council_view council ≡ now.council → WasToldOrder now answer → IsOrderToldIn council answer
told_in council now answer same was =
    let of = order_in council.order was.order (ap (λ (c : cluster.Council). c.order) same ∙ was.is_open) in
    record { order = of.0; is_open = of.1; said = was.said; was_said = ap (λ (o : OrderView). o.told) of.2 ∙ was.was_said; same = was.same }

-- it was told nothing, and its change of membership is at its end
pub record IsOverIn (council : Council) (answer : OpAnswer) : Type 0 where
  pub order : Order
  pub is_open : council.order ≡ Some order
  pub untold : order.told ≡ None
  pub finished : IsFinishedBy (council_view council) (order_view order) answer

pub over_in : {S V : Type 0} (council : Council) (now : View S V) (answer : OpAnswer) → council_view council ≡ now.council → HasFinished now answer → IsOverIn council answer
over_in council now answer same was =
    let of = order_in council.order was.order (ap (λ (c : cluster.Council). c.order) same ∙ was.is_open) in
    record {
      order = of.0;
      is_open = of.1;
      untold = ap (λ (o : OrderView). o.told) of.2 ∙ was.untold;
      finished = subst (λ (c : cluster.Council). IsFinishedBy c (order_view of.0) answer) (sym same) (subst (λ (o : OrderView). IsFinishedBy now.council o answer) (sym of.2) was.finished);
    }

-- it was told nothing, and its collection is at its end
pub record IsCollectedIn (council : Council) (answer : OpAnswer) : Type 0 where
  pub order : Order
  pub is_open : council.order ≡ Some order
  pub untold : order.told ≡ None
  pub collected : IsCollectedBy (council_view council) (order_view order) answer

pub collected_in : {S V : Type 0} (council : Council) (now : View S V) (answer : OpAnswer) → council_view council ≡ now.council → HasCollectedAll now answer → IsCollectedIn council answer
collected_in council now answer same was =
    let of = order_in council.order was.order (ap (λ (c : cluster.Council). c.order) same ∙ was.is_open) in
    record {
      order = of.0;
      is_open = of.1;
      untold = ap (λ (o : OrderView). o.told) of.2 ∙ was.untold;
      collected = subst (λ (c : cluster.Council). IsCollectedBy c (order_view of.0) answer) (sym same) (subst (λ (o : OrderView). IsCollectedBy now.council o answer) (sym of.2) was.collected);
    }

-- one of them
pub data MayTellIn (council : Council) (answer : OpAnswer) : Type 0 where
  told_last : IsOrderToldIn council answer → MayTellIn council answer
  is_over : IsOverIn council answer → MayTellIn council answer
  is_collected : IsCollectedIn council answer → MayTellIn council answer

pub may_tell : {S V : Type 0} (council : Council) (now : View S V) (answer : OpAnswer) → council_view council ≡ now.council → MayTell now answer → MayTellIn council answer
may_tell council now answer same (endings.was_told was) = told_last (told_in council now answer same was)
may_tell council now answer same (endings.has_finished was) = is_over (over_in council now answer same was)
may_tell council now answer same (endings.has_collected was) = is_collected (collected_in council now answer same was)

pub order_there : (council : Council) (answer : OpAnswer) → MayTellIn council answer → (order : Order) × (council.order ≡ Some order)
order_there council answer (told_last was) = (was.order, was.is_open)
order_there council answer (is_over was) = (was.order, was.is_open)
order_there council answer (is_collected was) = (was.order, was.is_open)

pub may_close : (council : Council) (answer : OpAnswer) → MayTellIn council answer → IsSome council.order
may_close council answer may = let there = order_there council answer may in subst (λ (o : Option Order). IsSome o) (sym there.1) refl

-- an answer that tells of the end of a change holds no memory
plain_end : (asked : Asked) (era rescanned : ℕ) (answer : OpAnswer) → finished asked era rescanned answer → is_plain answer ≡ true
plain_end (to_do.Join id) era rescanned answer is = ap is_plain is
plain_end (to_do.Leave id) era rescanned answer is = ap is_plain is
plain_end (to_do.Resize need_prep need_acc) era rescanned answer is = ap is_plain is
plain_end (to_do.Collect key) era rescanned answer is = absurd is
plain_end (to_do.Probe key) era rescanned answer is = absurd is
plain_end (to_do.Read key) era rescanned answer is = absurd is

-- where the call was told nothing, its change is at its end, or its collection is
pub over_there : (council : Council) (answer : OpAnswer) (order : Order) → MayTellIn council answer → council.order ≡ Some order → order.told ≡ None
    → IsOverIn council answer ⊎ IsCollectedIn council answer
over_there council answer order (told_last was) is none =
    absurd (cc (ap (λ (o : Order). o.told) (some_is (sym was.is_open ∙ is)), was.was_said, none))
over_there council answer order (is_over was) is none = inl was
over_there council answer order (is_collected was) is none = inr was

plain_concludes : (collected : Option (List ℕ)) (answer : OpAnswer) → is_plain answer ≡ true → MayConclude collected answer
plain_concludes collected (op.Collected key ballot removed kept) is = absurd (cc is)
plain_concludes collected (op.Joined id era rescanned) is = is
plain_concludes collected (op.Left id era rescanned) is = is
plain_concludes collected (op.Resized need_prep need_acc era rescanned) is = is
plain_concludes collected (op.Refused fault) is = is
plain_concludes collected (op.Busy era) is = is
plain_concludes collected (op.NotEmpty version) is = is
plain_concludes collected (op.Absent acceptor) is = is
plain_concludes collected (op.ProposerDown proposer) is = is
plain_concludes collected (op.Probed key found) is = is
plain_concludes collected (op.Stopped answer) is = is

pub plain_there : (council : Council) (answer : OpAnswer) (collected : Option (List ℕ)) → collected ≡ option_map (λ (c : CollectionView). c.course.key) (council_view council).collection
    → IsOverIn council answer ⊎ IsCollectedIn council answer → MayConclude collected answer
plain_there council answer collected keys (inl was) =
    plain_concludes collected answer (plain_end was.order.asked was.finished.plan.progress.era.number was.finished.plan.rescanned answer was.finished.tells)
plain_there council answer collected keys (inr was) =
    subst (MayConclude collected) (sym was.collected.tells) (keys ∙ ap (option_map (λ (c : CollectionView). c.course.key)) was.collected.is_collection)

pub told_there : (council : Council) (answer : OpAnswer) (order : Order) (said : OpAnswer) → MayTellIn council answer → council.order ≡ Some order
    → order.told ≡ Some said → IsOrderToldIn council answer
told_there council answer order said (told_last was) is some = was
told_there council answer order said (is_over was) is some = absurd (cc (ap (λ (o : Order). o.told) (some_is (sym was.is_open ∙ is)), was.untold, some))
told_there council answer order said (is_collected was) is some = absurd (cc (ap (λ (o : Order). o.told) (some_is (sym was.is_open ∙ is)), was.untold, some))

-- the mark that it leaves is the same
same_marks : (asked : Asked) (said answer : OpAnswer) → SaysTheSame said answer → told_marks asked said ≡ told_marks asked answer
same_marks asked (op.Probed key found) (op.Probed other seen) same = refl
same_marks asked (op.Probed key found) (op.Joined id era rescanned) same = absurd (cc same)
same_marks asked (op.Probed key found) (op.Left id era rescanned) same = absurd (cc same)
same_marks asked (op.Probed key found) (op.Resized need_prep need_acc era rescanned) same = absurd (cc same)
same_marks asked (op.Probed key found) (op.Refused fault) same = absurd (cc same)
same_marks asked (op.Probed key found) (op.Busy era) same = absurd (cc same)
same_marks asked (op.Probed key found) (op.Collected other ballot removed kept) same = absurd (cc same)
same_marks asked (op.Probed key found) (op.NotEmpty version) same = absurd (cc same)
same_marks asked (op.Probed key found) (op.Absent acceptor) same = absurd (cc same)
same_marks asked (op.Probed key found) (op.ProposerDown proposer) same = absurd (cc same)
same_marks asked (op.Probed key found) (op.Stopped told) same = absurd (cc same)
same_marks asked (op.Joined id era rescanned) answer same = ap (told_marks asked) same
same_marks asked (op.Left id era rescanned) answer same = ap (told_marks asked) same
same_marks asked (op.Resized need_prep need_acc era rescanned) answer same = ap (told_marks asked) same
same_marks asked (op.Refused fault) answer same = ap (told_marks asked) same
same_marks asked (op.Busy era) answer same = ap (told_marks asked) same
same_marks asked (op.Collected key ballot removed kept) answer same = ap (told_marks asked) same
same_marks asked (op.NotEmpty version) answer same = ap (told_marks asked) same
same_marks asked (op.Absent acceptor) answer same = ap (told_marks asked) same
same_marks asked (op.ProposerDown proposer) answer same = ap (told_marks asked) same
same_marks asked (op.Stopped told) answer same = ap (told_marks asked) same

pub tells : {S V : Type 0} (last_proposer : ℕ) (council now : Council) (acceptors : List (AcceptorView S)) (desks : List (DeskView V)) (callers : List Caller) (flow flow_now : FlowView) (before after : Book) (answer : OpAnswer) (was : IsOrderToldIn council answer) (order : Order) (said : OpAnswer)
    → council.order ≡ Some order → order.told ≡ Some said → flow_now ≡ abandoned flow exchange_place → council_view now ≡ at_rest (council_view council) → now.eras ≡ council.eras
    → after.marks ≡ before.marks ++ told_marks order.asked said
    → StepTell (view_of last_proposer council acceptors desks callers flow before) answer (view_of last_proposer now acceptors desks callers flow_now after)
tells last_proposer council now acceptors desks callers flow flow_now before after answer was order said is is_said flows closed eras marks =
    let one : was.order ≡ order = some_is (sym was.is_open ∙ is) in
    let same : said ≡ was.said = some_is (sym is_said ∙ sym (ap (λ (o : Order). o.told) one) ∙ was.was_said) in
    steps.tells (order_view order) was.said (ap (option_map order_view) is) (is_said ∙ ap (λ (a : OpAnswer). Some a) same) was.same
    (λ i. record (view_of last_proposer council acceptors desks callers flow before) {
      eras = (eras i).0;
      council = closed i;
      flow = flows i;
      marks = (marks ∙ ap (λ (ms : List Mark). before.marks ++ ms) (ap (told_marks order.asked) same ∙ same_marks order.asked was.said answer was.same)) i;
    })

-- or its change is no longer under way
pub finishes : {S V : Type 0} (last_proposer : ℕ) (council now : Council) (acceptors : List (AcceptorView S)) (desks : List (DeskView V)) (callers : List Caller) (flow flow_now : FlowView) (before after : Book) (answer : OpAnswer) (was : IsOverIn council answer) (order : Order)
    → council.order ≡ Some order → flow_now ≡ abandoned flow exchange_place → council_view now ≡ record (at_rest (council_view council)) { plan = None } → now.eras ≡ council.eras
    → after.marks ≡ before.marks ++ told_marks order.asked answer
    → StepTell (view_of last_proposer council acceptors desks callers flow before) answer (view_of last_proposer now acceptors desks callers flow_now after)
finishes last_proposer council now acceptors desks callers flow flow_now before after answer was order is flows closed eras marks =
    let one : order ≡ was.order = some_is (sym is ∙ was.is_open) in
    steps.finishes (order_view was.order) (ap (option_map order_view) was.is_open) was.finished
    (λ i. record (view_of last_proposer council acceptors desks callers flow before) {
      eras = (eras i).0;
      council = closed i;
      flow = flows i;
      marks = (marks ∙ ap (λ (o : Order). before.marks ++ told_marks o.asked answer) one) i;
    })

-- or its collection is over, beside which no change of membership is under way
collects : {S V : Type 0} (last_proposer : ℕ) (council now : Council) (acceptors : List (AcceptorView S)) (desks : List (DeskView V)) (callers : List Caller) (flow flow_now : FlowView) (before after : Book) (answer : OpAnswer) (was : IsCollectedIn council answer) (order : Order)
    → IsSafe (view_of last_proposer council acceptors desks callers flow before) → council.order ≡ Some order → flow_now ≡ abandoned flow exchange_place
    → council_view now ≡ record (at_rest (council_view council)) { plan = None } → now.eras ≡ council.eras
    → after.marks ≡ before.marks ++ told_marks order.asked answer
    → StepTell (view_of last_proposer council acceptors desks callers flow before) answer (view_of last_proposer now acceptors desks callers flow_now after)
collects last_proposer council now acceptors desks callers flow flow_now before after answer was order safe is flows closed eras marks =
    let one : order ≡ was.order = some_is (sym is ∙ was.is_open) in
    let none : (council_view council).plan ≡ None = (safe.collection.each was.collected.collection was.collected.is_collection).none_planned in
    steps.collects (order_view was.order) (ap (option_map order_view) was.is_open) was.collected
    (λ i. record (view_of last_proposer council acceptors desks callers flow before) {
      eras = (eras i).0;
      council = (closed ∙ ap (λ (o : Option PlanView). record (at_rest (council_view council)) { plan = option_map without_partial o }) (sym none)) i;
      flow = flows i;
      marks = (marks ∙ ap (λ (o : Order). before.marks ++ told_marks o.asked answer) one) i;
    })

-- it ends, either way
pub told_step : {S V : Type 0} (last_proposer : ℕ) (council now : Council) (acceptors : List (AcceptorView S)) (desks : List (DeskView V)) (callers : List Caller) (flow flow_now : FlowView) (before after : Book) (answer : OpAnswer) (may : MayTellIn council answer) (order : Order)
    → IsSafe (view_of last_proposer council acceptors desks callers flow before) → council.order ≡ Some order → flow_now ≡ abandoned flow exchange_place
    → council_view now ≡ concluded order.told (at_rest (council_view council)) → now.eras ≡ council.eras → after.marks ≡ before.marks ++ told_marks order.asked (unwrap_or order.told answer)
    → StepTell (view_of last_proposer council acceptors desks callers flow before) answer (view_of last_proposer now acceptors desks callers flow_now after)
told_step {S} {V} last_proposer council now acceptors desks callers flow flow_now before after answer may order safe is flows closed eras marks = by_told order.told refl closed marks
  where
    by_told : (o : Option OpAnswer) → order.told ≡ o → council_view now ≡ concluded o (at_rest (council_view council)) → after.marks ≡ before.marks ++ told_marks order.asked (unwrap_or o answer)
        → StepTell (view_of last_proposer council acceptors desks callers flow before) answer (view_of last_proposer now acceptors desks callers flow_now after)
    by_told None none seen made = elim (over_there council answer order may is none) [
      | inl was ↦ finishes last_proposer council now acceptors desks callers flow flow_now before after answer was order is flows seen eras made
      | inr was ↦ collects last_proposer council now acceptors desks callers flow flow_now before after answer was order safe is flows seen eras made
    ]
    by_told (Some said) some seen made =
        tells last_proposer council now acceptors desks callers flow flow_now before after answer (told_there council answer order said may is some) order said is some flows seen eras made

-- nothing is reserved for it any more
pub concluded_reserves : (told : Option OpAnswer) (council : cluster.Council) → reserved_by (concluded told (at_rest council)) ≡ 0
concluded_reserves None council = refl
concluded_reserves (Some said) council = refl

-- ---- what came of an exchange
-- one that is seen is there
pub open_code : (o : Option OpenExchange) (exchange : ExchangeView) → option_map exchange_view o ≡ Some exchange → IsSome o
open_code None exchange is = absurd (cc is)
open_code (Some x) exchange is = refl

-- the next keys are asked for from some places on
keys_asked : (question : cluster.Question) → IsOfKeys question → (places : List MemberPlace) × (question ≡ cluster.NextKeys places)
keys_asked (cluster.NextKeys places) is = (places, refl)
keys_asked other is = absurd is

-- it is of the listing that is under way
lists_for : {S V : Type 0} (view : View S V) (exchange : ExchangeView) → IsSafe view → view.council.exchange ≡ Some exchange → IsOfKeys exchange.question → (of : EraIsListed view.council.plan)
    → (exchange.question ≡ cluster.NextKeys of.listing.places) × (exchange.tag ≡ of.listing.tag)
lists_for view exchange safe is_open is_keys of =
    let asks = keys_asked exchange.question is_keys in
    let open_ = safe.sound.council.1 exchange asks.0 is_open asks.1 in
    let plans : open_.plan ≡ of.plan = some_is (sym open_.is_plan ∙ of.is_plan) in
    let same : open_.listing ≡ of.listing = some_is (sym open_.is_listing ∙ ap (λ (p : PlanView). p.listing) plans ∙ of.is_listing) in (
      asks.1 ∙ ap (λ (l : List MemberPlace). cluster.NextKeys l) (sym open_.same_places ∙ ap (λ (l : ListingView). l.places) same),
      sym open_.same_tag ∙ ap (λ (l : ListingView). l.tag) same,
    )

abbrev lists_at : {S V : Type 0} (view : View S V) (exchange : ExchangeView) (of : EraIsListed view.council.plan)
    → (exchange.question ≡ cluster.NextKeys of.listing.places) × (exchange.tag ≡ of.listing.tag) → ListsFor view exchange
lists_at view exchange of there = record { plan = of.plan; is_plan = of.is_plan; settles = of.settles; listing = of.listing; is_listing = of.is_listing; question = there.0; tag = there.1 }

-- what is asked beside a collection may be listed
pub may_list : {S V : Type 0} (view : View S V) (exchange : ExchangeView) (question : cluster.Question) → IsSafe view → is_of_collection exchange.question ≡ false
    → view.council.exchange ≡ Some exchange → exchange.question ≡ question → MayList question view.council.plan
may_list view exchange (cluster.Probe key) safe beside is_open is = tt
may_list view exchange (cluster.NewAges key least) safe beside is_open is = absurd (cc (beside, ap is_of_collection is))
may_list view exchange (cluster.Removal key) safe beside is_open is = absurd (cc (beside, ap is_of_collection is))
may_list view exchange (cluster.NextKeys places) safe beside is_open is =
    let lists = safe.sound.council.1 exchange places is_open is in
    record { plan = lists.plan; is_plan = lists.is_plan; settles = (safe.sound.council.0 lists.plan lists.listing lists.is_plan lists.is_listing).settles; listing = lists.listing; is_listing = lists.is_listing }

pub gathers_so : {S V : Type 0} (last_proposer : ℕ) (council now : Council) (acceptors : List (AcceptorView S)) (desks : List (DeskView V)) (callers : List Caller) (flow : FlowView) (book : Book) (exchange : ExchangeView) (result : Result Gathered OpAnswer)
    → IsSafe (view_of last_proposer council acceptors desks callers flow book) → (council_view council).exchange ≡ Some exchange
    → GathersAs (era_in council.eras.0 0) exchange (council_view council) result (council_view now) → now.eras ≡ council.eras
    → Gathers (view_of last_proposer council acceptors desks callers flow book) exchange (view_of last_proposer now acceptors desks callers flow book)
gathers_so last_proposer council now acceptors desks callers flow book exchange result safe is_open (crashed down told next) eras =
    steps.crashed down (council_next last_proposer council now acceptors desks callers flow book _ eras next)
gathers_so last_proposer council now acceptors desks callers flow book exchange result safe is_open (probed key found kept up question plain_one has keeps told next) eras =
    steps.probed key kept up question plain_one keeps (council_next last_proposer council now acceptors desks callers flow book _ eras next)
gathers_so {S} {V} last_proposer council now acceptors desks callers flow book exchange result safe is_open (lists of listing up is_keys enough on less told next) eras =
    let old : View S V = view_of last_proposer council acceptors desks callers flow book in
    steps.lists (lists_at old exchange of (lists_for old exchange safe is_open is_keys of)) listing up enough on (council_next last_proposer council now acceptors desks callers flow book _ eras next)
gathers_so {S} {V} last_proposer council now acceptors desks callers flow book exchange result safe is_open (is_short of short up is_keys missing told next) eras =
    let old : View S V = view_of last_proposer council acceptors desks callers flow book in
    steps.is_short (lists_at old exchange of (lists_for old exchange safe is_open is_keys of)) short up missing (council_next last_proposer council now acceptors desks callers flow book _ eras next)
gathers_so last_proposer council now acceptors desks callers flow book exchange result safe is_open (no_memory up told next) eras =
    steps.no_memory up
    (council_next last_proposer council now acceptors desks callers flow book _ eras
    (next ∙ ap (λ (o : Option ExchangeView). record (telling (council_view council) (op.Stopped (answer.NoMemory false))) { exchange = o }) (sym is_open)))

-- no more is reserved then
pub hushed_reserves : (order : Option OrderView) → reserved_for_order (option_map silent_order order) ≡ reserved_for_order order
hushed_reserves None = refl
hushed_reserves (Some order) = refl

pub gathered_reserves : (era : Era) (exchange : ExchangeView) (old new : cluster.Council) (result : Result Gathered OpAnswer) → old.exchange ≡ Some exchange → GathersAs era exchange old result new
    → reserved_by new ≤ reserved_by old
gathered_reserves era exchange old new result is_open (crashed down told next) = omega (arith, ap reserved_by next, told_reserves old.order (op.Stopped answer.Crashed))
gathered_reserves era exchange old new result is_open (probed key found kept up question plain_one has keeps told next) =
    omega (arith, ap reserved_by next, told_reserves old.order (op.Probed key kept))
gathered_reserves era exchange old new result is_open (lists of listing up is_keys enough on less told next) = omega (arith, ap reserved_by next, hushed_reserves old.order)
gathered_reserves era exchange old new result is_open (is_short of short up is_keys missing told next) =
    omega (arith, ap reserved_by next, told_reserves old.order (op.Stopped (why_short exchange.told short)))
gathered_reserves era exchange old new result is_open (no_memory up told next) =
    omega (arith, ap reserved_by next, told_reserves old.order (op.Stopped (answer.NoMemory false)), ap reserved_for_exchange is_open)

-- the open call was told it
was_told : {S V : Type 0} (view : View S V) (order : OrderView) (said answer : OpAnswer) (old : cluster.Council) (rest : Option ExchangeView) → old.order ≡ Some order
    → view.council ≡ record old { order = option_map (told_so said) old.order; exchange = rest } → SaysTheSame said answer → WasToldOrder view answer
was_told view order said answer old rest is_order next same = record {
  order = told_so said order;
  is_open = ap (λ (c : cluster.Council). c.order) next ∙ ap (option_map (told_so said)) is_order;
  said = said;
  was_said = refl;
  same = same;
}

pub gathered_ok : {S V : Type 0} (era : Era) (old new : View S V) (order : OrderView) (exchange : ExchangeView) (result : Result Gathered OpAnswer) → old.council.order ≡ Some order
    → old.council.exchange ≡ Some exchange → GathersAs era exchange old.council result new.council → IfOk result (λ found. HasGathered old found new)
gathered_ok era old new order exchange result is_order is_open (crashed down told next) = subst (λ (r : Result Gathered OpAnswer). IfOk r (λ found. HasGathered old found new)) (sym told) tt
gathered_ok era old new order exchange result is_order is_open (probed key found kept up question plain_one has keeps told next) =
    subst (λ (r : Result Gathered OpAnswer). IfOk r (λ found. HasGathered old found new)) (sym told)
    (asked.probed exchange key found is_open question plain_one refl has (was_told new order (op.Probed key kept) (op.Probed key found) old.council None is_order next (refl, keeps ∙ sym has)))
gathered_ok era old new order exchange result is_order is_open (lists of listing up is_keys enough on less told next) =
    subst (λ (r : Result Gathered OpAnswer). IfOk r (λ found. HasGathered old found new)) (sym told)
    (let asks = keys_asked exchange.question is_keys in asked.lists exchange asks.0 of.plan listing is_open asks.1 of.is_plan refl next)
gathered_ok era old new order exchange result is_order is_open (is_short of short up is_keys missing told next) =
    subst (λ (r : Result Gathered OpAnswer). IfOk r (λ found. HasGathered old found new)) (sym told) tt
gathered_ok era old new order exchange result is_order is_open (no_memory up told next) = subst (λ (r : Result Gathered OpAnswer). IfOk r (λ found. HasGathered old found new)) (sym told) tt

-- where a listing goes on that is not complete, less of it is left
partial : (complete : Bool) → gathered.More ≡ listed_if complete → complete ≡ false
partial true is = absurd (cc is)
partial false is = refl

less_left : (plan : PlanView) (before next : ListingView) → plan.listing ≡ Some before → next.complete ≡ false → keys_left next.places < keys_left before.places
    → left_to_list (Some (with_listing plan next)) < left_to_list (Some plan)
less_left plan before next is_listing partial less =
    let now : left_to_list (Some (with_listing plan next)) ≡ keys_left next.places =
    ap (λ (b : Bool). left_to_list (Some (if b && (length next.keys == 0) then stepped plan else record plan { listing = Some next }))) partial in
    let was : left_to_list (Some plan) ≡ keys_left before.places = ap left_in is_listing in omega (arith, now, was, less)

pub gathered_less : (era : Era) (exchange : ExchangeView) (old new : cluster.Council) (result : Result Gathered OpAnswer) → GathersAs era exchange old result new → result ≡ Ok gathered.More
    → left_to_list new.plan < left_to_list old.plan
gathered_less era exchange old new result (crashed down told next) more = absurd (cc (told, more))
gathered_less era exchange old new result (probed key found kept up question plain_one has keeps told next) more = absurd (cc (told, more))
gathered_less era exchange old new result (lists of listing up is_keys enough on less told next) more =
    let is_partial = partial listing.complete (cc (told, more)) in
    subst (λ (p : Option PlanView). left_to_list new.plan < left_to_list p) (sym of.is_plan)
    (subst (λ (c : cluster.Council). left_to_list c.plan < left_to_list (Some of.plan)) (sym next) (less_left of.plan of.listing listing of.is_listing is_partial (less enough is_partial)))
gathered_less era exchange old new result (is_short of short up is_keys missing told next) more = absurd (cc (told, more))
gathered_less era exchange old new result (no_memory up told next) more = absurd (cc (told, more))

pub gathered_err : {S V : Type 0} (era : Era) (old new : View S V) (order : OrderView) (exchange : ExchangeView) (result : Result Gathered OpAnswer) → old.council.order ≡ Some order
    → GathersAs era exchange old.council result new.council → IfErr result (WasToldOrder new)
gathered_err era old new order exchange result is_order (crashed down told next) =
    subst (λ (r : Result Gathered OpAnswer). IfErr r (WasToldOrder new)) (sym told) (was_told new order _ _ old.council None is_order next refl)
gathered_err era old new order exchange result is_order (probed key found kept up question plain_one has keeps told next) =
    subst (λ (r : Result Gathered OpAnswer). IfErr r (WasToldOrder new)) (sym told) tt
gathered_err era old new order exchange result is_order (lists of listing up is_keys enough on less told next) = subst (λ (r : Result Gathered OpAnswer). IfErr r (WasToldOrder new)) (sym told) tt
gathered_err era old new order exchange result is_order (is_short of short up is_keys missing told next) =
    subst (λ (r : Result Gathered OpAnswer). IfErr r (WasToldOrder new)) (sym told) (was_told new order _ _ old.council None is_order next refl)
gathered_err era old new order exchange result is_order (no_memory up told next) =
    subst (λ (r : Result Gathered OpAnswer). IfErr r (WasToldOrder new)) (sym told) (was_told new order _ _ old.council (Some exchange) is_order next refl)

-- ---- a frame of the exchange that is open
pub record IsExchangeAsking {S V : Type 0} (view : View S V) : Type 0 where
  pub exchange : ExchangeView
  pub is_open : view.council.exchange ≡ Some exchange
  pub safe : IsExchangeSafe exchange (queue_at view.flow exchange_place)
  pub front : Message
  pub waits : slice_get (queue_at view.flow exchange_place).messages 0 ≡ Some front

pub some_there : {A : Type 0} (o : Option A) → IsSome o → (x : A) × (o ≡ Some x)
some_there None is = absurd (cc is)
some_there (Some x) is = (x, refl)

pub asking : {S V : Type 0} (view now : View S V) → IsSafe view → view ≡ now → IsSome now.council.exchange → (queue_at now.flow exchange_place).messages ≢ [] → IsExchangeAsking view
asking {S} {V} view now safe same some waits =
    let open_ = some_there view.council.exchange (subst (λ (v : View S V). IsSome v.council.exchange) (sym same) some) in
    let front = one_waits (queue_at view.flow exchange_place).messages (λ none. waits (ap (λ (v : View S V). (queue_at v.flow exchange_place).messages) (sym same) ∙ none)) in
    record {
      exchange = open_.0;
      is_open = open_.1;
      safe = subst (λ (e : Option ExchangeView). IsAskingSafe e (queue_at view.flow exchange_place)) open_.1 safe.sound.asking;
      front = front.0;
      waits = front.1;
    }

-- the exchange as it is seen
pub in_world : (o : Option OpenExchange) (exchange : ExchangeView) (P : ExchangeView → Type 0) → option_map exchange_view o ≡ Some exchange → IfSome o (λ x. P (exchange_view x)) → P exchange
in_world None exchange P is has = absurd (cc is)
in_world (Some x) exchange P is has = subst P (some_is is) has

-- where a request is in front
one_there : (messages : List Message) (front : Message) → slice_get messages 0 ≡ Some front → messages ≢ []
one_there messages front waits none = absurd (cc (waits, ap (λ (l : List Message). slice_get l 0) none))

pub asked_in : {S V : Type 0} (view now : View S V) (request : Request) → IsSafe view → view ≡ now → IsSome now.council.exchange → IsAsked now request → IsExchangeAsking view
asked_in view now request safe same some waits = asking view now safe same some (one_there (queue_at now.flow exchange_place).messages (message.Request request) waits)

-- the exchange in the code
pub in_code : (P : ExchangeView → Type 0) (o : Option OpenExchange) (exchange : ExchangeView) → option_map exchange_view o ≡ Some exchange → P exchange → IfSome o (λ x. P (exchange_view x))
in_code P None exchange is has = absurd (cc is)
in_code P (Some x) exchange is has = subst P (sym (some_is is)) has

-- the mark of a member's first harm is reserved
pub first_harm : (exchange : ExchangeView) (queue : QueueView) (member : ℕ) → IsExchangeSafe exchange queue → has_member exchange.members member ≡ true → has_member exchange.harmed member ≡ false
    → 0 < exchange.reserved
first_harm exchange queue member safe is_member first =
    let fits : 1 + (exchange.reserved - 1) ≤ exchange.reserved =
    subst (λ (b : Bool). length (if b then [] else Harmed 0 0 false ∷ []) + (if b then exchange.reserved else exchange.reserved - 1) ≤ exchange.reserved) first (harm_fits exchange queue member false safe is_member) in omega (arith, fits)

-- and there is memory for it
pub harm_room : {S V : Type 0} {m : Meaning S V} (view : View S V) (callers : List Caller) (left : ℕ) (exchange : ExchangeView) → IsWorld m view callers left
    → view.council.exchange ≡ Some exchange → 0 < exchange.reserved → 0 < left
harm_room view callers left exchange inv is_open some = omega (arith, inv.room, some, ap reserved_for_exchange is_open)

-- it is seen as harmed
pub harmed_seen : {S V : Type 0} (last_proposer : ℕ) (council now : Council) (acceptors acceptors_now : List (AcceptorView S)) (desks : List (DeskView V)) (callers : List Caller) (flow flow_now : FlowView) (before after : Book) (exchange : ExchangeView) (member : ℕ) (down : Bool)
    → (council_view council).exchange ≡ Some exchange → now.eras ≡ council.eras → council_view now ≡ harmed_in (council_view council) member
    → after.marks ≡ before.marks ++ harms_in (council_view council) member down
    → view_of last_proposer now acceptors_now desks callers flow_now after ≡ harms (record (view_of last_proposer council acceptors desks callers flow before) { acceptors = acceptors_now; flow = flow_now }) exchange member down
harmed_seen last_proposer council now acceptors acceptors_now desks callers flow flow_now before after exchange member down is_open eras is marks =
    (λ i. record (view_of last_proposer council acceptors_now desks callers flow_now before) { eras = (eras i).0; council = is i; marks = marks i })
    ∙ ap (λ (o : Option ExchangeView). record (view_of last_proposer council acceptors_now desks callers flow_now before) {
      council = record (council_view council) { exchange = option_map (λ e. harmed_exchange e member) o };
      marks = before.marks ++ harms_of o member down;
    }) is_open

pub harmed_world : {S V : Type 0} {m : Meaning S V} (old new : View S V) (acceptors : List (AcceptorView S)) (flow : FlowView) (exchange : ExchangeView) (member : ℕ) (down : Bool) (verdict : Verdict) (callers : List Caller) (left now : ℕ)
    → IsWorld m old callers left → old.council.exchange ≡ Some exchange → has_member exchange.members member ≡ true → IsExchangeSafe exchange (queue_at old.flow exchange_place)
    → Step m old (step.TurnExchange verdict) new
    → new ≡ harms (record old { acceptors = acceptors; flow = flow }) exchange member down → now + length (harm_marks exchange member down) ≡ left → IsWorld m new callers now
harmed_world {S} {V} {m} old new acceptors flow exchange member down verdict callers left now was is_open is_member safe by is room =
    council_world old new callers left now was (ap (λ (v : View S V). v.desks) is) (steps_are_safe m old (step.TurnExchange verdict) new was.safe by)
    (remembered_then m (step.TurnExchange verdict) by was.remembered)
    (omega (arith, was.room, room, ap reserved_in_all is, ap reserved_for_exchange is_open, harm_fits exchange (queue_at old.flow exchange_place) member down safe is_member))

-- ---- its turns
pub holds : {S V : Type 0} (m : Meaning S V) (old : View S V) (verdict : Verdict) (at : IsExchangeAsking old) → fall_of (queue_at old.flow exchange_place).again verdict ≡ Held
    → StepTurnExchange m old verdict old
holds m old verdict at fall = record { at = record { exchange = at.exchange; is_open = at.is_open }; front = at.front; waits = at.waits; turn = steps.held fall refl }

pub loses : {S V : Type 0} (m : Meaning S V) (old new : View S V) (verdict : Verdict) (at : IsExchangeAsking old) → fall_of (queue_at old.flow exchange_place).again verdict ≡ Gone
    → new ≡ harms (record old { flow = taken old.flow exchange_place verdict }) at.exchange (head_of at.front).1 false → StepTurnExchange m old verdict new
loses m old new verdict at fall is = record { at = record { exchange = at.exchange; is_open = at.is_open }; front = at.front; waits = at.waits; turn = steps.gone fall is }

-- the front frame, as it was read
pub front_is : {S V : Type 0} (old : View S V) (at : IsExchangeAsking old) (front : Message) → slice_get (queue_at old.flow exchange_place).messages 0 ≡ Some front → at.front ≡ front
front_is old at front waits = some_is (sym at.waits ∙ waits)

pub is_member : {S V : Type 0} (old : View S V) (at : IsExchangeAsking old) → has_member at.exchange.members (head_of at.front).1 ≡ true
is_member old at = at.safe.about at.front (contains_at (queue_at old.flow exchange_place).messages 0 at.front at.waits)

-- a reply arrives
pub heard_seen : {S V : Type 0} (last_proposer : ℕ) (council now : Council) (acceptors : List (AcceptorView S)) (desks : List (DeskView V)) (callers : List Caller) (flow : FlowView) (book : Book) (exchange : ExchangeView) (reply : Reply)
    → (council_view council).exchange ≡ Some exchange → now.eras ≡ council.eras → council_view now ≡ heard_in (council_view council) reply
    → view_of last_proposer now acceptors desks callers flow book ≡ with_exchange (view_of last_proposer council acceptors desks callers flow book) (record exchange { told = hears reply exchange.told })
heard_seen last_proposer council now acceptors desks callers flow book exchange reply is_open eras is =
    council_next last_proposer council now acceptors desks callers flow book _ eras is
    ∙ ap (λ (o : Option ExchangeView). record (view_of last_proposer council acceptors desks callers flow book) { council = record (council_view council) { exchange = option_map (heard_by reply) o } }) is_open

pub heard : {S V : Type 0} (m : Meaning S V) (old new : View S V) (verdict : Verdict) (at : IsExchangeAsking old) (reply : Reply) → fall_of (queue_at old.flow exchange_place).again verdict ≡ Handle
    → at.front ≡ message.Reply reply
    → new ≡ with_exchange (record old { flow = taken old.flow exchange_place verdict }) (record at.exchange { told = hears reply at.exchange.told }) → StepTurnExchange m old verdict new
heard m old new verdict at reply fall front is = record {
  at = record { exchange = at.exchange; is_open = at.is_open };
  front = at.front;
  waits = at.waits;
  turn = steps.arrives reply fall front (at.safe.replies reply (contains_at (queue_at old.flow exchange_place).messages 0 (message.Reply reply) (at.waits ∙ ap (λ (f : Message). Some f) front))) is;
}

pub heard_world : {S V : Type 0} {m : Meaning S V} (old new : View S V) (flow : FlowView) (exchange : ExchangeView) (reply : Reply) (verdict : Verdict) (callers : List Caller) (left : ℕ)
    → IsWorld m old callers left → old.council.exchange ≡ Some exchange
    → Step m old (step.TurnExchange verdict) new → new ≡ with_exchange (record old { flow = flow }) (record exchange { told = hears reply exchange.told }) → IsWorld m new callers left
heard_world {S} {V} {m} old new flow exchange reply verdict callers left was is_open by is =
    council_world old new callers left left was (ap (λ (v : View S V). v.desks) is) (steps_are_safe m old (step.TurnExchange verdict) new was.safe by)
    (remembered_then m (step.TurnExchange verdict) by was.remembered)
    (omega (arith, was.room, ap reserved_in_all is, ap reserved_for_exchange is_open))

-- ---- a member that is asked
-- there is room for its reply
pub reply_room : {S V : Type 0} (old : View S V) (at : IsExchangeAsking old) (verdict : Verdict) (request : Request) → fall_of (queue_at old.flow exchange_place).again verdict ≡ Handle
    → slice_get (queue_at old.flow exchange_place).messages 0 ≡ Some (message.Request request)
    → 0 < (queue_at (taken old.flow exchange_place verdict) exchange_place).room
reply_room old at verdict request fall waits =
    subst (λ (q : QueueView). 0 < q.room) (sym (taken_own old.flow exchange_place verdict waits))
    (room_after (queue_at old.flow exchange_place).messages (queue_at old.flow exchange_place).again (queue_at old.flow exchange_place).room verdict request waits fall at.safe.room)

-- what it answers is no vote
none_of : {A : Type 0} (xs : List A) → length xs ≡ 0 → xs ≡ []
none_of [] is = refl
none_of (x ∷ xs) is = absurd (cc is)

no_votes : {S V : Type 0} (old : View S V) (at : IsExchangeAsking old) (request : Request) (reply : Reply) → slice_get (queue_at old.flow exchange_place).messages 0 ≡ Some (message.Request request)
    → votes_marked request reply ≡ []
no_votes old at request reply waits =
    none_of (votes_marked request reply)
    (no_vote at.exchange.tag at.exchange.question request reply (at.safe.asks request (contains_at (queue_at old.flow exchange_place).messages 0 (message.Request request) waits)))

pub answers : {S V : Type 0} (m : Meaning S V) (last_proposer : ℕ) (council : Council) (acceptors acceptors_now : List (AcceptorView S)) (desks : List (DeskView V)) (callers : List Caller) (flow middle flow_now : FlowView) (book : Book) (verdict : Verdict) (request : Request) (frame : Option Message) (vote : Option Mark)
    (at : IsExchangeAsking (view_of last_proposer council acceptors desks callers flow book)) → fall_of (queue_at flow exchange_place).again verdict ≡ Handle → slice_get (queue_at flow exchange_place).messages 0 ≡ Some (message.Request request)
    → Serves m.shelves acceptors request (served.Replied frame vote) acceptors_now → middle ≡ taken flow exchange_place verdict
    → IfSome frame (λ message. flow_now ≡ with_queue middle exchange_place (pushed (queue_at middle exchange_place) message))
    → StepTurnExchange m (view_of last_proposer council acceptors desks callers flow book) verdict (view_of last_proposer council acceptors_now desks callers flow_now book)
answers {S} {V} m last_proposer council acceptors acceptors_now desks callers flow middle flow_now book verdict request frame vote at fall waits by takes pushes =
    let old : View S V = view_of last_proposer council acceptors desks callers flow book in
    let there : flow_now ≡ with_queue middle exchange_place (pushed (queue_at middle exchange_place) (message.Reply by.reply)) =
    subst (λ (o : Option Message). IfSome o (λ message. flow_now ≡ with_queue middle exchange_place (pushed (queue_at middle exchange_place) message))) by.bears pushes in
    let flows : flow_now ≡ replied_flow flow exchange_place verdict by.reply =
    there ∙ ap (λ (f : FlowView). with_queue f exchange_place (pushed (queue_at f exchange_place) (message.Reply by.reply))) takes in
    record {
      at = record { exchange = at.exchange; is_open = at.is_open };
      front = at.front;
      waits = at.waits;
      turn =
          steps.answers request by.acceptor by.after by.reply fall (front_is old at (message.Request request) waits) by.stands by.table
          (λ i. record old { acceptors = by.changed i; flow = flows i; marks = (sym (append-nil book.marks) ∙ ap (λ (ms : List Mark). book.marks ++ ms) (sym (no_votes old at request by.reply waits))) i });
    }

-- it keeps all that the world keeps true: what is reserved stays
pub answered_world : {S V : Type 0} {m : Meaning S V} (last_proposer : ℕ) (council : Council) (acceptors acceptors_now : List (AcceptorView S)) (desks : List (DeskView V)) (callers : List Caller) (flow flow_now : FlowView) (book : Book) (event : step.Event) → IsWorld m (view_of last_proposer council acceptors desks callers flow book) callers book.room
    → Step m (view_of last_proposer council acceptors desks callers flow book) event (view_of last_proposer council acceptors_now desks callers flow_now book)
    → IsWorld m (view_of last_proposer council acceptors_now desks callers flow_now book) callers book.room
answered_world {S} {V} {m} last_proposer council acceptors acceptors_now desks callers flow flow_now book event was by =
    council_world (view_of last_proposer council acceptors desks callers flow book) (view_of last_proposer council acceptors_now desks callers flow_now book) callers book.room book.room was refl
    (steps_are_safe m _ event _ was.safe by) (remembered_then m event by was.remembered) was.room

-- it is down, or goes down
pub falls : {S V : Type 0} (m : Meaning S V) (old new : View S V) (acceptors : List (AcceptorView S)) (verdict : Verdict) (request : Request) (at : IsExchangeAsking old)
    → fall_of (queue_at old.flow exchange_place).again verdict ≡ Handle → slice_get (queue_at old.flow exchange_place).messages 0 ≡ Some (message.Request request)
    → FindsDown m.shelves old.acceptors request acceptors → new ≡ harms (record old { acceptors = acceptors; flow = taken old.flow exchange_place verdict }) at.exchange request.to true
    → StepTurnExchange m old verdict new
falls {S} {V} m old new acceptors verdict request at fall waits (was_down acceptor there down same) is = record {
  at = record { exchange = at.exchange; is_open = at.is_open };
  front = at.front;
  waits = at.waits;
  turn = steps.finds_down request acceptor fall (front_is old at (message.Request request) waits) there down
      (is ∙ ap (λ (l : List (AcceptorView S)). harms (record old { acceptors = l; flow = taken old.flow exchange_place verdict }) at.exchange request.to true) same);
}
falls {S} {V} m old new acceptors verdict request at fall waits (goes_down acceptor after there stops same) is = record {
  at = record { exchange = at.exchange; is_open = at.is_open };
  front = at.front;
  waits = at.waits;
  turn = steps.brings_down request acceptor after fall (front_is old at (message.Request request) waits) there stops
      (is ∙ ap (λ (l : List (AcceptorView S)). harms (record old { acceptors = l; flow = taken old.flow exchange_place verdict }) at.exchange request.to true) same);
}

-- ---- the open call is told something
-- what holds no memory tells of no change that is done
pub plain_undone : (answer : OpAnswer) → is_plain answer ≡ true → StopsUndone answer
plain_undone (op.Joined id era rescanned) is = tt
plain_undone (op.Left id era rescanned) is = tt
plain_undone (op.Resized need_prep need_acc era rescanned) is = tt
plain_undone (op.Refused fault) is = tt
plain_undone (op.Busy era) is = tt
plain_undone (op.Collected key ballot removed kept) is = tt
plain_undone (op.NotEmpty version) is = tt
plain_undone (op.Absent acceptor) is = tt
plain_undone (op.ProposerDown proposer) is = tt
plain_undone (op.Probed key found) is = tt
plain_undone (op.Stopped (answer.Done state took ballot)) is = absurd (cc is)
plain_undone (op.Stopped (answer.Conflict met)) is = tt
plain_undone (op.Stopped (answer.Aged least)) is = tt
plain_undone (op.Stopped (answer.Full acceptor)) is = tt
plain_undone (op.Stopped (answer.Short got need)) is = tt
plain_undone (op.Stopped (answer.Moved era)) is = tt
plain_undone (op.Stopped answer.Crashed) is = tt
plain_undone (op.Stopped (answer.Unsettled why)) is = tt
plain_undone (op.Stopped answer.Down) is = tt
plain_undone (op.Stopped answer.VaultFault) is = tt
plain_undone (op.Stopped answer.Spent) is = tt
plain_undone (op.Stopped answer.RecordFull) is = tt
plain_undone (op.Stopped (answer.NoMemory proposed)) is = tt

pub told_seen : {S V : Type 0} (last_proposer : ℕ) (council : Council) (acceptors : List (AcceptorView S)) (desks : List (DeskView V)) (callers : List Caller) (flow : FlowView) (book : Book) (now : Council) (answer : OpAnswer) → now.eras ≡ council.eras → council_view now ≡ telling (council_view council) answer
    → view_of last_proposer now acceptors desks callers flow book ≡ told_view (view_of last_proposer council acceptors desks callers flow book) answer
told_seen last_proposer council acceptors desks callers flow book now answer eras is =
    council_next last_proposer council now acceptors desks callers flow book (telling (council_view council) answer) eras is

pub told_world : {S V : Type 0} {m : Meaning S V} (last_proposer : ℕ) (council : Council) (acceptors : List (AcceptorView S)) (desks : List (DeskView V)) (callers : List Caller) (flow : FlowView) (book : Book) (now : Council) (answer : OpAnswer)
    → StopsUndone answer → IsWorld m (view_of last_proposer council acceptors desks callers flow book) callers book.room → now.eras ≡ council.eras
    → council_view now ≡ telling (council_view council) answer → IsWorld m (view_of last_proposer now acceptors desks callers flow book) callers book.room
told_world {S} {V} {m} last_proposer council acceptors desks callers flow book now answer undone was eras is =
    let old : View S V = view_of last_proposer council acceptors desks callers flow book in
    subst (λ (v : View S V). IsWorld m v callers book.room) (sym (told_seen last_proposer council acceptors desks callers flow book now answer eras is))
    (council_world old (told_view old answer) callers book.room book.room was refl (told_view_safe old answer undone was.safe) (λ shelves disks. told_remembered m old answer (was.remembered shelves disks))
    (omega (arith, was.room, told_reserves (option_map order_view council.order) answer)))

-- ---- what is read is marked
-- so many marks are reserved for it
pub read_fits : {S V : Type 0} (view : View S V) (exchange : ExchangeView) (key : List ℕ) (era : Era) (older marks : List Mark) → IsSafe view → view.council.exchange ≡ Some exchange
    → exchange.reads ≡ Some era → MarksRead era key exchange.told older marks
    → length marks ≤ marks_of_read exchange.reads exchange.members
read_fits view exchange key era older marks safe is_open reads made =
    let asking : IsExchangeSafe exchange (queue_at view.flow exchange_place) = subst (λ (e : Option ExchangeView). IsAskingSafe e (queue_at view.flow exchange_place)) is_open safe.sound.asking in
    omega (arith, few_read_marks era key exchange.told older marks exchange.members asking.member_set asking.tellers made, ap (λ (r : Option Era). marks_of_read r exchange.members) reads)

-- quorums of its era meet
pub read_is_safe : {S V : Type 0} (view : View S V) (exchange : ExchangeView) (era : Era) → IsSafe view → view.council.exchange ≡ Some exchange → exchange.reads ≡ Some era
    → IsReadSafe era exchange.members
read_is_safe view exchange era safe is_open reads = (subst (λ (e : Option ExchangeView). IsAskingSafe e (queue_at view.flow exchange_place)) is_open safe.sound.asking).read era reads

pub read_meets : {S V : Type 0} (view : View S V) (exchange : ExchangeView) → IsSafe view → view.council.exchange ≡ Some exchange → IfSome exchange.reads (λ era. Meet era era)
read_meets view exchange safe is_open = by_era exchange.reads refl
  where
    by_era : (reads : Option Era) → exchange.reads ≡ reads → IfSome reads (λ era. Meet era era)
    by_era None is = tt
    by_era (Some era) is = (read_is_safe view exchange era safe is_open is).meets

pub marks_fit : {S V : Type 0} (view : View S V) (exchange : ExchangeView) (book : Book) → IsSafe view → view.council.exchange ≡ Some exchange → reserved_in_all view ≤ book.room
    → MarksFit exchange book
marks_fit view exchange book safe is_open room key era marks asks reads made =
    omega (arith, room, read_fits view exchange key era (reverse book.marks) marks safe is_open reads made, ap reserved_for_exchange is_open)

pub gathers_in_so : {S V : Type 0} (last_proposer : ℕ) (council now : Council) (acceptors : List (AcceptorView S)) (desks : List (DeskView V)) (callers : List Caller) (flow : FlowView) (before after : Book) (exchange : ExchangeView) (result : Result Gathered OpAnswer)
    → IsSafe (view_of last_proposer council acceptors desks callers flow before) → (council_view council).exchange ≡ Some exchange
    → GathersIn (era_in council.eras.0 0) exchange (council_view council) before after result (council_view now) → now.eras ≡ council.eras
    → Gathers (view_of last_proposer council acceptors desks callers flow before) exchange (view_of last_proposer now acceptors desks callers flow after)
gathers_in_so {S} {V} last_proposer council now acceptors desks callers flow before after exchange result safe is_open (plain by same) eras =
    subst (λ (b : Book). Gathers (view_of last_proposer council acceptors desks callers flow before) exchange (view_of last_proposer now acceptors desks callers flow b)) (sym same)
    (gathers_so last_proposer council now acceptors desks callers flow before exchange result safe is_open by eras)
gathers_in_so {S} {V} last_proposer council now acceptors desks callers flow before after exchange result safe is_open (read key era agreement found kept marks up question reads has keeps made are room agrees told next) eras =
    steps.read key era kept marks up question reads keeps made
    ((λ i. record (view_of last_proposer council acceptors desks callers flow before) { eras = (eras i).0; council = next i; marks = are i }))

pub gathered_in_reserves : {S V : Type 0} (era : Era) (view : View S V) (exchange : ExchangeView) (new : cluster.Council) (before after : Book) (result : Result Gathered OpAnswer) → IsSafe view
    → view.council.exchange ≡ Some exchange → GathersIn era exchange view.council before after result new
    → reserved_by new + before.room ≤ reserved_by view.council + after.room
gathered_in_reserves era view exchange new before after result safe is_open (plain by same) =
    omega (arith, gathered_reserves era exchange view.council new result is_open by, ap (λ (b : Book). b.room) same)
gathered_in_reserves era view exchange new before after result safe is_open (read key its agreement found kept marks up question reads has keeps made are room agrees told next) =
    omega (arith, ap reserved_by next, told_reserves view.council.order (op.Probed key kept), room, read_fits view exchange key its (reverse before.marks) marks safe is_open reads made, ap reserved_for_exchange is_open)

pub gathered_in_ok : {S V : Type 0} (era : Era) (old new : View S V) (order : OrderView) (exchange : ExchangeView) (before after : Book) (result : Result Gathered OpAnswer) → IsSafe old
    → old.council.order ≡ Some order → old.council.exchange ≡ Some exchange
    → GathersIn era exchange old.council before after result new.council → IfOk result (λ found. HasGathered old found new)
gathered_in_ok era old new order exchange before after result safe is_order is_open (plain by same) = gathered_ok era old new order exchange result is_order is_open by
gathered_in_ok era old new order exchange before after result safe is_order is_open (read key its agreement found kept marks up question reads has keeps made are room agrees told next) =
    subst (λ (r : Result Gathered OpAnswer). IfOk r (λ found. HasGathered old found new)) (sym told)
    (asked.read exchange key its agreement found is_open question reads (read_is_safe old exchange its safe is_open reads) refl has agrees (was_told new order (op.Probed key kept) (op.Probed key found) old.council None is_order next (refl, keeps ∙ sym has)))

pub gathered_in_less : (era : Era) (exchange : ExchangeView) (old new : cluster.Council) (before after : Book) (result : Result Gathered OpAnswer)
    → GathersIn era exchange old before after result new → result ≡ Ok gathered.More → left_to_list new.plan < left_to_list old.plan
gathered_in_less era exchange old new before after result (plain by same) more = gathered_less era exchange old new result by more
gathered_in_less era exchange old new before after result (read key its agreement found kept marks up question reads has keeps made are room agrees told next) more = absurd (cc (told, more))

pub gathered_in_err : {S V : Type 0} (era : Era) (old new : View S V) (order : OrderView) (exchange : ExchangeView) (before after : Book) (result : Result Gathered OpAnswer)
    → old.council.order ≡ Some order
    → GathersIn era exchange old.council before after result new.council → IfErr result (WasToldOrder new)
gathered_in_err era old new order exchange before after result is_order (plain by same) = gathered_err era old new order exchange result is_order by
gathered_in_err era old new order exchange before after result is_order (read key its agreement found kept marks up question reads has keeps made are room agrees told next) =
    subst (λ (r : Result Gathered OpAnswer). IfErr r (WasToldOrder new)) (sym told) tt

-- what is told without a finding says why it was stopped
gathered_stops : (era : Era) (exchange : ExchangeView) (old new : cluster.Council) (result : Result Gathered OpAnswer) → GathersAs era exchange old result new → IfErr result IsStopped
gathered_stops era exchange old new result (crashed down told next) = subst (λ (r : Result Gathered OpAnswer). IfErr r IsStopped) (sym told) tt
gathered_stops era exchange old new result (probed key found kept up question plain_one has keeps told next) = subst (λ (r : Result Gathered OpAnswer). IfErr r IsStopped) (sym told) tt
gathered_stops era exchange old new result (lists of listing up is_keys enough on less told next) = subst (λ (r : Result Gathered OpAnswer). IfErr r IsStopped) (sym told) tt
gathered_stops era exchange old new result (is_short of short up is_keys missing told next) = subst (λ (r : Result Gathered OpAnswer). IfErr r IsStopped) (sym told) tt
gathered_stops era exchange old new result (no_memory up told next) = subst (λ (r : Result Gathered OpAnswer). IfErr r IsStopped) (sym told) tt

pub gathered_in_stops : (era : Era) (exchange : ExchangeView) (old new : cluster.Council) (before after : Book) (result : Result Gathered OpAnswer)
    → GathersIn era exchange old before after result new → IfErr result IsStopped
gathered_in_stops era exchange old new before after result (plain by same) = gathered_stops era exchange old new result by
gathered_in_stops era exchange old new before after result (read key its agreement found kept marks up question reads has keeps made are room agrees told next) =
    subst (λ (r : Result Gathered OpAnswer). IfErr r IsStopped) (sym told) tt
