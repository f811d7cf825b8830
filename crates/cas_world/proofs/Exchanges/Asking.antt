-- How an exchange opens, or why not.
use Rattle.std.proofs.Common.{sym, refl, ◌≡◌, ◌<◌, ◌≤◌, ℕ, Bool, true, false, List, [], ◌∷◌, Option, None, Some, slice_set, ap, subst, ◌∙◌, arith, length}
use Rattle.std.specs.Prelude.{◌+◌, ◌^◌, ◌==◌, ◌&&◌, not, if◌then◌else◌, IfSome, option_map}
use Rattle.cas_acceptor.specs.Acceptor.{AcceptorView}
use Rattle.cas_ballot.specs.Ballot.{FitsBallot}
use Rattle.cas_ballot.specs.Members.{IsMemberSet, has_member, members_where}
use Rattle.cas_ballot.specs.declared.ballot.Ballot.{Ballot}
use Rattle.cas_ballot.proofs.MemberLemmas.{IsMemberSet-members_where}
use Rattle.cas_flow.specs.Flow.{FlowView, queue_at}
use Rattle.cas_vault.specs.Vault.{counter_of, kept_of}
use Rattle.cas_proposer.specs.Desk.{DeskView}
use Rattle.cas_record.specs.Book.{Book}
use Rattle.cas_record.specs.declared.answer.Answer.{Answer}
use Rattle.cas_record.specs.declared.answer.Answer.TheVariants as answer
use Rattle.cas_record.specs.declared.operator.OpAnswer.{OpAnswer}
use Rattle.cas_record.specs.declared.operator.OpAnswer.TheVariants as op
use Rattle.cas_model.specs.Council as cluster
use Rattle.cas_model.specs.Council.{Place, GoesOn, ListingView, PlanView, place_in, has_ended, Question, NextKeys, exchange_place, telling, Probe, OrderView, MemberPlace, marks_of_read}
use Rattle.cas_model.specs.Safe.{IsSafe}
use Rattle.cas_model.specs.Calls.Step.{Sends}
use Rattle.cas_model.specs.Exchanges.Step as steps
use Rattle.cas_model.specs.Exchanges.Step.{asked_by, begun_listing, listing_begun, listing_for, listing_in, places_from, plan_asked, questions_to, TagsAll, IsForQuestion, WhereDrawn, MayAskAll, AsksAll, everyone, told_view, new_exchange, with_council, read_era, reads_by, asks_to_read, IsProbeOf}
use Rattle.cas_model.specs.Calls.Desks.{FailsToDraw}
use Rattle.cas_model.specs.View.{Meaning, DiskMeaning, View, CallView, IsAt, era_at, with_desk, reserved_in_all}
use Rattle.cas_model.proofs.Calls.Safe.{none_open}
use Rattle.cas_model.proofs.Safety.Marks.{full_for_exchanges}
use Rattle.cas_model.proofs.Safety.Parts.{at_low}
use Rattle.cas_world.specs.Calls.Beginning.{HasNoCall}
use Rattle.cas_world_calls.specs.Council.{council_view, exchange_view, goes_on_in, with_begun}
use Rattle.cas_world.specs.Exchanges.Exchange.{MayAskMembers, OpensExchange, FailsToAsk, asked_from, begins_with, question_from, question_in, MayAskKey, MayAskQuery, marks_to_ask}
use Rattle.cas_world.specs.World.{view_of, IsWorld}
use Rattle.cas_world_calls.specs.declared.call.Caller.{Caller}
use Rattle.cas_world_calls.specs.declared.council.Council.{Council}
use Rattle.cas_world_calls.specs.declared.council.Query.{Query}
use Rattle.cas_world_calls.specs.declared.council.Query.TheVariants as what
use Rattle.cas_world_calls.specs.declared.council.Opened.{Opened}
use Rattle.cas_world.proofs.Parts.{Remembers, set_same}
use Rattle.cas_world.proofs.Stops.Stops.{copies_closed}
use Rattle.cas_quorum.specs.declared.era.Era.{Era}
use Rattle.cas_record.specs.declared.operator.Asked.{Asked}
use Rattle.cas_record.specs.declared.operator.Asked.TheVariants as asked

-- ---- who is asked what
-- nobody's listing has ended that has just begun
not_either : (b : Bool) (place : Place) → has_ended place ≡ false → has_ended (if b then GoesOn None else place) ≡ false
not_either true place is = refl
not_either false place is = is

none_ended : (members : List ℕ) (member : ℕ) → has_ended (place_in (places_from members None) member) ≡ false
none_ended [] member = refl
none_ended (one ∷ members) member = not_either (one == member) (place_in (places_from members None) member) (none_ended members member)

and_true : (b : Bool) → (b && true) ≡ b
and_true true = refl
and_true false = refl

asked_first : (members : List ℕ) → IsMemberSet members → members_where (λ member. has_member members member && not (has_ended (place_in (places_from members None) member))) ≡ members
asked_first members set =
    (λ i. members_where (λ member. (ap (λ (b : Bool). has_member members member && not b) (none_ended members member) ∙ and_true (has_member members member)) i)) ∙ sym set.lists

-- the members that a question goes to are those that the world asks
pub asked_is : {S V : Type 0} (view : View S V) (asking : Query) → asked_from (everyone view) (goes_on_in view.council asking) ≡ asked_by view (question_in view asking)
asked_is view (what.Probe key) = refl
asked_is view (what.Read key) = refl
asked_is {S} {V} view what.List = by_listing (listing_in view.council.plan)
  where
    by_listing : (o : Option ListingView) → asked_from (everyone view) o ≡ asked_by view (NextKeys (places_from (everyone view) o))
    by_listing None = sym (asked_first (everyone view) (IsMemberSet-members_where _))
    by_listing (Some listing) = refl

-- a listing goes on where the next keys are asked for
goes_on_is : {S V : Type 0} (view : View S V) (asking : Query) → goes_on_in view.council asking ≡ listing_for view.council (question_in view asking)
goes_on_is view (what.Probe key) = refl
goes_on_is view (what.Read key) = refl
goes_on_is view what.List = refl

-- where none begins the plan stays
none_begun : (o : Option PlanView) → option_map (with_begun None) o ≡ o
none_begun None = refl
none_begun (Some plan) = refl

-- and one that begins is noted
plan_begun : (members : List ℕ) (council : cluster.Council) (asking : Query) (tag : Ballot)
    → option_map (with_begun (begins_with members (goes_on_in council asking) asking tag)) council.plan ≡ plan_asked (question_from members (goes_on_in council asking) asking) tag council.plan
plan_begun members council (what.Probe key) tag = none_begun council.plan
plan_begun members council (what.Read key) tag = none_begun council.plan
plan_begun members council what.List tag = by_plan council.plan
  where
    by_listing : (plan : PlanView) (o : Option ListingView) → plan.listing ≡ o
        → with_begun (begins_with members o what.List tag) plan ≡ record plan { listing = Some (begun_listing (places_from members o) tag o) }
    by_listing plan None is = refl
    by_listing plan (Some listing) is = λ i. record plan { listing = is i }

    by_plan : (o : Option PlanView) → option_map (with_begun (begins_with members (listing_in o) what.List tag)) o ≡ option_map (listing_begun (places_from members (listing_in o)) tag) o
    by_plan None = refl
    by_plan (Some plan) =
        ap (λ (p : PlanView). Some p)
        (by_listing plan plan.listing refl)

-- ---- what is asked for it
-- proposer 0 has no open round where its caller has no open call
pub idle_first : {S V : Type 0} (view : View S V) (desk : DeskView V) → IsSafe view → HasNoCall view 0 → IsAt view.desks 0 desk → desk.round ≡ None
idle_first {S} {V} view desk safe none at =
    none_open (era_at view 0) (length view.marks) 0 desk none.caller (queue_at view.flow 0) none.none_open (safe.sound.parties 0 desk none.caller at none.at_caller)

pub may_ask : {S V : Type 0} (view : View S V) (question : Question) (desk : DeskView V) → IsSafe view → MayAskMembers view question → IsAt view.desks 0 desk → MayAskAll view question desk
may_ask {S} {V} view question desk safe may at = record {
  order = may.order;
  is_open = may.is_open;
  is_for = subst (λ (c : Option CallView). IsForQuestion (everyone view) view.council c may.order.asked question) (sym may.idle.none_open) may.is_for;
  none_open = may.none_open;
  caller = may.idle.caller;
  at_caller = may.idle.at_caller;
  at_desk = at;
  idle = idle_first view desk safe may.idle at;
}

-- which query the open call is for
pub query_of : {S V : Type 0} (view : View S V) (key : List ℕ) → MayAskKey view (asked.Probe key) → MayAskQuery view (what.Probe key)
query_of view key by = record {
  may = record { order = by.order; is_open = by.is_open; is_for = subst (λ (a : Asked). IsProbeOf a key) (sym by.is_for) refl; none_open = by.none_open; idle = by.idle };
  reads = ap (λ (o : Option OrderView). if reads_by o (Probe key) then Some (era_at view 0) else None) by.is_open ∙ ap (λ (a : Asked). if asks_to_read a then Some (era_at view 0) else None) by.is_for;
}

pub read_query_of : {S V : Type 0} (view : View S V) (key : List ℕ) → MayAskKey view (asked.Read key) → MayAskQuery view (what.Read key)
read_query_of view key by = record {
  may = record { order = by.order; is_open = by.is_open; is_for = subst (λ (a : Asked). IsProbeOf a key) (sym by.is_for) refl; none_open = by.none_open; idle = by.idle };
  reads = ap (λ (o : Option OrderView). if reads_by o (Probe key) then Some (era_at view 0) else None) by.is_open ∙ ap (λ (a : Asked). if asks_to_read a then Some (era_at view 0) else None) by.is_for;
}

reads_none : (order : Option OrderView) (places : List MemberPlace) (era : Era) → (if reads_by order (NextKeys places) then Some era else None) ≡ None
reads_none None places era = refl
reads_none (Some order) places era = refl

pub list_query_of : {S V : Type 0} (view : View S V) → MayAskMembers view (question_in view what.List) → MayAskQuery view what.List
list_query_of view by = record { may = by; reads = reads_none view.council.order (places_from (everyone view) (goes_on_in view.council what.List)) (era_at view 0) }

-- the tag of a listing is within its limits
pub tag_fits : {S V : Type 0} (view : View S V) (asking : Query) → IsSafe view → IfSome (goes_on_in view.council asking) (λ listing. FitsBallot listing.tag)
tag_fits view (what.Probe key) safe = tt
tag_fits view (what.Read key) safe = tt
tag_fits {S} {V} view what.List safe = by_plan view.council.plan refl
  where
    by_listing : (plan : PlanView) (o : Option ListingView) → view.council.plan ≡ Some plan → plan.listing ≡ o → IfSome o (λ listing. FitsBallot listing.tag)
    by_listing plan None is_plan is = tt
    by_listing plan (Some listing) is_plan is = (safe.sound.council.0 plan listing is_plan is).tag

    by_plan : (o : Option PlanView) → view.council.plan ≡ o → IfSome (listing_in o) (λ listing. FitsBallot listing.tag)
    by_plan None is = tt
    by_plan (Some plan) is = by_listing plan plan.listing is refl

-- ---- it opens
pub asks : {S V : Type 0} (m : Meaning S V) (last_proposer : ℕ) (council council_now : Council) (acceptors : List (AcceptorView S)) (desks : List (DeskView V)) (desk now : DeskView V) (callers : List Caller) (flow flow_now : FlowView) (before after : Book) (asking : Query) (reads : Option Era) (opened : Opened)
    → OpensExchange m.disks desk now flow flow_now (everyone (view_of last_proposer council acceptors desks callers flow before)) (goes_on_in (council_view council) asking) asking (length before.marks) reads opened
    → read_era (view_of last_proposer council acceptors desks callers flow before) (question_in (view_of last_proposer council acceptors desks callers flow before) asking) ≡ reads
    → length before.marks + reserved_in_all (view_of last_proposer council acceptors desks callers flow before) + marks_to_ask reads (asked_from (everyone (view_of last_proposer council acceptors desks callers flow before)) (goes_on_in (council_view council) asking)) ≤ 1000000
    → after.marks ≡ before.marks → council_now.eras ≡ council.eras
    → council_view council_now ≡ record (council_view council) { exchange = Some (exchange_view opened.exchange); plan = option_map (with_begun opened.begun) (council_view council).plan }
    → AsksAll m (view_of last_proposer council acceptors desks callers flow before) (question_in (view_of last_proposer council acceptors desks callers flow before) asking) desk (view_of last_proposer council_now acceptors (slice_set desks 0 now) callers flow_now after)
asks {S} {V} m last_proposer council council_now acceptors desks desk now callers flow flow_now before after asking reads opened opens its_era room marks eras is =
    let old : View S V = view_of last_proposer council acceptors desks callers flow before in
    let members = asked_is old asking in
    steps.asks now opens.tag flow_now opens.up
    (omega (arith, room, ap (λ (l : List ℕ). length l) members, ap (λ (l : List ℕ). marks_of_read reads l) members, ap (λ (r : Option Era). marks_of_read r (asked_by old (question_in old asking))) its_era))
    (subst (λ (o : Option ListingView). TagsAll m.disks o desk now opens.tag) (goes_on_is old asking) opens.tagged)
    opens.desk
    (subst (λ (l : List ℕ). Sends flow exchange_place (questions_to (kept_of desk.vault).age opens.tag (question_in old asking) l) flow_now) members opens.sends)
    ((λ i. record old { eras = (eras i).0; desks = slice_set desks 0 now; flow = flow_now; marks = marks i; council = is i })
    ∙ (λ i. record old {
      desks = slice_set desks 0 now;
      flow = flow_now;
      council = record (council_view council) {
        exchange = Some (opens.exchange i);
        plan = (ap (λ (b : Option ListingView). option_map (with_begun b) (council_view council).plan) opens.begun ∙ plan_begun (everyone old) (council_view council) asking opens.tag) i;
      };
    })
    ∙ ap (λ (l : List ℕ). with_council (record (with_desk old 0 now) { flow = flow_now }) (record old.council { exchange = Some (new_exchange (question_in old asking) opens.tag l (length before.marks) reads); plan = plan_asked (question_in old asking) opens.tag old.council.plan })) members
    ∙ ap (λ (r : Option Era). with_council (record (with_desk old 0 now) { flow = flow_now }) (record old.council { exchange = Some (new_exchange (question_in old asking) opens.tag (asked_by old (question_in old asking)) (length before.marks) r); plan = plan_asked (question_in old asking) opens.tag old.council.plan })) (sym its_era))

-- the desk has no open round then
pub idle_then : {V : Type 0} (m : DiskMeaning V) (desk now : DeskView V) (goes_on : Option ListingView) (marks : ℕ) (refusal : Answer) → desk.round ≡ None
    → FailsToAsk m desk now goes_on marks refusal → now.round ≡ None
idle_then {V} m desk now goes_on marks answer.Down idle fails = ap (λ (d : DeskView V). d.round) fails.1 ∙ idle
idle_then {V} m desk now goes_on marks answer.RecordFull idle fails = ap (λ (d : DeskView V). d.round) fails.1 ∙ idle
idle_then {V} m desk now goes_on marks answer.Spent idle fails = ap (λ (d : DeskView V). d.round) fails.3 ∙ idle
idle_then {V} m desk now None marks answer.VaultFault idle fails = ap (λ (d : DeskView V). d.round) fails.1.desk
idle_then {V} m desk now (Some listing) marks answer.VaultFault idle fails = absurd fails.1
idle_then {V} m desk now goes_on marks (answer.NoMemory proposed) idle fails = ap (λ (d : DeskView V). d.round) fails.3.desk
idle_then {V} m desk now goes_on marks (answer.Done state took ballot) idle fails = absurd fails
idle_then {V} m desk now goes_on marks (answer.Conflict met) idle fails = absurd fails
idle_then {V} m desk now goes_on marks (answer.Aged least) idle fails = absurd fails
idle_then {V} m desk now goes_on marks (answer.Full acceptor) idle fails = absurd fails
idle_then {V} m desk now goes_on marks (answer.Short got need) idle fails = absurd fails
idle_then {V} m desk now goes_on marks (answer.Moved era) idle fails = absurd fails
idle_then {V} m desk now goes_on marks answer.Crashed idle fails = absurd fails
idle_then {V} m desk now goes_on marks (answer.Unsettled why) idle fails = absurd fails

-- or the open call is told why not
pub asks_not : {S V : Type 0} (m : Meaning S V) (old new : View S V) (asking : Query) (reads : Option Era) (desk now : DeskView V) (marks : ℕ) (refusal : Answer) → IsAt old.desks 0 desk
    → read_era old (question_in old asking) ≡ reads
    → marks ≡ length old.marks + reserved_in_all old + marks_to_ask reads (asked_from (everyone old) (goes_on_in old.council asking))
    → FailsToAsk m.disks desk now (goes_on_in old.council asking) marks refusal → new ≡ told_view (with_desk old 0 now) (op.Stopped refusal) → AsksAll m old (question_in old asking) desk new
asks_not {S} {V} m old new asking reads desk now marks answer.Down at its_era count fails is =
    steps.is_down fails.0 (is ∙ ap (λ (l : List (DeskView V)). told_view (record old { desks = l }) (op.Stopped answer.Down)) (ap (slice_set old.desks 0) fails.1 ∙ set_same old.desks 0 desk at))
asks_not {S} {V} m old new asking reads desk now marks answer.RecordFull at its_era count fails is =
    steps.is_full fails.0 (λ room. omega (arith, room, count, fails.2, ap (λ (l : List ℕ). length l) (asked_is old asking), ap (λ (l : List ℕ). marks_of_read reads l) (asked_is old asking), ap (λ (r : Option Era). marks_of_read r (asked_by old (question_in old asking))) its_era)) (is ∙ ap (λ (l : List (DeskView V)). told_view (record old { desks = l }) (op.Stopped answer.RecordFull)) (ap (slice_set old.desks 0) fails.1 ∙ set_same old.desks 0 desk at))
asks_not {S} {V} m old new asking reads desk now marks answer.Spent at its_era count fails is =
    steps.is_spent now fails.0 (subst (λ (o : Option ListingView). WhereDrawn o (counter_of desk.vault ≡ 2 ^ 48)) (goes_on_is old asking) fails.1) fails.2 fails.3 is
asks_not {S} {V} m old new asking reads desk now marks answer.VaultFault at its_era count fails is =
    steps.fails now fails.0 (subst (λ (o : Option ListingView). WhereDrawn o (FailsToDraw m.disks desk.cache desk now)) (goes_on_is old asking) fails.1) is
asks_not {S} {V} m old new asking reads desk now marks (answer.NoMemory proposed) at its_era count fails is =
    steps.no_memory now fails.2 fails.1 fails.3 (is ∙ ap (λ (p : _). told_view (with_desk old 0 now) (op.Stopped (answer.NoMemory p))) fails.0)
asks_not m old new asking reads desk now marks (answer.Done state took ballot) at its_era count fails is = absurd fails
asks_not m old new asking reads desk now marks (answer.Conflict met) at its_era count fails is = absurd fails
asks_not m old new asking reads desk now marks (answer.Aged least) at its_era count fails is = absurd fails
asks_not m old new asking reads desk now marks (answer.Full acceptor) at its_era count fails is = absurd fails
asks_not m old new asking reads desk now marks (answer.Short got need) at its_era count fails is = absurd fails
asks_not m old new asking reads desk now marks (answer.Moved era) at its_era count fails is = absurd fails
asks_not m old new asking reads desk now marks answer.Crashed at its_era count fails is = absurd fails
asks_not m old new asking reads desk now marks (answer.Unsettled why) at its_era count fails is = absurd fails

-- and a record that is full then is long
pub full_to_ask : {S V : Type 0} (m : DiskMeaning V) (old : View S V) (asking : Query) (reads : Option Era) (desk now : DeskView V) (marks : ℕ) (refusal : Answer) → IsSafe old
    → read_era old (question_in old asking) ≡ reads
    → marks ≡ length old.marks + reserved_in_all old + marks_to_ask reads (asked_from (everyone old) (goes_on_in old.council asking))
    → FailsToAsk m desk now (goes_on_in old.council asking) marks refusal → refusal ≡ answer.RecordFull → 999000 < length old.marks
full_to_ask m old asking reads desk now marks refusal safe its_era count fails is =
    let so : FailsToAsk m desk now (goes_on_in old.council asking) marks answer.RecordFull = subst (λ (a : Answer). FailsToAsk m desk now (goes_on_in old.council asking) marks a) is fails in
    full_for_exchanges old (question_in old asking) safe (λ room. omega (arith, room, count, so.2, ap (λ (l : List ℕ). length l) (asked_is old asking), ap (λ (l : List ℕ). marks_of_read reads l) (asked_is old asking), ap (λ (r : Option Era). marks_of_read r (asked_by old (question_in old asking))) its_era))

-- what is seen where the desk changes, and the call is told
pub refused_seen : {S V : Type 0} (last_proposer : ℕ) (council now_council : Council) (acceptors : List (AcceptorView S)) (desks : List (DeskView V)) (now : DeskView V) (callers : List Caller) (flow flow_now : FlowView) (before after : Book) (answer : OpAnswer)
    → now_council.eras ≡ council.eras → council_view now_council ≡ telling (council_view council) answer → flow_now ≡ flow → after.marks ≡ before.marks
    → view_of last_proposer now_council acceptors (slice_set desks 0 now) callers flow_now after ≡ told_view (with_desk (view_of last_proposer council acceptors desks callers flow before) 0 now) answer
refused_seen last_proposer council now_council acceptors desks now callers flow flow_now before after answer eras is flows marks =
    λ i. record (view_of last_proposer council acceptors (slice_set desks 0 now) callers flow before) { eras = (eras i).0; council = is i; flow = flows i; marks = marks i }

-- the first desk is that of proposer 0
pub first_id : {S V : Type 0} (old : View S V) (desk : DeskView V) → IsSafe old → IsAt old.desks 0 desk → desk.id ≡ 0
first_id old desk safe at = let caller = at_low old.callers 0 (omega (arith, safe.sound.callers)) in (safe.sound.parties 0 desk caller.0 at caller.1).same_id

-- what the world keeps true where its desk changes that has no round
pub asked_world : {S V : Type 0} {m : Meaning S V} (old new : View S V) (now : DeskView V) (callers : List Caller) (left after : ℕ) → IsWorld m old callers left → now.round ≡ None
    → new.desks ≡ slice_set old.desks 0 now → IsSafe new → Remembers m new → reserved_in_all new ≤ after → IsWorld m new callers after
asked_world {S} {V} old new now callers left after was none desks safe remembered room = record {
  safe = safe;
  room = room;
  copies = λ id desk caller at_desk at_caller. copies_closed old.desks callers 0 now none was.copies id desk caller (subst (λ (l : List (DeskView V)). IsAt l id desk) desks at_desk) at_caller;
  remembered = remembered;
}
