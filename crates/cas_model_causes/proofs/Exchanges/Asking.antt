-- Whatever is called on a cluster in which no proposer is started again, proposer 0 is not ahead of its marks, and a probe asks everyone.
use Rattle.std.proofs.Common.{◌≡◌, ◌<◌, ℕ, suc, Bool, true, false, List, length, Option, None, Some, option_map, slice_set, refl, sym, ap, subst, ◌∙◌, inl, inr, arith}
use Rattle.std.specs.Prelude.{◌==◌, ◌&&◌, if◌then◌else◌, drop, Result}
use Rattle.cas_ballot.specs.declared.ballot.Ballot.{Ballot}
use Rattle.cas_ballot.specs.Members.{has_member, union_of}
use Rattle.cas_fate.specs.declared.fate.Verdict.{Verdict}
use Rattle.cas_members.specs.Steps.{Progress}
use Rattle.cas_proposer.specs.Desk.{DeskView}
use Rattle.cas_quorum.specs.declared.era.Era.{Era}
use Rattle.cas_quorum.specs.declared.fault.PlanFault.{PlanFault}
use Rattle.cas_record.specs.declared.answer.Answer.{Answer}
use Rattle.cas_record.specs.declared.answer.Answer.TheVariants as answer
use Rattle.cas_record.specs.declared.answer.Cause.TheVariants as cause
use Rattle.cas_record.specs.declared.operator.Asked.{Asked}
use Rattle.cas_record.specs.declared.operator.Asked.TheVariants as asked
use Rattle.cas_record.specs.declared.operator.OpAnswer.{OpAnswer}
use Rattle.cas_record.specs.declared.operator.OpAnswer.TheVariants as op
use Rattle.cas_model.specs.Collection.State.{CollectionView, tomb_of}
use Rattle.cas_model.specs.Council.{MemberPlace, ListingView, Question, Probe, NextKeys, NewAges, Removal, ExchangeView, OrderView, PlanView, Council, with_listing, without_partial, stepped, telling, told_so, broken_off, crashed_in}
use Rattle.cas_model.specs.Eras.Course.{Course, course_of, entries_in, entering, next_era, CourseIsUnderWay, IsCourse, not_yet, entered}
use Rattle.cas_model.specs.Safe.{IsSafe}
use Rattle.cas_model.specs.Step as step
use Rattle.cas_model.specs.Step.{Step, StepEnd}
use Rattle.cas_model.specs.Calls.Step as calls
use Rattle.cas_model.specs.Collection.Step as collect
use Rattle.cas_model.specs.Exchanges.Step as council
use Rattle.cas_model.specs.Exchanges.Step.{IsProbeOf, everyone}
use Rattle.cas_model.specs.Calls.Desks.{Crashes, EntersEra, FailsToEnter, Renews, FailsToRenew}
use Rattle.cas_model.specs.Eras.Step as plans
use Rattle.cas_model.specs.Stops.Step as stops
use Rattle.cas_model.specs.Stops.Step.{GoesDown, closed_by, closed_by_crash}
use Rattle.cas_model.specs.View.{Meaning, View, era_in, era_at}
use Rattle.cas_model.proofs.Eras.Courses.{course, era_set, era_kept, leads}
use Rattle.cas_model.proofs.Eras.CourseSteps.{welcome_course, enters_course}
use Rattle.cas_model.proofs.Eras.OnCourse.{Leads, on_course, down_course}
use Rattle.cas_model.proofs.Places.{some_is, same_or_not}
use Rattle.cas_model.proofs.Eras.Plans.{planned_starts}
use Rattle.cas_model.proofs.Eras.Rescanning.{rescan_asks}
use Rattle.cas_model.proofs.Collection.SafeCollecting.{Frame, frame_of, begin_frame, turn_frame, no_room_frame, propose_frame, count_frame, stray_frame, stop_frame, start_frame, left_frame}
use Rattle.cas_model_causes.specs.Exchanges.Confirmed.{IsAhead, IsUnled, is_change, IsForProbe, IsAskingAll, ProbesAskAll, ConfirmersAreProbed}
use Rattle.cas_model_causes.proofs.Exchanges.Confirmed.{eras_are_marked, confirmers_are_asked}

-- ---- plans that go on
-- with a listing it is of the same era, and has led as many
record IsSamePlan (old new : PlanView) : Type 0 where
  asked : new.asked ≡ old.asked
  entered : new.entered ≡ old.entered
  era : new.progress.era ≡ old.progress.era

listed_same : (plan : PlanView) (listing : ListingView) → IsSamePlan plan (with_listing plan listing)
listed_same plan listing = by_test (listing.complete && (length listing.keys == 0))
  where
    by_test : (b : Bool) → IsSamePlan plan (if b then stepped plan else record plan { listing = Some listing })
    by_test true = record { asked = refl; entered = refl; era = refl }
    by_test false = record { asked = refl; entered = refl; era = refl }

same_mapped : (f : PlanView → PlanView) → ((plan : PlanView) → IsSamePlan plan (f plan)) → (was : Option PlanView) (now : PlanView) → option_map f was ≡ Some now
    → (plan : PlanView) × (was ≡ Some plan) × IsSamePlan plan now
same_mapped f same None now is = absurd (cc is)
same_mapped f same (Some plan) now is = (plan, refl, subst (IsSamePlan plan) (some_is is) (same plan))

-- ---- what goes on
-- each change of membership that is under way, each exchange and the open call ask what they asked
record AsksOn (old new : Council) : Type 0 where
  exchange : (now : ExchangeView) → new.exchange ≡ Some now
      → (before : ExchangeView) × (old.exchange ≡ Some before) × (now.question ≡ before.question) × (now.members ≡ before.members) × (now.reads ≡ before.reads)
  order : (before : OrderView) → old.order ≡ Some before → (now : OrderView) × (new.order ≡ Some now) × (now.asked ≡ before.asked)
  plan : (now : PlanView) → new.plan ≡ Some now → (before : PlanView) × (old.plan ≡ Some before) × (now.asked ≡ before.asked)

goes_same : (council : Council) → AsksOn council council
goes_same council = record { exchange = λ now is. (now, is, refl, refl, refl); order = λ before is. (before, is, refl); plan = λ now is. (now, is, refl) }

goes_both : (a b c : Council) → AsksOn a b → AsksOn b c → AsksOn a c
goes_both a b c first second = record {
  exchange = λ now is. let mid = second.exchange now is in let had = first.exchange mid.0 mid.1 in (had.0, had.1, mid.2 ∙ had.2, mid.3 ∙ had.3, mid.4 ∙ had.4);
  order = λ before is. let mid = first.order before is in let then_ = second.order mid.0 mid.1 in (then_.0, then_.1, then_.2 ∙ mid.2);
  plan = λ now is. let mid = second.plan now is in let had = first.plan mid.0 mid.1 in (had.0, had.1, mid.2 ∙ had.2);
}

goes_told : (council : Council) (told : OpAnswer) → AsksOn council (telling council told)
goes_told council told = record { exchange = λ now is. (now, is, refl, refl, refl); order = λ before is. (told_so told before, ap (option_map (told_so told)) is, refl); plan = λ now is. (now, is, refl) }

goes_broken : (council : Council) → AsksOn council (crashed_in council)
goes_broken council = record { exchange = λ now is. by_exchange council.exchange refl now is; order = λ before is. (before, is, refl); plan = λ now is. (now, is, refl) }
  where
    by_exchange : (open_ : Option ExchangeView) → council.exchange ≡ open_ → (now : ExchangeView) → option_map broken_off open_ ≡ Some now
        → (before : ExchangeView) × (council.exchange ≡ Some before) × (now.question ≡ before.question) × (now.members ≡ before.members) × (now.reads ≡ before.reads)
    by_exchange None none now is = absurd (cc is)
    by_exchange (Some before) has now is =
        (before, has, ap (λ (e : ExchangeView). e.question) (sym (some_is is)), ap (λ (e : ExchangeView). e.members) (sym (some_is is)), ap (λ (e : ExchangeView). e.reads) (sym (some_is is)))

-- a collection goes on
goes_collecting : (council : Council) (order : OrderView) (told : Option OpAnswer) (collection : Option CollectionView) → council.order ≡ Some order
    → AsksOn council (record council { order = Some (record order { told = told }); collection = collection })
goes_collecting council order told collection is_open = record {
  exchange = λ now is. (now, is, refl, refl, refl);
  order = λ before is. (record order { told = told }, refl, ap (λ (o : OrderView). o.asked) (some_is (sym is_open ∙ is)));
  plan = λ now is. (now, is, refl);
}

-- its exchange goes on
goes_asking : (council : Council) (before now : ExchangeView) → council.exchange ≡ Some before → now.question ≡ before.question → now.members ≡ before.members → now.reads ≡ before.reads
    → AsksOn council (record council { exchange = Some now })
goes_asking council before now is_open question members reads = record {
  exchange = λ next is. (before, is_open, ap (λ (e : ExchangeView). e.question) (sym (some_is is)) ∙ question, ap (λ (e : ExchangeView). e.members) (sym (some_is is)) ∙ members, ap (λ (e : ExchangeView). e.reads) (sym (some_is is)) ∙ reads);
  order = λ order is. (order, is, refl);
  plan = λ plan is. (plan, is, refl);
}

rescans_plan : (old : Council) (id : ℕ) (key : List ℕ) (told : Answer) (next : Council) → calls.Rescans old id key told next → (plan : PlanView) → next.plan ≡ Some plan
    → (before : PlanView) × (old.plan ≡ Some before) × IsSamePlan before plan
rescans_plan old id key told next (calls.is_none none same) plan is = (plan, sym (ap (λ (c : Council). c.plan) same) ∙ is, record { asked = refl; entered = refl; era = refl })
rescans_plan old id key told next (calls.stops of undone same) plan is = (plan, sym (ap (λ (c : Council). c.plan) same) ∙ is, record { asked = refl; entered = refl; era = refl })
rescans_plan old id key told next (calls.rescans of done same) plan is =
    let counted : PlanView = record of.plan { rescanned = calls.one_more of.plan.rescanned } in
    let now : IsSamePlan counted plan =
    subst (IsSamePlan counted) (some_is (sym (ap (λ (c : Council). c.plan) same) ∙ is)) (listed_same counted (record of.listing { keys = drop 1 of.listing.keys })) in
    (of.plan, of.is_plan, record { asked = now.asked; entered = now.entered; era = now.era })

goes_rescan : (old : Council) (id : ℕ) (key : List ℕ) (told : Answer) (next : Council) → calls.Rescans old id key told next → AsksOn old next
goes_rescan old id key told next by = record {
  exchange = λ now is. (now, sym (rescan_asks old id key told next by) ∙ is, refl, refl, refl);
  order = λ before is. order by before is;
  plan = λ now is. let had = rescans_plan old id key told next by now is in (had.0, had.1, had.2.asked);
}
  where
    order : calls.Rescans old id key told next → (before : OrderView) → old.order ≡ Some before → (now : OrderView) × (next.order ≡ Some now) × (now.asked ≡ before.asked)
    order (calls.is_none none same) before is = (before, ap (λ (c : Council). c.order) same ∙ is, refl)
    order (calls.stops of undone same) before is = let then_ = (goes_told old (op.Stopped told)).order before is in (then_.0, ap (λ (c : Council). c.order) same ∙ then_.1, then_.2)
    order (calls.rescans of done same) before is = (before, ap (λ (c : Council). c.order) same ∙ is, refl)

-- of views
goes_framed : {S V : Type 0} (old new : View S V) → frame_of new ≡ frame_of old → AsksOn old.council new.council
goes_framed old new same = subst (AsksOn old.council) (sym (ap (λ (f : Frame). f.council) same)) (goes_same old.council)

goes_to : {S V : Type 0} (old changed new : View S V) → new ≡ changed → AsksOn old.council changed.council → AsksOn old.council new.council
goes_to {S} {V} old changed new is goes = subst (λ (w : View S V). AsksOn old.council w.council) (sym is) goes

goes_down : {S V : Type 0} (DeskTurns : DeskView V → DeskView V → Type 0) (old new : View S V) (id : ℕ) → GoesDown DeskTurns old id new → AsksOn old.council new.council
goes_down DeskTurns old new id (stops.of_client client leaves) = goes_framed old new (left_frame DeskTurns closed_by_crash old new id leaves)
goes_down DeskTurns old new id (stops.of_operator middle operator leaves is) =
    goes_both old.council middle.council new.council (goes_framed old middle (left_frame DeskTurns closed_by_crash old middle id leaves)) (goes_to middle _ new is (goes_broken middle.council))

-- ---- whom a probe asks
abbrev members_of : Era → List ℕ
members_of era = union_of era.prep era.acc

record IsCouncilAsked {S V : Type 0} (view : View S V) : Type 0 where
  changes : (plan : PlanView) → view.council.plan ≡ Some plan → is_change plan.asked ≡ true
  asks : (exchange : ExchangeView) (key : List ℕ) → view.council.exchange ≡ Some exchange → exchange.question ≡ Probe key
      → IsForProbe view.council key × (exchange.members ≡ everyone view) × ((era : Era) → exchange.reads ≡ Some era → era ≡ era_at view 0)

asked_then : {S V : Type 0} (old new : View S V) → AsksOn old.council new.council → era_at new 0 ≡ era_at old 0 → IsCouncilAsked old → IsCouncilAsked new
asked_then old new goes same was = record {
  changes = λ plan is. let had = goes.plan plan is in ap is_change had.2 ∙ was.changes had.0 had.1;
  asks = λ exchange key is_open asks.
      let had = goes.exchange exchange is_open in
      let before = was.asks had.0 key had.1 (sym had.2 ∙ asks) in
      let now = goes.order before.0.order before.0.is_open in
      (record { order = now.0; is_open = now.1; is_for = subst (λ (a : Asked). IsProbeOf a key) (sym now.2) before.0.is_for }, had.3 ∙ before.1 ∙ ap members_of (sym same), λ era reads. before.2 era (sym had.4 ∙ reads) ∙ sym same);
}

-- with no exchange nobody is asked
asked_none : {S V : Type 0} (old new : View S V) → ((plan : PlanView) → new.council.plan ≡ Some plan → (before : PlanView) × (old.council.plan ≡ Some before) × (plan.asked ≡ before.asked))
    → new.council.exchange ≡ None → IsCouncilAsked old → IsCouncilAsked new
asked_none old new plans none was = record {
  changes = λ plan is. let had = plans plan is in ap is_change had.2 ∙ was.changes had.0 had.1;
  asks = λ exchange key is_open asks. absurd (cc (sym none ∙ is_open));
}

-- a probe is no change of membership
no_change : (of : Asked) (key : List ℕ) → IsProbeOf of key → is_change of ≡ true → ⊥
no_change (asked.Probe k) key is_for change = cc change
no_change (asked.Read k) key is_for change = cc change
no_change (asked.Join id) key is_for change = is_for
no_change (asked.Leave id) key is_for change = is_for
no_change (asked.Resize need_prep need_acc) key is_for change = is_for
no_change (asked.Collect k) key is_for change = is_for

-- a key is read in the era of proposer 0
read_in : (b : Bool) (now era : Era) → (if b then Some now else None) ≡ Some era → era ≡ now
read_in true now era is = sym (some_is is)
read_in false now era is = absurd (cc is)

ask_asked : {S V : Type 0} (m : Meaning S V) (old new : View S V) (question : Question) → era_at new 0 ≡ era_at old 0 → council.StepAskAll m old question new → IsCouncilAsked old → IsCouncilAsked new
ask_asked {S} {V} m old new question same by was = by_case by.asks
  where
    told : (changed : View S V) → new ≡ changed → AsksOn old.council changed.council → IsCouncilAsked new
    told changed view goes = asked_then old new (goes_to old changed new view goes) same was

    plans_then : (tag : Ballot) (p : PlanView) → council.plan_asked question tag old.council.plan ≡ Some p → is_change p.asked ≡ true
    plans_then tag p is = by_question question p is
      where
        by_question : (q : Question) (next : PlanView) → council.plan_asked q tag old.council.plan ≡ Some next → is_change next.asked ≡ true
        by_question (Probe key) next at = was.changes next at
        by_question (NewAges key least) next at = was.changes next at
        by_question (Removal key) next at = was.changes next at
        by_question (NextKeys places) next at =
            let had = same_mapped (council.listing_begun places tag) (λ plan. record { asked = refl; entered = refl; era = refl }) old.council.plan next at in
            ap is_change had.2.asked ∙ was.changes had.0 had.1

    probe_members : (q : Question) (key : List ℕ) → q ≡ Probe key → council.asked_by old q ≡ everyone old
    probe_members q key is = ap (λ (x : Question). council.asked_by old x) is

    is_for_probe : (key : List ℕ) → question ≡ Probe key → IsProbeOf by.may.order.asked key
    is_for_probe key is = subst (λ (q : Question). council.IsForQuestion (everyone old) old.council by.may.caller.call by.may.order.asked q) is by.may.is_for

    by_case : council.AsksAll m old question by.desk new → IsCouncilAsked new
    by_case (council.asks now tag flow up room tagged is_now sends view) = record {
      changes = λ plan is. plans_then tag plan (sym (ap (λ (w : View S V). w.council.plan) view) ∙ is);
      asks = λ exchange key is_open asks.
          let it : council.new_exchange question tag (council.asked_by old question) (length old.marks) (council.read_era old question) ≡ exchange =
          some_is (sym (ap (λ (w : View S V). w.council.exchange) view) ∙ is_open) in
          let question_is : question ≡ Probe key = ap (λ (e : ExchangeView). e.question) it ∙ asks in
          (record { order = by.may.order; is_open = ap (λ (w : View S V). w.council.order) view ∙ by.may.is_open; is_for = is_for_probe key question_is }, ap (λ (e : ExchangeView). e.members) (sym it) ∙ probe_members question key question_is ∙ ap members_of (sym same), λ era reads. read_in (council.reads_by old.council.order question) (era_at old 0) era (ap (λ (e : ExchangeView). e.reads) it ∙ reads) ∙ sym same);
    }
    by_case (council.is_down down view) = told _ view (goes_told old.council _)
    by_case (council.is_full up full view) = told _ view (goes_told old.council _)
    by_case (council.is_spent now up spent kept is_now view) = told _ view (goes_told old.council _)
    by_case (council.fails now up fault view) = told _ view (goes_told old.council _)
    by_case (council.no_memory now tag up loss view) = told _ view (goes_told old.council _)

ask_collect_asked : {S V : Type 0} (m : Meaning S V) (old new : View S V) → era_at new 0 ≡ era_at old 0 → collect.StepAskCollect m old new → IsCouncilAsked old → IsCouncilAsked new
ask_collect_asked {S} {V} m old new same by was = by_case by.asks
  where
    no_probe : (q : Question) (key : List ℕ) → collect.IsQuestionOf by.may.at.collection q → q ≡ Probe key → ⊥
    no_probe q key (collect.tells_ages due is) probe = cc (sym is ∙ probe)
    no_probe q key (collect.removes due is) probe = cc (sym is ∙ probe)

    by_case : collect.AsksCollect m old by.may.at by.desk new → IsCouncilAsked new
    by_case (collect.asks question flow up asks_it room aged sends view) = record {
      changes = λ plan is. was.changes plan (sym (ap (λ (w : View S V). w.council.plan) view) ∙ is);
      asks =
          λ exchange key is_open asks. absurd (no_probe question key asks_it (ap (λ (e : ExchangeView). e.question) (some_is (sym (ap (λ (w : View S V). w.council.exchange) view) ∙ is_open)) ∙ asks));
    }
    by_case (collect.is_down down view) = asked_then old new (goes_to old _ new view (goes_told old.council _)) same was
    by_case (collect.is_full question up asks full view) = asked_then old new (goes_to old _ new view (goes_told old.council _)) same was
    by_case (collect.no_memory up view) = asked_then old new (goes_to old _ new view (goes_told old.council _)) same was

turn_goes : {S V : Type 0} (m : Meaning S V) (old new : View S V) (v : Verdict) → council.StepTurnExchange m old v new → AsksOn old.council new.council
turn_goes {S} {V} m old new v by = by_turn by.turn
  where
    by_turn : council.TurnsExchange m old v by.front by.at.exchange new → AsksOn old.council new.council
    by_turn (council.held fall view) = goes_to old old new view (goes_same old.council)
    by_turn (council.gone fall view) = goes_to old _ new view (goes_asking old.council by.at.exchange _ by.at.is_open refl refl refl)
    by_turn (council.answers request acceptor now reply fall front at table view) = goes_to old _ new view (goes_same old.council)
    by_turn (council.finds_down request acceptor fall front at down view) = goes_to old _ new view (goes_asking old.council by.at.exchange _ by.at.is_open refl refl refl)
    by_turn (council.brings_down request acceptor now fall front at stops_it view) = goes_to old _ new view (goes_asking old.council by.at.exchange _ by.at.is_open refl refl refl)
    by_turn (council.arrives reply fall front to_it view) = goes_to old _ new view (goes_asking old.council by.at.exchange _ by.at.is_open refl refl refl)

gather_asked : {S V : Type 0} (old new : View S V) → era_at new 0 ≡ era_at old 0 → council.StepGather old new → IsCouncilAsked old → IsCouncilAsked new
gather_asked {S} {V} old new same by was = by_case by.gathers
  where
    over : (changed : View S V) → new ≡ changed → changed.council.plan ≡ old.council.plan → changed.council.exchange ≡ None → IsCouncilAsked new
    over changed view plan none = asked_none old new (λ p is. (p, sym (ap (λ (w : View S V). w.council.plan) view ∙ plan) ∙ is, refl)) (ap (λ (w : View S V). w.council.exchange) view ∙ none) was

    by_case : council.Gathers old by.at.exchange new → IsCouncilAsked new
    by_case (council.crashed crashed view) = over _ view refl refl
    by_case (council.probed key found up question plain found_is view) = over _ view refl refl
    by_case (council.read key era found marks up question reads found_is counts view) = over _ view refl refl
    by_case (council.is_short of short up missing view) = over _ view refl refl
    by_case (council.lists of listing up enough on view) = asked_none old new (λ p is.
        let now : IsSamePlan of.plan p = subst (IsSamePlan of.plan) (some_is (sym (ap (λ (w : View S V). w.council.plan) view) ∙ is)) (listed_same of.plan listing) in
        (of.plan, of.is_plan, now.asked)) (ap (λ (w : View S V). w.council.exchange) view) was
    by_case (council.no_memory up view) = asked_then old new (goes_to old _ new view (goes_told old.council _)) same was

gather_collect_asked : {S V : Type 0} (old new : View S V) → collect.StepGatherCollect old new → IsCouncilAsked old → IsCouncilAsked new
gather_collect_asked {S} {V} old new by was = by_case by.gathers
  where
    over : (changed : View S V) → new ≡ changed → changed.council.plan ≡ old.council.plan → changed.council.exchange ≡ None → IsCouncilAsked new
    over changed view plan none = asked_none old new (λ p is. (p, sym (ap (λ (w : View S V). w.council.plan) view ∙ plan) ∙ is, refl)) (ap (λ (w : View S V). w.council.exchange) view ∙ none) was

    by_case : collect.GathersCollect old by.at by.of_exchange.exchange new → IsCouncilAsked new
    by_case (collect.crashed crashed view) = over _ view refl refl
    by_case (collect.all up all view) = over _ view refl refl
    by_case (collect.is_absent acceptor up least view) = over _ view refl refl

partial_plan : (was : Option PlanView) (now : PlanView) → option_map without_partial was ≡ Some now → (plan : PlanView) × (was ≡ Some plan) × IsSamePlan plan now
partial_plan was now is = same_mapped without_partial (λ plan. record { asked = refl; entered = refl; era = refl }) was now is

tell_asked : {S V : Type 0} (old new : View S V) (told : OpAnswer) → council.StepTell old told new → IsCouncilAsked old → IsCouncilAsked new
tell_asked {S} {V} old new told by was = by_case by
  where
    kept : (changed : View S V) → new ≡ changed → changed.council.plan ≡ option_map without_partial old.council.plan → changed.council.exchange ≡ None → IsCouncilAsked new
    kept changed view plan none =
        asked_none old new (λ p is. let had = partial_plan old.council.plan p (sym (ap (λ (w : View S V). w.council.plan) view ∙ plan) ∙ is) in (had.0, had.1, had.2.asked))
        (ap (λ (w : View S V). w.council.exchange) view ∙ none) was

    by_case : council.StepTell old told new → IsCouncilAsked new
    by_case (council.tells order said is_open is_told same view) = kept _ view refl refl
    by_case (council.collects order is_open of view) = kept _ view refl refl
    by_case (council.finishes order is_open of view) =
        asked_none old new (λ p is. absurd (cc (sym (ap (λ (w : View S V). w.council.plan) view) ∙ is))) (ap (λ (w : View S V). w.council.exchange) view) was

-- ---- changes of membership
planned_change : (era : Era) (used : List ℕ) (of : Asked) {planned : Result Progress PlanFault} → plans.IsPlanned era used of planned → is_change of ≡ true
planned_change era used of (plans.joins id is planned_is) = ap is_change is
planned_change era used of (plans.leaves id is planned_is) = ap is_change is
planned_change era used of (plans.resizes need_prep need_acc is planned_is) = ap is_change is

welcome_council : {S V : Type 0} (m : Meaning S V) (old new : View S V) (of : Asked) → plans.Welcomes m old of new → new.council ≡ old.council
welcome_council {S} {V} m old new of (plans.starts id acceptor now joins at starts view) = ap (λ (w : View S V). w.council) view
welcome_council {S} {V} m old new of (plans.fails id acceptor now joins at fails view) = ap (λ (w : View S V). w.council) view
welcome_council {S} {V} m old new of (plans.is_up id acceptor joins at up view) = ap (λ (w : View S V). w.council) view
welcome_council {S} {V} m old new of (plans.stays joins_none view) = ap (λ (w : View S V). w.council) view

open_asked : {S V : Type 0} (m : Meaning S V) (old new : View S V) → era_at new 0 ≡ era_at old 0 → plans.StepOpenPlan m old new → IsCouncilAsked old → IsCouncilAsked new
open_asked {S} {V} m old new same by was = by_case by.opens
  where
    told : (middle : View S V) (answer_is : OpAnswer) → AsksOn old.council middle.council → new ≡ council.told_view middle answer_is → IsCouncilAsked new
    told middle said first view = asked_then old new (goes_both old.council middle.council new.council first (goes_to middle _ new view (goes_told middle.council said))) same was

    welcomed : (middle : View S V) → plans.Welcomes m old by.order.asked middle → AsksOn old.council middle.council
    welcomed middle welcomes = subst (AsksOn old.council) (sym (welcome_council m old middle by.order.asked welcomes)) (goes_same old.council)

    by_case : plans.OpensPlan m old by.order.asked by.desk new → IsCouncilAsked new
    by_case (plans.is_down down view) = told old _ (goes_same old.council) view
    by_case (plans.is_busy plan up busy view) = told old _ (goes_same old.council) view
    by_case (plans.refuses fault up none planned view) = told old _ (goes_same old.council) view
    by_case (plans.opens progress middle up none planned welcomes view) =
        let change : is_change by.order.asked ≡ true = planned_change (era_at old 0) old.council.used by.order.asked planned in
        record {
          changes = λ plan is. ap (λ (p : PlanView). is_change p.asked) (sym (some_is (sym (ap (λ (w : View S V). w.council.plan) view) ∙ is))) ∙ change;
          asks = λ exchange key is_open asks.
              let before = was.asks exchange key (sym (ap (λ (c : Council). c.exchange) (welcome_council m old middle by.order.asked welcomes)) ∙ sym (ap (λ (w : View S V). w.council.exchange) view) ∙ is_open) asks in
              absurd (no_change by.order.asked key (subst (λ (o : OrderView). IsProbeOf o.asked key) (some_is (sym before.0.is_open ∙ by.is_open)) before.0.is_for) change);
        }
    by_case (plans.no_memory progress middle up none planned welcomes view) = told middle _ (welcomed middle welcomes) view

-- an era is entered for a change of membership, and so no probe is open
enter_asked : {S V : Type 0} (m : Meaning S V) (old new : View S V) (id : ℕ) → plans.StepEnterEra m old id new → IsCouncilAsked old → IsCouncilAsked new
enter_asked {S} {V} m old new id by was = by_case by.enters
  where
    change : is_change by.may.order.asked ≡ true
    change = ap is_change (sym by.may.is_for) ∙ was.changes by.plan by.may.is_plan

    none_probes : (exchange : ExchangeView) (key : List ℕ) → old.council.exchange ≡ Some exchange → exchange.question ≡ Probe key → ⊥
    none_probes exchange key is_open asks = let before = was.asks exchange key is_open asks in no_change by.may.order.asked key (subst (λ (o : OrderView). IsProbeOf o.asked key) (some_is (sym before.0.is_open ∙ by.may.is_open)) before.0.is_for) change

    goes : AsksOn old.council new.council → IsCouncilAsked new
    goes on = record {
      changes = λ plan is. let had = on.plan plan is in ap is_change had.2 ∙ was.changes had.0 had.1;
      asks = λ exchange key is_open asks. let had = on.exchange exchange is_open in absurd (none_probes had.0 key had.1 (sym had.2 ∙ asks));
    }

    by_case : plans.EntersNext m old by.plan by.next by.desk new → IsCouncilAsked new
    by_case (plans.enters middle room leaves view) =
        let frame = left_frame (EntersEra m.disks by.next) (closed_by (answer.Moved by.next.number) (cause.Moved by.next.number)) old middle by.plan.entered leaves in
        record {
          changes =
              λ plan is. ap (λ (p : PlanView). is_change p.asked) (sym (some_is (sym (ap (λ (w : View S V). w.council.plan) view) ∙ is))) ∙ ap is_change (after_asked middle.last_proposer)
              ∙ was.changes by.plan by.may.is_plan;
          asks =
              λ exchange key is_open asks. absurd (none_probes exchange key (sym (ap (λ (f : Frame). f.council.exchange) frame) ∙ sym (ap (λ (w : View S V). w.council.exchange) view) ∙ is_open) asks);
        }
      where
        after_asked : (last_proposer : ℕ) → (plans.plan_after last_proposer by.plan by.next).asked ≡ by.plan.asked
        after_asked last_proposer = by_test (by.plan.entered == last_proposer)
          where
            by_test : (b : Bool) → (if b then record by.plan { progress = record { era = by.next; left = plans.rest_of by.plan.progress.left }; entered = 0; listing = None } else record by.plan { entered = suc by.plan.entered }).asked ≡ by.plan.asked
            by_test true = refl
            by_test false = refl
    by_case (plans.is_full full view) = goes (goes_to old _ new view (goes_told old.council _))
    by_case (plans.is_down room down view) = goes (goes_to old _ new view (goes_told old.council _))
    by_case (plans.fails middle room down view) =
        goes (goes_both old.council middle.council new.council (goes_down (FailsToEnter m.disks by.next) old middle by.plan.entered down) (goes_to middle _ new view (goes_told middle.council _)))
    by_case (plans.no_memory now room up kept now_is view) = goes (goes_to old _ new view (goes_told old.council _))

-- ---- collections
refuse_goes : {S V : Type 0} (m : Meaning S V) (old new : View S V) (id : ℕ) (key : List ℕ) → calls.RefusesCall m old id key new → AsksOn old.council new.council
refuse_goes m old new id key (calls.stays told next why rescan view) = goes_to old _ new view (goes_rescan old.council id key told next rescan)
refuse_goes m old new id key (calls.loses caller desk now ballot next at_caller at_desk none up loses rescan view) =
    goes_to old _ new view (goes_rescan old.council id key (answer.NoMemory false) next rescan)

begin_collect_goes : {S V : Type 0} (m : Meaning S V) (old new : View S V) (key : List ℕ)
    → collect.StepBeginCollect m (λ before after. step.StepBegin m before 0 key collect.keep_always after) old key new → AsksOn old.council new.council
begin_collect_goes {S} {V} m old new key by = by_case by.begins
  where
    goes_on : (middle : View S V) (collection : CollectionView) → step.StepBegin m old 0 key collect.keep_always middle → new ≡ collect.collecting middle by.may.order None collection
        → AsksOn old.council new.council
    goes_on middle collection begins view =
        let frame = begin_frame m old middle 0 key collect.keep_always begins in
        goes_both old.council middle.council new.council (goes_framed old middle frame)
        (goes_to middle _ new view (goes_collecting middle.council by.may.order None (Some collection) (ap (λ (f : Frame). f.council.order) frame ∙ by.may.is_open)))

    by_case : collect.BeginsCollection m (λ before after. step.StepBegin m before 0 key collect.keep_always after) old key by.may.order by.desk by.caller new → AsksOn old.council new.council
    by_case (collect.is_down none down view) = goes_to old _ new view (goes_told old.council _)
    by_case (collect.is_busy plan none up planned view) = goes_to old _ new view (goes_told old.council _)
    by_case (collect.is_full none up unplanned full view) = goes_to old _ new view (goes_told old.council _)
    by_case (collect.no_memory middle none up unplanned refuses view) =
        goes_both old.council middle.council new.council (refuse_goes m old middle 0 key refuses) (goes_to middle _ new view (goes_told middle.council _))
    by_case (collect.begins middle none unplanned begins view) = goes_on middle _ begins view
    by_case (collect.goes_on middle call of open_ begins view) = goes_on middle _ begins view

end_goes : {S V : Type 0} (m : Meaning S V) (old new : View S V) (id : ℕ) (told : Answer) → StepEnd m old id told new → AsksOn old.council new.council
end_goes m old new id told by = goes_to old _ new by.ends.view (goes_rescan old.council id by.of_call.call.key told by.ends.council by.ends.rescans)

round_goes : {S V : Type 0} (old new : View S V) → collect.StepGatherRound old new → AsksOn old.council new.council
round_goes {S} {V} old new by = by_case by.gathers
  where
    by_case : collect.GathersRound old by.at new → AsksOn old.council new.council
    by_case (collect.all ballot members tombstone all view) = goes_to old _ new view (goes_collecting old.council by.at.order None _ by.at.is_open)
    by_case (collect.is_absent ballot members acceptor tombstone least view) = goes_to old _ new view (goes_told old.council _)
    by_case (collect.is_held version tombstone view) = goes_to old _ new view (goes_told old.council _)

renew_goes : {S V : Type 0} (m : Meaning S V) (old new : View S V) (id : ℕ) → collect.StepRenew m old id new → AsksOn old.council new.council
renew_goes {S} {V} m old new id by = by_case by.renews
  where
    by_case : collect.RenewsNext m old by.at id by.desk new → AsksOn old.council new.council
    by_case (collect.renews age middle leaves view) =
        let frame = left_frame (Renews m.disks by.at.collection.course.key (tomb_of by.at.collection.tombstone) age) (closed_by (answer.Aged age) (cause.Aged age)) old middle id leaves in
        goes_both old.council middle.council new.council (goes_framed old middle frame)
        (goes_to middle _ new view (goes_collecting middle.council by.at.order None _ (ap (λ (f : Frame). f.council.order) frame ∙ by.at.is_open)))
    by_case (collect.is_down down view) = goes_to old _ new view (goes_told old.council _)
    by_case (collect.fails middle down view) =
        goes_both old.council middle.council new.council (goes_down (FailsToRenew m.disks _) old middle id down) (goes_to middle _ new view (goes_told middle.council _))
    by_case (collect.is_spent up spent view) = goes_to old _ new view (goes_told old.council _)
    by_case (collect.no_memory now up finds view) = goes_to old _ new view (goes_told old.council _)

-- the call of a collection's round ends, and the collection goes on
end_collect_goes : {S V : Type 0} (m : Meaning S V) (old new : View S V) (told : Answer) → step.Step m old (step.EndCollect told) new → AsksOn old.council new.council
end_collect_goes {S} {V} m old new told by =
    let first = end_goes m old by.middle 0 told by.ends in
    goes_to old _ new by.view (record {
      exchange = λ now is. first.exchange now is;
      order = λ before is. (record by.is.at.order { told = collect.stopped_by told }, refl, ap (λ (o : OrderView). o.asked) (some_is (sym by.is.at.is_open ∙ is)));
      plan = λ now is. first.plan now is;
    })

count_collect_goes : {S V : Type 0} (m : Meaning S V) (old new : View S V) → step.Step m old step.CountCollect new → AsksOn old.council new.council
count_collect_goes m old new by =
    let frame = count_frame m old by.middle 0 by.counts in
    goes_both old.council by.middle.council new.council (goes_framed old by.middle frame)
    (goes_to by.middle _ new by.view (goes_collecting by.middle.council by.is.at.order None _ (ap (λ (f : Frame). f.council.order) frame ∙ by.is.at.is_open)))

-- ---- all of them
asked_by_step : {S V : Type 0} (m : Meaning S V) (old : View S V) (event : step.Event) (new : View S V) → era_at new 0 ≡ era_at old 0 → IsCouncilAsked old → Step m old event new → IsCouncilAsked new
asked_by_step m old (step.Begin id key program) new same was by = asked_then old new (goes_framed old new (begin_frame m old new id key program by)) same was
asked_by_step m old (step.RefuseBegin id key) new same was by = asked_then old new (refuse_goes m old new id key by) same was
asked_by_step m old (step.Turn id v) new same was by = asked_then old new (goes_framed old new (turn_frame m old new id v by)) same was
asked_by_step m old (step.RefuseTurn id) new same was by = asked_then old new (goes_to old _ new by.view (goes_framed old by.middle (no_room_frame m old by.middle by.refuses))) same was
asked_by_step m old (step.Propose id) new same was by = asked_then old new (goes_framed old new (propose_frame m old new id by)) same was
asked_by_step m old (step.Count id) new same was by = asked_then old new (goes_framed old new (count_frame m old new id by)) same was
asked_by_step m old (step.End id told) new same was by = asked_then old new (end_goes m old new id told by) same was
asked_by_step m old (step.Stray index) new same was by = asked_then old new (goes_framed old new (stray_frame m old new index by.late by.strays)) same was
asked_by_step m old step.RefuseStray new same was by = asked_then old new (goes_framed old new (no_room_frame m old new by)) same was
asked_by_step m old (step.CrashAcceptor id) new same was by = asked_then old new (goes_framed old new (stop_frame m old new id by)) same was
asked_by_step m old (step.RestartAcceptor id) new same was by = asked_then old new (goes_framed old new (start_frame m old new id by)) same was
asked_by_step m old (step.CrashProposer id) new same was by = asked_then old new (goes_down (Crashes m.disks) old new id by) same was
asked_by_step m old (step.RestartProposer id) new same was (step.was_up_already desk at up view) = asked_then old new (goes_to old old new view (goes_same old.council)) same was
asked_by_step m old (step.RestartProposer id) new same was (step.restarts desk now caller at at_caller down by view) = asked_then old new (goes_to old _ new view (goes_same old.council)) same was
asked_by_step {S} {V} m old (step.Order of) new same was by = record {
  changes = λ plan is. was.changes plan (sym (ap (λ (w : View S V). w.council.plan) by.view) ∙ is);
  asks = λ exchange key is_open asks. absurd (cc (sym by.none_open ∙ (was.asks exchange key (sym (ap (λ (w : View S V). w.council.exchange) by.view) ∙ is_open) asks).0.is_open));
}
asked_by_step m old step.RefuseOrder new same was by = asked_then old new (goes_to old old new by (goes_same old.council)) same was
asked_by_step m old (step.Tell told) new same was by = tell_asked old new told by was
asked_by_step m old (step.AskAll question) new same was by = ask_asked m old new question same by was
asked_by_step m old (step.TurnExchange v) new same was by = asked_then old new (turn_goes m old new v by) same was
asked_by_step m old step.RefuseTurnExchange new same was by = asked_then old new (goes_both old.council by.middle.council new.council (goes_framed old by.middle (no_room_frame m old by.middle by.refuses)) (goes_to by.middle _ new by.view (goes_told by.middle.council _))) same was
asked_by_step m old step.Gather new same was by = gather_asked old new same by was
asked_by_step m old step.RefuseKey new same was by = asked_then old new (goes_to old _ new by.view (goes_told old.council _)) same was
asked_by_step m old step.OpenPlan new same was by = open_asked m old new same by was
asked_by_step m old (step.EnterEra id) new same was by = enter_asked m old new id by was
asked_by_step m old (step.BeginCollect key) new same was by = asked_then old new (begin_collect_goes m old new key by) same was
asked_by_step m old step.ReadHeld new same was by = asked_then old new (goes_to old _ new by.view (goes_collecting old.council by.is.at.order None _ by.is.at.is_open)) same was
asked_by_step m old step.CountCollect new same was by = asked_then old new (count_collect_goes m old new by) same was
asked_by_step m old (step.EndCollect told) new same was by = asked_then old new (end_collect_goes m old new told by) same was
asked_by_step m old step.GatherRound new same was by = asked_then old new (round_goes old new by) same was
asked_by_step m old (step.Renew id) new same was by = asked_then old new (renew_goes m old new id by) same was
asked_by_step m old step.AskCollect new same was by = ask_collect_asked m old new same by was
asked_by_step m old step.GatherCollect new same was by = gather_collect_asked old new by was
asked_by_step m old step.MakeFloor new same was by = asked_then old new (goes_to old _ new by.view (goes_collecting old.council by.at.order None _ by.at.is_open)) same was

-- ---- where proposer 0 works
-- the eras as they were, and each change of membership that goes on
unled_same : {S V : Type 0} (old new : View S V) → new.eras ≡ old.eras
    → ((plan : PlanView) → new.council.plan ≡ Some plan → (before : PlanView) × (old.council.plan ≡ Some before) × IsSamePlan before plan) → IsUnled (course_of old) → IsUnled (course_of new)
unled_same old new eras goes unled plan is none = let had = goes plan is in ap (λ (l : List Era). era_in l 0) eras ∙ unled had.0 had.1 (sym had.2.entered ∙ none) ∙ sym had.2.era

same_plan : (plan : PlanView) → IsSamePlan plan plan
same_plan plan = record { asked = refl; entered = refl; era = refl }

-- and so does the era of proposer 0
record IsLed {S V : Type 0} (old new : View S V) : Type 0 where
  unled : IsUnled (course_of new)
  era_then : era_at new 0 ≡ era_at old 0

in_eras : {S V : Type 0} (old new : View S V) → new.eras ≡ old.eras → era_at new 0 ≡ era_at old 0
in_eras old new same = ap (λ (l : List Era). era_in l 0) same

led : {S V : Type 0} (old changed new : View S V) → new ≡ changed → changed.eras ≡ old.eras → changed.council.plan ≡ old.council.plan → IsUnled (course_of old) → IsLed old new
led {S} {V} old changed new view eras plan unled =
    let same : new.eras ≡ old.eras = ap (λ (w : View S V). w.eras) view ∙ eras in
    record {
      unled = unled_same old new same (λ p is. (p, sym (ap (λ (w : View S V). w.council.plan) view ∙ plan) ∙ is, same_plan p)) unled;
      era_then = in_eras old new same;
    }

led_by_plan : {S V : Type 0} (old changed new : View S V) → new ≡ changed → changed.eras ≡ old.eras
    → ((p : PlanView) → changed.council.plan ≡ Some p → (before : PlanView) × (old.council.plan ≡ Some before) × IsSamePlan before p) → IsUnled (course_of old) → IsLed old new
led_by_plan {S} {V} old changed new view eras goes unled =
    let same : new.eras ≡ old.eras = ap (λ (w : View S V). w.eras) view ∙ eras in
    record { unled = unled_same old new same (λ p is. goes p (sym (ap (λ (w : View S V). w.council.plan) view) ∙ is)) unled; era_then = in_eras old new same }

end_led : {S V : Type 0} (m : Meaning S V) (old new : View S V) (id : ℕ) (told : Answer) → StepEnd m old id told new → IsUnled (course_of old) → IsLed old new
end_led m old new id told by unled = led_by_plan old _ new by.ends.view refl (rescans_plan old.council id by.of_call.call.key told by.ends.council by.ends.rescans) unled

tell_led : {S V : Type 0} (old new : View S V) (told : OpAnswer) → council.StepTell old told new → IsUnled (course_of old) → IsLed old new
tell_led old new told (council.tells order said is_open is_told same view) unled = led_by_plan old _ new view refl (λ p is. partial_plan old.council.plan p is) unled
tell_led old new told (council.collects order is_open by view) unled = led_by_plan old _ new view refl (λ p is. partial_plan old.council.plan p is) unled
tell_led old new told (council.finishes order is_open by view) unled = led_by_plan old _ new view refl (λ p is. absurd (cc is)) unled

ask_led : {S V : Type 0} (m : Meaning S V) (old new : View S V) (places : List MemberPlace) → council.StepAskAll m old (NextKeys places) new → IsUnled (course_of old) → IsLed old new
ask_led {S} {V} m old new places by unled = by_case by.asks
  where
    by_case : council.AsksAll m old (NextKeys places) by.desk new → IsLed old new
    by_case (council.asks now tag flow up room tagged is_now sends view) =
        led_by_plan old _ new view refl (λ p is. same_mapped (council.listing_begun places tag) (λ plan. record { asked = refl; entered = refl; era = refl }) old.council.plan p is) unled
    by_case (council.is_down down view) = led old _ new view refl refl unled
    by_case (council.is_full up full view) = led old _ new view refl refl unled
    by_case (council.is_spent now up spent kept is_now view) = led old _ new view refl refl unled
    by_case (council.fails now up fault view) = led old _ new view refl refl unled
    by_case (council.no_memory now tag up loss view) = led old _ new view refl refl unled

gather_led : {S V : Type 0} (old new : View S V) → council.StepGather old new → IsUnled (course_of old) → IsLed old new
gather_led {S} {V} old new by unled = by_case by.gathers
  where
    by_case : council.Gathers old by.at.exchange new → IsLed old new
    by_case (council.crashed crashed view) = led old _ new view refl refl unled
    by_case (council.probed key found up question plain found_is view) = led old _ new view refl refl unled
    by_case (council.read key era found marks up question reads found_is counts view) = led old _ new view refl refl unled
    by_case (council.is_short of short up missing view) = led old _ new view refl refl unled
    by_case (council.lists of listing up enough on view) = led_by_plan old _ new view refl (λ p is. (of.plan, of.is_plan, subst (IsSamePlan of.plan) (some_is is) (listed_same of.plan listing))) unled
    by_case (council.no_memory up view) = led old _ new view refl refl unled

open_led : {S V : Type 0} (m : Meaning S V) (old new : View S V) → IsSafe old → plans.StepOpenPlan m old new → IsUnled (course_of old) → IsLed old new
open_led {S} {V} m old new safe by unled = by_case by.opens
  where
    welcomed : (middle : View S V) → plans.Welcomes m old by.order.asked middle → middle.eras ≡ old.eras
    welcomed middle welcomes = ap (λ (c : Course). c.eras) (welcome_course m old middle by.order.asked welcomes)

    by_case : plans.OpensPlan m old by.order.asked by.desk new → IsLed old new
    by_case (plans.is_down down view) = led old _ new view refl refl unled
    by_case (plans.is_busy plan up busy view) = led old _ new view refl refl unled
    by_case (plans.refuses fault up none planned view) = led old _ new view refl refl unled
    by_case (plans.opens progress middle up none planned welcomes view) =
        let settled = subst (λ (p : Option PlanView). IsCourse (course old.last_proposer old.eras p (entries_in old.marks))) none safe.course in
        let begins = planned_starts (era_at old 0) old.council.used by.order.asked progress settled.under_way.whole planned in
        let same : new.eras ≡ old.eras = ap (λ (w : View S V). w.eras) view ∙ welcomed middle welcomes in
        record {
          unled = λ plan is none_led. ap (λ (l : List Era). era_in l 0) same ∙ sym begins.era ∙ ap (λ (p : PlanView). p.progress.era) (some_is (sym (ap (λ (w : View S V). w.council.plan) view) ∙ is));
          era_then = in_eras old new same;
        }
    by_case (plans.no_memory progress middle up none planned welcomes view) =
        led old _ new view (welcomed middle welcomes) (ap (λ (c : Council). c.plan) (welcome_council m old middle by.order.asked welcomes)) unled

enter_unled : {S V : Type 0} (m : Meaning S V) (old new : View S V) (id : ℕ) → IsSafe old → plans.StepEnterEra m old id new → IsUnled (course_of old) → IsUnled (course_of new)
enter_unled {S} {V} m old new id safe by unled = by_case by.enters
  where
    entering_is : entering by.plan.progress.left ≡ Some by.next
    entering_is = ap next_era (sym by.may.is_plan) ∙ by.may.is_next

    moving : CourseIsUnderWay (course_of old) (Some by.plan)
    moving = subst (CourseIsUnderWay (course_of old)) by.may.is_plan safe.course.under_way

    worked : 0 < by.plan.entered → era_in old.eras 0 ≡ by.next
    worked some = elim (moving.each 0 (omega arith)) [
      | not_yet low same ↦ absurd (omega (arith, low, some))
      | entered is ↦ some_is (sym is ∙ entering_is)
    ]

    works : era_in (slice_set old.eras by.plan.entered by.next) 0 ≡ by.next
    works = elim (same_or_not 0 by.plan.entered) [
      | inl same ↦ subst (λ (n : ℕ). era_in (slice_set old.eras n by.next) 0 ≡ by.next) same (era_set old.eras 0 by.next (omega (arith, safe.course.places)))
      | inr other ↦ era_kept old.eras by.plan.entered 0 by.next other ∙ worked (omega (arith, other))
    ]

    after_unled : (last_proposer : ℕ) (plan : PlanView) → plans.plan_after last_proposer by.plan by.next ≡ plan → plan.entered ≡ 0 → by.next ≡ plan.progress.era
    after_unled last_proposer plan is none = by_test (by.plan.entered == last_proposer) is
      where
        by_test : (b : Bool) → (if b then record by.plan { progress = record { era = by.next; left = plans.rest_of by.plan.progress.left }; entered = 0; listing = None } else record by.plan { entered = suc by.plan.entered }) ≡ plan → by.next ≡ plan.progress.era
        by_test true same = ap (λ (p : PlanView). p.progress.era) same
        by_test false same = absurd (omega (arith, ap (λ (p : PlanView). p.entered) same, none))

    by_case : plans.EntersNext m old by.plan by.next by.desk new → IsUnled (course_of new)
    by_case (plans.enters middle room leaves view) = λ plan is none.
        let courses = ap course_of view ∙ enters_course m old middle by.plan by.next leaves in
        ap (λ (c : Course). era_in c.eras 0) courses ∙ works ∙ after_unled old.last_proposer plan (some_is (sym (ap (λ (c : Course). c.plan) courses) ∙ is)) none
    by_case (plans.is_full full view) = (led old _ new view refl refl unled).unled
    by_case (plans.is_down room down view) = (led old _ new view refl refl unled).unled
    by_case (plans.fails middle room down view) = subst IsUnled (sym (ap course_of view ∙ down_course (FailsToEnter m.disks by.next) old middle by.plan.entered down)) unled
    by_case (plans.no_memory now room up kept now_is view) = (led old _ new view refl refl unled).unled

-- ---- the laws
joins : {S V : Type 0} (old new : View S V) (led_is : IsLed old new) → (era_at new 0 ≡ era_at old 0 → IsCouncilAsked new) → IsAskingAll new
joins old new led_is asked_it = let now = asked_it led_is.era_then in record { unled = led_is.unled; changes = now.changes; asks = now.asks }

asked_of : {S V : Type 0} (view : View S V) → IsAskingAll view → IsCouncilAsked view
asked_of view is = record { changes = is.changes; asks = is.asks }

led_on : {S V : Type 0} (m : Meaning S V) (old : View S V) (event : step.Event) (new : View S V) → ((id : ℕ) → event ≡ step.RestartProposer id → ⊥) → Leads event → IsSafe old → IsAskingAll old
    → Step m old event new → IsAskingAll new
led_on m old (step.RestartProposer id) new no_restart leads safe was by = absurd (no_restart id refl)
led_on m old (step.End id told) new no_restart leads safe was by =
    joins old new (end_led m old new id told by was.unled) (λ same. asked_by_step m old (step.End id told) new same (asked_of old was) by)
led_on m old (step.AskAll (NextKeys places)) new no_restart leads safe was by =
    joins old new (ask_led m old new places by was.unled) (λ same. asked_by_step m old (step.AskAll (NextKeys places)) new same (asked_of old was) by)
led_on m old step.Gather new no_restart leads safe was by = joins old new (gather_led old new by was.unled) (λ same. asked_by_step m old step.Gather new same (asked_of old was) by)
led_on m old (step.Tell told) new no_restart leads safe was by = joins old new (tell_led old new told by was.unled) (λ same. asked_by_step m old (step.Tell told) new same (asked_of old was) by)
led_on m old step.OpenPlan new no_restart leads safe was by = joins old new (open_led m old new safe by was.unled) (λ same. asked_by_step m old step.OpenPlan new same (asked_of old was) by)
led_on m old (step.EnterEra id) new no_restart leads safe was by = let now = enter_asked m old new id by (asked_of old was) in record { unled = enter_unled m old new id safe by was.unled; changes = now.changes; asks = now.asks }
led_on {S} {V} m old (step.EndCollect told) new no_restart leads safe was by =
    let first = end_led m old by.middle 0 told by.ends was.unled in
    let second = led by.middle _ new by.view refl refl first.unled in
    joins old new (record { unled = second.unled; era_then = second.era_then ∙ first.era_then }) (λ same. asked_by_step m old (step.EndCollect told) new same (asked_of old was) by)
led_on m old event new no_restart none safe was by = absurd none

pub asking_then : {S V : Type 0} (m : Meaning S V) (old : View S V) (event : step.Event) (new : View S V) → ((id : ℕ) → event ≡ step.RestartProposer id → ⊥) → IsSafe old → IsAskingAll old
    → Step m old event new → IsAskingAll new
asking_then m old event new no_restart safe was by = elim (on_course m old new event by) [
  | inl leads_on ↦ led_on m old event new no_restart leads_on safe was by
  | inr same ↦
      let eras : new.eras ≡ old.eras = ap (λ (c : Course). c.eras) same in
      joins old new (record { unled = subst IsUnled (sym same) was.unled; era_then = in_eras old new eras }) (λ alike. asked_by_step m old event new alike (asked_of old was) by)
]

-- with nothing under way it is so
pub none_asked : {S V : Type 0} (view : View S V) → view.council.plan ≡ None → view.council.exchange ≡ None → IsAskingAll view
none_asked view no_plan none = record {
  unled = λ plan is none_led. absurd (cc (sym no_plan ∙ is));
  changes = λ plan is. absurd (cc (sym no_plan ∙ is));
  asks = λ exchange key is_open asks. absurd (cc (sym none ∙ is_open));
}

pub probes_ask_all : {S V : Type 0} (m : Meaning S V) → ProbesAskAll m
probes_ask_all {S} {V} m = record {
  opening = λ members view is. none_asked view (ap (λ (c : Council). c.plan) is.council) (ap (λ (c : Council). c.exchange) is.council);
  opening_on = λ members used floors view is. none_asked view (ap (λ (c : Council). c.plan) is.council) (ap (λ (c : Council). c.exchange) is.council);
  steps = asking_then m;
}

-- proposer 0 works where it was marked last, since it is not ahead of that
not_ahead : {S V : Type 0} (view : View S V) → IsSafe view → IsUnled (course_of view) → IsAhead view → ⊥
not_ahead view safe unled ahead =
    let moving : CourseIsUnderWay (course_of view) (Some ahead.plan) = subst (CourseIsUnderWay (course_of view)) ahead.is_plan safe.course.under_way in
    let follows = (leads ahead.plan.progress.era (era_at view 0) ahead.plan.progress.left (ap next_era (sym ahead.is_plan) ∙ ahead.next) moving.start).follows in
    let same : (era_at view 0).number ≡ ahead.plan.progress.era.number = ap (λ (e : Era). e.number) (unled ahead.plan ahead.is_plan ahead.unmarked) in
    omega (arith, follows.number, same)

pub confirmers_are_probed : {S V : Type 0} (m : Meaning S V) → ConfirmersAreProbed m
confirmers_are_probed m view exchange key a acceptor safe is asking is_open asks stands era member = elim (eras_are_marked m view safe is) [
  | inl same ↦
      let all = (asking.asks exchange key is_open asks).1 in
      subst (λ (l : List ℕ). has_member l acceptor ≡ true) (sym all) (confirmers_are_asked m view a acceptor is stands (era ∙ sym same) member)
  | inr ahead ↦ absurd (not_ahead view safe asking.unled ahead)
]
