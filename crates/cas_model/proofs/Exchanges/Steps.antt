-- What the operator's calls do to what is logged: a call is opened and told, all members are asked, they answer, and what they told
-- is gathered.
use Rattle.std.proofs.Common.{◌≡◌, ◌<◌, ℕ, suc, Bool, true, false, List, [], ◌∷◌, ◌++◌, length, Option, None, Some, reverse, refl, sym, ap, subst, ◌∙◌, inl, inr, arith}
use Rattle.std.specs.Prelude.{⊤, ◌⊎◌, ◌||◌, ◌&&◌, ◌==◌, not, if◌then◌else◌, zero, map, position, option_map, slice_get, slice_set}
use Rattle.std.specs.Option.{option_map_or}
use Rattle.std.proofs.lemmas.List.{length-reverse}
use Rattle.cas_base.proofs.Bools.{or_cases, and_left, if_true, if_false}
use Rattle.cas_ballot.specs.declared.ballot.Ballot.{Ballot}
use Rattle.cas_ballot.specs.Members.{members_where, has_member, union_of}
use Rattle.cas_ballot.proofs.MemberLemmas.{members_where_tells, IsMemberSet-members_where}
use Rattle.cas_flow.specs.Flow.{FlowView, queue_at, taken, abandoned}
use Rattle.cas_flow.specs.declared.message.Message.{Message}
use Rattle.cas_cache.specs.declared.ready.Ready.{Ready}
use Rattle.cas_model.proofs.Calls.Failing.{failed_still}
use Rattle.cas_change.specs.declared.state.State.{State}
use Rattle.cas_proposer.specs.Desk.{DeskView, counter_without}
use Rattle.cas_members.specs.declared.plan.PlanStep.TheVariants.{Settle}
use Rattle.cas_members.specs.Plan.{next_of}
use Rattle.cas_proposer.specs.declared.round.Round.{Round}
use Rattle.cas_quorum.specs.declared.era.Era.{Era}
use Rattle.cas_round.proofs.Lists.{Has}
use Rattle.cas_slot.specs.declared.message.Ask.TheVariants as ask
use Rattle.cas_vault.specs.declared.vault.Vault.{Vault}
use Rattle.cas_vault.specs.Vault.{counter_of, kept_of}
use Rattle.cas_slot.specs.declared.message.Reply.{Reply}
use Rattle.cas_slot.specs.declared.message.Tell.{Tell}
use Rattle.cas_record.specs.declared.operator.Probe.{Probe as Answered}
use Rattle.cas_model.specs.Stops.Step.{broken_off_view}
use Rattle.cas_slot.specs.declared.message.Request.{Request}
use Rattle.cas_record.specs.declared.mark.Mark.{Mark}
use Rattle.cas_record.specs.declared.mark.Mark.TheVariants.{Told, Harmed}
use Rattle.cas_record.specs.declared.operator.Asked.{Asked as OperatorAsked}
use Rattle.cas_record.specs.declared.operator.OpAnswer.{OpAnswer}
use Rattle.cas_record.specs.declared.operator.OpAnswer.TheVariants as told
use Rattle.cas_record.specs.Logs.Happening.{Happening, Marked, Asked, Drew, Entered, marks_of}
use Rattle.cas_record.specs.Logs.Lawful.{Cluster, AllEntered}
use Rattle.cas_record.specs.Legal.{IsProposed, IsEnded}
use Rattle.cas_record.specs.Logs.Orderly.{Orderly, IsRoundAsk}
use Rattle.cas_record.specs.Places.{Stands, here}
use Rattle.cas_slot.specs.declared.ages.Ages.{Ages}
use Rattle.cas_fate.specs.declared.fate.Verdict.{Verdict}
use Rattle.cas_flow.specs.Queue.{QueueView}
use Rattle.cas_model.specs.Calls.Step.{Sends}
use Rattle.cas_model.specs.Frames.Step.{replied_flow, votes_marked}
use Rattle.cas_model.proofs.Frames.Acceptors.{answered_global, answers, reply_made, stops_within}
use Rattle.cas_model.proofs.Frames.Harms.{member_low, has_member_of}
use Rattle.cas_model.specs.Council.{Place, GoesOn, MemberPlace, ListingView, place_in, has_ended, Question, Probe, NextKeys, NewAges, Removal, tag_key, ask_of, IsReplyTo, ExchangeView, PlanView, Council, with_listing, complete_only, without_partial, at_rest, exchange_place, telling, broken_off, crashed_in}
use Rattle.cas_model.specs.Collection.Logged.{IsCollectingTrue}
use Rattle.cas_model.specs.Eras.Listed.{AreShown, IsListingTrue, IsPlanKnown, IsPlanTrue, AreUsed, IsCouncilTrue}
use Rattle.cas_model.specs.History.{IsLogged}
use Rattle.cas_model.specs.Parties.{AreMessagesTrue, IsEraOf, IsAged, IsReadTrue, IsExchangeTrue, IsOpenTrue, IsDeskTrue, IsMessageTrue, WasMade, WereTold}
use Rattle.cas_protocol.specs.Protocol.{IsAskable, GlobalState, Harms, TellsOperator, with_mark}
use Rattle.cas_model.specs.Calls.Desks.{MayHaveDrawn, HasDrawn, HasKept, LosesMemory, FailsToDraw}
use Rattle.cas_model.specs.Exchanges.Step as council
use Rattle.cas_model.specs.Eras.Listings.{ListsOn}
use Rattle.cas_model.specs.Exchanges.Read.{MarksRead}
use Rattle.cas_model.proofs.Exchanges.Reads.{read_begun, marks_read}
use Rattle.cas_model.specs.Exchanges.Step.{asked_by, places_from, IsForQuestion, listing_in, listing_for, HasTag, begun_listing, listing_begun, plan_asked, ListsFor, listed_view, question_to, StepOrder, told_over, StepGather, Gathers, with_council, with_exchange, told_view, gathered, told_marks, harm_marks, harmed_exchange, questions_to, everyone, new_exchange, read_era, reads_by, awaits, hears, harms, MayAskAll, AsksAll, StepAskAll, TurnsExchange, StepTurnExchange, StepRefuseTurnExchange}
use Rattle.cas_model.specs.View.{DiskMeaning, Meaning, View, CallView, CallerView, IsAt, era_at, with_desk, with_acceptor}
use Rattle.cas_model.proofs.Around.{Whole, whole_of, whole_more, logged, around, settles, leaves_desk}
use Rattle.cas_model.proofs.Collection.Renewing.{asks_by}
use Rattle.cas_model.proofs.Calls.Asks.{IsOfNoKey, asked_log, asked_global, asked_around, asked_vault, asked_caller, asked_still, asked_later, asked_messages, asked_marks, asked_ready, asked_plan, asked_tag, IsTag, may_question, where_drawn, goes_same}
use Rattle.cas_model.proofs.Calls.Draws.{drew, drew_in_hand, drew_marks}
use Rattle.cas_model.proofs.Calls.Ends.{lost, none_left, others_left, all_joined_true, IsDeskQuiet, quiet_true, quiet_fails}
use Rattle.cas_protocol.proofs.Events.{keeps}
use Rattle.cas_model.proofs.Frames.Steps.{marked, taken_flows, replied_flows, answer_marks, refuses_stray}
use Rattle.cas_model.proofs.Calls.Rounds.{none_waits}
use Rattle.cas_model.proofs.Others.{IsNoProbeIn, IsAskedApart}
use Rattle.cas_model.proofs.Places.{same_or_not, some_is, at_one, contains_none, at_set, own_set, but_set, contains_append, contains_at}

-- ---- what the operator has under way
-- something else is under way, and is so
pub counsels : {S V : Type 0} (m : Meaning S V) (cluster : Cluster) (global : GlobalState) (view : View S V) (next : Council) → IsCouncilTrue cluster global.log next → Whole m cluster global view
    → Whole m cluster global (with_council view next)
counsels m cluster global view next is whole = record {
  meets = whole.meets;
  history = whole.history;
  acceptors = whole.acceptors;
  parties = record {
    last_proposer = whole.parties.last_proposer;
    few = whole.parties.few;
    eras = whole.parties.eras;
    desks = whole.parties.desks;
    callers = whole.parties.callers;
    council = is;
    own = whole.parties.own;
    late = whole.parties.late;
  };
}

-- the frames of the exchange go on, and all are as the log tells
pub record ReFlows (log : List Happening) (old new : FlowView) : Type 0 where
  pub others : (p : ℕ) → (p ≡ exchange_place → ⊥) → (queue_at new p).messages ≡ (queue_at old p).messages
  pub own : AreMessagesTrue log (queue_at new exchange_place).messages
  pub late : AreMessagesTrue log new.late

pub reflows : {S V : Type 0} (m : Meaning S V) (cluster : Cluster) (global : GlobalState) (old : View S V) (flow : FlowView) → ReFlows global.log old.flow flow → Whole m cluster global old
    → Whole m cluster global (record old { flow = flow })
reflows {S} {V} m cluster global old flow flows whole = record {
  meets = whole.meets;
  history = whole.history;
  acceptors = whole.acceptors;
  parties = record {
    last_proposer = whole.parties.last_proposer;
    few = whole.parties.few;
    eras = whole.parties.eras;
    desks = λ p these desk caller at_desk at_caller.
        let of = whole.parties.desks p these desk caller at_desk at_caller in
        subst (λ (l : List Message). IsDeskTrue m cluster global.log global.made (era_at old p).number p caller l desk)
        (sym (flows.others p (λ same. omega (arith, same, of.known, whole.parties.last_proposer, whole.parties.few)))) of;
    callers = whole.parties.callers;
    council = whole.parties.council;
    own = λ p. own p (same_or_not p exchange_place);
    late = flows.late;
  };
}
  where
    own : (p : ℕ) → (p ≡ exchange_place) ⊎ (p ≡ exchange_place → ⊥) → AreMessagesTrue global.log (queue_at flow p).messages
    own p (inl same) = subst (λ (q : ℕ). AreMessagesTrue global.log (queue_at flow q).messages) (sym same) flows.own
    own p (inr other) = subst (AreMessagesTrue global.log) (sym (flows.others p other)) (whole.parties.own p)

-- its frames join the late ones
pub abandoned_flows : (log : List Happening) (flow : FlowView) → AreMessagesTrue log (queue_at flow exchange_place).messages → AreMessagesTrue log flow.late
    → ReFlows log flow (abandoned flow exchange_place)
abandoned_flows log flow own late = record {
  others = others_left flow exchange_place;
  own = subst (AreMessagesTrue log) (sym (none_left flow exchange_place)) (λ each has_it. absurd (contains_none has_it));
  late = all_joined_true log (queue_at flow exchange_place).messages flow.late own late;
}

-- ---- the operator's call
pub orders : {S V : Type 0} {cluster : Cluster} (m : Meaning S V) (old : View S V) (asked : OperatorAsked) (new : View S V) → IsLogged m cluster old → StepOrder old asked new → IsLogged m cluster new
orders {cluster = cluster} m old asked new is by =
    subst (IsLogged m cluster) (sym by.view) (logged m cluster is.global _ (counsels m cluster is.global old _ is.agrees.council (whole_of m old is)) is.agrees.marks)

-- it is told something
pub tells_view : {S V : Type 0} (m : Meaning S V) (cluster : Cluster) (global : GlobalState) (view : View S V) (answer : OpAnswer) → Whole m cluster global view
    → Whole m cluster global (told_view view answer)
tells_view m cluster global view answer whole = counsels m cluster global view (telling view.council answer) whole.parties.council whole

-- a listing that is not complete is dropped
partial_true : (cluster : Cluster) (log : List Happening) (plan : Option PlanView) → IsPlanTrue cluster log plan → IsPlanTrue cluster log (option_map without_partial plan)
partial_true cluster log None was = tt
partial_true cluster log (Some plan) was = record { settled = was.settled; listing = λ listing is. by_listing plan.listing was.listing listing is }
  where
    by_complete : (b : Bool) (kept listing : ListingView) → (if b then Some kept else None) ≡ Some listing → kept ≡ listing
    by_complete true kept listing is = some_is is
    by_complete false kept listing is = absurd (cc is)

    by_listing : (had : Option ListingView) → ((listing : ListingView) → had ≡ Some listing → IsListingTrue cluster log plan.progress.era.number listing) → (listing : ListingView)
        → complete_only had ≡ Some listing → IsListingTrue cluster log plan.progress.era.number listing
    by_listing None were listing is = absurd (cc is)
    by_listing (Some kept) were listing is = were listing (ap (λ (l : ListingView). Some l) (by_complete kept.complete kept listing is))

-- it is over, and so is an exchange
closes : {S V : Type 0} (m : Meaning S V) (cluster : Cluster) (global : GlobalState) (old : View S V) → Whole m cluster global old
    → Whole m cluster global (record (with_council old (at_rest old.council)) { flow = abandoned old.flow exchange_place })
closes m cluster global old whole =
    counsels m cluster global (record old { flow = abandoned old.flow exchange_place }) (at_rest old.council)
    (λ exchange open_. absurd (cc open_), partial_true cluster global.log old.council.plan whole.parties.council.1, whole.parties.council.2, tt)
    (reflows m cluster global old (abandoned old.flow exchange_place) (abandoned_flows global.log old.flow (whole.parties.own exchange_place) whole.parties.late) whole)

-- the mark of what it was told, where it leaves one
record IsToldTo {S V : Type 0} (m : Meaning S V) (cluster : Cluster) (global : GlobalState) (view : View S V) (marks : List Mark) : Type 0 where
  pub after : GlobalState
  pub whole : Whole m cluster after view
  pub marks_are : marks_of after.log ≡ reverse marks ++ marks_of global.log

told_to : {S V : Type 0} (m : Meaning S V) (cluster : Cluster) (global : GlobalState) (view : View S V) (asked : OperatorAsked) (answer : OpAnswer) → Whole m cluster global view
    → IsToldTo m cluster global view (told_marks asked answer)
told_to {S} {V} m cluster global view asked answer whole = by_case answer
  where
    marks : (answer : OpAnswer) → IsToldTo m cluster global view (Told asked answer ∷ [])
    marks answer = record {
      after = with_mark global (Marked (Told asked answer));
      whole = whole_more m cluster global view (Marked (Told asked answer)) (λ p. tt) (λ a. tt) (keeps cluster whole.meets global whole.history (TellsOperator asked answer)) whole;
      marks_are = refl;
    }

    by_case : (answer : OpAnswer) → IsToldTo m cluster global view (told_marks asked answer)
    by_case (told.Probed key found) = record { after = global; whole = whole; marks_are = refl }
    by_case (told.Joined id era rescanned) = marks (told.Joined id era rescanned)
    by_case (told.Left id era rescanned) = marks (told.Left id era rescanned)
    by_case (told.Resized need_prep need_acc era rescanned) = marks (told.Resized need_prep need_acc era rescanned)
    by_case (told.Refused fault) = marks (told.Refused fault)
    by_case (told.Busy era) = marks (told.Busy era)
    by_case (told.Collected key ballot removed kept) = marks (told.Collected key ballot removed kept)
    by_case (told.NotEmpty version) = marks (told.NotEmpty version)
    by_case (told.Absent acceptor) = marks (told.Absent acceptor)
    by_case (told.ProposerDown proposer) = marks (told.ProposerDown proposer)
    by_case (told.Stopped answer) = marks (told.Stopped answer)

-- it is over with that
pub ends_told : {S V : Type 0} {cluster : Cluster} (m : Meaning S V) (old : View S V) (asked : OperatorAsked) (answer : OpAnswer) → IsLogged m cluster old
    → IsLogged m cluster (told_over old asked answer)
ends_told {cluster = cluster} m old asked answer is =
    let told = told_to m cluster is.global _ asked answer (closes m cluster is.global old (whole_of m old is)) in
    marked m cluster told.after (record (with_council old (at_rest old.council)) { flow = abandoned old.flow exchange_place }) (told_marks asked answer)
    (marks_of is.global.log) told.whole is.agrees.marks told.marks_are

-- the rest of what is under way may change as it likes
pub counsels_by : {S V : Type 0} {cluster : Cluster} (m : Meaning S V) (old : View S V) (next : Council) → next.exchange ≡ old.council.exchange → (is : IsLogged m cluster old)
    → IsPlanTrue cluster is.global.log next.plan → AreUsed cluster next.used → IsCollectingTrue cluster is.global.log next.collection
    → IsLogged m cluster (with_council old next)
counsels_by {cluster = cluster} m old next same is plan used collecting =
    logged m cluster is.global (with_council old next)
    (counsels m cluster is.global old next (λ exchange some. is.agrees.council.0 exchange (sym same ∙ some), plan, used, collecting) (whole_of m old is)) is.agrees.marks

-- ---- what was told is gathered
-- what is known of the listing that goes on by what was told
abbrev pub ListsKnown : {S V : Type 0} (cluster : Cluster) (log : List Happening) (old : View S V) (exchange : ExchangeView) → Type 0
ListsKnown {S} {V} cluster log old exchange =
    (of : ListsFor old exchange) (listing : ListingView) → ListsOn (era_at old 0) exchange.told of.listing listing → IsPlanTrue cluster log (Some (with_listing of.plan listing))

pub gathers : {S V : Type 0} {cluster : Cluster} (m : Meaning S V) (old : View S V) (new : View S V) → (is : IsLogged m cluster old) → (by : StepGather old new)
    → ListsKnown cluster is.global.log old by.at.exchange → IsLogged m cluster new
gathers {S} {V} {cluster} m old new is by lists = by_case by.gathers
  where
    over : (answer : OpAnswer) → IsLogged m cluster (gathered old answer)
    over answer =
        logged m cluster is.global (gathered old answer)
        (counsels m cluster is.global old _ (λ exchange open_. absurd (cc open_), is.agrees.council.1, is.agrees.council.2, is.agrees.council.3) (whole_of m old is)) is.agrees.marks

    by_case : Gathers old by.at.exchange new → IsLogged m cluster new
    by_case (council.crashed crashed view) = subst (IsLogged m cluster) (sym view) (over _)
    by_case (council.probed key found up question plain found_is view) = subst (IsLogged m cluster) (sym view) (over _)
    by_case (council.read key era found marks up question reads found_is counts view) =
        let made = marks_read m cluster is.global old by.at.exchange key era marks (is.agrees.council.0 by.at.exchange by.at.is_open) question reads
        (subst (λ (l : List Mark). MarksRead era key by.at.exchange.told l marks) (sym is.agrees.marks) counts) (whole_of m old is) in
        subst (IsLogged m cluster) (sym view) (marked m cluster made.after (gathered old (told.Probed key found)) marks (marks_of is.global.log)
        (counsels m cluster made.after old _ (λ exchange open_. absurd (cc open_), made.whole.parties.council.1, made.whole.parties.council.2, made.whole.parties.council.3) made.whole) is.agrees.marks made.marks_are)
    by_case (council.lists of listing up enough on view) = subst (IsLogged m cluster) (sym view)
        (logged m cluster is.global (listed_view old of.plan listing) (counsels m cluster is.global old _ (λ exchange open_. absurd (cc open_), lists of listing on, is.agrees.council.2, is.agrees.council.3) (whole_of m old is)) is.agrees.marks)
    by_case (council.is_short of short up missing view) = subst (IsLogged m cluster) (sym view) (over _)
    by_case (council.no_memory up view) = subst (IsLogged m cluster) (sym view) (logged m cluster is.global _ (tells_view m cluster is.global old _ (whole_of m old is)) is.agrees.marks)

-- ---- all members are asked
-- a desk that drew a ballot for a tag, or none, is as one that lost its memory after a draw
drew_only : {V : Type 0} (m : DiskMeaning V) (desk now : DeskView V) (tag : Option Ballot) → desk.round ≡ None → MayHaveDrawn m desk.id desk.vault now.vault tag
    → now ≡ record desk { vault = now.vault } → LosesMemory m [] desk now tag
drew_only {V} m desk now tag idle drawn is_now = record {
  desk =
      is_now ∙ ap (λ (c : List (List ℕ × Ready)). record desk { vault = now.vault; cache = c }) (sym cache)
      ∙ ap (λ (r : Option Round). record desk { vault = now.vault; cache = now.cache; round = r }) idle;
  cache = inl cache;
  middle = now.vault;
  drawn = drawn;
  counter = sym (ap (λ (r : Option Round). counter_without r (counter_of now.vault)) idle);
  kept = refl;
  goes_on = record { still_past = λ tells n past. past; ages = λ tells age is. is; era = λ tells era other is. is; never_falls = omega arith };
}
  where
    cache : now.cache ≡ desk.cache
    cache = ap (λ (d : DeskView V). d.cache) is_now

-- the members of an era are members of the cluster in it
member_in : (cluster : Cluster) (era : Era) (to : ℕ) → IsEraOf cluster era → has_member (union_of era.prep era.acc) to ≡ true → has_member (cluster.members era.number) to ≡ true
member_in cluster era to is has = elim (or_cases (has_member era.prep to) (has_member era.acc to) (members_where_tells (λ n. has_member era.prep n || has_member era.acc n) to has)) [
  | inl prepares ↦ is.prep_members to prepares
  | inr accepts ↦ is.acc_members to accepts
]

-- no question is to accept
no_accept : (tag : Ballot) (to : ℕ) {ballot : Ballot} {key : List ℕ} {era : ℕ} {ride : Option Ballot} {state : State} (question : Question)
    → ask_of tag question to ≡ ask.Accept key ballot era ride state → ⊥
no_accept tag to (Probe key) is = cc is
no_accept tag to (NextKeys places) is = cc is
no_accept tag to (NewAges key least) is = cc is
no_accept tag to (Removal key) is = cc is

-- what is of no key's collection tells no ages, and is no request of a round
plain_tells_none : (tag : Ballot) (question : Question) (to : ℕ) {one : Ballot} {least : Ages} → IsOfNoKey question → ask_of tag question to ≡ ask.Ages one least → ⊥
plain_tells_none tag (Probe key) to plain is = cc is
plain_tells_none tag (NextKeys places) to plain is = cc is
plain_tells_none tag (NewAges key least) to plain is = plain
plain_tells_none tag (Removal key) to plain is = plain

plain_no_round : (tag : Ballot) (question : Question) (to : ℕ) → IsOfNoKey question → IsRoundAsk (ask_of tag question to) → ⊥
plain_no_round tag (Probe key) to plain round = round
plain_no_round tag (NextKeys places) to plain round = round
plain_no_round tag (NewAges key least) to plain round = plain
plain_no_round tag (Removal key) to plain round = plain

-- what the open call asks for apart from a collection is of no key's
plain_for : (members : List ℕ) (council : Council) (call : Option CallView) (asked : OperatorAsked) (question : Question) → IsForQuestion members council call asked question → IsOfNoKey question
plain_for members council call asked (Probe key) is = tt
plain_for members council call asked (NextKeys places) is = tt
plain_for members council call asked (NewAges key least) is = absurd is
plain_for members council call asked (Removal key) is = absurd is

-- the tag of such a question is of no key
plain_key : (question : Question) → IsOfNoKey question → tag_key question ≡ []
plain_key (Probe key) plain = refl
plain_key (NextKeys places) plain = refl
plain_key (NewAges key least) plain = absurd plain
plain_key (Removal key) plain = absurd plain

-- each of them is asked
pub asks_each : {S V : Type 0} (m : Meaning S V) (cluster : Cluster) (global : GlobalState) (view : View S V) (age : ℕ) (tag : Ballot) (question : Question) (tos : List ℕ) (desk : DeskView V) (caller : CallerView) → IsAt view.desks 0 desk → IsAt view.callers 0 caller → desk.round ≡ None → IsAged m.disks age desk.vault
    → ((rest : List ℕ) (to : ℕ) → Has to tos → IsAskable cluster (asked_global global (question_to age tag question) rest) (question_to age tag question to))
    → ((to : ℕ) → IsAskedApart view.council (question_to age tag question to))
    → Whole m cluster global view → Whole m cluster (asked_global global (question_to age tag question) tos) view
asks_each {S} {V} m cluster global view age tag question tos desk caller at_desk at_caller idle aged askable above whole =
    settles m cluster (asked_global global f tos) view view 0
    (asked_around m cluster global view 0 f tos (λ to. refl) askable above (around m cluster global view 0 whole))
    (record { last_proposer = refl; eras = refl; acceptors = refl; desks = λ p d other at. at; callers = λ p c other at. at; council = refl; own = λ p other. refl })
    (record {
      desk = λ d c at_d at_c. still d c at_d at_c (whole.parties.desks 0 tt d c at_d at_c) (ap (λ (x : DeskView V). x.round) (at_one view.desks 0 at_d at_desk) ∙ idle);
      caller = λ c at_c. asked_caller f tos global.log global.made 0 c (whole.parties.callers 0 tt c at_c);
      own = asked_still f tos global.log (queue_at view.flow 0).messages (whole.parties.own 0);
      late = asked_still f tos global.log view.flow.late whole.parties.late;
    })
  where
    era : ℕ
    era = (era_at view 0).number

    f : ℕ → Request
    f = question_to age tag question

    log : List Happening
    log = asked_log f tos global.log

    not_accept : {to : ℕ} {request : Request} {k : List ℕ} {b : Ballot} {e : ℕ} {asked : Option Ballot} {state : State} → Asked request ≡ Asked (f to) → request.ask ≡ ask.Accept k b e asked state → ⊥
    not_accept {to} {request} {k} {b} {e} {asked} {state} now is = let same : request ≡ f to = cc now in no_accept tag to question (sym (ap (λ (q : Request). q.ask) same) ∙ is)

    still : (d : DeskView V) (c : CallerView) → IsAt view.desks 0 d → IsAt view.callers 0 c → IsDeskTrue m cluster global.log global.made era 0 c (queue_at view.flow 0).messages d → d.round ≡ None
        → IsDeskTrue m cluster log global.made era 0 c (queue_at view.flow 0).messages d
    still d c at_d at_c of none = record {
      same_id = of.same_id;
      known = of.known;
      vault = asked_vault m f tos global.log 0 era d.vault (λ to. subst (λ (x : DeskView V). IsAged m.disks age x.vault) (sym (at_one view.desks 0 at_d at_desk)) aged) of.vault;
      cached = asked_ready cluster f tos global.log global.made 0 era d.cache (λ to k ready has_it request e asked state now is. absurd (not_accept now is)) of.cached;
      one_each = of.one_each;
      none_open = of.none_open;
      round = subst (IsOpenTrue cluster log global.made 0 era c (queue_at view.flow 0).messages) (sym none)
          (none_waits cluster global.log global.made 0 era c (queue_at view.flow 0).messages d.round none of.round);
    }

-- where it is of no key's collection
asks_whole : {S V : Type 0} (m : Meaning S V) (cluster : Cluster) (global : GlobalState) (view : View S V) (age : ℕ) (tag : Ballot) (question : Question) (tos : List ℕ) (desk : DeskView V) (caller : CallerView) → IsAt view.desks 0 desk → IsAt view.callers 0 caller → desk.round ≡ None → IsAged m.disks age desk.vault
    → IsOfNoKey question → view.council.exchange ≡ None → IsTag global.log (era_at view 0).number tag
    → ((to : ℕ) → Has to tos → (has_member (cluster.members (era_at view 0).number) to ≡ true) × (to < 64))
    → Whole m cluster global view → Whole m cluster (asked_global global (question_to age tag question) tos) view
asks_whole m cluster global view age tag question tos desk caller at_desk at_caller idle aged plain none_open is_tag members whole =
    let f = question_to age tag question in
    let era = (era_at view 0).number in
    asks_each m cluster global view age tag question tos desk caller at_desk at_caller idle aged
    (λ rest to h. may_question cluster (asked_global global f rest) question age era tag to plain (members to h).0 (members to h).1 (asked_tag f rest global.log era tag is_tag))
    (λ to. asks_by view.council (f to) (subst (λ (o : Option ExchangeView). IsNoProbeIn o (f to)) (sym none_open) tt) (λ one least is. plain_tells_none tag question to plain is) (λ c a is at round. absurd (plain_no_round tag question to plain round))) whole

-- a desk without an open round that stays quiet
quiets_desk : {S V : Type 0} (m : Meaning S V) (cluster : Cluster) (global : GlobalState) (old : View S V) (id : ℕ) (desk now : DeskView V) → IsAt old.desks id desk → desk.round ≡ None
    → ((caller : CallerView) → IsAt old.callers id caller → IsDeskQuiet m cluster global.log global.made id (era_at old id).number now) → Whole m cluster global old
    → Whole m cluster global (with_desk old id now)
quiets_desk {S} {V} m cluster global old id desk now at_desk idle quiet whole =
    settles m cluster global old (with_desk old id now) id (around m cluster global old id whole) (leaves_desk old id now old.flow (λ p other. refl))
    (record {
      desk = λ d c at_d at_c.
          let of = whole.parties.desks id tt desk c at_desk at_c in
          let none = none_waits cluster global.log global.made id (era_at old id).number c (queue_at old.flow id).messages desk.round idle of.round in
          subst (λ (x : DeskView V). IsDeskTrue m cluster global.log global.made (era_at old id).number id c (queue_at old.flow id).messages x) (sym (own_set old.desks id now d at_d))
          (quiet_true m cluster global.log global.made id (era_at old id).number c (queue_at old.flow id).messages now none (quiet c at_c));
      caller = λ c at_c. whole.parties.callers id tt c at_c;
      own = whole.parties.own id;
      late = whole.parties.late;
    })

-- a desk of proposer 0 whose vault fails in the draw of the tag
fails_whole : {S V : Type 0} (m : Meaning S V) (cluster : Cluster) (global : GlobalState) (old : View S V) (id : ℕ) (desk now : DeskView V) → m.disks.tells → IsAt old.desks id desk
    → desk.round ≡ None → FailsToDraw m.disks desk.cache desk now
    → Whole m cluster global old → Whole m cluster global (with_desk old id now)
fails_whole m cluster global old id desk now tells at_desk idle by whole =
    quiets_desk m cluster global old id desk now at_desk idle
    (λ c at_c. quiet_fails m cluster global.log global.made id (era_at old id).number c (queue_at old.flow id).messages [] desk now tells (whole.parties.desks id tt desk c at_desk at_c) by (failed_still m.disks [] desk now by)) whole

-- at first no member has told anything
pub none_told : (members : List ℕ) (place : ℕ) (answer : Answered) (told : Tell) → IsAt (map (λ member. record { acceptor = member; told = None }) members) place answer → answer.told ≡ Some told → ⊥
none_told [] place answer told at is = cc at
none_told (member ∷ members) zero answer told at is = cc (is, ap (λ (a : Answered). a.told) (some_is at))
none_told (member ∷ members) (suc place) answer told at is = none_told members place answer told at is

-- all members are
pub everyone_within : {S V : Type 0} (cluster : Cluster) (view : View S V) → IsEraOf cluster (era_at view 0) → (to : ℕ) → Has to (everyone view)
    → (has_member (cluster.members (era_at view 0).number) to ≡ true) × (to < 64)
everyone_within cluster view is to h =
    let has = has_member_of to (everyone view) h in
    (member_in cluster (era_at view 0) to is has, member_low (everyone view) to (IsMemberSet-members_where (λ n. has_member (era_at view 0).prep n || has_member (era_at view 0).acc n)) has)

-- who is asked is a member
asked_within : {S V : Type 0} (cluster : Cluster) (view : View S V) (question : Question) → IsEraOf cluster (era_at view 0) → (to : ℕ) → Has to (asked_by view question)
    → (has_member (cluster.members (era_at view 0).number) to ≡ true) × (to < 64)
asked_within cluster view (Probe key) is to h = everyone_within cluster view is to h
asked_within cluster view (NewAges key least) is to h = everyone_within cluster view is to h
asked_within cluster view (Removal key) is to h = everyone_within cluster view is to h
asked_within cluster view (NextKeys places) is to h =
    let test : ℕ → Bool = λ n. has_member (everyone view) n && not (has_ended (place_in places n)) in
    let has = has_member_of to (members_where test) h in (
      member_in cluster (era_at view 0) to is (and_left (has_member (everyone view) to) (not (has_ended (place_in places to))) (members_where_tells test to has)),
      member_low (members_where test) to (IsMemberSet-members_where test) has,
    )

-- with a listing proposer 0 works in the era that is to be settled, and all have entered that
pub record IsReadyToList {S V : Type 0} (cluster : Cluster) (log : List Happening) (view : View S V) (plan : PlanView) : Type 0 where
  pub in_base : (era_at view 0).number ≡ plan.progress.era.number
  pub entered : AllEntered cluster plan.progress.era.number (marks_of log)

abbrev pub ReadyToAsk : {S V : Type 0} → Cluster → List Happening → View S V → Question → Type 0
ReadyToAsk cluster log view (NextKeys places) = (plan : PlanView) → view.council.plan ≡ Some plan → next_of plan.progress.left ≡ Settle → IsReadyToList cluster log view plan
ReadyToAsk cluster log view other = ⊤

-- at first nothing is listed
fresh_place : (members : List ℕ) (member : ℕ) → place_in (map (λ one. record { member = one; place = GoesOn None }) members) member ≡ GoesOn None
fresh_place [] member = refl
fresh_place (one ∷ members) member = by_test (one == member) (place_in (map (λ one. record { member = one; place = GoesOn None }) members) member) (fresh_place members member)
  where
    by_test : (b : Bool) (rest : Place) → rest ≡ GoesOn None → (if b then GoesOn None else rest) ≡ GoesOn None
    by_test true rest is = refl
    by_test false rest is = is

-- a listing whose tag was drawn
begun_true : (cluster : Cluster) (log : List Happening) (era : ℕ) (tag : Ballot) (members : List ℕ) → IsTag (Drew tag [] era ∷ log) era tag → AllEntered cluster era (marks_of log)
    → ((call : ℕ) → IsProposed 0 call (marks_of log) → IsEnded 0 call (marks_of log))
    → IsListingTrue cluster (Drew tag [] era ∷ log) era (record { tag = tag; places = places_from members None; keys = []; complete = false })
begun_true cluster log era tag members is entered ended = record {
  own = is.own;
  drawn = record { older = log; at = here };
  above_floors = is.above;
  entered = entered;
  all_ended = ended;
  shown = λ member. subst (AreShown cluster (Drew tag [] era ∷ log) era member []) (sym (fresh_place members member)) (λ key low. absurd (cc low));
  quorum = λ none. absurd (cc none);
}

-- the tag that is used again, or was drawn, and the log with it
record IsTagged {S V : Type 0} (m : Meaning S V) (cluster : Cluster) (global : GlobalState) (view : View S V) (tag : Ballot) (question : Question) (plan : Option PlanView) : Type 0 where
  after : GlobalState
  drew_it : (key : List ℕ) → question ≡ Probe key → after.log ≡ Drew tag [] (era_at view 0).number ∷ global.log
  whole : Whole m cluster after view
  is_tag : IsTag after.log (era_at view 0).number tag
  plan_true : IsPlanTrue cluster after.log plan
  marks : marks_of after.log ≡ marks_of global.log

era_read : (b : Bool) (era read : Era) → (if b then Some era else None) ≡ Some read → era ≡ read
era_read true era read is = some_is is
era_read false era read is = absurd (cc is)

pub asks_all : {S V : Type 0} {cluster : Cluster} (m : Meaning S V) (old : View S V) (question : Question) (new : View S V) → m.disks.tells → (is : IsLogged m cluster old)
    → ReadyToAsk cluster is.global.log old question → StepAskAll m old question new → IsLogged m cluster new
asks_all {S} {V} {cluster} m old question new tells is ready by = by_case by.asks
  where
    may : MayAskAll old question by.desk
    may = by.may

    whole : Whole m cluster is.global old
    whole = whole_of m old is

    era : ℕ
    era = (era_at old 0).number

    plain : IsOfNoKey question
    plain = plain_for (everyone old) old.council may.caller.call may.order.asked question may.is_for

    of : IsDeskTrue m cluster is.global.log is.global.made era 0 may.caller (queue_at old.flow 0).messages by.desk
    of = whole.parties.desks 0 tt by.desk may.caller may.at_desk may.at_caller

    -- a tag is drawn, or none
    drawn_whole : (now : DeskView V) (tag : Option Ballot) → MayHaveDrawn m.disks by.desk.id by.desk.vault now.vault tag → now ≡ record by.desk { vault = now.vault }
        → Whole m cluster (drew is.global tag [] era) (with_desk old 0 now)
    drawn_whole now tag drawn is_now =
        lost m cluster is.global old 0 [] by.desk now tag tells may.at_desk may.idle (drew_only m.disks by.desk now tag may.idle drawn is_now) may.caller may.at_caller whole

    -- the open call is told something
    told_one : (view : View S V) (global : GlobalState) (answer : OpAnswer) → Whole m cluster global view → marks_of global.log ≡ reverse view.marks → IsLogged m cluster (told_view view answer)
    told_one view global answer then_ marks = logged m cluster global (told_view view answer) (tells_view m cluster global view answer then_) marks

    drawn_tag : (now : DeskView V) (tag : Ballot) → HasDrawn m.disks by.desk.id by.desk.vault now.vault tag → IsTag (drew is.global (Some tag) [] era).log era tag
    drawn_tag now tag drawn =
        let hand = drew_in_hand m cluster is.global 0 era [] by.desk.vault now.vault tag of.known (subst (λ (i : ℕ). HasDrawn m.disks i by.desk.vault now.vault tag) of.same_id drawn) of.vault whole.history in
        record { own = hand.own; drawn = hand.drawn; above = hand.above_floors }

    -- a read is of the era in which its tag was drawn
    read_there : (now : DeskView V) (tag : Ballot) (key : List ℕ) (read : Era) (tos : List ℕ) → question ≡ Probe key → read_era old question ≡ Some read
        → (tagged : IsTagged m cluster is.global (with_desk old 0 now) tag question (plan_asked question tag old.council.plan))
        → IsReadTrue cluster (asked_log (question_to (kept_of by.desk.vault).age tag question) tos tagged.after.log) tag (length old.marks) key read
    read_there now tag key read tos asks reads tagged =
        let age : ℕ = (kept_of by.desk.vault).age in
        let many : ℕ = length old.marks in
        let its_era = whole.parties.eras 0 (omega arith) in
        subst (λ (e : Era). IsReadTrue cluster (asked_log (question_to age tag question) tos tagged.after.log) tag many key e)
        (era_read (reads_by old.council.order question) (era_at old 0) read reads)
        (subst (λ (q : Question). IsReadTrue cluster (asked_log (question_to age tag q) tos tagged.after.log) tag many key (era_at old 0)) (sym asks)
        (subst (λ (l : List Happening). IsReadTrue cluster (asked_log (question_to age tag (Probe key)) tos l) tag many key (era_at old 0)) (sym (tagged.drew_it key asks))
        (read_begun cluster is.global.log age many tag key tos (era_at old 0) (subst (Orderly cluster) (tagged.drew_it key asks) tagged.whole.history.orderly)
        (ap (λ (l : List Mark). length l) is.agrees.marks ∙ length-reverse old.marks)
        (λ beyond. of.vault.not_beyond (subst (λ (p : ℕ). Stands (Entered p (suc era)) is.global.log) tagged.is_tag.own beyond))
        (record { empty = λ floor has. is.history.knows.floors key floor has; clear = λ floor has. is.history.knows.clear key floor has })
        (λ by holds. its_era.prepares by ∙ holds) (λ by holds. its_era.accepts by ∙ holds))))

    asked : (now : DeskView V) (tag : Ballot) (flow : FlowView) → now ≡ record by.desk { vault = now.vault } → IsAged m.disks (kept_of by.desk.vault).age now.vault
        → IsTagged m cluster is.global (with_desk old 0 now) tag question (plan_asked question tag old.council.plan)
        → Sends old.flow exchange_place (questions_to (kept_of by.desk.vault).age tag question (asked_by old question)) flow
        → IsLogged m cluster (with_council (record (with_desk old 0 now) { flow = flow }) (record old.council { exchange = Some (new_exchange question tag (asked_by old question) (length old.marks) (read_era old question)); plan = plan_asked question tag old.council.plan }))
    asked now tag flow is_now aged tagged sends =
        let view : View S V = with_desk old 0 now in
        let age : ℕ = (kept_of by.desk.vault).age in
        let tos : List ℕ = asked_by old question in
        let f : ℕ → Request = question_to age tag question in
        let then_ : Whole m cluster (asked_global tagged.after f tos) view =
        asks_whole m cluster tagged.after view age tag question tos now may.caller (at_set old.desks 0 by.desk now may.at_desk) may.at_caller
        (ap (λ (d : DeskView V). d.round) is_now ∙ may.idle) aged plain may.none_open tagged.is_tag
        (asked_within cluster old question (whole.parties.eras 0 (omega arith))) tagged.whole in
        let log : List Happening = asked_log f tos tagged.after.log in
        let flows : ReFlows log old.flow flow = record {
          others = λ p other. ap (λ (q : QueueView). q.messages) (sends.others p other);
          own = subst (AreMessagesTrue log) (sym sends.own) (λ each h. elim (contains_append (queue_at old.flow exchange_place).messages (questions_to age tag question tos) h) [
            | inl front ↦ then_.parties.own exchange_place each front
            | inr back ↦ asked_messages f tos tagged.after.log each back
          ]);
          late = subst (AreMessagesTrue log) (sym sends.late) then_.parties.late;
        } in
        let moved : View S V = record view { flow = flow } in
        logged m cluster (asked_global tagged.after f tos)
        (with_council moved (record old.council { exchange = Some (new_exchange question tag tos (length old.marks) (read_era old question)); plan = plan_asked question tag old.council.plan }))
        (counsels m cluster (asked_global tagged.after f tos) moved _ (
          λ exchange open_. subst (IsExchangeTrue cluster log) (some_is open_) (record {
            own = tagged.is_tag.own;
            era = era;
            drawn = subst (λ (k : List ℕ). Stands (Drew tag k era) log) (sym (plain_key question plain)) (asked_later f tos tagged.after.log tagged.is_tag.drawn);
            told = λ place answer told at is_told. absurd (none_told tos place answer told at is_told);
            read = λ key read asks reads. read_there now tag key read tos asks reads tagged;
          }),
          asked_plan cluster f tos tagged.after.log (plan_asked question tag old.council.plan) tagged.plan_true,
          is.agrees.council.2,
          then_.parties.council.3,
        ) (reflows m cluster (asked_global tagged.after f tos) view flow flows then_))
        (asked_marks f tos tagged.after.log ∙ tagged.marks ∙ is.agrees.marks)

    tagged_by : (q : Question) (now : DeskView V) (tag : Ballot) → ReadyToAsk cluster is.global.log old q → HasTag m.disks (listing_for old.council q) by.desk now tag
        → now ≡ record by.desk { vault = now.vault }
        → IsForQuestion (everyone old) old.council may.caller.call may.order.asked q → IsTagged m cluster is.global (with_desk old 0 now) tag q (plan_asked q tag old.council.plan)
    tagged_by (Probe key) now tag ready drawn is_now is_for = record {
      after = drew is.global (Some tag) [] era;
      drew_it = λ k asks. refl;
      whole = drawn_whole now (Some tag) drawn is_now;
      is_tag = drawn_tag now tag drawn;
      plan_true = (drawn_whole now (Some tag) drawn is_now).parties.council.1;
      marks = drew_marks is.global.log [] era (Some tag);
    }
    tagged_by (NewAges key least) now tag ready has_tag is_now is_for = absurd is_for
    tagged_by (Removal key) now tag ready has_tag is_now is_for = absurd is_for
    tagged_by (NextKeys places) now tag ready has_tag is_now (none_open, due) =
        subst (λ (o : Option PlanView). IsTagged m cluster is.global (with_desk old 0 now) tag (NextKeys places) (option_map (listing_begun places tag) o)) (sym due.is_plan)
        (by_listing due.plan.listing refl (subst (λ (o : Option PlanView). HasTag m.disks (listing_in o) by.desk now tag) due.is_plan has_tag))
      where
        on : IsReadyToList cluster is.global.log old due.plan
        on = ready due.plan due.is_plan due.settles

        known : (log : List Happening) → IsPlanTrue cluster log old.council.plan → IsPlanKnown cluster log due.plan
        known log was = subst (IsPlanTrue cluster log) due.is_plan was

        -- no call of caller 0 that was proposed is open
        all_ended : (call : ℕ) → IsProposed 0 call (marks_of is.global.log) → IsEnded 0 call (marks_of is.global.log)
        all_ended call proposed = elim ((whole.parties.callers 0 tt may.caller may.at_caller).ended call proposed) [
          | inl open_ ↦ absurd (cc (open_.0, none_open))
          | inr ended ↦ ended
        ]

        begun : (listing : Option ListingView) → PlanView
        begun listing = record due.plan { listing = Some (begun_listing places tag listing) }

        by_listing : (listing : Option ListingView) → due.plan.listing ≡ listing → HasTag m.disks listing by.desk now tag
            → IsTagged m cluster is.global (with_desk old 0 now) tag (NextKeys places) (Some (record due.plan { listing = Some (begun_listing places tag due.plan.listing) }))
        by_listing None is_listing drawn =
            subst (λ (l : Option ListingView). IsTagged m cluster is.global (with_desk old 0 now) tag (NextKeys places) (Some (record due.plan { listing = Some (begun_listing places tag l) })))
            (sym is_listing) (record {
              after = drew is.global (Some tag) [] era;
              drew_it = λ k asks. absurd (cc asks);
              whole = drawn_whole now (Some tag) drawn is_now;
              is_tag = drawn_tag now tag drawn;
              plan_true = record {
                settled = (known (Drew tag [] era ∷ is.global.log) (drawn_whole now (Some tag) drawn is_now).parties.council.1).settled;
                listing = λ listing same. subst (IsListingTrue cluster (Drew tag [] era ∷ is.global.log) due.plan.progress.era.number) (some_is same)
                    (subst (λ (l : List MemberPlace). IsListingTrue cluster (Drew tag [] era ∷ is.global.log) due.plan.progress.era.number (record { tag = tag; places = l; keys = []; complete = false }))
                    (sym (due.goes_on ∙ ap (places_from (everyone old)) is_listing))
                    (subst (λ (e : ℕ). IsListingTrue cluster (Drew tag [] e ∷ is.global.log) due.plan.progress.era.number (record { tag = tag; places = places_from (everyone old) None; keys = []; complete = false })) (sym on.in_base)
                    (begun_true cluster is.global.log due.plan.progress.era.number tag (everyone old) (subst (λ (e : ℕ). IsTag (Drew tag [] e ∷ is.global.log) e tag) on.in_base (drawn_tag now tag drawn)) on.entered all_ended)));
              };
              marks = drew_marks is.global.log [] era (Some tag);
            })
        by_listing (Some listing) is_listing (same_tag, same_vault) =
            let kept : Whole m cluster is.global (with_desk old 0 now) =
            drawn_whole now None (subst (λ (v : Vault V). HasKept m.disks by.desk.vault v) (sym same_vault) (goes_same m.disks by.desk.vault)) is_now in
            let was : IsPlanKnown cluster is.global.log due.plan = known is.global.log whole.parties.council.1 in
            let listing_true : IsListingTrue cluster is.global.log due.plan.progress.era.number listing = was.listing listing is_listing in
            subst (λ (l : Option ListingView). IsTagged m cluster is.global (with_desk old 0 now) tag (NextKeys places) (Some (record due.plan { listing = Some (begun_listing places tag l) })))
            (sym is_listing) (record {
              after = is.global;
              drew_it = λ k asks. absurd (cc asks);
              whole = kept;
              is_tag = subst (λ (e : ℕ). IsTag is.global.log e tag) (sym on.in_base) (subst (IsTag is.global.log due.plan.progress.era.number) (sym same_tag)
                  (record { own = listing_true.own; drawn = listing_true.drawn; above = listing_true.above_floors }));
              plan_true = record { settled = was.settled; listing = λ other same. subst (IsListingTrue cluster is.global.log due.plan.progress.era.number) (some_is same) listing_true };
              marks = refl;
            })

    by_case : AsksAll m old question by.desk new → IsLogged m cluster new
    by_case (council.asks now tag flow up room tagged is_now sends view) =
        subst (IsLogged m cluster) (sym view) (asked now tag flow is_now (tagged.aged tells) (tagged_by question now tag ready tagged.has_tag is_now may.is_for) sends)
    by_case (council.is_down down view) = subst (IsLogged m cluster) (sym view) (told_one old is.global _ whole is.agrees.marks)
    by_case (council.is_full up full view) = subst (IsLogged m cluster) (sym view) (told_one old is.global _ whole is.agrees.marks)
    by_case (council.is_spent now up spent kept is_now view) = subst (IsLogged m cluster) (sym view) (told_one (with_desk old 0 now) is.global _ (drawn_whole now None kept is_now) is.agrees.marks)
    by_case (council.fails now up by_fault view) =
        subst (IsLogged m cluster) (sym view) (told_one (with_desk old 0 now) is.global _ (fails_whole m cluster is.global old 0 by.desk now tells may.at_desk may.idle (where_drawn (listing_for old.council question) by_fault) whole) is.agrees.marks)
    by_case (council.no_memory now tag up by_loss view) =
        subst (IsLogged m cluster) (sym view) (told_one (with_desk old 0 now) (drew is.global tag [] era) _
        (lost m cluster is.global old 0 [] by.desk now tag tells may.at_desk may.idle by_loss may.caller may.at_caller whole) (drew_marks is.global.log [] era tag ∙ is.agrees.marks))

-- ---- a turn of the exchange
-- a reply that was made tells what its sender told
heard_told : (log : List Happening) (tag : Ballot) (question : Question) (reply : Reply) (told : List Answered) (place : Option ℕ) → WasMade log reply → IsReplyTo tag question reply
    → WereTold log tag question told
    → WereTold log tag question (option_map_or (λ at. slice_set told at (record { acceptor = reply.from; told = Some reply.tell })) place told)
heard_told log tag question reply told None made to_it were place answer tell at is = were place answer tell at is
heard_told log tag question reply told (Some spot) made to_it were place answer tell at is = elim (but_set told spot (record { acceptor = reply.from; told = Some reply.tell }) place answer at) [
  | inl same ↦ record { reply = reply; made = made; same_from = ap (λ (a : Answered). a.acceptor) (sym same.1); same_tell = some_is (ap (λ (a : Answered). a.told) (sym same.1) ∙ is); to_it = to_it }
  | inr other ↦ were place answer tell other.1 is
]

-- a frame to or from the member is harmed, and marked once
record IsHarmedBy {S V : Type 0} (m : Meaning S V) (cluster : Cluster) (global : GlobalState) (view : View S V) (exchange : ExchangeView) (member : ℕ) (down : Bool) : Type 0 where
  pub after : GlobalState
  pub whole : Whole m cluster after view
  pub marks : marks_of after.log ≡ reverse (harm_marks exchange member down) ++ marks_of global.log

harms_by : {S V : Type 0} (m : Meaning S V) (cluster : Cluster) (global : GlobalState) (view : View S V) (exchange : ExchangeView) (member : ℕ) (down : Bool) → Whole m cluster global view
    → IsHarmedBy m cluster global view exchange member down
harms_by {S} {V} m cluster global view exchange member down whole = by_test (has_member exchange.harmed member) refl
  where
    by_test : (b : Bool) → has_member exchange.harmed member ≡ b → IsHarmedBy m cluster global view exchange member down
    by_test true e = record { after = global; whole = whole; marks = sym (ap (λ (l : List Mark). reverse l ++ marks_of global.log) (if_true (has_member exchange.harmed member) [] (Harmed 0 0 down ∷ []) e)) }
    by_test false e = record {
      after = with_mark global (Marked (Harmed 0 0 down));
      whole = whole_more m cluster global view (Marked (Harmed 0 0 down)) (λ p. tt) (λ a. tt) (keeps cluster whole.meets global whole.history (Harms 0 0 down)) whole;
      marks = sym (ap (λ (l : List Mark). reverse l ++ marks_of global.log) (if_false (has_member exchange.harmed member) [] (Harmed 0 0 down ∷ []) e));
    }

-- the first frame is taken
taken_reflows : (log : List Happening) (flow : FlowView) (verdict : Verdict) {front : Message} → slice_get (queue_at flow exchange_place).messages 0 ≡ Some front
    → AreMessagesTrue log (queue_at flow exchange_place).messages → AreMessagesTrue log flow.late
    → ReFlows log flow (taken flow exchange_place verdict)
taken_reflows log flow verdict e own late = let flows = taken_flows log flow exchange_place verdict e own late in record { others = flows.others; own = flows.own; late = flows.late }

harmed_turn : {S V : Type 0} (m : Meaning S V) (cluster : Cluster) (global : GlobalState) (view : View S V) (verdict : Verdict) (front : Message) (exchange : ExchangeView) (member : ℕ) (down : Bool)
    → view.council.exchange ≡ Some exchange
    → slice_get (queue_at view.flow exchange_place).messages 0 ≡ Some front → marks_of global.log ≡ reverse view.marks → Whole m cluster global view
    → IsLogged m cluster (harms (record view { flow = taken view.flow exchange_place verdict }) exchange member down)
harmed_turn m cluster global view verdict front exchange member down is_open in_front marks whole =
    let is = harms_by m cluster global view exchange member down whole in
    let was = is.whole.parties.council.0 exchange is_open in
    let moved = record view { flow = taken view.flow exchange_place verdict } in
    marked m cluster is.after (with_exchange moved (harmed_exchange exchange member)) (harm_marks exchange member down) (marks_of global.log)
    (counsels m cluster is.after moved _ (λ other open_. subst (IsExchangeTrue cluster is.after.log) (some_is open_) (record { own = was.own; era = was.era; drawn = was.drawn; told = was.told; read = was.read }), is.whole.parties.council.1, is.whole.parties.council.2, is.whole.parties.council.3)
    (reflows m cluster is.after view (taken view.flow exchange_place verdict) (taken_reflows is.after.log view.flow verdict in_front (is.whole.parties.own exchange_place) is.whole.parties.late) is.whole))
    marks is.marks

pub turns_exchange : {S V : Type 0} {cluster : Cluster} (m : Meaning S V) (old : View S V) (verdict : Verdict) (new : View S V) → m.shelves.tells → IsLogged m cluster old
    → StepTurnExchange m old verdict new → IsLogged m cluster new
turns_exchange {S} {V} {cluster} m old verdict new tells is step = by_turn step.turn
  where
    exchange : ExchangeView
    exchange = step.at.exchange

    whole : Whole m cluster is.global old
    whole = whole_of m old is

    in_front : {each : Message} → step.front ≡ each → slice_get (queue_at old.flow exchange_place).messages 0 ≡ Some each
    in_front same = step.waits ∙ ap (λ (each : Message). Some each) same

    front_true : {each : Message} → step.front ≡ each → IsMessageTrue is.global.log each
    front_true {each} same = whole.parties.own exchange_place each (contains_at (queue_at old.flow exchange_place).messages 0 each (in_front same))

    by_turn : TurnsExchange m old verdict step.front exchange new → IsLogged m cluster new
    by_turn (council.held fall view) = subst (IsLogged m cluster) (sym view) is
    by_turn (council.gone fall view) = subst (IsLogged m cluster) (sym view) (harmed_turn m cluster is.global old verdict step.front exchange _ false step.at.is_open step.waits is.agrees.marks whole)
    by_turn (council.answers request acceptor now reply fall front at by view) =
        let answered = answered_global is.global request reply (m.shelves.contents now.shelf) in
        let then_ = answers m cluster is.global old request reply acceptor now tells at by (front_true front) whole in
        let flows = replied_flows answered.log old.flow exchange_place verdict reply (in_front front) (then_.parties.own exchange_place) then_.parties.late (reply_made m is.global request reply acceptor now by) in
        subst (IsLogged m cluster) (sym view)
        (marked m cluster answered (record (with_acceptor old request.to now) { flow = replied_flow old.flow exchange_place verdict reply }) (votes_marked request reply) (marks_of is.global.log)
        (reflows m cluster answered (with_acceptor old request.to now) (replied_flow old.flow exchange_place verdict reply) (record { others = flows.others; own = flows.own; late = flows.late }) then_)
        is.agrees.marks (answer_marks is.global request reply (m.shelves.contents now.shelf)))
    by_turn (council.finds_down request acceptor fall front at down view) =
        subst (IsLogged m cluster) (sym view) (harmed_turn m cluster is.global old verdict step.front exchange _ true step.at.is_open step.waits is.agrees.marks whole)
    by_turn (council.brings_down request acceptor now fall front at by view) =
        subst (IsLogged m cluster) (sym view)
        (harmed_turn m cluster is.global (with_acceptor old request.to now) verdict step.front exchange _ true step.at.is_open step.waits is.agrees.marks
        (stops_within m cluster is.global old request acceptor now tells at by (front_true front) whole))
    by_turn (council.arrives reply fall front to_it view) =
        let was = whole.parties.council.0 exchange step.at.is_open in
        let moved = record old { flow = taken old.flow exchange_place verdict } in
        subst (IsLogged m cluster) (sym view)
        (logged m cluster is.global (with_exchange moved (record exchange { told = hears reply exchange.told }))
        (counsels m cluster is.global moved _ (
          λ other open_. subst (IsExchangeTrue cluster is.global.log) (some_is open_) (record {
            own = was.own;
            era = was.era;
            drawn = was.drawn;
            told = heard_told is.global.log exchange.tag exchange.question reply exchange.told (position (awaits reply.from) exchange.told) (front_true front) to_it was.told;
            read = was.read;
          }),
          whole.parties.council.1,
          whole.parties.council.2,
          whole.parties.council.3,
        ) (reflows m cluster is.global old (taken old.flow exchange_place verdict) (taken_reflows is.global.log old.flow verdict step.waits (whole.parties.own exchange_place) whole.parties.late) whole))
        is.agrees.marks)

-- the open call is told something
pub told_remembered : {S V : Type 0} {cluster : Cluster} (m : Meaning S V) (view : View S V) (answer : OpAnswer) → IsLogged m cluster view → IsLogged m cluster (told_view view answer)
told_remembered {cluster = cluster} m view answer is = logged m cluster is.global (told_view view answer) (tells_view m cluster is.global view answer (whole_of m view is)) is.agrees.marks

-- no memory was found for one
pub refuses_exchange : {S V : Type 0} {cluster : Cluster} (m : Meaning S V) (old : View S V) (new : View S V) → m.shelves.tells → IsLogged m cluster old → StepRefuseTurnExchange m old new
    → IsLogged m cluster new
refuses_exchange {cluster = cluster} m old new tells is step =
    subst (IsLogged m cluster) (sym step.view) (told_remembered m step.middle _ (refuses_stray m old step.middle tells is step.refuses))

-- ---- proposer 0 crashes within it
broken_true : (cluster : Cluster) (log : List Happening) (open_ : Option ExchangeView) → ((exchange : ExchangeView) → open_ ≡ Some exchange → IsExchangeTrue cluster log exchange)
    → (exchange : ExchangeView) → option_map broken_off open_ ≡ Some exchange → IsExchangeTrue cluster log exchange
broken_true cluster log None were exchange e = absurd (cc e)
broken_true cluster log (Some was) were exchange e = let is = were was refl in subst (IsExchangeTrue cluster log) (some_is e) (record { own = is.own; era = is.era; drawn = is.drawn; told = is.told; read = is.read })

pub breaks_off : {S V : Type 0} {cluster : Cluster} (m : Meaning S V) (old : View S V) → IsLogged m cluster old → IsLogged m cluster (broken_off_view old)
breaks_off {cluster = cluster} m old is =
    let whole = whole_of m old is in
    logged m cluster is.global (broken_off_view old)
    (counsels m cluster is.global (record old { flow = abandoned old.flow exchange_place }) (crashed_in old.council) (broken_true cluster is.global.log old.council.exchange whole.parties.council.0, whole.parties.council.1, whole.parties.council.2, whole.parties.council.3)
    (reflows m cluster is.global old (abandoned old.flow exchange_place) (abandoned_flows is.global.log old.flow (whole.parties.own exchange_place) whole.parties.late) whole))
    is.agrees.marks
