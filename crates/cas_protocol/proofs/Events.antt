-- Whatever happens, a cluster with a history has one after it; so the record of every run is legal.
use Rattle.std.proofs.Common.{◌≡◌, ◌<◌, ◌≤◌, ℕ, suc, false, List, [], ◌∷◌, ◌++◌, Option, None, refl, sym, ap, subst, ◌∙◌, inl, inr, arith}
use Rattle.std.specs.Prelude.{⊤, ◌⊎◌, ◌==◌}
use Rattle.std.specs.Cmp.Lexicographic.{slice_cmp}
use Rattle.std.specs.FinMap as map
use Rattle.std.specs.Ordering.{nat_cmp}
use Rattle.cas_base.proofs.Bools.{if_true, if_false, true_or_false, not_both}
use Rattle.cas_ballot.specs.declared.ballot.Ballot.{Ballot}
use Rattle.cas_ballot.specs.Ballot.{BallotAtMost, BallotLess}
use Rattle.cas_ballot.proofs.BallotLemmas.{less_not_at_most, at_most_of_less}
use Rattle.cas_cache.specs.declared.ready.Ready.{Ready}
use Rattle.cas_change.specs.declared.program.Clause.{Clause}
use Rattle.cas_change.specs.declared.state.State.{State}
use Rattle.cas_change.specs.declared.state.State.TheVariants.{Empty}
use Rattle.cas_change.specs.Outcome.{outcome_of}
use Rattle.cas_slot.specs.declared.message.Ask.{Ask}
use Rattle.cas_slot.specs.declared.message.Ask.TheVariants as ask
use Rattle.cas_slot.specs.declared.message.Request.{Request}
use Rattle.cas_slot.specs.declared.message.Reply.{Reply}
use Rattle.cas_slot.specs.declared.message.Tell.{Tell}
use Rattle.cas_slot.specs.declared.slot.Accepted.{Accepted}
use Rattle.cas_slot.specs.declared.slot.Slot.{Slot}
use Rattle.cas_slot.specs.Contents.{Contents, nothing, kept_at}
use Rattle.cas_slot.specs.Slot.{accepted_of}
use Rattle.cas_slot.specs.Message.{tag_of}
use Rattle.cas_slot.specs.Rules.{key_of}
use Rattle.cas_slot.specs.Table.{Handles, IsReplyByTable}
use Rattle.cas_record.specs.declared.answer.Answer.{Answer}
use Rattle.cas_record.specs.declared.answer.Answer.TheVariants as answer
use Rattle.cas_record.specs.declared.mark.Mark.{Mark}
use Rattle.cas_record.specs.declared.mark.Mark.TheVariants.{Begun, Proposed, Acked, Floor, Ended}
use Rattle.cas_record.specs.declared.mark.Proposal.{Proposal}
use Rattle.cas_record.specs.Histories.Chain.{chain_of, link_of}
use Rattle.cas_record.specs.Logs.Happening.{Happening, Marked, Asked, Entered, Drew, Replied, marks_of}
use Rattle.cas_record.specs.Laws.{HistoryIsOpened}
use Rattle.cas_record.specs.Logs.Lawful.{Cluster, ClusterMeets, Lawful, AreFirst, May, MayPropose, MayLeaveEra, MayAnswer}
use Rattle.cas_record.specs.Legal.{HasFloor}
use Rattle.cas_record.specs.Logs.Orderly.{Orderly, HasReason, IsRoundAsk, MayAsk, MayAskFor, MayTakeFirst, IsAgedOut, IsClear, took_it, never_asked}
use Rattle.cas_record.specs.Places.{At, Stands, here, past}
use Rattle.cas_record.specs.Histories.Replay.{replay_from, opening_state}
use Rattle.cas_record.proofs.Logs.Listings.{stones_of_listing}
use Rattle.cas_record.proofs.Logs.Orders.{age_later, round_asked}
use Rattle.cas_record.proofs.Logs.Lemmas.{part_of, in_log, mark_stands, proposed_at, acked_at, acked_proposed}
use Rattle.cas_record.proofs.Logs.Openings.{first_at, first_taken, has_opening_deeper, never_proposed, opening_stone}
use Rattle.cas_record.proofs.PlaceLemmas.{newest_or, none_at_nil, stands_at, stands_part}
use Rattle.cas_record.proofs.Tests.{nat_same, nat_is}
use Rattle.cas_record.proofs.LawLemmas.{lawful_is_legal}
use Rattle.cas_protocol.specs.Acceptors.{told_of, IsAcceptedState, LogTells, IsMadeState, IsEmptyAt, IsAskState, IsElsewhere, events_of, votes_of, done_log, answered_log}
use Rattle.cas_protocol.specs.Desks.{IsRiding}
use Rattle.cas_protocol.specs.Laws.{LogTellsKept}
use Rattle.cas_protocol.specs.Proposers.{IsReplyTrue, AreRepliesTrue, AreFloorsClear, state_read}
use Rattle.cas_protocol.specs.Protocol.{Made, GlobalState, kept_but, AllReplied, HasMade, IsMadeAsk, IsPrepared, IsPreparedByRide, is_done, IsLeaving, Begins, Draws, Asks, Answers, StopsWithin, Proposes, ProposesByRide, Counts, SeesVote, CountsSeen, EndsDone, EndsElse, Harms, TellsOperator, MakesFloor, Enters, MarksEra, Run, opened, then, IsMadeOf, IsFloorClear, Knows, HasHistory, EventsKeepHistory, RunsAreLegal, HasEnded, IsEndedAsk}
use Rattle.cas_protocol.proofs.Along.{EachOf, along, events_each, votes_each}
use Rattle.cas_protocol.proofs.Answered.{answers, events_kept}
use Rattle.cas_protocol.proofs.Growing.{made_grows, ask_grows}
use Rattle.cas_protocol.proofs.Known as known
use Rattle.cas_protocol.proofs.Probes.{may_vote, may_ack}
use Rattle.cas_protocol.proofs.Proposes.{clear_of_floors, propose, count}
use Rattle.cas_protocol.proofs.Rides.{rides, draws, done}
use Rattle.cas_protocol.proofs.Staying.{tells_still}

-- ---- what is known goes on
-- what must be so for the happening to add nothing unknown
abbrev IsGood : Cluster → List Happening → Happening → Type 0
IsGood cluster log (Asked request) = IsAskState (marks_of log) request.ask × ((request.from ≤ 16) × (request.to < 64)) × IsEndedAsk (marks_of log) request.ask
IsGood cluster log (Replied request reply) = IsReplyTrue (Replied request reply ∷ log) reply
IsGood cluster log (Marked (Proposed p)) = Stands (Drew p.ballot p.key p.era) log
IsGood cluster log (Marked (Floor key floor state)) = IsEmptyAt (marks_of log) key floor × IsFloorClear cluster log key floor
IsGood cluster log other = ⊤

-- a mark that stands then is what happened, or stood before
pub mark_now : (h : Happening) (log : List Happening) {mark : Mark} → Stands mark (marks_of (h ∷ log)) → (Marked mark ≡ h) ⊎ Stands mark (marks_of log)
mark_now (Marked now) log stands = elim (newest_or stands) [
  | inl same ↦ inl (ap Marked same)
  | inr before ↦ inr before
]
mark_now h log stands = inr stands

-- a mark stays
mark_grows : (h : Happening) (log : List Happening) {mark : Mark} → Stands mark (marks_of log) → Stands mark (marks_of (h ∷ log))
mark_grows (Marked now) log stands = record { older = stands.older; at = past stands.at }
mark_grows h log stands = stands

-- a call that has ended has
pub ended_grows : (h : Happening) (log : List Happening) {ballot : Ballot} → HasEnded (marks_of log) ballot → HasEnded (marks_of (h ∷ log)) ballot
ended_grows h log was = record {
  proposal = was.proposal;
  stands = mark_grows h log was.stands;
  same_ballot = was.same_ballot;
  ended = record { rounds = was.ended.rounds; answer = was.ended.answer; stands = mark_grows h log was.ended.stands };
}

ended_ask_grows : (h : Happening) (log : List Happening) (question : Ask) → IsEndedAsk (marks_of log) question → IsEndedAsk (marks_of (h ∷ log)) question
ended_ask_grows h log (ask.Ages tag least) was = ended_grows h log was
ended_ask_grows h log (ask.Prepare key ballot) was = tt
ended_ask_grows h log (ask.Accept key ballot era ride state) was = tt
ended_ask_grows h log (ask.Remove key tomb) was = tt
ended_ask_grows h log (ask.List tag after) was = tt
ended_ask_grows h log (ask.Probe tag key) was = tt

-- a floor that stands then stood before, or is what happened
floor_now : (h : Happening) (log : List Happening) (key : List ℕ) (floor : Ballot) → HasFloor key floor (marks_of (h ∷ log)) → ((state : State) × (Marked (Floor key floor state) ≡ h)) ⊎ HasFloor key floor (marks_of log)
floor_now h log key floor has = elim (mark_now h log has.stands) [
  | inl now ↦ inl (has.state, now)
  | inr before ↦ inr (record { state = has.state; stands = before })
]

-- what opened the history of a key did
opened_grows : {cluster : Cluster} (h : Happening) (log : List Happening) {key : List ℕ} {floor : Ballot} → HistoryIsOpened cluster log key floor → HistoryIsOpened cluster (h ∷ log) key floor
opened_grows h log was = record {
  opening = has_opening_deeper was.opening here;
  some = was.some;
  by = was.by;
  prepares = was.prepares;
  accepts = was.accepts;
  took = λ acceptor member. let took = was.took acceptor member in record { older = took.older; at = past took.at };
}

-- who is clear of a floor stays so, as what is asked is above it
pub clear_stays : (cluster : Cluster) (h : Happening) (log : List Happening) {acceptor : ℕ} {key : List ℕ} {floor : Ballot} → HasReason cluster log h
    → ((ballot ride : Ballot) → MayTakeFirst cluster log acceptor key ballot ride → BallotAtMost floor ballot) → ((request : Request) → Asked request ≡ h → IsRoundAsk request.ask → key_of request.ask ≡ key → BallotLess floor (tag_of request.ask)) → IsClear log acceptor key floor → IsClear (h ∷ log) acceptor key floor
clear_stays cluster h log why first above (took_it ride took) = took_it ride (record { older = took.older; at = past took.at })
clear_stays cluster h log {floor = floor} why first above (never_asked never none_taken) =
    never_asked (λ request stands to round same. elim (newest_or stands) [
      | inl now ↦ above request now round same
      | inr before ↦ never request before to round same
    ]) (λ ballot ride took. elim (newest_or took) [
      | inl now ↦ elim (subst (HasReason cluster log) (sym now) why) [
        | inl by ↦ at_most_of_less (subst (λ (a : Ask). BallotLess floor (tag_of a)) by.is (never by.request by.was_asked.asked by.was_asked.to (subst IsRoundAsk (sym by.is) tt) (ap key_of by.is)))
        | inr may ↦ first ballot ride may
      ]
      | inr before ↦ none_taken ballot ride before
    ])

-- what was asked at or below it stays too old
aged_stays : (h : Happening) (log : List Happening) {acceptor : ℕ} {key : List ℕ} {floor : Ballot}
    → ((request : Request) → Asked request ≡ h → IsRoundAsk request.ask → key_of request.ask ≡ key → BallotLess floor (tag_of request.ask)) → IsAgedOut log acceptor key floor → IsAgedOut (h ∷ log) acceptor key floor
aged_stays h log {acceptor} above was = record {
  aged = λ request stands to round same low. elim (newest_or stands) [
    | inl now ↦ absurd (less_not_at_most (above request now round same) low)
    | inr before ↦
        let newest : At h log (h ∷ log) = here in
        omega (arith, was.aged request before to round same low, age_later (h ∷ log) acceptor request.from newest)
  ];
}

-- and so do the members of the eras that the floor is for
floor_clear_stays : (cluster : Cluster) (h : Happening) (log : List Happening) {key : List ℕ} {floor : Ballot} → HasReason cluster log h
    → ((acceptor : ℕ) (ballot ride : Ballot) → MayTakeFirst cluster log acceptor key ballot ride → BallotAtMost floor ballot) → ((request : Request) → Asked request ≡ h → IsRoundAsk request.ask → key_of request.ask ≡ key → BallotLess floor (tag_of request.ask)) → IsFloorClear cluster log key floor → IsFloorClear cluster (h ∷ log) key floor
floor_clear_stays cluster h log why first above was = record {
  era = was.era;
  all_in = elim was.all_in [
    | inl first ↦ inl first
    | inr all ↦ inr (λ proposer known. stands_part (all proposer known) (part_of {log = h ∷ log} here))
  ];
  clear = λ number acceptor late member. clear_stays cluster h log why (first acceptor) above (was.clear number acceptor late member);
  aged = λ number acceptor late member. aged_stays h log above (was.aged number acceptor late member);
}

not_asked : {request : Request} {key : List ℕ} {floor : Ballot} {state : State} → Asked request ≡ Marked (Floor key floor state) → ⊥
not_asked e = cc

-- what is asked once a floor stands is above it
pub above_floor : (cluster : Cluster) (h : Happening) (log : List Happening) {key : List ℕ} {floor : Ballot} → Orderly cluster (h ∷ log) → HasFloor key floor (marks_of log) → (request : Request) → Asked request ≡ h
    → IsRoundAsk request.ask → key_of request.ask ≡ key → BallotLess floor (tag_of request.ask)
above_floor cluster h log {key} {floor} orderly has request now round same =
    let may : MayAsk cluster log request request.ask = subst (HasReason cluster log) (sym now) orderly.1 in
    let ask_for : MayAskFor cluster log request (key_of request.ask) (tag_of request.ask) = round_asked cluster log request request.ask round may in
    ask_for.above.above (subst (λ k. Stands (Floor k floor has.state) (marks_of log)) (sym same) has.stands)

knows_more : (cluster : Cluster) (h : Happening) (log : List Happening) (all : List Made) → Lawful cluster (h ∷ log) → Orderly cluster (h ∷ log) → IsGood cluster log h → Knows cluster log all → Knows cluster (h ∷ log) all
knows_more cluster h log all lawful orderly good knows = record {
  asked = λ request stands. ask_grows cluster h log request.ask lawful (elim (newest_or stands) [ inl now ↦ (new_ask request now).0 | inr before ↦ knows.asked request before ]);
  known = λ request stands. elim (newest_or stands) [ inl now ↦ (new_ask request now).1 | inr before ↦ knows.known request before ];
  ended = λ request stands. ended_ask_grows h log request.ask (elim (newest_or stands) [ inl now ↦ (new_ask request now).2 | inr before ↦ knows.ended request before ]);
  replied = λ request reply stands. elim (newest_or stands) [
    | inl now ↦ subst (λ (x : Happening). IsReplyTrue (x ∷ log) reply) now (new_reply request reply now)
    | inr before ↦ known.reply_stays cluster h log lawful reply (knows.replied request reply before)
  ];
  drawn = λ p stands. elim (mark_now h log stands) [
    | inl now ↦ let drew = new_proposal p now in record { older = drew.older; at = past drew.at }
    | inr before ↦ let drew = knows.drawn p before in record { older = drew.older; at = past drew.at }
  ];
  made = λ m stands. let was = knows.made m stands in record {
    older = was.older;
    at = past was.at;
    program = was.program;
    begun = was.begun;
    state = was.state;
    is_read = was.is_read;
    same_outcome = was.same_outcome;
    is_made = made_grows cluster h log lawful was.is_made;
  };
  floors = λ key floor has. elim (floor_now h log key floor has) [
    | inl now ↦ let empty = (new_floor key floor now).0 in inl (empty.0, made_grows cluster h log lawful empty.1)
    | inr before ↦ elim (knows.floors key floor before) [ inl empty ↦ inl (empty.0, made_grows cluster h log lawful empty.1) | inr first ↦ inr (opened_grows h log first) ]
  ];
  clear = λ key floor has. elim (floor_now h log key floor has) [
    | inl now ↦ floor_clear_stays cluster h log orderly.1 (λ acceptor ballot ride may. absurd (not_first (new_floor key floor now).0.1 may.first)) (λ request asked round same. absurd (not_asked (asked ∙ sym now.1))) (new_floor key floor now).1
    | inr before ↦ floor_clear_stays cluster h log orderly.1 (λ acceptor ballot ride may. first_taken cluster lawful.0 before may) (above_floor cluster h log orderly before) (knows.clear key floor before)
  ];
}
  where
    not_first : {key : List ℕ} {floor : Ballot} {era : ℕ} → IsMadeState (marks_of log) key floor era Empty → AreFirst log → ⊥
    not_first made first = first_at log first (in_log log made.stands.at).at

    new_ask : (request : Request) → Asked request ≡ h → IsAskState (marks_of log) request.ask × ((request.from ≤ 16) × (request.to < 64)) × IsEndedAsk (marks_of log) request.ask
    new_ask request now = subst (IsGood cluster log) (sym now) good

    new_reply : (request : Request) (reply : Reply) → Replied request reply ≡ h → IsReplyTrue (Replied request reply ∷ log) reply
    new_reply request reply now = subst (IsGood cluster log) (sym now) good

    new_proposal : (p : Proposal) → Marked (Proposed p) ≡ h → Stands (Drew p.ballot p.key p.era) log
    new_proposal p now = subst (IsGood cluster log) (sym now) good

    new_floor : (key : List ℕ) (floor : Ballot) → (state : State) × (Marked (Floor key floor state) ≡ h) → IsEmptyAt (marks_of log) key floor × IsFloorClear cluster log key floor
    new_floor key floor now = subst (IsGood cluster log) (sym now.1) good

-- ---- one happening
-- the cluster after something that is no deed of an acceptor
goes_on : (cluster : Cluster) (global : GlobalState) (h : Happening) → HasHistory cluster global → May cluster global.log h → HasReason cluster global.log h → ((id : ℕ) → IsElsewhere id h) → IsGood cluster global.log h
    → HasHistory cluster (record { log = h ∷ global.log; kept = global.kept; made = global.made })
goes_on cluster global h history may reason elsewhere good = record {
  lawful = (history.lawful, may);
  orderly = (history.orderly, reason);
  tells = λ id. tells_still cluster h global.log id (global.kept id) (history.lawful, may) (elsewhere id) (history.tells id);
  knows = knows_more cluster h global.log global.made (history.lawful, may) (history.orderly, reason) good history.knows;
}

-- replies that were made are true
all_true : {cluster : Cluster} {global : GlobalState} (replies : List Reply) → HasHistory cluster global → AllReplied global.log replies → AreRepliesTrue global.log replies
all_true replies history replied reply stands = let made = replied reply stands in history.knows.replied made.0 reply made.1

-- what was made is the state of its ballot
has_made : {cluster : Cluster} {global : GlobalState} {key : List ℕ} {ballot : Ballot} {era : ℕ} {state : State} → HasHistory cluster global → HasMade global.made key ballot era state → IsMadeState (marks_of global.log) key ballot era state
has_made {cluster} {global} {key} {ballot} {era} {state} history has =
    let of = (history.knows.made has.made has.stands).is_made in
    subst (λ (s : State). IsMadeState (marks_of global.log) key ballot era s) has.same_state
    (subst (λ (e : ℕ). IsMadeState (marks_of global.log) key ballot e has.made.outcome.state) has.same_era
    (subst (λ (b : Ballot). IsMadeState (marks_of global.log) key b has.made.proposal.era has.made.outcome.state) has.same_ballot
    (subst (λ (k : List ℕ). IsMadeState (marks_of global.log) k has.made.proposal.ballot has.made.proposal.era has.made.outcome.state) has.same_key of)))

-- ---- requests
ask_state : (cluster : Cluster) (global : GlobalState) (request : Request) (question : Ask) → HasHistory cluster global → MayAsk cluster global.log request question → IsMadeAsk global.made question → IsAskState (marks_of global.log) question
ask_state cluster global request (ask.Accept key ballot era ride state) history may made = has_made history made
ask_state cluster global request (ask.Remove key tomb) history may made = elim (history.knows.floors key tomb may.0) [
  | inl empty ↦ empty
  | inr floor ↦ absurd (never_proposed cluster history.lawful floor.opening (acked_proposed cluster history.lawful (acked_at global.log may.1)))
]
ask_state cluster global request question history may made = tt

-- ---- answers
-- the happening adds nothing unknown wherever it stands
abbrev IsPlain : Happening → Type 0
IsPlain h = (cluster : Cluster) (log : List Happening) → IsGood cluster log h

knows_front : (cluster : Cluster) (front log : List Happening) (all : List Made) → EachOf IsPlain front → Lawful cluster (front ++ log) → Orderly cluster (front ++ log) → Knows cluster log all → Knows cluster (front ++ log) all
knows_front cluster front log all = along cluster IsPlain (λ l. Knows cluster l all) (λ h l lawful orderly plain. knows_more cluster h l all lawful orderly (plain cluster l)) front log

pub tells_front : (cluster : Cluster) (front log : List Happening) (id : ℕ) (kept : Contents) → EachOf (IsElsewhere id) front → Lawful cluster (front ++ log) → Orderly cluster (front ++ log) → LogTells log id kept → LogTells (front ++ log) id kept
tells_front cluster front log id kept = along cluster (IsElsewhere id) (λ l. LogTells l id kept) (λ h l lawful orderly elsewhere. tells_still cluster h l id kept lawful elsewhere) front log

events_plain : (to : ℕ) (old : Contents) (question : Ask) (answer : Tell) → EachOf IsPlain (events_of to old question answer)
events_plain to old question answer = events_each IsPlain to old question answer (record { promised = λ key ballot told c log. tt; took = λ key ballot ride c log. tt; dropped = λ key tomb c log. tt; raised = λ least c log. tt })

pub events_elsewhere : (id to : ℕ) (old : Contents) (question : Ask) (answer : Tell) → (to ≡ id → ⊥) → EachOf (IsElsewhere id) (events_of to old question answer)
events_elsewhere id to old question answer other =
    events_each (IsElsewhere id) to old question answer (record { promised = λ key ballot told. other; took = λ key ballot ride. other; dropped = λ key tomb. other; raised = λ least. other })

-- what the log tells of each acceptor, where one keeps something new
pub tells_but : (log : List Happening) (kept : ℕ → Contents) (to : ℕ) (new : Contents) → LogTells log to new → ((id : ℕ) → (to ≡ id → ⊥) → LogTells log id (kept id)) → (id : ℕ) → LogTells log id (kept_but kept to new id)
tells_but log kept to new own others id = elim (true_or_false (id == to)) [
  | inl same ↦ subst (LogTells log id) (sym (if_true (id == to) new (kept id) same)) (subst (λ (i : ℕ). LogTells log i new) (sym (nat_same {a = id} {b = to} same)) own)
  | inr other ↦ subst (LogTells log id) (sym (if_false (id == to) new (kept id) other)) (others id (λ same. not_both (id == to) (nat_is {a = id} {b = to} (sym same)) other))
]

-- an acceptor stopped within a request
stops_within : (cluster : Cluster) (global : GlobalState) (request : Request) (tell : Tell) (new : Contents) → HasHistory cluster global → Stands (Asked request) global.log → Handles (global.kept request.to) request tell new
    → HasHistory cluster (record { log = done_log request.to (global.kept request.to) request tell global.log; kept = kept_but global.kept request.to new; made = global.made })
stops_within cluster global request tell new history asked row =
    let to = request.to in
    let old = global.kept to in
    let on : LogTellsKept cluster global.log to old = record { lawful = history.lawful; orderly = history.orderly; tells = history.tells to } in
    let did = events_kept cluster request old new request.ask tell refl on asked (history.knows.asked request asked) (history.knows.known request asked).0 row in
    record {
      lawful = did.lawful;
      orderly = did.orderly;
      tells = tells_but (done_log to old request tell global.log) global.kept to new did.tells
          (λ id other. tells_front cluster (events_of to old request.ask tell) global.log id (global.kept id) (events_elsewhere id to old request.ask tell other) did.lawful did.orderly (history.tells id));
      knows = knows_front cluster (events_of to old request.ask tell) global.log global.made (events_plain to old request.ask tell) did.lawful did.orderly history.knows;
    }

-- an acceptor answers
answers_on : (cluster : Cluster) (global : GlobalState) (request : Request) (reply : Reply) (new : Contents) → HasHistory cluster global → Stands (Asked request) global.log → IsReplyByTable request.to (global.kept request.to) request reply new
    → HasHistory cluster (record { log = answered_log request.to (global.kept request.to) request reply global.log; kept = kept_but global.kept request.to new; made = global.made })
answers_on cluster global request reply new history asked answered =
    let to = request.to in
    let old = global.kept to in
    let on : LogTellsKept cluster global.log to old = record { lawful = history.lawful; orderly = history.orderly; tells = history.tells to } in
    let state = history.knows.asked request asked in
    let bounds = history.knows.known request asked in
    let did = answers cluster old new request reply on asked state bounds.0 answered in
    let votes = votes_of to request.ask reply.tell in
    let acts = events_of to old request.ask reply.tell in
    let true_ = known.replies cluster global.log old new request reply on asked state bounds.0 bounds.1 answered in
    record {
      lawful = did.1.lawful;
      orderly = did.1.orderly;
      tells = tells_but (answered_log to old request reply global.log) global.kept to new did.1.tells
          (λ id other. tells_still cluster (Replied request reply) (votes ++ (acts ++ global.log)) id (global.kept id) did.1.lawful tt
          (tells_front cluster votes (acts ++ global.log) id (global.kept id) (votes_each (IsElsewhere id) to request.ask reply.tell (λ key ballot. tt)) did.1.lawful.0 did.1.orderly.0
          (tells_front cluster acts global.log id (global.kept id) (events_elsewhere id to old request.ask reply.tell other) did.0.lawful did.0.orderly (history.tells id))));
      knows = knows_more cluster (Replied request reply) (votes ++ (acts ++ global.log)) global.made did.1.lawful did.1.orderly true_
          (knows_front cluster votes (acts ++ global.log) global.made (votes_each IsPlain to request.ask reply.tell (λ key ballot c log. tt)) did.1.lawful.0 did.1.orderly.0
          (knows_front cluster acts global.log global.made (events_plain to old request.ask reply.tell) did.0.lawful did.0.orderly history.knows));
    }

-- ---- proposals
-- what a proposer makes of the state from which its proposal goes on
proposes : (cluster : Cluster) (global : GlobalState) (p : Proposal) (program : List Clause) (state : State) → HasHistory cluster global → Stands (Begun p.caller p.call p.key program) (marks_of global.log) → Stands (Drew p.ballot p.key p.era) global.log → MayPropose cluster global.log p
    → state ≡ replay_from (opening_state p.key (marks_of global.log)) (chain_of p.key (link_of (marks_of global.log) p) (marks_of global.log))
    → HasHistory cluster (record { log = Marked (Proposed p) ∷ global.log; kept = global.kept; made = record { proposal = p; outcome = outcome_of program state } ∷ global.made })
proposes cluster global p program state history begun drawn may is_read =
    let on = goes_on cluster global (Marked (Proposed p)) history may tt (λ id. tt) drawn in
    record {
      lawful = on.lawful;
      orderly = on.orderly;
      tells = on.tells;
      knows = record {
        asked = on.knows.asked;
        known = on.knows.known;
        ended = on.knows.ended;
        replied = on.knows.replied;
        drawn = on.knows.drawn;
        floors = on.knows.floors;
        clear = on.knows.clear;
        made = λ m stands. elim (newest_or stands) [
          | inl now ↦ subst (IsMadeOf (Marked (Proposed p) ∷ global.log)) (sym now) own
          | inr before ↦ on.knows.made m before
        ];
      };
    }
  where
    own : IsMadeOf (Marked (Proposed p) ∷ global.log) (record { proposal = p; outcome = outcome_of program state })
    own = record {
      older = global.log;
      at = here;
      program = program;
      begun = begun;
      state = state;
      is_read = is_read;
      same_outcome = refl;
      is_made = known.makes cluster global.log p program state (outcome_of program state) history.lawful may begun is_read refl;
    }

prepared : (cluster : Cluster) → ClusterMeets cluster → (global : GlobalState) (p : Proposal) (program : List Clause) (read : Option Accepted) → HasHistory cluster global → Stands (Begun p.caller p.call p.key program) (marks_of global.log) → IsPrepared cluster global.log p read
    → HasHistory cluster (record { log = Marked (Proposed p) ∷ global.log; kept = global.kept; made = record { proposal = p; outcome = outcome_of program (state_read read) } ∷ global.made })
prepared cluster meets global p program read history begun is =
    let clear : AreFloorsClear cluster global.log p.key p.ballot p.prepared_by =
    clear_of_floors cluster global.log p is.replies history.lawful history.orderly is.round (all_true is.replies history is.replied) is.by (history.knows.floors p.key) (history.knows.clear p.key) in
    let may = propose cluster meets global.log p is.replies read history.lawful history.orderly is.round (all_true is.replies history is.replied) is.by is.quorum is.is_read is.same_read clear in
    proposes cluster global p program (state_read read) history begun is.round.drawn may.0 may.1

prepared_by_ride : (cluster : Cluster) (global : GlobalState) (p : Proposal) (program : List Clause) (ready : Ready) → HasHistory cluster global → Stands (Begun p.caller p.call p.key program) (marks_of global.log) → IsPreparedByRide cluster global p ready
    → HasHistory cluster (record { log = Marked (Proposed p) ∷ global.log; kept = global.kept; made = record { proposal = p; outcome = outcome_of program ready.state } ∷ global.made })
prepared_by_ride cluster global p program ready history begun is =
    let riding : IsRiding cluster global.log p.key p.era ready =
    known.rides_along cluster global.log p.key p.era ready is.replies history.lawful history.orderly is.drawn (has_made history is.made) (all_true is.replies history is.replied) is.accepted_by is.quorum is.above is.all is.over_floors in
    let may = rides cluster global.log p ready history.lawful history.orderly is.round riding is.same_ballot is.same_read is.by in
    proposes cluster global p program ready.state history begun is.round.drawn may.0 may.1

-- ---- eras
leaves : (cluster : Cluster) → ClusterMeets cluster → (log : List Happening) (proposer left : ℕ) → Lawful cluster log → Orderly cluster log
    → ((key : List ℕ) (floor : Ballot) → HasFloor key floor (marks_of log) → IsEmptyAt (marks_of log) key floor ⊎ HistoryIsOpened cluster log key floor) → IsLeaving cluster log proposer left → MayLeaveEra cluster log proposer left
leaves cluster meets log proposer left lawful orderly floors is = record {
  known = is.known;
  once = is.once;
  all_in = λ some. elim is.listed [
    | inl none ↦ absurd (omega (arith, some, none))
    | inr listed ↦ listed.all_in
  ];
  stones = λ {p} stands early. elim is.listed [
    | inl none ↦ absurd (omega (arith, early, none))
    | inr listed ↦ stones_of_listing cluster meets lawful listed.all_in listed.quorum listed.shown stands early
  ];
  openings = λ {key} {floor} opening some. elim is.listed [
    | inl none ↦ absurd (omega (arith, some, none))
    | inr listed ↦ elim (floors key floor (record { state = opening.state; stands = mark_stands (stands_at opening.at) })) [
      | inl empty ↦
          let made = empty.1 in
          absurd (never_proposed cluster lawful opening (proposed_at log (record { proposal = made.proposal; stands = made.stands; same_key = made.same_key; same_ballot = made.same_ballot })))
      | inr first ↦ opening_stone cluster meets lawful orderly some listed.all_in listed.quorum listed.shown first
    ]
  ];
}

-- ---- all events
any_answer : (marks : List Mark) (caller call : ℕ) (answer : Answer) → is_done answer ≡ false → MayAnswer marks caller call answer
any_answer marks caller call (answer.Done state took ballot) other = absurd (cc)
any_answer marks caller call other not_done = tt

pub keeps : EventsKeepHistory
keeps cluster meets global history (Begins caller call key program numbered) = goes_on cluster global _ history numbered tt (λ id. tt) tt
keeps cluster meets global history (Draws proposer era counter key all) = goes_on cluster global _ history tt (draws cluster global.log proposer era counter key all) (λ id. tt) tt
keeps cluster meets global history (Asks request askable) =
    goes_on cluster global (Asked request) history tt askable.may (λ id. tt) (ask_state cluster global request request.ask history askable.may askable.made, (askable.from, askable.to), askable.ended)
keeps cluster meets global history (Answers request reply new asked answered) = answers_on cluster global request reply new history asked answered
keeps cluster meets global history (StopsWithin request tell new asked row) = stops_within cluster global request tell new history asked row
keeps cluster meets global history (Proposes p program read begun is) = prepared cluster meets global p program read history begun is
keeps cluster meets global history (ProposesByRide p program ready begun is) = prepared_by_ride cluster global p program ready history begun is
keeps cluster meets global history (Counts a is) =
    goes_on cluster global (Marked (Acked a)) history (count cluster global.log a is.replies history.lawful history.orderly is.proposed (all_true is.replies history is.replied) is.by is.quorum) tt (λ id. tt) tt
keeps cluster meets global history (SeesVote acceptor key ballot seen) = goes_on cluster global _ history (may_vote cluster history.lawful history.orderly seen) tt (λ id. tt) tt
keeps cluster meets global history (CountsSeen a seen) = goes_on cluster global (Marked (Acked a)) history (may_ack cluster seen) tt (λ id. tt) tt
keeps cluster meets global history (EndsDone made rounds stands acked open_yet) =
    let of = history.knows.made made stands in
    goes_on cluster global (Marked (Ended made.proposal.caller made.proposal.call rounds (answer.Done made.outcome.state made.outcome.took made.proposal.ballot))) history
    (done cluster global.log of.older made.proposal of.program of.state made.outcome history.lawful of.at acked open_yet of.begun of.is_read of.same_outcome) tt (λ id. tt) tt
keeps cluster meets global history (EndsElse caller call rounds answer is) =
    goes_on cluster global (Marked (Ended caller call rounds answer)) history
    (record { first = is.first; answered = any_answer (marks_of global.log) caller call answer is.not_done; refused = is.refused; unsettled = is.unsettled; harmed = is.harmed }) tt (λ id. tt) tt
keeps cluster meets global history (Harms caller call down) = goes_on cluster global _ history tt tt (λ id. tt) tt
keeps cluster meets global history (TellsOperator asked told) = goes_on cluster global _ history tt tt (λ id. tt) tt
keeps cluster meets global history (MakesFloor key tomb may) =
    goes_on cluster global (Marked (Floor key tomb Empty)) history (inr (record { is_empty = refl; acked = may.acked })) tt (λ id. tt) (may.made, may.clear)
keeps cluster meets global history (Enters proposer left leaving) =
    goes_on cluster global (Entered proposer (suc left)) history (record { left = left; next = refl; may_leave = leaves cluster meets global.log proposer left history.lawful history.orderly history.knows.floors leaving }) tt (λ id. tt) tt
keeps cluster meets global history (MarksEra proposer era may) = goes_on cluster global _ history may tt (λ id. tt) tt

-- ---- runs
-- nothing is kept at first
pub none_kept : (key : List ℕ) → kept_at nothing key ≡ None
none_kept key = map.get-empty (slice_cmp nat_cmp) key

pub opens : (cluster : Cluster) → HasHistory cluster (record { log = []; kept = λ id. nothing; made = [] })
opens cluster = record {
  lawful = tt;
  orderly = tt;
  tells = λ id. record {
    slots = λ key. ap told_of (sym (none_kept key));
    ages = λ proposer low. omega arith;
    states = λ key. subst (λ (slot : Option Slot). IsAcceptedState [] key (accepted_of slot)) (sym (none_kept key)) tt;
  };
  knows = record {
    asked = λ request stands. absurd (none_at_nil stands.at);
    known = λ request stands. absurd (none_at_nil stands.at);
    ended = λ request stands. absurd (none_at_nil stands.at);
    replied = λ request reply stands. absurd (none_at_nil stands.at);
    drawn = λ p stands. absurd (none_at_nil stands.at);
    made = λ m stands. absurd (none_at_nil stands.at);
    floors = λ key floor has. absurd (none_at_nil has.stands.at);
    clear = λ key floor has. absurd (none_at_nil has.stands.at);
  };
}

pub has_history : (cluster : Cluster) → ClusterMeets cluster → (global : GlobalState) → Run cluster global → HasHistory cluster global
has_history cluster meets global opened = opens cluster
has_history cluster meets global (then before run event) = keeps cluster meets before (has_history cluster meets before run) event

pub runs : RunsAreLegal
runs cluster meets global run = let history = has_history cluster meets global run in (history, lawful_is_legal cluster meets global.log history.lawful)
