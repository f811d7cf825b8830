-- A cluster stays safe as the operator's calls come and go, and as all members are asked and answer.
use Rattle.std.proofs.Common.{◌≡◌, ◌<◌, ◌≤◌, ℕ, Bool, true, false, List, [], ◌∷◌, ◌++◌, Option, None, Some, refl, sym, ap, subst, ◌∙◌, inl, inr, arith, length-set, length-append, suc, zero, reverse}
use Rattle.std.specs.Prelude.{map, not, ◌&&◌, ◌+◌, ◌-◌, ◌||◌, if◌then◌else◌, length, option_map, slice_get, Contains, position, slice_set, ◌==◌}
use Rattle.cas_base.proofs.Bools.{if_false, and_left, or_left, or_right}
use Rattle.cas_ballot.specs.declared.ballot.Ballot.{Ballot}
use Rattle.cas_ballot.specs.Ballot.{FitsBallot}
use Rattle.cas_ballot.specs.Members.{members_where, has_member, with_member, IsMemberSet}
use Rattle.cas_ballot.proofs.CountLemmas.{length-within}
use Rattle.cas_fate.specs.declared.fate.Verdict.{Verdict}
use Rattle.cas_flow.specs.Flow.{FlowView, queue_at, taken, emptied, abandoned}
use Rattle.cas_flow.specs.Message.{head_of}
use Rattle.cas_flow.specs.Queue.{QueueView}
use Rattle.cas_flow.specs.declared.message.Message.{Message}
use Rattle.cas_flow.specs.declared.message.Message.TheVariants as message
use Rattle.cas_acceptor.specs.Acceptor.{AcceptorView}
use Rattle.cas_proposer.specs.Desk.{DeskView}
use Rattle.cas_record.specs.declared.mark.Mark.TheVariants.{Harmed, Voted, Acked}
use Rattle.cas_record.specs.declared.operator.Asked.{Asked}
use Rattle.cas_record.specs.declared.operator.OpAnswer.{OpAnswer}
use Rattle.cas_record.specs.declared.operator.OpAnswer.TheVariants as told
use Rattle.cas_slot.specs.declared.message.Request.{Request}
use Rattle.cas_slot.specs.declared.message.Reply.{Reply}
use Rattle.cas_vault.specs.Vault.{kept_of}
use Rattle.std.proofs.lemmas.List.{length-map}
use Rattle.cas_ballot.proofs.MemberLemmas.{IsMemberSet-members_where}
use Rattle.cas_round.proofs.Lists.{has}
use Rattle.cas_slot.specs.declared.message.Ask.{Ask}
use Rattle.cas_slot.specs.Message.{phase_of, tag_of}
use Rattle.cas_record.specs.Logs.Happening.{marks_of}
use Rattle.cas_protocol.specs.Acceptors.{votes_of}
use Rattle.cas_model.specs.Frames.Step.{harmed_by, replied_flow, votes_marked}
use Rattle.cas_model.proofs.Frames.Harms.{has_of_map, member_low}
use Rattle.cas_model.proofs.Calls.Safe.{about_members}
use Rattle.cas_model.proofs.Openings.Safe.{no_members}
use Rattle.cas_model.proofs.Calls.Failing.{failed_still}
use Rattle.cas_model.proofs.Stops.Safe.{AreFit, fit_fewer, desk_idles, acceptor_safe, room_not_found_safe}
use Rattle.cas_model.proofs.Frames.Safe.{Moves, taken_moves, replied_moves, IsWithin, Spends, spends_harm, taken_others, replied_others}
use Rattle.cas_model.specs.Council.{place_in, has_ended, Question, NextKeys, NewAges, Removal, IsReplyTo, phase_for, ExchangeView, OrderView, PlanView, without_partial, with_listing, hushed, silent_order, at_rest, ask_of, exchange_place, reserved_for_order, reserved_for_exchange, telling, Probe, marks_of_read}
use Rattle.cas_model.specs.Safe.{IsReadSafe, IsExchangeSafe, IsAskingSafe, AreListingsSafe, IsAskingOf, IsCouncilSafe, IsSound, requests_in}
use Rattle.cas_model.specs.Calls.Step.{Sends}
use Rattle.cas_model.specs.Exchanges.Step as council
use Rattle.cas_model.specs.Exchanges.Step.{asked_by, asks_to_read, reads_by, read_era, awaits, listing_for, plan_asked, StepOrder, StepTell, told_over, StepGather, Gathers, with_council, told_view, gathered, told_marks, everyone, question_to, questions_to, new_exchange, HasRoomToAsk, MayAskAll, AsksAll, StepAskAll, harmed_exchange, hears, harm_marks, harms, TurnsExchange, StepTurnExchange, StepRefuseTurnExchange}
use Rattle.cas_model.specs.Eras.Course.{HasFewMembers}
use Rattle.cas_model.specs.View.{Meaning, View, IsAt, CallView, era_at, with_acceptor, with_desk}
use Rattle.cas_model.proofs.Calls.Asks.{where_drawn}
use Rattle.cas_model.proofs.Calls.Ends.{none_left}
use Rattle.cas_model.proofs.Places.{queue_other, contains_at, some_is, but_set}
use Rattle.cas_model.proofs.Eras.Rescanning.{told_reserves}
use Rattle.cas_model.proofs.Eras.SafeListings.{none_asks, same_asks, rest_safe, listed_safe, ended_safe, asked_safe}
use Rattle.cas_model.proofs.Safety.Parts.{council_safe, more_by, idle_at, requests_of_map, length_with_member, set_within}
use Rattle.cas_quorum.specs.declared.era.Era.{Era}
use Rattle.cas_quorum.specs.Era.{IsSized, Meet}
use Rattle.cas_record.specs.declared.operator.Probe.{Probe as Answered}
use Rattle.std.specs.Option.{option_map_or}
use Rattle.cas_record.proofs.Tests.{nat_is}
use Rattle.cas_record.specs.declared.mark.Mark.{Mark}
use Rattle.cas_protocol.specs.Reads.{acknowledgment_of}
use Rattle.cas_model.specs.Exchanges.Read.{holders_of, MarksRead, counted, nothing}
use Rattle.cas_model.proofs.Exchanges.Reads.{holds}

-- ---- the operator's call
-- only what is reserved for it changes
pub order_safe : {S V : Type 0} (old : View S V) (asked : Asked) (new : View S V) → IsSound old → StepOrder old asked new → IsSound new
order_safe old asked new was by =
    subst IsSound (sym by.view)
    (council_safe old old.flow (record old.council { order = Some (record { asked = asked; told = None }) }) old.marks was refl (λ p other. refl) (omega arith) was.asking was.council
    (omega (arith, by.room, ap reserved_for_order by.none_open)))

-- as much stays reserved for a call whose last step told nothing
pub hushed_reserves : (order : Option OrderView) → reserved_for_order (option_map silent_order order) ≡ reserved_for_order order
hushed_reserves None = refl
hushed_reserves (Some order) = refl

pub told_view_safe : {S V : Type 0} (old : View S V) (answer : OpAnswer) → IsSound old → IsSound (told_view old answer)
told_view_safe old answer was =
    council_safe old old.flow (telling old.council answer) old.marks was refl (λ p other. refl) (omega arith) was.asking was.council (omega (arith, was.room, told_reserves old.council.order answer))

-- its mark was reserved
told_few : (asked : Asked) (answer : OpAnswer) → length (told_marks asked answer) ≤ 1
told_few asked (told.Probed key found) = omega arith
told_few asked (told.Joined id era rescanned) = omega arith
told_few asked (told.Left id era rescanned) = omega arith
told_few asked (told.Resized need_prep need_acc era rescanned) = omega arith
told_few asked (told.Refused fault) = omega arith
told_few asked (told.Busy era) = omega arith
told_few asked (told.Collected key ballot removed kept) = omega arith
told_few asked (told.NotEmpty version) = omega arith
told_few asked (told.Absent acceptor) = omega arith
told_few asked (told.ProposerDown proposer) = omega arith
told_few asked (told.Stopped answer) = omega arith

-- the call is over
over_safe : {S V : Type 0} (old : View S V) (order : OrderView) (answer : OpAnswer) → old.council.order ≡ Some order → IsSound old → IsSound (told_over old order.asked answer)
over_safe old order answer is_open was =
    let marks = told_marks order.asked answer in
    council_safe old (abandoned old.flow exchange_place) (at_rest old.council) (old.marks ++ marks) was (length-set old.flow.own exchange_place (emptied (queue_at old.flow exchange_place)))
    (λ p other. queue_other old.flow.own exchange_place p (emptied (queue_at old.flow exchange_place)) other) (more_by old.marks marks) (none_left old.flow exchange_place) (rest_safe old.council.plan was.council.0, none_asks (option_map without_partial old.council.plan))
    (omega (arith, was.room, told_few order.asked answer, length-append old.marks marks, ap reserved_for_order is_open))

-- another change of membership is under way, or none
pub plan_safe : {S V : Type 0} (old : View S V) (plan : Option PlanView) (used : List ℕ) → IsSound old → AreListingsSafe plan × IsAskingOf plan old.council.exchange
    → IsSound (with_council old (record old.council { plan = plan; used = used }))
plan_safe old plan used was listings = council_safe old old.flow (record old.council { plan = plan; used = used }) old.marks was refl (λ p other. refl) (omega arith) was.asking listings was.room

pub tell_safe : {S V : Type 0} (old : View S V) (answer : OpAnswer) (new : View S V) → IsSound old → StepTell old answer new → IsSound new
tell_safe old answer new was (council.tells order said is_open told same view) = subst IsSound (sym view) (over_safe old order answer is_open was)
tell_safe old answer new was (council.collects order is_open by view) = subst IsSound (sym view) (over_safe old order answer is_open was)
tell_safe old answer new was (council.finishes order is_open by view) =
    subst IsSound (sym view)
    (over_safe _ order answer is_open (plan_safe old None old.council.used was (ended_safe old.council.plan old.council.exchange by.plan by.is_plan by.none_left was.council.0 was.council.1)))

-- ---- what was told is gathered
-- those that hold what is read are members
pub few_read_marks : (era : Era) (key : List ℕ) (found : List Answered) (older marks : List Mark) (members : List ℕ) → IsMemberSet members
    → ((place : ℕ) (one : Answered) → IsAt found place one → has_member members one.acceptor ≡ true) → MarksRead era key found older marks
    → length marks ≤ suc (length members)
few_read_marks era key found older marks members set tellers (nothing none is) = omega (arith, ap (λ (l : List Mark). length l) is)
few_read_marks era key found older marks members set tellers (counted accepted agree above is) =
    let by : List ℕ = holders_of accepted.ballot found in
    omega (
      arith,
      ap (λ (l : List Mark). length l) is,
      length-append (map (λ acceptor. Voted acceptor key accepted.ballot) by) (Acked (acknowledgment_of key accepted by) ∷ []),
      length-map by (λ (acceptor : ℕ). Voted acceptor key accepted.ballot),
      set_within by members (IsMemberSet-members_where _) set
          (λ n is_one. let it = holds accepted.ballot found n is_one in subst (λ (a : ℕ). has_member members a ≡ true) it.same (tellers it.place it.one it.at)),
    )

pub gathered_safe : {S V : Type 0} (old : View S V) (answer : OpAnswer) → IsSound old → (queue_at old.flow exchange_place).messages ≡ [] → IsSound (gathered old answer)
gathered_safe old answer was none =
    council_safe old old.flow (record (telling old.council answer) { exchange = None }) old.marks was refl (λ p other. refl) (omega arith) none (was.council.0, none_asks old.council.plan)
    (omega (arith, was.room, told_reserves old.council.order answer))

pub gather_safe : {S V : Type 0} (old : View S V) (new : View S V) → IsSound old → StepGather old new → IsSound new
gather_safe {S} {V} old new was by = by_case by.gathers
  where
    over : (answer : OpAnswer) → IsSound (gathered old answer)
    over answer = gathered_safe old answer was by.none_waits

    by_case : Gathers old by.at.exchange new → IsSound new
    by_case (council.crashed crashed view) = subst IsSound (sym view) (over _)
    by_case (council.probed key found up question plain found_is view) = subst IsSound (sym view) (over _)
    by_case (council.read key era found marks up question reads found_is counts view) =
        let asking : IsExchangeSafe by.at.exchange (queue_at old.flow exchange_place) =
        subst (λ (e : Option ExchangeView). IsAskingSafe e (queue_at old.flow exchange_place)) by.at.is_open was.asking in
        subst IsSound (sym view) (council_safe old old.flow (record (telling old.council (told.Probed key found)) { exchange = None }) (old.marks ++ marks) was refl (λ p other. refl) (more_by old.marks marks) by.none_waits (was.council.0, none_asks old.council.plan)
        (omega (
          arith,
          was.room,
          told_reserves old.council.order (told.Probed key found),
          length-append old.marks marks,
          ap reserved_for_exchange by.at.is_open,
          ap (λ (r : Option Era). marks_of_read r by.at.exchange.members) reads,
          few_read_marks era key by.at.exchange.told (reverse old.marks) marks by.at.exchange.members asking.member_set asking.tellers counts,
        )))
    by_case (council.lists of listing up enough on view) = subst IsSound (sym view)
        (council_safe old old.flow (record (hushed old.council) { exchange = None; plan = Some (with_listing of.plan listing) }) old.marks was refl (λ p other. refl) (omega arith) by.none_waits
        (listed_safe of.plan listing (subst FitsBallot (sym on.tag) (was.council.0 of.plan of.listing of.is_plan of.is_listing).tag) of.settles on.rises, none_asks (Some (with_listing of.plan listing))) (omega (arith, was.room, hushed_reserves old.council.order)))
    by_case (council.is_short of short up missing view) = subst IsSound (sym view) (over _)
    by_case (council.no_memory up view) = subst IsSound (sym view) (told_view_safe old _ was)

-- ---- all members are asked
-- the desk of proposer 0 has another vault, and no round
desk_changes : {S V : Type 0} (old : View S V) (id : ℕ) (desk now : DeskView V) → IsSound old → IsAt old.desks id desk → desk.round ≡ None → now.id ≡ desk.id → now.round ≡ None
    → (AreFit desk.cache → AreFit now.cache) → IsSound (with_desk old id now)
desk_changes old id desk now was at idle same none fit =
    desk_idles old id desk now old.flow was at same none fit
    (λ caller at_caller. idle_at (era_at old id) caller (queue_at old.flow id) desk.round idle (was.parties id desk caller at at_caller).round) refl (λ p other. refl)

-- the vault alone is another
vault_changes : {S V : Type 0} (old : View S V) (id : ℕ) (desk now : DeskView V) → IsSound old → IsAt old.desks id desk → desk.round ≡ None → now ≡ record desk { vault = now.vault }
    → IsSound (with_desk old id now)
vault_changes {S} {V} old id desk now was at idle is_now =
    desk_changes old id desk now was at idle (ap (λ (d : DeskView V). d.id) is_now) (ap (λ (d : DeskView V). d.round) is_now ∙ idle)
    (λ were. subst AreFit (sym (ap (λ (d : DeskView V). d.cache) is_now)) were)

-- each of the requests asks its question
asks_question : (age : ℕ) (tag : Ballot) (question : Question) (tos : List ℕ) (messages : List Message) → messages ≡ questions_to age tag question tos → (request : Request)
    → Contains messages (message.Request request) → request.ask ≡ ask_of tag question request.to
asks_question age tag question tos messages are request h =
    let of = has_of_map (λ (to : ℕ). message.Request (question_to age tag question to)) (message.Request request) tos (has (message.Request request) (questions_to age tag question tos) (subst (λ (l : List Message). Contains l (message.Request request)) are h)) in
    let same : question_to age tag question of.0 ≡ request = cc of.1.1 in
    ap (λ (q : Request). q.ask) (sym same) ∙ ap (λ (q : Request). ask_of tag question q.to) same

none_within : (members : List ℕ) (acceptor : ℕ) → has_member [] acceptor ≡ true → has_member members acceptor ≡ true
none_within members acceptor e = absurd (cc e)

-- all members are a set, and so are those that are asked
pub everyone_set : {S V : Type 0} (view : View S V) → IsMemberSet (everyone view)
everyone_set view = IsMemberSet-members_where (λ n. has_member (era_at view 0).prep n || has_member (era_at view 0).acc n)

asked_set : {S V : Type 0} (view : View S V) (question : Question) → IsMemberSet (asked_by view question)
asked_set view (Probe key) = everyone_set view
asked_set view (NewAges key least) = everyone_set view
asked_set view (Removal key) = everyone_set view
asked_set view (NextKeys places) = IsMemberSet-members_where (λ n. has_member (everyone view) n && not (has_ended (place_in places n)))

-- and they are few
pub asked_few : {S V : Type 0} (view : View S V) (question : Question) → HasFewMembers (era_at view 0) → length (asked_by view question) ≤ 9
asked_few view (Probe key) few = few
asked_few view (NewAges key least) few = few
asked_few view (Removal key) few = few
asked_few view (NextKeys places) few =
    let low : length (everyone view) ≤ 9 = few in
    let within : length (asked_by view (NextKeys places)) ≤ length (members_where (has_member (everyone view))) =
    length-within (λ n. has_member (everyone view) n && not (has_ended (place_in places n))) (has_member (everyone view)) (λ n small is. and_left (has_member (everyone view) n) (not (has_ended (place_in places n))) is) in
    omega (arith, low, within, ap (λ (l : List ℕ). length l) (everyone_set view).lists)

-- at first its members are to tell
told_first : (members : List ℕ) (place : ℕ) (one : Answered) → IsAt (map (λ member. record { acceptor = member; told = None }) members) place one → has_member members one.acceptor ≡ true
told_first [] place one at = absurd (cc at)
told_first (member ∷ members) zero one at = or_left (member == one.acceptor) (has_member members one.acceptor) (nat_is (ap (λ (a : Answered). a.acceptor) (some_is at)))
told_first (member ∷ members) (suc place) one at = or_right (member == one.acceptor) (has_member members one.acceptor) (told_first members place one at)

-- and a reply is one of theirs
told_then : (members : List ℕ) (reply : Reply) (told : List Answered) (spot : Option ℕ) → has_member members reply.from ≡ true
    → ((place : ℕ) (one : Answered) → IsAt told place one → has_member members one.acceptor ≡ true)
    → (place : ℕ) (one : Answered) → IsAt (option_map_or (λ at. slice_set told at (record { acceptor = reply.from; told = Some reply.tell })) spot told) place one
    → has_member members one.acceptor ≡ true
told_then members reply told None member were place one at = were place one at
told_then members reply told (Some spot) member were place one at = elim (but_set told spot (record { acceptor = reply.from; told = Some reply.tell }) place one at) [
  | inl same ↦ subst (λ (a : ℕ). has_member members a ≡ true) (ap (λ (x : Answered). x.acceptor) (sym same.1)) member
  | inr other ↦ were place one other.1
]

-- at first no reply waits
asks_no_reply : (f : ℕ → Request) (tos : List ℕ) (messages : List Message) → messages ≡ map (λ to. message.Request (f to)) tos → (reply : Reply) → Contains messages (message.Reply reply) → ⊥
asks_no_reply f tos messages are reply h =
    let of = has_of_map (λ (to : ℕ). message.Request (f to)) (message.Reply reply) tos (has (message.Reply reply) (map (λ to. message.Request (f to)) tos) (subst (λ (l : List Message). Contains l (message.Reply reply)) are h)) in
    cc of.1.1

-- where no exchange is open, no frame of one waits
pub none_waiting : {S V : Type 0} (old : View S V) → IsSound old → old.council.exchange ≡ None → (queue_at old.flow exchange_place).messages ≡ []
none_waiting old was none = subst (λ (e : Option ExchangeView). IsAskingSafe e (queue_at old.flow exchange_place)) none was.asking

-- an exchange whose questions were just sent
pub sent_safe : (old flow : FlowView) (age : ℕ) (tag : Ballot) (question : Question) (tos : List ℕ) (since : ℕ) (reads : Option Era) → (queue_at old exchange_place).messages ≡ [] → FitsBallot tag
    → IsMemberSet tos → length tos ≤ 9 → ((era : Era) → reads ≡ Some era → IsReadSafe era tos) → Sends old exchange_place (questions_to age tag question tos) flow
    → IsExchangeSafe (new_exchange question tag tos since reads) (queue_at flow exchange_place)
sent_safe old flow age tag question tos since reads none fits set few read sends = record {
  tag = fits;
  member_set = set;
  about = about_members f tos tos (queue_at flow exchange_place).messages (λ to. refl) waiting refl;
  asks = asks_question age tag question tos (queue_at flow exchange_place).messages waiting;
  replies = λ reply h. absurd (asks_no_reply f tos (queue_at flow exchange_place).messages waiting reply h);
  harmed_set = no_members;
  harmed_within = none_within tos;
  reserved = omega arith;
  few = few;
  few_members = few;
  tellers = told_first tos;
  read = read;
  room = omega (arith, sends.room, ap requests_in waiting, requests_of_map f tos, length-map tos (λ (to : ℕ). message.Request (f to)));
}
  where
    f : ℕ → Request
    f = question_to age tag question

    waiting : (queue_at flow exchange_place).messages ≡ questions_to age tag question tos
    waiting = sends.own ∙ ap (λ (l : List Message). l ++ questions_to age tag question tos) none

-- a key is read in the era of proposer 0, of which all members are asked
read_safe : {S V : Type 0} (old : View S V) (question : Question) (order : Option OrderView) (era : Era) → IsSized (era_at old 0) → Meet (era_at old 0) (era_at old 0)
    → (if reads_by order question then Some (era_at old 0) else None) ≡ Some era → IsReadSafe era (asked_by old question)
read_safe old (Probe key) (Some order) era sized meets is = by_test (asks_to_read order.asked) is
  where
    by_test : (b : Bool) → (if b then Some (era_at old 0) else None) ≡ Some era → IsReadSafe era (everyone old)
    by_test true same = subst (λ (e : Era). IsReadSafe e (everyone old)) (some_is same) (record { sized = sized; meets = meets; everyone = refl })
    by_test false same = absurd (cc same)
read_safe old (Probe key) None era sized meets is = absurd (cc is)
read_safe old (NextKeys places) None era sized meets is = absurd (cc is)
read_safe old (NextKeys places) (Some order) era sized meets is = absurd (cc is)
read_safe old (NewAges key least) None era sized meets is = absurd (cc is)
read_safe old (NewAges key least) (Some order) era sized meets is = absurd (cc is)
read_safe old (Removal key) None era sized meets is = absurd (cc is)
read_safe old (Removal key) (Some order) era sized meets is = absurd (cc is)

pub ask_safe : {S V : Type 0} (m : Meaning S V) (old : View S V) (question : Question) (new : View S V) → IsSized (era_at old 0) → Meet (era_at old 0) (era_at old 0) → IsSound old
    → StepAskAll m old question new → IsSound new
ask_safe {S} {V} m old question new sized meets was by = by_case by.asks
  where
    may : MayAskAll old question by.desk
    may = by.may

    tos : List ℕ
    tos = asked_by old question

    asked : (now : DeskView V) (tag : Ballot) (flow : FlowView) → HasRoomToAsk old question → FitsBallot tag × IsCouncilSafe (record old.council { exchange = Some (new_exchange question tag tos (length old.marks) (read_era old question)); plan = plan_asked question tag old.council.plan }) → now ≡ record by.desk { vault = now.vault } → Sends old.flow exchange_place (questions_to (kept_of by.desk.vault).age tag question tos) flow
        → IsSound (with_council (record (with_desk old 0 now) { flow = flow }) (record old.council { exchange = Some (new_exchange question tag tos (length old.marks) (read_era old question)); plan = plan_asked question tag old.council.plan }))
    asked now tag flow room fits is_now sends =
        council_safe (with_desk old 0 now) flow
        (record old.council { exchange = Some (new_exchange question tag tos (length old.marks) (read_era old question)); plan = plan_asked question tag old.council.plan }) old.marks
        (vault_changes old 0 by.desk now was may.at_desk may.idle is_now) sends.queues sends.others (omega arith)
        (sent_safe old.flow flow (kept_of by.desk.vault).age tag question tos (length old.marks) (read_era old question) (none_waiting old was may.none_open) fits.0 (asked_set old question) (asked_few old question (was.few_members 0)) (λ era is. read_safe old question old.council.order era sized meets is) sends) fits.1
        (omega (arith, room, ap reserved_for_exchange may.none_open))

    by_case : AsksAll m old question by.desk new → IsSound new
    by_case (council.asks now tag flow up room tagged is_now sends view) = subst IsSound (sym view) (asked now tag flow room (asked_safe m.disks (everyone old) tos (length old.marks) (read_era old question) old.council may.caller.call may.order.asked question by.desk now tag may.is_for tagged.has_tag was.council) is_now sends)
    by_case (council.is_down down view) = subst IsSound (sym view) (told_view_safe old _ was)
    by_case (council.is_full up full view) = subst IsSound (sym view) (told_view_safe old _ was)
    by_case (council.is_spent now up spent kept is_now view) = subst IsSound (sym view) (told_view_safe (with_desk old 0 now) _ (vault_changes old 0 by.desk now was may.at_desk may.idle is_now))
    by_case (council.fails now up fault view) =
        let failed = where_drawn (listing_for old.council question) fault in
        subst IsSound (sym view) (told_view_safe (with_desk old 0 now) _ (desk_changes old 0 by.desk now was may.at_desk may.idle
        (ap (λ (d : DeskView V). d.id) failed.desk) (ap (λ (d : DeskView V). d.round) failed.desk) (fit_fewer [] by.desk.cache now.cache (failed_still m.disks [] by.desk now failed))))
    by_case (council.no_memory now tag up loss view) =
        subst IsSound (sym view) (told_view_safe (with_desk old 0 now) _ (desk_changes old 0 by.desk now was may.at_desk may.idle
        (ap (λ (d : DeskView V). d.id) loss.desk) (ap (λ (d : DeskView V). d.round) loss.desk) (fit_fewer [] by.desk.cache now.cache loss.cache)))

-- ---- a turn of the exchange
-- a request bears its tag, and is of its phase
ask_tag : (tag : Ballot) (question : Question) (to : ℕ) → tag_of (ask_of tag question to) ≡ tag
ask_tag tag (Probe key) to = refl
ask_tag tag (NextKeys places) to = refl
ask_tag tag (NewAges key least) to = refl
ask_tag tag (Removal key) to = refl

ask_phase : (tag : Ballot) (question : Question) (to : ℕ) → phase_of (ask_of tag question to) ≡ phase_for question
ask_phase tag (Probe key) to = refl
ask_phase tag (NextKeys places) to = refl
ask_phase tag (NewAges key least) to = refl
ask_phase tag (Removal key) to = refl

-- an exchange that goes on, with the frames that wait then
goes_on : (exchange new : ExchangeView) (queue rest : QueueView) (votes : ℕ) → IsExchangeSafe exchange queue → new.question ≡ exchange.question → new.tag ≡ exchange.tag
    → new.members ≡ exchange.members → new.reads ≡ exchange.reads
    → IsMemberSet new.harmed → IsWithin exchange.members new.harmed → exchange.reserved + length exchange.harmed ≤ new.reserved + length new.harmed → new.reserved ≤ exchange.reserved
    → ((place : ℕ) (one : Answered) → IsAt new.told place one → has_member exchange.members one.acceptor ≡ true) → Moves exchange.members queue rest votes → IsExchangeSafe new rest
goes_on exchange new queue rest votes was question tag members reads set within kept fewer tellers moves = record {
  tag = subst FitsBallot (sym tag) was.tag;
  member_set = subst IsMemberSet (sym members) was.member_set;
  about = λ each h. subst (λ (l : List ℕ). has_member l (head_of each).1 ≡ true) (sym members) (elim (moves.about each h) [
    | inl before ↦ was.about each before
    | inr one ↦ one
  ]);
  asks =
      λ request h. was.asks request (moves.requests request h) ∙ ap (λ (b : Ballot). ask_of b exchange.question request.to) (sym tag)
      ∙ ap (λ (q : Question). ask_of new.tag q request.to) (sym question);
  replies = λ reply h. subst (λ (b : Ballot). IsReplyTo b new.question reply) (sym tag) (subst (λ (q : Question). IsReplyTo exchange.tag q reply) (sym question) (elim (moves.replies reply h) [
    | inl before ↦ was.replies reply before
    | inr answer ↦
        let asked = was.asks answer.request answer.waits in
        record { tag = answer.tag ∙ ap tag_of asked ∙ ask_tag exchange.tag exchange.question answer.request.to; phase = answer.phase ∙ ap phase_of asked ∙ ask_phase exchange.tag exchange.question answer.request.to }
  ]));
  harmed_set = set;
  harmed_within = λ acceptor h. subst (λ (l : List ℕ). has_member l acceptor ≡ true) (sym members) (within acceptor h);
  reserved = omega (arith, was.reserved, kept, ap (λ (l : List ℕ). length l) members);
  few = omega (arith, was.few, fewer);
  few_members = omega (arith, was.few_members, ap (λ (l : List ℕ). length l) members);
  tellers = λ place one at. subst (λ (l : List ℕ). has_member l one.acceptor ≡ true) (sym members) (tellers place one at);
  read = λ era is. subst (IsReadSafe era) (sym members) (was.read era (sym reads ∙ is));
  room = omega (arith, moves.counted.room was.room);
}

-- what is harmed is as of a call that has as much reserved
abbrev call_like : ExchangeView → CallView
call_like exchange = record { key = []; program = []; rounds = 0; reserved = exchange.reserved; proposed = None; harmed = exchange.harmed; told = None; is_closed = false }

harmed_spends : (exchange : ExchangeView) (queue : QueueView) (member : ℕ) → IsExchangeSafe exchange queue → has_member exchange.members member ≡ true
    → Spends exchange.members (call_like exchange) (harmed_by (call_like exchange) member) 0
harmed_spends exchange queue member was is_member =
    spends_harm exchange.members (call_like exchange) member was.harmed_set was.harmed_within (member_low exchange.members member was.member_set is_member) is_member

-- the mark of a harm was reserved
pub harm_fits : (exchange : ExchangeView) (queue : QueueView) (member : ℕ) (down : Bool) → IsExchangeSafe exchange queue → has_member exchange.members member ≡ true
    → length (harm_marks exchange member down) + (harmed_exchange exchange member).reserved ≤ exchange.reserved
harm_fits exchange queue member down was is_member = by_test (has_member exchange.harmed member) refl
  where
    by_test : (b : Bool) → has_member exchange.harmed member ≡ b → length (if b then [] else Harmed 0 0 down ∷ []) + (if b then exchange.reserved else exchange.reserved - 1) ≤ exchange.reserved
    by_test true e = omega arith
    by_test false e =
        let low : member < 64 = member_low exchange.members member was.member_set is_member in
        let spends = harmed_spends exchange queue member was is_member in
        let same : (harmed_by (call_like exchange) member).harmed ≡ with_member exchange.harmed member =
        if_false (has_member exchange.harmed member) exchange.harmed (with_member exchange.harmed member) e in
        omega (
          arith,
          length_with_member exchange.harmed member was.harmed_set low e,
          set_within (harmed_by (call_like exchange) member).harmed exchange.members spends.harmed_set was.member_set spends.harmed_within,
          ap (λ (l : List ℕ). length l) same,
          was.reserved,
        )

-- the frame in front was harmed
harmed_safe : {S V : Type 0} (old : View S V) (verdict : Verdict) (front : Message) (exchange : ExchangeView) (member : ℕ) (down : Bool) → IsSound old → old.council.exchange ≡ Some exchange
    → slice_get (queue_at old.flow exchange_place).messages 0 ≡ Some front
    → member ≡ (head_of front).1 → IsSound (harms (record old { flow = taken old.flow exchange_place verdict }) exchange member down)
harmed_safe {S} {V} old verdict front exchange member down was is_open waits to =
    let asking : IsExchangeSafe exchange (queue_at old.flow exchange_place) = subst (λ (e : Option ExchangeView). IsAskingSafe e (queue_at old.flow exchange_place)) is_open was.asking in
    let is_member : has_member exchange.members member ≡ true =
    subst (λ (a : ℕ). has_member exchange.members a ≡ true) (sym to) (asking.about front (contains_at (queue_at old.flow exchange_place).messages 0 front waits)) in
    let spends = harmed_spends exchange (queue_at old.flow exchange_place) member asking is_member in
    let others = taken_others old.flow exchange_place verdict in
    council_safe old (taken old.flow exchange_place verdict) (record old.council { exchange = Some (harmed_exchange exchange member) })
    (old.marks ++ harm_marks exchange member down) was others.own others.others (more_by old.marks (harm_marks exchange member down))
    (goes_on exchange (harmed_exchange exchange member) (queue_at old.flow exchange_place) (queue_at (taken old.flow exchange_place verdict) exchange_place) 0 asking refl refl refl refl spends.harmed_set spends.harmed_within (omega (arith, spends.kept)) (omega (arith, harm_fits exchange (queue_at old.flow exchange_place) member down asking is_member)) asking.tellers
    (taken_moves old.flow exchange_place verdict exchange.members waits))
    (was.council.0, same_asks old.council.plan exchange (harmed_exchange exchange member) refl refl (subst (IsAskingOf old.council.plan) is_open was.council.1))
    (omega (arith, was.room, harm_fits exchange (queue_at old.flow exchange_place) member down asking is_member, length-append old.marks (harm_marks exchange member down), ap reserved_for_exchange is_open))

-- what a question is answered is no vote
pub no_vote : (tag : Ballot) (question : Question) (request : Request) (reply : Reply) → request.ask ≡ ask_of tag question request.to → length (votes_marked request reply) ≡ 0
no_vote tag (Probe key) request reply is = ap (λ (a : Ask). length (marks_of (votes_of request.to a reply.tell))) is
no_vote tag (NextKeys places) request reply is = ap (λ (a : Ask). length (marks_of (votes_of request.to a reply.tell))) is
no_vote tag (NewAges key least) request reply is = ap (λ (a : Ask). length (marks_of (votes_of request.to a reply.tell))) is
no_vote tag (Removal key) request reply is = ap (λ (a : Ask). length (marks_of (votes_of request.to a reply.tell))) is

pub turn_exchange_safe : {S V : Type 0} (m : Meaning S V) (old : View S V) (verdict : Verdict) (new : View S V) → IsSound old → StepTurnExchange m old verdict new → IsSound new
turn_exchange_safe {S} {V} m old verdict new was step = by_turn step.turn
  where
    exchange : ExchangeView
    exchange = step.at.exchange

    asking : IsExchangeSafe exchange (queue_at old.flow exchange_place)
    asking = subst (λ (e : Option ExchangeView). IsAskingSafe e (queue_at old.flow exchange_place)) step.at.is_open was.asking

    in_front : {each : Message} → step.front ≡ each → slice_get (queue_at old.flow exchange_place).messages 0 ≡ Some each
    in_front same = step.waits ∙ ap (λ (each : Message). Some each) same

    by_turn : TurnsExchange m old verdict step.front exchange new → IsSound new
    by_turn (council.held fall view) = subst IsSound (sym view) was
    by_turn (council.gone fall view) = subst IsSound (sym view) (harmed_safe old verdict step.front exchange _ false was step.at.is_open step.waits refl)
    by_turn (council.answers request acceptor now reply fall front at by view) =
        let waits : slice_get (queue_at old.flow exchange_place).messages 0 ≡ Some (message.Request request) = in_front front in
        let has_it = contains_at (queue_at old.flow exchange_place).messages 0 (message.Request request) waits in
        let safe = acceptor_safe old request.to acceptor now was at (ap (λ (a : AcceptorView S). a.id) by.acceptor) in
        let none : length (votes_marked request reply) ≡ 0 = no_vote exchange.tag exchange.question request reply (asking.asks request has_it) in
        let is_member : has_member exchange.members reply.from ≡ true =
        subst (λ (a : ℕ). has_member exchange.members a ≡ true) (sym (by.table.from ∙ was.acceptor_ids request.to acceptor at)) (asking.about (message.Request request) has_it) in
        let others = replied_others old.flow exchange_place verdict reply in
        subst IsSound (sym view) (council_safe (with_acceptor old request.to now) (replied_flow old.flow exchange_place verdict reply) old.council (old.marks ++ votes_marked request reply) safe others.own others.others (more_by old.marks (votes_marked request reply))
        (subst (λ (e : Option ExchangeView). IsAskingSafe e (queue_at (replied_flow old.flow exchange_place verdict reply) exchange_place)) (sym step.at.is_open)
        (goes_on exchange exchange (queue_at old.flow exchange_place) (queue_at (replied_flow old.flow exchange_place verdict reply) exchange_place) 0 asking refl refl refl refl asking.harmed_set asking.harmed_within (omega arith) (omega arith) asking.tellers
        (replied_moves old.flow exchange_place verdict request reply exchange.members 0 waits fall is_member (by.table.tag, by.table.phase) (omega arith)))) was.council
        (omega (arith, was.room, none, length-append old.marks (votes_marked request reply))))
    by_turn (council.finds_down request acceptor fall front at down view) =
        subst IsSound (sym view) (harmed_safe old verdict step.front exchange _ true was step.at.is_open step.waits (sym (ap (λ (each : Message). (head_of each).1) front)))
    by_turn (council.brings_down request acceptor now fall front at by view) =
        subst IsSound (sym view) (harmed_safe (with_acceptor old request.to now) verdict step.front exchange _ true (acceptor_safe old request.to acceptor now was at (ap (λ (a : AcceptorView S). a.id) by.acceptor)) step.at.is_open step.waits
        (sym (ap (λ (each : Message). (head_of each).1) front)))
    by_turn (council.arrives reply fall front to_it view) =
        let others = taken_others old.flow exchange_place verdict in
        subst IsSound (sym view) (council_safe old (taken old.flow exchange_place verdict) (record old.council { exchange = Some (record exchange { told = hears reply exchange.told }) }) old.marks was others.own others.others (omega arith)
        (goes_on exchange (record exchange { told = hears reply exchange.told }) (queue_at old.flow exchange_place) (queue_at (taken old.flow exchange_place verdict) exchange_place) 0 asking refl refl refl refl asking.harmed_set asking.harmed_within (omega arith) (omega arith)
        (told_then exchange.members reply exchange.told (position (awaits reply.from) exchange.told) (asking.about (message.Reply reply) (contains_at (queue_at old.flow exchange_place).messages 0 (message.Reply reply) (in_front front))) asking.tellers)
        (taken_moves old.flow exchange_place verdict exchange.members step.waits))
        (was.council.0, same_asks old.council.plan exchange (record exchange { told = hears reply exchange.told }) refl refl (subst (IsAskingOf old.council.plan) step.at.is_open was.council.1))
        (omega (arith, was.room, ap reserved_for_exchange step.at.is_open)))

pub refuse_exchange_safe : {S V : Type 0} (m : Meaning S V) (old : View S V) (new : View S V) → IsSound old → StepRefuseTurnExchange m old new → IsSound new
refuse_exchange_safe m old new was step = subst IsSound (sym step.view) (told_view_safe step.middle _ (room_not_found_safe m old step.middle was step.refuses))
