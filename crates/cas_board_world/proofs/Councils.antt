-- What the operator's calls leave true of a cluster that nobody stops, but for changes of membership and collections.
use Rattle.std.proofs.Common.{◌≡◌, ◌<◌, ℕ, Bool, true, false, List, [], ◌∷◌, ◌++◌, map, Option, None, Some, reverse, refl, sym, ap, subst, ◌∙◌, inl, inr}
use Rattle.std.specs.Prelude.{not, length, option_map, unwrap_or, slice_get, slice_set, Contains, if◌then◌else◌}
use Rattle.cas_base.proofs.Bools.{and_left}
use Rattle.cas_ballot.specs.Members.{has_member}
use Rattle.cas_ballot.specs.declared.ballot.Ballot.{Ballot}
use Rattle.cas_ballot.proofs.MemberLemmas.{members_where_tells}
use Rattle.cas_acceptor.specs.Acceptor.{AcceptorView}
use Rattle.cas_fate.specs.declared.fate.Verdict.{Verdict}
use Rattle.cas_flow.specs.Flow.{queue_at, taken}
use Rattle.cas_flow.specs.Message.{head_of}
use Rattle.cas_flow.specs.declared.message.Message.{Message}
use Rattle.cas_proposer.specs.Desk.{DeskView}
use Rattle.cas_quorum.specs.Era.{holds_prep, holds_acc}
use Rattle.cas_quorum.specs.declared.era.Era.{Era}
use Rattle.cas_record.specs.declared.answer.Answer.{Answer}
use Rattle.cas_record.specs.declared.answer.Answer.TheVariants as answer
use Rattle.cas_record.specs.declared.mark.Mark.{Mark}
use Rattle.cas_record.specs.declared.mark.Acknowledgment.{Acknowledgment}
use Rattle.cas_record.specs.declared.mark.Mark.TheVariants.{Acked, Harmed, Voted}
use Rattle.cas_protocol.specs.Reads.{acknowledgment_of}
use Rattle.cas_model.specs.Exchanges.Read.{MarksRead, counted as is_counted, nothing, holders_of}
use Rattle.cas_record.specs.declared.operator.Asked.{Asked}
use Rattle.cas_record.specs.declared.operator.Asked.TheVariants as asked
use Rattle.cas_record.specs.declared.operator.OpAnswer.{OpAnswer}
use Rattle.cas_record.specs.declared.operator.OpAnswer.TheVariants as told
use Rattle.cas_record.specs.declared.operator.Probe.{Probe as Answered}
use Rattle.cas_model.specs.Council.{Council, ExchangeView, ListingView, OrderView, PlanView, Question, Probe, NextKeys, NewAges, Removal, at_rest, exchange_place, hushed, without_partial, with_listing}
use Rattle.cas_model.specs.Eras.Course.{later_of}
use Rattle.cas_model.specs.Eras.Listings.{counted, missing, why_short, greatest_age}
use Rattle.cas_model.specs.Safe.{IsSafe, IsAskingSafe, IsExchangeSafe}
use Rattle.cas_model.specs.Exchanges.Step as council
use Rattle.cas_model.specs.Exchanges.Step.{StepOrder, StepTell, StepAskAll, StepTurnExchange, StepRefuseTurnExchange, StepGather, SaysTheSame, finished, told_over, told_marks, everyone, asked_by, new_exchange, read_era, plan_asked, listing_begun, listing_for, HasTag, WhereDrawn, harmed_exchange, harms, hears}
use Rattle.cas_model.specs.Calls.Desks.{FailsToDraw}
use Rattle.cas_model.specs.View.{DiskMeaning, Meaning, View, CallerView, era_at}
use Rattle.cas_model.proofs.Places.{some_is, newest_or_older, contains_none, contains_at}
use Rattle.cas_vault.specs.Vault.{disk_of}
use Rattle.cas_board_world.specs.Blame.{Nobody, blame_by, blame_by_answer, blame_by_op, HasFailedAt}
use Rattle.cas_board_world.specs.Steady.{AreBlamed, IsBlamedSince, IsFair, desk_faults, blame_by_exchange, blame_by_order, blame_if_broken, blame_if_said}
use Rattle.cas_board_world.proofs.Parts.{stays_above, fair_nobody, desk_goes_on, desk_failed, on_marks, on_council, on_telling, on_gathered, hushed_order}
use Rattle.cas_board_world.proofs.Callers.{loses_low, later_listing}
use Rattle.cas_board_world.proofs.Frames.{answered, down_fair, no_room_blamed, on_harm, on_votes, stopped}

-- ---- the operator's call
pub order_blamed : {S V : Type 0} {were : List ℕ} (m : Meaning S V) (old : View S V) (asked : Asked) (new : View S V) → IsBlamedSince m were old → StepOrder old asked new → IsBlamedSince m were new
order_blamed {S} {V} {were} m old asked new is by = subst (IsBlamedSince m were) (sym by.view) (on_council m is (record old.council { order = Some (record { asked = asked; told = None }) }) tt is.exchange is.later is.asked)

says_blame : (said answer : OpAnswer) → SaysTheSame said answer → blame_by_op said ≡ blame_by_op answer
says_blame (told.Probed key found) (told.Probed other seen) same = refl
says_blame said answer same = ap blame_by_op same

finished_nobody : (of : Asked) (era rescanned : ℕ) (answer : OpAnswer) → finished of era rescanned answer → blame_by_op answer ≡ Nobody
finished_nobody (asked.Join id) era rescanned answer is = ap blame_by_op is
finished_nobody (asked.Leave id) era rescanned answer is = ap blame_by_op is
finished_nobody (asked.Resize need_prep need_acc) era rescanned answer is = ap blame_by_op is
finished_nobody of era rescanned answer none = absurd none

marks_fair : {S V : Type 0} (m : Meaning S V) (acceptors : List (AcceptorView S)) (desks : List (DeskView V)) (of : Asked) (answer : OpAnswer) → IsFair m acceptors desks (blame_by_op answer) → (mark : Mark) → Contains (told_marks of answer) mark → IsFair m acceptors desks (blame_by mark)
marks_fair m acceptors desks of (told.Probed key found) fair mark there = absurd (contains_none there)
marks_fair {S} {V} m acceptors desks of answer fair mark there = elim (newest_or_older [] there) [
  | inl now ↦ subst (λ (k : Mark). IsFair m acceptors desks (blame_by k)) now fair
  | inr none ↦ absurd (contains_none none)
]

later_rest : (plan : Option PlanView) (era : Era) → Contains (later_of (option_map without_partial plan)) era → Contains (later_of plan) era
later_rest None era there = there
later_rest (Some plan) era there = there

over_blamed : {S V : Type 0} {were : List ℕ} (m : Meaning S V) (view : View S V) → IsBlamedSince m were view → (of : Asked) (answer : OpAnswer) → IsFair m view.acceptors view.desks (blame_by_op answer) → IsBlamedSince m were (told_over view of answer)
over_blamed {were = were} m view is of answer fair =
    on_marks m (on_council m is (at_rest view.council) tt tt (λ era there. is.later era (later_rest view.council.plan era there)) (λ exchange none. absurd (cc none))) (told_marks of answer) (marks_fair m view.acceptors view.desks of answer fair)

pub tell_blamed : {S V : Type 0} {were : List ℕ} (m : Meaning S V) (old : View S V) (answer : OpAnswer) (new : View S V) → IsBlamedSince m were old → StepTell old answer new → IsBlamedSince m were new
tell_blamed {S} {V} {were} m old answer new is (council.tells order said is_open is_told same view) =
    subst (IsBlamedSince m were) (sym view) (over_blamed m old is order.asked answer (subst (IsFair m old.acceptors old.desks) (says_blame said answer same)
    (subst (λ (o : Option OpAnswer). IsFair m old.acceptors old.desks (blame_if_said o)) is_told (subst (λ (o : Option OrderView). IsFair m old.acceptors old.desks (blame_by_order o)) is_open is.order))))
tell_blamed {S} {V} {were} m old answer new is (council.finishes order is_open finishes view) =
    subst (IsBlamedSince m were) (sym view) (over_blamed m (record old { council = record old.council { plan = None } }) (on_council m is (record old.council { plan = None }) is.order is.exchange (λ era there. absurd (contains_none there)) is.asked) order.asked answer
    (fair_nobody m old.acceptors old.desks (blame_by_op answer) (finished_nobody order.asked finishes.plan.progress.era.number finishes.plan.rescanned answer finishes.tells)))
tell_blamed {S} {V} {were} m old answer new is (council.collects order is_open collects view) =
    subst (IsBlamedSince m were) (sym view) (over_blamed m old is order.asked answer (fair_nobody m old.acceptors old.desks (blame_by_op answer) (ap blame_by_op collects.tells)))

-- ---- proposer 0 asks all members
tag_low : {V : Type 0} (m : DiskMeaning V) (listing : Option ListingView) (desk now : DeskView V) (tag : Ballot) → HasTag m listing desk now tag → 0 < m.faults (disk_of desk.vault) → 0 < m.faults (disk_of now.vault)
tag_low m None desk now tag by = stays_above by.goes_on.never_falls
tag_low {V} m (Some listing) desk now tag by = subst (λ (v : _). 0 < m.faults (disk_of desk.vault) → 0 < m.faults (disk_of v)) (sym by.1) (λ some. some)

was_drawn : (listing : Option ListingView) (happens : Type 0) → WhereDrawn listing happens → happens
was_drawn None happens is = is
was_drawn (Some listing) happens none = absurd none

later_begun : (places : _) (tag : Ballot) (plan : Option PlanView) (era : Era) → Contains (later_of (option_map (listing_begun places tag) plan)) era → Contains (later_of plan) era
later_begun places tag None era there = there
later_begun places tag (Some plan) era there = there

later_asked : (question : Question) (tag : Ballot) (plan : Option PlanView) (era : Era) → Contains (later_of (plan_asked question tag plan)) era → Contains (later_of plan) era
later_asked (Probe key) tag plan era there = there
later_asked (NextKeys places) tag plan era there = later_begun places tag plan era there
later_asked (NewAges key least) tag plan era there = there
later_asked (Removal key) tag plan era there = there

asked_everyone : {S V : Type 0} (old : View S V) (question : Question) (acceptor : ℕ) → has_member (asked_by old question) acceptor ≡ true → has_member (everyone old) acceptor ≡ true
asked_everyone old (Probe key) acceptor member = member
asked_everyone old (NextKeys places) acceptor member = and_left (has_member (everyone old) acceptor) _ (members_where_tells _ acceptor member)
asked_everyone old (NewAges key least) acceptor member = member
asked_everyone old (Removal key) acceptor member = member

pub ask_blamed : {S V : Type 0} {were : List ℕ} (m : Meaning S V) (old : View S V) (question : Question) (new : View S V) → IsBlamedSince m were old → StepAskAll m old question new → IsBlamedSince m were new
ask_blamed {S} {V} {were} m old question new is by = by_case by.asks
  where
    by_case : council.AsksAll m old question by.desk new → IsBlamedSince m were new
    by_case (council.asks now tag flow up room tags now_is sends view) =
        subst (IsBlamedSince m were) (sym view) (on_council m (desk_goes_on m is 0 by.desk now by.may.at_desk (tag_low m.disks _ by.desk now tag tags.has_tag) (ap (λ (d : DeskView V). d.down) now_is))
        (record old.council { exchange = Some (new_exchange question tag (asked_by old question) (length old.marks) (read_era old question)); plan = plan_asked question tag old.council.plan })
        (desk_goes_on m is 0 by.desk now by.may.at_desk (tag_low m.disks _ by.desk now tag tags.has_tag) (ap (λ (d : DeskView V). d.down) now_is)).order tt
        (λ era there. is.later era (later_asked question tag old.council.plan era there))
        (λ exchange same acceptor member. is.in_eras 0 acceptor (asked_everyone old question acceptor (subst (λ (e : ExchangeView). has_member e.members acceptor ≡ true) (sym (some_is same)) member))))
    by_case (council.is_down down view) = subst (IsBlamedSince m were) (sym view) (on_telling m is (told.Stopped answer.Down) (record { one = by.desk; at = by.may.at_desk; failed = is.failed 0 by.desk by.may.at_desk down }))
    by_case (council.is_full up full view) = subst (IsBlamedSince m were) (sym view) (on_telling m is (told.Stopped answer.RecordFull) tt)
    by_case (council.is_spent now up spent kept now_is view) =
        subst (IsBlamedSince m were) (sym view) (on_telling m (desk_goes_on m is 0 by.desk now by.may.at_desk (stays_above kept.goes_on.never_falls) (ap (λ (d : DeskView V). d.down) now_is)) (told.Stopped answer.Spent) tt)
    by_case (council.fails now up drawn view) =
        let fails : FailsToDraw m.disks by.desk.cache by.desk now = was_drawn (listing_for old.council question) (FailsToDraw m.disks by.desk.cache by.desk now) drawn in
        let failed = desk_failed m is 0 by.desk now by.may.at_desk fails.faulted in
        subst (IsBlamedSince m were) (sym view) (on_telling m failed.0 (told.Stopped answer.VaultFault) failed.1)
    by_case (council.no_memory now tag up loses view) =
        subst (IsBlamedSince m were) (sym view) (on_telling m (desk_goes_on m is 0 by.desk now by.may.at_desk (stays_above (loses_low m.disks [] by.desk now tag loses)) (ap (λ (d : DeskView V). d.down) loses.desk)) (told.Stopped (answer.NoMemory false)) tt)

-- ---- a turn of its frames
-- the exchange that is open goes on
on_exchange : {S V : Type 0} (m : Meaning S V) {were : List ℕ} {acceptors : List (AcceptorView S)} {desks : List (DeskView V)} {eras : List Era} {callers : List CallerView} {council : Council} {marks : List Mark}
    → AreBlamed m were acceptors desks eras callers council marks → (exchange now : ExchangeView) → council.exchange ≡ Some exchange → now.crashed ≡ exchange.crashed → now.members ≡ exchange.members
    → AreBlamed m were acceptors desks eras callers (record council { exchange = Some now }) marks
on_exchange {S} {V} m {were} {acceptors} {desks} {eras} {callers} {council} {marks} is exchange now is_open same_crashed same_members =
    on_council m is (record council { exchange = Some now }) is.order
    (subst (λ (b : Bool). IsFair m acceptors desks (blame_if_broken b)) (sym same_crashed) (subst (λ (o : Option ExchangeView). IsFair m acceptors desks (blame_by_exchange o)) is_open is.exchange)) is.later
    (λ each same acceptor member. is.asked exchange is_open acceptor (subst (λ (l : List ℕ). has_member l acceptor ≡ true) (ap (λ (e : ExchangeView). e.members) (sym (some_is same)) ∙ same_members) member))

harms_blamed : {S V : Type 0} {were : List ℕ} (m : Meaning S V) (view : View S V) → IsBlamedSince m were view → (exchange : ExchangeView) → view.council.exchange ≡ Some exchange → (member : ℕ) (down : Bool) → IsFair m view.acceptors view.desks (blame_by (Harmed 0 0 down)) → IsBlamedSince m were (harms view exchange member down)
harms_blamed {were = were} m view is exchange is_open member down fair = on_harm m (on_exchange m is exchange (harmed_exchange exchange member) is_open refl refl) (has_member exchange.harmed member) (Harmed 0 0 down) fair

waiting_used : {S V : Type 0} {were : List ℕ} (m : Meaning S V) (old : View S V) (exchange : ExchangeView) (front : Message) → IsSafe old → IsBlamedSince m were old → old.council.exchange ≡ Some exchange → slice_get (queue_at old.flow exchange_place).messages 0 ≡ Some front
    → has_member were (head_of front).1 ≡ true
waiting_used {S} {V} {were} m old exchange front safe is is_open first =
    let asking : IsExchangeSafe exchange (queue_at old.flow exchange_place) = subst (λ (o : Option ExchangeView). IsAskingSafe o (queue_at old.flow exchange_place)) is_open safe.sound.asking in
    is.asked exchange is_open (head_of front).1 (asking.about front (contains_at (queue_at old.flow exchange_place).messages 0 front first))

pub turn_exchange_blamed : {S V : Type 0} {were : List ℕ} (m : Meaning S V) (old : View S V) (v : Verdict) (new : View S V) → IsSafe old → IsBlamedSince m were old → StepTurnExchange m old v new → IsBlamedSince m were new
turn_exchange_blamed {S} {V} {were} m old v new safe is by = by_case by.turn
  where
    by_case : council.TurnsExchange m old v by.front by.at.exchange new → IsBlamedSince m were new
    by_case (council.held stays view) = subst (IsBlamedSince m were) (sym view) is
    by_case (council.gone goes view) = subst (IsBlamedSince m were) (sym view) (harms_blamed m (record old { flow = taken old.flow exchange_place v }) is by.at.exchange by.at.is_open (head_of by.front).1 false tt)
    by_case (council.answers request acceptor now reply handle is_front at answers view) = subst (IsBlamedSince m were) (sym view) (on_votes m (answered m is request reply acceptor now at answers) request reply)
    by_case (council.finds_down request acceptor handle is_front at down view) =
        subst (IsBlamedSince m were) (sym view) (harms_blamed m (record old { flow = taken old.flow exchange_place v }) is by.at.exchange by.at.is_open request.to true
        (down_fair m is request.to acceptor at down (subst (λ (x : Message). has_member were (head_of x).1 ≡ true) is_front (waiting_used m old by.at.exchange by.front safe is by.at.is_open by.waits))))
    by_case (council.brings_down request acceptor now handle is_front at stops view) =
        let failed = stopped m is request acceptor now at stops in
        subst (IsBlamedSince m were) (sym view) (harms_blamed m (record old { acceptors = slice_set old.acceptors request.to now; flow = taken old.flow exchange_place v }) failed.0 by.at.exchange by.at.is_open request.to true failed.1)
    by_case (council.arrives reply handle is_front answers view) = subst (IsBlamedSince m were) (sym view) (on_exchange m is by.at.exchange (record by.at.exchange { told = hears reply by.at.exchange.told }) by.at.is_open refl refl)

pub refuse_exchange_blamed : {S V : Type 0} {were : List ℕ} (m : Meaning S V) (old new : View S V) → IsBlamedSince m were old → StepRefuseTurnExchange m old new → IsBlamedSince m were new
refuse_exchange_blamed {S} {V} {were} m old new is by = subst (IsBlamedSince m were) (sym by.view) (on_telling m (no_room_blamed m old by.middle is by.refuses) (told.Stopped (answer.NoMemory false)) tt)

-- ---- what was told is gathered
-- an exchange that was broken off blames the vault of proposer 0
pub broken_fair : {S V : Type 0} (m : Meaning S V) {were : List ℕ} {acceptors : List (AcceptorView S)} {desks : List (DeskView V)} {eras : List Era} {callers : List CallerView} {council : Council} {marks : List Mark}
    → AreBlamed m were acceptors desks eras callers council marks → (exchange : ExchangeView) → council.exchange ≡ Some exchange → exchange.crashed ≡ true → HasFailedAt (desk_faults m) desks 0
broken_fair {S} {V} m {were} {acceptors} {desks} is exchange is_open crashed =
    subst (λ (b : Bool). IsFair m acceptors desks (blame_if_broken b)) crashed (subst (λ (o : Option ExchangeView). IsFair m acceptors desks (blame_by_exchange o)) is_open is.exchange)

missing_nobody : (era : Era) (by : List ℕ) (short : Answer) → missing era by ≡ Some short → blame_by_answer 0 short ≡ Nobody
missing_nobody era by short is = by_test (not (holds_prep era by)) (not (holds_acc era by)) _ _ _ _ is
  where
    by_test : (a b : Bool) (got need have want : ℕ) → (if a then Some (answer.Short got need) else if b then Some (answer.Short have want) else None) ≡ Some short → blame_by_answer 0 short ≡ Nobody
    by_test true b got need have want is = ap (blame_by_answer 0) (sym (some_is is))
    by_test false true got need have want is = ap (blame_by_answer 0) (sym (some_is is))
    by_test false false got need have want is = absurd (cc is)

short_nobody : (heard : List Answered) (short : Answer) → blame_by_answer 0 short ≡ Nobody → blame_by_answer 0 (why_short heard short) ≡ Nobody
short_nobody heard short is = by_age (greatest_age heard)
  where
    by_age : (age : Option ℕ) → blame_by_answer 0 (unwrap_or (option_map (λ least. answer.Aged least) age) short) ≡ Nobody
    by_age None = is
    by_age (Some least) = refl

-- what a read marks blames nobody
votes_nobody : (key : List ℕ) (ballot : Ballot) (a : Acknowledgment) (by : List ℕ) (mark : Mark) → Contains (map (λ acceptor. Voted acceptor key ballot) by ++ Acked a ∷ []) mark → blame_by mark ≡ Nobody
votes_nobody key ballot a [] mark there = elim (newest_or_older [] there) [
  | inl now ↦ ap blame_by (sym now)
  | inr none ↦ absurd (contains_none none)
]
votes_nobody key ballot a (one ∷ by) mark there = elim (newest_or_older (map (λ acceptor. Voted acceptor key ballot) by ++ Acked a ∷ []) there) [
  | inl now ↦ ap blame_by (sym now)
  | inr later ↦ votes_nobody key ballot a by mark later
]

read_nobody : (era : Era) (key : List ℕ) (found : List Answered) (older marks : List Mark) → MarksRead era key found older marks → (mark : Mark) → Contains marks mark → blame_by mark ≡ Nobody
read_nobody era key found older marks (is_counted accepted agree above same) mark there =
    votes_nobody key accepted.ballot (acknowledgment_of key accepted (holders_of accepted.ballot found)) (holders_of accepted.ballot found) mark (subst (λ (l : List Mark). Contains l mark) same there)
read_nobody era key found older marks (nothing none same) mark there = absurd (contains_none (subst (λ (l : List Mark). Contains l mark) same there))

pub gather_blamed : {S V : Type 0} {were : List ℕ} (m : Meaning S V) (old new : View S V) → IsBlamedSince m were old → StepGather old new → IsBlamedSince m were new
gather_blamed {S} {V} {were} m old new is by = by_case by.gathers
  where
    by_case : council.Gathers old by.at.exchange new → IsBlamedSince m were new
    by_case (council.crashed down view) = subst (IsBlamedSince m were) (sym view) (on_gathered m is (told.Stopped answer.Crashed) (broken_fair m is by.at.exchange by.at.is_open down))
    by_case (council.probed key found up question plain keeps view) = subst (IsBlamedSince m were) (sym view) (on_gathered m is (told.Probed key found) tt)
    by_case (council.read key era found marks up question reads keeps made view) =
        subst (IsBlamedSince m were) (sym view) (on_marks m (on_gathered m is (told.Probed key found) tt) marks (λ mark there. fair_nobody m old.acceptors old.desks (blame_by mark) (read_nobody era key by.at.exchange.told (reverse old.marks) marks made mark there)))
    by_case (council.lists of listing up enough on view) =
        subst (IsBlamedSince m were) (sym view) (on_council m is (record (hushed old.council) { exchange = None; plan = Some (with_listing of.plan listing) }) (hushed_order m old.acceptors old.desks old.council.order) tt
        (λ era there. is.later era (subst (λ (p : Option PlanView). Contains (later_of p) era) (sym of.is_plan) (later_listing of.plan listing era there))) (λ exchange none. absurd (cc none)))
    by_case (council.is_short of short up lacks view) =
        subst (IsBlamedSince m were) (sym view) (on_gathered m is (told.Stopped (why_short by.at.exchange.told short)) (fair_nobody m old.acceptors old.desks (blame_by_op (told.Stopped (why_short by.at.exchange.told short))) (short_nobody by.at.exchange.told short (missing_nobody (era_at old 0) (counted by.at.exchange.told of.listing.places) short lacks))))
    by_case (council.no_memory up view) = subst (IsBlamedSince m were) (sym view) (on_telling m is (told.Stopped (answer.NoMemory false)) tt)
