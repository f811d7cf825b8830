-- That what a read of a key tells is so.
use Rattle.std.proofs.Common.{◌≡◌, ◌≢◌, ℕ, Bool, true, List, ◌++◌, append-nil, length, reverse, Option, None, Some, refl, sym, ap, subst, ◌∙◌, arith}
use Rattle.std.specs.Prelude.{option_and_then, option_map, take}
use Rattle.std.proofs.Math.Seq.{take-append_seam}
use Rattle.cas_base.proofs.Bools.{and_left, and_right, if_true}
use Rattle.cas_ballot.specs.Ballot.{zero_ballot}
use Rattle.cas_ballot.specs.declared.ballot.Ballot.{Ballot}
use Rattle.cas_fate.specs.declared.fate.Verdict.{Verdict}
use Rattle.cas_quorum.specs.Era.{holds_prep, holds_acc}
use Rattle.cas_quorum.specs.declared.era.Era.{Era}
use Rattle.cas_record.proofs.Tests.{ballot_is}
use Rattle.cas_record.specs.Agreement.{IsAgreementOf, acceptors_where, is_agreed, place_of, tells_in}
use Rattle.cas_record.specs.Histories.Chain.{is_ballot}
use Rattle.cas_record.specs.Legal.{HasFloor}
use Rattle.cas_record.specs.Reading.{read_of, state_kept, told_at}
use Rattle.cas_record.specs.declared.agreement.Agreement.{Agreement}
use Rattle.cas_record.specs.declared.agreement.Agreement.TheVariants as agreed
use Rattle.cas_record.specs.declared.answer.Answer.{Answer}
use Rattle.cas_record.specs.declared.mark.Mark.{Mark}
use Rattle.cas_record.specs.declared.operator.Asked.{Asked}
use Rattle.cas_record.specs.declared.operator.Asked.TheVariants as asked
use Rattle.cas_record.specs.declared.operator.OpAnswer.{OpAnswer}
use Rattle.cas_record.specs.declared.operator.OpAnswer.TheVariants as op
use Rattle.cas_record.specs.declared.operator.Probe.{Probe as Answered}
use Rattle.cas_record.specs.declared.operator.Probes.{Probes}
use Rattle.cas_record.specs.declared.read_answer.ReadAnswer.{ReadAnswer}
use Rattle.cas_model.specs.Council.{Council, ExchangeView, OrderView, Probe, silent_order, told_so}
use Rattle.cas_model.specs.Exchanges.ReadLaws as model
use Rattle.cas_model.specs.Exchanges.ReadLaws.{IsReadGathered, marks_before}
use Rattle.cas_model.specs.Exchanges.Step as council
use Rattle.cas_model.specs.Exchanges.Step.{AsksAll, Gathers, IsFinishedBy, SaysTheSame, StepAskAll, StepGather, StepOrder, StepTell, StepTurnExchange, TurnsExchange, finished}
use Rattle.cas_model.specs.History.{IsRemembered}
use Rattle.cas_model.specs.Parties.{IsReadTrue}
use Rattle.cas_model.specs.Step as step
use Rattle.cas_model.specs.View.{Meaning, View, era_at}
use Rattle.cas_model.proofs.Exchanges.ReadLaws.{reads_are_so, reads_of_nothing_are_so}
use Rattle.cas_model.proofs.Places.{some_is}
use Rattle.cas_model.proofs.ViewLaws.{steps}
use Rattle.cas_lines.specs.declared.answer.EventAnswer.{EventAnswer}
use Rattle.cas_world.specs.Exchanges.Exchange.{WasToldOrder}
use Rattle.casreg_script.specs.Events as events
use Rattle.casreg_script.specs.Events.{AnswersStray}
use Rattle.casreg_script.specs.Exchanges.Exchanges as turns
use Rattle.casreg_script.specs.Exchanges.Exchanges.{AskTurned, AsksMembers, BreaksOffAsking}
use Rattle.casreg_script.specs.Exchanges.Probes as inquiries
use Rattle.casreg_script.specs.Exchanges.Probes.{IsInquiry}
use Rattle.casreg_script.specs.Exchanges.Reads as answered
use Rattle.casreg_script.specs.Exchanges.Reads.{AnswersRead, IsEmptySo, IsReadAnswerSo, IsValueSo}
use Rattle.casreg_script.specs.Frames.Conditions.{NetworkView}
use Rattle.casreg_script.specs.Frames.Strays as strays
use Rattle.casreg_script.specs.Frames.Strays.{LetsStrayIn}
use Rattle.cas_agreement.specs.Told.{names_of, IsToldAt, Rises}
use Rattle.cas_agreement.proofs.Agreed.{agree_at, rises_where, told_at_place}
use Rattle.casreg_script.proofs.Exchanges.Hearing.{asked_named, hears_named}
use Rattle.casreg_script.proofs.Exchanges.Asking.{asked_reads, asking_stops, turns_read}
use Rattle.casreg_script.proofs.Exchanges.Marking.{AddsNoFloor, floor_before, turns_add}
use Rattle.casreg_script.proofs.Frames.Straying.{lets_under_way}

-- ---- the cluster stays remembered
module _ {S V : Type 0} (m : Meaning S V) (shelves : m.shelves.tells) (disks : m.disks.tells) where
  stray_remembers : (old new : View S V) (index : ℕ) (answer : EventAnswer) → AnswersStray m old index answer new → IsRemembered m old → IsRemembered m new
  stray_remembers old new index answer (events.absent none) was = was
  stray_remembers old new index answer (events.strays by) was = steps m shelves disks old (step.Stray index) new was by
  stray_remembers old new index answer (events.full low is) was = was
  stray_remembers old new index answer (events.no_memory low by) was = steps m shelves disks old step.RefuseStray new was by

  lets_remember : {by next : NetworkView} (old new : View S V) → LetsStrayIn m by old next new → IsRemembered m old → IsRemembered m new
  lets_remember old new (strays.none names) was = was
  lets_remember old new (strays.one place answer names by) was = stray_remembers old new place answer by was

  turns_remember : {by : NetworkView} (old : View S V) {next : NetworkView} {again : Bool} (new : View S V) → AskTurned m by old next again new → IsRemembered m old → IsRemembered m new
  turns_remember old new turns.none was = was
  turns_remember old new (turns.one_more {verdict = verdict} {mid = mid} {near = near} frame turned lets waits decides by) was =
      steps m shelves disks near (step.TurnExchange verdict) new (lets_remember mid near lets (turns_remember old mid turned was)) by

-- ---- the exchange as it goes on
-- one that is open was open before, and the same members tell
record WasOpen {S V : Type 0} (old : View S V) (now : ExchangeView) : Type 0 where
  was : ExchangeView
  is_open : old.council.exchange ≡ Some was
  named : names_of now.told ≡ names_of was.told

turn_names : {S V : Type 0} (m : Meaning S V) (old new : View S V) (verdict : Verdict) (now : ExchangeView) (by : StepTurnExchange m old verdict new) → new.council.exchange ≡ Some now
    → names_of now.told ≡ names_of by.at.exchange.told
turn_names {S} {V} m old new verdict now by is_open = by_case by.turn
  where
    goes_on : (next : ExchangeView) (changed : View S V) → new ≡ changed → changed.council.exchange ≡ Some next → names_of next.told ≡ names_of by.at.exchange.told
        → names_of now.told ≡ names_of by.at.exchange.told
    goes_on next changed is exchange named = ap (λ (e : ExchangeView). names_of e.told) (some_is (sym is_open ∙ ap (λ (w : View S V). w.council.exchange) is ∙ exchange)) ∙ named

    by_case : TurnsExchange m old verdict by.front by.at.exchange new → names_of now.told ≡ names_of by.at.exchange.told
    by_case (council.held fall is) = goes_on by.at.exchange old is by.at.is_open refl
    by_case (council.gone fall is) = goes_on _ _ is refl refl
    by_case (council.answers request acceptor now_ reply fall front at table is) = goes_on by.at.exchange _ is by.at.is_open refl
    by_case (council.finds_down request acceptor fall front at down is) = goes_on _ _ is refl refl
    by_case (council.brings_down request acceptor now_ fall front at stops is) = goes_on _ _ is refl refl
    by_case (council.arrives reply fall front to_it is) = goes_on _ _ is refl (hears_named reply by.at.exchange.told)

turns_name : {S V : Type 0} (m : Meaning S V) {by : NetworkView} (old : View S V) {next : NetworkView} {again : Bool} (new : View S V) (now : ExchangeView) → AskTurned m by old next again new
    → new.council.exchange ≡ Some now → WasOpen old now
turns_name m old new now turns.none is_open = record { was = now; is_open = is_open; named = refl }
turns_name {S} {V} m {by} old new now (turns.one_more {before = before} {between = between} {verdict = verdict} {mid = mid} {near = near} frame turned lets waits decides by_step) is_open =
    let near_mid : near.council ≡ mid.council = (lets_under_way m before between mid near lets).council in
    let mid_open : mid.council.exchange ≡ Some by_step.at.exchange = sym (ap (λ (c : Council). c.exchange) near_mid) ∙ by_step.at.is_open in
    let first = turns_name m old mid by_step.at.exchange turned mid_open in
    record { was = first.was; is_open = first.is_open; named = turn_names m near new verdict now by_step is_open ∙ first.named }

-- as it opens all members are asked, each once
asked_rise : {S V : Type 0} (m : Meaning S V) (old new : View S V) (key : List ℕ) (exchange : ExchangeView) → StepAskAll m old (Probe key) new → new.council.exchange ≡ Some exchange
    → Rises (names_of exchange.told)
asked_rise {S} {V} m old new key exchange by is_open = by_case by.asks
  where
    not_open : new.council.exchange ≡ None → Rises (names_of exchange.told)
    not_open none = absurd (cc (sym none ∙ is_open))

    by_case : AsksAll m old (Probe key) by.desk new → Rises (names_of exchange.told)
    by_case (council.asks now tag flow up room drawn is_now sends is) =
        let same : exchange ≡ council.new_exchange (Probe key) tag (council.everyone old) (length old.marks) (council.read_era old (Probe key)) = some_is
        (sym is_open ∙ ap (λ (w : View S V). w.council.exchange) is) in
        subst Rises (sym (ap (λ (e : ExchangeView). names_of e.told) same ∙ asked_named (council.everyone old))) (rises_where _)
    by_case (council.is_down down is) = not_open (ap (λ (w : View S V). w.council.exchange) is ∙ by.may.none_open)
    by_case (council.is_full up full is) = not_open (ap (λ (w : View S V). w.council.exchange) is ∙ by.may.none_open)
    by_case (council.is_spent now up spent kept is_now is) = not_open (ap (λ (w : View S V). w.council.exchange) is ∙ by.may.none_open)
    by_case (council.fails now up fault is) = not_open (ap (λ (w : View S V). w.council.exchange) is ∙ by.may.none_open)
    by_case (council.no_memory now tag up loss is) = not_open (ap (λ (w : View S V). w.council.exchange) is ∙ by.may.none_open)

-- ---- what is gathered is so
module _ {S V : Type 0} (m : Meaning S V) (old new : View S V) (exchange : ExchangeView) (key : List ℕ) (era : Era) (is : IsRemembered m old) (gathered : IsReadGathered old exchange key era new) (rises : Rises (names_of exchange.told)) where
  read : IsReadTrue is.followed.cluster is.followed.logged.global.log exchange.tag exchange.since key era
  read = (is.followed.logged.agrees.council.0 exchange gathered.is_open).read key era gathered.asks gathered.reads

  told_there : (ballot : Ballot) → ballot ≢ zero_ballot → is_agreed era exchange.told ballot ≡ true → IsToldAt era ballot exchange.told
  told_there ballot above agrees =
      let by : List ℕ = acceptors_where (tells_in era.number ballot) exchange.told in
      let shared = is.followed.logged.meets era.number era.number (omega arith) (omega arith) by by (read.prepares by (and_left (holds_prep era by) (holds_acc era by) agrees))
      (read.accepts by (and_right (holds_prep era by) (holds_acc era by) agrees)) in
      told_at_place exchange.told rises era ballot shared.acceptor shared.left above agrees

  value_so : (ballot : Ballot) (at : Option ℕ) → is_agreed era exchange.told ballot ≡ true → at ≡ place_of era.number ballot exchange.told → ballot ≢ zero_ballot
      → IsValueSo (marks_before old exchange) (reverse new.marks) key (state_kept (told_at at exchange.told)) ballot
  value_so ballot at agrees at_is above =
      let it = told_there ballot above agrees in
      let there : at ≡ Some it.place = at_is ∙ it.is in
      let so : model.IsReadSo (marks_before old exchange) (reverse new.marks) key it.accepted = reads_are_so m old new exchange key era it.accepted is gathered it.on in
      let kept : state_kept (told_at at exchange.told) ≡ it.accepted.state =
      ap (λ (o : Option ℕ). state_kept (told_at o exchange.told)) there ∙ ap (λ (o : Option Answered). state_kept (option_and_then (λ (x : Answered). x.told) o)) it.at ∙ ap state_kept it.told in
      subst (λ (b : Ballot). IsValueSo (marks_before old exchange) (reverse new.marks) key (state_kept (told_at at exchange.told)) b) it.same
      (record { is = kept ∙ so.state; goes_on = so.goes_on; begins = so.begins })

  empty_so : (ballot : Ballot) (at : Option ℕ) → is_agreed era exchange.told ballot ≡ true → at ≡ place_of era.number ballot exchange.told
      → ((floor : Ballot) → HasFloor key floor (reverse old.marks) → HasFloor key floor (marks_before old exchange)) → ballot ≡ zero_ballot
      → IsEmptySo (marks_before old exchange) key (state_kept (told_at at exchange.told))
  empty_so ballot at agrees at_is floors zero =
      let nothing = reads_of_nothing_are_so m old new exchange key era is gathered
      (agree_at exchange.told rises era zero_ballot (subst (λ (b : Ballot). is_agreed era exchange.told b ≡ true) zero agrees)) in
      record {
        is = ap (λ (o : Option ℕ). state_kept (told_at o exchange.told)) (at_is ∙ if_true (is_ballot ballot zero_ballot) None _ (ballot_is zero));
        was = nothing.1.at_first (λ floor has. floors floor (subst (λ (l : List Mark). HasFloor key floor (reverse l)) nothing.0 has));
      }

  gathered_so : (agreement : Agreement) → IsAgreementOf era exchange.told agreement → ((floor : Ballot) → HasFloor key floor (reverse old.marks) → HasFloor key floor (marks_before old exchange))
      → IsReadAnswerSo (marks_before old exchange) (reverse new.marks) (read_of key agreement exchange.told)
  gathered_so (agreed.Value ballot at) agrees floors = ((λ above. value_so ballot at agrees.0 agrees.1 above), (λ zero. empty_so ballot at agrees.0 agrees.1 floors zero))
  gathered_so (agreed.Short got need) agrees floors = tt
  gathered_so (agreed.NotAgreed least most) agrees floors = tt
  gathered_so (agreed.OldEra ballot number) agrees floors = tt

-- ---- the call tells what was gathered
not_finished : (what : Asked) (number rescanned : ℕ) (key : List ℕ) (found : Probes) → finished what number rescanned (op.Probed key found) → ⊥
not_finished (asked.Join id) number rescanned key found is = absurd (cc is)
not_finished (asked.Leave id) number rescanned key found is = absurd (cc is)
not_finished (asked.Resize need_prep need_acc) number rescanned key found is = absurd (cc is)
not_finished (asked.Probe other) number rescanned key found is = is
not_finished (asked.Read other) number rescanned key found is = is
not_finished (asked.Collect other) number rescanned key found is = is

-- what members told was told last, and leaves no mark
record TellsProbes {S V : Type 0} (old : View S V) (key : List ℕ) (found : Probes) (new : View S V) : Type 0 where
  told : WasToldOrder old (op.Probed key found)
  marks : new.marks ≡ old.marks

tells_probes : {S V : Type 0} (old new : View S V) (key : List ℕ) (found : Probes) → StepTell old (op.Probed key found) new → TellsProbes old key found new
tells_probes {S} {V} old new key found (council.tells order said is_open was_told same is) = record {
  told = record { order = order; is_open = is_open; said = said; was_said = was_told; same = same };
  marks = ap (λ (w : View S V). w.marks) is ∙ append-nil old.marks;
}
tells_probes old new key found (council.finishes order is_open by is) = absurd (not_finished order.asked by.plan.progress.era.number by.plan.rescanned key found by.tells)
tells_probes old new key found (council.collects order is_open by is) = absurd (cc by.tells)

-- a read was gathered that found this
record FoundIt {S V : Type 0} (old : View S V) (exchange : ExchangeView) (era : Era) (key : List ℕ) (found : Probes) (new : View S V) : Type 0 where
  gathered : IsReadGathered old exchange key era new
  found_is : found.probes.items ≡ exchange.told

was_said : {S V : Type 0} (view : View S V) (order : Option OrderView) (said answer : OpAnswer) → view.council.order ≡ option_map (told_so said) order → WasToldOrder view answer
    → SaysTheSame said answer
was_said view None said answer is was = absurd (cc (sym was.is_open ∙ is))
was_said view (Some order) said answer is was =
    let said_is : said ≡ was.said = some_is (ap (λ (o : OrderView). o.told) (some_is (sym is ∙ was.is_open)) ∙ was.was_said) in
    subst (λ (a : OpAnswer). SaysTheSame a answer) (sym said_is) was.same

was_silent : {S V : Type 0} (view : View S V) (order : Option OrderView) (answer : OpAnswer) → view.council.order ≡ option_map silent_order order → WasToldOrder view answer → ⊥
was_silent view None answer is was = absurd (cc (sym was.is_open ∙ is))
was_silent view (Some order) answer is was = absurd (cc (ap (λ (o : OrderView). o.told) (some_is (sym is ∙ was.is_open)) ∙ was.was_said))

found_it : {S V : Type 0} (old new : View S V) (exchange : ExchangeView) (era : Era) (key : List ℕ) (found : Probes) → old.council.exchange ≡ Some exchange → exchange.reads ≡ Some era
    → StepGather old new → WasToldOrder new (op.Probed key found) → FoundIt old exchange era key found new
found_it {S} {V} old new exchange era key found is_open reads by was = by_case by.gathers
  where
    its : ExchangeView
    its = by.at.exchange

    same : its ≡ exchange
    same = some_is (sym by.at.is_open ∙ is_open)

    stopped : (why : Answer) → SaysTheSame (op.Stopped why) (op.Probed key found) → ⊥
    stopped why told = absurd (cc told)

    by_case : Gathers old its new → FoundIt old exchange era key found new
    by_case (council.crashed crashed view) = absurd (stopped _ (was_said new old.council.order _ (op.Probed key found) (ap (λ (w : View S V). w.council.order) view) was))
    by_case (council.probed k kept up question plain keeps view) = absurd (cc (sym plain ∙ ap (λ (e : ExchangeView). e.reads) same ∙ reads))
    by_case (council.read k e kept marks up question reads_in keeps counts view) =
        let told : SaysTheSame (op.Probed k kept) (op.Probed key found) = was_said new old.council.order (op.Probed k kept) (op.Probed key found) (ap (λ (w : View S V). w.council.order) view) was in
        record {
          gathered = record {
            is_open = is_open;
            asks = ap (λ (x : ExchangeView). x.question) (sym same) ∙ question ∙ ap (λ (l : List ℕ). Probe l) told.0;
            reads = reads;
            up = ap (λ (x : ExchangeView). x.crashed) (sym same) ∙ up;
            step = by;
            over = ap (λ (w : View S V). w.council.exchange) view;
          };
          found_is = sym told.1 ∙ keeps ∙ ap (λ (x : ExchangeView). x.told) same;
        }
    by_case (council.lists of listing up enough on view) = absurd (was_silent new old.council.order (op.Probed key found) (ap (λ (w : View S V). w.council.order) view) was)
    by_case (council.is_short of short up missing view) = absurd (stopped _ (was_said new old.council.order _ (op.Probed key found) (ap (λ (w : View S V). w.council.order) view) was))
    by_case (council.no_memory up view) = absurd (stopped _ (was_said new old.council.order _ (op.Probed key found) (ap (λ (w : View S V). w.council.order) view) was))

-- ---- the whole
module _ {S V : Type 0} (m : Meaning S V) (shelves : m.shelves.tells) (disks : m.disks.tells) {by next : NetworkView} {again : Bool} (key : List ℕ) (old ordered asked_all turned done new : View S V) (found : Probes) (is : IsRemembered m old) (orders : StepOrder old (asked.Read key) ordered) (asks : StepAskAll m ordered (Probe key) asked_all) (turned_by : AskTurned m by asked_all next again turned) (gathers : StepGather turned done) (tells : TellsProbes done key found new) where
  abbrev its : ExchangeView
  its = gathers.at.exchange

  opened : WasOpen asked_all its
  opened = turns_name m asked_all turned its turned_by gathers.at.is_open

  as_asked : (opened.was.reads ≡ council.read_era ordered (Probe key)) × (opened.was.since ≡ length ordered.marks) × (asked_all.marks ≡ ordered.marks)
  as_asked = asked_reads m ordered asked_all (Probe key) opened.was asks opened.is_open

  stays : (its.reads ≡ opened.was.reads) × (its.since ≡ opened.was.since)
  stays = turns_read m asked_all opened.was turned its turned_by opened.is_open gathers.at.is_open

  reads : its.reads ≡ Some (era_at old 0)
  reads = stays.0 ∙ as_asked.0 ∙ ap (λ (w : View S V). council.read_era w (Probe key)) orders.view

  since : its.since ≡ length old.marks
  since = stays.1 ∙ as_asked.1 ∙ ap (λ (w : View S V). length w.marks) orders.view

  adds : AddsNoFloor asked_all turned
  adds = turns_add m asked_all turned turned_by

  marks : turned.marks ≡ old.marks ++ adds.more
  marks = adds.marks ∙ ap (λ (l : List Mark). l ++ adds.more) (as_asked.2 ∙ ap (λ (w : View S V). w.marks) orders.view)

  before_is : take its.since turned.marks ≡ old.marks
  before_is = ap (λ (n : ℕ). take n turned.marks) since ∙ ap (λ (l : List Mark). take (length old.marks) l) marks ∙ take-append_seam old.marks adds.more

  floors : (floor : Ballot) → HasFloor key floor (reverse turned.marks) → HasFloor key floor (marks_before turned its)
  floors floor has =
      subst (λ (l : List Mark). HasFloor key floor (reverse l)) (sym before_is)
      (floor_before key floor old.marks adds.more adds.none (subst (λ (l : List Mark). HasFloor key floor (reverse l)) marks has))

  rises : Rises (names_of its.told)
  rises = subst Rises (sym opened.named) (asked_rise m ordered asked_all key opened.was asks opened.is_open)

  remembered : IsRemembered m turned
  remembered =
      turns_remember m shelves disks asked_all turned turned_by
      (steps m shelves disks ordered (step.AskAll (Probe key)) asked_all (steps m shelves disks old (step.Order (asked.Read key)) ordered is orders) asks)

  it : FoundIt turned its (era_at old 0) key found done
  it = found_it turned done its (era_at old 0) key found gathers.at.is_open reads gathers tells.told

  whole_so : (agreement : Agreement) → IsAgreementOf (era_at old 0) found.probes.items agreement → IsReadAnswerSo (reverse old.marks) (reverse new.marks) (read_of key agreement found.probes.items)
  whole_so agreement agrees =
      subst (λ (l : List Mark). IsReadAnswerSo (reverse l) (reverse new.marks) (read_of key agreement found.probes.items)) before_is
      (subst (λ (l : List Mark). IsReadAnswerSo (marks_before turned its) (reverse l) (read_of key agreement found.probes.items)) (sym tells.marks)
      (subst (λ (l : List Answered). IsReadAnswerSo (marks_before turned its) (reverse done.marks) (read_of key agreement l)) (sym it.found_is)
      (gathered_so m turned done its key (era_at old 0) remembered it.gathered rises agreement (subst (λ (l : List Answered). IsAgreementOf (era_at old 0) l agreement) it.found_is agrees) floors)))

-- a call that tells what members told gathered it
asked_so : {S V : Type 0} (m : Meaning S V) (shelves : m.shelves.tells) (disks : m.disks.tells) {by next : NetworkView} (key : List ℕ) (old ordered done new : View S V) (found : Probes)
    (agreement : Agreement) → IsRemembered m old → StepOrder old (asked.Read key) ordered
    → AsksMembers m by (step.AskAll (Probe key)) step.Gather ordered next done → TellsProbes done key found new → IsAgreementOf (era_at old 0) found.probes.items agreement
    → IsReadAnswerSo (reverse old.marks) (reverse new.marks) (read_of key agreement found.probes.items)
asked_so m shelves disks key old ordered done new found agreement is orders (turns.not_asked by none) tells agrees =
    absurd (asking_stops m ordered done (Probe key) (op.Probed key found) by none tells.told)
asked_so {S} {V} m shelves disks key old ordered done new found agreement is orders (turns.no_memory by fails) tells agrees =
    absurd (cc (was_said done fails.fails.middle.council.order _ (op.Probed key found) (ap (λ (w : View S V). w.council.order) fails.fails.view) tells.told))
asked_so m shelves disks key old ordered done new found agreement is orders (turns.gathered {asked = asked_all} {turned = turned} by turned_by gathers) tells agrees =
    whole_so m shelves disks key old ordered asked_all turned done new found is orders by turned_by.turned gathers tells agreement agrees

inquiry_so : {S V : Type 0} (m : Meaning S V) (shelves : m.shelves.tells) (disks : m.disks.tells) {by next : NetworkView} (key : List ℕ) (old new : View S V) (found : Probes) (agreement : Agreement)
    → IsRemembered m old → IsInquiry m by (asked.Read key) key old (op.Probed key found) next new
    → IsAgreementOf (era_at old 0) found.probes.items agreement → IsReadAnswerSo (reverse old.marks) (reverse new.marks) (read_of key agreement found.probes.items)
inquiry_so m shelves disks key old new found agreement is (inquiries.told {ordered = ordered} {asked_all = done} orders asks tells) agrees =
    asked_so m shelves disks key old ordered done new found agreement is orders asks (tells_probes done new key found tells) agrees

-- what a read of a remembered cluster answers is so
pub read_so : {S V : Type 0} (m : Meaning S V) {by next : NetworkView} (key : List ℕ) (old new : View S V) (said : OpAnswer) (answer : ReadAnswer)
    → IsInquiry m by (asked.Read key) key old said next new → AnswersRead (era_at old 0) key said answer
    → m.shelves.tells → m.disks.tells → IsRemembered m old → IsReadAnswerSo (reverse old.marks) (reverse new.marks) answer
read_so m key old new said answer inquiry (answered.stopped why) shelves disks is = tt
read_so m key old new said answer inquiry (answered.agrees found agreement agrees) shelves disks is = inquiry_so m shelves disks key old new found agreement is inquiry agrees
