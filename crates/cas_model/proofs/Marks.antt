-- Which marks a step makes.
use Rattle.std.proofs.Common.{◌≡◌, ℕ, Bool, true, false, Option, None, Some, suc, if◌then◌else◌, List, [], ◌∷◌, ◌++◌, inl, inr, refl, sym, ap, subst, ◌∙◌, append-nil, append_assoc}
use Rattle.std.specs.Prelude.{⊤, ◌⊎◌, not, IfSome, option_map, unwrap_or, map, reverse}
use Rattle.cas_ballot.specs.Members.{has_member}
use Rattle.cas_flow.specs.declared.message.Message.{Message}
use Rattle.cas_proposer.specs.Desk.{DeskView}
use Rattle.cas_proposer.specs.declared.round.Round.{Round}
use Rattle.cas_protocol.specs.Protocol.{is_done}
use Rattle.cas_quorum.specs.declared.era.Era.{Era}
use Rattle.cas_quorum.specs.Era.{holds_prep, holds_acc}
use Rattle.cas_quorum.specs.Quorum.{count_in}
use Rattle.cas_fate.specs.declared.fate.Verdict.{Verdict}
use Rattle.cas_record.specs.Logs.Happening.{marks_of}
use Rattle.cas_record.specs.declared.answer.Answer.{Answer}
use Rattle.cas_record.specs.declared.mark.Mark.{Mark}
use Rattle.cas_record.specs.declared.mark.Mark.TheVariants.{Begun, Proposed, Acked, Floor, EraEntered, Ended, Harmed, Told, Voted}
use Rattle.cas_record.specs.declared.operator.Asked.{Asked}
use Rattle.cas_record.specs.declared.operator.OpAnswer.{OpAnswer}
use Rattle.cas_record.specs.declared.operator.OpAnswer.TheVariants as op
use Rattle.cas_record.specs.declared.answer.Answer.TheVariants as answers
use Rattle.cas_change.specs.declared.program.Clause.{Clause}
use Rattle.cas_slot.specs.declared.message.Ask.{Ask}
use Rattle.cas_slot.specs.declared.message.Ask.TheVariants as ask
use Rattle.cas_slot.specs.declared.message.Tell.{Tell}
use Rattle.cas_slot.specs.declared.message.Tell.TheVariants as tell
use Rattle.cas_protocol.specs.Acceptors.{votes_of}
use Rattle.cas_model.specs.Council.{Council, ExchangeView, OrderView, PlanView, silent_order, told_so as so}
use Rattle.cas_model.specs.Step as step
use Rattle.cas_model.specs.Step.{Event, Step, StepBegin, StepEnd, StepCrashAcceptor, StepRestartAcceptor, StepRestartProposer}
use Rattle.cas_model.specs.Calls.Step as calls
use Rattle.cas_model.specs.Collection.Step as collect
use Rattle.cas_model.specs.Collection.Step.{CollectingAt, keep_always}
use Rattle.cas_model.specs.Exchanges.Step as council
use Rattle.cas_model.specs.Exchanges.Step.{StepTell, harm_marks}
use Rattle.cas_model.specs.Frames.Step as frames
use Rattle.cas_model.specs.Frames.Step.{harms_marked}
use Rattle.cas_model.specs.Eras.Step as plans
use Rattle.cas_model.specs.Stops.Step as stops
use Rattle.cas_model.specs.Stops.Step.{LeavesRound, GoesDown}
use Rattle.cas_model.specs.View.{Meaning, View, CallView, CallerView, era_at}
use Rattle.cas_model.specs.Eras.Listings.{counted, missing, greatest_age}
use Rattle.cas_model.proofs.Places.{some_is}
use Rattle.cas_model.specs.Exchanges.Tellings.{StopsUndone, IsPassing, WasToldSo}
use Rattle.cas_ballot.specs.declared.ballot.Ballot.{Ballot}
use Rattle.cas_record.specs.declared.operator.Probe.{Probe as Answered}
use Rattle.cas_model.specs.Exchanges.Read as agreed
use Rattle.cas_model.specs.Exchanges.Read.{holders_of, MarksRead}

-- ---- marks
-- it says nothing that the operator was told
abbrev pub IsPlain : Mark → Type 0
IsPlain (Told asked answer) = ⊥
IsPlain other = ⊤

abbrev pub ArePlain : List Mark → Type 0
ArePlain [] = ⊤
ArePlain (mark ∷ later) = IsPlain mark × ArePlain later

plain_both : (marks more : List Mark) → ArePlain marks → ArePlain more → ArePlain (marks ++ more)
plain_both [] more none plain = plain
plain_both (mark ∷ marks) more these plain = (these.0, plain_both marks more these.1 plain)

-- a step makes such marks and no others, and tells the open call of no end
pub record AddsMarks {S V : Type 0} (Says : OpAnswer → Type 0) (old new : View S V) : Type 0 where
  pub last_proposer : new.last_proposer ≡ old.last_proposer
  pub more : List Mark
  pub marks : new.marks ≡ old.marks ++ more
  pub plain : ArePlain more
  pub passing : WasToldSo Says old.council.order → WasToldSo Says new.council.order

module _ {S V : Type 0} {Says : OpAnswer → Type 0} where
  -- it is as another view, whose marks are those of the old one and these
  still : (old new middle : View S V) (more : List Mark) → new ≡ middle → ArePlain more → middle.last_proposer ≡ old.last_proposer → middle.marks ≡ old.marks ++ more
      → (WasToldSo Says old.council.order → WasToldSo Says middle.council.order) → AddsMarks Says old new
  still old new middle more is plain last_proposer marks passing = record {
    last_proposer = ap (λ (v : View S V). v.last_proposer) is ∙ last_proposer;
    more = more;
    marks = ap (λ (v : View S V). v.marks) is ∙ marks;
    plain = plain;
    passing = λ was. subst (λ (v : View S V). WasToldSo Says v.council.order) (sym is) (passing was);
  }

  then_ : (a b c : View S V) → AddsMarks Says a b → AddsMarks Says b c → AddsMarks Says a c
  then_ a b c first next = record {
    last_proposer = next.last_proposer ∙ first.last_proposer;
    more = first.more ++ next.more;
    marks = next.marks ∙ ap (λ (l : List Mark). l ++ next.more) first.marks ∙ append_assoc a.marks first.more next.more;
    plain = plain_both first.more next.more first.plain next.plain;
    passing = λ was. next.passing (first.passing was);
  }

  same : (old new middle : View S V) → new ≡ middle → middle.last_proposer ≡ old.last_proposer → middle.marks ≡ old.marks → (WasToldSo Says old.council.order → WasToldSo Says middle.council.order)
      → AddsMarks Says old new
  same old new middle is last_proposer marks passing = still old new middle [] is tt last_proposer (marks ∙ sym (append-nil old.marks)) passing

  -- what is as another view but for what has no marks
  after : (old middle new shown : View S V) → AddsMarks Says old middle → new ≡ shown → shown.last_proposer ≡ middle.last_proposer → shown.marks ≡ middle.marks
      → (WasToldSo Says middle.council.order → WasToldSo Says shown.council.order) → AddsMarks Says old new
  after old middle new shown adds is last_proposer marks passing = then_ old middle new adds (same middle new shown is last_proposer marks passing)

-- ---- why a listing cannot go on
-- it is no change that is done
short_undone : (era : Era) (by : List ℕ) (short : Answer) (least : Option ℕ) → missing era by ≡ Some short → StopsUndone (op.Stopped (unwrap_or (option_map (λ age. answers.Aged age) least) short))
short_undone era by short (Some age) lacks = tt
short_undone era by short None lacks = by_tests (holds_prep era by) (holds_acc era by) lacks
  where
    by_tests : (a b : Bool)
        → (if not a then Some (answers.Short (count_in era.prep by) era.need_prep) else if not b then Some (answers.Short (count_in era.acc by) era.need_acc) else None) ≡ Some short
        → StopsUndone (op.Stopped short)
    by_tests true true is = absurd (cc is)
    by_tests true false is = subst (λ (a : Answer). StopsUndone (op.Stopped a)) (some_is is) tt
    by_tests false b is = subst (λ (a : Answer). StopsUndone (op.Stopped a)) (some_is is) tt

-- ---- what the open call is told
module _ (Says : OpAnswer → Type 0) (passes : (answer : OpAnswer) → IsPassing answer → StopsUndone answer → Says answer) where
  told_so : (order : Option OrderView) (answer : OpAnswer) → IsPassing answer → StopsUndone answer → WasToldSo Says (option_map (so answer) order)
  told_so None answer passing undone = tt
  told_so (Some order) answer passing undone = passes answer passing undone

  hushed_so : (order : Option OrderView) → WasToldSo Says (option_map silent_order order)
  hushed_so None = tt
  hushed_so (Some order) = tt

  -- an answer that tells of no change that is done
  undone_so : (answer : Answer) → is_done answer ≡ false → StopsUndone (op.Stopped answer)
  undone_so (answers.Done state took ballot) undone = absurd (cc undone)
  undone_so (answers.Conflict met) undone = tt
  undone_so (answers.Aged least) undone = tt
  undone_so (answers.Full acceptor) undone = tt
  undone_so (answers.Short got need) undone = tt
  undone_so (answers.Moved era) undone = tt
  undone_so answers.Crashed undone = tt
  undone_so (answers.Unsettled why) undone = tt
  undone_so answers.Down undone = tt
  undone_so answers.VaultFault undone = tt
  undone_so answers.Spent undone = tt
  undone_so answers.RecordFull undone = tt
  undone_so (answers.NoMemory proposed) undone = tt

  rescanned_so : (old new : Council) (id : ℕ) (key : List ℕ) (answer : Answer) → calls.Rescans old id key answer new → WasToldSo Says old.order → WasToldSo Says new.order
  rescanned_so old new id key answer (calls.rescans of done is) was = subst (λ (c : Council). WasToldSo Says c.order) (sym is) was
  rescanned_so old new id key answer (calls.stops of undone is) was = subst (λ (c : Council). WasToldSo Says c.order) (sym is) (told_so old.order (op.Stopped answer) tt (undone_so answer undone))
  rescanned_so old new id key answer (calls.is_none none is) was = subst (λ (c : Council). WasToldSo Says c.order) (sym is) was

  -- the answer to a round of a collection, if it stopped it
  stopped_so : (answer : Answer) → IfSome (collect.stopped_by answer) Says
  stopped_so (answers.Done state took ballot) = tt
  stopped_so (answers.Conflict met) = passes _ tt tt
  stopped_so (answers.Aged least) = passes _ tt tt
  stopped_so (answers.Full acceptor) = passes _ tt tt
  stopped_so (answers.Short got need) = passes _ tt tt
  stopped_so (answers.Moved era) = passes _ tt tt
  stopped_so answers.Crashed = passes _ tt tt
  stopped_so (answers.Unsettled why) = passes _ tt tt
  stopped_so answers.Down = passes _ tt tt
  stopped_so answers.VaultFault = passes _ tt tt
  stopped_so answers.Spent = passes _ tt tt
  stopped_so answers.RecordFull = passes _ tt tt
  stopped_so (answers.NoMemory proposed) = passes _ tt tt

-- ---- votes and harms
plain_votes : (id : ℕ) (question : Ask) (answer : Tell) → ArePlain (marks_of (votes_of id question answer))
plain_votes id (ask.Accept key ballot era ride state) tell.Accepted = (tt, tt)
plain_votes id (ask.Accept key ballot era ride state) (tell.Promised accepted) = tt
plain_votes id (ask.Accept key ballot era ride state) (tell.Met seen) = tt
plain_votes id (ask.Accept key ballot era ride state) (tell.Aged least) = tt
plain_votes id (ask.Accept key ballot era ride state) tell.Full = tt
plain_votes id (ask.Accept key ballot era ride state) tell.AgesSet = tt
plain_votes id (ask.Accept key ballot era ride state) tell.Removed = tt
plain_votes id (ask.Accept key ballot era ride state) tell.Kept = tt
plain_votes id (ask.Accept key ballot era ride state) (tell.Listed past keys more) = tt
plain_votes id (ask.Accept key ballot era ride state) (tell.Probed promise accepted) = tt
plain_votes id (ask.Prepare key ballot) answer = tt
plain_votes id (ask.Ages tag least) answer = tt
plain_votes id (ask.Remove key tomb) answer = tt
plain_votes id (ask.List tag after) answer = tt
plain_votes id (ask.Probe tag key) answer = tt

plain_if : (known : Bool) (mark : Mark) → IsPlain mark → ArePlain (if known then [] else mark ∷ [])
plain_if true mark plain = tt
plain_if false mark plain = (plain, tt)

plain_harms : (id number acceptor : ℕ) (call : CallView) (down : Bool) → ArePlain (harms_marked id number call acceptor down)
plain_harms id number acceptor call down = plain_if (has_member call.harmed acceptor) (Harmed id number down) tt

plain_asked : (member : ℕ) (exchange : ExchangeView) (down : Bool) → ArePlain (harm_marks exchange member down)
plain_asked member exchange down = plain_if (has_member exchange.harmed member) (Harmed 0 0 down) tt

plain_holders : (key : List ℕ) (ballot : Ballot) (by : List ℕ) (more : List Mark) → ArePlain more → ArePlain (map (λ acceptor. Voted acceptor key ballot) by ++ more)
plain_holders key ballot [] more plain = plain
plain_holders key ballot (one ∷ by) more plain = (tt, plain_holders key ballot by more plain)

plain_read : (era : Era) (key : List ℕ) (found : List Answered) (older marks : List Mark) → MarksRead era key found older marks → ArePlain marks
plain_read era key found older marks (agreed.counted accepted agree above is) = subst ArePlain (sym is) (plain_holders key accepted.ballot (holders_of accepted.ballot found) _ (tt, tt))
plain_read era key found older marks (agreed.nothing none is) = subst ArePlain (sym is) tt

-- ---- steps
module _ {S V : Type 0} (Says : OpAnswer → Type 0) (passes : (answer : OpAnswer) → IsPassing answer → StopsUndone answer → Says answer) (m : Meaning S V) (old new : View S V) where
  opens : (middle : View S V) (id : ℕ) (key : List ℕ) (program : List Clause) → calls.Opens old id key program middle → AddsMarks Says old middle
  opens middle id key program (calls.first caller at none_open room is) =
      still old middle _ (Begun id (suc caller.number) key program ∷ []) is (tt, tt) refl refl (λ u. u)
  opens middle id key program (calls.again caller call reserved at is_open same_key same_program unproposed met idle room for_round is) = same old middle _ is refl refl (λ u. u)

  begins_round : (middle : View S V) (id : ℕ) (caller : CallerView) (call : CallView) (after_it : View S V) → calls.BeginsRound m middle id caller call after_it → AddsMarks Says middle after_it
  begins_round middle id caller call after_it (calls.prepares desk now ballot round flow at up few begins sends is) = same middle after_it _ is refl refl (λ u. u)
  begins_round middle id caller call after_it (calls.proposes desk now ready ride round outcome flow at up few begins made sends is) =
      still middle after_it _ (Proposed (calls.proposal_of id caller.number round ready.read ready.by) ∷ []) is (tt, tt) refl refl (λ u. u)
  begins_round middle id caller call after_it (calls.stays told no_beginning no_round full is) = same middle after_it _ is refl refl (λ u. u)
  begins_round middle id caller call after_it (calls.spent desk now at none_open up no_promise spent kept now_is is) = same middle after_it _ is refl refl (λ u. u)
  begins_round middle id caller call after_it (calls.fails desk now at none_open up fails is) = same middle after_it _ is refl refl (λ u. u)
  begins_round middle id caller call after_it (calls.loses desk now ballot at none_open up loses is) = same middle after_it _ is refl refl (λ u. u)

  begins : (id : ℕ) (key : List ℕ) (program : List Clause) (begun : View S V) → StepBegin m old id key program begun → AddsMarks Says old begun
  begins id key program begun by = then_ old by.middle begun (opens by.middle id key program by.opens) (begins_round by.middle id by.caller by.call begun by.begins)

  refuses : (id : ℕ) (key : List ℕ) (left : View S V) → calls.RefusesCall m old id key left → AddsMarks Says old left
  refuses id key left (calls.stays told council_then refusal follows is) = same old left _ is refl refl (rescanned_so Says passes old.council council_then id key told follows)
  refuses id key left (calls.loses caller desk now ballot council_then at at_desk none_open up loses follows is) =
      same old left _ is refl refl (rescanned_so Says passes old.council council_then id key (answers.NoMemory false) follows)

  finds : (left : View S V) → frames.FindsNoRoom m old left → AddsMarks Says old left
  finds left (frames.stays is) = same old left _ is refl refl (λ u. u)
  finds left (frames.kept id acceptor now at finds_none is) = same old left _ is refl refl (λ u. u)

  turns : (id : ℕ) (verdict : Verdict) (front : Message) (caller : CallerView) (call : CallView) → frames.TakesTurn m old id verdict front caller call new → AddsMarks Says old new
  turns id verdict front caller call (frames.held falls is) = same old new _ is refl refl (λ u. u)
  turns id verdict front caller call (frames.gone falls is) = still old new _ _ is (plain_harms id caller.number _ call false) refl refl (λ u. u)
  turns id verdict front caller call (frames.answers request acceptor now reply falls front_is at by is) = still old new _ _ is (plain_votes request.to request.ask reply.tell) refl refl (λ u. u)
  turns id verdict front caller call (frames.finds_down request acceptor falls front_is at down is) = still old new _ _ is (plain_harms id caller.number _ call true) refl refl (λ u. u)
  turns id verdict front caller call (frames.brings_down request acceptor now falls front_is at stops_it is) = still old new _ _ is (plain_harms id caller.number _ call true) refl refl (λ u. u)
  turns id verdict front caller call (frames.arrives reply desk now round heard falls front_is at open_ hears is) = same old new _ is refl refl (λ u. u)

  proposes : (id : ℕ) (desk : DeskView V) (round : Round) (caller : CallerView) (call : CallView) → calls.ProposesOrEnds m old id desk round caller call new → AddsMarks Says old new
  proposes id desk round caller call (calls.proposes now turned read by ride outcome flow quorum confirmers reads turns_ made sends is) =
      still old new _ (Proposed _ ∷ []) is (tt, tt) refl refl (λ u. u)
  proposes id desk round caller call (calls.ends now verdict answer is_verdict refused ends_ is) = same old new _ is refl refl (λ u. u)
  proposes id desk round caller call (calls.fails now fails is) = same old new _ is refl refl (λ u. u)
  proposes id desk round caller call (calls.loses now ballot loses is) = same old new _ is refl refl (λ u. u)

  counts : (counted : View S V) (id : ℕ) (desk : DeskView V) (round : Round) (caller : CallerView) (call : CallView) → calls.CountsOrEnds m old id desk round caller call counted
      → AddsMarks Says old counted
  counts counted id desk round caller call (calls.counts now by outcome quorum confirmers proposed ends_ is) = still old counted _ (Acked _ ∷ []) is (tt, tt) refl refl (λ u. u)
  counts counted id desk round caller call (calls.ends now verdict why is_verdict caused ends_ is) = same old counted _ is refl refl (λ u. u)

  ends : (ended : View S V) (id : ℕ) (answer : Answer) → StepEnd m old id answer ended → AddsMarks Says old ended
  ends ended id answer by =
      still old ended _ (Ended id _ _ answer ∷ []) by.ends.view (tt, tt) refl refl (rescanned_so Says passes old.council by.ends.council id by.of_call.call.key answer by.ends.rescans)

  strays : (index : ℕ) (late : Message) → frames.Strays m old index late new → AddsMarks Says old new
  strays index late (frames.answers request acceptor now reply late_is at by is) = still old new _ _ is (plain_votes request.to request.ask reply.tell) refl refl (λ u. u)
  strays index late (frames.brings_down request acceptor now late_is at stops_it is) = same old new _ is refl refl (λ u. u)
  strays index late (frames.arrives reply desk now round heard late_is at open_ hears is) = same old new _ is refl refl (λ u. u)
  strays index late (frames.drops ignored is) = same old new _ is refl refl (λ u. u)

  pub leaves : {DeskTurns : DeskView V → DeskView V → Type 0} {closed : CallView → CallView} (id : ℕ) (left : View S V) → LeavesRound DeskTurns closed old id left → AddsMarks Says old left
  leaves id left (stops.idle desk now at none_open turns_ is) = same old left _ is refl refl (λ u. u)
  leaves id left (stops.closes desk now round of_call at open_ turns_ is) = same old left _ is refl refl (λ u. u)

  goes_down : {DeskTurns : DeskView V → DeskView V → Type 0} (id : ℕ) (left : View S V) → GoesDown DeskTurns old id left → AddsMarks Says old left
  goes_down id left (stops.of_client other by) = leaves id left by
  goes_down id left (stops.of_operator middle first_ by is) = after old middle left _ (leaves id middle by) is refl refl (λ u. u)

  crashes : (id : ℕ) → StepCrashAcceptor m old id new → AddsMarks Says old new
  crashes id (step.crashes acceptor now at by is) = same old new _ is refl refl (λ u. u)

  restarts : (id : ℕ) → StepRestartAcceptor m old id new → AddsMarks Says old new
  restarts id (step.was_up acceptor at up is) = same old new _ is refl refl (λ u. u)
  restarts id (step.starts acceptor now at by is) = same old new _ is refl refl (λ u. u)
  restarts id (step.fails acceptor now at by is) = same old new _ is refl refl (λ u. u)

  restarts_desk : (id : ℕ) → StepRestartProposer m old id new → AddsMarks Says old new
  restarts_desk id (step.was_up_already desk at up is) = same old new _ is refl refl (λ u. u)
  restarts_desk id (step.restarts desk now caller at at_caller down by is) = same old new _ is refl refl (λ u. u)

  asks : (question : _) (desk : DeskView V) → council.AsksAll m old question desk new → AddsMarks Says old new
  asks question desk (council.asks now tag flow up room tags now_is sends is) = same old new _ is refl refl (λ u. u)
  asks question desk (council.is_down down is) = same old new _ is refl refl (λ u. told_so Says passes old.council.order _ tt tt)
  asks question desk (council.is_full up full is) = same old new _ is refl refl (λ u. told_so Says passes old.council.order _ tt tt)
  asks question desk (council.is_spent now up spent kept now_is is) = same old new _ is refl refl (λ u. told_so Says passes old.council.order _ tt tt)
  asks question desk (council.fails now up fails is) = same old new _ is refl refl (λ u. told_so Says passes old.council.order _ tt tt)
  asks question desk (council.no_memory now tag up loses is) = same old new _ is refl refl (λ u. told_so Says passes old.council.order _ tt tt)

  turns_exchange : (verdict : Verdict) (front : Message) (exchange : ExchangeView) → council.TurnsExchange m old verdict front exchange new → AddsMarks Says old new
  turns_exchange verdict front exchange (council.held falls is) = same old new _ is refl refl (λ u. u)
  turns_exchange verdict front exchange (council.gone falls is) = still old new _ _ is (plain_asked _ exchange false) refl refl (λ u. u)
  turns_exchange verdict front exchange (council.answers request acceptor now reply falls front_is at by is) = still old new _ _ is (plain_votes request.to request.ask reply.tell) refl refl (λ u. u)
  turns_exchange verdict front exchange (council.finds_down request acceptor falls front_is at down is) = still old new _ _ is (plain_asked _ exchange true) refl refl (λ u. u)
  turns_exchange verdict front exchange (council.brings_down request acceptor now falls front_is at stops_it is) = still old new _ _ is (plain_asked _ exchange true) refl refl (λ u. u)
  turns_exchange verdict front exchange (council.arrives reply falls front_is to_it is) = same old new _ is refl refl (λ u. u)

  gathers : (exchange : ExchangeView) → council.Gathers old exchange new → AddsMarks Says old new
  gathers exchange (council.crashed crashed is) = same old new _ is refl refl (λ u. told_so Says passes old.council.order _ tt tt)
  gathers exchange (council.probed key found running question plain items is) = same old new _ is refl refl (λ u. told_so Says passes old.council.order _ tt tt)
  gathers exchange (council.read key era found marks running question reads items counts is) =
      still old new _ marks is (plain_read era key exchange.told (reverse old.marks) marks counts) refl refl (λ u. told_so Says passes old.council.order _ tt tt)
  gathers exchange (council.lists of listing running enough on is) = same old new _ is refl refl (λ u. hushed_so Says passes old.council.order)
  gathers exchange (council.is_short of short running lacks is) =
      same old new _ is refl refl (λ u. told_so Says passes old.council.order _ tt (short_undone (era_at old 0) (counted exchange.told of.listing.places) short (greatest_age exchange.told) lacks))
  gathers exchange (council.no_memory running is) = same old new _ is refl refl (λ u. told_so Says passes old.council.order _ tt tt)

  welcomes : (asked : Asked) (middle : View S V) → plans.Welcomes m old asked middle → AddsMarks Says old middle
  welcomes asked middle (plans.starts id acceptor now asks_ at by is) = same old middle _ is refl refl (λ u. u)
  welcomes asked middle (plans.fails id acceptor now asks_ at by is) = same old middle _ is refl refl (λ u. u)
  welcomes asked middle (plans.is_up id acceptor asks_ at up is) = same old middle _ is refl refl (λ u. u)
  welcomes asked middle (plans.stays joins_none is) = same old middle _ is refl refl (λ u. u)

  opens_plan : (asked : Asked) (desk : DeskView V) → plans.OpensPlan m old asked desk new → AddsMarks Says old new
  opens_plan asked desk (plans.is_down down is) = same old new _ is refl refl (λ u. told_so Says passes old.council.order _ tt tt)
  opens_plan asked desk (plans.is_busy plan up planned is) = same old new _ is refl refl (λ u. told_so Says passes old.council.order _ tt tt)
  opens_plan asked desk (plans.refuses fault up unplanned planned is) = same old new _ is refl refl (λ u. told_so Says passes old.council.order _ tt tt)
  opens_plan asked desk (plans.opens progress middle up unplanned planned by is) = after old middle new _ (welcomes asked middle by) is refl refl (λ u. hushed_so Says passes middle.council.order)
  opens_plan asked desk (plans.no_memory progress middle up unplanned planned by is) =
      after old middle new _ (welcomes asked middle by) is refl refl (λ u. told_so Says passes middle.council.order _ tt tt)

  enters : (plan : PlanView) (next : Era) (desk : DeskView V) → plans.EntersNext m old plan next desk new → AddsMarks Says old new
  enters plan next desk (plans.enters middle room by is) =
      then_ old middle new (leaves plan.entered middle by) (still middle new _ (EraEntered plan.entered next.number ∷ []) is (tt, tt) refl refl (λ u. hushed_so Says passes middle.council.order))
  enters plan next desk (plans.is_full full is) = same old new _ is refl refl (λ u. told_so Says passes old.council.order _ tt tt)
  enters plan next desk (plans.is_down room down is) = same old new _ is refl refl (λ u. told_so Says passes old.council.order _ tt tt)
  enters plan next desk (plans.fails middle room by is) = after old middle new _ (goes_down plan.entered middle by) is refl refl (λ u. told_so Says passes middle.council.order _ tt tt)
  enters plan next desk (plans.no_memory now room up kept now_is is) = same old new _ is refl refl (λ u. told_so Says passes old.council.order _ tt tt)

  begins_collection : (key : List ℕ) (order : _) (desk : DeskView V) (caller : CallerView)
      → collect.BeginsCollection m (λ before then_so. StepBegin m before 0 key keep_always then_so) old key order desk caller new → AddsMarks Says old new
  begins_collection key order desk caller (collect.is_down no_call down is) = same old new _ is refl refl (λ u. told_so Says passes old.council.order _ tt tt)
  begins_collection key order desk caller (collect.is_busy plan no_call up planned is) = same old new _ is refl refl (λ u. told_so Says passes old.council.order _ tt tt)
  begins_collection key order desk caller (collect.is_full no_call up unplanned full is) = same old new _ is refl refl (λ u. told_so Says passes old.council.order _ tt tt)
  begins_collection key order desk caller (collect.no_memory middle no_call up unplanned by is) =
      after old middle new _ (refuses 0 key middle by) is refl refl (λ u. told_so Says passes middle.council.order _ tt tt)
  begins_collection key order desk caller (collect.begins middle no_call unplanned by is) = after old middle new _ (begins 0 key keep_always middle by) is refl refl (λ u. tt)
  begins_collection key order desk caller (collect.goes_on middle call of is_call by is) = after old middle new _ (begins 0 key keep_always middle by) is refl refl (λ u. tt)

  gathers_round : (at : CollectingAt old.council) → collect.GathersRound old at new → AddsMarks Says old new
  gathers_round at (collect.all ballot by acknowledged all_ is) = same old new _ is refl refl (λ u. tt)
  gathers_round at (collect.is_absent ballot by acceptor acknowledged least is) = same old new _ is refl refl (λ u. told_so Says passes old.council.order _ tt tt)
  gathers_round at (collect.is_held version found is) = same old new _ is refl refl (λ u. told_so Says passes old.council.order _ tt tt)

  renews : (at : CollectingAt old.council) (proposer : ℕ) (desk : DeskView V) → collect.RenewsNext m old at proposer desk new → AddsMarks Says old new
  renews at proposer desk (collect.renews age middle by is) = after old middle new _ (leaves proposer middle by) is refl refl (λ u. tt)
  renews at proposer desk (collect.is_down down is) = same old new _ is refl refl (λ u. told_so Says passes old.council.order _ tt tt)
  renews at proposer desk (collect.fails middle by is) = after old middle new _ (goes_down proposer middle by) is refl refl (λ u. told_so Says passes middle.council.order _ tt tt)
  renews at proposer desk (collect.is_spent up spent is) = same old new _ is refl refl (λ u. told_so Says passes old.council.order _ tt tt)
  renews at proposer desk (collect.no_memory now up finds_none is) = same old new _ is refl refl (λ u. told_so Says passes old.council.order _ tt tt)

  asks_collect : (at : CollectingAt old.council) (desk : DeskView V) → collect.AsksCollect m old at desk new → AddsMarks Says old new
  asks_collect at desk (collect.asks question flow up asks_ room aged sends is) = same old new _ is refl refl (λ u. u)
  asks_collect at desk (collect.is_down down is) = same old new _ is refl refl (λ u. told_so Says passes old.council.order _ tt tt)
  asks_collect at desk (collect.is_full question up asks_ full is) = same old new _ is refl refl (λ u. told_so Says passes old.council.order _ tt tt)
  asks_collect at desk (collect.no_memory up is) = same old new _ is refl refl (λ u. told_so Says passes old.council.order _ tt tt)

  gathers_collect : (at : CollectingAt old.council) (exchange : ExchangeView) → collect.GathersCollect old at exchange new → AddsMarks Says old new
  gathers_collect at exchange (collect.crashed crashed is) = same old new _ is refl refl (λ u. told_so Says passes old.council.order _ tt tt)
  gathers_collect at exchange (collect.all running all_ is) = same old new _ is refl refl (λ u. tt)
  gathers_collect at exchange (collect.is_absent acceptor running least is) = same old new _ is refl refl (λ u. told_so Says passes old.council.order _ tt tt)

-- every step makes plain marks alone and tells the open call of no end, but one that ends that call
pub adds_by : {S V : Type 0} (Says : OpAnswer → Type 0) (passes : (answer : OpAnswer) → IsPassing answer → StopsUndone answer → Says answer) (m : Meaning S V) (old : View S V) (event : Event) (new : View S V) → ((answer : OpAnswer) → event ≡ step.Tell answer → ⊥) → Step m old event new → AddsMarks Says old new
adds_by Says passes m old (step.Begin caller key program) new untold by = begins Says passes m old new caller key program new by
adds_by Says passes m old (step.RefuseBegin caller key) new untold by = refuses Says passes m old new caller key new by
adds_by Says passes m old (step.Turn proposer verdict) new untold by = turns Says passes m old new proposer verdict by.front by.of_call.caller by.of_call.call by.turn
adds_by Says passes m old (step.RefuseTurn proposer) new untold by = after old by.middle new _ (finds Says passes m old new by.middle by.refuses) by.view refl refl (λ u. u)
adds_by Says passes m old (step.Propose proposer) new untold by =
    proposes Says passes m old new proposer by.at_round.desk by.at_round.round by.at_round.of_call.caller by.at_round.of_call.call by.proposes
adds_by Says passes m old (step.Count proposer) new untold by =
    counts Says passes m old new new proposer by.at_round.desk by.at_round.round by.at_round.of_call.caller by.at_round.of_call.call by.counts
adds_by Says passes m old (step.End caller answer) new untold by = ends Says passes m old new new caller answer by
adds_by Says passes m old (step.Stray index) new untold by = strays Says passes m old new index by.late by.strays
adds_by Says passes m old step.RefuseStray new untold by = finds Says passes m old new new by
adds_by Says passes m old (step.CrashAcceptor id) new untold by = crashes Says passes m old new id by
adds_by Says passes m old (step.RestartAcceptor id) new untold by = restarts Says passes m old new id by
adds_by Says passes m old (step.CrashProposer proposer) new untold by = goes_down Says passes m old new proposer new by
adds_by Says passes m old (step.RestartProposer proposer) new untold by = restarts_desk Says passes m old new proposer by
adds_by Says passes m old (step.Order asked) new untold by = same old new _ by.view refl refl (λ u. tt)
adds_by Says passes m old step.RefuseOrder new untold by = same old new old by refl refl (λ u. u)
adds_by Says passes m old (step.Tell answer) new untold by = absurd (untold answer refl)
adds_by Says passes m old (step.AskAll question) new untold by = asks Says passes m old new question by.desk by.asks
adds_by Says passes m old (step.TurnExchange verdict) new untold by = turns_exchange Says passes m old new verdict by.front by.at.exchange by.turn
adds_by Says passes m old step.RefuseTurnExchange new untold by =
    after old by.middle new _ (finds Says passes m old new by.middle by.refuses) by.view refl refl (λ u. told_so Says passes by.middle.council.order _ tt tt)
adds_by Says passes m old step.Gather new untold by = gathers Says passes m old new by.at.exchange by.gathers
adds_by Says passes m old step.RefuseKey new untold by = same old new _ by.view refl refl (λ u. told_so Says passes old.council.order _ tt tt)
adds_by Says passes m old step.OpenPlan new untold by = opens_plan Says passes m old new by.order.asked by.desk by.opens
adds_by Says passes m old (step.EnterEra proposer) new untold by = enters Says passes m old new by.plan by.next by.desk by.enters
adds_by Says passes m old (step.BeginCollect key) new untold by = begins_collection Says passes m old new key by.may.order by.desk by.caller by.begins
adds_by Says passes m old step.ReadHeld new untold by = same old new _ by.view refl refl (λ u. tt)
adds_by Says passes m old step.CountCollect new untold by =
    after old by.middle new _
    (counts Says passes m old new by.middle 0 by.counts.at_round.desk by.counts.at_round.round by.counts.at_round.of_call.caller by.counts.at_round.of_call.call by.counts.counts) by.view refl refl
    (λ u. tt)
adds_by Says passes m old (step.EndCollect answer) new untold by =
    after old by.middle new _ (ends Says passes m old new by.middle 0 answer by.ends) by.view refl refl (λ u. stopped_so Says passes answer)
adds_by Says passes m old step.GatherRound new untold by = gathers_round Says passes m old new by.at by.gathers
adds_by Says passes m old (step.Renew proposer) new untold by = renews Says passes m old new by.at proposer by.desk by.renews
adds_by Says passes m old step.AskCollect new untold by = asks_collect Says passes m old new by.may.at by.desk by.asks
adds_by Says passes m old step.GatherCollect new untold by = gathers_collect Says passes m old new by.at by.of_exchange.exchange by.gathers
adds_by {S} {V} Says passes m old step.MakeFloor new untold by = still old new _ (Floor _ _ _ ∷ []) by.view (tt, tt) refl refl (λ u. tt)

-- it tells the operator its answer, or not
pub tells_or_not : (event : Event) → ((answer : OpAnswer) × (event ≡ step.Tell answer)) ⊎ ((answer : OpAnswer) → event ≡ step.Tell answer → ⊥)
tells_or_not (step.Tell answer) = inl (answer, refl)
tells_or_not (step.Begin caller key program) = inr (λ answer is. absurd (cc is))
tells_or_not (step.RefuseBegin caller key) = inr (λ answer is. absurd (cc is))
tells_or_not (step.Turn proposer verdict) = inr (λ answer is. absurd (cc is))
tells_or_not (step.RefuseTurn proposer) = inr (λ answer is. absurd (cc is))
tells_or_not (step.Propose proposer) = inr (λ answer is. absurd (cc is))
tells_or_not (step.Count proposer) = inr (λ answer is. absurd (cc is))
tells_or_not (step.End caller answer_) = inr (λ answer is. absurd (cc is))
tells_or_not (step.Stray index) = inr (λ answer is. absurd (cc is))
tells_or_not step.RefuseStray = inr (λ answer is. absurd (cc is))
tells_or_not (step.CrashAcceptor id) = inr (λ answer is. absurd (cc is))
tells_or_not (step.RestartAcceptor id) = inr (λ answer is. absurd (cc is))
tells_or_not (step.CrashProposer proposer) = inr (λ answer is. absurd (cc is))
tells_or_not (step.RestartProposer proposer) = inr (λ answer is. absurd (cc is))
tells_or_not (step.Order asks_) = inr (λ answer is. absurd (cc is))
tells_or_not step.RefuseOrder = inr (λ answer is. absurd (cc is))
tells_or_not (step.AskAll question) = inr (λ answer is. absurd (cc is))
tells_or_not (step.TurnExchange verdict) = inr (λ answer is. absurd (cc is))
tells_or_not step.RefuseTurnExchange = inr (λ answer is. absurd (cc is))
tells_or_not step.Gather = inr (λ answer is. absurd (cc is))
tells_or_not step.RefuseKey = inr (λ answer is. absurd (cc is))
tells_or_not step.OpenPlan = inr (λ answer is. absurd (cc is))
tells_or_not (step.EnterEra proposer) = inr (λ answer is. absurd (cc is))
tells_or_not (step.BeginCollect key) = inr (λ answer is. absurd (cc is))
tells_or_not step.ReadHeld = inr (λ answer is. absurd (cc is))
tells_or_not step.CountCollect = inr (λ answer is. absurd (cc is))
tells_or_not (step.EndCollect answer_) = inr (λ answer is. absurd (cc is))
tells_or_not step.GatherRound = inr (λ answer is. absurd (cc is))
tells_or_not (step.Renew proposer) = inr (λ answer is. absurd (cc is))
tells_or_not step.AskCollect = inr (λ answer is. absurd (cc is))
tells_or_not step.GatherCollect = inr (λ answer is. absurd (cc is))
tells_or_not step.MakeFloor = inr (λ answer is. absurd (cc is))

-- ---- the record goes on
-- the one list begins the other
abbrev pub IsLater : List Mark → List Mark → Type 0
IsLater old new = (more : List Mark) × (new ≡ old ++ more)

told_later : {S V : Type 0} (old : View S V) (answer : OpAnswer) (new : View S V) → StepTell old answer new → IsLater old.marks new.marks
told_later {S} {V} old answer new (council.tells order said is_open was says is) = (_, ap (λ (v : View S V). v.marks) is)
told_later {S} {V} old answer new (council.finishes order is_open by is) = (_, ap (λ (v : View S V). v.marks) is)
told_later {S} {V} old answer new (council.collects order is_open by is) = (_, ap (λ (v : View S V). v.marks) is)

-- whatever is called on a cluster, its record goes on
pub record_goes_on : {S V : Type 0} (m : Meaning S V) (old : View S V) (event : Event) (new : View S V) → Step m old event new → IsLater old.marks new.marks
record_goes_on {S} {V} m old event new by = elim (tells_or_not event) [
  | inl tells ↦ told_later old tells.0 new (subst (λ (e : Event). Step m old e new) tells.1 by)
  | inr untold ↦ let adds = adds_by IsPassing (λ answer passing undone. passing) m old event new untold by in (adds.more, adds.marks)
]
