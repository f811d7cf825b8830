-- How far an open call has come, by what is read of the world and by what its calls leave.
use Rattle.std.proofs.Common.{◌≡◌, ◌≢◌, ◌≤◌, ℕ, zero, suc, ◌+◌, Bool, true, false, not, if◌then◌else◌, List, [], ◌∷◌, Option, None, Some, IsSome, IfSome, option_map, is_some, slice_get, slice_set, refl, sym, ap, subst, ◌∙◌, arith}
use Rattle.std.specs.Prelude.{◌&&◌}
use Rattle.cas_change.specs.declared.program.Clause.{Clause}
use Rattle.cas_fate.specs.declared.fate.Verdict.{Verdict}
use Rattle.cas_flow.specs.Flow.{FlowView, queue_at}
use Rattle.cas_flow.specs.Message.{head_of}
use Rattle.cas_flow.specs.declared.message.Message.{Message}
use Rattle.cas_fate.specs.declared.fate.Leg.{Leg}
use Rattle.cas_proposer.specs.Desk.{DeskView}
use Rattle.cas_proposer.specs.Round.{is_preparing}
use Rattle.cas_proposer.specs.declared.round.Round.{Round}
use Rattle.cas_record.specs.declared.answer.Answer.{Answer}
use Rattle.cas_record.specs.declared.answer.Answer.TheVariants as answer
use Rattle.cas_round.specs.declared.verdict.RoundVerdict.{RoundVerdict}
use Rattle.cas_model.specs.Council.{ExchangeView, Council, exchange_place}
use Rattle.cas_protocol.specs.Protocol.{is_done}
use Rattle.cas_model.specs.Step as step
use Rattle.cas_model.specs.Step.{Step, StepTurn, StepRefuseTurn, StepPropose}
use Rattle.cas_model.specs.Calls.Step as calls
use Rattle.cas_model.specs.Calls.Step.{WasMet}
use Rattle.cas_model.specs.Frames.Step as frames
use Rattle.cas_model.specs.Stops.Step.{OpenCallAt}
use Rattle.cas_model.specs.View.{Meaning, View, CallView, CallerView, IsAt}
use Rattle.cas_model.proofs.Places.{at_one, at_set, some_is}
use Rattle.cas_model.proofs.Safety.Parts.{at_low, low_at}
use Rattle.cas_world.specs.Calls.Beginning.{MayBegin, another, HasRound}
use Rattle.cas_world.specs.Exchanges.Exchange.{asks_as, place_of, turn_of, refusal_of}
use Rattle.cas_world.specs.Readers.{closed_in, told_if, IsVerdictIn, next_number}
use Rattle.cas_world.specs.Calls.Reading.{HasProposed}
use Rattle.cas_world.specs.World.{WasTold, IsInPhase}
use Rattle.cas_board_steps.specs.Calls.Conflicts.{is_conflict, told_conflict}
use Rattle.cas_board_steps.specs.Kept.{IsStaged, running, is_met, is_closed, IsKept}
use Rattle.cas_board_steps.specs.Mine.{Wanted, wants, wanted_by}
use Rattle.cas_board_steps.specs.OwnParts.{own_part}
use Rattle.cas_board_steps.specs.Calls.Open.{HasOpen, is_met_in}
use Rattle.cas_board_steps.specs.Calls.Stages.{IsStageOf, front_of, tells_met}
use Rattle.cas_board_steps.specs.declared.changes.Stage.{Stage}
use Rattle.cas_board_steps.specs.declared.changes.Stage.TheVariants as stages
use Rattle.cas_board_steps.proofs.Calls.Events.{told_in}
use Rattle.cas_board_steps.proofs.Parts.{HasOpenCallAt, open_at, met_part}

-- ---- frames of rounds
-- where no exchange is open, the operator's frames are those of its round, too
asks_false : (o : Option ExchangeView) (n : ℕ) → (n ≡ 0 → o ≡ None) → asks_as o n ≡ false
asks_false None n quiet = refl
asks_false (Some x) zero quiet = absurd (cc (quiet refl))
asks_false (Some x) (suc n) quiet = refl

module _ {S V : Type 0} (view : View S V) (n : ℕ) (quiet : n ≡ 0 → view.council.exchange ≡ None) where
  pub place_is : place_of view n ≡ n
  place_is = ap (λ (b : Bool). if b then exchange_place else n) (asks_false view.council.exchange n quiet)

  pub turn_is : (v : Verdict) → turn_of view n v ≡ step.Turn n v
  turn_is v = ap (λ (b : Bool). if b then step.TurnExchange v else step.Turn n v) (asks_false view.council.exchange n quiet)

  pub refusal_is : refusal_of view n ≡ step.RefuseTurn n
  refusal_is = ap (λ (b : Bool). if b then step.RefuseTurnExchange else step.RefuseTurn n) (asks_false view.council.exchange n quiet)

pub as_turn : {S V : Type 0} (m : Meaning S V) (old new : View S V) (n : ℕ) (v : Verdict) → (n ≡ 0 → old.council.exchange ≡ None) → Step m old (turn_of old n v) new → StepTurn m old n v new
as_turn {S} {V} m old new n v quiet by = subst (λ (e : step.Event). Step m old e new) (turn_is old n quiet v) by

pub as_refusal : {S V : Type 0} (m : Meaning S V) (old new : View S V) (n : ℕ) → (n ≡ 0 → old.council.exchange ≡ None) → Step m old (refusal_of old n) new → StepRefuseTurn m old n new
as_refusal {S} {V} m old new n quiet by = subst (λ (e : step.Event). Step m old e new) (refusal_is old n quiet) by

pub waits_there : {S V : Type 0} (view : View S V) (n : ℕ) → (n ≡ 0 → view.council.exchange ≡ None) → (queue_at view.flow n).messages ≢ [] → (queue_at view.flow (place_of view n)).messages ≢ []
waits_there view n quiet waits = subst (λ (p : ℕ). (queue_at view.flow p).messages ≢ []) (sym (place_is view n quiet)) waits

-- the front that is shown is that of its own queue
pub shown_there : {S V : Type 0} (view : View S V) (n : ℕ) (front : Option (Leg × ℕ)) → (n ≡ 0 → view.council.exchange ≡ None) → front ≡ option_map head_of (slice_get (queue_at view.flow (place_of view n)).messages 0) → front ≡ option_map head_of (slice_get (queue_at view.flow n).messages 0)
shown_there view n front quiet shown = subst (λ (p : ℕ). front ≡ option_map head_of (slice_get (queue_at view.flow p).messages 0)) (place_is view n quiet) shown

pub none_waits : (messages : List Message) (front : Option (Leg × ℕ)) → front ≡ option_map head_of (slice_get messages 0) → is_some front ≡ false → messages ≡ []
none_waits [] front shown none = refl
none_waits (one ∷ rest) front shown none = absurd (cc (ap (λ (o : Option (Leg × ℕ)). is_some o) shown, none))

pub some_waits : (messages : List Message) (front : Option (Leg × ℕ)) → front ≡ option_map head_of (slice_get messages 0) → is_some front ≡ true → messages ≢ []
some_waits messages front shown some empty = absurd (cc (ap (λ (o : Option (Leg × ℕ)). is_some o) (shown ∙ ap (λ (l : List Message). option_map head_of (slice_get l 0)) empty), some))

-- ---- what is read
-- a closed call was told just that
pub closed_told : (call : CallView) (told : Answer) → closed_in (Some call) ≡ Some told → call.told ≡ Some told
closed_told call told e = by_told call.is_closed call.told e
  where
    by_test : (b : Bool) (one : Answer) → (if b then Some one else None) ≡ Some told → Some one ≡ Some told
    by_test true one is = is
    by_test false one is = absurd (cc is)

    by_told : (closed : Bool) (o : Option Answer) → told_if closed o ≡ Some told → o ≡ Some told
    by_told closed None is = absurd (cc is)
    by_told closed (Some one) is = by_test (closed && not (is_done one)) one is

-- so it may be ended with that
pub closed_was_told : {S V : Type 0} (view : View S V) (n call : ℕ) (told : Answer) (closed : Option Answer) → HasOpen call (own_part view n) → ((caller : CallerView) → IsAt view.callers n caller → closed ≡ closed_in caller.call) → closed ≡ Some told → WasTold view n call told
closed_was_told view n call told closed has says is =
    let o = open_at view n call has in
    record { caller = o.caller; at_caller = o.at_caller; same_number = o.number; call = o.open_call; is_open = o.is_open; told = closed_told o.open_call told (ap closed_in (sym o.is_open) ∙ sym (says o.caller o.at_caller) ∙ is) }

no_verdict : (round : Option Round) (v : Option RoundVerdict) → IsVerdictIn round v → is_some v ≡ false → round ≡ None
no_verdict None v is none = refl
no_verdict (Some round) None is none = absurd is
no_verdict (Some round) (Some v) is none = absurd (cc none)

some_verdict : (round : Option Round) (v : Option RoundVerdict) → IsVerdictIn round v → is_some v ≡ true → IsSome round
some_verdict None v is some = absurd (cc (ap (λ (o : Option RoundVerdict). is_some o) is, some))
some_verdict (Some round) v is some = refl

pub is_idle : {S V : Type 0} (view : View S V) (n : ℕ) (v : Option RoundVerdict) → ((desk : DeskView V) → IsAt view.desks n desk → IsVerdictIn desk.round v) → is_some v ≡ false → (desk : DeskView V) → IsAt view.desks n desk → desk.round ≡ None
is_idle view n v says none desk at = no_verdict desk.round v (says desk at) none

pub is_through : {S V : Type 0} (view : View S V) (n : ℕ) (v : Option RoundVerdict) → ((desk : DeskView V) → IsAt view.desks n desk → IsVerdictIn desk.round v) → is_some v ≡ true → (desk : DeskView V) → IsAt view.desks n desk → IsSome desk.round
is_through view n v says some desk at = some_verdict desk.round v (says desk at) some

-- ---- the desk of a caller
pub record DeskAt {S V : Type 0} (view : View S V) (n : ℕ) : Type 0 where
  pub desk : DeskView V
  pub at_desk : IsAt view.desks n desk

pub desk_at : {S V : Type 0} (view : View S V) (n : ℕ) → n ≤ view.last_proposer → IsKept view → DeskAt view n
desk_at view n known kept = let there = at_low view.desks n (omega (arith, kept.places.desks, known)) in record { desk = there.0; at_desk = there.1 }

-- where its caller stands, its desk does
pub desk_of : {S V : Type 0} (view : View S V) (n : ℕ) (caller : CallerView) → IsAt view.callers n caller → IsKept view → DeskAt view n
desk_of view n caller at kept = let low = low_at view.callers n at in desk_at view n (omega (arith, kept.places.callers, low)) kept

-- ---- a call whose round is open
pub record IsRoundRunning (call : CallView) : Type 0 where
  pub unmet : told_conflict call.told ≡ false
  pub unclosed : call.is_closed ≡ false

pub running_call : {S V : Type 0} (view : View S V) (n : ℕ) (caller : CallerView) (call : CallView) (desk : DeskView V) → IsKept view → IsAt view.callers n caller → caller.call ≡ Some call → IsAt view.desks n desk → IsSome desk.round → IsRoundRunning call
running_call {S} {V} view n caller call desk kept at is at_desk some = by_stage (kept.staged n desk caller call at_desk at is)
  where
    by_stage : IsStaged desk call → IsRoundRunning call
    by_stage (running open_ unmet unclosed) = record { unmet = unmet; unclosed = unclosed }
    by_stage (is_met none met unproposed unclosed) = absurd (cc (subst IsSome none some))
    by_stage (is_closed none closed unmet) = absurd (cc (subst IsSome none some))

pub runs_there : {S V : Type 0} (view : View S V) (n : ℕ) (caller : CallerView) (call : CallView) → IsKept view → IsAt view.callers n caller → caller.call ≡ Some call → ((desk : DeskView V) → IsAt view.desks n desk → IsSome desk.round) → IsRoundRunning call
runs_there view n caller call kept at is running_ = let d = desk_of view n caller at kept in running_call view n caller call d.desk kept at is d.at_desk (running_ d.desk d.at_desk)

-- so no conflict was told last, and that is what its stage tells
pub unmet_there : {S V : Type 0} (view : View S V) (n call : ℕ) → HasOpen call (own_part view n) → IsKept view → ((desk : DeskView V) → IsAt view.desks n desk → IsSome desk.round) → is_met_in (own_part view n) ≡ false
unmet_there view n call has kept running_ = let o = open_at view n call has in met_part view n o.caller o.open_call o.at_caller o.is_open ∙ (runs_there view n o.caller o.open_call kept o.at_caller o.is_open running_).unmet

pub stage_unmet : {S V : Type 0} (view : View S V) (n call : ℕ) (stage : Stage) → HasOpen call (own_part view n) → IsKept view → ((desk : DeskView V) → IsAt view.desks n desk → IsSome desk.round) → IsStageOf view n stage → tells_met stage ≡ false
stage_unmet view n call (stages.Waits frame) has kept running_ is = refl
stage_unmet view n call stages.Through has kept running_ is = refl
stage_unmet view n call stages.Met has kept running_ is =
    let o = open_at view n call has in
    let d = desk_of view n o.caller o.at_caller kept in
    absurd (cc (subst IsSome (is.1 d.desk d.at_desk) (running_ d.desk d.at_desk)))

pub running_tells : {S V : Type 0} (view : View S V) (n call : ℕ) (stage : Stage) → HasOpen call (own_part view n) → IsKept view → ((desk : DeskView V) → IsAt view.desks n desk → IsSome desk.round) → IsStageOf view n stage → is_met_in (own_part view n) ≡ tells_met stage
running_tells view n call stage has kept running_ is = unmet_there view n call has kept running_ ∙ sym (stage_unmet view n call stage has kept running_ is)

-- a round that has just begun is open
pub round_running : {S V : Type 0} (view : View S V) (n number : ℕ) → HasRound view n number → (desk : DeskView V) → IsAt view.desks n desk → IsSome desk.round
round_running {S} {V} view n number has desk at = subst (λ (d : DeskView V). IsSome d.round) (at_one view.desks n has.at_desk at) has.is_open

-- ---- a call that another caller closed
closed_only : (call : CallView) (told : Answer) → closed_in (Some call) ≡ Some told → call.is_closed ≡ false → ⊥
closed_only call told e unclosed = by_told call.told (subst (λ (b : Bool). told_if b call.told ≡ Some told) unclosed e)
  where
    by_told : (o : Option Answer) → told_if false o ≡ Some told → ⊥
    by_told None is = cc is
    by_told (Some one) is = cc is

-- was told no conflict
pub closed_unmet : {S V : Type 0} (view : View S V) (n call : ℕ) (told : Answer) (closed : Option Answer) (has : HasOpen call (own_part view n)) → IsKept view → ((caller : CallerView) → IsAt view.callers n caller → closed ≡ closed_in caller.call) → closed ≡ Some told → told_conflict (open_at view n call has).open_call.told ≡ false
closed_unmet {S} {V} view n call told closed has kept says is =
    let o = open_at view n call has in
    let d = desk_of view n o.caller o.at_caller kept in
    by_stage o.open_call (ap closed_in (sym o.is_open) ∙ sym (says o.caller o.at_caller) ∙ is) (kept.staged n d.desk o.caller o.open_call d.at_desk o.at_caller o.is_open)
  where
    by_stage : {desk : DeskView V} (one : CallView) → closed_in (Some one) ≡ Some told → IsStaged desk one → told_conflict one.told ≡ false
    by_stage one e (running some unmet unclosed) = unmet
    by_stage one e (is_met none met unproposed unclosed) = absurd (closed_only one told e unclosed)
    by_stage one e (is_closed none closed_ unmet) = unmet

pub closed_no_conflict : {S V : Type 0} (view : View S V) (n call : ℕ) (told : Answer) (closed : Option Answer) (has : HasOpen call (own_part view n)) → IsKept view → ((caller : CallerView) → IsAt view.callers n caller → closed ≡ closed_in caller.call) → closed ≡ Some told → is_conflict told ≡ false
closed_no_conflict view n call told closed has kept says is =
    ap told_conflict (sym (told_in view n call told (closed_was_told view n call told closed has says is) (open_at view n call has).caller (open_at view n call has).open_call (open_at view n call has).at_caller (open_at view n call has).is_open))
    ∙ closed_unmet view n call told closed has kept says is

-- a phase that may be ended
phase_in : {S V : Type 0} (view : View S V) (n : ℕ) (preparing : Bool) (desk : DeskView V) → IsAt view.desks n desk → (round : Option Round) → desk.round ≡ round → IsSome round → IfSome round (λ r. is_preparing r.phase ≡ preparing) → (queue_at view.flow n).messages ≡ [] → IsInPhase view n preparing
phase_in view n preparing desk at None is some phase none = absurd (cc some)
phase_in view n preparing desk at (Some round) is some phase none = record { desk = desk; at_desk = at; round = round; is_round = is; phase = phase; none_waits = none }

pub in_phase : {S V : Type 0} (view : View S V) (n : ℕ) (proposed : Bool) → n ≤ view.last_proposer → IsKept view → ((desk : DeskView V) → IsAt view.desks n desk → IsSome desk.round)
    → ((desk : DeskView V) → IsAt view.desks n desk → IfSome desk.round (λ r. is_preparing r.phase ≡ not proposed)) → (queue_at view.flow n).messages ≡ [] → IsInPhase view n (not proposed)
in_phase view n proposed known kept running_ phase none = let d = desk_at view n known kept in phase_in view n (not proposed) d.desk d.at_desk d.desk.round refl (running_ d.desk d.at_desk) (phase d.desk d.at_desk) none

-- ---- another round
pub may_again : {S V : Type 0} (view : View S V) (n call : ℕ) (key : List ℕ) (program : List Clause) → n ≤ view.last_proposer → IsKept view → HasOpen call (own_part view n) → wanted_by n view.marks ≡ Some (wants call key program)
    → ((desk : DeskView V) → IsAt view.desks n desk → desk.round ≡ None) → ((caller : CallerView) → IsAt view.callers n caller → closed_in caller.call ≡ None) → MayBegin view n call key program
may_again {S} {V} view n call key program known kept has wanted idle unclosed =
    let o = open_at view n call has in
    let d = desk_at view n known kept in
    let same : wants o.caller.number o.open_call.key o.open_call.program ≡ wants call key program = some_is (sym (kept.wanted n o.caller o.open_call o.at_caller o.is_open) ∙ wanted) in
    by_stage o same (kept.staged n d.desk o.caller o.open_call d.at_desk o.at_caller o.is_open) (idle d.desk d.at_desk)
  where
    by_stage : (o : HasOpenCallAt view n call) → wants o.caller.number o.open_call.key o.open_call.program ≡ wants call key program → {desk : DeskView V} → IsStaged desk o.open_call → desk.round ≡ None → MayBegin view n call key program
    by_stage o same (running some unmet unclosed_) none = absurd (cc (subst IsSome none some))
    by_stage o same (is_met no_round met unproposed unclosed_) none = another o.caller o.open_call o.at_caller o.is_open (sym o.number) (ap (λ (w : Wanted). w.key) same) (ap (λ (w : Wanted). w.program) same) unproposed met idle
    by_stage o same (is_closed no_round closed unmet) none = absurd (cc (subst IsSome (ap closed_in (sym o.is_open) ∙ unclosed o.caller o.at_caller) closed))

-- ---- after a turn
pub turn_running : {S V : Type 0} (m : Meaning S V) (n : ℕ) (v : Verdict) (old new : View S V) → ((desk : DeskView V) → IsAt old.desks n desk → IsSome desk.round) → StepTurn m old n v new → (desk : DeskView V) → IsAt new.desks n desk → IsSome desk.round
turn_running {S} {V} m n v old new was by = in_turn by.of_call by.front by.turn
  where
    same_desks : new.desks ≡ old.desks → (desk : DeskView V) → IsAt new.desks n desk → IsSome desk.round
    same_desks same desk at = was desk (subst (λ (l : List (DeskView V)). IsAt l n desk) same at)

    in_turn : (at : OpenCallAt old n) (front : Message) → frames.TakesTurn m old n v front at.caller at.call new → (desk : DeskView V) → IsAt new.desks n desk → IsSome desk.round
    in_turn at front (frames.held fall same) = same_desks (ap (λ (w : View S V). w.desks) same)
    in_turn at front (frames.gone fall same) = same_desks (ap (λ (w : View S V). w.desks) same)
    in_turn at front (frames.answers request acceptor now reply fall is there table same) = same_desks (ap (λ (w : View S V). w.desks) same)
    in_turn at front (frames.finds_down request acceptor fall is there down same) = same_desks (ap (λ (w : View S V). w.desks) same)
    in_turn at front (frames.brings_down request acceptor now fall is there stops same) = same_desks (ap (λ (w : View S V). w.desks) same)
    in_turn at front (frames.arrives reply desk now round heard fall is there is_round hears same) = λ one at_one_.
        let there_now : IsAt new.desks n now = subst (λ (l : List (DeskView V)). IsAt l n now) (sym (ap (λ (w : View S V). w.desks) same)) (at_set old.desks n desk now there) in
        subst (λ (d : DeskView V). IsSome d.round) (at_one new.desks n there_now at_one_) (subst IsSome (sym (ap (λ (d : DeskView V). d.round) hears.desk)) refl)

-- ---- after a proposal
pub proposed_running : {S V : Type 0} (new : View S V) (n : ℕ) → HasProposed new n → (desk : DeskView V) → IsAt new.desks n desk → IsSome desk.round
proposed_running {S} {V} new n has desk at = subst IsSome (sym (ap (λ (d : DeskView V). d.round) (at_one new.desks n at has.at_desk) ∙ has.is_round)) refl

met_of : (told : Answer) → is_conflict told ≡ true → WasMet (Some told)
met_of (answer.Conflict met) is = tt
met_of (answer.Done state took ballot) is = absurd (cc is)
met_of (answer.Aged least) is = absurd (cc is)
met_of (answer.Full acceptor) is = absurd (cc is)
met_of (answer.Short got need) is = absurd (cc is)
met_of (answer.Moved era) is = absurd (cc is)
met_of answer.Crashed is = absurd (cc is)
met_of (answer.Unsettled why) is = absurd (cc is)
met_of answer.Down is = absurd (cc is)
met_of answer.VaultFault is = absurd (cc is)
met_of answer.Spent is = absurd (cc is)
met_of answer.RecordFull is = absurd (cc is)
met_of (answer.NoMemory proposed) is = absurd (cc is)

-- a round that ended with a conflict, and proposed nothing
pub propose_met : {S V : Type 0} (m : Meaning S V) (n number : ℕ) (told : Answer) (old new : View S V) → ((caller : CallerView) → IsAt old.callers n caller → IfSome caller.call (λ call. call.proposed ≡ None)) → WasTold new n number told → is_conflict told ≡ true → StepPropose m old n new
    → (caller : CallerView) (next : CallView) → IsAt new.callers n caller → caller.call ≡ Some next → next.is_closed ≡ false → (desk : DeskView V) → IsAt new.desks n desk → IsStaged desk next
propose_met {S} {V} m n number told old new unproposed was conflict by caller next at is unclosed desk at_desk = by_case by.at_round.of_call by.at_round.desk by.at_round.at_desk by.at_round.round by.proposes
  where
    tells : next.told ≡ Some told
    tells = told_in new n number told was caller next at is

    over : (at_old : OpenCallAt old n) (was_desk now : DeskView V) → IsAt old.desks n was_desk → now.round ≡ None → (one : Answer) → new ≡ calls.with_call (record old { desks = slice_set old.desks n now }) n at_old.caller (calls.over at_old.call one) → IsStaged desk next
    over at_old was_desk now there none one same =
        let next_caller : CallerView = record at_old.caller { call = Some (calls.over at_old.call one) } in
        let there_now : IsAt new.desks n now = subst (λ (w : View S V). IsAt w.desks n now) (sym same) (at_set old.desks n was_desk now there) in
        let at_next : IsAt new.callers n next_caller = subst (λ (w : View S V). IsAt w.callers n next_caller) (sym same) (at_set old.callers n at_old.caller next_caller at_old.at_caller) in
        let same_next : calls.over at_old.call one ≡ next = some_is (ap (λ (c : CallerView). c.call) (at_one new.callers n at_next at) ∙ is) in
        is_met (ap (λ (d : DeskView V). d.round) (at_one new.desks n at_desk there_now) ∙ none) (subst WasMet (sym tells) (met_of told conflict))
        (ap (λ (c : CallView). c.proposed) (sym same_next) ∙ subst (λ (o : Option CallView). IfSome o (λ call. call.proposed ≡ None)) at_old.is_open (unproposed at_old.caller at_old.at_caller)) unclosed

    by_case : (at_old : OpenCallAt old n) (was_desk : DeskView V) → IsAt old.desks n was_desk → (round : Round) → calls.ProposesOrEnds m old n was_desk round at_old.caller at_old.call new → IsStaged desk next
    by_case at_old was_desk there round (calls.proposes now turned read by_ ride outcome flow quorum confirmers reads turns made sends same) =
        let next_caller : CallerView = record at_old.caller { call = Some (calls.proposing at_old.call outcome) } in
        let at_next : IsAt new.callers n next_caller = subst (λ (w : View S V). IsAt w.callers n next_caller) (sym same) (at_set old.callers n at_old.caller next_caller at_old.at_caller) in
        let same_next : calls.proposing at_old.call outcome ≡ next = some_is (ap (λ (c : CallerView). c.call) (at_one new.callers n at_next at) ∙ is) in
        absurd (cc (ap (λ (c : CallView). c.told) same_next ∙ tells))
    by_case at_old was_desk there round (calls.ends now v one is_ refuses ends same) = over at_old was_desk now there (ap (λ (d : DeskView V). d.round) ends.desk) one same
    by_case at_old was_desk there round (calls.fails now fails same) = over at_old was_desk now there (ap (λ (d : DeskView V). d.round) fails.desk) answer.VaultFault same
    by_case at_old was_desk there round (calls.loses now ballot loses same) = over at_old was_desk now there (ap (λ (d : DeskView V). d.round) loses.desk) (answer.NoMemory false) same

-- its stage tells of the conflict
pub met_told : (o : Option Answer) → WasMet o → told_conflict o ≡ true
met_told None met = absurd met
met_told (Some (answer.Conflict ballot)) met = refl
met_told (Some (answer.Done state took ballot)) met = absurd met
met_told (Some (answer.Aged least)) met = absurd met
met_told (Some (answer.Full acceptor)) met = absurd met
met_told (Some (answer.Short got need)) met = absurd met
met_told (Some (answer.Moved era)) met = absurd met
met_told (Some answer.Crashed) met = absurd met
met_told (Some (answer.Unsettled why)) met = absurd met
met_told (Some answer.Down) met = absurd met
met_told (Some answer.VaultFault) met = absurd met
met_told (Some answer.Spent) met = absurd met
met_told (Some answer.RecordFull) met = absurd met
met_told (Some (answer.NoMemory proposed)) met = absurd met

idle_met : {V : Type 0} (desk : DeskView V) (call : CallView) → told_conflict call.told ≡ true → IsStaged desk call → desk.round ≡ None
idle_met desk call met (running some unmet unclosed) = absurd (cc (unmet, met))
idle_met desk call met (is_met none was unproposed unclosed) = none
idle_met desk call met (is_closed none closed unmet) = none

-- a round that ends with that leaves the frames as they are
pub record LeavesFrames {S V : Type 0} (old new : View S V) : Type 0 where
  pub flow : new.flow ≡ old.flow
  pub council : new.council ≡ old.council

propose_leaves : {S V : Type 0} (m : Meaning S V) (n number : ℕ) (told : Answer) (old new : View S V) → WasTold new n number told → StepPropose m old n new → LeavesFrames old new
propose_leaves {S} {V} m n number told old new was by = by_case by.at_round.of_call by.at_round.desk by.at_round.round by.proposes
  where
    by_case : (at_old : OpenCallAt old n) (was_desk : DeskView V) (round : Round) → calls.ProposesOrEnds m old n was_desk round at_old.caller at_old.call new → LeavesFrames old new
    by_case at_old was_desk round (calls.proposes now turned read by_ ride outcome flow quorum confirmers reads turns made sends same) =
        let next_caller : CallerView = record at_old.caller { call = Some (calls.proposing at_old.call outcome) } in
        let at_next : IsAt new.callers n next_caller = subst (λ (w : View S V). IsAt w.callers n next_caller) (sym same) (at_set old.callers n at_old.caller next_caller at_old.at_caller) in
        absurd (cc (told_in new n number told was next_caller (calls.proposing at_old.call outcome) at_next refl))
    by_case at_old was_desk round (calls.ends now v one is_ refuses ends same) = record { flow = ap (λ (w : View S V). w.flow) same; council = ap (λ (w : View S V). w.council) same }
    by_case at_old was_desk round (calls.fails now fails same) = record { flow = ap (λ (w : View S V). w.flow) same; council = ap (λ (w : View S V). w.council) same }
    by_case at_old was_desk round (calls.loses now ballot loses same) = record { flow = ap (λ (w : View S V). w.flow) same; council = ap (λ (w : View S V). w.council) same }

none_in_front : {S V : Type 0} (view : View S V) (n : ℕ) → (n ≡ 0 → view.council.exchange ≡ None) → (queue_at view.flow n).messages ≡ [] → front_of view n ≡ None
none_in_front view n quiet none =
    ap (λ (p : ℕ). option_map head_of (slice_get (queue_at view.flow p).messages 0)) (place_is view n quiet)
    ∙ ap (λ (l : List Message). option_map head_of (slice_get l 0)) none

idle_stage : {S V : Type 0} (view : View S V) (n : ℕ) (stage : Stage) (desk : DeskView V) → IsAt view.desks n desk → desk.round ≡ None → front_of view n ≡ None → IsStageOf view n stage → tells_met stage ≡ true
idle_stage view n (stages.Waits frame) desk at none front is = absurd (cc (sym front ∙ is.0))
idle_stage view n stages.Through desk at none front is = absurd (cc (subst IsSome none (is.1 desk at)))
idle_stage view n stages.Met desk at none front is = refl

pub met_tells : {S V : Type 0} (m : Meaning S V) (n call : ℕ) (told : Answer) (stage : Stage) (old new : View S V) → (n ≡ 0 → old.council.exchange ≡ None) → HasOpen call (own_part new n) → IsKept new → WasTold new n call told → is_conflict told ≡ true → StepPropose m old n new → IsStageOf new n stage → is_met_in (own_part new n) ≡ tells_met stage
met_tells {S} {V} m n call told stage old new quiet has kept was conflict by is =
    let o = open_at new n call has in
    let d = desk_of new n o.caller o.at_caller kept in
    let met : told_conflict o.open_call.told ≡ true = ap told_conflict (told_in new n call told was o.caller o.open_call o.at_caller o.is_open) ∙ conflict in
    let leaves = propose_leaves m n call told old new was by in
    let front : front_of new n ≡ None = none_in_front new n (λ is_first. ap (λ (c : Council). c.exchange) leaves.council ∙ quiet is_first) (ap (λ (f : FlowView). (queue_at f n).messages) leaves.flow ∙ by.at_round.none_waits) in
    met_part new n o.caller o.open_call o.at_caller o.is_open ∙ met
    ∙ sym (idle_stage new n stage d.desk d.at_desk (idle_met d.desk o.open_call met (kept.staged n d.desk o.caller o.open_call d.at_desk o.at_caller o.is_open)) front is)

-- ---- the number of a call
pub record NextAt {S V : Type 0} (view : View S V) (n call : ℕ) : Type 0 where
  pub caller : CallerView
  pub at_caller : IsAt view.callers n caller
  pub number : suc caller.number ≡ call

next_of : {S V : Type 0} (view : View S V) (n call : ℕ) (o : Option CallerView) → slice_get view.callers n ≡ o → option_map next_number o ≡ Some call → NextAt view n call
next_of view n call None is e = absurd (cc e)
next_of view n call (Some caller) is e = record { caller = caller; at_caller = is; number = let k : caller.number + 1 ≡ call = some_is e in omega (arith, k) }

pub next_at : {S V : Type 0} (view : View S V) (n call : ℕ) → option_map next_number (slice_get view.callers n) ≡ Some call → NextAt view n call
next_at view n call e = next_of view n call (slice_get view.callers n) refl e
