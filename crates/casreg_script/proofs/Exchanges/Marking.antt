-- What was marked while a key was read: no floor of it, and all that was marked before stands in front.
use Rattle.std.proofs.Common.{◌≡◌, ℕ, Bool, true, false, List, [], ◌∷◌, ◌++◌, reverse, inl, inr, refl, sym, ap, subst, ◌∙◌, append-nil}
use Rattle.std.proofs.lemmas.List.{reverse-append, append_assoc}
use Rattle.std.specs.Prelude.{⊤, if◌then◌else◌}
use Rattle.cas_ballot.specs.declared.ballot.Ballot.{Ballot}
use Rattle.cas_ballot.specs.Members.{has_member}
use Rattle.cas_change.specs.declared.state.State.{State}
use Rattle.cas_protocol.specs.Acceptors.{votes_of}
use Rattle.cas_record.proofs.PlaceLemmas.{newest_or}
use Rattle.cas_record.specs.Legal.{HasFloor}
use Rattle.cas_record.specs.Logs.Happening.{marks_of}
use Rattle.cas_record.specs.Places.{Stands}
use Rattle.cas_record.specs.declared.mark.Mark.{Mark}
use Rattle.cas_record.specs.declared.mark.Mark.TheVariants.{Floor, Harmed}
use Rattle.cas_slot.specs.declared.message.Ask.{Ask}
use Rattle.cas_slot.specs.declared.message.Ask.TheVariants as ask
use Rattle.cas_slot.specs.declared.message.Tell.{Tell}
use Rattle.cas_slot.specs.declared.message.Tell.TheVariants as tell
use Rattle.cas_fate.specs.declared.fate.Verdict.{Verdict}
use Rattle.cas_flow.specs.declared.message.Message.{Message}
use Rattle.cas_lines.specs.declared.answer.EventAnswer.{EventAnswer}
use Rattle.cas_model.specs.Council.{ExchangeView}
use Rattle.cas_model.specs.Exchanges.Step as council
use Rattle.cas_model.specs.Exchanges.Step.{StepTurnExchange, TurnsExchange, harm_marks}
use Rattle.cas_model.specs.Frames.Step as frames
use Rattle.cas_model.specs.View.{Meaning, View}
use Rattle.casreg_script.specs.Frames.Conditions.{NetworkView}
use Rattle.casreg_script.specs.Frames.Strays as strays
use Rattle.casreg_script.specs.Frames.Strays.{LetsStrayIn}
use Rattle.casreg_script.specs.Events as events
use Rattle.casreg_script.specs.Events.{AnswersStray}
use Rattle.casreg_script.specs.Exchanges.Exchanges as turns
use Rattle.casreg_script.specs.Exchanges.Exchanges.{AskTurned}

-- ---- no floor
abbrev pub IsNoFloor : Mark → Type 0
IsNoFloor (Floor key ballot state) = ⊥
IsNoFloor other = ⊤

abbrev pub AreNoFloors : List Mark → Type 0
AreNoFloors [] = ⊤
AreNoFloors (mark ∷ later) = IsNoFloor mark × AreNoFloors later

no_floors_both : (marks more : List Mark) → AreNoFloors marks → AreNoFloors more → AreNoFloors (marks ++ more)
no_floors_both [] more none these = these
no_floors_both (mark ∷ marks) more none these = (none.0, no_floors_both marks more none.1 these)

-- marks were made behind the old ones, none of which is a floor
pub record AddsNoFloor {S V : Type 0} (old new : View S V) : Type 0 where
  pub more : List Mark
  pub marks : new.marks ≡ old.marks ++ more
  pub none : AreNoFloors (reverse more)

adds_none : {S V : Type 0} (old new : View S V) → new.marks ≡ old.marks → AddsNoFloor old new
adds_none old new same = record { more = []; marks = same ∙ sym (append-nil old.marks); none = tt }

adds_both : {S V : Type 0} (old mid new : View S V) → AddsNoFloor old mid → AddsNoFloor mid new → AddsNoFloor old new
adds_both old mid new first next = record {
  more = first.more ++ next.more;
  marks = next.marks ∙ ap (λ (l : List Mark). l ++ next.more) first.marks ∙ append_assoc old.marks first.more next.more;
  none = subst AreNoFloors (sym (reverse-append first.more next.more)) (no_floors_both (reverse next.more) (reverse first.more) next.none first.none);
}

-- votes and harms are no floors
votes_no_floors : (id : ℕ) (question : Ask) (answer : Tell) → AreNoFloors (reverse (marks_of (votes_of id question answer)))
votes_no_floors id (ask.Accept key ballot era ride state) tell.Accepted = (tt, tt)
votes_no_floors id (ask.Accept key ballot era ride state) (tell.Promised accepted) = tt
votes_no_floors id (ask.Accept key ballot era ride state) (tell.Met seen) = tt
votes_no_floors id (ask.Accept key ballot era ride state) (tell.Aged least) = tt
votes_no_floors id (ask.Accept key ballot era ride state) tell.Full = tt
votes_no_floors id (ask.Accept key ballot era ride state) tell.AgesSet = tt
votes_no_floors id (ask.Accept key ballot era ride state) tell.Removed = tt
votes_no_floors id (ask.Accept key ballot era ride state) tell.Kept = tt
votes_no_floors id (ask.Accept key ballot era ride state) (tell.Listed past keys more) = tt
votes_no_floors id (ask.Accept key ballot era ride state) (tell.Probed promise accepted) = tt
votes_no_floors id (ask.Prepare key ballot) answer = tt
votes_no_floors id (ask.Ages tag least) answer = tt
votes_no_floors id (ask.Remove key tomb) answer = tt
votes_no_floors id (ask.List tag after) answer = tt
votes_no_floors id (ask.Probe tag key) answer = tt

harms_no_floors : (member : ℕ) (exchange : ExchangeView) (down : Bool) → AreNoFloors (reverse (harm_marks exchange member down))
harms_no_floors member exchange down = by_known (has_member exchange.harmed member)
  where
    by_known : (known : Bool) → AreNoFloors (reverse (if known then [] else Harmed 0 0 down ∷ []))
    by_known true = tt
    by_known false = (tt, tt)

-- ---- turns
turn_adds : {S V : Type 0} (m : Meaning S V) (old new : View S V) (verdict : Verdict) → StepTurnExchange m old verdict new → AddsNoFloor old new
turn_adds {S} {V} m old new verdict by = by_case by.turn
  where
    by_case : TurnsExchange m old verdict by.front by.at.exchange new → AddsNoFloor old new
    by_case (council.held fall is) = adds_none old new (ap (λ (w : View S V). w.marks) is)
    by_case (council.gone fall is) = record { more = _; marks = ap (λ (w : View S V). w.marks) is; none = harms_no_floors _ by.at.exchange false }
    by_case (council.answers request acceptor now reply fall front at table is) =
        record { more = _; marks = ap (λ (w : View S V). w.marks) is; none = votes_no_floors request.to request.ask reply.tell }
    by_case (council.finds_down request acceptor fall front at down is) = record { more = _; marks = ap (λ (w : View S V). w.marks) is; none = harms_no_floors _ by.at.exchange true }
    by_case (council.brings_down request acceptor now fall front at stops is) = record { more = _; marks = ap (λ (w : View S V). w.marks) is; none = harms_no_floors _ by.at.exchange true }
    by_case (council.arrives reply fall front to_it is) = adds_none old new (ap (λ (w : View S V). w.marks) is)

stray_adds : {S V : Type 0} (m : Meaning S V) (old new : View S V) (index : ℕ) (late : Message) → frames.Strays m old index late new → AddsNoFloor old new
stray_adds {S} {V} m old new index late (frames.answers request acceptor now reply late_is at table is) =
    record { more = _; marks = ap (λ (w : View S V). w.marks) is; none = votes_no_floors request.to request.ask reply.tell }
stray_adds {S} {V} m old new index late (frames.brings_down request acceptor now late_is at stops is) = adds_none old new (ap (λ (w : View S V). w.marks) is)
stray_adds {S} {V} m old new index late (frames.drops ignored is) = adds_none old new (ap (λ (w : View S V). w.marks) is)
stray_adds {S} {V} m old new index late (frames.arrives reply desk now round heard late_is at is_round hears is) = adds_none old new (ap (λ (w : View S V). w.marks) is)

answered_adds : {S V : Type 0} (m : Meaning S V) (old new : View S V) (index : ℕ) (answer : EventAnswer) → AnswersStray m old index answer new → AddsNoFloor old new
answered_adds m old new index answer (events.absent none) = adds_none old old refl
answered_adds m old new index answer (events.strays by) = stray_adds m old new index by.late by.strays
answered_adds m old new index answer (events.full low is) = adds_none old old refl
answered_adds {S} {V} m old new index answer (events.no_memory low (frames.stays is)) = adds_none old new (ap (λ (w : View S V). w.marks) is)
answered_adds {S} {V} m old new index answer (events.no_memory low (frames.kept id acceptor now there finds is)) = adds_none old new (ap (λ (w : View S V). w.marks) is)

lets_add : {S V : Type 0} (m : Meaning S V) (by next : NetworkView) (old new : View S V) → LetsStrayIn m by old next new → AddsNoFloor old new
lets_add m by next old new (strays.none names) = adds_none old old refl
lets_add m by next old new (strays.one place answer names strays_in) = answered_adds m old new place answer strays_in

pub turns_add : {S V : Type 0} (m : Meaning S V) {by : NetworkView} (old : View S V) {next : NetworkView} {again : Bool} (new : View S V) → AskTurned m by old next again new → AddsNoFloor old new
turns_add m old new turns.none = adds_none old old refl
turns_add m {by} old new (turns.one_more {before = before} {between = between} {verdict = verdict} {mid = mid} {near = near} frame turned lets waits decides step) =
    adds_both old mid new (turns_add m old mid turned) (adds_both mid near new (lets_add m before between mid near lets) (turn_adds m near new verdict step))

-- ---- floors
pub floor_before : (key : List ℕ) (floor : Ballot) (marks more : List Mark) → AreNoFloors (reverse more) → HasFloor key floor (reverse (marks ++ more)) → HasFloor key floor (reverse marks)
floor_before key floor marks more none has = record { state = has.state; stands = among (reverse more) none (subst (Stands (Floor key floor has.state)) (reverse-append marks more) has.stands) }
  where
    other : (mark : Mark) (state : State) → IsNoFloor mark → Floor key floor state ≡ mark → ⊥
    other mark state none_here is = subst IsNoFloor (sym is) none_here

    among : (newer : List Mark) → AreNoFloors newer → Stands (Floor key floor has.state) (newer ++ reverse marks) → Stands (Floor key floor has.state) (reverse marks)
    among [] these stands = stands
    among (mark ∷ newer) these stands = elim (newest_or stands) [
      | inl is ↦ absurd (other mark has.state these.0 is)
      | inr older ↦ among newer these.1 older
    ]
