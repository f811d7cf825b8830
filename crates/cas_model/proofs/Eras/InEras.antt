-- The disks of proposers stay in their eras, whatever is called but that which leads on to another era.
use Rattle.std.proofs.Common.{◌≡◌, ◌≤◌, ℕ, List, [], Option, None, Some, sym, ap, subst, inl, inr, arith}
use Rattle.std.specs.Prelude.{⊤, ◌⊎◌, true, false, slice_set}
use Rattle.cas_change.specs.declared.program.Clause.{Clause}
use Rattle.cas_fate.specs.declared.fate.Verdict.{Verdict}
use Rattle.cas_flow.specs.declared.message.Message.{Message}
use Rattle.cas_proposer.specs.Desk.{DeskView}
use Rattle.cas_proposer.specs.declared.round.Round.{Round}
use Rattle.cas_record.specs.declared.answer.Answer.{Answer}
use Rattle.cas_model.specs.Council.{Question, Probe, NextKeys, NewAges, Removal}
use Rattle.cas_model.specs.Eras.Course.{Course}
use Rattle.cas_model.specs.History.{IsInEra, inside, torn}
use Rattle.cas_model.specs.Parties.{VaultKeepsEra}
use Rattle.cas_model.specs.Step as step
use Rattle.cas_model.specs.Step.{Event, Step, StepBegin, StepTurn, StepPropose, StepCount, StepEnd, StepCrashAcceptor, StepRestartAcceptor}
use Rattle.cas_model.specs.Calls.Step as calls
use Rattle.cas_model.specs.Exchanges.Step as council
use Rattle.cas_model.specs.Exchanges.Step.{StepAskAll, StepTurnExchange, StepGather}
use Rattle.cas_model.specs.Calls.Desks.{VaultGoesOn, MayHaveDrawn, EndsRound, Crashes}
use Rattle.cas_model.specs.Frames.Step as frames
use Rattle.cas_model.specs.Stops.Step as stops
use Rattle.cas_model.specs.Stops.Step.{OpenCallAt, LeavesRound, GoesDown, closed_by_crash}
use Rattle.cas_model.specs.View.{Meaning, DiskMeaning, View, CallView, IsAt}
use Rattle.cas_vault.specs.declared.vault.Vault.{Vault}
use Rattle.cas_ballot.specs.declared.ballot.Ballot.{Ballot}
use Rattle.cas_model.proofs.Calls.Asks.{where_drawn, tag_goes_on}
use Rattle.cas_model.proofs.Eras.OnCourse.{Leads}
use Rattle.cas_model.proofs.Places.{same_or_not, own_set, other_set}

-- ---- one desk
-- its vault stays in its eras; and where it was down and idle, it still is, and holds no promise if it held none
pub record KeepsEra {V : Type 0} (m : DiskMeaning V) (old new : DeskView V) : Type 0 where
  pub goes_on : (era other : ℕ) → VaultKeepsEra m era other old.vault → VaultKeepsEra m era other new.vault
  pub idles : old.down ≡ true → old.cache ≡ [] → old.round ≡ None → (new.down ≡ true) × (new.cache ≡ []) × (new.round ≡ None)

pub era_kept : {S V : Type 0} (m : Meaning S V) (of : Course) (id : ℕ) {old new : DeskView V} → KeepsEra m.disks old new → IsInEra m of id old → IsInEra m of id new
era_kept m of id by (inside within) = inside (by.goes_on _ _ within)
era_kept m of id by (torn plan next is_plan is_next in_base down none idle within) =
    let idles = by.idles down none idle in
    torn plan next is_plan is_next in_base idles.0 idles.1 idles.2 (by.goes_on _ _ within)

-- one that is up, and one that has an open round, is not idle
pub up_kept : {V : Type 0} (m : DiskMeaning V) {old new : DeskView V} → m.tells → old.down ≡ false → VaultGoesOn m old.vault new.vault → KeepsEra m old new
up_kept m tells up on = record { goes_on = on.era tells; idles = λ down none idle. absurd (cc (down, up)) }

open_kept : {V : Type 0} (m : DiskMeaning V) {old new : DeskView V} {round : Round} → m.tells → old.round ≡ Some round → VaultGoesOn m old.vault new.vault → KeepsEra m old new
open_kept m tells some on = record { goes_on = on.era tells; idles = λ down none idle. absurd (cc (idle, some)) }

same_kept : {V : Type 0} (m : DiskMeaning V) {old new : DeskView V} {round : Round} → old.round ≡ Some round → new.vault ≡ old.vault → KeepsEra m old new
same_kept {V} m some same = record { goes_on = λ era other was. subst (VaultKeepsEra m era other) (sym same) was; idles = λ down none idle. absurd (cc (idle, some)) }

unchanged : {V : Type 0} (m : DiskMeaning V) {old new : DeskView V} → new ≡ old → KeepsEra m old new
unchanged {V} m same = record {
  goes_on = λ era other was. subst (λ (d : DeskView V). VaultKeepsEra m era other d.vault) (sym same) was;
  idles = λ down none idle. subst (λ (d : DeskView V). (d.down ≡ true) × (d.cache ≡ []) × (d.round ≡ None)) (sym same) (down, none, idle);
}

-- a ballot that may ride was drawn or not
pub goes_on : {V : Type 0} (m : DiskMeaning V) (id : ℕ) (old new : Vault V) (ballot : Option Ballot) → MayHaveDrawn m id old new ballot → VaultGoesOn m old new
goes_on m id old new None kept = kept.goes_on
goes_on m id old new (Some ballot) drawn = drawn.goes_on

-- and what is done after that goes on, too
pub then_on : {V : Type 0} {m : DiskMeaning V} {old middle new : Vault V} → VaultGoesOn m old middle → VaultGoesOn m middle new → VaultGoesOn m old new
then_on first next = record {
  still_past = λ tells n past. next.still_past tells n (first.still_past tells n past);
  era = λ tells era other was. next.era tells era other (first.era tells era other was);
  ages = λ tells age was. next.ages tells age (first.ages tells age was);
  never_falls = omega (arith, first.never_falls, next.never_falls);
}

-- ---- all desks
abbrev pub AreIn : {S V : Type 0} → Meaning S V → Course → List (DeskView V) → Type 0
AreIn {S} {V} m of desks = (id : ℕ) (desk : DeskView V) → IsAt desks id desk → (id ≤ of.last_proposer) × IsInEra m of id desk

none_changed : {S V : Type 0} (m : Meaning S V) (of : Course) {old new : List (DeskView V)} → new ≡ old → AreIn m of old → AreIn m of new
none_changed {S} {V} m of same was = subst (AreIn m of) (sym same) was

-- one was put in its place
pub one_put : {S V : Type 0} (m : Meaning S V) (of : Course) (old new : List (DeskView V)) (id : ℕ) (desk now : DeskView V) → new ≡ slice_set old id now → IsAt old id desk → IsInEra m of id now → AreIn m of old → AreIn m of new
one_put {S} {V} m of old new id desk now same at is was p d at_d = by_place (same_or_not p id)
  where
    there : IsAt (slice_set old id now) p d
    there = subst (λ (l : List (DeskView V)). IsAt l p d) same at_d

    by_place : (p ≡ id) ⊎ (p ≡ id → ⊥) → (p ≤ of.last_proposer) × IsInEra m of p d
    by_place (inl own) = subst (λ (q : ℕ). (q ≤ of.last_proposer) × IsInEra m of q d) (sym own)
        ((was id desk at).0, subst (IsInEra m of id) (sym (own_set old id now d (subst (λ (q : ℕ). IsAt (slice_set old id now) q d) own there))) is)
    by_place (inr other) = was p d (other_set old id now p d other there)

pub one_changed : {S V : Type 0} (m : Meaning S V) (of : Course) (old new : List (DeskView V)) (id : ℕ) (desk now : DeskView V) → new ≡ slice_set old id now → IsAt old id desk
    → KeepsEra m.disks desk now → AreIn m of old → AreIn m of new
one_changed {S} {V} m of old new id desk now same at by was = one_put m of old new id desk now same at (era_kept m of id by (was id desk at).1) was

-- ---- calls
begins_in : {S V : Type 0} (m : Meaning S V) (of : Course) (old new : View S V) (id : ℕ) (key : List ℕ) (program : List Clause) → m.disks.tells → StepBegin m old id key program new → AreIn m of old.desks → AreIn m of new.desks
begins_in {S} {V} m of old new id key program tells by was = in_round by.begins (opens by.opens)
  where
    opens : calls.Opens old id key program by.middle → AreIn m of by.middle.desks
    opens (calls.first caller at none room is) = none_changed m of (ap (λ (w : View S V). w.desks) is) was
    opens (calls.again caller open_call reserved at open_is key_is program_is none met no_round room some is) = none_changed m of (ap (λ (w : View S V). w.desks) is) was

    in_round : calls.BeginsRound m by.middle id by.caller by.call new → AreIn m of by.middle.desks → AreIn m of new.desks
    in_round (calls.prepares desk now ballot round flow at up few begins sends is) mid = one_changed m of _ _ id _ _ (ap (λ (w : View S V). w.desks) is) at (up_kept m.disks tells up begins.drawn.goes_on) mid
    in_round (calls.proposes desk now ready ride round outcome flow at up few begins made sends is) mid =
        one_changed m of _ _ id _ _ (ap (λ (w : View S V). w.desks) is) at (up_kept m.disks tells up (goes_on m.disks desk.id desk.vault now.vault ride begins.drawn)) mid
    in_round (calls.stays told no_beginning no_round full is) mid = none_changed m of (ap (λ (w : View S V). w.desks) is) mid
    in_round (calls.spent desk now at none up no_promise spent kept now_is is) mid = one_changed m of _ _ id _ _ (ap (λ (w : View S V). w.desks) is) at (up_kept m.disks tells up kept.goes_on) mid
    in_round (calls.fails desk now at none up fails is) mid = one_changed m of _ _ id _ _ (ap (λ (w : View S V). w.desks) is) at (up_kept m.disks tells up fails.goes_on) mid
    in_round (calls.loses desk now ballot at none up loses is) mid =
        one_changed m of _ _ id _ _ (ap (λ (w : View S V). w.desks) is) at (up_kept m.disks tells up (then_on (goes_on m.disks desk.id desk.vault loses.middle ballot loses.drawn) loses.goes_on)) mid

no_begin_in : {S V : Type 0} (m : Meaning S V) (of : Course) (old new : View S V) (id : ℕ) (key : List ℕ) → m.disks.tells → calls.RefusesCall m old id key new → AreIn m of old.desks → AreIn m of new.desks
no_begin_in {S} {V} m of old new id key tells (calls.stays told council why rescan is) was = none_changed m of (ap (λ (w : View S V). w.desks) is) was
no_begin_in {S} {V} m of old new id key tells (calls.loses caller desk now ballot council at_caller at none up loses rescan is) was =
    one_changed m of _ _ id _ _ (ap (λ (w : View S V). w.desks) is) at (up_kept m.disks tells up (then_on (goes_on m.disks desk.id desk.vault loses.middle ballot loses.drawn) loses.goes_on)) was

turn_in : {S V : Type 0} (m : Meaning S V) (of : Course) (old new : View S V) (id : ℕ) (v : Verdict) → StepTurn m old id v new → AreIn m of old.desks → AreIn m of new.desks
turn_in {S} {V} m of old new id v by was = in_turn by.of_call by.front by.turn
  where
    in_turn : (of_call : OpenCallAt old id) (front : Message) → frames.TakesTurn m old id v front of_call.caller of_call.call new → AreIn m of new.desks
    in_turn at front (frames.held fall is) = none_changed m of (ap (λ (w : View S V). w.desks) is) was
    in_turn at front (frames.gone fall is) = none_changed m of (ap (λ (w : View S V). w.desks) is) was
    in_turn at front (frames.answers request acceptor now reply fall front_is there table is) = none_changed m of (ap (λ (w : View S V). w.desks) is) was
    in_turn at front (frames.finds_down request acceptor fall front_is there down is) = none_changed m of (ap (λ (w : View S V). w.desks) is) was
    in_turn at front (frames.brings_down request acceptor now fall front_is there stops is) = none_changed m of (ap (λ (w : View S V). w.desks) is) was
    in_turn at front (frames.arrives reply desk now round heard fall front_is there is_round hears is) =
        one_changed m of _ _ id _ _ (ap (λ (w : View S V). w.desks) is) there (same_kept m.disks is_round (ap (λ (d : DeskView V). d.vault) hears.desk)) was

no_room_in : {S V : Type 0} (m : Meaning S V) (of : Course) (old new : View S V) → frames.FindsNoRoom m old new → AreIn m of old.desks → AreIn m of new.desks
no_room_in {S} {V} m of old new (frames.stays is) was = none_changed m of (ap (λ (w : View S V). w.desks) is) was
no_room_in {S} {V} m of old new (frames.kept at acceptor now there finds is) was = none_changed m of (ap (λ (w : View S V). w.desks) is) was

propose_in : {S V : Type 0} (m : Meaning S V) (of : Course) (old new : View S V) (id : ℕ) → m.disks.tells → StepPropose m old id new → AreIn m of old.desks → AreIn m of new.desks
propose_in {S} {V} m of old new id tells by was = in_phase by.proposes
  where
    at : step.OpenRoundAt old id
    at = by.at_round

    in_phase : calls.ProposesOrEnds m old id at.desk at.round at.of_call.caller at.of_call.call new → AreIn m of new.desks
    in_phase (calls.proposes now turned read by ride outcome flow quorum confirmers reads turns made sends is) =
        one_changed m of _ _ id _ _ (ap (λ (w : View S V). w.desks) is) at.at_desk (up_kept m.disks tells at.up (goes_on m.disks at.desk.id at.desk.vault now.vault ride turns.drawn)) was
    in_phase (calls.ends now verdict told verdict_is refuses ends is) = one_changed m of _ _ id _ _ (ap (λ (w : View S V). w.desks) is) at.at_desk (up_kept m.disks tells at.up ends.goes_on) was
    in_phase (calls.fails now fails is) = one_changed m of _ _ id _ _ (ap (λ (w : View S V). w.desks) is) at.at_desk (up_kept m.disks tells at.up fails.goes_on) was
    in_phase (calls.loses now ballot loses is) =
        one_changed m of _ _ id _ _ (ap (λ (w : View S V). w.desks) is) at.at_desk (up_kept m.disks tells at.up (then_on (goes_on m.disks at.desk.id at.desk.vault loses.middle ballot loses.drawn) loses.goes_on)) was

count_in : {S V : Type 0} (m : Meaning S V) (of : Course) (old new : View S V) (id : ℕ) → m.disks.tells → StepCount m old id new → AreIn m of old.desks → AreIn m of new.desks
count_in {S} {V} m of old new id tells by was = in_phase by.counts
  where
    at : step.OpenRoundAt old id
    at = by.at_round

    in_phase : calls.CountsOrEnds m old id at.desk at.round at.of_call.caller at.of_call.call new → AreIn m of new.desks
    in_phase (calls.counts now by outcome quorum confirmers proposed ends is) = one_changed m of _ _ id _ _ (ap (λ (w : View S V). w.desks) is) at.at_desk (up_kept m.disks tells at.up ends.goes_on) was
    in_phase (calls.ends now verdict why verdict_is cause ends is) = one_changed m of _ _ id _ _ (ap (λ (w : View S V). w.desks) is) at.at_desk (up_kept m.disks tells at.up ends.goes_on) was

pub end_in : {S V : Type 0} (m : Meaning S V) (of : Course) (old new : View S V) (id : ℕ) (told : Answer) → m.disks.tells → StepEnd m old id told new → AreIn m of old.desks → AreIn m of new.desks
end_in {S} {V} m of old new id told tells by was = by_round by.ends.closed
  where
    desks : new.desks ≡ slice_set old.desks id by.ends.now
    desks = ap (λ (w : View S V). w.desks) by.ends.view

    by_round : ((by.ends.desk.round ≡ None) × (by.ends.now ≡ by.ends.desk)) ⊎ ((round : Round) × (by.ends.desk.round ≡ Some round) × EndsRound m.disks by.ends.desk by.ends.now round None) → AreIn m of new.desks
    by_round (inl none) = one_changed m of _ _ id _ _ desks by.ends.at_desk (unchanged m.disks none.1) was
    by_round (inr some) = one_changed m of _ _ id _ _ desks by.ends.at_desk (open_kept m.disks tells some.1 some.2.goes_on) was

stray_in : {S V : Type 0} (m : Meaning S V) (of : Course) (old new : View S V) (index : ℕ) (late : Message) → frames.Strays m old index late new → AreIn m of old.desks → AreIn m of new.desks
stray_in {S} {V} m of old new index late (frames.answers request acceptor now reply late_is at table is) was = none_changed m of (ap (λ (w : View S V). w.desks) is) was
stray_in {S} {V} m of old new index late (frames.brings_down request acceptor now late_is at stops is) was = none_changed m of (ap (λ (w : View S V). w.desks) is) was
stray_in {S} {V} m of old new index late (frames.arrives reply desk now round heard late_is at is_round hears is) was =
    one_changed m of _ _ reply.to _ _ (ap (λ (w : View S V). w.desks) is) at (same_kept m.disks is_round (ap (λ (d : DeskView V). d.vault) hears.desk)) was
stray_in {S} {V} m of old new index late (frames.drops ignored is) was = none_changed m of (ap (λ (w : View S V). w.desks) is) was

-- ---- stops
stop_in : {S V : Type 0} (m : Meaning S V) (of : Course) (old new : View S V) (id : ℕ) → StepCrashAcceptor m old id new → AreIn m of old.desks → AreIn m of new.desks
stop_in {S} {V} m of old new id (step.crashes acceptor now at crashes is) was = none_changed m of (ap (λ (w : View S V). w.desks) is) was

start_in : {S V : Type 0} (m : Meaning S V) (of : Course) (old new : View S V) (id : ℕ) → StepRestartAcceptor m old id new → AreIn m of old.desks → AreIn m of new.desks
start_in {S} {V} m of old new id (step.was_up acceptor at up is) was = none_changed m of (ap (λ (w : View S V). w.desks) is) was
start_in {S} {V} m of old new id (step.starts acceptor now at starts is) was = none_changed m of (ap (λ (w : View S V). w.desks) is) was
start_in {S} {V} m of old new id (step.fails acceptor now at fails is) was = none_changed m of (ap (λ (w : View S V). w.desks) is) was

pub crash_kept : {V : Type 0} (m : DiskMeaning V) {old new : DeskView V} → m.tells → Crashes m old new → KeepsEra m old new
crash_kept {V} m tells by = record {
  goes_on = by.goes_on.era tells;
  idles = λ down none idle. (ap (λ (d : DeskView V). d.down) by.crashed, ap (λ (d : DeskView V). d.cache) by.crashed, ap (λ (d : DeskView V). d.round) by.crashed);
}

-- what becomes of the desk that changes as it stops or moves on
pub left_in : {S V : Type 0} (m : Meaning S V) (of : Course) (DeskTurns : DeskView V → DeskView V → Type 0) (closed : CallView → CallView) (old new : View S V) (id : ℕ)
    → ((desk now : DeskView V) → IsAt old.desks id desk → DeskTurns desk now → IsInEra m of id now) → LeavesRound DeskTurns closed old id new → AreIn m of old.desks → AreIn m of new.desks
left_in {S} {V} m of DeskTurns closed old new id turns (stops.idle desk now at none by is) was = one_put m of _ _ id _ _ (ap (λ (w : View S V). w.desks) is) at (turns desk now at by) was
left_in {S} {V} m of DeskTurns closed old new id turns (stops.closes desk now round at_call at is_round by is) was = one_put m of _ _ id _ _ (ap (λ (w : View S V). w.desks) is) at (turns desk now at by) was

pub down_in : {S V : Type 0} (m : Meaning S V) (of : Course) (DeskTurns : DeskView V → DeskView V → Type 0) (old new : View S V) (id : ℕ)
    → ((desk now : DeskView V) → IsAt old.desks id desk → DeskTurns desk now → IsInEra m of id now) → GoesDown DeskTurns old id new → AreIn m of old.desks → AreIn m of new.desks
down_in m of DeskTurns old new id turns (stops.of_client client leaves) was = left_in m of DeskTurns closed_by_crash old new id turns leaves was
down_in {S} {V} m of DeskTurns old new id turns (stops.of_operator middle operator leaves is) was =
    none_changed m of (ap (λ (w : View S V). w.desks) is) (left_in m of DeskTurns closed_by_crash old middle id turns leaves was)

-- ---- the operator's calls
pub ask_in : {S V : Type 0} (m : Meaning S V) (of : Course) (old new : View S V) (question : Question) → m.disks.tells → StepAskAll m old question new → AreIn m of old.desks → AreIn m of new.desks
ask_in {S} {V} m of old new question tells by was = in_case by.asks
  where
    at : IsAt old.desks 0 by.desk
    at = by.may.at_desk

    in_case : council.AsksAll m old question by.desk new → AreIn m of new.desks
    in_case (council.asks now tag flow up room tagged now_is sends is) = one_changed m of _ _ 0 _ _ (ap (λ (w : View S V). w.desks) is) at (up_kept m.disks tells up (tag_goes_on m.disks (council.listing_for old.council question) by.desk now tag tagged.has_tag)) was
    in_case (council.is_down down is) = none_changed m of (ap (λ (w : View S V). w.desks) is) was
    in_case (council.is_full up full is) = none_changed m of (ap (λ (w : View S V). w.desks) is) was
    in_case (council.is_spent now up spent kept now_is is) = one_changed m of _ _ 0 _ _ (ap (λ (w : View S V). w.desks) is) at (up_kept m.disks tells up kept.goes_on) was
    in_case (council.fails now up fails is) = one_changed m of _ _ 0 _ _ (ap (λ (w : View S V). w.desks) is) at (up_kept m.disks tells up (where_drawn (council.listing_for old.council question) fails).goes_on) was
    in_case (council.no_memory now tag up loses is) =
        one_changed m of _ _ 0 _ _ (ap (λ (w : View S V). w.desks) is) at (up_kept m.disks tells up (then_on (goes_on m.disks by.desk.id by.desk.vault loses.middle tag loses.drawn) loses.goes_on)) was

ask_turn_in : {S V : Type 0} (m : Meaning S V) (of : Course) (old new : View S V) (v : Verdict) → StepTurnExchange m old v new → AreIn m of old.desks → AreIn m of new.desks
ask_turn_in {S} {V} m of old new v by was = in_turn by.turn
  where
    in_turn : council.TurnsExchange m old v by.front by.at.exchange new → AreIn m of new.desks
    in_turn (council.held fall is) = none_changed m of (ap (λ (w : View S V). w.desks) is) was
    in_turn (council.gone fall is) = none_changed m of (ap (λ (w : View S V). w.desks) is) was
    in_turn (council.answers request acceptor now reply fall front_is there table is) = none_changed m of (ap (λ (w : View S V). w.desks) is) was
    in_turn (council.finds_down request acceptor fall front_is there down is) = none_changed m of (ap (λ (w : View S V). w.desks) is) was
    in_turn (council.brings_down request acceptor now fall front_is there stops is) = none_changed m of (ap (λ (w : View S V). w.desks) is) was
    in_turn (council.arrives reply fall front_is to_it is) = none_changed m of (ap (λ (w : View S V). w.desks) is) was

pub gather_in : {S V : Type 0} (m : Meaning S V) (of : Course) (old new : View S V) → StepGather old new → AreIn m of old.desks → AreIn m of new.desks
gather_in {S} {V} m of old new by was = in_case by.gathers
  where
    in_case : council.Gathers old by.at.exchange new → AreIn m of new.desks
    in_case (council.crashed down is) = none_changed m of (ap (λ (w : View S V). w.desks) is) was
    in_case (council.probed key found up question plain keeps is) = none_changed m of (ap (λ (w : View S V). w.desks) is) was
    in_case (council.read key era found marks up question reads keeps counts is) = none_changed m of (ap (λ (w : View S V). w.desks) is) was
    in_case (council.lists lists_for listing up enough on is) = none_changed m of (ap (λ (w : View S V). w.desks) is) was
    in_case (council.is_short lists_for short up missing is) = none_changed m of (ap (λ (w : View S V). w.desks) is) was
    in_case (council.no_memory up is) = none_changed m of (ap (λ (w : View S V). w.desks) is) was

-- ---- all of them but those that lead on, and those of a collection
abbrev pub IsPlain : Event → Type 0
IsPlain (step.BeginCollect key) = ⊥
IsPlain step.ReadHeld = ⊥
IsPlain step.CountCollect = ⊥
IsPlain (step.EndCollect told) = ⊥
IsPlain step.GatherRound = ⊥
IsPlain (step.Renew proposer) = ⊥
IsPlain step.AskCollect = ⊥
IsPlain step.GatherCollect = ⊥
IsPlain step.MakeFloor = ⊥
IsPlain event = ⊤

pub desks_in : {S V : Type 0} (m : Meaning S V) (of : Course) (old new : View S V) (event : Event) → m.disks.tells → IsPlain event → Step m old event new → AreIn m of old.desks → Leads event ⊎ AreIn m of new.desks
desks_in m of old new (step.Begin id key program) tells plain by was = inr (begins_in m of old new id key program tells by was)
desks_in m of old new (step.RefuseBegin id key) tells plain by was = inr (no_begin_in m of old new id key tells by was)
desks_in m of old new (step.Turn id verdict) tells plain by was = inr (turn_in m of old new id verdict by was)
desks_in {S} {V} m of old new (step.RefuseTurn id) tells plain by was = inr (none_changed m of (ap (λ (w : View S V). w.desks) by.view) (no_room_in m of old by.middle by.refuses was))
desks_in m of old new (step.Propose id) tells plain by was = inr (propose_in m of old new id tells by was)
desks_in m of old new (step.Count id) tells plain by was = inr (count_in m of old new id tells by was)
desks_in m of old new (step.End id told) tells plain by was = inl tt
desks_in m of old new (step.Stray index) tells plain by was = inr (stray_in m of old new index by.late by.strays was)
desks_in m of old new step.RefuseStray tells plain by was = inr (no_room_in m of old new by was)
desks_in m of old new (step.CrashAcceptor id) tells plain by was = inr (stop_in m of old new id by was)
desks_in m of old new (step.RestartAcceptor id) tells plain by was = inr (start_in m of old new id by was)
desks_in m of old new (step.CrashProposer id) tells plain by was = inr (down_in m of (Crashes m.disks) old new id (λ desk now at crashes. era_kept m of id (crash_kept m.disks tells crashes) (was id desk at).1) by was)
desks_in m of old new (step.RestartProposer id) tells plain by was = inl tt
desks_in {S} {V} m of old new (step.Order asked) tells plain by was = inr (none_changed m of (ap (λ (w : View S V). w.desks) by.view) was)
desks_in {S} {V} m of old new step.RefuseOrder tells plain by was = inr (none_changed m of (ap (λ (w : View S V). w.desks) by) was)
desks_in m of old new (step.Tell told) tells plain by was = inl tt
desks_in m of old new (step.AskAll (Probe key)) tells plain by was = inr (ask_in m of old new (Probe key) tells by was)
desks_in m of old new (step.AskAll (NextKeys places)) tells plain by was = inl tt
desks_in m of old new (step.AskAll (NewAges key least)) tells plain by was = absurd by.may.is_for
desks_in m of old new (step.AskAll (Removal key)) tells plain by was = absurd by.may.is_for
desks_in m of old new (step.TurnExchange verdict) tells plain by was = inr (ask_turn_in m of old new verdict by was)
desks_in {S} {V} m of old new step.RefuseTurnExchange tells plain by was = inr (none_changed m of (ap (λ (w : View S V). w.desks) by.view) (no_room_in m of old by.middle by.refuses was))
desks_in m of old new step.Gather tells plain by was = inl tt
desks_in {S} {V} m of old new step.RefuseKey tells plain by was = inr (none_changed m of (ap (λ (w : View S V). w.desks) by.view) was)
desks_in m of old new step.OpenPlan tells plain by was = inl tt
desks_in m of old new (step.EnterEra id) tells plain by was = inl tt
desks_in m of old new (step.BeginCollect key) tells plain by was = absurd plain
desks_in m of old new step.ReadHeld tells plain by was = absurd plain
desks_in m of old new step.CountCollect tells plain by was = absurd plain
desks_in m of old new (step.EndCollect told) tells plain by was = absurd plain
desks_in m of old new step.GatherRound tells plain by was = absurd plain
desks_in m of old new (step.Renew proposer) tells plain by was = absurd plain
desks_in m of old new step.AskCollect tells plain by was = absurd plain
desks_in m of old new step.GatherCollect tells plain by was = absurd plain
desks_in m of old new step.MakeFloor tells plain by was = absurd plain
