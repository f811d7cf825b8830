-- A world that nobody stops stays steady by each of its calls.
use Rattle.std.proofs.Common.{◌≡◌, ℕ, Bool, true, false, List, Option, None, Some, Result, Ok, Err, refl, sym, subst, inl, inr}
use Rattle.std.specs.Prelude.{OnOk, OnErr, if◌then◌else◌}
use Rattle.cas_change.specs.declared.program.Clause.{Clause}
use Rattle.cas_fate.specs.declared.fate.Verdict.{Verdict}
use Rattle.cas_record.specs.declared.answer.Answer.{Answer}
use Rattle.cas_record.specs.declared.answer.Answer.TheVariants as answer
use Rattle.cas_model.specs.Council.{ExchangeView}
use Rattle.cas_model.specs.Safe.{is_of_collection}
use Rattle.cas_model.specs.Step as step
use Rattle.cas_model.specs.Step.{Event, Step}
use Rattle.cas_model.specs.View.{Meaning, View}
use Rattle.cas_world.specs.Calls.Beginning.{BeginsOrNot}
use Rattle.cas_world.specs.Collection.Collect.{CountsTombstone}
use Rattle.cas_world.specs.Exchanges.Exchange.{asks_as, asking_of, gathering_by, gathering_of, refusal_of, turn_of}
use Rattle.cas_world.specs.declared.collect.Reading.{Reading}
use Rattle.cas_world.specs.declared.collect.Reading.TheVariants as reading
use Rattle.cas_world.specs.declared.exchange.Exchange.{Exchange}
use Rattle.cas_world.specs.declared.exchange.Exchange.TheVariants as this
use Rattle.cas_board_world.specs.Steady.{IsSteady, is_stop}
use Rattle.cas_board_world.proofs.Steps.{steady_then}

-- ---- which steps they are
asking_stops_none : {S V : Type 0} (view : View S V) (what : Exchange) → is_stop (asking_of view what) ≡ false
asking_stops_none view this.Ages = refl
asking_stops_none view this.Remove = refl
asking_stops_none view this.List = refl
asking_stops_none view (this.Probe key) = refl
asking_stops_none view (this.Read key) = refl

gathering_stops_none : (exchange : Option ExchangeView) → is_stop (gathering_by exchange) ≡ false
gathering_stops_none None = refl
gathering_stops_none (Some exchange) = by_test (is_of_collection exchange.question)
  where
    by_test : (b : Bool) → is_stop (if b then step.GatherCollect else step.Gather) ≡ false
    by_test true = refl
    by_test false = refl

pub asks_steady : {S V : Type 0} (m : Meaning S V) (old : View S V) (what : Exchange) (new : View S V) → IsSteady m old → Step m old (asking_of old what) new → IsSteady m new
asks_steady m old what new is by = steady_then m old (asking_of old what) new (asking_stops_none old what) is by

pub gathers_steady : {S V : Type 0} (m : Meaning S V) (old new : View S V) → IsSteady m old → Step m old (gathering_of old) new → IsSteady m new
gathers_steady m old new is by = steady_then m old (gathering_of old) new (gathering_stops_none old.council.exchange) is by

-- ---- calls of two steps
-- by one step after Ok, and by another after an Err
pub either_steady : {S V A E : Type 0} (m : Meaning S V) (old : View S V) (result : Result A E) (first second : Event) (new : View S V) → is_stop first ≡ false → is_stop second ≡ false → IsSteady m old → OnOk result (Step m old first new) → OnErr result (Step m old second new) → IsSteady m new
either_steady m old (Ok done) first second new none nobody is by other = steady_then m old first new none is by
either_steady m old (Err why) first second new none nobody is by other = steady_then m old second new nobody is other

turn_stops_none : {S V : Type 0} (view : View S V) (id : ℕ) (verdict : Verdict) → is_stop (turn_of view id verdict) ≡ false
turn_stops_none view id verdict = by_test (asks_as view.council.exchange id)
  where
    by_test : (b : Bool) → is_stop (if b then step.TurnExchange verdict else step.Turn id verdict) ≡ false
    by_test true = refl
    by_test false = refl

refusal_stops_none : {S V : Type 0} (view : View S V) (id : ℕ) → is_stop (refusal_of view id) ≡ false
refusal_stops_none view id = by_test (asks_as view.council.exchange id)
  where
    by_test : (b : Bool) → is_stop (if b then step.RefuseTurnExchange else step.RefuseTurn id) ≡ false
    by_test true = refl
    by_test false = refl

pub turns_steady : {S V A E : Type 0} (m : Meaning S V) (old : View S V) (id : ℕ) (verdict : Verdict) (result : Result A E) (new : View S V) → IsSteady m old → OnOk result (Step m old (turn_of old id verdict) new) → OnErr result (Step m old (refusal_of old id) new) → IsSteady m new
turns_steady m old id verdict result new is by other = either_steady m old result (turn_of old id verdict) (refusal_of old id) new (turn_stops_none old id verdict) (refusal_stops_none old id) is by other

pub begins_steady : {S V A : Type 0} (m : Meaning S V) (old : View S V) (id number : ℕ) (key : List ℕ) (program : List Clause) (result : Result A Answer) (new : View S V) → IsSteady m old → BeginsOrNot m old id number key program result new → IsSteady m new
begins_steady m old id number key program (Ok done) new is by = steady_then m old (step.Begin id key program) new refl is by.0
begins_steady m old id number key program (Err said) new is by = elim by [
  | inl began ↦ steady_then m old (step.Begin id key program) new refl is began.0
  | inr refused ↦ steady_then m old (step.RefuseBegin id key) new refl is refused.0
]

pub due_steady : {S V A E : Type 0} (m : Meaning S V) (old : View S V) (result : Result A E) (new : View S V) → IsSteady m old → OnOk result (new ≡ old) → OnErr result (Step m old step.RefuseKey new) → IsSteady m new
due_steady {S} {V} m old (Ok key) new is same other = subst (IsSteady m) (sym same) is
due_steady m old (Err why) new is same other = steady_then m old step.RefuseKey new refl is other

pub proposes_steady : {S V E : Type 0} (m : Meaning S V) (old : View S V) (result : Result Reading E) (new : View S V) {Also : Type 0} → IsSteady m old → (result ≡ Ok reading.Empty → Step m old (step.Propose 0) new × Also)
    → ((version : ℕ) → result ≡ Ok (reading.Held version) → Step m old step.ReadHeld new) → OnErr result (Step m old (step.Propose 0) new) → IsSteady m new
proposes_steady m old (Ok reading.Empty) new is empty held other = steady_then m old (step.Propose 0) new refl is (empty refl).0
proposes_steady m old (Ok (reading.Held version)) new is empty held other = steady_then m old step.ReadHeld new refl is (held version refl)
proposes_steady m old (Err why) new is empty held other = steady_then m old (step.Propose 0) new refl is other

pub counts_steady : {S V : Type 0} (m : Meaning S V) (old : View S V) (said : Answer) (new : View S V) → IsSteady m old → CountsTombstone m old said new → IsSteady m new
counts_steady m old (answer.Done state took ballot) new is by = steady_then m old step.CountCollect new refl is by
counts_steady m old said new is by = steady_then m old (step.Count 0) new refl is by
