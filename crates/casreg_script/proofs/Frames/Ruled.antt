-- Rules stay: whatever is run, a network of rules decides by them still.
use Rattle.std.proofs.Common.{◌≡◌, ℕ, Bool, List, Option, Result, Ok, Err, refl, sym, subst}
use Rattle.std.specs.Prelude.{⊤, IfOk, OnErr}
use Rattle.cas_change.specs.declared.program.Clause.{Clause}
use Rattle.cas_fate.specs.declared.fate.Leg.{Leg}
use Rattle.cas_fate.specs.declared.fate.Verdict.{Verdict}
use Rattle.cas_record.specs.declared.answer.Answer.{Answer}
use Rattle.cas_record.specs.declared.operator.Asked.{Asked}
use Rattle.cas_record.specs.declared.operator.Asked.{Asked}
use Rattle.cas_record.specs.declared.operator.Asked.TheVariants as asked
use Rattle.cas_record.specs.declared.operator.OpAnswer.{OpAnswer}
use Rattle.cas_record.specs.declared.read_answer.ReadAnswer.{ReadAnswer}
use Rattle.cas_model.specs.Step.{Event}
use Rattle.cas_model.specs.View.{Meaning, View}
use Rattle.casreg_script.specs.Calls.Changes as changes
use Rattle.casreg_script.specs.Calls.Changes.{Turned, FailsToTurn, EndsPrepareBy, IsCutOff, IsCutShort, IsAcceptedBy, IsRoundBy, AreRoundsBy, IsChange}
use Rattle.casreg_script.specs.Collection.Collections as collections
use Rattle.casreg_script.specs.Collection.Collections.{IsCalled, TakesCollectStep, HasTaken, IsCollection}
use Rattle.casreg_script.specs.Frames.Conditions as conditions
use Rattle.casreg_script.specs.Frames.Conditions.{Rule, NetworkView, Ruled, Drawn, DecidesVerdict, Names}
use Rattle.casreg_script.specs.Exchanges.Exchanges as exchanges
use Rattle.casreg_script.specs.Exchanges.Exchanges.{AskTurned, BreaksOffAsking, AsksMembers}
use Rattle.casreg_script.specs.Eras.Membership as membership
use Rattle.casreg_script.specs.Eras.Membership.{Advances, HasAdvanced, ChangesMembers}
use Rattle.casreg_script.specs.Frames.Network.{IsNetwork, NetworkLeaves, Through}
use Rattle.casreg_script.specs.Exchanges.Probes as probes
use Rattle.casreg_script.specs.Exchanges.Probes.{IsInquiry, IsProbe}
use Rattle.casreg_script.specs.Exchanges.Reads.{IsReadLine}
use Rattle.casreg_script.specs.Frames.Strays as strays
use Rattle.casreg_script.specs.Frames.Strays.{LetsStrayIn}
use Rattle.casreg_script.specs.declared.halt.Halt.{Halt}
use Rattle.casreg_script.specs.declared.network.Network.{Network}

-- ---- rules that stay
abbrev pub Stay : NetworkView → NetworkView → Type 0
Stay (Ruled rules) next = next ≡ Ruled rules
Stay (Drawn random) next = ⊤

pub stay_same : (by : NetworkView) → Stay by by
stay_same (Ruled rules) = refl
stay_same (Drawn random) = tt

pub stay_both : (by between next : NetworkView) → Stay by between → Stay between next → Stay by next
stay_both (Ruled rules) between next before after = subst (λ (v : NetworkView). Stay v next) before after
stay_both (Drawn random) between next before after = tt

decides_stay : (head : Leg × ℕ) (by next : NetworkView) (again : Bool) (verdict : Verdict) → DecidesVerdict head by again verdict next → Stay by next
decides_stay head by next again verdict conditions.by_rules = refl
decides_stay head by next again verdict conditions.by_draw = tt
decides_stay head by next again verdict conditions.repeats = tt

names_stay : (late : ℕ) (by next : NetworkView) (place : Option ℕ) → Names late by place next → Stay by next
names_stay late by next place conditions.none_by_rules = refl
names_stay late by next place conditions.by_draw_of_late = tt

lets_stay : {S V : Type 0} (m : Meaning S V) (by next : NetworkView) (old new : View S V) → LetsStrayIn m by old next new → Stay by next
lets_stay m by next old new (strays.none names) = names_stay _ by next _ names
lets_stay m by next old new (strays.one place answer names strays_in) = names_stay _ by next _ names

-- ---- turns
turned_stay : {S V : Type 0} (m : Meaning S V) (by : NetworkView) (id : ℕ) (old : View S V) (next : NetworkView) (again : Bool) (new : View S V) → Turned m by id old next again new → Stay by next
turned_stay m by id old next again new changes.none = stay_same by
turned_stay m by id old next again new (changes.one_more {before = before} {between = between} {mid = mid} {near = near} frame turned lets at decides step) =
    stay_both by before next (turned_stay m by id old before _ mid turned) (stay_both before between next (lets_stay m before between mid near lets) (decides_stay _ between next _ _ decides))

fails_stay : {S V : Type 0} (m : Meaning S V) (by next : NetworkView) (id : ℕ) (old new : View S V) → FailsToTurn m by id old next new → Stay by next
fails_stay m by next id old new of =
    stay_both by of.before next (turned_stay m by id old of.before of.again of.mid of.turned) (stay_both of.before of.between next (lets_stay m of.before of.between of.mid of.near of.lets_in) (decides_stay _ of.between next _ _ of.decides))

asked_stay : {S V : Type 0} (m : Meaning S V) (by : NetworkView) (old : View S V) (next : NetworkView) (again : Bool) (new : View S V) → AskTurned m by old next again new → Stay by next
asked_stay m by old next again new exchanges.none = stay_same by
asked_stay m by old next again new (exchanges.one_more {before = before} {between = between} {mid = mid} {near = near} frame turned lets at decides step) =
    stay_both by before next (asked_stay m by old before _ mid turned) (stay_both before between next (lets_stay m before between mid near lets) (decides_stay _ between next _ _ decides))

not_asked_stay : {S V : Type 0} (m : Meaning S V) (by next : NetworkView) (old new : View S V) → BreaksOffAsking m by old next new → Stay by next
not_asked_stay m by next old new of =
    stay_both by of.before next (asked_stay m by old of.before of.again of.mid of.turned) (stay_both of.before of.between next (lets_stay m of.before of.between of.mid of.near of.lets_in) (decides_stay _ of.between next _ _ of.decides))

-- ---- rounds
module _ {S V : Type 0} (m : Meaning S V) (id : ℕ) where
  ends_stay : {Ends : View S V → View S V → Type 0} (by next : NetworkView) (halt : Halt) (old new : View S V) → EndsPrepareBy Ends m by id halt old next new → Stay by next
  ends_stay by next halt old new of = turned_stay m by id old next of.turns.again of.turned of.turns.turned

  cut_off_stay : (by next : NetworkView) (halt after : Halt) (old new : View S V) → IsCutOff m by id halt old next after new → Stay by next
  cut_off_stay by next halt after old new (changes.no_memory fails) = fails_stay m by next id old new fails
  cut_off_stay by next halt after old new (changes.halts {turned = turned} turns strikes step) = turned_stay m by id old next turns.again turned turns.turned

  cut_short_stay : (by next : NetworkView) (halt after : Halt) (old new : View S V) → IsCutShort m by id halt old next after new → Stay by next
  cut_short_stay by next halt after old new (changes.halts accepting due step) = stay_same by
  cut_short_stay by next halt after old new (changes.no_memory not_due fails) = fails_stay m by next id old new fails

  accepted_stay : {Counts : View S V → View S V → Type 0} (by next : NetworkView) (halt after : Halt) (old new : View S V) → IsAcceptedBy Counts m by id halt old next after new → Stay by next
  accepted_stay by next halt after old new (changes.cut_short of) = cut_short_stay by next halt after old new of
  accepted_stay by next halt after old new (changes.counts {turned = turned} not_due turns counted) = turned_stay m by id old next turns.again turned turns.turned

  round_stay : {Ends Counts : View S V → View S V → Type 0} (by next : NetworkView) (halt after : Halt) (old new : View S V) → IsRoundBy Ends Counts m by id halt old next after new → Stay by next
  round_stay by next halt after old new changes.none_begun = stay_same by
  round_stay by next halt after old new (changes.by_promise accepted) = accepted_stay by next halt after old new accepted
  round_stay by next halt after old new (changes.cut_off of) = cut_off_stay by next halt after old new of
  round_stay by next halt after old new (changes.ends_short ends) = ends_stay by next halt old new ends
  round_stay by next halt after old new (changes.proposes {between = between} {proposed = proposed} ends accepted) = stay_both by between next (ends_stay by between halt old proposed ends) (accepted_stay between next halt after proposed new accepted)

  rounds_stay : {Begins Ends Counts : View S V → View S V → Type 0} (tries : ℕ) (by next : NetworkView) (halt after : Halt) (old new : View S V) → AreRoundsBy Begins Ends Counts m id tries by halt old next after new → Stay by next
  rounds_stay tries by next halt after old new (changes.last round ends) = round_stay by next halt after old new round
  rounds_stay tries by next halt after old new (changes.another {between = between} {mid = mid} {met = met} {begun = begun} many round is_met begins more) =
      stay_both by between next (round_stay by between halt mid old met round) (rounds_stay _ between next mid after begun new more)

-- ---- whole calls
pub change_stay : {S V : Type 0} (m : Meaning S V) (tries : ℕ) (by next : NetworkView) (id : ℕ) (key : List ℕ) (program : List Clause) (halt after : Halt) (old new : View S V) (answer : Answer) → IsChange m tries by id key program halt old answer next after new → Stay by next
change_stay m tries by next id key program halt after old new answer (changes.refused is step) = stay_same by
change_stay m tries by next id key program halt after old new answer (changes.ended {begun = begun} {told = told} begins rounds ends) = rounds_stay m id tries by next halt after begun told rounds

asks_stay : {S V : Type 0} (m : Meaning S V) (by next : NetworkView) (asks gathers : Event) (old new : View S V) → AsksMembers m by asks gathers old next new → Stay by next
asks_stay m by next asks gathers old new (exchanges.not_asked step none) = stay_same by
asks_stay m by next asks gathers old new (exchanges.no_memory {asked = asked} step fails) = not_asked_stay m by next asked new fails
asks_stay m by next asks gathers old new (exchanges.gathered {asked = asked} {turned = turned} step turns gathered) = asked_stay m by asked next turns.again turned turns.turned

inquiry_stay : {S V : Type 0} (m : Meaning S V) (by next : NetworkView) (what : Asked) (key : List ℕ) (old new : View S V) (answer : OpAnswer) → IsInquiry m by what key old answer next new → Stay by next
inquiry_stay m by next what key old new answer (probes.refused is step) = stay_same by
inquiry_stay m by next what key old new answer (probes.told {ordered = ordered} {asked_all = asked_all} orders asks tells) = asks_stay m by next _ _ ordered asked_all asks

pub probe_stay : {S V : Type 0} (m : Meaning S V) (by next : NetworkView) (key : List ℕ) (old new : View S V) (answer : OpAnswer) → IsProbe m by key old answer next new → Stay by next
probe_stay m by next key old new answer is = inquiry_stay m by next (asked.Probe key) key old new answer is

pub read_stay : {S V : Type 0} (m : Meaning S V) (by next : NetworkView) (key : List ℕ) (old new : View S V) (answer : ReadAnswer) → IsReadLine m by key old answer next new → Stay by next
read_stay m by next key old new answer is = inquiry_stay m by next (asked.Read key) key old new is.said is.inquiry

-- ---- collections
called_stay : {S V : Type 0} (m : Meaning S V) (tries : ℕ) (by next : NetworkView) (key : List ℕ) (halt after : Halt) (old new : View S V) → IsCalled m tries by key halt old next after new → Stay by next
called_stay m tries by next key halt after old new (collections.over rounds none) = rounds_stay m 0 tries by next halt after rounds.begun new rounds.rounds
called_stay m tries by next key halt after old new (collections.ended {told = told} answer rounds ends) = rounds_stay m 0 tries by next halt after rounds.begun told rounds.rounds

step_stay : {S V : Type 0} (m : Meaning S V) (by next : NetworkView) (old new : View S V) → TakesCollectStep m by old next new → Stay by next
step_stay m by next old new (collections.gathers step) = stay_same by
step_stay m by next old new (collections.renews proposer step) = stay_same by
step_stay m by next old new (collections.asks asks) = asks_stay m by next _ _ old new asks
step_stay m by next old new (collections.marks step) = stay_same by

taken_stay : {S V : Type 0} (m : Meaning S V) (by : NetworkView) (old : View S V) (next : NetworkView) (new : View S V) → HasTaken m by old next new → Stay by next
taken_stay m by old next new collections.none = stay_same by
taken_stay m by old next new (collections.one_more {between = between} {mid = mid} taken on step) = stay_both by between next (taken_stay m by old between mid taken) (step_stay m between next mid new step)

pub collection_stay : {S V : Type 0} (m : Meaning S V) (tries : ℕ) (by next : NetworkView) (key : List ℕ) (halt after : Halt) (old new : View S V) (answer : OpAnswer) → IsCollection m tries by key halt old answer next after new → Stay by next
collection_stay m tries by next key halt after old new answer (collections.refused is step) = stay_same by
collection_stay m tries by next key halt after old new answer (collections.told {ordered = ordered} {over = over} orders carried tells) =
    stay_both by carried.between next (called_stay m tries by carried.between key halt after ordered carried.called carried.calls) (taken_stay m carried.between carried.called next over carried.takes)

-- ---- changes of membership
advance_stay : {S V : Type 0} (m : Meaning S V) (tries : ℕ) (by next : NetworkView) (halt after : Halt) (old new : View S V) → Advances m tries by halt old next after new → Stay by next
advance_stay m tries by next halt after old new (membership.lists places settles none asks) = asks_stay m by next _ _ old new asks
advance_stay m tries by next halt after old new (membership.rescans key answer due change) = change_stay m tries by next 0 key _ halt after old new answer change
advance_stay m tries by next halt after old new (membership.no_memory step) = stay_same by
advance_stay m tries by next halt after old new (membership.enters proposer due step) = stay_same by

advanced_stay : {S V : Type 0} (m : Meaning S V) (tries : ℕ) (by : NetworkView) (halt : Halt) (old : View S V) (next : NetworkView) (after : Halt) (new : View S V) → HasAdvanced m tries by halt old next after new → Stay by next
advanced_stay m tries by halt old next after new membership.none = stay_same by
advanced_stay m tries by halt old next after new (membership.one_more {between = between} {before = before} {mid = mid} advanced on advance) =
    stay_both by between next (advanced_stay m tries by halt old between before mid advanced) (advance_stay m tries between next before after mid new advance)

pub membership_stay : {S V : Type 0} (m : Meaning S V) (tries : ℕ) (by next : NetworkView) (asked : Asked) (halt after : Halt) (old new : View S V) (answer : OpAnswer) → ChangesMembers m tries by asked halt old answer next after new → Stay by next
membership_stay m tries by next asked halt after old new answer (membership.refused is step) = stay_same by
membership_stay m tries by next asked halt after old new answer (membership.told {ordered = ordered} {over = over} orders carried tells) = advanced_stay m tries by halt carried.taken_up next after over carried.advances

-- ---- networks of rules
-- what holds of what decides then holds of the rules
pub record StillRuled (network : Network) (rules : List Rule) (P : NetworkView → Type 0) : Type 0 where
  pub is : IsNetwork network (Ruled rules)
  pub has : P (Ruled rules)

pub still_ruled : (network : Network) (rules : List Rule) (P : NetworkView → Type 0) → ((view : NetworkView) → P view → Stay (Ruled rules) view) → NetworkLeaves network P → StillRuled network rules P
still_ruled network rules P stays leaves = let same : leaves.view ≡ Ruled rules = stays leaves.view leaves.has in record { is = subst (IsNetwork network) same leaves.is; has = subst P same leaves.has }

-- a call that fails leaves the network as it is
pub ruled_after : {A E Q : Type 0} (r : Result A E) (old new : Network) (R : A → NetworkView → NetworkView → Type 0) → ((a : A) (by next : NetworkView) → R a by next → Stay by next) → (Q → new ≡ old) → IfOk r (λ a. Through old new (R a)) → OnErr r Q → (rules : List Rule) → IsNetwork old (Ruled rules) → IsNetwork new (Ruled rules)
ruled_after (Ok a) old new R stays same goes fails rules is = (still_ruled new rules (R a (Ruled rules)) (λ view. stays a (Ruled rules) view) (goes (Ruled rules) is)).is
ruled_after (Err e) old new R stays same goes fails rules is = subst (λ (n : Network). IsNetwork n (Ruled rules)) (sym (same fails)) is
