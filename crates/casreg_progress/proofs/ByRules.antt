-- A change whose frames rules decide of: no late frame strays in, and the rules stay.
use Rattle.std.proofs.Common.{◌≡◌, ◌-◌, ◌<◌, ℕ, Bool, true, false, Option, None, Some, List, [], refl, ap, subst}
use Rattle.cas_change.specs.declared.program.Clause.{Clause}
use Rattle.cas_fate.specs.declared.fate.Leg.{Leg}
use Rattle.cas_fate.specs.declared.fate.Verdict.{Verdict}
use Rattle.cas_flow.specs.Flow.{queue_at}
use Rattle.cas_flow.specs.Message.{head_of}
use Rattle.cas_flow.specs.declared.message.Message.{Message}
use Rattle.cas_record.specs.declared.answer.Answer.{Answer}
use Rattle.cas_model.specs.Step.{Step, Begin, RefuseBegin, Turn, RefuseTurn, End, CrashProposer}
use Rattle.cas_model.specs.View.{Meaning, View, IsAt}
use Rattle.casreg_script.specs.Calls.Changes as of
use Rattle.casreg_script.specs.Calls.Changes.{Strikes, IsInAcceptPhase, IsMet, IsRefused, ProposesAt, CountsAt}
use Rattle.casreg_script.specs.Frames.Conditions as conditions
use Rattle.casreg_script.specs.Frames.Conditions.{Rule, NetworkView, Ruled, Drawn, DecidesVerdict, Names, verdict_of, verdict_on}
use Rattle.casreg_script.specs.Frames.Strays as strays
use Rattle.casreg_script.specs.Frames.Strays.{LetsStrayIn}
use Rattle.casreg_script.specs.declared.halt.Halt.{Halt}

-- ---- turns
-- turns were made, each on the first frame of the proposer, of which became what the rules say
pub data TurnedByRules {S V : Type 0} (m : Meaning S V) (rules : List Rule) (id : ℕ) (old : View S V) : View S V → Type 0 where
  none : TurnedByRules m rules id old old
  one_more : {mid new : View S V} (frame : Message) → TurnedByRules m rules id old mid → IsAt (queue_at mid.flow id).messages 0 frame → Step m mid (Turn id (verdict_on rules frame)) new → TurnedByRules m rules id old new

-- until none waits
pub record AllTurnedByRules {S V : Type 0} (m : Meaning S V) (rules : List Rule) (id : ℕ) (old new : View S V) : Type 0 where
  pub turned : TurnedByRules m rules id old new
  pub none_waits : (queue_at new.flow id).messages ≡ []

-- after some turns one found no memory
pub record FailsToTurnByRules {S V : Type 0} (m : Meaning S V) (rules : List Rule) (id : ℕ) (old new : View S V) : Type 0 where
  pub mid : View S V
  pub turned : TurnedByRules m rules id old mid
  pub fails : Step m mid (RefuseTurn id) new

-- ---- the prepare phase
-- all turns were made, no halt struck, and the phase was ended so: it proposed, or its caller was told why not
pub record EndsPrepareByRules {S V : Type 0} (Ends : View S V → View S V → Type 0) (m : Meaning S V) (rules : List Rule) (id : ℕ) (halt : Halt) (old new : View S V) : Type 0 where
  pub turned : View S V
  pub turns : AllTurnedByRules m rules id old turned
  pub goes_on : Strikes halt turned id → ⊥
  pub proposes : Ends turned new

-- it is cut off before that: a turn finds no memory, or the proposer halts
pub data IsCutOffByRules {S V : Type 0} (m : Meaning S V) (rules : List Rule) (id : ℕ) (halt : Halt) (old : View S V) : Halt → View S V → Type 0 where
  no_memory : {new : View S V} → FailsToTurnByRules m rules id old new → IsCutOffByRules m rules id halt old halt new
  halts : {turned new : View S V} → AllTurnedByRules m rules id old turned → Strikes halt turned id → Step m turned (CrashProposer id) new → IsCutOffByRules m rules id halt old (record halt { after_prepare = false }) new

-- ---- the accept phase
-- it is cut off before it is counted: right after the proposal the proposer halts, if it is to, and its frames join the late ones; or a turn
-- finds no memory
pub data IsCutShortByRules {S V : Type 0} (m : Meaning S V) (rules : List Rule) (id : ℕ) (halt : Halt) (old : View S V) : Halt → View S V → Type 0 where
  halts : {new : View S V} → IsInAcceptPhase old id → halt.after_propose ≡ true → Step m old (CrashProposer id) new → IsCutShortByRules m rules id halt old (record halt { after_propose = false }) new
  no_memory : {new : View S V} → halt.after_propose ≡ false → FailsToTurnByRules m rules id old new → IsCutShortByRules m rules id halt old halt new

-- so it is, or all turns are made and what was accepted is counted
pub data IsAcceptedByRules {S V : Type 0} (Counts : View S V → View S V → Type 0) (m : Meaning S V) (rules : List Rule) (id : ℕ) (halt : Halt) (old : View S V) : Halt → View S V → Type 0 where
  cut_short : {after : Halt} {new : View S V} → IsCutShortByRules m rules id halt old after new → IsAcceptedByRules Counts m rules id halt old after new
  counts : {turned new : View S V} → halt.after_propose ≡ false → AllTurnedByRules m rules id old turned → Counts turned new → IsAcceptedByRules Counts m rules id halt old halt new

-- ---- rounds
-- the round that was begun, up to what its caller was told. A call that was told as it began why it has no round has none.
pub data IsRoundByRules {S V : Type 0} (Ends Counts : View S V → View S V → Type 0) (m : Meaning S V) (rules : List Rule) (id : ℕ) (halt : Halt) (old : View S V) : Halt → View S V → Type 0 where
  none_begun : IsRoundByRules Ends Counts m rules id halt old halt old
  -- it began by a promise, and proposed as it began
  by_promise : {after : Halt} {new : View S V} → IsAcceptedByRules Counts m rules id halt old after new → IsRoundByRules Ends Counts m rules id halt old after new
  cut_off : {after : Halt} {new : View S V} → IsCutOffByRules m rules id halt old after new → IsRoundByRules Ends Counts m rules id halt old after new
  ends_short : {new : View S V} → EndsPrepareByRules Ends m rules id halt old new → IsRoundByRules Ends Counts m rules id halt old halt new
  proposes : {after : Halt} {proposed new : View S V} → EndsPrepareByRules Ends m rules id halt old proposed → IsAcceptedByRules Counts m rules id halt proposed after new → IsRoundByRules Ends Counts m rules id halt old after new

-- so many rounds at most: another one is begun exactly where the last one ended with a conflict and tries are left
pub data AreRoundsByRules {S V : Type 0} (Begins Ends Counts : View S V → View S V → Type 0) (m : Meaning S V) (rules : List Rule) (id : ℕ) : ℕ → Halt → View S V → Halt → View S V → Type 0 where
  last : {tries : ℕ} {halt after : Halt} {old new : View S V} → IsRoundByRules Ends Counts m rules id halt old after new → (IsMet new id → tries ≡ 1) → AreRoundsByRules Begins Ends Counts m rules id tries halt old after new
  another : {tries : ℕ} {halt mid after : Halt} {old met begun new : View S V} → 1 < tries → IsRoundByRules Ends Counts m rules id halt old mid met → IsMet met id → Begins met begun
      → AreRoundsByRules Begins Ends Counts m rules id (tries - 1) mid begun after new → AreRoundsByRules Begins Ends Counts m rules id tries halt old after new

abbrev pub EndsPrepare : {S V : Type 0} → Meaning S V → List Rule → ℕ → Halt → View S V → View S V → Type 0
EndsPrepare m rules id = EndsPrepareByRules (ProposesAt m id) m rules id

abbrev pub IsAccepted : {S V : Type 0} → Meaning S V → List Rule → ℕ → Halt → View S V → Halt → View S V → Type 0
IsAccepted m rules id = IsAcceptedByRules (CountsAt m id) m rules id

abbrev pub IsRound : {S V : Type 0} → Meaning S V → List Rule → ℕ → Halt → View S V → Halt → View S V → Type 0
IsRound m rules id = IsRoundByRules (ProposesAt m id) (CountsAt m id) m rules id

abbrev pub AreRounds : {S V : Type 0} → Meaning S V → List Rule → ℕ → List ℕ → List Clause → ℕ → Halt → View S V → Halt → View S V → Type 0
AreRounds m rules id key program = AreRoundsByRules (λ before after. Step m before (Begin id key program) after) (ProposesAt m id) (CountsAt m id) m rules id

-- ---- a change
-- a change as the caller's next call, with its answer
pub data IsChangeByRules {S V : Type 0} (m : Meaning S V) (tries : ℕ) (rules : List Rule) (id : ℕ) (key : List ℕ) (program : List Clause) (halt : Halt) (old : View S V) : Answer → Halt → View S V → Type 0 where
  -- it is not begun, and no mark is made
  refused : {answer : Answer} {new : View S V} → IsRefused old id answer → Step m old (RefuseBegin id key) new → IsChangeByRules m tries rules id key program halt old answer halt new
  -- it is begun, has its rounds, and ends with the answer that it was told
  ended : {begun told new : View S V} {after : Halt} {answer : Answer} → Step m old (Begin id key program) begun → AreRounds m rules id key program tries halt begun after told → Step m told (End id answer) new
      → IsChangeByRules m tries rules id key program halt old answer after new

-- ---- networks of rules
rules_in : NetworkView → List Rule
rules_in (Ruled rules) = rules
rules_in (Drawn random) = []

names_by : (rules : List Rule) (late : ℕ) (by next : NetworkView) (place : Option ℕ) → by ≡ Ruled rules → Names late by place next → (place ≡ None) × (next ≡ Ruled rules)
names_by rules late by next place is conditions.none_by_rules = (refl, is)
names_by rules late by next place is conditions.by_draw_of_late = absurd (cc is)

lets_by : {S V : Type 0} (m : Meaning S V) (rules : List Rule) (by next : NetworkView) (old new : View S V) → by ≡ Ruled rules → LetsStrayIn m by old next new → (new ≡ old) × (next ≡ Ruled rules)
lets_by m rules by next old new is (strays.none names) = (refl, (names_by rules _ by next None is names).1)
lets_by m rules by next old new is (strays.one place answer names strays_in) = absurd (cc (names_by rules _ by next (Some place) is names).0)

decides_by : (rules : List Rule) (head : Leg × ℕ) (by next : NetworkView) (again : Bool) (verdict : Verdict) → by ≡ Ruled rules → DecidesVerdict head by again verdict next → (verdict ≡ verdict_of rules head.0 head.1) × (next ≡ Ruled rules)
unfolding rules_in
decides_by rules head by next again verdict is conditions.by_rules = (ap (λ (n : NetworkView). verdict_of (rules_in n) head.0 head.1) is, is)
decides_by rules head by next again verdict is conditions.by_draw = absurd (cc is)
decides_by rules head by next again verdict is conditions.repeats = absurd (cc is)

module _ {S V : Type 0} (m : Meaning S V) (rules : List Rule) (id : ℕ) where
  turned_by : (by : NetworkView) (old : View S V) (next : NetworkView) (again : Bool) (new : View S V) → by ≡ Ruled rules → of.Turned m by id old next again new → TurnedByRules m rules id old new × (next ≡ Ruled rules)
  turned_by by old next again new is of.none = (none, is)
  turned_by by old next again new is (of.one_more {before = before} {between = between} {again = was_again} {verdict = verdict} {mid = mid} {near = near} frame turned lets at decides step) =
      let first_ = turned_by by old before was_again mid is turned in
      let near_is = lets_by m rules before between mid near first_.1 lets in
      let says = decides_by rules (head_of frame) between next was_again verdict near_is.1 decides in (
        one_more frame first_.0 (subst (λ (w : View S V). IsAt (queue_at w.flow id).messages 0 frame) near_is.0 at)
            (subst (λ (w : View S V). Step m w (Turn id (verdict_on rules frame)) new) near_is.0 (subst (λ (v : Verdict). Step m near (Turn id v) new) says.0 step)),
        says.1,
      )

  all_by : (by next : NetworkView) (old new : View S V) → by ≡ Ruled rules → of.AllTurned m by id old next new → AllTurnedByRules m rules id old new × (next ≡ Ruled rules)
  all_by by next old new is all = let turned = turned_by by old next all.again new is all.turned in (record { turned = turned.0; none_waits = all.none_waits }, turned.1)

  fails_by : (by next : NetworkView) (old new : View S V) → by ≡ Ruled rules → of.FailsToTurn m by id old next new → FailsToTurnByRules m rules id old new × (next ≡ Ruled rules)
  fails_by by next old new is fails =
      let first_ = turned_by by old fails.before fails.again fails.mid is fails.turned in
      let near_is = lets_by m rules fails.before fails.between fails.mid fails.near first_.1 fails.lets_in in
      let says = decides_by rules (head_of fails.frame) fails.between next fails.again fails.verdict near_is.1 fails.decides in
      (record { mid = fails.mid; turned = first_.0; fails = subst (λ (w : View S V). Step m w (RefuseTurn id) new) near_is.0 fails.fails }, says.1)

module _ {S V : Type 0} (m : Meaning S V) (rules : List Rule) (id : ℕ) where
  ends_by : {Ends : View S V → View S V → Type 0} (by next : NetworkView) (halt : Halt) (old new : View S V) → by ≡ Ruled rules → of.EndsPrepareBy Ends m by id halt old next new → EndsPrepareByRules Ends m rules id halt old new × (next ≡ Ruled rules)
  ends_by by next halt old new is ends =
      let turns = all_by m rules id by next old ends.turned is ends.turns in
      (record { turned = ends.turned; turns = turns.0; goes_on = ends.goes_on; proposes = ends.proposes }, turns.1)

  cut_off_by : (by next : NetworkView) (halt after : Halt) (old new : View S V) → by ≡ Ruled rules → of.IsCutOff m by id halt old next after new → IsCutOffByRules m rules id halt old after new × (next ≡ Ruled rules)
  cut_off_by by next halt after old new is (of.no_memory fails) = let failed = fails_by m rules id by next old new is fails in (no_memory failed.0, failed.1)
  cut_off_by by next halt after old new is (of.halts {turned = turned} turns strikes step) = let all = all_by m rules id by next old turned is turns in (halts all.0 strikes step, all.1)

  cut_short_by : (by next : NetworkView) (halt after : Halt) (old new : View S V) → by ≡ Ruled rules → of.IsCutShort m by id halt old next after new → IsCutShortByRules m rules id halt old after new × (next ≡ Ruled rules)
  cut_short_by by next halt after old new is (of.halts accepting due step) = (halts accepting due step, is)
  cut_short_by by next halt after old new is (of.no_memory not_due fails) = let failed = fails_by m rules id by next old new is fails in (no_memory not_due failed.0, failed.1)

  accepted_by : {Counts : View S V → View S V → Type 0} (by next : NetworkView) (halt after : Halt) (old new : View S V) → by ≡ Ruled rules → of.IsAcceptedBy Counts m by id halt old next after new → IsAcceptedByRules Counts m rules id halt old after new × (next ≡ Ruled rules)
  accepted_by by next halt after old new is (of.cut_short cut) = let short = cut_short_by by next halt after old new is cut in (cut_short short.0, short.1)
  accepted_by by next halt after old new is (of.counts {turned = turned} not_due turns counted) = let all = all_by m rules id by next old turned is turns in (counts not_due all.0 counted, all.1)

  round_by : {Ends Counts : View S V → View S V → Type 0} (by next : NetworkView) (halt after : Halt) (old new : View S V) → by ≡ Ruled rules → of.IsRoundBy Ends Counts m by id halt old next after new → IsRoundByRules Ends Counts m rules id halt old after new × (next ≡ Ruled rules)
  round_by by next halt after old new is of.none_begun = (none_begun, is)
  round_by by next halt after old new is (of.by_promise accepted) = let so = accepted_by by next halt after old new is accepted in (by_promise so.0, so.1)
  round_by by next halt after old new is (of.cut_off cut) = let so = cut_off_by by next halt after old new is cut in (cut_off so.0, so.1)
  round_by by next halt after old new is (of.ends_short ends) = let so = ends_by by next halt old new is ends in (ends_short so.0, so.1)
  round_by by next halt after old new is (of.proposes {between = between} {proposed = proposed} ends accepted) =
      let first_ = ends_by by between halt old proposed is ends in
      let so = accepted_by between next halt after proposed new first_.1 accepted in
      (proposes first_.0 so.0, so.1)

  rounds_by : {Begins Ends Counts : View S V → View S V → Type 0} (tries : ℕ) (by next : NetworkView) (halt after : Halt) (old new : View S V) → by ≡ Ruled rules → of.AreRoundsBy Begins Ends Counts m id tries by halt old next after new → AreRoundsByRules Begins Ends Counts m rules id tries halt old after new × (next ≡ Ruled rules)
  rounds_by tries by next halt after old new is (of.last round ends) = let so = round_by by next halt after old new is round in (last so.0 ends, so.1)
  rounds_by tries by next halt after old new is (of.another {between = between} {mid = mid} {met = met} {begun = begun} many round is_met begins more) =
      let first_ = round_by by between halt mid old met is round in
      let so = rounds_by (tries - 1) between next mid after begun new first_.1 more in
      (another many first_.0 is_met begins so.0, so.1)

-- a change in a network of rules is one by them
pub change_by : {S V : Type 0} (m : Meaning S V) (tries : ℕ) (rules : List Rule) (next : NetworkView) (id : ℕ) (key : List ℕ) (program : List Clause) (halt after : Halt) (old new : View S V) (answer : Answer) → of.IsChange m tries (Ruled rules) id key program halt old answer next after new
    → IsChangeByRules m tries rules id key program halt old answer after new
change_by m tries rules next id key program halt after old new answer (of.refused is step) = refused is step
change_by m tries rules next id key program halt after old new answer (of.ended {begun = begun} {told = told} begins rounds ends) =
    ended begins (rounds_by m rules id tries (Ruled rules) next halt after begun told refl rounds).0 ends
