-- What a collection does to a world: the calls that it makes, one after another.
use Rattle.std.specs.Prelude.{◌≡◌, ℕ, List, Some, IsSomeAnd}
use Rattle.cas_collect.specs.declared.collect.CollectStep.TheVariants.{End}
use Rattle.cas_record.specs.declared.answer.Answer.{Answer}
use Rattle.cas_record.specs.declared.answer.Answer.TheVariants as answer
use Rattle.cas_record.specs.declared.answer.Cause.{Cause}
use Rattle.cas_record.specs.declared.operator.Asked.TheVariants as asked
use Rattle.cas_record.specs.declared.operator.OpAnswer.{OpAnswer}
use Rattle.cas_record.specs.declared.operator.OpAnswer.TheVariants as op
use Rattle.cas_model.specs.Step.{Step, Order, RefuseOrder, Tell, Propose, Count, BeginCollect, ReadHeld, CountCollect, EndCollect, GatherRound, Renew, AskCollect, GatherCollect, MakeFloor}
use Rattle.cas_model.specs.Stops.Step.{OpenCallAt}
use Rattle.cas_model.specs.View.{Meaning, View, IsAt}
use Rattle.cas_proposer.specs.Desk.{DeskView}
use Rattle.cas_world.specs.Calls.Beginning.{HasNoCall}
use Rattle.cas_world.specs.Collection.Collect.{FindsHeld}
use Rattle.casreg_script.specs.Calls.Changes.{AreRoundsBy}
use Rattle.casreg_script.specs.Frames.Conditions.{NetworkView}
use Rattle.casreg_script.specs.Exchanges.Exchanges.{AsksMembers}
use Rattle.casreg_script.specs.Exchanges.Orders.{IsNotOrdered, ExchangeGoesOn}
use Rattle.casreg_script.specs.declared.halt.Halt.{Halt}

-- ---- the rounds of its call
-- it has a quorum, and a held state of this version would be read
pub record ReadsHeld {S V : Type 0} (view : View S V) (version : ℕ) : Type 0 where
  pub desk : DeskView V
  pub at_desk : IsAt view.desks 0 desk
  pub finds : FindsHeld desk version

-- A prepare phase that read a held state ends the call with it, and nothing is proposed. Any other ends as that of a change.
pub data EndsReading {S V : Type 0} (m : Meaning S V) (old new : View S V) : Type 0 where
  reads_held : (version : ℕ) → ReadsHeld old version → Step m old ReadHeld new → EndsReading m old new
  proposes : ((version : ℕ) → ReadsHeld old version → ⊥) → Step m old (Propose 0) new → EndsReading m old new

-- the call was told that it is unsettled
pub record IsUnsettled {S V : Type 0} (view : View S V) : Type 0 where
  pub of_call : OpenCallAt view 0
  pub why : Cause
  pub told : of_call.call.told ≡ Some (answer.Unsettled why)

-- An accept phase is counted for the collection where it is done, and otherwise as that of a change.
pub data EndsVoting {S V : Type 0} (m : Meaning S V) (old new : View S V) : Type 0 where
  acknowledges : Step m old CountCollect new → EndsVoting m old new
  leaves_open : Step m old (Count 0) new → IsUnsettled new → EndsVoting m old new

-- so many rounds at most, as a change has
abbrev pub AreTombstoneRounds : {S V : Type 0} → Meaning S V → List ℕ → ℕ → NetworkView → Halt → View S V → NetworkView → Halt → View S V → Type 0
AreTombstoneRounds m key = AreRoundsBy (λ before after. Step m before (BeginCollect key) after) (EndsReading m) (EndsVoting m) m 0

-- the call is begun, and has its rounds
pub record HasRounds {S V : Type 0} (m : Meaning S V) (tries : ℕ) (by : NetworkView) (key : List ℕ) (halt : Halt) (old : View S V) (next : NetworkView) (after : Halt) (new : View S V) : Type 0 where
  pub begun : View S V
  pub begins : Step m old (BeginCollect key) begun
  pub rounds : AreTombstoneRounds m key tries by halt begun next after new

-- It is ended by what it was told. No end is left for it where it was not begun, as the operator's call is told, or where a held state was
-- read.
pub data IsCalled {S V : Type 0} (m : Meaning S V) (tries : ℕ) (by : NetworkView) (key : List ℕ) (halt : Halt) (old : View S V) : NetworkView → Halt → View S V → Type 0 where
  over : {new : View S V} {next : NetworkView} {after : Halt} → HasRounds m tries by key halt old next after new → HasNoCall new 0 → IsCalled m tries by key halt old next after new
  ended : {told new : View S V} {next : NetworkView} {after : Halt} (answer : Answer) → HasRounds m tries by key halt old next after told → Step m told (EndCollect answer) new → IsCalled m tries by key halt old next after new

-- ---- its steps
-- The step that is due is taken: what the round came to is gathered, the next proposer is renewed, all members are asked, or the floor is
-- marked.
pub data TakesCollectStep {S V : Type 0} (m : Meaning S V) (by : NetworkView) (old : View S V) : NetworkView → View S V → Type 0 where
  gathers : {new : View S V} → Step m old GatherRound new → TakesCollectStep m by old by new
  renews : {new : View S V} (proposer : ℕ) → Step m old (Renew proposer) new → TakesCollectStep m by old by new
  asks : {next : NetworkView} {new : View S V} → AsksMembers m by AskCollect GatherCollect old next new → TakesCollectStep m by old next new
  marks : {new : View S V} → Step m old MakeFloor new → TakesCollectStep m by old by new

-- so it goes on, up to the first step that tells why it goes no further
pub data HasTaken {S V : Type 0} (m : Meaning S V) (by : NetworkView) (old : View S V) : NetworkView → View S V → Type 0 where
  none : HasTaken m by old by old
  one_more : {between next : NetworkView} {mid new : View S V} → HasTaken m by old between mid → ExchangeGoesOn mid → TakesCollectStep m between mid next new → HasTaken m by old next new

-- ---- the whole
-- its call comes first; then its steps are taken until one told why it goes no further, or it is at its end
pub record CollectsWhole {S V : Type 0} (m : Meaning S V) (tries : ℕ) (by : NetworkView) (key : List ℕ) (halt : Halt) (old : View S V) (next : NetworkView) (after : Halt) (new : View S V) : Type 0 where
  pub called : View S V
  pub between : NetworkView
  pub calls : IsCalled m tries by key halt old between after called
  pub takes : HasTaken m between called next new
  pub ends : ExchangeGoesOn new → IsSomeAnd new.council.collection (λ c. c.course.step ≡ End)

-- a collection of the key as a call of the operator, with its answer
pub data IsCollection {S V : Type 0} (m : Meaning S V) (tries : ℕ) (by : NetworkView) (key : List ℕ) (halt : Halt) (old : View S V) : OpAnswer → NetworkView → Halt → View S V → Type 0 where
  refused : {refusal : Answer} {new : View S V} → IsNotOrdered old refusal → Step m old RefuseOrder new → IsCollection m tries by key halt old (op.Stopped refusal) by halt new
  told : {ordered over new : View S V} {next : NetworkView} {after : Halt} {answer : OpAnswer} → Step m old (Order (asked.Collect key)) ordered → CollectsWhole m tries by key halt ordered next after over → Step m over (Tell answer) new
      → IsCollection m tries by key halt old answer next after new
