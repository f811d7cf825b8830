-- What a change of membership does to a world: the calls that it makes, one after another.
use Rattle.std.specs.Prelude.{◌≡◌, ◌⊎◌, ◌<◌, ℕ, List, length, Option, None, Some, IsSome}
use Rattle.cas_change.specs.declared.program.Act.TheVariants.{Keep}
use Rattle.cas_change.specs.declared.program.Guard.TheVariants.{Always}
use Rattle.cas_members.specs.declared.plan.PlanStep.TheVariants.{Settle, Finished}
use Rattle.cas_record.specs.declared.answer.Answer.{Answer}
use Rattle.cas_record.specs.declared.operator.Asked.{Asked}
use Rattle.cas_record.specs.declared.operator.OpAnswer.{OpAnswer}
use Rattle.cas_record.specs.declared.operator.OpAnswer.TheVariants as op
use Rattle.cas_model.specs.Council.{NextKeys, ListingView, MemberPlace, PlanView}
use Rattle.cas_model.specs.Step.{Step, Order, RefuseOrder, RefuseKey, Tell, AskAll, Gather, OpenPlan, EnterEra}
use Rattle.cas_model.specs.Exchanges.Step.{listing_in}
use Rattle.cas_model.specs.View.{Meaning, View}
use Rattle.cas_lines.specs.Command.{one}
use Rattle.cas_world_calls.specs.Council.{due_in}
use Rattle.cas_world.specs.Eras.Plans.{IsFor, step_of, entrant_of}
use Rattle.casreg_script.specs.Calls.Changes.{IsChange}
use Rattle.casreg_script.specs.Frames.Conditions.{NetworkView}
use Rattle.casreg_script.specs.Exchanges.Exchanges.{AsksMembers}
use Rattle.casreg_script.specs.Exchanges.Orders.{IsNotOrdered, ExchangeGoesOn}
use Rattle.casreg_script.specs.declared.halt.Halt.{Halt}

-- ---- its steps
-- The step that is due is taken. To settle an era, the members are asked for their next keys until a listing of it is complete, and each
-- key of that is proposed anew, by a call of caller 0 that leaves its state as it is, unless no memory is found for the key; an era is
-- entered by one proposer after another.
pub data Advances {S V : Type 0} (m : Meaning S V) (tries : ℕ) (by : NetworkView) (halt : Halt) (old : View S V) : NetworkView → Halt → View S V → Type 0 where
  lists : {next : NetworkView} {new : View S V} (places : List MemberPlace) → step_of old.council.plan ≡ Some Settle → due_in old.council.plan ≡ None → AsksMembers m by (AskAll (NextKeys places)) Gather old next new → Advances m tries by halt old next halt new
  rescans : {next : NetworkView} {new : View S V} {after : Halt} (key : List ℕ) (answer : Answer) → due_in old.council.plan ≡ Some key → IsChange m tries by 0 key (one Always Keep) halt old answer next after new → Advances m tries by halt old next after new
  no_memory : {new : View S V} → Step m old RefuseKey new → Advances m tries by halt old by halt new
  enters : {new : View S V} (proposer : ℕ) → entrant_of old.council.plan ≡ Some proposer → Step m old (EnterEra proposer) new → Advances m tries by halt old by halt new

-- so it goes on, up to the first step that tells why it goes no further
pub data HasAdvanced {S V : Type 0} (m : Meaning S V) (tries : ℕ) (by : NetworkView) (halt : Halt) (old : View S V) : NetworkView → Halt → View S V → Type 0 where
  none : HasAdvanced m tries by halt old by halt old
  one_more : {between next : NetworkView} {before after : Halt} {mid new : View S V} → HasAdvanced m tries by halt old between before mid → ExchangeGoesOn mid → Advances m tries between before mid next after new → HasAdvanced m tries by halt old next after new

-- ---- the whole
-- it goes on where it stopped, if it was opened for just that; otherwise it is opened
pub data IsTakenUp {S V : Type 0} (m : Meaning S V) (asked : Asked) (old : View S V) : View S V → Type 0 where
  resumes : IsFor old.council.plan asked → IsTakenUp m asked old old
  opens : {new : View S V} → (IsFor old.council.plan asked → ⊥) → Step m old OpenPlan new → IsTakenUp m asked old new

-- and advances until a step told why it goes no further, or it is at its end
pub record IsCarriedOut {S V : Type 0} (m : Meaning S V) (tries : ℕ) (by : NetworkView) (asked : Asked) (halt : Halt) (old : View S V) (next : NetworkView) (after : Halt) (new : View S V) : Type 0 where
  pub taken_up : View S V
  pub takes_up : IsTakenUp m asked old taken_up
  pub advances : HasAdvanced m tries by halt taken_up next after new
  pub over : ExchangeGoesOn new → step_of new.council.plan ≡ Some Finished

-- a change of membership as a call of the operator, with its answer
pub data ChangesMembers {S V : Type 0} (m : Meaning S V) (tries : ℕ) (by : NetworkView) (asked : Asked) (halt : Halt) (old : View S V) : OpAnswer → NetworkView → Halt → View S V → Type 0 where
  refused : {refusal : Answer} {new : View S V} → IsNotOrdered old refusal → Step m old RefuseOrder new → ChangesMembers m tries by asked halt old (op.Stopped refusal) by halt new
  told : {ordered over new : View S V} {next : NetworkView} {after : Halt} {answer : OpAnswer} → Step m old (Order asked) ordered → IsCarriedOut m tries by asked halt ordered next after over → Step m over (Tell answer) new
      → ChangesMembers m tries by asked halt old answer next after new

-- ---- what is left of it
-- how many of its steps
abbrev pub left_of : Option PlanView → ℕ
left_of None = 0
left_of (Some plan) = length plan.progress.left

abbrev pub steps_left : {S V : Type 0} → View S V → ℕ
steps_left view = left_of view.council.plan

-- how many keys are listed
abbrev pub listed_in : Option ListingView → ℕ
listed_in None = 0
listed_in (Some listing) = length listing.keys

abbrev pub keys_listed : {S V : Type 0} → View S V → ℕ
keys_listed view = listed_in (listing_in view.council.plan)

-- A step was taken, or the listing of the era is complete, and a key of it is due.
abbrev pub TakesStep : {S V : Type 0} → View S V → View S V → Type 0
TakesStep old new = (steps_left new < steps_left old) ⊎ IsSome (due_in new.council.plan)
