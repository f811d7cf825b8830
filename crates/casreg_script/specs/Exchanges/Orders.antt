-- How a call of the operator begins, and whether it goes on.
use Rattle.std.specs.Prelude.{◌≡◌, ℕ, ◌+◌, None, Some, length, false}
use Rattle.cas_record.specs.declared.answer.Answer.{Answer}
use Rattle.cas_record.specs.declared.answer.Answer.TheVariants.{RecordFull, NoMemory}
use Rattle.cas_record.specs.declared.operator.Asked.{Asked}
use Rattle.cas_model.specs.Council.{OrderView}
use Rattle.cas_model.specs.Calls.Step.{most_marks}
use Rattle.cas_model.specs.View.{View, reserved_in_all}
use Rattle.cas_world.specs.Calls.Beginning.{HasNoCall}

-- why it is not begun: the record is full, exactly where the marks that are made and all that are reserved are as many as it holds, or
-- there was no memory
pub data IsNotOrdered {S V : Type 0} (world : View S V) : Answer → Type 0 where
  full : length world.marks + reserved_in_all world ≡ most_marks → IsNotOrdered world RecordFull
  no_memory : (length world.marks + reserved_in_all world ≡ most_marks → ⊥) → IsNotOrdered world (NoMemory false)

-- it is open, and its last step did not tell why it goes no further
pub record ExchangeGoesOn {S V : Type 0} (view : View S V) : Type 0 where
  pub order : OrderView
  pub is_open : view.council.order ≡ Some order
  pub untold : order.told ≡ None

-- the same, where it was opened for just that
pub record IsOrdered {S V : Type 0} (view : View S V) (asked : Asked) : Type 0 where
  pub order : OrderView
  pub is_open : view.council.order ≡ Some order
  pub is_for : order.asked ≡ asked
  pub untold : order.told ≡ None

-- its next step may be taken: neither an exchange nor a call of caller 0 is open
pub record IsFree {S V : Type 0} (view : View S V) : Type 0 where
  pub quiet : view.council.exchange ≡ None
  pub idle : HasNoCall view 0

-- a caller that has no open call has none after it
pub record KeepsIdle {S V : Type 0} (old new : View S V) : Type 0 where
  pub last_proposer : new.last_proposer ≡ old.last_proposer
  pub idle : (id : ℕ) → HasNoCall old id → HasNoCall new id
