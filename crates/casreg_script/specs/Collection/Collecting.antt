-- How far a collection has come, as the operator's call leads it on.
use Rattle.std.specs.Prelude.{◌≡◌, ℕ, Bool, true, false, List, None, Some}
use Rattle.cas_model.specs.Collection.State.{CollectionView}
use Rattle.cas_model.specs.Council.{Council, OrderView}
use Rattle.cas_protocol.specs.Protocol.{is_done}
use Rattle.cas_model.specs.Collection.Step.{IsCollecting}
use Rattle.cas_model.specs.View.{View}
use Rattle.cas_world_calls.specs.Collecting.{is_sought}
use Rattle.cas_collect.specs.declared.collect.CollectStep.{CollectStep}
use Rattle.cas_collect.specs.declared.collect.CollectStep.TheVariants.{Round}
use Rattle.cas_record.specs.declared.answer.Answer.{Answer}
use Rattle.cas_record.specs.declared.operator.Asked.TheVariants as operator
use Rattle.cas_world.specs.Calls.Beginning.{HasNoCall}
use Rattle.casreg_script.specs.Calls.Playing.{AskedCall, HasBegun, IsPlaying, IsOver}

-- ---- within its call
-- the key's call is that of the collection, the operator's call was told nothing by its last step, and no change of membership is under way
pub record IsSeeking (council : Council) (key : List ℕ) : Type 0 where
  pub is : IsCollecting council key
  pub untold : is.at.order.told ≡ None
  pub none_planned : council.plan ≡ None

-- its round is open
pub record IsRunning {S V : Type 0} (view : View S V) (asked : AskedCall) : Type 0 where
  pub begun : HasBegun view 0 asked
  pub seeks : IsSeeking view.council asked.key

-- and is in its accept phase where the call has proposed something
pub record IsInRound {S V : Type 0} (view : View S V) (asked : AskedCall) (proposed : Bool) : Type 0 where
  pub plays : IsPlaying view 0 asked proposed
  pub seeks : IsSeeking view.council asked.key

-- it was told this, and where that is done it is known what became of its round
pub record HasStopped {S V : Type 0} (view : View S V) (asked : AskedCall) (told : Answer) : Type 0 where
  pub over : IsOver view 0 asked told
  pub seeks : IsSeeking view.council asked.key
  pub known : is_done told ≡ true → is_sought seeks.is.at.collection.tombstone ≡ false

-- ---- between its steps
-- The operator's call is for the key, and its last step told nothing. That step of its collection is due, and neither an exchange nor a call
-- of caller 0 is open.
pub record IsDue {S V : Type 0} (view : View S V) (key : List ℕ) (step : CollectStep) : Type 0 where
  pub order : OrderView
  pub is_open : view.council.order ≡ Some order
  pub is_for : order.asked ≡ operator.Collect key
  pub untold : order.told ≡ None
  pub collection : CollectionView
  pub is_collection : view.council.collection ≡ Some collection
  pub same_key : collection.course.key ≡ key
  pub is_due : collection.course.step ≡ step
  pub quiet : view.council.exchange ≡ None
  pub idle : HasNoCall view 0

-- its call is over, and it is known what became of its round
pub record IsTombstoneSet {S V : Type 0} (view : View S V) (key : List ℕ) : Type 0 where
  pub due : IsDue view key Round
  pub over : due.collection.calling ≡ false
  pub known : is_sought due.collection.tombstone ≡ false
