-- What the steps of a collection make of what the operator has under way.
use Rattle.std.specs.Prelude.{◌≡◌, ℕ, false, Bool, true, List, Option, None, Some, option_map, Result, Ok, Err, length}
use Rattle.cas_ballot.specs.declared.ballot.Ballot.{Ballot}
use Rattle.cas_ballot.specs.Members.{has_member}
use Rattle.cas_change.specs.declared.state.State.TheVariants.{Empty, Held}
use Rattle.cas_collect.specs.declared.collect.CollectStep.{CollectStep}
use Rattle.cas_collect.specs.declared.collect.CollectStep.TheVariants.{Ages, Remove}
use Rattle.cas_slot.specs.declared.message.Tell.{Tell}
use Rattle.cas_record.specs.declared.answer.Answer.{Answer}
use Rattle.cas_record.specs.declared.answer.Answer.TheVariants as answer
use Rattle.cas_record.specs.declared.operator.OpAnswer.{OpAnswer}
use Rattle.cas_record.specs.declared.operator.OpAnswer.TheVariants as op
use Rattle.cas_model.specs.Collection.State as cluster
use Rattle.cas_model.specs.Collection.State.{CollectionView, called, confirmed_step}
use Rattle.cas_model.specs.Council as councils
use Rattle.cas_model.specs.Council.{ExchangeView, OrderView, Question, telling, hushed}
use Rattle.cas_model.specs.Collection.Step.{IsLeastWithout, confirms, confirmers_in, is_removed, is_kept, those_telling, stopped_by}
use Rattle.cas_world_calls.specs.declared.council.Gathered.{Gathered}
use Rattle.cas_world_calls.specs.declared.council.Gathered.TheVariants as gathered
use Rattle.cas_world_calls.specs.declared.collecting.Saying.{Saying}
use Rattle.cas_world_calls.specs.declared.collecting.Saying.TheVariants as saying

-- ---- its call
-- it goes on so
abbrev pub with_collection : councils.Council → (CollectionView → CollectionView) → councils.Council
with_collection council next = record council { collection = option_map next council.collection }

-- its round read a held state
abbrev pub found_held : ℕ → CollectionView → CollectionView
found_held version collection = record collection { tombstone = cluster.FoundHeld version }

-- the empty state was acknowledged
abbrev pub acknowledged_by : Ballot → List ℕ → CollectionView → CollectionView
acknowledged_by ballot by collection = record collection { tombstone = cluster.Acknowledged ballot by; reserved = 1 }

-- what its round came to, where that is counted with this answer, and these confirmed
abbrev pub counted_in : councils.Council → Answer → List ℕ → councils.Council
counted_in council (answer.Done Empty took ballot) by = with_collection (hushed council) (acknowledged_by ballot by)
counted_in council (answer.Done (Held version body) took ballot) by = with_collection (hushed council) (found_held version)
counted_in council other by = council

-- its call ends with this answer
abbrev pub last_told : Option OpAnswer → OrderView → OrderView
last_told told order = record order { told = told }

abbrev pub ended_in : councils.Council → Answer → councils.Council
ended_in council told = record (with_collection council called) { order = option_map (last_told (stopped_by told)) council.order }

-- ---- what came of its round
-- it is known: a held state was read, or the empty state acknowledged
abbrev pub is_sought : cluster.Tombstone → Bool
is_sought cluster.Sought = true
is_sought other = false

-- each of those who accept acknowledged the tombstone, and the next step is due; or one did not; or a held state was read
pub data GathersRoundAs (acc : List ℕ) (old : councils.Council) (result : Result Gathered OpAnswer) (new : councils.Council) : Type 0 where
  all : (collection : CollectionView) (ballot : Ballot) (by : List ℕ) → old.collection ≡ Some collection → collection.tombstone ≡ cluster.Acknowledged ballot by → ((acceptor : ℕ) → has_member acc acceptor ≡ true → has_member by acceptor ≡ true)
      → result ≡ Ok (gathered.All 0 0) → new ≡ record (hushed old) { collection = Some (confirmed_step collection) } → GathersRoundAs acc old result new
  is_absent : (collection : CollectionView) (ballot : Ballot) (by : List ℕ) (acceptor : ℕ) → old.collection ≡ Some collection → collection.tombstone ≡ cluster.Acknowledged ballot by → IsLeastWithout acc by acceptor
      → result ≡ Err (op.Absent acceptor) → new ≡ telling old (op.Absent acceptor) → GathersRoundAs acc old result new
  is_held : (collection : CollectionView) (version : ℕ) → old.collection ≡ Some collection → collection.tombstone ≡ cluster.FoundHeld version → result ≡ Err (op.NotEmpty version) → new ≡ telling old (op.NotEmpty version) → GathersRoundAs acc old result new

-- ---- its exchanges
-- the step that is due asks members
abbrev pub asks_at : CollectStep → Bool
asks_at Ages = true
asks_at Remove = true
asks_at other = false

-- what a member may say to its question
abbrev pub says : Question → Saying → Option Tell → Bool
says question saying.Confirmed told = confirms question told
says question saying.Removed told = is_removed told
says question saying.Kept told = is_kept told

-- each member confirmed what it was asked, and the next step is due; or one did not; or proposer 0 crashed
pub data GathersCollectAs (exchange : ExchangeView) (old : councils.Council) (result : Result Gathered OpAnswer) (new : councils.Council) : Type 0 where
  crashed : exchange.crashed ≡ true → result ≡ Err (op.Stopped answer.Crashed) → new ≡ record (telling old (op.Stopped answer.Crashed)) { exchange = None } → GathersCollectAs exchange old result new
  all : (collection : CollectionView) → exchange.crashed ≡ false → old.collection ≡ Some collection
      → ((acceptor : ℕ) → has_member exchange.members acceptor ≡ true → has_member (confirmers_in exchange.question exchange.told) acceptor ≡ true)
      → result ≡ Ok (gathered.All (length (those_telling is_removed exchange.told)) (length (those_telling is_kept exchange.told)))
      → new ≡ record (hushed old) { exchange = None; collection = Some (record (confirmed_step collection) { removed = length (those_telling is_removed exchange.told); kept = length (those_telling is_kept exchange.told) }) }
      → GathersCollectAs exchange old result new
  is_absent : (acceptor : ℕ) → exchange.crashed ≡ false → IsLeastWithout exchange.members (confirmers_in exchange.question exchange.told) acceptor
      → result ≡ Err (op.Absent acceptor) → new ≡ record (telling old (op.Absent acceptor)) { exchange = None } → GathersCollectAs exchange old result new
