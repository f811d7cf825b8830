-- How far a collection of the operator has come, as caller 0's own part tells, and what a hold does for it.
use Rattle.std.specs.Prelude.{◌≡◌, ◌⊎◌, ◌≤◌, ◌<◌, ⊤, ℕ, zero, suc, true, false, List, ◌++◌, Result, Ok, Err, None, Some}
use Rattle.cas_collect.specs.declared.collect.CollectStep.{CollectStep}
use Rattle.cas_collect.specs.declared.collect.CollectStep.TheVariants as step
use Rattle.cas_record.specs.declared.mark.Mark.{Mark}
use Rattle.cas_change.specs.declared.state.State.TheVariants.{Empty}
use Rattle.cas_record.specs.declared.mark.Mark.TheVariants.{Begun, Proposed, Ended, Harmed, Floor}
use Rattle.cas_record.specs.declared.operator.Asked.TheVariants as asked
use Rattle.cas_record.specs.declared.operator.OpAnswer.{OpAnswer}
use Rattle.cas_record.specs.declared.operator.OpAnswer.TheVariants as told
use Rattle.cas_model.specs.Collection.State.{CollectionView}
use Rattle.cas_model.specs.Council.{ExchangeView, Council}
use Rattle.cas_model.specs.Safe.{is_of_collection}
use Rattle.cas_model.specs.Collection.Step.{keep_always}
use Rattle.cas_model.specs.Step.{Step, EndCollect, Tell}
use Rattle.cas_model.specs.View.{Meaning, View}
use Rattle.cas_record.specs.declared.answer.Answer.{Answer}
use Rattle.cas_protocol.specs.Protocol.{is_done}
use Rattle.cas_world.specs.Collection.Collect.{IsCollectingCall, leaves_no_call}
use Rattle.cas_world.specs.Exchanges.Exchange.{WasToldOrder}
use Rattle.cas_world.specs.World.{WasTold}
use Rattle.cas_board_steps.specs.Calls.Conflicts.{is_conflict}
use Rattle.cas_board_steps.specs.Mine.{wants, wanted_by}
use Rattle.cas_board_steps.specs.Calls.Open.{rounds_in, is_met_in}
use Rattle.cas_board_steps.specs.Exchanges.Orders.{new_order, HasOrder, OperatesIn, IsToldIn}
use Rattle.cas_board_steps.specs.OwnParts.{call_part, round_part, council_part, own_part}
use Rattle.cas_board_steps.specs.declared.collections.Course.{Course}
use Rattle.cas_board_steps.specs.declared.collections.Course.TheVariants as course

-- ---- what is open
-- The operator's call collects the key, was told nothing, and that step of its collection is due; no change of membership is under way.
-- Its own part tells as much of the call of its round.
pub record CollectsAt (key : List ℕ) (due : CollectStep) (round : ℕ) (council : Council) : Type 0 where
  pub order : council.order ≡ Some (new_order (asked.Collect key))
  pub none_planned : council.plan ≡ None
  pub collection : CollectionView
  pub is_collection : council.collection ≡ Some collection
  pub is_due : collection.course.step ≡ due
  pub same_key : collection.course.key ≡ key
  pub round_is : round_part collection ≡ round

-- the call of its round is open, which the caller's newest mark of a beginning began
pub record HasTombstoneCall (key : List ℕ) (call : ℕ) (own : List ℕ) (marks : List Mark) : Type 0 where
  pub rounds : ℕ
  pub phase : ℕ
  pub council : Council
  pub is : own ≡ call_part call rounds phase ++ council_part council
  pub at : CollectsAt key step.Round 0 council
  pub none_asked : council.exchange ≡ None
  pub wanted : wanted_by 0 marks ≡ Some (wants call key keep_always)

-- how many rounds its call has at most where so many are given: one at least
abbrev pub most_rounds : ℕ → ℕ
most_rounds zero = 1
most_rounds (suc n) = suc n

-- that call has had so many rounds of those that it may have, and behind a conflict there is another
pub record HasRoundsWithin (tries rounds : ℕ) (own : List ℕ) : Type 0 where
  pub counted : rounds_in own ≡ rounds
  pub some : 1 ≤ rounds
  pub within : rounds ≤ tries
  pub more : is_met_in own ≡ true → rounds < tries

-- that step is due, and no exchange is open
pub record HasStep (key : List ℕ) (due : CollectStep) (own : List ℕ) : Type 0 where
  pub council : Council
  pub is : own ≡ council_part council
  pub at : CollectsAt key due 2 council
  pub none_asked : council.exchange ≡ None

-- the members were asked for that step
pub record HasQuestion (key : List ℕ) (due : CollectStep) (own : List ℕ) : Type 0 where
  pub council : Council
  pub is : own ≡ council_part council
  pub at : CollectsAt key due 2 council
  pub exchange : ExchangeView
  pub is_open : council.exchange ≡ Some exchange
  pub of_it : is_of_collection exchange.question ≡ true

-- the collection of the key has come so far, whose call may have so many rounds
abbrev pub HasCourse : List ℕ → ℕ → Course → List ℕ → List Mark → Type 0
HasCourse key tries course.Ordered own marks = HasOrder (asked.Collect key) own
HasCourse key tries (course.Buries call rounds) own marks = HasTombstoneCall key call own marks × HasRoundsWithin tries rounds own
HasCourse key tries course.TombstoneSet own marks = HasStep key step.Round own
HasCourse key tries course.Renews own marks = HasStep key step.Ages own ⊎ ((proposer : ℕ) × HasStep key (step.Renew proposer) own)
HasCourse key tries course.HearsAges own marks = HasQuestion key step.Ages own
HasCourse key tries course.Floors own marks = HasStep key step.Floor own
HasCourse key tries course.Removes own marks = HasStep key step.Remove own
HasCourse key tries course.HearsRemovals own marks = HasQuestion key step.Remove own

-- ---- what a hold does
-- It is of the call of the key's round, which changes no state and ends with no conflict; or it tells of a frame that was harmed; or it is the
-- key's floor, which holds the empty state.
abbrev pub IsTombstoneMark : List ℕ → Mark → Type 0
IsTombstoneMark key (Begun caller call other program) = (other ≡ key) × (program ≡ keep_always)
IsTombstoneMark key (Proposed p) = ⊤
IsTombstoneMark key (Ended caller call rounds answer) = is_conflict answer ≡ false
IsTombstoneMark key (Harmed caller call down) = ⊤
IsTombstoneMark key (Floor other ballot state) = (other ≡ key) × (state ≡ Empty)
IsTombstoneMark key other = ⊥

-- the same, but that call may end with a conflict once it has had so many rounds
abbrev pub IsCollectingMark : List ℕ → ℕ → Mark → Type 0
IsCollectingMark key tries (Begun caller call other program) = (other ≡ key) × (program ≡ keep_always)
IsCollectingMark key tries (Proposed p) = ⊤
IsCollectingMark key tries (Ended caller call rounds answer) = is_conflict answer ≡ true → rounds ≡ tries
IsCollectingMark key tries (Harmed caller call down) = ⊤
IsCollectingMark key tries (Floor other ballot state) = (other ≡ key) × (state ≡ Empty)
IsCollectingMark key tries other = ⊥

-- it is answered that the key is collected, or why it is not
abbrev pub IsCollectAnswer : List ℕ → OpAnswer → Type 0
IsCollectAnswer key (told.Collected other ballot removed kept) = other ≡ key
IsCollectAnswer key (told.Busy era) = ⊤
IsCollectAnswer key (told.NotEmpty version) = ⊤
IsCollectAnswer key (told.Absent acceptor) = ⊤
IsCollectAnswer key (told.ProposerDown proposer) = ⊤
IsCollectAnswer key (told.Stopped why) = ⊤
IsCollectAnswer key other = ⊥

-- The collection of the key goes on, and so far it has come then; or the operator was told its answer, and it is over. Such marks are
-- made, and so many losses at most are marked.
abbrev pub CollectsIn : {S V : Type 0} → List ℕ → ℕ → ℕ → View S V → View S V → Result Course OpAnswer → Type 0
CollectsIn key tries most old new (Ok course) = OperatesIn (IsTombstoneMark key) most old new × HasCourse key tries course (own_part new 0) new.marks
CollectsIn key tries most old new (Err answer) = IsToldIn (asked.Collect key) (IsCollectingMark key tries) most old new answer × IsCollectAnswer key answer

-- its call ends with that, and the operator is told that it stopped, and why
abbrev pub Stops : {S V : Type 0} → Meaning S V → View S V → Answer → View S V → Type 0
Stops {S} {V} m old answer new = (middle : View S V) × Step m old (EndCollect answer) middle × Step m middle (Tell (told.Stopped answer)) new

-- Its new call is refused so: it was not begun, as the operator's call was told; or it was begun, and was told that.
pub data IsRefusedTombstone {S V : Type 0} (view : View S V) (call : ℕ) (refusal : OpAnswer) : Type 0 where
  not_begun : leaves_no_call refusal ≡ true → WasToldOrder view refusal → IsRefusedTombstone view call refusal
  begun : (said : Answer) → refusal ≡ told.Stopped said → leaves_no_call refusal ≡ false → is_done said ≡ false → WasTold view 0 call said → IsCollectingCall view → IsRefusedTombstone view call refusal

-- the operator is told of it, and its call ends if it was begun
pub data TellsRefusal {S V : Type 0} (m : Meaning S V) (old : View S V) (refusal : OpAnswer) (new : View S V) : Type 0 where
  tells : leaves_no_call refusal ≡ true → Step m old (Tell refusal) new → TellsRefusal m old refusal new
  stops : (said : Answer) → refusal ≡ told.Stopped said → leaves_no_call refusal ≡ false → Stops m old said new → TellsRefusal m old refusal new
