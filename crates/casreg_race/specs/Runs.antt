-- What the callers of a race are asked and answered, and what of their own marks tells it.
use Rattle.std.specs.Prelude.{◌≡◌, ◌≤◌, ◌+◌, ℕ, suc, true, List, [], ◌∷◌, ◌++◌, length, All, Option, Some, None, IfSome, IfOk, Result, slice_get}
use Rattle.cas_ballot.specs.Members.{IsMemberSet}
use Rattle.cas_change.specs.declared.program.Clause.{Clause}
use Rattle.cas_record.specs.declared.answer.Answer.{Answer}
use Rattle.cas_record.specs.declared.mark.Mark.{Mark}
use Rattle.cas_record.specs.declared.mark.Mark.TheVariants.{Begun, Ended}
use Rattle.cas_record.specs.declared.operator.Asked.{Asked}
use Rattle.cas_record.specs.declared.operator.Asked.TheVariants as ask
use Rattle.cas_record.specs.declared.operator.OpAnswer.{OpAnswer}
use Rattle.cas_record.specs.declared.operator.OpAnswer.TheVariants.{Stopped}
use Rattle.cas_model.specs.Exchanges.Step.{told_marks}
use Rattle.cas_turn.specs.Seen.{Begins}
use Rattle.cas_turn.specs.Sitting.{Sitting, Turning}
use Rattle.cas_board_steps.specs.Collection.Collecting.{IsCollectingMark, IsCollectAnswer}
use Rattle.cas_board_steps.specs.Calls.Conflicts.{is_conflict}
use Rattle.cas_board_steps.specs.Eras.Counting.{count_told, HasRisen, LeavesNone}
use Rattle.cas_board_steps.specs.Calls.Changes.{IsRefusalBehind}
use Rattle.cas_board_steps.specs.Eras.Membership.{IsMembersAnswer, IsRescanMark}
use Rattle.cas_board_steps.specs.Mine.{mine, AreOfCall, losses, done_calls, FrontGoesOn}
use Rattle.cas_board_steps.specs.Calls.Open.{NothingIsOpen, rescanned_in}
use Rattle.cas_board_steps.specs.Exchanges.Orders.{IsAgreedIn, IsAskingHarm, IsProbeAnswer, IsSilentAtMost, IsTrueProbe}
use Rattle.cas_board.specs.Changes.{IsCounted}
use Rattle.cas_board.specs.Looks.{told_by_look}
use Rattle.cas_board.specs.Passes.{IsPassOf}
use Rattle.cas_board.specs.declared.probing.Look.{Look}
use Rattle.cas_read.specs.Read.{answer_by, IsAnswerSo}
use Rattle.casreg_tasks.specs.Tasks.{tasks_of}
use Rattle.casreg_tasks.specs.declared.tasks.Task.{Task}
use Rattle.casreg_tasks.specs.declared.tasks.Task.TheVariants as task
use Rattle.casreg_race.specs.declared.told.Told.{Told}
use Rattle.casreg_race.specs.declared.told.Told.TheVariants as said

-- ---- what is asked
-- what a task asks the operator for
abbrev pub asked_by : Task → Option Asked
asked_by (task.Change key program) = None
asked_by (task.Join id) = Some (ask.Join id)
asked_by (task.Leave id) = Some (ask.Leave id)
asked_by (task.Resize need_prep need_acc) = Some (ask.Resize need_prep need_acc)
asked_by (task.Collect key) = Some (ask.Collect key)
asked_by (task.Probe key) = Some (ask.Probe key)
asked_by (task.Read key) = Some (ask.Read key)

-- the operator, who is caller 0, alone is asked for what is an operator's
abbrev pub IsMeantFor : ℕ → Task → Type 0
IsMeantFor n asked = IfSome (asked_by asked) (λ other. n ≡ 0)

-- ---- what the marks tell
-- In a record of so many marks, the caller's marks of one change: those of one call, of which the first tells what it is for and the last what it was answered; one that
-- ended with a conflict had all its tries. Or there is none, and the change was refused before it was begun.
pub data ChangeIsAnswered (made tries n : ℕ) (key : List ℕ) (program : List Clause) (answered : Answer) : List Mark → Type 0 where
  is_called : (call rounds : ℕ) (between : List Mark) → AreOfCall call between → (is_conflict answered ≡ true → rounds ≡ tries) → ChangeIsAnswered made tries n key program answered (Begun n call key program ∷ between ++ Ended n call rounds answered ∷ [])
  is_turned_away : IsRefusalBehind made answered → ChangeIsAnswered made tries n key program answered []

-- A mark of the operator's that a call for this may make before the one that tells its answer. Where it ends a caller's call with a conflict,
-- that had all its tries.
abbrev pub IsOrderMark : ℕ → Asked → Mark → Type 0
IsOrderMark tries (ask.Join id) = IsRescanMark tries
IsOrderMark tries (ask.Leave id) = IsRescanMark tries
IsOrderMark tries (ask.Resize need_prep need_acc) = IsRescanMark tries
IsOrderMark tries (ask.Collect key) = IsCollectingMark key tries
IsOrderMark tries (ask.Probe key) = IsAskingHarm
IsOrderMark tries (ask.Read key) = IsAskingHarm

-- In such a record, the operator's marks of one call: such marks, and last the one that bears what was asked and what was answered; what a probe found is not
-- marked. Or there is none, and the call was refused before it was begun.
pub data IsOperated (made tries : ℕ) (asked : Asked) (answered : OpAnswer) : List Mark → Type 0 where
  is_told : (before : List Mark) → All (IsOrderMark tries asked) before → IsOperated made tries asked answered (before ++ told_marks asked answered)
  is_not_begun : (why : Answer) → IsRefusalBehind made why → answered ≡ Stopped why → IsOperated made tries asked answered []

-- it names the key, and acceptors in rising order, each once; or it says what stopped the call
abbrev pub NamesMembers : List ℕ → OpAnswer → Type 0
NamesMembers key answered = (members : List ℕ) × IsMemberSet members × IsProbeAnswer key members answered

-- A probe that made these marks of its own, and before which the caller had made those: no more members told nothing than it made marks. Where
-- disks tell what they keep, what it found is true of a front of the record, and at or above what was acknowledged in the one with which it
-- began, in which all the earlier marks stand.
pub record ProbeIsTrue (tells : Type 0) (all : List Mark) (n : ℕ) (earlier own : List Mark) (answered : OpAnswer) : Type 0 where
  pub before : List Mark
  pub front : List Mark
  pub goes_on : Begins before front
  pub begins : Begins front all
  pub made : mine n before ≡ earlier
  pub silent : IsSilentAtMost (length own) answered
  pub truly : tells → IsTrueProbe before front answered

-- The same of a read, whose answer is made from what its members agree on in that front. Where disks tell what they keep, it is so by that
-- front and by the one with which the read began.
pub record ReadIsTrue (tells : Type 0) (all : List Mark) (n : ℕ) (earlier own : List Mark) (key : List ℕ) (looked : Result Look Answer) : Type 0 where
  pub before : List Mark
  pub front : List Mark
  pub goes_on : Begins before front
  pub begins : Begins front all
  pub made : mine n before ≡ earlier
  pub silent : IsSilentAtMost (length own) (told_by_look key looked)
  pub found : tells → IsTrueProbe before front (told_by_look key looked)
  pub agrees : IfOk looked (λ look. IsAgreedIn tells tells front look.found look.agreement)
  pub truly : tells → IsAnswerSo before front (answer_by key looked)

-- The answer names the acceptor or the key that was asked for, or says what stopped the call. A probe asked all members for the key, and tells
-- what each of them told. A read is answered otherwise.
abbrev pub AnswersOrder : Type 0 → List Mark → ℕ → List Mark → List Mark → Asked → OpAnswer → Type 0
AnswersOrder tells all n earlier own (ask.Join id) answered = IsMembersAnswer (ask.Join id) answered
AnswersOrder tells all n earlier own (ask.Leave id) answered = IsMembersAnswer (ask.Leave id) answered
AnswersOrder tells all n earlier own (ask.Resize need_prep need_acc) answered = IsMembersAnswer (ask.Resize need_prep need_acc) answered
AnswersOrder tells all n earlier own (ask.Collect key) answered = IsCollectAnswer key answered
AnswersOrder tells all n earlier own (ask.Probe key) answered = NamesMembers key answered × ProbeIsTrue tells all n earlier own answered
AnswersOrder tells all n earlier own (ask.Read key) answered = ⊥

-- the caller's marks of one task, with what it was answered, in a record with these marks
pub data TaskIsAnswered (tells : Type 0) (all : List Mark) (tries n : ℕ) (earlier : List Mark) : Task → Told → List Mark → Type 0 where
  is_change : {key : List ℕ} {program : List Clause} {answered : Answer} {own : List Mark} → ChangeIsAnswered (length all) tries n key program answered own → TaskIsAnswered tells all tries n earlier (task.Change key program) (said.Change answered) own
  is_operated : {asked : Asked} {order : Task} {answered : OpAnswer} {own : List Mark} → asked_by order ≡ Some asked → IsOperated (length all) tries asked answered own → AnswersOrder tells all n earlier own asked answered → TaskIsAnswered tells all tries n earlier order (said.Operator answered) own
  is_read : {key : List ℕ} {looked : Result Look Answer} {own : List Mark} → IsOperated (length all) tries (ask.Read key) (told_by_look key looked) own → NamesMembers key (told_by_look key looked) → ReadIsTrue tells all n earlier own key looked → TaskIsAnswered tells all tries n earlier (task.Read key) (said.Read (answer_by key looked)) own

-- ---- what a change of membership counts
-- A call for a join or a leave that made these marks of its own adds one for each call of caller 0 that was answered done in it to the number
-- of keys that the change had proposed anew before. It tells the sum at the end of the change, behind which none is kept; else the sum is kept.
abbrev pub CountsOn : ℕ → OpAnswer → List Mark → ℕ → Type 0
CountsOn before answered own next = HasRisen before 0 (done_calls own) (count_told answered next) × LeavesNone answered next

-- any other task leaves the number
abbrev pub IsCountedOn : ℕ → Task → Told → List Mark → ℕ → Type 0
IsCountedOn before (task.Join id) (said.Operator answered) own next = CountsOn before answered own next
IsCountedOn before (task.Leave id) (said.Operator answered) own next = CountsOn before answered own next
IsCountedOn before (task.Resize need_prep need_acc) (said.Operator answered) own next = CountsOn before answered own next
IsCountedOn before other answered own next = next ≡ before

-- The caller's marks of its tasks, one after another behind its first ones, with these answers. So many keys had a change of membership under way
-- proposed anew at first, and so many it has then.
pub data HasRun (tells : Type 0) (all : List Mark) (tries n : ℕ) (first : List Mark) (counted : ℕ) : List Task → List Told → List Mark → ℕ → Type 0 where
  nothing : HasRun tells all tries n first counted [] [] [] counted
  one_more : {tasks : List Task} {answers : List Told} {marks own : List Mark} {asked : Task} {told : Told} {before next : ℕ} → HasRun tells all tries n first counted tasks answers marks before → TaskIsAnswered tells all tries n (first ++ marks) asked told own → IsCountedOn before asked told own next
      → HasRun tells all tries n first counted (tasks ++ asked ∷ []) (answers ++ told ∷ []) (marks ++ own) next

-- What a caller has run whose own marks stand behind its own of these first ones: they are those of its tasks, in their order, with these answers.
-- At most as many tell of frames that were lost or made late as its fate's count of harms rose by.
pub record RanBehind (tells : Type 0) (all : List Mark) (tries n : ℕ) (first : List Mark) (tasks : List Task) (answers : List Told) (harms harms_then : List ℕ) (marks : List Mark) : Type 0 where
  pub own : List Mark
  pub behind : mine n marks ≡ mine n first ++ own
  pub counted : ℕ
  pub run : HasRun tells all tries n (mine n first) 0 tasks answers own counted
  pub harmed : (before after : ℕ) → slice_get harms n ≡ Some before → slice_get harms_then n ≡ Some after → IsCounted (losses own) before after

-- ---- callers in their threads
module _ {V : Type 0} where
  -- a caller can begin with these tasks, and has room for so many answers
  pub record IsReady (board : Turning) (pass : Sitting V Mark) (tasks : List Task) (told : List Told) (room : ℕ) : Type 0 where
    pub is_pass : IsPassOf board pass
    pub free : NothingIsOpen pass.own
    pub meant : All (IsMeantFor pass.number) tasks
    pub untold : told ≡ []
    pub enough : length tasks ≤ room

  -- it has run this task
  pub record HasRunTask (tells : Type 0) (tries harms harms_then : ℕ) (asked : Task) (told : Told) (old new : Sitting V Mark) : Type 0 where
    pub own : List Mark
    pub front : FrontGoesOn old.number old.seen new.seen own
    pub answered : TaskIsAnswered tells new.seen tries old.number (mine old.number old.seen) asked told own
    pub counted : IsCounted (losses own) harms harms_then
    pub counts : IsCountedOn (rescanned_in old.own) asked told own (rescanned_in new.own)

  -- It has run these tasks: the front that it has seen goes on with their marks, of which at most as many tell of frames that were lost or
  -- made late as its fate's count of harms rose by.
  pub record HasRaced (tells : Type 0) (tries harms harms_then : ℕ) (tasks : List Task) (told : List Told) (old new : Sitting V Mark) : Type 0 where
    pub pass : new ≡ record old { seen = new.seen; own = new.own }
    pub free : NothingIsOpen new.own
    pub own : List Mark
    pub front : FrontGoesOn old.number old.seen new.seen own
    pub run : HasRun tells new.seen tries old.number (mine old.number old.seen) (rescanned_in old.own) tasks told own (rescanned_in new.own)
    pub counted : IsCounted (losses own) harms harms_then

  -- ---- all callers
  -- a pass of the board for the operator and for each caller, at the place of its number
  pub record ArePassesOf (board : Turning) (proposers : ℕ) (passes : List (Sitting V Mark)) : Type 0 where
    pub count : length passes ≡ suc proposers
    pub each : (n : ℕ) (pass : Sitting V Mark) → slice_get passes n ≡ Some pass → IsPassOf board pass × (pass.number ≡ n)

  -- the callers of these passes, which had seen these first marks, have run what the lines ask them for, with these answers, and as their fates
  -- count their harms
  pub record AreRaced (tells : Type 0) (tries proposers : ℕ) (first : List Mark) (lines : List (List ℕ)) (harms harms_then : List ℕ) (answers : List (List Told)) (passes : List (Sitting V Mark)) : Type 0 where
    pub callers : length answers ≡ suc proposers
    pub fronts : (n : ℕ) (pass : Sitting V Mark) → slice_get passes n ≡ Some pass → Begins first pass.seen
    pub runs : (n : ℕ) (pass : Sitting V Mark) (of_caller : List Told) → slice_get passes n ≡ Some pass → slice_get answers n ≡ Some of_caller
        → RanBehind tells pass.seen tries n first (tasks_of proposers n lines) of_caller harms harms_then pass.seen

-- no answer yet, and room for one to each of the tasks
pub record HasRoomForAnswers (tasks : List Task) (told : List Told) (room : ℕ) : Type 0 where
  pub none : told ≡ []
  pub enough : length tasks ≤ room
