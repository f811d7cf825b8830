-- Calls for changes, as a caller sees them in the record. The marks are read newest first.
use Rattle.std.specs.Prelude.{◌≡◌, ℕ, ◌<◌, Bool, false, ◌==◌, if◌then◌else◌, List, [], ◌∷◌, ◌++◌, length, All, ◌⊎◌}
use Rattle.cas_ballot.specs.declared.ballot.Ballot.{Ballot}
use Rattle.cas_change.specs.declared.program.Clause.{Clause}
use Rattle.cas_record.specs.declared.answer.Answer.{Answer}
use Rattle.cas_record.specs.declared.answer.Answer.TheVariants.{Conflict, RecordFull, NoMemory}
use Rattle.cas_record.specs.declared.mark.Mark.{Mark}
use Rattle.cas_record.specs.declared.mark.Mark.TheVariants.{Begun, Proposed, Ended, Harmed}
use Rattle.cas_record.specs.declared.mark.Proposal.{Proposal}
use Rattle.cas_record.specs.Places.{IsOlderPart}

-- whether the mark tells of a call of the caller
abbrev pub is_of_caller : ℕ → Mark → Bool
is_of_caller caller (Begun c call key program) = c == caller
is_of_caller caller (Proposed p) = p.caller == caller
is_of_caller caller (Ended c call rounds answer) = c == caller
is_of_caller caller (Harmed c call down) = c == caller
is_of_caller caller other = false

-- the marks that tell of the caller's calls
abbrev pub own_marks : ℕ → List Mark → List Mark
own_marks caller [] = []
own_marks caller (mark ∷ older) = if is_of_caller caller mark then mark ∷ own_marks caller older else own_marks caller older

-- the mark tells of that call, and of neither its beginning nor its end
pub data IsMarkWithin (call : ℕ) : Mark → Type 0 where
  was_proposed : {p : Proposal} → p.call ≡ call → IsMarkWithin call (Proposed p)
  was_harmed : {caller : ℕ} {down : Bool} → IsMarkWithin call (Harmed caller call down)

-- a call of the caller began after all that was seen, and has ended with this answer: it is the newest mark
pub record CallIsAnswered (caller : ℕ) (key : List ℕ) (program : List Clause) (old new : List Mark) (answer : Answer) : Type 0 where
  pub call : ℕ
  pub rounds : ℕ
  pub within : List Mark
  pub before : List Mark
  pub whole : new ≡ Ended caller call rounds answer ∷ within ++ Begun caller call key program ∷ before
  pub seen : IsOlderPart old before
  -- between what was seen and its beginning the caller made no mark, and then marks of this call alone
  pub none_before : own_marks caller before ≡ own_marks caller old
  pub own_within : All (IsMarkWithin call) (own_marks caller within)
  -- it made one try
  pub one_try : {met : Ballot} → answer ≡ Conflict met → rounds ≡ 1

-- a call is not begun: the record has more than 999,000 marks, or there is no memory
pub record CallIsRefused (caller : ℕ) (old new : List Mark) (answer : Answer) : Type 0 where
  pub why : ((answer ≡ RecordFull) × (999000 < length new)) ⊎ (answer ≡ NoMemory false)
  pub seen : IsOlderPart old new
  pub none_made : own_marks caller new ≡ own_marks caller old

-- what a call for this change does to what the caller sees of the record
pub data Changes (caller : ℕ) (key : List ℕ) (program : List Clause) (old new : List Mark) (answer : Answer) : Type 0 where
  is_answered : CallIsAnswered caller key program old new answer → Changes caller key program old new answer
  is_refused : CallIsRefused caller old new answer → Changes caller key program old new answer

-- ---- several calls
-- a program, and what the call for it was answered
pub record Call : Type 0 where
  pub program : List Clause
  pub answer : Answer

-- the caller made these calls for changes of the key, one after another, and no other
pub data MakesCalls (caller : ℕ) (key : List ℕ) : List Mark → List Call → List Mark → Type 0 where
  none : {marks : List Mark} → MakesCalls caller key marks [] marks
  first : {old mid new : List Mark} {call : Call} {calls : List Call} → Changes caller key call.program old mid call.answer
      → MakesCalls caller key mid calls new → MakesCalls caller key old (call ∷ calls) new
