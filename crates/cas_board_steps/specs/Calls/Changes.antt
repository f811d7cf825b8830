-- What a hold does for a caller's call.
use Rattle.std.specs.Prelude.{◌≡◌, ◌⊎◌, ◌<◌, ◌≤◌, ℕ, false, if◌then◌else◌, List, [], ◌∷◌, ◌++◌, length, Some}
use Rattle.cas_change.specs.declared.program.Clause.{Clause}
use Rattle.cas_fate.specs.Harms.{is_harm}
use Rattle.cas_fate.specs.declared.fate.Verdict.{Verdict}
use Rattle.cas_record.specs.declared.answer.Answer.{Answer}
use Rattle.cas_record.specs.declared.answer.Answer.TheVariants as answer
use Rattle.cas_record.specs.declared.mark.Mark.{Mark}
use Rattle.cas_record.specs.declared.mark.Mark.TheVariants.{Begun, Ended}
use Rattle.cas_model.specs.Calls.Step.{Rescans}
use Rattle.cas_model.specs.View.{View, CallView, CallerView, IsAt}
use Rattle.cas_board_steps.specs.Calls.Conflicts.{is_conflict}
use Rattle.cas_board_steps.specs.Kept.{Makes}
use Rattle.cas_board_steps.specs.Mine.{mine, AreOfCall, losses, wants, wanted_by}
use Rattle.cas_board_steps.specs.OwnParts.{own_part}
use Rattle.cas_board_steps.specs.Calls.Open.{NothingIsOpen, IsIdle, HasOpen, beside_in, rounds_in, is_met_in, rounds_after}

-- how many frames one verdict may harm
abbrev pub harm_by : Verdict → ℕ
harm_by v = if is_harm v then 1 else 0

-- A late frame strays in: no mark that it makes is anybody's own, and all that callers have open stays.
pub record StraysIn {S V : Type 0} (old new : View S V) : Type 0 where
  pub marks : List Mark
  pub makes : (n : ℕ) → Makes n old new marks
  pub none_own : (n : ℕ) → mine n marks ≡ []
  pub own : (n : ℕ) → own_part new n ≡ own_part old n
  pub wanted : (n : ℕ) → wanted_by n new.marks ≡ wanted_by n old.marks

-- the call of that number begins, for this
pub record BeginsIn {S V : Type 0} (n call : ℕ) (key : List ℕ) (program : List Clause) (old new : View S V) : Type 0 where
  pub more : List Mark
  pub makes : Makes n old new (Begun n call key program ∷ more)
  pub of_call : AreOfCall call (mine n more)
  pub none_lost : losses (mine n more) ≡ 0
  pub is_open : HasOpen call (own_part new n)
  pub first : rounds_in (own_part new n) ≡ 1
  pub unmet : is_met_in (own_part new n) ≡ false
  pub beside : beside_in (own_part new n) ≡ own_part old n
  pub council : new.council ≡ old.council
  pub wanted : wanted_by n new.marks ≡ Some (wants call key program)

-- why a call is not begun before a record of so many marks: that is full, and has more than 999,000, or there is no memory
abbrev pub IsRefusalBehind : ℕ → Answer → Type 0
IsRefusalBehind made told = ((told ≡ answer.RecordFull) × (999000 < made)) ⊎ (told ≡ answer.NoMemory false)

-- no call is open then, and of the operator's call is told what the end of this one tells; its own part is as it was where nothing was open
pub record LeavesIdle {S V : Type 0} (n : ℕ) (key : List ℕ) (told : Answer) (old new : View S V) : Type 0 where
  pub rescans : Rescans old.council n key told new.council
  pub is_idle : IsIdle (own_part new n)
  pub still : NothingIsOpen (own_part old n) → own_part new n ≡ own_part old n

-- a call for this begins and ends at once, which is no conflict; or it is not begun, and no mark is made
pub data BeginsNot {S V : Type 0} (n : ℕ) (key : List ℕ) (program : List Clause) (old new : View S V) (told : Answer) : Type 0 where
  ends_at_once : (call rounds : ℕ) → Makes n old new (Begun n call key program ∷ Ended n call rounds told ∷ []) → LeavesIdle n key told old new → is_conflict told ≡ false → BeginsNot n key program old new told
  is_refused : IsRefusalBehind (length new.marks) told → Makes n old new [] → LeavesIdle n key told old new → BeginsNot n key program old new told

-- the open call of that number goes on, and at most so many losses of its frames are marked
pub record GoesOnIn {S V : Type 0} (n call most : ℕ) (old new : View S V) : Type 0 where
  pub marks : List Mark
  pub makes : Makes n old new marks
  pub of_call : AreOfCall call (mine n marks)
  pub few : losses (mine n marks) ≤ most
  pub is_open : HasOpen call (own_part new n)
  pub rounds : rounds_in (own_part new n) ≡ rounds_after (own_part old n)
  pub beside : beside_in (own_part new n) ≡ beside_in (own_part old n)
  pub council : new.council ≡ old.council
  pub wanted : wanted_by n new.marks ≡ wanted_by n old.marks

-- it ends with this answer, which is marked last
pub record EndsMarked {S V : Type 0} (n call most : ℕ) (old new : View S V) (told : Answer) : Type 0 where
  pub marks : List Mark
  pub makes : Makes n old new (marks ++ Ended n call (rounds_after (own_part old n)) told ∷ [])
  pub of_call : AreOfCall call (mine n marks)
  pub few : losses (mine n marks) ≤ most
  pub rescans : (caller : CallerView) (call_was : CallView) → IsAt old.callers n caller → caller.call ≡ Some call_was → Rescans old.council n call_was.key told new.council
  pub is_idle : IsIdle (own_part new n)
  pub still : NothingIsOpen (beside_in (own_part old n)) → own_part new n ≡ beside_in (own_part old n)
