-- What the store keeps true between two holds.
use Rattle.std.specs.Prelude.{◌≡◌, ◌≢◌, ℕ, suc, false, List, ◌++◌, length, None, Some, IsSome}
use Rattle.cas_proposer.specs.Desk.{DeskView}
use Rattle.cas_record.specs.declared.mark.Mark.{Mark}
use Rattle.cas_model.specs.Calls.Step.{WasMet}
use Rattle.cas_model.specs.View.{View, CallView, CallerView, IsAt}
use Rattle.cas_turn.specs.Seen.{OnlyOwnedBy}
use Rattle.cas_world.specs.Readers.{closed_in}
use Rattle.cas_board_steps.specs.Calls.Conflicts.{told_conflict}
use Rattle.cas_board_steps.specs.Mine.{wants, wanted_by}
use Rattle.cas_board_steps.specs.Owners.{owner_of, MayAdd}
use Rattle.cas_board_steps.specs.OwnParts.{own_part}

-- An open call has an open round, and no conflict was told; or its round ended with a conflict, and nothing was proposed; or another
-- caller closed its round, which it can be told.
pub data IsStaged {V : Type 0} (desk : DeskView V) (call : CallView) : Type 0 where
  running : IsSome desk.round → told_conflict call.told ≡ false → call.is_closed ≡ false → IsStaged desk call
  is_met : desk.round ≡ None → WasMet call.told → call.proposed ≡ None → call.is_closed ≡ false → IsStaged desk call
  is_closed : desk.round ≡ None → IsSome (closed_in (Some call)) → told_conflict call.told ≡ false → IsStaged desk call

-- it was begun by the caller's newest mark that begins one
abbrev pub IsWanted : ℕ → CallerView → CallView → List Mark → Type 0
IsWanted id caller call marks = wanted_by id marks ≡ Some (wants caller.number call.key call.program)

-- there is a desk for each proposer, and a caller
pub record IsPlaced {S V : Type 0} (view : View S V) : Type 0 where
  pub desks : length view.desks ≡ suc view.last_proposer
  pub callers : length view.callers ≡ suc view.last_proposer

pub record IsKept {S V : Type 0} (view : View S V) : Type 0 where
  pub places : IsPlaced view
  pub staged : (id : ℕ) (desk : DeskView V) (caller : CallerView) (call : CallView) → IsAt view.desks id desk → IsAt view.callers id caller → caller.call ≡ Some call → IsStaged desk call
  pub wanted : (id : ℕ) (caller : CallerView) (call : CallView) → IsAt view.callers id caller → caller.call ≡ Some call → IsWanted id caller call view.marks

-- ---- what a hold does
-- a hold of the caller makes these marks, and leaves what is the others' own, and how many proposers there are
pub record Makes {S V : Type 0} (n : ℕ) (old new : View S V) (marks : List Mark) : Type 0 where
  pub last_proposer : new.last_proposer ≡ old.last_proposer
  pub made : new.marks ≡ old.marks ++ marks
  pub may_add : MayAdd marks
  pub owned : OnlyOwnedBy owner_of n marks
  pub others : (m : ℕ) → m ≢ n → own_part new m ≡ own_part old m

abbrev pub IsHeldBy : {S V : Type 0} → ℕ → View S V → View S V → Type 0
IsHeldBy n old new = (marks : List Mark) × Makes n old new marks
