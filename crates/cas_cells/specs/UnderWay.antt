-- The change of a cell that is under way.
use Rattle.std.specs.Prelude.{◌≡◌, ◌≢◌, ℕ, false, List, [], Option, Some, None, unwrap_or}
use Rattle.cas_cells.specs.declared.change.Change.{Change}
use Rattle.cas_cells.specs.declared.change.Step.{Step}
use Rattle.cas_cells.specs.declared.change.Step.TheVariants.{Closed, Written}

-- the payload that was written into a closed spare
abbrev pub payload_staged : Step → Option (List ℕ)
payload_staged Closed = None
payload_staged (Written staged) = Some staged.payload.items

-- the cell of a change, and the payload that was written
abbrev pub change_held : Option Change → Option (ℕ × Option (List ℕ))
change_held None = None
change_held (Some change) = Some (change.cell, payload_staged change.step)

-- the payload that was written in a change under way
abbrev pub staged_in : Option (ℕ × Option (List ℕ)) → List ℕ
staged_in None = []
staged_in (Some change) = unwrap_or change.1 []

-- the step has written nothing that is kept
abbrev pub IsNotKept : Step → Type 0
IsNotKept Closed = Unit {0}
IsNotKept (Written staged) = staged.kept ≡ false

-- a change of this cell has written nothing that is kept
abbrev pub IsWrittenOver : ℕ → Option Change → Type 0
IsWrittenOver cell None = Unit {0}
IsWrittenOver cell (Some change) = change.cell ≡ cell → IsNotKept change.step

-- a change of another cell is as it was
abbrev pub KeepsOthers : ℕ → Option Change → Option Change → Type 0
KeepsOthers cell None after = after ≡ None
KeepsOthers cell (Some change) after = change.cell ≢ cell → after ≡ Some change
