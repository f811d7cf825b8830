-- Texts: the bytes that a register may hold.
use Rattle.std.specs.Prelude.{ℕ, ◌≤◌, List, length}
use Rattle.cas_change.specs.declared.text.TheConstants.{LONGEST_TEXT}

-- the bytes of a text: at most 4,000, whichever they are
abbrev pub IsText : List ℕ → Type 0
IsText bytes = length bytes ≤ LONGEST_TEXT
