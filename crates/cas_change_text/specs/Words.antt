-- The words of a line.
use Rattle.std.specs.Prelude.{ℕ, Bool, ◌||◌, ◌==◌, nat_lt, List, length}
use Rattle.std.specs.List.{filter, slice_split}

-- a word is its bytes
abbrev pub Word : Type 0
Word = List ℕ

-- a space or a tab
abbrev pub is_blank : ℕ → Bool
is_blank byte = (byte == 32) || (byte == 9)

-- the words: what stands between blanks, where that is not empty
abbrev pub words_of : List ℕ → List Word
words_of line = filter (λ part. nat_lt 0 (length part)) (slice_split is_blank line)

-- what is left to read of a line: how many words were taken, and those that follow
pub record WordsLeft : Type 0 where
  pub at : ℕ
  pub words : List Word

-- nothing is taken yet
abbrev pub all_of : List Word → WordsLeft
all_of words = record { at = 0; words = words }
