-- What a sink was given of a text of which only a property is known.
use Rattle.std.specs.Prelude.{ℕ, List, ◌++◌, Option}
use Rattle.std.specs.Io.KnownBytes.{Appends}

-- a text that has P was written
pub record WroteText (P : List ℕ → Type 0) (old new : Option (List ℕ)) : Type 0 where
  pub text : List ℕ
  pub has : P text
  pub written : Appends old new text

-- a front of such a text was written
pub record WroteFrontOf (P : List ℕ → Type 0) (old new : Option (List ℕ)) : Type 0 where
  pub front : List ℕ
  pub rest : List ℕ
  pub has : P (front ++ rest)
  pub written : Appends old new front
