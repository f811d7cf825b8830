-- What a record is seen as.
use Rattle.std.specs.Prelude.{ℕ, List}
use Rattle.cas_record.specs.declared.mark.Mark.{Mark}

-- the marks in the order in which they were made, and how many more can be made without taking memory
pub record Book : Type 0 where
  pub marks : List Mark
  pub room : ℕ
