-- What tells of a conflict.
use Rattle.std.specs.Prelude.{Bool, false, Option, None, Some}
use Rattle.cas_record.specs.declared.answer.Answer.{Answer}
pub use Rattle.cas_record.specs.Answers.{is_conflict}

-- whether a conflict was told last
abbrev pub told_conflict : Option Answer → Bool
told_conflict None = false
told_conflict (Some told) = is_conflict told
