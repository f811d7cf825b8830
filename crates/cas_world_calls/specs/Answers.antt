-- Answers by their kind.
use Rattle.std.specs.Prelude.{ℕ, Bool, true, false, not, if◌then◌else◌}
use Rattle.cas_protocol.specs.Protocol.{is_done}
use Rattle.cas_record.specs.declared.answer.Answer.{Answer}
use Rattle.cas_record.specs.declared.answer.Answer.TheVariants as answer
use Rattle.cas_record.specs.declared.answer.Cause.TheVariants as cause
use Rattle.cas_record.specs.declared.operator.OpAnswer.{OpAnswer}
use Rattle.cas_record.specs.declared.operator.OpAnswer.TheVariants as op

-- what a call is told whose proposer crashed while its round was open
abbrev pub crash_answer : Bool → Answer
crash_answer proposed = if proposed then answer.Unsettled cause.Crashed else answer.Crashed

-- what a call is told whose proposer entered the era while its round was open
abbrev pub moved_answer : Bool → ℕ → Answer
moved_answer proposed era = if proposed then answer.Unsettled (cause.Moved era) else answer.Moved era

-- what a call is told whose proposer was renewed to that age while its round was open
abbrev pub aged_answer : Bool → ℕ → Answer
aged_answer proposed least = if proposed then answer.Unsettled (cause.Aged least) else answer.Aged least

-- whether an answer to the operator holds no memory
abbrev pub is_plain : OpAnswer → Bool
is_plain (op.Collected key ballot removed kept) = false
is_plain (op.Probed key found) = false
is_plain (op.Stopped stopped) = not (is_done stopped)
is_plain other = true
