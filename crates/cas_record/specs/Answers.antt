-- Kinds of answers to calls of clients and of the operator.
use Rattle.std.specs.Prelude.{Bool, true, false}
use Rattle.cas_record.specs.declared.answer.Answer.{Answer}
use Rattle.cas_record.specs.declared.answer.Answer.TheVariants as answer
use Rattle.cas_record.specs.declared.operator.OpAnswer.{OpAnswer}
use Rattle.cas_record.specs.declared.operator.OpAnswer.TheVariants as told

-- the last round met a greater ballot
abbrev pub is_conflict : Answer → Bool
is_conflict (answer.Conflict met) = true
is_conflict other = false

-- the answers with which a new call is not begun
abbrev pub is_refusal : Answer → Bool
is_refusal answer.RecordFull = true
is_refusal (answer.NoMemory proposed) = true
is_refusal other = false

-- whether a record can bear the answer to a call of the operator: what a probe found is not marked, and no change that is done stops a call
abbrev pub is_told : OpAnswer → Bool
is_told (told.Probed key found) = false
is_told (told.Stopped (answer.Done state took ballot)) = false
is_told other = true
