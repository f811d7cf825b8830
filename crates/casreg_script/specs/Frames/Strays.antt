-- Late frames that stray in by themselves.
use Rattle.std.specs.Prelude.{◌≡◌, ℕ, Bool, length, None, Some}
use Rattle.cas_lines.specs.declared.answer.EventAnswer.{EventAnswer}
use Rattle.cas_model.specs.View.{Meaning, View}
use Rattle.casreg_script.specs.Frames.Conditions.{NetworkView, Names}
use Rattle.casreg_script.specs.Events.{AnswersStray}
use Rattle.casreg_script.specs.Calls.Playing.{AskedCall, IsPlaying}

-- The late frame that the network names strays in before a turn, if it names one, and what decides then. One that the store refuses is passed
-- over.
pub data LetsStrayIn {S V : Type 0} (m : Meaning S V) (by : NetworkView) (old : View S V) (next : NetworkView) : View S V → Type 0 where
  none : Names (length old.flow.late) by None next → LetsStrayIn m by old next old
  one : {new : View S V} (place : ℕ) (answer : EventAnswer) → Names (length old.flow.late) by (Some place) next → AnswersStray m old place answer new → LetsStrayIn m by old next new

-- what callers and the operator have under way stays
pub record KeepsUnderWay {S V : Type 0} (old new : View S V) : Type 0 where
  pub own : new.flow.own ≡ old.flow.own
  pub last_proposer : new.last_proposer ≡ old.last_proposer
  pub callers : new.callers ≡ old.callers
  pub council : new.council ≡ old.council
  pub plays : (id : ℕ) (asked : AskedCall) (proposed : Bool) → IsPlaying old id asked proposed → IsPlaying new id asked proposed
