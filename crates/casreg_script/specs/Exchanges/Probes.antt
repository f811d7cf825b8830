-- What a probe or a read of a key does to a world: the calls that it makes, one after another.
use Rattle.std.specs.Prelude.{ℕ, List}
use Rattle.cas_record.specs.declared.answer.Answer.{Answer}
use Rattle.cas_record.specs.declared.operator.Asked.{Asked}
use Rattle.cas_record.specs.declared.operator.Asked.TheVariants as asked
use Rattle.cas_record.specs.declared.operator.OpAnswer.{OpAnswer}
use Rattle.cas_record.specs.declared.operator.OpAnswer.TheVariants as op
use Rattle.cas_model.specs.Council.{Probe}
use Rattle.cas_model.specs.Step.{Step, Order, RefuseOrder, Tell, AskAll, Gather}
use Rattle.cas_model.specs.View.{Meaning, View}
use Rattle.casreg_script.specs.Frames.Conditions.{NetworkView}
use Rattle.casreg_script.specs.Exchanges.Exchanges.{AsksMembers}
use Rattle.casreg_script.specs.Exchanges.Orders.{IsNotOrdered}

-- the members are asked what they keep for the key, as a call of the operator that is opened for this, with its answer, which is what the call
-- was told last
pub data IsInquiry {S V : Type 0} (m : Meaning S V) (by : NetworkView) (what : Asked) (key : List ℕ) (old : View S V) : OpAnswer → NetworkView → View S V → Type 0 where
  refused : {refusal : Answer} {new : View S V} → IsNotOrdered old refusal → Step m old RefuseOrder new → IsInquiry m by what key old (op.Stopped refusal) by new
  told : {ordered asked_all new : View S V} {next : NetworkView} {answer : OpAnswer} → Step m old (Order what) ordered → AsksMembers m by (AskAll (Probe key)) Gather ordered next asked_all → Step m asked_all (Tell answer) new → IsInquiry m by what key old answer next new

-- a probe of the key as a call of the operator
abbrev pub IsProbe : {S V : Type 0} → Meaning S V → NetworkView → List ℕ → View S V → OpAnswer → NetworkView → View S V → Type 0
IsProbe m by key old answer next new = IsInquiry m by (asked.Probe key) key old answer next new
