-- What a read of a key answers, and that it is so.
use Rattle.std.specs.Prelude.{◌≡◌, ◌≢◌, ⊤, ℕ, List, reverse}
use Rattle.cas_ballot.specs.declared.ballot.Ballot.{Ballot}
use Rattle.cas_ballot.specs.Ballot.{zero_ballot}
use Rattle.cas_change.specs.declared.state.State.{State}
use Rattle.cas_change.specs.declared.state.State.TheVariants.{Empty}
use Rattle.cas_quorum.specs.declared.era.Era.{Era}
use Rattle.cas_record.specs.Agreement.{IsAgreementOf}
use Rattle.cas_record.specs.Histories.Chain.{chain_of, settled_of}
use Rattle.cas_record.specs.Histories.Replay.{replay_from, opening_state}
use Rattle.cas_record.specs.Places.{IsPrefix}
use Rattle.cas_record.specs.Reading.{read_of}
use Rattle.cas_record.specs.declared.agreement.Agreement.{Agreement}
use Rattle.cas_record.specs.declared.answer.Answer.{Answer}
use Rattle.cas_record.specs.declared.mark.Mark.{Mark}
use Rattle.cas_record.specs.declared.operator.Asked.TheVariants as asked
use Rattle.cas_record.specs.declared.operator.OpAnswer.{OpAnswer}
use Rattle.cas_record.specs.declared.operator.OpAnswer.TheVariants as op
use Rattle.cas_record.specs.declared.operator.Probes.{Probes}
use Rattle.cas_record.specs.declared.read_answer.ReadAnswer.{ReadAnswer}
use Rattle.cas_record.specs.declared.read_answer.ReadAnswer.TheVariants as read
use Rattle.cas_model.specs.History.{IsRemembered}
use Rattle.cas_model.specs.View.{Meaning, View, era_at}
use Rattle.casreg_script.specs.Frames.Conditions.{NetworkView}
use Rattle.casreg_script.specs.Exchanges.Probes.{IsInquiry}

-- ---- what is answered
-- why the call stopped; or what members agree on by this era, and by what they told
pub data AnswersRead (era : Era) (key : List ℕ) : OpAnswer → ReadAnswer → Type 0 where
  stopped : (why : Answer) → AnswersRead era key (op.Stopped why) (read.Stopped why)
  agrees : (found : Probes) (agreement : Agreement) → IsAgreementOf era found.probes.items agreement → AnswersRead era key (op.Probed key found) (read_of key agreement found.probes.items)

-- ---- that it is so
-- The state is what the history up to its ballot leaves. This history goes on from all that was settled before, and begins what is settled
-- now. Marks are read newest first.
pub record IsValueSo (before now : List Mark) (key : List ℕ) (state : State) (ballot : Ballot) : Type 0 where
  pub is : state ≡ replay_from (opening_state key now) (chain_of key ballot now)
  pub goes_on : IsPrefix (settled_of key before) (chain_of key ballot now)
  pub begins : IsPrefix (chain_of key ballot now) (settled_of key now)

-- The state is empty, and that is what was settled before leaves.
pub record IsEmptySo (before : List Mark) (key : List ℕ) (state : State) : Type 0 where
  pub is : state ≡ Empty
  pub was : replay_from (opening_state key before) (settled_of key before) ≡ Empty

-- a value at a ballot above zero is that of its history, and one at zero is that of an empty register
abbrev pub IsReadAnswerSo : List Mark → List Mark → ReadAnswer → Type 0
IsReadAnswerSo before now (read.Value key state ballot) = (ballot ≢ zero_ballot → IsValueSo before now key state ballot) × (ballot ≡ zero_ballot → IsEmptySo before key state)
IsReadAnswerSo before now other = ⊤

-- ---- the whole
-- A read of the key as a call of the operator, with its answer, by the era in which proposer 0 works. What it tells is so of a remembered
-- cluster, if shelves and disks tell what they keep.
pub record IsReadLine {S V : Type 0} (m : Meaning S V) (by : NetworkView) (key : List ℕ) (old : View S V) (answer : ReadAnswer) (next : NetworkView) (new : View S V) : Type 0 where
  pub said : OpAnswer
  pub inquiry : IsInquiry m by (asked.Read key) key old said next new
  pub answers : AnswersRead (era_at old 0) key said answer
  pub so : m.shelves.tells → m.disks.tells → IsRemembered m old → IsReadAnswerSo (reverse old.marks) (reverse new.marks) answer
