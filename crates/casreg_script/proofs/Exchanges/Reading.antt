-- A read of a key is answered.
use Rattle.std.proofs.Common.{◌≡◌, ℕ, List, sym, ap, subst, ◌∙◌}
use Rattle.cas_record.specs.Agreement.{IsAgreementOf}
use Rattle.cas_record.specs.Reading.{read_of}
use Rattle.cas_record.specs.declared.agreement.Agreement.{Agreement}
use Rattle.cas_record.specs.declared.answer.Answer.{Answer}
use Rattle.cas_record.specs.declared.operator.Asked.TheVariants as asked
use Rattle.cas_record.specs.declared.operator.OpAnswer.{OpAnswer}
use Rattle.cas_record.specs.declared.operator.OpAnswer.TheVariants as op
use Rattle.cas_record.specs.declared.operator.Probes.{Probes}
use Rattle.cas_record.specs.declared.read_answer.ReadAnswer.{ReadAnswer}
use Rattle.cas_record.specs.declared.read_answer.ReadAnswer.TheVariants as read
use Rattle.cas_model.specs.Council.{Probe}
use Rattle.cas_model.specs.Exchanges.Step.{StepOrder, StepTell}
use Rattle.cas_model.specs.Step as step
use Rattle.cas_model.specs.View.{Meaning, View, era_at}
use Rattle.casreg_script.specs.Exchanges.Exchanges.{AsksMembers}
use Rattle.casreg_script.specs.Exchanges.Probes as inquiries
use Rattle.casreg_script.specs.Exchanges.Probes.{IsInquiry}
use Rattle.casreg_script.specs.Exchanges.Reads as answered
use Rattle.casreg_script.specs.Exchanges.Reads.{AnswersRead, IsReadLine}
use Rattle.casreg_script.specs.Frames.Conditions.{NetworkView}
use Rattle.casreg_script.proofs.Exchanges.Truth.{read_so}

-- what is answered is so
pub is_read : {S V : Type 0} (m : Meaning S V) {by next : NetworkView} (key : List ℕ) (old new : View S V) (said : OpAnswer) (answer : ReadAnswer)
    → IsInquiry m by (asked.Read key) key old said next new → AnswersRead (era_at old 0) key said answer → IsReadLine m by key old answer next new
is_read m key old new said answer inquiry answers = record { said = said; inquiry = inquiry; answers = answers; so = read_so m key old new said answer inquiry answers }

-- by what the members agree on
pub read_told : {S V : Type 0} (m : Meaning S V) {by next : NetworkView} (key : List ℕ) (old ordered turned new : View S V) (named back : List ℕ) (agreement : Agreement) (found kept : Probes)
    (answer_ : ReadAnswer) → StepOrder old (asked.Read key) ordered
    → AsksMembers m by (step.AskAll (Probe key)) step.Gather ordered next turned → IsAgreementOf (era_at ordered 0) found.probes.items agreement → StepTell turned (op.Probed named found) new
    → named ≡ key → op.Probed named found ≡ op.Probed back kept
    → answer_ ≡ read_of back agreement kept.probes.items → IsReadLine m by key old answer_ next new
read_told {S} {V} m key old ordered turned new named back agreement found kept answer_ orders asks agrees_ tells_it is_named same is =
    let back_is : named ≡ back = cc same in
    let kept_is : found ≡ kept = cc same in
    let answer_is : answer_ ≡ read_of key agreement found.probes.items = is ∙ ap (λ (k : List ℕ). read_of k agreement kept.probes.items) (sym back_is ∙ is_named)
    ∙ ap (λ (p : Probes). read_of key agreement p.probes.items) (sym kept_is) in
    let agrees_so : IsAgreementOf (era_at old 0) found.probes.items agreement = subst (λ (w : View S V). IsAgreementOf (era_at w 0) found.probes.items agreement) orders.view agrees_ in
    is_read m key old new (op.Probed key found) answer_ (inquiries.told orders asks (subst (λ (k : List ℕ). StepTell turned (op.Probed k found) new) is_named tells_it))
    (subst (λ (a : ReadAnswer). AnswersRead (era_at old 0) key (op.Probed key found) a) (sym answer_is) (answered.agrees found agreement agrees_so))

-- or by why it stopped
pub read_stopped : {S V : Type 0} (m : Meaning S V) {by next : NetworkView} (key : List ℕ) (old ordered turned new : View S V) (said : OpAnswer) (why : Answer) → StepOrder old (asked.Read key) ordered
    → AsksMembers m by (step.AskAll (Probe key)) step.Gather ordered next turned
    → StepTell turned said new → said ≡ op.Stopped why → IsReadLine m by key old (read.Stopped why) next new
read_stopped m key old ordered turned new said why orders asks tells_it is =
    is_read m key old new (op.Stopped why) (read.Stopped why) (inquiries.told orders asks (subst (λ (a : OpAnswer). StepTell turned a new) is tells_it)) (answered.stopped why)
