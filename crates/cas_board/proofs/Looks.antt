-- What a look answers, by what the operator's call was told.
use Rattle.std.proofs.Common.{◌≡◌, ℕ, List, Option, None, Some, Result, Ok, Err, sym, ap, subst, ◌∙◌}
use Rattle.std.specs.Prelude.{IfErr, IfOk, OnOk, length, take}
use Rattle.cas_record.specs.declared.agreement.Agreement.{Agreement}
use Rattle.cas_record.specs.declared.answer.Answer.{Answer}
use Rattle.cas_record.specs.declared.mark.Mark.{Mark}
use Rattle.cas_record.specs.declared.operator.Asked.{Asked}
use Rattle.cas_record.specs.declared.operator.OpAnswer.{OpAnswer}
use Rattle.cas_record.specs.declared.operator.OpAnswer.TheVariants as op
use Rattle.cas_model.specs.View.{View}
use Rattle.cas_board_steps.specs.Exchanges.Orders.{IsAgreedIn, IsAgreedSo, IsProbeAnswer, IsToldIn, IsTrueAgreement, IsTrueRead, OperatesIn}
use Rattle.cas_turn.specs.Seen.{Begins}
use Rattle.cas_turn.proofs.SeenLemmas.{begins_both}
use Rattle.std.proofs.Math.Seq.{take-append_seam}
use Rattle.cas_board_steps.specs.Kept.{IsHeldBy}
use Rattle.cas_board_steps.specs.declared.orders.Heard.{Heard}
use Rattle.cas_board_steps.specs.declared.orders.Inquiry.{Inquiry}
use Rattle.cas_board.specs.Looks.{IsHeardSo, told_by_look}
use Rattle.cas_board.specs.declared.probing.Look.{Look}

-- ---- from hold to hold
-- what is asked of a key goes on as it was
pub carried : (P : Inquiry → List ℕ → Type 0) {i j : Inquiry} {k l : List ℕ} → i ≡ j → k ≡ l → P i k → P j l
carried P {i} {j} {k} {l} same_inquiry same_key is = subst (λ (q : Inquiry). P q l) same_inquiry (subst (P i) same_key is)

-- a front is what stands first in each later one
pub front_kept : (old mid new : List Mark) → Begins old mid → Begins mid new → take (length old) new ≡ old
front_kept old mid new first second =
    let both = begins_both old mid new first second in
    ap (λ (l : List Mark). take (length old) l) (sym both.whole) ∙ take-append_seam old both.behind

-- by what a hold answered, it made marks that may be given back
pub operates_or_heard : {S V T : Type 0} (asked : Asked) (such : Mark → Type 0) (most : ℕ) (before after : View S V) (result : Result T Heard) → OnOk result (OperatesIn such most before after) → IfErr result (λ heard. IsToldIn asked such most before after heard.told) → IsHeldBy 0 before after
operates_or_heard asked such most before after (Ok value) goes told = (_, goes.makes)
operates_or_heard asked such most before after (Err heard) goes told = (_, told.makes)

-- ---- what was heard
-- the members told something, and agree so, or it was stopped
pub heard_so : (acceptors vaults : Type 0) (marks : List Mark) (key members : List ℕ) (told : OpAnswer) (agreement : Option Agreement) → IsProbeAnswer key members told → IsAgreedSo acceptors vaults marks told agreement → IsHeardSo told agreement
heard_so acceptors vaults marks key members (op.Probed other found) (Some agreement) is agrees = tt
heard_so acceptors vaults marks key members (op.Probed other found) None is agrees = absurd agrees
heard_so acceptors vaults marks key members (op.Joined id era rescanned) agreement is agrees = absurd is
heard_so acceptors vaults marks key members (op.Left id era rescanned) agreement is agrees = absurd is
heard_so acceptors vaults marks key members (op.Resized need_prep need_acc era rescanned) agreement is agrees = absurd is
heard_so acceptors vaults marks key members (op.Refused fault) agreement is agrees = absurd is
heard_so acceptors vaults marks key members (op.Busy era) agreement is agrees = absurd is
heard_so acceptors vaults marks key members (op.Collected other ballot removed kept) agreement is agrees = absurd is
heard_so acceptors vaults marks key members (op.NotEmpty version) agreement is agrees = absurd is
heard_so acceptors vaults marks key members (op.Absent acceptor) agreement is agrees = absurd is
heard_so acceptors vaults marks key members (op.ProposerDown proposer) agreement is agrees = absurd is
heard_so acceptors vaults marks key members (op.Stopped why) agreement is agrees = tt

-- so a look agrees
pub look_agrees : (acceptors vaults : Type 0) (marks : List Mark) (key : List ℕ) (result : Result Look Answer) (told : OpAnswer) (agreement : Option Agreement) → told_by_look key result ≡ told → IfOk result (λ look. agreement ≡ Some look.agreement) → IsAgreedSo acceptors vaults marks told agreement
    → IfOk result (λ look. IsAgreedIn acceptors vaults marks look.found look.agreement)
look_agrees acceptors vaults marks key (Ok look) told agreement same its agrees = subst (IsAgreedSo acceptors vaults marks (op.Probed key look.found)) its (subst (λ (a : OpAnswer). IsAgreedSo acceptors vaults marks a agreement) (sym same) agrees)
look_agrees acceptors vaults marks key (Err why) told agreement same its agrees = tt

-- and is true
pub look_reads : (before all : List Mark) (key : List ℕ) (result : Result Look Answer) (told : OpAnswer) (agreement : Option Agreement) → told_by_look key result ≡ told → IfOk result (λ look. agreement ≡ Some look.agreement) → IsTrueRead before all told agreement
    → IfOk result (λ look. IsTrueAgreement before all key look.found look.agreement)
look_reads before all key (Ok look) told agreement same its is = subst (IsTrueRead before all (op.Probed key look.found)) its (subst (λ (a : OpAnswer). IsTrueRead before all a agreement) (sym same) is)
look_reads before all key (Err why) told agreement same its is = tt
