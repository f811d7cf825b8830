-- How far the call of a collection's round has come, by what is read of the world.
use Rattle.std.proofs.Common.{◌≡◌, ℕ, Bool, true, false, not, if◌then◌else◌, List, Option, None, Some, refl, sym, ap, subst, ◌∙◌}
use Rattle.std.specs.Prelude.{◌&&◌}
use Rattle.cas_record.specs.declared.answer.Answer.{Answer}
use Rattle.cas_record.specs.declared.mark.Mark.{Mark}
use Rattle.cas_record.specs.declared.operator.OpAnswer.{OpAnswer}
use Rattle.cas_record.specs.declared.operator.OpAnswer.TheVariants as op
use Rattle.cas_protocol.specs.Protocol.{is_done}
use Rattle.cas_model.specs.Exchanges.Step.{StepTell}
use Rattle.cas_model.specs.View.{Meaning, View, CallerView, IsAt}
use Rattle.cas_model.proofs.Places.{some_is}
use Rattle.cas_world.specs.Collection.Collect.{IsCollectingCall, leaves_no_call}
use Rattle.cas_world.specs.Exchanges.Exchange.{WasToldOrder}
use Rattle.cas_world.specs.Readers.{closed_in, told_if}
use Rattle.cas_world.specs.World.{WasTold}
use Rattle.cas_board_steps.specs.Collection.Collecting.{HasTombstoneCall, IsRefusedTombstone, not_begun, begun, Stops, TellsRefusal, tells, stops}
use Rattle.cas_board_steps.specs.Calls.Open.{HasOpen}
use Rattle.cas_board_steps.specs.OwnParts.{own_part}
use Rattle.cas_board_steps.proofs.Collection.Collecting.{is_setting_tombstone}

-- ---- its call is open
pub tombstone_open : (key : List ℕ) (call : ℕ) (own : List ℕ) (marks : List Mark) → HasTombstoneCall key call own marks → HasOpen call own
tombstone_open key call own marks has = record { rounds = has.rounds; phase = has.phase; council = has.council; unasked = has.none_asked; is = has.is }

-- ---- another caller closed it
-- which tells never that it is done
closed_done : (told one : Answer) (closed done : Bool) → is_done one ≡ done → (if closed && not done then Some one else None) ≡ Some told → is_done told ≡ false
closed_done told one true true e is = absurd (cc is)
closed_done told one true false e is = ap is_done (sym (some_is is)) ∙ e
closed_done told one false done e is = absurd (cc is)

told_undone : (told : Answer) (closed : Bool) (o : Option Answer) → told_if closed o ≡ Some told → is_done told ≡ false
told_undone told closed None is = absurd (cc is)
told_undone told closed (Some one) is = closed_done told one closed (is_done one) refl is

pub closed_undone : {S V : Type 0} (view : View S V) (key : List ℕ) (call : ℕ) (told : Answer) (closed : Option Answer) → HasTombstoneCall key call (own_part view 0) view.marks → ((caller : CallerView) → IsAt view.callers 0 caller → closed ≡ closed_in caller.call) → closed ≡ Some told → is_done told ≡ false
closed_undone view key call told closed has says e =
    let is = is_setting_tombstone view key call view.marks has in
    told_undone told is.open_call.is_closed is.open_call.told (ap closed_in (sym is.is_open) ∙ sym (says is.caller is.at_caller) ∙ e)

-- ---- it is refused
-- what is no word of a stop leaves no call
pub unstopped : (refusal : OpAnswer) → ((said : Answer) → refusal ≡ op.Stopped said → ⊥) → leaves_no_call refusal ≡ true
unstopped (op.Stopped said) other = absurd (other said refl)
unstopped (op.Collected key ballot removed kept) other = refl
unstopped (op.Busy era) other = refl
unstopped (op.NotEmpty version) other = refl
unstopped (op.Absent acceptor) other = refl
unstopped (op.ProposerDown proposer) other = refl
unstopped (op.Probed key found) other = refl
unstopped (op.Joined id era rescanned) other = refl
unstopped (op.Left id era rescanned) other = refl
unstopped (op.Resized need_prep need_acc era rescanned) other = refl
unstopped (op.Refused fault) other = refl

pub refused_was_told : {S V : Type 0} (view : View S V) (call : ℕ) (refusal : OpAnswer) → IsRefusedTombstone view call refusal → leaves_no_call refusal ≡ true → WasToldOrder view refusal
refused_was_told view call refusal (not_begun leaves was) is_left = was
refused_was_told view call refusal (begun said is leaves undone was calling) is_left = absurd (cc (leaves, is_left))

-- its call was begun, and was told that
pub record WasBegunAndTold {S V : Type 0} (view : View S V) (call : ℕ) (said : Answer) : Type 0 where
  pub undone : is_done said ≡ false
  pub was : WasTold view 0 call said
  pub calling : IsCollectingCall view

pub refused_was_begun : {S V : Type 0} (view : View S V) (call : ℕ) (refusal : OpAnswer) (said : Answer) → refusal ≡ op.Stopped said → IsRefusedTombstone view call refusal → leaves_no_call (op.Stopped said) ≡ false → WasBegunAndTold view call said
refused_was_begun view call refusal said is (not_begun leaves was) is_kept = absurd (cc (sym (ap leaves_no_call is) ∙ leaves, is_kept))
refused_was_begun view call refusal said is (begun other is_other leaves undone was calling) is_kept =
    let same : other ≡ said = cc (sym is_other ∙ is) in
    record { undone = subst (λ (a : Answer). is_done a ≡ false) same undone; was = subst (λ (a : Answer). WasTold view 0 call a) same was; calling = calling }

-- so the operator is told, and its call ends if it was begun
pub tells_stopped : {S V : Type 0} (m : Meaning S V) (old new : View S V) (refusal : OpAnswer) (said : Answer) → refusal ≡ op.Stopped said → leaves_no_call (op.Stopped said) ≡ true → StepTell old (op.Stopped said) new → TellsRefusal m old refusal new
tells_stopped {S} {V} m old new refusal said is leaves by = tells (ap leaves_no_call is ∙ leaves) (subst (λ (a : OpAnswer). StepTell old a new) (sym is) by)

pub stops_stopped : {S V : Type 0} (m : Meaning S V) (old new : View S V) (refusal : OpAnswer) (said : Answer) → refusal ≡ op.Stopped said → leaves_no_call (op.Stopped said) ≡ false → Stops m old said new → TellsRefusal m old refusal new
stops_stopped m old new refusal said is leaves by = stops said is (ap leaves_no_call is ∙ leaves) by
