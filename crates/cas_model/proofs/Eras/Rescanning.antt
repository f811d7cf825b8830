-- What stays of what the operator has under way as a key is proposed anew, and as that stops.
use Rattle.std.proofs.Common.{◌≡◌, ℕ, List, false, Option, None, Some, refl, ap, ◌∙◌, inl, inr}
use Rattle.std.specs.Prelude.{option_map}
use Rattle.cas_record.specs.declared.answer.Answer.{Answer}
use Rattle.cas_record.specs.declared.operator.OpAnswer.{OpAnswer}
use Rattle.cas_record.specs.declared.operator.OpAnswer.TheVariants.{Stopped}
use Rattle.cas_model.specs.Council.{OrderView, Council, reserved_for_order, told_so}
use Rattle.cas_protocol.specs.Protocol.{is_done}
use Rattle.cas_model.specs.Calls.Step as calls
use Rattle.cas_model.specs.Calls.Step.{IsRefusal, Rescans}
use Rattle.cas_model.specs.View.{View}

-- no exchange is opened by it, or ends
pub rescan_asks : (old : Council) (id : ℕ) (key : List ℕ) (told : Answer) (new : Council) → Rescans old id key told new → new.exchange ≡ old.exchange
rescan_asks old id key told new (calls.rescans of done same) = ap (λ (c : Council). c.exchange) same
rescan_asks old id key told new (calls.stops of undone same) = ap (λ (c : Council). c.exchange) same
rescan_asks old id key told new (calls.is_none none same) = ap (λ (c : Council). c.exchange) same

-- nobody becomes a member by it
pub rescan_used : (old : Council) (id : ℕ) (key : List ℕ) (told : Answer) (new : Council) → Rescans old id key told new → new.used ≡ old.used
rescan_used old id key told new (calls.rescans of done same) = ap (λ (c : Council). c.used) same
rescan_used old id key told new (calls.stops of undone same) = ap (λ (c : Council). c.used) same
rescan_used old id key told new (calls.is_none none same) = ap (λ (c : Council). c.used) same

-- as much stays reserved for the operator's call, be it told something
pub told_reserves : (order : Option OrderView) (said : OpAnswer) → reserved_for_order (option_map (told_so said) order) ≡ reserved_for_order order
told_reserves None said = refl
told_reserves (Some order) said = refl

pub rescan_reserves : (old : Council) (id : ℕ) (key : List ℕ) (told : Answer) (new : Council) → Rescans old id key told new → reserved_for_order new.order ≡ reserved_for_order old.order
rescan_reserves old id key told new (calls.rescans of done same) = ap (λ (c : Council). reserved_for_order c.order) same
rescan_reserves old id key told new (calls.stops of undone same) = ap (λ (c : Council). reserved_for_order c.order) same ∙ told_reserves old.order (Stopped told)
rescan_reserves old id key told new (calls.is_none none same) = ap (λ (c : Council). reserved_for_order c.order) same

-- what is not done stays listed
pub undone_plan : (old : Council) (id : ℕ) (key : List ℕ) (told : Answer) (new : Council) → is_done told ≡ false → Rescans old id key told new → new.plan ≡ old.plan
undone_plan old id key told new undone (calls.rescans of done same) = absurd (cc (undone, done))
undone_plan old id key told new undone (calls.stops of still same) = ap (λ (c : Council). c.plan) same
undone_plan old id key told new undone (calls.is_none none same) = ap (λ (c : Council). c.plan) same

-- a call that is refused is not done
pub refused_undone : {S V : Type 0} (view : View S V) (id : ℕ) (told : Answer) → IsRefusal view id told → is_done told ≡ false
refused_undone view id told (inl full) = ap is_done full.0
refused_undone view id told (inr none) = ap is_done none
