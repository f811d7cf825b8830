-- What a caller's own part tells of what is open, and what becomes of it.
use Rattle.std.proofs.Common.{◌≡◌, ◌≢◌, ℕ, zero, suc, ◌==◌, Bool, true, false, if◌then◌else◌, is_some, List, [], ◌++◌, Option, None, Some, slice_get, refl, sym, ap, ap₂, ◌∙◌, append-nil, arith}
use Rattle.cas_model.specs.Council.{Council}
use Rattle.cas_model.specs.Calls.Step.{one_more}
use Rattle.cas_model.specs.View.{View, CallView, CallerView, IsAt}
use Rattle.cas_board_steps.specs.OwnParts.{phase_of, call_part, open_part, caller_part, exchange_part, plan_part, council_part, own_part}
use Rattle.cas_board_steps.specs.Calls.Conflicts.{told_conflict}
use Rattle.cas_board_steps.specs.Calls.Open.{NothingIsOpen, IsIdle, HasOpen, beside_in, rounds_in, is_met_in, rounds_after}
use Rattle.cas_board_steps.proofs.Exchanges.Councils.{kind_of, no_call_kind, no_call_of, is_like, no_exchange, with_plan}

-- ---- what else a caller has of its own
abbrev pub rest_of : {S V : Type 0} → View S V → ℕ → List ℕ
rest_of view zero = council_part view.council
rest_of view (suc n) = []

rest_first : {S V : Type 0} (view : View S V) (n : ℕ) → kind_of (rest_of view n) ≢ 0
rest_first view zero e = no_call_kind view.council e
rest_first view (suc n) e = absurd (let h : 9 ≡ 0 = e in omega (arith, h))

pub own_is : {S V : Type 0} (view : View S V) (n : ℕ) → own_part view n ≡ caller_part (slice_get view.callers n) ++ rest_of view n
own_is view zero = refl
own_is view (suc n) = sym (append-nil (caller_part (slice_get view.callers (suc n))))

pub rest_same : {S V : Type 0} (old new : View S V) (n : ℕ) → new.council ≡ old.council → rest_of new n ≡ rest_of old n
rest_same old new zero same = ap council_part same
rest_same old new (suc n) same = refl

-- no exchange of the operator is open
pub record IsExchangeQuiet (council : Council) : Type 0 where
  pub exchange : council.exchange ≡ None

quiet_of : {S V : Type 0} (view : View S V) (n : ℕ) (council : Council) → council.exchange ≡ None → rest_of view n ≡ council_part council → n ≡ 0 → IsExchangeQuiet view.council
quiet_of view zero council unasked e is = record { exchange = no_exchange view.council.exchange ((is_like view.council council e).exchange ∙ ap exchange_part unasked) }
quiet_of view (suc n) council unasked e is = absurd (cc is)

-- ---- no call is open
idle_parts : {S V : Type 0} (view : View S V) (n : ℕ) (idle : IsIdle (own_part view n)) → ((caller : CallerView) → slice_get view.callers n ≡ Some caller → caller.call ≡ None) × (rest_of view n ≡ council_part idle.council)
idle_parts view n idle = no_call_of (slice_get view.callers n) (rest_of view n) idle.council (sym (own_is view n) ∙ idle.is)

pub idle_call : {S V : Type 0} (view : View S V) (n : ℕ) → IsIdle (own_part view n) → (caller : CallerView) → IsAt view.callers n caller → caller.call ≡ None
idle_call view n idle = (idle_parts view n idle).0

pub idle_quiet : {S V : Type 0} (view : View S V) (n : ℕ) → IsIdle (own_part view n) → n ≡ 0 → IsExchangeQuiet view.council
idle_quiet view n idle = quiet_of view n idle.council idle.unasked (idle_parts view n idle).1

-- where nothing is open but a change of membership, no call is
pub free_is_idle : (own : List ℕ) → NothingIsOpen own → IsIdle own
free_is_idle own free = record { council = with_plan free.plan; unasked = refl; is = free.is ∙ sym (append-nil (plan_part free.plan)) }

-- ---- a call is open
pub record HasOpenCallAt {S V : Type 0} (view : View S V) (n call : ℕ) : Type 0 where
  pub caller : CallerView
  pub at_caller : IsAt view.callers n caller
  pub number : caller.number ≡ call
  pub open_call : CallView
  pub is_open : caller.call ≡ Some open_call

record OpenParts (number : ℕ) (is_call : Option CallView) (rest : List ℕ) (call : ℕ) (beside : List ℕ) : Type 0 where
  same : number ≡ call
  open_call : CallView
  is_open : is_call ≡ Some open_call
  rest_is : rest ≡ beside

open_parts : (number : ℕ) (is_call : Option CallView) (rest : List ℕ) (call rounds phase : ℕ) (beside : List ℕ) → (kind_of rest ≢ 0) → open_part number is_call ++ rest ≡ call_part call rounds phase ++ beside → OpenParts number is_call rest call beside
open_parts number None rest call rounds phase beside not e = absurd (not (ap kind_of e))
open_parts number (Some one) rest call rounds phase beside not e = let same_number : number ≡ call = cc e in let same_rest : rest ≡ beside = cc e in record { same = same_number; open_call = one; is_open = refl; rest_is = same_rest }

record CallerParts (o : Option CallerView) (rest : List ℕ) (call : ℕ) (beside : List ℕ) : Type 0 where
  caller : CallerView
  is : o ≡ Some caller
  parts : OpenParts caller.number caller.call rest call beside

caller_parts : (o : Option CallerView) (rest : List ℕ) (call rounds phase : ℕ) (beside : List ℕ) → (kind_of rest ≢ 0) → caller_part o ++ rest ≡ call_part call rounds phase ++ beside → CallerParts o rest call beside
caller_parts None rest call rounds phase beside not e = absurd (not (ap kind_of e))
caller_parts (Some one) rest call rounds phase beside not e = record { caller = one; is = refl; parts = open_parts one.number one.call rest call rounds phase beside not e }

has_parts : {S V : Type 0} (view : View S V) (n call : ℕ) (has : HasOpen call (own_part view n)) → CallerParts (slice_get view.callers n) (rest_of view n) call (council_part has.council)
has_parts view n call has = caller_parts (slice_get view.callers n) (rest_of view n) call has.rounds has.phase (council_part has.council) (rest_first view n) (sym (own_is view n) ∙ has.is)

pub open_at : {S V : Type 0} (view : View S V) (n call : ℕ) → HasOpen call (own_part view n) → HasOpenCallAt view n call
open_at view n call has = let p = has_parts view n call has in record { caller = p.caller; at_caller = p.is; number = p.parts.same; open_call = p.parts.open_call; is_open = p.parts.is_open }

pub open_quiet : {S V : Type 0} (view : View S V) (n call : ℕ) → HasOpen call (own_part view n) → n ≡ 0 → IsExchangeQuiet view.council
open_quiet view n call has = quiet_of view n has.council has.unasked (has_parts view n call has).parts.rest_is

-- ---- what becomes of it
-- a call is open then
now_open : {S V : Type 0} (new : View S V) (n call : ℕ) (council : Council) (caller : CallerView) (next : CallView) → IsAt new.callers n caller → caller.number ≡ call → caller.call ≡ Some next → council.exchange ≡ None → rest_of new n ≡ council_part council → HasOpen call (own_part new n)
now_open new n call council caller next at number is unasked rest = record {
  rounds = next.rounds;
  phase = phase_of next;
  council = council;
  unasked = unasked;
  is = own_is new n ∙ ap₂ (λ (o : Option CallerView) (r : List ℕ). caller_part o ++ r) at rest ∙ ap₂ (λ (k : ℕ) (o : Option CallView). open_part k o ++ council_part council) number is;
}

pub stays_open : {S V : Type 0} (old new : View S V) (n call : ℕ) → HasOpen call (own_part old n) → new.council ≡ old.council → (caller : CallerView) (next : CallView) → IsAt new.callers n caller → caller.number ≡ call → caller.call ≡ Some next → HasOpen call (own_part new n)
stays_open old new n call has same caller next at number is = now_open new n call has.council caller next at number is has.unasked (rest_same old new n same ∙ (has_parts old n call has).parts.rest_is)

pub is_open_then : {S V : Type 0} (old new : View S V) (n call : ℕ) → IsIdle (own_part old n) → new.council ≡ old.council → (caller : CallerView) (next : CallView) → IsAt new.callers n caller → caller.number ≡ call → caller.call ≡ Some next → HasOpen call (own_part new n)
is_open_then old new n call idle same caller next at number is = now_open new n call idle.council caller next at number is idle.unasked (rest_same old new n same ∙ (idle_parts old n idle).1)

-- no call is open then
closed_own : (o : Option CallerView) (caller : CallerView) (rest : List ℕ) → o ≡ Some caller → caller.call ≡ None → caller_part o ++ rest ≡ rest
closed_own o caller rest at none = ap (λ (p : Option CallerView). caller_part p ++ rest) at ∙ ap (λ (c : Option CallView). open_part caller.number c ++ rest) none

pub own_closed : {S V : Type 0} (view : View S V) (n : ℕ) (caller : CallerView) → IsAt view.callers n caller → caller.call ≡ None → own_part view n ≡ rest_of view n
own_closed view n caller at none = own_is view n ∙ closed_own (slice_get view.callers n) caller (rest_of view n) at none

no_council : Council
no_council = record { order = None; exchange = None; plan = None; collection = None; used = [] }

pub now_idle : {S V : Type 0} (view : View S V) (n : ℕ) (caller : CallerView) → IsAt view.callers n caller → caller.call ≡ None → (n ≡ 0 → view.council.exchange ≡ None) → IsIdle (own_part view n)
unfolding no_council
now_idle view zero caller at none unasked = record { council = view.council; unasked = unasked refl; is = own_closed view zero caller at none }
now_idle view (suc n) caller at none unasked = record { council = no_council; unasked = refl; is = own_closed view (suc n) caller at none }

-- ---- rounds
met_phase : (call : CallView) → (phase_of call == 2) ≡ told_conflict call.told
met_phase call = by_tests (told_conflict call.told) (is_some call.proposed)
  where
    by_tests : (met proposed : Bool) → ((if met then 2 else if proposed then 1 else 0) == 2) ≡ met
    by_tests true proposed = refl
    by_tests false true = refl
    by_tests false false = refl

-- of an open call its own part tells the rounds, and whether the last of them ended with a conflict
module _ {S V : Type 0} (view : View S V) (n : ℕ) (caller : CallerView) (call : CallView) (at : IsAt view.callers n caller) (is : caller.call ≡ Some call) where
  open_own : own_part view n ≡ call_part caller.number call.rounds (phase_of call) ++ rest_of view n
  open_own = own_is view n ∙ ap (λ (o : Option CallerView). caller_part o ++ rest_of view n) at ∙ ap (λ (o : Option CallView). open_part caller.number o ++ rest_of view n) is

  -- and what the operator has under way
  pub beside_part : beside_in (own_part view n) ≡ rest_of view n
  beside_part = ap beside_in open_own

  pub rounds_part : rounds_in (own_part view n) ≡ call.rounds
  rounds_part = ap rounds_in open_own

  pub met_part : is_met_in (own_part view n) ≡ told_conflict call.told
  met_part = ap is_met_in open_own ∙ met_phase call

  pub after_part : rounds_after (own_part view n) ≡ (if told_conflict call.told then one_more call.rounds else call.rounds)
  after_part = ap₂ (λ (b : Bool) (r : ℕ). if b then one_more r else r) met_part rounds_part
