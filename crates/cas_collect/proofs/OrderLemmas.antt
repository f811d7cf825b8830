-- The places of the steps in their order.
use Rattle.std.proofs.Common.{◌≡◌, ℕ, ◌+◌, ◌-◌, suc, ◌<◌, ◌≤◌, List, [], ◌∷◌, ◌++◌, length, get_or, take, drop, arith, refl, sym, ◌∙◌, ap, subst, add-one, length-append}
use Rattle.std.specs.Prelude.{map}
use Rattle.std.specs.List.{range_with_len}
use Rattle.std.proofs.lemmas.List.{get_or_append_left, get_or-append_right, take-append-drop, take_more, length-take-le}
use Rattle.std.proofs.lemmas.List.FromFn.{get_or-map-range_with_len, length-map-range_with_len}
use Rattle.std.proofs.Math.Seq.{get_or-append_seam, drop-cons}
use Rattle.std.proofs.lemmas.Bool.Decides.{leb_tells}
use mathlib.Core.Logic.{inl, inr}
use Rattle.cas_collect.specs.declared.collect.CollectStep.{CollectStep}
use Rattle.cas_collect.specs.declared.collect.CollectStep.TheVariants.{Round, Renew, Ages, Floor, Remove, End}
use Rattle.cas_collect.specs.Order.{collection_steps, IsNext, with_step, place_of, IsStepOf, step_after}

-- the order is the steps to the last renewal, and the steps behind
abbrev front : ℕ → List CollectStep
front proposers = Round ∷ map Renew (range_with_len 0 (proposers + 1))

abbrev behind : List CollectStep
behind = Ages ∷ Floor ∷ Remove ∷ End ∷ []

length-front : (p : ℕ) → length (front p) ≡ p + 2
length-front p = omega (arith, length-map-range_with_len Renew 0 (p + 1))

length-steps : (p : ℕ) → length (collection_steps p) ≡ p + 6
length-steps p = omega (arith, length-append (front p) behind, length-front p)

behind_at : (p k i : ℕ) (d : CollectStep) → i ≡ p + 2 + k → get_or (collection_steps p) i d ≡ get_or behind k d
behind_at p k i d e =
    let off : i - (p + 2) ≡ k = omega arith in
    get_or-append_right (front p) behind (p + 2) i d (length-front p) (omega arith) ∙ ap (λ (n : ℕ). get_or behind n d) off

cons_at : (x : CollectStep) (xs : List CollectStep) (n : ℕ) (d : CollectStep) → get_or (x ∷ xs) (n + 1) d ≡ get_or xs n d
cons_at x xs n d = rw add-one refl

renewal_at : (p n : ℕ) (d : CollectStep) → n ≤ p → get_or (collection_steps p) (n + 1) d ≡ Renew n
renewal_at p n d h =
    get_or_append_left (front p) behind d (n + 1) (omega (arith, length-front p))
    ∙ cons_at Round (map Renew (range_with_len 0 (p + 1))) n d
    ∙ get_or-map-range_with_len Renew 0 (p + 1) n n d (omega arith) (omega arith)

-- each step stands at its place
pub at_place : (p : ℕ) (step : CollectStep) (d : CollectStep) → IsStepOf p step → get_or (collection_steps p) (place_of p step) d ≡ step
at_place p Round d h = refl
at_place p (Renew n) d h = renewal_at p n d h
at_place p Ages d h = behind_at p 0 (p + 2) d (omega arith)
at_place p Floor d h = behind_at p 1 (p + 3) d (omega arith)
at_place p Remove d h = behind_at p 2 (p + 4) d (omega arith)
at_place p End d h = behind_at p 3 (p + 5) d (omega arith)

pub within : (p : ℕ) (step : CollectStep) → IsStepOf p step → place_of p step < length (collection_steps p)
within p Round h = omega (arith, length-steps p)
within p (Renew n) h = omega (arith, length-steps p)
within p Ages h = omega (arith, length-steps p)
within p Floor h = omega (arith, length-steps p)
within p Remove h = omega (arith, length-steps p)
within p End h = omega (arith, length-steps p)

-- the steps before a place, and the step there
pub is_next : (p : ℕ) (step : CollectStep) → IsStepOf p step → IsNext p (take (place_of p step) (collection_steps p)) step
is_next p step h = record {
  later = drop (suc (place_of p step)) (collection_steps p);
  order = sym (take-append-drop (place_of p step) (collection_steps p))
      ∙ ap (λ rest. take (place_of p step) (collection_steps p) ++ rest) (drop-cons (collection_steps p) (place_of p step) Round (within p step h) ∙ ap (λ s. s ∷ drop (suc (place_of p step)) (collection_steps p)) (at_place p step Round h));
}

length-take-place : (p i : ℕ) → i < length (collection_steps p) → length (take i (collection_steps p)) ≡ i
length-take-place p i h = length-take-le i (collection_steps p) (omega arith)

-- the step that is next is the one at the place
pub only_next : (p : ℕ) (step other : CollectStep) → IsStepOf p step → IsNext p (take (place_of p step) (collection_steps p)) other → other ≡ step
only_next p step other h next =
    sym (get_or-append_seam (take (place_of p step) (collection_steps p)) other next.later Round)
    ∙ ap (λ (n : ℕ). get_or (take (place_of p step) (collection_steps p) ++ other ∷ next.later) n Round) (length-take-place p (place_of p step) (within p step h))
    ∙ ap (λ (xs : List CollectStep). get_or xs (place_of p step) Round) (sym next.order)
    ∙ at_place p step Round h

-- ---- the step behind
pub IsStepOf-step_after : (p : ℕ) (step : CollectStep) → IsStepOf p step → IsStepOf p (step_after p step)
IsStepOf-step_after p Round h = omega arith
IsStepOf-step_after p (Renew n) h = elim (leb_tells (suc n) p) [
  | inl low ↦ rw low.0 (omega (arith, low.1))
  | inr high ↦ rw high.0 tt
]
IsStepOf-step_after p Ages h = tt
IsStepOf-step_after p Floor h = tt
IsStepOf-step_after p Remove h = tt
IsStepOf-step_after p End h = tt

forward : (p i j : ℕ) (step : CollectStep) → j ≡ i + 1 → i < length (collection_steps p) → get_or (collection_steps p) i Round ≡ step
    → take j (collection_steps p) ≡ take i (collection_steps p) ++ step ∷ []
forward p i j step e small here =
    ap (λ (n : ℕ). take n (collection_steps p)) e ∙ take_more (collection_steps p) i Round small ∙ ap (λ s. take i (collection_steps p) ++ s ∷ []) here

renewed : (p n : ℕ) → n ≤ p → place_of p (step_after p (Renew n)) ≡ n + 1 + 1
renewed p n h = elim (leb_tells (suc n) p) [
  | inl low ↦ rw low.0 refl
  | inr high ↦ rw high.0 (omega (arith, high.1))
]

-- what is confirmed when the step behind is next
pub confirmed_more : (p : ℕ) (step : CollectStep) → IsStepOf p step
    → take (place_of p (step_after p step)) (collection_steps p) ≡ with_step (take (place_of p step) (collection_steps p)) step
confirmed_more p Round h = forward p 0 1 Round refl (within p Round h) refl
confirmed_more p (Renew n) h = forward p (n + 1) _ (Renew n) (renewed p n h) (within p (Renew n) h) (at_place p (Renew n) Round h)
confirmed_more p Ages h = forward p (p + 2) (p + 3) Ages (omega arith) (within p Ages h) (at_place p Ages Round h)
confirmed_more p Floor h = forward p (p + 3) (p + 4) Floor (omega arith) (within p Floor h) (at_place p Floor Round h)
confirmed_more p Remove h = forward p (p + 4) (p + 5) Remove (omega arith) (within p Remove h) (at_place p Remove Round h)
confirmed_more p End h = refl

-- once the step that is next is confirmed, the step behind is next
pub confirmed_by : (p : ℕ) (here step : CollectStep) → IsStepOf p here → IsNext p (take (place_of p here) (collection_steps p)) step
    → take (place_of p (step_after p step)) (collection_steps p) ≡ with_step (take (place_of p here) (collection_steps p)) step
confirmed_by p here step h next =
    let P : CollectStep → Type 0 = λ other. take (place_of p (step_after p other)) (collection_steps p) ≡ with_step (take (place_of p here) (collection_steps p)) other in
    subst P (sym (only_next p here step h next)) (confirmed_more p here h)

pub IsStepOf-confirmed : (p : ℕ) (here step : CollectStep) → IsStepOf p here → IsNext p (take (place_of p here) (collection_steps p)) step → IsStepOf p (step_after p step)
IsStepOf-confirmed p here step h next =
    let P : CollectStep → Type 0 = λ other. IsStepOf p (step_after p other) in
    subst P (sym (only_next p here step h next)) (IsStepOf-step_after p here h)
