-- How many cells the memory counts after a cell was freed or taken, and after a key was added or removed.
use Rattle.std.specs.Prelude.{not, is_some, if◌then◌else◌}
use Rattle.std.specs.Result.{is_ok, OnOk, IfOk}
use Rattle.std.proofs.Common.{◌≡◌, ℕ, zero, suc, ◌+◌, ◌<◌, Bool, true, false, Option, Some, None, Result, Ok, Err, refl, sym, ap, ◌∙◌, arith}

-- one more, if it is new
pub one_more : (old new : ℕ) (was new_one : Bool) → was ≡ false → new_one ≡ not was → new ≡ old + (if new_one then 1 else 0) → new ≡ old + 1
one_more old new was new_one absent told count = count ∙ ap (λ (b : Bool). old + (if b then 1 else 0)) (told ∙ ap not absent)

-- one less, if it was there
pub one_less : (old new : ℕ) (was : Bool) → was ≡ true → new + (if was then 1 else 0) ≡ old → new + 1 ≡ old
one_less old new was there count = ap (λ (b : Bool). new + (if b then 1 else 0)) (sym there) ∙ count

-- one more, if the key had none
pub one_key_more : {X : Type 0} (old new : ℕ) (was : Option X) → was ≡ None → new ≡ old + (if is_some was then 0 else 1) → new ≡ old + 1
one_key_more old new was none count = count ∙ ap (λ o. old + (if is_some o then 0 else 1)) none

-- as many, if it had one
pub as_many : {X : Type 0} (old new : ℕ) (was : Option X) (x : X) → was ≡ Some x → new ≡ old + (if is_some was then 0 else 1) → new ≡ old
as_many old new was x some count = omega (arith, count ∙ ap (λ o. old + (if is_some o then 0 else 1)) some)

-- one less, if the key had one
pub one_key_less : {X : Type 0} (old new : ℕ) (was : Option X) (x : X) → was ≡ Some x → new + (if is_some was then 1 else 0) ≡ old → new + 1 ≡ old
one_key_less old new was x some count = ap (λ o. new + (if is_some o then 1 else 0)) (sym some) ∙ count

-- what is so of an `Ok`
pub on_ok : {T E : Type 0} (r : Result T E) (P : Type 0) → true ≡ is_ok r → OnOk r P → P
on_ok (Ok x) P is p = p
on_ok (Err e) P is p = absurd cc

-- one more, if what was put tells that the key had none
pub index_more : {X E : Type 0} (r : Result (Option X) E) (old new : ℕ) (was : Option X) → true ≡ is_ok r → IfOk r (λ x. x ≡ was) → was ≡ None → IfOk r (λ x. new ≡ old + (if is_some x then 0 else 1)) → new ≡ old + 1
index_more (Ok x) old new was is told none count = one_key_more old new x (told ∙ none) count
index_more (Err e) old new was is told none count = absurd cc

-- none, if some would be a contradiction
pub none_of : (n : ℕ) → (0 < n → false ≡ true) → n ≡ 0
none_of zero f = refl
none_of (suc n) f = absurd (let both : false ≡ true = f (omega arith) in cc)
