-- What tests tell, and that constructors are told apart.
use Rattle.std.proofs.Common.{◌≡◌, Bool, true, false, not, cond, Some, refl, inl, inr}
use Rattle.std.specs.Prelude.{◌⊎◌, ◌&&◌, ◌||◌}

-- ---- choices
pub if_true : {A : Type 0} (b : Bool) (x y : A) → b ≡ true → cond b x y ≡ x
if_true true x y e = refl
if_true false x y e = absurd cc

pub if_false : {A : Type 0} (b : Bool) (x y : A) → b ≡ false → cond b x y ≡ y
if_false true x y e = absurd cc
if_false false x y e = refl

pub true_or_false : (b : Bool) → (b ≡ true) ⊎ (b ≡ false)
true_or_false true = inl refl
true_or_false false = inr refl

pub and_left : (a b : Bool) → (a && b) ≡ true → a ≡ true
and_left true b e = refl
and_left false b e = e

pub and_right : (a b : Bool) → (a && b) ≡ true → b ≡ true
and_right true b e = e
and_right false b e = absurd cc

pub both_true : (a b : Bool) → a ≡ true → b ≡ true → (a && b) ≡ true
both_true true b p q = q
both_true false b p q = p

pub left_false : (a b : Bool) → a ≡ false → (a && b) ≡ false
left_false true b p = absurd cc
left_false false b p = refl

pub right_false : (a b : Bool) → b ≡ false → (a && b) ≡ false
right_false true b p = p
right_false false b p = refl

pub or_cases : (a b : Bool) → (a || b) ≡ true → (a ≡ true) ⊎ (b ≡ true)
or_cases true b e = inl refl
or_cases false b e = inr e

pub or_left : (a b : Bool) → a ≡ true → (a || b) ≡ true
or_left true b e = refl
or_left false b e = absurd cc

pub or_right : (a b : Bool) → b ≡ true → (a || b) ≡ true
or_right true b e = refl
or_right false b e = e

pub not_of_true : (a : Bool) → a ≡ true → not a ≡ false
not_of_true true e = refl
not_of_true false e = absurd cc

pub not_of_false : (a : Bool) → a ≡ false → not a ≡ true
not_of_false true e = absurd cc
not_of_false false e = refl

pub not_tells : (a : Bool) → not a ≡ true → a ≡ false
not_tells true e = absurd cc
not_tells false e = refl

pub not_both : (a : Bool) → a ≡ true → a ≡ false → ⊥
not_both true p q = cc
not_both false p q = cc

pub false_of_not : (a : Bool) → (a ≡ true → ⊥) → a ≡ false
false_of_not true n = absurd (n refl)
false_of_not false n = refl

-- ---- options
pub some_is : {A : Type 0} (x y : A) → Some x ≡ Some y → x ≡ y
some_is x y e = cc
