-- Where one stands in a list.
use Rattle.std.proofs.Common.{◌≡◌, ◌<◌, ℕ, zero, suc, Bool, true, false, cond, List, [], ◌∷◌, length, Option, None, Some, refl, sym, subst, inl, inr, arith}
use Rattle.std.specs.Prelude.{get_or, nat_lt, position}
use Rattle.std.specs.List.{list_any, position_or_len}
use Rattle.std.proofs.lemmas.List.Quantifiers.{position-Some}
use Rattle.std.proofs.lemmas.List.Sums.{fails_before_first}
use Rattle.std.proofs.lemmas.Option.{get_or_from_slice_get}
use Rattle.cas_base.proofs.Bools.{or_cases, or_left, or_right}
use Rattle.cas_model.specs.View.{IsAt}
use Rattle.cas_model.proofs.Places.{some_is}
use Rattle.cas_model.proofs.Safety.Parts.{at_low, low_at}

-- one that passes
pub record Passing {A : Type 0} (test : A → Bool) (xs : List A) : Type 0 where
  pub place : ℕ
  pub one : A
  pub at : IsAt xs place one
  pub passes : test one ≡ true

pub passing : {A : Type 0} (test : A → Bool) (xs : List A) → list_any test xs ≡ true → Passing test xs
passing test [] is = absurd (cc is)
passing test (x ∷ xs) is = elim (or_cases (test x) (list_any test xs) is) [
  | inl now ↦ record { place = 0; one = x; at = refl; passes = now }
  | inr behind ↦ let rest = passing test xs behind in record { place = suc rest.place; one = rest.one; at = rest.at; passes = rest.passes }
]

pub any_at : {A : Type 0} (test : A → Bool) (xs : List A) (place : ℕ) (x : A) → IsAt xs place x → test x ≡ true → list_any test xs ≡ true
any_at test [] place x at passes = absurd (cc at)
any_at {A} test (y ∷ xs) zero x at passes = or_left (test y) (list_any test xs) (subst (λ (z : A). test z ≡ true) (sym (some_is at)) passes)
any_at test (y ∷ xs) (suc place) x at passes = or_right (test y) (list_any test xs) (any_at test xs place x at passes)

-- the first that passes
pub record FirstPassing {A : Type 0} (test : A → Bool) (xs : List A) : Type 0 where
  pub place : ℕ
  pub is : position test xs ≡ Some place
  pub one : A
  pub at : IsAt xs place one
  pub passes : test one ≡ true

none_beyond : (n size place : ℕ) → ◌≡◌ {A = Option ℕ} (cond (nat_lt n size) (Some n) None) None → place < size → place < n
none_beyond n size place e low = by_test (nat_lt n size) refl
  where
    by_test : (b : Bool) → nat_lt n size ≡ b → place < n
    by_test true is = absurd (cc (e, is))
    by_test false is = grind (arith, is, low)

pub first : {A : Type 0} (test : A → Bool) (xs : List A) → list_any test xs ≡ true → FirstPassing test xs
first {A} test xs is = by_place (position test xs) refl
  where
    some : Passing test xs
    some = passing test xs is

    by_place : (o : Option ℕ) → position test xs ≡ o → FirstPassing test xs
    by_place None none =
        let low = none_beyond (position_or_len test xs) (length xs) some.place none (low_at xs some.place some.at) in
        absurd (cc (some.passes, fails_before_first test xs some.place some.one low, get_or_from_slice_get xs some.place some.one some.one some.at))
    by_place (Some place) found =
        let facts = position-Some test xs place some.one found in
        let there = at_low xs place facts.0 in
        record { place = place; is = found; one = there.0; at = there.1; passes = subst (λ (x : A). test x ≡ true) (get_or_from_slice_get xs place there.0 some.one there.1) facts.1 }

-- what stands at a place
pub get_at : {A : Type 0} (all : List A) (place : ℕ) (one d : A) → IsAt all place one → get_or all place d ≡ one
get_at [] place one d at = absurd (cc at)
get_at (first ∷ rest) zero one d at = some_is at
get_at (first ∷ rest) (suc place) one d at = get_at rest place one d at
