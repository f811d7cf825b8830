-- What stands at a place of a list.
use Rattle.std.proofs.Common.{◌≡◌, ℕ, zero, suc, ◌<◌, List, [], ◌∷◌, ◌++◌, length, get_or, reverse, Some, refl, ap, arith, ◌∙◌}
use Rattle.std.specs.Prelude.{slice_get}
use Rattle.std.proofs.lemmas.Option.{slice_get-get_or}
use Rattle.std.proofs.lemmas.List.{reverse-append}
use Rattle.std.proofs.lemmas.Grind.{reverse_onto}
use Rattle.cas_base.proofs.Bools.{some_is}

-- what a read finds stands within, and is what stands there
pub got : {X : Type 0} (xs : List X) (i : ℕ) (x d : X) → slice_get xs i ≡ Some x → (i < length xs) × (get_or xs i d ≡ x)
got [] i x d is = absurd cc
got (y ∷ ys) zero x d is = (omega arith, some_is y x is)
got (y ∷ ys) (suc i) x d is = let r = got ys i x d is in (omega (arith, r.0), r.1)

-- and the other way round
pub gets : {X : Type 0} (xs : List X) (i : ℕ) (x d : X) → i < length xs → get_or xs i d ≡ x → slice_get xs i ≡ Some x
gets xs i x d within is = slice_get-get_or xs i d within ∙ ap Some is

-- what stands in front stays there
pub get_front : {X : Type 0} (xs ys : List X) (i : ℕ) (x : X) → slice_get xs i ≡ Some x → slice_get (xs ++ ys) i ≡ Some x
get_front [] ys i x is = absurd cc
get_front (y ∷ xs) ys zero x is = is
get_front (y ∷ xs) ys (suc i) x is = get_front xs ys i x is

-- the one that is added stands at the end
pub get_last : {X : Type 0} (xs : List X) (x : X) → slice_get (xs ++ x ∷ []) (length xs) ≡ Some x
get_last [] x = refl
get_last (y ∷ xs) x = get_last xs x

-- with one more the list is read with that in front
pub read_more : {X : Type 0} (xs : List X) (x : X) → reverse (xs ++ x ∷ []) ≡ x ∷ reverse xs
read_more xs x = reverse-append xs (x ∷ [])

-- and the other way round
pub made_more : {X : Type 0} (older : List X) (x : X) → reverse (x ∷ older) ≡ reverse older ++ x ∷ []
made_more older x = reverse_onto older x []
