-- The places of a list that are not set.
use Rattle.std.proofs.Common.{◌≡◌, ◌≢◌, ℕ, zero, suc, List, [], ◌∷◌, slice_get, slice_set, refl, ap}

pub get_other : {A : Type 0} (all : List A) (place : ℕ) (x : A) (p : ℕ) → p ≢ place → slice_get (slice_set all place x) p ≡ slice_get all p
get_other [] place x p other = refl
get_other (one ∷ rest) zero x zero other = absurd (other refl)
get_other (one ∷ rest) zero x (suc p) other = refl
get_other (one ∷ rest) (suc place) x zero other = refl
get_other (one ∷ rest) (suc place) x (suc p) other = get_other rest place x p (λ is. other (ap suc is))
