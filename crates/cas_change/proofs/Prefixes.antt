-- Lemmas on the prefix numbers of keys.
use Rattle.std.specs.Prelude.{◌+◌, ◌-◌, ◌*◌, ◌/◌, length, take, drop}
use Rattle.std.specs.Ordering.{nat_cmp}
use Rattle.std.specs.Cmp.Lexicographic.{slice_cmp}
use Rattle.std.specs.declared.cmp.Ordering.TheVariants.{Less, Equal, Greater}
use Rattle.std.proofs.Common.{◌≡◌, inl, inr, ℕ, suc, ◌<◌, ◌≤◌, List, [], ◌∷◌, get_or, refl, ap, arith}
use Rattle.std.proofs.lemmas.Bool.{cases_order, cases_lt}
use Rattle.std.proofs.lemmas.Nat.{mul-le}
use Rattle.std.proofs.lemmas.Bool.Decides.{nat_tests}
use Rattle.std.proofs.lemmas.List.{get_or_past}
use Rattle.std.proofs.Math.Seq.{take-length}
use Rattle.cas_change.specs.Key.{IsKey}
use Rattle.cas_change.specs.KeyPrefix.{prefix_number}

-- each of them is a byte
abbrev pub AreBytes : List ℕ → Type 0
AreBytes bytes = (i : ℕ) → get_or bytes i 0 < 256

pub key_is_bytes : (bytes : List ℕ) → IsKey bytes → AreBytes bytes
key_is_bytes bytes key i = elim (cases_lt i (length bytes)) [
  | inl within ↦ omega (arith, key.each i 0 within)
  | inr beyond ↦ omega (arith, get_or_past bytes i 0 beyond)
]

-- where nothing counts, the number is nothing
pub weightless : (bytes : List ℕ) → prefix_number bytes 0 ≡ 0
weightless [] = refl
weightless (byte ∷ bytes) = omega (arith, weightless bytes)

-- the first byte apart from the others
pub sum_of : (bytes : List ℕ) (weight : ℕ) → 1 ≤ length bytes → get_or bytes 0 0 * weight + prefix_number (take (length bytes - 1) (drop 1 bytes)) (weight / 256) ≡ prefix_number bytes weight
sum_of [] weight some = absurd (omega (arith, some))
sum_of (byte ∷ bytes) weight some =
    let behind : suc (length bytes) - 1 ≡ length bytes = omega arith in
    rw behind (ap (λ (l : List ℕ). byte * weight + prefix_number l (weight / 256)) (take-length bytes))

-- what the bytes count is less than 256 times what a one in the first place does
pub prefix_below : (bytes : List ℕ) (weight : ℕ) → AreBytes bytes → prefix_number bytes weight ≤ 256 * weight - 1
prefix_below [] weight each = omega arith
prefix_below (byte ∷ bytes) weight each =
    omega (arith, each 0, mul-le byte weight 255 weight (omega (arith, each 0)) (omega arith), prefix_below bytes (weight / 256) (λ i. each (suc i)))

-- a smaller first byte makes the number smaller
smaller : (x y : ℕ) (xs ys : List ℕ) (weight : ℕ) → AreBytes xs → x < y → prefix_number (y ∷ ys) weight < prefix_number (x ∷ xs) weight → ⊥
smaller x y xs ys weight each lt more =
    absurd (omega (arith, mul-le (suc x) weight y weight lt (omega arith), prefix_below xs (weight / 256) each))

below-cmp : (x y : ℕ) → x < y → nat_cmp x y ≡ Less
below-cmp x y lt = grind (arith, nat_tests)

above-cmp : (x y : ℕ) → y < x → nat_cmp x y ≡ Greater
above-cmp x y lt = grind (arith, nat_tests)

same-cmp : (x y : ℕ) → x ≡ y → nat_cmp x y ≡ Equal
same-cmp x y same = grind (arith, nat_tests)

-- bytes with a smaller number come first
pub less : (xs ys : List ℕ) (weight : ℕ) → AreBytes xs → AreBytes ys → prefix_number xs weight < prefix_number ys weight → slice_cmp nat_cmp xs ys ≡ Less
less [] [] weight xb yb lt = absurd (omega (arith, lt))
less [] (y ∷ ys) weight xb yb lt = refl
less (x ∷ xs) [] weight xb yb lt = absurd (omega (arith, lt))
less (x ∷ xs) (y ∷ ys) weight xb yb lt = elim (cases_order x y) [
  | inl same ↦ rw (same-cmp x y same) (less xs ys (weight / 256) (λ i. xb (suc i)) (λ i. yb (suc i)) (omega (arith, lt, ap (λ (n : ℕ). n * weight) same)))
  | inr (inl below) ↦ rw (below-cmp x y below) refl
  | inr (inr above) ↦ absurd (smaller y x ys xs weight (λ i. yb (suc i)) above lt)
]

-- bytes with a greater number come later
pub greater : (xs ys : List ℕ) (weight : ℕ) → AreBytes xs → AreBytes ys → prefix_number ys weight < prefix_number xs weight → slice_cmp nat_cmp xs ys ≡ Greater
greater [] [] weight xb yb lt = absurd (omega (arith, lt))
greater [] (y ∷ ys) weight xb yb lt = absurd (omega (arith, lt))
greater (x ∷ xs) [] weight xb yb lt = refl
greater (x ∷ xs) (y ∷ ys) weight xb yb lt = elim (cases_order x y) [
  | inl same ↦ rw (same-cmp x y same) (greater xs ys (weight / 256) (λ i. xb (suc i)) (λ i. yb (suc i)) (omega (arith, lt, ap (λ (n : ℕ). n * weight) same)))
  | inr (inl below) ↦ absurd (smaller x y xs ys weight (λ i. xb (suc i)) below lt)
  | inr (inr above) ↦ rw (above-cmp x y above) refl
]
