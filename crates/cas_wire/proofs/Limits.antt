-- A number that does not rise above a limit, byte by byte, is at most that limit.
use Rattle.std.proofs.Common.{◌≡◌, ℕ, zero, suc, ◌+◌, ◌*◌, ◌/◌, ◌^◌, ◌<◌, ◌≤◌, Bool, true, false, cond, ltb, List, [], ◌∷◌, ◌++◌, length, Option, Some, None, refl, sym, ap, arith, inl, inr, lit<}
use Rattle.std.specs.Prelude.{◌⊎◌}
use Rattle.std.specs.Int.{w16, w64, byte_at, bytes_high_first, from_be_bytes}
use Rattle.std.proofs.lemmas.Bool.{ltb-true, ltb-false}
use Rattle.std.proofs.Math.Nat.{mul-le-mul_right, pow-succ', mod-lt}
use Rattle.cas_wire.specs.Reading.{rise_at, one_later}
use Rattle.cas_base.proofs.Bytes.{IsBytes}
use Rattle.cas_wire.proofs.Formats.{IsBytes-rest}

-- the number of these bytes
abbrev pub value : List ℕ → ℕ
value [] = 0
value (b ∷ bytes) = b * 256 ^ length bytes + value bytes

value-lt : (bytes : List ℕ) → IsBytes bytes → value bytes < 256 ^ length bytes
value-lt [] fits = lit< tt
value-lt (b ∷ bytes) fits =
    let rest = value-lt bytes (IsBytes-rest b bytes fits) in
    let here : b < 256 = fits 0 in
    let most : (b + 1) * 256 ^ length bytes ≤ 256 * 256 ^ length bytes = mul-le-mul_right (256 ^ length bytes) (omega arith) in
    let power : 256 ^ suc (length bytes) ≡ 256 * 256 ^ length bytes = pow-succ' 256 (length bytes) in
    omega (arith, rest, most, power)

later_none : (o : Option ℕ) → one_later o ≡ None → o ≡ None
later_none None e = refl
later_none (Some i) e = absurd cc

pub risen_by : (s t : Bool) (o : Option ℕ) → cond s None (cond t (Some 0) (one_later o)) ≡ None → (s ≡ true) ⊎ ((s ≡ false) × (t ≡ false) × (o ≡ None))
risen_by true t o e = inl refl
risen_by false true o e = absurd cc
risen_by false false o e = inr (refl, refl, later_none o e)

pub rise_le : (limit bytes rest : List ℕ) → length bytes ≡ length limit → IsBytes bytes → rise_at limit (bytes ++ rest) ≡ None → value bytes ≤ value limit
rise_le [] [] rest len fits e = omega arith
rise_le [] (b ∷ bytes) rest len fits e = absurd (omega (arith, len))
rise_le (l ∷ limit) [] rest len fits e = absurd (omega (arith, len))
rise_le (l ∷ limit) (b ∷ bytes) rest len fits e =
    let same : length bytes ≡ length limit = omega (arith, len) in
    let power : l * 256 ^ length limit ≡ l * 256 ^ length bytes = ap (λ (n : ℕ). l * 256 ^ n) (sym same) in
    elim (risen_by (ltb b l) (ltb l b) (rise_at limit (bytes ++ rest)) e) [
      | inl below ↦
          let less : b < l = ltb-true b l below in
          let v = value-lt bytes (IsBytes-rest b bytes fits) in
          let most : (b + 1) * 256 ^ length bytes ≤ l * 256 ^ length bytes = mul-le-mul_right (256 ^ length bytes) (omega (arith, less)) in
          omega (arith, v, most, power)
      | inr equal ↦
          let inner = rise_le limit bytes rest same (IsBytes-rest b bytes fits) equal.2 in
          let one : b ≡ l = omega (arith, ltb-false b l equal.0, ltb-false l b equal.1) in
          let here : b * 256 ^ length bytes ≡ l * 256 ^ length bytes = ap (λ (x : ℕ). x * 256 ^ length bytes) one in
          omega (arith, inner, here, power)
    ]

pub not_risen : (s t : Bool) (o : Option ℕ) → (t ≡ true → ⊥) → (s ≡ false → t ≡ false → o ≡ None) → cond s None (cond t (Some 0) (one_later o)) ≡ None
not_risen true t o above same = refl
not_risen false true o above same = absurd (above refl)
not_risen false false o above same = ap one_later (same refl refl)

pub le_rise : (limit bytes rest : List ℕ) → length bytes ≡ length limit → IsBytes limit → value bytes ≤ value limit → rise_at limit (bytes ++ rest) ≡ None
le_rise [] bytes rest len fits le = refl
le_rise (l ∷ limit) [] rest len fits le = absurd (omega (arith, len))
le_rise (l ∷ limit) (b ∷ bytes) rest len fits le =
    let same : length bytes ≡ length limit = omega (arith, len) in
    let power : l * 256 ^ length limit ≡ l * 256 ^ length bytes = ap (λ (n : ℕ). l * 256 ^ n) (sym same) in
    let power' : 256 ^ length limit ≡ 256 ^ length bytes = ap (λ (n : ℕ). 256 ^ n) (sym same) in
    not_risen (ltb b l) (ltb l b) (rise_at limit (bytes ++ rest))
    (λ above.
    let less : l < b = ltb-true l b above in
    let v = value-lt limit (IsBytes-rest l limit fits) in
    let most : (l + 1) * 256 ^ length bytes ≤ b * 256 ^ length bytes = mul-le-mul_right (256 ^ length bytes) (omega (arith, less)) in
    omega (arith, v, most, power, power', le))
    (λ s t.
    let one : b ≡ l = omega (arith, ltb-false b l s, ltb-false l b t) in
    let here : b * 256 ^ length bytes ≡ l * 256 ^ length bytes = ap (λ (x : ℕ). x * 256 ^ length bytes) one in
    le_rise limit bytes rest same (IsBytes-rest l limit fits) (omega (arith, le, here, power)))

byte_lt : (k n : ℕ) → byte_at k n < 256
byte_lt zero n = mod-lt n (lit< tt)
byte_lt (suc k) n = mod-lt (n / 256 ^ suc k) (lit< tt)

-- what is spelled are bytes
pub IsBytes-high_first : (k n : ℕ) → IsBytes (bytes_high_first k n)
IsBytes-high_first zero n i = lit< tt
IsBytes-high_first (suc k) n zero = byte_lt k n
IsBytes-high_first (suc k) n (suc i) = IsBytes-high_first k n i

pub value-of_8 : (bytes : List ℕ) → length bytes ≡ 8 → value bytes ≡ from_be_bytes w64 bytes
value-of_8 (a ∷ b ∷ c ∷ d ∷ e ∷ f ∷ g ∷ h ∷ []) len = omega arith
value-of_8 (a ∷ b ∷ c ∷ d ∷ e ∷ f ∷ g ∷ h ∷ i ∷ bytes) len = absurd (omega (arith, len))
value-of_8 [] len = absurd (omega (arith, len))
value-of_8 (a ∷ []) len = absurd (omega (arith, len))
value-of_8 (a ∷ b ∷ []) len = absurd (omega (arith, len))
value-of_8 (a ∷ b ∷ c ∷ []) len = absurd (omega (arith, len))
value-of_8 (a ∷ b ∷ c ∷ d ∷ []) len = absurd (omega (arith, len))
value-of_8 (a ∷ b ∷ c ∷ d ∷ e ∷ []) len = absurd (omega (arith, len))
value-of_8 (a ∷ b ∷ c ∷ d ∷ e ∷ f ∷ []) len = absurd (omega (arith, len))
value-of_8 (a ∷ b ∷ c ∷ d ∷ e ∷ f ∷ g ∷ []) len = absurd (omega (arith, len))

pub value-of_2 : (bytes : List ℕ) → length bytes ≡ 2 → value bytes ≡ from_be_bytes w16 bytes
value-of_2 (a ∷ b ∷ []) len = omega arith
value-of_2 (a ∷ b ∷ c ∷ bytes) len = absurd (omega (arith, len))
value-of_2 [] len = absurd (omega (arith, len))
value-of_2 (a ∷ []) len = absurd (omega (arith, len))
