-- A set of acceptors gives its bits back.
use Rattle.std.specs.Prelude.{◌≡◌, ℕ, ◌+◌, ◌*◌, ◌/◌, ◌%◌, ◌^◌, suc, zero, ◌<◌, Bool, true, false, cond, ◌==◌, List, ◌∷◌, filter}
use Rattle.std.specs.Int.{bit_at}
use Rattle.std.specs.List.{range_with_len}
use Rattle.std.proofs.Common.{arith, sym, ◌∙◌, ap, subst, lit<, add-zero, add-one, zero-mul, refl}
use Rattle.std.proofs.lemmas.Bool.Decides.{nat_tests}
use Rattle.std.proofs.lemmas.List.Sums.{sum_by-cons}
use Rattle.std.proofs.Math.Nat.{div-add-mod, pow-suc, pow-succ', div-div-eq-div-mul, div-eq_of_lt, mod-lt}
use Rattle.cas_ballot.specs.Members.{members_where, members_of_bits, bits_of_members}

-- the ones from place a on, at most w of them, add up to what stands there
head_sum : (b : Bool) (a : ℕ) (xs : List ℕ) → bits_of_members (cond b (a ∷ xs) xs) ≡ cond b (2 ^ a) 0 + bits_of_members xs
head_sum true a xs = sum_by-cons (λ n. 2 ^ n) a xs
head_sum false a xs = omega arith

bit_value : (r p : ℕ) → r < 2 → cond (r == 1) p 0 ≡ r * p
bit_value r p h = grind (arith, nat_tests)

halves : (q r p : ℕ) → r * p + q * (2 * p) ≡ (2 * q + r) * p
halves q r p = omega arith

ones_from : (w a bits : ℕ) → bits < 2 ^ (a + w) → bits_of_members (filter (λ n. bit_at bits n == 1) (range_with_len a w)) ≡ bits / 2 ^ a * 2 ^ a
ones_from zero a bits h =
    let small : bits < 2 ^ a = subst (λ (x : ℕ). bits < 2 ^ x) (add-zero a) h in
    let none : bits / 2 ^ a ≡ 0 = div-eq_of_lt small in
    rw none (sym (zero-mul (2 ^ a)))
ones_from (suc w) a bits h =
    let within : bits < 2 ^ (a + 1 + w) = subst (λ (x : ℕ). bits < 2 ^ x) (omega arith) h in
    let rest : bits_of_members (filter (λ n. bit_at bits n == 1) (range_with_len (a + 1) w)) ≡ bits / 2 ^ (a + 1) * 2 ^ (a + 1) = ones_from w (a + 1) bits within in
    let power_right : 2 ^ (a + 1) ≡ 2 ^ a * 2 = ap (λ (x : ℕ). 2 ^ x) (add-one a) ∙ pow-suc 2 a in
    let next : bits / 2 ^ (a + 1) ≡ bits / 2 ^ a / 2 = sym (div-div-eq-div-mul bits (2 ^ a) 2 ∙ ap (λ (x : ℕ). bits / x) (sym power_right)) in
    let power : 2 ^ (a + 1) ≡ 2 * 2 ^ a = ap (λ (x : ℕ). 2 ^ x) (add-one a) ∙ pow-succ' 2 a in
    let digits : 2 * (bits / 2 ^ a / 2) + bits / 2 ^ a % 2 ≡ bits / 2 ^ a = div-add-mod (bits / 2 ^ a) 2 in
    let head : cond (bit_at bits a == 1) (2 ^ a) 0 ≡ bits / 2 ^ a % 2 * 2 ^ a = bit_value _ _ (mod-lt _ (lit< tt)) in
    head_sum (bit_at bits a == 1) a (filter (λ n. bit_at bits n == 1) (range_with_len (a + 1) w))
    ∙ rw (head, rest, next, power, halves) (rw digits refl)

pub bits_of_members_of_bits : (bits : ℕ) → bits < 2 ^ 64 → bits_of_members (members_of_bits bits) ≡ bits
unfolding members_where
bits_of_members_of_bits bits h = ones_from 64 0 bits h ∙ omega arith
