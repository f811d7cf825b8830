-- What a set of acceptors has, and what its bits say.
use Rattle.std.proofs.Common.{◌≡◌, ℕ, ◌+◌, ◌*◌, ◌-◌, ◌/◌, ◌%◌, ◌^◌, suc, zero, ◌<◌, ◌≤◌, Bool, true, false, not, List, [], ◌∷◌, length, arith, sym, ◌∙◌, ap, subst, refl, nat_eq, add-zero, add-one, zero-add, zero-mul, eqb-true, eq-eqb, bit_and, bit_or, w64}
use Rattle.std.specs.Prelude.{cond, ◌==◌, ◌&&◌, ◌||◌, ◌⊎◌, filter, max, min}
use Rattle.std.specs.Int.{bit_at}
use Rattle.std.specs.List.{range_with_len}
use Rattle.std.proofs.lemmas.Bool.{cases_lt}
use Rattle.std.proofs.lemmas.Bool.Decides.{nat_tests, eqb_tells}
use Rattle.std.proofs.lemmas.Nat.{leading_length, leading_top, pow_below, pow_pos}
use Rattle.std.proofs.lemmas.Nat.Bits.{and_pow, bit_at-lt, bit_at_or, bit_at_and, bit_at_set_same, bit_at_set_other, bit_at_clear_same, bit_at_clear_other}
use Rattle.std.proofs.Math.Pow.{pow_mono}
use Rattle.std.proofs.Math.Nat.{div-div-eq-div-mul, pow-suc, div-eq_of_lt, div-eq_of_lt-le, mod-eq_of_lt, one-mul, div-one, zero-max, zero-min}
use mathlib.Core.Logic.{inl, inr}
use lib.Pointwise.{pointwise, bytes_decides}
use lib.Count.{count_leading_zeros, leading_of_zero, ones, ones_in, ones_step}
use Rattle.cas_ballot.specs.Members.{members_where, has_member, with_member, without_member, union_of, intersection_of, IsMemberSet, members_of_bits, bits_of_members}
use Rattle.cas_ballot.specs.MemberBits.{bits_of_members_of_bits}

-- one more number in front, where a test passes it
has-cond : (b : Bool) (x n : ℕ) (xs : List ℕ) → has_member (cond b (x ∷ xs) xs) n ≡ ((b && (x == n)) || has_member xs n)
has-cond true x n xs = refl
has-cond false x n xs = refl

neither : (b e f : Bool) → e ≡ false → f ≡ false → ((b && e) || f) ≡ false
neither true e f p q = rw (p, q) refl
neither false e f p q = q

first_alone : (b e f : Bool) → e ≡ true → f ≡ false → ((b && e) || f) ≡ b
first_alone true e f p q = rw p refl
first_alone false e f p q = q

second_alone : (b e f : Bool) → e ≡ false → ((b && e) || f) ≡ f
second_alone true e f p = rw p refl
second_alone false e f p = refl

absent_below : (p : ℕ → Bool) (w a n : ℕ) → n < a → has_member (filter p (range_with_len a w)) n ≡ false
absent_below p zero a n h = refl
absent_below p (suc w) a n h =
    let other : (a == n) ≡ false = grind (arith, nat_tests) in
    has-cond (p a) a n (filter p (range_with_len (a + 1) w)) ∙ neither _ _ _ other (absent_below p w (a + 1) n (omega arith))

has-filter : (p : ℕ → Bool) (w a n : ℕ) → a ≤ n → n < a + w → has_member (filter p (range_with_len a w)) n ≡ p n
has-filter p zero a n from to = absurd (omega arith)
has-filter p (suc w) a n from to =
    has-cond (p a) a n (filter p (range_with_len (a + 1) w)) ∙ elim (eqb_tells a n) [
      | inl here ↦ first_alone _ _ _ here.0 (absent_below p w (a + 1) n (omega (arith, here.1))) ∙ ap p here.1
      | inr later ↦ second_alone (p a) _ _ later.0 ∙ has-filter p w (a + 1) n (omega (arith, later.1)) (omega arith)
    ]

filter_same : (p q : ℕ → Bool) (w a : ℕ) → ((n : ℕ) → a ≤ n → n < a + w → p n ≡ q n) → filter p (range_with_len a w) ≡ filter q (range_with_len a w)
filter_same p q zero a same = refl
filter_same p q (suc w) a same =
    let rest : filter p (range_with_len (a + 1) w) ≡ filter q (range_with_len (a + 1) w) = filter_same p q w (a + 1) (λ n from to. same n (omega arith) (omega arith)) in
    let here : p a ≡ q a = same a (omega arith) (omega arith) in
    rw (rest, here) refl

-- a set has just the identities that pass its test
pub has-members_where : (p : ℕ → Bool) (n : ℕ) → n < 64 → has_member (members_where p) n ≡ p n
unfolding members_where
has-members_where p n h = has-filter p 64 0 n (omega arith) (omega arith)

-- tests that agree make one set
pub members_where_same : (p q : ℕ → Bool) → ((n : ℕ) → n < 64 → p n ≡ q n) → members_where p ≡ members_where q
unfolding members_where
members_where_same p q same = filter_same p q 64 0 (λ n from to. same n (omega arith))

-- the bit that stands for an identity
one_bit : (k : ℕ) → k < 64 → 1 * 2 ^ k % 2 ^ 64 ≡ 2 ^ k
one_bit k h = ap (λ (x : ℕ). x % 2 ^ 64) (one-mul (2 ^ k)) ∙ mod-eq_of_lt (pow_below k 64 h)

pub one_bit_fits : (k : ℕ) → k < 64 → 1 * 2 ^ k % 2 ^ 64 < 2 ^ 64
one_bit_fits k h = rw (one_bit k h) (pow_below k 64 h)

two_values : (b : ℕ) → b < 2 → (b ≡ 0) ⊎ (b ≡ 1)
two_values b h = elim (eqb_tells b 0) [ inl none ↦ inl none.1 | inr some ↦ inr (omega (arith, some.1)) ]

not_zero : (n : ℕ) → 0 < n → not (n == 0) ≡ true
not_zero n h = grind (arith, nat_tests)

bit_by_value : (b p : ℕ) → b < 2 → 0 < p → not ((b * p) == 0) ≡ (b == 1)
bit_by_value b p h q = elim (two_values b h) [
  | inl none ↦ rw (none, zero-mul p) refl
  | inr one ↦ rw (one, one-mul p) (not_zero p q)
]

pub bit_test : (bits k : ℕ) → k < 64 → not (bit_and bits (1 * 2 ^ k % 2 ^ 64) == 0) ≡ has_member (members_of_bits bits) k
bit_test bits k h =
    rw (one_bit k h, and_pow bits k, has-members_where (λ n. bit_at bits n == 1) k h) (bit_by_value (bit_at bits k) (2 ^ k) (bit_at-lt bits k) (pow_pos k))

pub set_bit : (bits k : ℕ) → k < 64 → members_of_bits (bit_or bits (1 * 2 ^ k % 2 ^ 64)) ≡ with_member (members_of_bits bits) k
set_bit bits k h =
    members_where_same _ _ (λ n below. rw (has-members_where (λ n. bit_at bits n == 1) n below) (elim (eqb_tells n k) [
      | inl same ↦ rw (same.0, same.1, bit_at_set_same w64 bits k h) refl
      | inr other ↦ rw (other.0, bit_at_set_other w64 bits k h n other.1) refl
    ]))

pub clear_bit : (bits k : ℕ) → k < 64 → members_of_bits (bit_and bits (2 ^ 64 - 1 - 1 * 2 ^ k % 2 ^ 64)) ≡ without_member (members_of_bits bits) k
clear_bit bits k h =
    members_where_same _ _ (λ n below. rw (has-members_where (λ n. bit_at bits n == 1) n below) (elim (eqb_tells n k) [
      | inl same ↦ rw (same.0, same.1, bit_at_clear_same w64 bits k h) refl
      | inr other ↦ rw (other.0, bit_at_clear_other w64 bits k h n below other.1) refl
    ]))

either : (a b : ℕ) → a < 2 → b < 2 → (max a b == 1) ≡ ((a == 1) || (b == 1))
either a b p q = elim (two_values a p) [
  | inl none ↦ rw (none, zero-max b) refl
  | inr one ↦ elim (two_values b q) [
    | inl none ↦ rw (one, none) refl
    | inr both ↦ rw (one, both) refl
  ]
]

pub either_bits : (a b : ℕ) → members_of_bits (bit_or a b) ≡ union_of (members_of_bits a) (members_of_bits b)
either_bits a b =
    members_where_same _ _ (λ n below.
    rw (has-members_where (λ n. bit_at a n == 1) n below, has-members_where (λ n. bit_at b n == 1) n below, bit_at_or a b n)
    (either (bit_at a n) (bit_at b n) (bit_at-lt a n) (bit_at-lt b n)))

both : (a b : ℕ) → a < 2 → b < 2 → (min a b == 1) ≡ ((a == 1) && (b == 1))
both a b p q = elim (two_values a p) [
  | inl none ↦ rw (none, zero-min b) refl
  | inr one ↦ elim (two_values b q) [
    | inl none ↦ rw (one, none) refl
    | inr ones ↦ rw (one, ones) refl
  ]
]

pub both_bits : (a b : ℕ) → members_of_bits (bit_and a b) ≡ intersection_of (members_of_bits a) (members_of_bits b)
both_bits a b =
    members_where_same _ _ (λ n below.
    rw (has-members_where (λ n. bit_at a n == 1) n below, has-members_where (λ n. bit_at b n == 1) n below, bit_at_and a b n)
    (both (bit_at a n) (bit_at b n) (bit_at-lt a n) (bit_at-lt b n)))

-- the ones of a number below 2 ^ (a + w), from place a on
length-cond : (b x : ℕ) (xs : List ℕ) → b < 2 → length (cond (b == 1) (x ∷ xs) xs) ≡ b + length xs
length-cond b x xs h = elim (two_values b h) [
  | inl none ↦ rw none (sym (zero-add (length xs)))
  | inr one ↦ rw one (omega arith)
]

ones_of_zero : ones 0 ≡ 0
unfolding ones ones_in
ones_of_zero = refl

ones_from : (w a bits : ℕ) → bits < 2 ^ (a + w) → length (filter (λ n. bit_at bits n == 1) (range_with_len a w)) ≡ ones (bits / 2 ^ a)
ones_from zero a bits h =
    let small : bits < 2 ^ a = subst (λ (x : ℕ). bits < 2 ^ x) (add-zero a) h in
    let none : bits / 2 ^ a ≡ 0 = div-eq_of_lt small in
    rw (none, ones_of_zero) refl
ones_from (suc w) a bits h =
    let within : bits < 2 ^ (a + 1 + w) = subst (λ (x : ℕ). bits < 2 ^ x) (omega arith) h in
    let next : bits / 2 ^ (a + 1) ≡ bits / 2 ^ a / 2 = sym (div-div-eq-div-mul bits (2 ^ a) 2 ∙ ap (λ (x : ℕ). bits / x) (sym (ap (λ (x : ℕ). 2 ^ x) (add-one a) ∙ pow-suc 2 a))) in
    length-cond (bit_at bits a) a _ (bit_at-lt bits a) ∙ ap (λ x. bit_at bits a + x) (ones_from w (a + 1) bits within ∙ ap ones next) ∙ sym (ones_step (bits / 2 ^ a))

pub length-members_of_bits : (bits : ℕ) → bits < 2 ^ 64 → length (members_of_bits bits) ≡ ones bits
unfolding members_where
length-members_of_bits bits h = ones_from 64 0 bits h ∙ ap ones (div-one bits)

-- two sets are equal where their bits are
differ : (a b : ℕ) (r : Bool) → pointwise nat_eq (members_of_bits a) (members_of_bits b) ≡ r → (a == b) ≡ false → a < 2 ^ 64 → b < 2 ^ 64 → false ≡ r
differ a b true t e p q =
    let same : a ≡ b = sym (bits_of_members_of_bits a p) ∙ ap bits_of_members ((bytes_decides (members_of_bits a) (members_of_bits b)).0 t) ∙ bits_of_members_of_bits b q in
    sym e ∙ eq-eqb a b same
differ a b false t e p q = refl

by_bits : (a b : ℕ) (r : Bool) → (a == b) ≡ r → a < 2 ^ 64 → b < 2 ^ 64 → r ≡ pointwise nat_eq (members_of_bits a) (members_of_bits b)
by_bits a b true e p q = sym ((bytes_decides (members_of_bits a) (members_of_bits b)).1 (ap members_of_bits (eqb-true a b e)))
by_bits a b false e p q = differ a b _ refl e p q

pub same_bits : (a b : ℕ) → a < 2 ^ 64 → b < 2 ^ 64 → (a == b) ≡ pointwise nat_eq (members_of_bits a) (members_of_bits b)
same_bits a b p q = by_bits a b (a == b) refl p q

-- no bit is no acceptor
pub members_of_bits-zero : members_of_bits 0 ≡ []
unfolding members_where
members_of_bits-zero = refl

-- what passes a test is a set of acceptors
pub IsMemberSet-members_where : (p : ℕ → Bool) → IsMemberSet (members_where p)
IsMemberSet-members_where p = record { lists = members_where_same p (has_member (members_where p)) (λ n below. sym (has-members_where p n below)) }

-- each acceptor of such a set passes the test
in_front : (b : Bool) (x n : ℕ) (xs : List ℕ) → has_member (cond b (x ∷ xs) xs) n ≡ true → ((b ≡ true) × ((x == n) ≡ true)) ⊎ (has_member xs n ≡ true)
in_front false x n xs e = inr e
in_front true x n xs e = by_first (x == n) refl
  where
    by_first : (t : Bool) → (x == n) ≡ t → ((true ≡ true) × ((x == n) ≡ true)) ⊎ (has_member xs n ≡ true)
    by_first true same = inl (refl, same)
    by_first false other = inr (ap (λ (t : Bool). t || has_member xs n) (sym other) ∙ e)

filter_tells : (p : ℕ → Bool) (xs : List ℕ) (n : ℕ) → has_member (filter p xs) n ≡ true → p n ≡ true
filter_tells p [] n e = absurd cc
filter_tells p (x ∷ xs) n e = elim (in_front (p x) x n (filter p xs) e) [
  | inl first ↦ subst (λ m. p m ≡ true) (eqb-true x n first.1) first.0
  | inr rest ↦ filter_tells p xs n rest
]

pub members_where_tells : (p : ℕ → Bool) (n : ℕ) → has_member (members_where p) n ≡ true → p n ≡ true
unfolding members_where
members_where_tells p n e = filter_tells p (range_with_len 0 64) n e

-- ---- the end of a set
absent_behind : (p : ℕ → Bool) (w a n : ℕ) → a + w ≤ n → has_member (filter p (range_with_len a w)) n ≡ false
absent_behind p zero a n h = refl
absent_behind p (suc w) a n h =
    let other : (a == n) ≡ false = grind (arith, nat_tests) in
    has-cond (p a) a n (filter p (range_with_len (a + 1) w)) ∙ neither _ _ _ other (absent_behind p w (a + 1) n (omega arith))

no_bit : (bits end n : ℕ) → bits < 2 ^ end → end ≤ n → bit_at bits n ≡ 0
no_bit bits end n low from =
    let more = pow_mono from in
    ap (λ (d : ℕ). d % 2) (div-eq_of_lt (let e : bits < 2 ^ n = omega (arith, low, more) in e))

-- it has no member where its bits are below a power, from that place on
pub none_behind : (bits end n : ℕ) → bits < 2 ^ end → end ≤ n → has_member (members_of_bits bits) n ≡ false
unfolding members_where
none_behind bits end n low from = elim (cases_lt n 64) [
  | inl within ↦ has-members_where (λ k. bit_at bits k == 1) n within ∙ ap (λ (b : ℕ). b == 1) (no_bit bits end n low from)
  | inr out ↦ absent_behind (λ k. bit_at bits k == 1) 64 0 n out
]

-- it has the last member before the end, where the bits reach that far
one_top : (bits j : ℕ) → 2 ^ j ≤ bits → bits < 2 ^ suc j → bit_at bits j ≡ 1
one_top bits j low high =
    let twice = pow-suc 2 j in
    ap (λ (d : ℕ). d % 2) (div-eq_of_lt-le {k = 1} (2 ^ j) {m = bits} (omega (arith, low)) (omega (arith, high, twice)))

-- where the leading zeros end
pub end_low : (bits : ℕ) → bits < 2 ^ 64 → bits < 2 ^ (64 - count_leading_zeros 64 bits)
end_low bits within =
    let found = leading_length 64 bits within in
    subst (λ (k : ℕ). bits < 2 ^ k) (let e : found.0 ≡ 64 - count_leading_zeros 64 bits = omega (arith, found.1) in e) found.2

pub last_before : (bits n : ℕ) → bits < 2 ^ 64 → suc n ≡ 64 - count_leading_zeros 64 bits → has_member (members_of_bits bits) n ≡ true
last_before bits n within last =
    let some : 0 < bits = elim (cases_lt 0 bits) [
      | inl low ↦ low
      | inr none ↦ absurd (let is : bits ≡ 0 = omega (arith, none) in let all : count_leading_zeros 64 bits ≡ 64 = ap (count_leading_zeros 64) is ∙ leading_of_zero 64 in omega (arith, all, last))
    ] in
    let top = leading_top 64 bits some within in
    let same : top.0 ≡ n = omega (arith, top.1, last) in
    has-members_where (λ k. bit_at bits k == 1) n (omega (arith, last)) ∙ ap (λ (b : ℕ). b == 1) (subst (λ (j : ℕ). bit_at bits j ≡ 1) same (one_top bits top.0 top.2 top.3))

-- members are listed below the end
filter_none : (p : ℕ → Bool) (w a : ℕ) → ((n : ℕ) → a ≤ n → p n ≡ false) → filter p (range_with_len a w) ≡ []
filter_none p zero a none = refl
filter_none p (suc w) a none =
    let here : p a ≡ false = none a (omega arith) in
    rw (here, filter_none p w (a + 1) (λ n from. none n (omega arith))) refl

filter_more : (p : ℕ → Bool) (w more a : ℕ) → ((n : ℕ) → a + w ≤ n → p n ≡ false) → filter p (range_with_len a (w + more)) ≡ filter p (range_with_len a w)
filter_more p zero more a none = ap (λ (k : ℕ). filter p (range_with_len a k)) (zero-add more) ∙ filter_none p more a (λ n from. none n (omega arith))
filter_more p (suc w) more a none =
    let longer : suc w + more ≡ suc (w + more) = omega arith in
    ap (λ (k : ℕ). filter p (range_with_len a k)) longer
    ∙ (let rest : filter p (range_with_len (a + 1) (w + more)) ≡ filter p (range_with_len (a + 1) w) = filter_more p w more (a + 1) (λ n from. none n (omega arith)) in
    let e : filter p (range_with_len a (suc (w + more))) ≡ filter p (range_with_len a (suc w)) = rw rest refl in e)

pub members_before : (ids : List ℕ) (end : ℕ) → end ≤ 64 → ((n : ℕ) → end ≤ n → has_member ids n ≡ false) → filter (has_member ids) (range_with_len 0 end) ≡ members_where (has_member ids)
unfolding members_where
members_before ids end low none =
    sym (filter_more (has_member ids) end (64 - end) 0 (λ n from. none n (omega arith)))
    ∙ ap (λ (k : ℕ). filter (has_member ids) (range_with_len 0 k)) (let e : end + (64 - end) ≡ 64 = omega (arith, low) in e)
