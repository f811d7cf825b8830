-- How many acceptors sets have.
use Rattle.std.proofs.Common.{◌≡◌, ℕ, ◌+◌, suc, zero, ◌<◌, ◌≤◌, Bool, true, false, not, List, [], ◌∷◌, length, arith, sym, ◌∙◌, ap, refl}
use Rattle.std.specs.Prelude.{cond, ◌==◌, ◌&&◌, ◌||◌, filter}
use Rattle.std.specs.List.{range_with_len}
use Rattle.std.proofs.lemmas.Bool.Decides.{nat_tests, eqb_tells}
use mathlib.Core.Logic.{inl, inr}
use Rattle.cas_base.proofs.Bools.{or_right, and_right}
use Rattle.cas_ballot.specs.Members.{members_where, has_member, with_member, without_member, union_of, IsMemberSet}
use Rattle.cas_ballot.proofs.MemberLemmas.{has-members_where, members_where_same}

-- ---- counting what passes a test
length-cond : (b : Bool) (x : ℕ) (xs : List ℕ) → length (cond b (x ∷ xs) xs) ≡ cond b 1 0 + length xs
length-cond true x xs = omega arith
length-cond false x xs = omega arith

-- one acceptor is counted for each of two sets as often as for their union and for what is in both
one_apart : (p q : Bool) → cond p 1 0 + cond q 1 0 ≡ cond (p || q) 1 0 + cond (p && q) 1 0
one_apart true true = refl
one_apart true false = refl
one_apart false true = refl
one_apart false false = refl

count_apart : (p q : ℕ → Bool) (xs : List ℕ)
    → length (filter p xs) + length (filter q xs) ≡ length (filter (λ n. p n || q n) xs) + length (filter (λ n. p n && q n) xs)
count_apart p q [] = refl
count_apart p q (x ∷ xs) =
    omega (
      arith,
      count_apart p q xs,
      one_apart (p x) (q x),
      length-cond (p x) x (filter p xs),
      length-cond (q x) x (filter q xs),
      length-cond (p x || q x) x (filter (λ n. p n || q n) xs),
      length-cond (p x && q x) x (filter (λ n. p n && q n) xs),
    )

-- two sets have together as many as their union and what is in both
pub length-apart : (p q : ℕ → Bool)
    → length (members_where p) + length (members_where q) ≡ length (members_where (λ n. p n || q n)) + length (members_where (λ n. p n && q n))
unfolding members_where
length-apart p q = count_apart p q (range_with_len 0 64)

-- one acceptor fewer passes a test that fewer pass
step_within : (b d : Bool) (m n : ℕ) → (b ≡ true → d ≡ true) → m ≤ n → cond b 1 0 + m ≤ cond d 1 0 + n
step_within true true m n h low = omega arith
step_within true false m n h low = absurd (cc (h refl))
step_within false true m n h low = omega arith
step_within false false m n h low = omega arith

count_within : (p q : ℕ → Bool) (w a : ℕ) → ((n : ℕ) → a ≤ n → n < a + w → p n ≡ true → q n ≡ true)
    → length (filter p (range_with_len a w)) ≤ length (filter q (range_with_len a w))
count_within p q zero a h = omega arith
count_within p q (suc w) a h =
    let rest : length (filter p (range_with_len (a + 1) w)) ≤ length (filter q (range_with_len (a + 1) w)) = count_within p q w (a + 1) (λ n from to. h n (omega arith) (omega arith)) in
    rw (length-cond (p a) a (filter p (range_with_len (a + 1) w)), length-cond (q a) a (filter q (range_with_len (a + 1) w)))
    (step_within (p a) (q a) _ _ (h a (omega arith) (omega arith)) rest)

-- a set has no more than one that has all of it
pub length-within : (p q : ℕ → Bool) → ((n : ℕ) → n < 64 → p n ≡ true → q n ≡ true) → length (members_where p) ≤ length (members_where q)
unfolding members_where
length-within p q h = count_within p q 64 0 (λ n from to. h n (omega arith))

-- an acceptor that passes a test
pub record Passes (p : ℕ → Bool) : Type 0 where
  pub acceptor : ℕ
  pub below : acceptor < 64
  pub passes : p acceptor ≡ true

someone_here : (p : ℕ → Bool) (a : ℕ) (rest : List ℕ) (b : Bool) → p a ≡ b → a < 64 → (0 < length rest → Passes p) → 0 < length (cond b (a ∷ rest) rest) → Passes p
someone_here p a rest true e below later h = record { acceptor = a; below = below; passes = e }
someone_here p a rest false e below later h = later h

someone_from : (p : ℕ → Bool) (w a : ℕ) → a + w ≤ 64 → 0 < length (filter p (range_with_len a w)) → Passes p
someone_from p zero a high h = absurd (omega arith)
someone_from p (suc w) a high h =
    someone_here p a (filter p (range_with_len (a + 1) w)) (p a) refl (omega arith) (someone_from p w (a + 1) (omega arith)) h

-- a set that is not empty has someone
pub someone : (p : ℕ → Bool) → 0 < length (members_where p) → Passes p
unfolding members_where
someone p h = someone_from p 64 0 (omega arith) h

implied : (h g : Bool) → (h ≡ true → g ≡ true) → (h || g) ≡ g
implied true g f = sym (f refl)
implied false g f = refl

implied_back : (h g : Bool) → (h ≡ true → g ≡ true) → (g || h) ≡ g
implied_back true true f = refl
implied_back true false f = sym (f refl)
implied_back false true f = refl
implied_back false false f = refl

-- the second set has all of the first
pub record IsWithin (a b : List ℕ) : Type 0 where
  pub all : (n : ℕ) → n < 64 → has_member a n ≡ true → has_member b n ≡ true

-- a set swallows a set within it
pub union_within : (a b : List ℕ) → IsMemberSet b → IsWithin a b → union_of a b ≡ b
union_within a b set within =
    members_where_same _ _ (λ n small. implied (has_member a n) (has_member b n) (within.all n small)) ∙ sym set.lists

pub union_around : (a b : List ℕ) → IsMemberSet b → IsWithin a b → union_of b a ≡ b
union_around a b set within =
    members_where_same _ _ (λ n small. implied_back (has_member a n) (has_member b n) (within.all n small)) ∙ sym set.lists

pub IsWithin-same : (a : List ℕ) → IsWithin a a
IsWithin-same a = record { all = λ n small h. h }

pub IsWithin-with_member : (ids : List ℕ) (id : ℕ) → IsWithin ids (with_member ids id)
IsWithin-with_member ids id = record {
  all = λ n small h. has-members_where (λ n. n == id || has_member ids n) n small ∙ or_right (n == id) (has_member ids n) h;
}

pub IsWithin-without_member : (ids : List ℕ) (id : ℕ) → IsWithin (without_member ids id) ids
IsWithin-without_member ids id = record {
  all = λ n small h.
      and_right (not (n == id)) (has_member ids n) (sym (has-members_where (λ n. not (n == id) && has_member ids n) n small) ∙ h);
}

nobody_from : (p : ℕ → Bool) (w a : ℕ) → ((n : ℕ) → a ≤ n → n < a + w → p n ≡ false) → length (filter p (range_with_len a w)) ≡ 0
nobody_from p zero a h = refl
nobody_from p (suc w) a h =
    let none : p a ≡ false = h a (omega arith) (omega arith) in
    rw none (nobody_from p w (a + 1) (λ n from to. h n (omega arith) (omega arith)))

later_one : (n id a : ℕ) → a ≡ id → a + 1 ≤ n → (n == id) ≡ false
later_one n id a e h = grind (arith, nat_tests)

-- ---- one more, for any identity
one_at_most : (id w a : ℕ) → length (filter (λ n. n == id) (range_with_len a w)) ≤ 1
one_at_most id zero a = omega arith
one_at_most id (suc w) a = elim (eqb_tells a id) [
  | inl here ↦ rw here.0 (omega (arith, nobody_from (λ n. n == id) w (a + 1) (λ n later below. later_one n id a here.1 later)))
  | inr later ↦ rw later.0 (one_at_most id w (a + 1))
]

length-single-le : (id : ℕ) → length (members_where (λ n. n == id)) ≤ 1
unfolding members_where
length-single-le id = one_at_most id 64 0

as_set : (ids : List ℕ) → IsMemberSet ids → length (members_where (has_member ids)) ≡ length ids
as_set ids set = ap length (sym set.lists)

-- a set with one more has at most one more
pub length-with_member-le : (ids : List ℕ) (id : ℕ) → IsMemberSet ids → length (with_member ids id) ≤ suc (length ids)
length-with_member-le ids id set = omega (arith, length-apart (λ n. n == id) (has_member ids), length-single-le id, as_set ids set)

back : (e h : Bool) → h ≡ true → (e || (not e && h)) ≡ true
back true h f = refl
back false h f = f

-- a set without one has at most one less
pub le-length-without_member : (ids : List ℕ) (id : ℕ) → IsMemberSet ids → length ids ≤ suc (length (without_member ids id))
le-length-without_member ids id set =
    let all : length (members_where (has_member ids)) ≤ length (members_where (λ n. (n == id) || (not (n == id) && has_member ids n)))
    = length-within (has_member ids) (λ n. (n == id) || (not (n == id) && has_member ids n)) (λ n small h. back (n == id) (has_member ids n) h) in
    omega (arith, length-apart (λ n. n == id) (λ n. not (n == id) && has_member ids n), length-single-le id, as_set ids set, all)
