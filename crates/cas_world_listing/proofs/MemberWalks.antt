-- The identities of acceptors, one after another: of those so far, the ones that pass a test.
use Rattle.std.proofs.Common.{◌≡◌, ◌+◌, ◌<◌, ℕ, Bool, true, false, cond, List, [], ◌∷◌, ◌++◌, map, None, refl, sym, ap, ◌∙◌, inl, inr, arith, map-id}
use Rattle.std.specs.Prelude.{◌&&◌, nat_lt}
use Rattle.std.specs.List.{filter, range_with_len}
use Rattle.std.proofs.lemmas.List.FromFn.{filter_of_map_range_with_len_more}
use Rattle.std.proofs.lemmas.Bool.Decides.{nat_tests, eqb_tells}
use mathlib.Core.List.{map-append, append-nil}
use Rattle.cas_ballot.specs.Members.{members_where, with_member}
use Rattle.cas_ballot.proofs.MemberLemmas.{has-members_where, members_where_same}
use Rattle.cas_model.specs.Council.{GoesOn, MemberPlace}

-- ---- sets
-- those below this number that pass the test
abbrev pub members_below : ℕ → (ℕ → Bool) → List ℕ
members_below number test = members_where (λ n. nat_lt n number && test n)

pub no_members_below : (test : ℕ → Bool) → [] ≡ members_below 0 test
unfolding members_where
no_members_below test = refl

below_more : (n k : ℕ) → (n ≡ k → ⊥) → nat_lt n k ≡ nat_lt n (k + 1)
below_more n k other = grind (arith, nat_tests)

below_next : (k : ℕ) → nat_lt k (k + 1) ≡ true
below_next k = grind (arith, nat_tests)

not_below : (k : ℕ) → nat_lt k k ≡ false
not_below k = grind (arith, nat_tests)

-- one more passes
one_member_more : (test : ℕ → Bool) (k : ℕ) → test k ≡ true → with_member (members_below k test) k ≡ members_below (k + 1) test
one_member_more test k passes = members_where_same _ _ (λ n small. rw (has-members_where (λ n. nat_lt n k && test n) n small) (elim (eqb_tells n k) [
  | inl same ↦ rw (same.0, same.1, below_next k, passes) refl
  | inr other ↦ rw (other.0, below_more n k other.1) refl
]))

-- one more does not
no_member_more : (test : ℕ → Bool) (k : ℕ) → test k ≡ false → members_below k test ≡ members_below (k + 1) test
no_member_more test k fails = members_where_same _ _ (λ n small. elim (eqb_tells n k) [
  | inl same ↦ rw (same.1, below_next k, not_below k, fails) refl
  | inr other ↦ rw (below_more n k other.1) refl
])

-- as a walk finds them
pub walked_on : (test : ℕ → Bool) (k id : ℕ) (old new : List ℕ) → id ≡ k → test k ≡ true → old ≡ members_below k test → new ≡ with_member old id → new ≡ members_below (k + 1) test
walked_on test k id old new is passes was next = next ∙ ap (with_member old) is ∙ ap (λ (l : List ℕ). with_member l k) was ∙ one_member_more test k passes

pub walked_past : (test : ℕ → Bool) (k : ℕ) (old : List ℕ) → test k ≡ false → old ≡ members_below k test → old ≡ members_below (k + 1) test
walked_past test k old fails was = was ∙ no_member_more test k fails

small : (n : ℕ) → n < 64 → nat_lt n 64 ≡ true
small n h = grind (arith, nat_tests)

pub all_members_below : (test : ℕ → Bool) → members_below 64 test ≡ members_where test
all_members_below test = members_where_same _ _ (λ n h. rw (small n h) refl)

-- ---- lists of what is made of each
-- nothing of this member is listed yet
abbrev pub first_place : ℕ → MemberPlace
first_place member = record { member = member; place = GoesOn None }

-- of the identities below a number those that pass a test, and then of one more
one_more : (test : ℕ → Bool) (n : ℕ) → filter test (range_with_len 0 (n + 1)) ≡ filter test (range_with_len 0 n) ++ cond (test n) (n ∷ []) []
one_more test n = ap (filter test) (sym (map-id (range_with_len 0 (n + 1)))) ∙ (filter_of_map_range_with_len_more test (λ (x : ℕ). x) 0 n n (omega arith) ∙ ap (λ (l : List ℕ). filter test l ++ cond (test n) (n ∷ []) []) (map-id (range_with_len 0 n)))

module _ {A : Type 0} (f : ℕ → A) (test : ℕ → Bool) (n : ℕ) (before after : List A) where
  -- what was made of those below is made of one more
  pub with_one : test n ≡ true → before ≡ map f (filter test (range_with_len 0 n)) → after ≡ before ++ f n ∷ [] → after ≡ map f (filter test (range_with_len 0 (n + 1)))
  with_one passes was pushed = pushed ∙ (ap (λ (l : List A). l ++ f n ∷ []) was
      ∙ (sym (map-append f (filter test (range_with_len 0 n)) (n ∷ []))
      ∙ ap (map f) (sym (one_more test n ∙ ap (λ (b : Bool). filter test (range_with_len 0 n) ++ cond b (n ∷ []) []) passes))))

  pub without_one : test n ≡ false → before ≡ map f (filter test (range_with_len 0 n)) → after ≡ before → after ≡ map f (filter test (range_with_len 0 (n + 1)))
  without_one fails was same = same ∙ (was
      ∙ ap (map f) (sym (one_more test n ∙ (ap (λ (b : Bool). filter test (range_with_len 0 n) ++ cond b (n ∷ []) []) fails ∙ append-nil (filter test (range_with_len 0 n))))))
