-- Lists of acceptors, desks and disks as they are taken apart and put together again.
use Rattle.std.proofs.Common.{◌≡◌, ◌<◌, ◌≤◌, ℕ, zero, suc, Bool, true, false, List, [], ◌∷◌, ◌++◌, length, map, Option, Some, refl, sym, ap, subst, ◌∙◌, inl, inr, arith, rules, append_assoc}
use Rattle.std.specs.Prelude.{◌⊎◌, ◌+◌, ◌-◌, ◌==◌, ◌&&◌, ◌||◌, nat_lt, drop, reverse, slice_get, replicate, option_to_list}
use Rattle.std.specs.List.{range_with_len, filter}
use Rattle.std.proofs.lemmas.List.{map-append, append-nil, reverse-append}
use Rattle.std.proofs.lemmas.List.Elements.{filter-append}
use Rattle.std.proofs.lemmas.Bool.Decides.{nat_tests}
use Rattle.cas_acceptor.specs.Acceptor.{AcceptorView}
use Rattle.cas_ballot.specs.Members.{members_where, has_member, with_member, IsMemberSet}
use Rattle.cas_ballot.proofs.MemberLemmas.{has-members_where, members_where_same, IsMemberSet-members_where}
use Rattle.cas_model.specs.View.{IsAt}
use Rattle.cas_model.proofs.Places.{some_is}
use Rattle.cas_world.specs.Openings.Opening.{members_to, unstarted}

-- ---- the last of a list
pub last_first : {A : Type 0} (old new : List A) (x : A) → old ≡ new ++ x ∷ [] → reverse old ≡ x ∷ reverse new
last_first {A} old new x is = ap (λ (l : List A). reverse l) is ∙ reverse-append new (x ∷ [])

-- ---- acceptors over shelves
pub unstarted_at : {S : Type 0} (number : ℕ) (shelves : List S) (id : ℕ) (acceptor : AcceptorView S) → IsAt (unstarted number shelves) id acceptor
    → (shelf : S) × (acceptor ≡ record { id = number + id; started = false; down = true; shelf = shelf })
unstarted_at number [] id acceptor at = absurd (cc at)
unstarted_at {S} number (shelf ∷ shelves) zero acceptor at =
    (shelf, sym (some_is at) ∙ ap (λ (n : ℕ). record { id = n; started = false; down = true; shelf = shelf }) (omega arith))
unstarted_at {S} number (shelf ∷ shelves) (suc id) acceptor at =
    let found = unstarted_at (suc number) shelves id acceptor at in
    (found.0, found.1 ∙ ap (λ (n : ℕ). record { id = n; started = false; down = true; shelf = found.0 }) (omega arith))

pub unstarted_places : {S : Type 0} (number : ℕ) (shelves : List S) → length (unstarted number shelves) ≡ length shelves
unstarted_places number [] = refl
unstarted_places number (shelf ∷ shelves) = ap suc (unstarted_places (suc number) shelves)

-- ---- what is given back
pub given : {A B : Type 0} (f : A → B) (old new : List A) (x : A) (to : List B) → old ≡ new ++ x ∷ [] → map f new ++ reverse (to ++ f x ∷ []) ≡ map f old ++ reverse to
given {A} {B} f old new x to is =
    ap (λ (l : List B). map f new ++ l) (reverse-append to (f x ∷ []))
    ∙ sym (append_assoc (map f new) (f x ∷ []) (reverse to))
    ∙ ap (λ (l : List B). l ++ reverse to) (sym (map-append f new (x ∷ [])) ∙ ap (map f) (sym is))

-- ---- disks in order
pub drop_first : {A : Type 0} (number : ℕ) (all : List A) (x : A) (rest : List A) → x ∷ rest ≡ drop number all → IsAt all number x × (rest ≡ drop (number + 1) all)
drop_first zero [] x rest is = absurd (cc is)
drop_first {A} zero (y ∷ all) x rest is = (sym (ap (λ (l : List A). slice_get l 0) is), ap (λ (l : List A). drop 1 l) is)
drop_first (suc number) [] x rest is = absurd (cc is)
drop_first {A} (suc number) (y ∷ all) x rest is =
    let found = drop_first number all x rest is in
    (found.0, found.1 ∙ ap (λ (n : ℕ). drop n (y ∷ all)) (let e : suc (number + 1) ≡ suc number + 1 = omega arith in e))

-- the one that is popped comes next
pub next_disk : {A : Type 0} (all old new : List A) (number : ℕ) (x : A) (popped : Option A) → old ≡ new ++ option_to_list popped → popped ≡ Some x → reverse old ≡ drop number all
    → IsAt all number x × (reverse new ≡ drop (number + 1) all)
next_disk {A} all old new number x popped is some left =
    drop_first number all x (reverse new) (sym (last_first old new x (is ∙ ap (λ (o : Option A). new ++ option_to_list o) some)) ∙ left)

-- ---- places
pub at_pushed : {A : Type 0} (xs : List A) (x : A) (place : ℕ) (y : A) → IsAt (xs ++ x ∷ []) place y → IsAt xs place y ⊎ ((place ≡ length xs) × (y ≡ x))
at_pushed [] x zero y at = inr (refl, sym (some_is at))
at_pushed [] x (suc place) y at = absurd (cc at)
at_pushed (z ∷ xs) x zero y at = inl at
at_pushed (z ∷ xs) x (suc place) y at = elim (at_pushed xs x place y at) [
  | inl before ↦ inl before
  | inr last ↦ inr (ap suc last.0, last.1)
]

pub replicate_at : {A : Type 0} (n : ℕ) (x : A) (place : ℕ) (y : A) → IsAt (replicate n x) place y → y ≡ x
replicate_at zero x place y at = absurd (cc at)
replicate_at (suc n) x zero y at = sym (some_is at)
replicate_at (suc n) x (suc place) y at = replicate_at n x place y at

-- ---- the first members
range_split : (a m n : ℕ) → range_with_len a (m + n) ≡ range_with_len a m ++ range_with_len (a + m) n
range_split a zero n = ap (λ (k : ℕ). range_with_len a k) (let e : zero + n ≡ n = omega arith in e) ∙ ap (λ (k : ℕ). range_with_len k n) (let e : a ≡ a + zero = omega arith in e)
range_split a (suc m) n =
    ap (λ (k : ℕ). range_with_len a k) (let e : suc m + n ≡ suc (m + n) = omega arith in e)
    ∙ ap (λ (l : List ℕ). a ∷ l) (range_split (a + 1) m n ∙ ap (λ (k : ℕ). range_with_len (a + 1) m ++ range_with_len k n) (let e : (a + 1) + m ≡ a + suc m = omega arith in e))

filter_all : (test : ℕ → Bool) (n a : ℕ) → ((k : ℕ) → a ≤ k → k < a + n → test k ≡ true) → filter test (range_with_len a n) ≡ range_with_len a n
filter_all test zero a passes = refl
filter_all test (suc n) a passes =
    let here : test a ≡ true = passes a (omega arith) (omega arith) in
    let rest : filter test (range_with_len (a + 1) n) ≡ range_with_len (a + 1) n = filter_all test n (a + 1) (λ k from to. passes k (omega arith) (omega arith)) in
    rw (here, rest) refl

filter_none : (test : ℕ → Bool) (n a : ℕ) → ((k : ℕ) → a ≤ k → k < a + n → test k ≡ false) → filter test (range_with_len a n) ≡ []
filter_none test zero a fails = refl
filter_none test (suc n) a fails =
    let here : test a ≡ false = fails a (omega arith) (omega arith) in
    let rest : filter test (range_with_len (a + 1) n) ≡ [] = filter_none test n (a + 1) (λ k from to. fails k (omega arith) (omega arith)) in
    rw (here, rest) refl

abbrev is_to : ℕ → ℕ → Bool
is_to count n = nat_lt 0 n && nat_lt n (count + 1)

inside : (count k : ℕ) → 0 < k → k < count + 1 → is_to count k ≡ true
inside count k from to = search rules

outside : (count k : ℕ) → count + 1 ≤ k → is_to count k ≡ false
outside count k from = grind (arith, nat_tests)

by_number : (count n : ℕ) → (n == (count + 1) || is_to count n) ≡ is_to (count + 1) n
by_number count n = grind (arith, nat_tests)

listed : (count : ℕ) → count ≤ 63 → members_where (is_to count) ≡ members_to count
unfolding members_where
listed count few =
    ap (λ (k : ℕ). filter (is_to count) (range_with_len 0 k)) (let e : 64 ≡ 1 + (count + (63 - count)) = omega arith in e)
    ∙ ap (filter (is_to count)) (range_split 0 1 (count + (63 - count)) ∙ ap (λ (l : List ℕ). range_with_len 0 1 ++ l) (range_split 1 count (63 - count)))
    ∙ filter-append (is_to count) (range_with_len 0 1) (range_with_len 1 count ++ range_with_len (1 + count) (63 - count))
    ∙ filter-append (is_to count) (range_with_len 1 count) (range_with_len (1 + count) (63 - count))
    ∙ ap (λ (l : List ℕ). l ++ filter (is_to count) (range_with_len (1 + count) (63 - count))) (filter_all (is_to count) count 1 (λ k from to. inside count k (omega arith) (omega arith)))
    ∙ ap (λ (l : List ℕ). range_with_len 1 count ++ l) (filter_none (is_to count) (63 - count) (1 + count) (λ k from to. outside count k (omega arith)))
    ∙ append-nil (range_with_len 1 count)

tests : (count n : ℕ) → count < 63 → n < 64 → (n == (count + 1) || has_member (members_to count) n) ≡ is_to (count + 1) n
tests count n few low =
    ap (λ (l : List ℕ). n == (count + 1) || has_member l n) (sym (listed count (omega arith)))
    ∙ ap (λ (b : Bool). n == (count + 1) || b) (has-members_where (is_to count) n low)
    ∙ by_number count n

pub one_more_member : (count : ℕ) → count < 63 → with_member (members_to count) (count + 1) ≡ members_to (count + 1)
one_more_member count few =
    members_where_same (λ n. n == (count + 1) || has_member (members_to count) n) (is_to (count + 1)) (λ n low. tests count n few low)
    ∙ listed (count + 1) (omega arith)

pub members_set : (count : ℕ) → count ≤ 63 → IsMemberSet (members_to count)
members_set count few = subst IsMemberSet (listed count few) (IsMemberSet-members_where (is_to count))
