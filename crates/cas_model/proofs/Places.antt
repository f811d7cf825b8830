-- Lists by their places, and what is contained in a list.
use Rattle.std.proofs.Common.{◌≡◌, ◌<◌, ℕ, zero, suc, List, [], ◌∷◌, ◌++◌, Option, Some, refl, sym, ap, subst, ◌∙◌, inl, inr, arith, get_or-set_same, get_or-set_other}
use Rattle.std.specs.Prelude.{◌⊎◌, ◌==◌, take, drop, slice_get, slice_set, slice_index_or, unwrap_or, Contains, length}
use Rattle.cas_base.proofs.Bools.{true_or_false, not_both}
use Rattle.cas_flow.specs.declared.message.Message.{Message}
use Rattle.cas_flow.specs.Queue.{QueueView, empty_queue}
use Rattle.cas_round.proofs.Lists.{Has, has, contains}
use Rattle.cas_record.proofs.Tests.{nat_same, nat_is}
use Rattle.cas_model.specs.View.{IsAt}

-- ---- numbers
pub same_or_not : (p q : ℕ) → (p ≡ q) ⊎ (p ≡ q → ⊥)
same_or_not p q = elim (true_or_false (p == q)) [
  | inl same ↦ inl (nat_same same)
  | inr other ↦ inr (λ e. not_both (p == q) (nat_is e) other)
]

-- ---- places
pub some_is : {A : Type 0} {x y : A} → Some x ≡ Some y → x ≡ y
some_is {A} {x} {y} e = ap (λ (o : Option A). unwrap_or o y) e

-- at each place the new list has what the old one had, but for this one
abbrev pub IsBut : {A : Type 0} → List A → List A → ℕ → A → Type 0
IsBut old new place x = (p : ℕ) (y : _) → IsAt new p y → ((p ≡ place) × (y ≡ x)) ⊎ ((p ≡ place → ⊥) × IsAt old p y)

pub but_set : {A : Type 0} (old : List A) (place : ℕ) (x : A) → IsBut old (slice_set old place x) place x
but_set [] place x p y at = absurd (cc at)
but_set (o ∷ old) zero x zero y at = inl (refl, sym (some_is at))
but_set (o ∷ old) zero x (suc p) y at = inr (λ e. absurd (cc e), at)
but_set (o ∷ old) (suc place) x zero y at = inr (λ e. absurd (cc e), at)
but_set (o ∷ old) (suc place) x (suc p) y at = elim (but_set old place x p y at) [
  | inl same ↦ inl (ap suc same.0, same.1)
  | inr other ↦ inr (λ e. other.0 (omega (arith, e)), other.1)
]

pub own_set : {A : Type 0} (old : List A) (place : ℕ) (x y : A) → IsAt (slice_set old place x) place y → y ≡ x
own_set old place x y at = elim (but_set old place x place y at) [
  | inl same ↦ same.1
  | inr other ↦ absurd (other.0 refl)
]

pub other_set : {A : Type 0} (old : List A) (place : ℕ) (x : A) (p : ℕ) (y : A) → (p ≡ place → ⊥) → IsAt (slice_set old place x) p y → IsAt old p y
other_set old place x p y other at = elim (but_set old place x p y at) [
  | inl same ↦ absurd (other same.0)
  | inr there ↦ there.1
]

pub at_set : {A : Type 0} (old : List A) (place : ℕ) (x y : A) → IsAt old place x → IsAt (slice_set old place y) place y
at_set [] place x y at = absurd (cc at)
at_set (o ∷ old) zero x y at = refl
at_set (o ∷ old) (suc place) x y at = at_set old place x y at

-- what is put in a place last stays there
pub set_set : {A : Type 0} (xs : List A) (place : ℕ) (x y : A) → slice_set (slice_set xs place x) place y ≡ slice_set xs place y
set_set [] place x y = refl
set_set (z ∷ zs) zero x y = refl
set_set {A} (z ∷ zs) (suc place) x y = ap (λ (l : List A). z ∷ l) (set_set zs place x y)

pub at_one : {A : Type 0} (old : List A) (place : ℕ) {x y : A} → IsAt old place x → IsAt old place y → x ≡ y
at_one old place a b = some_is (sym a ∙ b)

-- ---- queues
pub queue_same : (own : List QueueView) (id : ℕ) (queue : QueueView) → id < length own → slice_index_or (slice_set own id queue) id empty_queue ≡ queue
queue_same own id queue low = get_or-set_same own id queue empty_queue low

pub queue_other : (own : List QueueView) (id p : ℕ) (queue : QueueView) → (p ≡ id → ⊥) → slice_index_or (slice_set own id queue) p empty_queue ≡ slice_index_or own p empty_queue
queue_other own id p queue other = get_or-set_other own id p queue empty_queue other

-- a proposer with a frame that waits has a queue
pub has_queue : (own : List QueueView) (id : ℕ) {front : Message} → slice_get (slice_index_or own id empty_queue).messages 0 ≡ Some front → id < length own
has_queue [] id e = absurd (cc e)
has_queue (q ∷ own) zero e = omega arith
has_queue (q ∷ own) (suc id) e = omega (arith, has_queue own id e)

-- ---- what is contained
pub contains_new : {A : Type 0} (x : A) (xs : List A) → Contains (x ∷ xs) x
contains_new x xs = (0, omega arith, refl)

pub contains_older : {A : Type 0} {x y : A} (xs : List A) → Contains xs x → Contains (y ∷ xs) x
contains_older {A} {x} {y} xs c = contains x (y ∷ xs) (inr (has x xs c))

pub newest_or_older : {A : Type 0} {x y : A} (xs : List A) → Contains (y ∷ xs) x → (y ≡ x) ⊎ Contains xs x
newest_or_older {A} {x} {y} xs c = elim (has x (y ∷ xs) c) [
  | inl now ↦ inl now
  | inr before ↦ inr (contains x xs before)
]

pub contains_none : {A : Type 0} {x : A} → Contains [] x → ⊥
contains_none {A} {x} c = has x [] c

pub has_append : {A : Type 0} (x : A) (xs ys : List A) → Has x (xs ++ ys) → Has x xs ⊎ Has x ys
has_append x [] ys h = inr h
has_append x (y ∷ xs) ys (inl now) = inl (inl now)
has_append x (y ∷ xs) ys (inr h) = elim (has_append x xs ys h) [
  | inl front ↦ inl (inr front)
  | inr back ↦ inr back
]

pub has_front : {A : Type 0} (x : A) (xs ys : List A) → Has x xs → Has x (xs ++ ys)
has_front x [] ys h = absurd h
has_front x (y ∷ xs) ys (inl now) = inl now
has_front x (y ∷ xs) ys (inr h) = inr (has_front x xs ys h)

pub has_back : {A : Type 0} (x : A) (xs ys : List A) → Has x ys → Has x (xs ++ ys)
has_back x [] ys h = h
has_back x (y ∷ xs) ys h = inr (has_back x xs ys h)

pub contains_append : {A : Type 0} {x : A} (xs ys : List A) → Contains (xs ++ ys) x → Contains xs x ⊎ Contains ys x
contains_append {A} {x} xs ys c = elim (has_append x xs ys (has x (xs ++ ys) c)) [
  | inl front ↦ inl (contains x xs front)
  | inr back ↦ inr (contains x ys back)
]

pub contains_front : {A : Type 0} {x : A} (xs ys : List A) → Contains xs x → Contains (xs ++ ys) x
contains_front {A} {x} xs ys c = contains x (xs ++ ys) (has_front x xs ys (has x xs c))

pub contains_back : {A : Type 0} {x : A} (xs ys : List A) → Contains ys x → Contains (xs ++ ys) x
contains_back {A} {x} xs ys c = contains x (xs ++ ys) (has_back x xs ys (has x ys c))

has_drop : {A : Type 0} (x : A) (n : ℕ) (xs : List A) → Has x (drop n xs) → Has x xs
has_drop x zero xs h = h
has_drop x (suc n) [] h = h
has_drop x (suc n) (y ∷ xs) h = inr (has_drop x n xs h)

has_take : {A : Type 0} (x : A) (n : ℕ) (xs : List A) → Has x (take n xs) → Has x xs
has_take x zero xs h = absurd h
has_take x (suc n) [] h = h
has_take x (suc n) (y ∷ xs) (inl now) = inl now
has_take x (suc n) (y ∷ xs) (inr h) = inr (has_take x n xs h)

pub contains_drop : {A : Type 0} {x : A} (n : ℕ) (xs : List A) → Contains (drop n xs) x → Contains xs x
contains_drop {A} {x} n xs c = contains x xs (has_drop x n xs (has x (drop n xs) c))

pub contains_take : {A : Type 0} {x : A} (n : ℕ) (xs : List A) → Contains (take n xs) x → Contains xs x
contains_take {A} {x} n xs c = contains x xs (has_take x n xs (has x (take n xs) c))

pub contains_at : {A : Type 0} (xs : List A) (place : ℕ) (x : A) → slice_get xs place ≡ Some x → Contains xs x
contains_at [] place x e = absurd (cc e)
contains_at (y ∷ xs) zero x e = subst (Contains (y ∷ xs)) (some_is e) (contains_new y xs)
contains_at (y ∷ xs) (suc place) x e = contains_older xs (contains_at xs place x e)
