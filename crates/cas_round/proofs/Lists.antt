-- What stands in a list, whatever the order.
use Rattle.std.proofs.Common.{◌≡◌, ℕ, suc, zero, ◌<◌, Bool, true, false, List, [], ◌∷◌, length, slice_index_or, arith, refl, sym, ◌∙◌, ap}
use Rattle.std.specs.Prelude.{Option, None, Some, cond, ◌||◌, ◌⊎◌, filter, Contains}
use Rattle.std.specs.List.{filter_map, list_any, cons_option}
use mathlib.Core.Logic.{inl, inr}
use Rattle.cas_base.proofs.Bools.{or_right}

-- x stands in the list
abbrev pub Has : {X : Type 0} → X → List X → Type 0
Has x [] = ⊥
Has x (y ∷ ys) = (y ≡ x) ⊎ Has x ys

has_at : {X : Type 0} (x : X) (xs : List X) (k : ℕ) → k < length xs → slice_index_or xs k x ≡ x → Has x xs
has_at x [] k h e = absurd (omega arith)
has_at x (y ∷ ys) zero h e = inl e
has_at x (y ∷ ys) (suc k) h e = inr (has_at x ys k (omega arith) e)

pub has : {X : Type 0} (x : X) (xs : List X) → Contains xs x → Has x xs
has x xs c = has_at x xs c.0 c.1 c.2

contains_later : {X : Type 0} (x y : X) (ys : List X) → Contains ys x → Contains (y ∷ ys) x
contains_later x y ys c = (suc c.0, omega (arith, c.1), c.2)

pub contains : {X : Type 0} (x : X) (xs : List X) → Has x xs → Contains xs x
contains x [] h = absurd h
contains x (y ∷ ys) (inl e) = (0, omega arith, e)
contains x (y ∷ ys) (inr h) = contains_later x y ys (contains x ys h)

-- ---- filters
kept : {X : Type 0} (x y : X) (b : Bool) (ys : List X) → Has x ys → Has x (cond b (y ∷ ys) ys)
kept x y true ys h = inr h
kept x y false ys h = h

first : {X : Type 0} (x y : X) (b : Bool) (ys : List X) → b ≡ true → y ≡ x → Has x (cond b (y ∷ ys) ys)
first x y true ys e same = inl same
first x y false ys e same = absurd (cc e)

pub has_filter : {X : Type 0} (p : X → Bool) (x : X) (xs : List X) → Has x xs → p x ≡ true → Has x (filter p xs)
has_filter p x [] h e = h
has_filter p x (y ∷ ys) (inl same) e = first x y (p y) (filter p ys) (ap p same ∙ e) same
has_filter p x (y ∷ ys) (inr h) e = kept x y (p y) (filter p ys) (has_filter p x ys h e)

-- it stands in the whole list, and passes
pub record PassesIn {X : Type 0} (p : X → Bool) (x : X) (xs : List X) : Type 0 where
  pub stands : Has x xs
  pub passes : p x ≡ true

passed : {X : Type 0} (p : X → Bool) (x y : X) (b : Bool) (ys : List X) → p y ≡ b → (Has x (filter p ys) → PassesIn p x ys)
    → Has x (cond b (y ∷ filter p ys) (filter p ys)) → PassesIn p x (y ∷ ys)
passed p x y true ys e rest (inl same) = record { stands = inl same; passes = sym (ap p same) ∙ e }
passed p x y true ys e rest (inr h) = record { stands = inr (rest h).stands; passes = (rest h).passes }
passed p x y false ys e rest h = record { stands = inr (rest h).stands; passes = (rest h).passes }

pub filter_has : {X : Type 0} (p : X → Bool) (x : X) (xs : List X) → Has x (filter p xs) → PassesIn p x xs
filter_has p x [] h = absurd h
filter_has p x (y ∷ ys) h = passed p x y (p y) ys refl (filter_has p x ys) h

-- ---- what is picked out
behind : {Y : Type 0} (y : Y) (one : Option Y) (ys : List Y) → Has y ys → Has y (cons_option one ys)
behind y None ys h = h
behind y (Some z) ys h = inr h

pub has_map : {X Y : Type 0} (f : X → Option Y) (x : X) (y : Y) (xs : List X) → Has x xs → f x ≡ Some y → Has y (filter_map f xs)
has_map f x y [] h e = h
has_map f x y (z ∷ zs) (inl same) e = rw (ap f same ∙ e) (inl refl)
has_map f x y (z ∷ zs) (inr h) e = behind y (f z) (filter_map f zs) (has_map f x y zs h e)

-- something in the list of which y is picked out
pub record PickedFrom {X Y : Type 0} (f : X → Option Y) (y : Y) (xs : List X) : Type 0 where
  pub source : X
  pub stands : Has source xs
  pub gives : f source ≡ Some y

picked : {X Y : Type 0} (f : X → Option Y) (y : Y) (z : X) (one : Option Y) (zs : List X) → f z ≡ one → (Has y (filter_map f zs) → PickedFrom f y zs)
    → Has y (cons_option one (filter_map f zs)) → PickedFrom f y (z ∷ zs)
picked f y z None zs e rest h = record { source = (rest h).source; stands = inr (rest h).stands; gives = (rest h).gives }
picked f y z (Some w) zs e rest (inl same) = record { source = z; stands = inl refl; gives = e ∙ ap Some same }
picked f y z (Some w) zs e rest (inr h) = record { source = (rest h).source; stands = inr (rest h).stands; gives = (rest h).gives }

pub map_has : {X Y : Type 0} (f : X → Option Y) (y : Y) (xs : List X) → Has y (filter_map f xs) → PickedFrom f y xs
map_has f y [] h = absurd h
map_has f y (z ∷ zs) h = picked f y z (f z) zs refl (map_has f y zs) h

-- ---- whether any passes
pub has_any : {X : Type 0} (p : X → Bool) (x : X) (xs : List X) → Has x xs → p x ≡ true → list_any p xs ≡ true
has_any p x [] h e = absurd h
has_any p x (y ∷ ys) (inl same) e = rw (ap p same ∙ e) refl
has_any p x (y ∷ ys) (inr h) e = or_right (p y) (list_any p ys) (has_any p x ys h e)

pub record AnyPasses {X : Type 0} (p : X → Bool) (xs : List X) : Type 0 where
  pub one : X
  pub stands : Has one xs
  pub passes : p one ≡ true

some_passes : {X : Type 0} (p : X → Bool) (y : X) (b : Bool) (ys : List X) → p y ≡ b → (list_any p ys ≡ true → AnyPasses p ys)
    → (b || list_any p ys) ≡ true → AnyPasses p (y ∷ ys)
some_passes p y true ys e rest h = record { one = y; stands = inl refl; passes = e }
some_passes p y false ys e rest h = record { one = (rest h).one; stands = inr (rest h).stands; passes = (rest h).passes }

pub any_has : {X : Type 0} (p : X → Bool) (xs : List X) → list_any p xs ≡ true → AnyPasses p xs
any_has p [] h = absurd (cc h)
any_has p (y ∷ ys) h = some_passes p y (p y) ys refl (any_has p ys) h

-- ---- lists with the same elements
pub record IsListWithin {X : Type 0} (xs ys : List X) : Type 0 where
  pub all : (x : X) → Has x xs → Has x ys

pub within_filter : {X : Type 0} (p : X → Bool) (xs ys : List X) → IsListWithin xs ys → IsListWithin (filter p xs) (filter p ys)
within_filter p xs ys w = record {
  all = λ x h. has_filter p x ys (w.all x (filter_has p x xs h).stands) (filter_has p x xs h).passes;
}

pub within_map : {X Y : Type 0} (f : X → Option Y) (xs ys : List X) → IsListWithin xs ys → IsListWithin (filter_map f xs) (filter_map f ys)
within_map f xs ys w = record {
  all = λ y h. has_map f (map_has f y xs h).source y ys (w.all (map_has f y xs h).source (map_has f y xs h).stands) (map_has f y xs h).gives;
}

any_within : {X : Type 0} (p : X → Bool) (xs ys : List X) → IsListWithin xs ys → list_any p xs ≡ true → list_any p ys ≡ true
any_within p xs ys w h = has_any p (any_has p xs h).one ys (w.all (any_has p xs h).one (any_has p xs h).stands) (any_has p xs h).passes

both_ways : (a b : Bool) → (a ≡ true → b ≡ true) → (b ≡ true → a ≡ true) → a ≡ b
both_ways true b f g = sym (f refl)
both_ways false true f g = g refl
both_ways false false f g = refl

pub same_any : {X : Type 0} (p : X → Bool) (xs ys : List X) → IsListWithin xs ys → IsListWithin ys xs → list_any p xs ≡ list_any p ys
same_any p xs ys there back = both_ways (list_any p xs) (list_any p ys) (any_within p xs ys there) (any_within p ys xs back)

pub nothing_within : {X : Type 0} (xs ys : List X) (x : X) → IsListWithin xs ys → ys ≡ [] → Has x xs → ⊥
nothing_within xs [] x w e h = w.all x h
nothing_within xs (y ∷ ys) x w e h = absurd (cc e)
