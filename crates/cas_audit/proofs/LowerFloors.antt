-- The greatest floor of a key below a ballot, by its floors in their order.
use Rattle.std.proofs.Common.{◌≡◌, ℕ, Bool, true, false, cond, List, [], ◌∷◌, ◌++◌, refl, sym, ap, subst, ◌∙◌}
use Rattle.std.specs.Prelude.{◌&&◌, ◌⊎◌, if◌then◌else◌, filter, not}
use Rattle.std.specs.BTreeSet.{insert_key}
use Rattle.std.specs.List.Sorted.{IsStrictlySortedBy}
use Rattle.std.specs.List.{AllByRecursion}
use Rattle.std.specs.Ordering.{is_le, is_lt, match_ordering, MatchOrdering}
use Rattle.std.specs.BTreeMap.Range.{range_contains}
use Rattle.std.specs.declared.cmp.Ordering.{Ordering}
use Rattle.std.specs.declared.cmp.Ordering.TheVariants.{Less, Equal, Greater}
use Rattle.std.specs.declared.ops.Bound.TheVariants.{Excluded, Unbounded}
use Rattle.std.proofs.lemmas.List.Kept.{IsStrictlySortedBy-filter}
use mathlib.Core.Logic.{inl, inr}
use Rattle.cas_base.proofs.Bools.{if_true, if_false, true_or_false}
use Rattle.cas_ballot.specs.declared.ballot.Ballot.{Ballot}
use Rattle.cas_ballot.specs.Ballot.{ballot_cmp, greater_of, zero_ballot, BallotAtMost, BallotLess}
use Rattle.cas_ballot.proofs.BallotLemmas.{at_most_refl, at_most_trans, at_most_antisym, at_most_of_less, compared, at_most_or_less, cmp_of_less, not_lt_of_at_most, zero_at_most}
use Rattle.cas_ballot.proofs.BallotLemmas.{less_irreflexive, less_not_at_most, at_most_greater_left, at_most_greater_right, greater_at_most}
use Rattle.cas_change.specs.declared.state.State.{State}
use Rattle.cas_record.specs.Histories.Chain.{is_key, floor_below}
use Rattle.cas_record.specs.declared.mark.Mark.{Mark}
use Rattle.cas_record.specs.declared.mark.Mark.TheVariants.{Floor}
use Rattle.cas_audit.specs.Told.{floors_of, most_below}

-- ---- one ballot more
abbrev step : Ballot → Ballot → Ballot → Ballot
step ballot floor most = if is_lt (ballot_cmp floor ballot) then greater_of floor most else most

greater_again : (x m : Ballot) → greater_of x (greater_of x m) ≡ greater_of x m
greater_again x m = at_most_antisym (greater_at_most (at_most_greater_left x m) (at_most_refl (greater_of x m))) (at_most_greater_right x (greater_of x m))

greater_swapped : (x y m : Ballot) → BallotAtMost (greater_of x (greater_of y m)) (greater_of y (greater_of x m))
greater_swapped x y m = greater_at_most
    (at_most_trans (at_most_greater_left x m) (at_most_greater_right y (greater_of x m)))
    (greater_at_most (at_most_greater_left y (greater_of x m)) (at_most_trans (at_most_greater_right x m) (at_most_greater_right y (greater_of x m))))

step_swapped : (ballot x y m : Ballot) → step ballot x (step ballot y m) ≡ step ballot y (step ballot x m)
step_swapped ballot x y m = by_tests (is_lt (ballot_cmp x ballot)) (is_lt (ballot_cmp y ballot))
  where
    by_tests : (t u : Bool) → cond t (greater_of x (cond u (greater_of y m) m)) (cond u (greater_of y m) m) ≡ cond u (greater_of y (cond t (greater_of x m) m)) (cond t (greater_of x m) m)
    by_tests true true = at_most_antisym (greater_swapped x y m) (greater_swapped y x m)
    by_tests true false = refl
    by_tests false true = refl
    by_tests false false = refl

step_again : (ballot x m : Ballot) → step ballot x m ≡ step ballot x (step ballot x m)
step_again ballot x m = by_test (is_lt (ballot_cmp x ballot))
  where
    by_test : (t : Bool) → cond t (greater_of x m) m ≡ cond t (greater_of x (cond t (greater_of x m) m)) (cond t (greater_of x m) m)
    by_test true = sym (greater_again x m)
    by_test false = refl

same_of : (a b : Ballot) → ballot_cmp a b ≡ Equal → a ≡ b
same_of a b e = subst (λ (o : Ordering). MatchOrdering o (BallotLess a b) (a ≡ b) (BallotLess b a)) e (compared a b)

less_of : (a b : Ballot) → ballot_cmp a b ≡ Less → BallotLess a b
less_of a b e = subst (λ (o : Ordering). MatchOrdering o (BallotLess a b) (a ≡ b) (BallotLess b a)) e (compared a b)

-- a ballot counts wherever it is put
most_insert : (ballot floor : Ballot) (floors : List Ballot) → most_below ballot (insert_key ballot_cmp floors floor) ≡ step ballot floor (most_below ballot floors)
most_insert ballot floor [] = refl
most_insert ballot floor (x ∷ xs) = by_order (most_insert ballot floor xs) (ballot_cmp floor x) refl
  where
    by_order : most_below ballot (insert_key ballot_cmp xs floor) ≡ step ballot floor (most_below ballot xs) → (o : Ordering) → ballot_cmp floor x ≡ o → most_below ballot (match_ordering o (floor ∷ x ∷ xs) (x ∷ xs) (x ∷ insert_key ballot_cmp xs floor)) ≡ step ballot floor (step ballot x (most_below ballot xs))
    by_order rest Less e = refl
    by_order rest Equal e = step_again ballot x (most_below ballot xs) ∙ ap (λ (f : Ballot). step ballot f (step ballot x (most_below ballot xs))) (sym (same_of floor x e))
    by_order rest Greater e = ap (step ballot x) rest ∙ step_swapped ballot x floor (most_below ballot xs)

-- ---- the floors of a key
pub floors_below : (key : List ℕ) (ballot : Ballot) (marks : List Mark) → most_below ballot (floors_of key marks) ≡ floor_below key ballot marks
floors_below key ballot [] = refl
floors_below key ballot (Floor k floor state ∷ older) = elim (true_or_false (is_key k key)) [
  | inl own ↦
      ap (most_below ballot) (if_true (is_key k key) (insert_key ballot_cmp (floors_of key older) floor) (floors_of key older) own)
      ∙ most_insert ballot floor (floors_of key older)
      ∙ ap (step ballot floor) (floors_below key ballot older)
      ∙ sym (ap (λ (t : Bool). if t && is_lt (ballot_cmp floor ballot) then greater_of floor (floor_below key ballot older) else floor_below key ballot older) own)
  | inr other ↦
      ap (most_below ballot) (if_false (is_key k key) (insert_key ballot_cmp (floors_of key older) floor) (floors_of key older) other)
      ∙ floors_below key ballot older
      ∙ sym (ap (λ (t : Bool). if t && is_lt (ballot_cmp floor ballot) then greater_of floor (floor_below key ballot older) else floor_below key ballot older) other)
]
floors_below key ballot (mark ∷ older) = floors_below key ballot older

-- ---- the last of a range
le_of : (a b : Ballot) → BallotAtMost a b → is_le (ballot_cmp a b) ≡ true
le_of a b low = by_compared (ballot_cmp a b) (compared a b)
  where
    by_compared : (o : Ordering) → MatchOrdering o (BallotLess a b) (a ≡ b) (BallotLess b a) → is_le o ≡ true
    by_compared Less h = refl
    by_compared Equal h = refl
    by_compared Greater h = absurd (less_not_at_most h low)

not_le_of : (a b : Ballot) → BallotLess b a → is_le (ballot_cmp a b) ≡ false
not_le_of a b less = by_compared (ballot_cmp a b) (compared a b)
  where
    by_compared : (o : Ordering) → MatchOrdering o (BallotLess a b) (a ≡ b) (BallotLess b a) → is_le o ≡ false
    by_compared Less h = absurd (less_not_at_most less (at_most_of_less h))
    by_compared Equal h = absurd (less_irreflexive (subst (BallotLess b) h less))
    by_compared Greater h = refl

-- a range that ends before the ballot has what is below it
in_range : (ballot floor : Ballot) → range_contains ballot_cmp Unbounded (Excluded ballot) floor ≡ is_lt (ballot_cmp floor ballot)
in_range ballot floor = by_compared (ballot_cmp ballot floor) refl (at_most_or_less ballot floor)
  where
    by_compared : (o : Ordering) → ballot_cmp ballot floor ≡ o → BallotAtMost ballot floor ⊎ BallotLess floor ballot → range_contains ballot_cmp Unbounded (Excluded ballot) floor ≡ is_lt (ballot_cmp floor ballot)
    by_compared o e (inl low) = ap (λ (t : Bool). not t) (le_of ballot floor low) ∙ sym (not_lt_of_at_most low)
    by_compared o e (inr less) = ap (λ (t : Bool). not t) (not_le_of ballot floor less) ∙ sym (ap is_lt (cmp_of_less less))

-- only what is below the ballot counts
most_filtered : (ballot : Ballot) (floors : List Ballot) → most_below ballot (filter (range_contains ballot_cmp Unbounded (Excluded ballot)) floors) ≡ most_below ballot floors
most_filtered ballot [] = refl
most_filtered ballot (x ∷ xs) = by_test (most_filtered ballot xs) (range_contains ballot_cmp Unbounded (Excluded ballot) x) refl
  where
    rest : List Ballot
    rest = filter (range_contains ballot_cmp Unbounded (Excluded ballot)) xs

    by_test : most_below ballot rest ≡ most_below ballot xs → (t : Bool) → range_contains ballot_cmp Unbounded (Excluded ballot) x ≡ t → most_below ballot (cond t (x ∷ rest) rest) ≡ step ballot x (most_below ballot xs)
    by_test same true e =
        if_true (is_lt (ballot_cmp x ballot)) (greater_of x (most_below ballot rest)) (most_below ballot rest) (sym (in_range ballot x) ∙ e)
        ∙ ap (greater_of x) same ∙ sym (if_true (is_lt (ballot_cmp x ballot)) (greater_of x (most_below ballot xs)) (most_below ballot xs) (sym (in_range ballot x) ∙ e))
    by_test same false e = same ∙ sym (if_false (is_lt (ballot_cmp x ballot)) (greater_of x (most_below ballot xs)) (most_below ballot xs) (sym (in_range ballot x) ∙ e))

-- the last of rising ballots, all of which are below that one, is the greatest
last_is_most : (ballot last : Ballot) (front : List Ballot) → IsStrictlySortedBy ballot_cmp (front ++ last ∷ []) → AllByRecursion (λ floor. is_lt (ballot_cmp floor ballot) ≡ true) (front ++ last ∷ [])
    → most_below ballot (front ++ last ∷ []) ≡ last
unfolding IsStrictlySortedBy
last_is_most ballot last [] sorted all = if_true (is_lt (ballot_cmp last ballot)) (greater_of last zero_ballot) zero_ballot all.0 ∙ at_most_antisym (greater_at_most (at_most_refl last) (zero_at_most last)) (at_most_greater_left last zero_ballot)
last_is_most ballot last (x ∷ xs) sorted all =
    if_true (is_lt (ballot_cmp x ballot)) (greater_of x (most_below ballot (xs ++ last ∷ []))) (most_below ballot (xs ++ last ∷ [])) all.0
    ∙ ap (greater_of x) (last_is_most ballot last xs sorted.1 all.1)
    ∙ at_most_antisym (greater_at_most (at_most_of_less (less_of x last (last_of xs sorted.0))) (at_most_refl last)) (at_most_greater_right x last)
  where
    last_of : (ys : List Ballot) → AllByRecursion (λ y. ballot_cmp x y ≡ Less) (ys ++ last ∷ []) → ballot_cmp x last ≡ Less
    last_of [] h = h.0
    last_of (y ∷ ys) h = last_of ys h.1

-- what a range that ends before the ballot has is below it
all_in_range : (ballot : Ballot) (floors : List Ballot) → AllByRecursion (λ floor. is_lt (ballot_cmp floor ballot) ≡ true) (filter (range_contains ballot_cmp Unbounded (Excluded ballot)) floors)
all_in_range ballot [] = tt
all_in_range ballot (x ∷ xs) = by_test (all_in_range ballot xs) (range_contains ballot_cmp Unbounded (Excluded ballot) x) refl
  where
    rest : List Ballot
    rest = filter (range_contains ballot_cmp Unbounded (Excluded ballot)) xs

    by_test : AllByRecursion (λ floor. is_lt (ballot_cmp floor ballot) ≡ true) rest → (t : Bool) → range_contains ballot_cmp Unbounded (Excluded ballot) x ≡ t → AllByRecursion (λ floor. is_lt (ballot_cmp floor ballot) ≡ true) (cond t (x ∷ rest) rest)
    by_test all true e = (sym (in_range ballot x) ∙ e, all)
    by_test all false e = all

pub range_last : (ballot last : Ballot) (floors front : List Ballot) → IsStrictlySortedBy ballot_cmp floors → filter (range_contains ballot_cmp Unbounded (Excluded ballot)) floors ≡ front ++ last ∷ [] → last ≡ most_below ballot floors
range_last ballot last floors front sorted is = sym (
    sym (most_filtered ballot floors)
    ∙ ap (most_below ballot) is
    ∙ last_is_most ballot last front (subst (IsStrictlySortedBy ballot_cmp) is (IsStrictlySortedBy-filter ballot_cmp (range_contains ballot_cmp Unbounded (Excluded ballot)) floors sorted))
    (subst (AllByRecursion (λ floor. is_lt (ballot_cmp floor ballot) ≡ true)) is (all_in_range ballot floors)))

pub range_none : (ballot : Ballot) (floors : List Ballot) → filter (range_contains ballot_cmp Unbounded (Excluded ballot)) floors ≡ [] → zero_ballot ≡ most_below ballot floors
range_none ballot floors is = sym (sym (most_filtered ballot floors) ∙ ap (most_below ballot) is)

-- ---- a floor more
pub added_floor : (key : List ℕ) (ballot : Ballot) (state : State) (marks : List Mark) (old new : List ℕ → List Ballot)
    → ((q : List ℕ) → new q ≡ (if is_key key q then insert_key ballot_cmp (old q) ballot else old q)) → ((q : List ℕ) → old q ≡ floors_of q marks)
    → (k : List ℕ) → new k ≡ floors_of k (Floor key ballot state ∷ marks)
added_floor key ballot state marks old new adds are k = adds k ∙ ap (λ (floors : List Ballot). if is_key key k then insert_key ballot_cmp floors ballot else floors) (are k)
