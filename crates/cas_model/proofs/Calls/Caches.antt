-- What a cache holds after a round.
use Rattle.std.proofs.Common.{◌≡◌, ℕ, zero, suc, Bool, true, false, List, [], ◌∷◌, Option, None, Some, refl, sym, ap, subst, ◌∙◌, inl, inr}
use Rattle.std.specs.Prelude.{◌⊎◌, cond, take, Contains}
use Rattle.std.specs.Map.{remove_entry}
use Rattle.std.specs.Cmp.Lexicographic.{pointwise}
use Rattle.std.specs.Prelude.{nat_eq}
use Rattle.cas_base.proofs.Bools.{true_or_false, if_true, if_false, not_both}
use Rattle.cas_cache.specs.declared.ready.Ready.{Ready}
use Rattle.cas_cache.specs.Entries.{promise_at, without}
use Rattle.cas_proposer.specs.Desk.{cache_after}
use Rattle.cas_proposer.specs.Round.{may_keep}
use Rattle.cas_proposer.specs.declared.round.Round.{Round}
use Rattle.cas_round.proofs.Lists.{Has, has, contains}
use Rattle.cas_record.proofs.Tests.{key_same, key_is}
use Rattle.cas_record.specs.Logs.Happening.{Happening}
use Rattle.cas_record.specs.Logs.Lawful.{Cluster}
use Rattle.cas_model.specs.Parties.{ArePromisesHeld, HaveOneEach}
use Rattle.cas_protocol.specs.Protocol.{Made}
use Rattle.cas_model.proofs.Places.{some_is, contains_none, contains_take, newest_or_older}

-- an entry that is left was there
has_removed : (test : List ℕ → Bool) (entry : List ℕ × Ready) (cache : List (List ℕ × Ready)) → Has entry (remove_entry test cache) → Has entry cache
has_removed test entry [] h = h
has_removed test entry (e ∷ cache) h = by_test (test e.0) h (has_removed test entry cache)
  where
    by_test : (b : Bool) → Has entry (cond b cache (e ∷ remove_entry test cache)) → (Has entry (remove_entry test cache) → Has entry cache) → Has entry (e ∷ cache)
    by_test true h rest = inr h
    by_test false (inl now) rest = inl now
    by_test false (inr h) rest = inr (rest h)

pub contains_without : {entry : List ℕ × Ready} (key : List ℕ) (cache : List (List ℕ × Ready)) → Contains (without key cache) entry → Contains cache entry
contains_without {entry} key cache c = contains entry cache (has_removed (pointwise nat_eq key) entry cache (has entry (without key cache) c))

-- the promise of a key is in the cache
has_promise : (key : List ℕ) (ready : Ready) (cache : List (List ℕ × Ready)) → promise_at key cache ≡ Some ready → Has (key, ready) cache
has_promise key ready [] e = absurd (cc e)
has_promise key ready (entry ∷ cache) e = elim (true_or_false (pointwise nat_eq key entry.0)) [
  | inl same ↦ inl (ap (λ (k : List ℕ). (k, entry.1)) (sym (key_same same)) ∙ ap (λ (r : Ready). (key, r)) (some_is (sym (if_true (pointwise nat_eq key entry.0) (Some entry.1) (promise_at key cache) same) ∙ e)))
  | inr other ↦ inr (has_promise key ready cache (sym (if_false (pointwise nat_eq key entry.0) (Some entry.1) (promise_at key cache) other) ∙ e))
]

pub contains_promise : (key : List ℕ) (ready : Ready) (cache : List (List ℕ × Ready)) → promise_at key cache ≡ Some ready → Contains cache (key, ready)
contains_promise key ready cache e = contains (key, ready) cache (has_promise key ready cache e)

-- after a round the cache holds what it held, and the promise that is kept
pub data IsKeptOr (round : Round) (offered : Option Ready) (cache : List (List ℕ × Ready)) (entry : List ℕ × Ready) : Type 0 where
  kept : (ready : Ready) → offered ≡ Some ready → may_keep round ready ≡ true → (round.key, ready) ≡ entry → IsKeptOr round offered cache entry
  held : Contains cache entry → IsKeptOr round offered cache entry

pub kept_or_held : (round : Round) (offered : Option Ready) (cache : List (List ℕ × Ready)) (entry : List ℕ × Ready) → Contains (cache_after round offered cache) entry → IsKeptOr round offered cache entry
kept_or_held round None cache entry c = held (contains_without round.key cache c)
kept_or_held round (Some ready) cache entry c = elim (true_or_false (may_keep round ready)) [
  | inl keep ↦ by_front keep (newest_or_older (without round.key cache) (contains_take 64 ((round.key, ready) ∷ without round.key cache)
      (subst (λ (l : List (List ℕ × Ready)). Contains l entry) (if_true (may_keep round ready) (take 64 ((round.key, ready) ∷ without round.key cache)) (without round.key cache) keep) c)))
  | inr not ↦ held (contains_without round.key cache (subst (λ (l : List (List ℕ × Ready)). Contains l entry) (if_false (may_keep round ready) (take 64 ((round.key, ready) ∷ without round.key cache)) (without round.key cache) not) c))
]
  where
    by_front : may_keep round ready ≡ true → ((round.key, ready) ≡ entry) ⊎ Contains (without round.key cache) entry → IsKeptOr round (Some ready) cache entry
    by_front keep (inl now) = kept ready refl keep now
    by_front keep (inr h) = held (contains_without round.key cache h)

-- what was held is held where the cache has no more
pub ready_fewer : (cluster : Cluster) (log : List Happening) (all : List Made) (id era : ℕ) (fewer cache : List (List ℕ × Ready)) → ((entry : List ℕ × Ready) → Contains fewer entry → Contains cache entry)
    → ArePromisesHeld cluster log all id era cache → ArePromisesHeld cluster log all id era fewer
ready_fewer cluster log all id era fewer cache within were key ready h = were key ready (within (key, ready) h)

-- ---- one promise each
one_removed : (test : List ℕ → Bool) (cache : List (List ℕ × Ready)) → HaveOneEach cache → HaveOneEach (remove_entry test cache)
one_removed test [] one = one
one_removed test (e ∷ cache) one = by_test (test e.0) (one_removed test cache one.1)
  where
    by_test : (b : Bool) → HaveOneEach (remove_entry test cache) → HaveOneEach (cond b cache (e ∷ remove_entry test cache))
    by_test true rest = one.1
    by_test false rest = (λ ready h. one.0 ready (contains (e.0, ready) cache (has_removed test (e.0, ready) cache (has (e.0, ready) (remove_entry test cache) h))), rest)

pub one_without : (key : List ℕ) (cache : List (List ℕ × Ready)) → HaveOneEach cache → HaveOneEach (without key cache)
one_without key cache one = one_removed (pointwise nat_eq key) cache one

pub none_without : (key : List ℕ) (cache : List (List ℕ × Ready)) → HaveOneEach cache → (ready : Ready) → Contains (without key cache) (key, ready) → ⊥
none_without key [] one ready h = contains_none h
none_without key (e ∷ cache) one ready h = elim (true_or_false (pointwise nat_eq key e.0)) [
  | inl same ↦ one.0 ready (subst (λ (k : List ℕ). Contains cache (k, ready)) (key_same same)
      (subst (λ (l : List (List ℕ × Ready)). Contains l (key, ready)) (if_true (pointwise nat_eq key e.0) cache (e ∷ without key cache) same) h))
  | inr other ↦ elim (newest_or_older (without key cache) (subst (λ (l : List (List ℕ × Ready)). Contains l (key, ready)) (if_false (pointwise nat_eq key e.0) cache (e ∷ without key cache) other) h)) [
    | inl now ↦ not_both (pointwise nat_eq key e.0) (key_is (sym (ap (λ (p : List ℕ × Ready). p.0) now))) other
    | inr before ↦ none_without key cache one.1 ready before
  ]
]

one_taken : (n : ℕ) (cache : List (List ℕ × Ready)) → HaveOneEach cache → HaveOneEach (take n cache)
one_taken zero cache one = tt
one_taken (suc n) [] one = one
one_taken (suc n) (e ∷ cache) one = (λ ready h. one.0 ready (contains_take n cache h), one_taken n cache one.1)

pub one_after : (round : Round) (offered : Option Ready) (cache : List (List ℕ × Ready)) → HaveOneEach cache → HaveOneEach (cache_after round offered cache)
one_after round None cache one = one_without round.key cache one
one_after round (Some ready) cache one = by_test (may_keep round ready)
  where
    by_test : (b : Bool) → HaveOneEach (cond b (take 64 ((round.key, ready) ∷ without round.key cache)) (without round.key cache))
    by_test true = one_taken 64 ((round.key, ready) ∷ without round.key cache) (none_without round.key cache one, one_without round.key cache one)
    by_test false = one_without round.key cache one
