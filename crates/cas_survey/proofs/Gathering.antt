-- What is found with the keys of a shelf that were looked at so far.
use Rattle.std.proofs.Common.{◌≡◌, ◌∙◌, ◌≤◌, ◌<◌, ◌⊎◌, ℕ, List, Option, None, Some, Bool, true, false, cond, ap, sym, subst, refl, inl, inr, arith, length, take, max}
use Rattle.std.specs.Prelude.{◌||◌, IsSome}
use Rattle.std.specs.Ordering.{is_lt, nat_cmp, eq_by_cmp}
use Rattle.std.specs.Cmp.Lexicographic.{slice_cmp}
use Rattle.std.proofs.lemmas.Bool.{cases_lt}
use Rattle.std.proofs.lemmas.List.{take_all}
use Rattle.std.proofs.Math.Nat.{max-eq_left, max-eq_right}
use Rattle.cas_base.proofs.Bools.{or_cases, some_is}
use Rattle.cas_ballot.specs.Ballot.{BallotAtMost, BallotLess}
use Rattle.cas_ballot.proofs.BallotLemmas.{at_most_refl, at_most_trans, at_most_or_less, at_most_of_less, at_most_less, zero_at_most, cmp_of_less, not_lt_of_at_most}
use Rattle.cas_slot.specs.declared.slot.Accepted.{Accepted}
use Rattle.cas_slot.specs.declared.slot.Slot.{Slot}
use Rattle.cas_slot.specs.Contents.{Contents, kept_at}
use Rattle.cas_slot.specs.Slot.{accepted_ballot}
use Rattle.cas_slot.specs.Slots.{Slots, slot_at, with_slot, keys_above}
use Rattle.cas_slot.specs.Table.{accepted_at, seen_at}
use Rattle.cas_slot.proofs.SlotsLemmas.{slot_at-with_slot, slot_at-with_slot_same}
use Rattle.cas_survey.specs.Survey.{found_slot, found_ballot, noted, GoesOnFromAccepted, FindsMore, GathersKey, CountsOn}
use Rattle.cas_survey.proofs.Keys.{is_one_of, same_key, all_keys, kept_is_one, some_or_none}
use Rattle.cas_survey.proofs.Noting.{noted_greater, noted_no_greater}

-- what was found before, with what these contents hold of some keys
pub record GathersOf (looked : List (List ℕ)) (kept : Contents) (old new : Slots) : Type 0 where
  pub from : (key : List ℕ) (slot : Slot) → slot_at new key ≡ Some slot → (slot_at old key ≡ Some slot) ⊎ GoesOnFromAccepted kept key slot
  pub grows : (key : List ℕ) → BallotAtMost (found_ballot (slot_at old key)) (found_ballot (slot_at new key))
  pub reaches : (key : List ℕ) → is_one_of looked key ≡ true → BallotAtMost (accepted_ballot (accepted_at kept key)) (found_ballot (slot_at new key))

pub record CountsOf (looked : List (List ℕ)) (kept : Contents) (old new : ℕ) : Type 0 where
  pub grows : old ≤ new
  pub reaches : (key : List ℕ) → is_one_of looked key ≡ true → (seen_at kept key).counter ≤ new
  pub from : (new ≡ old) ⊎ ((key : List ℕ) × ((seen_at kept key).counter ≡ new))

-- ---- one more
by_key : {A : Type 0} (b : Bool) (put other : Option A) (slot : A) → cond b put other ≡ Some slot → ((b ≡ true) × (put ≡ Some slot)) ⊎ (other ≡ Some slot)
by_key true put other slot at = inl (refl, at)
by_key false put other slot at = inr at

grows_by : (b : Bool) (q key : List ℕ) (found : Slots) (put : Slot) → (b ≡ true → q ≡ key) → BallotAtMost (found_ballot (slot_at found key)) (found_ballot (Some put))
    → BallotAtMost (found_ballot (slot_at found q)) (found_ballot (cond b (Some put) (slot_at found q)))
grows_by true q key found put same more = rw (same refl) more
grows_by false q key found put same more = at_most_refl (found_ballot (slot_at found q))

gathers_put : (kept : Contents) (key : List ℕ) (old : Slots) (accepted : Accepted) → accepted_at kept key ≡ Some accepted → BallotLess (found_ballot (slot_at old key)) accepted.ballot
    → GathersKey kept key old (with_slot old key (found_slot accepted))
gathers_put kept key old accepted at less = record {
  from = λ q slot is. elim (by_key (eq_by_cmp (slice_cmp nat_cmp) q key) (Some (found_slot accepted)) (slot_at old q) slot (sym (slot_at-with_slot old key (found_slot accepted) q) ∙ is)) [
    | inl put ↦ inr (rw (same_key q key put.0) (record { accepted = accepted; at = at; above = at_most_less (zero_at_most (found_ballot (slot_at old key))) less; is = sym (some_is _ _ put.1) }))
    | inr other ↦ inl other
  ];
  grows = λ q. rw (slot_at-with_slot old key (found_slot accepted) q) (grows_by (eq_by_cmp (slice_cmp nat_cmp) q key) q key old (found_slot accepted) (same_key q key) (at_most_of_less less));
  reaches = rw (at, slot_at-with_slot_same old key (found_slot accepted)) (at_most_refl accepted.ballot);
}

gathers_same : (kept : Contents) (key : List ℕ) (old : Slots) → BallotAtMost (accepted_ballot (accepted_at kept key)) (found_ballot (slot_at old key)) → GathersKey kept key old old
gathers_same kept key old low = record { from = λ q slot is. inl is; grows = λ q. at_most_refl (found_ballot (slot_at old q)); reaches = low }

-- noting what was accepted of a key does
pub gathers_key : (kept : Contents) (key : List ℕ) (old : Slots) (accepted : Option Accepted) → accepted_at kept key ≡ accepted → GathersKey kept key old (noted old key accepted)
gathers_key kept key old None at = gathers_same kept key old (rw at (zero_at_most (found_ballot (slot_at old key))))
gathers_key kept key old (Some accepted) at = elim (at_most_or_less accepted.ballot (found_ballot (slot_at old key))) [
  | inl low ↦ subst (GathersKey kept key old) (sym (noted_no_greater old key accepted (not_lt_of_at_most low))) (gathers_same kept key old (rw at low))
  | inr less ↦ subst (GathersKey kept key old) (sym (noted_greater old key accepted (ap is_lt (cmp_of_less less)))) (gathers_put kept key old accepted at less)
]

looked_or_next : (looked : List (List ℕ)) (next : List (List ℕ)) (key q : List ℕ) → is_one_of next q ≡ (is_one_of looked q || eq_by_cmp (slice_cmp nat_cmp) q key) → is_one_of next q ≡ true
    → (is_one_of looked q ≡ true) ⊎ (q ≡ key)
looked_or_next looked next key q is one = elim (or_cases (is_one_of looked q) (eq_by_cmp (slice_cmp nat_cmp) q key) (sym is ∙ one)) [
  | inl before ↦ inl before
  | inr same ↦ inr (same_key q key same)
]

-- the others are these and this key
abbrev pub IsNext : List (List ℕ) → List (List ℕ) → List ℕ → Type 0
IsNext looked next key = (q : List ℕ) → is_one_of next q ≡ (is_one_of looked q || eq_by_cmp (slice_cmp nat_cmp) q key)

pub gathers_more : (looked next : List (List ℕ)) (key : List ℕ) (kept : Contents) (old mid new : Slots)
    → IsNext looked next key → GathersOf looked kept old mid → GathersKey kept key mid new → GathersOf next kept old new
gathers_more looked next key kept old mid new is before notes = record {
  from = λ q slot at. elim (notes.from q slot at) [
    | inl old_one ↦ before.from q slot old_one
    | inr goes ↦ inr goes
  ];
  grows = λ q. at_most_trans (before.grows q) (notes.grows q);
  reaches = λ q one. elim (looked_or_next looked next key q (is q) one) [
    | inl looked_at ↦ at_most_trans (before.reaches q looked_at) (notes.grows q)
    | inr same ↦ rw same notes.reaches
  ];
}

max_cases : (a b : ℕ) → ((max a b ≡ a) × (b ≤ a)) ⊎ ((max a b ≡ b) × (a ≤ b))
max_cases a b = elim (cases_lt a b) [
  | inl low ↦ inr (max-eq_right (omega (arith, low)), omega (arith, low))
  | inr high ↦ inl (max-eq_left high, high)
]

-- the counter of the greater ballot of a slot is counted on
pub counts_more : (looked next : List (List ℕ)) (key : List ℕ) (kept : Contents) (old mid counter : ℕ)
    → IsNext looked next key → CountsOf looked kept old mid → (seen_at kept key).counter ≡ counter → CountsOf next kept old (max mid counter)
counts_more looked next key kept old mid counter is before at = elim (max_cases mid counter) [
  | inl stays ↦ record {
    grows = rw stays.0 before.grows;
    reaches = λ q one. elim (looked_or_next looked next key q (is q) one) [
      | inl looked_at ↦ rw stays.0 (before.reaches q looked_at)
      | inr same ↦ rw (stays.0, same, at) stays.1
    ];
    from = rw stays.0 before.from;
  }
  | inr goes ↦ record {
    grows = let low = before.grows in omega (arith, goes.0, goes.1, low);
    reaches = λ q one. elim (looked_or_next looked next key q (is q) one) [
      | inl looked_at ↦ let low = before.reaches q looked_at in omega (arith, goes.0, goes.1, low)
      | inr same ↦ rw (goes.0, same, at) (omega arith)
    ];
    from = inr (key, at ∙ sym goes.0);
  }
]

-- ---- all were looked at
-- a list of the first most keys that is shorter than that, of which so many were looked at that none is left
all_one : (most at : ℕ) (keys : List (List ℕ)) (kept : Contents) (key : List ℕ) → keys ≡ take most (keys_above kept.slots None) → length keys < most → length keys ≤ at → IsSome (kept_at kept key)
    → is_one_of (take at keys) key ≡ true
all_one most at keys kept key is few all some =
    ap (λ (looked : List (List ℕ)). is_one_of looked key) (take_all at keys all) ∙ kept_is_one kept.slots keys key (all_keys most kept.slots keys is few) some

pub gathers_all : (most at : ℕ) (keys : List (List ℕ)) (kept : Contents) (old new : Slots) → keys ≡ take most (keys_above kept.slots None) → length keys < most → length keys ≤ at
    → GathersOf (take at keys) kept old new → FindsMore kept old new
gathers_all most at keys kept old new is few all gathers = record {
  from = gathers.from;
  grows = gathers.grows;
  reaches = λ q. elim (some_or_none (kept_at kept q)) [
    | inl some ↦ gathers.reaches q (all_one most at keys kept q is few all some)
    | inr none ↦ rw none (zero_at_most (found_ballot (slot_at new q)))
  ];
}

pub counts_all : (most at : ℕ) (keys : List (List ℕ)) (kept : Contents) (old new : ℕ) → keys ≡ take most (keys_above kept.slots None) → length keys < most → length keys ≤ at
    → CountsOf (take at keys) kept old new → CountsOn kept old new
counts_all most at keys kept old new is few all counts = record {
  grows = counts.grows;
  reaches = λ q. elim (some_or_none (kept_at kept q)) [
    | inl some ↦ counts.reaches q (all_one most at keys kept q is few all some)
    | inr none ↦ rw none (omega arith)
  ];
  from = counts.from;
}
