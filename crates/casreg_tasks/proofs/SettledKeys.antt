-- The keys of a record in their order: all that its marks name, those of them that have an entry, and how many come after a key.
use Rattle.std.proofs.Common.{◌≡◌, ℕ, zero, suc, ◌<◌, ◌≤◌, Bool, true, false, cond, List, [], ◌∷◌, length, get_or, Option, Some, None, refl, sym, ap, subst, arith, ◌∙◌, inl, inr}
use Rattle.std.specs.Prelude.{◌⊎◌, ◌≢◌, Contains}
use Rattle.std.specs.List.{filter, AllByRecursion}
use Rattle.std.specs.List.Sorted.{IsStrictlySortedBy}
use Rattle.std.specs.Cmp.Lexicographic.{slice_cmp}
use Rattle.std.specs.Ordering.{nat_cmp, is_lt}
use Rattle.std.specs.declared.cmp.Ordering.{Ordering}
use Rattle.std.specs.declared.cmp.Ordering.TheVariants.{Less, Equal, Greater}
use Rattle.std.specs.FinMap.Entries.{by_order}
use Rattle.std.proofs.lemmas.List.Kept.{IsStrictlySortedBy-filter}
use Rattle.cas_base.proofs.Bools.{true_or_false}
use Rattle.cas_record.specs.declared.entry.Entry.{Entry}
use Rattle.cas_record.specs.declared.mark.Mark.{Mark}
use Rattle.cas_record.specs.Histories.Chain.{settled_of}
use Rattle.cas_record.specs.Kept.Index.{named_by, home_of, IsAfter, HasEntryOrFloor, KeyLess}
use Rattle.cas_record.proofs.Kept.Homes.{names_one, home_cases}
use Rattle.cas_record.proofs.Histories.Next.{listed_named}
use Rattle.cas_record.proofs.Kept.Rows.{key_less_trans, key_less_of_greater, key_of_equal, key_not_less}
use Rattle.casreg_tasks.specs.Histories.{AreSettledKeys}

-- ---- lists of keys
-- the key is one of these
abbrev pub IsIn : List ℕ → List (List ℕ) → Type 0
IsIn key [] = ⊥
IsIn key (first_ ∷ later) = (first_ ≡ key) ⊎ IsIn key later

pub contains_in : (key : List ℕ) (keys : List (List ℕ)) → IsIn key keys → Contains keys key
contains_in key [] is = elim is [ ]
contains_in key (first_ ∷ later) (inl here) = (0, omega arith, here)
contains_in key (first_ ∷ later) (inr there) = let c = contains_in key later there in (suc c.0, omega (arith, c.1), c.2)

pub in_contains : (key : List ℕ) (keys : List (List ℕ)) → Contains keys key → IsIn key keys
in_contains key keys c = by keys c.0 c.1 c.2
  where
    by : (ks : List (List ℕ)) (k : ℕ) → k < length ks → get_or ks k key ≡ key → IsIn key ks
    by [] k low is = absurd (omega (arith, low))
    by (first_ ∷ later) zero low is = inl is
    by (first_ ∷ later) (suc k) low is = inr (by later k (omega (arith, low)) is)

abbrev pub Rise : List (List ℕ) → Type 0
Rise = IsStrictlySortedBy (slice_cmp nat_cmp)

-- all of these come after the key
abbrev pub AllAbove : List ℕ → List (List ℕ) → Type 0
AllAbove key keys = AllByRecursion (KeyLess key) keys

above_all : (a b : List ℕ) (keys : List (List ℕ)) → KeyLess a b → AllAbove b keys → AllAbove a keys
above_all a b [] less above = tt
above_all a b (key ∷ keys) less above = (key_less_trans a b key less above.0, above_all a b keys less above.1)

-- ---- a key put in its place
abbrev put : List ℕ → List (List ℕ) → List (List ℕ)
put key [] = key ∷ []
put key (first_ ∷ later) = by_order (slice_cmp nat_cmp key first_) (key ∷ first_ ∷ later) (first_ ∷ later) (first_ ∷ put key later)

put_above : (low key : List ℕ) (keys : List (List ℕ)) → KeyLess low key → AllAbove low keys → AllAbove low (put key keys)
put_above low key [] less above = (less, tt)
put_above low key (first_ ∷ later) less above = elim (slice_cmp nat_cmp key first_) as (λ o. AllAbove low (by_order o (key ∷ first_ ∷ later) (first_ ∷ later) (first_ ∷ put key later))) [
  | Less ↦ (less, above)
  | Equal ↦ above
  | Greater ↦ (above.0, put_above low key later less above.1)
]

put_rises : (key : List ℕ) (keys : List (List ℕ)) → Rise keys → Rise (put key keys)
unfolding IsStrictlySortedBy
put_rises key [] rise = (tt, tt)
put_rises key (first_ ∷ later) rise = elim (slice_cmp nat_cmp key first_) as (λ o. slice_cmp nat_cmp key first_ ≡ o → Rise (by_order o (key ∷ first_ ∷ later) (first_ ∷ later) (first_ ∷ put key later))) [
  | Less ↦ λ e. ((e, above_all key first_ later e rise.0), rise)
  | Equal ↦ λ e. rise
  | Greater ↦ λ e. (put_above first_ key later (key_less_of_greater key first_ e) rise.0, put_rises key later rise.1)
] refl

put_in : (key : List ℕ) (keys : List (List ℕ)) → IsIn key (put key keys)
put_in key [] = inl refl
put_in key (first_ ∷ later) = elim (slice_cmp nat_cmp key first_) as (λ o. slice_cmp nat_cmp key first_ ≡ o → IsIn key (by_order o (key ∷ first_ ∷ later) (first_ ∷ later) (first_ ∷ put key later))) [
  | Less ↦ λ e. inl refl
  | Equal ↦ λ e. inl (sym (key_of_equal key first_ e))
  | Greater ↦ λ e. inr (put_in key later)
] refl

put_keeps : (key other : List ℕ) (keys : List (List ℕ)) → IsIn other keys → IsIn other (put key keys)
put_keeps key other [] is = elim is [ ]
put_keeps key other (first_ ∷ later) is = elim (slice_cmp nat_cmp key first_) as (λ o. IsIn other (by_order o (key ∷ first_ ∷ later) (first_ ∷ later) (first_ ∷ put key later))) [
  | Less ↦ inr is
  | Equal ↦ is
  | Greater ↦ elim is [ inl here ↦ inl here | inr there ↦ inr (put_keeps key other later there) ]
]

-- ---- the keys that marks name
abbrev put_named : Option (List ℕ) → List (List ℕ) → List (List ℕ)
put_named None keys = keys
put_named (Some key) keys = put key keys

abbrev pub named_keys : List Mark → List (List ℕ)
named_keys [] = []
named_keys (mark ∷ older) = put_named (named_by mark) (named_keys older)

put_named-rises : (key : Option (List ℕ)) (keys : List (List ℕ)) → Rise keys → Rise (put_named key keys)
put_named-rises None keys rise = rise
put_named-rises (Some key) keys rise = put_rises key keys rise

put_named-keeps : (key : Option (List ℕ)) (other : List ℕ) (keys : List (List ℕ)) → IsIn other keys → IsIn other (put_named key keys)
put_named-keeps None other keys is = is
put_named-keeps (Some key) other keys is = put_keeps key other keys is

named_rise : (marks : List Mark) → Rise (named_keys marks)
unfolding IsStrictlySortedBy
named_rise [] = tt
named_rise (mark ∷ older) = put_named-rises (named_by mark) (named_keys older) (named_rise older)

home_named : (key : List ℕ) (marks : List Mark) (home : ℕ) → home_of key marks ≡ Some home → IsIn key (named_keys marks)
home_named key [] home is = absurd cc
home_named key (mark ∷ older) home is = elim (home_cases key mark older home is) [
  | inl before ↦ put_named-keeps (named_by mark) key (named_keys older) (home_named key older home before)
  | inr now ↦
      let named : named_by mark ≡ Some key = names_one key mark now.1.0 in
      subst (λ (o : Option (List ℕ)). IsIn key (put_named o (named_keys older))) (sym named) (put_in key (named_keys older))
]

pub listed_in : (key : List ℕ) (marks : List Mark) → HasEntryOrFloor key marks → IsIn key (named_keys marks)
listed_in key marks listed = let home = listed_named key marks listed in home_named key marks home.0 home.1

-- ---- those that have an entry
abbrev has_entry : List Entry → Bool
has_entry [] = false
has_entry (entry ∷ entries) = true

entry_tells : (entries : List Entry) → has_entry entries ≡ true → entries ≢ []
entry_tells [] has = absurd cc
entry_tells (entry ∷ entries) has = λ none. cc

pub none_or_some : (entries : List Entry) → (entries ≡ []) ⊎ (entries ≢ [])
none_or_some [] = inl refl
none_or_some (entry ∷ entries) = inr (λ none. cc)

entry_is : (entries : List Entry) → entries ≢ [] → has_entry entries ≡ true
entry_is [] some = absurd (some refl)
entry_is (entry ∷ entries) some = refl

filter_in : (test : List ℕ → Bool) (key : List ℕ) (keys : List (List ℕ)) → test key ≡ true → IsIn key keys → IsIn key (filter test keys)
filter_in test key [] passes is = elim is [ ]
filter_in test key (first_ ∷ later) passes is = elim is [
  | inl here ↦
      let first_passes : test first_ ≡ true = ap test here ∙ passes in
      subst (λ (b : Bool). IsIn key (cond b (first_ ∷ filter test later) (filter test later))) (sym first_passes) (inl here)
  | inr there ↦ elim (test first_) as (λ b. IsIn key (cond b (first_ ∷ filter test later) (filter test later))) [
    | true ↦ inr (filter_in test key later passes there)
    | false ↦ filter_in test key later passes there
  ]
]

filter_passed : (test : List ℕ → Bool) (key : List ℕ) (keys : List (List ℕ)) → IsIn key (filter test keys) → test key ≡ true
filter_passed test key [] is = elim is [ ]
filter_passed test key (first_ ∷ later) is = elim (test first_) as (λ b. test first_ ≡ b → IsIn key (cond b (first_ ∷ filter test later) (filter test later)) → test key ≡ true) [
  | true ↦ λ passes in_. elim in_ [ inl here ↦ sym (ap test here) ∙ passes | inr there ↦ filter_passed test key later there ]
  | false ↦ λ fails in_. filter_passed test key later in_
] refl is

abbrev is_settled : List Mark → List ℕ → Bool
is_settled marks key = has_entry (settled_of key marks)

-- the keys whose settled history has an entry, in their order
abbrev pub settled_keys : List Mark → List (List ℕ)
settled_keys marks = filter (is_settled marks) (named_keys marks)

pub are_settled : (marks : List Mark) → AreSettledKeys marks (settled_keys marks)
are_settled marks = record {
  rising = IsStrictlySortedBy-filter (slice_cmp nat_cmp) (is_settled marks) (named_keys marks) (named_rise marks);
  settled = λ key. (
    λ is. entry_tells (settled_of key marks) (filter_passed (is_settled marks) key (named_keys marks) (in_contains key (settled_keys marks) is)),
    λ some. contains_in key (settled_keys marks) (filter_in (is_settled marks) key (named_keys marks) (entry_is (settled_of key marks) some) (listed_in key marks (inl some))),
  );
}

-- ---- how many come after a key
abbrev is_after : Option (List ℕ) → List ℕ → Bool
is_after None key = true
is_after (Some other) key = is_lt (slice_cmp nat_cmp other key)

abbrev pub count_after : Option (List ℕ) → List (List ℕ) → ℕ
count_after after [] = 0
count_after after (key ∷ keys) = cond (is_after after key) (suc (count_after after keys)) (count_after after keys)

is_lt_tells : (o : Ordering) → is_lt o ≡ true → o ≡ Less
is_lt_tells Less e = refl
is_lt_tells Equal e = absurd cc
is_lt_tells Greater e = absurd cc

after_is : (after : Option (List ℕ)) (key : List ℕ) → IsAfter after key → is_after after key ≡ true
after_is None key is = refl
after_is (Some other) key is = ap is_lt is

pub after_less : (after : Option (List ℕ)) (key other : List ℕ) → IsAfter after key → KeyLess key other → IsAfter after other
after_less None key other is less = tt
after_less (Some before) key other is less = key_less_trans before key other is less

-- fewer pass a narrower test
count_narrows : (narrow wide : Bool) (few many : ℕ) → (narrow ≡ true → wide ≡ true) → few ≤ many → cond narrow (suc few) few ≤ cond wide (suc many) many
count_narrows true true few many narrower low = omega (arith, low)
count_narrows true false few many narrower low = absurd (cc (narrower refl))
count_narrows false true few many narrower low = omega (arith, low)
count_narrows false false few many narrower low = low

narrower : (after : Option (List ℕ)) (key other : List ℕ) → IsAfter after key → is_after (Some key) other ≡ true → is_after after other ≡ true
narrower after key other is passes = after_is after other (after_less after key other is (is_lt_tells (slice_cmp nat_cmp key other) passes))

count_at_most : (after : Option (List ℕ)) (key : List ℕ) (keys : List (List ℕ)) → IsAfter after key → count_after (Some key) keys ≤ count_after after keys
count_at_most after key [] is = omega arith
count_at_most after key (first_ ∷ later) is =
    count_narrows (is_after (Some key) first_) (is_after after first_) (count_after (Some key) later) (count_after after later) (narrower after key first_ is) (count_at_most after key later is)

not_after_itself : (key : List ℕ) → is_after (Some key) key ≡ false
not_after_itself key = elim (true_or_false (is_after (Some key) key)) [
  | inl passes ↦ absurd (key_not_less key (is_lt_tells (slice_cmp nat_cmp key key) passes))
  | inr fails ↦ fails
]

-- fewer keys come after a later one
pub count_falls : (after : Option (List ℕ)) (key : List ℕ) (keys : List (List ℕ)) → IsAfter after key → IsIn key keys → count_after (Some key) keys < count_after after keys
count_falls after key [] is in_ = elim in_ [ ]
count_falls after key (first_ ∷ later) is in_ = elim in_ [
  | inl here ↦
      let gone : is_after (Some key) first_ ≡ false = ap (is_after (Some key)) here ∙ not_after_itself key in
      let was : is_after after first_ ≡ true = ap (is_after after) here ∙ after_is after key is in
      let low = count_at_most after key later is in
      rw (gone, was) (omega (arith, low))
  | inr there ↦
      let low = count_falls after key later is there in
      falls (is_after (Some key) first_) (is_after after first_) (count_after (Some key) later) (count_after after later) (narrower after key first_ is) low
]
  where
    falls : (narrow wide : Bool) (few many : ℕ) → (narrow ≡ true → wide ≡ true) → few < many → cond narrow (suc few) few < cond wide (suc many) many
    falls true true few many n low = omega (arith, low)
    falls true false few many n low = absurd (cc (n refl))
    falls false true few many n low = omega (arith, low)
    falls false false few many n low = low
