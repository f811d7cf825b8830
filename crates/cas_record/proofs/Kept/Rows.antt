-- Rows: what they tell stays with each further mark, and a search finds them.
use Rattle.std.proofs.Common.{◌≡◌, ℕ, ◌+◌, ◌-◌, ◌<◌, ◌≤◌, true, false, List, [], ◌∷◌, ◌++◌, length, get_or, set, get_or-set_same, get_or-set_other, length-set, reverse, Some, None, Result, Ok, Err, refl, sym, ap, subst, arith, ◌∙◌}
use Rattle.std.specs.Prelude.{◌⊎◌, Option, slice_get, not, ◌&&◌, ◌==◌}
use Rattle.std.specs.List.{insert}
use Rattle.std.specs.List.Sorted.{IsSearchInRange, IsBinarySearchResult, IsNonDecreasingBy}
use Rattle.std.specs.Ordering.{nat_cmp, is_eq, ordering_index, ordering_reverse}
use Rattle.std.specs.declared.cmp.Ordering.{Ordering}
use Rattle.std.specs.declared.cmp.Ordering.TheVariants.{Less, Equal, Greater}
use Rattle.std.specs.Option.{option_and_then, option_map_or}
use Rattle.std.specs.Cmp.Lexicographic.{slice_cmp, texts_ties, nat_list_cmp_total}
use Rattle.std.proofs.lemmas.List.{length-reverse, reverse-reverse}
use Rattle.std.proofs.lemmas.List.Sorted.{IsNonDecreasingBy-from_default}
use Rattle.std.proofs.lemmas.List.Edits.{length-insert, get_or-insert_below, get_or-insert_at, get_or-insert_above}
use Rattle.std.proofs.lemmas.Bool.{cases_lt}
use mathlib.Core.Logic.{inl, inr}
use Rattle.cas_base.proofs.Bools.{true_or_false, if_false, left_false, some_is, not_both, false_of_not}
use Rattle.cas_record.specs.declared.mark.Mark.{Mark}
use Rattle.cas_record.specs.declared.mark.Mark.TheVariants.{Begun, Proposed, Acked, Floor, Voted, EraEntered, Ended, Harmed, Told}
use Rattle.cas_record.specs.declared.row.Row.{Row}
use Rattle.cas_record.specs.Histories.Chain.{is_key, has_calls}
use Rattle.cas_record.specs.Kept.Index.{named_by, names, key_at, home_of, TellsOf, IsRowOf, KeyLess}
use Rattle.cas_record.specs.Kept.Tables.{row_cmp, AreRowsOf, HasRows, IsPlaceFor, IsGapFor, IsSearched}
use Rattle.cas_record.proofs.Tests.{key_same, nat_same, nat_is}
use Rattle.cas_record.proofs.Kept.Homes.{there_or_not, names_one, home_cases, one_home, home_same, homeless}
use Rattle.cas_record.proofs.Positions.{got, gets, get_front, get_last, read_more, made_more}

-- ---- the order of keys
pub key_less_trans : (a b c : List ℕ) → KeyLess a b → KeyLess b c → KeyLess a c
key_less_trans a b c p q = nat_list_cmp_total.trans a b c p q

pub key_greater : (a b : List ℕ) → KeyLess a b → slice_cmp nat_cmp b a ≡ Greater
key_greater a b p = nat_list_cmp_total.antisymm b a ∙ ap ordering_reverse p

pub key_less_of_greater : (a b : List ℕ) → slice_cmp nat_cmp a b ≡ Greater → KeyLess b a
key_less_of_greater a b p = nat_list_cmp_total.antisymm b a ∙ ap ordering_reverse p

pub key_not_less : (a : List ℕ) → KeyLess a a → ⊥
key_not_less a p = let q = key_greater a a p in absurd (cc (p, q))

pub key_of_equal : (a b : List ℕ) → slice_cmp nat_cmp a b ≡ Equal → a ≡ b
key_of_equal a b p = key_same (texts_ties a b ∙ ap is_eq p)

-- how two keys stand to each other
pub key_cases : (a b : List ℕ) → KeyLess a b ⊎ ((a ≡ b) ⊎ KeyLess b a)
key_cases a b = by (slice_cmp nat_cmp a b) refl
  where
    by : (o : Ordering) → slice_cmp nat_cmp a b ≡ o → KeyLess a b ⊎ ((a ≡ b) ⊎ KeyLess b a)
    by Less e = inl e
    by Equal e = inr (inl (key_of_equal a b e))
    by Greater e = inr (inr (key_less_of_greater a b e))

-- comparisons with one key rise with the other
pub index_rises : (a b key : List ℕ) → KeyLess a b → ordering_index (slice_cmp nat_cmp a key) ≤ ordering_index (slice_cmp nat_cmp b key)
index_rises a b key less = elim (key_cases a key) [
  | inl before ↦ rw before (omega arith)
  | inr later ↦ let after : KeyLess key b = elim later [ inl same ↦ subst (λ (k : List ℕ). KeyLess k b) same less | inr above ↦ key_less_trans key a b above less ] in
      let greater = key_greater key b after in rw greater (at_most_greater (slice_cmp nat_cmp a key))
]
  where
    at_most_greater : (o : Ordering) → ordering_index o ≤ 2
    at_most_greater Less = omega arith
    at_most_greater Equal = omega arith
    at_most_greater Greater = omega arith

-- ---- what rows tell
pub no_rows : (rows : List Row) → rows ≡ [] → HasRows rows []
no_rows rows is = subst (λ (r : List Row). HasRows r []) (sym is) (record {
  keys = [];
  are = record {
    same_length = refl;
    rise = λ i j less within. absurd (omega (arith, within));
    each = λ at row here. absurd cc;
    complete = λ key home here. absurd cc;
  };
})

pub tells_kept : (key : List ℕ) (mark : Mark) (older : List Mark) (row : Row) → names key mark ≡ false → TellsOf key older row → TellsOf key (mark ∷ older) row
tells_kept key (Acked a) older row e t = record { top = t.top ∙ sym (if_false (is_key a.key key) _ _ e); floor = t.floor; opening = t.opening }
tells_kept key (Floor k floor state) older row e t = record {
  top = t.top ∙ sym (if_false (is_key k key) _ _ e);
  floor = t.floor ∙ sym (if_false (is_key k key) _ _ e);
  opening = t.opening ∙ sym (if_false (is_key k key && not (has_calls older)) _ _ (left_false (is_key k key) _ e));
}
tells_kept key (Proposed p) older row e t = record { top = t.top; floor = t.floor; opening = t.opening }
tells_kept key (Begun c n k p) older row e t = record { top = t.top; floor = t.floor; opening = t.opening }
tells_kept key (Voted a k b) older row e t = record { top = t.top; floor = t.floor; opening = t.opening }
tells_kept key (EraEntered p n) older row e t = record { top = t.top; floor = t.floor; opening = t.opening }
tells_kept key (Ended c n r a) older row e t = record { top = t.top; floor = t.floor; opening = t.opening }
tells_kept key (Harmed c n d) older row e t = record { top = t.top; floor = t.floor; opening = t.opening }
tells_kept key (Told a b) older row e t = record { top = t.top; floor = t.floor; opening = t.opening }

-- a key that no mark named is told nothing of
pub tells_none : (key : List ℕ) (marks : List Mark) (row : Row) → home_of key marks ≡ None → row.top ≡ None → row.floor ≡ None → row.opening ≡ None → TellsOf key marks row
tells_none key [] row gone t f o = record { top = t; floor = f; opening = o }
tells_none key (mark ∷ older) row gone t f o =
    let parts = homeless key mark older gone in tells_kept key mark older row parts.1 (tells_none key older row parts.0 t f o)

-- ---- homes and the keys that they name
pub home_named : (key : List ℕ) (marks : List Mark) (home : ℕ) → home_of key marks ≡ Some home → key_at (reverse marks) home ≡ Some key
home_named key [] home is = absurd cc
home_named key (mark ∷ older) home is = subst (λ (xs : List Mark). key_at xs home ≡ Some key) (sym (made_more older mark)) (elim (home_cases key mark older home is) [
  | inl before ↦ named_front (reverse older) (home_named key older home before)
  | inr now ↦ named_last (now.1.1 ∙ sym (length-reverse older)) (names_one key mark now.1.0)
])
  where
    named_front : (xs : List Mark) → key_at xs home ≡ Some key → key_at (xs ++ mark ∷ []) home ≡ Some key
    named_front xs e = front_by (slice_get xs home) refl
      where
        front_by : (o : Option Mark) → slice_get xs home ≡ o → key_at (xs ++ mark ∷ []) home ≡ Some key
        front_by None is = absurd (cc (e, is))
        front_by (Some m) is = ap (option_and_then named_by) (get_front xs (mark ∷ []) home m is) ∙ sym (ap (option_and_then named_by) is) ∙ e

    named_last : home ≡ length (reverse older) → named_by mark ≡ Some key → key_at (reverse older ++ mark ∷ []) home ≡ Some key
    named_last here e = ap (λ (n : ℕ). key_at (reverse older ++ mark ∷ []) n) here ∙ ap (option_and_then named_by) (get_last (reverse older) mark) ∙ e

-- the same of marks in the order in which they were made
pub home_at : (key : List ℕ) (marks : List Mark) (home : ℕ) → home_of key (reverse marks) ≡ Some home → key_at marks home ≡ Some key
home_at key marks home is = subst (λ (xs : List Mark). key_at xs home ≡ Some key) (reverse-reverse marks) (home_named key (reverse marks) home is)

-- how the row of a key compares
pub row_compares : (marks : List Mark) (key own : List ℕ) (row : Row) → IsRowOf own (reverse marks) row → row_cmp marks key row ≡ slice_cmp nat_cmp own key
row_compares marks key own row is = ap (λ o. option_map_or (λ k. slice_cmp nat_cmp k key) o Less) (home_at own marks row.home is.home)

abbrev pub no_row : Row
no_row = record { home = 0; top = None; floor = None; opening = None }

module _ (keys : List (List ℕ)) (rows : List Row) (marks : List Mark) (are : AreRowsOf keys rows marks) where
  pub row_at : (i : ℕ) → i < length rows → IsRowOf (get_or keys i []) (reverse marks) (get_or rows i no_row)
  row_at i within = are.each i (get_or rows i no_row) (gets rows i (get_or rows i no_row) no_row within refl)

  -- two places of one key are one
  pub one_place : (i j : ℕ) → i < length keys → j < length keys → get_or keys i [] ≡ get_or keys j [] → i ≡ j
  one_place i j low high same = elim (cases_lt i j) [
    | inl less ↦ absurd (key_not_less (get_or keys j []) (subst (λ (k : List ℕ). KeyLess k (get_or keys j [])) same (are.rise i j less high)))
    | inr most ↦ elim (cases_lt j i) [
      | inl less ↦ absurd (key_not_less (get_or keys j []) (subst (λ (k : List ℕ). KeyLess (get_or keys j []) k) same (are.rise j i less low)))
      | inr least ↦ omega (arith, most, least)
    ]
  ]

  module _ (key : List ℕ) where
    compares : (i : ℕ) → i < length rows → row_cmp marks key (get_or rows i no_row) ≡ slice_cmp nat_cmp (get_or keys i []) key
    compares i within = row_compares marks key (get_or keys i []) (get_or rows i no_row) (row_at i within)

    rises : IsNonDecreasingBy (λ row. ordering_index (row_cmp marks key row)) rows
    rises = IsNonDecreasingBy-from_default (λ row. ordering_index (row_cmp marks key row)) rows no_row (λ i j most within.
        let low = compares i (omega (arith, most, within)) in
        let high = compares j within in
        rw (low, high) (elim (cases_lt i j) [
          | inl less ↦ index_rises (get_or keys i []) (get_or keys j []) key (are.rise i j less (omega (arith, within, are.same_length)))
          | inr least ↦ let same : i ≡ j = omega (arith, most, least) in let e = ap (λ (n : ℕ). ordering_index (slice_cmp nat_cmp (get_or keys n []) key)) same in omega (arith, e)
        ]))

    -- what a search by key finds
    pub searched : (r : Result ℕ ℕ) → IsSearchInRange r (length rows) → IsBinarySearchResult (row_cmp marks key) rows r
        → IsSearched key rows marks r
    searched (Ok at) within equal =
        let same : get_or keys at [] ≡ key = key_of_equal (get_or keys at []) key (sym (compares at within) ∙ equal no_row) in
        record { within = within; own = λ row is. subst (λ (k : List ℕ). IsRowOf k (reverse marks) row) same (are.each at row is) }
    searched (Err at) within parted =
        let parts = parted rises in
        let below : (j : ℕ) → j < at → KeyLess (get_or keys j []) key = λ j less. sym (compares j (omega (arith, less, within))) ∙ parts.0 j no_row (omega arith) less in
        let above : (j : ℕ) → at ≤ j → j < length rows → KeyLess key (get_or keys j []) = λ j most low. key_less_of_greater (get_or keys j []) key (sym (compares j low) ∙ parts.1 j no_row most low) in
        record {
          within = within;
          homeless = elim (there_or_not (home_of key (reverse marks))) [
            | inl there ↦ let place = are.complete key there.0 there.1 in elim (cases_lt place.0 at) [
              | inl less ↦ absurd (key_not_less key (subst (λ (k : List ℕ). KeyLess k key) place.1.1 (below place.0 less)))
              | inr most ↦ absurd (key_not_less key (subst (λ (k : List ℕ). KeyLess key k) place.1.1 (above place.0 most (omega (arith, place.1.0, are.same_length)))))
            ]
            | inr gone ↦ gone
          ];
          smaller = λ j row other less is own. let e = got rows j row no_row is in sym (row_compares marks key other row own) ∙ sym (ap (row_cmp marks key) e.1) ∙ parts.0 j no_row (omega arith) less;
          greater = λ j row other most is own. let e = got rows j row no_row is in key_less_of_greater other key (sym (row_compares marks key other row own) ∙ sym (ap (row_cmp marks key) e.1) ∙ parts.1 j no_row most e.0);
        }

pub equal_is : (o : Ordering) → is_eq o ≡ true → o ≡ Equal
equal_is Less e = absurd cc
equal_is Equal e = refl
equal_is Greater e = absurd cc

-- ---- rows with one mark more
same_or_not : (p q : ℕ) → (p ≡ q) ⊎ (p ≡ q → ⊥)
same_or_not p q = elim (true_or_false (p == q)) [
  | inl same ↦ inl (nat_same {a = p} {b = q} same)
  | inr other ↦ inr (λ e. not_both (p == q) (nat_is {a = p} {b = q} e) other)
]

-- what stands at a place after one more was put in
inserted : {X : Type 0} (xs : List X) (at : ℕ) (x d : X) (j : ℕ) → at ≤ length xs
    → ((j < at) × (get_or (insert xs at x) j d ≡ get_or xs j d)) ⊎ (((j ≡ at) × (get_or (insert xs at x) j d ≡ x)) ⊎ ((at < j) × (get_or (insert xs at x) j d ≡ get_or xs (j - 1) d)))
inserted xs at x d j most = elim (cases_lt j at) [
  | inl less ↦ inl (less, get_or-insert_below xs at x d j less most)
  | inr from ↦ inr (elim (cases_lt at j) [
    | inl more ↦ inr (more, let next : j ≡ (j - 1) + 1 = omega (arith, more) in ap (λ (n : ℕ). get_or (insert xs at x) n d) next ∙ get_or-insert_above xs at x d (j - 1) (omega (arith, more)) most)
    | inr least ↦ let here : j ≡ at = omega (arith, from, least) in inl (here, ap (λ (n : ℕ). get_or (insert xs at x) n d) here ∙ get_or-insert_at xs at x d most)
  ])
]

module _ (mark : Mark) (marks : List Mark) where
  -- the marks with that one are read with it in front
  pub read_row : (key : List ℕ) (row : Row) → IsRowOf key (mark ∷ reverse marks) row → IsRowOf key (reverse (marks ++ mark ∷ [])) row
  read_row key row is = subst (λ (ms : List Mark). IsRowOf key ms row) (sym (read_more marks mark)) is

  pub row_kept : (key : List ℕ) (row : Row) → names key mark ≡ false → IsRowOf key (reverse marks) row → IsRowOf key (reverse (marks ++ mark ∷ [])) row
  row_kept key row e is = read_row key row (record { home = home_same key mark (reverse marks) e ∙ is.home; tells = tells_kept key mark (reverse marks) row e is.tells })

  -- what is named now was named before, or by this mark
  pub named_then : (key : List ℕ) (home : ℕ) → home_of key (reverse (marks ++ mark ∷ [])) ≡ Some home → (home_of key (reverse marks) ≡ Some home) ⊎ (names key mark ≡ true)
  named_then key home is = elim (home_cases key mark (reverse marks) home (subst (λ (ms : List Mark). home_of key ms ≡ Some home) (read_more marks mark) is)) [
    | inl before ↦ inl before
    | inr now ↦ inr now.1.0
  ]

  -- a mark that names no key leaves the rows as they are
  pub rows_kept : (rows : List Row) → ((key : List ℕ) → names key mark ≡ false) → HasRows rows marks → HasRows rows (marks ++ mark ∷ [])
  rows_kept rows silent has = let are = has.are in record {
    keys = has.keys;
    are = record {
      same_length = are.same_length;
      rise = are.rise;
      each = λ at row is. row_kept (get_or has.keys at []) row (silent (get_or has.keys at [])) (are.each at row is);
      complete = λ key home is. elim (named_then key home is) [
        | inl before ↦ are.complete key home before
        | inr now ↦ absurd (not_both (names key mark) now (silent key))
      ];
    };
  }

  module _ (key : List ℕ) (names_key : named_by mark ≡ Some key) where
    other_silent : (other : List ℕ) → (other ≡ key → ⊥) → names other mark ≡ false
    other_silent other apart = false_of_not (names other mark) (λ e. apart (some_is other key (sym (names_one other mark e) ∙ names_key)))

    -- the row at the key's place changes
    pub rows_set : (rows : List Row) (at : ℕ) (row : Row) → HasRows rows marks → IsPlaceFor key rows marks at → IsRowOf key (mark ∷ reverse marks) row → HasRows (set rows at row) (marks ++ mark ∷ [])
    rows_set rows at row has place own =
        let are = has.are in
        let keys = has.keys in
        let within : at < length keys = omega (arith, place.within, are.same_length) in
        let old = place.own (get_or rows at no_row) (gets rows at (get_or rows at no_row) no_row place.within refl) in
        let same : get_or keys at [] ≡ key = one_home (get_or keys at []) key (reverse marks) (get_or rows at no_row).home (row_at keys rows marks are at place.within).home old.home in
        let as_long = length-set rows at row in
        record {
          keys = keys;
          are = record {
            same_length = are.same_length ∙ sym as_long;
            rise = are.rise;
            each = λ j other is.
                let here = got (set rows at row) j other no_row is in
                let low : j < length rows = omega (arith, here.0, as_long) in
                elim (same_or_not j at) [
                  | inl e ↦ let new : row ≡ other = sym (get_or-set_same rows at row no_row place.within) ∙ ap (λ (n : ℕ). get_or (set rows at row) n no_row) (sym e) ∙ here.1 in
                      subst (λ (r : Row). IsRowOf (get_or keys j []) (reverse (marks ++ mark ∷ [])) r) new
                      (subst (λ (k : List ℕ). IsRowOf k (reverse (marks ++ mark ∷ [])) row) (sym same ∙ ap (λ (n : ℕ). get_or keys n []) (sym e)) (read_row key row own))
                  | inr ne ↦ let old_row : get_or rows j no_row ≡ other = sym (get_or-set_other rows at j row no_row ne) ∙ here.1 in
                      row_kept (get_or keys j []) other
                      (other_silent (get_or keys j []) (λ e. ne (one_place keys rows marks are j at (omega (arith, low, are.same_length)) within (e ∙ sym same))))
                      (are.each j other (gets rows j other no_row low old_row))
                ];
            complete = λ k home is. elim (named_then k home is) [
              | inl before ↦ are.complete k home before
              | inr now ↦ (at, (within, same ∙ some_is key k (sym names_key ∙ names_one k mark now)))
            ];
          };
        }

    -- a new row goes into the gap
    pub rows_insert : (rows : List Row) (at : ℕ) (row : Row) → HasRows rows marks → IsGapFor key rows marks at → IsRowOf key (mark ∷ reverse marks) row → HasRows (insert rows at row) (marks ++ mark ∷ [])
    rows_insert rows at row has gap own =
        let are = has.are in
        let keys = has.keys in
        let most : at ≤ length keys = omega (arith, gap.within, are.same_length) in
        let keys_long = length-insert keys at key most in
        let rows_long = length-insert rows at row gap.within in
        let own_at : (i : ℕ) → i < length rows → IsRowOf (get_or keys i []) (reverse marks) (get_or rows i no_row) = row_at keys rows marks are in
        let smaller : (i : ℕ) → i < at → KeyLess (get_or keys i []) key = λ i less.
        let low : i < length rows = omega (arith, less, gap.within) in
        gap.smaller i (get_or rows i no_row) (get_or keys i []) less (gets rows i (get_or rows i no_row) no_row low refl) (own_at i low) in
        let greater : (i : ℕ) → at ≤ i → i < length rows → KeyLess key (get_or keys i []) = λ i from low.
        gap.greater i (get_or rows i no_row) (get_or keys i []) from (gets rows i (get_or rows i no_row) no_row low refl) (own_at i low) in
        let new_keys = insert keys at key in
        let silent_below : (i : ℕ) → i < at → names (get_or keys i []) mark ≡ false = λ i less. other_silent (get_or keys i []) (λ e. key_not_less key (subst (λ (k : List ℕ). KeyLess k key) e (smaller i less))) in
        let silent_above : (i : ℕ) → at ≤ i → i < length rows → names (get_or keys i []) mark ≡ false = λ i from low. other_silent (get_or keys i []) (λ e. key_not_less key (subst (λ (k : List ℕ). KeyLess key k) e (greater i from low))) in
        record {
          keys = new_keys;
          are = record {
            same_length = keys_long ∙ ap (λ (n : ℕ). n + 1) are.same_length ∙ sym rows_long;
            rise = λ i j less within.
                let low : j < length keys + 1 = omega (arith, within, keys_long) in
                elim (inserted keys at key [] i most) [
                  | inl before ↦ elim (inserted keys at key [] j most) [
                    | inl next ↦ rw (before.1, next.1) (are.rise i j less (omega (arith, next.0, most)))
                    | inr later ↦ elim later [
                      | inl next ↦ rw (before.1, next.1) (smaller i before.0)
                      | inr next ↦ rw (before.1, next.1) (are.rise i (j - 1) (omega (arith, before.0, next.0)) (omega (arith, low, next.0)))
                    ]
                  ]
                  | inr from ↦ elim from [
                    | inl here ↦ elim (inserted keys at key [] j most) [
                      | inl next ↦ absurd (omega (arith, here.0, next.0, less))
                      | inr later ↦ elim later [
                        | inl next ↦ absurd (omega (arith, here.0, next.0, less))
                        | inr next ↦ rw (here.1, next.1) (greater (j - 1) (omega (arith, next.0)) (omega (arith, low, next.0, are.same_length)))
                      ]
                    ]
                    | inr after ↦ elim (inserted keys at key [] j most) [
                      | inl next ↦ absurd (omega (arith, after.0, next.0, less))
                      | inr later ↦ elim later [
                        | inl next ↦ absurd (omega (arith, after.0, next.0, less))
                        | inr next ↦ rw (after.1, next.1) (are.rise (i - 1) (j - 1) (omega (arith, less, after.0)) (omega (arith, low, next.0)))
                      ]
                    ]
                  ]
                ];
            each = λ j other is.
                let here = got (insert rows at row) j other no_row is in
                let Goal : List ℕ → Type 0 = λ k. IsRowOf k (reverse (marks ++ mark ∷ [])) other in
                elim (inserted rows at row no_row j gap.within) [
                  | inl before ↦ elim (inserted keys at key [] j most) [
                    | inl kept ↦
                        let low : j < length rows = omega (arith, before.0, gap.within) in
                        subst Goal (sym kept.1) (row_kept (get_or keys j []) other (silent_below j before.0) (are.each j other (gets rows j other no_row low (sym before.1 ∙ here.1))))
                    | inr later ↦ absurd (elim later [ inl kept ↦ omega (arith, before.0, kept.0) | inr kept ↦ omega (arith, before.0, kept.0) ])
                  ]
                  | inr from ↦ elim from [
                    | inl now ↦ elim (inserted keys at key [] j most) [
                      | inl kept ↦ absurd (omega (arith, now.0, kept.0))
                      | inr later ↦ elim later [
                        | inl kept ↦ subst Goal (sym kept.1) (subst (λ (r : Row). IsRowOf key (reverse (marks ++ mark ∷ [])) r) (sym now.1 ∙ here.1) (read_row key row own))
                        | inr kept ↦ absurd (omega (arith, now.0, kept.0))
                      ]
                    ]
                    | inr after ↦ elim (inserted keys at key [] j most) [
                      | inl kept ↦ absurd (omega (arith, after.0, kept.0))
                      | inr later ↦ elim later [
                        | inl kept ↦ absurd (omega (arith, after.0, kept.0))
                        | inr kept ↦
                            let low : j - 1 < length rows = omega (arith, here.0, rows_long, after.0) in
                            subst Goal (sym kept.1) (row_kept (get_or keys (j - 1) []) other (silent_above (j - 1) (omega (arith, after.0)) low) (are.each (j - 1) other (gets rows (j - 1) other no_row low (sym after.1 ∙ here.1))))
                      ]
                    ]
                  ]
                ];
            complete = λ k home is. elim (named_then k home is) [
              | inl before ↦ let place = are.complete k home before in elim (cases_lt place.0 at) [
                | inl less ↦ (place.0, (omega (arith, place.1.0, keys_long), get_or-insert_below keys at key [] place.0 less most ∙ place.1.1))
                | inr from ↦ (place.0 + 1, (omega (arith, place.1.0, keys_long), get_or-insert_above keys at key [] place.0 from most ∙ place.1.1))
              ]
              | inr now ↦ (at, (omega (arith, most, keys_long), get_or-insert_at keys at key [] most ∙ some_is key k (sym names_key ∙ names_one k mark now)))
            ];
          };
        }
