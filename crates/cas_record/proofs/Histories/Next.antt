-- The next key that has an entry or a floor.
use Rattle.std.proofs.Common.{◌≡◌, ℕ, ◌+◌, ◌<◌, ◌≤◌, true, false, List, [], ◌∷◌, ◌++◌, length, get_or, reverse, Some, None, refl, sym, ap, subst, arith, ◌∙◌}
use Rattle.std.specs.Prelude.{Option, is_some, IsSome, IfSome, MatchOption, unwrap_or, slice_get}
use denote.Ref.{Bor}
use Rattle.std.specs.Option.{option_copied}
use Rattle.std.proofs.lemmas.Bool.{cases_lt}
use mathlib.Core.Logic.{inl, inr}
use Rattle.cas_base.proofs.Bools.{some_is}
use Rattle.cas_ballot.specs.declared.ballot.Ballot.{Ballot}
use Rattle.cas_ballot.specs.Ballot.{zero_ballot}
use Rattle.cas_record.specs.declared.mark.Mark.{Mark}
use Rattle.cas_record.specs.declared.row.Row.{Row}
use Rattle.cas_record.specs.Histories.Chain.{chain_of, top_of, settled_of, has_opening}
use Rattle.cas_record.specs.Kept.Index.{home_of, key_at, floor_at, standing_at, IsRowOf, IsAfter, HasEntryOrFloor, KeyLess}
use Rattle.cas_record.specs.Kept.Tables.{HasRows, IsPlaceFor, IsGapFor, IsFirstAfter, AreUnlisted, IsNextListed}
use Rattle.cas_record.proofs.Histories.Chains.{chain_zero}
use Rattle.cas_record.proofs.Kept.Homes.{there_or_not, one_home}
use Rattle.cas_record.proofs.Positions.{got, gets}
use Rattle.cas_record.proofs.Kept.Rows.{no_row, row_at, key_not_less, key_less_trans, home_at}
use Rattle.cas_record.proofs.Kept.Stands.{top_is, top_of_none, floor_of_none}
use Rattle.cas_record.proofs.Histories.Lemmas.{stands_none, stands_tells, stands_linked, linked}

-- ---- keys with an entry or a floor
not_nil : {A : Type 0} (xs : List A) (x : A) → xs ++ x ∷ [] ≡ [] → ⊥
not_nil [] x e = absurd cc
not_nil (y ∷ ys) x e = absurd cc

-- a history that stands has an entry
pub entry_stands : (key : List ℕ) (marks : List Mark) (b : Ballot) → standing_at key (top_of key marks) marks ≡ Some b → settled_of key marks ≡ [] → ⊥
entry_stands key marks b is none =
    let top = top_of key marks in
    let tells = stands_tells key top b marks is in
    let link = stands_linked key top b marks is in
    let l = linked key b marks link.0 link.1 (subst (λ (x : Ballot). has_opening key x marks ≡ false) tells.0 tells.1.1) in
    not_nil _ _ (sym l.chain ∙ ap (λ (x : Ballot). chain_of key x marks) (sym tells.0) ∙ none)

nothing_some : IsSome {T = Ballot} None → ⊥
nothing_some e = absurd cc

pub bare_of : (o : Option Ballot) → is_some o ≡ false → o ≡ None
bare_of None e = refl
bare_of (Some b) e = absurd cc

-- whether a key without a floor has an entry, by whether its history stands
pub listed_by : (key : List ℕ) (marks : List Mark) (stands : Option Ballot) → floor_at key marks ≡ None → stands ≡ standing_at key (top_of key marks) marks
    → (is_some stands ≡ true → HasEntryOrFloor key marks) × (HasEntryOrFloor key marks → is_some stands ≡ true)
listed_by key marks stands bare is = (
  λ some. elim (there_or_not stands) [
    | inl there ↦ inl (entry_stands key marks there.0 (sym is ∙ there.1))
    | inr gone ↦ absurd (cc (ap is_some gone, some))
  ],
  λ listed. elim (there_or_not stands) [
    | inl there ↦ ap is_some there.1
    | inr gone ↦ absurd (elim listed [
      | inl entry ↦ entry (stands_none key (top_of key marks) marks (sym is ∙ gone))
      | inr floor ↦ nothing_some (subst IsSome bare floor)
    ])
  ],
)

-- a key with an entry or a floor is named
pub listed_named : (key : List ℕ) (marks : List Mark) → HasEntryOrFloor key marks → (home : ℕ) × (home_of key marks ≡ Some home)
listed_named key marks listed = elim (there_or_not (home_of key marks)) [
  | inl there ↦ there
  | inr gone ↦ absurd (elim listed [
    | inl entry ↦
        let zero : top_of key marks ≡ zero_ballot = sym (top_is key marks) ∙ ap (λ o. unwrap_or o zero_ballot) (top_of_none key marks gone) in
        entry (ap (λ (b : Ballot). chain_of key b marks) zero ∙ chain_zero key marks)
    | inr floor ↦ let none = floor_of_none key marks gone in nothing_some (subst IsSome none floor)
  ])
]

-- ---- the first row after a key

-- one row more that is not of a listed key
pub unlisted_more : (rows : List Row) (marks : List Mark) (from at : ℕ) → AreUnlisted rows marks from at
    → ((row : Row) (key : List ℕ) → slice_get rows at ≡ Some row → IsRowOf key (reverse marks) row → HasEntryOrFloor key (reverse marks) → ⊥) → AreUnlisted rows marks from (at + 1)
unlisted_more rows marks from at so_far this j row key high low is own listed = elim (cases_lt j at) [
  | inl less ↦ so_far j row key high less is own listed
  | inr most ↦ let e : j ≡ at = omega (arith, most, low) in this row key (ap (slice_get rows) (sym e) ∙ is) own listed
]

-- what a reference that may be there points to
pub copied_some : {T : Type 0} (r : Option (Bor T)) (P : T → Type 0) → IfSome (option_copied r) P → IfSome r (λ x. P x.now)
copied_some None P h = h
copied_some (Some x) P h = h

pub copied_match : {T : Type 0} (r : Option (Bor T)) (N : Type 0) (P : T → Type 0) → MatchOption (option_copied r) N P → MatchOption r N (λ x. P x.now)
copied_match None N P h = h
copied_match (Some x) N P h = h

module _ (rows : List Row) (marks : List Mark) (has : HasRows rows marks) where
  keys : List (List ℕ)
  keys = has.keys

  -- the key of a row
  pub key_is : (j : ℕ) (row : Row) (key : List ℕ) → slice_get rows j ≡ Some row → IsRowOf key (reverse marks) row → get_or has.keys j [] ≡ key
  key_is j row key is own = one_home (get_or has.keys j []) key (reverse marks) row.home (has.are.each j row is).home own.home

  pub after_place : (key : List ℕ) (at : ℕ) → IsPlaceFor key rows marks at → IsFirstAfter (Some key) rows marks (at + 1)
  after_place key at place =
      let old = gets rows at (get_or rows at no_row) no_row place.within refl in
      let own : get_or has.keys at [] ≡ key = key_is at (get_or rows at no_row) key old (place.own (get_or rows at no_row) old) in
      record {
        before = λ j row other low is is_row after.
            let here = got rows j row no_row is in
            let same = key_is j row other is is_row in
            elim (cases_lt j at) [
              | inl less ↦
                  let below : KeyLess other key = subst (λ (k : List ℕ). KeyLess k key) same (subst (λ (k : List ℕ). KeyLess (get_or has.keys j []) k) own (has.are.rise j at less (omega (arith, place.within, has.are.same_length)))) in
                  key_not_less key (key_less_trans key other key after below)
              | inr most ↦
                  let e : j ≡ at = omega (arith, most, low) in
                  let equal : other ≡ key = sym same ∙ ap (λ (n : ℕ). get_or has.keys n []) e ∙ own in
                  key_not_less key (subst (KeyLess key) equal after)
            ];
        beyond = λ j row other from is is_row.
            let here = got rows j row no_row is in
            let same = key_is j row other is is_row in
            subst (λ (k : List ℕ). KeyLess k other) own (subst (λ (k : List ℕ). KeyLess (get_or has.keys at []) k) same (has.are.rise at j (omega (arith, from)) (omega (arith, here.0, has.are.same_length))));
      }

  pub after_gap : (key : List ℕ) (at : ℕ) → IsGapFor key rows marks at → IsFirstAfter (Some key) rows marks at
  after_gap key at gap = record {
    before = λ j row other low is is_row after. key_not_less key (key_less_trans key other key after (gap.smaller j row other low is is_row));
    beyond = λ j row other from is is_row. gap.greater j row other from is is_row;
  }

  -- a key with an entry or a floor has a row
  pub listed_row : (key : List ℕ) → HasEntryOrFloor key (reverse marks) → (j : ℕ) × ((j < length rows) × IsRowOf key (reverse marks) (get_or rows j no_row))
  listed_row key listed =
      let named = listed_named key (reverse marks) listed in
      let place = has.are.complete key named.0 named.1 in
      let low : place.0 < length rows = omega (arith, place.1.0, has.are.same_length) in
      (place.0, (low, subst (λ (k : List ℕ). IsRowOf k (reverse marks) (get_or rows place.0 no_row)) place.1.1 (row_at has.keys rows marks has.are place.0 low)))

  module _ (after : Option (List ℕ)) (from : ℕ) (first_ : IsFirstAfter after rows marks from) where
    -- a listed key after the one has its row from the place on
    listed_beyond : (key : List ℕ) → HasEntryOrFloor key (reverse marks) → IsAfter after key → (j : ℕ) × ((from ≤ j) × ((j < length rows) × IsRowOf key (reverse marks) (get_or rows j no_row)))
    listed_beyond key listed is_after =
        let row = listed_row key listed in
        elim (cases_lt row.0 from) [
          | inl less ↦ absurd (first_.before row.0 (get_or rows row.0 no_row) key less (gets rows row.0 (get_or rows row.0 no_row) no_row row.1.0 refl) row.1.1 is_after)
          | inr most ↦ (row.0, (most, row.1))
        ]

    -- none is left
    pub none_after : AreUnlisted rows marks from (length rows) → (key : List ℕ) → HasEntryOrFloor key (reverse marks) → IsAfter after key → ⊥
    none_after unlisted key listed is_after =
        let row = listed_beyond key listed is_after in
        unlisted row.0 (get_or rows row.0 no_row) key row.1.0 row.1.1.0 (gets rows row.0 (get_or rows row.0 no_row) no_row row.1.1.0 refl) row.1.1.1 listed

    module _ (at : ℕ) (next : IsNextListed rows marks from at) (key : List ℕ) (is : key_at marks (get_or rows at no_row).home ≡ Some key) where
      own : IsRowOf key (reverse marks) (get_or rows at no_row)
      own =
          let row = row_at has.keys rows marks has.are at next.within in
          subst (λ (k : List ℕ). IsRowOf k (reverse marks) (get_or rows at no_row)) (some_is (get_or has.keys at []) key (sym (home_at (get_or has.keys at []) marks (get_or rows at no_row).home row.home) ∙ is)) row

      read : slice_get rows at ≡ Some (get_or rows at no_row)
      read = gets rows at (get_or rows at no_row) no_row next.within refl

      -- the key found is one
      pub next_is : HasEntryOrFloor key (reverse marks) × IsAfter after key
      next_is = (next.listed (get_or rows at no_row) key read own, first_.beyond at (get_or rows at no_row) key next.low read own)

      -- and the least
      pub next_least : (other : List ℕ) → HasEntryOrFloor other (reverse marks) → IsAfter after other → KeyLess other key → ⊥
      next_least other listed is_after less =
          let row = listed_beyond other listed is_after in
          let there = gets rows row.0 (get_or rows row.0 no_row) no_row row.1.1.0 refl in
          elim (cases_lt row.0 at) [
            | inl before ↦ next.unlisted row.0 (get_or rows row.0 no_row) other row.1.0 before there row.1.1.1 listed
            | inr from_here ↦
                let same = key_is row.0 (get_or rows row.0 no_row) other there row.1.1.1 in
                let mine = key_is at (get_or rows at no_row) key read own in
                elim (cases_lt at row.0) [
                  | inl later ↦
                      let above : KeyLess key other = subst (λ (k : List ℕ). KeyLess k other) mine (subst (KeyLess (get_or has.keys at [])) same (has.are.rise at row.0 later (omega (arith, row.1.1.0, has.are.same_length)))) in
                      key_not_less key (key_less_trans key other key above less)
                  | inr most ↦
                      let e : row.0 ≡ at = omega (arith, from_here, most) in
                      let equal : other ≡ key = sym same ∙ ap (λ (n : ℕ). get_or has.keys n []) e ∙ mine in
                      key_not_less key (subst (λ (k : List ℕ). KeyLess k key) equal less)
                ]
          ]

    -- what a look-up of the place's key finds
    module _ (at : ℕ) (next : IsNextListed rows marks from at) (found : Option (List ℕ)) (is : found ≡ key_at marks (get_or rows at no_row).home) where
      key_found : found ≡ Some (get_or has.keys at [])
      key_found =
          let row = row_at has.keys rows marks has.are at next.within in
          is ∙ home_at (get_or has.keys at []) marks (get_or rows at no_row).home row.home

      pub found_next : IfSome found (λ key. HasEntryOrFloor key (reverse marks) × IsAfter after key)
      found_next = subst (λ o. IfSome o (λ key. HasEntryOrFloor key (reverse marks) × IsAfter after key)) (sym key_found) (next_is at next (get_or has.keys at []) (sym is ∙ key_found))

      pub found_least : (other : List ℕ) → HasEntryOrFloor other (reverse marks) → IsAfter after other → MatchOption found ⊥ (λ key. KeyLess other key → ⊥)
      found_least other listed is_after = subst (λ o. MatchOption o ⊥ (λ key. KeyLess other key → ⊥)) (sym key_found) (next_least at next (get_or has.keys at []) (sym is ∙ key_found) other listed is_after)
