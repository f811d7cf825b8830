-- Laws of what a shelf on a disk tells: a disk that stands for the cells of a shelf that is up spells its contents.
use Rattle.std.specs.Prelude.{is_some, unwrap_or, if◌then◌else◌, nat_lt, nat_le, slice_get}
use Rattle.std.specs.FinMap as map
use Rattle.std.specs.Ordering.{nat_cmp}
use Rattle.std.specs.Cmp.Lexicographic.{slice_cmp, same_text, nat_list_eq_equiv}
use Rattle.std.proofs.Common.{◌≡◌, inl, inr, ◌⊎◌, ℕ, zero, suc, ◌+◌, ◌<◌, ◌≤◌, Bool, true, false, List, [], ◌∷◌, length, Option, Some, None, Result, Ok, Err, refl, sym, ap, subst, ◌∙◌, arith}
use Rattle.std.proofs.lemmas.Bool.{cases_lt, and_from, and_parts, or_from, lt-ltb, ltb-true, le-leb, lt-leb}
use Rattle.std.proofs.lemmas.Option.{slice_get_within}
use Rattle.cas_base.proofs.Bools.{some_is}
use Rattle.cas_slot.specs.declared.ages.Ages.{Ages}
use Rattle.cas_slot.specs.declared.slot.Slot.{Slot}
use Rattle.cas_slot.specs.Contents.{Contents}
use Rattle.cas_slot.specs.Shelf.{OnlyLeaves}
use Rattle.cas_slot.specs.Slots.{Slots, no_slots, slot_at, with_slot, slot_count}
use Rattle.cas_cells.specs.Cells as cells
use Rattle.cas_cells.specs.Format.{IsImageOf, count_in, narrow_in, head_in, count_told}
use Rattle.cas_cells.specs.Held.{IsRow}
use Rattle.cas_cells.proofs.Counting.{row_length}
use Rattle.cas_cells.proofs.Survival.{crash_leaves}
use Rattle.cas_disk_shelf.specs.declared.shelf.DiskShelf.{DiskShelf}
use Rattle.cas_disk_shelf.specs.HeadLaws.{head_again}
use Rattle.cas_disk_shelf.specs.Cell.{KeyedSlot}
use Rattle.cas_disk_shelf.specs.Head.{head_of}
use Rattle.cas_disk_shelf.specs.Image.{CellPlace, ReadSlots, cell_in, entry_held, same_payload, is_twin, is_one_too_many, moved, removed, with_cell, cell_behind, read_cells, with_ages, left_behind, left_in, left_by, left_on, place_on}
use Rattle.cas_disk_shelf.specs.KeyLaws.{same_slots, few_among, one_more_slot, freed_own, freed_other, removed_own, removed_other}
use Rattle.cas_disk_shelf.specs.Memory.{CellHolds, Show, AreKnown, InStep, CellIsKnown, AreOf, head_for, freed}
use Rattle.cas_disk_shelf.specs.Shelf.{disk_of, contents_of, ShelfIsUp, ShelfMayLeave}
use Rattle.cas_disk_shelf.specs.ShowLaws.{next_step, nothing_shows, nothing_known, new_shows, none_of, narrow_known, wide_known, twin_shows, only_there}

-- ---- twins

same_of : (x y : Option (List ℕ)) (e : KeyedSlot) → x ≡ y → entry_held y ≡ Ok (Some e) → same_payload x y ≡ true
same_of x None e same holds = absurd (let none : Ok None ≡ Ok (Some e) = holds in cc)
same_of x (Some p) e same holds = ap (λ (o : Option (List ℕ)). same_payload o (Some p)) same ∙ nat_list_eq_equiv.refl p

same_told : (x y : Option (List ℕ)) → same_payload x y ≡ true → x ≡ y
same_told (Some p) (Some q) e = ap Some (same_text p q (sym e))
same_told (Some p) None e = absurd (let no : false ≡ true = e in cc)
same_told None q e = absurd (let no : false ≡ true = e in cc)

pub twin_is : (row : List (Option (List ℕ))) (i v : ℕ) (e : KeyedSlot) → narrow_in row < i → cell_in row v ≡ cell_in row i → entry_held (cell_in row i) ≡ Ok (Some e) → is_twin row i (Some v) ≡ true
twin_is row i v e far equal holds = and_from (nat_lt (narrow_in row) i) (same_payload (cell_in row v) (cell_in row i)) (lt-ltb (narrow_in row) i far) (same_of (cell_in row v) (cell_in row i) e equal holds)

pub twin_told : (row : List (Option (List ℕ))) (i v : ℕ) → is_twin row i (Some v) ≡ true → (narrow_in row < i) × (cell_in row v ≡ cell_in row i)
twin_told row i v e =
    let parts = and_parts (nat_lt (narrow_in row) i) (same_payload (cell_in row v) (cell_in row i)) e in
    (ltb-true (narrow_in row) i parts.0, same_told (cell_in row v) (cell_in row i) parts.1)

-- ---- reading cell after cell

module _ (row : List (Option (List ℕ))) (place : ℕ → CellPlace) (n : ℕ) where
  pub read_err : (at : ℕ) → read_cells row place n ≡ Err at → read_cells row place (suc n) ≡ Err at
  read_err at is = ap (cell_behind row (suc n) (place (suc n))) is

  module _ (read : ReadSlots) (is : read_cells row place n ≡ Ok read) where
    read_by : (r : Result (Option KeyedSlot) ℕ) → entry_held (cell_in row (suc n)) ≡ r → read_cells row place (suc n) ≡ with_cell row (suc n) (place (suc n)) read r
    read_by r holds = ap (cell_behind row (suc n) (place (suc n))) is ∙ ap (with_cell row (suc n) (place (suc n)) read) holds

    pub read_nothing : entry_held (cell_in row (suc n)) ≡ Ok None → read_cells row place (suc n) ≡ Ok read
    read_nothing holds = read_by (Ok None) holds

    pub read_wrong : (at : ℕ) → entry_held (cell_in row (suc n)) ≡ Err at → read_cells row place (suc n) ≡ Err ((place (suc n)).1 + at)
    read_wrong at holds = read_by (Err at) holds

    module _ (key : List ℕ) (slot : Slot) (holds : entry_held (cell_in row (suc n)) ≡ Ok (Some (key, slot))) where
      abbrev behind_test : Bool → Bool → Bool → Result ReadSlots ℕ
      behind_test twin many near = if twin then Ok (read.0, removed read.1 key)
          else (if many then Err (place (suc n)).0
          else Ok (with_slot read.0 key slot, (if near then moved read.1 key (suc n) else read.1)))

      by_tests : (twin many near : Bool) → is_twin row (suc n) (read.1 key) ≡ twin → is_one_too_many read.0 key ≡ many → nat_le (suc n) (narrow_in row) ≡ near → read_cells row place (suc n) ≡ behind_test twin many near
      by_tests twin many near t m b = read_by (Ok (Some (key, slot))) holds ∙ (λ i. behind_test (t i) (m i) (b i))

      pub read_twin : is_twin row (suc n) (read.1 key) ≡ true → read_cells row place (suc n) ≡ Ok (read.0, removed read.1 key)
      read_twin t = by_tests true (is_one_too_many read.0 key) (nat_le (suc n) (narrow_in row)) t refl refl

      pub read_too_many : is_twin row (suc n) (read.1 key) ≡ false → is_one_too_many read.0 key ≡ true → read_cells row place (suc n) ≡ Err (place (suc n)).0
      read_too_many t m = by_tests false true (nat_le (suc n) (narrow_in row)) t m refl

      pub read_narrow : is_twin row (suc n) (read.1 key) ≡ false → is_one_too_many read.0 key ≡ false → suc n ≤ narrow_in row → read_cells row place (suc n) ≡ Ok (with_slot read.0 key slot, moved read.1 key (suc n))
      read_narrow t m near = by_tests false false true t m (le-leb (suc n) (narrow_in row) near)

      pub read_wide : is_twin row (suc n) (read.1 key) ≡ false → is_one_too_many read.0 key ≡ false → narrow_in row < suc n → read_cells row place (suc n) ≡ Ok (with_slot read.0 key slot, read.1)
      read_wide t m far = by_tests false false false t m (lt-leb (suc n) (narrow_in row) far)

-- what is wrong in some cells stays wrong in more
pub stays_wrong : (row : List (Option (List ℕ))) (place : ℕ → CellPlace) (n m at : ℕ) → read_cells row place n ≡ Err at → n ≤ m → read_cells row place m ≡ Err at
stays_wrong row place n zero at is low = ap (read_cells row place) (let none : zero ≡ n = omega (arith, low) in none) ∙ is
stays_wrong row place n (suc m) at is low = elim (cases_lt n (suc m)) [
  | inl less ↦ read_err row place m at (stays_wrong row place n m at is (omega (arith, less)))
  | inr last ↦ ap (read_cells row place) (let same : suc m ≡ n = omega (arith, low, last) in same) ∙ is
]

-- what is read of the first n cells, which show these slots
pub record IsReadUpTo (row : List (Option (List ℕ))) (place : ℕ → CellPlace) (n : ℕ) : Type 0 where
  pub read : ReadSlots
  pub is : read_cells row place n ≡ Ok read
  pub cells : List ℕ → Option ℕ
  pub free : ℕ → Bool
  pub show : Show (narrow_in row) (cell_in row) n read.0
  pub known : AreKnown (narrow_in row) (cell_in row) n cells read.1 free

none_held : (payload : ℕ → Option (List ℕ)) (i : ℕ) (key : List ℕ) (slot : Slot) → CellHolds payload 0 i key slot → ⊥
none_held payload i key slot h = let pos = h.behind in let low = h.within in omega (arith, pos, low)

no_slot : (key : List ℕ) (slot : Slot) → slot_at no_slots key ≡ Some slot → ⊥
no_slot key slot e = let none : None ≡ Some slot = sym (map.get-empty (slice_cmp nat_cmp) key) ∙ e in cc

no_number : (i : ℕ) → None ≡ Some i → ⊥
no_number i e = cc

yes_no : false ≡ true → ⊥
yes_no e = cc

-- no cells show no slots
pub none_show : (narrow : ℕ) (payload : ℕ → Option (List ℕ)) → Show narrow payload 0 no_slots
none_show narrow payload = record {
  each = λ i pos low. absurd (omega (arith, pos, low));
  kept = λ i key slot h. absurd (none_held payload i key slot h);
  there = λ key slot e. absurd (no_slot key slot e);
  once = λ i j key s t h k less. absurd (none_held payload i key s h);
}

-- and nothing is known of them
pub none_known : (narrow : ℕ) (payload : ℕ → Option (List ℕ)) (cell_of alone_in : List ℕ → Option ℕ) (is_free : ℕ → Bool) → ((key : List ℕ) → cell_of key ≡ None) → ((key : List ℕ) → alone_in key ≡ None) → ((i : ℕ) → is_free i ≡ false) → AreKnown narrow payload 0 cell_of alone_in is_free
none_known narrow payload cell_of alone_in is_free keys alone free = record {
  wide = λ i key slot h far. absurd (none_held payload i key slot h);
  lone = λ i key slot h near none. absurd (none_held payload i key slot h);
  own = λ key i e. absurd (no_number i (sym (keys key) ∙ e));
  alone = λ key i e. absurd (no_number i (sym (alone key) ∙ e));
  free = λ i f. absurd (yes_no (sym (free i) ∙ f));
  spare = λ i far low none. absurd (omega (arith, far, low));
}

module _ (row : List (Option (List ℕ))) (place : ℕ → CellPlace) (total : ℕ) (slots : Slots) (all : Show (narrow_in row) (cell_in row) total slots) (few : slot_count slots ≤ 4096) where
  abbrev narrow : ℕ
  narrow = narrow_in row

  abbrev payload : ℕ → Option (List ℕ)
  payload = cell_in row

  within : (n i : ℕ) (key : List ℕ) (slot : Slot) → n ≤ total → CellHolds payload n i key slot → CellHolds payload total i key slot
  within n i key slot low h = record { behind = h.behind; within = (let near = h.within in omega (arith, near, low)); holds = h.holds }

  -- slots in some of the cells are among those in all
  among : (n : ℕ) (some : Slots) → n ≤ total → Show narrow payload n some → (key : List ℕ) (slot : Slot) → slot_at some key ≡ Some slot → slot_at slots key ≡ Some slot
  among n some low show key slot e = let h = show.there key slot e in all.kept h.0 key slot (within n h.0 key slot low h.1)

  module _ (n : ℕ) (low : suc n ≤ total) (before : IsReadUpTo row place n) where
    abbrev read : ReadSlots
    read = before.read

    behind_nothing : entry_held (payload (suc n)) ≡ Ok None → IsReadUpTo row place (suc n)
    behind_nothing holds = by_kind (cases_lt narrow (suc n))
      where
        by_kind : (narrow < suc n) ⊎ (suc n ≤ narrow) → IsReadUpTo row place (suc n)
        by_kind (inl far) = record {
          read = read;
          is = read_nothing row place n read before.is holds;
          cells = before.cells;
          free = freed before.free (suc n);
          show = nothing_shows narrow payload payload n (suc n) (suc n) (next_step payload n (suc n) (omega arith)) read.0 before.show holds;
          known = nothing_known narrow payload payload n (suc n) (suc n) (next_step payload n (suc n) (omega arith)) read.0 before.show holds before.cells read.1 before.free (freed before.free (suc n)) before.known
              (λ i other. freed_other before.free (suc n) i (λ same. other (sym same))) (λ f. far) (λ wide. freed_own before.free (suc n) (suc n) refl);
        }
        by_kind (inr near) = record {
          read = read;
          is = read_nothing row place n read before.is holds;
          cells = before.cells;
          free = before.free;
          show = nothing_shows narrow payload payload n (suc n) (suc n) (next_step payload n (suc n) (omega arith)) read.0 before.show holds;
          known = nothing_known narrow payload payload n (suc n) (suc n) (next_step payload n (suc n) (omega arith)) read.0 before.show holds before.cells read.1 before.free before.free before.known
              (λ i other. refl) (λ f. (before.known.free (suc n) f).0) (λ wide. absurd (omega (arith, wide, near)));
        }

    module _ (key : List ℕ) (slot : Slot) (holds : entry_held (payload (suc n)) ≡ Ok (Some (key, slot))) where
      this : CellHolds payload total (suc n) key slot
      this = record { behind = omega arith; within = low; holds = holds }

      not_free : before.free (suc n) ≡ false
      not_free = by_free (before.free (suc n)) refl
        where
          by_free : (b : Bool) → before.free (suc n) ≡ b → before.free (suc n) ≡ false
          by_free true f = let h = before.known.free (suc n) f in let past = h.1 in absurd (omega (arith, past))
          by_free false f = f

      behind_twin : (v : ℕ) → read.1 key ≡ Some v → IsReadUpTo row place (suc n)
      behind_twin v alone =
          let h = before.known.alone key v alone in
          let first : CellHolds payload total v key h.2.0 = within n v key h.2.0 (omega (arith, low)) h.2.1 in
          let past = h.2.1.within in
          let two = all.once v (suc n) key h.2.0 slot first this (omega (arith, past)) in
          let far : narrow < suc n = two.1 in
          let same : slot ≡ h.2.0 = some_is slot h.2.0 (sym (all.kept (suc n) key slot this) ∙ all.kept v key h.2.0 first) in
          record {
            read = (read.0, removed read.1 key);
            is = read_twin row place n read before.is key slot holds (ap (is_twin row (suc n)) alone ∙ twin_is row (suc n) v (key, slot) far two.2 holds);
            cells = moved before.cells key (suc n);
            free = before.free;
            show = twin_shows narrow payload payload n (suc n) (suc n) (next_step payload n (suc n) (omega arith)) read.0 before.show key slot holds v h.0 far (subst (λ (s : Slot). CellHolds payload n v key s) (sym same) h.2.1)
                (only_there narrow payload n before.cells read.1 before.free before.known key v alone) two.2;
            known = wide_known narrow payload payload n (suc n) (suc n) (next_step payload n (suc n) (omega arith)) read.0 before.show key slot holds before.cells read.1 (removed read.1 key) before.free before.free far before.known
                h.1 (λ q apart. removed_other read.1 key q apart) (removed_own read.1 key key refl) not_free (λ i other. refl);
          }

      -- a key that is not alone in a narrow cell is new
      is_new : read.1 key ≡ None → slot_at read.0 key ≡ None
      is_new none = by_slot (slot_at read.0 key) refl
        where
          by_slot : (o : Option Slot) → slot_at read.0 key ≡ o → slot_at read.0 key ≡ None
          by_slot None e = e
          by_slot (Some s) e =
              let h = before.show.there key s e in
              let past = h.1.within in
              let two = all.once h.0 (suc n) key s slot (within n h.0 key s (omega (arith, low)) h.1) this (omega (arith, past)) in
              by_cell h.0 s h.1 two.0 (before.cells key) refl
            where
              by_cell : (i : ℕ) (t : Slot) → CellHolds payload n i key t → i ≤ narrow → (o : Option ℕ) → before.cells key ≡ o → slot_at read.0 key ≡ None
              by_cell i t h near None e' = absurd (no_number i (sym none ∙ before.known.lone i key t h near e'))
              by_cell i t h near (Some u) e' =
                  let o = before.known.own key u e' in
                  let past = o.1.1.within in
                  let two = all.once u (suc n) key o.1.0 slot (within n u key o.1.0 (omega (arith, low)) o.1.1) this (omega (arith, past)) in
                  let far = o.0 in
                  let near' = two.0 in
                  absurd (omega (arith, far, near'))

      -- and there is room for it
      is_room : (some : Slots) → Show narrow payload (suc n) some → slot_at read.0 key ≡ None → slot_count some ≡ slot_count read.0 + 1 → is_one_too_many read.0 key ≡ false
      is_room some show none more =
          let most : slot_count some ≤ slot_count slots = few_among some slots (among (suc n) some low show) in
          or_from (is_some (slot_at read.0 key)) (nat_le 4096 (slot_count read.0)) (ap is_some none) (lt-leb 4096 (slot_count read.0) (omega (arith, most, more, few)))

      behind_new : read.1 key ≡ None → IsReadUpTo row place (suc n)
      behind_new alone =
          let none : slot_at read.0 key ≡ None = is_new alone in
          let show : Show narrow payload (suc n) (with_slot read.0 key slot) = new_shows narrow payload payload n (suc n) (suc n) (next_step payload n (suc n) (omega arith)) read.0 before.show key slot holds none in
          let twin : is_twin row (suc n) (read.1 key) ≡ false = ap (is_twin row (suc n)) alone in
          let room = is_room (with_slot read.0 key slot) show none (one_more_slot read.0 key slot none) in
          by_kind none show twin room (cases_lt narrow (suc n))
        where
          by_kind : slot_at read.0 key ≡ None → Show narrow payload (suc n) (with_slot read.0 key slot) → is_twin row (suc n) (read.1 key) ≡ false → is_one_too_many read.0 key ≡ false → (narrow < suc n) ⊎ (suc n ≤ narrow) → IsReadUpTo row place (suc n)
          by_kind none show twin room (inl far) = record {
            read = (with_slot read.0 key slot, read.1);
            is = read_wide row place n read before.is key slot holds twin room far;
            cells = moved before.cells key (suc n);
            free = before.free;
            show = show;
            known =
                let unknown = none_of narrow payload payload n (suc n) (suc n) (next_step payload n (suc n) (omega arith)) read.0 before.show key slot holds none before.cells read.1 before.free before.known in
                wide_known narrow payload payload n (suc n) (suc n) (next_step payload n (suc n) (omega arith)) read.0 before.show key slot holds before.cells read.1 read.1 before.free before.free far before.known
                unknown.0 (λ q apart. refl) unknown.1 not_free (λ i other. refl);
          }
          by_kind none show twin room (inr near) = record {
            read = (with_slot read.0 key slot, moved read.1 key (suc n));
            is = read_narrow row place n read before.is key slot holds twin room near;
            cells = before.cells;
            free = before.free;
            show = show;
            known = narrow_known narrow payload payload n (suc n) (suc n) (next_step payload n (suc n) (omega arith)) read.0 before.show key slot holds none before.cells read.1 before.free near before.known;
          }

      by_alone : (o : Option ℕ) → read.1 key ≡ o → IsReadUpTo row place (suc n)
      by_alone None e = behind_new e
      by_alone (Some v) e = behind_twin v e

    by_entry : (entry : Option KeyedSlot) → entry_held (payload (suc n)) ≡ Ok entry → IsReadUpTo row place (suc n)
    by_entry None holds = behind_nothing holds
    by_entry (Some entry) holds = by_alone entry.0 entry.1 holds (read.1 entry.0) refl

  up_to : (n : ℕ) → n ≤ total → IsReadUpTo row place n
  up_to zero low = record {
    read = (no_slots, λ key. None);
    is = refl;
    cells = λ key. None;
    free = λ i. false;
    show = none_show narrow payload;
    known = none_known narrow payload (λ key. None) (λ key. None) (λ i. false) (λ key. refl) (λ key. refl) (λ i. refl);
  }
  up_to (suc n) low =
      let entry = all.each (suc n) (omega arith) low in
      by_entry n low (up_to n (omega (arith, low))) entry.0 entry.1

  -- cells that show these slots are read as them
  pub all_read : (ages : Ages) → with_ages ages (read_cells row place total) ≡ Ok (record { slots = slots; ages = ages })
  all_read ages =
      let whole = up_to total (omega arith) in
      let same : whole.read.0 ≡ slots = same_slots whole.read.0 slots (λ q. by_slot whole.read.0 whole.show q (slot_at whole.read.0 q) refl) in
      ap (with_ages ages) whole.is ∙ ap (λ (s : Slots). Ok (record { slots = s; ages = ages })) same
    where
      by_slot : (some : Slots) → Show narrow payload total some → (q : List ℕ) (o : Option Slot) → slot_at some q ≡ o → slot_at some q ≡ slot_at slots q
      by_slot some show q (Some s) e = e ∙ sym (among total some (omega arith) show q s e)
      by_slot some show q None e = by_other (slot_at slots q) refl
        where
          by_other : (o : Option Slot) → slot_at slots q ≡ o → slot_at some q ≡ slot_at slots q
          by_other None e' = e ∙ sym e'
          by_other (Some s) e' = let h = all.there q s e' in absurd (let no : None ≡ Some s = sym e ∙ show.kept h.0 q s h.1 in cc)

-- ---- what a disk is

-- cells that show the slots, behind a head that tells them and the ages, are a shelf with these contents
pub in_cells : (row : List (Option (List ℕ))) (contents : Contents) (place : ℕ → CellPlace) → IsRow row → head_of (head_in row) ≡ Ok (head_for row contents.ages) → Show (narrow_in row) (cell_in row) (count_in row) contents.slots → slot_count contents.slots ≤ 4096 → left_in place row ≡ Ok contents
in_cells [] contents place row told show few = absurd row
in_cells (None ∷ cells) contents place row told show few = absurd row
in_cells (Some head ∷ cells) contents place row told show few =
    ap (left_behind place (Some head ∷ cells)) told
    ∙ all_read (Some head ∷ cells) place (count_told head) contents.slots show few contents.ages

-- a disk that stands for such cells is a shelf with them
pub read_spelled : (row : List (Option (List ℕ))) (contents : Contents) (disk : List ℕ) → IsRow row → head_of (head_in row) ≡ Ok (head_for row contents.ages) → Show (narrow_in row) (cell_in row) (count_in row) contents.slots → slot_count contents.slots ≤ 4096 → IsImageOf row disk → left_on disk ≡ Ok contents
unfolding left_on
read_spelled row contents disk is_row told show few stands =
    ap (λ (o : Option ℕ). left_by o disk) stands.sound
    ∙ ap (left_in (place_on disk)) stands.same
    ∙ in_cells row contents (place_on disk) is_row told show few

-- an element that is there
pub get_some : {X : Type 0} (xs : List X) (i : ℕ) → i < length xs → (x : X) × (slice_get xs i ≡ Some x)
get_some [] i low = absurd (omega arith)
get_some (x ∷ xs) zero low = (x, refl)
get_some (x ∷ xs) (suc i) low = get_some xs i (omega arith)

-- a cell that is there
pub cell_is : (row : List (Option (List ℕ))) (i : ℕ) (cell : Option (List ℕ)) → slice_get row i ≡ Some cell → cell_in row i ≡ cell
cell_is row i cell there = ap (λ (o : Option (Option (List ℕ))). unwrap_or o None) there

-- the cells of a shelf that is up show its slots
pub in_step_shows : (row : List (Option (List ℕ))) (contents : Contents) (cell_of : List ℕ → Option ℕ) (is_free : ℕ → Bool) → IsRow row → InStep (narrow_in row) contents cell_of is_free row → Show (narrow_in row) (cell_in row) (count_in row) contents.slots
in_step_shows row contents cell_of is_free is_row is = record {
  each = λ i pos low.
      let c = there i low in
      let k = is.each i c.0 pos c.1 in
      let e = known_entry i (entry_held c.0) k in
      (e.0, ap entry_held (cell_is row i c.0 c.1) ∙ e.1);
  kept = λ i key slot h.
      let own : cell_of key ≡ Some i = key_of i key slot h in
      let held = is.held key i own in
      held.2 ∙ ap Some (slot_is i key held.0 slot held.1.cell held.1.there held.1.holds h.holds);
  there = λ key slot e. by_cell key slot e (cell_of key) refl;
  once = λ i j key s t h k less.
      let same : i ≡ j = some_is i j (sym (key_of i key s h) ∙ key_of j key t k) in
      absurd (omega (arith, same, less));
}
  where
    there : (i : ℕ) → i ≤ count_in row → (cell : Option (List ℕ)) × (slice_get row i ≡ Some cell)
    there i low = get_some row i (omega (arith, low, row_length row is_row))

    known_entry : (i : ℕ) (r : Result (Option KeyedSlot) ℕ) → CellIsKnown (narrow_in row) cell_of is_free i r → (entry : Option KeyedSlot) × (r ≡ Ok entry)
    known_entry i (Ok entry) known = (entry, refl)
    known_entry i (Err at) known = absurd known

    key_by : (i : ℕ) (key : List ℕ) (slot : Slot) (r : Result (Option KeyedSlot) ℕ) → r ≡ Ok (Some (key, slot)) → CellIsKnown (narrow_in row) cell_of is_free i r → cell_of key ≡ Some i
    key_by i key slot r e known = subst (CellIsKnown (narrow_in row) cell_of is_free i) e known

    key_of : (i : ℕ) (key : List ℕ) (slot : Slot) → CellHolds (cell_in row) (count_in row) i key slot → cell_of key ≡ Some i
    key_of i key slot h =
        let c = there i h.within in
        key_by i key slot (entry_held c.0) (ap entry_held (sym (cell_is row i c.0 c.1)) ∙ h.holds) (is.each i c.0 h.behind c.1)

    slot_is : (i : ℕ) (key : List ℕ) (s t : Slot) (cell : Option (List ℕ)) → slice_get row i ≡ Some cell → entry_held cell ≡ Ok (Some (key, s)) → entry_held (cell_in row i) ≡ Ok (Some (key, t)) → s ≡ t
    slot_is i key s t cell is holds other =
        let same : ◌≡◌ {A = Result (Option KeyedSlot) ℕ} (Ok (Some (key, s))) (Ok (Some (key, t))) = sym holds ∙ ap entry_held (sym (cell_is row i cell is)) ∙ other in
        let entry : ◌≡◌ {A = KeyedSlot} (key, s) (key, t) = cc in
        ap (λ (e : KeyedSlot). e.1) entry

    by_cell : (key : List ℕ) (slot : Slot) → slot_at contents.slots key ≡ Some slot → (o : Option ℕ) → cell_of key ≡ o → (i : ℕ) × CellHolds (cell_in row) (count_in row) i key slot
    by_cell key slot e None own = absurd (let no : None ≡ Some slot = sym (is.none key own) ∙ e in cc)
    by_cell key slot e (Some i) own =
        let held = is.held key i own in
        let same : held.0 ≡ slot = some_is held.0 slot (sym held.2 ∙ e) in
        let far = held.1.behind in
        let low = slice_get_within row i held.1.cell held.1.there in (
          i,
          record {
            behind = omega (arith, far);
            within = omega (arith, low, row_length row is_row);
            holds = ap entry_held (cell_is row i held.1.cell held.1.there) ∙ held.1.holds ∙ ap (λ (s : Slot). Ok (Some (key, s))) same;
          },
        )

-- and so is one that stands for the cells of a shelf with these contents
pub spelled : (cells : List (Option (List ℕ))) (contents : Contents) (cell_of : List ℕ → Option ℕ) (is_free : ℕ → Bool) (disk : List ℕ) → IsRow cells → AreOf cells contents cell_of is_free → IsImageOf cells disk → left_on disk ≡ Ok contents
spelled cells contents cell_of is_free disk row are stands =
    read_spelled cells contents disk row (ap head_of are.head ∙ head_again _ are.fits) (in_step_shows cells contents cell_of is_free row are.in_step) are.few stands

module _ {D : Type 0} (tells : Type 0) (seen : D → List ℕ) (may_leave : D → List ℕ → Type 0) where
  -- each image of a shelf that is up spells its contents
  pub up_spells : (shelf : DiskShelf D) → ShelfIsUp tells seen may_leave shelf → tells → (c : List ℕ) → may_leave (disk_of shelf) c → left_on c ≡ Ok (contents_of shelf)
  up_spells shelf up t c left =
      spelled (cells.cells_of shelf.cells) (contents_of shelf) _ _ c up.row.row up.memory.shown (crash_leaves tells seen may_leave shelf.cells up.row t c left)

  -- so a crash of it leaves them and nothing else
  pub up_is_left : (shelf : DiskShelf D) → ShelfIsUp tells seen may_leave shelf → tells → OnlyLeaves (contents_of shelf) (ShelfMayLeave may_leave shelf)
  up_is_left shelf up t left may = may.2 ∙ up_spells shelf up t may.0 may.1
