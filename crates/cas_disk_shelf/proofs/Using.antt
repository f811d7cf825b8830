-- What a shelf's calls keep of its memory and its cells.
use Rattle.std.specs.Prelude.{is_some}
use Rattle.std.specs.FinMap as map
use Rattle.std.specs.Ordering.{nat_cmp}
use Rattle.std.specs.Cmp.Lexicographic.{slice_cmp, nat_list_cmp_total}
use Rattle.std.proofs.Common.{◌≡◌, inl, inr, ⊎_elim, ℕ, zero, suc, ◌+◌, ◌-◌, ◌<◌, ◌≤◌, Bool, true, cond, List, [], ◌∷◌, length, Option, Some, None, refl, sym, ap, subst, ◌∙◌, arith}
use Rattle.std.proofs.Math.ListN.{set, length-set}
use Rattle.std.proofs.lemmas.List.{length-append}
use Rattle.std.proofs.lemmas.Option.{slice_get_within}
use Rattle.std.specs.BTreeSet.{btree_set_len}
use Rattle.indexmap.specs.IndexMap.{index_map_len}
use Rattle.cas_change.specs.Key.{IsKey}
use Rattle.cas_slot.specs.declared.slot.Slot.{Slot}
use Rattle.cas_slot.specs.declared.ages.Ages.{Ages}
use Rattle.cas_slot.specs.Contents.{Contents, kept_at, with_kept, without_kept}
use Rattle.cas_slot.specs.Shelf.{IsOldOrNew}
use Rattle.cas_slot.specs.Slots.{Slots, slot_at, with_slot, without_slot, slot_count}
use Rattle.cas_disk.specs.Disk.{ContinuesOnly as DiskContinuesOnly}
use Rattle.cas_base.proofs.Bools.{some_is}
use Rattle.cas_cells.proofs.Counting.{row_length}
use Rattle.cas_cells.proofs.Places.{wide_size}
use Rattle.cas_cells.specs.Format.{narrow_in, wide_in, narrow_told, wide_told, head_in, is_head, count_in, grown, IsPayload, FitsCell, TellsSame, IsBeforeOrAfter}
use Rattle.cas_cells.specs.Held.{IsRow}
use Rattle.cas_cells.specs.Cells as cells
use Rattle.cas_disk_shelf.specs.KeyLaws.{as_many_slots, at_most_more, by_key, put_other, same_slots, take_other, take_same}
use Rattle.cas_disk_shelf.specs.declared.codec.Head.{Head}
use Rattle.cas_disk_shelf.specs.declared.memory.Memory.{Memory}
use Rattle.cas_disk_shelf.specs.declared.shelf.DiskShelf.{DiskShelf}
use Rattle.cas_disk_shelf.specs.Head.{head_spelling, FitsHead}
use Rattle.cas_disk_shelf.specs.HeadLaws.{length-head, narrow-told, wide-told, tells-head}
use Rattle.cas_disk_shelf.specs.Cell.{cell_spelling, FitsSlot}
use Rattle.cas_disk_shelf.specs.Image.{entry_held, moved, removed}
use Rattle.cas_disk_shelf.specs.Memory.{cell_of, is_free, head_for, InStep, AreOf, IsMemoryOf, CellsAreCounted, freed, taken}
use Rattle.cas_disk_shelf.specs.Shelf.{disk_of, contents_of, ShelfContinuesOnly, ShelfIsUp}
use Rattle.cas_disk_shelf.specs.ShelfLaws.{spelled}
use Rattle.cas_disk_shelf.proofs.Entries.{read_again, length-slot}
use Rattle.cas_disk_shelf.proofs.Changing.{put_are, drop_are, raise_are}
use Rattle.cas_disk_shelf.proofs.Leaving.{reads_only}
use Rattle.cas_disk_shelf.proofs.Stepping.{not_free, one_key as key_of_cell}

-- ---- rows

pub row_behind : (cells : List (Option (List ℕ))) (i : ℕ) (cell : Option (List ℕ)) → 0 < i → IsRow cells → IsRow (set cells i cell)
row_behind [] i cell pos row = absurd row
row_behind (None ∷ cells) i cell pos row = absurd row
row_behind (Some head ∷ cells) zero cell pos row = absurd (omega arith)
row_behind (Some head ∷ cells) (suc i) cell pos row = length-set cells i cell ∙ row

pub row_first : (cells : List (Option (List ℕ))) (head : List ℕ) → TellsSame head cells → IsRow cells → IsRow (set cells 0 (Some head))
row_first [] head same row = absurd row
row_first (None ∷ cells) head same row = absurd row
row_first (Some old ∷ cells) head same row = row ∙ (λ t. sym same.narrow t + sym same.wide t)

pub row_grown : (cells : List (Option (List ℕ))) → count_in (grown cells) ≡ count_in cells + 1 → IsRow cells → IsRow (grown cells)
row_grown [] more row = absurd row
row_grown (None ∷ cells) more row = absurd row
row_grown (Some head ∷ cells) more row = omega (arith, row, more, length-append cells (None ∷ []))

-- ---- cells

pub own_within : (cells : List (Option (List ℕ))) (contents : Contents) (f : List ℕ → Option ℕ) (g : ℕ → Bool) → InStep (narrow_in cells) contents f g cells → IsRow cells → (key : List ℕ) (i : ℕ) → f key ≡ Some i → (0 < i) × (i ≤ count_in cells) × (narrow_in cells < i)
own_within cells contents f g is row key i own =
    let cell = (is.held key i own).1 in
    let within : i < length cells = slice_get_within cells i cell.cell cell.there in
    let wide = cell.behind in
    (omega (arith, wide), omega (arith, within, row_length cells row), wide)

pub free_within : (cells : List (Option (List ℕ))) (contents : Contents) (f : List ℕ → Option ℕ) (g : ℕ → Bool) → InStep (narrow_in cells) contents f g cells → IsRow cells → (i : ℕ) → g i ≡ true → (0 < i) × (i ≤ count_in cells) × (narrow_in cells < i)
free_within cells contents f g is row i free =
    let cell = is.free i free in
    let within : i < length cells = slice_get_within cells i cell.cell cell.there in
    let wide = cell.behind in
    (omega (arith, wide), omega (arith, within, row_length cells row), wide)

-- ---- payloads

pub slot_payload : (key : List ℕ) (slot : Slot) (payload : List ℕ) → IsKey key → FitsSlot slot → payload ≡ cell_spelling (Some (key, slot)) → IsPayload 4608 payload
slot_payload key slot payload is fits spells =
    let long : length payload ≡ length (cell_spelling (Some (key, slot))) = ap (λ (l : List ℕ). length l) spells in
    record { not_empty = omega (arith, long); fits = omega (arith, long, length-slot key slot is fits) }

pub head_payload : (head : Head) (payload : List ℕ) → FitsHead head → payload ≡ head_spelling head → IsPayload 512 payload
head_payload head payload fits spells =
    let long : length payload ≡ 153 = ap (λ (l : List ℕ). length l) spells ∙ length-head head fits in
    record { not_empty = omega (arith, long); fits = omega (arith, long) }

pub head_here : (cells : List (Option (List ℕ))) (contents : Contents) (f : List ℕ → Option ℕ) (g : ℕ → Bool) → AreOf cells contents f g → is_head (head_in cells) ≡ true
head_here cells contents f g are = ap is_head are.head ∙ tells-head _ are.fits

pub fits_behind : (cells : List (Option (List ℕ))) (i : ℕ) (payload : List ℕ) → narrow_in cells < i → IsPayload 4608 payload → FitsCell cells i payload
fits_behind cells i payload wide fits = subst (λ (size : ℕ). IsPayload size payload) (sym (wide_size (narrow_in cells) i wide)) fits

-- another head for as many cells
pub tells_same : (cells : List (Option (List ℕ))) (ages : Ages) (payload : List ℕ) → FitsHead (head_for cells ages) → payload ≡ head_spelling (head_for cells ages) → TellsSame payload cells
tells_same cells ages payload fits spells = record {
  narrow = ap narrow_told spells ∙ narrow-told _ fits;
  wide = ap wide_told spells ∙ wide-told _ fits;
}

-- ---- changes

module _ (cells : List (Option (List ℕ))) (contents : Contents) (f : List ℕ → Option ℕ) (g : ℕ → Bool) (are : AreOf cells contents f g) (row : IsRow cells) where
  pub rewritten : (key : List ℕ) (slot : Slot) (payload : List ℕ) (i : ℕ) → IsKey key → FitsSlot slot → payload ≡ cell_spelling (Some (key, slot)) → f key ≡ Some i → AreOf (set cells i (Some payload)) (with_kept contents key slot) (moved f key i) (taken g i)
  rewritten key slot payload i is fits spells own =
      let within = own_within cells contents f g are.in_step row key i own in
      put_are cells contents f g are key slot i (Some payload) (ap (λ (l : List ℕ). entry_held (Some l)) spells ∙ read_again (Some (key, slot)) (is, fits)) within.2 (omega (arith, within.1, row_length cells row))
      (λ q e. one_key q e) (λ n e. some_is n i (sym e ∙ own)) (let same = as_many_slots contents.slots key slot _ (are.in_step.held key i own).2 in let few = are.few in omega (arith, same, few))
    where
      one_key : (q : List ℕ) → f q ≡ Some i → key ≡ q
      one_key q e = key_of_cell (narrow_in cells) contents f g cells are.in_step key q i own e

  pub added : (key : List ℕ) (slot : Slot) (payload : List ℕ) (i : ℕ) → IsKey key → FitsSlot slot → payload ≡ cell_spelling (Some (key, slot)) → f key ≡ None → g i ≡ true → slot_count contents.slots < 4096 → AreOf (set cells i (Some payload)) (with_kept contents key slot) (moved f key i) (taken g i)
  added key slot payload i is fits spells new free room =
      let within = free_within cells contents f g are.in_step row i free in
      put_are cells contents f g are key slot i (Some payload) (ap (λ (l : List ℕ). entry_held (Some l)) spells ∙ read_again (Some (key, slot)) (is, fits)) within.2 (omega (arith, within.1, row_length cells row))
      (λ q e. absurd (not_free (narrow_in cells) contents f g cells are.in_step q i e free)) (λ n e. absurd (let none : None ≡ Some n = sym new ∙ e in cc)) (let more = at_most_more contents.slots key slot in omega (arith, more, room))

  pub dropped : (key : List ℕ) (payload : List ℕ) (i : ℕ) → payload ≡ cell_spelling None → f key ≡ Some i → AreOf (set cells i (Some payload)) (without_kept contents key) (removed f key) (freed g i)
  dropped key payload i spells own = drop_are cells contents f g are key i (Some payload) (ap (λ (l : List ℕ). entry_held (Some l)) spells ∙ read_again None tt) own

  pub raised : (ages : Ages) (payload : List ℕ) → FitsHead (head_for cells ages) → payload ≡ head_spelling (head_for cells ages) → AreOf (set cells 0 (Some payload)) (record contents { ages = ages }) f g
  raised ages payload fits spells = subst (λ (l : List ℕ). AreOf (set cells 0 (Some l)) (record contents { ages = ages }) f g) (sym spells) (raise_are cells contents f g are ages row fits)

-- ---- memory

-- the memory shows what these cells are
pub memory_of : (cells : List (Option (List ℕ))) (contents : Contents) (f : List ℕ → Option ℕ) (g : ℕ → Bool) (new : Memory) → AreOf cells contents f g → new.held ≡ contents → ((q : List ℕ) → cell_of new q ≡ f q) → ((i : ℕ) → is_free new i ≡ g i) → CellsAreCounted new (wide_in cells) → IsMemoryOf cells new
memory_of cells contents f g new are held keys free counted = record {
  shown = subst (λ (x : Contents × (List ℕ → Option ℕ) × (ℕ → Bool)). AreOf cells x.0 x.1 x.2) (λ t. (sym held t, (λ q. sym (keys q) t), (λ i. sym (free i) t))) are;
  counted = counted;
}

-- the memory is as it was, seen by look-ups
pub same_memory : (cells : List (Option (List ℕ))) (old new : Memory) → new.held ≡ old.held → ((q : List ℕ) → cell_of new q ≡ cell_of old q) → ((i : ℕ) → is_free new i ≡ is_free old i) → index_map_len new.index ≡ index_map_len old.index → btree_set_len new.free ≡ btree_set_len old.free → IsMemoryOf cells old → IsMemoryOf cells new
same_memory cells old new held keys free index_len free_len is =
    memory_of cells old.held (cell_of old) (is_free old) new is.shown held keys free (record {
      cells = omega (arith, index_len, free_len, is.counted.cells);
      keys = ap (λ (c : Contents). slot_count c.slots) held ∙ is.counted.keys ∙ sym index_len;
    })

-- a slot that was put at a new key and is removed again
pub put_back : (contents : Contents) (key : List ℕ) (slot : Slot) → kept_at contents key ≡ None → without_kept (with_kept contents key slot) key ≡ contents
put_back contents key slot none =
    ap (λ (slots : Slots). record { slots = slots; ages = contents.ages })
    (same_slots (without_slot (with_slot contents.slots key slot) key) contents.slots (λ q. by_key q key
    (λ same. take_same (with_slot contents.slots key slot) key q same ∙ sym none ∙ ap (slot_at contents.slots) (sym same))
    (λ other. take_other (with_slot contents.slots key slot) key q other ∙ put_other contents.slots key slot q other)))

-- a removal where there is no slot
pub none_dropped : (contents : Contents) (key : List ℕ) → kept_at contents key ≡ None → without_kept contents key ≡ contents
none_dropped contents key none =
    ap (λ (slots : Slots). record { slots = slots; ages = contents.ages })
    (same_slots (without_slot contents.slots key) contents.slots (λ q. by_key q key
    (λ same. take_same contents.slots key q same ∙ sym none ∙ ap (slot_at contents.slots) (sym same))
    (λ other. take_other contents.slots key q other)))

-- ---- moments

module _ {D : Type 0} (tells : Type 0) (seen : D → List ℕ) (may_leave : D → List ℕ → Type 0) (moment : D → ℕ) (left_since : D → ℕ → List ℕ → Type 0) where
  -- a change of the cells of a shelf that is up leaves the contents from before or those from after it
  pub old_or_new : (old : DiskShelf D) (new : D) (row' : List (Option (List ℕ))) (after : Contents) (f : List ℕ → Option ℕ) (g : ℕ → Bool) → ShelfIsUp tells seen may_leave old → IsRow row' → AreOf row' after f g
      → DiskContinuesOnly moment left_since (disk_of old) new (IsBeforeOrAfter (cells.cells_of old.cells) row') → ShelfContinuesOnly moment left_since (disk_of old) new (IsOldOrNew (contents_of old) after)
  old_or_new old new row' after f g up row are run =
      reads_only moment left_since (disk_of old) new (IsBeforeOrAfter (cells.cells_of old.cells) row') (IsOldOrNew (contents_of old) after)
      (λ c either. ⊎_elim
      (λ before. inl (spelled (cells.cells_of old.cells) (contents_of old) _ _ c up.row.row up.memory.shown before))
      (λ changed. inr (spelled row' after f g c row are changed))
      either)
      run

-- ---- counts

no_slot : (s : Slot) → None ≡ Some s → ⊥
no_slot s e = cc

some_slots : (slots : Slots) (key : List ℕ) (s : Slot) (n : ℕ) → slot_count slots ≡ n → slot_at slots key ≡ Some s → 0 < n
some_slots slots key s zero none there = absurd (no_slot s (sym (map.get-empty (slice_cmp nat_cmp) key) ∙ ap (λ (m : Slots). slot_at m key) (sym (map.empty_of_len slots none)) ∙ there))
some_slots slots key s (suc n) e there = omega arith

-- a removal of a slot that is there leaves one less
pub count_less : (slots : Slots) (key : List ℕ) (s : Slot) → slot_at slots key ≡ Some s → slot_count (without_slot slots key) + 1 ≡ slot_count slots
count_less slots key s there =
    let less : slot_count (without_slot slots key) ≡ slot_count slots - 1 = map.len-remove nat_list_cmp_total slots key ∙ ap (λ (o : Option Slot). cond (is_some o) (slot_count slots - 1) (slot_count slots)) there in
    omega (arith, less, some_slots slots key s (slot_count slots) refl there)
