-- The memory of a shelf after each of its changes, and what a crash within one leaves.
use Rattle.std.proofs.Common.{◌≡◌, ℕ, ◌+◌, ◌<◌, Bool, true, false, List, [], ◌∷◌, Option, Some, None, Ok, refl, sym, ap, subst, ◌∙◌, arith, inl, inr, ⊎_elim}
use Rattle.std.proofs.lemmas.Bool.{cases_eq}
use Rattle.std.specs.Prelude.{IfSome}
use Rattle.std.proofs.Math.ListN.{set}
use Rattle.std.specs.BTreeSet.{btree_set_len}
use Rattle.indexmap.specs.IndexMap.{index_map_len}
use Rattle.cas_ballot.specs.Ballot.{FitsBallot}
use Rattle.cas_change.specs.Key.{IsKey}
use Rattle.cas_slot.specs.declared.slot.Accepted.{Accepted}
use Rattle.cas_slot.specs.declared.slot.Slot.{Slot}
use Rattle.cas_slot.specs.declared.ages.Ages.{Ages}
use Rattle.cas_slot.specs.Contents.{Contents, with_kept, without_kept}
use Rattle.cas_slot.specs.Limits.{SlotBallotsFit, AllBallotsFit}
use Rattle.cas_slot.specs.Shelf.{IsOldOrNew}
use Rattle.cas_slot.specs.Slots.{slot_count}
use Rattle.cas_slot.proofs.LimitLemmas.{put_fits, removal_fits}
use Rattle.cas_wire.specs.Spelling.{FitsAccepted}
use Rattle.cas_disk.specs.Disk.{ContinuesOnly as DiskContinuesOnly}
use Rattle.cas_cells.specs.Format.{count_in, narrow_in, wide_in, grown, TellsSame, IsBeforeOrAfter}
use Rattle.cas_cells.specs.Held.{IsRow}
use Rattle.cas_cells.specs.Cells as cells
use Rattle.cas_disk_shelf.specs.Image.{moved, removed}
use Rattle.cas_disk_shelf.specs.KeyLaws.{by_key, freed_other, moved_other, moved_own, taken_other, taken_own}
use Rattle.cas_disk_shelf.specs.declared.memory.Memory.{Memory}
use Rattle.cas_disk_shelf.specs.declared.shelf.DiskShelf.{DiskShelf}
use Rattle.cas_disk_shelf.specs.Head.{head_spelling, FitsHead}
use Rattle.cas_disk_shelf.specs.Cell.{cell_spelling, FitsSlot}
use Rattle.cas_disk_shelf.specs.Memory.{cell_of, is_free, head_for, AreOf, IsMemoryOf, freed, taken}
use Rattle.cas_disk_shelf.specs.Shelf.{disk_of, contents_of, ShelfContinuesOnly, ShelfIsUp}
use Rattle.cas_disk_shelf.specs.ShelfLaws.{spelled, up_spells}
use Rattle.cas_disk_shelf.proofs.Leaving.{reads_only, at_rest}
use Rattle.cas_disk_shelf.proofs.Changing.{wide_behind, grown_told, grow_are}
use Rattle.cas_disk_shelf.proofs.Stepping.{not_free}
use Rattle.cas_disk_shelf.proofs.Using.{memory_of, same_memory, rewritten, added, dropped, raised, own_within, free_within, row_behind, row_first, row_grown, tells_same, old_or_new}

not_true : (b : Bool) → (b ≡ true → ⊥) → b ≡ false
not_true true f = absurd (f refl)
not_true false f = refl

module _ (cells : List (Option (List ℕ))) (old new : Memory) (is : IsMemoryOf cells old) (row : IsRow cells) where
  pub rewritten_memory : (key : List ℕ) (slot : Slot) (payload : List ℕ) (i : ℕ) → IsKey key → FitsSlot slot → payload ≡ cell_spelling (Some (key, slot)) → cell_of old key ≡ Some i → new.held ≡ with_kept old.held key slot → new.index ≡ old.index → new.free ≡ old.free → slot_count new.held.slots ≡ slot_count old.held.slots
      → IsMemoryOf (set cells i (Some payload)) new
  rewritten_memory key slot payload i named fits spells own held index free count =
      let within = own_within cells old.held (cell_of old) (is_free old) is.shown.in_step row key i own in
      let keys : (q : List ℕ) → cell_of new q ≡ moved (cell_of old) key i q = λ q. ap (λ m. cell_of (record old { index = m }) q) index ∙ by_key key q
      (λ same. ap (cell_of old) (sym same) ∙ own ∙ sym (moved_own (cell_of old) key i q same))
      (λ other. sym (moved_other (cell_of old) key i q other)) in
      let frees : (j : ℕ) → is_free new j ≡ taken (is_free old) i j = λ j. ap (λ s. is_free (record old { free = s }) j) free ∙ elim (cases_eq i j) [
        | inl same ↦ not_true (is_free old j) (λ e. not_free (narrow_in cells) old.held (cell_of old) (is_free old) cells is.shown.in_step key i own (ap (is_free old) same ∙ e)) ∙ sym (taken_own (is_free old) i j same)
        | inr other ↦ sym (taken_other (is_free old) i j other)
      ] in
      memory_of (set cells i (Some payload)) (with_kept old.held key slot) (moved (cell_of old) key i) (taken (is_free old) i) new
      (rewritten cells old.held (cell_of old) (is_free old) is.shown row key slot payload i named fits spells own) held keys frees
      (record {
        cells = (λ t. index_map_len (index t) + btree_set_len (free t)) ∙ is.counted.cells ∙ sym (wide_behind cells i (Some payload) within.0);
        keys = count ∙ is.counted.keys ∙ ap (λ m. index_map_len m) (sym index);
      })

  pub added_memory : (key : List ℕ) (slot : Slot) (payload : List ℕ) (i : ℕ) → IsKey key → FitsSlot slot → payload ≡ cell_spelling (Some (key, slot)) → cell_of old key ≡ None → is_free old i ≡ true → slot_count old.held.slots < 4096 → new.held ≡ with_kept old.held key slot
      → ((q : List ℕ) → cell_of new q ≡ moved (cell_of old) key i q) → ((j : ℕ) → is_free new j ≡ taken (is_free old) i j) → index_map_len new.index ≡ index_map_len old.index + 1 → btree_set_len new.free + 1 ≡ btree_set_len old.free → slot_count new.held.slots ≡ slot_count old.held.slots + 1
      → IsMemoryOf (set cells i (Some payload)) new
  added_memory key slot payload i named fits spells none free room held keys frees index_len free_len count =
      let within = free_within cells old.held (cell_of old) (is_free old) is.shown.in_step row i free in
      memory_of (set cells i (Some payload)) (with_kept old.held key slot) (moved (cell_of old) key i) (taken (is_free old) i) new
      (added cells old.held (cell_of old) (is_free old) is.shown row key slot payload i named fits spells none free room) held keys frees
      (record {
        cells = omega (arith, index_len, free_len, is.counted.cells, wide_behind cells i (Some payload) within.0);
        keys = omega (arith, count, index_len, is.counted.keys);
      })

  pub dropped_memory : (key payload : List ℕ) (i : ℕ) → payload ≡ cell_spelling None → cell_of old key ≡ Some i → new.held ≡ without_kept old.held key
      → ((q : List ℕ) → cell_of new q ≡ removed (cell_of old) key q) → ((j : ℕ) → is_free new j ≡ freed (is_free old) i j) → index_map_len new.index + 1 ≡ index_map_len old.index → btree_set_len new.free ≡ btree_set_len old.free + 1 → slot_count new.held.slots + 1 ≡ slot_count old.held.slots
      → IsMemoryOf (set cells i (Some payload)) new
  dropped_memory key payload i spells own held keys frees index_len free_len count =
      let within = own_within cells old.held (cell_of old) (is_free old) is.shown.in_step row key i own in
      memory_of (set cells i (Some payload)) (without_kept old.held key) (removed (cell_of old) key) (freed (is_free old) i) new
      (dropped cells old.held (cell_of old) (is_free old) is.shown row key payload i spells own) held keys frees
      (record {
        cells = omega (arith, index_len, free_len, is.counted.cells, wide_behind cells i (Some payload) within.0);
        keys = omega (arith, count, index_len, is.counted.keys);
      })

  pub raised_memory : (ages : Ages) (payload : List ℕ) → FitsHead (head_for cells ages) → payload ≡ head_spelling (head_for cells ages) → wide_in (set cells 0 (Some payload)) ≡ wide_in cells → new.held ≡ record old.held { ages = ages } → new.index ≡ old.index → new.free ≡ old.free → IsMemoryOf (set cells 0 (Some payload)) new
  raised_memory ages payload fits spells told held index free =
      memory_of (set cells 0 (Some payload)) (record old.held { ages = ages }) (cell_of old) (is_free old) new
      (raised cells old.held (cell_of old) (is_free old) is.shown row ages payload fits spells) held
      (λ q. ap (λ m. cell_of (record old { index = m }) q) index) (λ j. ap (λ s. is_free (record old { free = s }) j) free)
      (record {
        cells = (λ t. index_map_len (index t) + btree_set_len (free t)) ∙ is.counted.cells ∙ sym told;
        keys = ap (λ (c : Contents). slot_count c.slots) held ∙ is.counted.keys ∙ ap (λ m. index_map_len m) (sym index);
      })

  pub grown_memory : wide_in cells < 4096 → wide_in (grown cells) ≡ wide_in cells + 1 → new.held ≡ old.held → new.index ≡ old.index → ((j : ℕ) → is_free new j ≡ freed (is_free old) (1 + count_in cells) j) → btree_set_len new.free ≡ btree_set_len old.free + 1 → IsMemoryOf (grown cells) new
  grown_memory room more held index frees free_len =
      memory_of (grown cells) old.held (cell_of old) (freed (is_free old) (1 + count_in cells)) new
      (grow_are cells old.held (cell_of old) (is_free old) is.shown row room) held
      (λ q. ap (λ m. cell_of (record old { index = m }) q) index) frees
      (record {
        cells = omega (arith, ap (λ m. index_map_len m) index, free_len, is.counted.cells, more);
        keys = ap (λ (c : Contents). slot_count c.slots) held ∙ is.counted.keys ∙ ap (λ m. index_map_len m) (sym index);
      })

-- a grown row tells one wide cell more
pub more_cells : (cells : List (Option (List ℕ))) (contents : Contents) (f : List ℕ → Option ℕ) (g : ℕ → Bool) → AreOf cells contents f g → IsRow cells → wide_in cells < 4096 → wide_in (grown cells) ≡ wide_in cells + 1
more_cells cells contents f g are row room = (grown_told cells contents f g are row room).1

pub grown_stays_row : (cells : List (Option (List ℕ))) (contents : Contents) (f : List ℕ → Option ℕ) (g : ℕ → Bool) → AreOf cells contents f g → IsRow cells → wide_in cells < 4096 → IsRow (grown cells)
grown_stays_row cells contents f g are row room =
    let told = grown_told cells contents f g are row room in
    row_grown cells (let more : count_in (grown cells) ≡ count_in cells + 1 = omega (arith, told.0, told.1) in more) row

-- another head that tells as many cells
pub same_wide : (cells : List (Option (List ℕ))) (head : List ℕ) → TellsSame head cells → IsRow cells → wide_in (set cells 0 (Some head)) ≡ wide_in cells
same_wide [] head told row = absurd row
same_wide (c ∷ cells) head told row = told.wide

module _ {D : Type 0} (tells : Type 0) (seen : D → List ℕ) (may_leave : D → List ℕ → Type 0) (moment : D → ℕ) (left_since : D → ℕ → List ℕ → Type 0) (old : DiskShelf D) (new : D) (up : ShelfIsUp tells seen may_leave old) where
  abbrev row_before : List (Option (List ℕ))
  row_before = cells.cells_of old.cells

  pub put_moment : (key : List ℕ) (slot : Slot) (payload : List ℕ) (i : ℕ) → IsKey key → FitsSlot slot → payload ≡ cell_spelling (Some (key, slot)) → cell_of old.memory key ≡ Some i → DiskContinuesOnly moment left_since (disk_of old) new (IsBeforeOrAfter row_before (set row_before i (Some payload)))
      → ShelfContinuesOnly moment left_since (disk_of old) new (IsOldOrNew (contents_of old) (with_kept (contents_of old) key slot))
  put_moment key slot payload i named fits spells own run =
      let within = own_within row_before (contents_of old) _ _ up.memory.shown.in_step up.row.row key i own in
      old_or_new tells seen may_leave moment left_since old new (set row_before i (Some payload)) (with_kept (contents_of old) key slot) _ _ up (row_behind row_before i (Some payload) within.0 up.row.row)
      (rewritten row_before (contents_of old) _ _ up.memory.shown up.row.row key slot payload i named fits spells own) run

  pub add_moment : (key : List ℕ) (slot : Slot) (payload : List ℕ) (i : ℕ) → IsKey key → FitsSlot slot → payload ≡ cell_spelling (Some (key, slot)) → cell_of old.memory key ≡ None → is_free old.memory i ≡ true → slot_count (contents_of old).slots < 4096 → DiskContinuesOnly moment left_since (disk_of old) new (IsBeforeOrAfter row_before (set row_before i (Some payload)))
      → ShelfContinuesOnly moment left_since (disk_of old) new (IsOldOrNew (contents_of old) (with_kept (contents_of old) key slot))
  add_moment key slot payload i named fits spells none free room run =
      let within = free_within row_before (contents_of old) _ _ up.memory.shown.in_step up.row.row i free in
      old_or_new tells seen may_leave moment left_since old new (set row_before i (Some payload)) (with_kept (contents_of old) key slot) _ _ up (row_behind row_before i (Some payload) within.0 up.row.row)
      (added row_before (contents_of old) _ _ up.memory.shown up.row.row key slot payload i named fits spells none free room) run

  pub drop_moment : (key payload : List ℕ) (i : ℕ) → payload ≡ cell_spelling None → cell_of old.memory key ≡ Some i → DiskContinuesOnly moment left_since (disk_of old) new (IsBeforeOrAfter row_before (set row_before i (Some payload)))
      → ShelfContinuesOnly moment left_since (disk_of old) new (IsOldOrNew (contents_of old) (without_kept (contents_of old) key))
  drop_moment key payload i spells own run =
      let within = own_within row_before (contents_of old) _ _ up.memory.shown.in_step up.row.row key i own in
      old_or_new tells seen may_leave moment left_since old new (set row_before i (Some payload)) (without_kept (contents_of old) key) _ _ up (row_behind row_before i (Some payload) within.0 up.row.row)
      (dropped row_before (contents_of old) _ _ up.memory.shown up.row.row key payload i spells own) run

  pub raise_moment : (ages : Ages) (payload : List ℕ) → FitsHead (head_for row_before ages) → payload ≡ head_spelling (head_for row_before ages) → DiskContinuesOnly moment left_since (disk_of old) new (IsBeforeOrAfter row_before (set row_before 0 (Some payload)))
      → ShelfContinuesOnly moment left_since (disk_of old) new (IsOldOrNew (contents_of old) (record (contents_of old) { ages = ages }))
  raise_moment ages payload fits spells run =
      old_or_new tells seen may_leave moment left_since old new (set row_before 0 (Some payload)) (record (contents_of old) { ages = ages }) _ _ up (row_first row_before payload (tells_same row_before ages payload fits spells) up.row.row)
      (raised row_before (contents_of old) _ _ up.memory.shown up.row.row ages payload fits spells) run

  pub grow_moment : wide_in row_before < 4096 → DiskContinuesOnly moment left_since (disk_of old) new (IsBeforeOrAfter row_before (grown row_before)) → ShelfContinuesOnly moment left_since (disk_of old) new (λ left. left ≡ Ok (contents_of old))
  grow_moment room run =
      reads_only moment left_since (disk_of old) new (IsBeforeOrAfter row_before (grown row_before)) (λ left. left ≡ Ok (contents_of old))
      (λ c either. ⊎_elim
      (λ before. spelled row_before (contents_of old) _ _ c up.row.row up.memory.shown before)
      (λ grew. spelled (grown row_before) (contents_of old) _ _ c (grown_stays_row row_before (contents_of old) _ _ up.memory.shown up.row.row room) (grow_are row_before (contents_of old) _ _ up.memory.shown up.row.row room) grew)
      either)
      run

  -- the disk was not touched
  pub still : new ≡ disk_of old → ((c : List ℕ) → left_since (disk_of old) (moment (disk_of old)) c → may_leave (disk_of old) c) → tells → ShelfContinuesOnly moment left_since (disk_of old) new (λ left. left ≡ Ok (contents_of old))
  still same now t = at_rest moment left_since (disk_of old) new may_leave (λ left. left ≡ Ok (contents_of old)) same now (λ c left. up_spells tells seen may_leave old up t c left)

  pub still_old : (after : Contents) → new ≡ disk_of old → ((c : List ℕ) → left_since (disk_of old) (moment (disk_of old)) c → may_leave (disk_of old) c) → tells → ShelfContinuesOnly moment left_since (disk_of old) new (IsOldOrNew (contents_of old) after)
  still_old after same now t = at_rest moment left_since (disk_of old) new may_leave (IsOldOrNew (contents_of old) after) same now (λ c left. inl (up_spells tells seen may_leave old up t c left))

-- ---- the shelf is up again

module _ {D : Type 0} (tells : Type 0) (seen : D → List ℕ) (may_leave : D → List ℕ → Type 0) (old new : DiskShelf D) (up : ShelfIsUp tells seen may_leave old) where
  abbrev row_of : List (Option (List ℕ))
  row_of = cells.cells_of old.cells

  none_beyond : (accepted : Option Accepted) → IfSome accepted FitsAccepted → IfSome accepted (λ a. FitsBallot a.ballot)
  none_beyond None fits = tt
  none_beyond (Some accepted) fits = fits.ballot

  ballots_fit : (slot : Slot) → FitsSlot slot → SlotBallotsFit slot
  ballots_fit slot fits = record { promise = fits.promise; accepted = none_beyond slot.accepted fits.accepted }

  pub rewritten_up : (key : List ℕ) (slot : Slot) (payload : List ℕ) (i : ℕ) → IsKey key → FitsSlot slot → payload ≡ cell_spelling (Some (key, slot)) → cell_of old.memory key ≡ Some i → cells.CellsStand tells seen may_leave new.cells → cells.cells_of new.cells ≡ set row_of i (Some payload) → new.memory.held ≡ with_kept old.memory.held key slot → new.memory.index ≡ old.memory.index → new.memory.free ≡ old.memory.free → slot_count new.memory.held.slots ≡ slot_count old.memory.held.slots
      → ShelfIsUp tells seen may_leave new
  rewritten_up key slot payload i named fits spells own stands changed held index free count = record {
    row = stands;
    memory = subst (λ (l : List (Option (List ℕ))). IsMemoryOf l new.memory) (sym changed) (rewritten_memory row_of old.memory new.memory up.memory up.row.row key slot payload i named fits spells own held index free count);
    fits = subst AllBallotsFit (sym held) (put_fits old.memory.held key slot up.fits (ballots_fit slot fits));
  }

  pub added_up : (key : List ℕ) (slot : Slot) (payload : List ℕ) (i : ℕ) → IsKey key → FitsSlot slot → payload ≡ cell_spelling (Some (key, slot)) → cell_of old.memory key ≡ None → is_free old.memory i ≡ true → slot_count (contents_of old).slots < 4096 → cells.CellsStand tells seen may_leave new.cells → cells.cells_of new.cells ≡ set row_of i (Some payload) → new.memory.held ≡ with_kept old.memory.held key slot
      → ((q : List ℕ) → cell_of new.memory q ≡ moved (cell_of old.memory) key i q) → ((j : ℕ) → is_free new.memory j ≡ taken (is_free old.memory) i j) → index_map_len new.memory.index ≡ index_map_len old.memory.index + 1 → btree_set_len new.memory.free + 1 ≡ btree_set_len old.memory.free → slot_count new.memory.held.slots ≡ slot_count old.memory.held.slots + 1
      → ShelfIsUp tells seen may_leave new
  added_up key slot payload i named fits spells none is_unused room stands changed held keys frees index_len free_len count = record {
    row = stands;
    memory = subst (λ (l : List (Option (List ℕ))). IsMemoryOf l new.memory) (sym changed) (added_memory row_of old.memory new.memory up.memory up.row.row key slot payload i named fits spells none is_unused room held keys frees index_len free_len count);
    fits = subst AllBallotsFit (sym held) (put_fits old.memory.held key slot up.fits (ballots_fit slot fits));
  }

  pub dropped_up : (key payload : List ℕ) (i : ℕ) → payload ≡ cell_spelling None → cell_of old.memory key ≡ Some i → cells.CellsStand tells seen may_leave new.cells → cells.cells_of new.cells ≡ set row_of i (Some payload) → new.memory.held ≡ without_kept old.memory.held key
      → ((q : List ℕ) → cell_of new.memory q ≡ removed (cell_of old.memory) key q) → ((j : ℕ) → is_free new.memory j ≡ freed (is_free old.memory) i j) → index_map_len new.memory.index + 1 ≡ index_map_len old.memory.index → btree_set_len new.memory.free ≡ btree_set_len old.memory.free + 1 → slot_count new.memory.held.slots + 1 ≡ slot_count old.memory.held.slots
      → ShelfIsUp tells seen may_leave new
  dropped_up key payload i spells own stands changed held keys frees index_len free_len count = record {
    row = stands;
    memory = subst (λ (l : List (Option (List ℕ))). IsMemoryOf l new.memory) (sym changed) (dropped_memory row_of old.memory new.memory up.memory up.row.row key payload i spells own held keys frees index_len free_len count);
    fits = subst AllBallotsFit (sym held) (removal_fits old.memory.held key up.fits);
  }

  pub raised_up : (ages : Ages) (payload : List ℕ) → FitsHead (head_for row_of ages) → payload ≡ head_spelling (head_for row_of ages) → cells.CellsStand tells seen may_leave new.cells → cells.cells_of new.cells ≡ set row_of 0 (Some payload) → new.memory.held ≡ record old.memory.held { ages = ages } → new.memory.index ≡ old.memory.index → new.memory.free ≡ old.memory.free
      → ShelfIsUp tells seen may_leave new
  raised_up ages payload fits spells stands changed held index free = record {
    row = stands;
    memory = subst (λ (l : List (Option (List ℕ))). IsMemoryOf l new.memory) (sym changed)
        (raised_memory row_of old.memory new.memory up.memory up.row.row ages payload fits spells (same_wide row_of payload (tells_same row_of ages payload fits spells) up.row.row) held index free);
    fits = subst AllBallotsFit (sym held) (λ key. up.fits key);
  }

  pub grown_up : wide_in row_of < 4096 → cells.CellsStand tells seen may_leave new.cells → cells.cells_of new.cells ≡ grown row_of → new.memory.held ≡ old.memory.held → new.memory.index ≡ old.memory.index → ((j : ℕ) → is_free new.memory j ≡ freed (is_free old.memory) (1 + count_in row_of) j) → btree_set_len new.memory.free ≡ btree_set_len old.memory.free + 1
      → ShelfIsUp tells seen may_leave new
  grown_up room stands changed held index frees free_len = record {
    row = stands;
    memory = subst (λ (l : List (Option (List ℕ))). IsMemoryOf l new.memory) (sym changed)
        (grown_memory row_of old.memory new.memory up.memory up.row.row room (more_cells row_of (contents_of old) _ _ up.memory.shown up.row.row room) held index frees free_len);
    fits = subst AllBallotsFit (sym held) up.fits;
  }

  -- nothing changed, as look-ups see it
  pub same_up : cells.CellsStand tells seen may_leave new.cells → cells.cells_of new.cells ≡ row_of → new.memory.held ≡ old.memory.held → ((q : List ℕ) → cell_of new.memory q ≡ cell_of old.memory q) → ((j : ℕ) → is_free new.memory j ≡ is_free old.memory j) → index_map_len new.memory.index ≡ index_map_len old.memory.index → btree_set_len new.memory.free ≡ btree_set_len old.memory.free
      → ShelfIsUp tells seen may_leave new
  same_up stands same held keys frees index_len free_len = record {
    row = stands;
    memory = subst (λ (l : List (Option (List ℕ))). IsMemoryOf l new.memory) (sym same) (same_memory row_of old.memory new.memory held keys frees index_len free_len up.memory);
    fits = subst AllBallotsFit (sym held) up.fits;
  }

-- the cells are as they were
pub still_up : {D : Type 0} (tells : Type 0) (seen : D → List ℕ) (may_leave : D → List ℕ → Type 0) (old new : DiskShelf D) → ShelfIsUp tells seen may_leave old → cells.CellsStand tells seen may_leave new.cells → cells.cells_of new.cells ≡ cells.cells_of old.cells → new.memory ≡ old.memory → ShelfIsUp tells seen may_leave new
still_up tells seen may_leave old new up stands same memory = record {
  row = stands;
  memory = subst (λ (m : Memory). IsMemoryOf (cells.cells_of new.cells) m) (sym memory) (subst (λ (l : List (Option (List ℕ))). IsMemoryOf l old.memory) (sym same) up.memory);
  fits = subst (λ (m : Memory). AllBallotsFit m.held) (sym memory) up.fits;
}

-- a cell that was added to the free cells and taken back
pub taken_back : (g : ℕ → Bool) (i : ℕ) → g i ≡ false → (j : ℕ) → taken (freed g i) i j ≡ g j
taken_back g i unused j = elim (cases_eq i j) [
  | inl same ↦ taken_own (freed g i) i j same ∙ sym (ap g (sym same) ∙ unused)
  | inr other ↦ taken_other (freed g i) i j other ∙ freed_other g i j other
]

-- a cell of a key is not free
pub own_not_free : (contents : Contents) (f : List ℕ → Option ℕ) (g : ℕ → Bool) (cells : List (Option (List ℕ))) → AreOf cells contents f g → (key : List ℕ) (i : ℕ) → f key ≡ Some i → g i ≡ false
own_not_free contents f g cells are key i own = not_true (g i) (λ e. not_free (narrow_in cells) contents f g cells are.in_step key i own e)

-- nor is one behind the last
pub past_not_free : (contents : Contents) (f : List ℕ → Option ℕ) (g : ℕ → Bool) (cells : List (Option (List ℕ))) → AreOf cells contents f g → IsRow cells → (i : ℕ) → count_in cells < i → g i ≡ false
past_not_free contents f g cells are row i past = not_true (g i) (λ e. let within = free_within cells contents f g are.in_step row i e in omega (arith, within.1, past))
