-- Loading the memory of a shelf cell after cell.
use Rattle.std.specs.Prelude.{slice_get, is_some, unwrap_or}
use Rattle.std.proofs.Common.{◌≡◌, ℕ, zero, suc, ◌+◌, ◌-◌, ◌<◌, ◌≤◌, Bool, true, false, List, [], ◌∷◌, length, Option, Some, None, Result, Ok, Err, refl, sym, ap, subst, ◌∙◌, arith}
use Rattle.std.specs.BTreeSet.{btree_set_len}
use Rattle.indexmap.specs.IndexMap.{index_map_len}
use Rattle.cas_base.proofs.Bools.{some_is}
use Rattle.cas_slot.specs.declared.slot.Slot.{Slot}
use Rattle.cas_slot.specs.declared.ages.Ages.{Ages}
use Rattle.cas_slot.specs.Contents.{Contents, kept_at, with_kept}
use Rattle.cas_slot.specs.Slots.{Slots, no_slots, slot_count, with_slot}
use Rattle.cas_cells.specs.Format.{count_in, narrow_in, wide_in, head_in, narrow_told, wide_told}
use Rattle.cas_cells.specs.Held.{IsRow}
use Rattle.cas_disk_shelf.specs.declared.codec.Head.{Head}
use Rattle.cas_disk_shelf.specs.declared.memory.Loaded.{Loaded}
use Rattle.cas_disk_shelf.specs.Head.{head_of, is_old, IsSpelledHead}
use Rattle.cas_disk_shelf.specs.Cell.{KeyedSlot}
use Rattle.cas_disk_shelf.specs.HeadLaws.{as-narrow-told, as-wide-told}
use Rattle.cas_disk_shelf.specs.Image.{CellPlace, ReadSlots, cell_in, entry_held, is_twin, is_one_too_many, left_behind, left_in, moved, read_cells, removed, with_ages}
use Rattle.cas_disk_shelf.specs.KeyLaws.{at_most_more, freed_own, freed_other, removed_own, removed_other}
use Rattle.cas_disk_shelf.specs.Loading.{IsHeadOf, IsReadTo}
use Rattle.cas_disk_shelf.specs.Memory.{alone_in, cell_of, is_free, freed, head_for, AreCounted, AreKnown, CellHolds, IsLoadedFrom, IsReadFrom, Show}
use Rattle.cas_disk_shelf.specs.ShelfLaws.{none_known, none_show, read_nothing, read_narrow, read_too_many, read_twin, read_wide, read_wrong, twin_told}
use Rattle.cas_disk_shelf.specs.ShowLaws.{IsStep, narrow_known, new_shows, next_step, nothing_known, nothing_shows, none_of, only_there, twin_shows, wide_known}

-- ---- the head

-- the payload of cell 0 of a row
pub head_is : (row : List (Option (List ℕ))) (payload : List ℕ) → IsRow row → ((p : List ℕ) → slice_get row 0 ≡ Some (Some p) → Some payload ≡ Some p) → payload ≡ head_in row
head_is [] payload is held = absurd is
head_is (None ∷ rest) payload is held = absurd is
head_is (Some head ∷ rest) payload is held = some_is payload head (held head refl)

told_is : (row : List (Option (List ℕ))) → IsRow row → (narrow_in row ≡ narrow_told (head_in row)) × (wide_in row ≡ wide_told (head_in row))
told_is [] is = absurd is
told_is (None ∷ rest) is = absurd is
told_is (Some head ∷ rest) is = (refl, refl)

-- what was read of it
pub head_read : (row : List (Option (List ℕ))) (payload : List ℕ) (head : Head) → IsRow row → payload ≡ head_in row → IsSpelledHead payload head → Ok head ≡ head_of payload → IsHeadOf row head
head_read row payload head is same spells read =
    let told = told_is row is in
    record {
      spelled = subst (λ (l : List ℕ). IsSpelledHead l head) same spells;
      read = ap head_of (sym same) ∙ sym read;
      narrow = told.0 ∙ ap narrow_told (sym same ∙ spells.bytes_are) ∙ as-narrow-told (is_old payload) head spells.fits;
      wide = told.1 ∙ ap wide_told (sym same ∙ spells.bytes_are) ∙ as-wide-told (is_old payload) head spells.fits spells.no_wide;
    }

-- ---- one cell

here_is : (o : Option (Option (List ℕ))) (found : Option (List ℕ)) → (o ≡ Some None → found ≡ None) → ((p : List ℕ) → o ≡ Some (Some p) → found ≡ Some p) → (o ≡ None → found ≡ None) → found ≡ unwrap_or o None
here_is None found blank held absent = absent refl
here_is (Some None) found blank held absent = blank refl
here_is (Some (Some p)) found blank held absent = held p refl

beyond : {X : Type 0} (xs : List X) (i : ℕ) → slice_get xs i ≡ None → length xs ≤ i
beyond [] i e = omega arith
beyond (x ∷ xs) zero e = absurd (let some : Some x ≡ None = e in cc)
beyond (x ∷ xs) (suc i) e = let rest = beyond xs i e in omega (arith, rest)

-- the payload that was found of a cell is what it holds
pub payload_is : (row : List (Option (List ℕ))) (i : ℕ) (found : Option (List ℕ)) → (slice_get row i ≡ Some None → found ≡ None) → ((p : List ℕ) → slice_get row i ≡ Some (Some p) → found ≡ Some p) → (length row ≤ i → found ≡ None) → found ≡ cell_in row i
payload_is row i found blank held absent = here_is (slice_get row i) found blank held (λ e. absent (beyond row i e))

-- what is known goes by look-ups
pub same_known : (narrow : ℕ) (payload : ℕ → Option (List ℕ)) (n : ℕ) (f f' a a' : List ℕ → Option ℕ) (g g' : ℕ → Bool) → ((q : List ℕ) → f' q ≡ f q) → ((q : List ℕ) → a' q ≡ a q) → ((i : ℕ) → g' i ≡ g i) → AreKnown narrow payload n f a g → AreKnown narrow payload n f' a' g'
same_known narrow payload n f f' a a' g g' keys alone free known =
    subst (λ (x : (List ℕ → Option ℕ) × (List ℕ → Option ℕ) × (ℕ → Bool)). AreKnown narrow payload n x.0 x.1 x.2) (λ t. ((λ q. sym (keys q) t), (λ q. sym (alone q) t), (λ i. sym (free i) t))) known

module _ (row : List (Option (List ℕ))) (n m : ℕ) (next : m ≡ n + 1) where
  abbrev narrow : ℕ
  narrow = narrow_in row

  abbrev payload : ℕ → Option (List ℕ)
  payload = cell_in row

  it : m ≡ suc n
  it = omega (arith, next)

  held_next : (r : Result (Option KeyedSlot) ℕ) → entry_held (payload m) ≡ r → entry_held (payload (suc n)) ≡ r
  held_next r holds = ap (λ (j : ℕ). entry_held (payload j)) (sym it) ∙ holds

  -- what is wrong is told
  module _ (place : ℕ → CellPlace) (read : ReadSlots) (before : read_cells row place n ≡ Ok read) where
    pub wrong_next : (at : ℕ) → entry_held (payload m) ≡ Err at → read_cells row place m ≡ Err ((place m).1 + at)
    wrong_next at holds = ap (read_cells row place) it ∙ read_wrong row place n read before at (held_next (Err at) holds) ∙ ap (λ (j : ℕ). Err ((place j).1 + at)) (sym it)

    pub too_many_next : (key : List ℕ) (slot : Slot) → entry_held (payload m) ≡ Ok (Some (key, slot)) → is_twin row m (read.1 key) ≡ false → is_one_too_many read.0 key ≡ true → read_cells row place m ≡ Err (place m).0
    too_many_next key slot holds twin many =
        ap (read_cells row place) it
        ∙ read_too_many row place n read before key slot (held_next (Ok (Some (key, slot))) holds) (ap (λ (j : ℕ). is_twin row j (read.1 key)) (sym it) ∙ twin) many
        ∙ ap (λ (j : ℕ). Err (place j).0) (sym it)

  module _ (old new : Loaded) (is : IsLoadedFrom row n old) where
    abbrev slots : Slots
    slots = old.memory.held.slots

    step : IsStep payload payload n m m
    step = next_step payload n m next

    same_wide : m ≤ narrow → n - narrow ≡ m - narrow
    same_wide near = omega (arith, near, next)

    more_wide : narrow < m → n - narrow + 1 ≡ m - narrow
    more_wide far = omega (arith, far, next)

    not_free : is_free old.memory m ≡ false
    not_free = by_free (is_free old.memory m) refl
      where
        by_free : (b : Bool) → is_free old.memory m ≡ b → is_free old.memory m ≡ false
        by_free true f = let h = is.known.free m f in let low = h.1 in absurd (omega (arith, low, next))
        by_free false f = f

    -- a narrow cell that holds no slot
    pub loaded_nothing : m ≤ narrow → entry_held (payload m) ≡ Ok None → IsLoadedFrom row m old
    loaded_nothing near holds = record {
      show = nothing_shows narrow payload payload n m m step slots is.show holds;
      known = nothing_known narrow payload payload n m m step slots is.show holds (cell_of old.memory) (alone_in old) (is_free old.memory) (is_free old.memory) is.known
          (λ i other. refl) (λ f. (is.known.free m f).0) (λ wide. absurd (omega (arith, wide, near)));
      counted = subst (AreCounted old) (same_wide near) is.counted;
      few = is.few;
    }

    pub read_to_nothing : IsReadTo row n old → entry_held (payload m) ≡ Ok None → new.memory.held ≡ old.memory.held → new.alone ≡ old.alone → IsReadTo row m new
    read_to_nothing read holds held alone place =
        ap (read_cells row place) it ∙ read_nothing row place n (slots, alone_in old) (read place) (held_next (Ok None) holds)
        ∙ (λ t. Ok ((sym held t).slots, alone_in (record old { alone = sym alone t })))

    -- a wide one
    pub loaded_free : narrow < m → entry_held (payload m) ≡ Ok None → new.memory.held ≡ old.memory.held → new.memory.index ≡ old.memory.index → new.alone ≡ old.alone → ((i : ℕ) → is_free new.memory i ≡ freed (is_free old.memory) m i) → btree_set_len new.memory.free ≡ btree_set_len old.memory.free + 1 → IsLoadedFrom row m new
    loaded_free far holds held index alone free more = record {
      show = subst (λ (c : Contents). Show narrow payload m c.slots) (sym held) (nothing_shows narrow payload payload n m m step slots is.show holds);
      known = same_known narrow payload m (cell_of old.memory) (cell_of new.memory) (alone_in old) (alone_in new) (freed (is_free old.memory) m) (is_free new.memory)
          (λ q. ap (λ x. cell_of (record old.memory { index = x }) q) index) (λ q. ap (λ x. alone_in (record old { alone = x }) q) alone) free
          (nothing_known narrow payload payload n m m step slots is.show holds (cell_of old.memory) (alone_in old) (is_free old.memory) (freed (is_free old.memory) m) is.known
          (λ i other. freed_other (is_free old.memory) m i (λ same. other (sym same))) (λ f. far) (λ wide. freed_own (is_free old.memory) m m refl));
      counted = record {
        cells = omega (arith, is.counted.cells, ap (λ x. index_map_len x) index, more, far, next);
        keys = ap (λ (c : Contents). slot_count c.slots) held ∙ is.counted.keys ∙ (λ t. index_map_len (sym index t) + index_map_len (sym alone t));
      };
      few = subst (λ (c : Contents). slot_count c.slots ≤ 4096) (sym held) is.few;
    }

    module _ (key : List ℕ) (slot : Slot) (holds : entry_held (payload m) ≡ Ok (Some (key, slot))) where
      -- a wide cell with the payload of a narrow one
      module _ (twin : is_twin row m (alone_in old key) ≡ true) where
        pub twin_of : (v : ℕ) × (alone_in old key ≡ Some v)
        twin_of = by_alone (alone_in old key) refl
          where
            by_alone : (o : Option ℕ) → alone_in old key ≡ o → (v : ℕ) × (alone_in old key ≡ Some v)
            by_alone None e = absurd (let no : false ≡ true = sym (ap (is_twin row m) e) ∙ twin in cc)
            by_alone (Some v) e = (v, e)

        pub not_wide : cell_of old.memory key ≡ None
        not_wide = (is.known.alone key twin_of.0 twin_of.1).1

        pub loaded_twin : new.memory.held ≡ old.memory.held → ((q : List ℕ) → cell_of new.memory q ≡ moved (cell_of old.memory) key m q) → new.memory.free ≡ old.memory.free → ((q : List ℕ) → alone_in new q ≡ removed (alone_in old) key q) → AreCounted new (n - narrow + 1) → IsLoadedFrom row m new
        loaded_twin held keys free alone counted =
            let v : ℕ = twin_of.0 in
            let h = is.known.alone key v twin_of.1 in
            let told = twin_told row m v (sym (ap (is_twin row m) twin_of.1) ∙ twin) in
            let same : h.2.0 ≡ slot = by_payload v h.2.0 told.1 h.2.1.holds in
            let shows : Show narrow payload m slots = twin_shows narrow payload payload n m m step slots is.show key slot holds v h.0 told.0 (subst (λ (s : Slot). CellHolds payload n v key s) same h.2.1)
            (only_there narrow payload n (cell_of old.memory) (alone_in old) (is_free old.memory) is.known key v twin_of.1) told.1 in
            record {
              show = subst (λ (c : Contents). Show narrow payload m c.slots) (sym held) shows;
              known = same_known narrow payload m (moved (cell_of old.memory) key m) (cell_of new.memory) (removed (alone_in old) key) (alone_in new) (is_free old.memory) (is_free new.memory)
                  keys alone (λ i. ap (λ x. is_free (record old.memory { free = x }) i) free)
                  (wide_known narrow payload payload n m m step slots is.show key slot holds (cell_of old.memory) (alone_in old) (removed (alone_in old) key) (is_free old.memory) (is_free old.memory) told.0 is.known
                  h.1 (λ q apart. removed_other (alone_in old) key q apart) (removed_own (alone_in old) key key refl) not_free (λ i other. refl));
              counted = subst (AreCounted new) (more_wide told.0) counted;
              few = subst (λ (c : Contents). slot_count c.slots ≤ 4096) (sym held) is.few;
            }
          where
            by_payload : (v : ℕ) (s : Slot) → payload v ≡ payload m → entry_held (payload v) ≡ Ok (Some (key, s)) → s ≡ slot
            by_payload v s equal other =
                let same : ◌≡◌ {A = Result (Option (List ℕ × Slot)) ℕ} (Ok (Some (key, s))) (Ok (Some (key, slot))) = sym other ∙ ap entry_held equal ∙ holds in
                let entry : ◌≡◌ {A = List ℕ × Slot} (key, s) (key, slot) = cc in
                ap (λ (e : List ℕ × Slot). e.1) entry

        pub read_to_twin : IsReadTo row n old → new.memory.held ≡ old.memory.held → ((q : List ℕ) → alone_in new q ≡ removed (alone_in old) key q) → IsReadTo row m new
        read_to_twin read held alone place =
            ap (read_cells row place) it
            ∙ read_twin row place n (slots, alone_in old) (read place) key slot (held_next (Ok (Some (key, slot))) holds) (ap (λ (j : ℕ). is_twin row j (alone_in old key)) (sym it) ∙ twin)
            ∙ (λ t. Ok ((sym held t).slots, (λ q. sym (alone q) t)))

      -- a new key
      module _ (twin : is_twin row m (alone_in old key) ≡ false) (none : kept_at old.memory.held key ≡ None) (room : slot_count old.memory.held.slots < 4096) (many : is_one_too_many old.memory.held.slots key ≡ false) where
        pub unknown : (cell_of old.memory key ≡ None) × (alone_in old key ≡ None)
        unknown = none_of narrow payload payload n m m step slots is.show key slot holds none (cell_of old.memory) (alone_in old) (is_free old.memory) is.known

        more_few : new.memory.held ≡ with_kept old.memory.held key slot → slot_count new.memory.held.slots ≤ 4096
        more_few held = omega (arith, ap (λ (c : Contents). slot_count c.slots) held, at_most_more slots key slot, room)

        pub loaded_narrow : m ≤ narrow → new.memory.held ≡ with_kept old.memory.held key slot → new.memory.index ≡ old.memory.index → new.memory.free ≡ old.memory.free → ((q : List ℕ) → alone_in new q ≡ moved (alone_in old) key m q) → AreCounted new (n - narrow) → IsLoadedFrom row m new
        loaded_narrow near held index free alone counted = record {
          show = subst (λ (c : Contents). Show narrow payload m c.slots) (sym held) (new_shows narrow payload payload n m m step slots is.show key slot holds none);
          known = same_known narrow payload m (cell_of old.memory) (cell_of new.memory) (moved (alone_in old) key m) (alone_in new) (is_free old.memory) (is_free new.memory)
              (λ q. ap (λ x. cell_of (record old.memory { index = x }) q) index) alone (λ i. ap (λ x. is_free (record old.memory { free = x }) i) free)
              (narrow_known narrow payload payload n m m step slots is.show key slot holds none (cell_of old.memory) (alone_in old) (is_free old.memory) near is.known);
          counted = subst (AreCounted new) (same_wide near) counted;
          few = more_few held;
        }

        pub loaded_wide : narrow < m → new.memory.held ≡ with_kept old.memory.held key slot → ((q : List ℕ) → cell_of new.memory q ≡ moved (cell_of old.memory) key m q) → new.memory.free ≡ old.memory.free → new.alone ≡ old.alone → AreCounted new (n - narrow + 1) → IsLoadedFrom row m new
        loaded_wide far held keys free alone counted = record {
          show = subst (λ (c : Contents). Show narrow payload m c.slots) (sym held) (new_shows narrow payload payload n m m step slots is.show key slot holds none);
          known = same_known narrow payload m (moved (cell_of old.memory) key m) (cell_of new.memory) (alone_in old) (alone_in new) (is_free old.memory) (is_free new.memory)
              keys (λ q. ap (λ x. alone_in (record old { alone = x }) q) alone) (λ i. ap (λ x. is_free (record old.memory { free = x }) i) free)
              (wide_known narrow payload payload n m m step slots is.show key slot holds (cell_of old.memory) (alone_in old) (alone_in old) (is_free old.memory) (is_free old.memory) far is.known
              unknown.0 (λ q apart. refl) unknown.1 not_free (λ i other. refl));
          counted = subst (AreCounted new) (more_wide far) counted;
          few = more_few held;
        }

        pub read_to_narrow : IsReadTo row n old → m ≤ narrow → new.memory.held ≡ with_kept old.memory.held key slot → ((q : List ℕ) → alone_in new q ≡ moved (alone_in old) key m q) → IsReadTo row m new
        read_to_narrow read near held alone place =
            ap (read_cells row place) it
            ∙ read_narrow row place n (slots, alone_in old) (read place) key slot (held_next (Ok (Some (key, slot))) holds) (ap (λ (j : ℕ). is_twin row j (alone_in old key)) (sym it) ∙ twin) many (omega (arith, near, next))
            ∙ ap (λ (j : ℕ). Ok (with_slot slots key slot, moved (alone_in old) key j)) (sym it)
            ∙ (λ t. Ok ((sym held t).slots, (λ q. sym (alone q) t)))

        pub read_to_wide : IsReadTo row n old → narrow < m → new.memory.held ≡ with_kept old.memory.held key slot → new.alone ≡ old.alone → IsReadTo row m new
        read_to_wide read far held alone place =
            ap (read_cells row place) it
            ∙ read_wide row place n (slots, alone_in old) (read place) key slot (held_next (Ok (Some (key, slot))) holds) (ap (λ (j : ℕ). is_twin row j (alone_in old key)) (sym it) ∙ twin) many (omega (arith, far, next))
            ∙ (λ t. Ok ((sym held t).slots, alone_in (record old { alone = sym alone t })))

-- ---- all cells

-- before the first cell behind the head
pub none_loaded : (row : List (Option (List ℕ))) (ages : Ages) (new : Loaded) → new.memory.held ≡ record { slots = no_slots; ages = ages } → ((key : List ℕ) → cell_of new.memory key ≡ None) → ((i : ℕ) → is_free new.memory i ≡ false) → ((key : List ℕ) → alone_in new key ≡ None) → AreCounted new 0 → slot_count no_slots ≡ 0 → IsLoadedFrom row 0 new
none_loaded row ages new held keys free alone counted none = record {
  show = subst (λ (c : Contents). Show (narrow_in row) (cell_in row) 0 c.slots) (sym held) (none_show (narrow_in row) (cell_in row));
  known = none_known (narrow_in row) (cell_in row) (cell_of new.memory) (alone_in new) (is_free new.memory) keys alone free;
  counted = subst (AreCounted new) (let none' : 0 ≡ 0 - narrow_in row = omega arith in none') counted;
  few = omega (arith, ap (λ (c : Contents). slot_count c.slots) held, none);
}

pub none_read : (row : List (Option (List ℕ))) (ages : Ages) (new : Loaded) → new.memory.held ≡ record { slots = no_slots; ages = ages } → ((key : List ℕ) → alone_in new key ≡ None) → IsReadTo row 0 new
none_read row ages new held alone place = (λ t. Ok ((sym held t).slots, (λ q. sym (alone q) t)))

-- behind the last
pub all_loaded : (row : List (Option (List ℕ))) (head : Head) (loaded : Loaded) (n : ℕ) → IsHeadOf row head → n ≡ count_in row → IsLoadedFrom row n loaded → loaded.memory.held.ages ≡ head.ages → IsReadFrom row loaded
all_loaded row head loaded n is last from ages =
    let same : head ≡ head_for row loaded.memory.held.ages = (λ t. record { narrow = sym is.narrow t; count = sym is.wide t; ages = sym ages t }) in
    record {
      spelled = subst (IsSpelledHead (head_in row)) same is.spelled;
      read = is.read ∙ ap (λ (h : Head). Ok h) same;
      behind = subst (λ (i : ℕ). IsLoadedFrom row i loaded) last from;
    }

-- no slot was found
pub not_some : (o : Option Slot) → is_some o ≡ false → o ≡ None
not_some None e = refl
not_some (Some s) e = absurd cc

-- cells of which one is wrong, behind a right head
pub cells_wrong : (row : List (Option (List ℕ))) (place : ℕ → CellPlace) (head : Head) (at : ℕ) → IsRow row → IsHeadOf row head → read_cells row place (count_in row) ≡ Err at → left_in place row ≡ Err at
cells_wrong [] place head at is_row is wrong = absurd is_row
cells_wrong (None ∷ cells) place head at is_row is wrong = absurd is_row
cells_wrong (Some payload ∷ cells) place head at is_row is wrong = ap (left_behind place (Some payload ∷ cells)) is.read ∙ ap (with_ages head.ages) wrong
