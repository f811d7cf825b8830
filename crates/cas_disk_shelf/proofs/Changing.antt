-- What a change of a cell leaves of a shelf.
use Rattle.std.proofs.Common.{◌≡◌, ℕ, zero, suc, ◌+◌, ◌<◌, ◌≤◌, Bool, List, [], ◌∷◌, ◌++◌, length, Option, Some, None, Ok, refl, sym, ap, subst, ◌∙◌, arith}
use Rattle.std.proofs.Math.ListN.{set}
use Rattle.cas_slot.specs.declared.slot.Slot.{Slot}
use Rattle.cas_slot.specs.declared.ages.Ages.{Ages}
use Rattle.cas_slot.specs.Contents.{Contents, with_kept, without_kept}
use Rattle.cas_slot.specs.Slots.{slot_count}
use Rattle.cas_cells.specs.Format.{count_in, narrow_in, wide_in, head_in, narrow_told, wide_told, count_told, grown, with_count}
use Rattle.cas_cells.specs.Held.{IsRow}
use Rattle.cas_disk_shelf.specs.declared.codec.Head.{Head}
use Rattle.cas_disk_shelf.specs.Head.{head_spelling, FitsHead}
use Rattle.cas_disk_shelf.specs.HeadLaws.{narrow-told, wide-told, other-count}
use Rattle.cas_disk_shelf.specs.Image.{entry_held, moved, removed}
use Rattle.cas_disk_shelf.specs.KeyLaws.{fewer_slots}
use Rattle.cas_disk_shelf.specs.Memory.{InStep, AreOf, head_for, freed, taken}
use Rattle.cas_disk_shelf.proofs.Stepping.{head_in_step, put_in_step, drop_in_step, free_in_step}

pub narrow_behind : (cells : List (Option (List ℕ))) (i : ℕ) (cell : Option (List ℕ)) → 0 < i → narrow_in (set cells i cell) ≡ narrow_in cells
narrow_behind [] i cell pos = refl
narrow_behind (c ∷ cells) zero cell pos = absurd (omega arith)
narrow_behind (None ∷ cells) (suc i) cell pos = refl
narrow_behind (Some head ∷ cells) (suc i) cell pos = refl

pub wide_behind : (cells : List (Option (List ℕ))) (i : ℕ) (cell : Option (List ℕ)) → 0 < i → wide_in (set cells i cell) ≡ wide_in cells
wide_behind [] i cell pos = refl
wide_behind (c ∷ cells) zero cell pos = absurd (omega arith)
wide_behind (None ∷ cells) (suc i) cell pos = refl
wide_behind (Some head ∷ cells) (suc i) cell pos = refl

pub head_behind : (cells : List (Option (List ℕ))) (i : ℕ) (cell : Option (List ℕ)) → 0 < i → head_in (set cells i cell) ≡ head_in cells
head_behind [] i cell pos = refl
head_behind (c ∷ cells) zero cell pos = absurd (omega arith)
head_behind (None ∷ cells) (suc i) cell pos = refl
head_behind (Some head ∷ cells) (suc i) cell pos = refl

-- the head stays where a cell behind it changes
behind : (cells : List (Option (List ℕ))) (i : ℕ) (cell : Option (List ℕ)) (old new : Contents) (cell_of cell_of' : List ℕ → Option ℕ) (is_free is_free' : ℕ → Bool) → 0 < i → new.ages ≡ old.ages → slot_count new.slots ≤ 4096 → AreOf cells old cell_of is_free → InStep (narrow_in cells) new cell_of' is_free' (set cells i cell) → AreOf (set cells i cell) new cell_of' is_free'
behind cells i cell old new cell_of cell_of' is_free is_free' pos ages few are in_step =
    let same : head_for cells old.ages ≡ head_for (set cells i cell) new.ages = (λ t. record { narrow = sym (narrow_behind cells i cell pos) t; count = sym (wide_behind cells i cell pos) t; ages = sym ages t }) in
    record {
      fits = subst FitsHead same are.fits;
      head = head_behind cells i cell pos ∙ are.head ∙ ap head_spelling same;
      few = few;
      in_step = subst (λ (n : ℕ). InStep n new cell_of' is_free' (set cells i cell)) (sym (narrow_behind cells i cell pos)) in_step;
    }

pub first_told : (cells : List (Option (List ℕ))) (head : List ℕ) → IsRow cells → (narrow_in (set cells 0 (Some head)) ≡ narrow_told head) × (wide_in (set cells 0 (Some head)) ≡ wide_told head) × (head_in (set cells 0 (Some head)) ≡ head)
first_told [] head row = absurd row
first_told (c ∷ cells) head row = (refl, refl, refl)

-- a head of the new form in front of cells that it tells
pub renewed_are : (cells : List (Option (List ℕ))) (contents : Contents) (cell_of : List ℕ → Option ℕ) (is_free : ℕ → Bool) (ages : Ages) → IsRow cells → FitsHead (head_for cells ages) → slot_count contents.slots ≤ 4096 → InStep (narrow_in cells) contents cell_of is_free cells
    → AreOf (set cells 0 (Some (head_spelling (head_for cells ages)))) (record contents { ages = ages }) cell_of is_free
renewed_are cells contents cell_of is_free ages row fits few in_step =
    let head : Head = head_for cells ages in
    let payload : List ℕ = head_spelling head in
    let told = first_told cells payload row in
    let narrow : narrow_in (set cells 0 (Some payload)) ≡ narrow_in cells = told.0 ∙ narrow-told head fits in
    let same : head ≡ head_for (set cells 0 (Some payload)) ages = (λ t. record { narrow = sym narrow t; count = sym (told.1 ∙ wide-told head fits) t; ages = ages }) in
    record {
      fits = subst FitsHead same fits;
      head = told.2 ∙ ap head_spelling same;
      few = few;
      in_step = subst (λ (n : ℕ). InStep n (record contents { ages = ages }) cell_of is_free (set cells 0 (Some payload))) (sym narrow) (again payload (head_in_step (narrow_in cells) contents cell_of is_free cells in_step (Some payload)));
    }
  where
    again : (payload : List ℕ) → InStep (narrow_in cells) contents cell_of is_free (set cells 0 (Some payload)) → InStep (narrow_in cells) (record contents { ages = ages }) cell_of is_free (set cells 0 (Some payload))
    again payload is = record { each = is.each; free = is.free; held = is.held; none = is.none }

module _ (cells : List (Option (List ℕ))) (contents : Contents) (cell_of : List ℕ → Option ℕ) (is_free : ℕ → Bool) (are : AreOf cells contents cell_of is_free) where
  pub put_are : (key : List ℕ) (slot : Slot) (i : ℕ) (cell : Option (List ℕ)) → entry_held cell ≡ Ok (Some (key, slot)) → narrow_in cells < i → i < length cells → ((q : List ℕ) → cell_of q ≡ Some i → key ≡ q) → ((n : ℕ) → cell_of key ≡ Some n → n ≡ i) → slot_count (with_kept contents key slot).slots ≤ 4096
      → AreOf (set cells i cell) (with_kept contents key slot) (moved cell_of key i) (taken is_free i)
  put_are key slot i cell holds pos low no_other nowhere few =
      behind cells i cell contents (with_kept contents key slot) cell_of _ is_free _ (omega (arith, pos)) refl few are (put_in_step (narrow_in cells) contents cell_of is_free cells are.in_step key slot i cell holds pos low no_other nowhere)

  pub drop_are : (key : List ℕ) (i : ℕ) (cell : Option (List ℕ)) → entry_held cell ≡ Ok None → cell_of key ≡ Some i → AreOf (set cells i cell) (without_kept contents key) (removed cell_of key) (freed is_free i)
  drop_are key i cell holds own =
      behind cells i cell contents (without_kept contents key) cell_of _ is_free _ (let pos = (are.in_step.held key i own).1.behind in omega arith) refl (let less = fewer_slots contents.slots key in let few = are.few in omega (arith, less, few)) are (drop_in_step (narrow_in cells) contents cell_of is_free cells are.in_step key i cell holds own)

  -- another head that tells the same cells
  pub raise_are : (ages : Ages) → IsRow cells → FitsHead (head_for cells ages) → AreOf (set cells 0 (Some (head_spelling (head_for cells ages)))) (record contents { ages = ages }) cell_of is_free
  raise_are ages row fits = renewed_are cells contents cell_of is_free ages row fits are.few are.in_step

-- the head of a grown row
pub record IsGrown (row row' : List (Option (List ℕ))) (ages : Ages) : Type 0 where
  pub narrow : narrow_in row' ≡ narrow_in row
  pub wide : wide_in row' ≡ wide_in row + 1
  pub fits : FitsHead (head_for row' ages)
  pub head : head_in row' ≡ head_spelling (head_for row' ages)

pub grown_head : (row : List (Option (List ℕ))) (ages : Ages) → IsRow row → FitsHead (head_for row ages) → head_in row ≡ head_spelling (head_for row ages) → wide_in row < 4096 → IsGrown row (grown row) ages
grown_head [] ages is_row fits spelled room = absurd is_row
grown_head (None ∷ cells) ages is_row fits spelled room = absurd is_row
grown_head (Some head ∷ cells) ages is_row fits spelled room =
    let k : ℕ = narrow_told head in
    let n : ℕ = wide_told head in
    let next : Head = record { narrow = k; count = n + 1; ages = ages } in
    let next_fits : FitsHead next = record { narrow = fits.narrow; count = omega (arith, room); long = fits.long; small = fits.small } in
    let next_spelled : with_count head (n + 1) ≡ head_spelling next = ap (λ (l : List ℕ). with_count l (n + 1)) spelled ∙ other-count k n (n + 1) ages (omega (arith, room)) in
    let narrow : narrow_told (with_count head (n + 1)) ≡ k = ap narrow_told next_spelled ∙ narrow-told next next_fits in
    let wide : wide_told (with_count head (n + 1)) ≡ n + 1 = ap wide_told next_spelled ∙ wide-told next next_fits in
    let same : next ≡ head_for (grown (Some head ∷ cells)) ages = (λ t. record { narrow = sym narrow t; count = sym wide t; ages = ages }) in
    record { narrow = narrow; wide = wide; fits = subst FitsHead same next_fits; head = next_spelled ∙ ap head_spelling same }

-- what the head of a grown row tells
pub grown_told : (cells : List (Option (List ℕ))) (contents : Contents) (cell_of : List ℕ → Option ℕ) (is_free : ℕ → Bool) → AreOf cells contents cell_of is_free → IsRow cells → wide_in cells < 4096
    → (narrow_in (grown cells) ≡ narrow_in cells) × (wide_in (grown cells) ≡ wide_in cells + 1)
grown_told cells contents cell_of is_free are row room =
    let told = grown_head cells contents.ages row are.fits are.head room in
    (told.narrow, told.wide)

-- one cell more
pub grow_are : (cells : List (Option (List ℕ))) (contents : Contents) (cell_of : List ℕ → Option ℕ) (is_free : ℕ → Bool) → AreOf cells contents cell_of is_free → IsRow cells → wide_in cells < 4096 → AreOf (grown cells) contents cell_of (freed is_free (1 + count_in cells))
grow_are [] contents cell_of is_free are row room = absurd row
grow_are (None ∷ cells) contents cell_of is_free are row room = absurd row
grow_are (Some head ∷ cells) contents cell_of is_free are row room =
    let k : ℕ = narrow_told head in
    let next : Option (List ℕ) = Some (with_count head (wide_told head + 1)) in
    let told = grown_head (Some head ∷ cells) contents.ages row are.fits are.head room in
    let long : length (next ∷ cells) ≡ 1 + count_told head = omega (arith, row) in
    record {
      fits = told.fits;
      head = told.head;
      few = are.few;
      in_step = subst (λ (m : ℕ). InStep m contents cell_of (freed is_free (1 + count_told head)) (grown (Some head ∷ cells))) (sym told.narrow)
          (subst (λ (m : ℕ). InStep k contents cell_of (freed is_free m) (next ∷ cells ++ None ∷ [])) long
          (free_in_step k contents cell_of is_free (next ∷ cells) (head_in_step k contents cell_of is_free (Some head ∷ cells) are.in_step next) None refl (omega (arith, long))));
    }
