-- A row that grows by a blank cell.
use Rattle.std.specs.Prelude.{slice_get, ◌==◌, ◌&&◌, ◌||◌, nat_le, nat_lt, if◌then◌else◌, IsTrue}
use Rattle.std.proofs.Common.{◌≡◌, ◌≢◌, ◌⊎◌, inl, inr, ⊎_elim, ℕ, zero, suc, ◌+◌, ◌-◌, ◌*◌, ◌/◌, ◌%◌, ◌<◌, ◌≤◌, Bool, true, false, Option, Some, None, List, [], ◌∷◌, ◌++◌, length, map, get_or, take, drop, refl, sym, ◌∙◌, ap, subst, arith, length-append, length-take, length-drop}
use Rattle.std.proofs.Math.ListN.{set, length-set}
use Rattle.std.proofs.lemmas.List.{length-map, length-take-le, get_or-take, get_or_append_left, get_or-append_right}
use Rattle.std.proofs.lemmas.Bool.{cases_eq, and_parts, leb-true}
use Rattle.std.proofs.lemmas.Bool.Decides.{nat_tests}
use Rattle.cas_cells.specs.Format.{frame_at, frame_place, frame_size, cell_place, half_size, is_open, number_of, first_wrong, wrong_in_cell, wrong_at, narrow_in, narrow_told, wide_in, wide_told, count_in, number_told, is_old_head, is_head, head_in, with_count, grown, IsPayload, IsImageOf}
use Rattle.cas_cells.specs.Torn.{Others, SameBelow}
use Rattle.cas_cells.specs.UnderWay.{change_held, payload_staged, IsNotKept, IsWrittenOver, KeepsOthers}
use Rattle.cas_cells.specs.Held.{IsShut, SoundAt, FramesHeld, CellHeld, OnDisk, IsRow, MayOpen, payload_held, frame_of, other}
use Rattle.cas_cells.specs.Cells.{ChangeIsUnderWay, PayloadIsStaged}
use Rattle.cas_cells.specs.declared.cell.Side.{Side}
use Rattle.cas_cells.specs.declared.cell.Side.TheVariants.{First, Second}
use Rattle.cas_cells.specs.declared.cell.Cell.{Cell}
use Rattle.cas_cells.specs.declared.change.Change.{Change}
use Rattle.cas_cells.specs.declared.change.Step.{Step}
use Rattle.cas_cells.specs.declared.change.Step.TheVariants.{Closed, Written}
use Rattle.cas_cells.proofs.Places.{IsSize, sized, size_second, place_second, cell_next}
use Rattle.cas_cells.proofs.Sound.{both_shut}
use Rattle.cas_cells.proofs.Tearing.{frame_within}
use Rattle.cas_cells.proofs.Rows.{AllSound, at_frames, all_sound, cell_sound, row_set, stands, frames_apart, get_set_same, get_set_other}
use Rattle.cas_cells.proofs.Counting.{row_length}
use Rattle.cas_cells.proofs.Using.{leaves_stand}

-- a cell in which nothing is wrong has two whole frames in which nothing is wrong
pub split_whole : (size : ℕ) → IsSize size → (f g : List ℕ) → wrong_in_cell size f g ≡ 2 * size → length f ≤ size → length g ≤ size → (first_wrong size None f ≡ size) × (first_wrong size (if is_open f then Some (number_of f) else None) g ≡ size)
split_whole size fit f g whole f_short g_short = go (nat_lt (first_wrong size None f) size) refl
  where
    go : (b : Bool) → nat_lt (first_wrong size None f) size ≡ b → (first_wrong size None f ≡ size) × (first_wrong size (if is_open f then Some (number_of f) else None) g ≡ size)
    go true less =
        let wrong : first_wrong size None f ≡ 2 * size = rw less at whole in
        absurd (omega (arith, wrong, f_short, fit.least))
    go false not_less =
        let rest : size + first_wrong size (if is_open f then Some (number_of f) else None) g ≡ 2 * size = rw not_less at whole in
        let far : size ≤ first_wrong size None f = grind (arith, nat_tests) in
        (omega (arith, far, f_short), omega (arith, rest))

pub get_some : {X : Type 0} (xs : List X) (i : ℕ) → i < length xs → (x : X) × (slice_get xs i ≡ Some x)
get_some [] i within = absurd (omega arith)
get_some (x ∷ xs) zero within = (x, refl)
get_some (x ∷ xs) (suc i) within = get_some xs i (omega arith)

pub get_within : {X : Type 0} (xs : List X) (i : ℕ) (x : X) → slice_get xs i ≡ Some x → i < length xs
get_within [] i x is = absurd (cc)
get_within (y ∷ xs) zero x is = omega arith
get_within (y ∷ xs) (suc i) x is = omega (arith, get_within xs i x is)

pub frame_below : (i n : ℕ) (s : Side) → i < n → frame_of i s < 2 * n
frame_below i n First less = omega arith
frame_below i n Second less = omega arith

get_push : {X : Type 0} (xs : List X) (x y : X) (j : ℕ) → slice_get (xs ++ x ∷ []) j ≡ Some y → (slice_get xs j ≡ Some y) ⊎ ((j ≡ length xs) × (x ≡ y))
get_push [] x y zero is = inr (refl, cc)
get_push [] x y (suc j) is = absurd (cc)
get_push (z ∷ xs) x y zero is = inl is
get_push (z ∷ xs) x y (suc j) is = ⊎_elim (λ there. inl there) (λ last. inr (ap suc last.0, last.1)) (get_push xs x y j is)

-- the tests of a head
record HeadParts (head : List ℕ) : Type 0 where
  kind : (get_or head 0 0 == 4) ≡ true
  long : nat_le 17 (length head) ≡ true
  narrow : nat_le (number_told 9 head) 4096 ≡ true
  wide : nat_le (number_told 13 head) 4096 ≡ true

head_parts : (head : List ℕ) → IsTrue (is_head head) → HeadParts head
head_parts head is =
    let parts = and_parts (get_or head 0 0 == 4) (nat_le 17 (length head) && (nat_le (number_told 9 head) 4096 && nat_le (number_told 13 head) 4096)) is in
    let rest = and_parts (nat_le 17 (length head)) (nat_le (number_told 9 head) 4096 && nat_le (number_told 13 head) 4096) parts.1 in
    let both = and_parts (nat_le (number_told 9 head) 4096) (nat_le (number_told 13 head) 4096) rest.1 in
    record { kind = parts.0; long = rest.0; narrow = both.0; wide = both.1 }

pub head_long : (head : List ℕ) → IsTrue (is_head head) → 17 ≤ length head
head_long head is = leb-true 17 (length head) (head_parts head is).long

or_true : (a b : Bool) → b ≡ true → (a || b) ≡ true
or_true true b is = refl
or_true false b is = is

-- a head that tells another number of wide cells tells it, and the same number of narrow ones
module _ (head : List ℕ) (n : ℕ) (long : 17 ≤ length head) where
  abbrev digits : List ℕ
  digits = 0 ∷ 0 ∷ n / 256 ∷ n % 256 ∷ []

  front : length (take 13 head) ≡ 13
  front = length-take-le 13 head (omega arith)

  middle : length (take 13 head ++ digits) ≡ 17
  middle = omega (arith, length-append (take 13 head) digits, front)

  pub length-with_count : length (with_count head n) ≡ length head
  length-with_count = omega (arith, length-append (take 13 head ++ digits) (drop 17 head), middle, length-drop 17 head)

  early : (k : ℕ) → k < 13 → get_or (with_count head n) k 0 ≡ get_or head k 0
  early k low =
      get_or_append_left (take 13 head ++ digits) (drop 17 head) 0 k (omega (arith, middle))
      ∙ get_or_append_left (take 13 head) digits 0 k (omega (arith, front))
      ∙ get_or-take 13 head k 0 low

  digit : (k : ℕ) → 13 ≤ k → k < 17 → get_or (with_count head n) k 0 ≡ get_or digits (k - 13) 0
  digit k low high =
      get_or_append_left (take 13 head ++ digits) (drop 17 head) 0 k (omega (arith, middle))
      ∙ get_or-append_right (take 13 head) digits 13 k 0 front low

  told : number_told 13 (with_count head n) ≡ n
  told =
      let b0 : get_or (with_count head n) 13 0 ≡ 0 = digit 13 (omega arith) (omega arith) in
      let b1 : get_or (with_count head n) 14 0 ≡ 0 = digit 14 (omega arith) (omega arith) in
      let b2 : get_or (with_count head n) 15 0 ≡ n / 256 = digit 15 (omega arith) (omega arith) in
      let b3 : get_or (with_count head n) 16 0 ≡ n % 256 = digit 16 (omega arith) (omega arith) in
      omega (arith, b0, b1, b2, b3)

  told_before : number_told 9 (with_count head n) ≡ number_told 9 head
  told_before =
      let b0 = early 9 (omega arith) in
      let b1 = early 10 (omega arith) in
      let b2 = early 11 (omega arith) in
      let b3 = early 12 (omega arith) in
      (λ i. ((b0 i * 256 + b1 i) * 256 + b2 i) * 256 + b3 i)

  is_head_still : IsTrue (is_head head) → n ≤ 4096 → is_head (with_count head n) ≡ true
  is_head_still is small =
      let parts = head_parts head is in
      let kind : (get_or (with_count head n) 0 0 == 4) ≡ true = rw (early 0 (omega arith)) parts.kind in
      let room : nat_le 17 (length (with_count head n)) ≡ true = rw length-with_count parts.long in
      let some : nat_le (number_told 9 (with_count head n)) 4096 ≡ true = rw told_before parts.narrow in
      let few : nat_le (number_told 13 (with_count head n)) 4096 ≡ true = rw told (grind (arith, nat_tests)) in
      rw (kind, room, some, few)

  pub wide_told-with_count : IsTrue (is_head head) → n ≤ 4096 → wide_told (with_count head n) ≡ n
  wide_told-with_count is small = rw (is_head_still is small) told

  pub narrow_told-with_count : IsTrue (is_head head) → n ≤ 4096 → narrow_told (with_count head n) ≡ narrow_told head
  narrow_told-with_count is small =
      ap (λ (b : Bool). if b then number_told 9 (with_count head n) else 0) (or_true (is_old_head (with_count head n)) (is_head (with_count head n)) (is_head_still is small))
      ∙ told_before
      ∙ ap (λ (b : Bool). if b then number_told 9 head else 0) (sym (or_true (is_old_head head) (is_head head) is))

-- the grown row is the row with another head and a blank cell behind it
pub grown_is : (cells : List (Option (List ℕ))) → IsRow cells → grown cells ≡ set cells 0 (Some (with_count (head_in cells) (wide_in cells + 1))) ++ None ∷ []
grown_is [] row = absurd row
grown_is (None ∷ cells) row = absurd row
grown_is (Some head ∷ cells) row = refl

pub grown_row : (cells : List (Option (List ℕ))) → IsRow cells → IsTrue (is_head (head_in cells)) → wide_in cells < 4096 → IsRow (grown cells)
grown_row [] row is few = absurd row
grown_row (None ∷ cells) row is few = absurd row
grown_row (Some head ∷ cells) row is few =
    let long = head_long head is in
    let more : length (cells ++ None ∷ []) ≡ narrow_told head + (wide_told head + 1) = omega (arith, length-append cells (None ∷ []), row) in
    more ∙ (λ k. (sym (narrow_told-with_count head (wide_told head + 1) long is (omega arith))) k + (sym (wide_told-with_count head (wide_told head + 1) long is (omega arith))) k)

-- it has as many narrow cells, one wide cell more, and a head of the same length
pub grown_narrow : (cells : List (Option (List ℕ))) → IsTrue (is_head (head_in cells)) → wide_in cells < 4096 → narrow_in (grown cells) ≡ narrow_in cells
grown_narrow [] is few = refl
grown_narrow (None ∷ cells) is few = refl
grown_narrow (Some head ∷ cells) is few = narrow_told-with_count head (wide_told head + 1) (head_long head is) is (omega arith)

pub grown_head : (cells : List (Option (List ℕ))) → IsRow cells → IsTrue (is_head (head_in cells)) → IsPayload 512 (head_in cells) → IsPayload 512 (head_in (grown cells))
grown_head [] row is fits = absurd row
grown_head (None ∷ cells) row is fits = absurd row
grown_head (Some head ∷ cells) row is fits =
    let same = length-with_count head (wide_told head + 1) (head_long head is) in
    record { not_empty = omega (arith, same, fits.not_empty); fits = omega (arith, same, fits.fits) }

module _ (narrow : ℕ) where
  short_frame : (disk : List ℕ) (k : ℕ) → length (frame_at narrow disk k) ≤ frame_size narrow k
  short_frame disk k = omega (arith, length-take (frame_size narrow k) (drop (frame_place narrow k) disk))

  -- a cell in which nothing is wrong lies within the disk
  pub cell_within : (disk : List ℕ) (i : ℕ) → wrong_at narrow disk i ≡ 2 * half_size narrow i → cell_place narrow (i + 1) ≤ length disk
  cell_within disk i whole =
      let second : length (frame_at narrow disk (2 * i + 1)) ≤ half_size narrow i = omega (arith, short_frame disk (2 * i + 1), size_second narrow i) in
      let both = split_whole (half_size narrow i) (sized narrow (2 * i)) (frame_at narrow disk (2 * i)) (frame_at narrow disk (2 * i + 1)) whole (short_frame disk (2 * i)) second in
      let long : length (frame_at narrow disk (2 * i + 1)) ≡ half_size narrow i = omega (arith, both.1, second) in
      let ends = frame_within narrow disk (2 * i + 1) (long ∙ sym (size_second narrow i)) in
      omega (arith, ends, size_second narrow i, place_second narrow i, cell_next narrow i)

  -- behind the last cell there is the place for one more
  pub room_behind : (disk : List ℕ) (cells : List Cell) → OnDisk narrow disk cells → IsRow (map payload_held cells) → cell_place narrow (count_in (map payload_held cells) + 1) ≤ length disk
  room_behind disk cells held row =
      let count = count_in (map payload_held cells) in
      let last = get_some cells count (omega (arith, row_length (map payload_held cells) row, length-map cells payload_held)) in
      cell_within disk count (cell_sound narrow disk count last.0 (held count last.0 last.1)).whole

  -- what stands below a place stays while what is behind it is written
  pub on_below : (cells : List Cell) (old c : List ℕ) (n : ℕ) → length cells ≤ n → OnDisk narrow old cells → SameBelow narrow (2 * n) old c → OnDisk narrow c cells
  on_below cells old c n few held same i cell is =
      let less : i < n = omega (arith, get_within cells i cell is) in
      subst (λ (f : List ℕ). FramesHeld (half_size narrow i) cell f (frame_at narrow c (frame_of i (other cell.side)))) (sym (same (frame_of i cell.side) (frame_below i n cell.side less)))
      (subst (λ (g : List ℕ). FramesHeld (half_size narrow i) cell (frame_at narrow old (frame_of i cell.side)) g) (sym (same (frame_of i (other cell.side)) (frame_below i n (other cell.side) less))) (held i cell is))

  pub below_stands : (cells : List Cell) (old c : List ℕ) (n : ℕ) → length cells ≤ n → OnDisk narrow old cells → IsRow (map payload_held cells) → narrow ≡ narrow_in (map payload_held cells) → SameBelow narrow (2 * n) old c → IsImageOf (map payload_held cells) c
  below_stands cells old c n few held row told same = stands narrow c (map payload_held cells) (all_sound narrow c cells (on_below cells old c n few held same)) row told

  pub row_push : (cells : List (Option (List ℕ))) (c : List ℕ) → AllSound narrow cells c → SoundAt narrow (length cells) None c → AllSound narrow (cells ++ None ∷ []) c
  row_push cells c each last j payload is = ⊎_elim
      (λ there. each j payload there)
      (λ here. subst (λ (k : ℕ). SoundAt narrow k payload c) (sym here.0) (subst (λ (p : Option (List ℕ)). SoundAt narrow (length cells) p c) here.1 last))
      (get_push cells None payload j is)

  pub disk_push : (cells : List Cell) (c : List ℕ) (cell : Cell) → OnDisk narrow c cells → CellHeld narrow c (length cells) cell → OnDisk narrow c (cells ++ cell ∷ [])
  disk_push cells c cell each last j cell' is = ⊎_elim
      (λ there. each j cell' there)
      (λ here. subst (λ (k : ℕ). CellHeld narrow c k cell') (sym here.0) (subst (λ (m : Cell). CellHeld narrow c (length cells) m) here.1 last))
      (get_push cells cell cell' j is)

  -- what the change of the head leaves, behind which a blank cell stands
  pub growing_stands : (cells : List Cell) (mid c : List ℕ) (cell : Cell) → OnDisk narrow mid cells → IsRow (map payload_held cells) → narrow ≡ narrow_in (map payload_held cells) → IsTrue (is_head (head_in (map payload_held cells))) → wide_in (map payload_held cells) < 4096 → slice_get cells 0 ≡ Some cell
      → IsShut (half_size narrow (length cells)) (frame_at narrow mid (2 * length cells)) → IsShut (half_size narrow (length cells)) (frame_at narrow mid (2 * length cells + 1)) → MayOpen narrow (frame_of 0 (other cell.side)) mid 0 (payload_held cell) (with_count (head_in (map payload_held cells)) (wide_in (map payload_held cells) + 1)) c
      → IsImageOf (map payload_held cells) c ⊎ IsImageOf (grown (map payload_held cells)) c
  growing_stands cells mid c cell held row told is few first blank1 blank2 opens = ⊎_elim
      (λ before. inl (leaves_stand narrow cells mid c 0 cell held row told first (record { others = opens.others; here = before })))
      (λ after. inr (stands narrow c (grown view) (subst (λ (l : List (Option (List ℕ))). AllSound narrow l c) (sym (grown_is view row)) (all after)) (grown_row view row is few) (told ∙ sym (grown_narrow view is few))))
      opens.here
    where
      view : List (Option (List ℕ))
      view = map payload_held cells

      head : List ℕ
      head = with_count (head_in (map payload_held cells)) (wide_in (map payload_held cells) + 1)

      all : SoundAt narrow 0 (Some head) c → AllSound narrow (set (map payload_held cells) 0 (Some head) ++ None ∷ []) c
      all after =
          let n = length cells in
          let view_long : length (map payload_held cells) ≡ n = length-map cells payload_held in
          let some : 0 < n = omega (arith, row_length (map payload_held cells) row, view_long) in
          let apart = frames_apart 0 n (other cell.side) (λ none. let zero_long : n ≡ 0 = none in absurd (omega arith)) in
          let shut1 : IsShut (half_size narrow n) (frame_at narrow c (2 * n)) = subst (IsShut (half_size narrow n)) (sym (opens.others (2 * n) apart.0)) blank1 in
          let shut2 : IsShut (half_size narrow n) (frame_at narrow c (2 * n + 1)) = subst (IsShut (half_size narrow n)) (sym (opens.others (2 * n + 1) apart.1)) blank2 in
          let blank : SoundAt narrow n None c = at_frames narrow c n None (both_shut (half_size narrow n) (sized narrow (2 * n)) (frame_at narrow c (2 * n)) (frame_at narrow c (2 * n + 1)) shut1 shut2) in
          let long : length (set (map payload_held cells) 0 (Some head)) ≡ n = length-set (map payload_held cells) 0 (Some head) ∙ view_long in
          row_push (set (map payload_held cells) 0 (Some head)) c
          (row_set narrow (map payload_held cells) mid c 0 (other cell.side) (Some head) (all_sound narrow mid cells held) opens.others (omega (arith, view_long)) after)
          (subst (λ (k : ℕ). SoundAt narrow k None c) (sym long) blank)

  -- the blank cell behind the row is still blank
  pub blank_behind : (cells : List Cell) (mid new : List ℕ) (side : Side) → 0 < length cells → Others narrow (frame_of 0 side) mid new → IsShut (half_size narrow (length cells)) (frame_at narrow mid (2 * length cells)) × IsShut (half_size narrow (length cells)) (frame_at narrow mid (2 * length cells + 1)) → IsShut (half_size narrow (length cells)) (frame_at narrow new (2 * length cells)) × IsShut (half_size narrow (length cells)) (frame_at narrow new (2 * length cells + 1))
  blank_behind cells mid new side some others shut =
      let apart = frames_apart 0 (length cells) side (λ none. let zero_long : length cells ≡ 0 = none in absurd (omega arith)) in
      (subst (IsShut (half_size narrow (length cells))) (sym (others (2 * length cells) apart.0)) shut.0, subst (IsShut (half_size narrow (length cells))) (sym (others (2 * length cells + 1) apart.1)) shut.1)

  not_kept_staged : (disk : List ℕ) (i : ℕ) (cell : Cell) (step : Step) → IsNotKept step → PayloadIsStaged narrow disk i cell step
  not_kept_staged disk i cell Closed unkept = tt
  not_kept_staged disk i cell (Written staged) unkept = λ kept. let both : true ≡ false = sym kept ∙ unkept in absurd (cc)

  same_staged : (old new : List ℕ) (i : ℕ) (cell : Cell) (step : Step) → frame_at narrow new (frame_of i (other cell.side)) ≡ frame_at narrow old (frame_of i (other cell.side)) → PayloadIsStaged narrow old i cell step → PayloadIsStaged narrow new i cell step
  same_staged old new i cell Closed same staged = tt
  same_staged old new i cell (Written staged) same holds = λ kept. ap (λ (l : List ℕ). drop 1 l) same ∙ holds kept

  -- a change under way is still under way after a change of cell 0 was given up
  pub still_under_way : (old new : List ℕ) (cells : List Cell) (cell cell' : Cell) (change change' : Option Change) → ChangeIsUnderWay narrow old cells change → IsWrittenOver 0 change' → KeepsOthers 0 change change' → change_held change' ≡ change_held change → slice_get cells 0 ≡ Some cell → (cell.spare_open ≡ false → cell'.spare_open ≡ false)
      → ((j : ℕ) (s : Side) → j < length cells → j ≢ 0 → frame_at narrow new (frame_of j s) ≡ frame_at narrow old (frame_of j s)) → ChangeIsUnderWay narrow new (set cells 0 cell') change'
  still_under_way old new cells cell cell' change None way over others held first shut frames = tt
  still_under_way old new cells cell cell' None (Some after) way over others held first shut frames = absurd (cc)
  still_under_way old new cells cell cell' (Some before) (Some after) way over others held first shut frames = λ (m : Cell) (is : slice_get (set cells 0 cell') after.cell ≡ Some m).
      let both : (after.cell, payload_staged after.step) ≡ (before.cell, payload_staged before.step) = cc in
      let same : after.cell ≡ before.cell = ap (λ (x : ℕ × Option (List ℕ)). x.0) both in
      elim (cases_eq after.cell 0) [
        | inl at_0 ↦
            let is_0 : slice_get (set cells 0 cell') 0 ≡ Some m = subst (λ (k : ℕ). slice_get (set cells 0 cell') k ≡ Some m) at_0 is in
            let own : slice_get (set cells 0 cell') 0 ≡ Some cell' = get_set_same cells 0 cell' (get_within cells 0 cell first) in
            let two : Some cell' ≡ Some m = sym own ∙ is_0 in
            let this : cell' ≡ m = cc in
            let was_0 : before.cell ≡ 0 = sym same ∙ at_0 in
            let was = way cell (subst (λ (k : ℕ). slice_get cells k ≡ Some cell) (sym was_0) first) in
            (subst (λ (x : Cell). x.spare_open ≡ false) this (shut was.0), not_kept_staged new after.cell m after.step (over at_0))
        | inr apart ↦
            let kept : Some after ≡ Some before = others (λ was_0. apart (same ∙ was_0)) in
            let this : after ≡ before = cc in
            let there : slice_get cells after.cell ≡ Some m = sym (get_set_other cells 0 after.cell cell' apart) ∙ is in
            let was = way m (subst (λ (k : ℕ). slice_get cells k ≡ Some m) same there) in
            let staged : PayloadIsStaged narrow old after.cell m after.step = subst (λ (ch : Change). PayloadIsStaged narrow old ch.cell m ch.step) (sym this) was.1 in
            (was.0, same_staged old new after.cell m after.step (frames after.cell (other m.side) (get_within cells after.cell m there) apart) staged)
      ]
