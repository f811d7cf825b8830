-- What a cell of two frames is in which nothing is wrong.
use Rattle.std.specs.Prelude.{◌==◌, nat_lt, if◌then◌else◌, MatchBool, MatchOption, IfOk}
use Rattle.std.proofs.Common.{◌≡◌, ◌≢◌, ℕ, ◌+◌, ◌-◌, ◌*◌, ◌<◌, ◌≤◌, min, Bool, true, false, Option, Some, None, List, [], ◌∷◌, length, map, get_or, take, drop, refl, sym, ◌∙◌, ap, subst, arith, length-take, length-drop, Result, Ok, Err}
use Rattle.std.proofs.lemmas.List.{length-map, take_min, drop_min, take-take, drop-take, drop-drop}
use Rattle.std.proofs.lemmas.Bool.Decides.{nat_tests}
use Rattle.cas_cells.specs.Format.{frame_at, cell_place, half_size, narrow_told, wide_told, narrow_in, head_in, IsPayload, is_open, number_of, payload_in, next, is_wrong_number, first_wrong, wrong_in_cell, wrong_at, payload_at, wrong_from, foreign_at, count_told}
use Rattle.cas_cells.specs.Held.{IsFrame, IsShut, IsOlder, IsBlank, IsNew, FramesHeld, HeldIn, CellHeld, SoundAt, OnDisk, IsRow, HoldsWithin, payload_held, frame_of, other, on}
use Rattle.cas_cells.specs.declared.cell.Side.{Side}
use Rattle.cas_cells.specs.declared.cell.Side.TheVariants.{First, Second}
use Rattle.cas_cells.specs.declared.cell.Cell.{Cell}
use Rattle.cas_cells.proofs.Places.{IsSize, size_second, place_second, first_place, first_size, first_frames}
use Rattle.cas_cells.proofs.Frames.{right_of, frame_of_right, shut_of}
use Rattle.cas_disk.specs.Disk.{Keeps, ContinuesOnly}
use Rattle.cas_disk.proofs.Moments.{weaker, then_on}
use Rattle.cas_cells.specs.Reading.{OnlyRead}
use Rattle.cas_cells.proofs.Rows.{cell_sound}
use Rattle.cas_cells.proofs.Zeros.{zero_past}
use Rattle.cas_cells.proofs.Growing.{split_whole, get_some}

module _ (size : ℕ) (fit : IsSize size) where
  small_number : (taken : Option ℕ) (n : ℕ) → is_wrong_number taken n ≡ false → n < 3
  small_number None n right = grind (arith, nat_tests)
  small_number (Some t) n right = grind (arith, nat_tests)

  not_taken : (t n : ℕ) → is_wrong_number (Some t) n ≡ false → n ≢ t
  not_taken t n right same = let is : (n == t) ≡ true = grind (arith, nat_tests) in grind (arith, nat_tests)

  -- two frames in which nothing is wrong
  pub record Whole (f g : List ℕ) : Type 0 where
    pub whole : wrong_in_cell size f g ≡ 2 * size
    pub f_short : length f ≤ size
    pub g_short : length g ≤ size
    pub f_byte : get_or f 3 0 < 256
    pub g_byte : get_or g 3 0 < 256

  module _ (f g : List ℕ) (w : Whole f g) where
    first_right : first_wrong size None f ≡ size
    first_right = (split_whole size fit f g w.whole w.f_short w.g_short).0

    second_right : (b : Bool) → is_open f ≡ b → first_wrong size (if b then Some (number_of f) else None) g ≡ size
    second_right b is = subst (λ (x : Bool). first_wrong size (if x then Some (number_of f) else None) g ≡ size) is (split_whole size fit f g w.whole w.f_short w.g_short).1

    pub first_frame : is_open f ≡ true → IsFrame size (number_of f) (payload_in f) f
    first_frame opened =
        let right = right_of size fit None f opened first_right w.f_short in
        frame_of_right size fit None f opened (small_number None (number_of f) right.number) w.f_byte right

    pub first_shut : is_open f ≡ false → IsShut size f
    first_shut closed = shut_of size fit None f closed first_right w.f_short

    pub second_frame : is_open g ≡ true → IsFrame size (number_of g) (payload_in g) g
    second_frame opened = go (is_open f) refl
      where
        go : (b : Bool) → is_open f ≡ b → IsFrame size (number_of g) (payload_in g) g
        go true is = let right = right_of size fit (Some (number_of f)) g opened (second_right true is) w.g_short in
            frame_of_right size fit (Some (number_of f)) g opened (small_number (Some (number_of f)) (number_of g) right.number) w.g_byte right
        go false is = let right = right_of size fit None g opened (second_right false is) w.g_short in
            frame_of_right size fit None g opened (small_number None (number_of g) right.number) w.g_byte right

    pub second_shut : is_open g ≡ false → IsShut size g
    second_shut closed = go (is_open f) refl
      where
        go : (b : Bool) → is_open f ≡ b → IsShut size g
        go true is = shut_of size fit (Some (number_of f)) g closed (second_right true is) w.g_short
        go false is = shut_of size fit None g closed (second_right false is) w.g_short

    apart : is_open f ≡ true → is_open g ≡ true → number_of g ≢ number_of f
    apart f_open g_open = not_taken (number_of f) (number_of g) (right_of size fit (Some (number_of f)) g g_open (second_right true f_open) w.g_short).number

    pub first_spare : is_open g ≡ true → ((is_open f ≡ true) → number_of g ≡ next (number_of f)) → MatchBool (is_open f) (IsOlder size (number_of g) f) (IsShut size f)
    first_spare g_open follows = go (is_open f) refl
      where
        go : (b : Bool) → is_open f ≡ b → MatchBool b (IsOlder size (number_of g) f) (IsShut size f)
        go true is = (number_of f, payload_in f, sym (follows is), first_frame is)
        go false is = first_shut is

    pub second_spare : is_open f ≡ true → ((is_open g ≡ true) → (number_of g == next (number_of f)) ≡ false) → MatchBool (is_open g) (IsOlder size (number_of f) g) (IsShut size g)
    second_spare f_open older = go (is_open g) refl
      where
        go : (b : Bool) → is_open g ≡ b → MatchBool b (IsOlder size (number_of f) g) (IsShut size g)
        go true is =
            let n = number_of f in
            let k = number_of g in
            let n_small : n < 3 = (first_frame f_open).small in
            let k_small : k < 3 = (second_frame is).small in
            let differ : k ≢ n = apart f_open is in
            let not_next : (k == next n) ≡ false = older is in
            let before : next k ≡ n = grind (arith, nat_tests) in
            (k, payload_in g, before, second_frame is)
        go false is = second_shut is

  -- a cell in memory of these frames, with this current one
  pub held_current : (cell : Cell) (p current spare : List ℕ) (n : ℕ) (o : Bool) → payload_held cell ≡ Some p → cell.number ≡ n → cell.spare_open ≡ o → IsFrame size n p current → MatchBool o (IsOlder size n spare) (IsShut size spare) → length spare ≤ cell.spare_used → FramesHeld size cell current spare
  held_current cell p current spare n o pay number spare_is frame there used = record {
    in_current = subst (λ (x : Option (List ℕ)). MatchOption x (IsBlank cell × IsShut size current) (λ q. IsFrame size cell.number q current)) (sym pay) (subst (λ (m : ℕ). IsFrame size m p current) (sym number) frame);
    in_spare = subst (λ (x : Bool). MatchBool x (IsOlder size cell.number spare) (IsShut size spare)) (sym spare_is) (subst (λ (m : ℕ). MatchBool o (IsOlder size m spare) (IsShut size spare)) (sym number) there);
    in_rest = zero_past cell.spare_used spare (omega (arith, used));
  }

  pub held_on : (cell : Cell) (side : Side) (f g : List ℕ) → cell.side ≡ side → FramesHeld size cell (on side f g) (on (other side) f g) → HeldIn size f g cell
  held_on cell side f g is held = subst (λ (s : Side). FramesHeld size cell (on s f g) (on (other s) f g)) (sym is) held

  pub held_blank : (cell : Cell) (f g : List ℕ) → IsNew cell → payload_held cell ≡ None → IsShut size f → IsShut size g → HeldIn size f g cell
  held_blank cell f g new none f_shut g_shut = let blank = new.blank in held_on cell Second f g blank.side (record {
    in_current = subst (λ (x : Option (List ℕ)). MatchOption x (IsBlank cell × IsShut size g) (λ q. IsFrame size cell.number q g)) (sym none) (blank, g_shut);
    in_spare = subst (λ (x : Bool). MatchBool x (IsOlder size cell.number f) (IsShut size f)) (sym blank.spare) f_shut;
    in_rest = zero_past cell.spare_used f (omega (arith, f_shut.whole, fit.most, new.used));
  })

module _ (narrow : ℕ) where
  -- the frames of a cell that was read
  pub frames_read : (disk bytes : List ℕ) (i count : ℕ) → count ≡ min (2 * half_size narrow i) (length disk - cell_place narrow i) → bytes ≡ take count (drop (cell_place narrow i) disk)
      → (take (half_size narrow i) bytes ≡ frame_at narrow disk (2 * i)) × (drop (half_size narrow i) bytes ≡ frame_at narrow disk (2 * i + 1))
  frames_read disk bytes i count size is =
      let half = half_size narrow i in
      let start = cell_place narrow i in
      let twice : half + half ≡ 2 * half = omega arith in
      let most : count ≡ min (2 * half) (length (drop start disk)) = omega (arith, size, length-drop start disk) in
      let all : bytes ≡ take (2 * half) (drop start disk) = is ∙ ap (λ (n : ℕ). take n (drop start disk)) most ∙ take_min (2 * half) (drop start disk) in
      let parts : bytes ≡ take (half + half) (drop start disk) = all ∙ ap (λ (n : ℕ). take n (drop start disk)) (sym twice) in (
        ap (λ (l : List ℕ). take half l) all ∙ take-take half (2 * half) (drop start disk) (omega arith),
        ap (λ (l : List ℕ). drop half l) parts ∙ drop-take half half (drop start disk) ∙ ap (λ (l : List ℕ). take half l) (drop-drop half start disk)
            ∙ (λ k. take ((sym (size_second narrow i)) k) (drop ((sym (place_second narrow i)) k) disk)),
      )

  pub held_read : (disk f g : List ℕ) (i : ℕ) (cell : Cell) → f ≡ frame_at narrow disk (2 * i) → g ≡ frame_at narrow disk (2 * i + 1) → HeldIn (half_size narrow i) f g cell → CellHeld narrow disk i cell
  held_read disk f g i cell f_is g_is held = go cell.side refl
    where
      at_disk : HeldIn (half_size narrow i) (frame_at narrow disk (2 * i)) (frame_at narrow disk (2 * i + 1)) cell
      at_disk = subst (λ (x : List ℕ). HeldIn (half_size narrow i) x (frame_at narrow disk (2 * i + 1)) cell) f_is (subst (λ (x : List ℕ). HeldIn (half_size narrow i) f x cell) g_is held)

      go : (s : Side) → cell.side ≡ s → CellHeld narrow disk i cell
      go s is = both s is (subst (λ (x : Side). FramesHeld (half_size narrow i) cell (on x (frame_at narrow disk (2 * i)) (frame_at narrow disk (2 * i + 1))) (on (other x) (frame_at narrow disk (2 * i)) (frame_at narrow disk (2 * i + 1)))) is at_disk)
        where
          both : (s : Side) → cell.side ≡ s → FramesHeld (half_size narrow i) cell (on s (frame_at narrow disk (2 * i)) (frame_at narrow disk (2 * i + 1))) (on (other s) (frame_at narrow disk (2 * i)) (frame_at narrow disk (2 * i + 1))) → CellHeld narrow disk i cell
          both First is held = subst (λ (x : Side). FramesHeld (half_size narrow i) cell (frame_at narrow disk (frame_of i x)) (frame_at narrow disk (frame_of i (other x)))) (sym is) held
          both Second is held = subst (λ (x : Side). FramesHeld (half_size narrow i) cell (frame_at narrow disk (frame_of i x)) (frame_at narrow disk (frame_of i (other x)))) (sym is) held

  -- what was read, cut behind the first frame
  pub halves_read : (disk bytes first second : List ℕ) (i count m : ℕ) → count ≡ min (2 * half_size narrow i) (length disk - cell_place narrow i) → bytes ≡ take count (drop (cell_place narrow i) disk) → m ≡ min count (half_size narrow i) → first ≡ take m bytes → second ≡ drop m bytes
      → (first ≡ frame_at narrow disk (2 * i)) × (second ≡ frame_at narrow disk (2 * i + 1))
  halves_read disk bytes first second i count m size is cut first_is second_is =
      let half = half_size narrow i in
      let long : length bytes ≡ count = ap length is ∙ omega (arith, length-take count (drop (cell_place narrow i) disk), length-drop (cell_place narrow i) disk, size) in
      let m_is : m ≡ min half (length bytes) = omega (arith, cut, long) in
      let frames = frames_read disk bytes i count size is in
      (first_is ∙ ap (λ (n : ℕ). take n bytes) m_is ∙ take_min half bytes ∙ frames.0, second_is ∙ ap (λ (n : ℕ). drop n bytes) m_is ∙ drop_min half bytes ∙ frames.1)

  -- the cells in memory so far are sound on the disk
  pub sound_so_far : (disk : List ℕ) (cells : List Cell) → OnDisk narrow disk cells → (j : ℕ) → j < length cells → wrong_at narrow disk j ≡ 2 * half_size narrow j
  sound_so_far disk cells held j less =
      let cell = get_some cells j less in
      (cell_sound narrow disk j cell.0 (held j cell.0 cell.1)).whole

-- what a cell in memory holds fits its frames
pub held_within : (size : ℕ) (f g : List ℕ) (cell : Cell) → HeldIn size f g cell → HoldsWithin size cell
held_within size f g cell held = go (payload_held cell) held.in_current
  where
    go : (o : Option (List ℕ)) → MatchOption o (IsBlank cell × IsShut size (on cell.side f g)) (λ p. IsFrame size cell.number p (on cell.side f g)) → MatchOption o (Unit {0}) (λ p. IsPayload size p)
    go None is = tt
    go (Some p) is = is.fits

-- a row that was read: cell 0, and as many cells as it tells
pub record RowRead (cells : List Cell) (narrow : ℕ) : Type 0 where
  pub row : IsRow (map payload_held cells)
  pub narrow_is : narrow ≡ narrow_in (map payload_held cells)
  pub head : IsPayload 512 (head_in (map payload_held cells))

pub row_read : (cells : List Cell) (first : Cell) (head : List ℕ) (n w : ℕ) → take 1 cells ≡ first ∷ [] → payload_held first ≡ Some head → HoldsWithin (half_size 0 0) first → n ≡ narrow_told head → w ≡ wide_told head → length cells ≡ 1 + (n + w) → RowRead cells n
row_read [] first head n w one held within narrow wide long = absurd (omega (arith, long))
row_read (cell ∷ cells) first head n w one held within narrow wide long =
    let same : cell ≡ first = cc in
    let is : payload_held cell ≡ Some head = ap payload_held same ∙ held in
    let fits : IsPayload (half_size 0 0) head = subst (λ (o : Option (List ℕ)). MatchOption o (Unit {0}) (λ p. IsPayload (half_size 0 0) p)) held within in
    let all : length (map payload_held cells) ≡ count_told head = omega (arith, length-map cells payload_held, long, narrow, wide) in
    record {
      row = subst (λ (o : Option (List ℕ)). IsRow (o ∷ map payload_held cells)) (sym is) all;
      narrow_is = subst (λ (o : Option (List ℕ)). n ≡ narrow_in (o ∷ map payload_held cells)) (sym is) narrow;
      head = subst (λ (o : Option (List ℕ)). IsPayload 512 (head_in (o ∷ map payload_held cells))) (sym is) (subst (λ (m : ℕ). IsPayload m head) (first_size 0) fits);
    }

-- a cell that was made with these parts
pub made : {E : Type 0} (r : Result Cell E) (Q : Cell → Type 0) (p : List ℕ) (side : Side) (n : ℕ) (o : Bool) (size : ℕ) → IfOk r (λ c. payload_held c ≡ Some p) → IfOk r (λ c. c.side ≡ side) → IfOk r (λ c. c.number ≡ n) → IfOk r (λ c. c.spare_open ≡ o) → IfOk r (λ c. c.spare_used ≡ size)
    → ((cell : Cell) → payload_held cell ≡ Some p → cell.side ≡ side → cell.number ≡ n → cell.spare_open ≡ o → cell.spare_used ≡ size → Q cell) → IfOk r Q
made (Ok cell) Q p side n o size pay is_side number spare used make = make cell pay is_side number spare used
made (Err e) Q p side n o size pay is_side number spare used make = pay

-- one read more
pub read_more : {D : Type 0} (moment : D → ℕ) (left_since : D → ℕ → List ℕ → Type 0) (seen : D → List ℕ) (may_leave : D → List ℕ → Type 0) (old mid new : D) → OnlyRead moment left_since seen may_leave old mid → Keeps (seen mid) (seen new) (may_leave mid) (may_leave new) → ContinuesOnly moment left_since mid new (λ c. c ≡ seen mid)
    → OnlyRead moment left_since seen may_leave old new
read_more moment left_since seen may_leave old mid new so_far keeps run = record {
  content = keeps.content ∙ so_far.content;
  durable = λ image left. so_far.durable image (keeps.outcomes image left) ∙ sym keeps.content;
  any_moment = then_on moment left_since old mid new (λ c. c ≡ seen old) so_far.any_moment (weaker moment left_since mid new (λ c. c ≡ seen mid) (λ c. c ≡ seen old) (λ image is. is ∙ so_far.content) run);
}

-- a wrong byte in cell 0 is the first
pub foreign_first : (disk : List ℕ) (at : ℕ) → wrong_at 0 disk 0 < 2 * half_size 0 0 → at ≡ cell_place 0 0 + wrong_at 0 disk 0 → foreign_at disk ≡ Some at
foreign_first disk at wrong is = go (wrong_at 0 disk 0) refl
  where
    go : (w : ℕ) → wrong_at 0 disk 0 ≡ w → foreign_at disk ≡ Some at
    go w same =
        let low : w < 1024 = omega (arith, wrong, same, first_size 0) in
        let less : nat_lt w 1024 ≡ true = grind (arith, nat_tests) in
        let place : w ≡ at = omega (arith, same, is, first_place 0) in
        rw (same, less) (ap (λ (n : ℕ). Some n) place)

-- a cell 0 that is blank is foreign
pub foreign_blank : (disk : List ℕ) → SoundAt 0 0 None disk → foreign_at disk ≡ Some 0
foreign_blank disk is =
    let whole : wrong_at 0 disk 0 ≡ 1024 = is.whole ∙ ap (λ (n : ℕ). 2 * n) (first_size 0) in
    let same : payload_at 0 disk 0 ≡ None = is.same in
    rw (whole, same)

-- behind a cell 0 without fault the first wrong byte is that of the cells that it tells
pub foreign_rest : (disk head : List ℕ) (x : Option ℕ) → SoundAt 0 0 (Some head) disk → wrong_from (narrow_told head) (count_told head) 1 disk ≡ x → foreign_at disk ≡ x
foreign_rest disk head x is rest =
    let whole : wrong_at 0 disk 0 ≡ 1024 = is.whole ∙ ap (λ (n : ℕ). 2 * n) (first_size 0) in
    let same : payload_at 0 disk 0 ≡ Some head = is.same in
    rw (whole, same, rest)

-- a cell 0 that is held with no narrow cells behind it is held with any
pub first_held : (narrow : ℕ) (disk : List ℕ) (cell : Cell) → CellHeld 0 disk 0 cell → CellHeld narrow disk 0 cell
first_held narrow disk cell held = go cell.side held
  where
    go : (s : Side) → FramesHeld (half_size 0 0) cell (frame_at 0 disk (frame_of 0 s)) (frame_at 0 disk (frame_of 0 (other s))) → FramesHeld (half_size narrow 0) cell (frame_at narrow disk (frame_of 0 s)) (frame_at narrow disk (frame_of 0 (other s)))
    go First h = subst (λ (x : ℕ × (List ℕ × List ℕ)). FramesHeld x.0 cell x.1.0 x.1.1) (first_frames 0 narrow disk) h
    go Second h = subst (λ (x : ℕ × (List ℕ × List ℕ)). FramesHeld x.0 cell x.1.1 x.1.0) (first_frames 0 narrow disk) h
