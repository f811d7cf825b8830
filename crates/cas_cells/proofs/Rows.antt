-- Rows of cells: what a disk stands for, where it is sound, and where it is not.
use Rattle.std.specs.Prelude.{nat_lt, slice_get}
use Rattle.std.proofs.Common.{◌≡◌, ◌≢◌, inl, inr, ℕ, zero, suc, ◌+◌, ◌*◌, ◌<◌, true, Option, Some, None, List, [], ◌∷◌, length, map, refl, sym, ◌∙◌, ap, subst, arith}
use Rattle.std.proofs.Math.ListN.{set}
use Rattle.std.proofs.lemmas.Bool.{cases_eq}
use Rattle.std.proofs.lemmas.Bool.Decides.{nat_tests}
use Rattle.cas_cells.specs.Format.{frame_at, cell_place, half_size, narrow_in, narrow_told, wrong_at, payload_at, wrong_from, payloads_from, count_told, IsImageOf}
use Rattle.cas_cells.specs.Torn.{Others}
use Rattle.cas_cells.specs.Held.{on, SoundAt, FramesHeld, CellHeld, OnDisk, IsRow, payload_held, frame_of, other}
use Rattle.cas_cells.specs.declared.cell.Side.{Side}
use Rattle.cas_cells.specs.declared.cell.Side.TheVariants.{First, Second}
use Rattle.cas_cells.specs.declared.cell.Cell.{Cell}
use Rattle.cas_cells.proofs.Sound.{IsCellSound, not_less}
use Rattle.cas_cells.proofs.Turning.{held_sound}
use Rattle.cas_cells.proofs.Places.{sized, first_size, wrong_first, payload_first}

pub get_set_same : {X : Type 0} (xs : List X) (i : ℕ) (x : X) → i < length xs → slice_get (set xs i x) i ≡ Some x
get_set_same [] i x within = absurd (omega arith)
get_set_same (y ∷ xs) zero x within = refl
get_set_same (y ∷ xs) (suc i) x within = get_set_same xs i x (omega arith)

pub get_set_other : {X : Type 0} (xs : List X) (i j : ℕ) (x : X) → j ≢ i → slice_get (set xs i x) j ≡ slice_get xs j
get_set_other [] i j x apart = refl
get_set_other (y ∷ xs) zero zero x apart = absurd (apart refl)
get_set_other (y ∷ xs) zero (suc j) x apart = refl
get_set_other (y ∷ xs) (suc i) zero x apart = refl
get_set_other (y ∷ xs) (suc i) (suc j) x apart = get_set_other xs i j x (λ same. apart (ap suc same))

pub map_set : {X Y : Type 0} (f : X → Y) (xs : List X) (i : ℕ) (x : X) → map f (set xs i x) ≡ set (map f xs) i (f x)
map_set f [] i x = refl
map_set f (y ∷ xs) zero x = refl
map_set f (y ∷ xs) (suc i) x = ap (λ l. f y ∷ l) (map_set f xs i x)

-- what stands in a mapped list comes from the list
pub unmap : {X Y : Type 0} (f : X → Y) (xs : List X) (i : ℕ) (y : Y) → slice_get (map f xs) i ≡ Some y → (x : X) × (slice_get xs i ≡ Some x) × (f x ≡ y)
unmap f [] i y is = absurd (cc)
unmap f (x ∷ xs) zero y is = (x, refl, cc)
unmap f (x ∷ xs) (suc i) y is = unmap f xs i y is

-- the frames of another cell are others
pub frames_apart : (i j : ℕ) (side : Side) → j ≢ i → (2 * j ≢ frame_of i side) × (2 * j + 1 ≢ frame_of i side)
frames_apart i j First apart = (λ same. apart (omega arith), λ same. absurd (omega arith))
frames_apart i j Second apart = (λ same. absurd (omega arith), λ same. apart (omega arith))

pub frame_of_apart : (i j : ℕ) (side side' : Side) → j ≢ i → frame_of j side' ≢ frame_of i side
frame_of_apart i j side First apart = (frames_apart i j side apart).0
frame_of_apart i j side Second apart = (frames_apart i j side apart).1

pub sides_apart : (i : ℕ) (side : Side) → frame_of i side ≢ frame_of i (other side)
sides_apart i First same = absurd (omega arith)
sides_apart i Second same = absurd (omega arith)

-- each of these cells is
abbrev pub AllSound : ℕ → List (Option (List ℕ)) → List ℕ → Type 0
AllSound narrow cells disk = (i : ℕ) (payload : Option (List ℕ)) → slice_get cells i ≡ Some payload → SoundAt narrow i payload disk

module _ (narrow : ℕ) where
  pub at_frames : (disk : List ℕ) (i : ℕ) (payload : Option (List ℕ)) → IsCellSound (half_size narrow i) payload (frame_at narrow disk (2 * i)) (frame_at narrow disk (2 * i + 1)) → SoundAt narrow i payload disk
  at_frames disk i payload is = record { whole = is.whole; same = is.same }

  from_frames : (disk : List ℕ) (i : ℕ) (payload : Option (List ℕ)) → SoundAt narrow i payload disk → IsCellSound (half_size narrow i) payload (frame_at narrow disk (2 * i)) (frame_at narrow disk (2 * i + 1))
  from_frames disk i payload is = record { whole = is.whole; same = is.same }

  -- the frames of a cell, from its current one and its spare
  pub sound_from : (side : Side) (disk : List ℕ) (i : ℕ) (payload : Option (List ℕ)) (current spare : List ℕ) → frame_at narrow disk (frame_of i side) ≡ current → frame_at narrow disk (frame_of i (other side)) ≡ spare
      → IsCellSound (half_size narrow i) payload (on side current spare) (on side spare current) → SoundAt narrow i payload disk
  sound_from First disk i payload current spare is_current is_spare is = at_frames disk i payload
      (subst (λ (f : List ℕ). IsCellSound (half_size narrow i) payload f (frame_at narrow disk (2 * i + 1))) (sym is_current) (subst (λ (g : List ℕ). IsCellSound (half_size narrow i) payload current g) (sym is_spare) is))
  sound_from Second disk i payload current spare is_current is_spare is = at_frames disk i payload
      (subst (λ (f : List ℕ). IsCellSound (half_size narrow i) payload f (frame_at narrow disk (2 * i + 1))) (sym is_spare) (subst (λ (g : List ℕ). IsCellSound (half_size narrow i) payload spare g) (sym is_current) is))

  pub cell_sound : (disk : List ℕ) (i : ℕ) (cell : Cell) → CellHeld narrow disk i cell → SoundAt narrow i (payload_held cell) disk
  cell_sound disk i cell held = sound_from cell.side disk i (payload_held cell) _ _ refl refl (held_sound (half_size narrow i) (sized narrow (2 * i)) cell _ _ held)

  pub all_sound : (disk : List ℕ) (cells : List Cell) → OnDisk narrow disk cells → AllSound narrow (map payload_held cells) disk
  all_sound disk cells held i payload is =
      let from = unmap payload_held cells i payload is in
      subst (λ (p : Option (List ℕ)). SoundAt narrow i p disk) from.2 (cell_sound disk i from.0 (held i from.0 from.1))

  -- cells that are sound one after another, from this number on
  none_wrong : (disk : List ℕ) (cells : List (Option (List ℕ))) (i : ℕ) → ((j : ℕ) (payload : Option (List ℕ)) → slice_get cells j ≡ Some payload → SoundAt narrow (i + j) payload disk)
      → (wrong_from narrow (length cells) i disk ≡ None) × (payloads_from narrow (length cells) i disk ≡ cells)
  none_wrong disk [] i each = (refl, refl)
  none_wrong disk (p ∷ cells) i each =
      let none : i + 0 ≡ i = omega arith in
      let here : SoundAt narrow i p disk = subst (λ (k : ℕ). SoundAt narrow k p disk) none (each 0 p refl) in
      let rest = none_wrong disk cells (i + 1) (λ j q is. let next : i + suc j ≡ (i + 1) + j = omega arith in subst (λ (k : ℕ). SoundAt narrow k q disk) next (each (suc j) q is)) in
      let whole : wrong_at narrow disk i ≡ 2 * half_size narrow i = here.whole in
      let same : payload_at narrow disk i ≡ p = here.same in
      (rw (whole, not_less (2 * half_size narrow i), rest.0), λ t. same t ∷ rest.1 t)

  -- a row that is sound stands for its cells
  pub stands : (disk : List ℕ) (cells : List (Option (List ℕ))) → AllSound narrow cells disk → IsRow cells → narrow ≡ narrow_in cells → IsImageOf cells disk
  stands disk [] each row is = absurd row
  stands disk (None ∷ cells) each row is = absurd row
  stands disk (Some head ∷ cells) each row told =
      let first : SoundAt narrow 0 (Some head) disk = each 0 (Some head) refl in
      let rest = none_wrong disk cells 1 (λ j q is. let next : suc j ≡ 1 + j = omega arith in subst (λ (k : ℕ). SoundAt narrow k q disk) next (each (suc j) q is)) in
      let whole : wrong_at 0 disk 0 ≡ 1024 = wrong_first 0 narrow disk ∙ first.whole ∙ ap (λ (n : ℕ). 2 * n) (first_size narrow) in
      let same : payload_at 0 disk 0 ≡ Some head = payload_first 0 narrow disk ∙ first.same in
      let none : wrong_from (narrow_told head) (count_told head) 1 disk ≡ None = subst (λ (m : ℕ). wrong_from m (count_told head) 1 disk ≡ None) told (subst (λ (n : ℕ). wrong_from narrow n 1 disk ≡ None) row rest.0) in
      let behind : payloads_from (narrow_told head) (count_told head) 1 disk ≡ cells = subst (λ (m : ℕ). payloads_from m (count_told head) 1 disk ≡ cells) told (subst (λ (n : ℕ). payloads_from narrow n 1 disk ≡ cells) row rest.1) in
      record {
        sound = rw (whole, same, none);
        same = rw same (ap (λ (l : List (Option (List ℕ))). Some head ∷ l) behind);
      }

  other_sound : (old c : List ℕ) (i j : ℕ) (side : Side) (payload : Option (List ℕ)) → Others narrow (frame_of i side) old c → j ≢ i → SoundAt narrow j payload old → SoundAt narrow j payload c
  other_sound old c i j side payload others apart is =
      let apart_frames = frames_apart i j side apart in
      at_frames c j payload
      (subst (λ (f : List ℕ). IsCellSound (half_size narrow j) payload f (frame_at narrow c (2 * j + 1))) (sym (others (2 * j) apart_frames.0))
      (subst (λ (g : List ℕ). IsCellSound (half_size narrow j) payload (frame_at narrow old (2 * j)) g) (sym (others (2 * j + 1) apart_frames.1)) (from_frames old j payload is)))

  -- a cell changed and kept its payload
  pub row_kept : (cells : List (Option (List ℕ))) (old c : List ℕ) (i : ℕ) (side : Side) (payload : Option (List ℕ)) → AllSound narrow cells old → Others narrow (frame_of i side) old c → slice_get cells i ≡ Some payload → SoundAt narrow i payload c → AllSound narrow cells c
  row_kept cells old c i side payload each others is here j q is_q = elim (cases_eq j i) [
    | inl same ↦
        let at_i : slice_get cells i ≡ Some q = subst (λ (k : ℕ). slice_get cells k ≡ Some q) same is_q in
        let pay : payload ≡ q = cc in
        subst (λ (k : ℕ). SoundAt narrow k q c) (sym same) (subst (λ (p : Option (List ℕ)). SoundAt narrow i p c) pay here)
    | inr apart ↦ other_sound old c i j side q others apart (each j q is_q)
  ]

  -- a cell changed and has another payload
  pub row_set : (cells : List (Option (List ℕ))) (old c : List ℕ) (i : ℕ) (side : Side) (payload : Option (List ℕ)) → AllSound narrow cells old → Others narrow (frame_of i side) old c → i < length cells → SoundAt narrow i payload c → AllSound narrow (set cells i payload) c
  row_set cells old c i side payload each others within here j q is_q = elim (cases_eq j i) [
    | inl same ↦
        let at_i : slice_get (set cells i payload) i ≡ Some q = subst (λ (k : ℕ). slice_get (set cells i payload) k ≡ Some q) same is_q in
        let set_i : slice_get (set cells i payload) i ≡ Some payload = get_set_same cells i payload within in
        let pay : payload ≡ q = cc in
        subst (λ (k : ℕ). SoundAt narrow k q c) (sym same) (subst (λ (p : Option (List ℕ)). SoundAt narrow i p c) pay here)
    | inr apart ↦ other_sound old c i j side q others apart (each j q (sym (get_set_other cells i j payload apart) ∙ is_q))
  ]

  -- a cell in memory that is held is held on each disk with the same frames
  pub held_same : (old c : List ℕ) (i j : ℕ) (side : Side) (cell : Cell) → Others narrow (frame_of i side) old c → j ≢ i → CellHeld narrow old j cell → CellHeld narrow c j cell
  held_same old c i j side cell others apart held =
      subst (λ (f : List ℕ). FramesHeld (half_size narrow j) cell f (frame_at narrow c (frame_of j (other cell.side)))) (sym (others (frame_of j cell.side) (frame_of_apart i j side cell.side apart)))
      (subst (λ (g : List ℕ). FramesHeld (half_size narrow j) cell (frame_at narrow old (frame_of j cell.side)) g) (sym (others (frame_of j (other cell.side)) (frame_of_apart i j side (other cell.side) apart))) held)

  -- a cell changed, and the cell in memory with it
  pub disk_set : (cells : List Cell) (old c : List ℕ) (i : ℕ) (side : Side) (cell : Cell) → OnDisk narrow old cells → Others narrow (frame_of i side) old c → i < length cells → CellHeld narrow c i cell → OnDisk narrow c (set cells i cell)
  disk_set cells old c i side cell each others within here j other_cell is_other = elim (cases_eq j i) [
    | inl same ↦
        let at_i : slice_get (set cells i cell) i ≡ Some other_cell = subst (λ (k : ℕ). slice_get (set cells i cell) k ≡ Some other_cell) same is_other in
        let set_i : slice_get (set cells i cell) i ≡ Some cell = get_set_same cells i cell within in
        let is : Some cell ≡ Some other_cell = sym set_i ∙ at_i in
        let this : cell ≡ other_cell = cc in
        subst (λ (k : ℕ). CellHeld narrow c k other_cell) (sym same) (subst (λ (m : Cell). CellHeld narrow c i m) this here)
    | inr apart ↦ held_same old c i j side other_cell others apart (each j other_cell (sym (get_set_other cells i j cell apart) ∙ is_other))
  ]

  -- a cell changed, and the cell in memory still says what stands there
  pub disk_kept : (cells : List Cell) (old c : List ℕ) (i : ℕ) (side : Side) (cell : Cell) → OnDisk narrow old cells → Others narrow (frame_of i side) old c → slice_get cells i ≡ Some cell → CellHeld narrow c i cell → OnDisk narrow c cells
  disk_kept cells old c i side cell each others is here j other_cell is_other = elim (cases_eq j i) [
    | inl same ↦
        let at_i : slice_get cells i ≡ Some other_cell = subst (λ (k : ℕ). slice_get cells k ≡ Some other_cell) same is_other in
        let is_same : Some cell ≡ Some other_cell = sym is ∙ at_i in
        let this : cell ≡ other_cell = cc in
        subst (λ (k : ℕ). CellHeld narrow c k other_cell) (sym same) (subst (λ (m : Cell). CellHeld narrow c i m) this here)
    | inr apart ↦ held_same old c i j side other_cell others apart (each j other_cell is_other)
  ]

  -- the first of some cells that is wrong
  pub found_wrong : (disk : List ℕ) (n i k w : ℕ) → ((j : ℕ) → j < k → wrong_at narrow disk (i + j) ≡ 2 * half_size narrow (i + j)) → k < n → wrong_at narrow disk (i + k) ≡ w → w < 2 * half_size narrow (i + k) → wrong_from narrow n i disk ≡ Some (cell_place narrow (i + k) + w)
  found_wrong disk zero i k w sound within wrong less = absurd (omega arith)
  found_wrong disk (suc n) i zero w sound within wrong less =
      let none : i + 0 ≡ i = omega arith in
      let here : wrong_at narrow disk i ≡ w = subst (λ (m : ℕ). wrong_at narrow disk m ≡ w) none wrong in
      let low : w < 2 * half_size narrow i = subst (λ (m : ℕ). w < 2 * half_size narrow m) none less in
      let is_less : nat_lt w (2 * half_size narrow i) ≡ true = grind (arith, nat_tests) in
      rw (here, is_less) (ap (λ (m : ℕ). Some (cell_place narrow m + w)) (sym none))
  found_wrong disk (suc n) i (suc k) w sound within wrong less =
      let none : i + 0 ≡ i = omega arith in
      let whole : wrong_at narrow disk i ≡ 2 * half_size narrow i = subst (λ (m : ℕ). wrong_at narrow disk m ≡ 2 * half_size narrow m) none (sound 0 (omega arith)) in
      let next : i + suc k ≡ (i + 1) + k = omega arith in
      let rest = found_wrong disk n (i + 1) k w (λ j below. let step : i + suc j ≡ (i + 1) + j = omega arith in subst (λ (m : ℕ). wrong_at narrow disk m ≡ 2 * half_size narrow m) step (sound (suc j) (omega arith))) (omega arith) (subst (λ (m : ℕ). wrong_at narrow disk m ≡ w) next wrong) (subst (λ (m : ℕ). w < 2 * half_size narrow m) next less) in
      rw (whole, not_less (2 * half_size narrow i)) (rest ∙ ap (λ (m : ℕ). Some (cell_place narrow m + w)) (sym next))
