-- Where the frames of a disk lie, and how many bytes they have.
use Rattle.std.proofs.Common.{◌≡◌, ℕ, ◌+◌, ◌*◌, ◌<◌, ◌≤◌, List, take, drop, option_map, refl, sym, ◌∙◌, arith}
use Rattle.cas_cells.specs.Format.{IsPayload, frame_place, frame_size, frame_at, cell_place, half_size, wrong_in_cell, payload_of, place_of, wrong_at, payload_at, payload_place}
use Rattle.cas_cells.specs.Held.{frame_of}
use Rattle.cas_cells.specs.declared.cell.Side.{Side}
use Rattle.cas_cells.specs.declared.cell.Side.TheVariants.{First, Second}

-- a size that frames have lies within these ends
pub record IsSize (size : ℕ) : Type 0 where
  pub least : 512 ≤ size
  pub most : size ≤ 4608

module _ (narrow : ℕ) where
  pub sized : (k : ℕ) → IsSize (frame_size narrow k)
  unfolding frame_size frame_place
  sized k = record { least = omega arith; most = omega arith }

  -- a payload that fits a cell fits the longest frame
  pub payload_within : (i : ℕ) (p : List ℕ) → IsPayload (half_size narrow i) p → IsPayload 4608 p
  payload_within i p fits = record { not_empty = fits.not_empty; fits = omega (arith, fits.fits, (sized (2 * i)).most) }

  -- the next frame begins where one ends
  pub place_next : (k : ℕ) → frame_place narrow (k + 1) ≡ frame_place narrow k + frame_size narrow k
  unfolding frame_size frame_place
  place_next k = omega arith

  -- a frame ends where a later one begins, or before
  pub place_below : (j k : ℕ) → j < k → frame_place narrow j + frame_size narrow j ≤ frame_place narrow k
  unfolding frame_size frame_place
  place_below j k less = omega arith

  -- both frames of a cell have one size
  pub size_second : (i : ℕ) → frame_size narrow (2 * i + 1) ≡ half_size narrow i
  unfolding frame_size frame_place
  size_second i = omega arith

  pub size_of_side : (i : ℕ) (side : Side) → frame_size narrow (frame_of i side) ≡ half_size narrow i
  size_of_side i First = refl
  size_of_side i Second = size_second i

  pub place_second : (i : ℕ) → frame_place narrow (2 * i + 1) ≡ cell_place narrow i + half_size narrow i
  place_second i = place_next (2 * i)

  -- the next cell begins where one ends
  pub cell_next : (i : ℕ) → cell_place narrow (i + 1) ≡ cell_place narrow i + 2 * half_size narrow i
  unfolding frame_size frame_place
  cell_next i = omega arith

  -- cell 0 is narrow, and the others stand behind it
  pub first_place : frame_place narrow 0 ≡ 0
  unfolding frame_place
  first_place = omega arith

  pub first_size : half_size narrow 0 ≡ 512
  unfolding frame_size frame_place
  first_size = omega arith

  -- a narrow cell, and a wide one
  pub narrow_size : (i : ℕ) → i ≤ narrow → half_size narrow i ≡ 512
  unfolding frame_size frame_place
  narrow_size i within = omega arith

  pub wide_size : (i : ℕ) → narrow < i → half_size narrow i ≡ 4608
  unfolding frame_size frame_place
  wide_size i behind = omega arith

  pub narrow_place : (i : ℕ) → i ≤ narrow + 1 → cell_place narrow i ≡ 1024 * i
  unfolding frame_place
  narrow_place i within = omega arith

  pub wide_end : (j : ℕ) → cell_place narrow (narrow + j + 1) + 2 * half_size narrow (narrow + j + 1) ≡ 1024 * (narrow + 1) + 9216 * (j + 1)
  unfolding frame_size frame_place
  wide_end j = omega arith

  pub wide_place : (j : ℕ) → cell_place narrow (narrow + 1 + j) ≡ 1024 * (narrow + 1) + 9216 * j
  unfolding frame_place
  wide_place j = omega arith

  -- the frames of cell 0
  first_frame : (disk : List ℕ) → frame_at narrow disk 0 ≡ take 512 (drop 0 disk)
  unfolding frame_size frame_place
  first_frame disk =
      let size : frame_size narrow 0 ≡ 512 = omega arith in
      let place : frame_place narrow 0 ≡ 0 = omega arith in
      (λ i. take (size i) (drop (place i) disk))

  second_frame : (disk : List ℕ) → frame_at narrow disk 1 ≡ take 512 (drop 512 disk)
  unfolding frame_size frame_place
  second_frame disk =
      let size : frame_size narrow 1 ≡ 512 = omega arith in
      let place : frame_place narrow 1 ≡ 512 = omega arith in
      (λ i. take (size i) (drop (place i) disk))

  first_wrong_at : (disk : List ℕ) → wrong_at narrow disk 0 ≡ wrong_in_cell 512 (take 512 (drop 0 disk)) (take 512 (drop 512 disk))
  first_wrong_at disk = λ i. wrong_in_cell (first_size i) (first_frame disk i) (second_frame disk i)

  first_payload_at : (disk : List ℕ) → payload_at narrow disk 0 ≡ payload_of (take 512 (drop 0 disk)) (take 512 (drop 512 disk))
  first_payload_at disk = λ i. payload_of (first_frame disk i) (second_frame disk i)

-- cell 0 is the same, however many narrow cells there are
pub wrong_first : (narrow other : ℕ) (disk : List ℕ) → wrong_at narrow disk 0 ≡ wrong_at other disk 0
wrong_first narrow other disk = first_wrong_at narrow disk ∙ sym (first_wrong_at other disk)

pub payload_first : (narrow other : ℕ) (disk : List ℕ) → payload_at narrow disk 0 ≡ payload_at other disk 0
payload_first narrow other disk = first_payload_at narrow disk ∙ sym (first_payload_at other disk)

-- the size and the frames of cell 0
abbrev pub first_parts : ℕ → List ℕ → ℕ × (List ℕ × List ℕ)
first_parts narrow disk = (half_size narrow 0, (frame_at narrow disk 0, frame_at narrow disk 1))

pub first_frames : (narrow other : ℕ) (disk : List ℕ) → first_parts narrow disk ≡ first_parts other disk
first_frames narrow other disk = λ i. (
  (first_size narrow ∙ sym (first_size other)) i,
  ((first_frame narrow disk ∙ sym (first_frame other disk)) i, (second_frame narrow disk ∙ sym (second_frame other disk)) i),
)

pub place_first : (narrow other : ℕ) (disk : List ℕ) → payload_place narrow disk 0 ≡ payload_place other disk 0
place_first narrow other disk = at_first narrow ∙ sym (at_first other)
  where
    at_first : (n : ℕ) → payload_place n disk 0 ≡ option_map (λ place. 0 + place) (place_of 512 (take 512 (drop 0 disk)) (take 512 (drop 512 disk)))
    at_first n = λ i. option_map (λ place. first_place n i + place) (place_of (first_size n i) (first_frame n disk i) (second_frame n disk i))

-- a payload that fits a narrow frame fits each cell
pub fits_narrow : (narrow i : ℕ) (payload : List ℕ) → IsPayload 512 payload → IsPayload (half_size narrow i) payload
fits_narrow narrow i payload fits = record { not_empty = fits.not_empty; fits = omega (arith, fits.fits, (sized narrow (2 * i)).least) }
