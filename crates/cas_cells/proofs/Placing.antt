-- Where the payload of a cell begins.
use Rattle.std.specs.Prelude.{◌==◌, MatchOption, MatchBool}
use Rattle.std.specs.Option.{option_map}
use Rattle.std.proofs.Common.{◌≡◌, ℕ, ◌+◌, ◌*◌, ◌<◌, Bool, true, false, Option, Some, None, List, refl, ap, ◌∙◌, arith}
use Rattle.std.proofs.lemmas.Bool.Decides.{nat_tests}
use Rattle.cas_cells.specs.Format.{next, place_of, payload_place, frame_at, cell_place, half_size}
use Rattle.cas_cells.specs.Held.{IsFrame, IsShut, IsOlder, IsBlank, CellHeld, payload_held, place_on, on, other, frame_of}
use Rattle.cas_cells.specs.declared.cell.Cell.{Cell}
use Rattle.cas_cells.specs.declared.cell.Side.{Side}
use Rattle.cas_cells.specs.declared.cell.Side.TheVariants.{First, Second}
use Rattle.cas_cells.proofs.Frames.{shut_open, frame_open, frame_number}
use Rattle.cas_cells.proofs.Turning.{weaken}
use Rattle.cas_cells.proofs.Places.{IsSize, sized}

module _ (size : ℕ) (fit : IsSize size) where
  -- in which frame the payload stands, from the current frame and the spare
  placed : (side : Side) (payload : Option (List ℕ)) (n : ℕ) (spare_open : Bool) (current spare : List ℕ) → MatchOption payload ((spare_open ≡ false) × IsShut size current) (λ p. IsFrame size n p current) → MatchBool spare_open (IsOlder size n spare) (IsShut size spare)
      → place_of size (on side current spare) (on side spare current) ≡ option_map (λ _. place_on size side) payload
  placed side None n true current spare here there = absurd (cc (here.0))
  placed First None n false current spare here there = rw (shut_open size fit spare there, shut_open size fit current here.1) refl
  placed Second None n false current spare here there = rw (shut_open size fit current here.1, shut_open size fit spare there) refl
  placed First (Some p) n false current spare here there = rw (shut_open size fit spare there, frame_open size fit n p current here) refl
  placed Second (Some p) n false current spare here there = rw (frame_open size fit n p current here, shut_open size fit spare there) refl
  placed First (Some p) n true current spare here there =
      let k = there.0 in
      let k_small : k < 3 = there.3.small in
      let follows : next k ≡ n = there.2 in
      let not_next : (k == next n) ≡ false = grind (arith, nat_tests) in
      rw (frame_open size fit k there.1 spare there.3, frame_open size fit n p current here, frame_number size fit k there.1 spare there.3, frame_number size fit n p current here, not_next) refl
  placed Second (Some p) n true current spare here there =
      let k = there.0 in
      let k_small : k < 3 = there.3.small in
      let follows : next k ≡ n = there.2 in
      let is_next : (n == next k) ≡ true = grind (arith, nat_tests) in
      rw (frame_open size fit n p current here, frame_open size fit k there.1 spare there.3, frame_number size fit n p current here, frame_number size fit k there.1 spare there.3, is_next) refl

mapped : {X Y Z : Type 0} (f : X → Y) (g : Y → Z) (o : Option X) → option_map g (option_map f o) ≡ option_map (λ x. g (f x)) o
mapped f g None = refl
mapped f g (Some x) = refl

module _ (narrow : ℕ) where
  placed_from : (side : Side) (disk : List ℕ) (i : ℕ) (current spare : List ℕ) → frame_at narrow disk (frame_of i side) ≡ current → frame_at narrow disk (frame_of i (other side)) ≡ spare
      → payload_place narrow disk i ≡ option_map (λ place. cell_place narrow i + place) (place_of (half_size narrow i) (on side current spare) (on side spare current))
  placed_from First disk i current spare is_current is_spare = rw (is_current, is_spare) refl
  placed_from Second disk i current spare is_current is_spare = rw (is_spare, is_current) refl

  -- a cell in memory that holds a cell of the disk knows where its payload begins
  pub cell_placed : (disk : List ℕ) (i : ℕ) (cell : Cell) → CellHeld narrow disk i cell → payload_place narrow disk i ≡ option_map (λ _. cell_place narrow i + place_on (half_size narrow i) cell.side) (payload_held cell)
  cell_placed disk i cell held =
      placed_from cell.side disk i _ _ refl refl
      ∙ ap (option_map (λ place. cell_place narrow i + place))
      (placed (half_size narrow i) (sized narrow (2 * i)) cell.side (payload_held cell) cell.number cell.spare_open _ _
      (weaken (half_size narrow i) (sized narrow (2 * i)) (payload_held cell) (IsBlank cell × IsShut (half_size narrow i) _) ((cell.spare_open ≡ false) × IsShut (half_size narrow i) _) (λ p. IsFrame (half_size narrow i) cell.number p _) (λ blank. (blank.0.spare, blank.1)) held.in_current)
      held.in_spare)
      ∙ mapped (λ _. place_on (half_size narrow i) cell.side) (λ place. cell_place narrow i + place) (payload_held cell)
