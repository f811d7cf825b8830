-- How many cells a row has. The crates above may cite it.
use Rattle.std.proofs.Common.{◌≡◌, ℕ, ◌+◌, Option, Some, None, List, [], ◌∷◌, length, map, arith}
use Rattle.std.proofs.lemmas.List.{length-map}
use Rattle.cas_cells.specs.Format.{count_in}
use Rattle.cas_cells.specs.Held.{IsRow, payload_held}
use Rattle.cas_cells.specs.declared.cell.Cell.{Cell}

pub row_length : (cells : List (Option (List ℕ))) → IsRow cells → length cells ≡ 1 + count_in cells
row_length [] row = absurd row
row_length (None ∷ cells) row = absurd row
row_length (Some head ∷ cells) row = omega (arith, row)

-- the number behind the last cell
pub number_behind : (cells : List Cell) → IsRow (map payload_held cells) → count_in (map payload_held cells) + 1 ≡ length cells
number_behind cells row = omega (arith, row_length (map payload_held cells) row, length-map cells payload_held)
