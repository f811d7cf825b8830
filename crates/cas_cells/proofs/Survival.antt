-- What the crates above may cite: cells in use survive a crash, and a disk stands for one row of cells.
use Rattle.std.proofs.Common.{◌≡◌, ℕ, Option, Some, None, List, [], ◌∷◌, map, refl, sym, ap, ◌∙◌, subst}
use Rattle.cas_cells.specs.Format.{IsImageOf, narrow_on, narrow_in, payload_at}
use Rattle.cas_cells.specs.Held.{payload_held}
use Rattle.cas_cells.specs.Cells.{CellsStand, cells_of}
use Rattle.cas_cells.specs.declared.cells.Cells.{Cells}
use Rattle.cas_cells.proofs.Using.{stands_now}

-- between two calls a crash leaves the cells in use
pub crash_leaves : {D : Type 0} (tells : Type 0) (seen : D → List ℕ) (may_leave : D → List ℕ → Type 0) (cells : Cells D) → CellsStand tells seen may_leave cells → tells → (c : List ℕ) → may_leave cells.disk c → IsImageOf (cells_of cells) c
crash_leaves tells seen may_leave cells is t c left =
    subst (λ (d : List ℕ). IsImageOf (map payload_held cells.cells.items) d) (sym (is.durable t c left)) (stands_now tells seen may_leave cells is t)

-- a disk stands for one row
pub same_row : (cells cells' : List (Option (List ℕ))) (disk : List ℕ) → IsImageOf cells disk → IsImageOf cells' disk → cells ≡ cells'
same_row cells cells' disk one two = sym one.same ∙ two.same

-- a disk that stands for a row tells as many narrow cells as it
pub narrow_told_by : (cells : List (Option (List ℕ))) (disk : List ℕ) → IsImageOf cells disk → narrow_on disk ≡ narrow_in cells
narrow_told_by cells disk stands = first (payload_at 0 disk 0) _ ∙ ap narrow_in stands.same
  where
    first : (o : Option (List ℕ)) (rest : List (Option (List ℕ))) → narrow_in (o ∷ []) ≡ narrow_in (o ∷ rest)
    first None rest = refl
    first (Some head) rest = refl

-- what cells in use show of it stands on their disk
pub narrow_seen : {D : Type 0} (tells : Type 0) (seen : D → List ℕ) (may_leave : D → List ℕ → Type 0) (cells : Cells D) → CellsStand tells seen may_leave cells → tells → narrow_on (seen cells.disk) ≡ narrow_in (cells_of cells)
narrow_seen tells seen may_leave cells is t = narrow_told_by (cells_of cells) (seen cells.disk) (stands_now tells seen may_leave cells is t)
