-- What a call on cells in use leaves of their row at any moment, and of the length of their disk.
use Rattle.std.specs.Prelude.{slice_get, IsTrue}
use Rattle.std.proofs.Common.{◌≡◌, ◌⊎◌, inl, ◌+◌, ◌*◌, ◌<◌, ◌≤◌, Some, None, Option, map, length, get_or, sym, ◌∙◌, ap, subst, arith, ℕ, List}
use Rattle.std.proofs.Math.ListN.{set}
use Rattle.cas_disk.specs.Disk.{ContinuesOnly}
use Rattle.cas_disk.proofs.Moments.{at_rest, weaker, then_on}
use Rattle.cas_cells.specs.Format.{frame_at, cell_place, half_size, narrow_in, wide_in, count_in, is_head, head_in, with_count, grown, IsImageOf, IsBeforeOrAfter}
use Rattle.cas_cells.specs.Length.{NotLonger}
use Rattle.cas_cells.specs.Torn.{SameBelow}
use Rattle.cas_cells.specs.UnderWay.{change_held, staged_in}
use Rattle.cas_cells.specs.Held.{LeavesPayload, MayOpen, IsNew, IsShut, IsRow, OnDisk, payload_held, frame_of, other}
use Rattle.cas_cells.specs.Cells.{cells_of, CellsStand, Agrees, staged_of}
use Rattle.cas_cells.specs.declared.cell.Cell.{Cell}
use Rattle.cas_cells.specs.declared.cells.Cells.{Cells}
use Rattle.cas_cells.specs.declared.change.Change.{Change}
use Rattle.cas_cells.specs.declared.change.Staged.{Staged}
use Rattle.cas_cells.specs.declared.change.Step.TheVariants.{Written}
use Rattle.cas_cells.proofs.Counting.{number_behind}
use Rattle.cas_cells.proofs.Places.{first_place, first_size, wide_end}
use Rattle.cas_cells.proofs.Growing.{on_below, below_stands, growing_stands}
use Rattle.cas_cells.proofs.Using.{within_row, at_index, first_there, leaves_stand, may_open_stands, row_changed, narrow_changed, stands_now, blank_stands}
use Rattle.cas_cells.proofs.Lengths.{within_more, step_no_longer, opening_no_longer, then_opening_no_longer}

module _ {D : Type 0} {tells : Type 0} {moment : D → ℕ} {left_since : D → ℕ → List ℕ → Type 0} {seen : D → List ℕ} {may_leave : D → List ℕ → Type 0} {self : Cells D} (s : CellsStand tells seen may_leave self) (here : tells) where
  -- nothing was written yet
  pub rests : (P : List ℕ → Type 0) → (IsImageOf (cells_of self) (seen self.disk) → P (seen self.disk)) → ((c : List ℕ) → left_since self.disk (moment self.disk) c → may_leave self.disk c) → ContinuesOnly moment left_since self.disk self.disk P
  rests P so now = at_rest moment left_since self.disk (seen self.disk) (may_leave self.disk) P now (s.durable here) (so (stands_now tells seen may_leave self s here))

  -- a step of a cell that keeps its payload
  pub step_stands : {new : D} (i : ℕ) (cell : Cell) → i ≤ count_in (cells_of self) → cell ≡ get_or self.cells.items i cell
      → ContinuesOnly moment left_since self.disk new (LeavesPayload self.narrow (frame_of i (other cell.side)) (seen self.disk) i (payload_held cell)) → ContinuesOnly moment left_since self.disk new (IsImageOf (cells_of self))
  step_stands i cell within is run =
      weaker moment left_since self.disk _ (LeavesPayload self.narrow (frame_of i (other cell.side)) (seen self.disk) i (payload_held cell)) (IsImageOf (cells_of self))
      (λ image leaves. leaves_stand self.narrow self.cells.items (seen self.disk) image i cell (s.on_disk here) s.row s.narrow (at_index self.cells.items i cell s.row within is) leaves) run

  pub step_length : {new : D} (i : ℕ) (cell : Cell) → i ≤ count_in (cells_of self) → cell ≡ get_or self.cells.items i cell → may_leave self.disk (seen self.disk)
      → ContinuesOnly moment left_since self.disk new (LeavesPayload self.narrow (frame_of i (other cell.side)) (seen self.disk) i (payload_held cell)) → NotLonger moment left_since may_leave self.disk new 0
  step_length i cell within is stays run =
      step_no_longer moment left_since may_leave self.narrow self.disk _ (seen self.disk) i cell (payload_held cell) stays (s.on_disk here i cell (at_index self.cells.items i cell s.row within is)) run

  -- the step that opens the spare of the cell under change
  pub opening_stands : {new : D} (i : ℕ) (cell : Cell) (staged : Staged) (read : List ℕ) → i ≤ count_in (cells_of self) → cell ≡ get_or self.cells.items i cell → self.change ≡ Some (record { cell = i; step = Written staged }) → read ≡ staged.payload.items
      → ContinuesOnly moment left_since self.disk new (MayOpen self.narrow (frame_of i (other cell.side)) (seen self.disk) i (payload_held cell) read) → ContinuesOnly moment left_since self.disk new (IsBeforeOrAfter (cells_of self) (set (cells_of self) i (Some (staged_of self))))
  opening_stands i cell staged read within is taken same run =
      let p = staged.payload.items in
      let agrees = subst (λ (ch : Option Change). Agrees (change_held ch) (cells_of self)) taken s.agrees in
      let named : staged_of self ≡ p = ap (λ (ch : Option Change). staged_in (change_held ch)) taken in
      weaker moment left_since self.disk _ (MayOpen self.narrow (frame_of i (other cell.side)) (seen self.disk) i (payload_held cell) read) (IsBeforeOrAfter (cells_of self) (set (cells_of self) i (Some (staged_of self))))
      (λ image opens. subst (λ (q : List ℕ). IsImageOf (cells_of self) image ⊎ IsImageOf (set (cells_of self) i (Some q)) image) (sym named)
      (may_open_stands self.narrow self.cells.items (seen self.disk) image i cell p (s.on_disk here) s.row s.narrow (at_index self.cells.items i cell s.row within is) (within_row self.cells.items i s.row within) (row_changed (cells_of self) i p s.row agrees.1) (s.narrow ∙ sym (narrow_changed (cells_of self) i p s.row agrees.1))
      (subst (λ (q : List ℕ). MayOpen self.narrow (frame_of i (other cell.side)) (seen self.disk) i (payload_held cell) q image) same opens))) run

  pub opening_length : {new : D} (i : ℕ) (cell : Cell) (p : List ℕ) → i ≤ count_in (cells_of self) → cell ≡ get_or self.cells.items i cell → may_leave self.disk (seen self.disk)
      → ContinuesOnly moment left_since self.disk new (MayOpen self.narrow (frame_of i (other cell.side)) (seen self.disk) i (payload_held cell) p) → NotLonger moment left_since may_leave self.disk new 0
  opening_length i cell p within is stays run =
      opening_no_longer moment left_since may_leave self.narrow self.disk _ (seen self.disk) i cell (payload_held cell) p stays (s.on_disk here i cell (at_index self.cells.items i cell s.row within is)) run

  -- zeros are written behind the last cell
  pub blanking_stands : {new : D} (n : ℕ) → n + 1 ≡ length self.cells.items → ContinuesOnly moment left_since self.disk new (SameBelow self.narrow (2 * (n + 1)) (seen self.disk)) → ContinuesOnly moment left_since self.disk new (IsBeforeOrAfter (cells_of self) (grown (cells_of self)))
  blanking_stands n behind run =
      weaker moment left_since self.disk _ (SameBelow self.narrow (2 * (n + 1)) (seen self.disk)) (IsBeforeOrAfter (cells_of self) (grown (cells_of self)))
      (λ image below. inl (below_stands self.narrow self.cells.items (seen self.disk) image (n + 1) (omega (arith, behind)) (s.on_disk here) s.row s.narrow below)) run

-- where the row ends that has one wide cell more
pub row_end : (narrow n : ℕ) (cells : List (Option (List ℕ))) → narrow ≡ narrow_in cells → n ≡ count_in cells → cell_place narrow (n + 1) + 2 * half_size narrow (n + 1) ≡ 1024 * (narrow_in cells + 1) + 9216 * (wide_in cells + 1)
row_end narrow n cells told count =
    let is : n + 1 ≡ narrow + wide_in cells + 1 = omega (arith, told, count) in
    ap (λ (k : ℕ). cell_place narrow k + 2 * half_size narrow k) is ∙ wide_end narrow (wide_in cells) ∙ (λ k. 1024 * (told k + 1) + 9216 * (wide_in cells + 1))

-- what is read of a row before it grows: the number behind its last cell, cell 0, and a head that tells one wide cell more
pub record Reads (cells : List Cell) (n : ℕ) (cell : Cell) (head : List ℕ) : Type 0 where
  pub behind : n + 1 ≡ length cells
  pub first : slice_get cells 0 ≡ Some cell
  pub told : head ≡ with_count (head_in (map payload_held cells)) (wide_in (map payload_held cells) + 1)

module _ {cells room : List Cell} {n wide : ℕ} {cell : Cell} {head : List ℕ} where
  -- the row was read in views that show the same cells
  pub reads : IsRow (map payload_held cells) → n ≡ count_in (map payload_held cells) → wide ≡ wide_in (map payload_held cells) → head ≡ with_count (head_in (map payload_held cells)) (wide + 1) → room ≡ cells → cell ≡ get_or room 0 cell → Reads cells n cell head
  reads row counts wide_is tells room_is is = record {
    behind = omega (arith, counts, number_behind cells row);
    first = first_there cells room cell row room_is is;
    told = tells ∙ ap (λ (k : ℕ). with_count (head_in (map payload_held cells)) (k + 1)) wide_is;
  }

module _ {D : Type 0} {tells : Type 0} {moment : D → ℕ} {left_since : D → ℕ → List ℕ → Type 0} {seen : D → List ℕ} {may_leave : D → List ℕ → Type 0} {self : Cells D} {mid new : D} {n : ℕ} {cell : Cell} {head : List ℕ} (s : CellsStand tells seen may_leave self) (here : tells) (read : Reads self.cells.items n cell head)
    (run : ContinuesOnly moment left_since mid new (MayOpen self.narrow (frame_of 0 (other cell.side)) (seen mid) 0 (payload_held cell) head)) (below : SameBelow self.narrow (2 * (n + 1)) (seen self.disk) (seen mid)) where
  still : OnDisk self.narrow (seen mid) self.cells.items
  still = on_below self.narrow self.cells.items (seen self.disk) (seen mid) (n + 1) (omega (arith, read.behind)) (s.on_disk here) below

  -- zeros are written behind the last cell, and then cell 0 is changed to the head
  pub growth_stands : IsTrue (is_head (head_in (map payload_held self.cells.items))) → wide_in (map payload_held self.cells.items) < 4096 → IsShut (half_size self.narrow (n + 1)) (frame_at self.narrow (seen mid) (2 * (n + 1))) × IsShut (half_size self.narrow (n + 1)) (frame_at self.narrow (seen mid) (2 * (n + 1) + 1))
      → ContinuesOnly moment left_since self.disk mid (SameBelow self.narrow (2 * (n + 1)) (seen self.disk)) → ContinuesOnly moment left_since self.disk new (IsBeforeOrAfter (map payload_held self.cells.items) (grown (map payload_held self.cells.items)))
  growth_stands is_head_old few shut blanking =
      let cells = self.cells.items in
      let view = map payload_held cells in
      let blanks = subst (λ (k : ℕ). IsShut (half_size self.narrow k) (frame_at self.narrow (seen mid) (2 * k)) × IsShut (half_size self.narrow k) (frame_at self.narrow (seen mid) (2 * k + 1))) read.behind shut in
      then_on moment left_since self.disk mid new (IsBeforeOrAfter view (grown view)) (blanking_stands s here n read.behind blanking)
      (weaker moment left_since mid new (MayOpen self.narrow (frame_of 0 (other cell.side)) (seen mid) 0 (payload_held cell) head) (IsBeforeOrAfter view (grown view))
      (λ image opens. growing_stands self.narrow cells (seen mid) image cell still s.row s.narrow is_head_old few read.first blanks.0 blanks.1
      (subst (λ (p : List ℕ). MayOpen self.narrow (frame_of 0 (other cell.side)) (seen mid) 0 (payload_held cell) p image) read.told opens)) run)

  pub growth_length : ((c : List ℕ) → moment self.disk ≤ moment mid → may_leave mid c → left_since mid (moment self.disk) c) → may_leave mid (seen mid) → NotLonger moment left_since may_leave self.disk mid (cell_place self.narrow (n + 1) + 2 * half_size self.narrow (n + 1))
      → NotLonger moment left_since may_leave self.disk new (1024 * (narrow_in (map payload_held self.cells.items) + 1) + 9216 * (wide_in (map payload_held self.cells.items) + 1))
  growth_length counts stays blanking =
      let view = map payload_held self.cells.items in
      let more : ℕ = 1024 * (narrow_in view + 1) + 9216 * (wide_in view + 1) in
      let count : n ≡ count_in view = omega (arith, read.behind, number_behind self.cells.items s.row) in
      let ends = row_end self.narrow n view s.narrow count in
      then_opening_no_longer moment left_since may_leave self.narrow self.disk mid new (seen mid) more 0 cell (payload_held cell) head counts stays (still 0 cell read.first)
      (within_more moment left_since may_leave self.disk mid (cell_place self.narrow (n + 1) + 2 * half_size self.narrow (n + 1)) more (omega (arith, ends)) blanking) run

module _ {D : Type 0} {moment : D → ℕ} {left_since : D → ℕ → List ℕ → Type 0} {may_leave : D → List ℕ → Type 0} {old mid new : D} {seen : List ℕ} {cell : Cell} {head : List ℕ} where
  -- zeros are written over cell 0, which is then changed
  pub formatting_length : IsNew cell → payload_held cell ≡ None → IsShut (half_size 0 0) (frame_at 0 seen (2 * 0)) × IsShut (half_size 0 0) (frame_at 0 seen (2 * 0 + 1)) → ((c : List ℕ) → moment old ≤ moment mid → may_leave mid c → left_since mid (moment old) c) → may_leave mid seen
      → NotLonger moment left_since may_leave old mid (cell_place 0 0 + 2 * half_size 0 0) → ContinuesOnly moment left_since mid new (MayOpen 0 (frame_of 0 (other cell.side)) seen 0 (payload_held cell) head) → NotLonger moment left_since may_leave old new 1024
  formatting_length blank none shut counts stays blanking run =
      let ends : cell_place 0 0 + 2 * half_size 0 0 ≡ 1024 = omega (arith, first_place 0, first_size 0) in
      then_opening_no_longer moment left_since may_leave 0 old mid new seen 1024 0 cell (payload_held cell) head counts stays (blank_stands 0 seen 0 cell blank none shut.0 shut.1)
      (within_more moment left_since may_leave old mid (cell_place 0 0 + 2 * half_size 0 0) 1024 (omega (arith, ends)) blanking) run
