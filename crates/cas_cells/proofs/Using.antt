-- A row of cells in use: what a step of one cell leaves of the row.
use Rattle.std.specs.Prelude.{slice_get, IsErrAnd, MatchOption, MatchBool}
use Rattle.std.proofs.Common.{◌≡◌, ◌⊎◌, inl, inr, ⊎_elim, ℕ, zero, suc, ◌+◌, ◌*◌, ◌<◌, ◌≤◌, Bool, false, Option, Some, None, List, [], ◌∷◌, length, map, get_or, refl, sym, ◌∙◌, ap, subst, arith, Result, Ok, Err}
use Rattle.std.proofs.Math.ListN.{set, length-set}
use Rattle.std.proofs.lemmas.List.{length-map}
use Rattle.std.proofs.lemmas.Option.{slice_get_read}
use Rattle.cas_disk.specs.Disk.{Keeps}
use Rattle.cas_disk.specs.declared.disk.DiskFault.{DiskFault}
use Rattle.cas_disk.specs.declared.disk.DiskFault.TheVariants.{Failed, NoMemory as NoMemoryOfDisk}
use Rattle.cas_cells.specs.FaultOf.{fault_of}
use Rattle.cas_cells.specs.Format.{frame_at, half_size, count_in, narrow_in, head_in, IsPayload, TellsSame, IsImageOf}
use Rattle.cas_cells.specs.declared.cell.Side.{Side}
use Rattle.cas_cells.specs.Held.{IsBlank, IsNew, IsShut, IsFrame, IsOlder, FramesHeld, LeavesPayload, MayOpen, CellHeld, OnDisk, IsRow, payload_held, frame_of, other}
use Rattle.cas_cells.specs.Cells.{CellsStand, ChangeIsUnderWay, Agrees}
use Rattle.cas_cells.specs.UnderWay.{change_held, payload_staged}
use Rattle.cas_cells.specs.declared.cell.Cell.{Cell}
use Rattle.cas_cells.specs.declared.cells.Cells.{Cells}
use Rattle.cas_cells.specs.declared.change.Change.{Change}
use Rattle.cas_cells.specs.declared.fault.CellFault.{CellFault}
use Rattle.cas_cells.specs.declared.fault.CellFault.TheVariants.{NoMemory}
use Rattle.cas_cells.proofs.Counting.{row_length}
use Rattle.cas_cells.proofs.Places.{sized, first_size}
use Rattle.cas_cells.proofs.Rows.{map_set, all_sound, row_kept, row_set, stands}
use Rattle.cas_cells.proofs.Zeros.{zero_past}

-- the disk's want of memory is the only one that the cells tell
pub no_memory_of_disk : (e : DiskFault) → fault_of e ≡ NoMemory → e ≡ NoMemoryOfDisk
no_memory_of_disk Failed is = absurd (cc)
no_memory_of_disk NoMemoryOfDisk is = refl

pub told_no_memory : {T : Type 0} (r : Result T CellFault) (e : DiskFault) → IsErrAnd r (λ f. f ≡ fault_of e) → r ≡ Err NoMemory → e ≡ NoMemoryOfDisk
told_no_memory (Ok x) e gives is = absurd (cc)
told_no_memory (Err f) e gives is = no_memory_of_disk e (let same : f ≡ NoMemory = cc in sym gives ∙ same)

-- a cell that the row has is there in memory
pub within_row : (cells : List Cell) (i : ℕ) → IsRow (map payload_held cells) → i ≤ count_in (map payload_held cells) → i < length cells
within_row cells i row within = omega (arith, row_length (map payload_held cells) row, length-map cells payload_held)

pub at_index : (cells : List Cell) (i : ℕ) (cell : Cell) → IsRow (map payload_held cells) → i ≤ count_in (map payload_held cells) → cell ≡ get_or cells i cell → slice_get cells i ≡ Some cell
at_index cells i cell row within is = slice_get_read cells (length cells) i cell refl (within_row cells i row within) is

-- cell 0 of a row that was read where it stands again
pub first_there : (cells read : List Cell) (cell : Cell) → IsRow (map payload_held cells) → read ≡ cells → cell ≡ get_or read 0 cell → slice_get cells 0 ≡ Some cell
first_there cells read cell row same is = at_index cells 0 cell row (omega arith) (subst (λ (l : List Cell). cell ≡ get_or l 0 cell) same is)

pub set_own : {X : Type 0} (xs : List X) (i : ℕ) (x : X) → slice_get xs i ≡ Some x → set xs i x ≡ xs
set_own [] i x is = refl
set_own (y ∷ xs) zero x is = let same : y ≡ x = cc in (λ t. sym same t ∷ xs)
set_own (y ∷ xs) (suc i) x is = ap (λ l. y ∷ l) (set_own xs i x is)

pub get_map : {X Y : Type 0} (f : X → Y) (xs : List X) (i : ℕ) (x : X) → slice_get xs i ≡ Some x → slice_get (map f xs) i ≡ Some (f x)
get_map f [] i x is = absurd (cc)
get_map f (y ∷ xs) zero x is = let same : y ≡ x = cc in ap (λ z. Some (f z)) same
get_map f (y ∷ xs) (suc i) x is = get_map f xs i x is

-- a step that keeps its cell's payload keeps the row's
pub view_same : (cells : List Cell) (i : ℕ) (cell cell' : Cell) → slice_get cells i ≡ Some cell → payload_held cell' ≡ payload_held cell → map payload_held (set cells i cell') ≡ map payload_held cells
view_same cells i cell cell' is same =
    map_set payload_held cells i cell'
    ∙ ap (λ (p : Option (List ℕ)). set (map payload_held cells) i p) same
    ∙ set_own (map payload_held cells) i (payload_held cell) (get_map payload_held cells i cell is)

-- another payload in a cell leaves a row, if one for cell 0 tells the same cells
pub row_changed : (cells : List (Option (List ℕ))) (i : ℕ) (p : List ℕ) → IsRow cells → ((i ≡ 0) → TellsSame p cells) → IsRow (set cells i (Some p))
row_changed [] i p row same = absurd row
row_changed (None ∷ cells) i p row same = absurd row
row_changed (Some head ∷ cells) zero p row same = row ∙ (λ k. (sym (same refl).narrow) k + (sym (same refl).wide) k)
row_changed (Some head ∷ cells) (suc i) p row same = length-set cells i (Some p) ∙ row

-- and as many narrow cells
pub narrow_changed : (cells : List (Option (List ℕ))) (i : ℕ) (p : List ℕ) → IsRow cells → ((i ≡ 0) → TellsSame p cells) → narrow_in (set cells i (Some p)) ≡ narrow_in cells
narrow_changed [] i p row same = absurd row
narrow_changed (None ∷ cells) i p row same = absurd row
narrow_changed (Some head ∷ cells) zero p row same = (same refl).narrow
narrow_changed (Some head ∷ cells) (suc i) p row same = refl

-- and a head that a frame of cell 0 can hold
pub head_changed : (narrow : ℕ) (cells : List (Option (List ℕ))) (i : ℕ) (p : List ℕ) → IsRow cells → IsPayload (half_size narrow i) p → IsPayload 512 (head_in cells) → IsPayload 512 (head_in (set cells i (Some p)))
head_changed narrow [] i p row fits was = absurd row
head_changed narrow (None ∷ cells) i p row fits was = absurd row
head_changed narrow (Some head ∷ cells) zero p row fits was = subst (λ (size : ℕ). IsPayload size p) (first_size narrow) fits
head_changed narrow (Some head ∷ cells) (suc i) p row fits was = was

-- the disk is as it was, and so is what the cells show
pub stands_kept : {D : Type 0} (tells : Type 0) (seen : D → List ℕ) (may_leave : D → List ℕ → Type 0) (cells cells' : Cells D) → CellsStand tells seen may_leave cells → cells'.cells.items ≡ cells.cells.items → cells'.narrow ≡ cells.narrow → cells'.change ≡ cells.change
    → (tells → Keeps (seen cells.disk) (seen cells'.disk) (may_leave cells.disk) (may_leave cells'.disk)) → CellsStand tells seen may_leave cells'
stands_kept tells seen may_leave cells cells' is same narrow_same change keeps = record {
  row = subst (λ (l : List Cell). IsRow (map payload_held l)) (sym same) is.row;
  narrow = narrow_same ∙ is.narrow ∙ ap (λ (l : List Cell). narrow_in (map payload_held l)) (sym same);
  head = subst (λ (l : List Cell). IsPayload 512 (head_in (map payload_held l))) (sym same) is.head;
  agrees = subst (λ (l : List Cell). Agrees (change_held cells'.change) (map payload_held l)) (sym same) (subst (λ (ch : Option Change). Agrees (change_held ch) (map payload_held cells.cells.items)) (sym change) is.agrees);
  on_disk = λ t. subst (λ (m : ℕ). OnDisk m (seen cells'.disk) cells'.cells.items) (sym narrow_same)
      (subst (λ (d : List ℕ). OnDisk cells.narrow d cells'.cells.items) (sym (keeps t).content) (subst (λ (l : List Cell). OnDisk cells.narrow (seen cells.disk) l) (sym same) (is.on_disk t)));
  under_way = λ t. subst (λ (m : ℕ). ChangeIsUnderWay m (seen cells'.disk) cells'.cells.items cells'.change) (sym narrow_same) (subst (λ (d : List ℕ). ChangeIsUnderWay cells.narrow d cells'.cells.items cells'.change) (sym (keeps t).content)
      (subst (λ (ch : Option Change). ChangeIsUnderWay cells.narrow (seen cells.disk) cells'.cells.items ch) (sym change) (subst (λ (l : List Cell). ChangeIsUnderWay cells.narrow (seen cells.disk) l cells.change) (sym same) (is.under_way t))));
  durable = λ t image left. is.durable t image ((keeps t).outcomes image left) ∙ sym (keeps t).content;
}

-- where the disk tells its content, it stands for the cells in use
pub stands_now : {D : Type 0} (tells : Type 0) (seen : D → List ℕ) (may_leave : D → List ℕ → Type 0) (cells : Cells D) → CellsStand tells seen may_leave cells → tells → IsImageOf (map payload_held cells.cells.items) (seen cells.disk)
stands_now tells seen may_leave cells is t = stands cells.narrow (seen cells.disk) (map payload_held cells.cells.items) (all_sound cells.narrow (seen cells.disk) cells.cells.items (is.on_disk t)) is.row is.narrow

module _ (narrow : ℕ) where
  -- what a step leaves that keeps its cell's payload stands for the same row
  pub leaves_stand : (cells : List Cell) (old c : List ℕ) (i : ℕ) (cell : Cell) → OnDisk narrow old cells → IsRow (map payload_held cells) → narrow ≡ narrow_in (map payload_held cells) → slice_get cells i ≡ Some cell → LeavesPayload narrow (frame_of i (other cell.side)) old i (payload_held cell) c → IsImageOf (map payload_held cells) c
  leaves_stand cells old c i cell held row told is leaves =
      stands narrow c (map payload_held cells) (row_kept narrow (map payload_held cells) old c i (other cell.side) (payload_held cell) (all_sound narrow old cells held) leaves.others (get_map payload_held cells i cell is) leaves.here) row told

  -- what the third step leaves stands for the row before it or after it
  pub may_open_stands : (cells : List Cell) (old c : List ℕ) (i : ℕ) (cell : Cell) (p : List ℕ) → OnDisk narrow old cells → IsRow (map payload_held cells) → narrow ≡ narrow_in (map payload_held cells) → slice_get cells i ≡ Some cell → i < length cells → IsRow (set (map payload_held cells) i (Some p)) → narrow ≡ narrow_in (set (map payload_held cells) i (Some p)) → MayOpen narrow (frame_of i (other cell.side)) old i (payload_held cell) p c
      → IsImageOf (map payload_held cells) c ⊎ IsImageOf (set (map payload_held cells) i (Some p)) c
  may_open_stands cells old c i cell p held row told is within row' told' opens = ⊎_elim
      (λ before. inl (leaves_stand cells old c i cell held row told is (record { others = opens.others; here = before })))
      (λ after. inr (stands narrow c (set (map payload_held cells) i (Some p)) (row_set narrow (map payload_held cells) old c i (other cell.side) (Some p) (all_sound narrow old cells held) opens.others (omega (arith, length-map cells payload_held)) after) row' told'))
      opens.here

  -- the spare of the cell under change is closed
  pub shut_under_way : (disk : List ℕ) (cells : List Cell) (change : Option Change) (i : ℕ) (pay : Option (List ℕ)) (cell : Cell) → ChangeIsUnderWay narrow disk cells change → change_held change ≡ Some (i, pay) → slice_get cells i ≡ Some cell → cell.spare_open ≡ false
  shut_under_way disk cells None i pay cell way held is = absurd (cc)
  shut_under_way disk cells (Some change) i pay cell way held is =
      let both : (change.cell, payload_staged change.step) ≡ (i, pay) = cc in
      let same : change.cell ≡ i = ap (λ (x : ℕ × Option (List ℕ)). x.0) both in
      (way cell (subst (λ (k : ℕ). slice_get cells k ≡ Some cell) (sym same) is)).0

  pub same_cell : (cells : List Cell) (i : ℕ) (cell cell' : Cell) → slice_get cells i ≡ Some cell → slice_get cells i ≡ Some cell' → cell ≡ cell'
  same_cell cells i cell cell' is is' = let both : Some cell ≡ Some cell' = sym is ∙ is' in cc

  -- a blank cell in memory stands where both frames are closed
  pub blank_stands : (disk : List ℕ) (i : ℕ) (cell : Cell) → IsNew cell → payload_held cell ≡ None → IsShut (half_size narrow i) (frame_at narrow disk (2 * i)) → IsShut (half_size narrow i) (frame_at narrow disk (2 * i + 1)) → CellHeld narrow disk i cell
  blank_stands disk i cell new none first second =
      let blank = new.blank in
      subst (λ (s : Side). FramesHeld (half_size narrow i) cell (frame_at narrow disk (frame_of i s)) (frame_at narrow disk (frame_of i (other s)))) (sym blank.side)
      (record {
        in_current = subst (λ (o : Option (List ℕ)). MatchOption o (IsBlank cell × IsShut (half_size narrow i) (frame_at narrow disk (2 * i + 1))) (λ p. IsFrame (half_size narrow i) cell.number p (frame_at narrow disk (2 * i + 1)))) (sym none) (blank, second);
        in_spare = subst (λ (o : Bool). MatchBool o (IsOlder (half_size narrow i) cell.number (frame_at narrow disk (2 * i))) (IsShut (half_size narrow i) (frame_at narrow disk (2 * i)))) (sym blank.spare) first;
        in_rest = zero_past cell.spare_used (frame_at narrow disk (2 * i)) (omega (arith, first.whole, (sized narrow (2 * i)).most, new.used));
      })

  -- a row of one cell
  pub only_cell : (disk : List ℕ) (cell : Cell) → CellHeld narrow disk 0 cell → OnDisk narrow disk (cell ∷ [])
  only_cell disk cell held zero cell' is = let same : cell ≡ cell' = cc in subst (λ (m : Cell). CellHeld narrow disk 0 m) same held
  only_cell disk cell held (suc i) cell' is = absurd (cc)
