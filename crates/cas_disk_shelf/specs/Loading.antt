-- Reading the memory of a shelf from its cells, one after another.
use Rattle.std.specs.Prelude.{◌≡◌, ℕ, List, Option, Result, Ok, IsErrOf}
use Rattle.cas_slot.specs.declared.fault.ShelfFault.{ShelfFault}
use Rattle.cas_slot.specs.declared.fault.ShelfFault.TheVariants.{DiskFault, Full}
use Rattle.cas_cells.specs.Format.{narrow_in, wide_in, head_in}
use Rattle.cas_disk_shelf.specs.declared.codec.Head.{Head}
use Rattle.cas_disk_shelf.specs.declared.memory.Loaded.{Loaded}
use Rattle.cas_disk_shelf.specs.Head.{head_of, IsSpelledHead}
use Rattle.cas_disk_shelf.specs.Image.{CellPlace, read_cells}
use Rattle.cas_disk_shelf.specs.Memory.{alone_in}

-- what is read of the first n cells, whatever their places are
abbrev pub IsReadTo : List (Option (List ℕ)) → ℕ → Loaded → Type 0
IsReadTo cells n loaded = (place : ℕ → CellPlace) → read_cells cells place n ≡ Ok (loaded.memory.held.slots, alone_in loaded)

-- this is the head of these cells
pub record IsHeadOf (cells : List (Option (List ℕ))) (head : Head) : Type 0 where
  pub spelled : IsSpelledHead (head_in cells) head
  pub read : head_of (head_in cells) ≡ Ok head
  pub narrow : narrow_in cells ≡ head.narrow
  pub wide : wide_in cells ≡ head.count

-- loading touches no disk, and there is room for all that is loaded
pub record IsOfLoading {T : Type 0} (result : Result T ShelfFault) : Type 0 where
  pub no_fault : IsErrOf result DiskFault → ⊥
  pub not_full : IsErrOf result Full → ⊥
