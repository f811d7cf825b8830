-- The length of a shelf's disk over its calls.
use Rattle.std.specs.Prelude.{max}
use Rattle.std.proofs.Common.{◌≡◌, ℕ, ◌+◌, ◌*◌, ◌≤◌, List, length, arith}
use Rattle.cas_slot.specs.Slots.{slot_count}
use Rattle.cas_disk.specs.Disk.{ContinuesOnly}
use Rattle.cas_disk.proofs.Moments.{from_there}
use Rattle.cas_cells.specs.Length.{NotLonger}
use Rattle.cas_disk_shelf.specs.declared.shelf.DiskShelf.{DiskShelf}
use Rattle.cas_disk_shelf.specs.Shelf.{disk_of, contents_of, narrow_of}
use Rattle.cas_disk_shelf.specs.Length.{HoldsAtMost, StaysShort, longest}

module _ {D : Type 0} (moment : D → ℕ) (left_since : D → ℕ → List ℕ → Type 0) (may_leave : D → List ℕ → Type 0) (old new : DiskShelf D) (began : D) where
  -- a call that, from where the past was forgotten, makes the disk no longer than this, which is within the bound
  pub stays_within : (bytes : ℕ) → moment began ≡ moment (disk_of old) → ((c : List ℕ) → may_leave began c → may_leave (disk_of old) c)
      → ((t : ℕ) (c : List ℕ) → t ≤ moment (disk_of new) → may_leave (disk_of new) c → left_since (disk_of new) t c)
      → ((narrow before : ℕ) → narrow_of old ≤ narrow → HoldsAtMost may_leave before old → bytes ≤ 1024 * (1 + max narrow (narrow_of new)) + 9216 * (1 + before))
      → NotLonger moment left_since may_leave began (disk_of new) bytes → StaysShort moment left_since may_leave old new
  stays_within bytes same outcomes counts few run taken narrow before most short more holds =
      let wider : ℕ = max narrow (narrow_of new) in
      let limit : ℕ = longest taken wider most in
      let low = few narrow before short.cells short.slots in
      let within : ContinuesOnly moment left_since began (disk_of new) (λ c. length c ≤ limit) =
      run.within limit (omega (arith, low, more)) (λ c left. omega (arith, short.disk c (outcomes c left), more)) in
      record {
        afterwards = record { disk = λ c left. within.each c (counts (moment began) c within.later left); cells = omega arith; slots = holds };
        any_moment = from_there moment left_since (disk_of old) began (disk_of new) (λ c. length c ≤ limit) same within;
      }

  -- the same where that is the end of the cell behind those of the slots that were shown
  pub stays_short : (bytes : ℕ) → moment began ≡ moment (disk_of old) → ((c : List ℕ) → may_leave began c → may_leave (disk_of old) c)
      → ((t : ℕ) (c : List ℕ) → t ≤ moment (disk_of new) → may_leave (disk_of new) c → left_since (disk_of new) t c) → bytes ≤ 1024 * (1 + narrow_of old) + 9216 * (slot_count (contents_of old).slots + 1)
      → NotLonger moment left_since may_leave began (disk_of new) bytes → StaysShort moment left_since may_leave old new
  stays_short bytes same outcomes counts few run =
      stays_within bytes same outcomes counts (λ narrow before low holds. omega (arith, few, low, holds.shown)) run
