-- What is kept on the shelves of a world is kept on the disks below them.
use Rattle.std.proofs.Common.{◌≡◌, ℕ, List, reverse, Ok, refl, sym, subst}
use Rattle.cas_acceptor.specs.Acceptor.{AcceptorView}
use Rattle.cas_record.specs.declared.mark.Acknowledgment.{Acknowledgment}
use Rattle.cas_record.specs.declared.mark.Mark.TheVariants.{Acked}
use Rattle.cas_record.specs.Logs.Orderly.{IsAboveFloors}
use Rattle.cas_record.specs.Places.{Stands}
use Rattle.cas_slot.specs.Shelf.{Left}
use Rattle.cas_disk_shelf.specs.Image.{left_on}
use Rattle.cas_disk.specs.declared.disk.Disk.{Ghosts as DiskKind}
use Rattle.cas_disk_shelf.specs.Shelf.{contents_of, disk_of, ShelfMayLeave}
use Rattle.cas_disk_shelf.specs.declared.shelf.DiskShelf.{DiskShelf}
use Rattle.cas_model.specs.View.{Meaning, View, disk_meaning}
use Rattle.cas_model.specs.Laws.{AcknowledgedIsKept}
use Rattle.cas_model.proofs.Places.{at_one}
use Rattle.cas_model_stops.specs.Stopped.{SettledIsHeld}
use Rattle.cas_store.specs.Kept.{AreHeld, AreKept}
use Rattle.cas_store.specs.Store.{acceptor_disks}
use Rattle.cas_store.proofs.Standing.{at_mapped}

-- what disks mean that bear shelves and vaults
abbrev pub stored : {D : Type 0} → DiskKind D → Meaning (DiskShelf D) D
stored D = record {
  shelves = record {
    contents = λ shelf. contents_of shelf;
    tells = D.tells;
    may_leave = λ shelf left. ShelfMayLeave D.may_leave shelf left;
    faults = λ shelf. D.fault_count (disk_of shelf);
  };
  disks = disk_meaning D;
}

pub kept_on_disks : {D : Type 0} (m : Meaning (DiskShelf D) D) (may_leave : D → List ℕ → Type 0) (view : View (DiskShelf D) D)
    → ((shelf : DiskShelf D) (left : Left) → ShelfMayLeave may_leave shelf left → m.shelves.may_leave shelf left)
    → ((a : Acknowledgment) → Stands (Acked a) (reverse view.marks) → IsAboveFloors (reverse view.marks) a.key a.ballot → AcknowledgedIsKept m view a)
    → AreKept may_leave (reverse view.marks) (acceptor_disks view.acceptors)
kept_on_disks {D} m may_leave view reads kept a stands above id disk member at image may =
    let found = at_mapped (λ (x : AcceptorView (DiskShelf D)). disk_of x.shelf) view.acceptors id disk at in
    let by = (kept a stands above).kept id found.0 member found.1 in
    let left : may_leave (disk_of found.0.shelf) image = subst (λ (d : D). may_leave d image) (sym found.2) may in
    let whole = by.whole (left_on image) (reads found.0.shelf (left_on image) (image, left, refl)) in
    record {
      contents = whole.0;
      spelled = whole.1;
      at_least = by.at_least whole.0 (reads found.0.shelf (Ok whole.0) (image, left, sym whole.1));
    }

pub held_on_disks : {D : Type 0} (m : Meaning (DiskShelf D) D) (may_leave : D → List ℕ → Type 0) (view : View (DiskShelf D) D)
    → ((shelf : DiskShelf D) (left : Left) → ShelfMayLeave may_leave shelf left → m.shelves.may_leave shelf left)
    → SettledIsHeld m view → AreHeld may_leave view (acceptor_disks view.acceptors)
held_on_disks {D} m may_leave view reads held proposer by left known quorum on key =
    held proposer by left known quorum (λ id member.
    (let there = on id member in
    let found = at_mapped (λ (x : AcceptorView (DiskShelf D)). disk_of x.shelf) view.acceptors id there.3 there.4 in
    let same : found.0 ≡ there.0 = at_one view.acceptors id found.1 there.1 in
    let may : may_leave (disk_of there.0.shelf) there.5 =
    subst (λ (x : AcceptorView (DiskShelf D)). may_leave (disk_of x.shelf) there.5) same (subst (λ (d : D). may_leave d there.5) (sym found.2) there.6) in
    (there.0, there.1, there.2, reads there.0.shelf (Ok (left id)) (there.5, may, sym there.7)))) key
