-- Stores that are opened again.
use Rattle.std.proofs.Common.{◌≡◌, ◌<◌, ℕ, List, true, length, Ok, sym, arith}
use Rattle.cas_disk_shelf.specs.declared.shelf.DiskShelf.{DiskShelf}
use Rattle.cas_model.proofs.Frames.Harms.{member_low}
use Rattle.cas_model.proofs.Safety.Parts.{at_low}
use Rattle.cas_model.specs.View.{Meaning}
use Rattle.cas_store.specs.Rack.{RackMeaning}
use Rattle.cas_reopen.proofs.Settled.{closed_go_on}
use Rattle.cas_reopen.specs.Again.{ReopenedStoresGoOn}

pub reopened_go_on : {D : Type 0} (meant : Meaning (DiskShelf D) D) (m : RackMeaning D) → ReopenedStoresGoOn meant m
reopened_go_on {D} meant m world rack members proposers next key tells may again =
    closed_go_on m.may_leave world rack.acceptors.items members again.floors key may.held (record {
      proposer = may.proposer;
      works = may.works;
      quorum = may.quorum;
      left = again.stood.left;
      on_disks = λ id member.
          let started = may.started id member in
          let disk = at_low rack.acceptors.items id (let low = member_low members id again.goes_on.opening.member_set member in let all = may.all in omega (arith, low, all)) in
          let left = again.stood.may_be tells id disk.0 member disk.1 in
          (started.0, started.1, started.2, disk.0, disk.1, left.0, left.1, sym left.2);
      found = again.stood.found;
    })
