use Rattle.std.proofs.Common.{◌≡◌, List, map, reverse, sym, ap, subst, ◌∙◌}
use Rattle.cas_disk_shelf.specs.Shelf.{disk_of}
use Rattle.cas_record.specs.declared.mark.Mark.{Mark}
use Rattle.cas_store.specs.Kept.{AreHeld, AreKept}
use Rattle.cas_store.specs.Store.{acceptor_disks}
use Rattle.cas_store.proofs.Keeping.{held_on_disks, kept_on_disks, stored}
use Rattle.cas_store.proofs.Standing.{disks_shelved}
use Rattle.cas_store.proofs.store.Store.close.Goals as goal

pub returns-clause-acceptors : goal.returns-clause-acceptors
returns-clause-acceptors g c = c.take_off_shelves.ensures.disks ∙ (ap (λ (l : List _). map disk_of l) c.parts-record.ensures.shelves ∙ disks_shelved c.args.self.world.acceptors)

pub returns-clause-kept : goal.returns-clause-kept
returns-clause-kept g c tells =
    let disks : c.take_off_shelves.new.disks.items ≡ acceptor_disks c.args.self.world.acceptors = returns-clause-acceptors g c in
    subst (λ (l : List _). AreKept g.D.Disk.may_leave (reverse c.parts-record.result.0.marks) l) (sym disks)
    (subst (λ (l : List Mark). AreKept g.D.Disk.may_leave (reverse l) (acceptor_disks c.args.self.world.acceptors)) (sym c.parts-record.ensures.marks)
    (kept_on_disks (stored g.D.Disk) g.D.Disk.may_leave c.args.self.world (λ shelf left may. may) (c.parts-record.ensures.kept tells tells)))

pub returns-clause-held : goal.returns-clause-held
returns-clause-held g c tells =
    subst (λ (l : List _). AreHeld g.D.Disk.may_leave c.args.self.world l) (sym (returns-clause-acceptors g c))
    (held_on_disks (stored g.D.Disk) g.D.Disk.may_leave c.args.self.world (λ shelf left may. may) (c.parts-record.ensures.held tells tells))
