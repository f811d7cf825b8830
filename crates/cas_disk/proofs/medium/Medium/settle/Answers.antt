use Rattle.std.proofs.Common.{refl, sym, subst, List, length}
use Rattle.cas_disk.specs.Disk.{Elapses}
use Rattle.cas_disk.specs.Medium.{MayLeave, LeftSince}
use Rattle.cas_disk.specs.declared.medium.Write.{Write}
use Rattle.cas_disk.proofs.Epochs.{elapses_close, elapses_after}
use Rattle.cas_disk.proofs.medium.Medium.settle.Goals as goal

pub returns-clause-time : goal.returns-clause-time
returns-clause-time c =
    let bytes = c.args.self.now.bytes.items in
    let pending = c.args.self.now.pending.items in
    let past = c.args.self.now.past.items in
    elapses_after c.args.self.now.forgotten past c.close.new.past.items pending c.close.new.pending.items bytes bytes
    (subst (λ (ws : List Write). Elapses (length past) (length c.close.new.past.items) (LeftSince past pending bytes) (LeftSince c.close.new.past.items ws bytes) (MayLeave ws bytes)) (sym c.close.ensures.pending)
    (elapses_close past pending _ c.close.new.past.items bytes bytes c.close.ensures.past refl (λ _. refl)))
