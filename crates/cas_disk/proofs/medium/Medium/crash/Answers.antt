use Rattle.std.proofs.Common.{◌≡◌, sym, subst, List, length}
use Rattle.cas_disk.specs.Disk.{Elapses}
use Rattle.cas_disk.specs.Medium.{undone, started_with, IsImage, MayLeave, LeftSince}
use Rattle.cas_disk.specs.declared.medium.Write.{Write}
use Rattle.cas_disk.proofs.Epochs.{elapses_close, elapses_after}
use Rattle.cas_disk.proofs.Tearing.{image_of_nothing}
use Rattle.cas_disk.proofs.medium.Medium.crash.Goals as goal

pub returns-clause-time : goal.returns-clause-time
returns-clause-time c =
    let bytes = c.args.self.now.bytes.items in
    let pending = c.args.self.now.pending.items in
    let past = c.args.self.now.past.items in
    let new = c.redraw-before.new.bytes.items in
    let read : c.deref.result.now ≡ pending = c.deref.ensures.value in
    let image : IsImage (undone pending bytes) pending new = subst (λ (ws : List Write). IsImage (undone ws bytes) ws new) read c.redraw-before.ensures.image in
    let redrawn : started_with c.redraw-before.result pending new ≡ undone pending bytes = subst (λ (ws : List Write). started_with c.redraw-before.result ws new ≡ undone ws bytes) read c.redraw-before.ensures.before in
    elapses_after c.args.self.now.forgotten past c.close.new.past.items pending c.close.new.pending.items bytes new
    (subst (λ (ws : List Write). Elapses (length past) (length c.close.new.past.items) (LeftSince past pending bytes) (LeftSince c.close.new.past.items ws new) (MayLeave ws new)) (sym c.close.ensures.pending)
    (elapses_close past pending _ c.close.new.past.items bytes new c.close.ensures.past redrawn (λ none. image_of_nothing pending bytes new image none)))
