use Rattle.std.proofs.Common.{sym, subst, List, ℕ}
use Rattle.cas_disk.specs.Medium.{undone, IsImage}
use Rattle.cas_disk.specs.MediumLaws.{seen_is_image}
use Rattle.cas_disk.proofs.Tearing.{image_of_none}
use Rattle.cas_disk.proofs.medium.redraw.Goals as goal

pub returns-in-New-clause-image : goal.returns-in-New-clause-image
returns-in-New-clause-image c = seen_is_image c.args.writes.now c.args.bytes.now.items c.requires

pub returns-in-Old-clause-image : goal.returns-in-Old-clause-image
returns-in-Old-clause-image c =
    let durable = undone c.args.writes.now c.args.bytes.now.items in
    subst (λ (l : List ℕ). IsImage durable c.args.writes.now l) (sym c.undo_all.ensures) (image_of_none durable c.args.writes.now)

pub returns-in-Err-clause-image : goal.returns-in-Err-clause-image
returns-in-Err-clause-image c =
    let durable = undone c.args.writes.now c.args.bytes.now.items in
    subst (λ (l : List ℕ). IsImage durable c.args.writes.now l) (sym c.undo_all-in-Noise.ensures) (image_of_none durable c.args.writes.now)
