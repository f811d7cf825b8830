use Rattle.std.specs.Prelude.{unwrap_or}
use Rattle.std.proofs.Common.{Option, ℕ, sym, ap, ◌∙◌}
use Rattle.cas_cells.specs.Cells.{disk_of}
use Rattle.cas_cells.specs.Format.{payload_place}
use Rattle.cas_cells.proofs.Survival.{narrow_seen}
use Rattle.cas_disk_shelf.proofs.memory.place_of.Goals as goal

pub returns-clause-place : goal.returns-clause-place
returns-clause-place g c tells =
    let seen = g.D.Disk.seen (disk_of c.args.cells.now) in
    c.unwrap_or.ensures
    ∙ ap (λ (o : Option ℕ). unwrap_or o 0)
    (c.payload_place.ensures.place tells ∙ ap (λ (n : ℕ). payload_place n seen c.args.cell) (sym (narrow_seen g.D.Disk.tells g.D.Disk.seen g.D.Disk.may_leave c.args.cells.now c.requires.stands tells)))
