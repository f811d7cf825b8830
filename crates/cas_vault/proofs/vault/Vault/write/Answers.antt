use Rattle.std.proofs.Common.{Some, Err, inl, inr, ⊎_elim, length, sym, ap, ◌∙◌, arith}
use Rattle.std.proofs.Math.ListN.{set}
use Rattle.cas_disk.proofs.Moments.{then_on, weaker}
use Rattle.cas_cells.specs.Cells.{cells_of, disk_of}
use Rattle.cas_cells.specs.Format.{narrow_in, narrow_told, wide_in, wide_told}
use Rattle.cas_cells.specs.UnderWay.{staged_in}
use Rattle.cas_cells.proofs.Places.{fits_narrow}
use Rattle.cas_cells.specs.declared.fault.CellFault.{CellFault}
use Rattle.cas_vault.specs.Vault.{KeepsBeforeOrAfter}
use Rattle.cas_vault.proofs.Keeping.{in_use, row_keeps, told_no_memory}
use Rattle.cas_vault.proofs.vault.Vault.write.Goals as goal

pub returns-clause-stands : goal.returns-clause-stands
returns-clause-stands g c =
    let s = c.requires.stands in
    let row = c.write_spare.ensures.cells ∙ c.close_spare.ensures.cells ∙ s.held in
    let staged = ap staged_in c.in_ok-write_spare.ensures.written ∙ c.spell.ensures in
    let held = c.in_ok-open_spare.ensures.changed ∙ (λ t. set (row t) 0 (Some (staged t))) in
    in_use g.V.Disk.tells g.V.Disk.seen g.V.Disk.may_leave _ c.in_ok-open_spare.ensures.stands held c.requires.fits s.counter

pub returns-in_err-open_spare-clause-after_no_memory : goal.returns-in_err-open_spare-clause-after_no_memory
returns-in_err-open_spare-clause-after_no_memory g c no_memory =
    let s = c.requires.stands in
    let fault = told_no_memory c.from_residual-in_err-open_spare.result c.in_err-open_spare.field-0.0 c.from_residual-in_err-open_spare.ensures.1 no_memory in
    let was = c.in_err-open_spare.was ∙ ap (λ (e : CellFault). Err e) fault in
    let held = c.in_err-open_spare.ensures.cells ∙ c.write_spare.ensures.cells ∙ c.close_spare.ensures.cells ∙ s.held in
    in_use g.V.Disk.tells g.V.Disk.seen g.V.Disk.may_leave _ (c.open_spare.ensures.after_no_memory was) held s.fits s.counter

pub write_spare-requires-clause-fits : goal.write_spare-requires-clause-fits
write_spare-requires-clause-fits g c = fits_narrow (narrow_in (cells_of c.close_spare.new.self)) 0 _ (record { not_empty = omega (arith, ap length c.spell.ensures); fits = omega (arith, ap length c.spell.ensures) })

pub write_spare-requires-clause-same_count : goal.write_spare-requires-clause-same_count
write_spare-requires-clause-same_count g c first =
    let row = c.close_spare.ensures.cells ∙ c.requires.stands.held in
    record {
      narrow = ap narrow_told c.spell.ensures ∙ ap narrow_in (sym row);
      wide = ap wide_told c.spell.ensures ∙ ap wide_in (sym row);
    }

pub returns-in_err-write_spare-clause-after_no_memory : goal.returns-in_err-write_spare-clause-after_no_memory
returns-in_err-write_spare-clause-after_no_memory g c no_memory =
    let s = c.requires.stands in
    let fault = told_no_memory c.from_residual-in_err-write_spare.result c.in_err-write_spare.field-0.0 c.from_residual-in_err-write_spare.ensures.1 no_memory in
    let was = c.in_err-write_spare.was ∙ ap (λ (e : CellFault). Err e) fault in
    let held = c.write_spare.ensures.cells ∙ c.close_spare.ensures.cells ∙ s.held in
    in_use g.V.Disk.tells g.V.Disk.seen g.V.Disk.may_leave _ (c.write_spare.ensures.after_no_memory was) held s.fits s.counter

pub returns-clause-any_moment : goal.returns-clause-any_moment
returns-clause-any_moment g c tells =
    let s = c.requires.stands in
    let before = c.args.self.now.kept in
    let after = c.args.kept in
    let row0 = s.held in
    let row1 = c.close_spare.ensures.cells ∙ s.held in
    let row2 = c.write_spare.ensures.cells ∙ row1 in
    let staged = ap staged_in c.in_ok-write_spare.ensures.written ∙ c.spell.ensures in
    then_on g.V.Disk.moment g.V.Disk.left_since (disk_of c.args.self.now.cells) (disk_of c.write_spare.new.self) (disk_of c.open_spare.new.self) (KeepsBeforeOrAfter before after)
    (then_on g.V.Disk.moment g.V.Disk.left_since (disk_of c.args.self.now.cells) (disk_of c.close_spare.new.self) (disk_of c.write_spare.new.self) (KeepsBeforeOrAfter before after)
    (weaker g.V.Disk.moment g.V.Disk.left_since _ _ _ (KeepsBeforeOrAfter before after) (λ image stands. inl (row_keeps _ before image s.fits row0 stands)) (c.close_spare.ensures.any_moment tells))
    (weaker g.V.Disk.moment g.V.Disk.left_since _ _ _ (KeepsBeforeOrAfter before after) (λ image stands. inl (row_keeps _ before image s.fits row1 stands)) (c.write_spare.ensures.any_moment tells)))
    (weaker g.V.Disk.moment g.V.Disk.left_since _ _ _ (KeepsBeforeOrAfter before after)
    (λ image either. ⊎_elim (λ old. inl (row_keeps _ before image s.fits row2 old)) (λ new. inr (row_keeps _ after image c.requires.fits (λ t. set (row2 t) 0 (Some (staged t))) new)) either) (c.open_spare.ensures.any_moment tells))
