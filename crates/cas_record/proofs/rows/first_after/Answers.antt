use Rattle.std.proofs.Common.{◌+◌, sym, ap, subst}
use Rattle.std.specs.Option.{option_copied}
use Rattle.cas_record.specs.Kept.Tables.{IsFirstAfter}
use Rattle.cas_record.proofs.Histories.Next.{after_place, after_gap}
use Rattle.cas_record.proofs.rows.first_after.Goals as goal

pub returns-in-Ok : goal.returns-in-Ok
returns-in-Ok c =
    subst (λ after. IsFirstAfter after c.args.rows.now c.args.marks.now (c.in-Ok.at + 1)) (sym (ap option_copied c.in-Some.is))
    (after_place c.args.rows.now c.args.marks.now c.requires c.in-Some.key.now c.in-Ok.at c.in-Ok.ensures)

pub returns-in-Err : goal.returns-in-Err
returns-in-Err c =
    subst (λ after. IsFirstAfter after c.args.rows.now c.args.marks.now c.in-Err.at) (sym (ap option_copied c.in-Some.is))
    (after_gap c.args.rows.now c.args.marks.now c.requires c.in-Some.key.now c.in-Err.at c.in-Err.ensures)
