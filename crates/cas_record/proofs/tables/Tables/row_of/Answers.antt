use Rattle.std.proofs.Common.{sym, subst, ◌∙◌}
use Rattle.cas_record.specs.Kept.Tables.{IsSearched}
use Rattle.cas_record.proofs.tables.Tables.row_of.Goals as goal

pub returns : goal.returns
returns c =
    let key = c.args.key.now in
    let marks = c.args.marks.now in
    c.row_at.ensures key marks (subst (λ rows. IsSearched key rows marks c.search.result) (c.deref-2.ensures.value ∙ sym c.deref.ensures.value) c.search.ensures)
