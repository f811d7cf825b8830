use Rattle.std.proofs.Common.{rules, Ok, ap, sym, ◌∙◌}
use Rattle.std.proofs.lemmas.List.{get_or_default}
use Rattle.std.proofs.lemmas.Fn.{always_returns_same}
use Rattle.cas_record.specs.Kept.Tables.{row_cmp}
use Rattle.cas_record.proofs.Kept.Rows.{searched, equal_is, no_row}
use Rattle.cas_record.proofs.rows.search.Goals as goal

pub returns-then-is_eq : goal.returns-then-is_eq
returns-then-is_eq c = searched c.requires.keys c.args.rows.now c.args.marks.now c.requires.are c.args.key.now (Ok c.args.hint) c.if-hint-rows.true
    (λ d. ap (row_cmp c.args.marks.now c.args.key.now) (get_or_default c.args.rows.now c.args.hint d no_row c.if-hint-rows.true)
    ∙ sym c.compare.ensures ∙ equal_is c.compare.result (sym c.is_eq.ensures ∙ c.if-is_eq.true))

-- the closure compares a row's key
pub returns : goal.returns
returns c =
    let facts = c.binary_search_by.ensures in
    let by_key = facts.position (row_cmp c.args.marks.now c.args.key.now) (always_returns_same _ _ _ (λ a r g called. (search rules, search rules))) in
    searched c.requires.keys c.args.rows.now c.args.marks.now c.requires.are c.args.key.now c.binary_search_by.result facts.bound by_key
