use Rattle.std.proofs.Common.{sym, ◌∙◌}
use Rattle.cas_base.proofs.Bools.{not_tells, not_of_false, false_of_not}
use Rattle.cas_audit.proofs.Decisions.{told_ended, told_open, told_begun, told_unbegun, no_iff}
use Rattle.cas_audit.proofs.tables.Tables.is_first_end.Goals as goal

pub returns-then-is_some : goal.returns-then-is_some
returns-then-is_some c = λ marks audit.
    let is = c.call_of-told.ensures marks audit.are in
    let begun = told_begun is (sym c.is_some.ensures ∙ c.if-is_some.true) in
    let told = c.call_of-told.result in (
      λ e. record { key = begun.0; begun = begun.1; once = told_open is (not_tells told.ended e) },
      λ first. not_of_false told.ended (false_of_not told.ended (λ e. first.once (told_ended is e))),
    )

pub returns-else-is_some : goal.returns-else-is_some
returns-else-is_some c = λ marks audit.
    let is = c.call_of-told.ensures marks audit.are in
    no_iff {b = c.is_some.result} c.if-is_some.false (λ first. told_unbegun is (sym c.is_some.ensures ∙ c.if-is_some.false) first.key first.begun)
