use Rattle.std.proofs.Common.{sym, ap, ◌∙◌}
use Rattle.std.specs.Prelude.{is_some}
use Rattle.cas_base.proofs.Bools.{not_both, not_of_true, not_of_false}
use Rattle.cas_audit.specs.declared.told.Row.{Row}
use Rattle.cas_audit.proofs.Decisions.{no_iff, opening_told, floor_tells, true_of_not}
use Rattle.cas_audit.proofs.Going.{none_begun}
use Rattle.cas_audit.proofs.tables.Tables.may_open.Goals as goal

pub returns-then-not-self : goal.returns-then-not-self
returns-then-not-self c = λ marks audit.
    let floor = ap (λ (x : Row). is_some x.floor) (c.row_of.ensures marks audit.are) in (
      λ e. opening_told (sym audit.are.calls_began ∙ c.if-not-self.true) (sym floor ∙ c.is_none.ensures ∙ not_of_true c.is_none.result e),
      λ opening. true_of_not c.is_none.result (λ some.
          let there = floor_tells c.args.key.now marks (sym floor ∙ c.is_none.ensures ∙ not_of_false c.is_none.result some) in
          opening.first there.1.stands),
    )

pub returns-else-not-self : goal.returns-else-not-self
returns-else-not-self c = λ marks audit.
    no_iff (not_of_true c.args.self.now.has_calls c.if-not-self.false) (λ opening. not_both c.args.self.now.has_calls c.if-not-self.false (audit.are.calls_began ∙ none_begun marks opening.none_begun))
