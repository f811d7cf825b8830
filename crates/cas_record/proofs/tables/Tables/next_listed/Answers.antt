use Rattle.std.proofs.Common.{rules, ◌≡◌, reverse, sym, subst, arith, ◌∙◌}
use Rattle.cas_base.proofs.Bools.{not_both}
use Rattle.cas_record.specs.Kept.Index.{IsRowOf}
use Rattle.cas_record.proofs.Positions.{got}
use Rattle.cas_record.proofs.Histories.Next.{unlisted_more}
use Rattle.cas_record.proofs.tables.Tables.next_listed.Goals as goal

pub returns-then-is_listed : goal.returns-then-is_listed
returns-then-is_listed c = λ marks are. record {
  low = c.loop-at.invariant.0;
  within = search rules;
  unlisted = c.loop-at.invariant.1 marks are;
  listed = λ row key is own.
      let same : row ≡ c.index.result.now = sym (got c.args.self.now.rows.items c.loop-at.at row c.index.result.now is).1 ∙ sym c.index.ensures in
      (c.is_listed.ensures key marks are (subst (IsRowOf key (reverse marks)) same own)).0 c.if-is_listed.true;
}

pub loop-at-preserved : goal.loop-at-preserved
loop-at-preserved c = (
  omega (arith, c.loop-at.invariant.0),
  λ marks are. unlisted_more c.args.self.now.rows.items marks c.args.from c.loop-at.at (c.loop-at.invariant.1 marks are) (λ row key is own listed.
      let same : row ≡ c.index.result.now = sym (got c.args.self.now.rows.items c.loop-at.at row c.index.result.now is).1 ∙ sym c.index.ensures in
      not_both c.is_listed.result ((c.is_listed.ensures key marks are (subst (IsRowOf key (reverse marks)) same own)).1 listed) c.if-is_listed.false),
)

pub returns : goal.returns
returns c = λ marks are j row key high low is own listed. c.loop-at.invariant.1 marks are j row key high (search (rules, low)) is own listed
