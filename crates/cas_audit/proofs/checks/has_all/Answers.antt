use Rattle.std.proofs.Common.{sym, ◌∙◌}
use Rattle.cas_record.proofs.Tests.{key_same, key_is, nat_is}
use Rattle.cas_audit.proofs.Decisions.{within_all, all_within, empty_within, yes_iff}
use Rattle.cas_audit.proofs.checks.has_all.Goals as goal

pub returns-then-count-eq0-clause-all : goal.returns-then-count-eq0-clause-all
returns-then-count-eq0-clause-all c = yes_iff (nat_is {a = c.count.result} {b = 0} c.if-count-eq0.true) (empty_within c.args.by.now c.args.voters.now (sym c.count.ensures.value ∙ c.if-count-eq0.true))

pub returns-else-count-eq0-clause-all : goal.returns-else-count-eq0-clause-all
returns-else-count-eq0-clause-all c = (
  λ e. all_within c.args.by.now c.args.voters.now (sym c.intersection.ensures ∙ key_same (sym c.eq.ensures ∙ e)),
  λ all. c.eq.ensures ∙ key_is (c.intersection.ensures ∙ within_all c.args.by.now c.args.voters.now c.count.ensures.set all),
)
