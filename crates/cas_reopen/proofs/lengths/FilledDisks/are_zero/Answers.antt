use Rattle.std.proofs.Common.{inl, inr}
use Rattle.cas_reopen.proofs.Numbers.{some_last}
use Rattle.cas_reopen.proofs.lengths.FilledDisks.are_zero.Goals as goal

pub returns-then-end-eq0-clause-some : goal.returns-then-end-eq0-clause-some
returns-then-end-eq0-clause-some c = λ other. inr (some_last c.end-then-end-eq0.result c.args.self.now.vaults c.end-then-end-eq0.ensures.last other)

pub returns-else-end-eq0-clause-some : goal.returns-else-end-eq0-clause-some
returns-else-end-eq0-clause-some c = λ other. inl (some_last c.end.result c.args.self.now.acceptors c.end.ensures.last other)
