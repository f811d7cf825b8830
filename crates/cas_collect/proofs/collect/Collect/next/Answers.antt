use Rattle.std.proofs.Common.{refl}
use Rattle.cas_collect.proofs.OrderLemmas.{is_next}
use Rattle.cas_collect.proofs.collect.Collect.next.Goals as goal

pub returns-clause-next : goal.returns-clause-next
returns-clause-next c = rw (← c.self.view_is) refl

pub returns-clause-order : goal.returns-clause-order
returns-clause-order c = rw (← c.self.view_is) (is_next c.self.inside.proposers c.self.inside.step c.self.invariant)
