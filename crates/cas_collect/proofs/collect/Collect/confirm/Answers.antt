use Rattle.std.proofs.Common.{List, ap}
use Rattle.cas_collect.specs.declared.collect.CollectStep.{CollectStep}
use Rattle.cas_collect.specs.Order.{Collection, step_after}
use Rattle.cas_collect.proofs.OrderLemmas.{confirmed_by, IsStepOf-confirmed}
use Rattle.cas_collect.proofs.collect.Collect.confirm.Goals as goal

pub invariant_of-self : goal.invariant_of-self
invariant_of-self c =
    rw c.step_after-self-inside.ensures
    (IsStepOf-confirmed c.self.inside.proposers c.self.inside.step c.args.step c.self.invariant (rw (← c.self.view_is) at c.requires))

pub returns : goal.returns
returns c =
    let more : List CollectStep → Collection = λ steps. record {
      key = c.self.inside.key;
      era = c.self.inside.era;
      proposers = c.self.inside.proposers;
      confirmed = steps;
      step = step_after c.self.inside.proposers c.args.step;
    } in
    rw (← c.self.view_is, c.step_after-self-inside.ensures)
    (ap more (confirmed_by c.self.inside.proposers c.self.inside.step c.args.step c.self.invariant (rw (← c.self.view_is) at c.requires)))
