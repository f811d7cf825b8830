use Rattle.std.proofs.Common.{ℕ, List}
use Rattle.cas_model.specs.View.{meaning}
use Rattle.cas_collect.specs.declared.collect.CollectStep.TheVariants.{Renew}
use Rattle.casreg_script.specs.Collection.Collecting.{IsDue}
use Rattle.casreg_script.specs.Collection.Collections.{HasTaken}
use Rattle.casreg_script.specs.Frames.Conditions.{NetworkView}
use Rattle.casreg_script.specs.Exchanges.Orders.{KeepsIdle}
use Rattle.casreg_script.proofs.Collection.Collecting.{IsRenewalDue, renewals_left}
use Rattle.casreg_script.proofs.collect.renew.Given as goal

abbrev pub invariant-loop-proposer : goal.invariant-loop-proposer
invariant-loop-proposer g l = record {
  taken : (by : NetworkView) → HasTaken (meaning g.S.Shelf g.V.Disk) by l.initial.world by l.world;
  due : (key : List ℕ) → IsDue l.initial.world key (Renew 0) → IsRenewalDue l.world key;
  idle : KeepsIdle l.initial.world l.world;
}

abbrev pub decreases-loop-proposer : goal.decreases-loop-proposer
decreases-loop-proposer g l = renewals_left l.world
