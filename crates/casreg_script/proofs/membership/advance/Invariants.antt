use Rattle.cas_model.specs.View.{meaning}
use Rattle.casreg_script.specs.Frames.Conditions.{NetworkView}
use Rattle.casreg_script.specs.Eras.Membership.{HasAdvanced, steps_left}
use Rattle.casreg_script.specs.Frames.Network.{IsNetwork, Through}
use Rattle.casreg_script.proofs.Eras.Carrying.{GoesFrom}
use Rattle.casreg_script.proofs.membership.advance.Given as goal

abbrev pub invariant-loop-step : goal.invariant-loop-step
invariant-loop-step g l = record {
  advances : Through l.initial.network l.network (λ by next. HasAdvanced (meaning g.S.Shelf g.V.Disk) l.tries by l.initial.halt l.initial.world next l.halt l.world);
  network : (by : NetworkView) → IsNetwork l.initial.network by → (next : NetworkView) × IsNetwork l.network next;
  goes : GoesFrom l.initial.world l.world;
}

abbrev pub decreases-loop-step : goal.decreases-loop-step
decreases-loop-step g l = steps_left l.world
