use Rattle.std.specs.Prelude.{IsSome}
use Rattle.cas_world_calls.specs.Council.{due_in}
use Rattle.cas_model.specs.View.{meaning}
use Rattle.casreg_script.specs.Frames.Conditions.{NetworkView}
use Rattle.casreg_script.specs.Eras.Membership.{HasAdvanced, TakesStep, keys_listed}
use Rattle.casreg_script.specs.Frames.Network.{IsNetwork, Through}
use Rattle.casreg_script.proofs.Eras.Carrying.{GoesFrom}
use Rattle.casreg_script.proofs.membership.rescan.Given as goal

abbrev pub invariant-loop-key : goal.invariant-loop-key
invariant-loop-key g l = record {
  advances : Through l.initial.network l.network (λ by next. HasAdvanced (meaning g.S.Shelf g.V.Disk) l.tries by l.initial.halt l.initial.world next l.halt l.world);
  network : (by : NetworkView) → IsNetwork l.initial.network by → (next : NetworkView) × IsNetwork l.network next;
  goes : GoesFrom l.initial.world l.world;
  takes : IsSome (due_in l.initial.world.council.plan) → TakesStep l.initial.world l.world;
}

abbrev pub decreases-loop-key : goal.decreases-loop-key
decreases-loop-key g l = keys_listed l.world
