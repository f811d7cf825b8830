use Rattle.std.proofs.Common.{◌<◌, ℕ}
use Rattle.std.specs.Prelude.{◌⊎◌, IsSome}
use Rattle.cas_model.specs.View.{meaning}
use Rattle.cas_world.specs.Eras.Plans.{entrant_of}
use Rattle.casreg_script.specs.Frames.Conditions.{NetworkView}
use Rattle.casreg_script.specs.Eras.Membership.{HasAdvanced, steps_left}
use Rattle.casreg_script.specs.declared.halt.Halt.{Halt}
use Rattle.casreg_script.proofs.Eras.Carrying.{GoesFrom}
use Rattle.casreg_script.proofs.Eras.Entering.{entries_left}
use Rattle.casreg_script.proofs.membership.enter.Given as goal

abbrev pub invariant-loop-proposer : goal.invariant-loop-proposer
invariant-loop-proposer g l = record {
  advances : (tries : ℕ) (by : NetworkView) (halt : Halt) → HasAdvanced (meaning g.S.Shelf g.V.Disk) tries by halt l.initial.world by halt l.world;
  goes : GoesFrom l.initial.world l.world;
  takes : (steps_left l.world < steps_left l.initial.world) ⊎ IsSome (entrant_of l.world.council.plan);
}

abbrev pub decreases-loop-proposer : goal.decreases-loop-proposer
decreases-loop-proposer g l = entries_left l.world
