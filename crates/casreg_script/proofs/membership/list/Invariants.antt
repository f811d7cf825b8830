use Rattle.std.proofs.Common.{◌≡◌, ℕ, Some}
use Rattle.cas_model.specs.View.{meaning}
use Rattle.cas_members.specs.declared.plan.PlanStep.TheVariants.{Settle}
use Rattle.cas_world.specs.Eras.Plans.{IsPartial, step_of}
use Rattle.casreg_script.specs.Frames.Conditions.{NetworkView}
use Rattle.casreg_script.specs.Exchanges.Exchanges.{listing_left}
use Rattle.casreg_script.specs.Eras.Membership.{HasAdvanced}
use Rattle.casreg_script.specs.Frames.Network.{IsNetwork, Through}
use Rattle.casreg_script.specs.declared.halt.Halt.{Halt}
use Rattle.casreg_script.proofs.Eras.Carrying.{GoesFrom}
use Rattle.casreg_script.proofs.membership.list.Given as goal

abbrev pub invariant-pages : goal.invariant-pages
invariant-pages g l = record {
  advances : (tries : ℕ) (halt : Halt) → Through l.initial.network l.network (λ by next. HasAdvanced (meaning g.S.Shelf g.V.Disk) tries by halt l.initial.world next halt l.world);
  network : (by : NetworkView) → IsNetwork l.initial.network by → (next : NetworkView) × IsNetwork l.network next;
  goes : GoesFrom l.initial.world l.world;
  settles : step_of l.world.council.plan ≡ Some Settle;
  partial : IsPartial l.world.council.plan;
}

abbrev pub decreases-pages : goal.decreases-pages
decreases-pages g l = listing_left l.world
