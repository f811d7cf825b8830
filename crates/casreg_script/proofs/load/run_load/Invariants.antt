use Rattle.std.proofs.Common.{◌≡◌, ◌≤◌}
use Rattle.cas_model.specs.Council.{IsAtRest}
use Rattle.cas_model.specs.View.{meaning}
use Rattle.casreg_script.specs.Stage.{AllIdle}
use Rattle.casreg_script.proofs.Loads.{RunsSoFar}
use Rattle.casreg_script.proofs.load.run_load.Given as goal

abbrev pub invariant-loop-line : goal.invariant-loop-line
invariant-loop-line g l = record {
  so_far : RunsSoFar (meaning g.S.Shelf g.V.Disk) l.load l.initial.world l.network l.generator l.summary l.line l.world;
  idle : AllIdle l.world;
  quiet : IsAtRest l.world.council;
  within : l.line ≤ l.load.lines;
  last_proposer : l.world.last_proposer ≡ l.initial.world.last_proposer;
}
