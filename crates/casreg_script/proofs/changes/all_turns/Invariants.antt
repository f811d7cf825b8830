use Rattle.std.proofs.Common.{◌≡◌, Bool, None}
use Rattle.cas_model.specs.View.{meaning}
use Rattle.casreg_script.specs.Calls.Changes.{Turned}
use Rattle.casreg_script.specs.Frames.Conditions.{NetworkView}
use Rattle.casreg_script.specs.Frames.Network.{IsNetwork, Through}
use Rattle.casreg_script.specs.Calls.Playing.{AskedCall, IsPlaying, turns_left}
use Rattle.casreg_script.proofs.changes.all_turns.Given as goal

abbrev pub invariant-loop-front : goal.invariant-loop-front
invariant-loop-front g l = record {
  turned : Through l.initial.network l.network (λ by next. Turned (meaning g.S.Shelf g.V.Disk) by l.proposer l.initial.world next l.again l.world);
  plays : (asked : AskedCall) (proposed : Bool) → IsPlaying l.initial.world l.proposer asked proposed → IsPlaying l.world l.proposer asked proposed;
  network : (by : NetworkView) → IsNetwork l.initial.network by → (next : NetworkView) × IsNetwork l.network next;
  last_proposer : l.world.last_proposer ≡ l.initial.world.last_proposer;
  quiet : l.world.council.exchange ≡ None;
}

abbrev pub decreases-loop-front : goal.decreases-loop-front
decreases-loop-front g l = turns_left l.world l.proposer
