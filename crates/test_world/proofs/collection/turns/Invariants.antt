use Rattle.std.proofs.Common.{◌≡◌, Bool, None}
use Rattle.casreg_script.specs.Calls.Playing.{AskedCall, IsPlaying, turns_left}
use Rattle.test_world.specs.Play.{Leads}
use Rattle.test_world.proofs.collection.turns.Given as goal

abbrev pub invariant-loop-front : goal.invariant-loop-front
invariant-loop-front g l = record {
  plays : (asked : AskedCall) (proposed : Bool) → IsPlaying l.initial.world 0 asked proposed → IsPlaying l.world 0 asked proposed;
  quiet : l.world.council.exchange ≡ None;
  council : l.world.council ≡ l.initial.world.council;
  leads : Leads l.initial.world l.world;
}

abbrev pub decreases-loop-front : goal.decreases-loop-front
decreases-loop-front g l = turns_left l.world 0
