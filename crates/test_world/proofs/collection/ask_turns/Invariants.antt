use Rattle.cas_model.specs.Council.{Question, exchange_place}
use Rattle.casreg_script.specs.Exchanges.Exchanges.{IsAsking, KeepsOrder}
use Rattle.casreg_script.specs.Calls.Playing.{turns_left}
use Rattle.test_world.specs.Play.{Goes}
use Rattle.test_world.proofs.collection.ask_turns.Given as goal

abbrev pub invariant-loop-front : goal.invariant-loop-front
invariant-loop-front g l = record {
  asks : (question : Question) → IsAsking l.initial.world question → IsAsking l.world question;
  order : KeepsOrder l.initial.world l.world;
  goes : Goes l.initial.world l.world;
}

abbrev pub decreases-loop-front : goal.decreases-loop-front
decreases-loop-front g l = turns_left l.world exchange_place
