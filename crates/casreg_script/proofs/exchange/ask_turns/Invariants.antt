use Rattle.cas_model.specs.Council.{Question, exchange_place}
use Rattle.cas_model.specs.View.{meaning}
use Rattle.casreg_script.specs.Frames.Conditions.{NetworkView}
use Rattle.casreg_script.specs.Frames.Network.{IsNetwork, Through}
use Rattle.casreg_script.specs.Calls.Playing.{turns_left}
use Rattle.casreg_script.specs.Exchanges.Exchanges.{AskTurned, IsAsking, KeepsCalls, KeepsOrder}
use Rattle.casreg_script.proofs.exchange.ask_turns.Given as goal

abbrev pub invariant-loop-front : goal.invariant-loop-front
invariant-loop-front g l = record {
  turned : Through l.initial.network l.network (λ by next. AskTurned (meaning g.S.Shelf g.V.Disk) by l.initial.world next l.again l.world);
  asks : (question : Question) → IsAsking l.initial.world question → IsAsking l.world question;
  order : KeepsOrder l.initial.world l.world;
  network : (by : NetworkView) → IsNetwork l.initial.network by → (next : NetworkView) × IsNetwork l.network next;
  calls : KeepsCalls l.initial.world l.world;
}

abbrev pub decreases-loop-front : goal.decreases-loop-front
decreases-loop-front g l = turns_left l.world exchange_place
