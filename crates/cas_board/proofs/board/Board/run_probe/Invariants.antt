use Rattle.std.specs.Prelude.{◌≡◌, ℕ, List}
use Rattle.cas_board.specs.Operations.{HasMarkedHarms}
use Rattle.cas_board_steps.specs.Exchanges.Orders.{HasProbe, IsAskingHarm, WasAskedBehind}
use Rattle.cas_board.proofs.Operating.{HasRunOrder}
use Rattle.cas_board.proofs.board.Board.run_probe.Given as goal

abbrev pub invariant-loop : goal.invariant-loop
invariant-loop g l = record {
  run : HasRunOrder IsAskingHarm (g.F.Fate.harm_count l.initial.fate) (g.F.Fate.harm_count l.fate) l.initial.pass l.pass;
  asks : (members : List ℕ) → HasProbe l.initial.probing.inquiry l.initial.probing.key members l.initial.pass.own → HasProbe l.probing.inquiry l.probing.key members l.pass.own;
  behind : (many : ℕ) → WasAskedBehind many l.initial.pass.own → WasAskedBehind many l.pass.own;
  harms : HasMarkedHarms l.initial.pass l.pass;
  inquiry : l.probing.inquiry ≡ l.initial.probing.inquiry;
  key : l.probing.key ≡ l.initial.probing.key;
}
