-- A pass goes on as a pass.
use Rattle.std.proofs.Common.{◌≡◌, ap, ◌∙◌, arith}
use Rattle.cas_record.specs.declared.mark.Mark.{Mark}
use Rattle.cas_turn.specs.Sitting.{Sitting, Turning}
use Rattle.cas_board.specs.Passes.{IsPassOf}

-- one that has seen more, with another part of its own, is of the same board
pub still_pass : {A : Type 0} (board : Turning) (old now : Sitting A Mark) → IsPassOf board old → now ≡ record old { seen = now.seen; own = now.own } → IsPassOf board now
still_pass {A} board old now is same = record {
  turn = ap (λ (s : Sitting A Mark). s.turn) same ∙ is.turn;
  seats = ap (λ (s : Sitting A Mark). s.seats) same ∙ is.seats;
  idle = ap (λ (s : Sitting A Mark). s.holds) same ∙ is.idle;
  seated = let number : now.number ≡ old.number = ap (λ (s : Sitting A Mark). s.number) same in omega (arith, number, is.seated);
  known = let number : now.number ≡ old.number = ap (λ (s : Sitting A Mark). s.number) same in omega (arith, number, is.known);
}
