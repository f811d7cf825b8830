-- What a pass is between two calls.
use Rattle.std.specs.Prelude.{◌≡◌, ◌<◌, ◌≤◌, None}
use Rattle.cas_record.specs.declared.mark.Mark.{Mark}
use Rattle.cas_turn.specs.Sitting.{Sitting, Turning}

-- a pass of the board that does not hold its turn
pub record IsPassOf {V : Type 0} (board : Turning) (pass : Sitting V Mark) : Type 0 where
  pub turn : pass.turn ≡ board.id
  pub seats : pass.seats ≡ board.seats
  pub idle : pass.holds ≡ None
  pub seated : pass.number < board.seats
  pub known : pass.number ≤ 16
