-- Losses and harms, one after another.
use Rattle.std.proofs.Common.{◌≡◌, ◌+◌, ℕ, List, [], ◌∷◌, ◌++◌, false, true, arith}
use Rattle.cas_record.specs.declared.mark.Mark.{Mark}
use Rattle.cas_record.specs.declared.mark.Mark.TheVariants as mark
use Rattle.cas_board_steps.specs.Mine.{losses}
use Rattle.cas_board.specs.Changes.{IsCounted}

pub losses_append : (a b : List Mark) → losses (a ++ b) ≡ losses a + losses b
losses_append [] b = omega arith
losses_append (mark.Harmed caller call false ∷ a) b = let rest = losses_append a b in omega (arith, rest)
losses_append (mark.Harmed caller call true ∷ a) b = losses_append a b
losses_append (mark.Begun caller call key program ∷ a) b = losses_append a b
losses_append (mark.Proposed p ∷ a) b = losses_append a b
losses_append (mark.Voted acceptor key ballot ∷ a) b = losses_append a b
losses_append (mark.Acked x ∷ a) b = losses_append a b
losses_append (mark.Floor key ballot state ∷ a) b = losses_append a b
losses_append (mark.EraEntered proposer number ∷ a) b = losses_append a b
losses_append (mark.Ended caller call rounds answer ∷ a) b = losses_append a b
losses_append (mark.Told asked answer ∷ a) b = losses_append a b

pub counted_then : (most more a b c : ℕ) → IsCounted most a b → IsCounted more b c → IsCounted (most + more) a c
counted_then most more a b c first then_ = record {
  never_falls = let x = first.never_falls in let y = then_.never_falls in omega (arith, x, y);
  counted = λ below. let y = then_.never_falls in let late = then_.counted below in let soon = first.counted (omega (arith, below, y)) in omega (arith, soon, late);
}
