use Rattle.std.proofs.Common.{ℕ, arith, ap}
use Rattle.std.specs.Prelude.{max, List}
use Rattle.std.proofs.lemmas.List.FromFn.{fill_by_all}
use Rattle.cas_slot.specs.Ages.{least_age, raised}
use Rattle.cas_slot.proofs.ages.Ages.raise.Goals as goal

pub returns : goal.returns
unfolding raised
returns c = ap (λ (xs : List ℕ). record { 0 = xs }) (fill_by_all (λ p. max (least_age c.args.self.now p) (least_age c.args.least.now p)) c.loop-i.self.0 17 0 c.loop-i.invariant.long (λ k lt. c.loop-i.invariant.front k (omega arith)))
