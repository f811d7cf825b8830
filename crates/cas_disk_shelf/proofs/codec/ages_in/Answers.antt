use Rattle.std.proofs.Common.{ℕ, ◌*◌, List, arith, ap}
use Rattle.std.proofs.lemmas.List.FromFn.{fill_by_all}
use Rattle.cas_disk_shelf.specs.Head.{ages_in, number_from}
use Rattle.cas_disk_shelf.proofs.codec.ages_in.Goals as goal

pub returns : goal.returns
unfolding ages_in
returns c = ap (λ (xs : List ℕ). record { 0 = xs }) (fill_by_all (λ i. number_from (8 * i) c.args.bytes.now) c.loop-i.ages.0 17 0 c.loop-i.invariant.long (λ k lt. c.loop-i.invariant.front k (omega arith)))
