use Rattle.std.proofs.Common.{◌≡◌, ℕ, ◌*◌, ◌<◌, get_or, length, List}
use Rattle.cas_disk_shelf.specs.Head.{number_from}
use Rattle.cas_disk_shelf.proofs.codec.ages_in.Given as goal

-- the ages in front are read
pub record Reading (bytes ages : List ℕ) (i : ℕ) : Type 0 where
  pub long : length ages ≡ 17
  pub front : (k : ℕ) → k < i → get_or ages k 0 ≡ number_from (8 * k) bytes

abbrev pub invariant-loop-i : goal.invariant-loop-i
invariant-loop-i l = Reading l.bytes l.ages.0 l.i
