-- Least ages once they are raised.
use Rattle.std.proofs.Common.{◌≡◌, ℕ, ◌≤◌, arith}
use Rattle.std.specs.Prelude.{max}
use Rattle.std.proofs.lemmas.List.FromFn.{get_or-map-range_with_len}
use Rattle.cas_slot.specs.Ages.{least_age, raised}
use Rattle.cas_slot.specs.declared.ages.Ages.{Ages}

-- each proposer has the greater of the two
pub least_age-raised : (a b : Ages) (proposer : ℕ) → proposer ≤ 16 → least_age (raised a b) proposer ≡ max (least_age a proposer) (least_age b proposer)
unfolding raised
least_age-raised a b proposer known =
    get_or-map-range_with_len (λ p. max (least_age a p) (least_age b p)) 0 17 proposer proposer 0 (omega arith) (omega arith)
