-- The least ages that an acceptor still answers, one for each proposer.
use Rattle.std.specs.Prelude.{ℕ, max, map, slice_index}
use Rattle.std.specs.List.{range_with_len}
use Rattle.cas_slot.specs.declared.ages.Ages.{Ages}

-- the least age of the proposer of that number
abbrev pub least_age : Ages → ℕ → ℕ
least_age ages proposer = slice_index ages.0 proposer

-- for each proposer the greater of the two
unfoldable pub raised : Ages → Ages → Ages
raised a b = record { 0 = map (λ p. max (least_age a p) (least_age b p)) (range_with_len 0 17) }
