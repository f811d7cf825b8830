use Rattle.std.proofs.Common.{◌≡◌, take}
use Rattle.cas_world_listing.proofs.keys.copy_keys.Given as goal

-- the keys so far are copied
abbrev pub invariant-loop-key : goal.invariant-loop-key
invariant-loop-key l = l.copies.items ≡ take l.key-index l.keys
