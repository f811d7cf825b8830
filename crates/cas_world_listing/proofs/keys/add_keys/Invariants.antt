use Rattle.std.proofs.Common.{take}
use Rattle.std.specs.List.{list_any}
use Rattle.cas_record.specs.Histories.Chain.{is_key}
use Rattle.cas_world_listing.specs.Keys.{Adds}
use Rattle.cas_world_listing.proofs.keys.add_keys.Given as goal

-- the keys so far are added
abbrev pub invariant-loop-key : goal.invariant-loop-key
invariant-loop-key l = Adds (λ key. list_any (is_key key) (take l.key-index l.more)) l.fn.keys.items l.keys.items
