use Rattle.std.proofs.Common.{◌≡◌, ◌++◌}
use Rattle.cas_reopen.proofs.Listing.{floors_in}
use Rattle.cas_world.specs.Openings.OpeningOn.{openings_of}
use Rattle.cas_reopen.proofs.floors.floors_of.Given as goal

-- the floors so far, and those of the entries that follow, are all
abbrev pub invariant-loop-key : goal.invariant-loop-key
invariant-loop-key l = openings_of l.floors.items ++ floors_in l.key-iterator ≡ floors_in l.slots.entries
