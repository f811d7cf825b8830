use Rattle.cas_slot.specs.Limits.{AllBallotsFit}
use Rattle.test_values.proofs.map_shelf.has_room_for_4096_keys.Given as goal

-- the shelf is up
abbrev pub invariant-loop-n : goal.invariant-loop-n
invariant-loop-n g l = AllBallotsFit l.shelf
