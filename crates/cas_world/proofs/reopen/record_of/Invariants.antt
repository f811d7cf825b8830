use Rattle.std.proofs.Common.{◌≡◌, ◌≤◌, ◌++◌}
use Rattle.std.specs.Prelude.{map, reverse, vec_len}
use Rattle.cas_model.specs.Openings.{mark_of}
use Rattle.cas_world.specs.Openings.OpeningOn.{opening_of}
use Rattle.cas_world.proofs.reopen.record_of.Given as goal

abbrev pub decreases-loop-floor : goal.decreases-loop-floor
decreases-loop-floor l = vec_len l.floors

-- the marks that were made, and those of the floors that are left, are all of them
abbrev pub invariant-loop-floor : goal.invariant-loop-floor
invariant-loop-floor l = record {
  all : l.«record».marks ++ map (λ floor. mark_of (opening_of floor)) (reverse l.floors.items) ≡ map (λ floor. mark_of (opening_of floor)) l.fn.floors.items;
  room : vec_len l.floors ≤ l.«record».room;
}
