use Rattle.std.proofs.Common.{◌≡◌, ℕ, nat_eq, nat_lt}
use Rattle.std.specs.Prelude.{◌&&◌}
use Rattle.cas_fate.specs.Legs.{row_of}
use Rattle.cas_fate.specs.Links.{verdict_at}
use Rattle.cas_fate.specs.declared.fate.Leg.{Leg}
use Rattle.casreg_script.specs.Frames.Network.{ruled}
use Rattle.casreg_script.proofs.network.set_legs.Given as goal

abbrev pub invariant-loop-leg : goal.invariant-loop-leg
invariant-loop-leg l = record {
  table : (one : Leg) (p : ℕ) → verdict_at l.links one p ≡ ruled (nat_lt (row_of one) l.leg-index && nat_eq l.peer p) l.verdict (verdict_at l.initial.links one p);
}
