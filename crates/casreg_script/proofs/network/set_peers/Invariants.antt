use Rattle.std.proofs.Common.{◌≡◌, ℕ, nat_eq, nat_lt}
use Rattle.std.specs.Prelude.{◌&&◌}
use Rattle.cas_fate.specs.Legs.{row_of}
use Rattle.cas_fate.specs.Links.{verdict_at}
use Rattle.cas_fate.specs.declared.fate.Leg.{Leg}
use Rattle.casreg_script.specs.Frames.Network.{ruled}
use Rattle.casreg_script.proofs.network.set_peers.Given as goal

abbrev pub invariant-loop-number : goal.invariant-loop-number
invariant-loop-number l = record {
  table : (one : Leg) (peer : ℕ) → verdict_at l.links one peer ≡ ruled (nat_lt peer l.number && nat_eq (row_of l.leg) (row_of one)) l.verdict (verdict_at l.initial.links one peer);
}
