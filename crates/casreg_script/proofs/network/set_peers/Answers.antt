use Rattle.std.proofs.Common.{◌≡◌, ℕ, Option, subst}
use Rattle.std.specs.Prelude.{IfSome}
use Rattle.cas_fate.specs.Links.{verdict_at}
use Rattle.casreg_script.proofs.Frames.Rules.{peers_more}
use Rattle.casreg_script.proofs.network.set_peers.Goals as goal

pub loop-number-preserved : goal.loop-number-preserved
loop-number-preserved c =
    let peer : c.unwrap-peer.result ≡ c.loop-number.number = subst (λ (o : Option ℕ). IfSome o (λ id. id ≡ c.loop-number.number)) c.unwrap-peer.ensures c.new.ensures.value in
    record {
      table = peers_more c.args.leg c.loop-number.number c.unwrap-peer.result c.args.verdict (verdict_at c.args.links.now) (verdict_at c.loop-number.links) (verdict_at c.set.new.self) peer c.set.ensures.here c.set.ensures.others c.loop-number.invariant.table;
    }
