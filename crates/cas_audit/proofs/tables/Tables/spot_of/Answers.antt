use Rattle.std.proofs.Common.{false, unwrap_or, ap, ◌∙◌}
use Rattle.indexmap.specs.IndexMap.{get}
use Rattle.cas_audit.specs.Tables.{same_spot}
use Rattle.cas_audit.proofs.tables.Tables.spot_of.Goals as goal

pub returns : goal.returns
returns c = λ marks are.
    let found = c.copied.ensures ∙ c.get.ensures.value ∙ ap (λ k. get same_spot c.args.self.now.spots (k, c.args.ballot)) c.in_ok-copy.ensures in
    c.unwrap_or.ensures ∙ (λ i. unwrap_or (found i) (record { voters = c.new.ensures i; acked = false })) ∙ are.spots c.args.key.now c.args.ballot
