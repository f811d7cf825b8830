use Rattle.std.proofs.Common.{ap, subst, sym, ◌∙◌}
use Rattle.indexmap.specs.IndexMap.{get}
use Rattle.cas_audit.specs.Tables.{IsFoundAt, same_place}
use Rattle.cas_audit.proofs.tables.Tables.settled_at.Goals as goal

pub returns : goal.returns
returns c = λ marks are within.
    subst (IsFoundAt c.args.key.now marks c.args.place)
    (sym (c.copied.ensures ∙ c.get.ensures.value ∙ ap (λ k. get same_place c.args.self.now.settled (k, c.args.place)) c.in_ok-copy.ensures))
    (are.settled c.args.key.now c.args.place within)
