use Rattle.std.proofs.Common.{suc, sym, ap, subst, ◌∙◌}
use Rattle.std.specs.Prelude.{option_copied}
use Rattle.cas_audit.specs.Told.{Reaches}
use Rattle.cas_audit.proofs.Walks.{reach_next, no_node_left}
use Rattle.cas_audit.proofs.tables.Tables.before.Goals as goal

pub returns-in-Some-2 : goal.returns-in-Some-2
returns-in-Some-2 c = λ marks audit entries count reaches.
    let key = c.args.key.now in
    reach_next key c.in-Some.ballot marks c.in-Some-2.node.now entries count audit.legal.numbered (sym (c.in_ok-node.ensures marks audit.are) ∙ ap option_copied c.in-Some-2.is)
    (subst (λ found. Reaches key found marks entries (suc count)) c.in-Some.is reaches)

pub returns-in-None : goal.returns-in-None
returns-in-None c = λ marks audit entries count reaches.
    let key = c.args.key.now in
    absurd (no_node_left key c.in-Some.ballot marks entries count (subst (λ found. Reaches key found marks entries (suc count)) c.in-Some.is reaches)
    (sym (c.in_ok-node.ensures marks audit.are) ∙ ap option_copied c.in-None.is))
