use Rattle.std.proofs.Common.{length, sym, ap, ◌∙◌}
use Rattle.std.specs.Prelude.{option_copied}
use Rattle.cas_audit.proofs.Facts.{node_tells, node_length, no_chain}
use Rattle.cas_audit.proofs.tables.Tables.length_of.Goals as goal

pub returns-in-Some : goal.returns-in-Some
returns-in-Some c = λ marks audit.
    node_length audit.legal.numbered
    (node_tells c.args.key.now c.args.ballot marks c.in-Some.node.now (sym (c.in_ok-node.ensures marks audit.are) ∙ ap option_copied c.in-Some.is))

pub returns-in-None : goal.returns-in-None
returns-in-None c = λ marks audit.
    sym (ap length (no_chain c.args.key.now c.args.ballot marks (sym (c.in_ok-node.ensures marks audit.are) ∙ ap option_copied c.in-None.is)))
