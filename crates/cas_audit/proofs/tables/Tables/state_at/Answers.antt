use Rattle.std.proofs.Common.{length, arith, sym, ap, ◌∙◌}
use Rattle.std.specs.Prelude.{option_copied}
use Rattle.cas_audit.proofs.Decisions.{if_ok_map}
use Rattle.cas_audit.proofs.Facts.{no_chain}
use Rattle.cas_audit.proofs.Updates.{state_told, state_start, node_empty}
use Rattle.cas_audit.proofs.tables.Tables.state_at.Goals as goal

pub returns-then-node-gt0 : goal.returns-then-node-gt0
returns-then-node-gt0 c = if_ok_map c.copy.result c.copy.ensures (λ state is marks audit.
    is ∙ state_told c.args.key.now c.args.ballot marks c.in-Some.node.now audit.legal.numbered (sym (c.in_ok-node.ensures marks audit.are) ∙ ap option_copied c.in-Some.is) c.if-node-gt0.true)

pub returns-else-node-gt0 : goal.returns-else-node-gt0
returns-else-node-gt0 c = if_ok_map c.start_of.result c.start_of.ensures (λ state is marks audit.
    is marks audit ∙ state_start c.args.key.now c.args.ballot marks
    (node_empty c.args.key.now c.args.ballot marks c.in-Some.node.now audit.legal.numbered (sym (c.in_ok-node.ensures marks audit.are) ∙ ap option_copied c.in-Some.is) (omega (arith, c.if-node-gt0.false))))

pub returns-in-None : goal.returns-in-None
returns-in-None c = if_ok_map c.start_of-in-None.result c.start_of-in-None.ensures (λ state is marks audit.
    is marks audit ∙ state_start c.args.key.now c.args.ballot marks
    (ap length (no_chain c.args.key.now c.args.ballot marks (sym (c.in_ok-node.ensures marks audit.are) ∙ ap option_copied c.in-None.is))))
