use Rattle.std.proofs.Common.{refl, reverse, sym, ap, ◌∙◌}
use Rattle.std.specs.Prelude.{option_copied}
use Rattle.cas_base.proofs.Bools.{not_both, not_of_true, not_of_false}
use Rattle.cas_audit.proofs.Facts.{no_node, node_tells, has_proposal_of}
use Rattle.cas_audit.proofs.Decisions.{told_ended, told_open, told_proposed, told_unproposed, no_iff, some_of, none_of, true_of_not}
use Rattle.cas_audit.proofs.tables.Tables.is_first_proposal.Goals as goal

pub returns-then-call : goal.returns-then-call
returns-then-call c = no_iff refl (λ first. first.open_yet (told_ended (c.call_of-call.ensures (reverse c.args.marks.now) c.requires.are) c.if-call.true))

pub returns-then-is_some : goal.returns-then-is_some
returns-then-is_some c = no_iff refl (λ first. first.once (told_proposed (c.call_of-call.ensures (reverse c.args.marks.now) c.requires.are) (sym c.is_some.ensures ∙ c.if-is_some.true)))

pub returns-then-not-is_begun : goal.returns-then-not-is_begun
returns-then-not-is_begun c = no_iff refl (λ first. not_both c.is_begun.result (c.is_begun.ensures.1 first.begun) c.if-not-is_begun.true)

pub returns : goal.returns
returns c =
    let marks = reverse c.args.marks.now in
    let p = c.args.p.now in
    let told = c.call_of-call.ensures marks c.requires.are in
    let node_is = c.in_ok-node_of.ensures marks c.requires.are in (
      λ e. record {
        begun = c.is_begun.ensures.0 c.if-not-is_begun.false;
        once = told_unproposed told (sym c.is_some.ensures ∙ c.if-is_some.false);
        open_yet = told_open told c.if-call.false;
        fresh = no_node (sym node_is ∙ ap option_copied (none_of c.in_ok-node_of.field-0 (c.is_none.ensures ∙ not_of_true c.is_none.result e)));
      },
      λ first. true_of_not c.is_none.result (λ some.
          let there = some_of c.in_ok-node_of.field-0 (c.is_none.ensures ∙ not_of_false c.is_none.result some) in
          first.fresh (has_proposal_of (node_tells p.key p.ballot marks there.0.now (sym node_is ∙ ap option_copied there.1)))),
    )
