use Rattle.std.proofs.Common.{arith, reverse}
use Rattle.std.proofs.lemmas.List.{length-reverse}
use Rattle.cas_record.specs.Places.{here}
use Rattle.cas_audit.proofs.Updates.{chain_few}
use Rattle.cas_audit.proofs.tables.Tables.node_by.Goals as goal

pub outcome_by-requires-clause-begun : goal.outcome_by-requires-clause-begun
outcome_by-requires-clause-begun c = (c.requires.legal.numbered.proposed here).begun

pub length_by-requires : goal.length_by-requires
length_by-requires c =
    let marks = reverse c.args.marks.now in
    omega (arith, c.requires.few, length-reverse c.args.marks.now, chain_few c.args.p.now.key c.later_of-link.result marks, c.in_ok-before.ensures marks c.requires.audit)
