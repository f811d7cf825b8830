use Rattle.std.proofs.Common.{arith, sym, ap, ◌∙◌}
use Rattle.std.specs.Ordering.{is_eq}
use Rattle.cas_base.proofs.Bools.{not_both}
use Rattle.cas_ballot.specs.Ballot.{zero_ballot}
use Rattle.cas_record.proofs.Tests.{ballot_same, ballot_is}
use Rattle.cas_audit.proofs.Updates.{length_zero, length_opened, length_next}
use Rattle.cas_audit.proofs.tables.Tables.length_by.Goals as goal

pub returns-then-is_eq : goal.returns-then-is_eq
returns-then-is_eq c = λ marks audit legal before_is.
    let p = c.args.p.now in
    length_zero p marks (ballot_same {a = p.ballot} {b = zero_ballot} (sym (c.is_eq.ensures ∙ ap is_eq c.cmp.ensures) ∙ c.if-is_eq.true))

pub returns-then-opens_with : goal.returns-then-opens_with
returns-then-opens_with c = λ marks audit legal before_is. length_opened c.args.p.now marks (sym (c.opens_with.ensures marks audit) ∙ c.if-opens_with.true)

pub returns : goal.returns
returns c = λ marks audit legal before_is.
    let p = c.args.p.now in
    omega (
      arith,
      before_is,
      length_next p marks legal.numbered
          (λ zero. not_both c.is_eq.result (c.is_eq.ensures ∙ ap is_eq c.cmp.ensures ∙ ballot_is {a = p.ballot} {b = zero_ballot} zero) c.if-is_eq.false)
          (sym (c.opens_with.ensures marks audit) ∙ c.if-opens_with.false),
    )
