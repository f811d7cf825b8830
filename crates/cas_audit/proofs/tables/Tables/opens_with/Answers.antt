use Rattle.std.proofs.Common.{sym, ap, ◌∙◌}
use Rattle.std.specs.Prelude.{option_copied}
use Rattle.std.specs.Ordering.{is_eq}
use Rattle.cas_audit.specs.Told.{opens_with}
use Rattle.cas_audit.proofs.Openings.{opened_is}
use Rattle.cas_audit.proofs.tables.Tables.opens_with.Goals as goal

pub returns-in-Some : goal.returns-in-Some
returns-in-Some c = λ marks audit.
    c.is_eq.ensures ∙ ap is_eq c.cmp.ensures ∙ ap (opens_with c.args.ballot) (sym (ap option_copied c.in-Some.is) ∙ c.opening_of.ensures marks audit.are) ∙ sym (opened_is c.args.key.now c.args.ballot marks audit.legal)

pub returns-in-None : goal.returns-in-None
returns-in-None c = λ marks audit.
    ap (opens_with c.args.ballot) (sym (ap option_copied c.in-None.is) ∙ c.opening_of.ensures marks audit.are) ∙ sym (opened_is c.args.key.now c.args.ballot marks audit.legal)
