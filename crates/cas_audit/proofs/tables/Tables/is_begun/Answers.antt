use Rattle.std.proofs.Common.{◌≡◌, Some, refl, sym, ap, ◌∙◌}
use Rattle.std.specs.Prelude.{option_copied}
use Rattle.cas_base.proofs.Bools.{some_is}
use Rattle.cas_record.proofs.Tests.{key_same, key_is}
use Rattle.cas_audit.proofs.Decisions.{no_iff}
use Rattle.cas_audit.proofs.tables.Tables.is_begun.Goals as goal

pub returns-in-Some : goal.returns-in-Some
returns-in-Some c =
    let key = c.args.key.now in
    let own : option_copied c.key_of.result ≡ Some c.in-Some.own.now = ap option_copied c.in-Some.is in (
      λ e. (c.key_of.ensures key).0 (own ∙ ap Some (key_same (sym c.eq.ensures ∙ e))),
      λ begun. c.eq.ensures ∙ key_is (some_is c.in-Some.own.now key (sym own ∙ (c.key_of.ensures key).1 begun)),
    )

pub returns-in-None : goal.returns-in-None
returns-in-None c = no_iff refl (λ begun. absurd (cc (ap option_copied c.in-None.is, (c.key_of.ensures c.args.key.now).1 begun)))
