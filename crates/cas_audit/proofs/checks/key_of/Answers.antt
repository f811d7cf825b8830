use Rattle.std.proofs.Common.{◌≡◌, reverse, sym, ap, ◌∙◌}
use Rattle.std.specs.Prelude.{option_copied}
use Rattle.cas_audit.specs.declared.told.Call.{Call}
use Rattle.cas_audit.specs.Tables.{key_at}
use Rattle.cas_audit.specs.Told.{place_of}
use Rattle.cas_audit.proofs.Decisions.{key_tells, key_is_told}
use Rattle.cas_audit.proofs.checks.key_of.Goals as goal

pub returns : goal.returns
returns c = λ key.
    let marks = c.args.marks.now in
    let is : option_copied c.key_at.result ≡ key_at marks (place_of c.args.caller c.args.call (reverse marks)) =
    c.key_at.ensures ∙ ap (λ (x : Call). key_at marks x.begun) (c.call_of.ensures (reverse marks) c.requires.are) in
    (λ e. key_tells c.args.caller c.args.call key marks (sym is ∙ e), λ b. is ∙ key_is_told c.args.caller c.args.call key marks c.requires.legal.numbered b)
