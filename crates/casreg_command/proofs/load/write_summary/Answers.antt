use Rattle.std.proofs.Common.{refl, sym, ◌∙◌, subst}
use Rattle.std.proofs.lemmas.Result.{err_from_is_err_and}
use Rattle.std.specs.Io.KnownBytes.{Appends}
use Rattle.cas_lines.specs.Sink.{AppendsFront}
use Rattle.casreg_command.specs.Causes.{WroteSummary, whole, sink_failed, no_text, broke_off}
use Rattle.casreg_command.proofs.Written.{if_err}
use Rattle.casreg_command.proofs.load.write_summary.Goals as goal

pub returns-in_err-summary-clause-wrote : goal.returns-in_err-summary-clause-wrote
returns-in_err-summary-clause-wrote g c =
    let p = err_from_is_err_and c.from_residual.result c.from_residual.ensures.1 in
    if_err _ p.0 _ p.1 (subst (WroteSummary _ _ _ _ _ _) (sym p.2) (broke_off c.in_err-summary.ensures.breaks_off refl))

pub returns-in_err-text-clause-wrote : goal.returns-in_err-text-clause-wrote
returns-in_err-text-clause-wrote g c =
    let p = err_from_is_err_and c.from_residual-in_err-text.result c.from_residual-in_err-text.ensures.1 in
    if_err _ p.0 _ p.1 (subst (WroteSummary _ _ _ _ _ _) (sym p.2) (no_text c.in_ok-summary.summary c.in_ok-summary.ensures.runs refl))

pub returns-in_err-put_all-clause-wrote : goal.returns-in_err-put_all-clause-wrote
returns-in_err-put_all-clause-wrote g c =
    let p = err_from_is_err_and c.from_residual-in_err-put_all.result c.from_residual-in_err-put_all.ensures.1 in
    if_err _ p.0 _ p.1 (subst (WroteSummary _ _ _ _ _ _) (sym p.2) (sink_failed c.in_ok-summary.summary c.in_ok-summary.ensures.runs (subst (AppendsFront _ _) (c.deref.ensures.value ∙ c.in_ok-text.ensures) c.in_err-put_all.ensures.front)))

pub returns-clause-all : goal.returns-clause-all
returns-clause-all g c = whole c.in_ok-summary.summary c.in_ok-summary.ensures.runs (subst (Appends _ _) (c.deref.ensures.value ∙ c.in_ok-text.ensures) c.in_ok-put_all.ensures.all)
