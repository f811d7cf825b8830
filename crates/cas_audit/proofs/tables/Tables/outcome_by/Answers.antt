use Rattle.std.proofs.Common.{reverse, sym, ap, ◌∙◌}
use Rattle.std.specs.Prelude.{option_copied}
use Rattle.cas_base.proofs.Bools.{some_is}
use Rattle.cas_change.specs.Outcome.{outcome_of}
use Rattle.cas_record.specs.Histories.Chain.{program_of}
use Rattle.cas_audit.specs.declared.told.Call.{Call}
use Rattle.cas_audit.specs.Tables.{program_at}
use Rattle.cas_audit.proofs.Decisions.{if_ok_map}
use Rattle.cas_audit.proofs.Updates.{program_told}
use Rattle.cas_audit.proofs.tables.Tables.outcome_by.Goals as goal

pub unreachable-requires : goal.unreachable-requires
unreachable-requires c =
    let marks = c.args.marks.now in
    let read = ap (λ (x : Call). program_at marks x.begun) (c.call_of.ensures (reverse marks) c.requires.audit.are) ∙ program_told c.args.p.now marks c.requires.audit.legal.numbered c.requires.begun in
    absurd (cc (ap option_copied c.in-None.is, c.program_at.ensures ∙ read))

pub returns : goal.returns
returns c =
    let marks = c.args.marks.now in
    let p = c.args.p.now in
    let read = ap (λ (x : Call). program_at marks x.begun) (c.call_of.ensures (reverse marks) c.requires.audit.are) ∙ program_told p marks c.requires.audit.legal.numbered c.requires.begun in
    let same = some_is c.in-Some.program.now (program_of p.caller p.call (reverse marks)) (sym (ap option_copied c.in-Some.is) ∙ c.program_at.ensures ∙ read) in
    if_ok_map c.apply.result c.apply.ensures.outcome (λ outcome is. is ∙ ap (λ x. outcome_of x c.args.state.now) same)
