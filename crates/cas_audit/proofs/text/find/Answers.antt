use Rattle.std.proofs.Common.{◌≡◌, arith, sym, ap, Err}
use Rattle.std.proofs.lemmas.Result.{err_from_is_err_and}
use Rattle.cas_audit.specs.declared.text.AuditFault.TheVariants.{ReadFault, WriteFault, TooManyLines, Endless}
use Rattle.cas_audit.proofs.Spelling.TextRuns.{midway-nothing, midway-line, midway-end, midway-whole, midway-too_many, midway-endless, not_write, was_read_fault, was_too_many, was_endless}
use Rattle.cas_audit.proofs.text.find.Goals as goal

pub loop-audit-init : goal.loop-audit-init
loop-audit-init g c = record {
  midway = midway-nothing _ _ _ _ _ c.new-lines.ensures.held c.new-lines.ensures.handed c.new-audit.ensures.lines c.new-audit.ensures.progress;
  source_faults = omega arith;
}

pub returns-in_err-line-clause-too_many : goal.returns-in_err-line-clause-too_many
returns-in_err-line-clause-too_many g c = λ is.
    let p = err_from_is_err_and c.from_residual.result c.from_residual.ensures.1 in
    let told : p.0 ≡ TooManyLines = cc (p.1, is) in
    let same = was_too_many c.in_err-line.field-0.0 p.0 p.2 told in
    midway-too_many _ _ _ _ _ _ _ c.loop-audit.invariant.midway (c.in_err-line.ensures.too_many (ap Err same))

pub returns-in_err-line-clause-endless : goal.returns-in_err-line-clause-endless
returns-in_err-line-clause-endless g c = λ line is.
    let p = err_from_is_err_and c.from_residual.result c.from_residual.ensures.1 in
    let told : p.0 ≡ Endless line = cc (p.1, is) in
    let same = was_endless c.in_err-line.field-0.0 p.0 line p.2 told in
    midway-endless _ _ _ _ _ _ _ line c.loop-audit.invariant.midway (c.in_err-line.ensures.endless line (ap Err same))

pub returns-in_err-line-clause-read_fault : goal.returns-in_err-line-clause-read_fault
returns-in_err-line-clause-read_fault g c = λ is.
    let p = err_from_is_err_and c.from_residual.result c.from_residual.ensures.1 in
    let told : p.0 ≡ ReadFault = cc (p.1, is) in
    let same = was_read_fault c.in_err-line.field-0.0 p.0 p.2 told in
    let rose = c.in_err-line.ensures.read_fault (ap Err same) in
    grind (arith, rose, c.loop-audit.invariant.source_faults)

pub returns-in_err-line-clause-no_write : goal.returns-in_err-line-clause-no_write
returns-in_err-line-clause-no_write g c = λ is.
    let p = err_from_is_err_and c.from_residual.result c.from_residual.ensures.1 in
    let told : p.0 ≡ WriteFault = cc (p.1, is) in
    not_write c.in_err-line.field-0.0 p.0 p.2 told

pub loop-audit-preserved : goal.loop-audit-preserved
loop-audit-preserved g c = record {
  midway =
      let out = rw c.in-Some.is at c.in_ok-line.ensures.line in
      let number = rw c.in-Some.is at c.in_ok-line.ensures.number in
      let handed = rw c.in-Some.is at c.in_ok-line.ensures.handed in
      let few = rw c.in-Some.is at c.in_ok-line.ensures.few in
      let at_once = rw c.in-Some.is at c.in_ok-line.ensures.at_once in
      let midway = c.loop-audit.invariant.midway in
      midway-line _ _ _ _ _ _ _ _ _ _ _ c.in-Some.line midway out at_once few number handed c.in_ok-take.ensures.lines (c.in_ok-take.ensures.progress midway.lines (sym midway.taken) midway.known);
  source_faults = omega (arith, c.loop-audit.invariant.source_faults, c.next.ensures.never_falls);
}

pub returns-clause-found : goal.returns-clause-found
returns-clause-found g c =
    let midway = c.loop-audit.invariant.midway in
    let end = rw c.in_default.is at c.in_ok-line.ensures.end in
    let at_once = rw c.in_default.is at c.in_ok-line.ensures.at_once in
    record {
      lines = midway.lines;
      are = midway-end _ _ _ _ _ _ _ _ _ midway end at_once;
      found = c.finding.ensures midway.lines (sym midway.taken) midway.known;
    }

pub returns-clause-whole : goal.returns-clause-whole
returns-clause-whole g c = midway-whole _ _ _ _ _ _ _ c.loop-audit.invariant.midway (rw c.in_default.is at c.in_ok-line.ensures.end)
