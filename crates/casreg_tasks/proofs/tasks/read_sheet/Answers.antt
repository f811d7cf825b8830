use Rattle.std.proofs.Common.{◌≡◌, Err, ap, arith}
use Rattle.std.proofs.lemmas.Result.{err_from_is_err_and}
use Rattle.std.specs.Prelude.{vec_items}
use Rattle.std.proofs.lemmas.List.{length-map}
use Rattle.cas_lines.specs.declared.lines.LineFault.TheVariants as fault
use Rattle.casreg_tasks.proofs.Sheets.{read_first, read_on, read_whole, read_ends, read_too_many, read_endless}
use Rattle.casreg_tasks.proofs.tasks.read_sheet.Goals as goal

pub loop-lines-init : goal.loop-lines-init
loop-lines-init g c = record {
  so_far = read_first _ _ c.new-lines.result _ _ c.new-lines.ensures.held c.new-lines.ensures.handed c.in_ok-sheet.ensures;
  callers = omega (arith, c.in_ok-sheet.ensures.callers, length-map c.in_ok-sheet.sheet.tasks.items vec_items, c.in_ok-sheet.sheet.tasks.ok.0);
  faults = omega arith;
}

pub returns-in_err-line-clause-too_many : goal.returns-in_err-line-clause-too_many
returns-in_err-line-clause-too_many g c = λ is.
    let p = err_from_is_err_and c.from_residual-in_err-line.result c.from_residual-in_err-line.ensures.1 in
    let same : c.in_err-line.field-0.0 ≡ fault.TooManyLines = cc (p.1, p.2, is) in
    read_too_many _ _ _ _ _ _ c.loop-lines.invariant.so_far (c.in_err-line.ensures.too_many (ap Err same))

pub returns-in_err-line-clause-endless : goal.returns-in_err-line-clause-endless
returns-in_err-line-clause-endless g c = λ line is.
    let p = err_from_is_err_and c.from_residual-in_err-line.result c.from_residual-in_err-line.ensures.1 in
    let same : c.in_err-line.field-0.0 ≡ fault.Endless line = cc (p.1, p.2, is) in
    read_endless _ _ _ _ line _ _ c.loop-lines.invariant.so_far (c.in_err-line.ensures.endless line (ap Err same))

pub loop-lines-preserved : goal.loop-lines-preserved
loop-lines-preserved g c =
    let out = rw c.in-Some.is at c.in_ok-line.ensures.line in
    let number = rw c.in-Some.is at c.in_ok-line.ensures.number in
    let handed = rw c.in-Some.is at c.in_ok-line.ensures.handed in
    let few = rw c.in-Some.is at c.in_ok-line.ensures.few in
    record {
      so_far = read_on _ _ _ _ _ _ c.in-Some.line _ _ _ _ c.loop-lines.invariant.so_far out few number handed c.in_ok-add.ensures.parted;
      callers = c.add.ensures.callers;
      faults = omega (arith, c.loop-lines.invariant.faults, c.next.ensures.never_falls);
    }

pub returns-clause-parted : goal.returns-clause-parted
returns-clause-parted g c = read_whole _ _ _ _ _ _ c.loop-lines.invariant.so_far (rw c.in_default.is at c.in_ok-line.ensures.end)

pub returns-clause-whole : goal.returns-clause-whole
returns-clause-whole g c = read_ends _ _ _ _ _ _ c.loop-lines.invariant.so_far (rw c.in_default.is at c.in_ok-line.ensures.end)
