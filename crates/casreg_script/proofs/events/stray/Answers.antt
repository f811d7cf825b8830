use Rattle.std.proofs.Common.{sym, subst, arith}
use Rattle.cas_lines.specs.declared.answer.EventAnswer.TheVariants as event
use Rattle.cas_model.specs.View.{meaning}
use Rattle.casreg_script.specs.Events.{AnswersStray, absent, strays, full, no_memory}
use Rattle.casreg_script.proofs.Happenings.{err_is}
use Rattle.casreg_script.proofs.events.stray.Goals as goal

pub returns-then-index-late : goal.returns-then-index-late
returns-then-index-late g c = absent (omega (arith, c.if-index-late.true, c.late-late.ensures))

pub returns-in-Ok : goal.returns-in-Ok
returns-in-Ok g c = strays c.in-Ok.ensures.ok

pub returns-in-Err-RecordFull : goal.returns-in-Err-RecordFull
returns-in-Err-RecordFull g c =
    let is = err_is c.stray.result c.in-Err-RecordFull.field-0 _ c.in-Err-RecordFull.is c.in-Err-RecordFull.field-0-is in
    subst (AnswersStray (meaning g.S.Shelf g.V.Disk) c.args.world.now c.args.index event.RecordFull) (sym (c.stray.ensures.unchanged is))
    (full (omega (arith, c.if-index-late.false, c.late-late.ensures)) (c.stray.ensures.full.0 is))

pub returns-in-Err-NoMemory : goal.returns-in-Err-NoMemory
returns-in-Err-NoMemory g c = no_memory (omega (arith, c.if-index-late.false, c.late-late.ensures)) c.in-Err-NoMemory.ensures.err
