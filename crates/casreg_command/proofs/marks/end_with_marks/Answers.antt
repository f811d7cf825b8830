use Rattle.std.proofs.Common.{List, refl, subst, sym}
use Rattle.cas_model.specs.Exchanges.Tellings.{AreWritable}
use Rattle.casreg_command.proofs.Marked.{wrote_front, wrote_record}
use Rattle.cas_record.specs.declared.mark.Mark.{Mark}
use Rattle.casreg_command.specs.Records.{EndsBehindMarks, whole, cut_off}
use Rattle.casreg_command.proofs.marks.end_with_marks.Goals as goal

pub returns-in-Ok-clause-ends : goal.returns-in-Ok-clause-ends
returns-in-Ok-clause-ends g c =
    subst (λ (marks : List Mark). EndsBehindMarks c.args.asked marks c.args.ended (g.K.Sink.contents c.args.sink.now) (g.K.Sink.contents c.write_marks.new.sink) c.args.ended) c.marks.ensures
    (whole c.if-not-asked.false (c.is_complete.ensures.0 c.if-not-is_complete.false) (wrote_record _ _ _ (subst AreWritable (sym c.marks.ensures) c.requires.writable) c.in-Ok.ensures.all c.in-Ok.ensures.spells) refl)

pub returns-in-Err-clause-ends : goal.returns-in-Err-clause-ends
returns-in-Err-clause-ends g c =
    subst (λ (marks : List Mark). EndsBehindMarks c.args.asked marks c.args.ended (g.K.Sink.contents c.args.sink.now) (g.K.Sink.contents c.write_marks.new.sink) c.from.result) c.marks.ensures
    (cut_off c.in-Err.fault c.if-not-asked.false (c.is_complete.ensures.0 c.if-not-is_complete.false) (wrote_front _ _ _ (subst AreWritable (sym c.marks.ensures) c.requires.writable) c.in-Err.ensures.front) c.from.ensures)
