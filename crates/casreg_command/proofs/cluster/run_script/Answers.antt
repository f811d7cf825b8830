use Rattle.std.proofs.Common.{List, subst}
use Rattle.cas_record.specs.declared.mark.Mark.{Mark}
use Rattle.casreg_command.specs.Records.{EndsBehindMarks}
use Rattle.casreg_command.specs.declared.status.Status.TheVariants as status
use Rattle.casreg_command.proofs.Marked.{before_is, before_ending, write_fault_behind}
use Rattle.casreg_command.proofs.cluster.run_script.Goals as goal

pub returns-clause-ran : goal.returns-clause-ran
returns-clause-ran g c =
    let by = c.answer_script-ended.ensures.ran in
    record {
      before = c.answer_script-ended.result.0;
      between = g.K.Sink.contents c.answer_script-ended.new.sink;
      ran = by.ran;
      behind = subst (λ (marks : List Mark). EndsBehindMarks c.args.options.marks marks c.answer_script-ended.result.0 (g.K.Sink.contents c.answer_script-ended.new.sink) (g.K.Sink.contents c.end_with_marks.new.sink) c.end_with_marks.result)
          by.marks_are c.end_with_marks.ensures.ends;
    }

pub returns-clause-usage : goal.returns-clause-usage
returns-clause-usage g c is = c.answer_script-ended.ensures.usage (before_is status.Usage (λ e. absurd (cc e)) (λ e. absurd (cc e)) c.end_with_marks.ensures.ends is)

pub returns-clause-read_fault : goal.returns-clause-read_fault
returns-clause-read_fault g c is = c.answer_script-ended.ensures.read_fault (before_is status.ReadFault (λ e. absurd (cc e)) (λ e. absurd (cc e)) c.end_with_marks.ensures.ends is)

pub returns-clause-write_fault : goal.returns-clause-write_fault
returns-clause-write_fault g c is =
    write_fault_behind _ _ _ c.answer_script-ended.ensures.never_falls c.end_with_marks.ensures.never_falls c.end_with_marks.ensures.ends c.answer_script-ended.ensures.write_fault c.end_with_marks.ensures.write_fault is

pub returns-clause-ends : goal.returns-clause-ends
returns-clause-ends g c ending is = c.answer_script-ended.ensures.ends ending (before_ending ending c.end_with_marks.ensures.ends is)

pub returns-clause-read : goal.returns-clause-read
returns-clause-read g c is = c.answer_script-ended.ensures.read (before_is status.Ok (λ e. absurd (cc e)) (λ e. absurd (cc e)) c.end_with_marks.ensures.ends is)
