use Rattle.casreg_command.specs.declared.status.Status.TheVariants as status
use Rattle.casreg_command.proofs.Marked.{before_is, before_ending, write_fault_behind}
use Rattle.casreg_command.proofs.race.race_board.Goals as goal

pub returns-clause-raced : goal.returns-clause-raced
returns-clause-raced g c = record {
  marks = c.race_lines-ended.result.1.book.marks;
  before = c.race_lines-ended.result.0;
  between = g.K.Sink.contents c.race_lines-ended.new.sink;
  raced = c.race_lines-ended.ensures.raced;
  behind = c.end_with_marks.ensures.ends;
}

pub returns-clause-usage : goal.returns-clause-usage
returns-clause-usage g c is = c.race_lines-ended.ensures.usage (before_is status.Usage (λ e. absurd (cc e)) (λ e. absurd (cc e)) c.end_with_marks.ensures.ends is)

pub returns-clause-read_fault : goal.returns-clause-read_fault
returns-clause-read_fault g c is = c.race_lines-ended.ensures.read_fault (before_is status.ReadFault (λ e. absurd (cc e)) (λ e. absurd (cc e)) c.end_with_marks.ensures.ends is)

pub returns-clause-write_fault : goal.returns-clause-write_fault
returns-clause-write_fault g c is =
    write_fault_behind _ _ _ c.race_lines-ended.ensures.never_falls c.end_with_marks.ensures.never_falls c.end_with_marks.ensures.ends c.race_lines-ended.ensures.write_fault c.end_with_marks.ensures.write_fault is

pub returns-clause-ends : goal.returns-clause-ends
returns-clause-ends g c ending is = c.race_lines-ended.ensures.ends ending (before_ending ending c.end_with_marks.ensures.ends is)

pub returns-clause-read : goal.returns-clause-read
returns-clause-read g c is = c.race_lines-ended.ensures.read (before_is status.Ok (λ e. absurd (cc e)) (λ e. absurd (cc e)) c.end_with_marks.ensures.ends is)
