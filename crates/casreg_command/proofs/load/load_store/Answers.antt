use Rattle.std.proofs.Common.{List, subst}
use Rattle.cas_record.specs.declared.mark.Mark.{Mark}
use Rattle.casreg_command.specs.Causes.{LoadEnds}
use Rattle.casreg_command.specs.Records.{EndsBehindMarks}
use Rattle.casreg_command.proofs.Marked.{write_fault_behind}
use Rattle.casreg_command.proofs.Written.{loaded_ends}
use Rattle.casreg_command.proofs.load.load_store.Goals as goal

pub returns-clause-loaded : goal.returns-clause-loaded
returns-clause-loaded g c =
    let by = c.sum_up_load-ended.ensures.loaded in
    let before = c.sum_up_load-ended.result.0 in
    let between = g.K.Sink.contents c.sum_up_load-ended.new.sink in
    record {
      before = before;
      between = between;
      loaded = by.loaded;
      behind = subst (λ (marks : List Mark). EndsBehindMarks c.args.options.marks marks before between (g.K.Sink.contents c.end_with_marks.new.sink) c.end_with_marks.result)
          by.marks_are c.end_with_marks.ensures.ends;
    }

pub returns-clause-usage : goal.returns-clause-usage
returns-clause-usage g c is = subst LoadEnds is (loaded_ends (returns-clause-loaded g c))

pub returns-clause-read_fault : goal.returns-clause-read_fault
returns-clause-read_fault g c is = subst LoadEnds is (loaded_ends (returns-clause-loaded g c))

pub returns-clause-write_fault : goal.returns-clause-write_fault
returns-clause-write_fault g c is =
    write_fault_behind _ _ _ c.sum_up_load-ended.ensures.never_falls c.end_with_marks.ensures.never_falls c.end_with_marks.ensures.ends
    c.sum_up_load-ended.ensures.write_fault c.end_with_marks.ensures.write_fault is
