use Rattle.std.proofs.Common.{◌≡◌, Option, Some, ap, subst, ◌∙◌}
use Rattle.std.specs.Prelude.{IfSome, vec_items}
use Rattle.cas_model.specs.View.{meaning}
use Rattle.cas_lines.specs.Command.{change_of}
use Rattle.casreg_script.specs.Script.{Changed, Happened, Shows, Operated, Reads, membership_of}
use Rattle.casreg_script.specs.Stage.{Stage}
use Rattle.casreg_script.proofs.Answering.{with_text, without_text, changes_run, happens_run, shows_run, probes_run, reads_run, collects_run, members_run}
use Rattle.casreg_script.proofs.script.Script.answer_command.Goals as goal

pub returns-in-Show-clause-answers : goal.returns-in-Show-clause-answers
returns-in-Show-clause-answers g c state line number at is =
    with_text (meaning g.S.Shelf g.V.Disk) c.args.self.now.tries number state line c.args.self.now vec_items c.print_shown.result (Shows c.in-Show.id c.in-Show.key c.in_ok-shown.shown) state at
    (shows_run (meaning g.S.Shelf g.V.Disk) c.args.self.now.tries c.args.self.now state line c.args.command.now c.in-Show.id c.in-Show.key c.in_ok-shown.shown c.self.inside.world at is c.in-Show.is (ap (λ (v : Stage _ _). v.world) c.self.view_is ∙ at.world) c.in_ok-shown.ensures)
    c.print_shown.ensures

pub returns-in-Join : goal.returns-in-Join
returns-in-Join g c = record {
  answers = λ state line number at is.
      let runs = c.in_ok-answer-4.ensures.runs state at in
      with_text (meaning g.S.Shelf g.V.Disk) c.args.self.now.tries number state line c.run_membership.new.self vec_items c.print_op-in-Join.result (Operated c.in_ok-answer-4.answer) runs.new runs.is_in
      (members_run (meaning g.S.Shelf g.V.Disk) c.args.self.now.tries c.args.self.now c.run_membership.new.self state line c.args.command.now _ c.in_ok-answer-4.answer at is (ap membership_of c.in-Join.is) runs)
      c.print_op-in-Join.ensures;
  err = λ state line at is.
      let runs = c.in_ok-answer-4.ensures.runs state at in
      without_text (meaning g.S.Shelf g.V.Disk) c.args.self.now.tries state line c.run_membership.new.self c.print_op-in-Join.result (Operated c.in_ok-answer-4.answer) runs.new runs.is_in
      (members_run (meaning g.S.Shelf g.V.Disk) c.args.self.now.tries c.args.self.now c.run_membership.new.self state line c.args.command.now _ c.in_ok-answer-4.answer at is (ap membership_of c.in-Join.is) runs);
  tries = c.run_membership.ensures.tries;
}

pub returns-in-Leave : goal.returns-in-Leave
returns-in-Leave g c = record {
  answers = λ state line number at is.
      let runs = c.in_ok-answer-5.ensures.runs state at in
      with_text (meaning g.S.Shelf g.V.Disk) c.args.self.now.tries number state line c.run_membership-in-Leave.new.self vec_items c.print_op-in-Leave.result (Operated c.in_ok-answer-5.answer) runs.new runs.is_in
      (members_run (meaning g.S.Shelf g.V.Disk) c.args.self.now.tries c.args.self.now c.run_membership-in-Leave.new.self state line c.args.command.now _ c.in_ok-answer-5.answer at is (ap membership_of c.in-Leave.is) runs)
      c.print_op-in-Leave.ensures;
  err = λ state line at is.
      let runs = c.in_ok-answer-5.ensures.runs state at in
      without_text (meaning g.S.Shelf g.V.Disk) c.args.self.now.tries state line c.run_membership-in-Leave.new.self c.print_op-in-Leave.result (Operated c.in_ok-answer-5.answer) runs.new runs.is_in
      (members_run (meaning g.S.Shelf g.V.Disk) c.args.self.now.tries c.args.self.now c.run_membership-in-Leave.new.self state line c.args.command.now _ c.in_ok-answer-5.answer at is (ap membership_of c.in-Leave.is) runs);
  tries = c.run_membership-in-Leave.ensures.tries;
}

pub returns-in-Resize : goal.returns-in-Resize
returns-in-Resize g c = record {
  answers = λ state line number at is.
      let runs = c.in_ok-answer-6.ensures.runs state at in
      with_text (meaning g.S.Shelf g.V.Disk) c.args.self.now.tries number state line c.run_membership-in-Resize.new.self vec_items c.print_op-in-Resize.result (Operated c.in_ok-answer-6.answer) runs.new runs.is_in
      (members_run (meaning g.S.Shelf g.V.Disk) c.args.self.now.tries c.args.self.now c.run_membership-in-Resize.new.self state line c.args.command.now _ c.in_ok-answer-6.answer at is (ap membership_of c.in-Resize.is) runs)
      c.print_op-in-Resize.ensures;
  err = λ state line at is.
      let runs = c.in_ok-answer-6.ensures.runs state at in
      without_text (meaning g.S.Shelf g.V.Disk) c.args.self.now.tries state line c.run_membership-in-Resize.new.self c.print_op-in-Resize.result (Operated c.in_ok-answer-6.answer) runs.new runs.is_in
      (members_run (meaning g.S.Shelf g.V.Disk) c.args.self.now.tries c.args.self.now c.run_membership-in-Resize.new.self state line c.args.command.now _ c.in_ok-answer-6.answer at is (ap membership_of c.in-Resize.is) runs);
  tries = c.run_membership-in-Resize.ensures.tries;
}

pub returns-in-Some : goal.returns-in-Some
returns-in-Some g c =
    let asks : change_of c.args.command.now ≡ Some (record { caller = c.in-Some.asked.caller; key = c.in-Some.asked.key.now; program = c.in-Some.asked.program }) =
    subst (λ (o : Option _). IfSome o (λ asked. change_of c.args.command.now ≡ Some (record { caller = asked.caller; key = asked.key.now; program = asked.program }))) c.in-Some.is c.in_ok-asked.ensures.asked in
    record {
      answers = λ state line number at is.
          let runs = c.run_change-answer.ensures.runs state at in
          with_text (meaning g.S.Shelf g.V.Disk) c.args.self.now.tries number state line c.run_change-answer.new.self vec_items c.print_answer.result (Changed c.in-Some.asked.caller c.run_change-answer.result) runs.new runs.is_in
          (changes_run (meaning g.S.Shelf g.V.Disk) c.args.self.now.tries c.args.self.now c.run_change-answer.new.self state line c.args.command.now (record { caller = c.in-Some.asked.caller; key = c.in-Some.asked.key.now; program = c.in-Some.asked.program }) c.run_change-answer.result at is asks runs)
          c.print_answer.ensures;
      err = λ state line at is.
          let runs = c.run_change-answer.ensures.runs state at in
          without_text (meaning g.S.Shelf g.V.Disk) c.args.self.now.tries state line c.run_change-answer.new.self c.print_answer.result (Changed c.in-Some.asked.caller c.run_change-answer.result) runs.new runs.is_in
          (changes_run (meaning g.S.Shelf g.V.Disk) c.args.self.now.tries c.args.self.now c.run_change-answer.new.self state line c.args.command.now (record { caller = c.in-Some.asked.caller; key = c.in-Some.asked.key.now; program = c.in-Some.asked.program }) c.run_change-answer.result at is asks runs);
      tries = c.run_change-answer.ensures.tries;
    }

pub returns-in-None : goal.returns-in-None
returns-in-None g c = record {
  answers = λ state line number at is.
      let runs = c.run_event-answer.ensures.runs state at in
      with_text (meaning g.S.Shelf g.V.Disk) c.args.self.now.tries number state line c.run_event-answer.new.self vec_items c.print_event.result (Happened c.run_event-answer.result) runs.new runs.is_in
      (happens_run (meaning g.S.Shelf g.V.Disk) c.args.self.now.tries c.args.self.now c.run_event-answer.new.self state line c.args.command.now c.run_event-answer.result at is runs)
      c.print_event.ensures;
  err = λ state line at is.
      let runs = c.run_event-answer.ensures.runs state at in
      without_text (meaning g.S.Shelf g.V.Disk) c.args.self.now.tries state line c.run_event-answer.new.self c.print_event.result (Happened c.run_event-answer.result) runs.new runs.is_in
      (happens_run (meaning g.S.Shelf g.V.Disk) c.args.self.now.tries c.args.self.now c.run_event-answer.new.self state line c.args.command.now c.run_event-answer.result at is runs);
  tries = c.run_event-answer.ensures.tries;
}

pub returns-in-Probe : goal.returns-in-Probe
returns-in-Probe g c = record {
  answers = λ state line number at is.
      let runs = c.in_ok-answer.ensures.runs state at in
      with_text (meaning g.S.Shelf g.V.Disk) c.args.self.now.tries number state line c.run_probe.new.self vec_items c.print_op.result (Operated c.in_ok-answer.answer) runs.new runs.is_in
      (probes_run (meaning g.S.Shelf g.V.Disk) c.args.self.now.tries c.args.self.now c.run_probe.new.self state line c.args.command.now c.in-Probe.key c.in_ok-answer.answer at is c.in-Probe.is runs)
      c.print_op.ensures;
  err = λ state line at is.
      let runs = c.in_ok-answer.ensures.runs state at in
      without_text (meaning g.S.Shelf g.V.Disk) c.args.self.now.tries state line c.run_probe.new.self c.print_op.result (Operated c.in_ok-answer.answer) runs.new runs.is_in
      (probes_run (meaning g.S.Shelf g.V.Disk) c.args.self.now.tries c.args.self.now c.run_probe.new.self state line c.args.command.now c.in-Probe.key c.in_ok-answer.answer at is c.in-Probe.is runs);
  tries = c.run_probe.ensures.tries;
}

pub returns-in-Read : goal.returns-in-Read
returns-in-Read g c = record {
  answers = λ state line number at is.
      let runs = c.in_ok-answer-2.ensures.runs state at in
      with_text (meaning g.S.Shelf g.V.Disk) c.args.self.now.tries number state line c.run_read.new.self vec_items c.print_read.result (Reads c.in_ok-answer-2.answer) runs.new runs.is_in
      (reads_run (meaning g.S.Shelf g.V.Disk) c.args.self.now.tries c.args.self.now c.run_read.new.self state line c.args.command.now c.in-Read.key c.in_ok-answer-2.answer at is c.in-Read.is runs)
      c.print_read.ensures;
  err = λ state line at is.
      let runs = c.in_ok-answer-2.ensures.runs state at in
      without_text (meaning g.S.Shelf g.V.Disk) c.args.self.now.tries state line c.run_read.new.self c.print_read.result (Reads c.in_ok-answer-2.answer) runs.new runs.is_in
      (reads_run (meaning g.S.Shelf g.V.Disk) c.args.self.now.tries c.args.self.now c.run_read.new.self state line c.args.command.now c.in-Read.key c.in_ok-answer-2.answer at is c.in-Read.is runs);
  tries = c.run_read.ensures.tries;
}

pub returns-in-Collect : goal.returns-in-Collect
returns-in-Collect g c = record {
  answers = λ state line number at is.
      let runs = c.in_ok-answer-3.ensures.runs state at in
      with_text (meaning g.S.Shelf g.V.Disk) c.args.self.now.tries number state line c.run_collection.new.self vec_items c.print_op-in-Collect.result (Operated c.in_ok-answer-3.answer) runs.new runs.is_in
      (collects_run (meaning g.S.Shelf g.V.Disk) c.args.self.now.tries c.args.self.now c.run_collection.new.self state line c.args.command.now c.in-Collect.key c.in_ok-answer-3.answer at is c.in-Collect.is runs)
      c.print_op-in-Collect.ensures;
  err = λ state line at is.
      let runs = c.in_ok-answer-3.ensures.runs state at in
      without_text (meaning g.S.Shelf g.V.Disk) c.args.self.now.tries state line c.run_collection.new.self c.print_op-in-Collect.result (Operated c.in_ok-answer-3.answer) runs.new runs.is_in
      (collects_run (meaning g.S.Shelf g.V.Disk) c.args.self.now.tries c.args.self.now c.run_collection.new.self state line c.args.command.now c.in-Collect.key c.in_ok-answer-3.answer at is c.in-Collect.is runs);
  tries = c.run_collection.ensures.tries;
}
