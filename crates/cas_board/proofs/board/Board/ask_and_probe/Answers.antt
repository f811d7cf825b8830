use Rattle.std.proofs.Common.{ℕ, List, [], ◌++◌, arith, sym, ap, subst, ◌∙◌}
use Rattle.std.specs.Prelude.{take, length}
use Rattle.cas_model.specs.Exchanges.Step.{told_marks}
use Rattle.cas_board.specs.Operations.{WasToldLast}
use Rattle.cas_board_steps.specs.Exchanges.Orders.{asked_for, HasProbe, IsAskingHarm, IsProbeAnswer, IsTrueRead}
use Rattle.cas_record.specs.declared.mark.Mark.{Mark}
use Rattle.cas_board_steps.specs.declared.orders.Inquiry.{Inquiry}
use Rattle.cas_board_steps.proofs.Exchanges.Probes.{stopped_answers, stopped_silent, stop_heard}
use Rattle.cas_board.proofs.Looks.{carried, front_kept}
use Rattle.cas_board.proofs.Sittings.{counted_none}
use Rattle.cas_board.proofs.Operating.{told_behind, answers_any, own_grown, silent_since, silent_before, begun_in, true_among}
use Rattle.cas_board.proofs.board.Board.ask_and_probe.Goals as goal

pub run_probe-requires-clause-operator : goal.run_probe-requires-clause-operator
run_probe-requires-clause-operator g c = ap (λ s. s.number) c.ask_probe_once.ensures.pass ∙ c.requires.operator

pub run_probe-requires-clause-asks : goal.run_probe-requires-clause-asks
run_probe-requires-clause-asks g c = (c.in-Ok.ensures.asks.0, carried (λ (i : Inquiry) (k : List ℕ). HasProbe i k c.in-Ok.ensures.asks.0 c.ask_probe_once.new.pass.own) (sym c.in-Ok.ensures.inquiry) (sym c.in-Ok.ensures.key) c.in-Ok.ensures.asks.2)

pub returns-in-Ok-clause-told : goal.returns-in-Ok-clause-told
returns-in-Ok-clause-told g c = (
  c.run_probe.ensures.told.0,
  c.run_probe.ensures.told.1,
  told_behind (asked_for c.args.order.inquiry c.args.order.key) IsAskingHarm c.run_probe.ensures.told.0 c.args.pass.now c.ask_probe_once.new.pass c.run_probe.new.pass c.run_probe.result.told (ap (λ s. s.number) c.ask_probe_once.ensures.pass) c.in-Ok.ensures.front c.in-Ok.ensures.counted
      (carried (λ (i : Inquiry) (k : List ℕ). WasToldLast (asked_for i k) IsAskingHarm c.run_probe.ensures.told.0 c.ask_probe_once.new.pass c.run_probe.new.pass c.run_probe.result.told) c.in-Ok.ensures.inquiry c.in-Ok.ensures.key c.run_probe.ensures.told.2),
)

pub returns-in-Ok-clause-answer : goal.returns-in-Ok-clause-answer
returns-in-Ok-clause-answer g c = (
  c.in-Ok.ensures.asks.0,
  c.in-Ok.ensures.asks.1,
  subst (λ (k : List ℕ). IsProbeAnswer k c.in-Ok.ensures.asks.0 c.run_probe.result.told) c.in-Ok.ensures.key
      (c.run_probe.ensures.answer c.in-Ok.ensures.asks.0 (carried (λ (i : Inquiry) (k : List ℕ). HasProbe i k c.in-Ok.ensures.asks.0 c.ask_probe_once.new.pass.own) (sym c.in-Ok.ensures.inquiry) (sym c.in-Ok.ensures.key) c.in-Ok.ensures.asks.2)),
)

pub returns-in-Err-clause-told : goal.returns-in-Err-clause-told
returns-in-Err-clause-told g c = (0, counted_none (g.F.Fate.harm_count c.args.fate.now), c.in-Err.ensures.told)

pub returns-in-Err-clause-answer : goal.returns-in-Err-clause-answer
returns-in-Err-clause-answer g c = answers_any c.args.order.key c.in-Err.told (λ members. stopped_answers c.args.order.key members c.in-Err.told c.in-Err.ensures.stopped)

pub returns-in-Ok-clause-silent : goal.returns-in-Ok-clause-silent
returns-in-Ok-clause-silent g c = silent_before 0 c.args.pass.now c.ask_probe_once.new.pass c.run_probe.new.pass c.run_probe.result.told (own_grown c.args.pass.now c.ask_probe_once.new.pass [] c.requires.operator c.in-Ok.ensures.front) (c.run_probe.ensures.silent 0 c.in-Ok.ensures.harms)

pub returns-in-Err-clause-silent : goal.returns-in-Err-clause-silent
returns-in-Err-clause-silent g c =
    silent_since 0 0 c.args.pass.now c.ask_probe_once.new.pass c.in-Err.told (omega (arith, own_grown c.args.pass.now c.ask_probe_once.new.pass (c.in-Err.ensures.told.marks ++ told_marks (asked_for c.args.order.inquiry c.args.order.key) c.in-Err.told) c.requires.operator c.in-Err.ensures.told.front)) (stopped_silent 0 c.in-Err.told c.in-Err.ensures.stopped)

pub returns-in-Ok-clause-truly : goal.returns-in-Ok-clause-truly
returns-in-Ok-clause-truly g c =
    let heard = c.run_probe.ensures.truly (length c.args.pass.now.seen) c.in-Ok.ensures.behind in
    record {
      probed = λ tells keeps.
          true_among (take (length c.args.pass.now.seen) c.run_probe.new.pass.seen) c.args.pass.now.seen c.run_probe.new.pass.seen c.run_probe.result.told
          (λ x. begun_in c.args.pass.now.seen c.ask_probe_once.new.pass.seen c.run_probe.new.pass.seen c.in-Ok.ensures.front.begins c.run_probe.ensures.told.2.front.begins)
          (heard.probed tells keeps);
      agreed = λ read. heard.agreed (c.in-Ok.ensures.inquiry ∙ read);
      read = λ tells keeps.
          subst (λ (l : List Mark). IsTrueRead l c.run_probe.new.pass.seen c.run_probe.result.told c.run_probe.result.agreement) (front_kept c.args.pass.now.seen c.ask_probe_once.new.pass.seen c.run_probe.new.pass.seen c.in-Ok.ensures.front.begins c.run_probe.ensures.told.2.front.begins)
          (heard.read tells keeps);
    }

pub returns-in-Err-clause-truly : goal.returns-in-Err-clause-truly
returns-in-Err-clause-truly g c = stop_heard c.args.order.inquiry g.D.Disk.tells g.D.Disk.tells c.args.pass.now.seen c.ask_probe_once.new.pass.seen c.in-Err.told c.in-Err.ensures.stopped
