use Rattle.std.proofs.Common.{ℕ, List, refl, sym, ap, subst, ◌∙◌}
use Rattle.cas_record.specs.declared.operator.Asked.TheVariants as asked
use Rattle.cas_board.specs.Operations.{HasOperated, WasToldLast}
use Rattle.cas_board_steps.specs.Collection.Collecting.{HasCourse, IsTombstoneMark, IsCollectAnswer, IsCollectingMark, most_rounds}
use Rattle.cas_board_steps.specs.Calls.Changes.{harm_by}
use Rattle.cas_board_steps.proofs.Calls.Tries.{tombstone_within}
use Rattle.cas_board.proofs.Passes.{still_pass}
use Rattle.cas_board.proofs.Operating.{order_runs, order_pass, order_number, order_ran, order_goes_on, order_ends, run_less}
use Rattle.cas_board.proofs.Collections.{course_asked}
use Rattle.cas_board.proofs.board.Board.run_collection.Goals as goal

pub loop-init : goal.loop-init
loop-init g c =
    record { run = order_runs (IsTombstoneMark c.args.first.key) (g.F.Fate.harm_count c.args.fate.now) c.args.pass.now; key = refl; tries = refl; keeps = c.requires.keeps; course = c.requires.at }

pub verdict_for-verdict-requires : goal.verdict_for-verdict-requires
verdict_for-verdict-requires g c =
    record { pass = still_pass c.args.self.now c.args.pass.now c.loop.pass c.requires.pass c.loop.invariant.run.pass }

pub go_on_collecting_once-requires-clause-pass : goal.go_on_collecting_once-requires-clause-pass
go_on_collecting_once-requires-clause-pass g c =
    order_pass (IsTombstoneMark c.args.first.key) _ _ c.args.pass.now c.loop.pass c.verdict_for-verdict.new.pass c.loop.invariant.run c.verdict_for-verdict.ensures.pass c.args.self.now c.requires.pass

pub go_on_collecting_once-requires-clause-operator : goal.go_on_collecting_once-requires-clause-operator
go_on_collecting_once-requires-clause-operator g c =
    order_number (IsTombstoneMark c.args.first.key) _ _ c.args.pass.now c.loop.pass c.verdict_for-verdict.new.pass c.loop.invariant.run c.verdict_for-verdict.ensures.pass ∙ c.requires.operator

pub go_on_collecting_once-requires-clause-at : goal.go_on_collecting_once-requires-clause-at
go_on_collecting_once-requires-clause-at g c =
    subst (λ (k : List ℕ). HasCourse k (most_rounds c.loop.collecting.tries) c.loop.collecting.course c.verdict_for-verdict.new.pass.own c.verdict_for-verdict.new.pass.seen) (sym c.loop.invariant.key)
    (subst (λ (n : ℕ). HasCourse c.args.first.key (most_rounds n) c.loop.collecting.course c.verdict_for-verdict.new.pass.own c.verdict_for-verdict.new.pass.seen) (sym c.loop.invariant.tries)
    (course_asked c.args.first.key (most_rounds c.args.first.tries) c.loop.collecting.course c.loop.pass c.verdict_for-verdict.new.pass (ap (λ s. s.number) c.loop.invariant.run.pass ∙ c.requires.operator) c.verdict_for-verdict.ensures.pass c.verdict_for-verdict.ensures.wanted c.loop.invariant.course))

pub returns-in-Err-clause-pass : goal.returns-in-Err-clause-pass
returns-in-Err-clause-pass g c =
    order_ran (IsTombstoneMark c.args.first.key) _ _ c.args.pass.now c.loop.pass c.verdict_for-verdict.new.pass c.loop.invariant.run c.verdict_for-verdict.ensures.pass (harm_by c.verdict_for-verdict.result) _ c.go_on_collecting_once.new.pass c.verdict_for-verdict.ensures.front c.verdict_for-verdict.ensures.counted c.go_on_collecting_once.ensures.pass

pub returns-in-Err-clause-told : goal.returns-in-Err-clause-told
returns-in-Err-clause-told g c =
    order_ends (IsCollectingMark c.args.first.key (most_rounds c.args.first.tries)) _ _ c.args.pass.now c.loop.pass c.verdict_for-verdict.new.pass
    (run_less (IsTombstoneMark c.args.first.key) (IsCollectingMark c.args.first.key (most_rounds c.args.first.tries)) (tombstone_within c.args.first.key (most_rounds c.args.first.tries)) (λ enters. absurd (enters 0 0)) _ _ c.args.pass.now c.loop.pass c.loop.invariant.run) c.verdict_for-verdict.ensures.pass (harm_by c.verdict_for-verdict.result) _ c.go_on_collecting_once.new.pass c.verdict_for-verdict.ensures.front c.verdict_for-verdict.ensures.counted c.go_on_collecting_once.ensures.pass (asked.Collect c.args.first.key) c.in-Err.told
    (subst (λ (n : ℕ). WasToldLast (asked.Collect c.args.first.key) (IsCollectingMark c.args.first.key (most_rounds n)) (harm_by c.verdict_for-verdict.result) c.verdict_for-verdict.new.pass c.go_on_collecting_once.new.pass c.in-Err.told) c.loop.invariant.tries
    (subst (λ (k : List ℕ). WasToldLast (asked.Collect k) (IsCollectingMark k (most_rounds c.loop.collecting.tries)) (harm_by c.verdict_for-verdict.result) c.verdict_for-verdict.new.pass c.go_on_collecting_once.new.pass c.in-Err.told) c.loop.invariant.key c.in-Err.ensures.told))

pub returns-in-Err-clause-answer : goal.returns-in-Err-clause-answer
returns-in-Err-clause-answer g c =
    subst (λ (k : List ℕ). IsCollectAnswer k c.in-Err.told) c.loop.invariant.key c.in-Err.ensures.answer

pub loop-preserved : goal.loop-preserved
loop-preserved g c =
    record {
      run = order_goes_on (IsTombstoneMark c.args.first.key) _ _ c.args.pass.now c.loop.pass c.verdict_for-verdict.new.pass c.loop.invariant.run c.verdict_for-verdict.ensures.pass (harm_by c.verdict_for-verdict.result) _ c.go_on_collecting_once.new.pass c.verdict_for-verdict.ensures.front c.verdict_for-verdict.ensures.counted c.go_on_collecting_once.ensures.pass (subst (λ (k : List ℕ). HasOperated (IsTombstoneMark k) (harm_by c.verdict_for-verdict.result) c.verdict_for-verdict.new.pass c.go_on_collecting_once.new.pass) c.loop.invariant.key c.in-Ok.ensures.goes_on);
      key = c.in-Ok.ensures.key ∙ c.loop.invariant.key;
      tries = c.in-Ok.ensures.tries ∙ c.loop.invariant.tries;
      keeps = c.in-Ok.ensures.keeps;
      course = subst (λ (n : ℕ). HasCourse c.args.first.key (most_rounds n) c.in-Ok.next.course c.go_on_collecting_once.new.pass.own c.go_on_collecting_once.new.pass.seen) c.loop.invariant.tries
          (subst (λ (k : List ℕ). HasCourse k (most_rounds c.loop.collecting.tries) c.in-Ok.next.course c.go_on_collecting_once.new.pass.own c.go_on_collecting_once.new.pass.seen) c.loop.invariant.key c.in-Ok.ensures.at);
    }
