use Rattle.std.proofs.Common.{ℕ, List, refl, sym, ap, subst, ◌∙◌}
use Rattle.std.specs.Prelude.{take}
use Rattle.cas_board.specs.Operations.{WasToldLast}
use Rattle.cas_board_steps.specs.Calls.Changes.{harm_by}
use Rattle.cas_board_steps.specs.Exchanges.Orders.{asked_for, HasProbe, IsAskingHarm, IsHeardTrue, IsProbeAnswer, WasAskedBehind}
use Rattle.cas_board_steps.specs.declared.orders.Inquiry.{Inquiry}
use Rattle.cas_board.proofs.Looks.{carried}
use Rattle.cas_board.proofs.Passes.{still_pass}
use Rattle.cas_board.proofs.Operating.{order_runs, order_pass, order_number, order_own, order_ran, order_goes_on, order_ends, marked_harms, none_marked, silent_then}
use Rattle.cas_board.proofs.board.Board.run_probe.Goals as goal

pub loop-init : goal.loop-init
loop-init g c = record { run = order_runs IsAskingHarm (g.F.Fate.harm_count c.args.fate.now) c.args.pass.now; asks = λ members has. has; behind = λ many has. has; harms = none_marked c.args.pass.now; inquiry = refl; key = refl }

pub verdict_for-verdict-requires : goal.verdict_for-verdict-requires
verdict_for-verdict-requires g c = record { pass = still_pass c.args.self.now c.args.pass.now c.loop.pass c.requires.pass c.loop.invariant.run.pass }

pub go_on_probing_once-requires-clause-pass : goal.go_on_probing_once-requires-clause-pass
go_on_probing_once-requires-clause-pass g c = order_pass IsAskingHarm _ _ c.args.pass.now c.loop.pass c.verdict_for-verdict.new.pass c.loop.invariant.run c.verdict_for-verdict.ensures.pass c.args.self.now c.requires.pass

pub go_on_probing_once-requires-clause-operator : goal.go_on_probing_once-requires-clause-operator
go_on_probing_once-requires-clause-operator g c = order_number IsAskingHarm _ _ c.args.pass.now c.loop.pass c.verdict_for-verdict.new.pass c.loop.invariant.run c.verdict_for-verdict.ensures.pass ∙ c.requires.operator

pub go_on_probing_once-requires-clause-asks : goal.go_on_probing_once-requires-clause-asks
go_on_probing_once-requires-clause-asks g c = (c.requires.asks.0, subst (HasProbe c.loop.probing.inquiry c.loop.probing.key c.requires.asks.0) (sym (order_own IsAskingHarm _ _ c.args.pass.now c.loop.pass c.verdict_for-verdict.new.pass c.loop.invariant.run c.verdict_for-verdict.ensures.pass)) (c.loop.invariant.asks c.requires.asks.0 c.requires.asks.1))

pub returns-in-Err-clause-pass : goal.returns-in-Err-clause-pass
returns-in-Err-clause-pass g c = order_ran IsAskingHarm _ _ c.args.pass.now c.loop.pass c.verdict_for-verdict.new.pass c.loop.invariant.run c.verdict_for-verdict.ensures.pass (harm_by c.verdict_for-verdict.result) _ c.go_on_probing_once.new.pass c.verdict_for-verdict.ensures.front c.verdict_for-verdict.ensures.counted c.go_on_probing_once.ensures.pass

pub returns-in-Err-clause-told : goal.returns-in-Err-clause-told
returns-in-Err-clause-told g c = order_ends IsAskingHarm _ _ c.args.pass.now c.loop.pass c.verdict_for-verdict.new.pass c.loop.invariant.run c.verdict_for-verdict.ensures.pass (harm_by c.verdict_for-verdict.result) _ c.go_on_probing_once.new.pass c.verdict_for-verdict.ensures.front c.verdict_for-verdict.ensures.counted c.go_on_probing_once.ensures.pass (asked_for c.args.first.inquiry c.args.first.key) c.in-Err.heard.told (carried (λ (i : Inquiry) (k : List ℕ). WasToldLast (asked_for i k) IsAskingHarm (harm_by c.verdict_for-verdict.result) c.verdict_for-verdict.new.pass c.go_on_probing_once.new.pass c.in-Err.heard.told) c.loop.invariant.inquiry c.loop.invariant.key c.in-Err.ensures.told)

pub returns-in-Err-clause-answer : goal.returns-in-Err-clause-answer
returns-in-Err-clause-answer g c members has =
    subst (λ (k : List ℕ). IsProbeAnswer k members c.in-Err.heard.told) c.loop.invariant.key
    (c.in-Err.ensures.answer members (subst (HasProbe c.loop.probing.inquiry c.loop.probing.key members) (sym (order_own IsAskingHarm _ _ c.args.pass.now c.loop.pass c.verdict_for-verdict.new.pass c.loop.invariant.run c.verdict_for-verdict.ensures.pass)) (c.loop.invariant.asks members has)))

pub returns-in-Err-clause-silent : goal.returns-in-Err-clause-silent
returns-in-Err-clause-silent g c harms has =
    silent_then (asked_for c.loop.probing.inquiry c.loop.probing.key) IsAskingHarm (harm_by c.verdict_for-verdict.result) harms c.args.pass.now c.loop.pass c.verdict_for-verdict.new.pass c.go_on_probing_once.new.pass c.in-Err.heard.told c.loop.invariant.harms has
    (order_own IsAskingHarm _ _ c.args.pass.now c.loop.pass c.verdict_for-verdict.new.pass c.loop.invariant.run c.verdict_for-verdict.ensures.pass) (ap (λ s. s.number) c.loop.invariant.run.pass ∙ c.requires.operator)
    (order_number IsAskingHarm _ _ c.args.pass.now c.loop.pass c.verdict_for-verdict.new.pass c.loop.invariant.run c.verdict_for-verdict.ensures.pass ∙ c.requires.operator) c.verdict_for-verdict.ensures.front c.in-Err.ensures.silent c.in-Err.ensures.told

pub returns-in-Err-clause-truly : goal.returns-in-Err-clause-truly
returns-in-Err-clause-truly g c many has =
    subst (λ (i : Inquiry). IsHeardTrue i g.D.Disk.tells g.D.Disk.tells (take many c.go_on_probing_once.new.pass.seen) c.go_on_probing_once.new.pass.seen c.in-Err.heard) c.loop.invariant.inquiry
    (c.in-Err.ensures.truly many (subst (WasAskedBehind many) (sym (order_own IsAskingHarm _ _ c.args.pass.now c.loop.pass c.verdict_for-verdict.new.pass c.loop.invariant.run c.verdict_for-verdict.ensures.pass)) (c.loop.invariant.behind many has))
    )

pub loop-preserved : goal.loop-preserved
loop-preserved g c = record { run = order_goes_on IsAskingHarm _ _ c.args.pass.now c.loop.pass c.verdict_for-verdict.new.pass c.loop.invariant.run c.verdict_for-verdict.ensures.pass (harm_by c.verdict_for-verdict.result) _ c.go_on_probing_once.new.pass c.verdict_for-verdict.ensures.front c.verdict_for-verdict.ensures.counted c.go_on_probing_once.ensures.pass c.in-Ok.ensures.goes_on; asks = λ members has. carried (λ (i : Inquiry) (k : List ℕ). HasProbe i k members c.go_on_probing_once.new.pass.own) (sym c.in-Ok.ensures.inquiry) (sym c.in-Ok.ensures.key) (c.in-Ok.ensures.still members (subst (HasProbe c.loop.probing.inquiry c.loop.probing.key members) (sym (order_own IsAskingHarm _ _ c.args.pass.now c.loop.pass c.verdict_for-verdict.new.pass c.loop.invariant.run c.verdict_for-verdict.ensures.pass)) (c.loop.invariant.asks members has))); behind = λ many has. c.in-Ok.ensures.behind many (subst (WasAskedBehind many) (sym (order_own IsAskingHarm _ _ c.args.pass.now c.loop.pass c.verdict_for-verdict.new.pass c.loop.invariant.run c.verdict_for-verdict.ensures.pass)) (c.loop.invariant.behind many has)); harms = marked_harms c.args.pass.now c.loop.pass c.verdict_for-verdict.new.pass c.go_on_probing_once.new.pass c.loop.invariant.harms (order_own IsAskingHarm _ _ c.args.pass.now c.loop.pass c.verdict_for-verdict.new.pass c.loop.invariant.run c.verdict_for-verdict.ensures.pass) (ap (λ s. s.number) c.loop.invariant.run.pass ∙ c.requires.operator) c.verdict_for-verdict.ensures.front c.in-Ok.ensures.harms; inquiry = c.in-Ok.ensures.inquiry ∙ c.loop.invariant.inquiry; key = c.in-Ok.ensures.key ∙ c.loop.invariant.key }
