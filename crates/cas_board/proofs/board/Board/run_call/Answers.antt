use Rattle.std.proofs.Common.{sym, ◌∙◌}
use Rattle.std.proofs.lemmas.Bool.{ltb-true, ltb-false}
use Rattle.cas_board_steps.specs.Calls.Changes.{harm_by}
use Rattle.cas_board_steps.specs.Calls.Stages.{tells_met}
use Rattle.cas_board.proofs.Passes.{still_pass}
use Rattle.cas_board.proofs.Sittings.{run_begins, asked_pass, asked_open, asked_alone, asked_wanted, run_pass, run_goes_on, run_ends, rounds_spent, tried_asked, tried_on}
use Rattle.cas_board.proofs.board.Board.run_call.Goals as goal

pub loop-init : goal.loop-init
loop-init g c = (
  run_begins c.args.begun.call (g.F.Fate.harm_count c.args.fate.now) c.args.pass.now c.requires.called,
  record { counted = c.requires.first; tells = c.requires.unmet ∙ sym c.requires.fresh; within = c.requires.some; more = λ met. absurd (cc (c.requires.fresh, met)) },
)

pub verdict_at-verdict-requires : goal.verdict_at-verdict-requires
verdict_at-verdict-requires g c = record { pass = still_pass c.args.self.now c.args.pass.now c.loop.pass c.requires.pass c.loop.invariant.0.pass }

pub go_on_once-requires-clause-pass : goal.go_on_once-requires-clause-pass
go_on_once-requires-clause-pass g c = asked_pass c.args.begun.call _ _ c.args.pass.now c.loop.pass c.verdict_at-verdict.new.pass c.loop.invariant.0 c.verdict_at-verdict.ensures.pass c.args.self.now c.requires.pass

pub go_on_once-requires-clause-called : goal.go_on_once-requires-clause-called
go_on_once-requires-clause-called g c = asked_open c.args.begun.call _ _ c.args.pass.now c.loop.pass c.verdict_at-verdict.new.pass c.loop.invariant.0 c.verdict_at-verdict.ensures.pass

pub go_on_once-requires-clause-alone : goal.go_on_once-requires-clause-alone
go_on_once-requires-clause-alone g c = asked_alone c.args.begun.call _ _ c.args.pass.now c.loop.pass c.verdict_at-verdict.new.pass c.loop.invariant.0 c.verdict_at-verdict.ensures.pass c.requires.alone

pub go_on_once-requires-clause-wanted : goal.go_on_once-requires-clause-wanted
go_on_once-requires-clause-wanted g c = asked_wanted c.args.begun.call _ _ c.args.pass.now c.loop.pass c.verdict_at-verdict.new.pass c.loop.invariant.0 c.verdict_at-verdict.ensures.pass _ c.verdict_at-verdict.ensures.wanted c.requires.wanted

pub returns-in-Err-clause-pass : goal.returns-in-Err-clause-pass
returns-in-Err-clause-pass g c =
    run_pass c.args.begun.call _ _ c.args.pass.now c.loop.pass c.verdict_at-verdict.new.pass c.loop.invariant.0 c.verdict_at-verdict.ensures.pass (harm_by c.verdict_at-verdict.result) _ c.go_on_once.new.pass
    c.verdict_at-verdict.ensures.front c.verdict_at-verdict.ensures.wanted c.verdict_at-verdict.ensures.counted c.go_on_once.ensures.pass

pub returns-in-Err-clause-ended : goal.returns-in-Err-clause-ended
returns-in-Err-clause-ended g c =
    run_ends c.args.begun.call _ _ c.args.pass.now c.loop.pass c.verdict_at-verdict.new.pass c.loop.invariant.0 c.verdict_at-verdict.ensures.pass (harm_by c.verdict_at-verdict.result) _ c.go_on_once.new.pass
    c.verdict_at-verdict.ensures.front c.verdict_at-verdict.ensures.wanted c.verdict_at-verdict.ensures.counted c.go_on_once.ensures.pass c.in-Err.answer _ c.args.tries
    (λ conflict. rounds_spent c.args.tries c.loop.rounds (tells_met c.loop.stage) c.verdict_at-verdict.new.pass.own (tried_asked c.args.tries c.loop.rounds (tells_met c.loop.stage) c.loop.pass c.verdict_at-verdict.new.pass c.verdict_at-verdict.ensures.pass c.loop.invariant.1)
    c.rounds_with-rounds.result c.rounds_with-rounds.ensures (ltb-false _ _ (c.in-Err.ensures.last conflict))) c.in-Err.ensures.ends

pub loop-preserved : goal.loop-preserved
loop-preserved g c = (
  run_goes_on c.args.begun.call _ _ c.args.pass.now c.loop.pass c.verdict_at-verdict.new.pass c.loop.invariant.0 c.verdict_at-verdict.ensures.pass (harm_by c.verdict_at-verdict.result) _ c.go_on_once.new.pass
      c.verdict_at-verdict.ensures.front c.verdict_at-verdict.ensures.wanted c.verdict_at-verdict.ensures.counted c.go_on_once.ensures.pass c.in-Ok.ensures.goes_on,
  tried_on c.args.tries c.loop.rounds (tells_met c.loop.stage) c.verdict_at-verdict.new.pass.own (tried_asked c.args.tries c.loop.rounds (tells_met c.loop.stage) c.loop.pass c.verdict_at-verdict.new.pass c.verdict_at-verdict.ensures.pass c.loop.invariant.1)
      c.rounds_with-rounds.result (tells_met c.in-Ok.next) c.go_on_once.new.pass.own c.rounds_with-rounds.ensures c.in-Ok.ensures.rounds c.in-Ok.ensures.met (λ met. ltb-true _ _ (c.in-Ok.ensures.repeats met)),
)
