use Rattle.std.proofs.Common.{refl, ap, ◌∙◌, arith}
use Rattle.casreg_script.proofs.Calls.Keeping.{all_idle, still_idle, stays_quiet}
use Rattle.casreg_script.proofs.Loads.{none_yet, one_line, no_line, no_collection, all_lines, stops_keep}
use Rattle.casreg_script.proofs.Outcomes.{on_err_of}
use Rattle.casreg_script.proofs.load.run_load.Goals as goal

pub loop-line-init : goal.loop-line-init
loop-line-init g c = record {
  so_far = none_yet _ c.args.load c.args.world.now c.seeded-network.result c.new-generator.result c.new-summary.result c.seeded-network.ensures c.new-generator.ensures c.new-summary.ensures;
  idle = c.requires.idle;
  quiet = c.requires.quiet;
  last_proposer = refl;
  within = omega arith;
}

pub answer_line-requires-clause-known : goal.answer_line-requires-clause-known
answer_line-requires-clause-known g c = c.loop-line.invariant.last_proposer ∙ c.requires.known

pub answer_line-requires-clause-idle : goal.answer_line-requires-clause-idle
answer_line-requires-clause-idle g c = c.loop-line.invariant.idle

pub answer_line-requires-clause-quiet : goal.answer_line-requires-clause-quiet
answer_line-requires-clause-quiet g c = c.loop-line.invariant.quiet

pub answer_line-requires-clause-network : goal.answer_line-requires-clause-network
answer_line-requires-clause-network g c = (c.loop-line.invariant.so_far.view, c.loop-line.invariant.so_far.is)

pub returns-in_err-answer-clause-breaks_off : goal.returns-in_err-answer-clause-breaks_off
returns-in_err-answer-clause-breaks_off g c = on_err_of c.from_residual.result (no_line _ c.args.load c.args.world.now c.loop-line.world c.answer_line.new.world c.loop-line.network c.loop-line.generator c.loop-line.summary c.loop-line.line c.loop-line.invariant.so_far c.in_err-answer.ensures.err)

pub count-requires-clause-room : goal.count-requires-clause-room
count-requires-clause-room g c = omega (arith, ap (λ s. s.lines) c.loop-line.invariant.so_far.counted, c.loop-line.invariant.so_far.many)

pub count-requires-clause-counts : goal.count-requires-clause-counts
count-requires-clause-counts g c = (c.loop-line.invariant.so_far.answers, c.loop-line.invariant.so_far.counted)

pub collect_behind-requires-clause-idle : goal.collect_behind-requires-clause-idle
collect_behind-requires-clause-idle g c =
    let keeps = stops_keep _ c.args.load c.loop-line.line c.answer_line.new.world c.stop_behind.new.world c.stop_behind.ensures in
    still_idle c.answer_line.new.world c.stop_behind.new.world keeps.last_proposer keeps.callers c.in_ok-answer.ensures.idle 0 (omega arith)

pub collect_behind-requires-clause-quiet : goal.collect_behind-requires-clause-quiet
collect_behind-requires-clause-quiet g c = stays_quiet ((stops_keep _ c.args.load c.loop-line.line c.answer_line.new.world c.stop_behind.new.world c.stop_behind.ensures).council c.in_ok-answer.ensures.quiet) c.in_ok-answer.ensures.quiet

pub collect_behind-requires-clause-network : goal.collect_behind-requires-clause-network
collect_behind-requires-clause-network g c = c.in_ok-answer.ensures.network c.loop-line.invariant.so_far.view c.loop-line.invariant.so_far.is

pub returns-in_err-collect_behind-clause-breaks_off : goal.returns-in_err-collect_behind-clause-breaks_off
returns-in_err-collect_behind-clause-breaks_off g c =
    on_err_of c.from_residual-in_err-collect_behind.result (no_collection _ c.args.load c.args.world.now c.loop-line.world c.answer_line.new.world c.stop_behind.new.world c.collect_behind.new.world c.loop-line.network c.answer_line.new.network c.loop-line.generator c.answer_line.new.generator c.loop-line.summary c.loop-line.line c.in_ok-answer.answer
    c.loop-line.invariant.so_far c.in_ok-answer.ensures.answers c.stop_behind.ensures c.in_err-collect_behind.ensures.err.0 c.in_err-collect_behind.ensures.err.1)

pub loop-line-preserved : goal.loop-line-preserved
loop-line-preserved g c =
    let keeps = stops_keep _ c.args.load c.loop-line.line c.answer_line.new.world c.stop_behind.new.world c.stop_behind.ensures in
    record {
      so_far = one_line _ c.args.load c.args.world.now c.loop-line.world c.answer_line.new.world c.stop_behind.new.world c.collect_behind.new.world c.loop-line.network c.answer_line.new.network c.collect_behind.new.network c.loop-line.generator c.answer_line.new.generator c.loop-line.summary c.count.new.self c.loop-line.line c.in_ok-answer.answer
          c.loop-line.invariant.so_far c.in_ok-answer.ensures.answers c.stop_behind.ensures c.in_ok-collect_behind.ensures.collects c.count.ensures;
      idle = all_idle c.stop_behind.new.world c.collect_behind.new.world c.in_ok-collect_behind.ensures.idle (still_idle c.answer_line.new.world c.stop_behind.new.world keeps.last_proposer keeps.callers c.in_ok-answer.ensures.idle);
      quiet = c.in_ok-collect_behind.ensures.quiet;
      within = omega (arith, c.loop-line-test.true);
      last_proposer = c.in_ok-collect_behind.ensures.idle.last_proposer ∙ keeps.last_proposer ∙ c.in_ok-answer.ensures.last_proposer ∙ c.loop-line.invariant.last_proposer;
    }

pub returns-clause-runs : goal.returns-clause-runs
returns-clause-runs g c = all_lines _ c.args.load c.args.world.now c.loop-line.world c.loop-line.network c.loop-line.generator c.loop-line.summary c.loop-line.line c.loop-line.invariant.so_far (omega (arith, c.loop-line.invariant.within, c.loop-line-test.false))
