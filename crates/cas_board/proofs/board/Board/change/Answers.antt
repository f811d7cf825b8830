use Rattle.std.proofs.Common.{ap, sym, subst, ◌∙◌}
use Rattle.cas_board_steps.specs.Calls.Open.{NothingIsOpen}
use Rattle.cas_board.proofs.Sittings.{counted_none, change_answered, change_refused, refused_own}
use Rattle.cas_board.proofs.board.Board.change.Goals as goal

pub run_call-requires-clause-alone : goal.run_call-requires-clause-alone
run_call-requires-clause-alone g c = subst NothingIsOpen (sym c.in-Ok.ensures.begun.beside) c.requires.free

pub returns-in-Ok-clause-answers : goal.returns-in-Ok-clause-answers
returns-in-Ok-clause-answers g c =
    change_answered c.args.key.now c.args.program.now _ _ c.args.tries c.in-Ok.begun.call c.run_call.ensures.ended.0 c.run_call.ensures.ended.1 c.args.pass.now c.begin_once.new.pass c.run_call.new.pass c.run_call.result
    (ap (λ s. s.number) c.begin_once.ensures.pass) c.in-Ok.ensures.begun c.run_call.ensures.ended.2 c.run_call.ensures.ended.3 c.run_call.ensures.ended.4

pub returns-in-Err-clause-answers : goal.returns-in-Err-clause-answers
returns-in-Err-clause-answers g c =
    change_refused c.args.key.now c.args.program.now _ _ c.args.tries c.args.pass.now c.begin_once.new.pass c.in-Err.answer (counted_none (g.F.Fate.harm_count c.args.fate.now)) c.in-Err.ensures.not_begun

pub returns-in-Ok-clause-own : goal.returns-in-Ok-clause-own
returns-in-Ok-clause-own g c = c.run_call.ensures.ended.3.still ∙ c.in-Ok.ensures.begun.beside

pub returns-in-Ok-clause-free : goal.returns-in-Ok-clause-free
returns-in-Ok-clause-free g c = subst NothingIsOpen (sym (c.run_call.ensures.ended.3.still ∙ c.in-Ok.ensures.begun.beside)) c.requires.free

pub returns-in-Err-clause-own : goal.returns-in-Err-clause-own
returns-in-Err-clause-own g c = refused_own c.args.key.now c.args.program.now c.args.pass.now c.begin_once.new.pass c.in-Err.answer c.in-Err.ensures.not_begun

pub returns-in-Err-clause-free : goal.returns-in-Err-clause-free
returns-in-Err-clause-free g c = subst NothingIsOpen (sym (refused_own c.args.key.now c.args.program.now c.args.pass.now c.begin_once.new.pass c.in-Err.answer c.in-Err.ensures.not_begun)) c.requires.free
