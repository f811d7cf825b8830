use Rattle.std.proofs.Common.{◌≡◌, ◌∙◌, suc, ◌-◌, ◌≤◌, subst, sym, ap, arith}
use Rattle.cas_session.specs.Request.{request_of}
use Rattle.cas_session.proofs.Runs.{none_yet, at_left, same_request, go_again, ended, tired}
use Rattle.cas_session.proofs.serving.submit.Goals as goal

pub loop-answer-init : goal.loop-answer-init
loop-answer-init g c = record {
  some = c.requires.some;
  caller = λ i. g.C.Changer.caller_of c.args.changer.now;
  so_far = none_yet (request_of (g.C.Changer.caller_of c.args.changer.now) c.args.number c.args.act) c.args.key.now c.args.tries (g.C.Changer.seen c.args.changer.now);
  legal = λ tells legal. legal;
}

pub returns-in-Ends-clause-served : goal.returns-in-Ends-clause-served
returns-in-Ends-clause-served g c =
    let tried = same_request (g.C.Changer.caller_of c.args.changer.now) c.args.number (g.C.Changer.caller_of c.loop-answer.changer) c.args.act c.loop-answer.invariant.caller c.in-Ends.ensures.tried in
    ended c.loop-answer.left (c.loop-answer.left - 1) c.in-Ends.answer (omega (arith, c.loop-answer.invariant.some)) c.loop-answer.invariant.so_far tried

pub returns-in-Again-clause-served : goal.returns-in-Again-clause-served
returns-in-Again-clause-served g c =
    let tried = same_request (g.C.Changer.caller_of c.args.changer.now) c.args.number (g.C.Changer.caller_of c.loop-answer.changer) c.args.act
    c.loop-answer.invariant.caller c.in-Again.ensures.tried in
    tired c.loop-answer.left c.in-Again.last c.in-Again.pending (omega (arith, c.loop-answer.invariant.some, c.if-left-eq0.true)) c.loop-answer.invariant.so_far tried

pub loop-answer-preserved-in-Again-2 : goal.loop-answer-preserved-in-Again-2
loop-answer-preserved-in-Again-2 g c =
    let tried = same_request (g.C.Changer.caller_of c.args.changer.now) c.args.number (g.C.Changer.caller_of c.loop-answer.changer) c.args.act
    c.loop-answer.invariant.caller c.in-Again.ensures.tried in
    let rest : suc (c.loop-answer.left - 1 - 1) ≡ c.loop-answer.left - 1 = omega (arith, c.loop-answer.invariant.some, c.if-left-eq0.false) in
    record {
      some = omega (arith, c.loop-answer.invariant.some, c.if-left-eq0.false);
      caller = c.in-Again.ensures.caller ∙ c.loop-answer.invariant.caller;
      so_far = at_left rest (go_again c.loop-answer.left (c.loop-answer.left - 1 - 1) c.in-Again.last c.in-Again.pending
          (omega (arith, c.loop-answer.invariant.some, c.if-left-eq0.false)) c.loop-answer.invariant.so_far tried);
      legal = λ tells legal. c.in-Again.ensures.legal tells (c.loop-answer.invariant.legal tells legal);
    }

pub loop-answer-preserved-in-Again-2-2 : goal.loop-answer-preserved-in-Again-2-2
loop-answer-preserved-in-Again-2-2 g c =
    let tried = same_request (g.C.Changer.caller_of c.args.changer.now) c.args.number (g.C.Changer.caller_of c.loop-answer.changer) c.args.act
    c.loop-answer.invariant.caller c.in-Again.ensures.tried in
    let rest : suc (c.loop-answer.left - 1 - 1) ≡ c.loop-answer.left - 1 = omega (arith, c.loop-answer.invariant.some, c.if-left-eq0.false) in
    record {
      some = omega (arith, c.loop-answer.invariant.some, c.if-left-eq0.false);
      caller = c.in-Again.ensures.caller ∙ c.loop-answer.invariant.caller;
      so_far = at_left rest (go_again c.loop-answer.left (c.loop-answer.left - 1 - 1) c.in-Again.last c.in-Again.pending
          (omega (arith, c.loop-answer.invariant.some, c.if-left-eq0.false)) c.loop-answer.invariant.so_far tried);
      legal = λ tells legal. c.in-Again.ensures.legal tells (c.loop-answer.invariant.legal tells legal);
    }

pub loop-answer-preserved-in-Again-2-3 : goal.loop-answer-preserved-in-Again-2-3
loop-answer-preserved-in-Again-2-3 g c =
    let tried = same_request (g.C.Changer.caller_of c.args.changer.now) c.args.number (g.C.Changer.caller_of c.loop-answer.changer) c.args.act
    c.loop-answer.invariant.caller c.in-Again.ensures.tried in
    let rest : suc (c.loop-answer.left - 1 - 1) ≡ c.loop-answer.left - 1 = omega (arith, c.loop-answer.invariant.some, c.if-left-eq0.false) in
    record {
      some = omega (arith, c.loop-answer.invariant.some, c.if-left-eq0.false);
      caller = c.in-Again.ensures.caller ∙ c.loop-answer.invariant.caller;
      so_far = at_left rest (go_again c.loop-answer.left (c.loop-answer.left - 1 - 1) c.in-Again.last c.in-Again.pending
          (omega (arith, c.loop-answer.invariant.some, c.if-left-eq0.false)) c.loop-answer.invariant.so_far tried);
      legal = λ tells legal. c.in-Again.ensures.legal tells (c.loop-answer.invariant.legal tells legal);
    }

pub loop-answer-preserved-in-Again-2-4 : goal.loop-answer-preserved-in-Again-2-4
loop-answer-preserved-in-Again-2-4 g c =
    let tried = same_request (g.C.Changer.caller_of c.args.changer.now) c.args.number (g.C.Changer.caller_of c.loop-answer.changer) c.args.act
    c.loop-answer.invariant.caller c.in-Again.ensures.tried in
    let rest : suc (c.loop-answer.left - 1 - 1) ≡ c.loop-answer.left - 1 = omega (arith, c.loop-answer.invariant.some, c.if-left-eq0.false) in
    record {
      some = omega (arith, c.loop-answer.invariant.some, c.if-left-eq0.false);
      caller = c.in-Again.ensures.caller ∙ c.loop-answer.invariant.caller;
      so_far = at_left rest (go_again c.loop-answer.left (c.loop-answer.left - 1 - 1) c.in-Again.last c.in-Again.pending
          (omega (arith, c.loop-answer.invariant.some, c.if-left-eq0.false)) c.loop-answer.invariant.so_far tried);
      legal = λ tells legal. c.in-Again.ensures.legal tells (c.loop-answer.invariant.legal tells legal);
    }
