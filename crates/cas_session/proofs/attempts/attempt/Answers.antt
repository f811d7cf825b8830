use Rattle.cas_session.proofs.Runs.{tried_memory, tried_nothing, tried_state}
use Rattle.cas_session.proofs.attempts.attempt.Goals as goal

pub returns-in_default-clause-tried : goal.returns-in_default-clause-tried
returns-in_default-clause-tried g c = tried_memory c.without_memory.ensures

pub returns-in-Done-clause-tried : goal.returns-in-Done-clause-tried
returns-in-Done-clause-tried g c =
    tried_state (g.C.Changer.caller_of c.args.changer.now) c.args.number (g.C.Changer.caller_of c.change.new.self) c.args.act c.in-Ok.program c.change.result
    c.in-Done.state c.in-Done.took c.in-Done.ballot
    c.in-Ok.ensures c.change.ensures.answer c.in-Done.is c.change.ensures.caller c.go_on.ensures.gone_on

pub returns : goal.returns
returns g c = record {
  caller = c.change.ensures.caller;
  tried = tried_nothing (g.C.Changer.caller_of c.args.changer.now) c.args.number c.args.act c.in-Ok.program c.change.result c.in-Ok.ensures
      c.change.ensures.answer c.in_default-change.not-Done c.ends_by.ensures;
  legal = λ tells legal. c.change.ensures.legal tells;
}
