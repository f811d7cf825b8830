use Rattle.std.proofs.Common.{◌≡◌, ◌≤◌}
use Rattle.cas_record.specs.Legal.{IsLegal}
use Rattle.cas_session.specs.Request.{request_of}
use Rattle.cas_session.proofs.Runs.{SoFar}
use Rattle.cas_session.proofs.serving.submit.Given as goal

-- the calls so far, and that an attempt is left
abbrev pub invariant-loop-answer : goal.invariant-loop-answer
invariant-loop-answer g l = record {
  some : 1 ≤ l.left;
  caller : g.C.Changer.caller_of l.changer ≡ g.C.Changer.caller_of l.fn.changer;
  so_far : SoFar (request_of (g.C.Changer.caller_of l.fn.changer) l.number l.act) l.key l.tries (g.C.Changer.seen l.fn.changer) (g.C.Changer.seen l.changer) l.left l.unsettled;
  legal : g.C.Changer.tells → IsLegal (g.C.Changer.seen l.fn.changer) → IsLegal (g.C.Changer.seen l.changer);
}

abbrev pub decreases-loop-answer : goal.decreases-loop-answer
decreases-loop-answer g l = l.left
