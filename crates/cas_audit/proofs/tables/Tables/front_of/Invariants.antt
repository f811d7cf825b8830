-- so many entries of the history are left as steps
use Rattle.std.proofs.Common.{◌≡◌, ℕ, ◌+◌, List, length}
use Rattle.cas_record.specs.declared.mark.Mark.{Mark}
use Rattle.cas_record.specs.Histories.Chain.{chain_of}
use Rattle.cas_audit.specs.Tables.{IsAudit}
use Rattle.cas_audit.specs.Told.{Reaches}
use Rattle.cas_audit.proofs.tables.Tables.front_of.Given as goal

abbrev pub invariant-loop-step : goal.invariant-loop-step
invariant-loop-step l = (marks : List Mark) (left : ℕ) → IsAudit l.self marks → l.long ≡ length (chain_of l.key l.fn.ballot marks) → left + l._step ≡ l.long + l.count
    → Reaches l.key l.found marks (chain_of l.key l.fn.ballot marks) left
