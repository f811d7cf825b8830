use Rattle.std.proofs.Common.{take}
use Rattle.cas_record.specs.Agreement.{is_told, IsSpan}
use Rattle.cas_record.proofs.agreement.span.Given as goal

-- the span of the ballots so far
abbrev pub invariant-loop-probe : goal.invariant-loop-probe
invariant-loop-probe l = IsSpan (is_told (take l.probe-index l.found)) l.span
