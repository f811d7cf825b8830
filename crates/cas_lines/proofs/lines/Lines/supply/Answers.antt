use Rattle.std.proofs.Common.{refl}
use Rattle.cas_lines.proofs.Calls.{gathered_nothing, grows_on}
use Rattle.cas_lines.proofs.lines.Lines.supply.Goals as goal

pub returns-then-has_newline_within-clause-asks : goal.returns-then-has_newline_within-clause-asks
returns-then-has_newline_within-clause-asks g c = grows_on _ _ _ _ _ _ _ (gathered_nothing _ _ _ _) refl
