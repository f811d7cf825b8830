use Rattle.std.proofs.Common.{◌≡◌, ◌++◌, take, string_bytes}
use Rattle.std.specs.List.{flat_map}
use Rattle.cas_lines.specs.Answers.{probe_text}
use Rattle.cas_lines.proofs.op_answer.push_probes.Given as goal

abbrev pub invariant-loop-probe : goal.invariant-loop-probe
invariant-loop-probe l = string_bytes l.line ≡ string_bytes l.initial.line ++ flat_map probe_text (take l.probe-index l.probes)
