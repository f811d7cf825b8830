use Rattle.std.proofs.Common.{◌≡◌, ◌++◌, take, string_bytes}
use Rattle.cas_lines.proofs.op_answer.push_key.Given as goal

abbrev pub invariant-loop-byte : goal.invariant-loop-byte
invariant-loop-byte l = string_bytes l.line ≡ string_bytes l.initial.line ++ take l.byte-index l.key
