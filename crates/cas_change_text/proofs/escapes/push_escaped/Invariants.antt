use Rattle.std.proofs.Common.{◌≡◌, ◌++◌, take, string_bytes}
use Rattle.std.specs.List.{flat_map}
use Rattle.cas_change_text.specs.Escapes.{escaped_byte}
use Rattle.cas_change_text.proofs.escapes.push_escaped.Given as goal

abbrev pub invariant-loop-byte : goal.invariant-loop-byte
invariant-loop-byte l = string_bytes l.line ≡ string_bytes l.initial.line ++ flat_map escaped_byte (take l.byte-index l.bytes)
