use Rattle.std.proofs.Common.{◌≡◌, ◌++◌, take, string_bytes}
use Rattle.std.specs.List.{flat_map}
use Rattle.cas_audit.specs.Spelling.Printing.{next_number_text}
use Rattle.cas_audit.proofs.printing.push_next_numbers.Given as goal

abbrev pub invariant-loop-number : goal.invariant-loop-number
invariant-loop-number l = string_bytes l.text ≡ string_bytes l.initial.text ++ flat_map next_number_text (take l.number-index l.numbers)
