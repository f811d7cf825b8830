use Rattle.std.proofs.Common.{◌≡◌, ◌+◌, ◌++◌, length, take, drop}
use Rattle.std.specs.Io.BufRead.{take_through}
use Rattle.cas_lines.specs.Lines.{text_of}
use Rattle.cas_lines.proofs.lines.first_cut.Given as goal

abbrev pub invariant-loop-at : goal.invariant-loop-at
invariant-loop-at l = record {
  text : text_of l.bytes ≡ take l.at l.bytes ++ text_of (drop l.at l.bytes);
  spelled : length (take_through 10 l.bytes) ≡ l.at + length (take_through 10 (drop l.at l.bytes));
}
