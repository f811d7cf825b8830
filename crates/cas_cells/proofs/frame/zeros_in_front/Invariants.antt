use Rattle.std.proofs.Common.{◌≡◌, ◌+◌, drop}
use Rattle.cas_cells.specs.Format.{zeros_in_front}
use Rattle.cas_cells.proofs.frame.zeros_in_front.Given as goal

abbrev pub invariant-loop-byte : goal.invariant-loop-byte
invariant-loop-byte l = record { so_far : l.zeros + zeros_in_front (drop l.byte-index l.bytes) ≡ zeros_in_front l.bytes; index : l.zeros ≡ l.byte-index }
