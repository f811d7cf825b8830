use Rattle.std.proofs.Common.{◌≡◌, length}
use Rattle.cas_change_text.specs.Escapes.{unescaped}
use Rattle.cas_change_text.proofs.EscapedTexts.{in_front}
use Rattle.cas_change_text.proofs.escapes.unescaped.Given as goal

-- the bytes so far, and those that the rest stands for, are those of the word
abbrev pub invariant-loop-byte : goal.invariant-loop-byte
invariant-loop-byte l = in_front l.bytes.items (unescaped l.rest) ≡ unescaped l.word

abbrev pub decreases-loop-byte : goal.decreases-loop-byte
decreases-loop-byte l = length l.rest
