use Rattle.std.proofs.Common.{◌≡◌, ◌∷◌, map, take, codes, string_bytes}
use Rattle.casreg_command.proofs.words.with_name.Given as goal

abbrev pub invariant-loop-word : goal.invariant-loop-word
invariant-loop-word l = record {
  texts : map (λ word. word.now) l.all.items ≡ codes "casreg" ∷ map string_bytes (take l.word-index l.words);
}
