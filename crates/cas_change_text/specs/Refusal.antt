-- The reasons of refusals, in words.
use Rattle.std.specs.Prelude.{ℕ, List, codes}
use Rattle.cas_change_text.specs.declared.refusal.Why.{Why}
use Rattle.cas_change_text.specs.declared.refusal.Why.TheVariants as why

abbrev pub reason_text : Why → List ℕ
reason_text why.NoWord = codes "no word"
reason_text why.UnknownWord = codes "unknown word"
reason_text why.BadNumber = codes "bad number"
reason_text why.TooLong = codes "too long"
reason_text why.TooManyClauses = codes "too many clauses"
reason_text why.NoMemory = codes "no memory"
