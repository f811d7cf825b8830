use Rattle.cas_change.specs.Key.{IsKey}
use Rattle.cas_wire.specs.Spelling.{key_spelling}
use Rattle.cas_wire.proofs.Puts.{PutsFront}
use Rattle.cas_wire.proofs.writing.put_keys.Given as goal

abbrev pub invariant-loop-key : goal.invariant-loop-key
invariant-loop-key l = PutsFront key_spelling IsKey 65 l.fn.out l.out l.keys l.key-index
