use Rattle.std.proofs.Common.{◌≡◌, ◌-◌}
use Rattle.cas_wire.specs.FrameReading.{list_at}
use Rattle.cas_wire.specs.Reading.{key_at}
use Rattle.cas_wire.proofs.Loops.{with_front}
use Rattle.cas_wire.proofs.reply.some_keys_at.Given as goal

abbrev pub invariant-loop : goal.invariant-loop
invariant-loop l = with_front l.keys.items (list_at key_at (l.count - l.counter) l.rest) ≡ list_at key_at l.count l.bytes
