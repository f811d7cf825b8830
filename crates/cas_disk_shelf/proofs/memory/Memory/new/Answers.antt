use Rattle.std.specs.FinMap as map
use Rattle.std.specs.Ordering.{nat_cmp}
use Rattle.std.specs.Cmp.Lexicographic.{slice_cmp}
use Rattle.std.proofs.Common.{ap, sym, ◌∙◌, arith}
use Rattle.cas_slot.specs.declared.slot.Slot.{Slot}
use Rattle.cas_slot.specs.Contents.{Contents}
use Rattle.cas_slot.specs.Slots.{slot_count}
use Rattle.cas_disk_shelf.proofs.memory.Memory.new.Goals as goal

pub returns-clause-counted : goal.returns-clause-counted
returns-clause-counted c = record {
  cells = omega (arith, c.new-2.ensures.len, c.new-3.ensures.len);
  keys = ap (λ (x : Contents). slot_count x.slots) c.new.ensures ∙ map.len-empty (slice_cmp nat_cmp) Slot ∙ sym c.new-2.ensures.len;
}
