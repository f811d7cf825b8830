-- The code of a map of slots, by which a model can have one as its value.
use Rattle.std.specs.Coded.{Coded, coded_ℕ, coded_list}
use Rattle.std.specs.FinMap as map
use Rattle.cas_slot.specs.contracts.slot.Slot as slot
use Rattle.cas_slot.specs.Slots.{Slots}

abbrev pub slots_code : Coded Slots
slots_code = map.code (coded_list coded_ℕ) slot.the_row.coded
