use Rattle.std.proofs.Common.{◌≡◌, take}
use Rattle.std.specs.List.{flat_map}
use Rattle.casreg_race.specs.Texts.{told_line}
use Rattle.casreg_race.proofs.told.print_told.Given as goal

abbrev pub invariant-loop-one : goal.invariant-loop-one
invariant-loop-one l = record { lines : l.text.items ≡ flat_map (told_line l.caller) (take l.one-index l.told) }
