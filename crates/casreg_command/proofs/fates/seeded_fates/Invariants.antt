use Rattle.std.proofs.Common.{◌≡◌, vec_len}
use Rattle.casreg_command.specs.Seeds.{AreSeeded}
use Rattle.casreg_command.proofs.fates.seeded_fates.Given as goal

abbrev pub invariant-loop-caller : goal.invariant-loop-caller
invariant-loop-caller l = record {
  made : vec_len l.fates ≡ l.caller;
  seeded : AreSeeded 0 l.fates.items;
}
