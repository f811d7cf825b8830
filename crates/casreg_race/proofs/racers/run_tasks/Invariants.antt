use Rattle.std.proofs.Common.{◌≡◌, take}
use Rattle.std.specs.Prelude.{vec_len, vec_capacity}
use Rattle.casreg_race.specs.Runs.{HasRaced}
use Rattle.casreg_race.proofs.racers.run_tasks.Given as goal

-- the tasks before this one were run
abbrev pub invariant-loop-task : goal.invariant-loop-task
invariant-loop-task g l = record {
  raced : HasRaced g.D.Disk.tells l.tries (g.F.Fate.harm_count l.initial.fate) (g.F.Fate.harm_count l.fate) (take l.task-index l.tasks) l.told.items l.initial.pass l.pass;
  told : vec_len l.told ≡ l.task-index;
  room : vec_capacity l.told ≡ vec_capacity l.initial.told;
}
