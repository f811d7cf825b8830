use Rattle.std.proofs.Common.{◌≡◌, ◌+◌, List, [], ◌∷◌, ◌++◌, length, take, refl, sym, ap, ◌∙◌, arith}
use Rattle.std.proofs.lemmas.List.{take_more}
use Rattle.casreg_tasks.specs.declared.tasks.Task.{Task}
use Rattle.casreg_race.specs.declared.told.Told.{Told}
use Rattle.casreg_race.proofs.Racing.{raced_none, raced_next}
use Rattle.casreg_race.proofs.racers.run_tasks.Goals as goal

pub loop-task-init : goal.loop-task-init
loop-task-init g c = record {
  raced = raced_none _ c.args.tries (g.F.Fate.harm_count c.args.fate.now) _ c.args.pass.now _ _ _ c.requires.ready;
  told = let none : length c.args.told.now.items ≡ 0 = ap (λ (l : List Told). length l) c.requires.ready.untold in let same = c.args.told.now.ok.0 in omega (arith, none, same);
  room = refl;
}

pub loop-task-preserved : goal.loop-task-preserved
loop-task-preserved g c =
    let task : Task = c.task-item.result in
    let i = c.loop-task.task-index in
    let more : take (i + 1) c.args.tasks.now ≡ take i c.args.tasks.now ++ task ∷ [] = take_more c.args.tasks.now i task (omega arith) ∙ ap (λ (t : Task). take i c.args.tasks.now ++ t ∷ []) (sym c.task-item.is) in
    record {
      raced = raced_next _ c.args.tries _ _ _ _ _ task _ _ c.run_task-answer.result c.args.pass.now c.loop-task.pass c.run_task-answer.new.pass more c.push_reserved.ensures.items c.loop-task.invariant.raced c.run_task-answer.ensures.pass c.run_task-answer.ensures.free c.run_task-answer.ensures.ran;
      told = let now = c.push_reserved.ensures.len in let was = c.loop-task.invariant.told in omega (arith, now, was);
      room = c.push_reserved.ensures.capacity ∙ c.loop-task.invariant.room;
    }
