use Rattle.std.proofs.Common.{◌≡◌, ◌<◌, ℕ, List, Vec, Global, length, get_or, map, reverse, sym, ap, subst, ◌∙◌, arith}
use Rattle.std.specs.Prelude.{vec_items, vec_capacity}
use Rattle.std.proofs.lemmas.List.{length-map}
use Rattle.cas_record.specs.declared.mark.Mark.{Mark}
use Rattle.cas_turn.specs.Sitting.{Sitting}
use Rattle.casreg_tasks.specs.declared.tasks.Task.{Task}
use Rattle.cas_board.specs.declared.shared.Shared.{Shared}
use Rattle.casreg_race.specs.declared.racers.Racer.{Racer}
use Rattle.casreg_race.specs.declared.told.Told.{Told}
use Rattle.casreg_race.specs.Runs.{HasRoomForAnswers, HasRaced, AreRaced, ArePassesOf}
use Rattle.casreg_race.proofs.Lined.{count_of, new_passes, racers_idle, map_given, map_parts, ready_all, asks_at, passes_are, are_raced}
use Rattle.casreg_race.proofs.race.run_lines.Given.{Over}
use Rattle.casreg_race.proofs.race.run_lines.Goals as goal

pub returns-in_err-bad-clause-passes : goal.returns-in_err-bad-clause-passes
returns-in_err-bad-clause-passes g c = new_passes c.args.board.now c.args.proposers c.requires.passes.0 c.args.passes.now.items c.requires.passes.1 c.requires.idle

pub returns-in_err-told-clause-passes : goal.returns-in_err-told-clause-passes
returns-in_err-told-clause-passes g c = new_passes c.args.board.now c.args.proposers c.requires.passes.0 c.args.passes.now.items c.requires.passes.1 c.requires.idle

pub returns-in_err-racers-clause-passes : goal.returns-in_err-racers-clause-passes
returns-in_err-racers-clause-passes g c = new_passes c.args.board.now c.args.proposers c.requires.passes.0 c.args.passes.now.items c.requires.passes.1 c.requires.idle

pub line_up-requires-clause-lists : goal.line_up-requires-clause-lists
line_up-requires-clause-lists g c =
    let count = count_of c.args.board.now.id c.args.proposers c.requires.passes.0 c.args.passes.now.items c.requires.passes.1 in
    let parted = c.in_ok-bad.ensures.parted.2.callers in
    let mapped = length-map c.in_ok-bad.field-0.tasks.items vec_items in
    let tasks = c.in_ok-bad.field-0.tasks.ok.0 in
    let rooms = c.in_ok-told.ensures.count.0 in
    let read : length c.deref.result.now ≡ length c.in_ok-bad.field-0.tasks.items = ap (λ (l : List (Vec Task Global)). length l) c.deref.ensures.value in
    let passes = c.args.passes.now.ok.0 in
    (omega (arith, count, parted, mapped, tasks, passes), omega (arith, count, parted, mapped, rooms, read, passes))

abbrev ARacer : Over → Type 0
ARacer g = Racer g.row.D.Denot g.row.F.Denot

abbrev pass_in : (g : Over) → ARacer g → Sitting (Shared g.row.D.Denot) Mark
pass_in g racer = racer.pass

abbrev tasks_in : (g : Over) → ARacer g → Vec Task Global
tasks_in g racer = racer.tasks

abbrev told_in : (g : Over) → ARacer g → Vec Told Global
told_in g racer = racer.told

pub run_all-requires-clause-ready : goal.run_all-requires-clause-ready
run_all-requires-clause-ready g c κs within =
    let rooms = subst (λ (l : List (Vec Task Global)). (n : ℕ) (of_caller : Vec Task Global) (room : Vec Told Global) → n < length l → HasRoomForAnswers (get_or l n of_caller).items (get_or c.in_ok-told.told.items n room).items (vec_capacity (get_or c.in_ok-told.told.items n room))) c.deref.ensures.value c.in_ok-told.ensures.rooms in
    ready_all (tasks_in g) (told_in g) vec_items vec_items vec_capacity c.line_up.new.racers.items c.in_ok-bad.field-0.tasks.items c.in_ok-told.told.items c.line_up.ensures.tasks c.line_up.ensures.told c.args.proposers c.in_ok-bad.ensures.parted.0 _ c.in_ok-bad.ensures.parted.2 (pass_in g) c.args.board.now c.requires.passes.0 c.args.passes.now.items c.line_up.ensures.passes c.requires.passes.1 c.requires.idle rooms

-- as many racers have run as were lined up
as_many : (g : Over) (c : goal.After-drop-tasks-2 g) → length c.run_all.new.racers.items ≡ length c.line_up.new.racers.items
as_many g c = let count = c.run_all.ensures.count in let old = c.line_up.new.racers.ok.0 in let new = c.run_all.new.racers.ok.0 in omega (arith, count, old, new)

ran : (g : Over) (c : goal.After-drop-tasks-2 g) → (i : ℕ) (d : ARacer g) → i < length c.line_up.new.racers.items
    → HasRaced g.D.Disk.tells c.args.tries (g.F.Fate.harm_count (get_or c.line_up.new.racers.items i d).fate) (g.F.Fate.harm_count (get_or c.run_all.new.racers.items i d).fate) (get_or c.line_up.new.racers.items i d).tasks.items (get_or c.run_all.new.racers.items i d).told.items (get_or c.line_up.new.racers.items i d).pass (get_or c.run_all.new.racers.items i d).pass
ran g c i d low =
    let old = c.line_up.new.racers.ok.0 in
    subst (λ (k : ℕ). HasRaced g.D.Disk.tells k (g.F.Fate.harm_count (get_or c.line_up.new.racers.items i d).fate) (g.F.Fate.harm_count (get_or c.run_all.new.racers.items i d).fate) (get_or c.line_up.new.racers.items i d).tasks.items (get_or c.run_all.new.racers.items i d).told.items (get_or c.line_up.new.racers.items i d).pass (get_or c.run_all.new.racers.items i d).pass) c.from.ensures
    (c.run_all.ensures.raced i d (omega (arith, low, old)))

pub returns-clause-passes : goal.returns-clause-passes
returns-clause-passes g c =
    subst (ArePassesOf c.args.board.now c.args.proposers) (sym c.take_back.ensures.passes)
    (passes_are (pass_in g) (λ racer. g.F.Fate.harm_count racer.fate) (λ racer. racer.tasks.items) (λ racer. racer.told.items) g.D.Disk.tells c.args.tries c.line_up.new.racers.items c.run_all.new.racers.items (as_many g c) (ran g c) c.args.board.now c.args.proposers c.requires.passes.0 (c.line_up.ensures.passes ∙ c.requires.passes.1)
    (racers_idle c.args.board.now c.args.proposers c.requires.passes.0 c.args.passes.now.items c.requires.passes.1 c.requires.idle (pass_in g) c.line_up.new.racers.items c.line_up.ensures.passes))

pub returns-clause-raced : goal.returns-clause-raced
returns-clause-raced g c =
    let lines = c.in_ok-bad.ensures.parted.0 in
    let rest = map g.F.Fate.harm_count (reverse c.line_up.new.fates.items) in
    let old = c.line_up.new.racers.items in
    let new = c.run_all.new.racers.items in
    let asks = asks_at (tasks_in g) (told_in g) vec_items vec_items vec_capacity old c.in_ok-bad.field-0.tasks.items c.in_ok-told.told.items c.line_up.ensures.tasks c.line_up.ensures.told c.args.proposers lines _ c.in_ok-bad.ensures.parted.2 in
    let told_are : map vec_items c.take_back.new.told.items ≡ map (λ racer. vec_items (told_in g racer)) new = map_given (told_in g) vec_items new c.take_back.new.told.items c.take_back.ensures.told in (
      lines,
      c.in_ok-bad.ensures.parted.1,
      c.in_ok-bad.ensures.parted.2.bad_are,
      λ first_ fresh.
          subst (λ (l : List (Sitting (Shared g.row.D.Denot) Mark)). AreRaced g.D.Disk.tells c.args.tries c.args.proposers first_ lines (map g.F.Fate.harm_count c.args.fates.now.items) (map g.F.Fate.harm_count c.take_back.new.fates.items) (map vec_items c.take_back.new.told.items) l) (sym c.take_back.ensures.passes)
          (subst (λ (l : List (List Told)). AreRaced g.D.Disk.tells c.args.tries c.args.proposers first_ lines (map g.F.Fate.harm_count c.args.fates.now.items) (map g.F.Fate.harm_count c.take_back.new.fates.items) l (map (pass_in g) new)) (sym told_are)
          (are_raced (pass_in g) (λ racer. g.F.Fate.harm_count racer.fate) (λ racer. racer.tasks.items) (λ racer. racer.told.items) g.D.Disk.tells c.args.tries old new (as_many g c) (ran g c) c.args.board.now c.args.proposers first_ (c.line_up.ensures.passes ∙ fresh) lines _ _ rest asks
          (map_parts (λ racer. racer.fate) g.F.Fate.harm_count old (reverse c.line_up.new.fates.items) c.args.fates.now.items c.line_up.ensures.fates)
          (map_parts (λ racer. racer.fate) g.F.Fate.harm_count new (reverse c.line_up.new.fates.items) c.take_back.new.fates.items (sym c.take_back.ensures.fates)))),
    )
