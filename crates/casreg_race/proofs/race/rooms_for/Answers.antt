use Rattle.std.proofs.Common.{◌≡◌, ◌+◌, ◌<◌, ◌≤◌, ℕ, List, Vec, Global, length, get_or, sym, subst, ◌∙◌, arith}
use Rattle.std.specs.Prelude.{vec_items, vec_capacity}
use Rattle.casreg_tasks.specs.declared.tasks.Task.{Task}
use Rattle.casreg_race.specs.declared.told.Told.{Told}
use Rattle.casreg_race.specs.Runs.{HasRoomForAnswers}
use Rattle.casreg_race.proofs.Rooms.{same_read, rooms_more}
use Rattle.casreg_race.proofs.race.rooms_for.Goals as goal

pub loop-of_caller-preserved : goal.loop-of_caller-preserved
loop-of_caller-preserved c =
    let i = c.loop-of_caller.of_caller-index in
    let tasks : List (Vec Task Global) = c.args.tasks.now in
    let one : Vec Task Global = c.of_caller-item.result in
    let room : Vec Told Global = c.in_ok-with_capacity.field-0 in
    let made = c.in_ok-with_capacity.ensures in
    let count = c.loop-of_caller.invariant.count in
    let long : length c.loop-of_caller.told.items ≡ i = let ok = c.loop-of_caller.told.ok.0 in omega (arith, ok, count) in
    let enough : length (vec_items one) ≤ vec_capacity room = let ok = one.ok.0 in let len = c.len.ensures in let exact = made.exact in omega (arith, ok, len, exact) in
    record {
      count = let len = c.push_reserved.ensures.len in omega (arith, len, count);
      capacity = c.push_reserved.ensures.capacity ∙ c.loop-of_caller.invariant.capacity;
      rooms = subst (λ (l : List (Vec Told Global)). (n : ℕ) (of_caller : Vec Task Global) (free : Vec Told Global) → n < i + 1 → HasRoomForAnswers (get_or tasks n of_caller).items (get_or l n free).items (vec_capacity (get_or l n free))) (sym c.push_reserved.ensures.items)
          (rooms_more vec_items vec_items vec_capacity tasks c.loop-of_caller.told.items i room long c.loop-of_caller.invariant.rooms
          (λ of_caller. subst (λ (l : Vec Task Global). HasRoomForAnswers (vec_items l) (vec_items room) (vec_capacity room)) (c.of_caller-item.is ∙ same_read tasks i one of_caller (omega arith)) (record { none = made.items; enough = enough })));
    }
