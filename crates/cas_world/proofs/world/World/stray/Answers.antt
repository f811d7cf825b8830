use Rattle.std.proofs.Common.{◌≡◌, ◌<◌, ◌+◌, ℕ, length, map, refl, sym, ap, subst, arith}
use Rattle.cas_model.specs.Step as step
use Rattle.cas_model.specs.Step.{StepStray}
use Rattle.cas_model.specs.Calls.Step.{most_marks}
use Rattle.cas_model.specs.Frames.Step.{FindsNoRoom}
use Rattle.cas_model.specs.View.{View, meaning, reserved_of, reserved_in_all, shelf_meaning}
use Rattle.cas_model.proofs.Safety.Steps.{steps_are_safe}
use Rattle.cas_model.specs.Council.{reserved_by}
use Rattle.cas_world_calls.specs.Council.{council_view}
use Rattle.cas_world.specs.Frames.Serve.{KeepsAll}
use Rattle.cas_world.specs.Frames.Stray.{LetsIn}
use Rattle.cas_world.specs.World.{view_of, caller_view}
use Rattle.cas_world.proofs.Parts.{seen_from, remembered_then}
use Rattle.cas_world.proofs.Frames.Strays.{reserved_is, reserved_fits, counted, few_counted, stray_step, strayed_kept, no_room, no_room_kept}
use Rattle.cas_world.proofs.world.World.stray.Given.{Over}
use Rattle.cas_world.proofs.world.World.stray.Goals as goal
use Rattle.cas_world.proofs.world.World.stray.Goals.{in-Ok, in-Err}

-- ---- how many marks are made and reserved
-- src/stray.rt:50:13
pub reserved_in_all-reserved-requires : goal.reserved_in_all-reserved-requires
reserved_in_all-reserved-requires g c = reserved_fits c.self.inside.callers.items c.deref.result.now c.self.inside.council c.deref.ensures.value (omega (arith, c.self.invariant.safe.sound.room))

-- src/stray.rt:51:12
pub overflow_add-marks : goal.overflow_add-marks
overflow_add-marks g c =
    let reserves = reserved_is c.self.inside.callers.items c.deref.result.now c.self.inside.council c.reserved_in_all-reserved.result c.deref.ensures.value c.reserved_in_all-reserved.ensures in
    omega (arith, counted c.marks.result.now c.reserved_in_all-reserved.result c.self.view_is c.marks.ensures reserves, few_counted c.self.view_is c.self.invariant.safe)

-- src/stray.rt:52:13
pub returns-then-marks-reserved-ge-MOST_MARKS-clause-full : goal.returns-then-marks-reserved-ge-MOST_MARKS-clause-full
returns-then-marks-reserved-ge-MOST_MARKS-clause-full g c =
    let reserves = reserved_is c.self.inside.callers.items c.deref.result.now c.self.inside.council c.reserved_in_all-reserved.result c.deref.ensures.value c.reserved_in_all-reserved.ensures in
    (λ is. omega (arith, counted c.marks.result.now c.reserved_in_all-reserved.result c.self.view_is c.marks.ensures reserves, few_counted c.self.view_is c.self.invariant.safe, c.if-marks-reserved-ge-MOST_MARKS.true), λ full. refl)

-- ---- where there is room for a mark
reserves : (g : Over) (c : goal.Joined-done g) → c.reserved_in_all-reserved.result ≡ reserved_of (map caller_view c.self.inside.callers.items) + reserved_by (council_view c.self.inside.council)
reserves g c = reserved_is c.self.inside.callers.items c.deref.result.now c.self.inside.council c.reserved_in_all-reserved.result c.deref.ensures.value c.reserved_in_all-reserved.ensures

some_room : (g : Over) (c : goal.Joined-done g) → length c.args.self.now.marks + reserved_in_all c.args.self.now < most_marks
some_room g c = omega (arith, counted c.marks.result.now c.reserved_in_all-reserved.result c.self.view_is c.marks.ensures (reserves g c), c.if-marks-reserved-ge-MOST_MARKS.false)

strays : (g : Over) (c : goal.Joined-done g) (peer : ℕ)
    → LetsIn (shelf_meaning g.S.Shelf) c.args.index (c.reserved_in_all-reserved.result + 1) peer c.self.inside.acceptors.items c.let_in-done.new.acceptors.items
    c.self.inside.desks.items c.let_in-done.new.desks.items c.self.inside.flow c.let_in-done.new.flow c.self.inside.record c.let_in-done.new.record
    → StepStray (meaning g.S.Shelf g.V.Disk)
    (view_of c.self.inside.setup.proposers c.self.inside.council c.self.inside.acceptors.items c.self.inside.desks.items c.self.inside.callers.items c.self.inside.flow c.self.inside.record) c.args.index
    (view_of c.self.inside.setup.proposers c.self.inside.council c.let_in-done.new.acceptors.items c.let_in-done.new.desks.items c.self.inside.callers.items c.let_in-done.new.flow c.let_in-done.new.record)
strays g c peer by =
    stray_step (meaning g.S.Shelf g.V.Disk) c.self.inside.setup.proposers c.self.inside.council c.self.inside.acceptors.items c.let_in-done.new.acceptors.items
    c.self.inside.desks.items c.let_in-done.new.desks.items c.self.inside.callers.items c.self.inside.flow c.let_in-done.new.flow c.self.inside.record c.let_in-done.new.record c.args.index (c.reserved_in_all-reserved.result + 1) peer
    (subst (λ (v : View g.row.S.Denot g.row.V.Denot). length v.marks + reserved_in_all v < most_marks) (sym c.self.view_is) (some_room g c)) by

no_memory : (g : Over) (c : goal.Joined-done g) → KeepsAll (shelf_meaning g.S.Shelf) c.self.inside.acceptors.items c.let_in-done.new.acceptors.items
    → c.let_in-done.new.desks.items ≡ c.self.inside.desks.items → c.let_in-done.new.flow ≡ c.self.inside.flow → c.let_in-done.new.record.marks ≡ c.self.inside.record.marks
    → FindsNoRoom (meaning g.S.Shelf g.V.Disk)
    (view_of c.self.inside.setup.proposers c.self.inside.council c.self.inside.acceptors.items c.self.inside.desks.items c.self.inside.callers.items c.self.inside.flow c.self.inside.record)
    (view_of c.self.inside.setup.proposers c.self.inside.council c.let_in-done.new.acceptors.items c.let_in-done.new.desks.items c.self.inside.callers.items c.let_in-done.new.flow c.let_in-done.new.record)
no_memory g c =
    no_room (meaning g.S.Shelf g.V.Disk) c.self.inside.setup.proposers c.self.inside.council c.self.inside.acceptors.items c.let_in-done.new.acceptors.items
    c.self.inside.desks.items c.let_in-done.new.desks.items c.self.inside.callers.items c.self.inside.flow c.let_in-done.new.flow c.self.inside.record c.let_in-done.new.record

-- src/stray.rt:41:5
pub invariant_of-self : goal.invariant_of-self
invariant_of-self g c = elim c.match-done.branch [
  | in-Ok w ↦
      strayed_kept (shelf_meaning g.S.Shelf) c.self.inside.setup.proposers c.self.inside.council c.self.inside.acceptors.items c.let_in-done.new.acceptors.items
      c.self.inside.desks.items c.let_in-done.new.desks.items c.self.inside.callers.items c.self.inside.flow c.let_in-done.new.flow c.self.inside.record c.let_in-done.new.record c.args.index (c.reserved_in_all-reserved.result + 1) w.in-Ok.peer
      c.self.invariant (ap (λ (n : ℕ). n + 1) (reserves g c)) w.in-Ok.ensures.ok
      (steps_are_safe (meaning g.S.Shelf g.V.Disk) _ (step.Stray c.args.index) _ c.self.invariant.safe (strays g c w.in-Ok.peer w.in-Ok.ensures.ok))
      (remembered_then (meaning g.S.Shelf g.V.Disk) (step.Stray c.args.index) (strays g c w.in-Ok.peer w.in-Ok.ensures.ok) c.self.invariant.remembered)
  | in-Err w ↦
      no_room_kept c.self.inside.setup.proposers c.self.inside.council c.self.inside.acceptors.items c.let_in-done.new.acceptors.items
      c.self.inside.desks.items c.let_in-done.new.desks.items c.self.inside.callers.items c.self.inside.flow c.let_in-done.new.flow c.self.inside.record c.let_in-done.new.record
      c.self.invariant w.in-Err.ensures.same.0 w.in-Err.ensures.same.3
      (steps_are_safe (meaning g.S.Shelf g.V.Disk) _ step.RefuseStray _ c.self.invariant.safe
      (no_memory g c w.in-Err.ensures.err w.in-Err.ensures.same.0 w.in-Err.ensures.same.1 w.in-Err.ensures.same.2))
      (remembered_then (meaning g.S.Shelf g.V.Disk) step.RefuseStray
      (no_memory g c w.in-Err.ensures.err w.in-Err.ensures.same.0 w.in-Err.ensures.same.1 w.in-Err.ensures.same.2) c.self.invariant.remembered)
]

-- src/stray.rt:41:5
pub returns-clause-ok : goal.returns-clause-ok
returns-clause-ok g c = elim c.match-done.branch [
  | in-Ok w ↦ rw w.result-is (seen_from (meaning g.S.Shelf g.V.Disk) (step.Stray c.args.index) _ c.self.view_is (strays g c w.in-Ok.peer w.in-Ok.ensures.ok))
  | in-Err w ↦ rw w.result-is tt
]

-- src/stray.rt:41:5
pub returns-clause-full : goal.returns-clause-full
returns-clause-full g c = (
  λ is. elim c.match-done.branch [
    | in-Ok w ↦ let no : ⊥ = cc (w.result-is, is) in absurd no
    | in-Err w ↦ let no : ⊥ = cc (w.result-is, is) in absurd no
  ],
  λ full. let no : ⊥ = omega (arith, some_room g c, full) in absurd no,
)

-- src/stray.rt:41:5
pub returns-clause-err : goal.returns-clause-err
returns-clause-err g c = elim c.match-done.branch [
  | in-Ok w ↦ rw w.result-is tt
  | in-Err w ↦ rw w.result-is (seen_from (meaning g.S.Shelf g.V.Disk) step.RefuseStray _ c.self.view_is
      (no_memory g c w.in-Err.ensures.err w.in-Err.ensures.same.0 w.in-Err.ensures.same.1 w.in-Err.ensures.same.2))
]
