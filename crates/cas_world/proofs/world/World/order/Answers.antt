use Rattle.std.proofs.Common.{◌≡◌, ◌+◌, List, Some, None, refl, ap, subst, ◌∙◌, arith, length}
use Rattle.std.specs.Prelude.{sum_by, option_map}
use Rattle.cas_record.specs.declared.mark.Mark.{Mark}
use Rattle.cas_model.specs.Council.{reserved_for_order}
use Rattle.cas_model.specs.Step as step
use Rattle.cas_model.specs.Exchanges.Step.{StepOrder}
use Rattle.cas_model.specs.View.{View, meaning, reserved_in_all}
use Rattle.cas_model.specs.Safe.{IsSafe}
use Rattle.cas_model.proofs.Safety.Marks.{little_is_reserved}
use Rattle.cas_model.proofs.Safety.Steps.{steps_are_safe}
use Rattle.cas_world_calls.specs.Call.{reserved_of}
use Rattle.cas_world_calls.specs.Council.{order_view}
use Rattle.cas_world.specs.World.{view_of}
use Rattle.cas_world.proofs.Exchanges.Exchanges.{reserved_fits, ordered, council_world, grown_world}
use Rattle.cas_world.proofs.Parts.{seen_from, remembered_then}
use Rattle.cas_world.proofs.Calls.Reserving.{sum_seen}
use Rattle.cas_world.proofs.world.World.order.Given.{Over}
use Rattle.cas_world.proofs.world.World.order.Goals as goal
use Rattle.cas_world.proofs.world.World.order.Goals.{Joined-self}

pub reserved_in_all-reserved-requires : goal.reserved_in_all-reserved-requires
reserved_in_all-reserved-requires g c = omega (arith, reserved_fits c.self.inside.setup.proposers c.self.inside.council c.self.inside.acceptors.items c.self.inside.desks.items c.self.inside.callers.items c.self.inside.flow c.self.inside.record c.self.invariant.safe, ap (sum_by reserved_of) c.deref.ensures.value)

pub overflow_add-marks : goal.overflow_add-marks
overflow_add-marks g c = omega (arith, reserved_fits c.self.inside.setup.proposers c.self.inside.council c.self.inside.acceptors.items c.self.inside.desks.items c.self.inside.callers.items c.self.inside.flow c.self.inside.record c.self.invariant.safe, c.reserved_in_all-reserved.ensures, ap (λ (l : List Mark). length l) c.marks.ensures, ap (sum_by reserved_of) c.deref.ensures.value, sum_seen c.self.inside.callers.items)

pub returns-then-marks-reserved-ge-MOST_MARKS-clause-full : goal.returns-then-marks-reserved-ge-MOST_MARKS-clause-full
returns-then-marks-reserved-ge-MOST_MARKS-clause-full g c = (
  λ e. omega (arith, c.if-marks-reserved-ge-MOST_MARKS.true, ap (λ (v : View g.row.S.Denot g.row.V.Denot). length v.marks + reserved_in_all v) c.self.view_is, reserved_fits c.self.inside.setup.proposers c.self.inside.council c.self.inside.acceptors.items c.self.inside.desks.items c.self.inside.callers.items c.self.inside.flow c.self.inside.record c.self.invariant.safe, c.reserved_in_all-reserved.ensures, ap (λ (l : List Mark). length l) c.marks.ensures, ap (sum_by reserved_of) c.deref.ensures.value, sum_seen c.self.inside.callers.items),
  λ full. refl,
)

-- it was not open
none_open : (g : Over) (c : Joined-self g) → option_map order_view c.self.inside.council.order ≡ None
none_open g c = ap (λ (v : View g.row.S.Denot g.row.V.Denot). v.council.order) c.self.view_is ∙ c.requires

step_so : (g : Over) (c : Joined-self g) → StepOrder (view_of c.self.inside.setup.proposers c.self.inside.council c.self.inside.acceptors.items c.self.inside.desks.items c.self.inside.callers.items c.self.inside.flow c.self.inside.record) c.args.asked.now (view_of c.self.inside.setup.proposers (record c.self.inside.council { order = Some c.in-Ok.order }) c.self.inside.acceptors.items c.self.inside.desks.items c.self.inside.callers.items c.self.inside.flow c.to_order.new.record)
step_so g c =
    ordered c.self.inside.setup.proposers c.self.inside.council c.self.inside.acceptors.items c.self.inside.desks.items c.self.inside.callers.items c.self.inside.flow c.self.inside.record c.to_order.new.record c.in-Ok.order c.args.asked.now (none_open g c) c.in-Ok.ensures.order c.in-Ok.ensures.marks
    (omega (arith, c.if-marks-reserved-ge-MOST_MARKS.false, reserved_fits c.self.inside.setup.proposers c.self.inside.council c.self.inside.acceptors.items c.self.inside.desks.items c.self.inside.callers.items c.self.inside.flow c.self.inside.record c.self.invariant.safe, c.reserved_in_all-reserved.ensures, ap (λ (l : List Mark). length l) c.marks.ensures, ap (sum_by reserved_of) c.deref.ensures.value, sum_seen c.self.inside.callers.items))

pub invariant_of-self : goal.invariant_of-self
invariant_of-self g c =
    council_world (view_of c.self.inside.setup.proposers c.self.inside.council c.self.inside.acceptors.items c.self.inside.desks.items c.self.inside.callers.items c.self.inside.flow c.self.inside.record) _ c.self.inside.callers.items c.self.inside.record.room c.to_order.new.record.room c.self.invariant refl
    (steps_are_safe (meaning g.S.Shelf g.V.Disk) _ (step.Order c.args.asked.now) _ c.self.invariant.safe (step_so g c)) (remembered_then (meaning g.S.Shelf g.V.Disk) (step.Order c.args.asked.now) (step_so g c) c.self.invariant.remembered)
    (omega (arith, c.in-Ok.ensures.room, c.reserved_in_all-reserved.ensures, ap (sum_by reserved_of) c.deref.ensures.value, sum_seen c.self.inside.callers.items, ap reserved_for_order (none_open g c)))

pub invariant_of-self-in-Err : goal.invariant_of-self-in-Err
invariant_of-self-in-Err g c = grown_world c.self.inside.setup.proposers c.self.inside.council c.self.inside.acceptors.items c.self.inside.desks.items c.self.inside.callers.items c.self.inside.flow c.self.inside.record c.to_order.new.record c.self.invariant c.to_order.ensures.marks c.to_order.ensures.grows

pub returns-in-Ok-clause-full : goal.returns-in-Ok-clause-full
returns-in-Ok-clause-full g c = (
  λ e. absurd (cc e),
  λ full. absurd (omega (arith, full, c.if-marks-reserved-ge-MOST_MARKS.false, ap (λ (v : View g.row.S.Denot g.row.V.Denot). length v.marks + reserved_in_all v) c.self.view_is, reserved_fits c.self.inside.setup.proposers c.self.inside.council c.self.inside.acceptors.items c.self.inside.desks.items c.self.inside.callers.items c.self.inside.flow c.self.inside.record c.self.invariant.safe, c.reserved_in_all-reserved.ensures, ap (λ (l : List Mark). length l) c.marks.ensures, ap (sum_by reserved_of) c.deref.ensures.value, sum_seen c.self.inside.callers.items)),
)

pub returns-in-Ok-clause-ok : goal.returns-in-Ok-clause-ok
returns-in-Ok-clause-ok g c = seen_from (meaning g.S.Shelf g.V.Disk) (step.Order c.args.asked.now) _ c.self.view_is (step_so g c)

pub returns-in-Err-clause-full : goal.returns-in-Err-clause-full
returns-in-Err-clause-full g c = (
  λ e. absurd (cc e),
  λ full. absurd (omega (arith, full, c.if-marks-reserved-ge-MOST_MARKS.false, ap (λ (v : View g.row.S.Denot g.row.V.Denot). length v.marks + reserved_in_all v) c.self.view_is, reserved_fits c.self.inside.setup.proposers c.self.inside.council c.self.inside.acceptors.items c.self.inside.desks.items c.self.inside.callers.items c.self.inside.flow c.self.inside.record c.self.invariant.safe, c.reserved_in_all-reserved.ensures, ap (λ (l : List Mark). length l) c.marks.ensures, ap (sum_by reserved_of) c.deref.ensures.value, sum_seen c.self.inside.callers.items)),
)

-- ---- a full record is long
pub returns-then-marks-reserved-ge-MOST_MARKS-clause-long : goal.returns-then-marks-reserved-ge-MOST_MARKS-clause-long
returns-then-marks-reserved-ge-MOST_MARKS-clause-long g c full = omega (arith, (returns-then-marks-reserved-ge-MOST_MARKS-clause-full g c).0 full, little_is_reserved c.args.self.now (subst (λ (v : View g.row.S.Denot g.row.V.Denot). IsSafe v) c.self.view_is c.self.invariant.safe))

pub returns-in-Ok-clause-long : goal.returns-in-Ok-clause-long
returns-in-Ok-clause-long g c full = absurd (cc full)

pub returns-in-Err-clause-long : goal.returns-in-Err-clause-long
returns-in-Err-clause-long g c full = absurd (cc full)
