use Rattle.std.proofs.Common.{◌≡◌, ◌+◌, ◌<◌, ◌≤◌, ℕ, false, List, Option, Some, refl, sym, ap, subst, ◌∙◌, arith, length, slice_set}
use Rattle.std.specs.Prelude.{map, option_map, sum_by, IfErr, OnOk}
use Rattle.std.proofs.lemmas.List.{length-map}
use Rattle.cas_proposer.specs.Desk.{DeskView}
use Rattle.cas_quorum.specs.declared.era.Era.{Era}
use Rattle.cas_record.specs.declared.mark.Mark.{Mark}
use Rattle.cas_record.specs.declared.answer.Answer.TheVariants as answer
use Rattle.cas_record.specs.declared.operator.OpAnswer.TheVariants as op
use Rattle.cas_model.specs.Council.{OrderView}
use Rattle.cas_model.specs.Eras.Course.{next_era}
use Rattle.cas_model.specs.History.{IsRemembered}
use Rattle.cas_model.specs.Safe.{IsSafe}
use Rattle.cas_model.proofs.Eras.Entering.{lawful_then}
use Rattle.cas_model.specs.Step as step
use Rattle.cas_model.specs.Calls.Step.{most_marks}
use Rattle.cas_model.specs.Exchanges.Step.{told_view}
use Rattle.cas_model.specs.Eras.Step as plans
use Rattle.cas_model.specs.Eras.Step.{EntersNext, StepEnterEra}
use Rattle.cas_model.specs.View.{View, IsAt, meaning, reserved_in_all}
use Rattle.cas_model.proofs.Places.{some_is, at_one}
use Rattle.cas_model.proofs.Safety.Parts.{at_low}
use Rattle.cas_model.proofs.Safety.Steps.{steps_are_safe}
use Rattle.cas_model.proofs.Stops.Safe.{call_reserves_at}
use Rattle.cas_world_calls.specs.Call.{reserved_of}
use Rattle.cas_world_calls.specs.Council.{council_view}
use Rattle.cas_world.specs.Exchanges.Exchange.{WasToldOrder}
use Rattle.cas_world.specs.Eras.Plans.{IsUnderWay}
use Rattle.cas_world.specs.World.{IsWorld, view_of, call_view, caller_view}
use Rattle.cas_world_calls.specs.declared.call.OpenCall.{OpenCall}
use Rattle.cas_world.proofs.Calls.Beginning.{goes_on_same}
use Rattle.cas_world.proofs.Calls.Callers.{at_map}
use Rattle.cas_world.proofs.Exchanges.Exchanges.{grown_world, reserved_fits}
use Rattle.cas_world.proofs.Eras.Moving.{entered_so, entered_room, entered_copies, entered_ok, entered_err}
use Rattle.cas_world.proofs.Eras.Planning.{by_order, entrant_known, enters_next, ok_there, open_call, told_last}
use Rattle.cas_world.proofs.Parts.{Remembers, at_place, set_same, remembered_then}
use Rattle.cas_world.proofs.Calls.Reserving.{sum_seen}
use Rattle.cas_world.proofs.world.World.enter_era.Given.{Over}
use Rattle.cas_world.proofs.world.World.enter_era.Goals as goal
use Rattle.cas_world.proofs.world.World.enter_era.Goals.{After-mark_move}

pub reserved_in_all-reserved-requires : goal.reserved_in_all-reserved-requires
reserved_in_all-reserved-requires g c = omega (arith, reserved_fits c.self.inside.setup.proposers c.self.inside.council c.self.inside.acceptors.items c.self.inside.desks.items c.self.inside.callers.items c.self.inside.flow c.self.inside.record c.self.invariant.safe, ap (sum_by reserved_of) c.deref.ensures.value)

pub overflow_add-marks : goal.overflow_add-marks
overflow_add-marks g c = omega (arith, reserved_fits c.self.inside.setup.proposers c.self.inside.council c.self.inside.acceptors.items c.self.inside.desks.items c.self.inside.callers.items c.self.inside.flow c.self.inside.record c.self.invariant.safe, c.reserved_in_all-reserved.ensures, ap (λ (l : List Mark). length l) c.marks.ensures, ap (sum_by reserved_of) c.deref.ensures.value, sum_seen c.self.inside.callers.items)

pub returns-then-marks-reserved-ge-MOST_MARKS-clause-step : goal.returns-then-marks-reserved-ge-MOST_MARKS-clause-step
returns-then-marks-reserved-ge-MOST_MARKS-clause-step g c =
    let desk = (at_low c.self.inside.desks.items c.args.proposer (omega (arith, c.self.invariant.safe.sound.desks, entrant_known c.args.self.now c.args.proposer (subst (λ (v : View g.row.S.Denot g.row.V.Denot). IsSafe v) c.self.view_is c.self.invariant.safe) c.requires, ap (λ (v : View g.row.S.Denot g.row.V.Denot). v.last_proposer) c.self.view_is))) in
    let caller = (at_low (map caller_view c.self.inside.callers.items) c.args.proposer (omega (arith, c.self.invariant.safe.sound.callers, entrant_known c.args.self.now c.args.proposer (subst (λ (v : View g.row.S.Denot g.row.V.Denot). IsSafe v) c.self.view_is c.self.invariant.safe) c.requires, ap (λ (v : View g.row.S.Denot g.row.V.Denot). v.last_proposer) c.self.view_is))) in
    enters_next (meaning g.S.Shelf g.V.Disk) c.args.self.now c.refuse.new.self c.args.proposer desk.0 caller.0 c.requires (subst (λ (v : View g.row.S.Denot g.row.V.Denot). IsAt v.desks c.args.proposer desk.0) c.self.view_is desk.1) (subst (λ (v : View g.row.S.Denot g.row.V.Denot). IsAt v.callers c.args.proposer caller.0) c.self.view_is caller.1)
    (plans.is_full (omega (arith, c.if-marks-reserved-ge-MOST_MARKS.true, ap (λ (v : View g.row.S.Denot g.row.V.Denot). length v.marks + reserved_in_all v) c.self.view_is, c.self.invariant.safe.sound.room, reserved_fits c.self.inside.setup.proposers c.self.inside.council c.self.inside.acceptors.items c.self.inside.desks.items c.self.inside.callers.items c.self.inside.flow c.self.inside.record c.self.invariant.safe, c.reserved_in_all-reserved.ensures, ap (λ (l : List Mark). length l) c.marks.ensures, ap (sum_by reserved_of) c.deref.ensures.value, sum_seen c.self.inside.callers.items)) c.refuse.ensures.told)

pub returns-then-marks-reserved-ge-MOST_MARKS-clause-err : goal.returns-then-marks-reserved-ge-MOST_MARKS-clause-err
returns-then-marks-reserved-ge-MOST_MARKS-clause-err g c = told_last c.args.self.now c.refuse.new.self c.requires.order _ c.refuse.result c.requires.is_order c.refuse.ensures.told c.refuse.ensures.answer

pub returns-then-is_down-clause-step : goal.returns-then-is_down-clause-step
returns-then-is_down-clause-step g c =
    let caller = (at_low (map caller_view c.self.inside.callers.items) c.args.proposer (omega (arith, c.self.invariant.safe.sound.callers, entrant_known c.args.self.now c.args.proposer (subst (λ (v : View g.row.S.Denot g.row.V.Denot). IsSafe v) c.self.view_is c.self.invariant.safe) c.requires, ap (λ (v : View g.row.S.Denot g.row.V.Denot). v.last_proposer) c.self.view_is))) in
    enters_next (meaning g.S.Shelf g.V.Disk) c.args.self.now c.refuse-then-is_down.new.self c.args.proposer c.index.result.now caller.0 c.requires (subst (λ (v : View g.row.S.Denot g.row.V.Denot). IsAt v.desks c.args.proposer c.index.result.now) c.self.view_is (at_place c.self.inside.desks.items c.from-place.result c.args.proposer c.index.result.now c.from-place.ensures (omega (arith, c.self.invariant.safe.sound.desks, entrant_known c.args.self.now c.args.proposer (subst (λ (v : View g.row.S.Denot g.row.V.Denot). IsSafe v) c.self.view_is c.self.invariant.safe) c.requires, ap (λ (v : View g.row.S.Denot g.row.V.Denot). v.last_proposer) c.self.view_is)) c.index.ensures)) (subst (λ (v : View g.row.S.Denot g.row.V.Denot). IsAt v.callers c.args.proposer caller.0) c.self.view_is caller.1)
    (plans.is_down (omega (arith, c.if-marks-reserved-ge-MOST_MARKS.false, ap (λ (v : View g.row.S.Denot g.row.V.Denot). length v.marks + reserved_in_all v) c.self.view_is, reserved_fits c.self.inside.setup.proposers c.self.inside.council c.self.inside.acceptors.items c.self.inside.desks.items c.self.inside.callers.items c.self.inside.flow c.self.inside.record c.self.invariant.safe, c.reserved_in_all-reserved.ensures, ap (λ (l : List Mark). length l) c.marks.ensures, ap (sum_by reserved_of) c.deref.ensures.value, sum_seen c.self.inside.callers.items)) (sym c.is_down.ensures ∙ c.if-is_down.true)
    (c.refuse-then-is_down.ensures.told ∙ ap (λ (n : ℕ). told_view c.args.self.now (op.ProposerDown n)) (sym c.requires.is_due)))

pub returns-then-is_down-clause-err : goal.returns-then-is_down-clause-err
returns-then-is_down-clause-err g c = told_last c.args.self.now c.refuse-then-is_down.new.self c.requires.order _ c.refuse-then-is_down.result c.requires.is_order c.refuse-then-is_down.ensures.told c.refuse-then-is_down.ensures.answer

pub invariant_of-self : goal.invariant_of-self
invariant_of-self g c = grown_world c.self.inside.setup.proposers c.self.inside.council c.self.inside.acceptors.items c.self.inside.desks.items c.self.inside.callers.items c.self.inside.flow c.self.inside.record c.reserve.new.self c.self.invariant c.reserve.ensures.same c.reserve.ensures.grows

pub returns-then-is_err-clause-step : goal.returns-then-is_err-clause-step
returns-then-is_err-clause-step g c =
    let caller = (at_low (map caller_view c.self.inside.callers.items) c.args.proposer (omega (arith, c.self.invariant.safe.sound.callers, entrant_known c.args.self.now c.args.proposer (subst (λ (v : View g.row.S.Denot g.row.V.Denot). IsSafe v) c.self.view_is c.self.invariant.safe) c.requires, ap (λ (v : View g.row.S.Denot g.row.V.Denot). v.last_proposer) c.self.view_is))) in
    let at : IsAt c.args.self.now.desks c.args.proposer c.index.result.now = (subst (λ (v : View g.row.S.Denot g.row.V.Denot). IsAt v.desks c.args.proposer c.index.result.now) c.self.view_is (at_place c.self.inside.desks.items c.from-place.result c.args.proposer c.index.result.now c.from-place.ensures (omega (arith, c.self.invariant.safe.sound.desks, entrant_known c.args.self.now c.args.proposer (subst (λ (v : View g.row.S.Denot g.row.V.Denot). IsSafe v) c.self.view_is c.self.invariant.safe) c.requires, ap (λ (v : View g.row.S.Denot g.row.V.Denot). v.last_proposer) c.self.view_is)) c.index.ensures)) in
    enters_next (meaning g.S.Shelf g.V.Disk) c.args.self.now c.refuse-then-is_err.new.self c.args.proposer c.index.result.now caller.0 c.requires at (subst (λ (v : View g.row.S.Denot g.row.V.Denot). IsAt v.callers c.args.proposer caller.0) c.self.view_is caller.1)
    (plans.no_memory c.index.result.now (omega (arith, c.if-marks-reserved-ge-MOST_MARKS.false, ap (λ (v : View g.row.S.Denot g.row.V.Denot). length v.marks + reserved_in_all v) c.self.view_is, reserved_fits c.self.inside.setup.proposers c.self.inside.council c.self.inside.acceptors.items c.self.inside.desks.items c.self.inside.callers.items c.self.inside.flow c.self.inside.record c.self.invariant.safe, c.reserved_in_all-reserved.ensures, ap (λ (l : List Mark). length l) c.marks.ensures, ap (sum_by reserved_of) c.deref.ensures.value, sum_seen c.self.inside.callers.items)) (sym c.is_down.ensures ∙ c.if-is_down.false)
    (record { shows = record { counter = refl; kept = refl }; goes_on = goes_on_same g.V.Disk.tells g.V.Disk.may_leave g.V.Disk.fault_count c.index.result.now.vault }) refl
    (c.refuse-then-is_err.ensures.told ∙ ap (told_view (view_of c.self.inside.setup.proposers c.self.inside.council c.self.inside.acceptors.items c.self.inside.desks.items c.self.inside.callers.items c.self.inside.flow c.reserve.new.self)) c.no_memory.ensures
    ∙ ap (λ (v : View g.row.S.Denot g.row.V.Denot). told_view v (op.Stopped (answer.NoMemory false))) (ap (λ (ms : List Mark). record (view_of c.self.inside.setup.proposers c.self.inside.council c.self.inside.acceptors.items c.self.inside.desks.items c.self.inside.callers.items c.self.inside.flow c.self.inside.record) { marks = ms }) c.reserve.ensures.same ∙ c.self.view_is)
    ∙ ap (λ (l : List (DeskView g.row.V.Denot)). told_view (record c.args.self.now { desks = l }) (op.Stopped (answer.NoMemory false))) (sym (set_same c.args.self.now.desks c.requires.plan.entered c.index.result.now (subst (λ (i : ℕ). IsAt c.args.self.now.desks i c.index.result.now) (sym c.requires.is_due) at)))))

pub returns-then-is_err-clause-err : goal.returns-then-is_err-clause-err
returns-then-is_err-clause-err g c =
    told_last (view_of c.self.inside.setup.proposers c.self.inside.council c.self.inside.acceptors.items c.self.inside.desks.items c.self.inside.callers.items c.self.inside.flow c.reserve.new.self) c.refuse-then-is_err.new.self c.requires.order _ c.refuse-then-is_err.result (ap (λ (v : View g.row.S.Denot g.row.V.Denot). v.council.order) c.self.view_is ∙ c.requires.is_order) c.refuse-then-is_err.ensures.told c.refuse-then-is_err.ensures.answer

pub move_on-moved-requires-clause-open : goal.move_on-moved-requires-clause-open
move_on-moved-requires-clause-open g c some =
    let desk = at_place c.self.inside.desks.items c.from-place.result c.args.proposer c.index_mut-desk.result.now c.from-place.ensures (omega (arith, c.self.invariant.safe.sound.desks, entrant_known c.args.self.now c.args.proposer (subst (λ (v : View g.row.S.Denot g.row.V.Denot). IsSafe v) c.self.view_is c.self.invariant.safe) c.requires, ap (λ (v : View g.row.S.Denot g.row.V.Denot). v.last_proposer) c.self.view_is)) c.index_mut-desk.ensures.value in
    let caller = at_place c.self.inside.callers.items c.from-place.result c.args.proposer c.index_mut-caller.result.now c.from-place.ensures (omega (arith, c.self.invariant.safe.sound.callers, entrant_known c.args.self.now c.args.proposer (subst (λ (v : View g.row.S.Denot g.row.V.Denot). IsSafe v) c.self.view_is c.self.invariant.safe) c.requires, ap (λ (v : View g.row.S.Denot g.row.V.Denot). v.last_proposer) c.self.view_is, length-map c.self.inside.callers.items caller_view)) c.index_mut-caller.ensures.value in
    open_call (view_of c.self.inside.setup.proposers c.self.inside.council c.self.inside.acceptors.items c.self.inside.desks.items c.self.inside.callers.items c.self.inside.flow c.self.inside.record) c.args.proposer c.index_mut-desk.result.now c.index_mut-caller.result.now c.self.invariant.safe desk (at_map caller_view c.self.inside.callers.items c.args.proposer c.index_mut-caller.result.now caller) c.index_mut-desk.result.now.round refl some

-- ---- it has moved on, or not
at_desk : (g : Over) (c : After-mark_move g) → IsAt c.self.inside.desks.items c.args.proposer c.index_mut-desk.result.now
at_desk g c = at_place c.self.inside.desks.items c.from-place.result c.args.proposer c.index_mut-desk.result.now c.from-place.ensures (omega (arith, c.self.invariant.safe.sound.desks, entrant_known c.args.self.now c.args.proposer (subst (λ (v : View g.row.S.Denot g.row.V.Denot). IsSafe v) c.self.view_is c.self.invariant.safe) c.requires, ap (λ (v : View g.row.S.Denot g.row.V.Denot). v.last_proposer) c.self.view_is)) c.index_mut-desk.ensures.value

at_caller : (g : Over) (c : After-mark_move g) → IsAt c.self.inside.callers.items c.args.proposer c.index_mut-caller.result.now
at_caller g c = at_place c.self.inside.callers.items c.from-place.result c.args.proposer c.index_mut-caller.result.now c.from-place.ensures (omega (arith, c.self.invariant.safe.sound.callers, entrant_known c.args.self.now c.args.proposer (subst (λ (v : View g.row.S.Denot g.row.V.Denot). IsSafe v) c.self.view_is c.self.invariant.safe) c.requires, ap (λ (v : View g.row.S.Denot g.row.V.Denot). v.last_proposer) c.self.view_is, length-map c.self.inside.callers.items caller_view)) c.index_mut-caller.ensures.value

is_plan : (g : Over) (c : After-mark_move g) → (council_view c.self.inside.council).plan ≡ Some c.requires.plan
is_plan g c = ap (λ (v : View g.row.S.Denot g.row.V.Denot). v.council.plan) c.self.view_is ∙ c.requires.is_plan

same_marks : (g : Over) (c : After-mark_move g) → c.reserve.new.self.marks ≡ c.self.inside.record.marks
same_marks g c = c.reserve.ensures.same

is_up : (g : Over) (c : After-mark_move g) → c.index_mut-desk.result.now.down ≡ false
is_up g c = ap (λ (d : DeskView g.row.V.Denot). d.down) (at_one c.self.inside.desks.items c.args.proposer (at_desk g c) (at_place c.self.inside.desks.items c.from-place.result c.args.proposer c.index.result.now c.from-place.ensures (omega (arith, c.self.invariant.safe.sound.desks, entrant_known c.args.self.now c.args.proposer (subst (λ (v : View g.row.S.Denot g.row.V.Denot). IsSafe v) c.self.view_is c.self.invariant.safe) c.requires, ap (λ (v : View g.row.S.Denot g.row.V.Denot). v.last_proposer) c.self.view_is)) c.index.ensures)) ∙ sym c.is_down.ensures ∙ c.if-is_down.false

fits : (g : Over) (c : After-mark_move g) → length c.self.inside.record.marks + reserved_in_all (view_of c.self.inside.setup.proposers c.self.inside.council c.self.inside.acceptors.items c.self.inside.desks.items c.self.inside.callers.items c.self.inside.flow c.self.inside.record) < most_marks
fits g c = omega (arith, c.if-marks-reserved-ge-MOST_MARKS.false, reserved_fits c.self.inside.setup.proposers c.self.inside.council c.self.inside.acceptors.items c.self.inside.desks.items c.self.inside.callers.items c.self.inside.flow c.self.inside.record c.self.invariant.safe, c.reserved_in_all-reserved.ensures, ap (λ (l : List Mark). length l) c.marks.ensures, ap (sum_by reserved_of) c.deref.ensures.value, sum_seen c.self.inside.callers.items)

next_is : (g : Over) (c : After-mark_move g) → c.in-Some.next ≡ c.requires.next
next_is g c = some_is (sym c.in-Some.is ∙ c.next_era.ensures ∙ ap (λ (v : View g.row.S.Denot g.row.V.Denot). next_era v.council.plan) c.self.view_is ∙ c.requires.is_next)

step_at : (g : Over) (c : After-mark_move g) → StepEnterEra (meaning g.S.Shelf g.V.Disk) c.args.self.now c.args.proposer (view_of c.self.inside.setup.proposers c.mark_move.new.council c.self.inside.acceptors.items (slice_set c.self.inside.desks.items c.args.proposer c.move_on-moved.new.desk) (slice_set c.self.inside.callers.items c.args.proposer c.move_on-moved.new.caller) c.mark_move.new.flow c.mark_move.new.record)
step_at g c =
    enters_next (meaning g.S.Shelf g.V.Disk) c.args.self.now (view_of c.self.inside.setup.proposers c.mark_move.new.council c.self.inside.acceptors.items (slice_set c.self.inside.desks.items c.args.proposer c.move_on-moved.new.desk) (slice_set c.self.inside.callers.items c.args.proposer c.move_on-moved.new.caller) c.mark_move.new.flow c.mark_move.new.record) c.args.proposer c.index_mut-desk.result.now (caller_view c.index_mut-caller.result.now) c.requires
    (subst (λ (v : View g.row.S.Denot g.row.V.Denot). IsAt v.desks c.args.proposer c.index_mut-desk.result.now) c.self.view_is (at_desk g c)) (subst (λ (v : View g.row.S.Denot g.row.V.Denot). IsAt v.callers c.args.proposer (caller_view c.index_mut-caller.result.now)) c.self.view_is (at_map caller_view c.self.inside.callers.items c.args.proposer c.index_mut-caller.result.now (at_caller g c)))
    (subst (λ (v : View g.row.S.Denot g.row.V.Denot). EntersNext (meaning g.S.Shelf g.V.Disk) v c.requires.plan c.requires.next c.index_mut-desk.result.now (view_of c.self.inside.setup.proposers c.mark_move.new.council c.self.inside.acceptors.items (slice_set c.self.inside.desks.items c.args.proposer c.move_on-moved.new.desk) (slice_set c.self.inside.callers.items c.args.proposer c.move_on-moved.new.caller) c.mark_move.new.flow c.mark_move.new.record)) c.self.view_is
    (subst (λ (e : Era). EntersNext (meaning g.S.Shelf g.V.Disk) (view_of c.self.inside.setup.proposers c.self.inside.council c.self.inside.acceptors.items c.self.inside.desks.items c.self.inside.callers.items c.self.inside.flow c.self.inside.record) c.requires.plan e c.index_mut-desk.result.now (view_of c.self.inside.setup.proposers c.mark_move.new.council c.self.inside.acceptors.items (slice_set c.self.inside.desks.items c.args.proposer c.move_on-moved.new.desk) (slice_set c.self.inside.callers.items c.args.proposer c.move_on-moved.new.caller) c.mark_move.new.flow c.mark_move.new.record)) (next_is g c)
    (entered_so (meaning g.S.Shelf g.V.Disk) c.self.inside.setup.proposers c.self.inside.council c.mark_move.new.council c.self.inside.acceptors.items c.self.inside.desks.items c.self.inside.callers.items c.self.inside.flow c.move_on-moved.new.flow c.mark_move.new.flow c.self.inside.record c.reserve.new.self c.mark_move.new.record c.args.proposer c.index_mut-desk.result.now c.move_on-moved.new.desk c.index_mut-caller.result.now c.move_on-moved.new.caller c.requires.plan c.in-Some.next (at_desk g c) (at_caller g c) c.requires.is_due (is_plan g c) (same_marks g c) (is_up g c) (fits g c) c.move_on-moved.result c.mark_move.result c.move_on-moved.ensures.ok c.move_on-moved.ensures.fault c.move_on-moved.ensures.no_memory c.mark_move.ensures.moves)))

-- each mark that may be made has memory
has_room : (g : Over) (c : After-mark_move g) → reserved_in_all (view_of c.self.inside.setup.proposers c.self.inside.council c.self.inside.acceptors.items c.self.inside.desks.items c.self.inside.callers.items c.self.inside.flow c.self.inside.record) < c.reserve.new.self.room
has_room g c =
    let ok : c.reserved_in_all-reserved.result + 1 ≤ c.reserve.new.self.room = ok_there c.reserve.result (c.reserved_in_all-reserved.result + 1 ≤ c.reserve.new.self.room) (sym c.is_err.ensures.value ∙ c.if-is_err.false) c.reserve.ensures.ok in omega (arith, ok, reserved_fits c.self.inside.setup.proposers c.self.inside.council c.self.inside.acceptors.items c.self.inside.desks.items c.self.inside.callers.items c.self.inside.flow c.self.inside.record c.self.invariant.safe, c.reserved_in_all-reserved.ensures, ap (λ (l : List Mark). length l) c.marks.ensures, ap (sum_by reserved_of) c.deref.ensures.value, sum_seen c.self.inside.callers.items)

some_reserved : (g : Over) (c : After-mark_move g) (call : OpenCall) → c.index_mut-caller.result.now.call ≡ Some call → 0 < call.reserved
some_reserved g c call is =
    call_reserves_at (view_of c.self.inside.setup.proposers c.self.inside.council c.self.inside.acceptors.items c.self.inside.desks.items c.self.inside.callers.items c.self.inside.flow c.self.inside.record) c.args.proposer (caller_view c.index_mut-caller.result.now) (call_view call) c.index_mut-desk.result.now c.self.invariant.safe.sound
    (at_map caller_view c.self.inside.callers.items c.args.proposer c.index_mut-caller.result.now (at_caller g c)) (ap (λ (o : Option OpenCall). option_map call_view o) is) (at_desk g c)

pub invariant_of-self-2 : goal.invariant_of-self-2
invariant_of-self-2 g c =
    subst (λ (i : ℕ). IsWorld (meaning g.S.Shelf g.V.Disk) (view_of c.self.inside.setup.proposers c.mark_move.new.council c.self.inside.acceptors.items (slice_set c.self.inside.desks.items i c.move_on-moved.new.desk) (slice_set c.self.inside.callers.items i c.move_on-moved.new.caller) c.mark_move.new.flow c.mark_move.new.record) (slice_set c.self.inside.callers.items i c.move_on-moved.new.caller) c.mark_move.new.record.room) (sym c.from-place.ensures) (record {
      safe = steps_are_safe (meaning g.S.Shelf g.V.Disk) c.args.self.now (step.EnterEra c.args.proposer) (view_of c.self.inside.setup.proposers c.mark_move.new.council c.self.inside.acceptors.items (slice_set c.self.inside.desks.items c.args.proposer c.move_on-moved.new.desk) (slice_set c.self.inside.callers.items c.args.proposer c.move_on-moved.new.caller) c.mark_move.new.flow c.mark_move.new.record) (subst (λ (v : View g.row.S.Denot g.row.V.Denot). IsSafe v) c.self.view_is c.self.invariant.safe) (step_at g c);
      room = entered_room (meaning g.S.Shelf g.V.Disk) c.self.inside.setup.proposers c.self.inside.council c.mark_move.new.council c.self.inside.acceptors.items c.self.inside.desks.items c.self.inside.callers.items c.self.inside.flow c.move_on-moved.new.flow c.mark_move.new.flow c.self.inside.record c.reserve.new.self c.mark_move.new.record c.args.proposer c.index_mut-desk.result.now c.move_on-moved.new.desk c.index_mut-caller.result.now c.move_on-moved.new.caller c.requires.plan c.in-Some.next (at_desk g c) (at_caller g c) c.requires.is_due (is_plan g c) (same_marks g c) (is_up g c) (fits g c) c.move_on-moved.result c.mark_move.result c.move_on-moved.ensures.ok c.move_on-moved.ensures.fault c.move_on-moved.ensures.no_memory c.mark_move.ensures.moves (some_reserved g c) (has_room g c);
      copies = entered_copies (meaning g.S.Shelf g.V.Disk) c.self.inside.setup.proposers c.self.inside.council c.mark_move.new.council c.self.inside.acceptors.items c.self.inside.desks.items c.self.inside.callers.items c.self.inside.flow c.move_on-moved.new.flow c.mark_move.new.flow c.self.inside.record c.reserve.new.self c.mark_move.new.record c.args.proposer c.index_mut-desk.result.now c.move_on-moved.new.desk c.index_mut-caller.result.now c.move_on-moved.new.caller c.requires.plan c.in-Some.next (at_desk g c) (at_caller g c) c.requires.is_due (is_plan g c) (same_marks g c) (is_up g c) (fits g c) c.move_on-moved.result c.mark_move.result c.move_on-moved.ensures.ok c.move_on-moved.ensures.fault c.move_on-moved.ensures.no_memory c.mark_move.ensures.moves c.self.invariant.copies;
      remembered = remembered_then (meaning g.S.Shelf g.V.Disk) (step.EnterEra c.args.proposer) (step_at g c) (subst (λ (v : View g.row.S.Denot g.row.V.Denot). Remembers (meaning g.S.Shelf g.V.Disk) v) c.self.view_is c.self.invariant.remembered);
    })

pub returns-clause-step : goal.returns-clause-step
returns-clause-step g c = subst (λ (i : ℕ). StepEnterEra (meaning g.S.Shelf g.V.Disk) c.args.self.now c.args.proposer (view_of c.self.inside.setup.proposers c.mark_move.new.council c.self.inside.acceptors.items (slice_set c.self.inside.desks.items i c.move_on-moved.new.desk) (slice_set c.self.inside.callers.items i c.move_on-moved.new.caller) c.mark_move.new.flow c.mark_move.new.record)) (sym c.from-place.ensures) (step_at g c)

pub returns-clause-ok : goal.returns-clause-ok
returns-clause-ok g c =
    subst (λ (i : ℕ). OnOk c.mark_move.result ((order : OrderView) → c.args.self.now.council.order ≡ Some order → IsUnderWay (view_of c.self.inside.setup.proposers c.mark_move.new.council c.self.inside.acceptors.items (slice_set c.self.inside.desks.items i c.move_on-moved.new.desk) (slice_set c.self.inside.callers.items i c.move_on-moved.new.caller) c.mark_move.new.flow c.mark_move.new.record) order.asked)) (sym c.from-place.ensures)
    (by_order c.mark_move.result c.requires.order (λ (order : OrderView). IsUnderWay (view_of c.self.inside.setup.proposers c.mark_move.new.council c.self.inside.acceptors.items (slice_set c.self.inside.desks.items c.args.proposer c.move_on-moved.new.desk) (slice_set c.self.inside.callers.items c.args.proposer c.move_on-moved.new.caller) c.mark_move.new.flow c.mark_move.new.record) order.asked) c.requires.is_order
    (entered_ok (meaning g.S.Shelf g.V.Disk) c.self.inside.setup.proposers c.self.inside.council c.mark_move.new.council c.self.inside.acceptors.items c.self.inside.desks.items c.self.inside.callers.items c.self.inside.flow c.move_on-moved.new.flow c.mark_move.new.flow c.self.inside.record c.reserve.new.self c.mark_move.new.record c.args.proposer c.index_mut-desk.result.now c.move_on-moved.new.desk c.index_mut-caller.result.now c.move_on-moved.new.caller c.requires.plan c.in-Some.next (at_desk g c) (at_caller g c) c.requires.is_due (is_plan g c) (same_marks g c) (is_up g c) (fits g c) c.move_on-moved.result c.mark_move.result c.requires.order c.mark_move.ensures.moves (ap (λ (v : View g.row.S.Denot g.row.V.Denot). v.council.order) c.self.view_is ∙ c.requires.is_order) c.requires.is_for))

pub returns-clause-err : goal.returns-clause-err
returns-clause-err g c =
    subst (λ (i : ℕ). IfErr c.mark_move.result (WasToldOrder (view_of c.self.inside.setup.proposers c.mark_move.new.council c.self.inside.acceptors.items (slice_set c.self.inside.desks.items i c.move_on-moved.new.desk) (slice_set c.self.inside.callers.items i c.move_on-moved.new.caller) c.mark_move.new.flow c.mark_move.new.record))) (sym c.from-place.ensures)
    (entered_err (meaning g.S.Shelf g.V.Disk) c.self.inside.setup.proposers c.self.inside.council c.mark_move.new.council c.self.inside.acceptors.items c.self.inside.desks.items c.self.inside.callers.items c.self.inside.flow c.move_on-moved.new.flow c.mark_move.new.flow c.self.inside.record c.reserve.new.self c.mark_move.new.record c.args.proposer c.index_mut-desk.result.now c.move_on-moved.new.desk c.index_mut-caller.result.now c.move_on-moved.new.caller c.requires.plan c.in-Some.next (at_desk g c) (at_caller g c) c.requires.is_due (is_plan g c) (same_marks g c) (is_up g c) (fits g c) c.move_on-moved.result c.mark_move.result c.requires.order c.mark_move.ensures.moves (ap (λ (v : View g.row.S.Denot g.row.V.Denot). v.council.order) c.self.view_is ∙ c.requires.is_order))

pub returns-then-marks-reserved-ge-MOST_MARKS-clause-lawful : goal.returns-then-marks-reserved-ge-MOST_MARKS-clause-lawful
returns-then-marks-reserved-ge-MOST_MARKS-clause-lawful g c shelves vaults =
    lawful_then (meaning g.S.Shelf g.V.Disk) (step.EnterEra c.args.proposer) (returns-then-marks-reserved-ge-MOST_MARKS-clause-step g c)
    (subst (λ (v : View g.row.S.Denot g.row.V.Denot). IsSafe v) c.self.view_is c.self.invariant.safe)
    (subst (λ (v : View g.row.S.Denot g.row.V.Denot). IsRemembered (meaning g.S.Shelf g.V.Disk) v) c.self.view_is (c.self.invariant.remembered shelves vaults)) shelves vaults

pub returns-then-is_down-clause-lawful : goal.returns-then-is_down-clause-lawful
returns-then-is_down-clause-lawful g c shelves vaults =
    lawful_then (meaning g.S.Shelf g.V.Disk) (step.EnterEra c.args.proposer) (returns-then-is_down-clause-step g c)
    (subst (λ (v : View g.row.S.Denot g.row.V.Denot). IsSafe v) c.self.view_is c.self.invariant.safe)
    (subst (λ (v : View g.row.S.Denot g.row.V.Denot). IsRemembered (meaning g.S.Shelf g.V.Disk) v) c.self.view_is (c.self.invariant.remembered shelves vaults)) shelves vaults

pub returns-then-is_err-clause-lawful : goal.returns-then-is_err-clause-lawful
returns-then-is_err-clause-lawful g c shelves vaults =
    lawful_then (meaning g.S.Shelf g.V.Disk) (step.EnterEra c.args.proposer) (returns-then-is_err-clause-step g c)
    (subst (λ (v : View g.row.S.Denot g.row.V.Denot). IsSafe v) c.self.view_is c.self.invariant.safe)
    (subst (λ (v : View g.row.S.Denot g.row.V.Denot). IsRemembered (meaning g.S.Shelf g.V.Disk) v) c.self.view_is (c.self.invariant.remembered shelves vaults)) shelves vaults

pub returns-clause-lawful : goal.returns-clause-lawful
returns-clause-lawful g c shelves vaults =
    lawful_then (meaning g.S.Shelf g.V.Disk) (step.EnterEra c.args.proposer) (returns-clause-step g c)
    (subst (λ (v : View g.row.S.Denot g.row.V.Denot). IsSafe v) c.self.view_is c.self.invariant.safe)
    (subst (λ (v : View g.row.S.Denot g.row.V.Denot). IsRemembered (meaning g.S.Shelf g.V.Disk) v) c.self.view_is (c.self.invariant.remembered shelves vaults)) shelves vaults
