use Rattle.std.proofs.Common.{◌≡◌, ◌∙◌, ℕ, false, List, Option, Some, refl, sym, ap, subst, arith}
use Rattle.std.specs.Prelude.{IfErr, option_map}
use Rattle.cas_change.specs.declared.program.Clause.{Clause}
use Rattle.cas_proposer.specs.Desk.{DeskView}
use Rattle.cas_record.specs.declared.answer.Answer.TheVariants as answer
use Rattle.cas_record.specs.declared.operator.OpAnswer.{OpAnswer}
use Rattle.cas_record.specs.declared.operator.OpAnswer.TheVariants as op
use Rattle.cas_model.specs.Collection.State.{new_collection}
use Rattle.cas_model.specs.Council.{hushed, reserved_by}
use Rattle.cas_model.specs.Safe.{IsSafe}
use Rattle.cas_model.specs.Step as step
use Rattle.cas_model.specs.Step.{Step, StepBegin}
use Rattle.cas_model.specs.Collection.Step.{IsCollecting, keep_always}
use Rattle.cas_model.specs.Exchanges.Step.{told_view, with_council}
use Rattle.cas_model.specs.View.{View, CallerView, IsAt, era_at, meaning}
use Rattle.cas_model.proofs.Places.{at_one}
use Rattle.cas_model.proofs.Collection.SafeCollecting.{Frame, begin_frame, frame_of}
use Rattle.cas_model.proofs.Safety.Marks.{full_for_rounds}
use Rattle.cas_model.proofs.Safety.Parts.{at_low}
use Rattle.cas_model.proofs.Safety.Steps.{steps_are_safe}
use Rattle.cas_world_calls.specs.Council.{council_view}
use Rattle.cas_world_calls.specs.declared.call.OpenCall.{OpenCall}
use Rattle.cas_model_causes.specs.Calls.Told.{BeginsBy}
use Rattle.cas_world.specs.Calls.Beginning.{BeginsOrNot, HasNoCall}
use Rattle.cas_world.specs.Collection.Collect.{RefusesCollection}
use Rattle.cas_world.specs.World.{view_of, call_view, caller_view}
use Rattle.cas_world.proofs.Calls.Callers.{at_map}
use Rattle.cas_world.proofs.Collection.Collects.{Admits, admits_it, begins_collection, begun_again, begun_leaves, collected_err, collected_ok, collects_again, finds_no_memory, is_again, is_begun, loses_memory, lost_call, refusal_plain, refuses_collection, begun_call, begun_full, begun_reserves, call_none, hushed_stays, is_some_not, not_lost, refusal_full, refused_call, refused_order}
use Rattle.cas_world.proofs.Exchanges.Exchanges.{council_next, council_world, some_there}
use Rattle.cas_world.proofs.Parts.{Remembers, at_place, remembered_then}
use Rattle.cas_world.proofs.Eras.Planning.{none_there}
use Rattle.std.proofs.lemmas.List.{length-map}
use Rattle.cas_world.proofs.world.World.begin_collect.Given.{Over}
use Rattle.cas_world.proofs.world.World.begin_collect.Goals as goal
use Rattle.cas_world.proofs.world.World.begin_collect.Goals.{After-or_stopped, After-or_stopped-2}

-- ---- its call is open
-- the caller and its call
again_at : (g : Over) (c : After-or_stopped g) → IsAt c.args.self.now.callers 0 (caller_view c.index.result.now)
again_at g c = subst (λ (v : (View g.row.S.Denot g.row.V.Denot)). IsAt v.callers 0 (caller_view c.index.result.now)) c.self.view_is (at_map caller_view c.self.inside.callers.items 0 c.index.result.now (at_place c.self.inside.callers.items 0 0 c.index.result.now refl (omega (arith, c.self.invariant.safe.sound.callers, length-map c.self.inside.callers.items caller_view)) c.index.ensures))

again_call : (g : Over) (c : After-or_stopped g) → (call : OpenCall) × (c.index.result.now.call ≡ Some call)
again_call g c = some_there c.index.result.now.call (sym c.is_some.ensures ∙ c.if-is_some.true)

is_open : (g : Over) (c : After-or_stopped g) → HasNoCall c.args.self.now 0 → ⊥
is_open g c none = cc (ap (λ (x : CallerView). x.call) (at_one c.args.self.now.callers 0 none.at_caller (again_at g c)), none.none_open, ap (option_map call_view) (again_call g c).1)

again_safe : (g : Over) (c : After-or_stopped g) → IsSafe c.args.self.now
again_safe g c = subst (λ (v : (View g.row.S.Denot g.row.V.Denot)). IsSafe v) c.self.view_is c.self.invariant.safe

again_begins : (g : Over) (c : After-or_stopped g) → BeginsOrNot (meaning g.S.Shelf g.V.Disk) c.args.self.now 0 c.args.call c.args.key.now keep_always c.begin-begun.result (view_of c.self-then-is_some.inside.setup.proposers c.self-then-is_some.inside.council c.self-then-is_some.inside.acceptors.items c.self-then-is_some.inside.desks.items c.self-then-is_some.inside.callers.items c.self-then-is_some.inside.flow c.self-then-is_some.inside.record)
again_begins g c = subst (λ (v : (View g.row.S.Denot g.row.V.Denot)). BeginsOrNot (meaning g.S.Shelf g.V.Disk) c.args.self.now 0 c.args.call c.args.key.now keep_always c.begin-begun.result v) (sym c.self-then-is_some.view_is)
    (subst (λ (p : List Clause). BeginsOrNot (meaning g.S.Shelf g.V.Disk) c.args.self.now 0 c.args.call c.args.key.now p c.begin-begun.result c.begin-begun.new.self) c.requires.keeps c.begin-begun.ensures.step)

again_begun : (g : Over) (c : After-or_stopped g) → StepBegin (meaning g.S.Shelf g.V.Disk) c.args.self.now 0 c.args.key.now keep_always (view_of c.self-then-is_some.inside.setup.proposers c.self-then-is_some.inside.council c.self-then-is_some.inside.acceptors.items c.self-then-is_some.inside.desks.items c.self-then-is_some.inside.callers.items c.self-then-is_some.inside.flow c.self-then-is_some.inside.record)
again_begun g c = begun_again (meaning g.S.Shelf g.V.Disk) c.args.self.now (view_of c.self-then-is_some.inside.setup.proposers c.self-then-is_some.inside.council c.self-then-is_some.inside.acceptors.items c.self-then-is_some.inside.desks.items c.self-then-is_some.inside.callers.items c.self-then-is_some.inside.flow c.self-then-is_some.inside.record) c.args.call c.args.key.now c.begin-begun.result (again_begins g c) (is_open g c)

again_did : (g : Over) (c : After-or_stopped g) → Step (meaning g.S.Shelf g.V.Disk) c.args.self.now (step.BeginCollect c.args.key.now) (view_of c.self-then-is_some.inside.setup.proposers c.hush.new.self c.self-then-is_some.inside.acceptors.items c.self-then-is_some.inside.desks.items c.self-then-is_some.inside.callers.items c.self-then-is_some.inside.flow c.self-then-is_some.inside.record)
again_did g c =
    let desk = at_low c.args.self.now.desks 0 (omega (arith, (again_safe g c).sound.desks)) in
    collects_again (meaning g.S.Shelf g.V.Disk) c.args.self.now c.args.key.now desk.0 (caller_view c.index.result.now) c.requires.asked desk.1 (again_at g c) (view_of c.self-then-is_some.inside.setup.proposers c.self-then-is_some.inside.council c.self-then-is_some.inside.acceptors.items c.self-then-is_some.inside.desks.items c.self-then-is_some.inside.callers.items c.self-then-is_some.inside.flow c.self-then-is_some.inside.record) (view_of c.self-then-is_some.inside.setup.proposers c.hush.new.self c.self-then-is_some.inside.acceptors.items c.self-then-is_some.inside.desks.items c.self-then-is_some.inside.callers.items c.self-then-is_some.inside.flow c.self-then-is_some.inside.record) (call_view (again_call g c).0) (ap (option_map call_view) (again_call g c).1) (again_begun g c)
    (council_next c.self-then-is_some.inside.setup.proposers c.self-then-is_some.inside.council c.hush.new.self c.self-then-is_some.inside.acceptors.items c.self-then-is_some.inside.desks.items c.self-then-is_some.inside.callers.items c.self-then-is_some.inside.flow c.self-then-is_some.inside.record (council_view c.hush.new.self) c.hush.ensures.eras refl ∙ ap (with_council (view_of c.self-then-is_some.inside.setup.proposers c.self-then-is_some.inside.council c.self-then-is_some.inside.acceptors.items c.self-then-is_some.inside.desks.items c.self-then-is_some.inside.callers.items c.self-then-is_some.inside.flow c.self-then-is_some.inside.record)) c.hush.ensures.hushed)

again_is : (g : Over) (c : After-or_stopped g) → IsCollecting (council_view c.hush.new.self) c.args.key.now
again_is g c = is_again (council_view c.self-then-is_some.inside.council) (council_view c.hush.new.self) c.args.key.now
    (subst (λ k. IsCollecting k c.args.key.now) (sym (ap (λ (f : Frame). f.council) (begin_frame (meaning g.S.Shelf g.V.Disk) c.args.self.now (view_of c.self-then-is_some.inside.setup.proposers c.self-then-is_some.inside.council c.self-then-is_some.inside.acceptors.items c.self-then-is_some.inside.desks.items c.self-then-is_some.inside.callers.items c.self-then-is_some.inside.flow c.self-then-is_some.inside.record) 0 c.args.key.now keep_always (again_begun g c)))) (c.requires.asked.goes_on (caller_view c.index.result.now) (call_view (again_call g c).0) (again_at g c) (ap (option_map call_view) (again_call g c).1)))
    c.hush.ensures.hushed

pub invariant_of-self : goal.invariant_of-self
invariant_of-self g c =
    council_world (view_of c.self-then-is_some.inside.setup.proposers c.self-then-is_some.inside.council c.self-then-is_some.inside.acceptors.items c.self-then-is_some.inside.desks.items c.self-then-is_some.inside.callers.items c.self-then-is_some.inside.flow c.self-then-is_some.inside.record) (view_of c.self-then-is_some.inside.setup.proposers c.hush.new.self c.self-then-is_some.inside.acceptors.items c.self-then-is_some.inside.desks.items c.self-then-is_some.inside.callers.items c.self-then-is_some.inside.flow c.self-then-is_some.inside.record) c.self-then-is_some.inside.callers.items c.self-then-is_some.inside.record.room c.self-then-is_some.inside.record.room c.self-then-is_some.invariant refl
    (steps_are_safe (meaning g.S.Shelf g.V.Disk) c.args.self.now (step.BeginCollect c.args.key.now) (view_of c.self-then-is_some.inside.setup.proposers c.hush.new.self c.self-then-is_some.inside.acceptors.items c.self-then-is_some.inside.desks.items c.self-then-is_some.inside.callers.items c.self-then-is_some.inside.flow c.self-then-is_some.inside.record) (again_safe g c) (again_did g c))
    (remembered_then (meaning g.S.Shelf g.V.Disk) (step.BeginCollect c.args.key.now) (again_did g c) (subst (λ (v : (View g.row.S.Denot g.row.V.Denot)). Remembers (meaning g.S.Shelf g.V.Disk) v) c.self.view_is c.self.invariant.remembered))
    (omega (arith, c.self-then-is_some.invariant.room, ap reserved_by c.hush.ensures.hushed, hushed_stays (council_view c.self-then-is_some.inside.council)))

pub returns-then-is_some-clause-step : goal.returns-then-is_some-clause-step
returns-then-is_some-clause-step g c = again_did g c

pub returns-then-is_some-clause-ok : goal.returns-then-is_some-clause-ok
returns-then-is_some-clause-ok g c = collected_ok (meaning g.S.Shelf g.V.Disk) c.args.self.now (view_of c.self-then-is_some.inside.setup.proposers c.self-then-is_some.inside.council c.self-then-is_some.inside.acceptors.items c.self-then-is_some.inside.desks.items c.self-then-is_some.inside.callers.items c.self-then-is_some.inside.flow c.self-then-is_some.inside.record) (view_of c.self-then-is_some.inside.setup.proposers c.hush.new.self c.self-then-is_some.inside.acceptors.items c.self-then-is_some.inside.desks.items c.self-then-is_some.inside.callers.items c.self-then-is_some.inside.flow c.self-then-is_some.inside.record) c.args.call c.args.key.now refl refl (again_is g c) c.begin-begun.result c.or_stopped.result (again_begins g c) c.or_stopped.ensures.err

pub returns-then-is_some-clause-err : goal.returns-then-is_some-clause-err
returns-then-is_some-clause-err g c = collected_err (meaning g.S.Shelf g.V.Disk) c.args.self.now (view_of c.self-then-is_some.inside.setup.proposers c.self-then-is_some.inside.council c.self-then-is_some.inside.acceptors.items c.self-then-is_some.inside.desks.items c.self-then-is_some.inside.callers.items c.self-then-is_some.inside.flow c.self-then-is_some.inside.record) (view_of c.self-then-is_some.inside.setup.proposers c.hush.new.self c.self-then-is_some.inside.acceptors.items c.self-then-is_some.inside.desks.items c.self-then-is_some.inside.callers.items c.self-then-is_some.inside.flow c.self-then-is_some.inside.record) c.args.call c.args.key.now refl refl (again_is g c) c.begin-begun.result c.or_stopped.result (again_begins g c) (subst (λ (v : (View g.row.S.Denot g.row.V.Denot)). IfErr c.begin-begun.result (λ told. BeginsBy (meaning g.S.Shelf g.V.Disk) c.args.self.now 0 c.args.key.now told v)) (sym c.self-then-is_some.view_is) c.begin-begun.ensures.cause) c.or_stopped.ensures.ok c.or_stopped.ensures.err (λ said is none. absurd (is_open g c none))

-- ---- it is refused
pub refuse-requires : goal.refuse-requires
refuse-requires g c =
    let desk = at_low c.args.self.now.desks 0 (omega (arith, (subst (λ (v : (View g.row.S.Denot g.row.V.Denot)). IsSafe v) c.self.view_is c.self.invariant.safe).sound.desks)) in
    (refusal_plain c.args.self.now desk.0 c.in-Some.refusal (subst (λ (r : Option OpAnswer). RefusesCollection c.args.self.now desk.0 r) c.in-Some.is (c.refusal_to_collect.ensures desk.0 desk.1))).0

pub returns-in-Some-clause-step : goal.returns-in-Some-clause-step
returns-in-Some-clause-step g c =
    let desk = at_low c.args.self.now.desks 0 (omega (arith, (subst (λ (v : (View g.row.S.Denot g.row.V.Denot)). IsSafe v) c.self.view_is c.self.invariant.safe).sound.desks)) in
    refuses_collection (meaning g.S.Shelf g.V.Disk) c.args.self.now c.args.key.now desk.0 (caller_view c.index.result.now) c.requires.asked desk.1 (subst (λ (v : (View g.row.S.Denot g.row.V.Denot)). IsAt v.callers 0 (caller_view c.index.result.now)) c.self.view_is (at_map caller_view c.self.inside.callers.items 0 c.index.result.now (at_place c.self.inside.callers.items 0 0 c.index.result.now refl (omega (arith, c.self.invariant.safe.sound.callers, length-map c.self.inside.callers.items caller_view)) c.index.ensures))) c.refuse.new.self c.in-Some.refusal (ap (option_map call_view) (none_there c.index.result.now.call (sym c.is_some.ensures ∙ c.if-is_some.false)))
    (subst (λ (r : Option OpAnswer). RefusesCollection c.args.self.now desk.0 r) c.in-Some.is (c.refusal_to_collect.ensures desk.0 desk.1)) c.refuse.ensures.told

pub returns-in-Some-clause-err : goal.returns-in-Some-clause-err
returns-in-Some-clause-err g c =
    let desk = at_low c.args.self.now.desks 0 (omega (arith, (subst (λ (v : (View g.row.S.Denot g.row.V.Denot)). IsSafe v) c.self.view_is c.self.invariant.safe).sound.desks)) in
    let refuses = subst (λ (r : Option OpAnswer). RefusesCollection c.args.self.now desk.0 r) c.in-Some.is (c.refusal_to_collect.ensures desk.0 desk.1) in
    lost_call c.args.self.now c.args.self.now c.refuse.new.self c.args.call c.args.key.now c.in-Some.refusal c.refuse.result (record { caller = caller_view c.index.result.now; at_caller = subst (λ (v : (View g.row.S.Denot g.row.V.Denot)). IsAt v.callers 0 (caller_view c.index.result.now)) c.self.view_is (at_map caller_view c.self.inside.callers.items 0 c.index.result.now (at_place c.self.inside.callers.items 0 0 c.index.result.now refl (omega (arith, c.self.invariant.safe.sound.callers, length-map c.self.inside.callers.items caller_view)) c.index.ensures)); none_open = ap (option_map call_view) (none_there c.index.result.now.call (sym c.is_some.ensures ∙ c.if-is_some.false)) }) (record { caller = caller_view c.index.result.now; at_caller = subst (λ (v : (View g.row.S.Denot g.row.V.Denot)). IsAt v.callers 0 (caller_view c.index.result.now)) c.self.view_is (at_map caller_view c.self.inside.callers.items 0 c.index.result.now (at_place c.self.inside.callers.items 0 0 c.index.result.now refl (omega (arith, c.self.invariant.safe.sound.callers, length-map c.self.inside.callers.items caller_view)) c.index.ensures)); none_open = ap (option_map call_view) (none_there c.index.result.now.call (sym c.is_some.ensures ∙ c.if-is_some.false)) }) c.requires.asked.order c.requires.asked.is_open (refusal_plain c.args.self.now desk.0 c.in-Some.refusal refuses).1 c.refuse.ensures.told c.refuse.ensures.answer

pub returns-in_default-2-clause-step : goal.returns-in_default-2-clause-step
returns-in_default-2-clause-step g c =
    let desk = at_low c.args.self.now.desks 0 (omega (arith, (subst (λ (v : (View g.row.S.Denot g.row.V.Denot)). IsSafe v) c.self.view_is c.self.invariant.safe).sound.desks)) in
    let admits = admits_it c.args.self.now desk.0 c.refusal_to_collect.result c.in_default.is (c.refusal_to_collect.ensures desk.0 desk.1) in
    finds_no_memory (meaning g.S.Shelf g.V.Disk) c.args.self.now c.args.key.now desk.0 (caller_view c.index.result.now) c.requires.asked desk.1 (subst (λ (v : (View g.row.S.Denot g.row.V.Denot)). IsAt v.callers 0 (caller_view c.index.result.now)) c.self.view_is (at_map caller_view c.self.inside.callers.items 0 c.index.result.now (at_place c.self.inside.callers.items 0 0 c.index.result.now refl (omega (arith, c.self.invariant.safe.sound.callers, length-map c.self.inside.callers.items caller_view)) c.index.ensures))) c.refuse-in_default-2.new.self (ap (option_map call_view) (none_there c.index.result.now.call (sym c.is_some.ensures ∙ c.if-is_some.false))) admits.up admits.unplanned
    (c.refuse-in_default-2.ensures.told ∙ ap (told_view c.args.self.now) c.no_memory.ensures)

pub returns-in_default-2-clause-err : goal.returns-in_default-2-clause-err
returns-in_default-2-clause-err g c =
    lost_call c.args.self.now c.args.self.now c.refuse-in_default-2.new.self c.args.call c.args.key.now (op.Stopped (answer.NoMemory false)) c.refuse-in_default-2.result (record { caller = caller_view c.index.result.now; at_caller = subst (λ (v : (View g.row.S.Denot g.row.V.Denot)). IsAt v.callers 0 (caller_view c.index.result.now)) c.self.view_is (at_map caller_view c.self.inside.callers.items 0 c.index.result.now (at_place c.self.inside.callers.items 0 0 c.index.result.now refl (omega (arith, c.self.invariant.safe.sound.callers, length-map c.self.inside.callers.items caller_view)) c.index.ensures)); none_open = ap (option_map call_view) (none_there c.index.result.now.call (sym c.is_some.ensures ∙ c.if-is_some.false)) }) (record { caller = caller_view c.index.result.now; at_caller = subst (λ (v : (View g.row.S.Denot g.row.V.Denot)). IsAt v.callers 0 (caller_view c.index.result.now)) c.self.view_is (at_map caller_view c.self.inside.callers.items 0 c.index.result.now (at_place c.self.inside.callers.items 0 0 c.index.result.now refl (omega (arith, c.self.invariant.safe.sound.callers, length-map c.self.inside.callers.items caller_view)) c.index.ensures)); none_open = ap (option_map call_view) (none_there c.index.result.now.call (sym c.is_some.ensures ∙ c.if-is_some.false)) }) c.requires.asked.order c.requires.asked.is_open refl
    (c.refuse-in_default-2.ensures.told ∙ ap (told_view c.args.self.now) c.no_memory.ensures) (c.refuse-in_default-2.ensures.answer ∙ c.no_memory.ensures)

-- ---- no memory was found for it
pub returns-then-is_none-clause-step : goal.returns-then-is_none-clause-step
returns-then-is_none-clause-step g c =
    let desk = at_low c.args.self.now.desks 0 (omega (arith, (subst (λ (v : (View g.row.S.Denot g.row.V.Denot)). IsSafe v) c.self.view_is c.self.invariant.safe).sound.desks)) in
    let admits = admits_it c.args.self.now desk.0 c.refusal_to_collect.result c.in_default.is (c.refusal_to_collect.ensures desk.0 desk.1) in
    loses_memory (meaning g.S.Shelf g.V.Disk) c.args.self.now c.args.key.now desk.0 (caller_view c.index.result.now) c.requires.asked desk.1 (subst (λ (v : (View g.row.S.Denot g.row.V.Denot)). IsAt v.callers 0 (caller_view c.index.result.now)) c.self.view_is (at_map caller_view c.self.inside.callers.items 0 c.index.result.now (at_place c.self.inside.callers.items 0 0 c.index.result.now refl (omega (arith, c.self.invariant.safe.sound.callers, length-map c.self.inside.callers.items caller_view)) c.index.ensures))) c.begin-begun-2.new.self c.refuse-then-is_none.new.self (ap (option_map call_view) (none_there c.index.result.now.call (sym c.is_some.ensures ∙ c.if-is_some.false))) admits.up admits.unplanned
    (refused_call (meaning g.S.Shelf g.V.Disk) c.args.self.now c.begin-begun-2.new.self c.args.call c.args.key.now c.begin-begun-2.result (subst (λ (p : List Clause). BeginsOrNot (meaning g.S.Shelf g.V.Disk) c.args.self.now 0 c.args.call c.args.key.now p c.begin-begun-2.result c.begin-begun-2.new.self) c.requires.keeps c.begin-begun-2.ensures.step) (record { caller = caller_view c.index-2.result.now; at_caller = subst (λ (v : (View g.row.S.Denot g.row.V.Denot)). IsAt v.callers 0 (caller_view c.index-2.result.now)) c.self-2.view_is (at_map caller_view c.self-2.inside.callers.items 0 c.index-2.result.now (at_place c.self-2.inside.callers.items 0 0 c.index-2.result.now refl (omega (arith, c.self-2.invariant.safe.sound.callers, length-map c.self-2.inside.callers.items caller_view)) c.index-2.ensures)); none_open = ap (option_map call_view) (none_there c.index-2.result.now.call (c.if-is_none.ensures)) }))
    (c.refuse-then-is_none.ensures.told ∙ ap (told_view c.begin-begun-2.new.self) c.no_memory-then-is_none.ensures)

pub returns-then-is_none-clause-err : goal.returns-then-is_none-clause-err
returns-then-is_none-clause-err g c =
    let none_now : HasNoCall c.begin-begun-2.new.self 0 = record { caller = caller_view c.index-2.result.now; at_caller = subst (λ (v : (View g.row.S.Denot g.row.V.Denot)). IsAt v.callers 0 (caller_view c.index-2.result.now)) c.self-2.view_is (at_map caller_view c.self-2.inside.callers.items 0 c.index-2.result.now (at_place c.self-2.inside.callers.items 0 0 c.index-2.result.now refl (omega (arith, c.self-2.invariant.safe.sound.callers, length-map c.self-2.inside.callers.items caller_view)) c.index-2.ensures)); none_open = ap (option_map call_view) (none_there c.index-2.result.now.call (c.if-is_none.ensures)) } in
    lost_call c.args.self.now c.begin-begun-2.new.self c.refuse-then-is_none.new.self c.args.call c.args.key.now (op.Stopped (answer.NoMemory false)) c.refuse-then-is_none.result (record { caller = caller_view c.index.result.now; at_caller = subst (λ (v : (View g.row.S.Denot g.row.V.Denot)). IsAt v.callers 0 (caller_view c.index.result.now)) c.self.view_is (at_map caller_view c.self.inside.callers.items 0 c.index.result.now (at_place c.self.inside.callers.items 0 0 c.index.result.now refl (omega (arith, c.self.invariant.safe.sound.callers, length-map c.self.inside.callers.items caller_view)) c.index.ensures)); none_open = ap (option_map call_view) (none_there c.index.result.now.call (sym c.is_some.ensures ∙ c.if-is_some.false)) }) none_now c.requires.asked.order
    (refused_order (meaning g.S.Shelf g.V.Disk) c.args.self.now c.begin-begun-2.new.self c.args.key.now c.requires.asked.order c.requires.asked.is_open ((admits_it c.args.self.now (at_low c.args.self.now.desks 0 (omega (arith, (subst (λ (v : (View g.row.S.Denot g.row.V.Denot)). IsSafe v) c.self.view_is c.self.invariant.safe).sound.desks))).0 c.refusal_to_collect.result c.in_default.is (c.refusal_to_collect.ensures _ (at_low c.args.self.now.desks 0 (omega (arith, (subst (λ (v : (View g.row.S.Denot g.row.V.Denot)). IsSafe v) c.self.view_is c.self.invariant.safe).sound.desks))).1)).unplanned) (refused_call (meaning g.S.Shelf g.V.Disk) c.args.self.now c.begin-begun-2.new.self c.args.call c.args.key.now c.begin-begun-2.result (subst (λ (p : List Clause). BeginsOrNot (meaning g.S.Shelf g.V.Disk) c.args.self.now 0 c.args.call c.args.key.now p c.begin-begun-2.result c.begin-begun-2.new.self) c.requires.keeps c.begin-begun-2.ensures.step) none_now)) refl
    (c.refuse-then-is_none.ensures.told ∙ ap (told_view c.begin-begun-2.new.self) c.no_memory-then-is_none.ensures) (c.refuse-then-is_none.ensures.answer ∙ c.no_memory-then-is_none.ensures)

-- ---- it begins
none_old : (g : Over) (c : After-or_stopped-2 g) → HasNoCall c.args.self.now 0
none_old g c = record { caller = caller_view c.index.result.now; at_caller = subst (λ (v : (View g.row.S.Denot g.row.V.Denot)). IsAt v.callers 0 (caller_view c.index.result.now)) c.self.view_is (at_map caller_view c.self.inside.callers.items 0 c.index.result.now (at_place c.self.inside.callers.items 0 0 c.index.result.now refl (omega (arith, c.self.invariant.safe.sound.callers, length-map c.self.inside.callers.items caller_view)) c.index.ensures)); none_open = ap (option_map call_view) (none_there c.index.result.now.call (sym c.is_some.ensures ∙ c.if-is_some.false)) }

some_now : (g : Over) (c : After-or_stopped-2 g) → HasNoCall (view_of c.self-2.inside.setup.proposers c.self-2.inside.council c.self-2.inside.acceptors.items c.self-2.inside.desks.items c.self-2.inside.callers.items c.self-2.inside.flow c.self-2.inside.record) 0 → ⊥
some_now g c none = is_some_not c.index-2.result.now.call (c.if-is_none.ensures) (call_none (view_of c.self-2.inside.setup.proposers c.self-2.inside.council c.self-2.inside.acceptors.items c.self-2.inside.desks.items c.self-2.inside.callers.items c.self-2.inside.flow c.self-2.inside.record) c.index-2.result.now (at_map caller_view c.self-2.inside.callers.items 0 c.index-2.result.now (at_place c.self-2.inside.callers.items 0 0 c.index-2.result.now refl (omega (arith, c.self-2.invariant.safe.sound.callers, length-map c.self-2.inside.callers.items caller_view)) c.index-2.ensures)) none)

begins : (g : Over) (c : After-or_stopped-2 g) → BeginsOrNot (meaning g.S.Shelf g.V.Disk) c.args.self.now 0 c.args.call c.args.key.now keep_always c.begin-begun-2.result (view_of c.self-2.inside.setup.proposers c.self-2.inside.council c.self-2.inside.acceptors.items c.self-2.inside.desks.items c.self-2.inside.callers.items c.self-2.inside.flow c.self-2.inside.record)
begins g c = subst (λ (v : (View g.row.S.Denot g.row.V.Denot)). BeginsOrNot (meaning g.S.Shelf g.V.Disk) c.args.self.now 0 c.args.call c.args.key.now keep_always c.begin-begun-2.result v) (sym c.self-2.view_is) (subst (λ (p : List Clause). BeginsOrNot (meaning g.S.Shelf g.V.Disk) c.args.self.now 0 c.args.call c.args.key.now p c.begin-begun-2.result c.begin-begun-2.new.self) c.requires.keeps c.begin-begun-2.ensures.step)

begun : (g : Over) (c : After-or_stopped-2 g) → StepBegin (meaning g.S.Shelf g.V.Disk) c.args.self.now 0 c.args.key.now keep_always (view_of c.self-2.inside.setup.proposers c.self-2.inside.council c.self-2.inside.acceptors.items c.self-2.inside.desks.items c.self-2.inside.callers.items c.self-2.inside.flow c.self-2.inside.record)
begun g c = begun_call (meaning g.S.Shelf g.V.Disk) c.args.self.now (view_of c.self-2.inside.setup.proposers c.self-2.inside.council c.self-2.inside.acceptors.items c.self-2.inside.desks.items c.self-2.inside.callers.items c.self-2.inside.flow c.self-2.inside.record) c.args.call c.args.key.now c.begin-begun-2.result (begins g c) (some_now g c)

safe_old : (g : Over) (c : After-or_stopped-2 g) → IsSafe c.args.self.now
safe_old g c = subst (λ (v : (View g.row.S.Denot g.row.V.Denot)). IsSafe v) c.self.view_is c.self.invariant.safe

first_desk : (g : Over) (c : After-or_stopped-2 g) → (desk : DeskView g.row.V.Denot) × IsAt c.args.self.now.desks 0 desk
first_desk g c = at_low c.args.self.now.desks 0 (omega (arith, (safe_old g c).sound.desks))

admits : (g : Over) (c : After-or_stopped-2 g) → Admits c.args.self.now (first_desk g c).0
admits g c = admits_it c.args.self.now (first_desk g c).0 c.refusal_to_collect.result c.in_default.is (c.refusal_to_collect.ensures (first_desk g c).0 (first_desk g c).1)

same_frame : (g : Over) (c : After-or_stopped-2 g) → frame_of (view_of c.self-2.inside.setup.proposers c.self-2.inside.council c.self-2.inside.acceptors.items c.self-2.inside.desks.items c.self-2.inside.callers.items c.self-2.inside.flow c.self-2.inside.record) ≡ frame_of c.args.self.now
same_frame g c = begin_frame (meaning g.S.Shelf g.V.Disk) c.args.self.now (view_of c.self-2.inside.setup.proposers c.self-2.inside.council c.self-2.inside.acceptors.items c.self-2.inside.desks.items c.self-2.inside.callers.items c.self-2.inside.flow c.self-2.inside.record) 0 c.args.key.now keep_always (begun g c)

council_is : (g : Over) (c : After-or_stopped-2 g) → council_view c.begin_collection.new.self ≡ record (hushed (council_view c.self-2.inside.council)) { collection = Some (new_collection c.args.key.now (era_at (view_of c.self-2.inside.setup.proposers c.self-2.inside.council c.self-2.inside.acceptors.items c.self-2.inside.desks.items c.self-2.inside.callers.items c.self-2.inside.flow c.self-2.inside.record) 0) c.args.self.now.last_proposer) }
council_is g c = c.begin_collection.ensures.begun
    ∙ ap (λ (k : List ℕ). record (hushed (council_view c.self-2.inside.council)) { collection = Some (new_collection k (era_at (view_of c.self-2.inside.setup.proposers c.self-2.inside.council c.self-2.inside.acceptors.items c.self-2.inside.desks.items c.self-2.inside.callers.items c.self-2.inside.flow c.self-2.inside.record) 0) c.self-2.inside.setup.proposers) }) (c.in-Ok-Ok.ensures)
    ∙ ap (λ (n : ℕ). record (hushed (council_view c.self-2.inside.council)) { collection = Some (new_collection c.args.key.now (era_at (view_of c.self-2.inside.setup.proposers c.self-2.inside.council c.self-2.inside.acceptors.items c.self-2.inside.desks.items c.self-2.inside.callers.items c.self-2.inside.flow c.self-2.inside.record) 0) n) }) (ap (λ (f : Frame). f.last_proposer) (same_frame g c))

did : (g : Over) (c : After-or_stopped-2 g) → Step (meaning g.S.Shelf g.V.Disk) c.args.self.now (step.BeginCollect c.args.key.now) (view_of c.self-2.inside.setup.proposers c.begin_collection.new.self c.self-2.inside.acceptors.items c.self-2.inside.desks.items c.self-2.inside.callers.items c.self-2.inside.flow c.self-2.inside.record)
did g c = begins_collection (meaning g.S.Shelf g.V.Disk) c.args.self.now c.args.key.now (first_desk g c).0 (caller_view c.index.result.now) c.requires.asked (first_desk g c).1 (subst (λ (v : (View g.row.S.Denot g.row.V.Denot)). IsAt v.callers 0 (caller_view c.index.result.now)) c.self.view_is (at_map caller_view c.self.inside.callers.items 0 c.index.result.now (at_place c.self.inside.callers.items 0 0 c.index.result.now refl (omega (arith, c.self.invariant.safe.sound.callers, length-map c.self.inside.callers.items caller_view)) c.index.ensures))) (view_of c.self-2.inside.setup.proposers c.self-2.inside.council c.self-2.inside.acceptors.items c.self-2.inside.desks.items c.self-2.inside.callers.items c.self-2.inside.flow c.self-2.inside.record) (view_of c.self-2.inside.setup.proposers c.begin_collection.new.self c.self-2.inside.acceptors.items c.self-2.inside.desks.items c.self-2.inside.callers.items c.self-2.inside.flow c.self-2.inside.record) (ap (option_map call_view) (none_there c.index.result.now.call (sym c.is_some.ensures ∙ c.if-is_some.false))) (admits g c).unplanned (begun g c)
    (council_next c.self-2.inside.setup.proposers c.self-2.inside.council c.begin_collection.new.self c.self-2.inside.acceptors.items c.self-2.inside.desks.items c.self-2.inside.callers.items c.self-2.inside.flow c.self-2.inside.record (council_view c.begin_collection.new.self) c.begin_collection.ensures.eras refl ∙ ap (with_council (view_of c.self-2.inside.setup.proposers c.self-2.inside.council c.self-2.inside.acceptors.items c.self-2.inside.desks.items c.self-2.inside.callers.items c.self-2.inside.flow c.self-2.inside.record)) (council_is g c))

is_collecting : (g : Over) (c : After-or_stopped-2 g) → IsCollecting (council_view c.begin_collection.new.self) c.args.key.now
is_collecting g c = is_begun (view_of c.self-2.inside.setup.proposers c.self-2.inside.council c.self-2.inside.acceptors.items c.self-2.inside.desks.items c.self-2.inside.callers.items c.self-2.inside.flow c.self-2.inside.record) c.args.key.now (era_at (view_of c.self-2.inside.setup.proposers c.self-2.inside.council c.self-2.inside.acceptors.items c.self-2.inside.desks.items c.self-2.inside.callers.items c.self-2.inside.flow c.self-2.inside.record) 0) c.args.self.now.last_proposer c.requires.asked.order (council_view c.begin_collection.new.self) (ap (λ (f : Frame). f.council.order) (same_frame g c) ∙ c.requires.asked.is_open) c.requires.asked.is_for (council_is g c)

pub invariant_of-self-2 : goal.invariant_of-self-2
invariant_of-self-2 g c =
    council_world (view_of c.self-2.inside.setup.proposers c.self-2.inside.council c.self-2.inside.acceptors.items c.self-2.inside.desks.items c.self-2.inside.callers.items c.self-2.inside.flow c.self-2.inside.record) (view_of c.self-2.inside.setup.proposers c.begin_collection.new.self c.self-2.inside.acceptors.items c.self-2.inside.desks.items c.self-2.inside.callers.items c.self-2.inside.flow c.self-2.inside.record) c.self-2.inside.callers.items c.self-2.inside.record.room c.self-2.inside.record.room c.self-2.invariant refl
    (steps_are_safe (meaning g.S.Shelf g.V.Disk) c.args.self.now (step.BeginCollect c.args.key.now) (view_of c.self-2.inside.setup.proposers c.begin_collection.new.self c.self-2.inside.acceptors.items c.self-2.inside.desks.items c.self-2.inside.callers.items c.self-2.inside.flow c.self-2.inside.record) (safe_old g c) (did g c))
    (remembered_then (meaning g.S.Shelf g.V.Disk) (step.BeginCollect c.args.key.now) (did g c) (subst (λ (v : (View g.row.S.Denot g.row.V.Denot)). Remembers (meaning g.S.Shelf g.V.Disk) v) c.self.view_is c.self.invariant.remembered))
    (omega (arith, c.self-2.invariant.room, ap reserved_by (council_is g c), begun_reserves (council_view c.self-2.inside.council) c.args.key.now (era_at (view_of c.self-2.inside.setup.proposers c.self-2.inside.council c.self-2.inside.acceptors.items c.self-2.inside.desks.items c.self-2.inside.callers.items c.self-2.inside.flow c.self-2.inside.record) 0) c.args.self.now.last_proposer))

pub returns-clause-step : goal.returns-clause-step
returns-clause-step g c = did g c

pub returns-clause-ok : goal.returns-clause-ok
returns-clause-ok g c = collected_ok (meaning g.S.Shelf g.V.Disk) c.args.self.now (view_of c.self-2.inside.setup.proposers c.self-2.inside.council c.self-2.inside.acceptors.items c.self-2.inside.desks.items c.self-2.inside.callers.items c.self-2.inside.flow c.self-2.inside.record) (view_of c.self-2.inside.setup.proposers c.begin_collection.new.self c.self-2.inside.acceptors.items c.self-2.inside.desks.items c.self-2.inside.callers.items c.self-2.inside.flow c.self-2.inside.record) c.args.call c.args.key.now refl refl (is_collecting g c) c.begin-begun-2.result c.or_stopped-2.result (begins g c) c.or_stopped-2.ensures.err

causes : (g : Over) (c : After-or_stopped-2 g) → IfErr c.begin-begun-2.result (λ told. BeginsBy (meaning g.S.Shelf g.V.Disk) c.args.self.now 0 c.args.key.now told (view_of c.self-2.inside.setup.proposers c.self-2.inside.council c.self-2.inside.acceptors.items c.self-2.inside.desks.items c.self-2.inside.callers.items c.self-2.inside.flow c.self-2.inside.record))
causes g c = subst (λ (v : (View g.row.S.Denot g.row.V.Denot)). IfErr c.begin-begun-2.result (λ told. BeginsBy (meaning g.S.Shelf g.V.Disk) c.args.self.now 0 c.args.key.now told v)) (sym c.self-2.view_is) c.begin-begun-2.ensures.cause

pub returns-clause-err : goal.returns-clause-err
returns-clause-err g c = collected_err (meaning g.S.Shelf g.V.Disk) c.args.self.now (view_of c.self-2.inside.setup.proposers c.self-2.inside.council c.self-2.inside.acceptors.items c.self-2.inside.desks.items c.self-2.inside.callers.items c.self-2.inside.flow c.self-2.inside.record) (view_of c.self-2.inside.setup.proposers c.begin_collection.new.self c.self-2.inside.acceptors.items c.self-2.inside.desks.items c.self-2.inside.callers.items c.self-2.inside.flow c.self-2.inside.record) c.args.call c.args.key.now refl refl (is_collecting g c) c.begin-begun-2.result c.or_stopped-2.result (begins g c) (causes g c) c.or_stopped-2.ensures.ok c.or_stopped-2.ensures.err
    (λ said is none. begun_leaves (meaning g.S.Shelf g.V.Disk) c.args.self.now (view_of c.self-2.inside.setup.proposers c.self-2.inside.council c.self-2.inside.acceptors.items c.self-2.inside.desks.items c.self-2.inside.callers.items c.self-2.inside.flow c.self-2.inside.record) c.args.key.now said (first_desk g c).0 (first_desk g c).1 (admits g c) (not_lost (meaning g.S.Shelf g.V.Disk) c.args.self.now (view_of c.self-2.inside.setup.proposers c.self-2.inside.council c.self-2.inside.acceptors.items c.self-2.inside.desks.items c.self-2.inside.callers.items c.self-2.inside.flow c.self-2.inside.record) c.args.call c.args.key.now c.begin-begun-2.result said (begins g c) (some_now g c) none is)
    (subst (λ r. IfErr r (λ told. BeginsBy (meaning g.S.Shelf g.V.Disk) c.args.self.now 0 c.args.key.now told (view_of c.self-2.inside.setup.proposers c.self-2.inside.council c.self-2.inside.acceptors.items c.self-2.inside.desks.items c.self-2.inside.callers.items c.self-2.inside.flow c.self-2.inside.record))) is (causes g c)))

-- ---- a full record is long
pub returns-then-is_some-clause-long : goal.returns-then-is_some-clause-long
returns-then-is_some-clause-long g c full = c.begin-begun.ensures.long (begun_full c.begin-begun.result c.or_stopped.result c.or_stopped.ensures.ok c.or_stopped.ensures.err full)

pub returns-in-Some-clause-long : goal.returns-in-Some-clause-long
returns-in-Some-clause-long g c full =
    let safe = subst (λ (v : (View g.row.S.Denot g.row.V.Denot)). IsSafe v) c.self.view_is c.self.invariant.safe in
    let desk = at_low c.args.self.now.desks 0 (omega (arith, safe.sound.desks)) in
    full_for_rounds c.args.self.now 0 safe (refusal_full c.args.self.now desk.0 c.in-Some.refusal (subst (λ (r : Option OpAnswer). RefusesCollection c.args.self.now desk.0 r) c.in-Some.is (c.refusal_to_collect.ensures desk.0 desk.1)) (cc (full, c.refuse.ensures.answer)))

pub returns-in_default-2-clause-long : goal.returns-in_default-2-clause-long
returns-in_default-2-clause-long g c full = absurd (cc (full, c.refuse-in_default-2.ensures.answer, c.no_memory.ensures))

pub returns-then-is_none-clause-long : goal.returns-then-is_none-clause-long
returns-then-is_none-clause-long g c full = absurd (cc (full, c.refuse-then-is_none.ensures.answer, c.no_memory-then-is_none.ensures))

pub returns-clause-long : goal.returns-clause-long
returns-clause-long g c full = c.begin-begun-2.ensures.long (begun_full c.begin-begun-2.result c.or_stopped-2.result c.or_stopped-2.ensures.ok c.or_stopped-2.ensures.err full)
