use Rattle.std.proofs.Common.{◌≡◌, ◌++◌, ◌∷◌, [], List, Option, refl, sym, ap, subst, ◌∙◌, arith}
use Rattle.std.specs.Prelude.{ℕ, IfSome, option_map}
use Rattle.cas_ballot.specs.declared.ballot.Ballot.{Ballot}
use Rattle.cas_change.specs.declared.state.State.TheVariants.{Empty}
use Rattle.cas_record.specs.declared.mark.Mark.{Mark}
use Rattle.cas_record.specs.declared.mark.Mark.TheVariants.{Floor}
use Rattle.cas_collect.specs.declared.collect.CollectStep.TheVariants as due
use Rattle.cas_model.specs.Collection.State.{CollectionView, confirmed_step, reserved_for_collection, tomb_of}
use Rattle.cas_model.specs.Council.{reserved_by}
use Rattle.cas_model.specs.Step as step
use Rattle.cas_model.specs.Collection.Step.{StepMakeFloor}
use Rattle.cas_model.specs.View.{View, meaning, with_marks}
use Rattle.cas_model.proofs.Places.{some_is}
use Rattle.cas_model.proofs.Safety.Steps.{steps_are_safe}
use Rattle.cas_world_calls.specs.Council.{council_view}
use Rattle.cas_world.specs.Collection.Collect.{GoesOnCollecting, IsDueStep}
use Rattle.cas_world.specs.World.{view_of}
use Rattle.cas_world.proofs.Exchanges.Exchanges.{council_next, council_world, hushed_reserves}
use Rattle.cas_world.proofs.Collection.Gathers.{floor_goes_on, floor_reserved, floors_kept, makes_floor}
use Rattle.cas_world.proofs.Parts.{seen_from, remembered_then}
use Rattle.cas_world.proofs.world.World.floor.Given.{Over}
use Rattle.cas_world.proofs.world.World.floor.Goals as goal
use Rattle.cas_world.proofs.world.World.floor.Goals.{After-push}

pub push-requires : goal.push-requires
push-requires g c =
    let due = subst (λ (v : (View g.row.S.Denot g.row.V.Denot)). IsDueStep v due.Floor) (sym c.self.view_is) c.requires in
    omega (arith, c.self.invariant.room, floor_reserved (view_of c.self.inside.setup.proposers c.self.inside.council c.self.inside.acceptors.items c.self.inside.desks.items c.self.inside.callers.items c.self.inside.flow c.self.inside.record) c.self.invariant.safe due, ap reserved_for_collection due.is_collection)

abbrev is_due : (g : Over) (c : After-push g) → IsDueStep (view_of c.self.inside.setup.proposers c.self.inside.council c.self.inside.acceptors.items c.self.inside.desks.items c.self.inside.callers.items c.self.inside.flow c.self.inside.record) due.Floor
is_due g c = record { collection = c.requires.collection; is_collection = ap (λ (v : (View g.row.S.Denot g.row.V.Denot)). v.council.collection) c.self.view_is ∙ c.requires.is_collection; is_due = c.requires.is_due }

same_one : (g : Over) (c : After-push g) → c.in-Some.collection ≡ c.requires.collection
same_one g c = some_is (sym c.in-Some.is ∙ (is_due g c).is_collection)

step_so : (g : Over) (c : After-push g) → StepMakeFloor (view_of c.self.inside.setup.proposers c.self.inside.council c.self.inside.acceptors.items c.self.inside.desks.items c.self.inside.callers.items c.self.inside.flow c.self.inside.record) (view_of c.self.inside.setup.proposers c.mark_floor-key.new.self c.self.inside.acceptors.items c.self.inside.desks.items c.self.inside.callers.items c.self.inside.flow c.push.new.self)
step_so g c = makes_floor (view_of c.self.inside.setup.proposers c.self.inside.council c.self.inside.acceptors.items c.self.inside.desks.items c.self.inside.callers.items c.self.inside.flow c.self.inside.record) (view_of c.self.inside.setup.proposers c.mark_floor-key.new.self c.self.inside.acceptors.items c.self.inside.desks.items c.self.inside.callers.items c.self.inside.flow c.push.new.self) (council_view c.mark_floor-key.new.self) c.self.invariant.safe (is_due g c) c.mark_floor-key.ensures.marked
    (ap (λ (l : List Mark). record (view_of c.self.inside.setup.proposers c.mark_floor-key.new.self c.self.inside.acceptors.items c.self.inside.desks.items c.self.inside.callers.items c.self.inside.flow c.push.new.self) { marks = l }) (c.push.ensures.marks
    ∙ ap (λ (k : List ℕ). c.self.inside.record.marks ++ Floor k c.tomb-ballot.result Empty ∷ []) key_is
    ∙ ap (λ (b : Ballot). c.self.inside.record.marks ++ Floor c.requires.collection.course.key b Empty ∷ []) (c.tomb-ballot.ensures ∙ ap (λ (x : CollectionView). tomb_of x.tombstone) (same_one g c)))
    ∙ ap (λ (v : (View g.row.S.Denot g.row.V.Denot)). with_marks v (Floor c.requires.collection.course.key (tomb_of c.requires.collection.tombstone) Empty ∷ []))
    (council_next c.self.inside.setup.proposers c.self.inside.council c.mark_floor-key.new.self c.self.inside.acceptors.items c.self.inside.desks.items c.self.inside.callers.items c.self.inside.flow c.self.inside.record (council_view c.mark_floor-key.new.self) c.mark_floor-key.ensures.eras refl))
  where
    key_is : c.mark_floor-key.result ≡ c.requires.collection.course.key
    key_is = subst (λ (o : Option CollectionView). IfSome o (λ x. c.mark_floor-key.result ≡ x.course.key)) (is_due g c).is_collection c.mark_floor-key.ensures.key

pub invariant_of-self : goal.invariant_of-self
invariant_of-self g c =
    council_world (view_of c.self.inside.setup.proposers c.self.inside.council c.self.inside.acceptors.items c.self.inside.desks.items c.self.inside.callers.items c.self.inside.flow c.self.inside.record) _ c.self.inside.callers.items c.self.inside.record.room c.push.new.self.room c.self.invariant refl
    (steps_are_safe (meaning g.S.Shelf g.V.Disk) _ step.MakeFloor _ c.self.invariant.safe (step_so g c)) (remembered_then (meaning g.S.Shelf g.V.Disk) step.MakeFloor (step_so g c) c.self.invariant.remembered)
    (omega (
      arith,
      c.self.invariant.room,
      c.push.ensures.room,
      floor_reserved (view_of c.self.inside.setup.proposers c.self.inside.council c.self.inside.acceptors.items c.self.inside.desks.items c.self.inside.callers.items c.self.inside.flow c.self.inside.record) c.self.invariant.safe (is_due g c),
      ap reserved_for_collection (is_due g c).is_collection,
      ap reserved_by c.mark_floor-key.ensures.marked,
      hushed_reserves (council_view c.self.inside.council).order,
      ap (λ (o : Option CollectionView). reserved_for_collection (option_map (λ x. record (confirmed_step x) { reserved = 0 }) o)) (is_due g c).is_collection,
    ))

pub returns-clause-step : goal.returns-clause-step
returns-clause-step g c = seen_from (meaning g.S.Shelf g.V.Disk) step.MakeFloor _ c.self.view_is (step_so g c)

pub returns-clause-goes_on : goal.returns-clause-goes_on
returns-clause-goes_on g c = subst (λ (v : (View g.row.S.Denot g.row.V.Denot)). GoesOnCollecting v (view_of c.self.inside.setup.proposers c.mark_floor-key.new.self c.self.inside.acceptors.items c.self.inside.desks.items c.self.inside.callers.items c.self.inside.flow c.push.new.self)) c.self.view_is (floor_goes_on (view_of c.self.inside.setup.proposers c.self.inside.council c.self.inside.acceptors.items c.self.inside.desks.items c.self.inside.callers.items c.self.inside.flow c.self.inside.record) (view_of c.self.inside.setup.proposers c.mark_floor-key.new.self c.self.inside.acceptors.items c.self.inside.desks.items c.self.inside.callers.items c.self.inside.flow c.push.new.self) (council_view c.mark_floor-key.new.self) (is_due g c) c.mark_floor-key.ensures.marked refl)

pub returns-clause-passed : goal.returns-clause-passed
returns-clause-passed g c shelves disks = floors_kept (meaning g.S.Shelf g.V.Disk) (view_of c.self.inside.setup.proposers c.mark_floor-key.new.self c.self.inside.acceptors.items c.self.inside.desks.items c.self.inside.callers.items c.self.inside.flow c.push.new.self) shelves disks (steps_are_safe (meaning g.S.Shelf g.V.Disk) _ step.MakeFloor _ c.self.invariant.safe (step_so g c)) (remembered_then (meaning g.S.Shelf g.V.Disk) step.MakeFloor (step_so g c) c.self.invariant.remembered shelves disks)
