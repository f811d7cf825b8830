use Rattle.std.proofs.Common.{sym, ap, ◌∙◌}
use Rattle.cas_model.proofs.Places.{some_is}
use Rattle.cas_model.specs.Collection.Logged.{is_after_floor}
use Rattle.cas_model.specs.Collection.State.{CollectionView}
use Rattle.cas_world_calls.proofs.collection.OpenCollection.mark_floor.Goals as goal

pub unreachable-requires : goal.unreachable-requires
unreachable-requires c = cc (c.in-None.is, c.take.ensures.value, c.self.invariant.floor (ap (λ (v : CollectionView). is_after_floor v.course.step) c.self.view_is ∙ ap is_after_floor c.requires))

pub returns-clause-key : goal.returns-clause-key
returns-clause-key c =
    some_is (sym c.in-Some.is ∙ c.take.ensures.value ∙ c.self.invariant.floor (ap (λ (v : CollectionView). is_after_floor v.course.step) c.self.view_is ∙ ap is_after_floor c.requires)) ∙ ap (λ (v : CollectionView). v.course.key) c.self.view_is
