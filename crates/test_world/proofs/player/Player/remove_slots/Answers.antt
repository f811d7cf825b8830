use Rattle.std.proofs.Common.{Some, sym, ap, subst, ◌∙◌}
use Rattle.test_world.specs.Play.{IsPlay}
use Rattle.test_world.specs.declared.task.Task.{Task}
use Rattle.test_world.proofs.Leading.{all_renewed}
use Rattle.test_world.proofs.Plays.{none_of, rests}
use Rattle.test_world.proofs.player.Player.remove_slots.Goals as goal

pub end_collection-requires : goal.end_collection-requires
end_collection-requires g c =
    let is = sym c.take.ensures.value ∙ c.in-Some-Collection.is ∙ ap (λ (t : Task). Some t) c.in-Some-Collection.field-0-is in
    let was = subst (IsPlay c.self.inside.world c.self.inside.proposers c.self.inside.calls) is c.self.invariant in
    record { due = all_renewed c.self.inside.world _ was.order (sym c.renew_next.ensures.next ∙ none_of c.renew_next.result (sym c.is_some.ensures ∙ c.if-is_some.false)) }

pub invariant_of-self : goal.invariant_of-self
invariant_of-self g c =
    subst (IsPlay c.end_collection.new.world c.self.inside.proposers c.self.inside.calls) (sym c.take.ensures.after)
    (rests c.self.inside.world c.end_collection.new.world c.self.inside.proposers c.self.inside.calls _ c.self.invariant c.end_collection.ensures.goes c.end_collection.ensures.rest)
