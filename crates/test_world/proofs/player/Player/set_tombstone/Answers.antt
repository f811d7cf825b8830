use Rattle.std.proofs.Common.{Bool, Some, sym, ap, subst, ◌∙◌, arith}
use Rattle.test_world.specs.Play.{IsPlay, renews}
use Rattle.test_world.proofs.Plays.{at_rest, collects, none_of, rests}
use Rattle.test_world.proofs.player.Player.set_tombstone.Goals as goal

pub begin_collection-requires-clause-rest : goal.begin_collection-requires-clause-rest
begin_collection-requires-clause-rest g c = at_rest c.self.inside.world c.self.inside.proposers c.self.inside.calls c.self.inside.task c.self.invariant (sym c.is_some.ensures ∙ c.if-is_some.false)

pub begin_collection-requires-clause-idle : goal.begin_collection-requires-clause-idle
begin_collection-requires-clause-idle g c = c.self.invariant.idle 0 (omega arith) (c.in-Some-false.ensures.1 ∙ ap (λ (b : Bool). Some b) c.in-Some-false.field-0-test)

pub invariant_of-self : goal.invariant_of-self
invariant_of-self g c =
    collects c.self.inside.world c.begin_collection.new.world _ c.self.inside.proposers c.self.inside.calls _ c.self.invariant (c.in-Some-false.ensures.1 ∙ ap (λ (b : Bool). Some b) c.in-Some-false.field-0-test)
    c.begin_collection.ensures.goes (renews 0 c.in-Ok-begin_collection.ensures.due) c.in-Ok-begin_collection.ensures.due.quiet

-- the same, by the other way on which the program is dropped
pub invariant_of-self-in-Ok-begin_collection-2 : goal.invariant_of-self-in-Ok-begin_collection-2
invariant_of-self-in-Ok-begin_collection-2 g c =
    collects c.self.inside.world c.begin_collection.new.world _ c.self.inside.proposers c.self.inside.calls _ c.self.invariant (c.in-Some-false.ensures.1 ∙ ap (λ (b : Bool). Some b) c.in-Some-false.field-0-test)
    c.begin_collection.ensures.goes (renews 0 c.in-Ok-begin_collection.ensures.due) c.in-Ok-begin_collection.ensures.due.quiet

pub invariant_of-self-in-Err-begin_collection : goal.invariant_of-self-in-Err-begin_collection
invariant_of-self-in-Err-begin_collection g c =
    subst (IsPlay c.begin_collection.new.world c.self.inside.proposers c.self.inside.calls) (sym (none_of c.self.inside.task (sym c.is_some.ensures ∙ c.if-is_some.false)))
    (rests c.self.inside.world c.begin_collection.new.world c.self.inside.proposers c.self.inside.calls c.self.inside.task c.self.invariant c.begin_collection.ensures.goes c.in-Err.ensures.rest)
