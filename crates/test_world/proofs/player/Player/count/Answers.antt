use Rattle.std.proofs.Common.{Some, ap, ◌∙◌}
use Rattle.cas_model.specs.Step as step
use Rattle.casreg_script.proofs.Calls.Keeping.{count_keeps}
use Rattle.test_world.specs.declared.player.Due.{Due}
use Rattle.test_world.proofs.Plays.{ends, ends_after}
use Rattle.test_world.proofs.player.Player.count.Goals as goal

pub count-told-requires-clause-counting : goal.count-told-requires-clause-counting
count-told-requires-clause-counting g c = c.what_is_due.ensures.counts (c.in-Some-Count.is ∙ ap (λ (due : Due). Some due) c.in-Some-Count.field-0-is)

pub invariant_of-self : goal.invariant_of-self
invariant_of-self g c =
    ends _ c.self.inside.world c.end-told.new.self c.args.proposer c.self.inside.proposers c.self.inside.calls c.set.new.calls _ c.self.invariant c.set.ensures (λ operator. c.is_free.ensures c.if-not-is_free.false operator)
    (ends_after _ c.self.inside.world c.count-told.new.self c.end-told.new.self (step.Count c.args.proposer) c.args.proposer _ c.self.invariant.safe c.count-told.ensures.step (count_keeps _ c.self.inside.world c.count-told.new.self c.args.proposer c.count-told.ensures.step) c.end-told.ensures.step)
