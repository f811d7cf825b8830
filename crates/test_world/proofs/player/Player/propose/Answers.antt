use Rattle.std.proofs.Common.{Bool, Some, ap, ◌∙◌}
use Rattle.cas_model.specs.Step as step
use Rattle.casreg_script.proofs.Calls.Keeping.{propose_keeps}
use Rattle.test_world.specs.declared.player.Due.{Due}
use Rattle.test_world.proofs.Plays.{ends, ends_after, goes_on}
use Rattle.test_world.proofs.player.Player.propose.Goals as goal

pub propose-requires-clause-preparing : goal.propose-requires-clause-preparing
propose-requires-clause-preparing g c = c.what_is_due.ensures.proposes (c.in-Some-Propose.is ∙ ap (λ (due : Due). Some due) c.in-Some-Propose.field-0-is)

pub invariant_of-self : goal.invariant_of-self
invariant_of-self g c =
    goes_on _ c.self.inside.world c.propose.new.self (step.Propose c.args.proposer) c.args.proposer c.self.inside.proposers c.self.inside.calls _ c.self.invariant (c.in-Some-true.ensures.1 ∙ ap (λ (b : Bool). Some b) c.in-Some-true.field-0-test) c.propose.ensures.step
    (propose_keeps _ c.self.inside.world c.propose.new.self c.args.proposer c.propose.ensures.step)

pub invariant_of-self-in-Err : goal.invariant_of-self-in-Err
invariant_of-self-in-Err g c =
    ends _ c.self.inside.world c.end-told.new.self c.args.proposer c.self.inside.proposers c.self.inside.calls c.set.new.calls _ c.self.invariant c.set.ensures (λ operator. c.is_free.ensures c.if-not-is_free.false operator)
    (ends_after _ c.self.inside.world c.propose.new.self c.end-told.new.self (step.Propose c.args.proposer) c.args.proposer _ c.self.invariant.safe c.propose.ensures.step (propose_keeps _ c.self.inside.world c.propose.new.self c.args.proposer c.propose.ensures.step) c.end-told.ensures.step)
