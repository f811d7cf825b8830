use Rattle.std.proofs.Common.{sym, subst, ◌∙◌}
use Rattle.cas_model.specs.Step as step
use Rattle.cas_model.specs.View.{meaning}
use Rattle.cas_collect.specs.declared.collect.CollectStep.TheVariants.{Renew}
use Rattle.casreg_script.proofs.Exchanges.Asking.{quiet_after}
use Rattle.casreg_script.proofs.Collection.Collecting.{due_step, renew_idle}
use Rattle.test_world.specs.Play.{IsPlay}
use Rattle.test_world.proofs.Leading.{due_renewal, goes_renewing, quiet_in, step_goes, tell_goes, then_goes}
use Rattle.test_world.proofs.Plays.{collection_of, collects, rests}
use Rattle.test_world.proofs.player.Player.renew.Goals as goal

pub renew-requires-clause-due : goal.renew-requires-clause-due
renew-requires-clause-due g c =
    let is = collection_of c.self.inside.task (sym c.is_collection.ensures ∙ c.if-not-is_collection.false) in
    let was = subst (IsPlay c.self.inside.world c.self.inside.proposers c.self.inside.calls) is.1 c.self.invariant in
    due_step c.self.inside.world _ (Renew c.in-Some.proposer) (due_renewal c.self.inside.world _ c.in-Some.proposer was.order (sym c.renew_next.ensures.next ∙ c.in-Some.is))

pub invariant_of-self : goal.invariant_of-self
invariant_of-self g c =
    let is = collection_of c.self.inside.task (sym c.is_collection.ensures ∙ c.if-not-is_collection.false) in
    let was = subst (IsPlay c.self.inside.world c.self.inside.proposers c.self.inside.calls) is.1 c.self.invariant in
    let due = due_renewal c.self.inside.world _ c.in-Some.proposer was.order (sym c.renew_next.ensures.next ∙ c.in-Some.is) in
    let now = goes_renewing (meaning g.S.Shelf g.V.Disk) c.self.inside.world c.renew.new.self _ c.in-Some.proposer c.in-Some.ensures.known due c.in-Ok.ensures.ok c.renew.ensures.step in
    subst (IsPlay c.renew.new.self c.self.inside.proposers c.self.inside.calls) (sym is.1)
    (collects c.self.inside.world c.renew.new.self _ c.self.inside.proposers c.self.inside.calls _ was was.still
    (step_goes (meaning g.S.Shelf g.V.Disk) c.self.inside.world c.renew.new.self (step.Renew c.in-Some.proposer) c.renew.ensures.step (renew_idle (meaning g.S.Shelf g.V.Disk) c.self.inside.world c.renew.new.self c.in-Some.proposer c.renew.ensures.step)) now (quiet_in c.renew.new.self _ now))

pub invariant_of-self-in-Err : goal.invariant_of-self-in-Err
invariant_of-self-in-Err g c =
    rests c.self.inside.world c.tell-told.new.self c.self.inside.proposers c.self.inside.calls _ c.self.invariant
    (then_goes c.self.inside.world c.renew.new.self c.tell-told.new.self
    (step_goes (meaning g.S.Shelf g.V.Disk) c.self.inside.world c.renew.new.self (step.Renew c.in-Some.proposer) c.renew.ensures.step (renew_idle (meaning g.S.Shelf g.V.Disk) c.self.inside.world c.renew.new.self c.in-Some.proposer c.renew.ensures.step))
    (tell_goes (meaning g.S.Shelf g.V.Disk) c.renew.new.self c.tell-told.new.self _ c.tell-told.ensures.step))
    (quiet_after c.renew.new.self c.tell-told.new.self _ c.tell-told.ensures.step)
