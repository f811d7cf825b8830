use Rattle.std.proofs.Common.{sym, subst, ◌∙◌}
use Rattle.cas_model.specs.Step as step
use Rattle.cas_model.specs.View.{meaning}
use Rattle.cas_model.proofs.Safety.Steps.{steps_are_safe}
use Rattle.cas_world.specs.Eras.Plans.{IsUnderWay}
use Rattle.casreg_script.proofs.Eras.Entering.{enter_idle, may_enter}
use Rattle.test_world.specs.Play.{IsPlay}
use Rattle.test_world.proofs.Plays.{change_of, enters, is_told}
use Rattle.test_world.proofs.player.Player.enter.Goals as goal

pub enter_era-requires : goal.enter_era-requires
enter_era-requires g c =
    let is = change_of c.self.inside.task (sym c.is_change.ensures ∙ c.if-not-is_change.false) in
    let was = subst (IsPlay c.self.inside.world c.self.inside.proposers c.self.inside.calls) is.1 c.self.invariant in
    may_enter c.self.inside.world _ c.in-Some.proposer was.order (sym c.enter_next.ensures.next ∙ c.in-Some.is)

pub invariant_of-self : goal.invariant_of-self
invariant_of-self g c =
    let is = change_of c.self.inside.task (sym c.is_change.ensures ∙ c.if-not-is_change.false) in
    let was = subst (IsPlay c.self.inside.world c.self.inside.proposers c.self.inside.calls) is.1 c.self.invariant in
    subst (IsPlay c.enter_era.new.self c.self.inside.proposers c.self.inside.calls) (sym is.1)
    (enters (meaning g.S.Shelf g.V.Disk) c.self.inside.world c.enter_era.new.self c.in-Some.proposer _ c.self.inside.proposers c.self.inside.calls was c.in-Some.ensures.known
    (subst (IsUnderWay c.enter_era.new.self) was.order.is_for (c.in-Ok.ensures.ok was.order.order was.order.is_open)) c.enter_era.ensures.step)

pub invariant_of-self-in-Err : goal.invariant_of-self-in-Err
invariant_of-self-in-Err g c =
    is_told (meaning g.S.Shelf g.V.Disk) c.self.inside.world c.enter_era.new.self c.tell-told.new.self _ c.self.inside.proposers c.self.inside.calls _ c.self.invariant (enter_idle (meaning g.S.Shelf g.V.Disk) c.self.inside.world c.enter_era.new.self c.in-Some.proposer c.enter_era.ensures.step)
    (steps_are_safe (meaning g.S.Shelf g.V.Disk) c.self.inside.world (step.EnterEra c.in-Some.proposer) c.enter_era.new.self c.self.invariant.safe c.enter_era.ensures.step) c.tell-told.ensures.step
