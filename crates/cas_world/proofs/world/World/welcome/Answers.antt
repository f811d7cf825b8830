use Rattle.std.proofs.Common.{◌≡◌, ℕ, sym, ap, subst, refl, ◌∙◌}
use Rattle.cas_model.specs.Eras.Step as plans
use Rattle.cas_model.specs.Eras.Step.{Welcomes}
use Rattle.cas_model.specs.View.{IsAt, meaning, shelf_meaning}
use Rattle.cas_world.specs.Eras.Plans.{asked_of}
use Rattle.cas_world.specs.declared.plans.Target.{Target}
use Rattle.cas_world.proofs.Eras.Planning.{joined_of, one_fault, start_faulted, welcomed}
use Rattle.cas_world.proofs.world.World.welcome.Goals as goal

pub returns-in-Ok-clause-welcomes : goal.returns-in-Ok-clause-welcomes
returns-in-Ok-clause-welcomes g c =
    subst (λ (to : Target). Welcomes (meaning g.S.Shelf g.V.Disk) c.args.self.now (asked_of to) c.restart_acceptor.new.self) (sym c.in-Join.is)
    (welcomed (meaning g.S.Shelf g.V.Disk) c.args.self.now c.restart_acceptor.new.self c.in-Join.id c.restart_acceptor.ensures.step)

pub returns-in-Ok-clause-faulted : goal.returns-in-Ok-clause-faulted
returns-in-Ok-clause-faulted g c id was now joins at_was at_now fresh down =
    let same : c.in-Join.id ≡ id = ap joined_of (sym (ap asked_of c.in-Join.is) ∙ joins) in
    let tells = c.restart_acceptor.ensures.tells was now (subst (λ (i : ℕ). IsAt c.args.self.now.acceptors i was) (sym same) at_was) (subst (λ (i : ℕ). IsAt c.restart_acceptor.new.self.acceptors i now) (sym same) at_now) in
    start_faulted (shelf_meaning g.S.Shelf) was now c.restart_acceptor.result tells (λ is. absurd (cc (sym c.in-Ok.is ∙ is))) fresh down

pub returns-in-NoMemory-clause-welcomes : goal.returns-in-NoMemory-clause-welcomes
returns-in-NoMemory-clause-welcomes g c =
    subst (λ (to : Target). Welcomes (meaning g.S.Shelf g.V.Disk) c.args.self.now (asked_of to) c.restart_acceptor.new.self) (sym c.in-Join.is)
    (welcomed (meaning g.S.Shelf g.V.Disk) c.args.self.now c.restart_acceptor.new.self c.in-Join.id c.restart_acceptor.ensures.step)

pub returns-in_default-clause-welcomes : goal.returns-in_default-clause-welcomes
returns-in_default-clause-welcomes g c =
    subst (λ (to : Target). Welcomes (meaning g.S.Shelf g.V.Disk) c.args.self.now (asked_of to) c.restart_acceptor.new.self) (sym c.in-Join.is)
    (welcomed (meaning g.S.Shelf g.V.Disk) c.args.self.now c.restart_acceptor.new.self c.in-Join.id c.restart_acceptor.ensures.step)

pub returns-in_default-clause-faulted : goal.returns-in_default-clause-faulted
returns-in_default-clause-faulted g c id was now joins at_was at_now fresh down =
    let same : c.in-Join.id ≡ id = ap joined_of (sym (ap asked_of c.in-Join.is) ∙ joins) in
    let tells = c.restart_acceptor.ensures.tells was now (subst (λ (i : ℕ). IsAt c.args.self.now.acceptors i was) (sym same) at_was) (subst (λ (i : ℕ). IsAt c.restart_acceptor.new.self.acceptors i now) (sym same) at_now) in
    start_faulted (shelf_meaning g.S.Shelf) was now c.restart_acceptor.result tells (λ is. c.in_default.not-NoMemory (one_fault c.restart_acceptor.result c.in-Err.is is)) fresh down

pub returns-in-Leave-clause-welcomes : goal.returns-in-Leave-clause-welcomes
returns-in-Leave-clause-welcomes g c = plans.stays (ap (λ (to : Target). plans.is_join (asked_of to)) c.in-Leave.is) refl

pub returns-in-Leave-clause-faulted : goal.returns-in-Leave-clause-faulted
returns-in-Leave-clause-faulted g c id was now joins at_was at_now fresh down = absurd (cc (sym (ap asked_of c.in-Leave.is) ∙ joins))

pub returns-in-Resize-clause-welcomes : goal.returns-in-Resize-clause-welcomes
returns-in-Resize-clause-welcomes g c = plans.stays (ap (λ (to : Target). plans.is_join (asked_of to)) c.in-Resize.is) refl

pub returns-in-Resize-clause-faulted : goal.returns-in-Resize-clause-faulted
returns-in-Resize-clause-faulted g c id was now joins at_was at_now fresh down = absurd (cc (sym (ap asked_of c.in-Resize.is) ∙ joins))
