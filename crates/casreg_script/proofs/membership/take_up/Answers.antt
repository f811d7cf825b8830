use Rattle.std.proofs.Common.{sym, subst, ◌∙◌}
use Rattle.cas_world.specs.Eras.Plans.{IsFor}
use Rattle.casreg_script.specs.Eras.Membership.{resumes, opens}
use Rattle.casreg_script.proofs.Exchanges.Asking.{keeps_idle}
use Rattle.casreg_script.proofs.Eras.Entering.{may_open, open_keeps}
use Rattle.casreg_script.proofs.Outcomes.{on_ok_of}
use Rattle.casreg_script.proofs.membership.take_up.Goals as goal

pub returns-then-plan_is-clause-taken_up : goal.returns-then-plan_is-clause-taken_up
returns-then-plan_is-clause-taken_up g c = resumes (subst (IsFor c.args.world.now.council.plan) c.asked.ensures (c.plan_is.ensures.0 c.if-plan_is.true))

pub open_change-requires : goal.open_change-requires
open_change-requires g c =
    may_open c.args.world.now _ c.requires.ordered (λ is. absurd (cc (c.if-plan_is.false, c.plan_is.ensures.1 (subst (IsFor c.args.world.now.council.plan) (sym c.asked.ensures) is))))

pub returns-clause-taken_up : goal.returns-clause-taken_up
returns-clause-taken_up g c = opens (λ is. absurd (cc (c.if-plan_is.false, c.plan_is.ensures.1 (subst (IsFor c.args.world.now.council.plan) (sym c.asked.ensures) is)))) c.open_change.ensures.step

pub returns-clause-free : goal.returns-clause-free
returns-clause-free g c =
    let by = open_keeps _ c.args.world.now c.open_change.new.self c.open_change.ensures.step in
    on_ok_of c.open_change.result (record { quiet = by.exchange ∙ c.requires.free.quiet; idle = (keeps_idle c.args.world.now c.open_change.new.self by.calls).idle 0 c.requires.free.idle })

pub returns-clause-idle : goal.returns-clause-idle
returns-clause-idle g c = keeps_idle c.args.world.now c.open_change.new.self (open_keeps _ c.args.world.now c.open_change.new.self c.open_change.ensures.step).calls
