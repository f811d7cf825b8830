use Rattle.std.proofs.Common.{Some, sym, ap, ◌∙◌, arith}
use Rattle.cas_members.specs.declared.plan.PlanStep.{PlanStep}
use Rattle.cas_world.specs.Eras.Plans.{step_of}
use Rattle.casreg_script.specs.Eras.Membership.{none}
use Rattle.casreg_script.proofs.Eras.Carrying.{same_goes, then_goes}
use Rattle.casreg_script.proofs.Eras.Entering.{some_due, advances_on}
use Rattle.casreg_script.proofs.membership.advance.Goals as goal

pub loop-step-init : goal.loop-step-init
loop-step-init g c = record { advances = λ by is. record { view = by; is = is; has = none }; network = λ by is. (by, is); goes = same_goes c.args.world.now c.requires.free }

pub settle-requires-clause-under_way : goal.settle-requires-clause-under_way
settle-requires-clause-under_way g c = (c.requires.under_way.0, c.loop-step.invariant.goes.under_way c.requires.under_way.0 c.requires.under_way.1)

pub enter-requires-clause-under_way : goal.enter-requires-clause-under_way
enter-requires-clause-under_way g c = (c.requires.under_way.0, c.loop-step.invariant.goes.under_way c.requires.under_way.0 c.requires.under_way.1)

pub enter-requires-clause-due : goal.enter-requires-clause-due
enter-requires-clause-due g c = some_due c.loop-step.world _ (sym c.in-Some.ensures.step ∙ ap (λ (s : PlanStep). Some s) c.in-Enter.is)

pub loop-step-preserved-in-Continue-1 : goal.loop-step-preserved-in-Continue-1
loop-step-preserved-in-Continue-1 g c =
    let was = c.loop-step.invariant in
    let by = c.in_ok-settle-in-Settle.ensures in
    record {
      advances = λ net is.
          let first_ = was.advances net is in
          let then_ = by.advances first_.view first_.is in
          record { view = then_.view; is = then_.is; has = advances_on first_.has then_.has };
      network = λ net is. let before = was.network net is in by.network before.0 before.1;
      goes = then_goes c.args.world.now c.loop-step.world c.settle.new.world was.goes (record { under_way = by.under_way; no_more = omega (arith, by.fewer); free = by.free; idle = by.idle });
    }

pub returns-in_err-settle-in-Settle-clause-advances : goal.returns-in_err-settle-in-Settle-clause-advances
returns-in_err-settle-in-Settle-clause-advances g c by is =
    let first_ = c.loop-step.invariant.advances by is in
    let then_ = c.in_err-settle-in-Settle.ensures.advances first_.view first_.is in
    record { view = then_.view; is = then_.is; has = advances_on first_.has then_.has }

pub loop-step-preserved : goal.loop-step-preserved
loop-step-preserved g c =
    let was = c.loop-step.invariant in
    let by = c.in_ok-enter-in-Enter.ensures in
    record {
      advances = λ net is. let first_ = was.advances net is in record { view = first_.view; is = first_.is; has = advances_on first_.has (by.advances c.args.tries first_.view c.loop-step.halt) };
      network = was.network;
      goes = then_goes c.args.world.now c.loop-step.world c.enter.new.world was.goes (record { under_way = by.under_way; no_more = omega (arith, by.fewer); free = by.free; idle = by.idle });
    }

pub returns-in_err-enter-in-Enter-clause-advances : goal.returns-in_err-enter-in-Enter-clause-advances
returns-in_err-enter-in-Enter-clause-advances g c by is =
    let first_ = c.loop-step.invariant.advances by is in
    record { view = first_.view; is = first_.is; has = advances_on first_.has (c.in_err-enter-in-Enter.ensures.advances c.args.tries first_.view c.loop-step.halt) }

pub unreachable-requires : goal.unreachable-requires
unreachable-requires g c =
    let was = c.loop-step.invariant.goes.under_way c.requires.under_way.0 c.requires.under_way.1 in
    cc (sym (ap step_of was.plan.is_open) ∙ sym c.plan_step.ensures.step ∙ c.in_default.is)
