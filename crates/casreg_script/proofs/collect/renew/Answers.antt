use Rattle.std.proofs.Common.{ℕ, List, sym, ◌∙◌}
use Rattle.cas_collect.specs.declared.collect.CollectStep.TheVariants.{Renew}
use Rattle.casreg_script.specs.Collection.Collecting.{IsDue}
use Rattle.casreg_script.specs.Collection.Collections as collections
use Rattle.casreg_script.proofs.Exchanges.Asking.{same_idle, both_idle}
use Rattle.casreg_script.proofs.Collection.Collecting.{RenewedSo, renews, renewed_so, renew_idle, due_renewal, all_renewed, due_step, goes_on_due}
use Rattle.casreg_script.proofs.collect.renew.Given.{Over}
use Rattle.casreg_script.proofs.collect.renew.Goals as goal
use Rattle.casreg_script.proofs.collect.renew.Goals.{In_ok-renew}

pub loop-proposer-init : goal.loop-proposer-init
loop-proposer-init g c = record { taken = λ by. collections.none; due = λ key was. renews 0 was; idle = same_idle c.args.world.now }

pub renew-requires-clause-due : goal.renew-requires-clause-due
renew-requires-clause-due g c = due_step c.loop-proposer.world c.requires.due.0 (Renew c.in-Some.proposer) (due_renewal c.loop-proposer.world c.requires.due.0 c.in-Some.proposer (c.loop-proposer.invariant.due c.requires.due.0 c.requires.due.1) (sym c.in-Some.ensures.next))

renewed : (g : Over) (c : In_ok-renew g) (key : List ℕ) → IsDue c.args.world.now key (Renew 0) → RenewedSo c.loop-proposer.world c.renew.new.self key
renewed g c key was =
    renewed_so c.loop-proposer.world c.renew.new.self key c.in-Some.proposer c.in-Some.ensures.known (due_renewal c.loop-proposer.world key c.in-Some.proposer (c.loop-proposer.invariant.due key was) (sym c.in-Some.ensures.next))
    c.in_ok-renew.ensures.ok (renew_idle _ c.loop-proposer.world c.renew.new.self c.in-Some.proposer c.in_ok-renew.ensures.step)

pub loop-proposer-smaller : goal.loop-proposer-smaller
loop-proposer-smaller g c = (renewed g c c.requires.due.0 c.requires.due.1).fewer

pub loop-proposer-preserved : goal.loop-proposer-preserved
loop-proposer-preserved g c = record {
  taken = λ by. collections.one_more (c.loop-proposer.invariant.taken by)
      (goes_on_due c.loop-proposer.world c.requires.due.0 _ (due_renewal c.loop-proposer.world c.requires.due.0 c.in-Some.proposer (c.loop-proposer.invariant.due c.requires.due.0 c.requires.due.1) (sym c.in-Some.ensures.next)))
      (collections.renews c.in-Some.proposer c.in_ok-renew.ensures.step);
  due = λ key was. (renewed g c key was).still;
  idle = both_idle c.args.world.now c.loop-proposer.world c.renew.new.self c.loop-proposer.invariant.idle (renew_idle _ c.loop-proposer.world c.renew.new.self c.in-Some.proposer c.in_ok-renew.ensures.step);
}

pub returns-in_err-renew-clause-taken : goal.returns-in_err-renew-clause-taken
returns-in_err-renew-clause-taken g c by =
    collections.one_more (c.loop-proposer.invariant.taken by)
    (goes_on_due c.loop-proposer.world c.requires.due.0 _ (due_renewal c.loop-proposer.world c.requires.due.0 c.in-Some.proposer (c.loop-proposer.invariant.due c.requires.due.0 c.requires.due.1) (sym c.in-Some.ensures.next)))
    (collections.renews c.in-Some.proposer c.in_err-renew.ensures.step)

pub returns-in_err-renew-clause-idle : goal.returns-in_err-renew-clause-idle
returns-in_err-renew-clause-idle g c = both_idle c.args.world.now c.loop-proposer.world c.renew.new.self c.loop-proposer.invariant.idle (renew_idle _ c.loop-proposer.world c.renew.new.self c.in-Some.proposer c.in_err-renew.ensures.step)

pub returns-clause-due : goal.returns-clause-due
returns-clause-due g c key was = all_renewed c.loop-proposer.world key (c.loop-proposer.invariant.due key was) (sym c.renew_next.ensures.next ∙ c.in_default.is)
