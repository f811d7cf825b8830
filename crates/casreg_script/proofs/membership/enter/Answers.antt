use Rattle.std.proofs.Common.{inl, inr, sym, subst, arith}
use Rattle.cas_record.specs.declared.operator.Asked.{Asked}
use Rattle.cas_world.specs.Eras.Plans.{IsUnderWay}
use Rattle.casreg_script.specs.Eras.Membership.{enters, none, one_more}
use Rattle.casreg_script.proofs.Exchanges.Asking.{both_idle}
use Rattle.casreg_script.proofs.Eras.Carrying.{same_goes, then_goes, goes_on_from, enter_goes}
use Rattle.casreg_script.proofs.Eras.Entering.{EntersNextEra, may_enter, enter_idle, enters_so}
use Rattle.casreg_script.proofs.membership.enter.Given.{Over}
use Rattle.casreg_script.proofs.membership.enter.Goals as goal
use Rattle.casreg_script.proofs.membership.enter.Goals.{In_ok-enter_era}

pub loop-proposer-init : goal.loop-proposer-init
loop-proposer-init g c = record { advances = λ tries by halt. none; goes = same_goes c.args.world.now c.requires.free; takes = inr c.requires.due }

pub enter_era-requires : goal.enter_era-requires
enter_era-requires g c = may_enter c.loop-proposer.world c.requires.under_way.0 c.in-Some.proposer (c.loop-proposer.invariant.goes.under_way c.requires.under_way.0 c.requires.under_way.1) (sym c.in-Some.ensures.next)

under_way : (g : Over) (c : In_ok-enter_era g) (asked : Asked) → IsUnderWay c.loop-proposer.world asked → IsUnderWay c.enter_era.new.self asked
under_way g c asked was = subst (IsUnderWay c.enter_era.new.self) was.is_for (c.in_ok-enter_era.ensures.ok was.order was.is_open)

enters_on : (g : Over) (c : In_ok-enter_era g) → EntersNextEra c.loop-proposer.world c.enter_era.new.self
enters_on g c =
    enters_so _ c.loop-proposer.world c.enter_era.new.self c.in-Some.proposer c.requires.under_way.0 c.in-Some.ensures.known
    (under_way g c c.requires.under_way.0 (c.loop-proposer.invariant.goes.under_way c.requires.under_way.0 c.requires.under_way.1)) c.in_ok-enter_era.ensures.step

pub loop-proposer-smaller : goal.loop-proposer-smaller
loop-proposer-smaller g c = (enters_on g c).fewer

pub loop-proposer-preserved : goal.loop-proposer-preserved
loop-proposer-preserved g c =
    let goes = c.loop-proposer.invariant.goes in
    record {
      advances = λ tries by halt. one_more (c.loop-proposer.invariant.advances tries by halt) (goes_on_from c.args.world.now c.loop-proposer.world c.requires.under_way.0 goes c.requires.under_way.1) (enters c.in-Some.proposer (sym c.in-Some.ensures.next) c.in_ok-enter_era.ensures.step);
      goes = then_goes c.args.world.now c.loop-proposer.world c.enter_era.new.self goes (enter_goes _ c.loop-proposer.world c.enter_era.new.self c.in-Some.proposer goes.free (under_way g c) (enters_on g c) c.in_ok-enter_era.ensures.step);
      takes = elim (enters_on g c).takes [ inl less ↦ inl (omega (arith, less, goes.no_more)) | inr due ↦ inr due ];
    }

pub returns-in_err-enter_era-clause-advances : goal.returns-in_err-enter_era-clause-advances
returns-in_err-enter_era-clause-advances g c tries by halt =
    one_more (c.loop-proposer.invariant.advances tries by halt) (goes_on_from c.args.world.now c.loop-proposer.world c.requires.under_way.0 c.loop-proposer.invariant.goes c.requires.under_way.1) (enters c.in-Some.proposer (sym c.in-Some.ensures.next) c.in_err-enter_era.ensures.step)

pub returns-in_err-enter_era-clause-idle : goal.returns-in_err-enter_era-clause-idle
returns-in_err-enter_era-clause-idle g c = both_idle c.args.world.now c.loop-proposer.world c.enter_era.new.self c.loop-proposer.invariant.goes.idle (enter_idle _ c.loop-proposer.world c.enter_era.new.self c.in-Some.proposer c.in_err-enter_era.ensures.step)
