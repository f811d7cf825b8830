use Rattle.std.proofs.Common.{inl, inr, arith}
use Rattle.casreg_script.proofs.Exchanges.Asking.{both_idle}
use Rattle.casreg_script.proofs.Eras.Entering.{advances_on}
use Rattle.casreg_script.proofs.Outcomes.{on_ok_then}
use Rattle.casreg_script.proofs.membership.settle.Goals as goal

pub rescan-requires-clause-under_way : goal.rescan-requires-clause-under_way
rescan-requires-clause-under_way g c = (c.requires.under_way.0, c.in_ok-list.ensures.under_way c.requires.under_way.0 c.requires.under_way.1)

pub rescan-requires-clause-network : goal.rescan-requires-clause-network
rescan-requires-clause-network g c = c.in_ok-list.ensures.network c.requires.network.0 c.requires.network.1

pub returns-in_err-list-clause-advances : goal.returns-in_err-list-clause-advances
returns-in_err-list-clause-advances g c = c.in_err-list.ensures.advances c.args.tries c.args.halt.now

pub returns-clause-advances : goal.returns-clause-advances
returns-clause-advances g c by is =
    let first_ = c.in_ok-list.ensures.advances c.args.tries c.args.halt.now by is in
    let then_ = c.rescan.ensures.advances first_.view first_.is in
    record { view = then_.view; is = then_.is; has = advances_on first_.has then_.has }

pub returns-clause-under_way : goal.returns-clause-under_way
returns-clause-under_way g c asked was = c.rescan.ensures.under_way asked (c.in_ok-list.ensures.under_way asked was)

pub returns-clause-fewer : goal.returns-clause-fewer
returns-clause-fewer g c = elim c.in_ok-list.ensures.listed [
  | inl less ↦ on_ok_then c.rescan.result c.rescan.ensures.no_more (λ no_more. omega (arith, less, no_more))
  | inr due ↦ on_ok_then c.rescan.result (c.rescan.ensures.fewer due) (λ fewer. omega (arith, fewer, c.in_ok-list.ensures.no_more))
]

pub returns-clause-idle : goal.returns-clause-idle
returns-clause-idle g c = both_idle c.args.world.now c.list.new.world c.rescan.new.world c.in_ok-list.ensures.idle c.rescan.ensures.idle
