use Rattle.std.proofs.Common.{Option, inr, sym, subst, ◌∙◌}
use Rattle.std.specs.Prelude.{IsSome}
use Rattle.cas_world_calls.specs.declared.council.Gathered.{Gathered}
use Rattle.casreg_script.specs.Exchanges.Exchanges.{HasListed}
use Rattle.casreg_script.specs.Eras.Membership.{lists, none, one_more}
use Rattle.casreg_script.proofs.Exchanges.Asking.{both_idle, keeps_idle, may_list, none_due, still_partial, takes_step, is_whole}
use Rattle.casreg_script.proofs.Eras.Carrying.{same_goes, then_goes, goes_on_from, takes_from, list_goes}
use Rattle.casreg_script.proofs.Outcomes.{if_none, some_mapped}
use Rattle.casreg_script.proofs.membership.list.Goals as goal

pub pages-init : goal.pages-init
pages-init g c = record { advances = λ tries halt by is. record { view = by; is = is; has = none }; network = λ by is. (by, is); goes = same_goes c.args.world.now c.requires.free; settles = c.requires.settles; partial = if_none c.settle_key.result (sym c.is_some.ensures ∙ c.if-is_some.false) c.settle_key.ensures.none }

pub returns-then-is_some-clause-advances : goal.returns-then-is_some-clause-advances
returns-then-is_some-clause-advances g c tries halt by is = record { view = by; is = is; has = none }

pub returns-then-is_some-clause-listed : goal.returns-then-is_some-clause-listed
returns-then-is_some-clause-listed g c = inr (subst (λ (o : Option _). IsSome o) c.settle_key.ensures.key (some_mapped _ c.settle_key.result (sym c.is_some.ensures ∙ c.if-is_some.true)))

pub exchange-requires-clause-may : goal.exchange-requires-clause-may
exchange-requires-clause-may g c = may_list c.pages.world c.requires.under_way.0 (c.pages.invariant.goes.under_way c.requires.under_way.0 c.requires.under_way.1) c.pages.invariant.goes.free c.pages.invariant.settles c.pages.invariant.partial

pub returns-in_err-exchange-clause-advances : goal.returns-in_err-exchange-clause-advances
returns-in_err-exchange-clause-advances g c tries halt by is =
    let first_ = c.pages.invariant.advances tries halt by is in
    let asks = c.in_err-exchange.ensures.asks first_.view first_.is in
    record { view = asks.view; is = asks.is; has = one_more first_.has (goes_on_from c.args.world.now c.pages.world c.requires.under_way.0 c.pages.invariant.goes c.requires.under_way.1) (lists _ c.pages.invariant.settles (none_due c.pages.world.council.plan c.pages.invariant.partial) asks.has) }

pub returns-in_err-exchange-clause-idle : goal.returns-in_err-exchange-clause-idle
returns-in_err-exchange-clause-idle g c = both_idle c.args.world.now c.pages.world c.exchange.new.world c.pages.invariant.goes.idle (keeps_idle c.pages.world c.exchange.new.world c.in_err-exchange.ensures.calls)

pub pages-preserved : goal.pages-preserved
pages-preserved g c =
    let still = still_partial c.pages.world c.exchange.new.world (subst (λ (r : Gathered). HasListed c.pages.world r c.exchange.new.world) c.in-More.is c.in_ok-exchange.ensures.gathered) c.pages.invariant.settles in
    record {
      advances = λ tries halt by is.
          let first_ = c.pages.invariant.advances tries halt by is in
          let asks = c.in_ok-exchange.ensures.asks first_.view first_.is in
          record { view = asks.view; is = asks.is; has = one_more first_.has (goes_on_from c.args.world.now c.pages.world c.requires.under_way.0 c.pages.invariant.goes c.requires.under_way.1) (lists _ c.pages.invariant.settles (none_due c.pages.world.council.plan c.pages.invariant.partial) asks.has) };
      network = λ by is. let before = c.pages.invariant.network by is in c.in_ok-exchange.ensures.network before.0 before.1;
      goes = then_goes c.args.world.now c.pages.world c.exchange.new.world c.pages.invariant.goes (list_goes c.pages.world c.exchange.new.world c.in_ok-exchange.field-0 c.pages.invariant.goes.free c.in_ok-exchange.ensures.gathered c.in_ok-exchange.ensures.calls);
      settles = still.0;
      partial = still.1;
    }

pub returns : goal.returns
returns g c =
    let on = then_goes c.args.world.now c.pages.world c.exchange.new.world c.pages.invariant.goes (list_goes c.pages.world c.exchange.new.world c.in_ok-exchange.field-0 c.pages.invariant.goes.free c.in_ok-exchange.ensures.gathered c.in_ok-exchange.ensures.calls) in
    let whole = is_whole c.pages.world c.exchange.new.world c.in_ok-exchange.field-0 c.in_ok-exchange.ensures.gathered c.in_default.not-More in
    record {
      advances = λ tries halt by is.
          let first_ = c.pages.invariant.advances tries halt by is in
          let asks = c.in_ok-exchange.ensures.asks first_.view first_.is in
          record { view = asks.view; is = asks.is; has = one_more first_.has (goes_on_from c.args.world.now c.pages.world c.requires.under_way.0 c.pages.invariant.goes c.requires.under_way.1) (lists _ c.pages.invariant.settles (none_due c.pages.world.council.plan c.pages.invariant.partial) asks.has) };
      under_way = on.under_way;
      no_more = on.no_more;
      listed = takes_from c.args.world.now c.pages.world c.exchange.new.world c.pages.invariant.goes (takes_step c.pages.world c.exchange.new.world whole c.pages.invariant.settles);
      free = on.free;
      told = tt;
      network = λ by is. let before = c.pages.invariant.network by is in c.in_ok-exchange.ensures.network before.0 before.1;
      idle = on.idle;
    }
