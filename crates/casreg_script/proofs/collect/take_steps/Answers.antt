use Rattle.cas_model.specs.View.{meaning}
use Rattle.cas_collect.specs.declared.collect.CollectStep.TheVariants as due
use Rattle.casreg_script.specs.Collection.Collections.{gathers, asks}
use Rattle.casreg_script.proofs.Exchanges.Asking.{both_idle, keeps_idle}
use Rattle.casreg_script.proofs.Collection.Collecting.{may_gather_round, as_gather_round, gather_round_idle, one_step, taken_on, taken_then, led_round, led_renewals, led_ages, led_floor, led_removal, due_step, may_ask_due}
use Rattle.casreg_script.proofs.collect.take_steps.Goals as goal

pub gather-requires : goal.gather-requires
gather-requires g c = may_gather_round c.args.world.now c.requires.tombstone_set.0 c.requires.tombstone_set.1

pub returns-in_err-gather-clause-taken : goal.returns-in_err-gather-clause-taken
returns-in_err-gather-clause-taken g c by is =
    record { view = by; is = is; has = one_step c.requires.tombstone_set.0 due.Round c.requires.tombstone_set.1.due (gathers (as_gather_round (meaning g.S.Shelf g.V.Disk) c.args.world.now c.gather.new.self c.requires.tombstone_set.0 c.requires.tombstone_set.1 c.gather.ensures.step)) }

pub returns-in_err-gather-clause-idle : goal.returns-in_err-gather-clause-idle
returns-in_err-gather-clause-idle g c = gather_round_idle c.args.world.now c.gather.new.self (as_gather_round (meaning g.S.Shelf g.V.Disk) c.args.world.now c.gather.new.self c.requires.tombstone_set.0 c.requires.tombstone_set.1 c.gather.ensures.step)

pub renew-requires : goal.renew-requires
renew-requires g c =
    let round = led_round (meaning g.S.Shelf g.V.Disk) {net = c.requires.network.0} c.args.world.now c.gather.new.self c.requires.tombstone_set.0 c.in_ok-gather.field-0 c.requires.tombstone_set.1 c.gather.ensures.step c.in_ok-gather.ensures.ok in
    record { due = (c.requires.tombstone_set.0, round.now_due) }

pub returns-in_err-renew-clause-taken : goal.returns-in_err-renew-clause-taken
returns-in_err-renew-clause-taken g c by is =
    let round = led_round (meaning g.S.Shelf g.V.Disk) {net = by} c.args.world.now c.gather.new.self c.requires.tombstone_set.0 c.in_ok-gather.field-0 c.requires.tombstone_set.1 c.gather.ensures.step c.in_ok-gather.ensures.ok in
    record { view = by; is = is; has = taken_on round.taken (c.in_err-renew.ensures.taken by) }

pub returns-in_err-renew-clause-idle : goal.returns-in_err-renew-clause-idle
returns-in_err-renew-clause-idle g c =
    let round = led_round (meaning g.S.Shelf g.V.Disk) {net = c.requires.network.0} c.args.world.now c.gather.new.self c.requires.tombstone_set.0 c.in_ok-gather.field-0 c.requires.tombstone_set.1 c.gather.ensures.step c.in_ok-gather.ensures.ok in
    both_idle c.args.world.now c.gather.new.self c.renew.new.world round.idle c.renew.ensures.idle

pub exchange-requires-clause-may : goal.exchange-requires-clause-may
exchange-requires-clause-may g c =
    let round = led_round (meaning g.S.Shelf g.V.Disk) {net = c.requires.network.0} c.args.world.now c.gather.new.self c.requires.tombstone_set.0 c.in_ok-gather.field-0 c.requires.tombstone_set.1 c.gather.ensures.step c.in_ok-gather.ensures.ok in
    let renewals = led_renewals (meaning g.S.Shelf g.V.Disk) {net = c.requires.network.0} c.args.world.now c.renew.new.world c.requires.tombstone_set.0 c.gather.new.self round (c.in_ok-renew.ensures.taken c.requires.network.0) (c.in_ok-renew.ensures.due c.requires.tombstone_set.0 round.now_due) c.renew.ensures.idle in
    may_ask_due c.renew.new.world c.requires.tombstone_set.0 due.Ages renewals.now_due

pub returns-in_err-exchange-clause-taken : goal.returns-in_err-exchange-clause-taken
returns-in_err-exchange-clause-taken g c by is =
    let round = led_round (meaning g.S.Shelf g.V.Disk) {net = by} c.args.world.now c.gather.new.self c.requires.tombstone_set.0 c.in_ok-gather.field-0 c.requires.tombstone_set.1 c.gather.ensures.step c.in_ok-gather.ensures.ok in
    let renewals = led_renewals (meaning g.S.Shelf g.V.Disk) {net = by} c.args.world.now c.renew.new.world c.requires.tombstone_set.0 c.gather.new.self round (c.in_ok-renew.ensures.taken by) (c.in_ok-renew.ensures.due c.requires.tombstone_set.0 round.now_due) c.renew.ensures.idle in
    let last = c.in_err-exchange.ensures.asks by is in
    record { view = last.view; is = last.is; has = taken_then c.requires.tombstone_set.0 due.Ages renewals (asks last.has) }

pub returns-in_err-exchange-clause-idle : goal.returns-in_err-exchange-clause-idle
returns-in_err-exchange-clause-idle g c =
    let round = led_round (meaning g.S.Shelf g.V.Disk) {net = c.requires.network.0} c.args.world.now c.gather.new.self c.requires.tombstone_set.0 c.in_ok-gather.field-0 c.requires.tombstone_set.1 c.gather.ensures.step c.in_ok-gather.ensures.ok in
    let renewals = led_renewals (meaning g.S.Shelf g.V.Disk) {net = c.requires.network.0} c.args.world.now c.renew.new.world c.requires.tombstone_set.0 c.gather.new.self round (c.in_ok-renew.ensures.taken c.requires.network.0) (c.in_ok-renew.ensures.due c.requires.tombstone_set.0 round.now_due) c.renew.ensures.idle in
    both_idle c.args.world.now c.renew.new.world c.exchange.new.world renewals.idle (keeps_idle c.renew.new.world c.exchange.new.world c.exchange.ensures.calls)

pub floor-requires : goal.floor-requires
floor-requires g c =
    let first_ = c.in_ok-exchange.ensures.asks c.requires.network.0 c.requires.network.1 in
    let round = led_round (meaning g.S.Shelf g.V.Disk) {net = c.requires.network.0} c.args.world.now c.gather.new.self c.requires.tombstone_set.0 c.in_ok-gather.field-0 c.requires.tombstone_set.1 c.gather.ensures.step c.in_ok-gather.ensures.ok in
    let renewals = led_renewals (meaning g.S.Shelf g.V.Disk) {net = c.requires.network.0} c.args.world.now c.renew.new.world c.requires.tombstone_set.0 c.gather.new.self round (c.in_ok-renew.ensures.taken c.requires.network.0) (c.in_ok-renew.ensures.due c.requires.tombstone_set.0 round.now_due) c.renew.ensures.idle in
    let ages = led_ages (meaning g.S.Shelf g.V.Disk) {net = c.requires.network.0} c.args.world.now c.exchange.new.world c.requires.tombstone_set.0 c.renew.new.world c.in_ok-exchange.field-0 renewals first_.has c.in_ok-exchange.ensures.gathered c.exchange.ensures.calls in
    due_step c.exchange.new.world c.requires.tombstone_set.0 due.Floor ages.now_due

pub exchange-requires-2-clause-may : goal.exchange-requires-2-clause-may
exchange-requires-2-clause-may g c =
    let first_ = c.in_ok-exchange.ensures.asks c.requires.network.0 c.requires.network.1 in
    let round = led_round (meaning g.S.Shelf g.V.Disk) {net = c.requires.network.0} c.args.world.now c.gather.new.self c.requires.tombstone_set.0 c.in_ok-gather.field-0 c.requires.tombstone_set.1 c.gather.ensures.step c.in_ok-gather.ensures.ok in
    let renewals = led_renewals (meaning g.S.Shelf g.V.Disk) {net = c.requires.network.0} c.args.world.now c.renew.new.world c.requires.tombstone_set.0 c.gather.new.self round (c.in_ok-renew.ensures.taken c.requires.network.0) (c.in_ok-renew.ensures.due c.requires.tombstone_set.0 round.now_due) c.renew.ensures.idle in
    let ages = led_ages (meaning g.S.Shelf g.V.Disk) {net = c.requires.network.0} c.args.world.now c.exchange.new.world c.requires.tombstone_set.0 c.renew.new.world c.in_ok-exchange.field-0 renewals first_.has c.in_ok-exchange.ensures.gathered c.exchange.ensures.calls in
    let floor = led_floor (meaning g.S.Shelf g.V.Disk) {net = c.requires.network.0} c.args.world.now c.floor.new.self c.requires.tombstone_set.0 c.exchange.new.world ages c.floor.ensures.step c.floor.ensures.goes_on in
    may_ask_due c.floor.new.self c.requires.tombstone_set.0 due.Remove floor.now_due

pub exchange-requires-2-clause-network : goal.exchange-requires-2-clause-network
exchange-requires-2-clause-network g c = c.in_ok-exchange.ensures.network c.requires.network.0 c.requires.network.1

pub returns-in_err-exchange-2-clause-taken : goal.returns-in_err-exchange-2-clause-taken
returns-in_err-exchange-2-clause-taken g c by is =
    let first_ = c.in_ok-exchange.ensures.asks by is in
    let last = c.in_err-exchange-2.ensures.asks first_.view first_.is in
    let round = led_round (meaning g.S.Shelf g.V.Disk) {net = by} c.args.world.now c.gather.new.self c.requires.tombstone_set.0 c.in_ok-gather.field-0 c.requires.tombstone_set.1 c.gather.ensures.step c.in_ok-gather.ensures.ok in
    let renewals = led_renewals (meaning g.S.Shelf g.V.Disk) {net = by} c.args.world.now c.renew.new.world c.requires.tombstone_set.0 c.gather.new.self round (c.in_ok-renew.ensures.taken by) (c.in_ok-renew.ensures.due c.requires.tombstone_set.0 round.now_due) c.renew.ensures.idle in
    let ages = led_ages (meaning g.S.Shelf g.V.Disk) {net = by} c.args.world.now c.exchange.new.world c.requires.tombstone_set.0 c.renew.new.world c.in_ok-exchange.field-0 renewals first_.has c.in_ok-exchange.ensures.gathered c.exchange.ensures.calls in
    let floor = led_floor (meaning g.S.Shelf g.V.Disk) {net = by} c.args.world.now c.floor.new.self c.requires.tombstone_set.0 c.exchange.new.world ages c.floor.ensures.step c.floor.ensures.goes_on in
    record { view = last.view; is = last.is; has = taken_then c.requires.tombstone_set.0 due.Remove floor (asks last.has) }

pub returns-in_err-exchange-2-clause-idle : goal.returns-in_err-exchange-2-clause-idle
returns-in_err-exchange-2-clause-idle g c =
    let first_ = c.in_ok-exchange.ensures.asks c.requires.network.0 c.requires.network.1 in
    let round = led_round (meaning g.S.Shelf g.V.Disk) {net = c.requires.network.0} c.args.world.now c.gather.new.self c.requires.tombstone_set.0 c.in_ok-gather.field-0 c.requires.tombstone_set.1 c.gather.ensures.step c.in_ok-gather.ensures.ok in
    let renewals = led_renewals (meaning g.S.Shelf g.V.Disk) {net = c.requires.network.0} c.args.world.now c.renew.new.world c.requires.tombstone_set.0 c.gather.new.self round (c.in_ok-renew.ensures.taken c.requires.network.0) (c.in_ok-renew.ensures.due c.requires.tombstone_set.0 round.now_due) c.renew.ensures.idle in
    let ages = led_ages (meaning g.S.Shelf g.V.Disk) {net = c.requires.network.0} c.args.world.now c.exchange.new.world c.requires.tombstone_set.0 c.renew.new.world c.in_ok-exchange.field-0 renewals first_.has c.in_ok-exchange.ensures.gathered c.exchange.ensures.calls in
    let floor = led_floor (meaning g.S.Shelf g.V.Disk) {net = c.requires.network.0} c.args.world.now c.floor.new.self c.requires.tombstone_set.0 c.exchange.new.world ages c.floor.ensures.step c.floor.ensures.goes_on in
    both_idle c.args.world.now c.floor.new.self c.exchange-2.new.world floor.idle (keeps_idle c.floor.new.self c.exchange-2.new.world c.exchange-2.ensures.calls)

pub returns-clause-taken : goal.returns-clause-taken
returns-clause-taken g c by is =
    let first_ = c.in_ok-exchange.ensures.asks by is in
    let second = c.in_ok-exchange-2.ensures.asks first_.view first_.is in
    let round = led_round (meaning g.S.Shelf g.V.Disk) {net = by} c.args.world.now c.gather.new.self c.requires.tombstone_set.0 c.in_ok-gather.field-0 c.requires.tombstone_set.1 c.gather.ensures.step c.in_ok-gather.ensures.ok in
    let renewals = led_renewals (meaning g.S.Shelf g.V.Disk) {net = by} c.args.world.now c.renew.new.world c.requires.tombstone_set.0 c.gather.new.self round (c.in_ok-renew.ensures.taken by) (c.in_ok-renew.ensures.due c.requires.tombstone_set.0 round.now_due) c.renew.ensures.idle in
    let ages = led_ages (meaning g.S.Shelf g.V.Disk) {net = by} c.args.world.now c.exchange.new.world c.requires.tombstone_set.0 c.renew.new.world c.in_ok-exchange.field-0 renewals first_.has c.in_ok-exchange.ensures.gathered c.exchange.ensures.calls in
    let floor = led_floor (meaning g.S.Shelf g.V.Disk) {net = by} c.args.world.now c.floor.new.self c.requires.tombstone_set.0 c.exchange.new.world ages c.floor.ensures.step c.floor.ensures.goes_on in
    let removal = led_removal (meaning g.S.Shelf g.V.Disk) {net = by} c.args.world.now c.exchange-2.new.world c.requires.tombstone_set.0 c.floor.new.self c.in_ok-exchange-2.field-0 floor second.has c.in_ok-exchange-2.ensures.gathered c.exchange-2.ensures.calls in
    record { view = second.view; is = second.is; has = removal.taken }

pub returns-clause-end : goal.returns-clause-end
returns-clause-end g c key was =
    let first_ = c.in_ok-exchange.ensures.asks c.requires.network.0 c.requires.network.1 in
    let second = c.in_ok-exchange-2.ensures.asks first_.view first_.is in
    let round = led_round (meaning g.S.Shelf g.V.Disk) {net = c.requires.network.0} c.args.world.now c.gather.new.self key c.in_ok-gather.field-0 was c.gather.ensures.step c.in_ok-gather.ensures.ok in
    let renewals = led_renewals (meaning g.S.Shelf g.V.Disk) {net = c.requires.network.0} c.args.world.now c.renew.new.world key c.gather.new.self round (c.in_ok-renew.ensures.taken c.requires.network.0) (c.in_ok-renew.ensures.due key round.now_due) c.renew.ensures.idle in
    let ages = led_ages (meaning g.S.Shelf g.V.Disk) {net = c.requires.network.0} c.args.world.now c.exchange.new.world key c.renew.new.world c.in_ok-exchange.field-0 renewals first_.has c.in_ok-exchange.ensures.gathered c.exchange.ensures.calls in
    let floor = led_floor (meaning g.S.Shelf g.V.Disk) {net = c.requires.network.0} c.args.world.now c.floor.new.self key c.exchange.new.world ages c.floor.ensures.step c.floor.ensures.goes_on in
    let removal = led_removal (meaning g.S.Shelf g.V.Disk) {net = c.requires.network.0} c.args.world.now c.exchange-2.new.world key c.floor.new.self c.in_ok-exchange-2.field-0 floor second.has c.in_ok-exchange-2.ensures.gathered c.exchange-2.ensures.calls in
    removal.now_due

pub returns-clause-idle : goal.returns-clause-idle
returns-clause-idle g c =
    let first_ = c.in_ok-exchange.ensures.asks c.requires.network.0 c.requires.network.1 in
    let second = c.in_ok-exchange-2.ensures.asks first_.view first_.is in
    let round = led_round (meaning g.S.Shelf g.V.Disk) {net = c.requires.network.0} c.args.world.now c.gather.new.self c.requires.tombstone_set.0 c.in_ok-gather.field-0 c.requires.tombstone_set.1 c.gather.ensures.step c.in_ok-gather.ensures.ok in
    let renewals = led_renewals (meaning g.S.Shelf g.V.Disk) {net = c.requires.network.0} c.args.world.now c.renew.new.world c.requires.tombstone_set.0 c.gather.new.self round (c.in_ok-renew.ensures.taken c.requires.network.0) (c.in_ok-renew.ensures.due c.requires.tombstone_set.0 round.now_due) c.renew.ensures.idle in
    let ages = led_ages (meaning g.S.Shelf g.V.Disk) {net = c.requires.network.0} c.args.world.now c.exchange.new.world c.requires.tombstone_set.0 c.renew.new.world c.in_ok-exchange.field-0 renewals first_.has c.in_ok-exchange.ensures.gathered c.exchange.ensures.calls in
    let floor = led_floor (meaning g.S.Shelf g.V.Disk) {net = c.requires.network.0} c.args.world.now c.floor.new.self c.requires.tombstone_set.0 c.exchange.new.world ages c.floor.ensures.step c.floor.ensures.goes_on in
    let removal = led_removal (meaning g.S.Shelf g.V.Disk) {net = c.requires.network.0} c.args.world.now c.exchange-2.new.world c.requires.tombstone_set.0 c.floor.new.self c.in_ok-exchange-2.field-0 floor second.has c.in_ok-exchange-2.ensures.gathered c.exchange-2.ensures.calls in
    removal.idle
