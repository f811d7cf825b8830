use Rattle.std.proofs.Common.{◌≡◌, ◌<◌, Option, Some, refl, inr, sym, ap, subst, ◌∙◌}
use Rattle.std.specs.Prelude.{IsSome}
use Rattle.cas_world_calls.specs.Council.{due_in}
use Rattle.cas_model.specs.Council.{OrderView}
use Rattle.cas_protocol.specs.Protocol.{is_done}
use Rattle.cas_model.specs.View.{View, meaning}
use Rattle.cas_world.specs.Eras.Plans.{IsUnderWay}
use Rattle.casreg_script.specs.Calls.Changes.{IsChange}
use Rattle.casreg_script.specs.Eras.Membership.{HasAdvanced, none, one_more, rescans, no_memory, keys_listed}
use Rattle.casreg_script.specs.Frames.Network.{Through}
use Rattle.casreg_script.specs.Exchanges.Orders.{KeepsIdle}
use Rattle.casreg_script.proofs.Exchanges.Asking.{both_idle, keeps_idle}
use Rattle.casreg_script.proofs.Eras.Carrying.{GoesFrom, same_goes, then_goes, goes_on_from, takes_from, change_idle, rescanned_from, rescan_goes}
use Rattle.casreg_script.proofs.Eras.Entering.{key_keeps}
use Rattle.casreg_script.proofs.Calls.Keeping.{change_leaves}
use Rattle.casreg_script.proofs.Eras.Rescanning.{Rescanned, is_rescan, not_done, told_stopped}
use Rattle.casreg_script.proofs.membership.rescan.Given.{Over}
use Rattle.casreg_script.proofs.membership.rescan.Goals as goal
use Rattle.casreg_script.proofs.membership.rescan.Goals.{After-drop-key-inside-in-Some}

pub loop-key-init : goal.loop-key-init
loop-key-init g c = record { advances = λ by is. record { view = by; is = is; has = none }; network = λ by is. (by, is); goes = same_goes c.args.world.now c.requires.free; takes = λ due. inr due }

pub due_key-requires : goal.due_key-requires
due_key-requires g c =
    let was = c.loop-key.invariant.goes.under_way c.requires.under_way.0 c.requires.under_way.1 in
    subst (λ (o : Option OrderView). IsSome o) (sym was.is_open) refl

pub returns-in_err-key-clause-advances : goal.returns-in_err-key-clause-advances
returns-in_err-key-clause-advances g c by is =
    let first_ = c.loop-key.invariant.advances by is in
    record { view = first_.view; is = first_.is; has = one_more first_.has (goes_on_from c.args.world.now c.loop-key.world c.requires.under_way.0 c.loop-key.invariant.goes c.requires.under_way.1) (no_memory c.in_err-key.ensures.step) }

pub returns-in_err-key-clause-idle : goal.returns-in_err-key-clause-idle
returns-in_err-key-clause-idle g c = both_idle c.args.world.now c.loop-key.world c.due_key.new.self c.loop-key.invariant.goes.idle (keeps_idle c.loop-key.world c.due_key.new.self (key_keeps c.loop-key.world c.due_key.new.self c.in_err-key.ensures.step))

-- ---- a key is due
goes_mid : (g : Over) (c : After-drop-key-inside-in-Some g) → GoesFrom c.args.world.now c.due_key.new.self
goes_mid g c = subst (GoesFrom c.args.world.now) (sym c.in_ok-key.ensures.unchanged) c.loop-key.invariant.goes

under_way : (g : Over) (c : After-drop-key-inside-in-Some g) → IsUnderWay c.due_key.new.self c.requires.under_way.0
under_way g c = (goes_mid g c).under_way c.requires.under_way.0 c.requires.under_way.1

due : (g : Over) (c : After-drop-key-inside-in-Some g) → due_in c.due_key.new.self.council.plan ≡ Some c.in-Some.key
due g c = ap (λ (w : View _ _). due_in w.council.plan) c.in_ok-key.ensures.unchanged ∙ sym c.in_ok-key.ensures.key ∙ c.in-Some.is

idle : (g : Over) (c : After-drop-key-inside-in-Some g) → KeepsIdle c.due_key.new.self c.change.new.world
idle g c = change_idle c.due_key.new.self c.change.new.world 0
    (change_leaves _ c.args.tries 0 c.in-Some.key c.args.program.now c.loop-key.halt c.change.new.halt c.due_key.new.self c.change.new.world c.change.result (c.change.ensures.change (c.loop-key.invariant.network c.requires.network.0 c.requires.network.1).0 (c.loop-key.invariant.network c.requires.network.0 c.requires.network.1).1).has) c.change.ensures.idle

advances : (g : Over) (c : After-drop-key-inside-in-Some g) → Through c.args.network.now c.change.new.network (λ by next. HasAdvanced (meaning g.S.Shelf g.V.Disk) c.args.tries by c.args.halt.now c.args.world.now next c.change.new.halt c.change.new.world)
advances g c by is =
    let first_ = c.loop-key.invariant.advances by is in
    let then_ = c.change.ensures.change first_.view first_.is in
    record {
      view = then_.view;
      is = then_.is;
      has = one_more (subst (λ (w : View _ _). HasAdvanced (meaning g.S.Shelf g.V.Disk) c.args.tries by c.args.halt.now c.args.world.now first_.view c.loop-key.halt w) (sym c.in_ok-key.ensures.unchanged) first_.has)
          (goes_on_from c.args.world.now c.due_key.new.self c.requires.under_way.0 (goes_mid g c) c.requires.under_way.1)
          (rescans c.in-Some.key c.change.result (due g c) (subst (λ (p : _). IsChange (meaning g.S.Shelf g.V.Disk) c.args.tries first_.view 0 c.in-Some.key p c.loop-key.halt c.due_key.new.self c.change.result then_.view c.change.new.halt c.change.new.world) c.requires.program then_.has));
    }

-- ---- it was done
so : (g : Over) (c : After-drop-key-inside-in-Some g) → Rescanned c.due_key.new.self c.change.new.world
so g c = rescanned_from c.due_key.new.self c.change.new.world c.requires.under_way.0 c.in-Some.key c.change.result (under_way g c) (due g c) (ap is_done c.in-Done.is) c.change.ensures.rescans

pub loop-key-smaller : goal.loop-key-smaller
loop-key-smaller g c = subst (λ (w : View _ _). keys_listed c.change.new.world < keys_listed w) c.in_ok-key.ensures.unchanged (so g c).fewer

pub loop-key-preserved : goal.loop-key-preserved
loop-key-preserved g c = record {
  advances = advances g c;
  network = λ by is. let before = c.loop-key.invariant.network by is in c.change.ensures.network before.0 before.1;
  goes = then_goes c.args.world.now c.due_key.new.self c.change.new.world (goes_mid g c) (rescan_goes c.due_key.new.self c.change.new.world (goes_mid g c).free (so g c) (idle g c));
  takes = λ was_due. takes_from c.args.world.now c.due_key.new.self c.change.new.world (goes_mid g c) (so g c).takes;
}

-- ---- it was not
pub returns-in_default-change : goal.returns-in_default-change
returns-in_default-change g c =
    let goes = subst (GoesFrom c.args.world.now) (sym c.in_ok-key.ensures.unchanged) c.loop-key.invariant.goes in
    let due = ap (λ (w : View _ _). due_in w.council.plan) c.in_ok-key.ensures.unchanged ∙ sym c.in_ok-key.ensures.key ∙ c.in-Some.is in
    record {
      advances = λ by is.
          let first_ = c.loop-key.invariant.advances by is in
          let then_ = c.change.ensures.change first_.view first_.is in
          record {
            view = then_.view;
            is = then_.is;
            has = one_more (subst (λ (w : View _ _). HasAdvanced (meaning g.S.Shelf g.V.Disk) c.args.tries by c.args.halt.now c.args.world.now first_.view c.loop-key.halt w) (sym c.in_ok-key.ensures.unchanged) first_.has)
                (goes_on_from c.args.world.now c.due_key.new.self c.requires.under_way.0 goes c.requires.under_way.1)
                (rescans c.in-Some.key c.change.result due (subst (λ (p : _). IsChange (meaning g.S.Shelf g.V.Disk) c.args.tries first_.view 0 c.in-Some.key p c.loop-key.halt c.due_key.new.self c.change.result then_.view c.change.new.halt c.change.new.world) c.requires.program then_.has));
          };
      under_way = λ asked was. tt;
      fewer = λ was_due. tt;
      no_more = tt;
      told = told_stopped c.due_key.new.self c.change.new.world c.in-Some.key c.change.result (is_rescan c.due_key.new.self c.requires.under_way.0 c.in-Some.key (goes.under_way c.requires.under_way.0 c.requires.under_way.1) due) (not_done c.change.result c.in_default-change.not-Done) c.change.ensures.rescans;
      network = λ by is. let before = c.loop-key.invariant.network by is in c.change.ensures.network before.0 before.1;
      free = tt;
      idle = both_idle c.args.world.now c.due_key.new.self c.change.new.world goes.idle
          (change_idle c.due_key.new.self c.change.new.world 0
          (change_leaves _ c.args.tries 0 c.in-Some.key c.args.program.now c.loop-key.halt c.change.new.halt c.due_key.new.self c.change.new.world c.change.result (c.change.ensures.change (c.loop-key.invariant.network c.requires.network.0 c.requires.network.1).0 (c.loop-key.invariant.network c.requires.network.0 c.requires.network.1).1).has) c.change.ensures.idle);
    }
