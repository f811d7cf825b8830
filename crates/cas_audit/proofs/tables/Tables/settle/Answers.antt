use Rattle.std.proofs.Common.{◌≡◌, ◌-◌, ◌<◌, suc, arith, sym, subst}
use Rattle.std.specs.Prelude.{◌==◌}
use mathlib.Core.Logic.{inl, inr}
use Rattle.indexmap.specs.IndexMap.{get}
use Rattle.cas_base.proofs.Bools.{true_or_false, not_both}
use Rattle.cas_record.specs.Histories.Chain.{chain_of}
use Rattle.cas_record.proofs.Tests.{nat_same, nat_is}
use Rattle.cas_audit.specs.Tables.{IsFoundIn, same_place}
use Rattle.cas_audit.proofs.tables.Tables.settle.Goals as goal

pub loop-step-preserved : goal.loop-step-preserved
loop-step-preserved c =
    let key = c.args.key.now in
    let inv = c.loop-step.invariant in
    let step = c.loop-step.step in
    let long = c.in_ok-long.long in
    let place = long - 1 - (step - c.args.settled) in
    let new = c.settle_one.new.self in
    record {
      low = omega (arith, inv.low);
      tables = λ marks audit is. c.in_ok-found.ensures.tables marks (inv.tables marks audit is) (omega (arith, is, inv.low, c.loop-step-test.true));
      room = λ room. c.in_ok-found.ensures.room (inv.room room);
      long = inv.long;
      reaches = λ marks left audit is left_is.
          c.in_ok-found.ensures.next marks (record { are = inv.tables marks audit is; legal = audit.legal }) (chain_of key c.args.ballot marks) left (inv.reaches marks (suc left) audit is (omega (arith, left_is)));
      found = λ marks at audit is beyond within.
          let entries = chain_of key c.args.ballot marks in
          elim (true_or_false (at == place)) [
            | inl e ↦
                let same : place ≡ at = sym (nat_same {a = at} {b = place} e) in
                subst (λ p. IsFoundIn key marks entries p (get same_place new.settled (key, p))) same
                (c.in_ok-found.ensures.here marks entries (inv.reaches marks (suc place) audit is (omega (arith, inv.low, c.loop-step-test.true))))
            | inr e ↦
                let past : place < at = omega (arith, inv.low, c.loop-step-test.true, beyond, λ (same : at ≡ place). not_both (at == place) (nat_is {a = at} {b = place} same) e) in
                subst (IsFoundIn key marks entries at) (sym (c.in_ok-found.ensures.others at past)) (inv.found marks at audit is (omega (arith, inv.low, c.loop-step-test.true, past)) within)
          ];
    }
