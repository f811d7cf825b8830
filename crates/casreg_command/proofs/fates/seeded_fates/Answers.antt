use Rattle.std.proofs.Common.{◌≡◌, ℕ, ◌+◌, List, length, sym, subst, arith}
use Rattle.cas_fate.specs.declared.seeded.Seeded.{Seeded}
use Rattle.casreg_command.specs.Seeds.{IsSeededBy, AreSeeded}
use Rattle.casreg_command.proofs.Seeds.{seeded_snoc}
use Rattle.casreg_command.proofs.fates.seeded_fates.Goals as goal

pub loop-caller-preserved : goal.loop-caller-preserved
loop-caller-preserved c =
    let at : length c.loop-caller.fates.items ≡ c.loop-caller.caller = omega (arith, c.loop-caller.fates.ok.0, c.loop-caller.invariant.made) in
    let seed : c.from-in-loop-caller.result ≡ 0 + length c.loop-caller.fates.items = omega (arith, at, c.from-in-loop-caller.ensures) in
    let is : IsSeededBy c.from-in-loop-caller.result c.new.result = record { random = c.new.ensures.random; harms = c.new.ensures.harms } in
    record {
      made = omega (arith, c.in_ok-push.ensures.len, c.loop-caller.invariant.made);
      seeded = subst (λ (fates : List Seeded). AreSeeded 0 fates) (sym c.in_ok-push.ensures.items)
          (seeded_snoc 0 c.loop-caller.fates.items c.new.result c.loop-caller.invariant.seeded (subst (λ (n : ℕ). IsSeededBy n c.new.result) seed is));
    }
