use Rattle.std.proofs.Common.{ℕ, Option, length, subst}
use Rattle.casreg_script.specs.Frames.Conditions.{Names}
use Rattle.casreg_script.specs.Frames.Strays.{none, one}
use Rattle.casreg_script.proofs.Frames.Straying.{strays_under_way}
use Rattle.casreg_script.proofs.strays.let_in.Goals as goal

pub returns-in-Some-clause-lets_in : goal.returns-in-Some-clause-lets_in
returns-in-Some-clause-lets_in g c by is =
    let names = c.stray.ensures.names by is in
    record {
      view = names.view;
      is = names.is;
      has = one c.in-Some.place c.stray-in-Some.result (subst (λ (o : Option ℕ). Names (length c.args.world.now.flow.late) by o names.view) c.in-Some.is (subst (λ (n : ℕ). Names n by c.stray.result names.view) c.late.ensures names.has)) c.stray-in-Some.ensures;
    }

pub returns-in-Some-clause-under_way : goal.returns-in-Some-clause-under_way
returns-in-Some-clause-under_way g c = strays_under_way _ c.args.world.now c.stray-in-Some.new.world c.in-Some.place c.stray-in-Some.result c.stray-in-Some.ensures

pub returns-in_default-clause-lets_in : goal.returns-in_default-clause-lets_in
returns-in_default-clause-lets_in g c by is =
    let names = c.stray.ensures.names by is in
    record { view = names.view; is = names.is; has = none (subst (λ (o : Option ℕ). Names (length c.args.world.now.flow.late) by o names.view) c.in_default.is (subst (λ (n : ℕ). Names n by c.stray.result names.view) c.late.ensures names.has)) }
