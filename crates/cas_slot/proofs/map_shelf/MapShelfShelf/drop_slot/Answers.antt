use Rattle.std.proofs.Common.{◌∙◌, ap, sym, subst, arith, inr, Ok}
use Rattle.cas_slot.specs.Limits.{AllBallotsFit}
use Rattle.cas_slot.proofs.LimitLemmas.{removal_fits}
use Rattle.cas_slot.proofs.SlotsLemmas.{drop-slots}
use Rattle.cas_slot.proofs.map_shelf.MapShelfShelf.drop_slot.Goals as goal

pub returns-clause-ok : goal.returns-clause-ok
returns-clause-ok c = rw (← c.self.view_is) (ap (λ slots. record { slots = slots; ages = c.self.inside.ages }) (drop-slots _ _ _ c.remove.ensures.updates.0))

pub returns-clause-any_moment : goal.returns-clause-any_moment
returns-clause-any_moment c = λ _. record {
  later = omega arith;
  each = λ left is. inr (is ∙ ap Ok (returns-clause-ok c));
}

pub returns-clause-up : goal.returns-clause-up
returns-clause-up c = subst AllBallotsFit (sym (returns-clause-ok c)) (removal_fits c.args.self.now c.args.key.now c.requires)

pub invariant_of-self : goal.invariant_of-self
invariant_of-self c = returns-clause-up c
