use Rattle.std.proofs.Common.{◌∙◌, ap, sym, subst, refl, arith, inr, Ok}
use Rattle.std.proofs.lemmas.Result.{err_from_is_err_and}
use Rattle.cas_slot.specs.Limits.{AllBallotsFit}
use Rattle.cas_slot.proofs.LimitLemmas.{put_fits}
use Rattle.cas_slot.proofs.SlotsLemmas.{put-slots}
use Rattle.cas_slot.proofs.map_shelf.MapShelfShelf.put.Goals as goal

pub returns-then-is_full_for-clause-full : goal.returns-then-is_full_for-clause-full
returns-then-is_full_for-clause-full c = (λ _. rw (← c.self.view_is) (c.is_full_for.ensures.full c.if-is_full_for.true), λ _. refl)

pub returns-in_err-copy-clause-full : goal.returns-in_err-copy-clause-full
returns-in_err-copy-clause-full c =
    let p = err_from_is_err_and c.from_residual.result c.from_residual.ensures.1 in
    (λ e. absurd (cc (p.1, p.2, e)), λ f. absurd (let yes = c.is_full_for.ensures.room (rw (← c.self.view_is) at f) in cc))

pub returns-in_err-insert-clause-full : goal.returns-in_err-insert-clause-full
returns-in_err-insert-clause-full c =
    let p = err_from_is_err_and c.from_residual-in_err-insert.result c.from_residual-in_err-insert.ensures.1 in
    (λ e. absurd (cc (p.1, p.2, e)), λ f. absurd (let yes = c.is_full_for.ensures.room (rw (← c.self.view_is) at f) in cc))

pub returns-clause-ok : goal.returns-clause-ok
returns-clause-ok c = rw (← c.self.view_is, ← c.in_ok-copy.ensures) (ap (λ slots. record { slots = slots; ages = c.self.inside.ages }) (put-slots _ _ _ _ c.in_ok-insert.ensures.updates.0))

pub returns-clause-full : goal.returns-clause-full
returns-clause-full c = (λ e. absurd cc, λ f. absurd (let yes = c.is_full_for.ensures.room (rw (← c.self.view_is) at f) in cc))

pub returns-clause-any_moment : goal.returns-clause-any_moment
returns-clause-any_moment c = λ _. record {
  later = omega arith;
  each = λ left is. inr (is ∙ ap Ok (returns-clause-ok c));
}

pub returns-clause-up : goal.returns-clause-up
returns-clause-up c = subst AllBallotsFit (sym (returns-clause-ok c)) (put_fits c.args.self.now c.args.key.now c.args.slot c.requires.up c.requires.fits)

pub invariant_of-self-2 : goal.invariant_of-self-2
invariant_of-self-2 c = returns-clause-up c
