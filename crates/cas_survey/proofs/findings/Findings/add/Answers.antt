use Rattle.std.proofs.Common.{◌≡◌, ◌∙◌, ◌<◌, ◌+◌, ℕ, List, take, length, get_or, sym, ap, subst, refl, arith}
use Rattle.std.specs.Prelude.{◌||◌}
use Rattle.std.specs.Ordering.{nat_cmp, eq_by_cmp}
use Rattle.std.specs.Cmp.Lexicographic.{slice_cmp}
use Rattle.std.proofs.lemmas.List.Folds.{list_any_more}
use Rattle.cas_survey.proofs.Gathering.{CountsOf, gathers_more, counts_more, gathers_all, counts_all}
use Rattle.cas_survey.proofs.Keys.{is_one_of}
use Rattle.cas_survey.proofs.findings.Findings.add.Goals as goal

-- one more key is among those that were looked at
next_is : (keys : List (List ℕ)) (at : ℕ) (key : List ℕ) → at < length keys → key ≡ get_or keys at key
    → (q : List ℕ) → is_one_of (take (at + 1) keys) q ≡ (is_one_of (take at keys) q || eq_by_cmp (slice_cmp nat_cmp) q key)
next_is keys at key low is q = list_any_more (eq_by_cmp (slice_cmp nat_cmp) q) keys at key low ∙ ap (λ (k : List ℕ). is_one_of (take at keys) q || eq_by_cmp (slice_cmp nat_cmp) q k) (sym is)

pub loop-key-preserved : goal.loop-key-preserved
loop-key-preserved g c =
    let keys = c.deref-key-items.result.now in
    let at = c.loop-key.key-index in
    let next = next_is keys at c.key-item.result c.loop-key-test.true c.key-item.is in
    let added = c.in_ok-add_key.ensures {u = tt} in
    record {
      slots = gathers_more (take at keys) (take (at + 1) keys) c.key-item.result (g.S.Shelf.contents c.args.shelf.now) _ _ _ next c.loop-key.invariant.slots added.slots;
      past = subst (CountsOf (take (at + 1) keys) (g.S.Shelf.contents c.args.shelf.now) c.args.self.now.past) (sym added.past)
          (counts_more (take at keys) (take (at + 1) keys) c.key-item.result (g.S.Shelf.contents c.args.shelf.now) c.args.self.now.past c.loop-key.self.past _ next c.loop-key.invariant.past refl);
    }

pub returns-clause-slots : goal.returns-clause-slots
returns-clause-slots g c = gathers_all 18446744073709551615 c.loop-key.key-index c.deref-key-items.result.now (g.S.Shelf.contents c.args.shelf.now) _ _
    (c.deref-key-items.ensures.value ∙ c.in_ok-keys.ensures {u = tt}) (omega (arith, c.deref-key-items.type_inv.1)) c.loop-key-test.false c.loop-key.invariant.slots

pub returns-clause-past : goal.returns-clause-past
returns-clause-past g c = counts_all 18446744073709551615 c.loop-key.key-index c.deref-key-items.result.now (g.S.Shelf.contents c.args.shelf.now) _ _
    (c.deref-key-items.ensures.value ∙ c.in_ok-keys.ensures {u = tt}) (omega (arith, c.deref-key-items.type_inv.1)) c.loop-key-test.false c.loop-key.invariant.past
