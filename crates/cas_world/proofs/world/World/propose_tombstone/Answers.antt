use Rattle.std.proofs.Common.{◌≡◌, ℕ, Some, Ok, refl, sym, ap, subst, ◌∙◌, arith}
use Rattle.cas_proposer.specs.Desk.{DeskView}
use Rattle.cas_model.specs.View.{View, IsAt}
use Rattle.cas_model.proofs.Places.{at_one, some_is}
use Rattle.cas_world.specs.Collection.Collect.{FindsHeld}
use Rattle.cas_world.specs.declared.collect.Reading.TheVariants.{Held}
use Rattle.cas_world.proofs.Parts.{at_place}
use Rattle.cas_world.proofs.world.World.propose_tombstone.Goals as goal

pub read_held-requires-clause-finds : goal.read_held-requires-clause-finds
read_held-requires-clause-finds g c desk at = subst (λ (d : DeskView g.row.V.Denot). FindsHeld d c.in-Some.version) (at_one c.args.self.now.desks 0 (subst (λ (v : (View g.row.S.Denot g.row.V.Denot)). IsAt v.desks 0 c.index.result.now) c.self.view_is (at_place c.self.inside.desks.items 0 0 c.index.result.now refl (omega (arith, c.self.invariant.safe.sound.desks)) c.index.ensures)) at) ((c.held_version.ensures c.in-Some.version).0 c.in-Some.is)

pub returns-in-Some-clause-reads : goal.returns-in-Some-clause-reads
returns-in-Some-clause-reads g c version desk at =
    let here : c.index.result.now ≡ desk = at_one c.args.self.now.desks 0 (subst (λ (v : (View g.row.S.Denot g.row.V.Denot)). IsAt v.desks 0 c.index.result.now) c.self.view_is (at_place c.self.inside.desks.items 0 0 c.index.result.now refl (omega (arith, c.self.invariant.safe.sound.desks)) c.index.ensures)) at in (
      λ same. let one : c.in-Some.version ≡ version = cc same in subst (λ (d : DeskView g.row.V.Denot). FindsHeld d version) here ((c.held_version.ensures version).0 (c.in-Some.is ∙ ap (λ (n : ℕ). Some n) one)),
      λ finds. ap (λ (n : ℕ). Ok (Held n)) (some_is (sym c.in-Some.is ∙ (c.held_version.ensures version).1 (subst (λ (d : DeskView g.row.V.Denot). FindsHeld d version) (sym here) finds))),
    )

pub returns-in-Ok-clause-reads : goal.returns-in-Ok-clause-reads
returns-in-Ok-clause-reads g c version desk at =
    let here : c.index.result.now ≡ desk = at_one c.args.self.now.desks 0 (subst (λ (v : (View g.row.S.Denot g.row.V.Denot)). IsAt v.desks 0 c.index.result.now) c.self.view_is (at_place c.self.inside.desks.items 0 0 c.index.result.now refl (omega (arith, c.self.invariant.safe.sound.desks)) c.index.ensures)) at in (
      λ same. absurd (cc same),
      λ finds. absurd (cc (c.in_default.is, (c.held_version.ensures version).1 (subst (λ (d : DeskView g.row.V.Denot). FindsHeld d version) (sym here) finds))),
    )

pub returns-in-Err-clause-reads : goal.returns-in-Err-clause-reads
returns-in-Err-clause-reads g c version desk at =
    let here : c.index.result.now ≡ desk = at_one c.args.self.now.desks 0 (subst (λ (v : (View g.row.S.Denot g.row.V.Denot)). IsAt v.desks 0 c.index.result.now) c.self.view_is (at_place c.self.inside.desks.items 0 0 c.index.result.now refl (omega (arith, c.self.invariant.safe.sound.desks)) c.index.ensures)) at in (
      λ same. absurd (cc same),
      λ finds. absurd (cc (c.in_default.is, (c.held_version.ensures version).1 (subst (λ (d : DeskView g.row.V.Denot). FindsHeld d version) (sym here) finds))),
    )
