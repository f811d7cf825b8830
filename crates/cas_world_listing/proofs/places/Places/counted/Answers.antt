use Rattle.std.proofs.Common.{◌≡◌, ℕ, Bool, sym, ap, subst, ◌∙◌, arith}
use Rattle.std.specs.Prelude.{Option, IfSome}
use Rattle.cas_model.specs.Eras.Listings.{counts}
use Rattle.cas_world_listing.proofs.MemberWalks.{members_below, no_members_below, walked_on, walked_past, all_members_below}
use Rattle.cas_world_listing.proofs.places.Places.counted.Goals as goal
use Rattle.cas_world_listing.proofs.places.Places.counted.Goals.{then-counts, else-counts}

pub loop-number-init : goal.loop-number-init
loop-number-init c = c.new-counted.ensures ∙ no_members_below (counts c.args.told.now c.args.self.now)

pub loop-number-preserved : goal.loop-number-preserved
loop-number-preserved c =
    let test : ℕ → Bool = counts c.args.told.now c.args.self.now in
    let number = c.loop-number.number in
    let id : c.unwrap-id.result ≡ number = subst (λ (r : Option ℕ). IfSome r (λ (id : ℕ). id ≡ number)) c.unwrap-id.ensures c.new.ensures.value in
    let passes : c.counts.result ≡ test number = c.counts.ensures ∙ ap test id in
    elim c.if-counts.branch [
      | then-counts w ↦ rw w.counted-is (walked_on test number c.unwrap-id.result c.loop-number.counted w.insert.new.self id (sym passes ∙ w.if-counts.true) c.loop-number.invariant w.insert.ensures)
      | else-counts w ↦ rw w.counted-is (walked_past test number c.loop-number.counted (sym passes ∙ w.if-counts.false) c.loop-number.invariant)
    ]

pub returns : goal.returns
returns c =
    let test : ℕ → Bool = counts c.args.told.now c.args.self.now in
    let all : c.loop-number.number ≡ 64 = omega (arith, c.loop-number-test.false, c.loop-number.auto.number-end) in
    c.loop-number.invariant ∙ ap (λ (n : ℕ). members_below n test) all ∙ all_members_below test
