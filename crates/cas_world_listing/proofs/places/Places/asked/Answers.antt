use Rattle.std.proofs.Common.{◌≡◌, ℕ, Bool, sym, ap, subst, ◌∙◌, arith}
use Rattle.std.specs.Prelude.{Option, IfSome, ◌&&◌, not}
use Rattle.cas_ballot.specs.Members.{has_member}
use Rattle.cas_model.specs.Council.{place_in, has_ended}
use Rattle.cas_world_listing.proofs.MemberWalks.{members_below, no_members_below, walked_on, walked_past, all_members_below}
use Rattle.cas_world_listing.proofs.places.Places.asked.Goals as goal
use Rattle.cas_world_listing.proofs.places.Places.asked.Goals.{then-is_asked, else-is_asked}

pub loop-number-init : goal.loop-number-init
loop-number-init c = c.new-asked.ensures ∙ no_members_below (λ member. has_member c.args.everyone.now member && not (has_ended (place_in c.args.self.now member)))

pub loop-number-preserved : goal.loop-number-preserved
loop-number-preserved c =
    let test : ℕ → Bool = λ member. has_member c.args.everyone.now member && not (has_ended (place_in c.args.self.now member)) in
    let number = c.loop-number.number in
    let id : c.unwrap-id.result ≡ number = subst (λ (r : Option ℕ). IfSome r (λ (id : ℕ). id ≡ number)) c.unwrap-id.ensures c.new.ensures.value in
    let passes : c.is_asked.result ≡ test number = c.is_asked.ensures ∙ ap test id in
    elim c.if-is_asked.branch [
      | then-is_asked w ↦ rw w.asked-is (walked_on test number c.unwrap-id.result c.loop-number.asked w.insert.new.self id (sym passes ∙ w.if-is_asked.true) c.loop-number.invariant w.insert.ensures)
      | else-is_asked w ↦ rw w.asked-is (walked_past test number c.loop-number.asked (sym passes ∙ w.if-is_asked.false) c.loop-number.invariant)
    ]

pub returns : goal.returns
returns c =
    let test : ℕ → Bool = λ member. has_member c.args.everyone.now member && not (has_ended (place_in c.args.self.now member)) in
    let all : c.loop-number.number ≡ 64 = omega (arith, c.loop-number-test.false, c.loop-number.auto.number-end) in
    c.loop-number.invariant ∙ ap (λ (n : ℕ). members_below n test) all ∙ all_members_below test
