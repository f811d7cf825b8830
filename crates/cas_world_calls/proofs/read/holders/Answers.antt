use Rattle.std.proofs.Common.{◌≡◌, ℕ, Bool, Option, sym, ap, subst, ◌∙◌, arith}
use Rattle.std.specs.Prelude.{IfSome}
use Rattle.cas_model.specs.Eras.Listings.{told_by}
use Rattle.cas_model.specs.Exchanges.Read.{tells_ballot}
use Rattle.cas_world_listing.proofs.MemberWalks.{members_below, no_members_below, walked_on, walked_past, all_members_below}
use Rattle.cas_world_calls.proofs.read.holders.Goals as goal
use Rattle.cas_world_calls.proofs.read.holders.Goals.{then-tells_ballot, else-tells_ballot}

pub loop-number-init : goal.loop-number-init
loop-number-init c = c.new-those.ensures ∙ no_members_below (λ member. tells_ballot c.args.ballot (told_by c.args.told.now member))

pub loop-number-preserved : goal.loop-number-preserved
loop-number-preserved c =
    let test : ℕ → Bool = λ member. tells_ballot c.args.ballot (told_by c.args.told.now member) in
    let number = c.loop-number.number in
    let id : c.unwrap-id.result ≡ number = subst (λ (r : Option ℕ). IfSome r (λ (id : ℕ). id ≡ number)) c.unwrap-id.ensures c.new.ensures.value in
    let passes : c.tells_ballot.result ≡ test number = c.tells_ballot.ensures ∙ ap (tells_ballot c.args.ballot) c.told_by.ensures ∙ ap test id in
    elim c.if-tells_ballot.branch [
      | then-tells_ballot w ↦ rw w.those-is (walked_on test number c.unwrap-id.result c.loop-number.those w.insert.new.self id (sym passes ∙ w.if-tells_ballot.true) c.loop-number.invariant w.insert.ensures)
      | else-tells_ballot w ↦ rw w.those-is (walked_past test number c.loop-number.those (sym passes ∙ w.if-tells_ballot.false) c.loop-number.invariant)
    ]

pub returns : goal.returns
returns c =
    let test : ℕ → Bool = λ member. tells_ballot c.args.ballot (told_by c.args.told.now member) in
    let all : c.loop-number.number ≡ 64 = omega (arith, c.loop-number-test.false, c.loop-number.auto.number-end) in
    c.loop-number.invariant ∙ ap (λ (n : ℕ). members_below n test) all ∙ all_members_below test
