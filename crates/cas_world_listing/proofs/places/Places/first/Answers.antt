use Rattle.std.proofs.Common.{◌≡◌, ◌++◌, ◌∷◌, [], ℕ, map, refl, sym, ap, subst, ◌∙◌, arith}
use Rattle.std.specs.Prelude.{Option, IfSome}
use Rattle.std.specs.List.{filter, range_with_len}
use Rattle.cas_ballot.specs.Members.{has_member, members_where}
use Rattle.cas_world_listing.proofs.MemberWalks.{first_place, with_one, without_one}
use Rattle.cas_world_listing.proofs.places.Places.first.Goals as goal
use Rattle.cas_world_listing.proofs.places.Places.first.Goals.{then-has+in_ok-push, else-has}

pub loop-number-init : goal.loop-number-init
loop-number-init c = (c.in_ok-places.ensures {u = tt}).items

pub loop-number-preserved : goal.loop-number-preserved
loop-number-preserved c =
    let number = c.loop-number.number in
    let test = has_member c.args.members.now in
    let places = c.loop-number.places.items in
    let id : c.unwrap-id.result ≡ number = subst (λ (r : Option ℕ). IfSome r (λ (id : ℕ). id ≡ number)) c.unwrap-id.ensures c.new.ensures.value in
    let has : c.has.result ≡ test number = c.has.ensures ∙ ap test id in
    elim c.if-has.branch [
      | then-has+in_ok-push w ↦ rw w.places-is
          (with_one first_place test number places w.push.new.self.items (sym has ∙ w.if-has.true) c.loop-number.invariant
          ((w.in_ok-push.ensures {u = tt}).items ∙ ap (λ (one : _). places ++ one ∷ []) w.first.ensures ∙ ap (λ (n : ℕ). places ++ first_place n ∷ []) id))
      | else-has w ↦ rw w.places-is (without_one first_place test number places places (sym has ∙ w.if-has.false) c.loop-number.invariant refl)
    ]

pub returns : goal.returns
unfolding members_where
returns c =
    let test = has_member c.args.members.now in
    let all : c.loop-number.number ≡ 64 = omega (arith, c.loop-number-test.false, c.loop-number.auto.number-end) in
    c.loop-number.invariant ∙ ap (λ (k : ℕ). map first_place (filter test (range_with_len 0 k))) all ∙ ap (map first_place) (sym c.count.ensures.set.lists)
