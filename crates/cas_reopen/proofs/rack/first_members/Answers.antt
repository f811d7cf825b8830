use Rattle.std.proofs.Common.{◌≡◌, ℕ, ◌+◌, ◌-◌, ◌<◌, ◌≤◌, List, sym, ap, subst, ◌∙◌, arith}
use Rattle.std.specs.Prelude.{Option, IfSome}
use Rattle.cas_ballot.specs.Members.{with_member}
use Rattle.cas_world.specs.Openings.Opening.{members_to}
use Rattle.cas_world.proofs.Lists.{one_more_member}
use Rattle.cas_reopen.proofs.rack.first_members.Goals as goal

-- one more member
with_one : (ids new : List ℕ) (number id : ℕ) → ids ≡ members_to (number - 1) → 0 < number → number ≤ 63 → id ≡ number → new ≡ with_member ids id → new ≡ members_to number
with_one ids new number id are from few same is =
    let before : number ≡ (number - 1) + 1 = omega arith in
    is
    ∙ ap (λ (l : List ℕ). with_member l id) are
    ∙ ap (λ (n : ℕ). with_member (members_to (number - 1)) n) (same ∙ before)
    ∙ one_more_member (number - 1) (omega arith)
    ∙ ap members_to (sym before)

pub loop-number-preserved : goal.loop-number-preserved
loop-number-preserved c =
    let number = c.loop-number.number in
    let id : c.unwrap.result ≡ number = subst (λ (r : Option ℕ). IfSome r (λ (id : ℕ). id ≡ number)) c.unwrap.ensures c.new.ensures.value in
    let after : number ≡ (number + 1) - 1 = omega arith in
    (with_one c.loop-number.members c.insert.new.self number c.unwrap.result c.loop-number.invariant.0 (omega arith) (omega arith) id c.insert.ensures ∙ ap members_to after, omega arith)

pub returns : goal.returns
returns c =
    let none : c.loop-number.number - 1 ≡ c.args.count = omega (arith, c.loop-number.invariant.1, c.loop-number-test.false) in
    c.loop-number.invariant.0 ∙ ap members_to none

pub returns-2 : goal.returns-2
returns-2 c =
    let number = c.loop-number.number in
    let id : c.unwrap.result ≡ number = subst (λ (r : Option ℕ). IfSome r (λ (id : ℕ). id ≡ number)) c.unwrap.ensures c.new.ensures.value in
    let last : number ≡ c.args.count = omega arith in
    with_one c.loop-number.members c.insert.new.self number c.unwrap.result c.loop-number.invariant.0 (omega arith) (omega arith) id c.insert.ensures ∙ ap members_to last
