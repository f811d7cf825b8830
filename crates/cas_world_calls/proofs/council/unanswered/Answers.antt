use Rattle.std.proofs.Common.{◌≡◌, ℕ, map, refl, sym, ap, subst, ◌∙◌, ◌++◌, ◌∷◌, [], arith}
use Rattle.std.specs.Prelude.{Option, IfSome}
use Rattle.std.specs.List.{filter, range_with_len}
use Rattle.cas_ballot.specs.Members.{has_member, members_where}
use Rattle.cas_world_calls.specs.Council.{unanswered}
use Rattle.cas_world_calls.proofs.Sending.{with_one, without_one}
use Rattle.cas_world_calls.proofs.council.unanswered.Goals as goal
use Rattle.cas_world_calls.proofs.council.unanswered.Goals.{then-has+in_ok-push, else-has}

pub loop-number-init : goal.loop-number-init
loop-number-init c = c.in_ok-probes.ensures.items

pub loop-number-preserved : goal.loop-number-preserved
loop-number-preserved c =
    let id : c.unwrap-id.result ≡ c.loop-number.number = subst (λ (r : Option ℕ). IfSome r (λ (id : ℕ). id ≡ c.loop-number.number)) c.unwrap-id.ensures c.new.ensures.value in
    let has : c.has.result ≡ has_member c.args.members.now c.loop-number.number = c.has.ensures ∙ ap (has_member c.args.members.now) id in
    elim c.if-has.branch [
      | then-has+in_ok-push w ↦ rw w.probes-is
          (with_one unanswered (has_member c.args.members.now) c.loop-number.number c.loop-number.probes.items w.push.new.self.items (sym has ∙ w.if-has.true) c.loop-number.invariant
          (w.in_ok-push.ensures.items ∙ ap (λ (n : ℕ). c.loop-number.probes.items ++ unanswered n ∷ []) id))
      | else-has w ↦ rw w.probes-is
          (without_one unanswered (has_member c.args.members.now) c.loop-number.number c.loop-number.probes.items c.loop-number.probes.items (sym has ∙ w.if-has.false) c.loop-number.invariant refl)
    ]

pub returns : goal.returns
unfolding members_where
returns c =
    let all : c.loop-number.number ≡ 64 = omega (arith, c.loop-number-test.false, c.loop-number.auto.number-end) in
    c.loop-number.invariant ∙ ap (λ (k : ℕ). map unanswered (filter (has_member c.args.members.now) (range_with_len 0 k))) all ∙ ap (map unanswered) (sym c.count.ensures.set.lists)
