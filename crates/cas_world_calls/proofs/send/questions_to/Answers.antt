use Rattle.std.proofs.Common.{◌≡◌, ℕ, ◌++◌, ◌∷◌, [], List, map, subst, refl, sym, ap, ◌∙◌, arith, ◌≤◌, length}
use Rattle.std.specs.Prelude.{Option, Some, IfSome}
use Rattle.std.specs.List.{filter, range_with_len}
use Rattle.cas_flow.specs.declared.message.Message.{Message}
use Rattle.cas_ballot.specs.Members.{has_member}
use Rattle.cas_ballot.proofs.MemberLemmas.{members_before}
use Rattle.cas_model.specs.Exchanges.Step.{questions_to}
use Rattle.cas_world_calls.specs.Council.{question_view}
use Rattle.cas_world_calls.proofs.Sending.{questioning, all_questioning, question_count, with_one, without_one}
use Rattle.cas_world_calls.proofs.send.questions_to.Goals as goal
use Rattle.cas_world_calls.proofs.send.questions_to.Goals.{then-has+in_ok-question_to+in_ok-push, else-has}

pub loop-number-preserved : goal.loop-number-preserved
loop-number-preserved c =
    let ask = questioning c.args.age c.args.tag (question_view c.args.question.now) in
    let id : c.unwrap-id.result ≡ c.loop-number.number = subst (λ (r : Option ℕ). IfSome r (λ (id : ℕ). id ≡ c.loop-number.number)) c.unwrap-id.ensures c.new.ensures.value in
    let has : c.has.result ≡ has_member c.args.members.now c.loop-number.number = c.has.ensures ∙ ap (has_member c.args.members.now) id in
    elim c.if-has.branch [
      | then-has+in_ok-question_to+in_ok-push w ↦ rw w.frames-is
          (with_one ask (has_member c.args.members.now) c.loop-number.number c.loop-number.frames.items w.push.new.self.items (sym has ∙ w.if-has.true) c.loop-number.invariant
          (w.in_ok-push.ensures.items ∙ ap (λ (x : Option Message). c.loop-number.frames.items ++ x ∷ []) (w.in_ok-question_to.ensures ∙ ap ask id)))
      | else-has w ↦ rw w.frames-is (without_one ask (has_member c.args.members.now) c.loop-number.number c.loop-number.frames.items c.loop-number.frames.items (sym has ∙ w.if-has.false) c.loop-number.invariant refl)
    ]

all_asked : (c : goal.After-loop-number) → c.loop-number.frames.items ≡ map Some (questions_to c.args.age c.args.tag (question_view c.args.question.now) c.args.members.now)
all_asked c =
    let ask = questioning c.args.age c.args.tag (question_view c.args.question.now) in
    let all : c.loop-number.number ≡ c.end-number-end.result = omega (arith, c.loop-number-test.false, c.loop-number.auto.number-end) in
    c.loop-number.invariant
    ∙ (ap (λ (k : ℕ). map ask (filter (has_member c.args.members.now) (range_with_len 0 k))) all
    ∙ (ap (map ask) (members_before c.args.members.now c.end-number-end.result c.end-number-end.ensures.within c.end-number-end.ensures.behind ∙ sym c.count.ensures.set.lists) ∙ all_questioning c.args.age c.args.tag (question_view c.args.question.now) c.args.members.now))

pub returns-clause-each : goal.returns-clause-each
returns-clause-each c = all_asked c

pub returns-clause-few : goal.returns-clause-few
returns-clause-few c =
    subst (λ (n : ℕ). n ≤ 64) (sym (ap (λ (l : List (Option Message)). length l) (all_asked c) ∙ question_count c.args.age c.args.tag (question_view c.args.question.now) c.args.members.now)) (omega (arith, c.count.ensures.value, c.count.ensures.within))
