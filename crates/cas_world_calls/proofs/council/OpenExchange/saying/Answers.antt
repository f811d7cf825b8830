use Rattle.std.proofs.Common.{◌≡◌, ℕ, Bool, List, Option, sym, ap, subst, ◌∙◌, arith}
use Rattle.std.specs.Prelude.{IfSome}
use Rattle.cas_record.specs.declared.operator.Probe.{Probe}
use Rattle.cas_model.specs.Eras.Listings.{told_by}
use Rattle.cas_world_calls.specs.Collecting.{says}
use Rattle.cas_world_calls.specs.Council.{question_view}
use Rattle.cas_world_listing.proofs.MemberWalks.{members_below, no_members_below, walked_on, walked_past, all_members_below}
use Rattle.cas_world_calls.proofs.council.OpenExchange.saying.Goals as goal
use Rattle.cas_world_calls.proofs.council.OpenExchange.saying.Goals.{then-says, else-says}

pub loop-number-init : goal.loop-number-init
loop-number-init c = c.new-those.ensures ∙ no_members_below (λ member. says (question_view c.args.self.now.question) c.args.saying (told_by c.args.self.now.told.items member))

pub loop-number-preserved : goal.loop-number-preserved
loop-number-preserved c =
    let test : ℕ → Bool = λ member. says (question_view c.args.self.now.question) c.args.saying (told_by c.args.self.now.told.items member) in
    let number = c.loop-number.number in
    let id : c.unwrap-id.result ≡ number = subst (λ (r : Option ℕ). IfSome r (λ (id : ℕ). id ≡ number)) c.unwrap-id.ensures c.new.ensures.value in
    let passes : c.says.result ≡ test number = c.says.ensures ∙ ap (says (question_view c.args.self.now.question) c.args.saying) (c.told_by.ensures ∙ ap (λ (l : List Probe). told_by l c.unwrap-id.result) c.deref.ensures.value) ∙ ap test id in
    elim c.if-says.branch [
      | then-says w ↦ rw w.those-is (walked_on test number c.unwrap-id.result c.loop-number.those w.insert.new.self id (sym passes ∙ w.if-says.true) c.loop-number.invariant w.insert.ensures)
      | else-says w ↦ rw w.those-is (walked_past test number c.loop-number.those (sym passes ∙ w.if-says.false) c.loop-number.invariant)
    ]

pub returns : goal.returns
returns c =
    let test : ℕ → Bool = λ member. says (question_view c.args.self.now.question) c.args.saying (told_by c.args.self.now.told.items member) in
    let all : c.loop-number.number ≡ 64 = omega (arith, c.loop-number-test.false, c.loop-number.auto.number-end) in
    c.loop-number.invariant ∙ ap (λ (n : ℕ). members_below n test) all ∙ all_members_below test
