use Rattle.std.proofs.Common.{ℕ, List, refl, sym, ap, subst, ◌∙◌}
use Rattle.cas_record.specs.declared.operator.Asked.TheVariants as asked
use Rattle.cas_board.specs.Operations.{WasToldLast, is_not_begun}
use Rattle.cas_board_steps.specs.Collection.Collecting.{HasCourse, IsCollectAnswer, IsCollectingMark, most_rounds}
use Rattle.cas_board_steps.proofs.Calls.Tries.{most_is}
use Rattle.cas_board.proofs.Sittings.{counted_none}
use Rattle.cas_board.proofs.Operating.{told_behind, operates_told}
use Rattle.cas_board.proofs.board.Board.collect.Goals as goal

pub run_collection-requires-clause-operator : goal.run_collection-requires-clause-operator
run_collection-requires-clause-operator g c =
    ap (λ s. s.number) c.order_collection_once.ensures.pass ∙ c.requires.operator

pub run_collection-requires-clause-at : goal.run_collection-requires-clause-at
run_collection-requires-clause-at g c =
    subst (λ (n : ℕ). HasCourse c.in-Ok.ordered.key (most_rounds n) c.in-Ok.ordered.course c.order_collection_once.new.pass.own c.order_collection_once.new.pass.seen) (sym c.in-Ok.ensures.tries)
    (subst (λ (k : List ℕ). HasCourse k (most_rounds c.args.tries) c.in-Ok.ordered.course c.order_collection_once.new.pass.own c.order_collection_once.new.pass.seen) (sym c.in-Ok.ensures.key) c.in-Ok.ensures.ordered)

pub returns-in-Ok-clause-free : goal.returns-in-Ok-clause-free
returns-in-Ok-clause-free g c =
    c.run_collection.ensures.told.2.is_free

pub returns-in-Ok-clause-operates : goal.returns-in-Ok-clause-operates
returns-in-Ok-clause-operates g c =
    operates_told (asked.Collect c.args.key.now) (IsCollectingMark c.args.key.now c.args.tries) c.run_collection.ensures.told.0 _ _ c.args.pass.now c.run_collection.new.pass c.run_collection.result c.run_collection.ensures.told.1
    (told_behind (asked.Collect c.args.key.now) (IsCollectingMark c.args.key.now c.args.tries) c.run_collection.ensures.told.0 c.args.pass.now c.order_collection_once.new.pass c.run_collection.new.pass c.run_collection.result (ap (λ s. s.number) c.order_collection_once.ensures.pass) c.order_collection_once.ensures.front c.order_collection_once.ensures.counted
    (subst (λ (n : ℕ). WasToldLast (asked.Collect c.args.key.now) (IsCollectingMark c.args.key.now n) c.run_collection.ensures.told.0 c.order_collection_once.new.pass c.run_collection.new.pass c.run_collection.result) (ap most_rounds c.in-Ok.ensures.tries ∙ most_is c.args.tries c.requires.some)
    (subst (λ (k : List ℕ). WasToldLast (asked.Collect k) (IsCollectingMark k (most_rounds c.in-Ok.ordered.tries)) c.run_collection.ensures.told.0 c.order_collection_once.new.pass c.run_collection.new.pass c.run_collection.result) c.in-Ok.ensures.key c.run_collection.ensures.told.2)))

pub returns-in-Ok-clause-answer : goal.returns-in-Ok-clause-answer
returns-in-Ok-clause-answer g c =
    subst (λ (k : List ℕ). IsCollectAnswer k c.run_collection.result) c.in-Ok.ensures.key c.run_collection.ensures.answer

pub returns-in-Err-clause-free : goal.returns-in-Err-clause-free
returns-in-Err-clause-free g c =
    c.in-Err.ensures.refused.1

pub returns-in-Err-clause-operates : goal.returns-in-Err-clause-operates
returns-in-Err-clause-operates g c =
    is_not_begun c.in-Err.refusal c.in-Err.ensures.refused.0 refl (counted_none (g.F.Fate.harm_count c.args.fate.now)) c.order_collection_once.ensures.front (λ enters. absurd (enters 0 0))

pub returns-in-Ok-clause-counted : goal.returns-in-Ok-clause-counted
returns-in-Ok-clause-counted g c = c.run_collection.ensures.told.2.keeps (λ enters. enters 0 0) ∙ c.order_collection_once.ensures.counted
