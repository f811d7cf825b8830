use Rattle.std.proofs.Common.{subst}
use Rattle.cas_board_steps.specs.Collection.Collecting.{HasCourse, most_rounds}
use Rattle.cas_board_steps.specs.Calls.Changes.{harm_by}
use Rattle.cas_board_steps.specs.OwnParts.{own_part}
use Rattle.cas_board_steps.proofs.Collection.Steps.{removals_through, removals_wait}
use Rattle.cas_board_steps.proofs.collections.go_on_collecting.Goals as goal

pub gather_removals-requires-clause-at : goal.gather_removals-requires-clause-at
gather_removals-requires-clause-at g c = subst (λ k. HasCourse c.args.collecting.key (most_rounds c.args.collecting.tries) k (own_part c.args.world.now 0) c.args.world.now.marks) (c.are_removals_heard.ensures.0 c.if-are_removals_heard.true).0 c.requires.at

pub gather_removals-requires-clause-through : goal.gather_removals-requires-clause-through
gather_removals-requires-clause-through g c = removals_through c.args.world.now c.args.collecting.key (subst (λ k. HasCourse c.args.collecting.key (most_rounds c.args.collecting.tries) k (own_part c.args.world.now 0) c.args.world.now.marks) (c.are_removals_heard.ensures.0 c.if-are_removals_heard.true).0 c.requires.at) (c.are_removals_heard.ensures.0 c.if-are_removals_heard.true).1

pub take_step-requires-clause-waits : goal.take_step-requires-clause-waits
take_step-requires-clause-waits g c is = removals_wait c.args.world.now c.args.collecting.key (subst (λ k. HasCourse c.args.collecting.key (most_rounds c.args.collecting.tries) k (own_part c.args.world.now 0) c.args.world.now.marks) is c.requires.at) (λ none. absurd (cc (c.are_removals_heard.ensures.1 (is, none), c.if-are_removals_heard.false)))

pub returns-then-are_removals_heard-clause-told : goal.returns-then-are_removals_heard-clause-told
returns-then-are_removals_heard-clause-told g c = (c.gather_removals.ensures.collects (most_rounds c.args.collecting.tries) (harm_by c.args.verdict)).0

pub returns-then-are_removals_heard-clause-answer : goal.returns-then-are_removals_heard-clause-answer
returns-then-are_removals_heard-clause-answer g c = (c.gather_removals.ensures.collects (most_rounds c.args.collecting.tries) (harm_by c.args.verdict)).1
