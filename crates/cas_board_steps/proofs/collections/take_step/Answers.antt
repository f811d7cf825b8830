use Rattle.std.proofs.Common.{subst}
use Rattle.cas_board_steps.specs.Collection.Collecting.{HasCourse, most_rounds}
use Rattle.cas_board_steps.specs.Calls.Changes.{harm_by}
use Rattle.cas_board_steps.specs.OwnParts.{own_part}
use Rattle.cas_board_steps.proofs.Calls.Tries.{most_some}
use Rattle.cas_board_steps.proofs.collections.take_step.Goals as goal

pub begin_tombstone-requires-clause-at : goal.begin_tombstone-requires-clause-at
begin_tombstone-requires-clause-at g c = subst (λ k. HasCourse c.args.key.now (most_rounds c.args.tries) k (own_part c.args.world.now 0) c.args.world.now.marks) c.in-Ordered.is c.requires.at

pub go_on_setting_tombstone-requires-clause-at : goal.go_on_setting_tombstone-requires-clause-at
go_on_setting_tombstone-requires-clause-at g c = (subst (λ k. HasCourse c.args.key.now (most_rounds c.args.tries) k (own_part c.args.world.now 0) c.args.world.now.marks) c.in-Buries.is c.requires.at).0

pub go_on_setting_tombstone-requires-clause-within : goal.go_on_setting_tombstone-requires-clause-within
go_on_setting_tombstone-requires-clause-within g c = (subst (λ k. HasCourse c.args.key.now (most_rounds c.args.tries) k (own_part c.args.world.now 0) c.args.world.now.marks) c.in-Buries.is c.requires.at).1

pub gather_round-requires-clause-at : goal.gather_round-requires-clause-at
gather_round-requires-clause-at g c = subst (λ k. HasCourse c.args.key.now (most_rounds c.args.tries) k (own_part c.args.world.now 0) c.args.world.now.marks) c.in-TombstoneSet.is c.requires.at

pub renew-requires-clause-at : goal.renew-requires-clause-at
renew-requires-clause-at g c = subst (λ k. HasCourse c.args.key.now (most_rounds c.args.tries) k (own_part c.args.world.now 0) c.args.world.now.marks) c.in-Renews.is c.requires.at

pub hear_ages-requires-clause-at : goal.hear_ages-requires-clause-at
hear_ages-requires-clause-at g c = subst (λ k. HasCourse c.args.key.now (most_rounds c.args.tries) k (own_part c.args.world.now 0) c.args.world.now.marks) c.in-HearsAges.is c.requires.at

pub floor-requires-clause-at : goal.floor-requires-clause-at
floor-requires-clause-at g c = subst (λ k. HasCourse c.args.key.now (most_rounds c.args.tries) k (own_part c.args.world.now 0) c.args.world.now.marks) c.in-Floors.is c.requires.at

pub ask_removals-requires-clause-at : goal.ask_removals-requires-clause-at
ask_removals-requires-clause-at g c = subst (λ k. HasCourse c.args.key.now (most_rounds c.args.tries) k (own_part c.args.world.now 0) c.args.world.now.marks) c.in-Removes.is c.requires.at

pub hear_removals-requires-clause-at : goal.hear_removals-requires-clause-at
hear_removals-requires-clause-at g c = subst (λ k. HasCourse c.args.key.now (most_rounds c.args.tries) k (own_part c.args.world.now 0) c.args.world.now.marks) c.in-HearsRemovals.is c.requires.at

pub returns-in-Ordered-clause-collects : goal.returns-in-Ordered-clause-collects
returns-in-Ordered-clause-collects g c = c.begin_tombstone.ensures.collects (most_rounds c.args.tries) (harm_by c.args.verdict) (most_some c.args.tries)

pub returns-in-TombstoneSet-clause-collects : goal.returns-in-TombstoneSet-clause-collects
returns-in-TombstoneSet-clause-collects g c = c.gather_round.ensures.collects (most_rounds c.args.tries) (harm_by c.args.verdict)

pub returns-in-Renews-clause-collects : goal.returns-in-Renews-clause-collects
returns-in-Renews-clause-collects g c = c.renew.ensures.collects (most_rounds c.args.tries) (harm_by c.args.verdict)

pub returns-in-Floors-clause-collects : goal.returns-in-Floors-clause-collects
returns-in-Floors-clause-collects g c = c.floor.ensures.collects (most_rounds c.args.tries) (harm_by c.args.verdict)

pub returns-in-Removes-clause-collects : goal.returns-in-Removes-clause-collects
returns-in-Removes-clause-collects g c = c.ask_removals.ensures.collects (most_rounds c.args.tries) (harm_by c.args.verdict)

pub returns-in-HearsAges-clause-collects : goal.returns-in-HearsAges-clause-collects
returns-in-HearsAges-clause-collects g c = c.hear_ages.ensures.collects (most_rounds c.args.tries)

pub returns-in-HearsRemovals-clause-collects : goal.returns-in-HearsRemovals-clause-collects
returns-in-HearsRemovals-clause-collects g c = c.hear_removals.ensures.collects (most_rounds c.args.tries)
