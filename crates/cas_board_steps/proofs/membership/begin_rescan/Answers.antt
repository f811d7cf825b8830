use Rattle.std.proofs.Common.{List, sym, subst, ◌∙◌}
use Rattle.cas_change.specs.declared.program.Clause.{Clause}
use Rattle.cas_world.specs.Eras.Plans.{asked_of, was_told}
use Rattle.cas_board_steps.specs.Calls.Changes.{BeginsIn, BeginsNot}
use Rattle.cas_board_steps.specs.Eras.Membership.{IsPlanMark, IsMembersAnswer}
use Rattle.cas_board_steps.specs.Exchanges.Orders.{IsToldIn}
use Rattle.cas_board_steps.specs.OwnParts.{own_part}
use Rattle.cas_board_steps.proofs.Eras.Rescans.{plan_is_idle, rescan_begins, not_begun_counted, not_begun_may_stop, not_begun_stops}
use Rattle.cas_board_steps.proofs.membership.begin_rescan.Goals as goal

pub begin-requires-clause-idle : goal.begin-requires-clause-idle
begin-requires-clause-idle g c = plan_is_idle (asked_of c.args.target.now) (own_part c.args.world.now 0) c.requires.planned

pub returns-in-Ok-clause-goes_on : goal.returns-in-Ok-clause-goes_on
returns-in-Ok-clause-goes_on g c = (rescan_begins c.in-Ok.begun.call c.args.world.now c.begin.new.world (asked_of c.args.target.now) c.args.key c.requires.planned c.requires.due (subst (λ (p : List Clause). BeginsIn 0 c.in-Ok.begun.call c.args.key p c.args.world.now c.begin.new.world) c.requires.program c.in-Ok.ensures.begun)).0

pub returns-in-Ok-clause-step : goal.returns-in-Ok-clause-step
returns-in-Ok-clause-step g c = ((rescan_begins c.in-Ok.begun.call c.args.world.now c.begin.new.world (asked_of c.args.target.now) c.args.key c.requires.planned c.requires.due (subst (λ (p : List Clause). BeginsIn 0 c.in-Ok.begun.call c.args.key p c.args.world.now c.begin.new.world) c.requires.program c.in-Ok.ensures.begun)).1, (subst (λ (p : List Clause). BeginsIn 0 c.in-Ok.begun.call c.args.key p c.args.world.now c.begin.new.world) c.requires.program c.in-Ok.ensures.begun).wanted, record { first = c.in-Ok.ensures.begun.first; unmet = c.in-Ok.ensures.begun.unmet; fresh = c.in-Ok.ensures.fresh })

pub returns-then-is_done-clause-goes_on : goal.returns-then-is_done-clause-goes_on
returns-then-is_done-clause-goes_on g c = (not_begun_counted c.args.world.now c.begin.new.world (asked_of c.args.target.now) c.args.key c.in-Err.told c.requires.planned c.requires.due (subst (λ (p : List Clause). BeginsNot 0 c.args.key p c.args.world.now c.begin.new.world c.in-Err.told) c.requires.program c.in-Err.ensures.not_begun) (sym c.is_done.ensures ∙ c.if-is_done.true)).0

pub returns-then-is_done-clause-step : goal.returns-then-is_done-clause-step
returns-then-is_done-clause-step g c = (not_begun_counted c.args.world.now c.begin.new.world (asked_of c.args.target.now) c.args.key c.in-Err.told c.requires.planned c.requires.due (subst (λ (p : List Clause). BeginsNot 0 c.args.key p c.args.world.now c.begin.new.world c.in-Err.told) c.requires.program c.in-Err.ensures.not_begun) (sym c.is_done.ensures ∙ c.if-is_done.true)).1

pub tell-requires : goal.tell-requires
tell-requires g c = was_told (not_begun_may_stop c.args.world.now c.begin.new.world (asked_of c.args.target.now) c.args.key c.in-Err.told c.requires.planned c.requires.due (subst (λ (p : List Clause). BeginsNot 0 c.args.key p c.args.world.now c.begin.new.world c.in-Err.told) c.requires.program c.in-Err.ensures.not_begun) (sym c.is_done.ensures ∙ c.if-is_done.false))

pub returns-else-is_done-clause-kept : goal.returns-else-is_done-clause-kept
returns-else-is_done-clause-kept g c = (not_begun_stops c.args.world.now c.begin.new.world (asked_of c.args.target.now) c.args.key c.in-Err.told c.requires.planned c.requires.due (subst (λ (p : List Clause). BeginsNot 0 c.args.key p c.args.world.now c.begin.new.world c.in-Err.told) c.requires.program c.in-Err.ensures.not_begun) c.tell.new.self c.in-Err.ensures.kept c.in-Err.ensures.last_proposer (sym c.is_done.ensures ∙ c.if-is_done.false) c.tell.ensures.step).kept

pub returns-else-is_done-clause-last_proposer : goal.returns-else-is_done-clause-last_proposer
returns-else-is_done-clause-last_proposer g c = (not_begun_stops c.args.world.now c.begin.new.world (asked_of c.args.target.now) c.args.key c.in-Err.told c.requires.planned c.requires.due (subst (λ (p : List Clause). BeginsNot 0 c.args.key p c.args.world.now c.begin.new.world c.in-Err.told) c.requires.program c.in-Err.ensures.not_begun) c.tell.new.self c.in-Err.ensures.kept c.in-Err.ensures.last_proposer (sym c.is_done.ensures ∙ c.if-is_done.false) c.tell.ensures.step).last_proposer

pub returns-else-is_done-clause-told : goal.returns-else-is_done-clause-told
returns-else-is_done-clause-told g c = subst (IsToldIn (asked_of c.args.target.now) IsPlanMark 0 c.args.world.now c.tell.new.self) (sym c.tell.ensures.same) (not_begun_stops c.args.world.now c.begin.new.world (asked_of c.args.target.now) c.args.key c.in-Err.told c.requires.planned c.requires.due (subst (λ (p : List Clause). BeginsNot 0 c.args.key p c.args.world.now c.begin.new.world c.in-Err.told) c.requires.program c.in-Err.ensures.not_begun) c.tell.new.self c.in-Err.ensures.kept c.in-Err.ensures.last_proposer (sym c.is_done.ensures ∙ c.if-is_done.false) c.tell.ensures.step).does

pub returns-else-is_done-clause-answer : goal.returns-else-is_done-clause-answer
returns-else-is_done-clause-answer g c = subst (IsMembersAnswer (asked_of c.args.target.now)) (sym c.tell.ensures.same) tt
