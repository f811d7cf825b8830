use Rattle.std.proofs.Common.{refl, sym, subst, ◌∙◌}
use Rattle.cas_world.specs.Eras.Plans.{asked_of, was_told}
use Rattle.cas_board_steps.specs.Calls.Changes.{harm_by}
use Rattle.cas_board_steps.specs.Eras.Membership.{IsRescanMark, IsMembersAnswer}
use Rattle.cas_board_steps.specs.Calls.Open.{rounds_after}
use Rattle.cas_board_steps.specs.Exchanges.Orders.{IsToldIn}
use Rattle.cas_board_steps.specs.OwnParts.{own_part}
use Rattle.cas_board_steps.proofs.Eras.Rescans.{rescan_goes_on, ended_counted, ended_may_stop, ended_stops}
use Rattle.cas_board_steps.proofs.membership.rescan_on.Goals as goal

pub go_on-requires-clause-called : goal.go_on-requires-clause-called
go_on-requires-clause-called g c = c.requires.rescans.called

pub returns-in-Ok-clause-goes_on : goal.returns-in-Ok-clause-goes_on
returns-in-Ok-clause-goes_on g c = (rescan_goes_on c.args.call (harm_by c.args.verdict) c.args.world.now c.go_on.new.world (asked_of c.args.target.now) c.args.key.now c.requires.rescans c.in-Ok.ensures.goes_on).0

pub returns-in-Ok-clause-wanted : goal.returns-in-Ok-clause-wanted
returns-in-Ok-clause-wanted g c goes = c.in-Ok.ensures.goes_on.wanted

pub returns-in-Ok-clause-rescans : goal.returns-in-Ok-clause-rescans
returns-in-Ok-clause-rescans g c = (rescan_goes_on c.args.call (harm_by c.args.verdict) c.args.world.now c.go_on.new.world (asked_of c.args.target.now) c.args.key.now c.requires.rescans c.in-Ok.ensures.goes_on).1

pub returns-then-is_done-clause-goes_on : goal.returns-then-is_done-clause-goes_on
returns-then-is_done-clause-goes_on g c = (ended_counted c.args.call (harm_by c.args.verdict) c.args.world.now c.go_on.new.world (asked_of c.args.target.now) c.args.key.now c.args.program.now c.in-Err.told c.requires.rescans c.requires.kept c.requires.wanted c.in-Err.ensures.ends (sym c.is_done.ensures ∙ c.if-is_done.true)).0

pub returns-then-is_done-clause-wanted : goal.returns-then-is_done-clause-wanted
returns-then-is_done-clause-wanted g c not = absurd (not refl)

pub returns-then-is_done-clause-rescans : goal.returns-then-is_done-clause-rescans
returns-then-is_done-clause-rescans g c = (ended_counted c.args.call (harm_by c.args.verdict) c.args.world.now c.go_on.new.world (asked_of c.args.target.now) c.args.key.now c.args.program.now c.in-Err.told c.requires.rescans c.requires.kept c.requires.wanted c.in-Err.ensures.ends (sym c.is_done.ensures ∙ c.if-is_done.true)).1

pub tell-requires : goal.tell-requires
tell-requires g c = was_told (ended_may_stop c.args.call (harm_by c.args.verdict) c.args.world.now c.go_on.new.world (asked_of c.args.target.now) c.args.key.now c.args.program.now c.in-Err.told c.requires.rescans c.requires.kept c.requires.wanted c.in-Err.ensures.ends (sym c.is_done.ensures ∙ c.if-is_done.false))

pub returns-else-is_done-clause-kept : goal.returns-else-is_done-clause-kept
returns-else-is_done-clause-kept g c = (ended_stops c.args.call (harm_by c.args.verdict) c.args.world.now c.go_on.new.world (asked_of c.args.target.now) c.args.key.now c.args.program.now c.in-Err.told c.requires.rescans c.requires.kept c.requires.wanted c.in-Err.ensures.ends (rounds_after (own_part c.args.world.now 0)) (λ conflict. refl) c.tell.new.self c.in-Err.ensures.kept c.in-Err.ensures.last_proposer (sym c.is_done.ensures ∙ c.if-is_done.false) c.tell.ensures.step).kept

pub returns-else-is_done-clause-last_proposer : goal.returns-else-is_done-clause-last_proposer
returns-else-is_done-clause-last_proposer g c = (ended_stops c.args.call (harm_by c.args.verdict) c.args.world.now c.go_on.new.world (asked_of c.args.target.now) c.args.key.now c.args.program.now c.in-Err.told c.requires.rescans c.requires.kept c.requires.wanted c.in-Err.ensures.ends (rounds_after (own_part c.args.world.now 0)) (λ conflict. refl) c.tell.new.self c.in-Err.ensures.kept c.in-Err.ensures.last_proposer (sym c.is_done.ensures ∙ c.if-is_done.false) c.tell.ensures.step).last_proposer

pub returns-else-is_done-clause-told : goal.returns-else-is_done-clause-told
returns-else-is_done-clause-told g c tries spent = subst (IsToldIn (asked_of c.args.target.now) (IsRescanMark tries) (harm_by c.args.verdict) c.args.world.now c.tell.new.self) (sym c.tell.ensures.same) (ended_stops c.args.call (harm_by c.args.verdict) c.args.world.now c.go_on.new.world (asked_of c.args.target.now) c.args.key.now c.args.program.now c.in-Err.told c.requires.rescans c.requires.kept c.requires.wanted c.in-Err.ensures.ends tries (λ conflict. spent (c.in-Err.ensures.last conflict)) c.tell.new.self c.in-Err.ensures.kept c.in-Err.ensures.last_proposer (sym c.is_done.ensures ∙ c.if-is_done.false) c.tell.ensures.step).does

pub returns-else-is_done-clause-answer : goal.returns-else-is_done-clause-answer
returns-else-is_done-clause-answer g c = subst (IsMembersAnswer (asked_of c.args.target.now)) (sym c.tell.ensures.same) tt

pub returns-in-Ok-clause-rounds : goal.returns-in-Ok-clause-rounds
returns-in-Ok-clause-rounds g c = record { rounds = c.in-Ok.ensures.goes_on.rounds; met = c.in-Ok.ensures.met; repeats = c.in-Ok.ensures.repeats }
