use Rattle.std.proofs.Common.{sym, subst, ◌∙◌}
use Rattle.cas_world.specs.Eras.Plans.{MayTell, asked_of, was_told}
use Rattle.cas_model_causes.specs.Eras.Tellings.{IsPassing}
use Rattle.cas_board_steps.specs.Calls.Changes.{harm_by}
use Rattle.cas_board_steps.specs.Eras.Membership.{IsPlanMark, IsMembersAnswer}
use Rattle.cas_board_steps.specs.Exchanges.Orders.{IsToldIn}
use Rattle.cas_board_steps.proofs.Eras.Plans.{list_frame_waits, list_turn_held, list_turn_may_tell, list_turn_told, still_listing}
use Rattle.cas_board_steps.proofs.membership.turn_list.Goals as goal

pub turn-requires-clause-waits : goal.turn-requires-clause-waits
turn-requires-clause-waits g c = list_frame_waits c.args.world.now (asked_of c.args.target.now) c.requires.lists c.requires.waits

pub tell-requires : goal.tell-requires
tell-requires g c = subst (MayTell c.turn.new.self) (sym c.no_memory.ensures) (was_told (list_turn_may_tell _ c.args.world.now c.turn.new.self (asked_of c.args.target.now) c.requires.lists c.in-Err.ensures.err))

pub returns-in-Ok-clause-kept : goal.returns-in-Ok-clause-kept
returns-in-Ok-clause-kept g c = (list_turn_held _ c.args.world.now c.turn.new.self (asked_of c.args.target.now) c.args.verdict c.requires.lists c.requires.kept c.in-Ok.ensures.ok).kept

pub returns-in-Ok-clause-last_proposer : goal.returns-in-Ok-clause-last_proposer
returns-in-Ok-clause-last_proposer g c = (list_turn_held _ c.args.world.now c.turn.new.self (asked_of c.args.target.now) c.args.verdict c.requires.lists c.requires.kept c.in-Ok.ensures.ok).last_proposer

pub returns-in-Ok-clause-goes_on : goal.returns-in-Ok-clause-goes_on
returns-in-Ok-clause-goes_on g c = (list_turn_held _ c.args.world.now c.turn.new.self (asked_of c.args.target.now) c.args.verdict c.requires.lists c.requires.kept c.in-Ok.ensures.ok).does.0

pub returns-in-Ok-clause-lists : goal.returns-in-Ok-clause-lists
returns-in-Ok-clause-lists g c = still_listing c.args.world.now c.turn.new.self (asked_of c.args.target.now) c.requires.lists ((list_turn_held _ c.args.world.now c.turn.new.self (asked_of c.args.target.now) c.args.verdict c.requires.lists c.requires.kept c.in-Ok.ensures.ok).does.1)

pub returns-in-Err-clause-kept : goal.returns-in-Err-clause-kept
returns-in-Err-clause-kept g c = (list_turn_told _ (harm_by c.args.verdict) c.args.world.now c.turn.new.self c.tell.new.self (asked_of c.args.target.now) c.no_memory.result c.requires.lists c.requires.kept c.in-Err.ensures.err c.tell.ensures.step (subst IsPassing (sym c.no_memory.ensures) tt)).kept

pub returns-in-Err-clause-last_proposer : goal.returns-in-Err-clause-last_proposer
returns-in-Err-clause-last_proposer g c = (list_turn_told _ (harm_by c.args.verdict) c.args.world.now c.turn.new.self c.tell.new.self (asked_of c.args.target.now) c.no_memory.result c.requires.lists c.requires.kept c.in-Err.ensures.err c.tell.ensures.step (subst IsPassing (sym c.no_memory.ensures) tt)).last_proposer

pub returns-in-Err-clause-told : goal.returns-in-Err-clause-told
returns-in-Err-clause-told g c = subst (IsToldIn (asked_of c.args.target.now) IsPlanMark (harm_by c.args.verdict) c.args.world.now c.tell.new.self) (sym c.tell.ensures.same) (list_turn_told _ (harm_by c.args.verdict) c.args.world.now c.turn.new.self c.tell.new.self (asked_of c.args.target.now) c.no_memory.result c.requires.lists c.requires.kept c.in-Err.ensures.err c.tell.ensures.step (subst IsPassing (sym c.no_memory.ensures) tt)).does

pub returns-in-Err-clause-answer : goal.returns-in-Err-clause-answer
returns-in-Err-clause-answer g c = subst (IsMembersAnswer (asked_of c.args.target.now)) (sym (c.tell.ensures.same ∙ c.no_memory.ensures)) tt
