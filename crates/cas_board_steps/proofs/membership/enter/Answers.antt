use Rattle.std.proofs.Common.{sym, subst, ◌∙◌}
use Rattle.cas_world.specs.Eras.Plans.{asked_of}
use Rattle.cas_board_steps.specs.Eras.Membership.{IsPlanMark, IsMembersAnswer}
use Rattle.cas_board_steps.specs.Exchanges.Orders.{IsToldIn}
use Rattle.cas_board_steps.proofs.Eras.Plans.{may_enter, enter_under_way, enter_held, enter_told}
use Rattle.cas_board_steps.proofs.membership.enter.Goals as goal

pub enter_era-requires : goal.enter_era-requires
enter_era-requires g c = may_enter c.args.world.now (asked_of c.args.target.now) c.in-Some.proposer c.requires.planned (sym c.enter_next.ensures.next ∙ c.in-Some.is)

pub returns-in-Ok-clause-kept : goal.returns-in-Ok-clause-kept
returns-in-Ok-clause-kept g c = (enter_held _ c.args.world.now c.enter_era.new.self (asked_of c.args.target.now) c.in-Some.proposer c.requires.planned c.requires.kept c.in-Ok.ensures.step (enter_under_way c.args.world.now c.enter_era.new.self (asked_of c.args.target.now) c.requires.planned c.in-Ok.ensures.ok)).kept

pub returns-in-Ok-clause-last_proposer : goal.returns-in-Ok-clause-last_proposer
returns-in-Ok-clause-last_proposer g c = (enter_held _ c.args.world.now c.enter_era.new.self (asked_of c.args.target.now) c.in-Some.proposer c.requires.planned c.requires.kept c.in-Ok.ensures.step (enter_under_way c.args.world.now c.enter_era.new.self (asked_of c.args.target.now) c.requires.planned c.in-Ok.ensures.ok)).last_proposer

pub returns-in-Ok-clause-goes_on : goal.returns-in-Ok-clause-goes_on
returns-in-Ok-clause-goes_on g c = (enter_held _ c.args.world.now c.enter_era.new.self (asked_of c.args.target.now) c.in-Some.proposer c.requires.planned c.requires.kept c.in-Ok.ensures.step (enter_under_way c.args.world.now c.enter_era.new.self (asked_of c.args.target.now) c.requires.planned c.in-Ok.ensures.ok)).does.0

pub returns-in-Ok-clause-planned : goal.returns-in-Ok-clause-planned
returns-in-Ok-clause-planned g c = (enter_held _ c.args.world.now c.enter_era.new.self (asked_of c.args.target.now) c.in-Some.proposer c.requires.planned c.requires.kept c.in-Ok.ensures.step (enter_under_way c.args.world.now c.enter_era.new.self (asked_of c.args.target.now) c.requires.planned c.in-Ok.ensures.ok)).does.1

pub returns-in-Err-clause-kept : goal.returns-in-Err-clause-kept
returns-in-Err-clause-kept g c = (enter_told _ c.args.world.now c.enter_era.new.self c.tell.new.self (asked_of c.args.target.now) c.in-Some.proposer c.in-Err.told c.requires.planned c.requires.kept c.in-Err.ensures.step c.in-Err.ensures.err c.tell.ensures.step).kept

pub returns-in-Err-clause-last_proposer : goal.returns-in-Err-clause-last_proposer
returns-in-Err-clause-last_proposer g c = (enter_told _ c.args.world.now c.enter_era.new.self c.tell.new.self (asked_of c.args.target.now) c.in-Some.proposer c.in-Err.told c.requires.planned c.requires.kept c.in-Err.ensures.step c.in-Err.ensures.err c.tell.ensures.step).last_proposer

pub returns-in-Err-clause-told : goal.returns-in-Err-clause-told
returns-in-Err-clause-told g c = subst (IsToldIn (asked_of c.args.target.now) IsPlanMark 0 c.args.world.now c.tell.new.self) (sym c.tell.ensures.same) (enter_told _ c.args.world.now c.enter_era.new.self c.tell.new.self (asked_of c.args.target.now) c.in-Some.proposer c.in-Err.told c.requires.planned c.requires.kept c.in-Err.ensures.step c.in-Err.ensures.err c.tell.ensures.step).does.0

pub returns-in-Err-clause-answer : goal.returns-in-Err-clause-answer
returns-in-Err-clause-answer g c = subst (IsMembersAnswer (asked_of c.args.target.now)) (sym c.tell.ensures.same) (enter_told _ c.args.world.now c.enter_era.new.self c.tell.new.self (asked_of c.args.target.now) c.in-Some.proposer c.in-Err.told c.requires.planned c.requires.kept c.in-Err.ensures.step c.in-Err.ensures.err c.tell.ensures.step).does.1
