use Rattle.std.proofs.Common.{sym, subst}
use Rattle.cas_world.specs.Eras.Plans.{asked_of}
use Rattle.cas_board_steps.specs.Eras.Membership.{IsPlanMark, IsMembersAnswer}
use Rattle.cas_board_steps.specs.Exchanges.Orders.{IsToldIn}
use Rattle.cas_board_steps.proofs.Eras.Plans.{may_gather_list, gather_list_held, gather_list_told, made_none}
use Rattle.cas_board_steps.proofs.membership.gather_list.Goals as goal

pub gather-requires : goal.gather-requires
gather-requires g c = may_gather_list c.args.world.now (asked_of c.args.target.now) c.requires.lists c.requires.through

pub returns-in-Ok-clause-kept : goal.returns-in-Ok-clause-kept
returns-in-Ok-clause-kept g c = (gather_list_held _ c.args.world.now c.gather.new.self (asked_of c.args.target.now) c.in-Ok.field-0 c.requires.lists c.requires.kept c.in-Ok.ensures.step c.in-Ok.ensures.ok).kept

pub returns-in-Ok-clause-last_proposer : goal.returns-in-Ok-clause-last_proposer
returns-in-Ok-clause-last_proposer g c = (gather_list_held _ c.args.world.now c.gather.new.self (asked_of c.args.target.now) c.in-Ok.field-0 c.requires.lists c.requires.kept c.in-Ok.ensures.step c.in-Ok.ensures.ok).last_proposer

pub returns-in-Ok-clause-goes_on : goal.returns-in-Ok-clause-goes_on
returns-in-Ok-clause-goes_on g c most = made_none most c.args.world.now c.gather.new.self ((gather_list_held _ c.args.world.now c.gather.new.self (asked_of c.args.target.now) c.in-Ok.field-0 c.requires.lists c.requires.kept c.in-Ok.ensures.step c.in-Ok.ensures.ok).does.0) ((gather_list_held _ c.args.world.now c.gather.new.self (asked_of c.args.target.now) c.in-Ok.field-0 c.requires.lists c.requires.kept c.in-Ok.ensures.step c.in-Ok.ensures.ok).does.2)

pub returns-in-Ok-clause-planned : goal.returns-in-Ok-clause-planned
returns-in-Ok-clause-planned g c = (gather_list_held _ c.args.world.now c.gather.new.self (asked_of c.args.target.now) c.in-Ok.field-0 c.requires.lists c.requires.kept c.in-Ok.ensures.step c.in-Ok.ensures.ok).does.1

pub returns-clause-kept : goal.returns-clause-kept
returns-clause-kept g c = (gather_list_told _ 0 c.args.world.now c.gather.new.self c.tell.new.self (asked_of c.args.target.now) c.in-Err.told c.requires.lists c.requires.kept c.in-Err.ensures.step c.in-Err.ensures.err c.tell.ensures.step).kept

pub returns-clause-last_proposer : goal.returns-clause-last_proposer
returns-clause-last_proposer g c = (gather_list_told _ 0 c.args.world.now c.gather.new.self c.tell.new.self (asked_of c.args.target.now) c.in-Err.told c.requires.lists c.requires.kept c.in-Err.ensures.step c.in-Err.ensures.err c.tell.ensures.step).last_proposer

pub returns-clause-told : goal.returns-clause-told
returns-clause-told g c most = subst (IsToldIn (asked_of c.args.target.now) IsPlanMark most c.args.world.now c.tell.new.self) (sym c.tell.ensures.same) (gather_list_told _ most c.args.world.now c.gather.new.self c.tell.new.self (asked_of c.args.target.now) c.in-Err.told c.requires.lists c.requires.kept c.in-Err.ensures.step c.in-Err.ensures.err c.tell.ensures.step).does.0

pub returns-clause-answer : goal.returns-clause-answer
returns-clause-answer g c = subst (IsMembersAnswer (asked_of c.args.target.now)) (sym c.tell.ensures.same) (gather_list_told _ 0 c.args.world.now c.gather.new.self c.tell.new.self (asked_of c.args.target.now) c.in-Err.told c.requires.lists c.requires.kept c.in-Err.ensures.step c.in-Err.ensures.err c.tell.ensures.step).does.1
