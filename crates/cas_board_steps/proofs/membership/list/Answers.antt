use Rattle.std.proofs.Common.{sym, subst}
use Rattle.cas_world.specs.Eras.Plans.{asked_of}
use Rattle.cas_board_steps.specs.Eras.Membership.{IsPlanMark, IsMembersAnswer}
use Rattle.cas_board_steps.specs.Exchanges.Orders.{IsToldIn}
use Rattle.cas_board_steps.proofs.Eras.Plans.{may_list, list_held, list_told}
use Rattle.cas_board_steps.proofs.membership.list.Goals as goal

pub ask_all-requires : goal.ask_all-requires
ask_all-requires g c = may_list c.args.world.now (asked_of c.args.target.now) c.requires.kept c.requires.planned c.requires.settles c.requires.partial

pub returns-in-Ok-clause-kept : goal.returns-in-Ok-clause-kept
returns-in-Ok-clause-kept g c = (list_held _ c.args.world.now c.ask_all.new.self (asked_of c.args.target.now) c.requires.planned c.requires.kept c.in-Ok.ensures.step c.in-Ok.ensures.ok).kept

pub returns-in-Ok-clause-last_proposer : goal.returns-in-Ok-clause-last_proposer
returns-in-Ok-clause-last_proposer g c = (list_held _ c.args.world.now c.ask_all.new.self (asked_of c.args.target.now) c.requires.planned c.requires.kept c.in-Ok.ensures.step c.in-Ok.ensures.ok).last_proposer

pub returns-in-Ok-clause-makes : goal.returns-in-Ok-clause-makes
returns-in-Ok-clause-makes g c = (list_held _ c.args.world.now c.ask_all.new.self (asked_of c.args.target.now) c.requires.planned c.requires.kept c.in-Ok.ensures.step c.in-Ok.ensures.ok).does.0

pub returns-in-Ok-clause-lists : goal.returns-in-Ok-clause-lists
returns-in-Ok-clause-lists g c = (list_held _ c.args.world.now c.ask_all.new.self (asked_of c.args.target.now) c.requires.planned c.requires.kept c.in-Ok.ensures.step c.in-Ok.ensures.ok).does.1

pub returns-in-Err-clause-kept : goal.returns-in-Err-clause-kept
returns-in-Err-clause-kept g c = (list_told _ c.args.world.now c.ask_all.new.self c.tell.new.self (asked_of c.args.target.now) c.in-Err.told c.requires.planned c.requires.kept c.in-Err.ensures.step c.in-Err.ensures.err c.tell.ensures.step).kept

pub returns-in-Err-clause-last_proposer : goal.returns-in-Err-clause-last_proposer
returns-in-Err-clause-last_proposer g c = (list_told _ c.args.world.now c.ask_all.new.self c.tell.new.self (asked_of c.args.target.now) c.in-Err.told c.requires.planned c.requires.kept c.in-Err.ensures.step c.in-Err.ensures.err c.tell.ensures.step).last_proposer

pub returns-in-Err-clause-told : goal.returns-in-Err-clause-told
returns-in-Err-clause-told g c = subst (IsToldIn (asked_of c.args.target.now) IsPlanMark 0 c.args.world.now c.tell.new.self) (sym c.tell.ensures.same) (list_told _ c.args.world.now c.ask_all.new.self c.tell.new.self (asked_of c.args.target.now) c.in-Err.told c.requires.planned c.requires.kept c.in-Err.ensures.step c.in-Err.ensures.err c.tell.ensures.step).does.0

pub returns-in-Err-clause-answer : goal.returns-in-Err-clause-answer
returns-in-Err-clause-answer g c = subst (IsMembersAnswer (asked_of c.args.target.now)) (sym c.tell.ensures.same) (list_told _ c.args.world.now c.ask_all.new.self c.tell.new.self (asked_of c.args.target.now) c.in-Err.told c.requires.planned c.requires.kept c.in-Err.ensures.step c.in-Err.ensures.err c.tell.ensures.step).does.1

pub returns-in-Ok-clause-counted : goal.returns-in-Ok-clause-counted
returns-in-Ok-clause-counted g c = (list_held _ c.args.world.now c.ask_all.new.self (asked_of c.args.target.now) c.requires.planned c.requires.kept c.in-Ok.ensures.step c.in-Ok.ensures.ok).does.2
