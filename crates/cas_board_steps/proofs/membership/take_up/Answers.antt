use Rattle.std.proofs.Common.{refl, sym, subst}
use Rattle.cas_world.specs.Eras.Plans.{asked_of}
use Rattle.cas_board_steps.specs.Eras.Membership.{IsPlanMark, IsMembersAnswer}
use Rattle.cas_board_steps.specs.Exchanges.Orders.{IsToldIn}
use Rattle.cas_board_steps.proofs.Eras.Plans.{up_held, may_open, open_held, open_told}
use Rattle.cas_board_steps.proofs.membership.take_up.Goals as goal

pub returns-then-is_under_way-clause-makes : goal.returns-then-is_under_way-clause-makes
returns-then-is_under_way-clause-makes g c = (up_held c.args.world.now (asked_of c.args.target.now) c.requires.ordered c.requires.kept (c.is_under_way.ensures.0 c.if-is_under_way.true)).does.0

pub returns-then-is_under_way-clause-planned : goal.returns-then-is_under_way-clause-planned
returns-then-is_under_way-clause-planned g c = (up_held c.args.world.now (asked_of c.args.target.now) c.requires.ordered c.requires.kept (c.is_under_way.ensures.0 c.if-is_under_way.true)).does.1

pub open_change-requires : goal.open_change-requires
open_change-requires g c = may_open c.args.world.now (asked_of c.args.target.now) c.requires.ordered (λ is. absurd (cc (c.is_under_way.ensures.1 is, c.if-is_under_way.false)))

pub returns-in-Ok-clause-kept : goal.returns-in-Ok-clause-kept
returns-in-Ok-clause-kept g c = (open_held _ c.args.world.now c.open_change.new.self (asked_of c.args.target.now) c.requires.ordered c.requires.kept c.in-Ok.ensures.step c.in-Ok.ensures.ok).kept

pub returns-in-Ok-clause-last_proposer : goal.returns-in-Ok-clause-last_proposer
returns-in-Ok-clause-last_proposer g c = (open_held _ c.args.world.now c.open_change.new.self (asked_of c.args.target.now) c.requires.ordered c.requires.kept c.in-Ok.ensures.step c.in-Ok.ensures.ok).last_proposer

pub returns-in-Ok-clause-makes : goal.returns-in-Ok-clause-makes
returns-in-Ok-clause-makes g c = (open_held _ c.args.world.now c.open_change.new.self (asked_of c.args.target.now) c.requires.ordered c.requires.kept c.in-Ok.ensures.step c.in-Ok.ensures.ok).does.0

pub returns-in-Ok-clause-planned : goal.returns-in-Ok-clause-planned
returns-in-Ok-clause-planned g c = (open_held _ c.args.world.now c.open_change.new.self (asked_of c.args.target.now) c.requires.ordered c.requires.kept c.in-Ok.ensures.step c.in-Ok.ensures.ok).does.1

pub returns-in-Err-clause-kept : goal.returns-in-Err-clause-kept
returns-in-Err-clause-kept g c = (open_told _ c.args.world.now c.open_change.new.self c.tell.new.self (asked_of c.args.target.now) c.in-Err.told c.requires.ordered c.requires.kept c.in-Err.ensures.step c.in-Err.ensures.err c.tell.ensures.step).kept

pub returns-in-Err-clause-last_proposer : goal.returns-in-Err-clause-last_proposer
returns-in-Err-clause-last_proposer g c = (open_told _ c.args.world.now c.open_change.new.self c.tell.new.self (asked_of c.args.target.now) c.in-Err.told c.requires.ordered c.requires.kept c.in-Err.ensures.step c.in-Err.ensures.err c.tell.ensures.step).last_proposer

pub returns-in-Err-clause-told : goal.returns-in-Err-clause-told
returns-in-Err-clause-told g c = subst (IsToldIn (asked_of c.args.target.now) IsPlanMark 0 c.args.world.now c.tell.new.self) (sym c.tell.ensures.same) (open_told _ c.args.world.now c.open_change.new.self c.tell.new.self (asked_of c.args.target.now) c.in-Err.told c.requires.ordered c.requires.kept c.in-Err.ensures.step c.in-Err.ensures.err c.tell.ensures.step).does.0

pub returns-in-Err-clause-answer : goal.returns-in-Err-clause-answer
returns-in-Err-clause-answer g c = subst (IsMembersAnswer (asked_of c.args.target.now)) (sym c.tell.ensures.same) (open_told _ c.args.world.now c.open_change.new.self c.tell.new.self (asked_of c.args.target.now) c.in-Err.told c.requires.ordered c.requires.kept c.in-Err.ensures.step c.in-Err.ensures.err c.tell.ensures.step).does.1

pub returns-then-is_under_way-clause-counted : goal.returns-then-is_under_way-clause-counted
returns-then-is_under_way-clause-counted g c = refl

pub returns-in-Ok-clause-counted : goal.returns-in-Ok-clause-counted
returns-in-Ok-clause-counted g c = (open_held _ c.args.world.now c.open_change.new.self (asked_of c.args.target.now) c.requires.ordered c.requires.kept c.in-Ok.ensures.step c.in-Ok.ensures.ok).does.2
