use Rattle.std.proofs.Common.{sym, subst, ap, ◌∙◌}
use Rattle.std.specs.Prelude.{OnOk, IfErr}
use Rattle.cas_world_calls.specs.Council.{due_in}
use Rattle.cas_world.specs.Eras.Plans.{asked_of}
use Rattle.cas_board_steps.specs.Kept.{IsKept}
use Rattle.cas_board_steps.specs.Eras.Membership.{HasPlan, IsPlanMark, IsMembersAnswer}
use Rattle.cas_board_steps.specs.Exchanges.Orders.{OperatesIn, IsToldIn}
use Rattle.cas_board_steps.specs.OwnParts.{own_part}
use Rattle.cas_board_steps.proofs.Eras.Plans.{ordered_still, key_may_tell}
use Rattle.cas_board_steps.proofs.membership.take_key.Goals as goal

pub due_key-requires : goal.due_key-requires
due_key-requires g c = ordered_still c.args.world.now (asked_of c.args.target.now) c.requires.planned

pub begin_due-requires-clause-kept : goal.begin_due-requires-clause-kept
begin_due-requires-clause-kept g c = subst IsKept (sym c.in-Ok.ensures.unchanged) c.requires.kept

pub begin_due-requires-clause-planned : goal.begin_due-requires-clause-planned
begin_due-requires-clause-planned g c = subst (λ v. HasPlan (asked_of c.args.target.now) (own_part v 0)) (sym c.in-Ok.ensures.unchanged) c.requires.planned

pub begin_due-requires-clause-due : goal.begin_due-requires-clause-due
begin_due-requires-clause-due g c = c.in-Ok.ensures.key ∙ ap (λ v. due_in v.council.plan) (sym c.in-Ok.ensures.unchanged)

pub returns-in-Ok-clause-last_proposer : goal.returns-in-Ok-clause-last_proposer
returns-in-Ok-clause-last_proposer g c = c.begin_due.ensures.last_proposer ∙ ap (λ v. v.last_proposer) c.in-Ok.ensures.unchanged

pub returns-in-Ok-clause-goes_on : goal.returns-in-Ok-clause-goes_on
returns-in-Ok-clause-goes_on g c = subst (λ v. OnOk c.begin_due.result (OperatesIn IsPlanMark 0 v c.begin_due.new.world)) c.in-Ok.ensures.unchanged c.begin_due.ensures.goes_on

pub returns-in-Ok-clause-told : goal.returns-in-Ok-clause-told
returns-in-Ok-clause-told g c = subst (λ v. IfErr c.begin_due.result (IsToldIn (asked_of c.args.target.now) IsPlanMark 0 v c.begin_due.new.world)) c.in-Ok.ensures.unchanged c.begin_due.ensures.told

pub returns-in-Err-clause-kept : goal.returns-in-Err-clause-kept
returns-in-Err-clause-kept g c = (key_may_tell c.args.world.now c.due_key.new.self c.tell.new.self (asked_of c.args.target.now) c.in-Err.told c.requires.planned c.requires.kept c.in-Err.ensures.step c.in-Err.ensures.told c.tell.ensures.step).kept

pub returns-in-Err-clause-last_proposer : goal.returns-in-Err-clause-last_proposer
returns-in-Err-clause-last_proposer g c = (key_may_tell c.args.world.now c.due_key.new.self c.tell.new.self (asked_of c.args.target.now) c.in-Err.told c.requires.planned c.requires.kept c.in-Err.ensures.step c.in-Err.ensures.told c.tell.ensures.step).last_proposer

pub returns-in-Err-clause-told : goal.returns-in-Err-clause-told
returns-in-Err-clause-told g c = subst (IsToldIn (asked_of c.args.target.now) IsPlanMark 0 c.args.world.now c.tell.new.self) (sym c.tell.ensures.same) (key_may_tell c.args.world.now c.due_key.new.self c.tell.new.self (asked_of c.args.target.now) c.in-Err.told c.requires.planned c.requires.kept c.in-Err.ensures.step c.in-Err.ensures.told c.tell.ensures.step).does.0

pub returns-in-Err-clause-answer : goal.returns-in-Err-clause-answer
returns-in-Err-clause-answer g c = subst (IsMembersAnswer (asked_of c.args.target.now)) (sym c.tell.ensures.same) (key_may_tell c.args.world.now c.due_key.new.self c.tell.new.self (asked_of c.args.target.now) c.in-Err.told c.requires.planned c.requires.kept c.in-Err.ensures.step c.in-Err.ensures.told c.tell.ensures.step).does.1
