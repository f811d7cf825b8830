use Rattle.std.proofs.Common.{sym, subst}
use Rattle.cas_world.specs.Eras.Plans.{asked_of, has_finished}
use Rattle.cas_board_steps.specs.Eras.Membership.{IsPlanMark, IsMembersAnswer}
use Rattle.cas_board_steps.specs.Exchanges.Orders.{IsToldIn}
use Rattle.cas_board_steps.proofs.Eras.Plans.{is_under_way, finishes, names_it}
use Rattle.cas_board_steps.proofs.membership.finish.Goals as goal

pub finished_answer-answer-requires-clause-under_way : goal.finished_answer-answer-requires-clause-under_way
finished_answer-answer-requires-clause-under_way g c = is_under_way c.args.world.now (asked_of c.args.target.now) c.requires.planned

pub tell-requires : goal.tell-requires
tell-requires g c = has_finished c.finished_answer-answer.ensures.finished

pub returns-clause-kept : goal.returns-clause-kept
returns-clause-kept g c = (finishes c.args.world.now c.tell.new.self (asked_of c.args.target.now) c.finished_answer-answer.result c.requires.planned c.requires.kept
    c.tell.ensures.step c.finished_answer-answer.ensures.finished).kept

pub returns-clause-last_proposer : goal.returns-clause-last_proposer
returns-clause-last_proposer g c = (finishes c.args.world.now c.tell.new.self (asked_of c.args.target.now) c.finished_answer-answer.result c.requires.planned
    c.requires.kept c.tell.ensures.step c.finished_answer-answer.ensures.finished).last_proposer

pub returns-clause-told : goal.returns-clause-told
returns-clause-told g c = subst (IsToldIn (asked_of c.args.target.now) IsPlanMark 0 c.args.world.now c.tell.new.self) (sym c.tell.ensures.same)
    (finishes c.args.world.now c.tell.new.self (asked_of c.args.target.now) c.finished_answer-answer.result c.requires.planned c.requires.kept c.tell.ensures.step
    c.finished_answer-answer.ensures.finished).does

pub returns-clause-answer : goal.returns-clause-answer
returns-clause-answer g c = subst (IsMembersAnswer (asked_of c.args.target.now)) (sym c.tell.ensures.same)
    (names_it c.args.target.now _ _ _ c.finished_answer-answer.ensures.names)
