use Rattle.std.proofs.Common.{sym, subst}
use Rattle.cas_record.specs.declared.operator.OpAnswer.TheVariants as op
use Rattle.cas_world.specs.Eras.Plans.{MayTell, was_told}
use Rattle.cas_board_steps.proofs.Collection.RoundCalls.{stopped_told, stops_by}
use Rattle.cas_board_steps.proofs.collections.stop.Goals as goal

pub tell-requires : goal.tell-requires
tell-requires g c = subst (λ a. MayTell c.end_collect-answer.new.self (op.Stopped a)) (sym c.end_collect-answer.ensures.same) (was_told (stopped_told _ c.args.world.now c.end_collect-answer.new.self c.args.told c.requires.undone c.end_collect-answer.ensures.step))

pub returns-clause-stops : goal.returns-clause-stops
returns-clause-stops g c = stops_by _ c.args.world.now c.end_collect-answer.new.self c.tell.new.self c.args.told c.end_collect-answer.result c.end_collect-answer.ensures.same c.end_collect-answer.ensures.step c.tell.ensures.step
