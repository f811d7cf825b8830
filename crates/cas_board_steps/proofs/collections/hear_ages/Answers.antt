use Rattle.std.proofs.Common.{not, sym, ap, subst, ◌∙◌}
use Rattle.std.specs.Prelude.{Err}
use Rattle.cas_collect.specs.declared.collect.CollectStep.TheVariants as step
use Rattle.cas_world.specs.Eras.Plans.{MayTell, was_told}
use Rattle.cas_board_steps.specs.Collection.Collecting.{CollectsIn}
use Rattle.cas_board_steps.specs.Calls.Changes.{harm_by}
use Rattle.cas_board_steps.proofs.Collection.Steps.{frame_waits, one_waits, no_frame_waits, turn_held, turn_may_tell, turn_told}
use Rattle.cas_board_steps.proofs.Calls.Tries.{told_within}
use Rattle.cas_board_steps.proofs.collections.hear_ages.Goals as goal

pub turn-requires-clause-waits : goal.turn-requires-clause-waits
turn-requires-clause-waits g c = frame_waits c.args.world.now c.args.key.now step.Ages c.requires.at (one_waits c.args.world.now c.args.key.now step.Ages c.front.result c.requires.at c.front.ensures (c.is_none.ensures ∙ ap not c.if-is_none.false))

pub tell-requires : goal.tell-requires
tell-requires g c = subst (MayTell c.turn.new.self) (sym c.no_memory.ensures) (was_told (turn_may_tell _ c.args.key.now step.Ages c.args.world.now c.turn.new.self c.requires.at c.in-Err.ensures.err))

pub returns-in-Ok-clause-kept : goal.returns-in-Ok-clause-kept
returns-in-Ok-clause-kept g c = (turn_held _ c.args.key.now step.Ages c.args.verdict c.args.world.now c.turn.new.self c.requires.at c.requires.kept c.in-Ok.ensures.ok).kept

pub returns-in-Err-clause-kept : goal.returns-in-Err-clause-kept
returns-in-Err-clause-kept g c = (turn_told _ c.args.key.now step.Ages (harm_by c.args.verdict) c.args.world.now c.turn.new.self c.tell.new.self c.no_memory.result c.no_memory.ensures c.requires.at c.requires.kept c.in-Err.ensures.err c.tell.ensures.step).kept

pub returns-in-Ok-clause-last_proposer : goal.returns-in-Ok-clause-last_proposer
returns-in-Ok-clause-last_proposer g c = (turn_held _ c.args.key.now step.Ages c.args.verdict c.args.world.now c.turn.new.self c.requires.at c.requires.kept c.in-Ok.ensures.ok).last_proposer

pub returns-in-Err-clause-last_proposer : goal.returns-in-Err-clause-last_proposer
returns-in-Err-clause-last_proposer g c = (turn_told _ c.args.key.now step.Ages (harm_by c.args.verdict) c.args.world.now c.turn.new.self c.tell.new.self c.no_memory.result c.no_memory.ensures c.requires.at c.requires.kept c.in-Err.ensures.err c.tell.ensures.step).last_proposer

pub returns-in-Ok-clause-collects : goal.returns-in-Ok-clause-collects
returns-in-Ok-clause-collects g c tries = (turn_held _ c.args.key.now step.Ages c.args.verdict c.args.world.now c.turn.new.self c.requires.at c.requires.kept c.in-Ok.ensures.ok).does

pub returns-in-Err-clause-collects : goal.returns-in-Err-clause-collects
returns-in-Err-clause-collects g c tries = subst (λ a. CollectsIn c.args.key.now tries (harm_by c.args.verdict) c.args.world.now c.tell.new.self (Err a)) (sym c.tell.ensures.same) (told_within c.args.key.now tries (turn_told _ c.args.key.now step.Ages (harm_by c.args.verdict) c.args.world.now c.turn.new.self c.tell.new.self c.no_memory.result c.no_memory.ensures c.requires.at c.requires.kept c.in-Err.ensures.err c.tell.ensures.step).does)

pub gather_ages-requires-clause-through : goal.gather_ages-requires-clause-through
gather_ages-requires-clause-through g c = no_frame_waits c.args.world.now c.args.key.now step.Ages c.front.result c.requires.at c.front.ensures (c.is_none.ensures ∙ ap not c.if-is_none.true)

pub returns-then-is_none-clause-collects : goal.returns-then-is_none-clause-collects
returns-then-is_none-clause-collects g c tries = c.gather_ages.ensures.collects tries (harm_by c.args.verdict)
