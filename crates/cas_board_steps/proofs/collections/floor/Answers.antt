use Rattle.cas_collect.specs.declared.collect.CollectStep.TheVariants as step
use Rattle.cas_board_steps.proofs.Collection.Steps.{due_step, floor_held}
use Rattle.cas_board_steps.proofs.collections.floor.Goals as goal

pub floor-requires : goal.floor-requires
floor-requires g c = due_step c.args.world.now c.args.key.now step.Floor c.requires.at

pub returns-clause-kept : goal.returns-clause-kept
returns-clause-kept g c = (floor_held c.args.key.now 0 c.args.world.now c.floor.new.self c.requires.at c.requires.kept c.floor.ensures.step).kept

pub returns-clause-last_proposer : goal.returns-clause-last_proposer
returns-clause-last_proposer g c = (floor_held c.args.key.now 0 c.args.world.now c.floor.new.self c.requires.at c.requires.kept c.floor.ensures.step).last_proposer

pub returns-clause-collects : goal.returns-clause-collects
returns-clause-collects g c tries most = (floor_held c.args.key.now most c.args.world.now c.floor.new.self c.requires.at c.requires.kept c.floor.ensures.step).does
