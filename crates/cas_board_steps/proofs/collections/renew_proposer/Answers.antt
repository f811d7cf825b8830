use Rattle.std.proofs.Common.{sym, subst}
use Rattle.std.specs.Prelude.{Err}
use Rattle.cas_collect.specs.declared.collect.CollectStep.TheVariants as step
use Rattle.cas_world.specs.Eras.Plans.{was_told}
use Rattle.cas_board_steps.specs.Collection.Collecting.{CollectsIn}
use Rattle.cas_board_steps.proofs.Collection.Steps.{due_step}
use Rattle.cas_board_steps.proofs.Collection.Renewals.{renew_held, renew_told}
use Rattle.cas_board_steps.proofs.Calls.Tries.{told_within}
use Rattle.cas_board_steps.proofs.collections.renew_proposer.Goals as goal

pub renew-requires-clause-due : goal.renew-requires-clause-due
renew-requires-clause-due g c = due_step c.args.world.now c.args.key.now (step.Renew c.args.proposer) c.requires.at

pub tell-requires : goal.tell-requires
tell-requires g c = was_told c.in-Err.ensures.err

pub returns-in-Ok-clause-kept : goal.returns-in-Ok-clause-kept
returns-in-Ok-clause-kept g c = (renew_held _ c.args.key.now c.args.proposer 0 c.args.world.now c.renew.new.self c.requires.at c.requires.kept c.in-Ok.ensures.step c.in-Ok.ensures.ok).kept

pub returns-in-Ok-clause-last_proposer : goal.returns-in-Ok-clause-last_proposer
returns-in-Ok-clause-last_proposer g c = (renew_held _ c.args.key.now c.args.proposer 0 c.args.world.now c.renew.new.self c.requires.at c.requires.kept c.in-Ok.ensures.step c.in-Ok.ensures.ok).last_proposer

pub returns-in-Ok-clause-collects : goal.returns-in-Ok-clause-collects
returns-in-Ok-clause-collects g c tries most = (renew_held _ c.args.key.now c.args.proposer most c.args.world.now c.renew.new.self c.requires.at c.requires.kept c.in-Ok.ensures.step c.in-Ok.ensures.ok).does

pub returns-in-Err-clause-kept : goal.returns-in-Err-clause-kept
returns-in-Err-clause-kept g c = (renew_told _ c.args.key.now c.args.proposer 0 c.args.world.now c.renew.new.self c.tell.new.self c.in-Err.told c.requires.at c.requires.kept c.in-Err.ensures.step c.in-Err.ensures.err c.tell.ensures.step).kept

pub returns-in-Err-clause-last_proposer : goal.returns-in-Err-clause-last_proposer
returns-in-Err-clause-last_proposer g c = (renew_told _ c.args.key.now c.args.proposer 0 c.args.world.now c.renew.new.self c.tell.new.self c.in-Err.told c.requires.at c.requires.kept c.in-Err.ensures.step c.in-Err.ensures.err c.tell.ensures.step).last_proposer

pub returns-in-Err-clause-collects : goal.returns-in-Err-clause-collects
returns-in-Err-clause-collects g c tries most = subst (λ a. CollectsIn c.args.key.now tries most c.args.world.now c.tell.new.self (Err a)) (sym c.tell.ensures.same) (told_within c.args.key.now tries (renew_told _ c.args.key.now c.args.proposer most c.args.world.now c.renew.new.self c.tell.new.self c.in-Err.told c.requires.at c.requires.kept c.in-Err.ensures.step c.in-Err.ensures.err c.tell.ensures.step).does)
