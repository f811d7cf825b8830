use Rattle.std.proofs.Common.{sym, subst, refl}
use Rattle.std.specs.Prelude.{Err}
use Rattle.cas_collect.specs.declared.collect.CollectStep.TheVariants as step
use Rattle.cas_record.specs.declared.operator.OpAnswer.TheVariants as op
use Rattle.cas_world.specs.Eras.Plans.{has_collected}
use Rattle.cas_board_steps.specs.Collection.Collecting.{CollectsIn}
use Rattle.cas_board_steps.proofs.Collection.Steps.{may_gather, gather_told, collected_all, collected_told, collected_says}
use Rattle.cas_board_steps.proofs.Calls.Tries.{told_within}
use Rattle.cas_board_steps.proofs.collections.gather_removals.Goals as goal

pub gather-requires : goal.gather-requires
gather-requires g c = may_gather c.args.world.now c.args.key step.Remove c.requires.at c.requires.through

pub tell-requires : goal.tell-requires
tell-requires g c = has_collected (collected_all _ c.args.key c.args.world.now c.gather.new.self _ (op.Collected c.args.key c.tombstone-ballot.result c.removals-removed.result.0 c.removals-removed.result.1) c.requires.at c.in-Ok.ensures.step c.in-Ok.ensures.ok
    (collected_says c.args.key c.gather.new.self.council.collection c.tombstone-ballot.result c.removals-removed.result.0 c.removals-removed.result.1 c.tombstone-ballot.ensures c.removals-removed.ensures))

pub returns-in-Ok-clause-kept : goal.returns-in-Ok-clause-kept
returns-in-Ok-clause-kept g c = (collected_told _ c.args.key 0 c.args.world.now c.gather.new.self c.tell.new.self _ (op.Collected c.args.key c.tombstone-ballot.result c.removals-removed.result.0 c.removals-removed.result.1) refl c.requires.at c.requires.kept c.in-Ok.ensures.step c.in-Ok.ensures.ok c.tell.ensures.step).kept

pub returns-in-Ok-clause-last_proposer : goal.returns-in-Ok-clause-last_proposer
returns-in-Ok-clause-last_proposer g c = (collected_told _ c.args.key 0 c.args.world.now c.gather.new.self c.tell.new.self _ (op.Collected c.args.key c.tombstone-ballot.result c.removals-removed.result.0 c.removals-removed.result.1) refl c.requires.at c.requires.kept c.in-Ok.ensures.step c.in-Ok.ensures.ok c.tell.ensures.step).last_proposer

pub returns-in-Ok-clause-collects : goal.returns-in-Ok-clause-collects
returns-in-Ok-clause-collects g c tries most = subst (λ a. CollectsIn c.args.key tries most c.args.world.now c.tell.new.self (Err a)) (sym c.tell.ensures.same) (told_within c.args.key tries (collected_told _ c.args.key most c.args.world.now c.gather.new.self c.tell.new.self _ (op.Collected c.args.key c.tombstone-ballot.result c.removals-removed.result.0 c.removals-removed.result.1) refl c.requires.at c.requires.kept c.in-Ok.ensures.step c.in-Ok.ensures.ok c.tell.ensures.step).does)

pub returns-in-Err-clause-kept : goal.returns-in-Err-clause-kept
returns-in-Err-clause-kept g c = (gather_told _ c.args.key step.Remove step.End 0 c.args.world.now c.gather.new.self c.tell-in-Err.new.self c.in-Err.told (λ p. refl) c.requires.at c.requires.kept c.in-Err.ensures.step c.in-Err.ensures.err c.tell-in-Err.ensures.step).kept

pub returns-in-Err-clause-last_proposer : goal.returns-in-Err-clause-last_proposer
returns-in-Err-clause-last_proposer g c = (gather_told _ c.args.key step.Remove step.End 0 c.args.world.now c.gather.new.self c.tell-in-Err.new.self c.in-Err.told (λ p. refl) c.requires.at c.requires.kept c.in-Err.ensures.step c.in-Err.ensures.err c.tell-in-Err.ensures.step).last_proposer

pub returns-in-Err-clause-collects : goal.returns-in-Err-clause-collects
returns-in-Err-clause-collects g c tries most = subst (λ a. CollectsIn c.args.key tries most c.args.world.now c.tell-in-Err.new.self (Err a)) (sym c.tell-in-Err.ensures.same) (told_within c.args.key tries (gather_told _ c.args.key step.Remove step.End most c.args.world.now c.gather.new.self c.tell-in-Err.new.self c.in-Err.told (λ p. refl) c.requires.at c.requires.kept c.in-Err.ensures.step c.in-Err.ensures.err c.tell-in-Err.ensures.step).does)
