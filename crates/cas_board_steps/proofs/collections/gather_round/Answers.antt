use Rattle.std.proofs.Common.{sym, subst, inr}
use Rattle.std.specs.Prelude.{Err}
use Rattle.cas_world.specs.Eras.Plans.{was_told}
use Rattle.cas_board_steps.specs.Collection.Collecting.{CollectsIn}
use Rattle.cas_board_steps.proofs.Collection.Steps.{may_gather_round, round_held, round_told}
use Rattle.cas_board_steps.proofs.Calls.Tries.{told_within}
use Rattle.cas_board_steps.proofs.collections.gather_round.Goals as goal

pub gather-requires : goal.gather-requires
gather-requires g c = may_gather_round c.args.world.now c.args.key.now c.requires.kept c.requires.at

pub tell-requires : goal.tell-requires
tell-requires g c = was_told c.in-Err.ensures.err

pub returns-in-Ok-clause-kept : goal.returns-in-Ok-clause-kept
returns-in-Ok-clause-kept g c = (round_held _ c.args.key.now 0 c.args.world.now c.gather.new.self _ c.requires.at c.requires.kept c.in-Ok.ensures.step c.in-Ok.ensures.ok).kept

pub returns-in-Ok-clause-last_proposer : goal.returns-in-Ok-clause-last_proposer
returns-in-Ok-clause-last_proposer g c = (round_held _ c.args.key.now 0 c.args.world.now c.gather.new.self _ c.requires.at c.requires.kept c.in-Ok.ensures.step c.in-Ok.ensures.ok).last_proposer

pub returns-in-Ok-clause-collects : goal.returns-in-Ok-clause-collects
returns-in-Ok-clause-collects g c tries most =
    let held = round_held _ c.args.key.now most c.args.world.now c.gather.new.self _ c.requires.at c.requires.kept c.in-Ok.ensures.step c.in-Ok.ensures.ok in
    (held.does.0, inr (0, held.does.1))

pub returns-clause-kept : goal.returns-clause-kept
returns-clause-kept g c = (round_told _ c.args.key.now 0 c.args.world.now c.gather.new.self c.tell.new.self c.in-Err.told c.requires.at c.requires.kept c.in-Err.ensures.step c.in-Err.ensures.err c.tell.ensures.step).kept

pub returns-clause-last_proposer : goal.returns-clause-last_proposer
returns-clause-last_proposer g c = (round_told _ c.args.key.now 0 c.args.world.now c.gather.new.self c.tell.new.self c.in-Err.told c.requires.at c.requires.kept c.in-Err.ensures.step c.in-Err.ensures.err c.tell.ensures.step).last_proposer

pub returns-clause-collects : goal.returns-clause-collects
returns-clause-collects g c tries most =
    subst (λ a. CollectsIn c.args.key.now tries most c.args.world.now c.tell.new.self (Err a)) (sym c.tell.ensures.same)
    (told_within c.args.key.now tries (round_told _ c.args.key.now most c.args.world.now c.gather.new.self c.tell.new.self c.in-Err.told c.requires.at c.requires.kept c.in-Err.ensures.step c.in-Err.ensures.err c.tell.ensures.step).does)
