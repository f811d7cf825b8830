use Rattle.std.proofs.Common.{refl, sym, subst, ap, ◌∙◌}
use Rattle.std.specs.Prelude.{Ok, Err}
use Rattle.cas_board_steps.specs.Collection.Collecting.{CollectsIn, most_rounds}
use Rattle.cas_board_steps.specs.Calls.Open.{rounds_in}
use Rattle.cas_board_steps.specs.OwnParts.{own_part}
use Rattle.cas_board_steps.proofs.Collection.RoundCalls.{calling_there, proposed_held, proposed_within, met_held, met_within, propose_stops, propose_told, propose_calling, propose_undone}
use Rattle.cas_board_steps.proofs.Collection.RoundEnds.{read_held}
use Rattle.cas_board_steps.proofs.Calls.Tries.{most_above, most_spent}
use Rattle.cas_board_steps.proofs.collections.propose_tombstone.Goals as goal
use Rattle.cas_board_steps.proofs.collections.propose_tombstone.Goals.{else-rounds-tries-via-then-rounds-tries+else-is_conflict, else-rounds-tries-via-else-rounds-tries}

pub propose_tombstone-requires-clause-calling : goal.propose_tombstone-requires-clause-calling
propose_tombstone-requires-clause-calling g c = calling_there c.args.world.now c.args.key.now c.args.call c.requires.at c.requires.kept

pub stop-requires-clause-told : goal.stop-requires-clause-told
stop-requires-clause-told g c = (propose_told c.args.world.now c.propose_tombstone.new.self c.args.key.now c.args.call c.in-Err.told c.requires.at c.in-Err.ensures.told)

pub stop-requires-clause-undone : goal.stop-requires-clause-undone
stop-requires-clause-undone g c = propose_undone _ c.args.call c.args.world.now c.propose_tombstone.new.self c.in-Err.told c.in-Err.ensures.err (propose_told c.args.world.now c.propose_tombstone.new.self c.args.key.now c.args.call c.in-Err.told c.requires.at c.in-Err.ensures.told)

pub stop-requires-clause-calling : goal.stop-requires-clause-calling
stop-requires-clause-calling g c = propose_calling _ c.args.world.now c.propose_tombstone.new.self c.args.key.now c.args.call c.in-Err.told c.requires.at c.requires.kept c.in-Err.ensures.err (propose_told c.args.world.now c.propose_tombstone.new.self c.args.key.now c.args.call c.in-Err.told c.requires.at c.in-Err.ensures.told)

pub returns-in-Ok-Empty-clause-kept : goal.returns-in-Ok-Empty-clause-kept
returns-in-Ok-Empty-clause-kept g c = (proposed_held _ c.args.key.now c.args.call 0 c.args.world.now c.propose_tombstone.new.self c.requires.at c.requires.kept (c.in-Ok-Empty.ensures.empty (ap Ok c.in-Ok-Empty.field-0-is)).1 (c.in-Ok-Empty.ensures.empty (ap Ok c.in-Ok-Empty.field-0-is)).0).kept

pub returns-in-Ok-Empty-clause-last_proposer : goal.returns-in-Ok-Empty-clause-last_proposer
returns-in-Ok-Empty-clause-last_proposer g c = (proposed_held _ c.args.key.now c.args.call 0 c.args.world.now c.propose_tombstone.new.self c.requires.at c.requires.kept (c.in-Ok-Empty.ensures.empty (ap Ok c.in-Ok-Empty.field-0-is)).1 (c.in-Ok-Empty.ensures.empty (ap Ok c.in-Ok-Empty.field-0-is)).0).last_proposer

pub returns-in-Ok-Empty-clause-collects : goal.returns-in-Ok-Empty-clause-collects
returns-in-Ok-Empty-clause-collects g c most =
    let did = c.in-Ok-Empty.ensures.empty (ap Ok c.in-Ok-Empty.field-0-is) in
    let does = (proposed_held _ c.args.key.now c.args.call most c.args.world.now c.propose_tombstone.new.self c.requires.at c.requires.kept did.1 did.0).does in
    (does.0, (does.1, proposed_within _ c.args.key.now c.args.call (most_rounds c.args.tries) c.args.rounds c.args.world.now c.propose_tombstone.new.self c.requires.at c.requires.kept did.1 did.0 c.requires.within))

pub returns-in-Ok-Held-clause-kept : goal.returns-in-Ok-Held-clause-kept
returns-in-Ok-Held-clause-kept g c = (read_held _ c.args.key.now c.args.call 0 c.args.world.now c.propose_tombstone.new.self c.requires.at c.requires.kept (c.in-Ok-Held.ensures.held _ (ap Ok c.in-Ok-Held.field-0-is))).kept

pub returns-in-Ok-Held-clause-last_proposer : goal.returns-in-Ok-Held-clause-last_proposer
returns-in-Ok-Held-clause-last_proposer g c = (read_held _ c.args.key.now c.args.call 0 c.args.world.now c.propose_tombstone.new.self c.requires.at c.requires.kept (c.in-Ok-Held.ensures.held _ (ap Ok c.in-Ok-Held.field-0-is))).last_proposer

pub returns-in-Ok-Held-clause-collects : goal.returns-in-Ok-Held-clause-collects
returns-in-Ok-Held-clause-collects g c most = (read_held _ c.args.key.now c.args.call most c.args.world.now c.propose_tombstone.new.self c.requires.at c.requires.kept (c.in-Ok-Held.ensures.held _ (ap Ok c.in-Ok-Held.field-0-is))).does

pub returns-then-is_conflict-clause-kept : goal.returns-then-is_conflict-clause-kept
returns-then-is_conflict-clause-kept g c = (met_held _ c.args.key.now c.args.call 0 c.args.world.now c.propose_tombstone.new.self c.in-Err.told c.requires.at c.requires.kept c.requires.unproposed (propose_told c.args.world.now c.propose_tombstone.new.self c.args.key.now c.args.call c.in-Err.told c.requires.at c.in-Err.ensures.told) (sym c.is_conflict.ensures ∙ c.if-is_conflict.true) c.in-Err.ensures.err).kept

pub returns-then-is_conflict-clause-last_proposer : goal.returns-then-is_conflict-clause-last_proposer
returns-then-is_conflict-clause-last_proposer g c = (met_held _ c.args.key.now c.args.call 0 c.args.world.now c.propose_tombstone.new.self c.in-Err.told c.requires.at c.requires.kept c.requires.unproposed (propose_told c.args.world.now c.propose_tombstone.new.self c.args.key.now c.args.call c.in-Err.told c.requires.at c.in-Err.ensures.told) (sym c.is_conflict.ensures ∙ c.if-is_conflict.true) c.in-Err.ensures.err).last_proposer

pub returns-then-is_conflict-clause-collects : goal.returns-then-is_conflict-clause-collects
returns-then-is_conflict-clause-collects g c most =
    let does = (met_held _ c.args.key.now c.args.call most c.args.world.now c.propose_tombstone.new.self c.in-Err.told c.requires.at c.requires.kept c.requires.unproposed (propose_told c.args.world.now c.propose_tombstone.new.self c.args.key.now c.args.call c.in-Err.told c.requires.at c.in-Err.ensures.told) (sym c.is_conflict.ensures ∙ c.if-is_conflict.true) c.in-Err.ensures.err).does in
    (does.0, (does.1, met_within _ (most_rounds c.args.tries) c.args.rounds c.args.world.now c.propose_tombstone.new.self c.in-Err.ensures.err (most_above c.args.tries c.args.rounds c.if-rounds-tries.true) c.requires.within))

pub returns-else-rounds-tries-clause-kept : goal.returns-else-rounds-tries-clause-kept
returns-else-rounds-tries-clause-kept g c = (propose_stops (rounds_in (own_part c.args.world.now 0)) _ c.args.key.now c.args.call 0 c.args.world.now c.propose_tombstone.new.self c.stop.new.world c.in-Err.told (λ conflict. refl) c.requires.at c.requires.kept c.in-Err.ensures.err (propose_told c.args.world.now c.propose_tombstone.new.self c.args.key.now c.args.call c.in-Err.told c.requires.at c.in-Err.ensures.told) (propose_undone _ c.args.call c.args.world.now c.propose_tombstone.new.self c.in-Err.told c.in-Err.ensures.err (propose_told c.args.world.now c.propose_tombstone.new.self c.args.key.now c.args.call c.in-Err.told c.requires.at c.in-Err.ensures.told)) c.stop.ensures.stops).kept

pub returns-else-rounds-tries-clause-last_proposer : goal.returns-else-rounds-tries-clause-last_proposer
returns-else-rounds-tries-clause-last_proposer g c = (propose_stops (rounds_in (own_part c.args.world.now 0)) _ c.args.key.now c.args.call 0 c.args.world.now c.propose_tombstone.new.self c.stop.new.world c.in-Err.told (λ conflict. refl) c.requires.at c.requires.kept c.in-Err.ensures.err (propose_told c.args.world.now c.propose_tombstone.new.self c.args.key.now c.args.call c.in-Err.told c.requires.at c.in-Err.ensures.told) (propose_undone _ c.args.call c.args.world.now c.propose_tombstone.new.self c.in-Err.told c.in-Err.ensures.err (propose_told c.args.world.now c.propose_tombstone.new.self c.args.key.now c.args.call c.in-Err.told c.requires.at c.in-Err.ensures.told)) c.stop.ensures.stops).last_proposer

pub returns-else-rounds-tries-clause-collects : goal.returns-else-rounds-tries-clause-collects
returns-else-rounds-tries-clause-collects g c most = subst (λ a. CollectsIn c.args.key.now (most_rounds c.args.tries) most c.args.world.now c.stop.new.world (Err a)) (sym c.stop.ensures.same) (propose_stops (most_rounds c.args.tries) _ c.args.key.now c.args.call most c.args.world.now c.propose_tombstone.new.self c.stop.new.world c.in-Err.told (λ conflict. c.requires.within.counted ∙ most_spent c.args.tries c.args.rounds c.requires.within.some c.requires.within.within (elim c.else-rounds-tries.branch [
  | else-rounds-tries-via-then-rounds-tries+else-is_conflict w ↦ absurd (cc (sym w.is_conflict.ensures ∙ w.if-is_conflict.false, conflict))
  | else-rounds-tries-via-else-rounds-tries w ↦ w.if-rounds-tries.false
])) c.requires.at c.requires.kept c.in-Err.ensures.err (propose_told c.args.world.now c.propose_tombstone.new.self c.args.key.now c.args.call c.in-Err.told c.requires.at c.in-Err.ensures.told) (propose_undone _ c.args.call c.args.world.now c.propose_tombstone.new.self c.in-Err.told c.in-Err.ensures.err (propose_told c.args.world.now c.propose_tombstone.new.self c.args.key.now c.args.call c.in-Err.told c.requires.at c.in-Err.ensures.told)) c.stop.ensures.stops).does
