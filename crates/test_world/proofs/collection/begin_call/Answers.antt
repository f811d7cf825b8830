use Rattle.std.proofs.Common.{inl, sym, ◌∙◌}
use Rattle.cas_model.specs.View.{meaning}
use Rattle.casreg_script.proofs.Collection.Rounds.{may_collect_first, is_running, begun_stopped, refused_call, told_call, said_so}
use Rattle.casreg_script.proofs.Calls.Playing.{begun_first}
use Rattle.test_world.proofs.Leading.{begin_leads, then_leads}
use Rattle.test_world.proofs.collection.begin_call.Goals as goal

pub begin_collect-requires-clause-asked : goal.begin_collect-requires-clause-asked
begin_collect-requires-clause-asked g c = may_collect_first c.args.world.now c.args.key.now c.requires.ordered c.requires.free

pub begin_collect-requires-clause-may : goal.begin_collect-requires-clause-may
begin_collect-requires-clause-may g c = begun_first c.args.world.now 0 c.args.call c.args.key.now c.args.program.now c.requires.free.idle c.requires.next

pub round-requires : goal.round-requires
round-requires g c = record { running = (_, is_running (meaning g.S.Shelf g.V.Disk) c.args.world.now c.begin_collect.new.self c.args.key.now c.begin_collect.ensures.step c.args.call c.requires.free.quiet (inl c.requires.free.idle) c.in-Ok.ensures.ok) }

pub returns-in-Ok-clause-leads : goal.returns-in-Ok-clause-leads
returns-in-Ok-clause-leads g c = then_leads c.args.world.now c.begin_collect.new.self c.round.new.world (begin_leads (meaning g.S.Shelf g.V.Disk) c.args.world.now c.begin_collect.new.self c.args.key.now c.begin_collect.ensures.step) c.round.ensures.leads

pub returns-in-Ok-clause-stopped : goal.returns-in-Ok-clause-stopped
returns-in-Ok-clause-stopped g c = c.round.ensures.stopped _ (is_running (meaning g.S.Shelf g.V.Disk) c.args.world.now c.begin_collect.new.self c.args.key.now c.begin_collect.ensures.step c.args.call c.requires.free.quiet (inl c.requires.free.idle) c.in-Ok.ensures.ok)

pub returns-in-Ok-clause-tombstone_set : goal.returns-in-Ok-clause-tombstone_set
returns-in-Ok-clause-tombstone_set g c = c.round.ensures.tombstone_set _ (is_running (meaning g.S.Shelf g.V.Disk) c.args.world.now c.begin_collect.new.self c.args.key.now c.begin_collect.ensures.step c.args.call c.requires.free.quiet (inl c.requires.free.idle) c.in-Ok.ensures.ok)

pub returns-then-leaves_no_call-clause-told : goal.returns-then-leaves_no_call-clause-told
returns-then-leaves_no_call-clause-told g c = (refused_call c.args.world.now c.begin_collect.new.self c.args.call c.args.key.now c.in-Err.refusal c.requires.free.idle (sym c.leaves_no_call.ensures ∙ c.if-leaves_no_call.true) c.in-Err.ensures.err).1

pub returns-then-leaves_no_call-clause-none : goal.returns-then-leaves_no_call-clause-none
returns-then-leaves_no_call-clause-none g c = (refused_call c.args.world.now c.begin_collect.new.self c.args.call c.args.key.now c.in-Err.refusal c.requires.free.idle (sym c.leaves_no_call.ensures ∙ c.if-leaves_no_call.true) c.in-Err.ensures.err).0

pub returns-then-leaves_no_call-clause-leads : goal.returns-then-leaves_no_call-clause-leads
returns-then-leaves_no_call-clause-leads g c = begin_leads (meaning g.S.Shelf g.V.Disk) c.args.world.now c.begin_collect.new.self c.args.key.now c.begin_collect.ensures.step

pub why_stopped-requires : goal.why_stopped-requires
why_stopped-requires g c =
    let told = told_call c.args.world.now c.begin_collect.new.self c.args.call c.args.key.now c.in-Err.refusal (sym c.leaves_no_call.ensures ∙ c.if-leaves_no_call.false) c.in-Err.ensures.err in
    (told.0, told.1)

pub returns-else-leaves_no_call-clause-stopped : goal.returns-else-leaves_no_call-clause-stopped
returns-else-leaves_no_call-clause-stopped g c =
    let told = told_call c.args.world.now c.begin_collect.new.self c.args.call c.args.key.now c.in-Err.refusal (sym c.leaves_no_call.ensures ∙ c.if-leaves_no_call.false) c.in-Err.ensures.err in
    let begun = said_so c.begin_collect.new.self c.args.call c.args.key.now c.in-Err.refusal told.0 c.why_stopped.result told.1 c.why_stopped.ensures told.2 in
    begun_stopped (meaning g.S.Shelf g.V.Disk) c.args.world.now c.begin_collect.new.self c.args.key.now c.begin_collect.ensures.step c.args.call c.why_stopped.result c.requires.free.quiet (inl c.requires.free.idle) begun.not_done begun.was_told begun.is

pub returns-else-leaves_no_call-clause-leads : goal.returns-else-leaves_no_call-clause-leads
returns-else-leaves_no_call-clause-leads g c = begin_leads (meaning g.S.Shelf g.V.Disk) c.args.world.now c.begin_collect.new.self c.args.key.now c.begin_collect.ensures.step
