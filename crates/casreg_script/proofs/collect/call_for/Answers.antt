use Rattle.std.proofs.Common.{inl, sym, ◌∙◌}
use Rattle.cas_model.specs.View.{meaning}
use Rattle.casreg_script.specs.Calls.Changes.{last, none_begun}
use Rattle.casreg_script.proofs.Collection.Rounds.{may_collect_first, is_running, begun_stopped, collect_not_met, refused_call, told_call, said_so}
use Rattle.casreg_script.proofs.Calls.Playing.{begun_first}
use Rattle.casreg_script.proofs.collect.call_for.Goals as goal

pub begin_collect-requires-clause-asked : goal.begin_collect-requires-clause-asked
begin_collect-requires-clause-asked g c = may_collect_first c.args.world.now c.args.key.now c.requires.ordered c.requires.free

pub begin_collect-requires-clause-may : goal.begin_collect-requires-clause-may
begin_collect-requires-clause-may g c = begun_first c.args.world.now 0 c.args.call c.args.key.now c.args.program.now c.requires.free.idle c.requires.next

pub rounds-requires-clause-running : goal.rounds-requires-clause-running
rounds-requires-clause-running g c = is_running (meaning g.S.Shelf g.V.Disk) c.args.world.now c.begin_collect.new.self c.args.key.now c.begin_collect.ensures.step c.args.call c.requires.free.quiet (inl c.requires.free.idle) c.in-Ok.ensures.ok

pub returns-in-Ok-clause-called : goal.returns-in-Ok-clause-called
returns-in-Ok-clause-called g c by is =
    let rounds = c.rounds.ensures.rounds by is in
    record { view = rounds.view; is = rounds.is; has = record { begun = c.begin_collect.new.self; begins = c.begin_collect.ensures.step; rounds = rounds.has } }

pub returns-then-leaves_no_call-clause-called : goal.returns-then-leaves_no_call-clause-called
returns-then-leaves_no_call-clause-called g c by is = record { view = by; is = is; has = record { begun = c.begin_collect.new.self; begins = c.begin_collect.ensures.step; rounds = last none_begun (λ met. collect_not_met (meaning g.S.Shelf g.V.Disk) c.args.world.now c.begin_collect.new.self c.args.key.now c.begin_collect.ensures.step met) } }

pub returns-then-leaves_no_call-clause-told : goal.returns-then-leaves_no_call-clause-told
returns-then-leaves_no_call-clause-told g c = (refused_call c.args.world.now c.begin_collect.new.self c.args.call c.args.key.now c.in-Err.refusal c.requires.free.idle (sym c.leaves_no_call.ensures ∙ c.if-leaves_no_call.true) c.in-Err.ensures.err).1

pub returns-then-leaves_no_call-clause-none : goal.returns-then-leaves_no_call-clause-none
returns-then-leaves_no_call-clause-none g c = (refused_call c.args.world.now c.begin_collect.new.self c.args.call c.args.key.now c.in-Err.refusal c.requires.free.idle (sym c.leaves_no_call.ensures ∙ c.if-leaves_no_call.true) c.in-Err.ensures.err).0

pub why_stopped-requires : goal.why_stopped-requires
why_stopped-requires g c =
    let told = told_call c.args.world.now c.begin_collect.new.self c.args.call c.args.key.now c.in-Err.refusal (sym c.leaves_no_call.ensures ∙ c.if-leaves_no_call.false) c.in-Err.ensures.err in
    (told.0, told.1)

pub returns-else-leaves_no_call-clause-called : goal.returns-else-leaves_no_call-clause-called
returns-else-leaves_no_call-clause-called g c by is = record { view = by; is = is; has = record { begun = c.begin_collect.new.self; begins = c.begin_collect.ensures.step; rounds = last none_begun (λ met. collect_not_met (meaning g.S.Shelf g.V.Disk) c.args.world.now c.begin_collect.new.self c.args.key.now c.begin_collect.ensures.step met) } }

pub returns-else-leaves_no_call-clause-stopped : goal.returns-else-leaves_no_call-clause-stopped
returns-else-leaves_no_call-clause-stopped g c =
    let told = told_call c.args.world.now c.begin_collect.new.self c.args.call c.args.key.now c.in-Err.refusal (sym c.leaves_no_call.ensures ∙ c.if-leaves_no_call.false) c.in-Err.ensures.err in
    let begun = said_so c.begin_collect.new.self c.args.call c.args.key.now c.in-Err.refusal told.0 c.why_stopped.result told.1 c.why_stopped.ensures told.2 in
    begun_stopped (meaning g.S.Shelf g.V.Disk) c.args.world.now c.begin_collect.new.self c.args.key.now c.begin_collect.ensures.step c.args.call c.why_stopped.result c.requires.free.quiet (inl c.requires.free.idle) begun.not_done begun.was_told begun.is
