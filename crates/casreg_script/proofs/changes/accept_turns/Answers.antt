use Rattle.std.proofs.Common.{true, sym, ◌∙◌}
use Rattle.cas_model.specs.View.{meaning}
use Rattle.casreg_script.specs.Calls.Changes.{halts, no_memory}
use Rattle.casreg_script.proofs.Calls.Keeping.{KeepsOthers, others_through, turned_holds, fails_hold, crash_keeps}
use Rattle.casreg_script.proofs.Outcomes.{on_err, on_ok}
use Rattle.casreg_script.proofs.Calls.Playing.{is_accepting}
use Rattle.casreg_script.proofs.changes.accept_turns.Goals as goal

pub returns-then-halt-clause-cut_short : goal.returns-then-halt-clause-cut_short
returns-then-halt-clause-cut_short g c by is = record { view = by; is = is; has = halts (is_accepting c.args.world.now c.args.proposer c.requires.«open».0 c.requires.«open».1) c.if-halt.true c.crash.ensures.step }

pub returns-then-halt-clause-over : goal.returns-then-halt-clause-over
returns-then-halt-clause-over g c asked was = c.crash.ensures.over asked true was

pub returns-then-halt-clause-council : goal.returns-then-halt-clause-council
returns-then-halt-clause-council g c = (crash_keeps (meaning g.S.Shelf g.V.Disk) c.args.world.now c.crash.new.world c.args.proposer c.crash.ensures.step).council c.requires.«open».1.quiet

pub returns-then-is_err-clause-cut_short : goal.returns-then-is_err-clause-cut_short
returns-then-is_err-clause-cut_short g c by is =
    let fails = on_err _ (sym c.is_err.ensures.value ∙ c.if-is_err.true) c.all_turns.ensures.fails by is in
    record { view = fails.view; is = fails.is; has = no_memory c.if-halt.false fails.has }

pub returns-then-is_err-clause-over : goal.returns-then-is_err-clause-over
returns-then-is_err-clause-over g c asked was = on_err _ (sym c.is_err.ensures.value ∙ c.if-is_err.true) (c.all_turns.ensures.told asked true was)

pub returns-then-is_err-clause-council : goal.returns-then-is_err-clause-council
returns-then-is_err-clause-council g c =
    (fails_hold {Holds = λ before next. KeepsOthers before next c.args.proposer} (others_through _ c.args.proposer) c.args.world.now c.all_turns.new.world
    (on_err _ (sym c.is_err.ensures.value ∙ c.if-is_err.true) c.all_turns.ensures.fails c.requires.network.0 c.requires.network.1).has).council c.requires.«open».1.quiet

pub returns-clause-turned : goal.returns-clause-turned
returns-clause-turned g c = on_ok _ (sym c.is_err.ensures.value ∙ c.if-is_err.false) c.all_turns.ensures.through

pub returns-clause-plays : goal.returns-clause-plays
returns-clause-plays g c asked was = on_ok _ (sym c.is_err.ensures.value ∙ c.if-is_err.false) (c.all_turns.ensures.plays asked true was)

pub returns-clause-council : goal.returns-clause-council
returns-clause-council g c =
    (turned_holds {Holds = λ before next. KeepsOthers before next c.args.proposer} (others_through _ c.args.proposer) c.args.world.now c.all_turns.new.world
    (on_ok _ (sym c.is_err.ensures.value ∙ c.if-is_err.false) c.all_turns.ensures.through c.requires.network.0 c.requires.network.1).has.turned).council c.requires.«open».1.quiet
