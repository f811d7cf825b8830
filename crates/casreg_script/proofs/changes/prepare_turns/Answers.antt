use Rattle.std.proofs.Common.{false, sym, ◌∙◌}
use Rattle.cas_model.specs.View.{meaning}
use Rattle.casreg_script.specs.Calls.Changes.{no_memory, halts}
use Rattle.casreg_script.proofs.Calls.Keeping.{KeepsOthers, others_through, turned_holds, fails_hold, crash_keeps, both}
use Rattle.casreg_script.proofs.Outcomes.{on_err, on_ok}
use Rattle.casreg_script.proofs.changes.prepare_turns.Goals.{else-halt-via-then-halt+else-has_quorum, else-halt-via-else-halt}
use Rattle.casreg_script.proofs.changes.prepare_turns.Goals as goal

pub returns-then-is_err-clause-cut_off : goal.returns-then-is_err-clause-cut_off
returns-then-is_err-clause-cut_off g c by is =
    let fails = on_err _ (sym c.is_err.ensures.value ∙ c.if-is_err.true) c.all_turns.ensures.fails by is in
    record { view = fails.view; is = fails.is; has = no_memory fails.has }

pub returns-then-is_err-clause-over : goal.returns-then-is_err-clause-over
returns-then-is_err-clause-over g c asked was = on_err _ (sym c.is_err.ensures.value ∙ c.if-is_err.true) (c.all_turns.ensures.told asked false was)

pub returns-then-is_err-clause-council : goal.returns-then-is_err-clause-council
returns-then-is_err-clause-council g c =
    (fails_hold {Holds = λ before next. KeepsOthers before next c.args.proposer} (others_through _ c.args.proposer) c.args.world.now c.all_turns.new.world
    (on_err _ (sym c.is_err.ensures.value ∙ c.if-is_err.true) c.all_turns.ensures.fails c.requires.network.0 c.requires.network.1).has).council c.requires.«open».1.quiet

pub returns-then-has_quorum-clause-cut_off : goal.returns-then-has_quorum-clause-cut_off
returns-then-has_quorum-clause-cut_off g c by is =
    let turns = on_ok _ (sym c.is_err.ensures.value ∙ c.if-is_err.false) c.all_turns.ensures.through by is in
    record { view = turns.view; is = turns.is; has = halts turns.has (c.if-halt.true, c.has_quorum.ensures.0 c.if-has_quorum.true) c.crash.ensures.step }

pub returns-then-has_quorum-clause-over : goal.returns-then-has_quorum-clause-over
returns-then-has_quorum-clause-over g c asked was = c.crash.ensures.over asked false (on_ok _ (sym c.is_err.ensures.value ∙ c.if-is_err.false) (c.all_turns.ensures.plays asked false was))

pub returns-then-has_quorum-clause-council : goal.returns-then-has_quorum-clause-council
returns-then-has_quorum-clause-council g c =
    (both c.args.world.now c.all_turns.new.world c.crash.new.world c.args.proposer
    (turned_holds {Holds = λ before next. KeepsOthers before next c.args.proposer} (others_through _ c.args.proposer) c.args.world.now c.all_turns.new.world
    (on_ok _ (sym c.is_err.ensures.value ∙ c.if-is_err.false) c.all_turns.ensures.through c.requires.network.0 c.requires.network.1).has.turned)
    (crash_keeps (meaning g.S.Shelf g.V.Disk) c.all_turns.new.world c.crash.new.world c.args.proposer c.crash.ensures.step)).council c.requires.«open».1.quiet

pub returns-clause-turned : goal.returns-clause-turned
returns-clause-turned g c = on_ok _ (sym c.is_err.ensures.value ∙ c.if-is_err.false) c.all_turns.ensures.through

pub returns-clause-goes_on : goal.returns-clause-goes_on
returns-clause-goes_on g c strikes = elim c.else-halt.branch [
  | else-halt-via-then-halt+else-has_quorum w ↦ absurd (cc (w.has_quorum.ensures.1 strikes.1, w.if-has_quorum.false))
  | else-halt-via-else-halt w ↦ absurd (cc (strikes.0, w.if-halt.false))
]

pub returns-clause-plays : goal.returns-clause-plays
returns-clause-plays g c asked was = on_ok _ (sym c.is_err.ensures.value ∙ c.if-is_err.false) (c.all_turns.ensures.plays asked false was)

pub returns-clause-council : goal.returns-clause-council
returns-clause-council g c =
    (turned_holds {Holds = λ before next. KeepsOthers before next c.args.proposer} (others_through _ c.args.proposer) c.args.world.now c.all_turns.new.world
    (on_ok _ (sym c.is_err.ensures.value ∙ c.if-is_err.false) c.all_turns.ensures.through c.requires.network.0 c.requires.network.1).has.turned).council c.requires.«open».1.quiet
