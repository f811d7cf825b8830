use Rattle.std.proofs.Common.{true, refl, sym, ◌∙◌}
use Rattle.cas_model.specs.View.{meaning}
use Rattle.casreg_script.proofs.Collection.Rounds.{collecting_call, counted_stops, cut_stops, in_round_still, seeks_on}
use Rattle.casreg_script.proofs.Outcomes.{on_err, on_ok}
use Rattle.casreg_script.proofs.Calls.Playing.{in_phase_of}
use Rattle.test_world.proofs.Leading.{count_leads, then_leads}
use Rattle.test_world.proofs.collection.accept.Goals as goal

pub turns-requires : goal.turns-requires
turns-requires g c = record { quiet = c.requires.«open».1.plays.quiet }

pub returns-then-is_err-clause-stopped : goal.returns-then-is_err-clause-stopped
returns-then-is_err-clause-stopped g c asked was =
    cut_stops c.args.world.now c.turns.new.world asked true _ was c.turns.ensures.council (on_err _ (sym c.is_err.ensures.value ∙ c.if-is_err.true) (c.turns.ensures.over asked true was.plays)) refl

pub count_tombstone-requires-clause-counting : goal.count_tombstone-requires-clause-counting
count_tombstone-requires-clause-counting g c =
    let none = sym c.is_err.ensures.value ∙ c.if-is_err.false in
    in_phase_of c.turns.new.world 0 c.requires.«open».0 true (on_ok _ none (c.turns.ensures.plays c.requires.«open».0 true c.requires.«open».1.plays)) (on_ok _ none c.turns.ensures.through)

pub count_tombstone-requires-clause-calling : goal.count_tombstone-requires-clause-calling
count_tombstone-requires-clause-calling g c =
    let plays = on_ok _ (sym c.is_err.ensures.value ∙ c.if-is_err.false) (c.turns.ensures.plays c.requires.«open».0 true c.requires.«open».1.plays) in
    collecting_call c.turns.new.world c.requires.«open».0 plays.call plays.is_for (seeks_on c.args.world.now c.turns.new.world c.requires.«open».0.key c.turns.ensures.council c.requires.«open».1.seeks)

pub returns-clause-stopped : goal.returns-clause-stopped
returns-clause-stopped g c asked was =
    let plays = on_ok _ (sym c.is_err.ensures.value ∙ c.if-is_err.false) (c.turns.ensures.plays asked true was.plays) in
    counted_stops _ c.turns.new.world c.count_tombstone.new.self asked c.count_tombstone.result (in_round_still c.args.world.now c.turns.new.world asked true was c.turns.ensures.council plays) c.count_tombstone.ensures.step c.count_tombstone.ensures.told

pub returns-clause-leads : goal.returns-clause-leads
returns-clause-leads g c =
    then_leads c.args.world.now c.turns.new.world c.count_tombstone.new.self c.turns.ensures.leads (count_leads (meaning g.S.Shelf g.V.Disk) c.turns.new.world c.count_tombstone.new.self c.count_tombstone.result c.count_tombstone.ensures.step)
