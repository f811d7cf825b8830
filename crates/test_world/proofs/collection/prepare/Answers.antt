use Rattle.std.proofs.Common.{false, refl, sym, ◌∙◌}
use Rattle.cas_model.specs.View.{meaning}
use Rattle.casreg_script.proofs.Collection.Rounds.{collecting_call, held_tombstone_set, empty_plays, cut_stops, in_round_still, reading_stops, seeks_on}
use Rattle.casreg_script.proofs.Outcomes.{on_err, on_ok}
use Rattle.casreg_script.proofs.Calls.Playing.{in_phase_of}
use Rattle.test_world.proofs.Leading.{reading_leads, then_leads}
use Rattle.test_world.proofs.collection.prepare.Goals as goal

pub turns-requires : goal.turns-requires
turns-requires g c = record { quiet = c.requires.«open».1.plays.quiet }

pub returns-then-is_err-clause-stopped : goal.returns-then-is_err-clause-stopped
returns-then-is_err-clause-stopped g c asked was =
    cut_stops c.args.world.now c.turns.new.world asked false _ was c.turns.ensures.council (on_err _ (sym c.is_err.ensures.value ∙ c.if-is_err.true) (c.turns.ensures.over asked false was.plays)) refl

pub propose_tombstone-requires-clause-preparing : goal.propose_tombstone-requires-clause-preparing
propose_tombstone-requires-clause-preparing g c =
    let none = sym c.is_err.ensures.value ∙ c.if-is_err.false in
    in_phase_of c.turns.new.world 0 c.requires.«open».0 false (on_ok _ none (c.turns.ensures.plays c.requires.«open».0 false c.requires.«open».1.plays)) (on_ok _ none c.turns.ensures.through)

pub propose_tombstone-requires-clause-calling : goal.propose_tombstone-requires-clause-calling
propose_tombstone-requires-clause-calling g c =
    let plays = on_ok _ (sym c.is_err.ensures.value ∙ c.if-is_err.false) (c.turns.ensures.plays c.requires.«open».0 false c.requires.«open».1.plays) in
    collecting_call c.turns.new.world c.requires.«open».0 plays.call plays.is_for (seeks_on c.args.world.now c.turns.new.world c.requires.«open».0.key c.turns.ensures.council c.requires.«open».1.seeks)

pub returns-clause-plays : goal.returns-clause-plays
returns-clause-plays g c asked was empty =
    let by = c.propose_tombstone.ensures.empty empty in
    let plays = on_ok _ (sym c.is_err.ensures.value ∙ c.if-is_err.false) (c.turns.ensures.plays asked false was.plays) in
    empty_plays _ c.turns.new.world c.propose_tombstone.new.self asked (in_round_still c.args.world.now c.turns.new.world asked false was c.turns.ensures.council plays) by.1 by.0

pub returns-clause-tombstone_set : goal.returns-clause-tombstone_set
returns-clause-tombstone_set g c asked version was held =
    let plays = on_ok _ (sym c.is_err.ensures.value ∙ c.if-is_err.false) (c.turns.ensures.plays asked false was.plays) in
    held_tombstone_set _ c.turns.new.world c.propose_tombstone.new.self asked false (in_round_still c.args.world.now c.turns.new.world asked false was c.turns.ensures.council plays) (c.propose_tombstone.ensures.held version held)

pub returns-clause-stopped : goal.returns-clause-stopped
returns-clause-stopped g c asked was =
    let plays = on_ok _ (sym c.is_err.ensures.value ∙ c.if-is_err.false) (c.turns.ensures.plays asked false was.plays) in
    reading_stops _ c.turns.new.world c.propose_tombstone.new.self asked c.propose_tombstone.result (in_round_still c.args.world.now c.turns.new.world asked false was c.turns.ensures.council plays) c.propose_tombstone.ensures.err c.propose_tombstone.ensures.told

pub returns-clause-leads : goal.returns-clause-leads
returns-clause-leads g c =
    then_leads c.args.world.now c.turns.new.world c.propose_tombstone.new.self c.turns.ensures.leads
    (reading_leads (meaning g.S.Shelf g.V.Disk) c.turns.new.world c.propose_tombstone.new.self c.propose_tombstone.result (λ empty. (c.propose_tombstone.ensures.empty empty).0) c.propose_tombstone.ensures.held c.propose_tombstone.ensures.err)
