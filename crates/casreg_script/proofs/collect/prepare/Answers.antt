use Rattle.std.proofs.Common.{false, sym, subst}
use Rattle.std.proofs.lemmas.Result.{err_from_is_err_and}
use Rattle.cas_model.specs.View.{meaning}
use Rattle.casreg_script.specs.Calls.Changes.{IsRoundBy, EndsPrepareBy, cut_off, ends_short}
use Rattle.casreg_script.specs.Collection.Collections.{EndsReading, EndsVoting}
use Rattle.casreg_script.specs.Frames.Network.{IsNetwork}
use Rattle.casreg_script.specs.declared.halt.Halt.{Halt}
use Rattle.casreg_script.proofs.Collection.Rounds.{collecting_call, held_tombstone_set, empty_plays, cut_stops, ends_reading, reading_stops, seeks_on}
use Rattle.casreg_script.proofs.Outcomes.{on_err_of, on_ok_of}
use Rattle.casreg_script.proofs.Calls.Playing.{in_phase_of}
use Rattle.casreg_script.proofs.collect.prepare.Given.{Over}
use Rattle.casreg_script.proofs.collect.prepare.Goals as goal

pub prepare_turns-requires-clause-open : goal.prepare_turns-requires-clause-open
prepare_turns-requires-clause-open g c = (c.requires.«open».0, c.requires.«open».1.plays)

pub returns-in_err-prepare_turns-clause-refused : goal.returns-in_err-prepare_turns-clause-refused
returns-in_err-prepare_turns-clause-refused g c = on_err_of c.from_residual.result (λ by is.
    let cut = c.in_err-prepare_turns.ensures.cut_off by is in
    record { view = cut.view; is = cut.is; has = cut_off cut.has })

pub returns-in_err-prepare_turns-clause-stopped : goal.returns-in_err-prepare_turns-clause-stopped
returns-in_err-prepare_turns-clause-stopped g c asked was =
    let p = err_from_is_err_and c.from_residual.result c.from_residual.ensures.1 in
    rw (p.1, p.2) (cut_stops c.args.world.now c.prepare_turns.new.world asked false c.in_err-prepare_turns.field-0.0 was c.prepare_turns.ensures.council (c.in_err-prepare_turns.ensures.over asked was.plays) c.in_err-prepare_turns.ensures.not_done)

pub propose_tombstone-requires-clause-preparing : goal.propose_tombstone-requires-clause-preparing
propose_tombstone-requires-clause-preparing g c =
    in_phase_of c.prepare_turns.new.world 0 c.requires.«open».0 false (c.in_ok-prepare_turns.ensures.plays c.requires.«open».0 c.requires.«open».1.plays) (c.in_ok-prepare_turns.ensures.turned c.requires.network.0 c.requires.network.1).has.none_waits

pub propose_tombstone-requires-clause-calling : goal.propose_tombstone-requires-clause-calling
propose_tombstone-requires-clause-calling g c =
    let plays = c.in_ok-prepare_turns.ensures.plays c.requires.«open».0 c.requires.«open».1.plays in
    collecting_call c.prepare_turns.new.world c.requires.«open».0 plays.call plays.is_for (seeks_on c.args.world.now c.prepare_turns.new.world c.requires.«open».0.key c.prepare_turns.ensures.council c.requires.«open».1.seeks)

ended : (g : Over) (c : goal.After-propose_tombstone g) (by : _) (is : IsNetwork c.args.network.now by) → EndsPrepareBy (EndsReading (meaning g.S.Shelf g.V.Disk)) (meaning g.S.Shelf g.V.Disk) by 0 c.args.halt.now c.args.world.now (c.in_ok-prepare_turns.ensures.turned by is).view c.propose_tombstone.new.self
ended g c by is = record {
  turned = c.prepare_turns.new.world;
  turns = (c.in_ok-prepare_turns.ensures.turned by is).has;
  goes_on = c.in_ok-prepare_turns.ensures.goes_on;
  proposes = ends_reading _ c.prepare_turns.new.world c.propose_tombstone.new.self c.propose_tombstone.result c.propose_tombstone.ensures.empty c.propose_tombstone.ensures.held c.propose_tombstone.ensures.err c.propose_tombstone.ensures.reads;
}

pub returns-clause-ended : goal.returns-clause-ended
returns-clause-ended g c = on_ok_of c.propose_tombstone.result (λ by is. record { view = (c.in_ok-prepare_turns.ensures.turned by is).view; is = (c.in_ok-prepare_turns.ensures.turned by is).is; has = ended g c by is })

pub returns-clause-plays : goal.returns-clause-plays
returns-clause-plays g c asked was empty =
    let by = c.propose_tombstone.ensures.empty empty in
    empty_plays _ c.prepare_turns.new.world c.propose_tombstone.new.self asked (record { plays = c.in_ok-prepare_turns.ensures.plays asked was.plays; seeks = seeks_on c.args.world.now c.prepare_turns.new.world asked.key c.prepare_turns.ensures.council was.seeks }) by.1 by.0

pub returns-clause-tombstone_set : goal.returns-clause-tombstone_set
returns-clause-tombstone_set g c asked version was held =
    held_tombstone_set _ c.prepare_turns.new.world c.propose_tombstone.new.self asked false (record { plays = c.in_ok-prepare_turns.ensures.plays asked was.plays; seeks = seeks_on c.args.world.now c.prepare_turns.new.world asked.key c.prepare_turns.ensures.council was.seeks }) (c.propose_tombstone.ensures.held version held)

pub returns-clause-refused : goal.returns-clause-refused
returns-clause-refused g c = on_err_of c.propose_tombstone.result (λ by is.
    let turns = c.in_ok-prepare_turns.ensures.turned by is in
    record {
      view = turns.view;
      is = turns.is;
      has = subst (λ (h : Halt). IsRoundBy (EndsReading (meaning g.S.Shelf g.V.Disk)) (EndsVoting (meaning g.S.Shelf g.V.Disk)) (meaning g.S.Shelf g.V.Disk) by 0 c.args.halt.now c.args.world.now turns.view h c.propose_tombstone.new.self) (sym c.in_ok-prepare_turns.ensures.same_halt) (ends_short (ended g c by is));
    })

pub returns-clause-stopped : goal.returns-clause-stopped
returns-clause-stopped g c asked was =
    reading_stops _ c.prepare_turns.new.world c.propose_tombstone.new.self asked c.propose_tombstone.result (record { plays = c.in_ok-prepare_turns.ensures.plays asked was.plays; seeks = seeks_on c.args.world.now c.prepare_turns.new.world asked.key c.prepare_turns.ensures.council was.seeks })
    c.propose_tombstone.ensures.err c.propose_tombstone.ensures.told
