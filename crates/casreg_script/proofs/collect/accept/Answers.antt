use Rattle.std.proofs.Common.{true, sym, subst}
use Rattle.cas_model.specs.View.{meaning}
use Rattle.casreg_script.specs.Calls.Changes.{IsAcceptedBy, cut_short, counts}
use Rattle.casreg_script.specs.Collection.Collections.{EndsVoting}
use Rattle.casreg_script.specs.declared.halt.Halt.{Halt}
use Rattle.casreg_script.proofs.Collection.Rounds.{collecting_call, counted_stops, cut_stops, ends_voting, in_round_still, seeks_on}
use Rattle.casreg_script.proofs.Calls.Playing.{in_phase_of}
use Rattle.casreg_script.proofs.collect.accept.Goals as goal

pub accept_turns-requires-clause-open : goal.accept_turns-requires-clause-open
accept_turns-requires-clause-open g c = (c.requires.«open».0, c.requires.«open».1.plays)

pub count_tombstone-requires-clause-counting : goal.count_tombstone-requires-clause-counting
count_tombstone-requires-clause-counting g c =
    in_phase_of c.accept_turns.new.world 0 c.requires.«open».0 true (c.in-Ok.ensures.plays c.requires.«open».0 c.requires.«open».1.plays) (c.in-Ok.ensures.turned c.requires.network.0 c.requires.network.1).has.none_waits

pub count_tombstone-requires-clause-calling : goal.count_tombstone-requires-clause-calling
count_tombstone-requires-clause-calling g c =
    let plays = c.in-Ok.ensures.plays c.requires.«open».0 c.requires.«open».1.plays in
    collecting_call c.accept_turns.new.world c.requires.«open».0 plays.call plays.is_for (seeks_on c.args.world.now c.accept_turns.new.world c.requires.«open».0.key c.accept_turns.ensures.council c.requires.«open».1.seeks)

pub returns-in-Ok-clause-accepted : goal.returns-in-Ok-clause-accepted
returns-in-Ok-clause-accepted g c by is =
    let turns = c.in-Ok.ensures.turned by is in
    record {
      view = turns.view;
      is = turns.is;
      has = subst (λ (h : Halt). IsAcceptedBy (EndsVoting (meaning g.S.Shelf g.V.Disk)) (meaning g.S.Shelf g.V.Disk) by 0 c.args.halt.now c.args.world.now turns.view h c.count_tombstone.new.self) (sym c.in-Ok.ensures.same_halt)
          (counts c.in-Ok.ensures.goes_on turns.has (ends_voting _ c.accept_turns.new.world c.count_tombstone.new.self c.count_tombstone.result c.count_tombstone.ensures.step c.count_tombstone.ensures.told));
    }

pub returns-in-Ok-clause-stopped : goal.returns-in-Ok-clause-stopped
returns-in-Ok-clause-stopped g c asked was =
    counted_stops _ c.accept_turns.new.world c.count_tombstone.new.self asked c.count_tombstone.result (in_round_still c.args.world.now c.accept_turns.new.world asked true was c.accept_turns.ensures.council (c.in-Ok.ensures.plays asked was.plays)) c.count_tombstone.ensures.step c.count_tombstone.ensures.told

pub returns-in-Err-clause-accepted : goal.returns-in-Err-clause-accepted
returns-in-Err-clause-accepted g c by is = let cut = c.in-Err.ensures.cut_short by is in record { view = cut.view; is = cut.is; has = cut_short cut.has }

pub returns-in-Err-clause-stopped : goal.returns-in-Err-clause-stopped
returns-in-Err-clause-stopped g c asked was = cut_stops c.args.world.now c.accept_turns.new.world asked true c.in-Err.told was c.accept_turns.ensures.council (c.in-Err.ensures.over asked was.plays) c.in-Err.ensures.not_done
