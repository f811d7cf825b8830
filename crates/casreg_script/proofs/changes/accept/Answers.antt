use Rattle.std.proofs.Common.{true, sym, subst}
use Rattle.cas_model.specs.View.{meaning}
use Rattle.casreg_script.specs.Calls.Changes.{EndsAcceptPhase, cut_short, counts}
use Rattle.casreg_script.specs.declared.halt.Halt.{Halt}
use Rattle.casreg_script.proofs.Calls.Playing.{in_phase_of, count_over}
use Rattle.casreg_script.proofs.changes.accept.Goals as goal

pub count-requires-clause-counting : goal.count-requires-clause-counting
count-requires-clause-counting g c =
    in_phase_of c.accept_turns.new.world c.args.proposer c.requires.«open».0 true (c.in-Ok.ensures.plays c.requires.«open».0 c.requires.«open».1) (c.in-Ok.ensures.turned c.requires.network.0 c.requires.network.1).has.none_waits

pub returns-in-Ok-clause-accepted : goal.returns-in-Ok-clause-accepted
returns-in-Ok-clause-accepted g c by is =
    let turns = c.in-Ok.ensures.turned by is in
    record {
      view = turns.view;
      is = turns.is;
      has = subst (λ (h : Halt). EndsAcceptPhase (meaning g.S.Shelf g.V.Disk) by c.args.proposer c.args.halt.now c.args.world.now turns.view h c.count.new.self) (sym c.in-Ok.ensures.same_halt) (counts c.in-Ok.ensures.goes_on turns.has c.count.ensures.step);
    }

pub returns-in-Ok-clause-over : goal.returns-in-Ok-clause-over
returns-in-Ok-clause-over g c asked was = count_over _ c.accept_turns.new.world c.count.new.self c.args.proposer asked c.count.result (c.in-Ok.ensures.plays asked was) c.count.ensures.step c.count.ensures.told

pub returns-in-Err-clause-accepted : goal.returns-in-Err-clause-accepted
returns-in-Err-clause-accepted g c by is = let cut = c.in-Err.ensures.cut_short by is in record { view = cut.view; is = cut.is; has = cut_short cut.has }
