use Rattle.std.proofs.Common.{false, sym, subst}
use Rattle.cas_model.specs.View.{meaning}
use Rattle.casreg_script.specs.Calls.Changes.{IsRound, cut_off, ends_short}
use Rattle.casreg_script.specs.declared.halt.Halt.{Halt}
use Rattle.casreg_script.proofs.Outcomes.{on_err_of, on_ok_then, on_ok_of, if_err_by}
use Rattle.casreg_script.proofs.Calls.Playing.{in_phase_of, propose_plays, propose_over}
use Rattle.casreg_script.proofs.changes.prepare.Goals as goal

pub returns-in_err-prepare_turns-clause-refused : goal.returns-in_err-prepare_turns-clause-refused
returns-in_err-prepare_turns-clause-refused g c = on_err_of c.from_residual.result (λ by is.
    let cut = c.in_err-prepare_turns.ensures.cut_off by is in
    record { view = cut.view; is = cut.is; has = cut_off cut.has })

pub propose-requires-clause-preparing : goal.propose-requires-clause-preparing
propose-requires-clause-preparing g c =
    in_phase_of c.prepare_turns.new.world c.args.proposer c.requires.«open».0 false (c.in_ok-prepare_turns.ensures.plays c.requires.«open».0 c.requires.«open».1) (c.in_ok-prepare_turns.ensures.turned c.requires.network.0 c.requires.network.1).has.none_waits

pub returns-clause-proposed : goal.returns-clause-proposed
returns-clause-proposed g c = on_ok_of c.propose.result (λ by is.
    let turns = c.in_ok-prepare_turns.ensures.turned by is in
    record {
      view = turns.view;
      is = turns.is;
      has = record { turned = c.prepare_turns.new.world; turns = turns.has; goes_on = c.in_ok-prepare_turns.ensures.goes_on; proposes = c.propose.ensures.step };
    })

pub returns-clause-plays : goal.returns-clause-plays
returns-clause-plays g c asked was =
    on_ok_then c.propose.result c.propose.ensures.proposed
    (λ has. propose_plays _ c.prepare_turns.new.world c.propose.new.self c.args.proposer asked false (c.in_ok-prepare_turns.ensures.plays asked was) has c.propose.ensures.step)

pub returns-clause-refused : goal.returns-clause-refused
returns-clause-refused g c = on_err_of c.propose.result (λ by is.
    let turns = c.in_ok-prepare_turns.ensures.turned by is in
    record {
      view = turns.view;
      is = turns.is;
      has = subst (λ (h : Halt). IsRound (meaning g.S.Shelf g.V.Disk) by c.args.proposer c.args.halt.now c.args.world.now turns.view h c.propose.new.self) (sym c.in_ok-prepare_turns.ensures.same_halt)
          (ends_short (record { turned = c.prepare_turns.new.world; turns = turns.has; goes_on = c.in_ok-prepare_turns.ensures.goes_on; proposes = c.propose.ensures.step }));
    })

pub returns-clause-over : goal.returns-clause-over
returns-clause-over g c asked was =
    if_err_by c.propose.result (λ told tells. propose_over _ c.prepare_turns.new.world c.propose.new.self c.args.proposer asked told (c.in_ok-prepare_turns.ensures.plays asked was) c.propose.ensures.step tells) c.propose.ensures.told
