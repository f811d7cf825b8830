use Rattle.std.proofs.Common.{◌≡◌, sym, ap, ◌∙◌}
use Rattle.cas_proposer.specs.declared.round.Round.{Round}
use Rattle.cas_model.proofs.Places.{some_is}
use Rattle.cas_world.proofs.Calls.Proposes.{ready_is}
use Rattle.cas_world.proofs.propose.read.Goals as goal

-- src/propose.rt:141:1
pub returns-clause-reads : goal.returns-clause-reads
returns-clause-reads g c round is =
    let lent : c.in-Some.round.now ≡ round = some_is (sym c.in-Some.ensures ∙ is) in
    record {
      read = c.read.result;
      by = c.confirmers-by.result;
      confirmers = c.confirmers-by.ensures.confirmers round is;
      is_read = c.read.ensures.read round is;
      in_era = ap (λ (r : Round). r.era) lent;
      is_ready = ready_is c.in-Some.round.now round c.read.result c.confirmers-by.result c.accepted_or_empty-state.result.0 c.accepted_or_empty-state.result.1 lent c.accepted_or_empty-state.ensures.ballot c.accepted_or_empty-state.ensures.state;
    }
