use Rattle.std.proofs.Common.{Option, sym, ap, ◌∙◌}
use Rattle.cas_proposer.specs.Desk.{counter_without}
use Rattle.cas_proposer.specs.declared.round.Round.{Round}
use Rattle.cas_vault.specs.Vault.{counter_of}
use Rattle.cas_world.specs.Calls.Reading as reading
use Rattle.cas_world.proofs.Stops.Stops.{end_goes_on}
use Rattle.cas_world.proofs.propose.end_prepare.Goals as goal

-- src/propose.rt:84:1
pub returns-in-Some-clause-ends : goal.returns-in-Some-clause-ends
returns-in-Some-clause-ends g c round is = reading.by_verdict c.verdict.result (c.verdict.ensures.verdict round is) (sym c.in-Some.ensures) (record {
  desk = c.end.ensures.desk round is;
  counter = c.end.ensures.counter ∙ ap (λ (r : Option Round). counter_without r (counter_of c.args.desk.now.vault)) is;
  kept = c.end.ensures.kept;
  goes_on = end_goes_on _ c.args.desk.now.vault c.end.new.self.vault c.end.ensures.kept c.end.ensures.disk c.end.ensures.still_past;
})
