use Rattle.std.proofs.Common.{Option, ap, ◌∙◌}
use Rattle.cas_proposer.specs.Desk.{counter_without}
use Rattle.cas_proposer.specs.declared.round.Round.{Round}
use Rattle.cas_vault.specs.Vault.{counter_of}
use Rattle.cas_world.proofs.Stops.Stops.{end_goes_on}
use Rattle.cas_world.proofs.end.close.Goals as goal

pub returns-then-is_some-clause-ends : goal.returns-then-is_some-clause-ends
returns-then-is_some-clause-ends g c round is = record {
  desk = c.end.ensures.desk round is;
  counter = c.end.ensures.counter ∙ ap (λ (r : Option Round). counter_without r (counter_of c.args.desk.now.vault)) is;
  kept = c.end.ensures.kept;
  goes_on = end_goes_on _ c.args.desk.now.vault c.end.new.self.vault c.end.ensures.kept c.end.ensures.disk c.end.ensures.still_past;
}
