use Rattle.std.proofs.Common.{◌≡◌, Some, sym, ap, subst, ◌∙◌}
use Rattle.cas_proposer.specs.declared.round.Round.{Round}
use Rattle.cas_proposer.specs.Round.{IsReadOf}
use Rattle.cas_proposer.specs.Desk.{DeskView}
use Rattle.cas_proposer.proofs.desk.Desk.read.Goals as goal

pub returns-clause-read : goal.returns-clause-read
returns-clause-read g c old is =
    let whole : Some c.in-Some.round ≡ Some old = sym c.in-Some.is ∙ ap (λ (d : DeskView g.row.V.Denot). d.round) c.self.view_is ∙ is in
    let same : c.in-Some.round ≡ old = cc in
    subst (λ (r : Round). IsReadOf r c.read.result) same c.read.ensures.read
