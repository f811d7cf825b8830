use Rattle.std.proofs.Common.{◌≡◌, true, None, is_some, ap, ◌∙◌}
use Rattle.cas_proposer.specs.Desk.{DeskView}
use Rattle.test_protocol.proofs.Rounds.{is_some_of, after_end}
use Rattle.test_protocol.proofs.proposer.round.Goals as goal

pub returns-else-eq-clause-up : goal.returns-else-eq-clause-up
returns-else-eq-clause-up g c =
    let still_open : is_some c.all_reply.new.desk.round ≡ true = c.all_reply.ensures.open ∙ is_some_of c.begin.new.self.round _ c.in_ok-ballot.ensures.opened in
    (after_end c.all_reply.new.desk c.end.new.self None still_open c.end.ensures.desk).0 ∙ c.all_reply.ensures.down ∙ ap (λ (d : DeskView g.row.V.Denot). d.down) c.in_ok-ballot.ensures.desk ∙ c.requires.up

pub returns-else-eq-clause-idle : goal.returns-else-eq-clause-idle
returns-else-eq-clause-idle g c =
    let still_open : is_some c.all_reply.new.desk.round ≡ true = c.all_reply.ensures.open ∙ is_some_of c.begin.new.self.round _ c.in_ok-ballot.ensures.opened in
    (after_end c.all_reply.new.desk c.end.new.self None still_open c.end.ensures.desk).1
