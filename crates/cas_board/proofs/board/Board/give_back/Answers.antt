use Rattle.std.proofs.Common.{ℕ, suc, List, reverse, sym, ap, subst, ◌∙◌}
use Rattle.cas_record.specs.Legal.{IsLegal}
use Rattle.cas_record.specs.declared.mark.Mark.{Mark}
use Rattle.cas_model_causes.specs.Eras.Tellings.{AreTellingsSo}
use Rattle.cas_board.proofs.Sittings.{gives_more, gives_lawful, gives_own}
use Rattle.cas_board.proofs.board.Board.give_back.Goals as goal

pub give_back-requires-clause-grows : goal.give_back-requires-clause-grows
give_back-requires-clause-grows g c x is = let made = c.requires.makes x is in gives_more c.args.pass.now.number x c.args.shared made.0 made.1

pub give_back-requires-clause-lawful : goal.give_back-requires-clause-lawful
give_back-requires-clause-lawful g c x is = let made = c.requires.makes x is in gives_lawful c.args.pass.now.number x c.args.shared made.0 made.1

pub give_back-requires-clause-owned : goal.give_back-requires-clause-owned
give_back-requires-clause-owned g c x is = let made = c.requires.makes x is in gives_own c.args.pass.now.number x c.args.shared made.0 made.1

pub give_back-requires-clause-others : goal.give_back-requires-clause-others
give_back-requires-clause-others g c x is = let made = c.requires.makes x is in made.1.others

pub give_back-requires-clause-seats : goal.give_back-requires-clause-seats
give_back-requires-clause-seats g c x is = let made = c.requires.makes x is in ap suc made.1.last_proposer

-- the pass has seen the record that was read
pub returns-clause-legal : goal.returns-clause-legal
returns-clause-legal g c tells =
    let seen = c.record-record.ensures.marks ∙ ap (λ v. v.marks) c.shared.view_is ∙ sym (ap (λ s. s.seen) c.give_back.ensures.seat) in
    subst (λ (marks : List Mark). IsLegal (reverse marks)) seen (c.record-record.ensures.legal tells tells)

pub returns-clause-tellings : goal.returns-clause-tellings
returns-clause-tellings g c tells =
    let seen = c.record-record.ensures.marks ∙ ap (λ v. v.marks) c.shared.view_is ∙ sym (ap (λ s. s.seen) c.give_back.ensures.seat) in
    let proposers = ap (λ v. suc v.last_proposer) c.shared.view_is ∙ c.give_back.ensures.seats ∙ c.requires.seats in
    subst (λ (n : ℕ). AreTellingsSo n (reverse c.give_back.new.seat.seen)) proposers
    (subst (λ (marks : List Mark). AreTellingsSo (suc c.shared.inside.world.last_proposer) (reverse marks)) seen (c.record-record.ensures.tellings tells tells))
