use Rattle.std.proofs.Common.{◌≡◌, ◌+◌, suc, ap, ◌∙◌, arith}
use Rattle.std.proofs.lemmas.List.Elements.{All-same}
use Rattle.cas_turn.specs.Sitting.{fresh_seats}
use Rattle.cas_board.specs.Passes.{IsPassOf}
use Rattle.cas_board_steps.specs.Calls.Open.{NothingIsOpen}
use Rattle.cas_board.proofs.Opened.{opening_kept, opening_parts, fresh_passes}
use Rattle.cas_board.proofs.board.Board.over.Goals as goal

pub over-requires-clause-ages : goal.over-requires-clause-ages
over-requires-clause-ages g c shelves disks = c.requires.ages disks

pub invariant_of-shared : goal.invariant_of-shared
invariant_of-shared g c = let by = c.requires.opening in rw c.over.ensures (opening_kept _ by.0 by.1 by.2 c.args.store.world by.3 c.requires.places)

pub new-requires-clause-no_parts : goal.new-requires-clause-no_parts
new-requires-clause-no_parts g c = let by = c.requires.opening in rw c.over.ensures (opening_parts _ by.0 by.1 by.2 c.args.store.world by.3)

pub returns-in-Ok-clause-idle : goal.returns-in-Ok-clause-idle
returns-in-Ok-clause-idle g c = All-same (λ p. IsPassOf c.in-Ok.turn p × NothingIsOpen p.own) _ _ c.in-Ok.ensures.seats (fresh_passes c.in-Ok.turn (c.from-callers.result + 1) _ c.in-Ok.ensures.count.0 (let same = c.from-callers.ensures in omega (arith, same, c.requires.opening.3.few, c.requires.proposers)))

pub returns-in-Ok-clause-passes : goal.returns-in-Ok-clause-passes
returns-in-Ok-clause-passes g c =
    let same = c.from-callers.ensures in
    let callers : c.from-callers.result + 1 ≡ suc c.args.store.world.last_proposer = omega (arith, same, c.requires.proposers) in
    let marks : c.over.result.marks ≡ c.args.store.world.marks = ap (λ v. v.marks) c.over.ensures in
    c.in-Ok.ensures.seats ∙ (λ i. fresh_seats c.in-Ok.turn.id (callers i) (marks i))
