use Rattle.std.proofs.Common.{◌≤◌, arith}
use Rattle.cas_slot.specs.Ages.{least_age}
use Rattle.cas_slot.proofs.LimitLemmas.{told_fits}
use Rattle.cas_acceptor.proofs.Moments.{leaves_by_table}
use Rattle.cas_acceptor.proofs.acceptor.tell.Goals as goal

pub returns-in-Ok-carry_out-clause-any_moment : goal.returns-in-Ok-carry_out-clause-any_moment
returns-in-Ok-carry_out-clause-any_moment g c = λ tells.
    let old_enough : least_age (g.S.Shelf.contents c.args.shelf.now).ages c.args.request.now.from ≤ c.args.request.now.age = rw (← c.ages.ensures) (omega (arith, c.least-least.ensures)) in
    leaves_by_table g.S.Shelf.moment g.S.Shelf.left_since c.args.shelf.now c.carry_out.new.shelf (g.S.Shelf.contents c.args.shelf.now) c.args.request.now c.in-Ok.decided.0 c.in-Ok.decided.1
    old_enough c.in-Ok.ensures.table (λ full. absurd (let f = c.in-Ok-carry_out.ensures.full.1 full in cc)) (c.carry_out.ensures.any_moment tells)

pub returns-in-Err-NoMemory-clause-any_moment : goal.returns-in-Err-NoMemory-clause-any_moment
returns-in-Err-NoMemory-clause-any_moment g c = λ tells.
    let old_enough : least_age (g.S.Shelf.contents c.args.shelf.now).ages c.args.request.now.from ≤ c.args.request.now.age = rw (← c.ages.ensures) (omega (arith, c.least-least.ensures)) in
    leaves_by_table g.S.Shelf.moment g.S.Shelf.left_since c.args.shelf.now c.carry_out.new.shelf (g.S.Shelf.contents c.args.shelf.now) c.args.request.now c.in-Ok.decided.0 c.in-Ok.decided.1
    old_enough c.in-Ok.ensures.table (λ full. absurd (let f = c.in-Err-NoMemory.ensures.full.1 full in cc)) (c.carry_out.ensures.any_moment tells)

pub returns-in-Err-DiskFault-clause-any_moment : goal.returns-in-Err-DiskFault-clause-any_moment
returns-in-Err-DiskFault-clause-any_moment g c = λ tells.
    let old_enough : least_age (g.S.Shelf.contents c.args.shelf.now).ages c.args.request.now.from ≤ c.args.request.now.age = rw (← c.ages.ensures) (omega (arith, c.least-least.ensures)) in
    leaves_by_table g.S.Shelf.moment g.S.Shelf.left_since c.args.shelf.now c.carry_out.new.shelf (g.S.Shelf.contents c.args.shelf.now) c.args.request.now c.in-Ok.decided.0 c.in-Ok.decided.1
    old_enough c.in-Ok.ensures.table (λ full. absurd (let f = c.in-Err-DiskFault.ensures.full.1 full in cc)) (c.carry_out.ensures.any_moment tells)

pub returns-in-Ok-carry_out-clause-told : goal.returns-in-Ok-carry_out-clause-told
returns-in-Ok-carry_out-clause-told g c =
    told_fits (g.S.Shelf.contents c.args.shelf.now) c.args.request.now.ask c.in-Ok.decided.0 _ (g.met.S.Shelf.ballots_fit c.args.shelf.now c.requires.up)
    (c.in-Ok.ensures.table.room (λ full. absurd (let f = c.in-Ok-carry_out.ensures.full.1 full in cc)))
