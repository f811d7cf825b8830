use Rattle.std.proofs.Common.{◌≡◌, true, ◌∷◌, drop, refl, sym, subst, arith, ℕ, List}
use Rattle.std.proofs.lemmas.Grind.{common_steps}
use Rattle.cas_disk.proofs.Moments.{started}
use Rattle.cas_cells.specs.Format.{frame_at}
use Rattle.cas_cells.specs.Torn.{Others}
use Rattle.cas_cells.specs.Held.{LeavesPayload, payload_held, frame_of, other}
use Rattle.cas_cells.proofs.Leaving.{whole_at, leaves_same, closing, held_closed}
use Rattle.cas_cells.proofs.steps.shut_spare.Goals as goal

pub returns-then-not-cell-clause-any_moment : goal.returns-then-not-cell-clause-any_moment
returns-then-not-cell-clause-any_moment g c tells =
    let old = g.D.Disk.seen c.args.disk.now in
    let cell = c.args.cell.now in
    started g.D.Disk.moment g.D.Disk.left_since c.args.disk.now (LeavesPayload c.args.narrow (frame_of c.args.index (other cell.side)) old c.args.index (payload_held cell))
    (λ image left. subst (λ (l : List ℕ). LeavesPayload c.args.narrow (frame_of c.args.index (other cell.side)) old c.args.index (payload_held cell) l)
    (sym (c.requires.durable tells image (g.met.D.Disk.only_now c.args.disk.now image tells left))) (leaves_same c.args.narrow cell old c.args.index (c.requires.held tells)))

pub returns-in_err-write_gate-clause-any_moment : goal.returns-in_err-write_gate-clause-any_moment
returns-in_err-write_gate-clause-any_moment g c tells =
    let opened : c.args.cell.now.spare_open ≡ true = grind (arith, common_steps) in
    closing c.args.narrow c.args.cell.now (g.D.Disk.seen c.args.disk.now) c.args.index (c.requires.held tells) opened c.spare_frame.ensures.frame (c.write_gate.ensures.any_moment tells)

pub returns-clause-any_moment : goal.returns-clause-any_moment
returns-clause-any_moment g c tells =
    let opened : c.args.cell.now.spare_open ≡ true = grind (arith, common_steps) in
    closing c.args.narrow c.args.cell.now (g.D.Disk.seen c.args.disk.now) c.args.index (c.requires.held tells) opened c.spare_frame.ensures.frame (c.write_gate.ensures.any_moment tells)

pub returns-clause-held : goal.returns-clause-held
returns-clause-held g c tells =
    let old = g.D.Disk.seen c.args.disk.now in
    let new = g.D.Disk.seen c.write_gate.new.disk in
    let cell = c.args.cell.now in
    let opened : cell.spare_open ≡ true = grind (arith, common_steps) in
    let others : Others c.args.narrow (frame_of c.args.index (other cell.side)) old new = subst (λ (k : ℕ). Others c.args.narrow k old new) c.spare_frame.ensures.frame (c.in_ok-write_gate.ensures.others tells) in
    let gate : frame_at c.args.narrow new (frame_of c.args.index (other cell.side)) ≡ 0 ∷ drop 1 (frame_at c.args.narrow old (frame_of c.args.index (other cell.side))) = subst (λ (k : ℕ). frame_at c.args.narrow new k ≡ 0 ∷ drop 1 (frame_at c.args.narrow old k)) c.spare_frame.ensures.frame (c.in_ok-write_gate.ensures.held tells) in
    held_closed c.args.narrow cell old c.args.index (c.requires.held tells) _ new opened (record { held = refl; side = refl; number = refl; spare = refl; used = refl }) others gate

pub write_gate-requires-clause-whole : goal.write_gate-requires-clause-whole
write_gate-requires-clause-whole g c tells = whole_at c.args.narrow c.args.cell.now (g.D.Disk.seen c.args.disk.now) c.args.index (c.requires.held tells) c.spare_frame.result c.spare_frame.ensures.frame
