use Rattle.std.proofs.Common.{◌≡◌, List, ◌∷◌, drop, refl, sym, ◌∙◌, ap, subst, arith, Err, ℕ}
use Rattle.std.proofs.lemmas.Grind.{common_steps}
use Rattle.cas_cells.specs.Format.{frame_at, half_size, IsPayload}
use Rattle.cas_cells.specs.Torn.{Others}
use Rattle.cas_cells.specs.Held.{CellHeld, HoldsTail}
use Rattle.cas_cells.specs.declared.cell.Cell.{Cell}
use Rattle.cas_disk.specs.declared.disk.DiskFault.{DiskFault}
use Rattle.cas_disk.specs.declared.disk.DiskFault.TheVariants.{NoMemory}
use Rattle.cas_cells.proofs.Places.{payload_within}
use Rattle.cas_cells.proofs.Leaving.{whole_at, still_after, held_opened, three_steps}
use Rattle.cas_cells.proofs.steps.change_cell.Goals as goal

pub returns-in_err-shut_spare-clause-still : goal.returns-in_err-shut_spare-clause-still
returns-in_err-shut_spare-clause-still g c tells no_memory =
    let cell = c.args.cell.now in
    let old = g.D.Disk.seen c.args.disk.now in
    let same = c.in_err-shut_spare.ensures.same in
    let fault : c.in_err-shut_spare.field-0.0 ≡ NoMemory = grind (arith, common_steps) in
    still_after c.args.narrow old old (g.D.Disk.seen c.shut_spare.new.disk) (g.D.Disk.may_leave c.args.disk.now) (g.D.Disk.may_leave c.shut_spare.new.disk) c.args.index cell c.shut_spare.new.cell
    (subst (λ (m : Cell). CellHeld c.args.narrow old c.args.index m) (sym same) (c.requires.held tells)) (λ j apart. refl) (c.requires.durable tells)
    (c.shut_spare.ensures.unchanged tells (c.in_err-shut_spare.was ∙ ap (λ (e : DiskFault). Err e) fault))

pub returns-in_err-write_gate-clause-any_moment : goal.returns-in_err-write_gate-clause-any_moment
returns-in_err-write_gate-clause-any_moment g c tells =
    three_steps c.args.narrow c.in_ok-shut_spare.ensures.shut c.in_ok-write_spare.ensures.written.same (c.shut_spare.ensures.any_moment tells) (c.write_spare.ensures.any_moment tells) (c.write_gate.ensures.any_moment tells) (c.in_ok-write_spare.ensures.held tells) c.requires.fits
    (subst (λ (l : List ℕ). HoldsTail c.args.narrow (g.D.Disk.seen c.write_spare.new.disk) c.args.index c.write_spare.new.cell l) c.deref.ensures.value (c.in_ok-write_spare.ensures.staged tells))
    c.spare_frame.ensures.frame (c.in_ok-shut_spare.ensures.others tells) (c.in_ok-write_spare.ensures.others tells)

pub returns-clause-any_moment : goal.returns-clause-any_moment
returns-clause-any_moment g c tells =
    three_steps c.args.narrow c.in_ok-shut_spare.ensures.shut c.in_ok-write_spare.ensures.written.same (c.shut_spare.ensures.any_moment tells) (c.write_spare.ensures.any_moment tells) (c.write_gate.ensures.any_moment tells) (c.in_ok-write_spare.ensures.held tells) c.requires.fits
    (subst (λ (l : List ℕ). HoldsTail c.args.narrow (g.D.Disk.seen c.write_spare.new.disk) c.args.index c.write_spare.new.cell l) c.deref.ensures.value (c.in_ok-write_spare.ensures.staged tells))
    c.spare_frame.ensures.frame (c.in_ok-shut_spare.ensures.others tells) (c.in_ok-write_spare.ensures.others tells)

pub returns-clause-held : goal.returns-clause-held
returns-clause-held g c tells =
    let i = c.args.index in
    let cell1 = c.write_spare.new.cell in
    let mid2 = g.D.Disk.seen c.write_spare.new.disk in
    let new = g.D.Disk.seen c.write_gate.new.disk in
    let staged : HoldsTail c.args.narrow mid2 i cell1 c.args.payload.items = subst (λ (l : List ℕ). HoldsTail c.args.narrow mid2 i cell1 l) c.deref.ensures.value (c.in_ok-write_spare.ensures.staged tells) in
    held_opened c.args.narrow cell1 mid2 i (c.in_ok-write_spare.ensures.held tells) c.turn.new.cell new c.args.payload.items c.requires.fits staged
    (subst (λ (k : ℕ). Others c.args.narrow k mid2 new) c.spare_frame.ensures.frame (c.in_ok-write_gate.ensures.others tells))
    (subst (λ (k : ℕ). frame_at c.args.narrow new k ≡ 1 ∷ drop 1 (frame_at c.args.narrow mid2 k)) c.spare_frame.ensures.frame (c.in_ok-write_gate.ensures.held tells)) c.turn.ensures

pub write_spare-requires-clause-fits : goal.write_spare-requires-clause-fits
write_spare-requires-clause-fits g c = subst (λ (l : List ℕ). IsPayload (half_size c.args.narrow c.args.index) l) (sym c.deref.ensures.value) c.requires.fits

pub write_gate-requires-clause-whole : goal.write_gate-requires-clause-whole
write_gate-requires-clause-whole g c tells = whole_at c.args.narrow c.write_spare.new.cell (g.D.Disk.seen c.write_spare.new.disk) c.args.index (c.in_ok-write_spare.ensures.held tells) c.spare_frame.result c.spare_frame.ensures.frame

pub turn-requires : goal.turn-requires
turn-requires g c = payload_within c.args.narrow c.args.index c.args.payload.items c.requires.fits
