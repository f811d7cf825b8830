use Rattle.std.proofs.Common.{◌≡◌, ◌≤◌, ◌+◌, ◌++◌, ⊎_elim, inl, inr, length, drop, refl, sym, ◌∙◌, ap, subst, arith, ℕ, List}
use Rattle.cas_disk.proofs.Moments.{weaker, at_rest}
use Rattle.cas_cells.specs.Format.{frame_at, frame_size, half_size, next, IsPayload}
use Rattle.cas_cells.specs.Torn.{TailTorn}
use Rattle.cas_cells.specs.Held.{LeavesPayload, payload_held, frame_of, other, tail_of}
use Rattle.cas_cells.proofs.Frames.{length-tail_of}
use Rattle.cas_cells.proofs.Places.{size_of_side}
use Rattle.cas_cells.proofs.Leaving.{whole_at, leaves_same, leaves_tail, held_tail, spare_covered, stands_written}
use Rattle.cas_cells.proofs.steps.write_spare.Given.{Over}
use Rattle.cas_cells.proofs.steps.write_spare.Goals as goal

fits_reach : (size reach : ℕ) (p : List ℕ) → IsPayload size p → length p + 3 ≤ reach → IsPayload (reach + 1) p
fits_reach size reach p fits low = record { not_empty = fits.not_empty; fits = omega (arith, low) }

-- what is written is a payload's bytes behind a gate, up to where the spare may be other than zero
made : (n number reach : ℕ) (p tail read : List ℕ) → read ≡ tail → tail ≡ tail_of (reach + 1) n p → n ≡ next number → read ≡ tail_of (reach + 1) (next number) p
made n number reach p tail read shown is follows = shown ∙ is ∙ ap (λ (k : ℕ). tail_of (reach + 1) k p) follows

pub returns-in_err-tail-clause-any_moment : goal.returns-in_err-tail-clause-any_moment
returns-in_err-tail-clause-any_moment g c tells =
    let disk = c.args.disk.now in
    let cell = c.args.cell.now in
    at_rest g.D.Disk.moment g.D.Disk.left_since disk (g.D.Disk.seen disk) (g.D.Disk.may_leave disk) (LeavesPayload c.args.narrow (frame_of c.args.index (other cell.side)) (g.D.Disk.seen disk) c.args.index (payload_held cell))
    (λ image left. g.met.D.Disk.only_now disk image tells left) (c.requires.durable tells) (leaves_same c.args.narrow cell (g.D.Disk.seen disk) c.args.index (c.requires.held tells))

pub write_tail-requires-clause-whole : goal.write_tail-requires-clause-whole
write_tail-requires-clause-whole g c tells = whole_at c.args.narrow c.args.cell.now (g.D.Disk.seen c.args.disk.now) c.args.index (c.requires.held tells) c.spare_frame.result c.spare_frame.ensures.frame

pub returns-in_err-write_tail-clause-any_moment : goal.returns-in_err-write_tail-clause-any_moment
returns-in_err-write_tail-clause-any_moment g c tells =
    let old = g.D.Disk.seen c.args.disk.now in
    let cell = c.args.cell.now in
    weaker g.D.Disk.moment g.D.Disk.left_since c.args.disk.now c.write_tail.new.disk (TailTorn c.args.narrow c.spare_frame.result old) (LeavesPayload c.args.narrow (frame_of c.args.index (other cell.side)) old c.args.index (payload_held cell))
    (λ image torn. leaves_tail c.args.narrow cell old c.args.index (c.requires.held tells) image (c.requires.shut tells) (subst (λ (k : ℕ). TailTorn c.args.narrow k old image) c.spare_frame.ensures.frame torn)) (c.write_tail.ensures.any_moment tells)

pub returns-clause-any_moment : goal.returns-clause-any_moment
returns-clause-any_moment g c tells =
    let old = g.D.Disk.seen c.args.disk.now in
    let cell = c.args.cell.now in
    weaker g.D.Disk.moment g.D.Disk.left_since c.args.disk.now c.write_tail.new.disk (TailTorn c.args.narrow c.spare_frame.result old) (LeavesPayload c.args.narrow (frame_of c.args.index (other cell.side)) old c.args.index (payload_held cell))
    (λ image torn. leaves_tail c.args.narrow cell old c.args.index (c.requires.held tells) image (c.requires.shut tells) (subst (λ (k : ℕ). TailTorn c.args.narrow k old image) c.spare_frame.ensures.frame torn)) (c.write_tail.ensures.any_moment tells)

pub write_tail-requires-clause-size : goal.write_tail-requires-clause-size
write_tail-requires-clause-size g c =
    let reach = c.reach-reach.result in
    let p = c.args.payload.now in
    let is = made c.next.result c.args.cell.now.number reach p c.in_ok-tail.tail.items c.deref.result.now c.deref.ensures.value c.in_ok-tail.ensures c.next.ensures.value in
    let all : length c.deref.result.now + 1 ≡ reach + 1 = ap (λ (l : List ℕ). length l + 1) is ∙ length-tail_of (reach + 1) (next c.args.cell.now.number) p (fits_reach _ reach p c.requires.fits c.reach-reach.ensures.needed) in
    let half : frame_size c.args.narrow c.spare_frame.result ≡ half_size c.args.narrow c.args.index = ap (λ (k : ℕ). frame_size c.args.narrow k) c.spare_frame.ensures.frame ∙ size_of_side c.args.narrow c.args.index (other c.args.cell.now.side) in
    omega (arith, all, half, c.reach-reach.ensures.within, c.half_size.ensures.size)

stands : (g : Over) (c : goal.After-drop-tail-2 g) → (tells : g.D.Disk.tells) → drop 1 (frame_at c.args.narrow (g.D.Disk.seen c.write_tail.new.disk) (frame_of c.args.index (other c.args.cell.now.side))) ≡ tail_of (half_size c.args.narrow c.args.index) (next c.args.cell.now.number) c.args.payload.now
stands g c tells =
    let old = g.D.Disk.seen c.args.disk.now in
    let new = g.D.Disk.seen c.write_tail.new.disk in
    let reach = c.reach-reach.result in
    let p = c.args.payload.now in
    let half = c.half_size.ensures.size in
    let tail = c.deref.result.now in
    spare_covered c.args.narrow c.args.cell.now old c.args.index (c.requires.held tells) new p tail reach (fits_reach _ reach p c.requires.fits c.reach-reach.ensures.needed) (omega (arith, c.reach-reach.ensures.within, half))
    (⊎_elim (λ low. inl low) (λ all. inr (sym half ∙ all)) c.reach-reach.ensures.used)
    (made c.next.result c.args.cell.now.number reach p c.in_ok-tail.tail.items tail c.deref.ensures.value c.in_ok-tail.ensures c.next.ensures.value)
    (subst (λ (k : ℕ). drop 1 (frame_at c.args.narrow new k) ≡ tail ++ drop (length tail + 1) (frame_at c.args.narrow old k)) c.spare_frame.ensures.frame (c.in_ok-write_tail.ensures.held tells))

pub returns-clause-staged : goal.returns-clause-staged
returns-clause-staged g c tells = stands_written c.args.narrow c.args.cell.now (g.D.Disk.seen c.args.disk.now) c.args.index (c.requires.held tells) (record c.args.cell.now { spare_used = length c.args.payload.now + 3 }) (g.D.Disk.seen c.write_tail.new.disk) c.args.payload.now (record { held = refl; side = refl; number = refl; spare = refl }) (stands g c tells)

pub returns-clause-held : goal.returns-clause-held
returns-clause-held g c tells =
    let old = g.D.Disk.seen c.args.disk.now in
    let new = g.D.Disk.seen c.write_tail.new.disk in
    held_tail c.args.narrow c.args.cell.now old c.args.index (c.requires.held tells) _ new c.args.payload.now (c.requires.shut tells) (subst (λ (k : ℕ). TailTorn c.args.narrow k old new) c.spare_frame.ensures.frame (c.in_ok-write_tail.ensures.torn tells))
    (record { same = record { held = refl; side = refl; number = refl; spare = refl }; used = refl }) (stands g c tells)
