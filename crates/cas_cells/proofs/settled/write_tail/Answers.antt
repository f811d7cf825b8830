use Rattle.std.proofs.Common.{◌≤◌, ◌+◌, length, subst, arith, ℕ}
use Rattle.std.proofs.lemmas.Result.{on_ok_weaker}
use Rattle.cas_disk.specs.Disk.{HoldsBytes, Torn}
use Rattle.cas_disk.proofs.Moments.{weaker}
use Rattle.cas_cells.specs.Format.{frame_place}
use Rattle.cas_cells.specs.Torn.{TailTorn}
use Rattle.cas_cells.proofs.Places.{sized}
use Rattle.cas_cells.proofs.Tearing.{frame_within, holds_torn, tail_torn, tail_held}
use Rattle.cas_cells.proofs.settled.write_tail.Goals as goal

pub put-requires : goal.put-requires
put-requires g c = record { room = λ tells. omega (arith, c.frame_place.ensures.place, frame_within c.args.narrow (g.D.Disk.seen c.args.disk.now) c.args.frame (c.requires.whole tells), (sized c.args.narrow c.args.frame).least) }

pub returns-clause-held : goal.returns-clause-held
returns-clause-held g c tells =
    let old = g.D.Disk.seen c.args.disk.now in
    let new = g.D.Disk.seen c.put.new.disk in
    on_ok_weaker c.put.result (λ holds. tail_held c.args.narrow c.args.frame c.args.tail.now old new (c.requires.whole tells) c.requires.size (subst (λ (at : ℕ). HoldsBytes old (at + 1) c.args.tail.now new) c.frame_place.ensures.place holds)) (c.put.ensures.held tells)

pub returns-clause-torn : goal.returns-clause-torn
returns-clause-torn g c tells =
    let old = g.D.Disk.seen c.args.disk.now in
    let new = g.D.Disk.seen c.put.new.disk in
    let tail = c.args.tail.now in
    let place = frame_place c.args.narrow c.args.frame in
    let within : place + 1 ≤ length old = omega (arith, frame_within c.args.narrow old c.args.frame (c.requires.whole tells), (sized c.args.narrow c.args.frame).least) in
    on_ok_weaker c.put.result (λ holds. tail_torn c.args.narrow c.args.frame old new (c.requires.whole tells) (length tail) c.requires.size
    (holds_torn old new tail (place + 1) within (subst (λ (at : ℕ). HoldsBytes old (at + 1) tail new) c.frame_place.ensures.place holds))) (c.put.ensures.held tells)

pub returns-clause-any_moment : goal.returns-clause-any_moment
returns-clause-any_moment g c tells =
    let old = g.D.Disk.seen c.args.disk.now in
    let n = length c.args.tail.now in
    weaker g.D.Disk.moment g.D.Disk.left_since c.args.disk.now c.put.new.disk (Torn (c.frame_place.result + 1) n old) (TailTorn c.args.narrow c.args.frame old)
    (λ image torn. tail_torn c.args.narrow c.args.frame old image (c.requires.whole tells) n c.requires.size (subst (λ (at : ℕ). Torn (at + 1) n old image) c.frame_place.ensures.place torn)) (c.put.ensures.any_moment tells (c.requires.durable tells))
