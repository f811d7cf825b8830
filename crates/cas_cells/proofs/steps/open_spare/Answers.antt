use Rattle.std.proofs.Common.{◌≡◌, ◌∷◌, drop, ap, subst, ℕ, Option, List}
use Rattle.cas_disk.proofs.Moments.{weaker, then_on}
use Rattle.cas_cells.specs.Format.{frame_at}
use Rattle.cas_cells.specs.Torn.{Others, GateTorn}
use Rattle.cas_cells.specs.declared.cell.Side.{Side}
use Rattle.cas_cells.specs.Held.{LeavesPayload, MayOpen, payload_held, frame_of, other}
use Rattle.cas_cells.proofs.Leaving.{whole_at, on_ok_both, leaves_opens, opens_from, still_after, may_open, held_opened}
use Rattle.cas_cells.proofs.steps.open_spare.Goals as goal

pub returns-clause-opened : goal.returns-clause-opened
returns-clause-opened g c tells =
    let mid = g.D.Disk.seen c.keep_staged.new.disk in
    let new = g.D.Disk.seen c.write_gate.new.disk in
    on_ok_both c.write_gate.result
    (λ held others after opens. held_opened c.args.narrow c.keep_staged.new.cell mid c.args.index (c.in_ok-keep_staged.ensures.held tells) after new c.args.payload.now c.requires.fits (c.in_ok-keep_staged.ensures.staged tells)
    (subst (λ (k : ℕ). Others c.args.narrow k mid new) c.spare_frame.ensures.frame others) (subst (λ (k : ℕ). frame_at c.args.narrow new k ≡ 1 ∷ drop 1 (frame_at c.args.narrow mid k)) c.spare_frame.ensures.frame held) opens)
    (c.write_gate.ensures.held tells) (c.write_gate.ensures.others tells)

pub returns-clause-any_moment : goal.returns-clause-any_moment
returns-clause-any_moment g c tells =
    let cell = c.args.cell.now in
    let k = frame_of c.args.index (other cell.side) in
    let pay = payload_held cell in
    let p = c.args.payload.now in
    let old = g.D.Disk.seen c.args.disk.now in
    let mid = g.D.Disk.seen c.keep_staged.new.disk in
    let cell1 = c.keep_staged.new.cell in
    let k1 = frame_of c.args.index (other cell1.side) in
    let same : k1 ≡ k = ap (λ (s : Side). frame_of c.args.index (other s)) c.keep_staged.ensures.stays.side in
    then_on g.D.Disk.moment g.D.Disk.left_since c.args.disk.now c.keep_staged.new.disk c.write_gate.new.disk (MayOpen c.args.narrow k old c.args.index pay p)
    (weaker g.D.Disk.moment g.D.Disk.left_since c.args.disk.now c.keep_staged.new.disk (LeavesPayload c.args.narrow k old c.args.index pay) (MayOpen c.args.narrow k old c.args.index pay p) (λ image leaves. leaves_opens c.args.narrow k c.args.index pay p old image leaves) (c.keep_staged.ensures.any_moment tells))
    (weaker g.D.Disk.moment g.D.Disk.left_since c.keep_staged.new.disk c.write_gate.new.disk (GateTorn c.args.narrow c.spare_frame.result mid) (MayOpen c.args.narrow k old c.args.index pay p)
    (λ image torn. opens_from c.args.narrow k c.args.index pay p old mid image (c.in_ok-keep_staged.ensures.others tells)
    (subst (λ (n : ℕ). MayOpen c.args.narrow n mid c.args.index pay p image) same (subst (λ (o : Option (List ℕ)). MayOpen c.args.narrow k1 mid c.args.index o p image) c.keep_staged.ensures.stays.held
    (may_open c.args.narrow cell1 mid c.args.index (c.in_ok-keep_staged.ensures.held tells) image p c.requires.fits (c.in_ok-keep_staged.ensures.staged tells) (subst (λ (j : ℕ). GateTorn c.args.narrow j mid image) c.spare_frame.ensures.frame torn)))))
    (c.write_gate.ensures.any_moment tells))

pub returns-clause-still : goal.returns-clause-still
returns-clause-still g c tells no_memory =
    still_after c.args.narrow (g.D.Disk.seen c.args.disk.now) (g.D.Disk.seen c.keep_staged.new.disk) (g.D.Disk.seen c.write_gate.new.disk) (g.D.Disk.may_leave c.keep_staged.new.disk) (g.D.Disk.may_leave c.write_gate.new.disk) c.args.index c.args.cell.now c.keep_staged.new.cell
    (c.in_ok-keep_staged.ensures.held tells) (c.in_ok-keep_staged.ensures.others tells) (c.in_ok-keep_staged.ensures.durable tells) (c.write_gate.ensures.unchanged tells no_memory)

pub write_gate-requires-clause-whole : goal.write_gate-requires-clause-whole
write_gate-requires-clause-whole g c tells = whole_at c.args.narrow c.keep_staged.new.cell (g.D.Disk.seen c.keep_staged.new.disk) c.args.index (c.in_ok-keep_staged.ensures.held tells) c.spare_frame.result c.spare_frame.ensures.frame
