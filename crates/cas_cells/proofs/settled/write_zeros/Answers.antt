use Rattle.std.proofs.Common.{◌≡◌, ◌*◌, ◌∙◌, length, ap, subst, arith, ℕ}
use Rattle.std.proofs.lemmas.Result.{on_ok_weaker}
use Rattle.cas_disk.specs.Disk.{HoldsBytes, Torn}
use Rattle.cas_disk.proofs.Moments.{weaker}
use Rattle.cas_cells.specs.Format.{frame_place, cell_place}
use Rattle.cas_cells.specs.Torn.{SameBelow}
use Rattle.cas_cells.proofs.Tearing.{holds_torn, blank_held, same_below}
use Rattle.cas_cells.proofs.settled.write_zeros.Goals as goal

pub put-requires : goal.put-requires
put-requires g c = record {
  room = λ tells.
      let place : c.frame_place.result ≡ cell_place c.args.narrow c.args.index = c.frame_place.ensures.place ∙ ap (λ (n : ℕ). frame_place c.args.narrow (2 * n)) c.from.ensures in
      omega (arith, place, c.requires.room tells);
}

pub returns-clause-length : goal.returns-clause-length
returns-clause-length g c tells =
    let place : c.frame_place.result ≡ cell_place c.args.narrow c.args.index = c.frame_place.ensures.place ∙ ap (λ (n : ℕ). frame_place c.args.narrow (2 * n)) c.from.ensures in
    rw (← place, ← c.requires.size) (c.put.ensures.length tells)

pub returns-clause-blank : goal.returns-clause-blank
returns-clause-blank g c tells =
    let old = g.D.Disk.seen c.args.disk.now in
    let new = g.D.Disk.seen c.put.new.disk in
    let place : c.frame_place.result ≡ cell_place c.args.narrow c.args.index = c.frame_place.ensures.place ∙ ap (λ (n : ℕ). frame_place c.args.narrow (2 * n)) c.from.ensures in
    on_ok_weaker c.put.result (λ holds. blank_held c.args.narrow c.args.index old new c.args.zeros.now c.requires.size c.requires.zeros (c.requires.room tells) (subst (λ (at : ℕ). HoldsBytes old at c.args.zeros.now new) place holds)) (c.put.ensures.held tells)

pub returns-clause-below : goal.returns-clause-below
returns-clause-below g c tells =
    let old = g.D.Disk.seen c.args.disk.now in
    let new = g.D.Disk.seen c.put.new.disk in
    let place : c.frame_place.result ≡ cell_place c.args.narrow c.args.index = c.frame_place.ensures.place ∙ ap (λ (n : ℕ). frame_place c.args.narrow (2 * n)) c.from.ensures in
    on_ok_weaker c.put.result (λ holds. same_below c.args.narrow c.args.index (length c.args.zeros.now) old new (holds_torn old new c.args.zeros.now (cell_place c.args.narrow c.args.index) (c.requires.room tells) (subst (λ (at : ℕ). HoldsBytes old at c.args.zeros.now new) place holds))) (c.put.ensures.held tells)

pub returns-clause-any_moment : goal.returns-clause-any_moment
returns-clause-any_moment g c tells durable =
    let old = g.D.Disk.seen c.args.disk.now in
    let n = length c.args.zeros.now in
    let place : c.frame_place.result ≡ cell_place c.args.narrow c.args.index = c.frame_place.ensures.place ∙ ap (λ (n : ℕ). frame_place c.args.narrow (2 * n)) c.from.ensures in
    weaker g.D.Disk.moment g.D.Disk.left_since c.args.disk.now c.put.new.disk (Torn c.frame_place.result n old) (SameBelow c.args.narrow (2 * c.args.index) old)
    (λ image torn. same_below c.args.narrow c.args.index n old image (subst (λ (at : ℕ). Torn at n old image) place torn)) (c.put.ensures.any_moment tells durable)
