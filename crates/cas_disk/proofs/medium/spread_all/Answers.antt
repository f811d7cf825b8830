use Rattle.std.proofs.Common.{◌≡◌, ◌+◌, ◌-◌, ◌∷◌, length, drop, arith, ap, sym, ◌∙◌, ℕ}
use Rattle.std.proofs.lemmas.List.{drop_more}
use Rattle.cas_disk.specs.declared.medium.Write.{Write}
use Rattle.cas_disk.proofs.Tearing.{image_more}
use Rattle.cas_disk.proofs.medium.spread_all.Goals as goal

pub loop-i-preserved : goal.loop-i-preserved
loop-i-preserved c =
    let writes = c.args.writes.now in
    let w = c.index-writes-count.result in
    let here = length writes - 1 - c.loop-i.i in
    let next : here + 1 ≡ length writes - c.loop-i.i = omega arith in
    let at : length writes - (c.loop-i.i + 1) ≡ here = omega arith in
    let is : drop (length writes - (c.loop-i.i + 1)) writes ≡ w ∷ drop (length writes - c.loop-i.i) writes =
    ap (λ (k : ℕ). drop k writes) at
    ∙ drop_more writes here w (omega arith)
    ∙ ap (λ (v : Write). v ∷ drop (here + 1) writes) (sym c.index-writes-count.is)
    ∙ ap (λ (k : ℕ). w ∷ drop k writes) next in
    image_more _ c.loop-i.bytes.items _ w _ _ c.loop-i.invariant c.spread.ensures is
