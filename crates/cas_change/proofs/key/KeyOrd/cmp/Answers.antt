use Rattle.std.specs.Prelude.{List, ℕ}
use Rattle.std.specs.Arc.{arc_slice_items}
use Rattle.std.proofs.Common.{◌∙◌, sym}
use Rattle.std.proofs.lemmas.Cmp.{ranked, by_ranked}
use Rattle.cas_change.specs.declared.key.TheConstants.{FIRST_WEIGHT}
use Rattle.cas_change.proofs.Prefixes.{less, greater, key_is_bytes}
use Rattle.cas_change.proofs.key.KeyOrd.cmp.Goals as goal

-- unequal prefix numbers say which key comes first
pub returns-in_default : goal.returns-in_default
returns-in_default c =
    let xs : List ℕ = arc_slice_items c.self.inside.bytes in
    let ys : List ℕ = arc_slice_items c.other.inside.bytes in
    let x = c.self.invariant in
    let y = c.other.invariant in
    rw (← c.self.view_is, ← c.other.view_is)
    (by_ranked _ _ _ c.cmp.result (ranked c.self.inside.prefix c.other.inside.prefix c.cmp.result c.cmp.ensures)
    (λ is lt. is ∙ sym (less xs ys FIRST_WEIGHT (key_is_bytes xs x.key) (key_is_bytes ys y.key) (rw (← x.number, ← y.number) lt)))
    (λ is same. absurd (c.in_default.not-Equal is))
    (λ is lt. is ∙ sym (greater xs ys FIRST_WEIGHT (key_is_bytes xs x.key) (key_is_bytes ys y.key) (rw (← x.number, ← y.number) lt))))
