use Rattle.std.specs.Prelude.{is_some, not}
use Rattle.std.specs.Option.{option_map}
use Rattle.std.proofs.Common.{◌≡◌, ◌+◌, ◌*◌, ℕ, true, false, Option, Some, None, refl, sym, ap, ◌∙◌}
use Rattle.cas_cells.specs.Format.{frame_place, cell_place, half_size, payload_place}
use Rattle.cas_cells.specs.Held.{place_on}
use Rattle.cas_cells.proofs.Placing.{cell_placed}
use Rattle.cas_cells.proofs.Using.{at_index}
use Rattle.cas_cells.proofs.cells.Cells.payload_place.Goals as goal

none_there : {X Y : Type 0} (f : X → Y) (n : ℕ) (o : Option X) → is_some o ≡ not true → option_map (λ (_ : Y). n) (option_map f o) ≡ None
none_there f n None is = refl
none_there f n (Some x) is = absurd (cc)

one_there : {X Y : Type 0} (f : X → Y) (n : ℕ) (o : Option X) → is_some o ≡ not false → option_map (λ (_ : Y). n) (option_map f o) ≡ Some n
one_there f n None is = absurd (cc)
one_there f n (Some x) is = refl

pub returns-then-is_none-clause-place : goal.returns-then-is_none-clause-place
returns-then-is_none-clause-place g c tells =
    let s = c.requires.stands in
    let narrow = c.args.self.now.narrow in
    let held = c.index-held.result.now in
    let is = at_index c.args.self.now.cells.items c.args.cell held s.row c.requires.within c.index-held.ensures in
    let seen = g.D.Disk.seen c.args.self.now.disk in
    sym (ap (λ (n : ℕ). payload_place n seen c.args.cell) (sym s.narrow) ∙ cell_placed narrow seen c.args.cell held (s.on_disk tells c.args.cell held is)
    ∙ none_there (λ v. v.items) (cell_place narrow c.args.cell + place_on (half_size narrow c.args.cell) held.side) held.payload (c.is_none.ensures ∙ ap not c.if-is_none.true))

pub returns-clause-place : goal.returns-clause-place
returns-clause-place g c tells =
    let s = c.requires.stands in
    let narrow = c.args.self.now.narrow in
    let held = c.index-held.result.now in
    let is = at_index c.args.self.now.cells.items c.args.cell held s.row c.requires.within c.index-held.ensures in
    let seen = g.D.Disk.seen c.args.self.now.disk in
    let start : c.frame_place-start.result ≡ cell_place narrow c.args.cell = c.frame_place-start.ensures.place ∙ ap (λ (n : ℕ). frame_place narrow (2 * n)) c.from.ensures in
    let inner : c.payload_place.result ≡ place_on (half_size narrow c.args.cell) held.side = c.payload_place.ensures ∙ ap (λ (n : ℕ). place_on n held.side) c.half_size-size.ensures.size in
    (λ k. Some (start k + inner k))
    ∙ sym (ap (λ (n : ℕ). payload_place n seen c.args.cell) (sym s.narrow) ∙ cell_placed narrow seen c.args.cell held (s.on_disk tells c.args.cell held is)
    ∙ one_there (λ v. v.items) (cell_place narrow c.args.cell + place_on (half_size narrow c.args.cell) held.side) held.payload (c.is_none.ensures ∙ ap not c.if-is_none.false))
