use Rattle.std.proofs.Common.{◌≡◌, ◌+◌, ◌-◌, ◌*◌, min, take, drop, length, ◌∙◌, ap, subst, arith, ℕ}
use Rattle.cas_cells.specs.Format.{frame_place, cell_place, half_size, wrong_in_cell, wrong_at}
use Rattle.cas_cells.specs.Held.{HeldIn, HoldsWithin}
use Rattle.cas_cells.proofs.Recovering.{halves_read, held_read, held_within}
use Rattle.cas_cells.proofs.reading.read_frames.Goals as goal

pub returns-then-wrong-size-clause-foreign : goal.returns-then-wrong-size-clause-foreign
returns-then-wrong-size-clause-foreign g c tells at told =
    let narrow = c.args.narrow in
    let index = c.args.index in
    let seen = g.D.Disk.seen c.args.disk.now in
    let place : c.frame_place-place.result ≡ cell_place narrow index = c.frame_place-place.ensures.place ∙ ap (λ (n : ℕ). frame_place narrow (2 * n)) c.from.ensures in
    let size = c.half_size-size.ensures.size in
    let count : c.in_ok-count.count ≡ min (2 * half_size narrow index) (length seen - cell_place narrow index) = c.in_ok-count.ensures.all tells ∙ (λ k. min (c.requires.size k) (length seen - place k)) in
    let frames = halves_read narrow seen _ c.split_at.result.0.now c.split_at.result.1.now index c.in_ok-count.count c.min.result count
    (c.in_ok-count.ensures.bytes tells ∙ ap (λ (p : ℕ). take c.in_ok-count.count (drop p seen)) place) (c.min.ensures ∙ ap (λ (n : ℕ). min c.in_ok-count.count n) size) c.split_at.ensures.front c.split_at.ensures.back in
    let wrong : c.wrong_in_cell-wrong.result ≡ wrong_at narrow seen index = c.wrong_in_cell-wrong.ensures.place ∙ (λ k. wrong_in_cell (size k) (frames.0 k) (frames.1 k)) in
    let there : c.frame_place-place.result + c.wrong_in_cell-wrong.result ≡ at = cc in
    (omega (arith, wrong, size, c.if-wrong-size.true), omega (arith, wrong, place, there))

pub returns-clause-held : goal.returns-clause-held
returns-clause-held g c tells =
    let narrow = c.args.narrow in
    let index = c.args.index in
    let seen = g.D.Disk.seen c.args.disk.now in
    let place : c.frame_place-place.result ≡ cell_place narrow index = c.frame_place-place.ensures.place ∙ ap (λ (n : ℕ). frame_place narrow (2 * n)) c.from.ensures in
    let size = c.half_size-size.ensures.size in
    let count : c.in_ok-count.count ≡ min (2 * half_size narrow index) (length seen - cell_place narrow index) = c.in_ok-count.ensures.all tells ∙ (λ k. min (c.requires.size k) (length seen - place k)) in
    let frames = halves_read narrow seen _ c.split_at.result.0.now c.split_at.result.1.now index c.in_ok-count.count c.min.result count
    (c.in_ok-count.ensures.bytes tells ∙ ap (λ (p : ℕ). take c.in_ok-count.count (drop p seen)) place) (c.min.ensures ∙ ap (λ (n : ℕ). min c.in_ok-count.count n) size) c.split_at.ensures.front c.split_at.ensures.back in
    held_read narrow seen c.split_at.result.0.now c.split_at.result.1.now index c.in_ok-cell_of.field-0 frames.0 frames.1
    (subst (λ (n : ℕ). HeldIn n c.split_at.result.0.now c.split_at.result.1.now c.in_ok-cell_of.field-0) size c.in_ok-cell_of.ensures)

pub returns-clause-within : goal.returns-clause-within
returns-clause-within g c =
    subst (λ (n : ℕ). HoldsWithin n c.in_ok-cell_of.field-0) c.half_size-size.ensures.size (held_within c.half_size-size.result c.split_at.result.0.now c.split_at.result.1.now c.in_ok-cell_of.field-0 c.in_ok-cell_of.ensures)
