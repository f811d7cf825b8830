use Rattle.std.proofs.Common.{◌≡◌, ◌+◌, ◌++◌, ◌∷◌, [], Some, Err, length, take, refl, sym, ◌∙◌, ap, subst, arith, length-append, ℕ, List}
use Rattle.std.proofs.lemmas.List.{take-append-le}
use Rattle.std.proofs.lemmas.Grind.{common_steps}
use Rattle.cas_cells.specs.Format.{cell_place, half_size, wrong_at}
use Rattle.cas_cells.specs.Held.{CellHeld, OnDisk}
use Rattle.cas_cells.specs.declared.cell.Cell.{Cell}
use Rattle.cas_cells.specs.declared.fault.CellFault.TheVariants.{Foreign}
use Rattle.cas_cells.proofs.Rows.{found_wrong}
use Rattle.cas_cells.proofs.Growing.{disk_push}
use Rattle.cas_cells.proofs.Recovering.{read_more, sound_so_far}
use Rattle.cas_cells.proofs.reading.read_rest.Goals as goal

pub returns-in_err-cell-clause-foreign : goal.returns-in_err-cell-clause-foreign
returns-in_err-cell-clause-foreign g c tells at told =
    let seen = g.D.Disk.seen c.args.disk.now in
    let mid = g.D.Disk.seen c.loop-index.disk in
    let i = c.loop-index.index in
    let inv = c.loop-index.invariant in
    let content : mid ≡ seen = (inv.read tells).content in
    let fault : c.read_cell.result ≡ Err (Foreign at) = grind (arith, common_steps) in
    let facts = c.read_cell.ensures.foreign tells at fault in
    let next : i + 1 ≡ 1 + i = omega arith in
    let same : wrong_at c.args.narrow mid (i + 1) ≡ wrong_at c.args.narrow seen (1 + i) = ap (λ (d : List ℕ). wrong_at c.args.narrow d (i + 1)) content ∙ ap (λ (k : ℕ). wrong_at c.args.narrow seen k) next in
    let start : cell_place c.args.narrow (i + 1) ≡ cell_place c.args.narrow (1 + i) = ap (λ (k : ℕ). cell_place c.args.narrow k) next in
    let half : half_size c.args.narrow (i + 1) ≡ half_size c.args.narrow (1 + i) = ap (λ (k : ℕ). half_size c.args.narrow k) next in
    let place : cell_place c.args.narrow (1 + i) + wrong_at c.args.narrow seen (1 + i) ≡ at = omega (arith, facts.1, same, start) in
    found_wrong c.args.narrow seen c.args.count 1 i (wrong_at c.args.narrow seen (1 + i)) (λ j below. sound_so_far c.args.narrow seen c.loop-index.cells.items (inv.held tells) (1 + j) (omega (arith, inv.size, below))) c.loop-index-test.true refl (omega (arith, facts.0, same, half))
    ∙ ap (λ (k : ℕ). Some k) place

pub returns-in_err-push-clause-read : goal.returns-in_err-push-clause-read
returns-in_err-push-clause-read g c tells =
    let so_far = c.loop-index.invariant.read tells in
    read_more g.D.Disk.moment g.D.Disk.left_since g.D.Disk.seen g.D.Disk.may_leave c.args.disk.now c.loop-index.disk c.read_cell.new.disk so_far (c.read_cell.ensures.kept tells) (c.read_cell.ensures.any_moment tells so_far.durable)

pub loop-index-preserved : goal.loop-index-preserved
loop-index-preserved g c =
    let seen = g.D.Disk.seen c.args.disk.now in
    let i = c.loop-index.index in
    let cells = c.loop-index.cells.items in
    let cell = c.in_ok-cell.cell in
    let inv = c.loop-index.invariant in
    let pushed : c.push.new.self.items ≡ cells ++ cell ∷ [] = grind (arith, common_steps) in
    let grown : length c.push.new.self.items ≡ length cells + 1 = ap length pushed ∙ length-append cells (cell ∷ []) in
    let index : i + 1 ≡ length cells = omega (arith, inv.size) in
    record {
      size = omega (arith, grown, inv.size);
      first = ap (λ (l : List Cell). take 1 l) pushed ∙ take-append-le 1 cells (cell ∷ []) (omega (arith, inv.size)) ∙ inv.first;
      held = λ tells. subst (λ (l : List Cell). OnDisk c.args.narrow seen l) (sym pushed)
          (disk_push c.args.narrow cells seen cell (inv.held tells) (subst (λ (k : ℕ). CellHeld c.args.narrow seen k cell) index (subst (λ (d : List ℕ). CellHeld c.args.narrow d (i + 1) cell) (inv.read tells).content (c.in_ok-cell.ensures.held tells))));
      read = λ tells. read_more g.D.Disk.moment g.D.Disk.left_since g.D.Disk.seen g.D.Disk.may_leave c.args.disk.now c.loop-index.disk c.read_cell.new.disk (inv.read tells) (c.read_cell.ensures.kept tells) (c.read_cell.ensures.any_moment tells (inv.read tells).durable);
      faults = omega (arith, inv.faults, c.read_cell.ensures.cause.never_falls);
    }
