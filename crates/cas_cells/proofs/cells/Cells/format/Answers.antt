use Rattle.std.proofs.Common.{◌≡◌, [], ◌∷◌, Some, Option, map, sym, ◌∙◌, ap, subst, arith, ℕ, List}
use Rattle.std.proofs.lemmas.Grind.{common_steps}
use Rattle.cas_cells.specs.Format.{IsPayload, narrow_in, narrow_told, head_in}
use Rattle.cas_cells.specs.Held.{IsRow, OnDisk, payload_held}
use Rattle.cas_cells.specs.declared.cell.Cell.{Cell}
use Rattle.cas_cells.proofs.Places.{first_place, first_size}
use Rattle.cas_cells.proofs.Lengths.{within_more}
use Rattle.cas_cells.proofs.Using.{blank_stands, only_cell}
use Rattle.cas_cells.proofs.Stepping.{formatting_length}
use Rattle.cas_cells.proofs.cells.Cells.format.Goals as goal

pub change_cell-requires-clause-held : goal.change_cell-requires-clause-held
change_cell-requires-clause-held g c tells =
    let shut = c.in_ok-write_blank.ensures.blank tells in
    blank_stands 0 (g.D.Disk.seen c.write_blank.new.disk) 0 c.blank-cell.result c.blank-cell.ensures.new c.blank-cell.ensures.none shut.0 shut.1

pub returns-clause-stands : goal.returns-clause-stands
returns-clause-stands g c =
    let cells : c.push_cell.new.cells.items ≡ c.change_cell.new.cell ∷ [] = grind (arith, common_steps) in
    let copied : c.in_ok-payload.payload.items ≡ c.args.payload.now = grind (arith, common_steps) in
    let held : payload_held c.change_cell.new.cell ≡ Some c.args.payload.now = c.in_ok-change_cell.ensures.changed ∙ ap (λ (l : List ℕ). Some l) copied in
    let row : IsRow (Some c.args.payload.now ∷ []) = sym c.requires.no_cells in
    let none : 0 ≡ narrow_told c.args.payload.now = omega (arith, c.requires.no_cells) in
    let row_held : IsRow (map payload_held (c.change_cell.new.cell ∷ [])) = subst (λ (o : Option (List ℕ)). IsRow (o ∷ [])) (sym held) row in
    record {
      row = subst (λ (l : List Cell). IsRow (map payload_held l)) (sym cells) row_held;
      narrow = subst (λ (l : List Cell). 0 ≡ narrow_in (map payload_held l)) (sym cells) (subst (λ (o : Option (List ℕ)). 0 ≡ narrow_in (o ∷ [])) (sym held) none);
      head = subst (λ (l : List Cell). IsPayload 512 (head_in (map payload_held l))) (sym cells) (subst (λ (o : Option (List ℕ)). IsPayload 512 (head_in (o ∷ []))) (sym held) c.requires.fits);
      agrees = tt;
      on_disk = λ tells. subst (λ (l : List Cell). OnDisk 0 (g.D.Disk.seen c.change_cell.new.disk) l) (sym cells) (only_cell 0 (g.D.Disk.seen c.change_cell.new.disk) c.change_cell.new.cell (c.in_ok-change_cell.ensures.held tells));
      under_way = λ tells. tt;
      durable = λ tells. c.in_ok-change_cell.ensures.durable tells;
    }

pub returns-in_err-change_cell-clause-length : goal.returns-in_err-change_cell-clause-length
returns-in_err-change_cell-clause-length g c tells =
    let mid = c.write_blank.new.disk in
    formatting_length c.blank-cell.ensures.new c.blank-cell.ensures.none (c.in_ok-write_blank.ensures.blank tells) (λ image later left. g.met.D.Disk.counts_now mid (g.D.Disk.moment c.args.self.now.disk) image tells later left)
    (g.met.D.Disk.seen_may_stay mid tells) (c.write_blank.ensures.length tells) (c.change_cell.ensures.any_moment tells)

pub returns-clause-length : goal.returns-clause-length
returns-clause-length g c tells =
    let mid = c.write_blank.new.disk in
    formatting_length c.blank-cell.ensures.new c.blank-cell.ensures.none (c.in_ok-write_blank.ensures.blank tells) (λ image later left. g.met.D.Disk.counts_now mid (g.D.Disk.moment c.args.self.now.disk) image tells later left)
    (g.met.D.Disk.seen_may_stay mid tells) (c.write_blank.ensures.length tells) (c.change_cell.ensures.any_moment tells)

pub write_blank-requires : goal.write_blank-requires
write_blank-requires g c = record { room = λ tells. omega (arith, first_place 0) }

pub change_cell-requires-clause-fits : goal.change_cell-requires-clause-fits
change_cell-requires-clause-fits g c =
    let copied : c.in_ok-payload.payload.items ≡ c.args.payload.now = grind (arith, common_steps) in
    subst (λ (n : ℕ). IsPayload n c.in_ok-payload.payload.items) (sym (first_size 0)) (subst (λ (l : List ℕ). IsPayload 512 l) (sym copied) c.requires.fits)

pub returns-in_err-write_blank-clause-length : goal.returns-in_err-write_blank-clause-length
returns-in_err-write_blank-clause-length g c tells =
    within_more g.D.Disk.moment g.D.Disk.left_since g.D.Disk.may_leave c.args.self.now.disk c.write_blank.new.disk _ 1024 (omega (arith, first_place 0, first_size 0)) (c.write_blank.ensures.length tells)
