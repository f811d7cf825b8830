use Rattle.std.proofs.Common.{◌≡◌, Some, Err, Option, false, true, refl, sym, ◌∙◌, ap, subst, arith, ℕ, List}
use Rattle.std.proofs.lemmas.Grind.{common_steps}
use Rattle.std.proofs.Math.ListN.{set}
use Rattle.cas_disk.specs.declared.disk.DiskFault.{DiskFault}
use Rattle.cas_cells.specs.Format.{IsImageOf, FitsCell, IsPayload, TellsSame, half_size, narrow_in, head_in}
use Rattle.cas_cells.specs.Held.{HoldsTail, other}
use Rattle.cas_cells.specs.Cells.{cells_of}
use Rattle.cas_cells.specs.declared.cell.Cell.{Cell}
use Rattle.cas_cells.proofs.Rows.{disk_set, get_set_same}
use Rattle.cas_cells.proofs.Using.{told_no_memory, within_row, at_index, set_own, view_same, stands_kept, shut_under_way}
use Rattle.cas_cells.proofs.Stepping.{rests, step_stands, step_length}
use Rattle.cas_cells.proofs.cells.Cells.write_spare.Goals as goal

pub returns-in_err-staged-clause-any_moment : goal.returns-in_err-staged-clause-any_moment
returns-in_err-staged-clause-any_moment g c tells = rests c.requires.stands tells (IsImageOf (cells_of c.args.self.now)) (λ now. now) (λ image left. g.met.D.Disk.only_now c.args.self.now.disk image tells left)

pub write_spare-requires-clause-fits : goal.write_spare-requires-clause-fits
write_spare-requires-clause-fits g c = subst (λ (k : ℕ). IsPayload (half_size k c.args.cell) c.args.payload.now) (sym c.requires.stands.narrow) c.requires.fits

pub write_spare-requires-clause-held : goal.write_spare-requires-clause-held
write_spare-requires-clause-held g c tells =
    let s = c.requires.stands in
    let is = at_index c.args.self.now.cells.items c.args.cell c.index_mut-held.result.now s.row c.requires.within c.index_mut-held.ensures.value in
    s.on_disk tells c.args.cell c.index_mut-held.result.now is

pub write_spare-requires-clause-shut : goal.write_spare-requires-clause-shut
write_spare-requires-clause-shut g c tells =
    let s = c.requires.stands in
    let is = at_index c.args.self.now.cells.items c.args.cell c.index_mut-held.result.now s.row c.requires.within c.index_mut-held.ensures.value in
    shut_under_way c.args.self.now.narrow _ c.args.self.now.cells.items c.args.self.now.change c.args.cell _ c.index_mut-held.result.now (s.under_way tells) c.requires.closed is

pub returns-in_err-write_spare-clause-after_no_memory : goal.returns-in_err-write_spare-clause-after_no_memory
returns-in_err-write_spare-clause-after_no_memory g c no_memory =
    let s = c.requires.stands in
    let cells = c.args.self.now.cells.items in
    let cell = c.index_mut-held.result.now in
    let is = at_index cells c.args.cell cell s.row c.requires.within c.index_mut-held.ensures.value in
    let fault = told_no_memory c.from_residual-in_err-write_spare.result c.in_err-write_spare.field-0.0 c.from_residual-in_err-write_spare.ensures.1 no_memory in
    stands_kept g.D.Disk.tells g.D.Disk.seen g.D.Disk.may_leave c.args.self.now _ s (ap (λ (m : Cell). set cells c.args.cell m) c.in_err-write_spare.ensures.same ∙ set_own cells c.args.cell cell is) refl refl
    (λ tells. c.write_spare.ensures.unchanged tells (c.in_err-write_spare.was ∙ ap (λ (e : DiskFault). Err e) fault))

pub returns-in_err-write_spare-clause-any_moment : goal.returns-in_err-write_spare-clause-any_moment
returns-in_err-write_spare-clause-any_moment g c tells = step_stands c.requires.stands tells c.args.cell c.index_mut-held.result.now c.requires.within c.index_mut-held.ensures.value (c.write_spare.ensures.any_moment tells)

pub returns-clause-any_moment : goal.returns-clause-any_moment
returns-clause-any_moment g c tells = step_stands c.requires.stands tells c.args.cell c.index_mut-held.result.now c.requires.within c.index_mut-held.ensures.value (c.write_spare.ensures.any_moment tells)

pub returns-clause-cells : goal.returns-clause-cells
returns-clause-cells g c =
    let s = c.requires.stands in
    let cell = c.index_mut-held.result.now in
    let is = at_index c.args.self.now.cells.items c.args.cell cell s.row c.requires.within c.index_mut-held.ensures.value in
    view_same c.args.self.now.cells.items c.args.cell cell c.write_spare.new.cell is c.in_ok-write_spare.ensures.written.same.held

pub returns-clause-stands : goal.returns-clause-stands
returns-clause-stands g c =
    let s = c.requires.stands in
    let cells = c.args.self.now.cells.items in
    let cell = c.index_mut-held.result.now in
    let cell' = c.write_spare.new.cell in
    let new = g.D.Disk.seen c.write_spare.new.disk in
    let is = at_index cells c.args.cell cell s.row c.requires.within c.index_mut-held.ensures.value in
    let within = within_row cells c.args.cell s.row c.requires.within in
    let view = view_same cells c.args.cell cell cell' is c.in_ok-write_spare.ensures.written.same.held in
    let copied : c.in_ok-staged.staged.items ≡ c.args.payload.now = grind (arith, common_steps) in
    record {
      row = rw view s.row;
      narrow = s.narrow ∙ ap narrow_in (sym view);
      head = subst (λ (v : List (Option (List ℕ))). IsPayload 512 (head_in v)) (sym view) s.head;
      agrees = subst (λ (v : List (Option (List ℕ))). FitsCell v c.args.cell c.in_ok-staged.staged.items × ((c.args.cell ≡ 0) → TellsSame c.in_ok-staged.staged.items v)) (sym view)
          (subst (λ (l : List ℕ). FitsCell (cells_of c.args.self.now) c.args.cell l) (sym copied) c.requires.fits, λ first. subst (λ (l : List ℕ). TellsSame l (cells_of c.args.self.now)) (sym copied) (c.requires.same_count first));
      on_disk = λ tells. disk_set c.args.self.now.narrow cells _ new c.args.cell (other cell.side) cell' (s.on_disk tells) (c.in_ok-write_spare.ensures.others tells) within (c.in_ok-write_spare.ensures.held tells);
      under_way = λ tells cell'' is''.
          let both : Some cell' ≡ Some cell'' = sym (get_set_same cells c.args.cell cell' within) ∙ is'' in
          let same : cell' ≡ cell'' = cc in
          let shut : cell'.spare_open ≡ false = c.in_ok-write_spare.ensures.written.same.spare ∙ shut_under_way c.args.self.now.narrow _ cells c.args.self.now.change c.args.cell _ cell (s.under_way tells) c.requires.closed is in
          let staged : HoldsTail c.args.self.now.narrow new c.args.cell cell' c.in_ok-staged.staged.items = subst (λ (l : List ℕ). HoldsTail c.args.self.now.narrow new c.args.cell cell' l) (sym copied) (c.in_ok-write_spare.ensures.staged tells) in
          subst (λ (m : Cell). (m.spare_open ≡ false) × (true ≡ true → HoldsTail c.args.self.now.narrow new c.args.cell m c.in_ok-staged.staged.items)) same (shut, λ _. staged);
      durable = λ tells. c.in_ok-write_spare.ensures.durable tells;
    }

pub returns-in_err-write_spare-clause-length : goal.returns-in_err-write_spare-clause-length
returns-in_err-write_spare-clause-length g c tells = step_length c.requires.stands tells c.args.cell c.index_mut-held.result.now c.requires.within c.index_mut-held.ensures.value (g.met.D.Disk.seen_may_stay c.args.self.now.disk tells) (c.write_spare.ensures.any_moment tells)

pub returns-clause-length : goal.returns-clause-length
returns-clause-length g c tells = step_length c.requires.stands tells c.args.cell c.index_mut-held.result.now c.requires.within c.index_mut-held.ensures.value (g.met.D.Disk.seen_may_stay c.args.self.now.disk tells) (c.write_spare.ensures.any_moment tells)
