use Rattle.std.proofs.Common.{◌≡◌, Some, Err, Option, List, ℕ, false, refl, sym, ◌∙◌, ap, subst}
use Rattle.cas_cells.specs.Format.{narrow_in, head_in, IsPayload}
use Rattle.cas_cells.specs.Held.{other}
use Rattle.std.proofs.Math.ListN.{set}
use Rattle.cas_disk.specs.declared.disk.DiskFault.{DiskFault}
use Rattle.cas_cells.specs.declared.cell.Cell.{Cell}
use Rattle.cas_cells.proofs.Rows.{disk_set, get_set_same}
use Rattle.cas_cells.proofs.Using.{told_no_memory, within_row, at_index, set_own, view_same, stands_kept}
use Rattle.cas_cells.proofs.Stepping.{step_stands, step_length}
use Rattle.cas_cells.proofs.cells.Cells.close_spare.Goals as goal

pub shut_spare-requires-clause-held : goal.shut_spare-requires-clause-held
shut_spare-requires-clause-held g c tells =
    let s = c.requires.stands in
    let is = at_index c.args.self.now.cells.items c.args.cell c.index_mut-held.result.now s.row c.requires.within c.index_mut-held.ensures.value in
    s.on_disk tells c.args.cell c.index_mut-held.result.now is

pub returns-in_err-shut_spare-clause-any_moment : goal.returns-in_err-shut_spare-clause-any_moment
returns-in_err-shut_spare-clause-any_moment g c tells = step_stands c.requires.stands tells c.args.cell c.index_mut-held.result.now c.requires.within c.index_mut-held.ensures.value (c.shut_spare.ensures.any_moment tells)

pub returns-clause-any_moment : goal.returns-clause-any_moment
returns-clause-any_moment g c tells = step_stands c.requires.stands tells c.args.cell c.index_mut-held.result.now c.requires.within c.index_mut-held.ensures.value (c.shut_spare.ensures.any_moment tells)

pub returns-clause-cells : goal.returns-clause-cells
returns-clause-cells g c =
    let s = c.requires.stands in
    let cell = c.index_mut-held.result.now in
    let is = at_index c.args.self.now.cells.items c.args.cell cell s.row c.requires.within c.index_mut-held.ensures.value in
    view_same c.args.self.now.cells.items c.args.cell cell c.shut_spare.new.cell is c.in_ok-shut_spare.ensures.shut.held

pub returns-in_err-shut_spare-clause-after_no_memory : goal.returns-in_err-shut_spare-clause-after_no_memory
returns-in_err-shut_spare-clause-after_no_memory g c no_memory =
    let s = c.requires.stands in
    let cells = c.args.self.now.cells.items in
    let cell = c.index_mut-held.result.now in
    let is = at_index cells c.args.cell cell s.row c.requires.within c.index_mut-held.ensures.value in
    let fault = told_no_memory c.from_residual.result c.in_err-shut_spare.field-0.0 c.from_residual.ensures.1 no_memory in
    stands_kept g.D.Disk.tells g.D.Disk.seen g.D.Disk.may_leave c.args.self.now _ s (ap (λ (m : Cell). set cells c.args.cell m) c.in_err-shut_spare.ensures.same ∙ set_own cells c.args.cell cell is) refl refl
    (λ tells. c.shut_spare.ensures.unchanged tells (c.in_err-shut_spare.was ∙ ap (λ (e : DiskFault). Err e) fault))

pub returns-clause-stands : goal.returns-clause-stands
returns-clause-stands g c =
    let s = c.requires.stands in
    let cells = c.args.self.now.cells.items in
    let cell = c.index_mut-held.result.now in
    let cell' = c.shut_spare.new.cell in
    let new = g.D.Disk.seen c.shut_spare.new.disk in
    let is = at_index cells c.args.cell cell s.row c.requires.within c.index_mut-held.ensures.value in
    record {
      row = rw (view_same cells c.args.cell cell cell' is c.in_ok-shut_spare.ensures.shut.held) s.row;
      narrow = s.narrow ∙ ap narrow_in (sym (view_same cells c.args.cell cell cell' is c.in_ok-shut_spare.ensures.shut.held));
      head = subst (λ (v : List (Option (List ℕ))). IsPayload 512 (head_in v)) (sym (view_same cells c.args.cell cell cell' is c.in_ok-shut_spare.ensures.shut.held)) s.head;
      agrees = tt;
      on_disk = λ tells. disk_set c.args.self.now.narrow cells _ new c.args.cell (other cell.side) cell' (s.on_disk tells) (c.in_ok-shut_spare.ensures.others tells) (within_row cells c.args.cell s.row c.requires.within) (c.in_ok-shut_spare.ensures.held tells);
      under_way = λ tells cell'' is''.
          let both : Some cell' ≡ Some cell'' = sym (get_set_same cells c.args.cell cell' (within_row cells c.args.cell s.row c.requires.within)) ∙ is'' in
          let same : cell' ≡ cell'' = cc in (subst (λ (m : Cell). m.spare_open ≡ false) same c.in_ok-shut_spare.ensures.shut.spare, tt);
      durable = λ tells. c.in_ok-shut_spare.ensures.durable tells;
    }

pub returns-in_err-shut_spare-clause-length : goal.returns-in_err-shut_spare-clause-length
returns-in_err-shut_spare-clause-length g c tells = step_length c.requires.stands tells c.args.cell c.index_mut-held.result.now c.requires.within c.index_mut-held.ensures.value (g.met.D.Disk.seen_may_stay c.args.self.now.disk tells) (c.shut_spare.ensures.any_moment tells)

pub returns-clause-length : goal.returns-clause-length
returns-clause-length g c tells = step_length c.requires.stands tells c.args.cell c.index_mut-held.result.now c.requires.within c.index_mut-held.ensures.value (g.met.D.Disk.seen_may_stay c.args.self.now.disk tells) (c.shut_spare.ensures.any_moment tells)
