use Rattle.std.proofs.Common.{◌≡◌, inl, ◌+◌, ◌*◌, ◌<◌, ◌≤◌, ◌++◌, ◌∷◌, [], Some, None, Err, Option, map, length, refl, sym, ◌∙◌, ap, subst, arith, ℕ, List}
use Rattle.std.proofs.Math.ListN.{set, length-set}
use Rattle.std.proofs.lemmas.List.{map-append}
use Rattle.cas_disk.specs.declared.disk.DiskFault.{DiskFault}
use Rattle.cas_cells.specs.Format.{frame_at, cell_place, half_size, IsPayload, narrow_in, wide_in, head_in, with_count, grown, IsBeforeOrAfter}
use Rattle.cas_cells.specs.UnderWay.{change_held}
use Rattle.cas_cells.specs.Held.{IsShut, IsRow, OnDisk, CellHeld, payload_held, frame_of, other}
use Rattle.cas_cells.specs.Cells.{cells_of, Agrees, ChangeIsUnderWay}
use Rattle.cas_cells.specs.declared.cell.Cell.{Cell}
use Rattle.cas_cells.proofs.Counting.{number_behind}
use Rattle.cas_cells.proofs.Places.{first_size}
use Rattle.cas_cells.proofs.Rows.{disk_set, map_set, frame_of_apart}
use Rattle.cas_cells.proofs.Lengths.{within_more}
use Rattle.cas_cells.proofs.Using.{told_no_memory, view_same, stands_kept, blank_stands}
use Rattle.cas_cells.proofs.Growing.{room_behind, on_below, disk_push, grown_is, grown_row, grown_narrow, grown_head, blank_behind, frame_below, still_under_way}
use Rattle.cas_cells.proofs.Stepping.{row_end, reads, rests, blanking_stands, growth_stands, growth_length}
use Rattle.cas_cells.proofs.cells.Cells.grow.Goals as goal

pub returns-in_err-head-clause-any_moment : goal.returns-in_err-head-clause-any_moment
returns-in_err-head-clause-any_moment g c tells = rests c.requires.stands tells (IsBeforeOrAfter (cells_of c.args.self.now) (grown (cells_of c.args.self.now))) (λ now. inl now) (λ image left. g.met.D.Disk.only_now c.args.self.now.disk image tells left)

pub returns-in_err-reserve-clause-any_moment : goal.returns-in_err-reserve-clause-any_moment
returns-in_err-reserve-clause-any_moment g c tells = rests c.requires.stands tells (IsBeforeOrAfter (cells_of c.args.self.now) (grown (cells_of c.args.self.now))) (λ now. inl now) (λ image left. g.met.D.Disk.only_now c.args.self.now.disk image tells left)

pub returns-in_err-reserve-clause-after_no_memory : goal.returns-in_err-reserve-clause-after_no_memory
returns-in_err-reserve-clause-after_no_memory g c no_memory =
    stands_kept g.D.Disk.tells g.D.Disk.seen g.D.Disk.may_leave c.args.self.now _ c.requires.stands c.reserve.ensures.items refl refl
    (λ tells. record { content = refl; outcomes = λ image left. left })

pub write_blank-requires : goal.write_blank-requires
write_blank-requires g c = record {
  room = λ tells.
      let s = c.requires.stands in
      let cells = c.args.self.now.cells.items in
      let old = g.D.Disk.seen c.args.self.now.disk in
      subst (λ (n : ℕ). cell_place c.args.self.now.narrow (n + 1) ≤ length old) (sym c.count-behind.ensures) (room_behind c.args.self.now.narrow old cells (s.on_disk tells) s.row);
}

pub change_cell-requires-clause-fits : goal.change_cell-requires-clause-fits
change_cell-requires-clause-fits g c = subst (λ (n : ℕ). IsPayload n c.in_ok-head.head.items) (sym (first_size c.args.self.now.narrow)) c.in_ok-head.ensures.fits

pub returns-in_err-write_blank-clause-after_no_memory : goal.returns-in_err-write_blank-clause-after_no_memory
returns-in_err-write_blank-clause-after_no_memory g c no_memory =
    let fault = told_no_memory c.from_residual-in_err-write_blank.result c.in_err-write_blank.field-0.0 c.from_residual-in_err-write_blank.ensures.1 no_memory in
    stands_kept g.D.Disk.tells g.D.Disk.seen g.D.Disk.may_leave c.args.self.now _ c.requires.stands c.reserve.ensures.items refl refl
    (λ tells. c.write_blank.ensures.unchanged tells (c.in_err-write_blank.was ∙ ap (λ (e : DiskFault). Err e) fault))

pub returns-in_err-write_blank-clause-any_moment : goal.returns-in_err-write_blank-clause-any_moment
returns-in_err-write_blank-clause-any_moment g c tells =
    let s = c.requires.stands in
    let behind : c.count-behind.result + 1 ≡ length c.args.self.now.cells.items = omega (arith, c.count-behind.ensures, number_behind c.args.self.now.cells.items c.requires.stands.row) in
    blanking_stands s tells c.count-behind.result behind (c.write_blank.ensures.any_moment tells (s.durable tells))

pub change_cell-requires-clause-held : goal.change_cell-requires-clause-held
change_cell-requires-clause-held g c tells =
    let read = reads c.requires.stands.row c.count-behind.ensures c.wide_count.ensures.count c.in_ok-head.ensures.head c.reserve.ensures.items c.index_mut-first.ensures.value in
    on_below c.args.self.now.narrow c.args.self.now.cells.items _ _ (c.count-behind.result + 1) (omega (arith, read.behind)) (c.requires.stands.on_disk tells) (c.in_ok-write_blank.ensures.below tells) 0 c.index_mut-first.result.now read.first

pub returns-in_err-change_cell-clause-after_no_memory : goal.returns-in_err-change_cell-clause-after_no_memory
returns-in_err-change_cell-clause-after_no_memory g c no_memory =
    let s = c.requires.stands in
    let cells = c.args.self.now.cells.items in
    let view = map payload_held cells in
    let old = g.D.Disk.seen c.args.self.now.disk in
    let read = reads c.requires.stands.row c.count-behind.ensures c.wide_count.ensures.count c.in_ok-head.ensures.head c.reserve.ensures.items c.index_mut-first.ensures.value in
    let mid = g.D.Disk.seen c.write_blank.new.disk in
    let cell = c.index_mut-first.result.now in
    let new = g.D.Disk.seen c.change_cell.new.disk in
    let m1 = c.change_cell.new.cell in
    let fault = told_no_memory c.from_residual-in_err-change_cell.result c.in_err-change_cell.field-0.0 c.from_residual-in_err-change_cell.ensures.1 no_memory in
    let answer = c.in_err-change_cell.was ∙ ap (λ (e : DiskFault). Err e) fault in
    let items = sym c.reserve.ensures.items in
    let view_is = view_same cells 0 cell m1 read.first c.in_err-change_cell.ensures.same in
    let within : 0 < length cells = omega (arith, read.behind) in
    record {
      row = subst (λ (l : List Cell). IsRow (map payload_held (set l 0 m1))) items (subst IsRow (sym view_is) s.row);
      narrow = s.narrow ∙ ap narrow_in (sym view_is) ∙ ap (λ (l : List Cell). narrow_in (map payload_held (set l 0 m1))) items;
      head = subst (λ (l : List Cell). IsPayload 512 (head_in (map payload_held (set l 0 m1)))) items (subst (λ (v : List (Option (List ℕ))). IsPayload 512 (head_in v)) (sym view_is) s.head);
      agrees = subst (λ (l : List Cell). Agrees (change_held c.write_over.new.change) (map payload_held (set l 0 m1))) items
          (subst (λ (v : List (Option (List ℕ))). Agrees (change_held c.write_over.new.change) v) (sym view_is)
          (subst (λ (h : Option (ℕ × Option (List ℕ))). Agrees h view) (sym c.write_over.ensures.held) s.agrees));
      on_disk = λ tells.
          let still = c.change_cell.ensures.still tells answer in
          let on_mid = on_below c.args.self.now.narrow cells old mid (c.count-behind.result + 1) (omega (arith, read.behind)) (s.on_disk tells) (c.in_ok-write_blank.ensures.below tells) in
          subst (λ (l : List Cell). OnDisk c.args.self.now.narrow new (set l 0 m1)) items (disk_set c.args.self.now.narrow cells mid new 0 (other cell.side) m1 on_mid still.others within still.held);
      under_way = λ tells.
          let still = c.change_cell.ensures.still tells answer in
          subst (λ (l : List Cell). ChangeIsUnderWay c.args.self.now.narrow new (set l 0 m1) c.write_over.new.change) items
          (still_under_way c.args.self.now.narrow old new cells cell m1 c.args.self.now.change c.write_over.new.change (s.under_way tells) c.write_over.ensures.over c.write_over.ensures.others c.write_over.ensures.held read.first c.in_err-change_cell.ensures.shut
          (λ j side less apart. still.others (frame_of j side) (frame_of_apart 0 j (other cell.side) side apart) ∙ c.in_ok-write_blank.ensures.below tells (frame_of j side) (frame_below j (c.count-behind.result + 1) side (omega (arith, less, read.behind)))));
      durable = λ tells. (c.change_cell.ensures.still tells answer).durable;
    }

pub returns-in_err-change_cell-clause-any_moment : goal.returns-in_err-change_cell-clause-any_moment
returns-in_err-change_cell-clause-any_moment g c tells =
    let s = c.requires.stands in
    let read = reads c.requires.stands.row c.count-behind.ensures c.wide_count.ensures.count c.in_ok-head.ensures.head c.reserve.ensures.items c.index_mut-first.ensures.value in
    growth_stands s tells read (c.change_cell.ensures.any_moment tells) (c.in_ok-write_blank.ensures.below tells) c.requires.head c.requires.room (c.in_ok-write_blank.ensures.blank tells) (c.write_blank.ensures.any_moment tells (s.durable tells))

pub returns-clause-any_moment : goal.returns-clause-any_moment
returns-clause-any_moment g c tells =
    let s = c.requires.stands in
    let read = reads c.requires.stands.row c.count-behind.ensures c.wide_count.ensures.count c.in_ok-head.ensures.head c.reserve.ensures.items c.index_mut-first.ensures.value in
    growth_stands s tells read (c.change_cell.ensures.any_moment tells) (c.in_ok-write_blank.ensures.below tells) c.requires.head c.requires.room (c.in_ok-write_blank.ensures.blank tells) (c.write_blank.ensures.any_moment tells (s.durable tells))

-- what the cells show with another head and a blank cell behind them
grown_with : (cells : List Cell) (first blank : Cell) → IsRow (map payload_held cells) → payload_held first ≡ Some (with_count (head_in (map payload_held cells)) (wide_in (map payload_held cells) + 1)) → payload_held blank ≡ None → map payload_held (set cells 0 first ++ blank ∷ []) ≡ grown (map payload_held cells)
grown_with cells first blank row changed none =
    let view = map payload_held cells in
    map-append payload_held (set cells 0 first) (blank ∷ [])
    ∙ ap (λ (v : List (Option (List ℕ))). v ++ payload_held blank ∷ []) (map_set payload_held cells 0 first ∙ ap (λ (o : Option (List ℕ)). set view 0 o) changed)
    ∙ ap (λ (o : Option (List ℕ)). set view 0 (Some (with_count (head_in view) (wide_in view + 1))) ++ o ∷ []) none
    ∙ sym (grown_is view row)

pub returns-clause-grown : goal.returns-clause-grown
returns-clause-grown g c =
    let cells = c.args.self.now.cells.items in
    let read = reads c.requires.stands.row c.count-behind.ensures c.wide_count.ensures.count c.in_ok-head.ensures.head c.reserve.ensures.items c.index_mut-first.ensures.value in
    let pushed = c.push_blank.ensures in
    ap (λ (l : List Cell). map payload_held l) (pushed.1 ∙ ap (λ (l : List Cell). set l 0 c.change_cell.new.cell ++ pushed.0 ∷ []) c.reserve.ensures.items)
    ∙ grown_with cells c.change_cell.new.cell pushed.0 c.requires.stands.row (c.in_ok-change_cell.ensures.changed ∙ ap (λ (l : List ℕ). Some l) read.told) pushed.3

pub returns-clause-stands : goal.returns-clause-stands
returns-clause-stands g c =
    let s = c.requires.stands in
    let cells = c.args.self.now.cells.items in
    let view = map payload_held cells in
    let old = g.D.Disk.seen c.args.self.now.disk in
    let read = reads c.requires.stands.row c.count-behind.ensures c.wide_count.ensures.count c.in_ok-head.ensures.head c.reserve.ensures.items c.index_mut-first.ensures.value in
    let mid = g.D.Disk.seen c.write_blank.new.disk in
    let cell = c.index_mut-first.result.now in
    let head = with_count (head_in view) (wide_in view + 1) in
    let new = g.D.Disk.seen c.change_cell.new.disk in
    let m1 = c.change_cell.new.cell in
    let items = c.reserve.ensures.items in
    let pushed = c.push_blank.ensures in
    let blank = pushed.0 in
    let within : 0 < length cells = omega (arith, read.behind) in
    let changed : payload_held m1 ≡ Some head = c.in_ok-change_cell.ensures.changed ∙ ap (λ (l : List ℕ). Some l) read.told in
    let cells_is : c.push_blank.new.cells.items ≡ set cells 0 m1 ++ blank ∷ [] = pushed.1 ∙ ap (λ (l : List Cell). set l 0 m1 ++ blank ∷ []) items in
    let view_is : map payload_held (set cells 0 m1 ++ blank ∷ []) ≡ grown view = grown_with cells m1 blank s.row changed pushed.3 in
    record {
      row = subst (λ (l : List Cell). IsRow (map payload_held l)) (sym cells_is) (subst IsRow (sym view_is) (grown_row view s.row c.requires.head c.requires.room));
      narrow = s.narrow ∙ sym (grown_narrow view c.requires.head c.requires.room) ∙ ap narrow_in (sym view_is) ∙ ap (λ (l : List Cell). narrow_in (map payload_held l)) (sym cells_is);
      head = subst (λ (l : List Cell). IsPayload 512 (head_in (map payload_held l))) (sym cells_is) (subst (λ (v : List (Option (List ℕ))). IsPayload 512 (head_in v)) (sym view_is) (grown_head view s.row c.requires.head s.head));
      agrees = tt;
      on_disk = λ tells.
          let on_mid = on_below c.args.self.now.narrow cells old mid (c.count-behind.result + 1) (omega (arith, read.behind)) (s.on_disk tells) (c.in_ok-write_blank.ensures.below tells) in
          let blanks = subst (λ (n : ℕ). IsShut (half_size c.args.self.now.narrow n) (frame_at c.args.self.now.narrow mid (2 * n)) × IsShut (half_size c.args.self.now.narrow n) (frame_at c.args.self.now.narrow mid (2 * n + 1))) read.behind (c.in_ok-write_blank.ensures.blank tells) in
          let others = c.in_ok-change_cell.ensures.others tells in
          let still_blank = blank_behind c.args.self.now.narrow cells mid new (other cell.side) within others blanks in
          let held_blank = blank_stands c.args.self.now.narrow new (length cells) blank pushed.2 pushed.3 still_blank.0 still_blank.1 in
          subst (λ (l : List Cell). OnDisk c.args.self.now.narrow new l) (sym cells_is)
          (disk_push c.args.self.now.narrow (set cells 0 m1) new blank (disk_set c.args.self.now.narrow cells mid new 0 (other cell.side) m1 on_mid others within (c.in_ok-change_cell.ensures.held tells))
          (subst (λ (n : ℕ). CellHeld c.args.self.now.narrow new n blank) (sym (length-set cells 0 m1)) held_blank));
      under_way = λ tells. tt;
      durable = λ tells. c.in_ok-change_cell.ensures.durable tells;
    }

pub returns-in_err-change_cell-clause-length : goal.returns-in_err-change_cell-clause-length
returns-in_err-change_cell-clause-length g c tells =
    let mid = c.write_blank.new.disk in
    let read = reads c.requires.stands.row c.count-behind.ensures c.wide_count.ensures.count c.in_ok-head.ensures.head c.reserve.ensures.items c.index_mut-first.ensures.value in
    growth_length c.requires.stands tells read (c.change_cell.ensures.any_moment tells) (c.in_ok-write_blank.ensures.below tells) (λ image later left. g.met.D.Disk.counts_now mid (g.D.Disk.moment c.args.self.now.disk) image tells later left)
    (g.met.D.Disk.seen_may_stay mid tells) (c.write_blank.ensures.length tells)

pub returns-clause-length : goal.returns-clause-length
returns-clause-length g c tells =
    let mid = c.write_blank.new.disk in
    let read = reads c.requires.stands.row c.count-behind.ensures c.wide_count.ensures.count c.in_ok-head.ensures.head c.reserve.ensures.items c.index_mut-first.ensures.value in
    growth_length c.requires.stands tells read (c.change_cell.ensures.any_moment tells) (c.in_ok-write_blank.ensures.below tells) (λ image later left. g.met.D.Disk.counts_now mid (g.D.Disk.moment c.args.self.now.disk) image tells later left)
    (g.met.D.Disk.seen_may_stay mid tells) (c.write_blank.ensures.length tells)

pub returns-in_err-write_blank-clause-length : goal.returns-in_err-write_blank-clause-length
returns-in_err-write_blank-clause-length g c tells =
    let s = c.requires.stands in
    within_more g.D.Disk.moment g.D.Disk.left_since g.D.Disk.may_leave c.args.self.now.disk c.write_blank.new.disk _ _ (omega (arith, row_end c.args.self.now.narrow c.count-behind.result (cells_of c.args.self.now) s.narrow c.count-behind.ensures)) (c.write_blank.ensures.length tells)
