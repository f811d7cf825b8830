use Rattle.std.proofs.Common.{◌≡◌, ◌<◌, Some, Err, Option, false, true, map, length, sym, ◌∙◌, ap, subst, ℕ, List}
use Rattle.std.proofs.Math.ListN.{set}
use Rattle.cas_disk.specs.declared.disk.DiskFault.{DiskFault}
use Rattle.cas_disk.specs.declared.disk.DiskFault.TheVariants.{NoMemory as NoMemoryOfDisk}
use Rattle.cas_cells.specs.Format.{FitsCell, TellsSame, IsPayload, half_size, narrow_in, head_in}
use Rattle.cas_cells.specs.UnderWay.{change_held, staged_in}
use Rattle.cas_cells.specs.Held.{HoldsTail, OpensSpare, IsRow, payload_held, other}
use Rattle.cas_cells.specs.Cells.{staged_of, Agrees, ChangeIsUnderWay}
use Rattle.cas_cells.specs.declared.cell.Cell.{Cell}
use Rattle.cas_cells.specs.declared.change.Change.{Change}
use Rattle.cas_cells.specs.declared.fault.CellFault.TheVariants.{NoMemory}
use Rattle.cas_cells.proofs.Places.{payload_within}
use Rattle.cas_cells.proofs.Rows.{disk_set, get_set_same, map_set}
use Rattle.cas_cells.proofs.Using.{no_memory_of_disk, within_row, at_index, row_changed, narrow_changed, head_changed, view_same}
use Rattle.cas_cells.proofs.Stepping.{opening_stands, opening_length}
use Rattle.cas_cells.proofs.cells.Cells.open_spare.Goals as goal

pub open_spare-answer-requires-clause-held : goal.open_spare-answer-requires-clause-held
open_spare-answer-requires-clause-held g c tells =
    let s = c.requires.stands in
    let is = at_index c.args.self.now.cells.items c.args.cell c.index_mut-held.result.now s.row c.requires.within c.index_mut-held.ensures.value in
    s.on_disk tells c.args.cell c.index_mut-held.result.now is

pub open_spare-answer-requires-clause-shut : goal.open_spare-answer-requires-clause-shut
open_spare-answer-requires-clause-shut g c tells =
    let s = c.requires.stands in
    let cells = c.args.self.now.cells.items in
    let is = at_index cells c.args.cell c.index_mut-held.result.now s.row c.requires.within c.index_mut-held.ensures.value in
    let way = subst (λ (ch : Option Change). ChangeIsUnderWay c.args.self.now.narrow (g.D.Disk.seen c.args.self.now.disk) cells ch) c.take_staged-staged.ensures.taken (s.under_way tells) in
    (way c.index_mut-held.result.now is).0

pub open_spare-answer-requires-clause-staged : goal.open_spare-answer-requires-clause-staged
open_spare-answer-requires-clause-staged g c tells kept =
    let s = c.requires.stands in
    let cells = c.args.self.now.cells.items in
    let old = g.D.Disk.seen c.args.self.now.disk in
    let cell = c.index_mut-held.result.now in
    let is = at_index cells c.args.cell cell s.row c.requires.within c.index_mut-held.ensures.value in
    let way = subst (λ (ch : Option Change). ChangeIsUnderWay c.args.self.now.narrow old cells ch) c.take_staged-staged.ensures.taken (s.under_way tells) in
    subst (λ (l : List ℕ). HoldsTail c.args.self.now.narrow old c.args.cell cell l) (sym c.deref.ensures.value) ((way cell is).1 kept)

pub returns-in-Err-clause-cells : goal.returns-in-Err-clause-cells
returns-in-Err-clause-cells g c =
    let s = c.requires.stands in
    let cells = c.args.self.now.cells.items in
    let cell = c.index_mut-held.result.now in
    let is = at_index cells c.args.cell cell s.row c.requires.within c.index_mut-held.ensures.value in
    view_same cells c.args.cell cell c.open_spare-answer.new.cell is c.open_spare-answer.ensures.stays.held

pub returns-in-Err-clause-after_no_memory : goal.returns-in-Err-clause-after_no_memory
returns-in-Err-clause-after_no_memory g c no_memory =
    let s = c.requires.stands in
    let cells = c.args.self.now.cells.items in
    let old = g.D.Disk.seen c.args.self.now.disk in
    let new = g.D.Disk.seen c.open_spare-answer.new.disk in
    let cell = c.index_mut-held.result.now in
    let cell' = c.open_spare-answer.new.cell in
    let is = at_index cells c.args.cell cell s.row c.requires.within c.index_mut-held.ensures.value in
    let within = within_row cells c.args.cell s.row c.requires.within in
    let view = view_same cells c.args.cell cell cell' is c.open_spare-answer.ensures.stays.held in
    let told : c.from.result ≡ NoMemory = cc in
    let fault : c.in-Err.fault ≡ NoMemoryOfDisk = no_memory_of_disk c.in-Err.fault (sym c.from.ensures ∙ told) in
    let answer = c.in-Err.is ∙ ap (λ (e : DiskFault). Err e) fault in
    let agrees = subst (λ (ch : Option Change). Agrees (change_held ch) (map payload_held cells)) c.take_staged-staged.ensures.taken s.agrees in
    let payload = c.take_staged-staged.result.payload.items in
    record {
      row = subst IsRow (sym view) s.row;
      narrow = s.narrow ∙ ap narrow_in (sym view);
      head = subst (λ (v : List (Option (List ℕ))). IsPayload 512 (head_in v)) (sym view) s.head;
      agrees = subst (λ (v : List (Option (List ℕ))). FitsCell v c.args.cell payload × ((c.args.cell ≡ 0) → TellsSame payload v)) (sym view) agrees;
      on_disk = λ tells. let still = c.open_spare-answer.ensures.still tells answer in disk_set c.args.self.now.narrow cells old new c.args.cell (other cell.side) cell' (s.on_disk tells) still.others within still.held;
      under_way = λ tells cell'' is''.
          let both : Some cell' ≡ Some cell'' = sym (get_set_same cells c.args.cell cell' within) ∙ is'' in
          let same : cell' ≡ cell'' = cc in
          let way = subst (λ (ch : Option Change). ChangeIsUnderWay c.args.self.now.narrow old cells ch) c.take_staged-staged.ensures.taken (s.under_way tells) in
          let shut : cell'.spare_open ≡ false = c.open_spare-answer.ensures.stays.spare ∙ (way cell is).0 in
          let staged : (c.open_spare-answer.new.kept ≡ true) → HoldsTail c.args.self.now.narrow new c.args.cell cell' payload =
          λ (kept : c.open_spare-answer.new.kept ≡ true). subst (λ (l : List ℕ). HoldsTail c.args.self.now.narrow new c.args.cell cell' l) c.deref.ensures.value (c.open_spare-answer.ensures.staged tells answer kept) in
          subst (λ (m : Cell). (m.spare_open ≡ false) × (c.open_spare-answer.new.kept ≡ true → HoldsTail c.args.self.now.narrow new c.args.cell m payload)) same (shut, staged);
      durable = λ tells. (c.open_spare-answer.ensures.still tells answer).durable;
    }

pub returns-in-Err-clause-any_moment : goal.returns-in-Err-clause-any_moment
returns-in-Err-clause-any_moment g c tells =
    opening_stands c.requires.stands tells c.args.cell c.index_mut-held.result.now c.take_staged-staged.result c.deref.result.now c.requires.within c.index_mut-held.ensures.value c.take_staged-staged.ensures.taken c.deref.ensures.value (c.open_spare-answer.ensures.any_moment tells)

pub returns-clause-any_moment : goal.returns-clause-any_moment
returns-clause-any_moment g c tells =
    opening_stands c.requires.stands tells c.args.cell c.index_mut-held.result.now c.take_staged-staged.result c.deref.result.now c.requires.within c.index_mut-held.ensures.value c.take_staged-staged.ensures.taken c.deref.ensures.value (c.open_spare-answer.ensures.any_moment tells)

pub returns-clause-changed : goal.returns-clause-changed
returns-clause-changed g c =
    let cells = c.args.self.now.cells.items in
    let named : staged_of c.args.self.now ≡ c.take_staged-staged.result.payload.items = ap (λ (ch : Option Change). staged_in (change_held ch)) c.take_staged-staged.ensures.taken in
    map_set payload_held cells c.args.cell c.turn.new.cell
    ∙ ap (λ (o : Option (List ℕ)). set (map payload_held cells) c.args.cell o) (c.turn.ensures.held ∙ ap (λ (l : List ℕ). Some l) (sym named))

pub returns-clause-stands : goal.returns-clause-stands
returns-clause-stands g c =
    let s = c.requires.stands in
    let i = c.args.cell in
    let cells = c.args.self.now.cells.items in
    let view = map payload_held cells in
    let old = g.D.Disk.seen c.args.self.now.disk in
    let new = g.D.Disk.seen c.open_spare-answer.new.disk in
    let cell = c.index_mut-held.result.now in
    let p = c.take_staged-staged.result.payload.items in
    let is = at_index cells i cell s.row c.requires.within c.index_mut-held.ensures.value in
    let within : i < length cells = within_row cells i s.row c.requires.within in
    let cell1 = c.open_spare-answer.new.cell in
    let agrees = subst (λ (ch : Option Change). Agrees (change_held ch) view) c.take_staged-staged.ensures.taken s.agrees in
    let view_is : map payload_held (set cells i c.turn.new.cell) ≡ set view i (Some p) =
    map_set payload_held cells i c.turn.new.cell ∙ ap (λ (o : Option (List ℕ)). set view i o) c.turn.ensures.held in
    let opens : OpensSpare c.deref.result.now cell1 c.turn.new.cell = subst (λ (l : List ℕ). OpensSpare l cell1 c.turn.new.cell) (sym c.deref.ensures.value) c.turn.ensures in
    record {
      row = subst IsRow (sym view_is) (row_changed view i p s.row agrees.1);
      narrow = s.narrow ∙ sym (narrow_changed view i p s.row agrees.1) ∙ ap narrow_in (sym view_is);
      head = subst (λ (v : List (Option (List ℕ))). IsPayload 512 (head_in v)) (sym view_is) (head_changed c.args.self.now.narrow view i p s.row (subst (λ (n : ℕ). IsPayload (half_size n i) p) (sym s.narrow) agrees.0) s.head);
      agrees = subst (λ (ch : Option Change). Agrees (change_held ch) (map payload_held (set cells i c.turn.new.cell))) (sym c.take_staged-staged.ensures.gone) tt;
      on_disk = λ tells. disk_set c.args.self.now.narrow cells old new i (other cell.side) c.turn.new.cell (s.on_disk tells) (c.in_default.ensures.others tells) within (c.in_default.ensures.opened tells c.turn.new.cell opens);
      under_way = λ tells. subst (λ (ch : Option Change). ChangeIsUnderWay c.args.self.now.narrow new (set cells i c.turn.new.cell) ch) (sym c.take_staged-staged.ensures.gone) tt;
      durable = λ tells. c.in_default.ensures.durable tells;
    }

pub returns-in-Err-clause-length : goal.returns-in-Err-clause-length
returns-in-Err-clause-length g c tells = opening_length c.requires.stands tells c.args.cell c.index_mut-held.result.now c.deref.result.now c.requires.within c.index_mut-held.ensures.value (g.met.D.Disk.seen_may_stay c.args.self.now.disk tells) (c.open_spare-answer.ensures.any_moment tells)

pub returns-clause-length : goal.returns-clause-length
returns-clause-length g c tells = opening_length c.requires.stands tells c.args.cell c.index_mut-held.result.now c.deref.result.now c.requires.within c.index_mut-held.ensures.value (g.met.D.Disk.seen_may_stay c.args.self.now.disk tells) (c.open_spare-answer.ensures.any_moment tells)

pub open_spare-answer-requires-clause-fits : goal.open_spare-answer-requires-clause-fits
open_spare-answer-requires-clause-fits g c =
    let s = c.requires.stands in
    let agrees = subst (λ (ch : Option Change). Agrees (change_held ch) (map payload_held c.args.self.now.cells.items)) c.take_staged-staged.ensures.taken s.agrees in
    subst (λ (l : List ℕ). IsPayload (half_size c.args.self.now.narrow c.args.cell) l) (sym c.deref.ensures.value) (subst (λ (n : ℕ). IsPayload (half_size n c.args.cell) c.take_staged-staged.result.payload.items) (sym s.narrow) agrees.0)

pub turn-requires : goal.turn-requires
turn-requires g c =
    let s = c.requires.stands in
    let agrees = subst (λ (ch : Option Change). Agrees (change_held ch) (map payload_held c.args.self.now.cells.items)) c.take_staged-staged.ensures.taken s.agrees in
    payload_within _ c.args.cell c.take_staged-staged.result.payload.items agrees.0
