use Rattle.std.proofs.Common.{map, sym, subst, ℕ, List}
use Rattle.cas_cells.specs.Held.{OnDisk, payload_held}
use Rattle.cas_cells.proofs.Rows.{all_sound, stands}
use Rattle.cas_cells.proofs.cells.Cells.recover.Goals as goal

pub returns-clause-recovered : goal.returns-clause-recovered
returns-clause-recovered g c tells =
    let seen = g.D.Disk.seen c.args.self.now.disk in
    let cells = c.in_ok-narrow.cells.items in
    stands c.in_ok-narrow.narrow seen (map payload_held cells) (all_sound c.in_ok-narrow.narrow seen cells (c.in_ok-narrow.ensures.held tells)) c.in_ok-narrow.ensures.row c.in_ok-narrow.ensures.narrow

pub returns-clause-stands : goal.returns-clause-stands
returns-clause-stands g c = record {
  row = c.in_ok-narrow.ensures.row;
  narrow = c.in_ok-narrow.ensures.narrow;
  head = c.in_ok-narrow.ensures.head;
  agrees = tt;
  on_disk = λ tells. subst (λ (d : List ℕ). OnDisk c.in_ok-narrow.narrow d c.in_ok-narrow.cells.items) (sym (c.read_row.ensures.read tells).content) (c.in_ok-narrow.ensures.held tells);
  under_way = λ tells. tt;
  durable = λ tells. (c.read_row.ensures.read tells).durable;
}
