use Rattle.std.proofs.Common.{◌∷◌, ◌++◌, [], refl, sym, subst, arith}
use Rattle.cas_record.specs.declared.tables.Tables.{Tables}
use Rattle.cas_record.specs.Kept.Tables.{IsTablesOf, HasRows}
use Rattle.cas_record.proofs.Kept.Tables.{acked_next}
use Rattle.cas_record.proofs.tables.Tables.note_acknowledgment.Goals as goal

pub returns-clause-tables : goal.returns-clause-tables
returns-clause-tables c =
    let marks = c.args.marks.now in
    let new : Tables = record { rows = c.note_key.new.rows; links = c.args.self.now.links; openings = c.args.self.now.openings; calls = c.args.self.now.calls; has_calls = c.args.self.now.has_calls; hints = c.keep_hint.new.hints } in
    subst (λ mark. IsTablesOf new (marks ++ mark ∷ [])) (sym c.requires.mark)
    (acked_next marks c.args.self.now new c.requires.tables c.args.acknowledgment.now (subst (λ mark. HasRows c.note_key.new.rows.items (marks ++ mark ∷ [])) c.requires.mark c.note_key.ensures.rows) refl refl refl refl)

pub returns-clause-room : goal.returns-clause-room
returns-clause-room c = λ n room. record {
  rows = c.note_key.ensures.room n room.rows;
  links = omega (arith, room.links);
  openings = omega (arith, room.openings);
  calls = omega (arith, room.calls);
}
