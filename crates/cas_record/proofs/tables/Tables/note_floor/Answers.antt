use Rattle.std.proofs.Common.{◌≡◌, ◌∷◌, ◌++◌, [], Some, reverse, refl, sym, subst, arith}
use Rattle.cas_record.specs.Kept.Index.{home_of}
use Rattle.cas_record.specs.declared.tables.Tables.{Tables}
use Rattle.cas_record.specs.Kept.Tables.{IsTablesOf, HasRows}
use Rattle.cas_record.proofs.Kept.Tables.{opening_next, floor_next}
use Rattle.cas_record.proofs.tables.Tables.note_floor.Goals as goal

pub returns-then-not-self-clause-tables : goal.returns-then-not-self-clause-tables
returns-then-not-self-clause-tables c =
    let marks = c.args.marks.now in
    let new : Tables = record { rows = c.note_key-home.new.rows; links = c.args.self.now.links; openings = c.keep_first.new.map; calls = c.args.self.now.calls; has_calls = c.args.self.now.has_calls; hints = c.keep_hint.new.hints } in
    let mark_is = c.requires.mark.1 in
    subst (λ mark. IsTablesOf new (marks ++ mark ∷ [])) (sym mark_is)
    (opening_next marks c.args.self.now new c.requires.tables c.args.key.now c.args.ballot c.requires.mark.0
    (subst (λ mark. HasRows c.note_key-home.new.rows.items (marks ++ mark ∷ [])) mark_is c.note_key-home.ensures.rows) refl refl refl
    c.note_key-home.result (subst (λ mark. home_of c.args.key.now (mark ∷ reverse marks) ≡ Some c.note_key-home.result) mark_is c.note_key-home.ensures.home)
    c.if-not-self.true c.keep_first.ensures.kept)

pub returns-then-not-self-clause-room : goal.returns-then-not-self-clause-room
returns-then-not-self-clause-room c = λ n room. record {
  rows = c.note_key-home.ensures.room n room.rows;
  links = omega (arith, room.links);
  openings = omega (arith, room.openings, c.keep_first.ensures.room);
  calls = omega (arith, room.calls);
}

pub returns-else-not-self-clause-tables : goal.returns-else-not-self-clause-tables
returns-else-not-self-clause-tables c =
    let marks = c.args.marks.now in
    let new : Tables = record { rows = c.note_key-home.new.rows; links = c.args.self.now.links; openings = c.args.self.now.openings; calls = c.args.self.now.calls; has_calls = c.args.self.now.has_calls; hints = c.keep_hint.new.hints } in
    let mark_is = c.requires.mark.1 in
    subst (λ mark. IsTablesOf new (marks ++ mark ∷ [])) (sym mark_is)
    (floor_next marks c.args.self.now new c.requires.tables c.args.key.now c.args.ballot c.requires.mark.0
    (subst (λ mark. HasRows c.note_key-home.new.rows.items (marks ++ mark ∷ [])) mark_is c.note_key-home.ensures.rows) refl refl refl
    c.if-not-self.false refl)

pub returns-else-not-self-clause-room : goal.returns-else-not-self-clause-room
returns-else-not-self-clause-room c = λ n room. record {
  rows = c.note_key-home.ensures.room n room.rows;
  links = omega (arith, room.links);
  openings = omega (arith, room.openings);
  calls = omega (arith, room.calls);
}
