use Rattle.std.proofs.Common.{◌≡◌, ◌∷◌, ◌++◌, [], Some, None, reverse, refl, sym, ap, subst, arith, ◌∙◌}
use Rattle.std.specs.Prelude.{if◌then◌else◌}
use Rattle.std.specs.Option.{option_or}
use Rattle.indexmap.specs.IndexMap.{get}
use Rattle.cas_base.proofs.Bools.{not_both}
use Rattle.cas_record.specs.declared.row.Link.{Link}
use Rattle.cas_record.specs.declared.tables.Tables.{Tables}
use Rattle.cas_record.specs.Kept.Index.{home_of}
use Rattle.cas_record.specs.Kept.Tables.{IsTablesOf, IsSearched, HasRows, same_spot}
use Rattle.cas_record.proofs.Tests.{ballot_same, ballot_is}
use Rattle.cas_record.proofs.Kept.Tables.{proposed_next, zero_next}
use Rattle.cas_record.proofs.tables.Tables.note_proposal.Goals as goal

pub link_by-link-requires-clause-row : goal.link_by-link-requires-clause-row
link_by-link-requires-clause-row c =
    let key = c.args.proposal.now.key in
    let marks = c.args.marks.now in
    c.row_at.ensures key marks (subst (λ rows. IsSearched key rows marks c.search-found.result) (c.deref.ensures.value ∙ sym c.deref-3.ensures.value) c.search-found.ensures)

pub returns-then-not-is_ballot-clause-tables : goal.returns-then-not-is_ballot-clause-tables
returns-then-not-is_ballot-clause-tables c =
    let marks = c.args.marks.now in
    let mark_is = c.requires.mark in
    let new : Tables = record { rows = c.note_key-home.new.rows; links = c.keep_first.new.map; openings = c.args.self.now.openings; calls = c.args.self.now.calls; has_calls = c.args.self.now.has_calls; hints = c.keep_hint.new.hints } in
    subst (λ mark. IsTablesOf new (marks ++ mark ∷ [])) (sym mark_is)
    (proposed_next marks c.args.self.now new c.requires.tables c.args.proposal.now
    (subst (λ mark. HasRows c.note_key-home.new.rows.items (marks ++ mark ∷ [])) mark_is c.note_key-home.ensures.rows) refl refl refl
    c.note_key-home.result (subst (λ mark. home_of c.args.proposal.now.key (mark ∷ reverse marks) ≡ Some c.note_key-home.result) mark_is c.note_key-home.ensures.home)
    (λ zero. not_both _ (ballot_is zero) (sym c.is_ballot.ensures ∙ c.if-not-is_ballot.true))
    (λ q. c.keep_first.ensures.kept q ∙ ap (λ (link : Link). option_or (get same_spot c.args.self.now.links q) (if same_spot (c.note_key-home.result, c.args.proposal.now.ballot) q then Some link else None)) c.link_by-link.ensures))

pub returns-then-not-is_ballot-clause-room : goal.returns-then-not-is_ballot-clause-room
returns-then-not-is_ballot-clause-room c = λ n room. record {
  rows = c.note_key-home.ensures.room n room.rows;
  links = omega (arith, room.links, c.keep_first.ensures.room);
  openings = omega (arith, room.openings);
  calls = omega (arith, room.calls);
}

pub returns-else-not-is_ballot-clause-tables : goal.returns-else-not-is_ballot-clause-tables
returns-else-not-is_ballot-clause-tables c =
    let marks = c.args.marks.now in
    let mark_is = c.requires.mark in
    let new : Tables = record { rows = c.note_key-home.new.rows; links = c.args.self.now.links; openings = c.args.self.now.openings; calls = c.args.self.now.calls; has_calls = c.args.self.now.has_calls; hints = c.keep_hint.new.hints } in
    subst (λ mark. IsTablesOf new (marks ++ mark ∷ [])) (sym mark_is)
    (zero_next marks c.args.self.now new c.requires.tables c.args.proposal.now
    (subst (λ mark. HasRows c.note_key-home.new.rows.items (marks ++ mark ∷ [])) mark_is c.note_key-home.ensures.rows) refl refl refl
    (ballot_same (sym c.is_ballot.ensures ∙ c.if-not-is_ballot.false)) refl)

pub returns-else-not-is_ballot-clause-room : goal.returns-else-not-is_ballot-clause-room
returns-else-not-is_ballot-clause-room c = λ n room. record {
  rows = c.note_key-home.ensures.room n room.rows;
  links = omega (arith, room.links);
  openings = omega (arith, room.openings);
  calls = omega (arith, room.calls);
}
