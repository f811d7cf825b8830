use Rattle.std.proofs.Common.{◌∷◌, ◌++◌, [], true, refl, sym, subst}
use Rattle.cas_record.specs.declared.tables.Tables.{Tables}
use Rattle.cas_record.specs.Kept.Tables.{IsTablesOf}
use Rattle.cas_record.proofs.Kept.Tables.{begun_next}
use Rattle.cas_record.proofs.tables.Tables.note_call.Goals as goal

pub returns-clause-tables : goal.returns-clause-tables
returns-clause-tables c =
    let marks = c.args.marks.now in
    let new : Tables = record { rows = c.args.self.now.rows; links = c.args.self.now.links; openings = c.args.self.now.openings; calls = c.keep_first.new.map; has_calls = true; hints = c.args.self.now.hints } in
    subst (λ mark. IsTablesOf new (marks ++ mark ∷ [])) (sym c.requires.mark.1.1)
    (begun_next marks c.args.self.now new c.requires.tables c.args.caller c.args.call c.requires.mark.0 c.requires.mark.1.0 refl refl refl c.keep_first.ensures.kept refl)
