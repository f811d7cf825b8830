use Rattle.std.proofs.Common.{◌≡◌, ◌∷◌, ◌++◌, [], get_or-set_same, rules, reverse, Some, sym, ap, subst, ◌∙◌}
use Rattle.std.specs.List.{insert}
use Rattle.std.proofs.lemmas.List.{length-reverse}
use Rattle.cas_record.specs.declared.row.Row.{Row}
use Rattle.cas_record.specs.Kept.Index.{home_of, IsRowOf}
use Rattle.cas_record.specs.Kept.Tables.{HasRows, IsSearched}
use Rattle.cas_record.proofs.Kept.Homes.{home_stays, home_here, names_it}
use Rattle.cas_record.proofs.Positions.{gets}
use Rattle.cas_record.proofs.Kept.Rows.{rows_set, rows_insert, tells_none}
use Rattle.cas_record.proofs.rows.note_key.Goals as goal

pub returns-in-Ok-clause-rows : goal.returns-in-Ok-clause-rows
returns-in-Ok-clause-rows c =
    let marks = c.args.marks.now in
    let mark = c.args.mark.now in
    let key = c.args.key.now in
    let place = subst (IsSearched key c.args.rows.now.items marks) c.in-Ok.is c.requires.found in
    let old = place.own c.index.result.now (gets c.args.rows.now.items c.in-Ok.at c.index.result.now c.index.result.now place.within (sym c.index.ensures)) in
    let home : home_of key (mark ∷ reverse marks) ≡ Some c.row_after.result.home = home_stays key mark (reverse marks) c.index.result.now.home old.home ∙ ap Some (sym c.row_after.ensures.home) in
    let own : IsRowOf key (mark ∷ reverse marks) c.row_after.result = record { home = home; tells = c.row_after.ensures.told (reverse marks) (length-reverse marks) c.requires.begun old.tells } in
    rows_set mark marks key c.requires.named c.args.rows.now.items c.in-Ok.at c.row_after.result c.requires.rows place own

pub returns-in-Ok-clause-home : goal.returns-in-Ok-clause-home
returns-in-Ok-clause-home c =
    let marks = c.args.marks.now in
    let mark = c.args.mark.now in
    let key = c.args.key.now in
    let place = subst (IsSearched key c.args.rows.now.items marks) c.in-Ok.is c.requires.found in
    let old = place.own c.index.result.now (gets c.args.rows.now.items c.in-Ok.at c.index.result.now c.index.result.now place.within (sym c.index.ensures)) in
    home_stays key mark (reverse marks) c.index.result.now.home old.home ∙ ap Some (sym c.row_after.ensures.home ∙ ap (λ (r : Row). r.home) (sym (c.index-in-Ok.ensures ∙ get_or-set_same c.args.rows.now.items c.in-Ok.at c.row_after.result c.index-in-Ok.result.now place.within)))

pub returns-in-Err-clause-rows : goal.returns-in-Err-clause-rows
returns-in-Err-clause-rows c =
    let marks = c.args.marks.now in
    let mark = c.args.mark.now in
    let key = c.args.key.now in
    let gap = subst (IsSearched key c.args.rows.now.items marks) c.in-Err.is c.requires.found in
    let empty = c.empty_row.ensures in
    let none = tells_none key (reverse marks) c.empty_row.result gap.homeless (ap (λ (r : Row). r.top) empty) (ap (λ (r : Row). r.floor) empty) (ap (λ (r : Row). r.opening) empty) in
    let at_end = c.row_after-in-Err.ensures.home ∙ ap (λ (r : Row). r.home) empty in
    let home : home_of key (mark ∷ reverse marks) ≡ Some c.row_after-in-Err.result.home = home_here key mark (reverse marks) gap.homeless (names_it key mark c.requires.named) ∙ ap Some (length-reverse marks ∙ sym at_end) in
    let own : IsRowOf key (mark ∷ reverse marks) c.row_after-in-Err.result = record { home = home; tells = c.row_after-in-Err.ensures.told (reverse marks) (length-reverse marks) c.requires.begun none } in
    subst (λ rows. HasRows rows (marks ++ mark ∷ [])) {x = insert c.args.rows.now.items c.in-Err.at c.row_after-in-Err.result} (search (rules, c.insert.ensures.items, c.insert.ensures.succeeds, c.requires.room))
    (rows_insert mark marks key c.requires.named c.args.rows.now.items c.in-Err.at c.row_after-in-Err.result c.requires.rows gap own)

pub returns-in-Err-clause-home : goal.returns-in-Err-clause-home
returns-in-Err-clause-home c =
    let marks = c.args.marks.now in
    let gap = subst (IsSearched c.args.key.now c.args.rows.now.items marks) c.in-Err.is c.requires.found in
    home_here c.args.key.now c.args.mark.now (reverse marks) gap.homeless (names_it c.args.key.now c.args.mark.now c.requires.named) ∙ ap Some (length-reverse marks)
