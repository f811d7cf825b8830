use Rattle.std.proofs.Common.{List, reverse, ap, subst, ◌∙◌}
use Rattle.std.specs.Option.{option_copied}
use Rattle.cas_record.specs.Book.{Book}
use Rattle.cas_record.specs.declared.mark.Mark.{Mark}
use Rattle.cas_record.specs.declared.row.Row.{Row}
use Rattle.cas_record.specs.Kept.Index.{key_at, HasEntryOrFloor, IsAfter, KeyLess}
use Rattle.cas_record.specs.Kept.Tables.{IsTablesOf, IsFirstAfter}
use Rattle.std.proofs.lemmas.List.{get_or_default}
use Rattle.cas_record.proofs.Kept.Rows.{no_row}
use Rattle.cas_record.proofs.Histories.Next.{none_after, found_next, found_least, copied_some, copied_match}
use Rattle.cas_record.proofs.«record».Record.next_key.Goals as goal

pub returns-in-Some-clause-next : goal.returns-in-Some-clause-next
returns-in-Some-clause-next c =
    let marks = c.args.self.now.marks in
    let rows = c.self.inside.tables.rows.items in
    let after = option_copied c.args.after in
    let seen = ap (λ (b : Book). b.marks) c.self.view_is in
    let tables = subst (IsTablesOf c.self.inside.tables) seen c.self.invariant.0 in
    let next = c.in-Some.ensures marks tables in
    let first_ = subst (λ (ms : List Mark). IsFirstAfter after rows ms c.first_after-from.result) (c.deref-2.ensures.value ∙ seen)
    (subst (λ (rs : List Row). IsFirstAfter after rs c.deref-2.result.now c.first_after-from.result) c.deref.ensures.value c.first_after-from.ensures) in
    let found = c.key_at.ensures ∙ ap (λ (ms : List Mark). key_at ms c.index.result.now.home) (c.deref-in-Some.ensures.value ∙ seen)
    ∙ ap (λ (r : Row). key_at marks r.home) (c.index.ensures ∙ get_or_default rows c.in-Some.at c.index.result.now no_row next.within) in
    copied_some c.key_at.result (λ key. HasEntryOrFloor key (reverse marks) × IsAfter after key)
    (found_next rows marks tables.rows after c.first_after-from.result first_ c.in-Some.at next (option_copied c.key_at.result) found)

pub returns-in-Some-clause-least : goal.returns-in-Some-clause-least
returns-in-Some-clause-least c = λ key listed is_after.
    let marks = c.args.self.now.marks in
    let rows = c.self.inside.tables.rows.items in
    let after = option_copied c.args.after in
    let seen = ap (λ (b : Book). b.marks) c.self.view_is in
    let tables = subst (IsTablesOf c.self.inside.tables) seen c.self.invariant.0 in
    let next = c.in-Some.ensures marks tables in
    let first_ = subst (λ (ms : List Mark). IsFirstAfter after rows ms c.first_after-from.result) (c.deref-2.ensures.value ∙ seen)
    (subst (λ (rs : List Row). IsFirstAfter after rs c.deref-2.result.now c.first_after-from.result) c.deref.ensures.value c.first_after-from.ensures) in
    let found = c.key_at.ensures ∙ ap (λ (ms : List Mark). key_at ms c.index.result.now.home) (c.deref-in-Some.ensures.value ∙ seen)
    ∙ ap (λ (r : Row). key_at marks r.home) (c.index.ensures ∙ get_or_default rows c.in-Some.at c.index.result.now no_row next.within) in
    copied_match c.key_at.result ⊥ (λ next. KeyLess key next → ⊥)
    (found_least rows marks tables.rows after c.first_after-from.result first_ c.in-Some.at next (option_copied c.key_at.result) found key listed is_after)

pub returns-in-None-clause-least : goal.returns-in-None-clause-least
returns-in-None-clause-least c = λ key listed is_after.
    let marks = c.args.self.now.marks in
    let rows = c.self.inside.tables.rows.items in
    let after = option_copied c.args.after in
    let seen = ap (λ (b : Book). b.marks) c.self.view_is in
    let tables = subst (IsTablesOf c.self.inside.tables) seen c.self.invariant.0 in
    let first_ = subst (λ (ms : List Mark). IsFirstAfter after rows ms c.first_after-from.result) (c.deref-2.ensures.value ∙ seen)
    (subst (λ (rs : List Row). IsFirstAfter after rs c.deref-2.result.now c.first_after-from.result) c.deref.ensures.value c.first_after-from.ensures) in
    none_after rows marks tables.rows after c.first_after-from.result first_ (c.in-None.ensures marks tables) key listed is_after
