use Rattle.std.proofs.Common.{◌≡◌, None, IfOk, List, reverse, refl, ap, subst, ◌∙◌}
use Rattle.cas_record.specs.Book.{Book}
use Rattle.cas_record.specs.declared.mark.Mark.{Mark}
use Rattle.cas_record.specs.Places.{whole}
use Rattle.cas_record.specs.Kept.Index.{home_of, state_at, IsRowOf}
use Rattle.cas_record.specs.Histories.Replay.{opening_state}
use Rattle.cas_record.proofs.Kept.Rows.{no_row, tells_none}
use Rattle.cas_record.proofs.Histories.Lemmas.{opening_read}
use Rattle.cas_record.proofs.«record».Record.start.Goals as goal

pub returns-in-Some : goal.returns-in-Some
returns-in-Some c =
    let key = c.args.key.now in
    let marks = c.args.self.now.marks in
    let seen = ap (λ (b : Book). b.marks) c.self.view_is in
    let row : IsRowOf key (reverse marks) c.in-Some.row = subst (λ (ms : List Mark). IsRowOf key (reverse ms) c.in-Some.row) (c.deref.ensures.value ∙ seen) c.in-Some.ensures in
    let told : state_at c.deref-in-Some.result.now c.in-Some.row.opening ≡ opening_state key (reverse marks) =
    ap (λ (ms : List Mark). state_at ms c.in-Some.row.opening) (c.deref-in-Some.ensures.value ∙ seen) ∙ ap (state_at marks) row.tells.opening ∙ opening_read key (reverse marks) marks whole in
    subst (λ s. IfOk c.state_at.result (λ state. state ≡ s)) told c.state_at.ensures

pub returns-in-None : goal.returns-in-None
returns-in-None c =
    let key = c.args.key.now in
    let marks = c.args.self.now.marks in
    let seen = ap (λ (b : Book). b.marks) c.self.view_is in
    let gone : home_of key (reverse marks) ≡ None = subst (λ (ms : List Mark). home_of key (reverse ms) ≡ None) (c.deref.ensures.value ∙ seen) c.in-None.ensures in
    ap (state_at marks) (tells_none key (reverse marks) no_row gone refl refl refl).opening ∙ opening_read key (reverse marks) marks whole
