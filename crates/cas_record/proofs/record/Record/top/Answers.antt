use Rattle.std.proofs.Common.{◌≡◌, None, reverse, sym, ap, subst, ◌∙◌}
use Rattle.cas_record.specs.Book.{Book}
use Rattle.cas_record.specs.Kept.Index.{home_of}
use Rattle.cas_record.proofs.Kept.Stands.{top_of_none}
use Rattle.cas_record.proofs.«record».Record.top.Goals as goal

pub returns-in-None : goal.returns-in-None
returns-in-None c =
    let marks_is = c.deref.ensures.value ∙ ap (λ (b : Book). b.marks) c.self.view_is in
    sym (top_of_none c.args.key.now (reverse c.args.self.now.marks) (subst (λ marks. home_of c.args.key.now (reverse marks) ≡ None) marks_is c.in-None.ensures))
