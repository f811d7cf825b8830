use Rattle.std.proofs.Common.{reverse, sym, ap, ◌∙◌}
use Rattle.cas_record.specs.Kept.Index.{next_at}
use Rattle.cas_record.proofs.tables.Tables.link_at.Goals as goal

pub returns-in-Some : goal.returns-in-Some
returns-in-Some c = λ key marks are is. c.copied.ensures ∙ c.get.ensures.value ∙ are.links.held key c.in-Some.ballot c.args.row.home is.home ∙ sym (ap (λ o. next_at key o (reverse marks)) c.in-Some.is)
