use Rattle.std.proofs.Common.{reverse, unwrap_or, sym, ap, ◌∙◌}
use Rattle.cas_ballot.specs.declared.ballot.Ballot.{Ballot}
use Rattle.cas_ballot.specs.Ballot.{zero_ballot}
use Rattle.cas_record.specs.Kept.Index.{standing_at}
use Rattle.cas_record.proofs.Kept.Stands.{top_is}
use Rattle.cas_record.proofs.Histories.Next.{listed_by, bare_of}
use Rattle.cas_record.proofs.tables.Tables.is_listed.Goals as goal

pub returns-else-is_some : goal.returns-else-is_some
returns-else-is_some c = λ key marks are own.
    let top = c.unwrap_or-top.ensures ∙ ap (λ o. unwrap_or o zero_ballot) own.tells.top ∙ top_is key (reverse marks) in
    let stands = c.standing.ensures key marks are own ∙ ap (λ (b : Ballot). standing_at key b (reverse marks)) top in
    let bare = sym own.tells.floor ∙ bare_of c.args.row.floor (sym c.is_some.ensures ∙ c.if-is_some.false) in
    let by = listed_by key (reverse marks) c.standing.result bare stands in
    (λ some. by.0 (sym c.is_some-else-is_some.ensures ∙ some), λ listed. c.is_some-else-is_some.ensures ∙ by.1 listed)
