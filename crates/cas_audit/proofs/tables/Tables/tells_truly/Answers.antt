use Rattle.std.proofs.Common.{sym, ◌∙◌}
use Rattle.cas_audit.proofs.Decisions.{told_proposed, told_unproposed, truly_proposed, truly_unproposed}
use Rattle.cas_audit.proofs.tables.Tables.tells_truly.Goals as goal

pub returns-then-is_some : goal.returns-then-is_some
returns-then-is_some c = λ marks audit.
    truly_proposed c.args.answer.now c.tells_refused.result c.tells_refused.ensures (told_proposed (c.call_of.ensures marks audit.are) (sym c.is_some.ensures ∙ c.if-is_some.true))

pub returns-else-is_some : goal.returns-else-is_some
returns-else-is_some c = λ marks audit.
    truly_unproposed c.args.answer.now c.tells_unsettled.result c.tells_unsettled.ensures (told_unproposed (c.call_of.ensures marks audit.are) (sym c.is_some.ensures ∙ c.if-is_some.false))
