use Rattle.std.proofs.Common.{sym, ◌∙◌}
use Rattle.cas_members.proofs.PlanLemmas.{joins, halves_up, at_once_up, from_era, one_set_some}
use Rattle.cas_members.proofs.plan.Plan.join.Goals as goal

pub over-requires : goal.over-requires
over-requires c =
    rw (c.majorities_of-half.ensures, c.majority-whole.ensures.value, c.insert.ensures)
    (from_era _ _ c.requires.one_set (sym c.are_majorities.ensures ∙ c.if-not-are_majorities.false)
    (halves_up _ _ _ (joins _ _ c.count.ensures.set (one_set_some _ c.requires.one_set))))

pub over-requires-else-count-eq1 : goal.over-requires-else-count-eq1
over-requires-else-count-eq1 c =
    rw (c.majority.ensures.value, c.insert.ensures)
    (from_era _ _ c.requires.one_set (sym c.are_majorities.ensures ∙ c.if-not-are_majorities.false)
    (at_once_up _ _ _ (joins _ _ c.count.ensures.set (one_set_some _ c.requires.one_set))))
