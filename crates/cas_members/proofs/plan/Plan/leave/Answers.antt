use Rattle.std.proofs.Common.{arith, sym, ◌∙◌}
use Rattle.cas_members.proofs.PlanLemmas.{leaves, halves_down, at_once_down, from_era}
use Rattle.cas_members.proofs.plan.Plan.leave.Goals as goal

pub over-requires : goal.over-requires
over-requires c =
    rw (c.majorities_of-half.ensures, c.majority-whole.ensures.value, c.remove.ensures)
    (from_era _ _ c.requires.one_set (sym c.are_majorities.ensures ∙ c.if-not-are_majorities.false)
    (halves_down _ _ _ (leaves _ _ c.count.ensures.set (omega (arith, c.count.ensures.value, c.if-count-le1.false)))))

pub over-requires-else-count-eq0 : goal.over-requires-else-count-eq0
over-requires-else-count-eq0 c =
    rw (c.majority.ensures.value, c.remove.ensures)
    (from_era _ _ c.requires.one_set (sym c.are_majorities.ensures ∙ c.if-not-are_majorities.false)
    (at_once_down _ _ _ (leaves _ _ c.count.ensures.set (omega (arith, c.count.ensures.value, c.if-count-le1.false)))))
