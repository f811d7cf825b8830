use Rattle.std.proofs.Common.{ℕ, ap, sym, ◌∙◌}
use Rattle.cas_members.specs.Plan.{are_sizes}
use Rattle.cas_members.proofs.PlanLemmas.{by_half}
use Rattle.cas_members.proofs.plan.Plan.resize.Goals as goal

pub over-requires-2 : goal.over-requires-2
over-requires-2 c =
    rw (c.sized-half.ensures, c.sized-whole-2.ensures, c.greater-most_prep.ensures, c.greater-most_acc.ensures)
    (by_half _ _ _ c.count.ensures.set c.requires.one_set
    (sym (c.sizes_fit.ensures ∙ ap (λ (n : ℕ). are_sizes n c.args.need_prep c.args.need_acc) c.count.ensures.value) ∙ c.if-not-sizes_fit.false))
