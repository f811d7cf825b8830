use Rattle.std.proofs.Common.{refl, sym, ap, ◌∙◌}
use mathlib.Core.Logic.{inl, inr}
use Rattle.cas_base.proofs.Bools.{not_both}
use Rattle.cas_audit.specs.declared.told.Spot.{Spot}
use Rattle.cas_audit.proofs.Decisions.{acked_tells, acked_is, no_iff}
use Rattle.cas_audit.proofs.tables.Tables.is_floor.Goals as goal

pub returns-in_ok-spot_of-in-Empty : goal.returns-in_ok-spot_of-in-Empty
returns-in_ok-spot_of-in-Empty c = λ marks audit.
    let acked = ap (λ (x : Spot). x.acked) (c.in_ok-spot_of-in-Empty.ensures marks audit.are) in (
      λ e. inr (record { is_empty = c.in-Empty.is; acked = acked_tells c.args.key.now c.args.ballot marks (sym acked ∙ e) }),
      λ floor. elim floor [
        | inl opening ↦ absurd (not_both c.may_open.result ((c.may_open.ensures marks audit).1 opening) c.if-may_open.false)
        | inr tomb ↦ acked ∙ acked_is tomb.acked
      ],
    )

pub returns-in-Held : goal.returns-in-Held
returns-in-Held c = λ marks audit. no_iff refl (λ floor. elim floor [
  | inl opening ↦ not_both c.may_open.result ((c.may_open.ensures marks audit).1 opening) c.if-may_open.false
  | inr tomb ↦ absurd (cc (tomb.is_empty, c.in-Held.is))
])
