use Rattle.std.proofs.Common.{◌≡◌, Some, refl, sym, ap, subst, ◌∙◌}
use Rattle.std.specs.Ordering.{is_lt}
use mathlib.Core.Logic.{inl, inr}
use Rattle.cas_ballot.specs.Ballot.{BallotLess, greater_of}
use Rattle.cas_record.specs.Histories.Chain.{chain_of, top_of, settled_of}
use Rattle.cas_record.specs.Places.{IsPrefix}
use Rattle.cas_record.proofs.Tests.{less_tells}
use Rattle.cas_audit.specs.declared.told.Row.{Row}
use Rattle.cas_audit.specs.Told.{Reaches}
use Rattle.cas_audit.proofs.Walks.{arrives, arrived, empty_begins}
use Rattle.cas_audit.proofs.Decisions.{yes_iff, greater_high}
use Rattle.cas_audit.proofs.tables.Tables.stays_settled.Goals as goal

pub returns-then-row-eq0 : goal.returns-then-row-eq0
returns-then-row-eq0 c = λ marks audit.
    let key = c.args.key.now in
    yes_iff refl (empty_begins (settled_of key marks) (chain_of key (greater_of c.args.ballot (top_of key marks)) marks)
    (sym (ap (λ (x : Row). x.settled) (c.row_of-row.ensures marks audit.are)) ∙ c.if-row-eq0.true))

pub returns : goal.returns
returns c = λ marks audit.
    let key = c.args.key.now in
    let ballot = c.args.ballot in
    let row = c.row_of-row.ensures marks audit.are in
    let top : c.row_of-row.result.top ≡ top_of key marks = ap (λ (x : Row). x.top) row in
    let less : BallotLess (top_of key marks) ballot = subst (λ b. BallotLess b ballot) top (less_tells {a = c.row_of-row.result.top} {b = ballot} (sym (c.is_lt.ensures ∙ ap is_lt c.cmp.ensures) ∙ c.if-not-is_lt.false)) in
    let high = greater_high ballot (top_of key marks) less in
    let reaches = subst (Reaches key c.in_ok-found.found marks (chain_of key ballot marks)) (ap (λ (x : Row). x.settled) row) (c.in_ok-found.ensures marks audit (c.in_ok-long.ensures marks audit)) in (
      λ e. subst (λ b. IsPrefix (settled_of key marks) (chain_of key b marks)) (sym high)
          (arrived key (top_of key marks) c.in_ok-found.found marks (chain_of key ballot marks) reaches (c.is_found.ensures.0 e ∙ ap Some top)),
      λ begins. c.is_found.ensures.1 (elim (arrives key (top_of key marks) c.in_ok-found.found marks (chain_of key ballot marks) audit.legal.numbered reaches
          (subst (λ b. IsPrefix (settled_of key marks) (chain_of key b marks)) high begins)) [
            | inl none ↦ absurd (c.if-row-eq0.false (ap (λ (x : Row). x.settled) row ∙ none))
            | inr is ↦ is ∙ ap Some (sym top)
          ]),
    )
