use Rattle.std.proofs.Common.{◌++◌, ◌∷◌, [], List, ℕ, cond, sym, ap, ◌∙◌, arith}
use Rattle.cas_ballot.specs.Members.{has_member}
use Rattle.cas_audit.proofs.Spelling.Numbers.{filter_more, members_listed}
use Rattle.cas_audit.proofs.printing.numbers_of.Goals as goal

pub loop-number-preserved : goal.loop-number-preserved
loop-number-preserved c =
    c.in_ok-push_if_member.ensures
    ∙ ap (λ (xs : List ℕ). xs ++ cond (has_member c.args.members.now c.loop-number.number) (c.loop-number.number ∷ []) []) c.loop-number.invariant
    ∙ sym (filter_more (has_member c.args.members.now) c.loop-number.number)

pub returns-clause-set : goal.returns-clause-set
returns-clause-set c = c.count-count.ensures.set

pub returns-clause-numbers : goal.returns-clause-numbers
returns-clause-numbers c = c.loop-number.invariant ∙ members_listed c.args.members.now c.loop-number.number c.count-count.ensures.set (omega arith)
