use Rattle.std.proofs.Common.{ap, subst, ◌∙◌}
use Rattle.std.specs.Prelude.{◌||◌}
use Rattle.cas_record.specs.Agreement.{IsSpan, is_ballot_told}
use Rattle.cas_record.proofs.Agreements.{span_more}
use Rattle.cas_record.proofs.agreement.widened.Goals as goal

pub returns-in-Some-Some : goal.returns-in-Some-Some
returns-in-Some-Some c = λ some more same was.
    rw (c.min.ensures, c.max.ensures)
    (span_more some more c.in-Some-Some.low c.in-Some-Some.high c.in-Some-Some.ballot (λ b. same b ∙ ap (λ told. some b || is_ballot_told b told) c.in-Some-Some.is-1)
    (subst (IsSpan some) c.in-Some-Some.is-0 was))
