use Rattle.std.proofs.Common.{◌≡◌, ℕ, false, Option, sym, subst, ◌∙◌}
use Rattle.std.specs.Prelude.{MatchOption}
use Rattle.cas_record.specs.Agreement.{is_told, has_other_era, IsSpan, IsOtherEra}
use Rattle.cas_record.proofs.Agreements.{told_some, span_one, all_agreed, old_era}
use Rattle.std.proofs.lemmas.Bool.{both_ways}
use Rattle.cas_record.proofs.agreement.undecided.Goals as goal

pub unreachable-requires : goal.unreachable-requires
unreachable-requires c =
    told_some c.args.era.now c.args.found.now c.requires.meets c.requires.undecided.enough (subst (IsSpan (is_told c.args.found.now)) c.in_default.is c.span.ensures)

pub unreachable-requires-in_default-other_era : goal.unreachable-requires-in_default-other_era
unreachable-requires-in_default-other_era c =
    let number = c.args.era.now.number in
    let found = c.args.found.now in
    let fits : Option ℕ → Type 0 = λ result. MatchOption result (has_other_era number found ≡ false) (λ other. IsOtherEra number found other) in
    let none = subst fits c.in_default-other_era.is c.other_era.ensures in
    let only = span_one found c.in-Some.low c.in-Some.high c.span.result c.in-Some.is c.span.ensures (sym c.is_ballot.ensures ∙ c.if-not-is_ballot.false) in
    let agreed = all_agreed c.args.era.now found c.in-Some.low c.requires.undecided.enough only none in
    both_ways _ (c.requires.undecided.none c.in-Some.low) agreed

pub returns : goal.returns
returns c =
    let number = c.args.era.now.number in
    let found = c.args.found.now in
    let fits : Option ℕ → Type 0 = λ result. MatchOption result (has_other_era number found ≡ false) (λ other. IsOtherEra number found other) in
    let other = subst fits c.in-Some-other_era.is c.other_era.ensures in
    let only = span_one found c.in-Some.low c.in-Some.high c.span.result c.in-Some.is c.span.ensures (sym c.is_ballot.ensures ∙ c.if-not-is_ballot.false) in
    (c.requires.undecided, old_era c.args.era.now found c.in-Some.low c.in-Some-other_era.number only other)
