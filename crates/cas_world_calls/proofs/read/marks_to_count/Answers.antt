use Rattle.std.proofs.Common.{◌≡◌, reverse, sym, ap, ◌∙◌}
use Rattle.std.specs.Prelude.{option_copied, unwrap_or}
use Rattle.cas_ballot.specs.declared.ballot.Ballot.{Ballot}
use Rattle.cas_ballot.specs.Ballot.{zero_ballot}
use Rattle.std.specs.Prelude.{Option}
use Rattle.cas_record.proofs.Kept.Stands.{top_is}
use Rattle.cas_model.specs.Exchanges.Read.{marks_of_holders, MarksRead}
use Rattle.cas_world_calls.proofs.Reading.{ok_then, marks_counted, marks_nothing}
use Rattle.cas_world_calls.proofs.read.marks_to_count.Goals as goal

pub returns-in-Some : goal.returns-in-Some
returns-in-Some c =
    ok_then (λ marks. MarksRead c.args.era.now c.args.key.now c.args.told.now (reverse c.args.record.now.marks) marks.items) c.marks_of_holders.result c.marks_of_holders.ensures (λ marks same.
    marks_counted c.args.era.now c.args.key.now c.args.told.now (reverse c.args.record.now.marks) marks.items c.or_zero-top.result c.in-Some.accepted.now
    (c.or_zero-top.ensures ∙ ap (λ (o : Option Ballot). unwrap_or o zero_ballot) c.top.ensures ∙ top_is c.args.key.now (reverse c.args.record.now.marks)) (sym c.agreed.ensures ∙ ap option_copied c.in-Some.is)
    (same ∙ ap (marks_of_holders c.args.key.now c.in-Some.accepted.now) c.holders.ensures))

pub returns-in-None : goal.returns-in-None
returns-in-None c =
    marks_nothing c.args.era.now c.args.key.now c.args.told.now (reverse c.args.record.now.marks) c.new.result.items c.or_zero-top.result
    (c.or_zero-top.ensures ∙ ap (λ (o : Option Ballot). unwrap_or o zero_ballot) c.top.ensures ∙ top_is c.args.key.now (reverse c.args.record.now.marks)) (sym c.agreed.ensures ∙ ap option_copied c.in-None.is) c.new.ensures.items
