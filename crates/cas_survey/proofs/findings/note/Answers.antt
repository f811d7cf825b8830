use Rattle.std.proofs.Common.{◌∙◌, sym}
use Rattle.cas_slot.proofs.SlotsLemmas.{put-slots}
use Rattle.cas_survey.proofs.Noting.{before, noted_greater, noted_no_greater}
use Rattle.cas_survey.proofs.findings.note.Goals as goal

pub returns-in_ok-insert : goal.returns-in_ok-insert
returns-in_ok-insert c = put-slots _ _ _ _ c.in_ok-insert.ensures.updates.0
    ∙ rw (c.in-Some.is, c.in_ok-copy.ensures, c.found_slot.ensures)
    (sym (noted_greater _ c.args.key.now c.in-Some.accepted (before _ _ _ _ _ _ c.accepted_ballot.ensures c.get.ensures.value (sym c.lt.ensures ∙ c.if-lt.true))))

pub returns-else-lt : goal.returns-else-lt
returns-else-lt c = rw (c.in-Some.is) (sym (noted_no_greater _ c.args.key.now c.in-Some.accepted (before _ _ _ _ _ _ c.accepted_ballot.ensures c.get.ensures.value (sym c.lt.ensures ∙ c.if-lt.false))))
