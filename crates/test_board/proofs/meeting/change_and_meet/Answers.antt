use Rattle.std.proofs.Common.{ℕ, List, length, subst}
use Rattle.cas_change.specs.declared.program.Clause.{Clause}
use Rattle.cas_record.specs.declared.answer.Answer.{Answer}
use Rattle.cas_record.specs.declared.mark.Mark.{Mark}
use Rattle.cas_turn.specs.Seen.{Begins}
use Rattle.cas_turn.specs.Sitting.{Sitting}
use Rattle.cas_turn.proofs.SeenLemmas.{begins_both}
use Rattle.cas_board.specs.Changes.{AnswersChange}
use Rattle.cas_board.specs.Changes.AnswersChange.{is_answered, is_not_begun}
use Rattle.test_board.specs.Meetings.{HasHeardOf}
use Rattle.test_board.specs.Meetings.HasHeardOf.{has_ended, not_begun}
use Rattle.test_board.proofs.meeting.change_and_meet.Goals as goal

heard_of : {V : Type 0} (key : List ℕ) (program : List Clause) (tries harms harms_then : ℕ) (old new : Sitting V Mark) (told : Answer) (front : List Mark)
    → AnswersChange key program tries harms harms_then old new told → Begins new.seen front → HasHeardOf old.number told front
heard_of key program tries harms harms_then old new told front (is_answered call rounds between goes of_call counted last tried) begins = has_ended call rounds new.seen last begins
heard_of key program tries harms harms_then old new told front (is_not_begun refusal counted goes) begins = not_begun (length new.seen) refusal

begins_by : {V : Type 0} (key : List ℕ) (program : List Clause) (tries harms harms_then : ℕ) (old new : Sitting V Mark) (told : Answer)
    → AnswersChange key program tries harms harms_then old new told → Begins old.seen new.seen
begins_by key program tries harms harms_then old new told (is_answered call rounds between goes of_call counted last tried) = goes.begins
begins_by key program tries harms harms_then old new told (is_not_begun refusal counted goes) = goes.begins

pub returns-clause-heard : goal.returns-clause-heard
returns-clause-heard g c =
    heard_of _ _ _ _ _ c.args.first.now c.change-one.new.pass c.change-one.result c.change-other.new.pass.seen c.change-one.ensures.answers
    (begins_both c.change-one.new.pass.seen c.meet.new.b.seen c.change-other.new.pass.seen (subst (Begins c.change-one.new.pass.seen) c.meet.ensures.one_front c.meet.ensures.fronts.0)
    (begins_by _ _ _ _ _ c.meet.new.b c.change-other.new.pass c.change-other.result c.change-other.ensures.answers))
