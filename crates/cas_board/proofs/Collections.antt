-- What caller 0's pass tells of how far a collection has come.
use Rattle.std.proofs.Common.{◌≡◌, ℕ, List, sym, ap, subst, ◌∙◌}
use Rattle.std.specs.Prelude.{Result, IfOk}
use Rattle.cas_record.specs.declared.mark.Mark.{Mark}
use Rattle.cas_model.specs.View.{View}
use Rattle.cas_turn.specs.Seen.{HasSeenOwn}
use Rattle.cas_turn.specs.Sitting.{Sitting}
use Rattle.cas_board_steps.specs.Collection.Collecting.{HasCourse}
use Rattle.cas_board_steps.specs.Mine.{wanted_by}
use Rattle.cas_board_steps.specs.Owners.{owner_of}
use Rattle.cas_board_steps.specs.OwnParts.{own_part}
use Rattle.cas_board_steps.specs.declared.collections.Course.{Course}
use Rattle.cas_board_steps.specs.declared.collections.Course.TheVariants as course
use Rattle.cas_board_steps.specs.declared.collections.KeyCollection.{KeyCollection}
use Rattle.cas_board.proofs.Operating.{operator_part}
use Rattle.cas_board.proofs.Steps.{wanted_held, wanted_still}

-- so far it has come still, where caller 0 asked for nothing else
course_still : (key : List ℕ) (tries : ℕ) (come : Course) (own : List ℕ) (marks marks_then : List Mark) → wanted_by 0 marks_then ≡ wanted_by 0 marks → HasCourse key tries come own marks → HasCourse key tries come own marks_then
course_still key tries course.Ordered own marks marks_then same has = has
course_still key tries (course.Buries call rounds) own marks marks_then same has = let b = has.0 in (record { rounds = b.rounds; phase = b.phase; council = b.council; is = b.is; at = b.at; none_asked = b.none_asked; wanted = same ∙ b.wanted }, has.1)
course_still key tries course.TombstoneSet own marks marks_then same has = has
course_still key tries course.Renews own marks marks_then same has = has
course_still key tries course.HearsAges own marks marks_then same has = has
course_still key tries course.Floors own marks marks_then same has = has
course_still key tries course.Removes own marks marks_then same has = has
course_still key tries course.HearsRemovals own marks marks_then same has = has

-- a hold finds it as the pass tells
pub course_held : {S V : Type 0} (key : List ℕ) (tries : ℕ) (come : Course) (number : ℕ) (inside before : View S V) (own : List ℕ) (seen : List Mark) → number ≡ 0 → inside ≡ before → own_part before number ≡ own → HasSeenOwn owner_of number seen before.marks → HasCourse key tries come own seen → HasCourse key tries come (own_part inside 0) inside.marks
course_held {S} {V} key tries come number inside before own seen is_first same part has was =
    course_still key tries come (own_part inside 0) seen inside.marks (ap (λ (v : View S V). wanted_by 0 v.marks) same ∙ wanted_held number seen before.marks is_first has)
    (subst (λ (o : List ℕ). HasCourse key tries come o seen) (sym (operator_part number inside before own is_first same part)) was)

-- the pass tells what stood when its hold was given back
pub course_then : {E : Type 0} (key : List ℕ) (tries : ℕ) (result : Result KeyCollection E) (own own_then : List ℕ) (seen seen_then : List Mark) → own ≡ own_then → seen ≡ seen_then → IfOk result (λ next. HasCourse key tries next.course own_then seen_then) → IfOk result (λ next. HasCourse key tries next.course own seen)
course_then key tries result own own_then seen seen_then same_own same_seen has =
    subst (λ (o : List ℕ). IfOk result (λ next. HasCourse key tries next.course o seen)) (sym same_own)
    (subst (λ (s : List Mark). IfOk result (λ next. HasCourse key tries next.course own_then s)) (sym same_seen) has)

-- asking for a verdict leaves it
pub course_asked : {A : Type 0} (key : List ℕ) (tries : ℕ) (come : Course) (b c : Sitting A Mark) → b.number ≡ 0 → c ≡ record b { seen = c.seen } → wanted_by b.number c.seen ≡ wanted_by b.number b.seen → HasCourse key tries come b.own b.seen → HasCourse key tries come c.own c.seen
course_asked {A} key tries come b c is_first asked same was =
    course_still key tries come c.own b.seen c.seen (wanted_still b.number b.seen c.seen is_first same)
    (subst (λ (o : List ℕ). HasCourse key tries come o b.seen) (sym (ap (λ (s : Sitting A Mark). s.own) asked)) was)
