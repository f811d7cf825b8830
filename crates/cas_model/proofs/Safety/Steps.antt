-- Whatever is called on a cluster that is safe, it is safe then.
use Rattle.std.proofs.Common.{◌≡◌, ℕ, Option, None, Some, refl, sym, ap, subst, ◌∙◌, arith}
use Rattle.std.specs.Prelude.{◌==◌, Bool, true, false, if◌then◌else◌}
use Rattle.cas_ballot.specs.Members.{IsMemberSet}
use Rattle.cas_proposer.specs.Desk.{DeskView}
use Rattle.cas_quorum.specs.declared.era.Era.{Era}
use Rattle.cas_record.specs.declared.answer.Answer.TheVariants as answer
use Rattle.cas_record.specs.declared.answer.Cause.TheVariants as cause
use Rattle.cas_record.specs.declared.operator.OpAnswer.{OpAnswer}
use Rattle.cas_model.specs.Council.{PlanView}
use Rattle.cas_model.specs.Eras.Course.{HasFewMembers, course_of, next_era, shown_era, era_shown, CourseIsUnderWay, IsCourse}
use Rattle.cas_model.specs.Exchanges.Step.{told_view}
use Rattle.cas_model.specs.Exchanges.Tellings.{StopsUndone}
use Rattle.cas_model.specs.Calls.Desks.{Crashes}
use Rattle.cas_model.specs.Stops.Step.{CrashesDesk, broken_off_view, closed_by_crash}
use Rattle.cas_model.specs.Safe.{IsSound, IsCollectingSafe, IsSafe}
use Rattle.cas_model.specs.SafeLaws.{StepsAreSafe}
use Rattle.cas_model.specs.Step as step
use Rattle.cas_model.specs.Step.{Step}
use Rattle.cas_model.specs.View.{Meaning, View, era_at}
use Rattle.cas_model.proofs.Calls.SafeRounds.{begin_safe, proposes_safe, counts_safe}
use Rattle.cas_model.proofs.Stops.Safe.{crashed_fit, refuses_call_safe, refuses_turn_safe, ends_call_safe, strays_safe, room_not_found_safe, crashes_acceptor_safe, restarts_acceptor_safe, restarts_proposer_safe, down_safe, left_safe, broken_off_safe}
use Rattle.cas_model.proofs.Collection.Safe as collect
use Rattle.cas_model.proofs.Collection.SafeCollecting.{frame_of, same_collecting, told_collecting, begin_frame, refuse_collecting, turn_frame, no_room_frame, propose_frame, count_frame, end_collecting, stray_frame, stop_frame, start_frame, left_frame, broken_collecting, down_collecting, restart_collecting, order_collecting, tell_collecting, ask_collecting, turn_collecting, gather_collecting, open_collecting, enter_collecting}
use Rattle.cas_model.proofs.Collection.SafeCollections as steps
use Rattle.cas_model.proofs.Exchanges.Safe as council
use Rattle.cas_model.proofs.Exchanges.Tellings.{tellings_safe, crashed_desk_tellings, broken_off_tellings, told_tellings}
use Rattle.cas_model.proofs.Eras.Safe.{open_safe, enter_safe}
use Rattle.cas_model.proofs.Frames.Safe.{turns_safe}
use Rattle.cas_model.proofs.Eras.CourseSteps.{stays_on_course}
use Rattle.cas_model.proofs.Eras.Courses.{course_meets, leads}
use Rattle.cas_model.proofs.Eras.OnCourse.{left_course}

-- the members of the next era are sets
next_sets : {S V : Type 0} (old : View S V) (next : Era) → IsCourse (course_of old) → next_era old.council.plan ≡ Some next → IsMemberSet next.prep × IsMemberSet next.acc × HasFewMembers next
next_sets old next is is_next = by_plan old.council.plan is.under_way is_next
  where
    by_plan : (plan : Option PlanView) → CourseIsUnderWay (course_of old) plan → next_era plan ≡ Some next → IsMemberSet next.prep × IsMemberSet next.acc × HasFewMembers next
    by_plan None under_way none = absurd (cc none)
    by_plan (Some plan) under_way enters = let follows = (leads plan.progress.era next plan.progress.left enters under_way.start).follows in (follows.prep_set, follows.acc_set, follows.few)

-- and so are those of the era that a vault shows
shown_sets : {S V : Type 0} (old : View S V) (id : ℕ) → IsSafe old → (number : ℕ) → IsMemberSet (era_shown old.council.plan (era_at old id) number).prep × IsMemberSet (era_shown old.council.plan (era_at old id) number).acc × HasFewMembers (era_shown old.council.plan (era_at old id) number)
shown_sets old id is number = by_next (next_era old.council.plan) (λ next is_next. next_sets old next is.course is_next)
  where
    by_next : (next : Option Era) → ((era : Era) → next ≡ Some era → IsMemberSet era.prep × IsMemberSet era.acc × HasFewMembers era)
        → IsMemberSet (shown_era next (era_at old id) number).prep × IsMemberSet (shown_era next (era_at old id) number).acc × HasFewMembers (shown_era next (era_at old id) number)
    by_next None sets = (is.sound.prep_sets id, is.sound.acc_sets id, is.sound.few_members id)
    by_next (Some next) sets = by_number (next.number == number)
      where
        by_number : (b : Bool) → IsMemberSet (if b then next else era_at old id).prep × IsMemberSet (if b then next else era_at old id).acc × HasFewMembers (if b then next else era_at old id)
        by_number true = sets next refl
        by_number false = (is.sound.prep_sets id, is.sound.acc_sets id, is.sound.few_members id)

sound : {S V : Type 0} (m : Meaning S V) (old : View S V) (event : step.Event) (new : View S V) → IsSafe old → Step m old event new → IsSound new
sound m old (step.Begin id key program) new is by = begin_safe m old id key program new is.sound by
sound m old (step.RefuseBegin id key) new is by = refuses_call_safe m old id key new is.sound by
sound m old (step.Turn id verdict) new is by = turns_safe m old id verdict by.front by.of_call.caller by.of_call.call new is.sound by.of_call.at_caller by.of_call.is_open by.waits by.turn
sound m old (step.RefuseTurn id) new is by = refuses_turn_safe m old id new is.sound by
sound m old (step.Propose id) new is by = proposes_safe m old id new is.sound by
sound m old (step.Count id) new is by = counts_safe m old id new is.sound by
sound m old (step.End id told) new is by = ends_call_safe m old id by.of_call.caller by.of_call.call told new is.sound by.of_call.at_caller by.of_call.is_open by.ends
sound m old (step.Stray index) new is by = strays_safe m old index new is.sound by
sound m old step.RefuseStray new is by = room_not_found_safe m old new is.sound by
sound m old (step.CrashAcceptor id) new is by = crashes_acceptor_safe m old id new is.sound by
sound m old (step.RestartAcceptor id) new is by = restarts_acceptor_safe m old id new is.sound by
sound m old (step.CrashProposer id) new is by = down_safe old id (Crashes m.disks) new (λ desk now crash. crash.crashed) is.sound by
sound m old (step.RestartProposer id) new is by = restarts_proposer_safe m old id new is.sound (shown_sets old id is) by
sound m old (step.Order asked) new is by = council.order_safe old asked new is.sound by
sound m old step.RefuseOrder new is by = subst IsSound (sym by) is.sound
sound m old (step.Tell answer) new is by = council.tell_safe old answer new is.sound by
sound m old (step.AskAll question) new is by = council.ask_safe m old question new (is.course.sized 0 (omega arith)) (course_meets (course_of old) 0 (omega arith) is.course) is.sound by
sound m old (step.TurnExchange verdict) new is by = council.turn_exchange_safe m old verdict new is.sound by
sound m old step.RefuseTurnExchange new is by = council.refuse_exchange_safe m old new is.sound by
sound m old step.Gather new is by = council.gather_safe old new is.sound by
sound m old step.RefuseKey new is by = subst IsSound (sym by.view) (council.told_view_safe old _ is.sound)
sound m old step.OpenPlan new is by = open_safe m old new is.sound by
sound m old (step.EnterEra id) new is by = let sets = next_sets old by.next is.course by.may.is_next in enter_safe m old new id is.sound by sets.0 sets.1 sets.2
sound m old (step.BeginCollect key) new is by = collect.begin_collect_safe m old new key is.sound by
sound m old step.ReadHeld new is by = collect.read_held_safe m old new is.sound by
sound m old step.CountCollect new is by = collect.count_collect_safe m old new is.sound by
sound m old (step.EndCollect told) new is by = collect.end_collect_safe m old new told is.sound by
sound m old step.GatherRound new is by = collect.gather_round_safe old new is.sound by
sound m old (step.Renew id) new is by = collect.renew_safe m old new id is.sound by
sound m old step.AskCollect new is by = collect.ask_collect_safe m old new is.sound is.collection by
sound m old step.GatherCollect new is by = collect.gather_collect_safe old new is.sound by
sound m old step.MakeFloor new is by = collect.make_floor_safe old new is.sound is.collection by

-- the collection that is under way
collection : {S V : Type 0} (m : Meaning S V) (old : View S V) (event : step.Event) (new : View S V) → IsSafe old → Step m old event new → IsCollectingSafe new
collection m old (step.Begin id key program) new is by = same_collecting old new (begin_frame m old new id key program by) is.collection
collection m old (step.RefuseBegin id key) new is by = refuse_collecting m old new id key by is.collection
collection m old (step.Turn id verdict) new is by = same_collecting old new (turn_frame m old new id verdict by) is.collection
collection {S} {V} m old (step.RefuseTurn id) new is by = same_collecting old new (ap frame_of by.view ∙ no_room_frame m old by.middle by.refuses) is.collection
collection m old (step.Propose id) new is by = same_collecting old new (propose_frame m old new id by) is.collection
collection m old (step.Count id) new is by = same_collecting old new (count_frame m old new id by) is.collection
collection m old (step.End id told) new is by = end_collecting m old new id told by is.collection
collection m old (step.Stray index) new is by = same_collecting old new (stray_frame m old new index by.late by.strays) is.collection
collection m old step.RefuseStray new is by = same_collecting old new (no_room_frame m old new by) is.collection
collection m old (step.CrashAcceptor id) new is by = same_collecting old new (stop_frame m old new id by) is.collection
collection m old (step.RestartAcceptor id) new is by = same_collecting old new (start_frame m old new id by) is.collection
collection m old (step.CrashProposer id) new is by = down_collecting (Crashes m.disks) old new id by is.collection
collection m old (step.RestartProposer id) new is by = restart_collecting m old new id by is.collection
collection m old (step.Order asked) new is by = order_collecting old new asked by is.collection
collection {S} {V} m old step.RefuseOrder new is by = same_collecting old new (ap frame_of by) is.collection
collection m old (step.Tell answer) new is by = tell_collecting old new answer by
collection m old (step.AskAll question) new is by = ask_collecting m old new question by is.collection
collection m old (step.TurnExchange verdict) new is by = turn_collecting m old new verdict by is.collection
collection {S} {V} m old step.RefuseTurnExchange new is by =
    same_collecting (told_view by.middle _) new (ap frame_of by.view) (told_collecting by.middle _ (same_collecting old by.middle (no_room_frame m old by.middle by.refuses) is.collection))
collection m old step.Gather new is by = gather_collecting old new by is.collection
collection {S} {V} m old step.RefuseKey new is by = same_collecting (told_view old _) new (ap frame_of by.view) (told_collecting old _ is.collection)
collection m old step.OpenPlan new is by = open_collecting m old new by is.collection
collection m old (step.EnterEra id) new is by = enter_collecting m old new id by is.collection
collection m old (step.BeginCollect key) new is by = steps.begin_collecting m old new key by is.collection
collection m old step.ReadHeld new is by = steps.held_collecting m old new by is.collection
collection m old step.CountCollect new is by = steps.count_collecting m old new is.sound by is.collection
collection m old (step.EndCollect told) new is by = steps.end_collect_collecting m old new told by is.collection
collection m old step.GatherRound new is by = steps.round_gathered_collecting old new by is.collection
collection m old (step.Renew id) new is by = steps.renew_collecting m old new id by is.collection
collection m old step.AskCollect new is by = steps.ask_collect_collecting m old new by is.collection
collection m old step.GatherCollect new is by = steps.gather_collect_collecting old new by is.collection
collection m old step.MakeFloor new is by = steps.floor_collecting old new by is.collection

pub steps_are_safe : {S V : Type 0} (m : Meaning S V) → StepsAreSafe m
steps_are_safe m old event new was by = record { sound = sound m old event new was by; course = stays_on_course m old new event by was.course; collection = collection m old event new was by; tellings = tellings_safe m old event new by was.tellings }

-- ---- parts of calls
-- a desk crashes
pub crashed_desk_safe : {S V : Type 0} (m : Meaning S V) (old : View S V) (id : ℕ) (new : View S V) → IsSafe old → CrashesDesk m old id new → IsSafe new
crashed_desk_safe {S} {V} m old id new was by = record {
  sound = left_safe old id (Crashes m.disks) answer.Crashed cause.Crashed new
      (λ desk now crash. (ap (λ (d : DeskView V). d.id) crash.crashed, ap (λ (d : DeskView V). d.round) crash.crashed, crashed_fit desk now (ap (λ (d : DeskView V). d.cache) crash.crashed))) was.sound by;
  course = subst IsCourse (sym (left_course (Crashes m.disks) closed_by_crash old new id by)) was.course;
  collection = same_collecting old new (left_frame (Crashes m.disks) closed_by_crash old new id by) was.collection;
  tellings = crashed_desk_tellings m old id new by was.tellings;
}

-- an exchange, if one is open, is broken off
pub broken_safe : {S V : Type 0} (old : View S V) → IsSafe old → IsSafe (broken_off_view old)
broken_safe old was = record { sound = broken_off_safe old was.sound; course = was.course; collection = broken_collecting old was.collection; tellings = broken_off_tellings old was.tellings }

-- the open call is told something
pub told_safe : {S V : Type 0} (old : View S V) (answer : OpAnswer) → StopsUndone answer → IsSafe old → IsSafe (told_view old answer)
told_safe old answer undone was = record { sound = council.told_view_safe old answer was.sound; course = was.course; collection = told_collecting old answer was.collection; tellings = told_tellings old answer undone was.tellings }
