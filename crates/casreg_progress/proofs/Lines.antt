-- A ready line is answered done.
use Rattle.std.proofs.Common.{◌≡◌, ◌-◌, ℕ, true, false, List, Option, None, Some, refl, ap, subst, ◌∙◌, inl, inr, arith}
use Rattle.cas_base.proofs.Bools.{not_both}
use Rattle.cas_ballot.specs.declared.ballot.Ballot.{Ballot}
use Rattle.cas_change.specs.declared.program.Clause.{Clause}
use Rattle.cas_proposer.specs.Desk.{DeskView}
use Rattle.cas_quorum.specs.declared.era.Era.{Era}
use Rattle.cas_record.specs.declared.answer.Answer.{Answer}
use Rattle.cas_record.specs.declared.answer.Answer.TheVariants as answer
use Rattle.cas_model.specs.Step.{StepEnd}
use Rattle.cas_model.specs.Calls.Step.{HasRoom, WasMet, round_marks}
use Rattle.cas_model.specs.View.{Meaning, View, IsAt, era_at}
use Rattle.cas_model.proofs.Places.{at_one, some_is}
use Rattle.cas_model.proofs.Safety.Parts.{low_at}
use Rattle.cas_model_causes.specs.Calls.Causes.{CallIsTold}
use Rattle.cas_model_causes.proofs.Calls.Ends.{desk_by}
use Rattle.casreg_progress.proofs.ByRules as script
use Rattle.casreg_script.specs.Calls.Changes as refusals
use Rattle.casreg_script.specs.Calls.Changes.{IsMet, IsRefused}
use Rattle.casreg_progress.proofs.ByRules.{change_by, IsRound, AreRounds, IsChangeByRules}
use Rattle.casreg_script.specs.Frames.Conditions.{Rule}
use Rattle.casreg_script.specs.Script.{nowhere}
use Rattle.casreg_script.specs.declared.halt.Halt.{Halt}
use Rattle.casreg_progress.specs.Lines.{next_ballot, IsDoneOrNoMemory, ReadyLinesAreDone}
use Rattle.casreg_progress.proofs.Beginning.{EndsWell, untold, done, no_memory, goes_down, Begun, prepares, accepts, over, begins}
use Rattle.casreg_progress.proofs.Phases.{Grounds, has_grounds, told_one, fails_told, prepare_ended, accepted}
use Rattle.casreg_progress.proofs.Standing.{StillUp, up_before, another_keeps, accepted_keeps, end_keeps}

-- ---- a round
stands_well : {S V : Type 0} (m : Meaning S V) (era : Era) (ballot : Ballot) (id : ℕ) (view : View S V) → Begun m era ballot id view → EndsWell ballot view id
stands_well m era ballot id view (prepares round age afresh era_is ballot_is underway shows told safe) = untold told
stands_well m era ballot id view (accepts prepared round outcome age afresh era_is ballot_is underway shows told safe) = untold told
stands_well m era ballot id view (over shows well) = well

round_ends : {S V : Type 0} (m : Meaning S V) (era : Era) (ballot : Ballot) (rules : List Rule) (id : ℕ) (after : Halt) (view new : View S V) → Grounds era rules → Begun m era ballot id view → IsRound m rules id nowhere view after new → StillUp era new → EndsWell ballot new id
round_ends m era ballot rules id after view new grounds begun script.none_begun up = stands_well m era ballot id view begun
round_ends m era ballot rules id after view new grounds begun (script.by_promise by) up = accepted m era ballot rules id after view new grounds begun by up
round_ends m era ballot rules id after view new grounds begun (script.cut_off (script.no_memory fails)) up = fails_told m rules ballot id view new fails
round_ends m era ballot rules id after view new grounds begun (script.cut_off (script.halts turns strikes crashes)) up = absurd (cc strikes.0)
round_ends m era ballot rules id after view new grounds begun (script.ends_short ends) up = stands_well m era ballot id new (prepare_ended m era ballot rules id nowhere view new grounds begun ends up)
round_ends m era ballot rules id after view new grounds begun (script.proposes {proposed = proposed} ends by) up =
    accepted m era ballot rules id after proposed new grounds (prepare_ended m era ballot rules id nowhere view proposed grounds begun ends (up_before era proposed new (accepted_keeps m rules id nowhere after proposed new by) up)) by up

-- ---- the rounds
-- a call that stands well met nothing
told_met : {S V : Type 0} (view : View S V) (id : ℕ) → IsMet view id → (told : Option Answer) → CallIsTold view id told → WasMet told
told_met view id met told is = subst WasMet (told_one view id met.of_call.call.told told (record { caller = met.of_call.caller; at_caller = met.of_call.at_caller; call = met.of_call.call; is_open = met.of_call.is_open; told_is = refl }) is) met.met

not_met : {S V : Type 0} (ballot : Ballot) (view : View S V) (id : ℕ) → EndsWell ballot view id → IsMet view id → ⊥
not_met ballot view id (untold is) met = told_met view id met None is
not_met ballot view id (done state took is) met = told_met view id met (Some (answer.Done state took ballot)) is
not_met ballot view id (no_memory proposed is) met = told_met view id met (Some (answer.NoMemory proposed)) is
not_met ballot view id (goes_down is desk at down) met = told_met view id met (Some answer.VaultFault) is

-- there is one round
rounds_end : {S V : Type 0} (m : Meaning S V) (era : Era) (ballot : Ballot) (rules : List Rule) (id : ℕ) (key : List ℕ) (program : List Clause) (tries : ℕ) (after : Halt) (view new : View S V) → Grounds era rules → Begun m era ballot id view → AreRounds m rules id key program tries nowhere view after new → StillUp era new → EndsWell ballot new id
rounds_end m era ballot rules id key program tries after view new grounds begun (script.last round no_more) up = round_ends m era ballot rules id after view new grounds begun round up
rounds_end m era ballot rules id key program tries after view new grounds begun (script.another {mid = mid} {met = met} {begun = next} left round is_met starts rest) up =
    absurd (not_met ballot met id (round_ends m era ballot rules id mid view met grounds begun round (up_before era met new (another_keeps m rules id key program (tries - 1) mid after met next new starts rest) up)) is_met)

-- ---- the end
-- a desk that is down is down once its call has ended
end_down : {S V : Type 0} (m : Meaning S V) (old new : View S V) (id : ℕ) (told : Answer) (desk : DeskView V) → StepEnd m old id told new → IsAt old.desks id desk → desk.down ≡ true → (now : DeskView V) × IsAt new.desks id now × (now.down ≡ true)
end_down {S} {V} m old new id told desk by at down = (
  by.ends.now,
  desk_by old new id by.ends.desk by.ends.now by.ends.at_desk (ap (λ (w : View S V). w.desks) by.ends.view),
  elim by.ends.closed [
    | inl was ↦ ap (λ (d : DeskView V). d.down) was.1 ∙ was_down
    | inr was ↦ ap (λ (d : DeskView V). d.down) was.2.desk ∙ was_down
  ],
)
  where
    was_down : by.ends.desk.down ≡ true
    was_down = ap (λ (d : DeskView V). d.down) (at_one old.desks id by.ends.at_desk at) ∙ down

answered : {S V : Type 0} (m : Meaning S V) (ballot : Ballot) (old new : View S V) (id : ℕ) (answer_is : Answer) → StepEnd m old id answer_is new → EndsWell ballot old id → ((desk : DeskView V) → IsAt new.desks id desk → desk.down ≡ false) → IsDoneOrNoMemory ballot answer_is
answered {S} {V} m ballot old new id answer_is by well up = by_end well
  where
    told : CallIsTold old id (Some answer_is)
    told = record { caller = by.of_call.caller; at_caller = by.of_call.at_caller; call = by.of_call.call; is_open = by.of_call.is_open; told_is = by.ends.told }

    as_told : (other : Answer) → CallIsTold old id (Some other) → other ≡ answer_is
    as_told other is = some_is (told_one old id (Some other) (Some answer_is) is told)

    by_end : EndsWell ballot old id → IsDoneOrNoMemory ballot answer_is
    by_end (untold is) = absurd (cc (told_one old id None (Some answer_is) is told))
    by_end (done state took is) = subst (IsDoneOrNoMemory ballot) (as_told (answer.Done state took ballot) is) refl
    by_end (no_memory proposed is) = subst (IsDoneOrNoMemory ballot) (as_told (answer.NoMemory proposed) is) tt
    by_end (goes_down is desk at down) = let now = end_down m old new id answer_is desk by at down in absurd (not_both now.0.down now.2 (up now.0 now.1))

-- a call that the record has room for is refused for want of memory alone
refused_well : {S V : Type 0} (ballot : Ballot) (world : View S V) (id : ℕ) (told : Answer) → HasRoom world id (round_marks (era_at world id)) → IsRefused world id told → IsDoneOrNoMemory ballot told
refused_well ballot world id told room (refusals.full no_room) = absurd (omega (arith, room, no_room))
refused_well ballot world id told room (refusals.no_memory fits) = tt

pub lines_are_done : {S V : Type 0} (m : Meaning S V) → ReadyLinesAreDone m
lines_are_done {S} {V} m tries old new asked told safe ready runs up =
    in_change (subst (λ (h : Halt). IsChangeByRules m tries old.rules asked.caller asked.key asked.program h old.world told runs.after new.world)
    (at_one old.halts asked.caller runs.at_halt ready.goes_on)
    (change_by m tries old.rules _ asked.caller asked.key asked.program runs.halt runs.after old.world new.world told runs.change))
  where
    ballot : Ballot
    ballot = next_ballot ready.all_ready.desk asked.key

    grounds : Grounds (era_at old.world asked.caller) old.rules
    grounds = has_grounds (era_at old.world asked.caller) old.rules (safe.course.sized asked.caller (omega (arith, low_at old.world.desks asked.caller ready.all_ready.at_desk, safe.sound.desks))) (safe.sound.prep_sets asked.caller) (safe.sound.acc_sets asked.caller) ready.delivers

    in_change : {answer_is : Answer} {after : Halt} → IsChangeByRules m tries old.rules asked.caller asked.key asked.program nowhere old.world answer_is after new.world
        → IsDoneOrNoMemory ballot answer_is
    in_change (script.refused refused by) = refused_well ballot old.world asked.caller _ ready.room refused
    in_change {answer_is} {after} (script.ended {begun = begun} {told = last} begin rounds end) =
        answered m ballot last new.world asked.caller answer_is end
        (rounds_end m (era_at old.world asked.caller) ballot old.rules asked.caller asked.key asked.program tries after begun last grounds (begins m old.world begun asked.caller asked.key asked.program safe ready.all_ready ready.no_call begin) rounds
        (up_before (era_at old.world asked.caller) last new.world (end_keeps m last new.world asked.caller answer_is end) up.members)) up.desk
