-- What the steps of a collection leave true of a cluster that nobody stops.
use Rattle.std.proofs.Common.{◌≡◌, ℕ, true, false, List, [], ◌∷◌, ◌++◌, Option, None, Some, refl, sym, ap, subst, ◌∙◌}
use Rattle.std.specs.Prelude.{length}
use Rattle.cas_ballot.specs.Members.{has_member}
use Rattle.cas_acceptor.specs.Acceptor.{AcceptorView}
use Rattle.cas_proposer.specs.Desk.{DeskView}
use Rattle.cas_quorum.specs.declared.era.Era.{Era}
use Rattle.cas_change.specs.declared.state.State.TheVariants.{Empty}
use Rattle.cas_record.specs.declared.answer.Answer.{Answer}
use Rattle.cas_record.specs.declared.answer.Answer.TheVariants as answer
use Rattle.cas_record.specs.declared.answer.Cause.TheVariants as cause
use Rattle.cas_record.specs.declared.mark.Mark.{Mark}
use Rattle.cas_record.specs.declared.mark.Mark.TheVariants.{Floor}
use Rattle.cas_record.specs.declared.operator.OpAnswer.{OpAnswer}
use Rattle.cas_record.specs.declared.operator.OpAnswer.TheVariants as told
use Rattle.cas_model.specs.Collection.State.{CollectionView, confirmed_step, tomb_of, new_collection, called}
use Rattle.cas_model.specs.Council.{Council, ExchangeView, OrderView}
use Rattle.cas_model.specs.Safe.{IsSafe}
use Rattle.cas_model.specs.Step.{StepBegin, StepCount, StepEnd}
use Rattle.cas_model.specs.Collection.Step as collect
use Rattle.cas_model.specs.Collection.Step.{keep_always, stopped_by, those_telling, is_removed, is_kept, StepBeginCollect, StepReadHeld, StepCountCollect, StepEndCollect, StepGatherRound, StepRenew, StepAskCollect, StepGatherCollect, StepMakeFloor}
use Rattle.cas_model.specs.Exchanges.Step.{everyone, new_exchange}
use Rattle.cas_model.specs.Calls.Desks.{Renews, FailsToRenew}
use Rattle.cas_model.specs.Stops.Step.{closed_by}
use Rattle.cas_model.specs.View.{Meaning, View, CallerView, era_at}
use Rattle.cas_model.proofs.Places.{some_is}
use Rattle.cas_board_world.specs.Blame.{blame_by_answer}
use Rattle.cas_board_world.specs.Steady.{AreBlamed, IsBlamedSince, IsFair, blame_if_said}
use Rattle.cas_board_world.proofs.Parts.{stays_above, desk_goes_on, on_callers, on_mark, on_council, on_telling, on_gathered}
use Rattle.cas_board_world.proofs.Callers.{begin_blamed, count_blamed, end_blamed, ended_desk, refuses_blamed}
use Rattle.cas_board_world.proofs.Councils.{broken_fair}
use Rattle.cas_board_world.proofs.Stops.{left_blamed, moved_fair, down_blamed}

-- a collection goes on so
on_collecting : {S V : Type 0} (m : Meaning S V) {were : List ℕ} {acceptors : List (AcceptorView S)} {desks : List (DeskView V)} {eras : List Era} {callers : List CallerView} {council : Council} {marks : List Mark}
    → AreBlamed m were acceptors desks eras callers council marks → (order : OrderView) (told : Option OpAnswer) (collection : CollectionView) → IsFair m acceptors desks (blame_if_said told)
    → AreBlamed m were acceptors desks eras callers (record council { order = Some (record order { told = told }); collection = Some collection }) marks
on_collecting m {were} {acceptors} {desks} {eras} {callers} {council} {marks} is order told collection fair =
    on_council m is (record council { order = Some (record order { told = told }); collection = Some collection }) fair is.exchange is.later is.asked

-- ---- its call
pub begin_collect_blamed : {S V : Type 0} {were : List ℕ} (m : Meaning S V) (old : View S V) (key : List ℕ) (new : View S V) → IsSafe old → IsBlamedSince m were old → StepBeginCollect m (λ before after. StepBegin m before 0 key keep_always after) old key new → IsBlamedSince m were new
begin_collect_blamed {S} {V} {were} m old key new safe is by = by_case by.begins
  where
    by_case : collect.BeginsCollection m (λ before after. StepBegin m before 0 key keep_always after) old key by.may.order by.desk by.caller new → IsBlamedSince m were new
    by_case (collect.is_down idle down view) = subst (IsBlamedSince m were) (sym view) (on_telling m is (told.Stopped answer.Down) (record { one = by.desk; at = by.may.at_desk; failed = is.failed 0 by.desk by.may.at_desk down }))
    by_case (collect.is_busy plan idle up busy view) = subst (IsBlamedSince m were) (sym view) (on_telling m is (told.Busy (era_at old 0).number) tt)
    by_case (collect.is_full idle up none full view) = subst (IsBlamedSince m were) (sym view) (on_telling m is (told.Stopped answer.RecordFull) tt)
    by_case (collect.no_memory middle idle up none refuses view) = subst (IsBlamedSince m were) (sym view) (on_telling m (refuses_blamed m old 0 key middle is refuses) (told.Stopped (answer.NoMemory false)) tt)
    by_case (collect.begins middle idle none begins view) = subst (IsBlamedSince m were) (sym view) (on_collecting m (begin_blamed m old 0 key keep_always middle safe is begins) by.may.order None (new_collection key (era_at old 0) old.last_proposer) tt)
    by_case (collect.goes_on middle call at is_open begins view) = subst (IsBlamedSince m were) (sym view) (on_collecting m (begin_blamed m old 0 key keep_always middle safe is begins) by.may.order None at.at.collection tt)

pub read_held_blamed : {S V : Type 0} {were : List ℕ} (m : Meaning S V) (old new : View S V) → IsBlamedSince m were old → StepReadHeld m old new → IsBlamedSince m were new
read_held_blamed {S} {V} {were} m old new is by =
    subst (IsBlamedSince m were) (sym by.view) (on_collecting m (on_callers m (ended_desk m is 0 by.desk by.now by.round by.at_desk by.ends) 0 (record by.of_call.caller { call = None }) tt) by.is.at.order None _ tt)

pub count_collect_blamed : {S V : Type 0} {were : List ℕ} (m : Meaning S V) (old new : View S V) → IsBlamedSince m were old → StepCountCollect (λ before after. StepCount m before 0 after) old new → IsBlamedSince m were new
count_collect_blamed {S} {V} {were} m old new is by = subst (IsBlamedSince m were) (sym by.view) (on_collecting m (count_blamed m old 0 by.middle is by.counts) by.is.at.order None by.now tt)

stopped_fair : {S V : Type 0} (m : Meaning S V) (acceptors : List (AcceptorView S)) (desks : List (DeskView V)) (said : Answer) → IsFair m acceptors desks (blame_by_answer 0 said) → IsFair m acceptors desks (blame_if_said (stopped_by said))
stopped_fair m acceptors desks (answer.Done state took ballot) fair = tt
stopped_fair m acceptors desks said fair = fair

pub end_collect_blamed : {S V : Type 0} {were : List ℕ} (m : Meaning S V) (old : View S V) (said : Answer) (new : View S V) → IsBlamedSince m were old → StepEndCollect (λ before after. StepEnd m before 0 said after) old said new → IsBlamedSince m were new
end_collect_blamed {S} {V} {were} m old said new is by =
    let ended = end_blamed m old 0 said by.middle is by.ends in
    subst (IsBlamedSince m were) (sym by.view) (on_collecting m ended.0 by.is.at.order (stopped_by said) (called by.is.at.collection) (stopped_fair m by.middle.acceptors by.middle.desks said ended.1))

pub gather_round_blamed : {S V : Type 0} {were : List ℕ} (m : Meaning S V) (old new : View S V) → IsBlamedSince m were old → StepGatherRound old new → IsBlamedSince m were new
gather_round_blamed {S} {V} {were} m old new is by = by_case by.gathers
  where
    by_case : collect.GathersRound old by.at new → IsBlamedSince m were new
    by_case (collect.all ballot by_them acknowledged each view) = subst (IsBlamedSince m were) (sym view) (on_collecting m is by.at.order None (confirmed_step by.at.collection) tt)
    by_case (collect.is_absent ballot by_them acceptor acknowledged least view) = subst (IsBlamedSince m were) (sym view) (on_telling m is (told.Absent acceptor) tt)
    by_case (collect.is_held version held view) = subst (IsBlamedSince m were) (sym view) (on_telling m is (told.NotEmpty version) tt)

-- ---- renewals
pub renew_blamed : {S V : Type 0} {were : List ℕ} (m : Meaning S V) (old : View S V) (proposer : ℕ) (new : View S V) → IsBlamedSince m were old → StepRenew m old proposer new → IsBlamedSince m were new
renew_blamed {S} {V} {were} m old proposer new is by = by_case by.renews
  where
    by_case : collect.RenewsNext m old by.at proposer by.desk new → IsBlamedSince m were new
    by_case (collect.renews age middle leaves view) =
        subst (IsBlamedSince m were) (sym view) (on_collecting m
        (left_blamed m (Renews m.disks by.at.collection.course.key (tomb_of by.at.collection.tombstone) age) (closed_by (answer.Aged age) (cause.Aged age)) old proposer middle is (λ desk now at renews. record {
          stays = stays_above renews.goes_on.never_falls;
          failed = λ down. absurd (cc (sym (ap (λ (d : DeskView V). d.down) renews.desk ∙ renews.up) ∙ down));
          call = moved_fair m old proposer (answer.Aged age) (cause.Aged age) now refl refl;
        }) leaves) by.at.order None (record (confirmed_step by.at.collection) { ages = by.at.collection.ages ++ age ∷ [] }) tt)
    by_case (collect.is_down down view) = subst (IsBlamedSince m were) (sym view) (on_telling m is (told.ProposerDown proposer) (record { one = by.desk; at = by.at_desk; failed = is.failed proposer by.desk by.at_desk down }))
    by_case (collect.fails middle down view) =
        let failed = down_blamed m (FailsToRenew m.disks _) old proposer middle is (λ desk now fails. fails.faulted) down in
        subst (IsBlamedSince m were) (sym view) (on_telling m failed.0 (told.ProposerDown proposer) failed.1)
    by_case (collect.is_spent up spent view) = subst (IsBlamedSince m were) (sym view) (on_telling m is (told.Stopped answer.Spent) tt)
    by_case (collect.no_memory now up finds view) =
        subst (IsBlamedSince m were) (sym view) (on_telling m (desk_goes_on m is proposer by.desk now by.at_desk (stays_above finds.goes_on.never_falls) (ap (λ (d : DeskView V). d.down) finds.desk)) (told.Stopped (answer.NoMemory false)) tt)

-- ---- all members are asked
pub ask_collect_blamed : {S V : Type 0} {were : List ℕ} (m : Meaning S V) (old new : View S V) → IsBlamedSince m were old → StepAskCollect m old new → IsBlamedSince m were new
ask_collect_blamed {S} {V} {were} m old new is by = by_case by.asks
  where
    by_case : collect.AsksCollect m old by.may.at by.desk new → IsBlamedSince m were new
    by_case (collect.asks question flow up asks room aged sends view) =
        subst (IsBlamedSince m were) (sym view) (on_council m is (record old.council { exchange = Some (new_exchange question (tomb_of by.may.at.collection.tombstone) (everyone old) (length old.marks) None) }) is.order tt is.later
        (λ exchange same acceptor member. is.in_eras 0 acceptor (subst (λ (e : ExchangeView). has_member e.members acceptor ≡ true) (sym (some_is same)) member)))
    by_case (collect.is_down down view) = subst (IsBlamedSince m were) (sym view) (on_telling m is (told.Stopped answer.Down) (record { one = by.desk; at = by.may.at_desk; failed = is.failed 0 by.desk by.may.at_desk down }))
    by_case (collect.is_full question up asks full view) = subst (IsBlamedSince m were) (sym view) (on_telling m is (told.Stopped answer.RecordFull) tt)
    by_case (collect.no_memory up view) = subst (IsBlamedSince m were) (sym view) (on_telling m is (told.Stopped (answer.NoMemory false)) tt)

pub gather_collect_blamed : {S V : Type 0} {were : List ℕ} (m : Meaning S V) (old new : View S V) → IsBlamedSince m were old → StepGatherCollect old new → IsBlamedSince m were new
gather_collect_blamed {S} {V} {were} m old new is by = by_case by.gathers
  where
    by_case : collect.GathersCollect old by.at by.of_exchange.exchange new → IsBlamedSince m were new
    by_case (collect.crashed down view) = subst (IsBlamedSince m were) (sym view) (on_gathered m is (told.Stopped answer.Crashed) (broken_fair m is by.of_exchange.exchange by.of_exchange.is_open down))
    by_case (collect.all up each view) =
        subst (IsBlamedSince m were) (sym view) (on_council m is
        (record old.council { order = Some (record by.at.order { told = None }); collection = Some (record (confirmed_step by.at.collection) { removed = length (those_telling is_removed by.of_exchange.exchange.told); kept = length (those_telling is_kept by.of_exchange.exchange.told) }); exchange = None })
        tt tt is.later (λ exchange none. absurd (cc none)))
    by_case (collect.is_absent acceptor up least view) = subst (IsBlamedSince m were) (sym view) (on_gathered m is (told.Absent acceptor) tt)

pub make_floor_blamed : {S V : Type 0} {were : List ℕ} (m : Meaning S V) (old new : View S V) → IsBlamedSince m were old → StepMakeFloor old new → IsBlamedSince m were new
make_floor_blamed {S} {V} {were} m old new is by =
    subst (IsBlamedSince m were) (sym by.view) (on_mark m (on_collecting m is by.at.order None (record (confirmed_step by.at.collection) { reserved = 0 }) tt) (Floor by.at.collection.course.key (tomb_of by.at.collection.tombstone) Empty) tt)
