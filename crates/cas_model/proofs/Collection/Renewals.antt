-- The proposers that were renewed for a collection stay so, whatever is called but what belongs to the collection itself.
use Rattle.std.proofs.Common.{◌≡◌, ℕ, List, [], Option, None, Some, sym, ap, subst, ◌∙◌, inl, inr}
use Rattle.std.specs.Prelude.{◌⊎◌, Contains, slice_set}
use Rattle.cas_proposer.specs.Desk.{DeskView}
use Rattle.cas_proposer.specs.declared.round.Round.{Round}
use Rattle.cas_ballot.specs.declared.ballot.Ballot.{Ballot}
use Rattle.cas_cache.specs.declared.ready.Ready.{Ready}
use Rattle.cas_cache.specs.Entries.{without}
use Rattle.cas_model.proofs.Calls.Failing.{failed_without, failed_still}
use Rattle.cas_change.specs.declared.program.Clause.{Clause}
use Rattle.cas_fate.specs.declared.fate.Verdict.{Verdict}
use Rattle.cas_flow.specs.declared.message.Message.{Message}
use Rattle.cas_quorum.specs.declared.era.Era.{Era}
use Rattle.cas_record.specs.declared.answer.Answer.{Answer}
use Rattle.cas_record.specs.declared.answer.Answer.TheVariants as answer
use Rattle.cas_record.specs.declared.answer.Cause.TheVariants as cause
use Rattle.cas_record.specs.declared.operator.Asked.{Asked}
use Rattle.cas_record.specs.declared.operator.OpAnswer.{OpAnswer}
use Rattle.cas_model.specs.Collection.Logged.{IsRenewed, AreRenewed}
use Rattle.cas_model.specs.Collection.State.{CollectionView, tomb_of}
use Rattle.cas_model.specs.Council.{Council, Question, ExchangeView, PlanView}
use Rattle.cas_model.specs.Step as step
use Rattle.cas_model.specs.Step.{Event, Step, StepCount, StepEnd, StepCrashAcceptor, StepRestartAcceptor, StepRestartProposer, OpenRoundAt}
use Rattle.cas_model.specs.Calls.Step as calls
use Rattle.cas_model.specs.Calls.Step.{Rescans}
use Rattle.cas_model.specs.Exchanges.Step as council
use Rattle.cas_model.specs.Calls.Desks.{VaultGoesOn, EndsRound, LosesMemory, FailsToDraw, Crashes, EntersEra, FailsToEnter}
use Rattle.cas_model.specs.Frames.Step as frames
use Rattle.cas_model.specs.Eras.Step as plans
use Rattle.cas_model.specs.Stops.Step as stops
use Rattle.cas_model.specs.Stops.Step.{LeavesRound, GoesDown, closed_by, closed_by_crash}
use Rattle.cas_model.specs.View.{Meaning, DiskMeaning, View, CallView, CallerView, IsAt}
use Rattle.cas_model.proofs.Calls.Asks.{where_drawn, tag_goes_on}
use Rattle.cas_model.proofs.Eras.InEras.{IsPlain, goes_on, then_on}
use Rattle.cas_model.proofs.Places.{same_or_not, own_set, other_set, contains_none}
use Rattle.cas_model.proofs.Collection.Renewing.{KeepsAbove, IsRenewedFor, same_above, idle_above, vault_above, prepares_above, promise_above, turns_above, hears_above, ends_above, ends_plainly_above, fewer_in}

-- ---- all desks
-- those of these desks that were renewed for the collection are so
abbrev pub AreHeld : {V : Type 0} → DiskMeaning V → Option CollectionView → List (DeskView V) → Type 0
AreHeld {V} m under_way desks = (collection : CollectionView) (proposer age : ℕ) (desk : DeskView V) → under_way ≡ Some collection → IsAt collection.ages proposer age → IsAt desks proposer desk
    → IsRenewed m collection.course.key (tomb_of collection.tombstone) age desk

pub of_one : {V : Type 0} (m : DiskMeaning V) (under_way : Option CollectionView) (desks : List (DeskView V)) (id : ℕ) (desk : DeskView V) → IsAt desks id desk → AreHeld m under_way desks → IsRenewedFor m under_way id desk
of_one m under_way desks id desk at were c age is at_age = were c id age desk is at_age at

pub held_on : {V : Type 0} (m : DiskMeaning V) (under_way under_way_now : Option CollectionView) (desks now : List (DeskView V)) → under_way_now ≡ under_way → now ≡ desks → AreHeld m under_way desks → AreHeld m under_way_now now
held_on {V} m under_way under_way_now desks now same_collection same_desks were = subst (λ (c : Option CollectionView). AreHeld m c now) (sym same_collection) (subst (AreHeld m under_way) (sym same_desks) were)

-- one was put in its place
pub held_set : {V : Type 0} (m : DiskMeaning V) (under_way : Option CollectionView) (desks : List (DeskView V)) (id : ℕ) (desk now : DeskView V) → IsAt desks id desk → KeepsAbove m desk now → AreHeld m under_way desks
    → AreHeld m under_way (slice_set desks id now)
held_set {V} m under_way desks id desk now at keeps were collection p age d is at_age at_d = by_place (same_or_not p id)
  where
    by_place : (p ≡ id) ⊎ (p ≡ id → ⊥) → IsRenewed m collection.course.key (tomb_of collection.tombstone) age d
    by_place (inl own) = subst (λ (x : DeskView V). IsRenewed m collection.course.key (tomb_of collection.tombstone) age x)
        (sym (own_set desks id now d (subst (λ (q : ℕ). IsAt (slice_set desks id now) q d) own at_d)))
        (keeps.renewed collection.course.key (tomb_of collection.tombstone) age (were collection id age desk is (subst (λ (q : ℕ). IsAt collection.ages q age) own at_age) at))
    by_place (inr other) = were collection p age d is at_age (other_set desks id now p d other at_d)

-- the view is another, with the same collection and desks, or with one desk put in its place
none_moved : {S V : Type 0} (m : Meaning S V) (old new : View S V) → new.council.collection ≡ old.council.collection → new.desks ≡ old.desks → AreRenewed m old → AreRenewed m new
none_moved m old new same desks were = held_on m.disks old.council.collection new.council.collection old.desks new.desks same desks were

one_moved : {S V : Type 0} (m : Meaning S V) (old new : View S V) (id : ℕ) (desk now : DeskView V) → new.council.collection ≡ old.council.collection → new.desks ≡ slice_set old.desks id now → IsAt old.desks id desk → KeepsAbove m.disks desk now
    → AreRenewed m old → AreRenewed m new
one_moved m old new id desk now same desks at keeps were =
    held_on m.disks old.council.collection new.council.collection (slice_set old.desks id now) new.desks same desks (held_set m.disks old.council.collection old.desks id desk now at keeps were)

-- ---- calls
collection_of : {S V : Type 0} {old new : View S V} → new ≡ old → new.council.collection ≡ old.council.collection
collection_of {S} {V} same = ap (λ (w : View S V). w.council.collection) same

desks_of : {S V : Type 0} {old new : View S V} → new ≡ old → new.desks ≡ old.desks
desks_of {S} {V} same = ap (λ (w : View S V). w.desks) same

pub opens_renewed : {S V : Type 0} (m : Meaning S V) (old middle : View S V) (id : ℕ) (key : List ℕ) (program : List Clause) → calls.Opens old id key program middle → AreRenewed m old → AreRenewed m middle
opens_renewed m old middle id key program (calls.first caller at none room is) were = none_moved m old middle (collection_of is) (desks_of is) were
opens_renewed m old middle id key program (calls.again caller call reserved at open_is key_is program_is none met no_round room some is) were = none_moved m old middle (collection_of is) (desks_of is) were

-- a draw that lost its memory, and one that failed
loses_above : {V : Type 0} (m : DiskMeaning V) (key : List ℕ) (old new : DeskView V) (ballot : Option Ballot) → m.tells → LosesMemory m key old new ballot → KeepsAbove m old new
loses_above m key old new ballot tells by =
    let on = then_on (goes_on m old.id old.vault by.middle ballot by.drawn) by.goes_on in
    idle_above m old new (on.still_past tells) (on.ages tells) (ap (λ (d : DeskView _). d.round) by.desk) (fewer_in key old.cache new.cache by.cache)

fails_above : {V : Type 0} (m : DiskMeaning V) (key : List ℕ) {promises : List (List ℕ × Ready)} (old new : DeskView V) → m.tells → FailsToDraw m promises old new
    → (new.cache ≡ old.cache) ⊎ (new.cache ≡ without key old.cache)
    → KeepsAbove m old new
fails_above m key old new tells by fewer = idle_above m old new (by.goes_on.still_past tells) (by.goes_on.ages tells) (ap (λ (d : DeskView _). d.round) by.desk) (fewer_in key old.cache new.cache fewer)

begins_renewed : {S V : Type 0} (m : Meaning S V) (old new : View S V) (id : ℕ) (caller : CallerView) (call : CallView) → m.disks.tells → calls.BeginsRound m old id caller call new → AreRenewed m old → AreRenewed m new
begins_renewed m old new id caller call tells (calls.prepares desk now ballot round flow at up few begins sends is) were =
    one_moved m old new id desk now (collection_of is) (desks_of is) at (prepares_above m.disks _ call.key desk now ballot round tells begins) were
begins_renewed m old new id caller call tells (calls.proposes desk now ready ride round outcome flow at up few begins made sends is) were =
    one_moved m old new id desk now (collection_of is) (desks_of is) at (promise_above m.disks _ call.key desk now ready ride round tells begins) were
begins_renewed m old new id caller call tells (calls.stays told no_beginning no_round full is) were = none_moved m old new (collection_of is) (desks_of is) were
begins_renewed m old new id caller call tells (calls.spent desk now at none up no_promise spent kept now_is is) were =
    one_moved m old new id desk now (collection_of is) (desks_of is) at
    (vault_above m.disks desk now (kept.goes_on.still_past tells) (kept.goes_on.ages tells) (ap (λ (d : DeskView _). d.round) now_is) (ap (λ (d : DeskView _). d.cache) now_is)) were
begins_renewed m old new id caller call tells (calls.fails desk now at none up fails is) were = one_moved m old new id desk now (collection_of is) (desks_of is) at (fails_above m.disks call.key desk now tells fails (failed_without m.disks call.key desk now fails)) were
begins_renewed m old new id caller call tells (calls.loses desk now ballot at none up loses is) were = one_moved m old new id desk now (collection_of is) (desks_of is) at (loses_above m.disks call.key desk now ballot tells loses) were

-- what becomes of a rescan leaves the collection
pub rescan_collection : (old : Council) (id : ℕ) (key : List ℕ) (told : Answer) (new : Council) → Rescans old id key told new → new.collection ≡ old.collection
rescan_collection old id key told new (calls.rescans of done same) = ap (λ (c : Council). c.collection) same
rescan_collection old id key told new (calls.stops of undone same) = ap (λ (c : Council). c.collection) same
rescan_collection old id key told new (calls.is_none none same) = ap (λ (c : Council). c.collection) same

-- ---- rounds
call_renewed : {S V : Type 0} (m : Meaning S V) (old new : View S V) (id : ℕ) (key : List ℕ) → m.disks.tells → calls.RefusesCall m old id key new → AreRenewed m old → AreRenewed m new
call_renewed m old new id key tells (calls.stays told council why rescan is) were = none_moved m old new (collection_of is ∙ rescan_collection old.council id key told council rescan) (desks_of is) were
call_renewed m old new id key tells (calls.loses caller desk now ballot council at_caller at none up loses rescan is) were =
    one_moved m old new id desk now (collection_of is ∙ rescan_collection old.council id key _ council rescan) (desks_of is) at (loses_above m.disks key desk now ballot tells loses) were

turn_renewed : {S V : Type 0} (m : Meaning S V) (old new : View S V) (id : ℕ) (v : Verdict) (front : Message) (caller : CallerView) (call : CallView) → frames.TakesTurn m old id v front caller call new → AreRenewed m old → AreRenewed m new
turn_renewed m old new id v front caller call (frames.held fall is) were = none_moved m old new (collection_of is) (desks_of is) were
turn_renewed m old new id v front caller call (frames.gone fall is) were = none_moved m old new (collection_of is) (desks_of is) were
turn_renewed m old new id v front caller call (frames.answers request acceptor now reply fall front_is at table is) were = none_moved m old new (collection_of is) (desks_of is) were
turn_renewed m old new id v front caller call (frames.finds_down request acceptor fall front_is at down is) were = none_moved m old new (collection_of is) (desks_of is) were
turn_renewed m old new id v front caller call (frames.brings_down request acceptor now fall front_is at stops is) were = none_moved m old new (collection_of is) (desks_of is) were
turn_renewed m old new id v front caller call (frames.arrives reply desk now round heard fall front_is at is_round hears is) were =
    one_moved m old new id desk now (collection_of is) (desks_of is) at (hears_above m.disks desk now round heard is_round hears) were

no_room_renewed : {S V : Type 0} (m : Meaning S V) (old new : View S V) → frames.FindsNoRoom m old new → AreRenewed m old → AreRenewed m new
no_room_renewed m old new (frames.stays is) were = none_moved m old new (collection_of is) (desks_of is) were
no_room_renewed m old new (frames.kept at acceptor now there finds is) were = none_moved m old new (collection_of is) (desks_of is) were

propose_renewed : {S V : Type 0} (m : Meaning S V) (old new : View S V) (id : ℕ) (at : OpenRoundAt old id) → m.disks.tells → calls.ProposesOrEnds m old id at.desk at.round at.of_call.caller at.of_call.call new → AreRenewed m old → AreRenewed m new
propose_renewed m old new id at tells (calls.proposes now turned read by ride outcome flow quorum confirmers reads turns made sends is) were =
    one_moved m old new id at.desk now (collection_of is) (desks_of is) at.at_desk (turns_above m.disks at.desk now at.round turned ride tells at.is_open turns) were
propose_renewed m old new id at tells (calls.ends now verdict told verdict_is refuses ends is) were = one_moved m old new id at.desk now (collection_of is) (desks_of is) at.at_desk (ends_plainly_above m.disks at.desk now at.round tells ends) were
propose_renewed m old new id at tells (calls.fails now fails is) were = one_moved m old new id at.desk now (collection_of is) (desks_of is) at.at_desk (fails_above m.disks at.round.key at.desk now tells fails (failed_without m.disks at.round.key at.desk now fails)) were
propose_renewed m old new id at tells (calls.loses now ballot loses is) were = one_moved m old new id at.desk now (collection_of is) (desks_of is) at.at_desk (loses_above m.disks at.round.key at.desk now ballot tells loses) were

count_renewed : {S V : Type 0} (m : Meaning S V) (old new : View S V) (id : ℕ) (at : OpenRoundAt old id) → m.disks.tells → calls.CountsOrEnds m old id at.desk at.round at.of_call.caller at.of_call.call new → AreRenewed m old → AreRenewed m new
count_renewed m old new id at tells (calls.counts now by outcome quorum confirmers proposed ends is) were =
    one_moved m old new id at.desk now (collection_of is) (desks_of is) at.at_desk (ends_above m.disks at.desk now at.round outcome.state by tells at.is_open ends) were
count_renewed m old new id at tells (calls.ends now verdict why verdict_is cause ends is) were = one_moved m old new id at.desk now (collection_of is) (desks_of is) at.at_desk (ends_plainly_above m.disks at.desk now at.round tells ends) were

end_renewed : {S V : Type 0} (m : Meaning S V) (old new : View S V) (id : ℕ) (told : Answer) → m.disks.tells → StepEnd m old id told new → AreRenewed m old → AreRenewed m new
end_renewed m old new id told tells by were =
    one_moved m old new id by.ends.desk by.ends.now (collection_of by.ends.view ∙ rescan_collection old.council id by.of_call.call.key told by.ends.council by.ends.rescans) (desks_of by.ends.view) by.ends.at_desk (by_round by.ends.closed) were
  where
    by_round : ((by.ends.desk.round ≡ None) × (by.ends.now ≡ by.ends.desk)) ⊎ ((round : Round) × (by.ends.desk.round ≡ Some round) × EndsRound m.disks by.ends.desk by.ends.now round None) → KeepsAbove m.disks by.ends.desk by.ends.now
    by_round (inl none) = same_above m.disks by.ends.desk by.ends.now none.1
    by_round (inr some) = ends_plainly_above m.disks by.ends.desk by.ends.now some.0 tells some.2

stray_renewed : {S V : Type 0} (m : Meaning S V) (old new : View S V) (index : ℕ) (late : Message) → frames.Strays m old index late new → AreRenewed m old → AreRenewed m new
stray_renewed m old new index late (frames.answers request acceptor now reply late_is at table is) were = none_moved m old new (collection_of is) (desks_of is) were
stray_renewed m old new index late (frames.brings_down request acceptor now late_is at stops is) were = none_moved m old new (collection_of is) (desks_of is) were
stray_renewed m old new index late (frames.arrives reply desk now round heard late_is at is_round hears is) were = one_moved m old new reply.to desk now (collection_of is) (desks_of is) at (hears_above m.disks desk now round heard is_round hears) were
stray_renewed m old new index late (frames.drops ignored is) were = none_moved m old new (collection_of is) (desks_of is) were

-- ---- stops
stop_renewed : {S V : Type 0} (m : Meaning S V) (old new : View S V) (id : ℕ) → StepCrashAcceptor m old id new → AreRenewed m old → AreRenewed m new
stop_renewed m old new id (step.crashes acceptor now at crashes is) were = none_moved m old new (collection_of is) (desks_of is) were

pub start_renewed : {S V : Type 0} (m : Meaning S V) (old new : View S V) (id : ℕ) → StepRestartAcceptor m old id new → AreRenewed m old → AreRenewed m new
start_renewed m old new id (step.was_up acceptor at up is) were = none_moved m old new (collection_of is) (desks_of is) were
start_renewed m old new id (step.starts acceptor now at starts is) were = none_moved m old new (collection_of is) (desks_of is) were
start_renewed m old new id (step.fails acceptor now at fails is) were = none_moved m old new (collection_of is) (desks_of is) were

pub crash_above : {V : Type 0} (m : DiskMeaning V) (old new : DeskView V) → m.tells → Crashes m old new → KeepsAbove m old new
crash_above {V} m old new tells by = idle_above m old new (by.goes_on.still_past tells) (by.goes_on.ages tells) (ap (λ (d : DeskView V). d.round) by.crashed)
    (λ entry h. absurd (contains_none (subst (λ (l : List (List ℕ × Ready)). Contains l entry) (ap (λ (d : DeskView V). d.cache) by.crashed) h)))

-- a desk that leaves its round, or goes down
pub left_renewed : {S V : Type 0} (m : Meaning S V) (old new : View S V) (id : ℕ) (DeskTurns : DeskView V → DeskView V → Type 0) (closed : CallView → CallView) → ((desk now : DeskView V) → DeskTurns desk now → KeepsAbove m.disks desk now)
    → LeavesRound DeskTurns closed old id new → AreRenewed m old → AreRenewed m new
left_renewed m old new id DeskTurns closed keeps (stops.idle desk now at none by is) were = one_moved m old new id desk now (collection_of is) (desks_of is) at (keeps desk now by) were
left_renewed m old new id DeskTurns closed keeps (stops.closes desk now round at_call at is_round by is) were = one_moved m old new id desk now (collection_of is) (desks_of is) at (keeps desk now by) were

pub down_renewed : {S V : Type 0} (m : Meaning S V) (old new : View S V) (id : ℕ) (DeskTurns : DeskView V → DeskView V → Type 0) → ((desk now : DeskView V) → DeskTurns desk now → KeepsAbove m.disks desk now)
    → GoesDown DeskTurns old id new → AreRenewed m old → AreRenewed m new
down_renewed m old new id DeskTurns keeps (stops.of_client client leaves) were = left_renewed m old new id DeskTurns closed_by_crash keeps leaves were
down_renewed m old new id DeskTurns keeps (stops.of_operator middle operator leaves is) were =
    none_moved m middle new (collection_of is) (desks_of is) (left_renewed m old middle id DeskTurns closed_by_crash keeps leaves were)

restart_renewed : {S V : Type 0} (m : Meaning S V) (old new : View S V) (id : ℕ) → m.disks.tells → StepRestartProposer m old id new → AreRenewed m old → AreRenewed m new
restart_renewed m old new id tells (step.was_up_already desk at up is) were = none_moved m old new (collection_of is) (desks_of is) were
restart_renewed {S} {V} m old new id tells (step.restarts desk now caller at at_caller down by is) were =
    one_moved m old new id desk now (collection_of is) (desks_of is) at
    (vault_above m.disks desk now (by.still_past tells) (by.ages tells) (ap (λ (d : DeskView V). d.round) by.desk) (ap (λ (d : DeskView V). d.cache) by.desk)) were

-- ---- the operator's calls
-- with its call a collection is over
tell_renewed : {S V : Type 0} (m : Meaning S V) (old new : View S V) (answer : OpAnswer) → council.StepTell old answer new → AreRenewed m new
tell_renewed {S} {V} m old new answer (council.tells order said is_open told same is) collection proposer age desk is_some = absurd (cc (is_some, ap (λ (w : View S V). w.council.collection) is))
tell_renewed {S} {V} m old new answer (council.finishes order is_open by is) collection proposer age desk is_some = absurd (cc (is_some, ap (λ (w : View S V). w.council.collection) is))
tell_renewed {S} {V} m old new answer (council.collects order is_open by is) collection proposer age desk is_some = absurd (cc (is_some, ap (λ (w : View S V). w.council.collection) is))

ask_renewed : {S V : Type 0} (m : Meaning S V) (old new : View S V) (question : Question) → m.disks.tells → council.StepAskAll m old question new → AreRenewed m old → AreRenewed m new
ask_renewed {S} {V} m old new question tells by were = in_case by.asks
  where
    at : IsAt old.desks 0 by.desk
    at = by.may.at_desk

    on : (now : DeskView V) → now ≡ record by.desk { vault = now.vault } → VaultGoesOn m.disks by.desk.vault now.vault → KeepsAbove m.disks by.desk now
    on now is_now goes = vault_above m.disks by.desk now (goes.still_past tells) (goes.ages tells) (ap (λ (d : DeskView V). d.round) is_now) (ap (λ (d : DeskView V). d.cache) is_now)

    in_case : council.AsksAll m old question by.desk new → AreRenewed m new
    in_case (council.asks now tag flow up room tagged is_now sends is) = one_moved m old new 0 by.desk now (collection_of is) (desks_of is) at (on now is_now (tag_goes_on m.disks (council.listing_for old.council question) by.desk now tag tagged.has_tag)) were
    in_case (council.is_down down is) = none_moved m old new (collection_of is) (desks_of is) were
    in_case (council.is_full up full is) = none_moved m old new (collection_of is) (desks_of is) were
    in_case (council.is_spent now up spent kept is_now is) = one_moved m old new 0 by.desk now (collection_of is) (desks_of is) at (on now is_now kept.goes_on) were
    in_case (council.fails now up fails is) =
        let failed = where_drawn (council.listing_for old.council question) fails in
        one_moved m old new 0 by.desk now (collection_of is) (desks_of is) at (fails_above m.disks [] by.desk now tells failed (failed_still m.disks [] by.desk now failed)) were
    in_case (council.no_memory now tag up loses is) = one_moved m old new 0 by.desk now (collection_of is) (desks_of is) at (loses_above m.disks [] by.desk now tag tells loses) were

exchange_renewed : {S V : Type 0} (m : Meaning S V) (old new : View S V) (v : Verdict) (front : Message) (exchange : ExchangeView) → council.TurnsExchange m old v front exchange new → AreRenewed m old → AreRenewed m new
exchange_renewed m old new v front exchange (council.held fall is) were = none_moved m old new (collection_of is) (desks_of is) were
exchange_renewed m old new v front exchange (council.gone fall is) were = none_moved m old new (collection_of is) (desks_of is) were
exchange_renewed m old new v front exchange (council.answers request acceptor now reply fall front_is at table is) were = none_moved m old new (collection_of is) (desks_of is) were
exchange_renewed m old new v front exchange (council.finds_down request acceptor fall front_is at down is) were = none_moved m old new (collection_of is) (desks_of is) were
exchange_renewed m old new v front exchange (council.brings_down request acceptor now fall front_is at stops is) were = none_moved m old new (collection_of is) (desks_of is) were
exchange_renewed m old new v front exchange (council.arrives reply fall front_is to_it is) were = none_moved m old new (collection_of is) (desks_of is) were

gather_renewed : {S V : Type 0} (m : Meaning S V) (old new : View S V) (exchange : ExchangeView) → council.Gathers old exchange new → AreRenewed m old → AreRenewed m new
gather_renewed m old new exchange (council.crashed down is) were = none_moved m old new (collection_of is) (desks_of is) were
gather_renewed m old new exchange (council.probed key found up question plain keeps is) were = none_moved m old new (collection_of is) (desks_of is) were
gather_renewed m old new exchange (council.read key era found marks up question reads keeps counts is) were = none_moved m old new (collection_of is) (desks_of is) were
gather_renewed m old new exchange (council.lists lists_for listing up enough on is) were = none_moved m old new (collection_of is) (desks_of is) were
gather_renewed m old new exchange (council.is_short lists_for short up missing is) were = none_moved m old new (collection_of is) (desks_of is) were
gather_renewed m old new exchange (council.no_memory up is) were = none_moved m old new (collection_of is) (desks_of is) were

-- ---- changes of membership
welcome_renewed : {S V : Type 0} (m : Meaning S V) (old new : View S V) (asked : Asked) → plans.Welcomes m old asked new → AreRenewed m old → AreRenewed m new
welcome_renewed m old new asked (plans.starts id acceptor now joins at starts is) were = none_moved m old new (collection_of is) (desks_of is) were
welcome_renewed m old new asked (plans.fails id acceptor now joins at fails is) were = none_moved m old new (collection_of is) (desks_of is) were
welcome_renewed m old new asked (plans.is_up id acceptor joins at up is) were = none_moved m old new (collection_of is) (desks_of is) were
welcome_renewed m old new asked (plans.stays joins_none is) were = none_moved m old new (collection_of is) (desks_of is) were

plan_renewed : {S V : Type 0} (m : Meaning S V) (old new : View S V) (asked : Asked) (desk : DeskView V) → plans.OpensPlan m old asked desk new → AreRenewed m old → AreRenewed m new
plan_renewed m old new asked desk (plans.is_down down is) were = none_moved m old new (collection_of is) (desks_of is) were
plan_renewed m old new asked desk (plans.is_busy plan up busy is) were = none_moved m old new (collection_of is) (desks_of is) were
plan_renewed m old new asked desk (plans.refuses fault up none planned is) were = none_moved m old new (collection_of is) (desks_of is) were
plan_renewed m old new asked desk (plans.opens progress middle up none planned welcomes is) were = none_moved m middle new (collection_of is) (desks_of is) (welcome_renewed m old middle asked welcomes were)
plan_renewed m old new asked desk (plans.no_memory progress middle up none planned welcomes is) were = none_moved m middle new (collection_of is) (desks_of is) (welcome_renewed m old middle asked welcomes were)

enter_renewed : {S V : Type 0} (m : Meaning S V) (old new : View S V) (plan : PlanView) (next : Era) (desk : DeskView V) → m.disks.tells → IsAt old.desks plan.entered desk → plans.EntersNext m old plan next desk new → AreRenewed m old → AreRenewed m new
enter_renewed {S} {V} m old new plan next desk tells at (plans.enters middle room leaves is) were =
    none_moved m middle new (collection_of is) (desks_of is)
    (left_renewed m old middle plan.entered (EntersEra m.disks next) (closed_by (answer.Moved next.number) (cause.Moved next.number))
    (λ d now by. idle_above m.disks d now (by.still_past tells) (by.ages tells) (ap (λ (x : DeskView V). x.round) by.desk)
    (λ entry h. absurd (contains_none (subst (λ (l : List (List ℕ × Ready)). Contains l entry) (ap (λ (x : DeskView V). x.cache) by.desk) h)))) leaves were)
enter_renewed m old new plan next desk tells at (plans.is_full full is) were = none_moved m old new (collection_of is) (desks_of is) were
enter_renewed m old new plan next desk tells at (plans.is_down room down is) were = none_moved m old new (collection_of is) (desks_of is) were
enter_renewed {S} {V} m old new plan next desk tells at (plans.fails middle room down is) were =
    none_moved m middle new (collection_of is) (desks_of is)
    (down_renewed m old middle plan.entered (FailsToEnter m.disks next)
    (λ d now by. idle_above m.disks d now (by.still_past tells) (by.ages tells) (ap (λ (x : DeskView V). x.round) by.crashed)
    (λ entry h. absurd (contains_none (subst (λ (l : List (List ℕ × Ready)). Contains l entry) (ap (λ (x : DeskView V). x.cache) by.crashed) h)))) down were)
enter_renewed {S} {V} m old new plan next desk tells at (plans.no_memory now room up kept is_now is) were =
    one_moved m old new plan.entered desk now (collection_of is) (desks_of is) at
    (vault_above m.disks desk now (kept.goes_on.still_past tells) (kept.goes_on.ages tells) (ap (λ (d : DeskView V). d.round) is_now) (ap (λ (d : DeskView V). d.cache) is_now)) were

-- ---- all of them
pub renews_on : {S V : Type 0} (m : Meaning S V) (old : View S V) (event : Event) (new : View S V) → m.disks.tells → IsPlain event → Step m old event new → AreRenewed m old → AreRenewed m new
renews_on m old (step.Begin id key program) new tells plain by were = begins_renewed m by.middle new id by.caller by.call tells by.begins (opens_renewed m old by.middle id key program by.opens were)
renews_on m old (step.RefuseBegin id key) new tells plain by were = call_renewed m old new id key tells by were
renews_on m old (step.Turn id verdict) new tells plain by were = turn_renewed m old new id verdict by.front by.of_call.caller by.of_call.call by.turn were
renews_on m old (step.RefuseTurn id) new tells plain by were = none_moved m by.middle new (collection_of by.view) (desks_of by.view) (no_room_renewed m old by.middle by.refuses were)
renews_on m old (step.Propose id) new tells plain by were = propose_renewed m old new id by.at_round tells by.proposes were
renews_on m old (step.Count id) new tells plain by were = count_renewed m old new id by.at_round tells by.counts were
renews_on m old (step.End id told) new tells plain by were = end_renewed m old new id told tells by were
renews_on m old (step.Stray index) new tells plain by were = stray_renewed m old new index by.late by.strays were
renews_on m old step.RefuseStray new tells plain by were = no_room_renewed m old new by were
renews_on m old (step.CrashAcceptor id) new tells plain by were = stop_renewed m old new id by were
renews_on m old (step.RestartAcceptor id) new tells plain by were = start_renewed m old new id by were
renews_on m old (step.CrashProposer id) new tells plain by were = down_renewed m old new id (Crashes m.disks) (λ desk now crash. crash_above m.disks desk now tells crash) by were
renews_on m old (step.RestartProposer id) new tells plain by were = restart_renewed m old new id tells by were
renews_on m old (step.Order asked) new tells plain by were = none_moved m old new (collection_of by.view) (desks_of by.view) were
renews_on m old step.RefuseOrder new tells plain by were = none_moved m old new (collection_of by) (desks_of by) were
renews_on m old (step.Tell told) new tells plain by were = tell_renewed m old new told by
renews_on m old (step.AskAll question) new tells plain by were = ask_renewed m old new question tells by were
renews_on m old (step.TurnExchange verdict) new tells plain by were = exchange_renewed m old new verdict by.front by.at.exchange by.turn were
renews_on m old step.RefuseTurnExchange new tells plain by were = none_moved m by.middle new (collection_of by.view) (desks_of by.view) (no_room_renewed m old by.middle by.refuses were)
renews_on m old step.Gather new tells plain by were = gather_renewed m old new by.at.exchange by.gathers were
renews_on m old step.RefuseKey new tells plain by were = none_moved m old new (collection_of by.view) (desks_of by.view) were
renews_on m old step.OpenPlan new tells plain by were = plan_renewed m old new by.order.asked by.desk by.opens were
renews_on m old (step.EnterEra id) new tells plain by were = enter_renewed m old new by.plan by.next by.desk tells by.may.at_desk by.enters were
renews_on m old (step.BeginCollect key) new tells plain by were = absurd plain
renews_on m old step.ReadHeld new tells plain by were = absurd plain
renews_on m old step.CountCollect new tells plain by were = absurd plain
renews_on m old (step.EndCollect told) new tells plain by were = absurd plain
renews_on m old step.GatherRound new tells plain by were = absurd plain
renews_on m old (step.Renew proposer) new tells plain by were = absurd plain
renews_on m old step.AskCollect new tells plain by were = absurd plain
renews_on m old step.GatherCollect new tells plain by were = absurd plain
renews_on m old step.MakeFloor new tells plain by were = absurd plain

-- ---- the collection
-- a round that is counted, a call that ends and a desk that leaves its round change nothing of it
pub counted_collection : {S V : Type 0} (m : Meaning S V) (old new : View S V) {id : ℕ} → StepCount m old id new → new.council.collection ≡ old.council.collection
counted_collection {S} {V} m old new {id} by = in_phase by.counts
  where
    in_phase : calls.CountsOrEnds m old id by.at_round.desk by.at_round.round by.at_round.of_call.caller by.at_round.of_call.call new → new.council.collection ≡ old.council.collection
    in_phase (calls.counts now members outcome quorum confirmers proposed ends is) = collection_of is
    in_phase (calls.ends now verdict why verdict_is cause ends is) = collection_of is

pub ended_collection : {S V : Type 0} (m : Meaning S V) (old new : View S V) (told : Answer) {id : ℕ} → StepEnd m old id told new → new.council.collection ≡ old.council.collection
ended_collection m old new told {id} by = collection_of by.ends.view ∙ rescan_collection old.council id by.of_call.call.key told by.ends.council by.ends.rescans

pub left_collection : {S V : Type 0} (old new : View S V) (id : ℕ) (DeskTurns : DeskView V → DeskView V → Type 0) (closed : CallView → CallView) → LeavesRound DeskTurns closed old id new → new.council.collection ≡ old.council.collection
left_collection old new id DeskTurns closed (stops.idle desk now at none by is) = collection_of is
left_collection old new id DeskTurns closed (stops.closes desk now round at_call at is_round by is) = collection_of is
