-- The laws of a cluster as it is seen.
use Rattle.std.proofs.Common.{◌≡◌, ℕ, true, false, List, [], ◌∷◌, ◌++◌, Option, None, Some, Ok, reverse, refl, sym, ap, subst, ◌∙◌, inl, inr, arith}
use Rattle.std.specs.Cmp.Lexicographic.{slice_cmp}
use Rattle.std.specs.FinMap as map
use Rattle.std.specs.Ordering.{nat_cmp}
use Rattle.cas_base.proofs.Bools.{true_or_false, not_both}
use Rattle.cas_ballot.specs.declared.ballot.Ballot.{Ballot}
use Rattle.cas_ballot.specs.Ballot.{zero_ballot, BallotAtMost, BallotLess}
use Rattle.cas_ballot.specs.Members.{has_member}
use Rattle.cas_ballot.proofs.BallotLemmas.{at_most_antisym, less_trans, zero_at_most}
use Rattle.cas_acceptor.specs.Acceptor.{AcceptorView}
use Rattle.cas_slot.specs.declared.slot.Slot.{Slot}
use Rattle.cas_slot.specs.Contents.{Contents, nothing}
use Rattle.cas_slot.specs.Slot.{accepted_of, accepted_ballot}
use Rattle.cas_slot.specs.Shelf.{Left}
use Rattle.cas_slot.specs.Table.{accepted_at}
use Rattle.cas_record.specs.declared.mark.Mark.{Mark}
use Rattle.cas_record.specs.declared.mark.Mark.TheVariants.{Acked}
use Rattle.cas_record.specs.Histories.Chain.{chain_of}
use Rattle.cas_record.specs.Logs.Happening.{Happening, marks_of}
use Rattle.cas_record.specs.Logs.Orderly.{IsAboveFloors, IsClear, IsNoneOrAbove}
use Rattle.cas_record.specs.Places.{Stands, IsPrefix, here}
use Rattle.cas_record.proofs.Logs.Lemmas.{acked_at, not_zero, acked_proposed}
use Rattle.cas_model.specs.View.{Meaning, View, CallView, CallerView, era_in, era_at, IsAt}
use Rattle.cas_quorum.specs.declared.era.Era.{Era}
use Rattle.cas_record.specs.declared.answer.Answer.{Answer}
use Rattle.cas_record.specs.declared.answer.Answer.TheVariants as answer
use Rattle.cas_record.specs.declared.mark.Acknowledgment.{Acknowledgment}
use Rattle.cas_record.proofs.PlaceLemmas.{newest_or}
use Rattle.cas_record.proofs.Positions.{read_more}
use Rattle.cas_proposer.specs.Round.{is_preparing}
use Rattle.cas_proposer.specs.Desk.{DeskView}
use Rattle.cas_model.specs.Calls.Step as calls
use Rattle.cas_model.specs.Calls.Step.{CountsOrEnds, over}
use Rattle.cas_protocol.specs.Acceptors.{IsLeft, LogTells}
use Rattle.cas_protocol.specs.Held.{Holds}
use Rattle.cas_model.specs.History.{IsRemembered}
use Rattle.cas_model.specs.Parties.{IsAcceptorTrue, IsDeskTrue, IsPrepareTrue, IsAcceptTrue, IsRoundTrue, IsOpenTrue}
use Rattle.cas_model.specs.Step.{OpenRoundAt, History}
use Rattle.cas_model.specs.Step as step
use Rattle.cas_model.specs.Laws.{OpeningsAreRemembered, OpeningsOnAreRemembered, StepsAreRemembered, HistoriesAreLegal, IsKeptBy, WhatIsDoneIsKept, IsDoneAt, DonesStand, FloorsArePassed, MembersAreClear}
use Rattle.cas_protocol.proofs.Held.{held_by}
use Rattle.cas_model.proofs.Openings.Opens.{opening_remembered, remembered_on, remembered_legal}
use Rattle.cas_model.proofs.Collection.Steps.{keeps}
use Rattle.cas_model.proofs.Places.{some_is, own_set}
use Rattle.cas_model.proofs.Calls.Safe.{prepares_is}
use Rattle.cas_protocol.proofs.Proposes.{all_in_low}
use Rattle.cas_model.proofs.Safety.Parts.{at_low}
use Rattle.cas_protocol.specs.Protocol.{IsFloorClear}
use Rattle.cas_model.specs.Safe.{IsSafe}
use Rattle.cas_record.specs.Logs.Lawful.{SlotTold}
use Rattle.cas_record.proofs.Logs.Floors.{accepted_after}
use Rattle.std.specs.Prelude.{◌≤◌, ◌⊎◌, slice_set}
use Rattle.cas_flow.specs.Flow.{queue_at}
use Rattle.cas_proposer.specs.declared.round.Round.{Round}
use Rattle.cas_record.specs.Legal.{HasFloor}

pub openings : {S V : Type 0} (m : Meaning S V) → OpeningsAreRemembered m
openings m shelves disks members view is = opening_remembered m shelves disks members view is

pub steps : {S V : Type 0} (m : Meaning S V) → StepsAreRemembered m
steps m shelves disks old event new is by = keeps m old event new shelves disks is by

pub openings_on : {S V : Type 0} (m : Meaning S V) → OpeningsOnAreRemembered m
openings_on m shelves disks members used floors view is = remembered_on m shelves disks members used floors view is

remembers : {S V : Type 0} (m : Meaning S V) → m.shelves.tells → m.disks.tells → (members : List ℕ) (view : View S V) → History m members view → IsRemembered m view
remembers m shelves disks members view (step.opens now is) = opening_remembered m shelves disks members now is
remembers m shelves disks members view (step.opens_on used floors now is) = remembered_on m shelves disks members used floors now is
remembers m shelves disks members view (step.steps old event new before by) = keeps m old event new shelves disks (remembers m shelves disks members old before) by

pub histories : {S V : Type 0} (m : Meaning S V) → HistoriesAreLegal m
histories m shelves disks members view history = let is = remembers m shelves disks members view history in (is, remembered_legal m view is)

-- ---- what stands on shelves
-- whatever a crash leaves of an acceptor that has started is what the log tells, or what a request would make of it
left_of : {S V : Type 0} (m : Meaning S V) (log : List Happening) (id : ℕ) (kept : Contents) (acceptor : AcceptorView S) → m.shelves.tells → IsAcceptorTrue m log id kept acceptor → acceptor.started ≡ true → (left : Left) → m.shelves.may_leave acceptor.shelf left → IsLeft log id kept left
left_of m log id kept acceptor tells of started left may = elim (true_or_false acceptor.down) [
  | inl down ↦ of.stopped down started left may
  | inr up ↦ inl (of.lasts up left may ∙ ap (λ (c : Contents). Ok c) (of.keeps up))
]

-- nothing is at or above a ballot that was proposed
nothing_holds : (key : List ℕ) (ballot : Ballot) → BallotAtMost ballot (accepted_ballot (accepted_at nothing key)) → ballot ≡ zero_ballot
nothing_holds key ballot low =
    let none : accepted_ballot (accepted_at nothing key) ≡ zero_ballot = ap (λ (slot : Option Slot). accepted_ballot (accepted_of slot)) (map.get-empty (slice_cmp nat_cmp) key) in
    at_most_antisym (subst (BallotAtMost ballot) none low) (zero_at_most ballot)

pub done_kept : {S V : Type 0} (m : Meaning S V) → WhatIsDoneIsKept m
done_kept {S} {V} m tells view a is stands above = record {
  quorum = λ id low same. sym ((is.followed.logged.agrees.eras id low).accepts a.by) ∙ sym (ap (λ (e : ℕ). is.followed.cluster.accepts e a.by) same) ∙ held.0;
  kept = λ id acceptor member at. kept_by id acceptor member (is.followed.logged.agrees.acceptors id acceptor at);
}
  where
    log : List Happening
    log = is.followed.logged.global.log

    stood : Stands (Acked a) (marks_of log)
    stood = subst (Stands (Acked a)) (sym is.followed.logged.agrees.marks) stands

    held : (is.followed.cluster.accepts a.era a.by ≡ true)
        × ((acceptor : ℕ) (kept new : Contents) → has_member a.by acceptor ≡ true → LogTells log acceptor kept → IsLeft log acceptor kept (Ok new) → Holds log a.key a.ballot new)
    held = held_by is.followed.cluster is.followed.logged.meets log a is.followed.logged.history.lawful is.followed.logged.history.orderly stood (subst (λ (l : List Mark). IsAboveFloors l a.key a.ballot) (sym is.followed.logged.agrees.marks) above)

    some : a.ballot ≡ zero_ballot → ⊥
    some zero = let proposed = acked_proposed is.followed.cluster is.followed.logged.history.lawful (acked_at log (record { acknowledgment = a; stands = stood; same_key = refl; same_ballot = refl })) in not_zero is.followed.cluster is.followed.logged.history.lawful proposed.at (proposed.same_ballot ∙ zero)

    holds : (id : ℕ) → has_member a.by id ≡ true → (left : Contents) → IsLeft log id (is.followed.logged.global.kept id) (Ok left) → Holds log a.key a.ballot left
    holds id member left may = held.1 id (is.followed.logged.global.kept id) left member (is.followed.logged.history.tells id) may

    started : (id : ℕ) (acceptor : AcceptorView S) → has_member a.by id ≡ true → IsAcceptorTrue m log id (is.followed.logged.global.kept id) acceptor → acceptor.started ≡ true
    started id acceptor member of = elim (true_or_false acceptor.started) [
      | inl has_started ↦ has_started
      | inr none ↦ absurd (some (nothing_holds a.key a.ballot (subst (λ (c : Contents). BallotAtMost a.ballot (accepted_ballot (accepted_at c a.key))) (of.not_started none) (holds id member (is.followed.logged.global.kept id) (inl refl)).at_least)))
    ]

    contents_left : (id : ℕ) (kept : Contents) (left : Left) → IsLeft log id kept left → (contents : Contents) × (left ≡ Ok contents)
    contents_left id kept left (inl same) = (kept, same)
    contents_left id kept left (inr (new, done, same)) = (new, same)

    kept_by : (id : ℕ) (acceptor : AcceptorView S) → has_member a.by id ≡ true → IsAcceptorTrue m log id (is.followed.logged.global.kept id) acceptor → IsKeptBy m (reverse view.marks) a.key a.ballot acceptor
    kept_by id acceptor member of =
        let has_started = started id acceptor member of in
        record {
          started = has_started;
          whole = λ left may. contents_left id (is.followed.logged.global.kept id) left (left_of m log id (is.followed.logged.global.kept id) acceptor tells of has_started left may);
          at_least = λ left may. (holds id member left (left_of m log id (is.followed.logged.global.kept id) acceptor tells of has_started (Ok left) may)).at_least;
          begins = λ left may. subst (λ (l : List Mark). IsPrefix (chain_of a.key a.ballot l) (chain_of a.key (accepted_ballot (accepted_at left a.key)) l)) is.followed.logged.agrees.marks
              (holds id member left (left_of m log id (is.followed.logged.global.kept id) acceptor tells of has_started (Ok left) may)).begins;
        }

-- ---- floors
pub floors_passed : {S V : Type 0} (m : Meaning S V) → FloorsArePassed m
floors_passed {S} {V} m shelves disks view key floor id desk caller is has at_desk at_caller = record {
  vault = of.vault.past_floors key floor stood;
  promise = λ ready h. let held = of.cached key ready h in (held.in_hand.above_floors.above stood.stands, held.over_floors floor stood);
  round = λ round is_open same. by_round desk.round round is_open same of.round;
  ride = λ round ride is_open same accepts rides. by_ride desk.round round ride is_open same accepts rides of.round;
}
  where
    log : List Happening
    log = is.followed.logged.global.log

    stood : HasFloor key floor (marks_of log)
    stood = subst (HasFloor key floor) (sym is.followed.logged.agrees.marks) has

    of : IsDeskTrue m is.followed.cluster log is.followed.logged.global.made (era_at view id).number id caller (queue_at view.flow id).messages desk
    of = is.followed.logged.agrees.desks id desk caller at_desk at_caller

    in_phase : (call : CallView) (round : Round) → round.key ≡ key → IsPrepareTrue log id call (queue_at view.flow id).messages round ⊎ IsAcceptTrue log is.followed.logged.global.made id caller.number call (queue_at view.flow id).messages round → BallotLess floor round.ballot
    in_phase call round same (inl prepare) = prepare.in_hand.above_floors.above (subst (λ (k : List ℕ). HasFloor k floor (marks_of log)) (sym same) stood).stands
    in_phase call round same (inr accept) = accept.above_floors.above (subst (λ (k : List ℕ). HasFloor k floor (marks_of log)) (sym same) stood).stands

    by_round : (open_ : Option Round) (round : Round) → open_ ≡ Some round → round.key ≡ key → IsOpenTrue is.followed.cluster log is.followed.logged.global.made id (era_at view id).number caller (queue_at view.flow id).messages open_ → BallotLess floor round.ballot
    by_round None round e same true_of = absurd (cc e)
    by_round (Some one) round e same true_of =
        let is_it : one ≡ round = some_is e in
        subst (λ (r : Round). BallotLess floor r.ballot) is_it (in_phase true_of.call one (ap (λ (r : Round). r.key) is_it ∙ same) true_of.phase)

    above_ride : (call : CallView) (round : Round) (ride : Ballot) → is_preparing round.phase ≡ false → round.ride ≡ Some ride
        → IsPrepareTrue log id call (queue_at view.flow id).messages round ⊎ IsAcceptTrue log is.followed.logged.global.made id caller.number call (queue_at view.flow id).messages round
        → BallotLess round.ballot ride
    above_ride call round ride accepts rides (inl prepare) = absurd (not_both _ (prepares_is round.era round.ballot prepare.replies round.phase prepare.preparing.phase).0 accepts)
    above_ride call round ride accepts rides (inr accept) = (accept.ride ride rides).above

    by_ride : (open_ : Option Round) (round : Round) (ride : Ballot) → open_ ≡ Some round → round.key ≡ key → is_preparing round.phase ≡ false → round.ride ≡ Some ride
        → IsOpenTrue is.followed.cluster log is.followed.logged.global.made id (era_at view id).number caller (queue_at view.flow id).messages open_ → BallotLess floor ride
    by_ride None round ride e same accepts rides true_of = absurd (cc e)
    by_ride (Some one) round ride e same accepts rides true_of =
        let is_it : one ≡ round = some_is e in
        let above = subst (λ (r : Round). is_preparing r.phase ≡ false → r.ride ≡ Some ride → BallotLess r.ballot ride) is_it (λ a s. above_ride true_of.call one ride a s true_of.phase) accepts rides in
        less_trans (by_round (Some one) round e same true_of) above

-- ---- what is told done
-- a mark that is no floor leaves what is above the floors above them
still_above : (key : List ℕ) (ballot : Ballot) (a : Acknowledgment) (marks : List Mark) → IsAboveFloors (reverse marks) key ballot → IsAboveFloors (reverse (marks ++ Acked a ∷ [])) key ballot
still_above key ballot a marks above = record {
  above = λ floors. elim (newest_or (subst (Stands _) (read_more marks (Acked a)) floors)) [ inl same ↦ absurd (cc same) | inr older ↦ above.above older ];
}

-- the round whose accepts are counted is above the floors of its key
round_above : {S V : Type 0} (m : Meaning S V) (view : View S V) (id : ℕ) (desk : DeskView V) (caller : CallerView) (round : Round) → m.shelves.tells → m.disks.tells → IsRemembered m view
    → IsAt view.desks id desk → IsAt view.callers id caller → desk.round ≡ Some round
    → IsAboveFloors (reverse view.marks) round.key round.ballot
round_above m view id desk caller round shelves disks is at at_caller is_open = record {
  above = λ stands. (floors_passed m shelves disks view round.key _ id desk caller is (record { state = _; stands = stands }) at at_caller).round round is_open refl;
}

pub dones_stand : {S V : Type 0} (m : Meaning S V) → DonesStand m
dones_stand {S} {V} m shelves disks old new id caller call state took ballot is low by at_caller is_open told = in_case by.counts
  where
    at : OpenRoundAt old id
    at = by.at_round

    now_is : (told_so : Answer) → new.callers ≡ slice_set old.callers id (record at.of_call.caller { call = Some (over at.of_call.call told_so) }) → told_so ≡ answer.Done state took ballot
    now_is told_so callers =
        let same : caller ≡ record at.of_call.caller { call = Some (over at.of_call.call told_so) } = own_set old.callers id _ caller (subst (λ (l : List CallerView). IsAt l id caller) callers at_caller) in
        let same_call : call ≡ over at.of_call.call told_so = some_is (sym is_open ∙ ap (λ (c : CallerView). c.call) same) in
        some_is (sym (ap (λ (c : CallView). c.told) same_call) ∙ told)

    remembered : IsRemembered m new
    remembered = keeps m old (step.Count id) new shelves disks is by

    of_round : IsRoundTrue is.followed.cluster is.followed.logged.global.log is.followed.logged.global.made id (era_at old id).number at.of_call.caller (queue_at old.flow id).messages at.round
    of_round = subst (IsOpenTrue is.followed.cluster is.followed.logged.global.log is.followed.logged.global.made id (era_at old id).number at.of_call.caller (queue_at old.flow id).messages) at.is_open
        (is.followed.logged.agrees.desks id at.desk at.of_call.caller at.at_desk at.of_call.at_caller).round

    in_case : CountsOrEnds m old id at.desk at.round at.of_call.caller at.of_call.call new → IsDoneAt m old id ballot new
    in_case (calls.counts now confirmers outcome quorum confirmed proposed ends view) =
        let done : answer.Done outcome.state outcome.took at.round.ballot ≡ answer.Done state took ballot = now_is _ (ap (λ (w : View S V). w.callers) view) in
        let a : Acknowledgment = record { key = at.round.key; ballot = at.round.ballot; era = at.round.era.number; by = confirmers } in
        let marked : new.marks ≡ old.marks ++ Acked a ∷ [] = ap (λ (w : View S V). w.marks) view in
        let above : IsAboveFloors (reverse new.marks) a.key a.ballot = subst (λ (l : List Mark). IsAboveFloors (reverse l) a.key a.ballot) (sym marked)
        (still_above a.key a.ballot a old.marks (round_above m old id at.desk at.of_call.caller at.round shelves disks is at.at_desk at.of_call.at_caller at.is_open)) in
        let kept = done_kept m shelves new a remembered (subst (Stands (Acked a)) (sym (ap reverse marked ∙ read_more old.marks (Acked a))) (record { older = reverse old.marks; at = here })) above in
        let era : a.era ≡ (era_at new id).number = of_round.same_era ∙ ap (λ (l : List Era). (era_in l id).number) (sym (ap (λ (w : View S V). w.eras) view)) in
        record {
          acknowledgment = a;
          marked = marked;
          same_ballot = cc done;
          above_floors = above;
          same_era = era;
          quorum = kept.quorum id (subst (λ (n : ℕ). id ≤ n) (sym (ap (λ (w : View S V). w.last_proposer) view)) low) era;
          kept = kept.kept;
        }
    in_case (calls.ends now verdict why is_verdict cause ends view) = absurd (cc (now_is _ (ap (λ (w : View S V). w.callers) view)))

-- a crash leaves of an acceptor that is up what is kept of it
pub kept_by_member : {S V : Type 0} (m : Meaning S V) (view : View S V) (is : IsRemembered m view) (id : ℕ) (acceptor : AcceptorView S) → IsAt view.acceptors id acceptor → acceptor.down ≡ false
    → (left : Contents) → m.shelves.may_leave acceptor.shelf (Ok left) → left ≡ is.followed.logged.global.kept id
kept_by_member m view is id acceptor at up left may =
    let of : IsAcceptorTrue m is.followed.logged.global.log id (is.followed.logged.global.kept id) acceptor = is.followed.logged.agrees.acceptors id acceptor at in
    let same : Ok left ≡ Ok (is.followed.logged.global.kept id) = of.lasts up (Ok left) may ∙ ap (λ (c : Contents). Ok c) (of.keeps up) in
    cc same

-- the era in which a proposer works is that of the floor, or a later one
pub reached : {S V : Type 0} (m : Meaning S V) (view : View S V) → IsSafe view → (is : IsRemembered m view) (key : List ℕ) (floor : Ballot) (clear : IsFloorClear is.followed.cluster is.followed.logged.global.log key floor) (proposer : ℕ) → proposer ≤ view.last_proposer
    → clear.era ≤ (era_at view proposer).number
reached {S} {V} m view safe is key floor clear proposer known =
    let desk = at_low view.desks proposer (omega (arith, known, safe.sound.desks)) in
    let caller = at_low view.callers proposer (omega (arith, known, safe.sound.callers)) in
    let of : IsDeskTrue m is.followed.cluster is.followed.logged.global.log is.followed.logged.global.made (era_at view proposer).number proposer caller.0 (queue_at view.flow proposer).messages desk.0 =
    is.followed.logged.agrees.desks proposer desk.0 caller.0 desk.1 caller.1 in
    all_in_low is.followed.cluster is.followed.logged.global.log clear.era proposer (era_at view proposer).number is.followed.logged.history.lawful of.known of.vault.not_beyond clear.all_in

-- who prepares or accepts in that era is a member of it
pub member_of : {S V : Type 0} (m : Meaning S V) (view : View S V) (is : IsRemembered m view) (proposer id : ℕ) → proposer ≤ view.last_proposer → (has_member (era_at view proposer).prep id ≡ true) ⊎ (has_member (era_at view proposer).acc id ≡ true)
    → has_member (is.followed.cluster.members (era_at view proposer).number) id ≡ true
member_of m view is proposer id known (inl prepares) = (is.followed.logged.agrees.eras proposer known).prep_members id prepares
member_of m view is proposer id known (inr accepts) = (is.followed.logged.agrees.eras proposer known).acc_members id accepts

pub members_clear : {S V : Type 0} (m : Meaning S V) → MembersAreClear m
members_clear {S} {V} m shelves disks view key floor proposer id acceptor safe is has known member at up left may =
    subst (λ (c : Contents). IsNoneOrAbove floor (accepted_ballot (accepted_at c key))) (sym (kept_by_member m view is id acceptor at up left may))
    (subst (λ (s : SlotTold). IsNoneOrAbove floor s.accepted) ((is.followed.logged.history.tells id).slots key)
    (accepted_after is.followed.cluster is.followed.logged.global.log id key floor is.followed.logged.history.lawful is.followed.logged.history.orderly clear))
  where
    known_of : IsFloorClear is.followed.cluster is.followed.logged.global.log key floor
    known_of = is.followed.logged.history.knows.clear key floor (subst (HasFloor key floor) (sym is.followed.logged.agrees.marks) has)

    clear : IsClear is.followed.logged.global.log id key floor
    clear = known_of.clear (era_at view proposer).number id (reached m view safe is key floor known_of proposer known) (member_of m view is proposer id known member)
