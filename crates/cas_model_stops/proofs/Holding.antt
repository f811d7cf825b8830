-- What stopped acceptors hold of a key.
use Rattle.std.proofs.Common.{◌≡◌, ◌≤◌, ℕ, true, List, [], ◌∷◌, ◌++◌, Some, Ok, refl, sym, ap, subst, ◌∙◌, inl, inr, arith}
use Rattle.std.specs.Prelude.{◌⊎◌, ◌==◌, ◌&&◌, not}
use Rattle.cas_base.proofs.Bools.{true_or_false, and_left, if_true, if_false}
use Rattle.cas_ballot.specs.declared.ballot.Ballot.{Ballot}
use Rattle.cas_ballot.specs.Ballot.{zero_ballot, BallotAtMost, BallotLess, greater_of}
use Rattle.cas_ballot.specs.Members.{has_member}
use Rattle.cas_ballot.proofs.BallotLemmas.{at_most_refl, at_most_antisym, at_most_trans, greater_cases, none_below_zero, less_irreflexive, less_not_at_most, zero_at_most}
use Rattle.cas_change.specs.declared.state.State.{State}
use Rattle.cas_change.specs.declared.state.State.TheVariants.{Empty}
use Rattle.cas_slot.specs.declared.slot.Accepted.{Accepted}
use Rattle.cas_slot.specs.Contents.{Contents}
use Rattle.cas_slot.specs.Slot.{accepted_ballot}
use Rattle.cas_slot.specs.Shelf.{Left}
use Rattle.cas_slot.specs.Table.{accepted_at, Handles}
use Rattle.cas_acceptor.specs.Acceptor.{AcceptorView}
use Rattle.cas_proposer.specs.Desk.{DeskView}
use Rattle.cas_record.specs.declared.mark.Mark.{Mark}
use Rattle.cas_record.specs.declared.mark.Mark.TheVariants.{Floor}
use Rattle.cas_record.specs.Histories.Chain.{chain_of, top_of, settled_of, floor_below, has_calls, is_key}
use Rattle.cas_record.specs.Histories.Replay.{replay_from, opening_state}
use Rattle.cas_record.specs.Legal.{HasFloor}
use Rattle.cas_record.specs.Logs.Happening.{Happening, marks_of}
use Rattle.cas_record.specs.Logs.Lawful.{Cluster, AllEntered, IsMade, SlotTold}
use Rattle.cas_record.specs.Logs.Orderly.{IsNoneOrAbove}
use Rattle.cas_record.specs.Places.{At, here, past, IsPrefix}
use Rattle.cas_record.proofs.Histories.Chains.{FloorBelow, at_most_floor_below, chain_zero, chain-opened, floor_below_cases, opening_tells, top_more}
use Rattle.cas_record.proofs.Logs.Lemmas.{not_zero, proposed_at}
use Rattle.cas_record.proofs.Logs.Agreement.{settled_begins, settles_floor}
use Rattle.cas_record.proofs.Logs.Eras.{seam_of}
use Rattle.cas_record.proofs.Logs.Floors.{accepted_after}
use Rattle.cas_record.proofs.Tests.{key_refl, key_same, nat_is, step_left}
use Rattle.cas_protocol.specs.Acceptors.{IsAcceptedState, IsLeft, done_log}
use Rattle.cas_protocol.specs.Laws.{LogTellsKept}
use Rattle.cas_protocol.specs.Protocol.{GlobalState, HasHistory, IsFloorClear, StopsWithin, kept_but}
use Rattle.cas_protocol.proofs.Answered.{events_marks}
use Rattle.cas_protocol.proofs.Events.{keeps}
use Rattle.cas_protocol.proofs.Proposes.{all_in_low}
use Rattle.cas_protocol.proofs.Staying.{goes_on_from}
use Rattle.cas_flow.specs.Flow.{queue_at}
use Rattle.cas_model.specs.History.{IsRemembered}
use Rattle.cas_model.specs.Parties.{IsAcceptorTrue, IsDeskTrue}
use Rattle.cas_model.specs.Safe.{IsSafe}
use Rattle.cas_model.specs.View.{Meaning, View, CallerView, era_at}
use Rattle.cas_model.proofs.Safety.Parts.{at_low}
use Rattle.cas_model.proofs.ViewLaws.{member_of}
use Rattle.cas_model_stops.specs.Stopped.{AreLeft, HasPrepareQuorum, HoldSettled, StartedAreWhole, StoppedAreClear, WhatStoppedHold}
use Rattle.cas_model_stops.proofs.Drawing.{MayRead, BeginsWithSettled, left_tells, all_may_tell, begins_with_settled}
use Rattle.cas_model_stops.proofs.Floors.{same_prefix, none_begins, opening_is_held}

-- ---- what one acceptor may have left
-- whatever a crash leaves of an acceptor that has started is what the log tells, or what a request would make of it
left_of : {S V : Type 0} (m : Meaning S V) (log : List Happening) (id : ℕ) (kept : Contents) (acceptor : AcceptorView S) → m.shelves.tells
    → IsAcceptorTrue m log id kept acceptor → acceptor.started ≡ true → (left : Left) → m.shelves.may_leave acceptor.shelf left
    → IsLeft log id kept left
left_of m log id kept acceptor tells of started left may = elim (true_or_false acceptor.down) [
  | inl down ↦ of.stopped down started left may
  | inr up ↦ inl (of.lasts up left may ∙ ap (λ (c : Contents). Ok c) (of.keeps up))
]

whole_left : (log : List Happening) (id : ℕ) (kept : Contents) (left : Left) → IsLeft log id kept left → (contents : Contents) × (left ≡ Ok contents)
whole_left log id kept left (inl same) = (kept, same)
whole_left log id kept left (inr half) = (half.0, half.2)

pub started_are_whole : {S V : Type 0} (m : Meaning S V) → StartedAreWhole m
started_are_whole m tells view id acceptor is at started left may =
    let kept = is.followed.logged.global.kept id in
    whole_left is.followed.logged.global.log id kept left (left_of m is.followed.logged.global.log id kept acceptor tells (is.followed.logged.agrees.acceptors id acceptor at) started left may)

ok_is : {x y : Contents} → ◌≡◌ {A = Left} (Ok x) (Ok y) → x ≡ y
ok_is is = cc is

-- it accepted nothing below a floor, if it is a member of an era that all have entered since
clear_by : (cluster : Cluster) (global : GlobalState) (id : ℕ) (key : List ℕ) (floor : Ballot) (number : ℕ) (contents : Contents) → HasHistory cluster global
    → global.kept id ≡ contents → has_member (cluster.members number) id ≡ true
    → ((all : ℕ) → (all ≡ 0) ⊎ AllEntered cluster all (marks_of global.log) → all ≤ number) → HasFloor key floor (marks_of global.log)
    → IsNoneOrAbove floor (accepted_ballot (accepted_at contents key))
clear_by cluster global id key floor number contents history same member low has =
    let known : IsFloorClear cluster global.log key floor = history.knows.clear key floor has in
    subst (λ (c : Contents). IsNoneOrAbove floor (accepted_ballot (accepted_at c key))) same
    (subst (λ (s : SlotTold). IsNoneOrAbove floor s.accepted) ((history.tells id).slots key)
    (accepted_after cluster global.log id key floor history.lawful history.orderly (known.clear number id (low known.era known.all_in) member)))

-- the desk of a proposer
desk_of : {S V : Type 0} (m : Meaning S V) (view : View S V) (proposer : ℕ) → IsSafe view → (is : IsRemembered m view) → proposer ≤ view.last_proposer → (desk : DeskView V) × (caller : CallerView)
    × IsDeskTrue m is.followed.cluster is.followed.logged.global.log is.followed.logged.global.made (era_at view proposer).number proposer caller (queue_at view.flow proposer).messages desk
desk_of m view proposer safe is known =
    let desk = at_low view.desks proposer (omega (arith, known, safe.sound.desks)) in
    let caller = at_low view.callers proposer (omega (arith, known, safe.sound.callers)) in
    (desk.0, caller.0, is.followed.logged.agrees.desks proposer desk.0 caller.0 desk.1 caller.1)

-- the same of what a member of such an era may have left
clear_left : {S V : Type 0} (m : Meaning S V) (view : View S V) (proposer id : ℕ) (key : List ℕ) (floor : Ballot) (contents : Contents) → IsSafe view →
    (is : IsRemembered m view) → proposer ≤ view.last_proposer
    → (has_member (era_at view proposer).prep id ≡ true) ⊎ (has_member (era_at view proposer).acc id ≡ true) → IsLeft is.followed.logged.global.log id (is.followed.logged.global.kept id) (Ok contents)
    → HasFloor key floor (marks_of is.followed.logged.global.log) → IsNoneOrAbove floor (accepted_ballot (accepted_at contents key))
clear_left {S} {V} m view proposer id key floor contents safe is known member left has = by_left left
  where
    low_era : (marks : List Mark) → marks ≡ marks_of is.followed.logged.global.log → (all : ℕ) → (all ≡ 0) ⊎ AllEntered is.followed.cluster all marks → all ≤ (era_at view proposer).number
    low_era marks same all entered =
        let of = (desk_of m view proposer safe is known).2 in
        all_in_low is.followed.cluster is.followed.logged.global.log all proposer (era_at view proposer).number is.followed.logged.history.lawful of.known of.vault.not_beyond
        (subst (λ (l : List Mark). (all ≡ 0) ⊎ AllEntered is.followed.cluster all l) same entered)

    in_era : has_member (is.followed.cluster.members (era_at view proposer).number) id ≡ true
    in_era = member_of m view is proposer id known member

    by_left : IsLeft is.followed.logged.global.log id (is.followed.logged.global.kept id) (Ok contents) → IsNoneOrAbove floor (accepted_ballot (accepted_at contents key))
    by_left (inl same) = clear_by is.followed.cluster is.followed.logged.global id key floor (era_at view proposer).number contents is.followed.logged.history (sym (ok_is same)) in_era
        (low_era (marks_of is.followed.logged.global.log) refl) has
    by_left (inr half) =
        let h = half.1 in
        let to = h.request.to in
        let row : Handles (is.followed.logged.global.kept to) h.request h.answer half.0 =
        subst (λ (n : ℕ). Handles (is.followed.logged.global.kept n) h.request h.answer half.0) (sym h.was_asked.to) h.row in
        let marks : marks_of (done_log to (is.followed.logged.global.kept to) h.request h.answer is.followed.logged.global.log) ≡ marks_of is.followed.logged.global.log =
        events_marks to (is.followed.logged.global.kept to) is.followed.logged.global.log h.request.ask h.answer in
        let now : GlobalState =
        record {
          log = done_log to (is.followed.logged.global.kept to) h.request h.answer is.followed.logged.global.log;
          kept = kept_but is.followed.logged.global.kept to half.0;
          made = is.followed.logged.global.made;
        } in
        let there : HasHistory is.followed.cluster now =
        keeps is.followed.cluster is.followed.logged.meets is.followed.logged.global is.followed.logged.history (StopsWithin h.request h.answer half.0 h.was_asked.asked row) in
        let kept : kept_but is.followed.logged.global.kept to half.0 id ≡ contents =
        ap (kept_but is.followed.logged.global.kept to half.0) (sym h.was_asked.to) ∙ if_true (to == to) half.0 (is.followed.logged.global.kept to) (nat_is {a = to} refl) ∙ sym (ok_is half.2) in
        clear_by is.followed.cluster now id key floor (era_at view proposer).number contents there kept in_era (low_era (marks_of now.log) marks) (subst (HasFloor key floor) (sym marks) has)

pub stopped_are_clear : {S V : Type 0} (m : Meaning S V) → StoppedAreClear m
stopped_are_clear m tells view key floor proposer id acceptor contents safe is has known member at started may =
    let log = is.followed.logged.global.log in
    clear_left m view proposer id key floor contents safe is known member
    (left_of m log id (is.followed.logged.global.kept id) acceptor tells (is.followed.logged.agrees.acceptors id acceptor at) started (Ok contents) may)
    (subst (HasFloor key floor) (sym is.followed.logged.agrees.marks) has)

-- ---- floors
greater_zero : (ballot : Ballot) → greater_of zero_ballot ballot ≡ ballot
greater_zero ballot = elim (greater_cases zero_ballot ballot) [
  | inl first ↦ first.0 ∙ at_most_antisym (zero_at_most ballot) first.1
  | inr second ↦ second.0
]

-- a history opens with the empty state, or with a floor
opening_cases : (key : List ℕ) (marks : List Mark) → (opening_state key marks ≡ Empty) ⊎ ((floor : Ballot) × HasFloor key floor marks)
opening_cases key [] = inl refl
opening_cases key (Floor k floor state ∷ older) = elim (true_or_false (is_key k key && not (has_calls older))) [
  | inl opens ↦
      let same : k ≡ key = key_same (and_left (is_key k key) _ opens) in
      inr (floor, record { state = state; stands = record { older = older; at = subst (λ (x : List ℕ). At (Floor x floor state) older (Floor k floor state ∷ older)) same here } })
  | inr other ↦ elim (opening_cases key older) [
    | inl empty ↦ inl (if_false (is_key k key && not (has_calls older)) state (opening_state key older) other ∙ empty)
    | inr found ↦ inr (found.0, record { state = found.1.state; stands = record { older = found.1.stands.older; at = past found.1.stands.at } })
  ]
]
opening_cases key (mark ∷ older) = elim (opening_cases key older) [
  | inl empty ↦ inl empty
  | inr found ↦ inr (found.0, record { state = found.1.state; stands = record { older = found.1.stands.older; at = past found.1.stands.at } })
]

-- a floor is at most the greatest ballot that was acknowledged or made a floor
floor_at_most_top : {key : List ℕ} {floor : Ballot} {state : State} {older marks : List Mark} → At (Floor key floor state) older marks → BallotAtMost floor (top_of key marks)
floor_at_most_top {key} {floor} {state} {older} here = step_left (is_key key key) floor (top_of key older) (key_refl key)
floor_at_most_top {key} {floor} (past {y = mark} {rest = rest} at) = at_most_trans (floor_at_most_top at) (top_more key mark rest)

module _ {S V : Type 0} (m : Meaning S V) (view : View S V) (proposer : ℕ) (by : List ℕ) (left : ℕ → Contents) (key : List ℕ) (shelves : m.shelves.tells) (safe : IsSafe view)
    (is : IsRemembered m view) (known : proposer ≤ view.last_proposer)
    (quorum : HasPrepareQuorum (era_at view proposer) by) (are : AreLeft m view by left) where
  abbrev cluster : Cluster
  cluster = is.followed.cluster

  abbrev global : GlobalState
  global = is.followed.logged.global

  abbrev log : List Happening
  log = global.log

  abbrev number : ℕ
  number = (era_at view proposer).number

  history : HasHistory cluster global
  history = is.followed.logged.history

  abbrev told : ℕ → Ballot
  told id = accepted_ballot (accepted_at (left id) key)

  is_left : (id : ℕ) → has_member by id ≡ true → IsLeft log id (global.kept id) (Ok (left id))
  is_left id member =
      let of = are id member in
      left_of m log id (global.kept id) of.0 shelves (is.followed.logged.agrees.acceptors id of.0 of.1) of.2 (Ok (left id)) of.3

  on : (id : ℕ) → has_member by id ≡ true → (done : List Happening) × LogTellsKept cluster (done ++ log) id (left id) × (marks_of (done ++ log) ≡ marks_of log)
  on id member = goes_on_from cluster log id (global.kept id) (record { lawful = history.lawful; orderly = history.orderly; tells = history.tells id }) (left id) (is_left id member)

  state_of : (id : ℕ) → has_member by id ≡ true → IsAcceptedState (marks_of log) key (accepted_at (left id) key)
  state_of id member = let there = on id member in subst (λ (marks : List Mark). IsAcceptedState marks key (accepted_at (left id) key)) there.2 (there.1.tells.states key)

  clear : (id : ℕ) → has_member by id ≡ true → (floor : Ballot) → HasFloor key floor (marks_of log) → IsNoneOrAbove floor (told id)
  clear id member floor has = clear_left m view proposer id key floor (left id) safe is known (quorum.members id member) (is_left id member) has

  -- ---- what a proposal on it would read
  may_read : (read : Ballot) → ((id : ℕ) → has_member by id ≡ true → BallotAtMost (told id) read) → (read ≡ zero_ballot) ⊎ IsMade key read (marks_of log)
      → MayRead cluster log key proposer number by told read
  may_read read most stands =
      let of = (desk_of m view proposer safe is known).2 in
      record {
        known = of.known;
        is_in = of.vault.is_in;
        not_beyond = of.vault.not_beyond;
        quorum = (is.followed.logged.agrees.eras proposer known).prepares by ∙ quorum.quorum;
        tells = all_may_tell log key told by (λ id member. let there = on id member in left_tells cluster there.0 log id (left id) key there.1 there.2);
        most = most;
        stands = stands;
      }

  reads : (read : Ballot) → ((id : ℕ) → has_member by id ≡ true → BallotAtMost (told id) read) → (read ≡ zero_ballot) ⊎ IsMade key read (marks_of log)
      → BeginsWithSettled log key read
  reads read most stands = begins_with_settled cluster is.followed.logged.meets log history.lawful key proposer number by told read (may_read read most stands)

  made_by : (accepted : Accepted) → IsAcceptedState (marks_of log) key (Some accepted) → IsMade key accepted.ballot (marks_of log)
  made_by accepted (inl made) = inl (record { proposal = made.proposal; stands = made.stands; same_key = made.same_key; same_ballot = made.same_ballot })
  made_by accepted (inr opening) = let of = opening_tells key accepted.ballot (marks_of log) opening.opens in inr (record { state = of.state; stands = record { older = of.older; at = of.at } })

  state_by : (accepted : Accepted) → IsAcceptedState (marks_of log) key (Some accepted)
      → accepted.state ≡ replay_from (opening_state key (marks_of log)) (chain_of key accepted.ballot (marks_of log))
  state_by accepted (inl made) = made.state_is
  state_by accepted (inr opening) = opening.state_is ∙ ap (replay_from (opening_state key (marks_of log))) (sym (chain-opened key accepted.ballot (marks_of log) opening.opens))

  -- a floor is at most what is accepted above zero
  reads_itself : (id : ℕ) (read ballot : Ballot) → has_member by id ≡ true → told id ≡ read → BallotLess zero_ballot read
      → greater_of read (floor_below key ballot (marks_of log)) ≡ read
  reads_itself id read ballot member same some = elim (greater_cases read (floor_below key ballot (marks_of log))) [
    | inl first ↦ first.0
    | inr second ↦ elim (floor_below_cases key ballot (marks_of log)) [
      | inl zero ↦ absurd (less_not_at_most second.1 (subst (λ (b : Ballot). BallotAtMost b read) (sym zero) (zero_at_most read)))
      | inr floor ↦ elim (clear id member (floor_below key ballot (marks_of log)) floor.stands) [
        | inl none ↦ absurd (less_irreflexive (subst (BallotLess zero_ballot) (sym same ∙ none) some))
        | inr above ↦ absurd (less_not_at_most second.1 (subst (BallotAtMost (floor_below key ballot (marks_of log))) same above))
      ]
    ]
  ]

  greatest : (id : ℕ) (accepted : Accepted) → has_member by id ≡ true → accepted_at (left id) key ≡ Some accepted → BallotLess zero_ballot accepted.ballot
      → ((other : ℕ) → has_member by other ≡ true → BallotAtMost (told other) accepted.ballot)
      → IsPrefix (settled_of key (marks_of log)) (chain_of key accepted.ballot (marks_of log)) ×
      (accepted.state ≡ replay_from (opening_state key (marks_of log)) (chain_of key accepted.ballot (marks_of log)))
  greatest id accepted member at some most =
      let state : IsAcceptedState (marks_of log) key (Some accepted) = subst (IsAcceptedState (marks_of log) key) at (state_of id member) in
      let next = reads accepted.ballot most (inr (made_by accepted state)) in
      let itself = reads_itself id accepted.ballot next.ballot member (ap accepted_ballot at) some in
      (subst (λ (b : Ballot). IsPrefix (settled_of key (marks_of log)) (chain_of key b (marks_of log))) itself next.begins, state_by accepted state)

  -- ---- where nothing was accepted
  -- a floor of the key is above zero
  some_floor : (floor : Ballot) → HasFloor key floor (marks_of log) → floor ≡ zero_ballot → ⊥
  some_floor floor has zero = elim (history.knows.floors key floor has) [
    | inl empty ↦
        let made = empty.1 in
        let p = proposed_at log (record { proposal = made.proposal; stands = made.stands; same_key = made.same_key; same_ballot = made.same_ballot }) in
        not_zero cluster history.lawful p.at (p.same_ballot ∙ zero)
    | inr opened ↦ none_below_zero (subst (BallotLess zero_ballot) zero opened.some)
  ]

  none : ((id : ℕ) → has_member by id ≡ true → told id ≡ zero_ballot) → replay_from (opening_state key (marks_of log)) (settled_of key (marks_of log)) ≡ Empty
  none zeros = by_floor (floor_below_cases key next.ballot (marks_of log))
    where
      next : BeginsWithSettled log key zero_ballot
      next = reads zero_ballot (λ id member. subst (λ (b : Ballot). BallotAtMost b zero_ballot) (sym (zeros id member)) (at_most_refl zero_ballot)) (inl refl)

      low : (floor : Ballot) → HasFloor key floor (marks_of log) → BallotAtMost floor (floor_below key next.ballot (marks_of log))
      low floor has = at_most_floor_below has.stands.at (next.above_floors floor has)

      begins : IsPrefix (settled_of key (marks_of log)) (chain_of key (floor_below key next.ballot (marks_of log)) (marks_of log))
      begins = subst (λ (b : Ballot). IsPrefix (settled_of key (marks_of log)) (chain_of key b (marks_of log))) (greater_zero (floor_below key next.ballot (marks_of log))) next.begins

      -- there is no floor, and nothing is settled
      no_floor : floor_below key next.ballot (marks_of log) ≡ zero_ballot → replay_from (opening_state key (marks_of log)) (settled_of key (marks_of log)) ≡ Empty
      no_floor zero =
          let nothing : settled_of key (marks_of log) ≡ [] = none_begins (settled_of key (marks_of log))
          (subst (IsPrefix (settled_of key (marks_of log))) (ap (λ (b : Ballot). chain_of key b (marks_of log)) zero ∙ chain_zero key (marks_of log)) begins) in
          ap (replay_from (opening_state key (marks_of log))) nothing ∙ elim (opening_cases key (marks_of log)) [
            | inl empty ↦ empty
            | inr floor ↦ absurd (some_floor floor.0 floor.1 (at_most_antisym (subst (BallotAtMost floor.0) zero (low floor.0 floor.1)) (zero_at_most floor.0)))
          ]

      -- the greatest floor leaves the register empty, and is the last that settled
      at_floor : HasFloor key (floor_below key next.ballot (marks_of log)) (marks_of log) → replay_from (opening_state key (marks_of log)) (settled_of key (marks_of log)) ≡ Empty
      at_floor has = elim (history.knows.floors key (floor_below key next.ballot (marks_of log)) has) [
        | inl empty ↦
            let back =
            settled_begins cluster history.lawful (seam_of cluster is.followed.logged.meets log history.lawful) (settles_floor cluster history.lawful has) (floor_at_most_top has.stands.at) in
            ap (replay_from (opening_state key (marks_of log)))
            (same_prefix (settled_of key (marks_of log)) (chain_of key (floor_below key next.ballot (marks_of log)) (marks_of log)) begins back) ∙ sym empty.1.state_is
        | inr opened ↦
            let held = opening_is_held cluster is.followed.logged.meets log key (floor_below key next.ballot (marks_of log)) proposer number by left history.lawful history.orderly opened low
            ((is.followed.logged.agrees.eras proposer known).prepares by ∙ quorum.quorum) (desk_of m view proposer safe is known).2.vault.is_in on begins in
            absurd (less_not_at_most opened.some (subst (BallotAtMost (floor_below key next.ballot (marks_of log))) (zeros held.0 held.1) held.2))
      ]

      by_floor : (floor_below key next.ballot (marks_of log) ≡ zero_ballot) ⊎ FloorBelow key (floor_below key next.ballot (marks_of log)) next.ballot (marks_of log)
          → replay_from (opening_state key (marks_of log)) (settled_of key (marks_of log)) ≡ Empty
      by_floor (inl zero) = no_floor zero
      by_floor (inr floor) = at_floor floor.stands

  pub hold_settled : HoldSettled (marks_of log) by left key
  hold_settled = record { greatest = greatest; none = none }

pub what_stopped_hold : {S V : Type 0} (m : Meaning S V) → WhatStoppedHold m
what_stopped_hold m shelves disks view safe is proposer by left known quorum are key =
    subst (λ (marks : List Mark). HoldSettled marks by left key) is.followed.logged.agrees.marks (hold_settled m view proposer by left key shelves safe is known quorum are)
