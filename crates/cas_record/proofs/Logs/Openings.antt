-- What follows from the floors with which histories open: they stand before all else, a proposal that read nothing does not go on from
-- one, and each has its stone when an era is left.
use Rattle.std.proofs.Common.{◌≡◌, ℕ, suc, ◌<◌, true, false, List, [], ◌∷◌, arith, refl, sym, ◌∙◌, subst}
use Rattle.std.specs.Prelude.{⊤, ◌⊎◌}
use mathlib.Core.Logic.{inl, inr}
use Rattle.cas_ballot.specs.declared.ballot.Ballot.{Ballot}
use Rattle.cas_change.specs.declared.state.State.{State}
use Rattle.cas_ballot.specs.Ballot.{zero_ballot, BallotAtMost, BallotLess}
use Rattle.cas_ballot.specs.Members.{has_member}
use Rattle.cas_ballot.proofs.BallotLemmas.{at_most_refl, at_most_trans, at_most_antisym, at_most_or_less, less_at_most, less_irreflexive, less_not_at_most, at_most_greater_right}
use Rattle.cas_slot.specs.declared.message.Ask.TheVariants as ask
use Rattle.cas_record.specs.declared.mark.Mark.TheVariants.{Proposed, Floor}
use Rattle.cas_record.specs.declared.mark.Proposal.{Proposal}
use Rattle.cas_record.specs.Places.{At, Stands, IsOlderPart, here, past, whole, later}
use Rattle.cas_record.specs.Histories.Chain.{has_calls, has_opening, floor_below, link_of}
use Rattle.cas_record.specs.Legal.{HasFloor, IsAcked}
use Rattle.cas_record.specs.Logs.Happening.{Happening, Marked, Took, Entered, marks_of}
use Rattle.cas_record.specs.Logs.Lawful.{Cluster, ClusterMeets, Lawful, AreFirst, HasOpening, HasFloorAbove, MayTake, MayDrop, in_promise, in_take, in_ride, AllEntered, IsRescanned, Granted, by_promise, by_ride, SlotTold}
use Rattle.cas_record.specs.Laws.{HistoryIsOpened}
use Rattle.cas_record.specs.Logs.Listing.{no_slot_told, WasAbsent}
use Rattle.cas_record.specs.Logs.Orderly.{IsAgedOut, MayAsk, MayPromiseBy, MayTakeBy, MayTakeFirst, MayDropBy, Orderly}
use Rattle.cas_record.proofs.PlaceLemmas.{none_at_nil, deeper, stands_deeper, stands_at, stands_part, older_than, newer_than, at_one, order}
use Rattle.cas_record.proofs.Logs.Agreement.{one_opening}
use Rattle.cas_record.proofs.Histories.Chains.{at_most_floor_below, opening_tells, no_calls}
use Rattle.cas_record.proofs.Logs.Lemmas.{law, lawful_older, mark_at, in_log, part_of, proposal_law, floor_law, ProposedAt, proposed_at, acked_at, acked_proposed, OpeningAt, above_opening}
use Rattle.cas_record.proofs.LegalLemmas.{lawful_part}
use Rattle.cas_record.proofs.Logs.Slots.{IsDropped, SlotBounds, slot_bounds}
use Rattle.cas_record.proofs.Logs.Orders.{reason}
use Rattle.cas_record.proofs.Logs.Eras.{le_or_lt, enter_law, entered_of_mark, entered_at, rescan_at, rescan_below}
use Rattle.cas_record.proofs.Logs.Listings.{early_of, none_early, greatest_early, stones_of_listing}

-- ---- what stands first
-- a floor was marked or taken
abbrev pub IsFirst : Happening → Type 0
IsFirst (Marked (Floor key floor state)) = ⊤
IsFirst (Took acceptor key ballot ride) = ⊤
IsFirst other = ⊥

pub first_at : (log : List Happening) {happening : Happening} {older : List Happening} → AreFirst log → At happening older log → IsFirst happening
first_at [] first at = absurd (none_at_nil at)
first_at (Marked (Floor key floor state) ∷ rest) first here = tt
first_at (Marked (Floor key floor state) ∷ rest) first (past at) = first_at rest first at
first_at (Took acceptor key ballot ride ∷ rest) first here = tt
first_at (Took acceptor key ballot ride ∷ rest) first (past at) = first_at rest first at
first_at (other ∷ rest) first at = absurd first

-- an opening floor stands before all that is no floor
pub opening_before : {key : List ℕ} {floor : Ballot} {happening : Happening} {older log : List Happening} → (IsFirst happening → ⊥) → HasOpening key floor log → At happening older log → HasOpening key floor older
opening_before {happening = happening} other o at = elim (order o.at at) [
  | older_than before ↦ record { state = o.state; older = o.older; at = before; first = o.first }
  | newer_than after ↦ absurd (other (first_at o.older o.first after))
  | at_one same older_same ↦ absurd (other (subst IsFirst same tt))
]

-- once an era was entered no history opens any more
opening_in : {key : List ℕ} {floor : Ballot} {state : State} {happening : Happening} {older log : List Happening} {proposer era : ℕ} → Stands (Entered proposer era) log
    → At (Marked (Floor key floor state)) older (happening ∷ log) → AreFirst older → HasOpening key floor log
opening_in entered here first = absurd (first_at _ first entered.at)
opening_in {state = state} {older = older} entered (past at) first = record { state = state; older = older; at = at; first = first }

pub opening_older : {key : List ℕ} {floor : Ballot} {happening : Happening} {log : List Happening} {proposer era : ℕ} → Stands (Entered proposer era) log → HasOpening key floor (happening ∷ log)
    → HasOpening key floor log
opening_older entered o = opening_in entered o.at o.first

pub has_opening_deeper : {key : List ℕ} {floor : Ballot} {happening : Happening} {older log : List Happening} → HasOpening key floor older → At happening older log → HasOpening key floor log
has_opening_deeper o at = record { state = o.state; older = o.older; at = deeper o.at at; first = o.first }

-- it opens the history of its key
pub opening_at : (cluster : Cluster) {log : List Happening} {key : List ℕ} {floor : Ballot} → Lawful cluster log → HasOpening key floor log → OpeningAt key floor log
opening_at cluster {log} {key} {floor} lawful o = record {
  state = o.state;
  older = o.older;
  at = o.at;
  opening = elim (floor_law cluster lawful o.at) [
    | inl opening ↦ opening
    | inr tombstone ↦ absurd (first_at o.older o.first (acked_at o.older tombstone.acked).at)
  ];
}

-- and what opens the history of a key in the record does so in the log
pub opening_in_log : (cluster : Cluster) (log : List Happening) {key : List ℕ} {ballot : Ballot} → Lawful cluster log → has_opening key ballot (marks_of log) ≡ true → OpeningAt key ballot log
opening_in_log cluster log {key} {ballot} lawful e =
    let o = opening_tells key ballot (marks_of log) e in
    let found = in_log log o.at in
    record {
      state = o.state;
      older = found.older;
      at = found.at;
      opening = elim (floor_law cluster lawful found.at) [
        | inl opening ↦ opening
        | inr tombstone ↦
            let there = lawful_older cluster lawful found.at in
            let p = acked_proposed cluster there (acked_at found.older tombstone.acked) in
            let begun = stands_part (proposal_law cluster there p.at).first.begun.stands (part_of p.at) in
            absurd (no_calls (subst (λ xs. has_calls xs ≡ false) found.is o.none) begun.at)
      ];
    }

-- what stands behind what stands first does so too
pub first_older : (log : List Happening) {happening : Happening} {older : List Happening} → AreFirst log → At happening older log → AreFirst older
first_older [] first at = absurd (none_at_nil at)
first_older (Marked (Floor key floor state) ∷ rest) first here = first
first_older (Marked (Floor key floor state) ∷ rest) first (past at) = first_older rest first at
first_older (Took acceptor key ballot ride ∷ rest) first here = first
first_older (Took acceptor key ballot ride ∷ rest) first (past at) = first_older rest first at
first_older (other ∷ rest) first at = absurd first

-- who takes first what opens a history takes each floor of the key
pub first_taken : (cluster : Cluster) {log : List Happening} {acceptor : ℕ} {key : List ℕ} {floor ballot ride : Ballot} → Lawful cluster log → HasFloor key floor (marks_of log) → MayTakeFirst cluster log acceptor key ballot ride
    → BallotAtMost floor ballot
first_taken cluster {log} {acceptor} {key} {floor} {ballot} lawful has may =
    let found = in_log log has.stands.at in
    let o : HasOpening key floor log = record { state = has.state; older = found.older; at = found.at; first = first_older log may.first found.at } in
    subst (BallotAtMost floor) (one_opening (opening_at cluster lawful o) (opening_at cluster lawful may.opening)) (at_most_refl floor)

-- nothing at its ballot was proposed
pub never_proposed : (cluster : Cluster) {log : List Happening} {key : List ℕ} {floor : Ballot} → Lawful cluster log → HasOpening key floor log → ProposedAt key floor log → ⊥
never_proposed cluster {log} {key} {floor} lawful o p =
    let above : BallotLess floor p.proposal.ballot = above_opening cluster lawful p.at (subst (λ k. OpeningAt k floor log) (sym p.same_key) (opening_at cluster lawful o)) in
    less_irreflexive (subst (BallotLess floor) p.same_ballot above)

-- ---- what took it
-- the acceptor that took it and removed the slot since did so at a later floor
floor_of_drop : (cluster : Cluster) {log : List Happening} {acceptor : ℕ} {key : List ℕ} {floor : Ballot} → Lawful cluster log → Orderly cluster log → HasOpening key floor log → IsDropped acceptor key floor log
    → HasFloorAbove key floor (marks_of log)
floor_of_drop cluster {log} {acceptor} {key} {floor} lawful orderly o dropped =
    let drop : MayDrop dropped.stands.older acceptor key dropped.tombstone = law cluster lawful dropped.stands.at in
    elim (at_most_or_less dropped.tombstone floor) [
      | inl low ↦
          let same = at_most_antisym low dropped.above in
          let by : MayDropBy dropped.stands.older acceptor key dropped.tombstone = reason cluster orderly dropped.stands.at in
          let asked = by.was_asked.asked in
          let may : MayAsk cluster asked.older by.request by.request.ask = reason cluster orderly (deeper asked.at dropped.stands.at) in
          let remove : HasFloor key dropped.tombstone (marks_of asked.older) × IsAcked key dropped.tombstone (marks_of asked.older) × IsAgedOut asked.older by.request.to key dropped.tombstone = subst (MayAsk cluster asked.older by.request) by.is may in
          let there = deeper asked.at dropped.stands.at in
          let acked : ProposedAt key dropped.tombstone asked.older = acked_proposed cluster (lawful_older cluster lawful there) (acked_at asked.older remove.1) in
          let proposed : ProposedAt key floor log = subst (λ b. ProposedAt key b log) same (record { proposal = acked.proposal; older = acked.older; at = deeper acked.at there; same_key = acked.same_key; same_ballot = acked.same_ballot }) in
          absurd (never_proposed cluster lawful o proposed)
      | inr above ↦ record { floor = dropped.tombstone; state = drop.state; stands = stands_part drop.floor (part_of dropped.stands.at); above = above }
    ]

-- an acceptor that took it and granted a later proposal told it, or a floor above it stands
granted_after : (cluster : Cluster) {log : List Happening} {acceptor : ℕ} {floor : Ballot} {p : Proposal} → Lawful cluster log → Orderly cluster log → HasOpening p.key floor log → BallotLess zero_ballot floor
    → Stands (Took acceptor p.key floor zero_ballot) log → Granted log acceptor p → BallotLess floor p.ballot → p.read ≡ zero_ballot → HasFloorAbove p.key floor (marks_of log)
granted_after cluster {log} {acceptor} {floor} {p} lawful orderly o some took (by_promise told place low is_in) less nothing = elim (order took.at place.at) [
  | older_than before ↦
      let there = lawful_older cluster lawful place.at in
      let may : MayPromiseBy place.older acceptor p.key p.ballot told = reason cluster orderly place.at in
      elim ((slot_bounds cluster place.older acceptor p.key there).took floor zero_ballot (stands_at before)) [
        | inl taken ↦ absurd (less_not_at_most some (at_most_trans (subst (BallotAtMost floor) (sym may.slot) taken) (subst (BallotAtMost told) nothing low)))
        | inr dropped ↦ floor_of_drop cluster lawful orderly o (record { tombstone = dropped.tombstone; stands = stands_deeper dropped.stands place.at; above = dropped.above })
      ]
  | newer_than after ↦
      let take : MayTake took.older acceptor p.key floor = law cluster lawful took.at in
      absurd (less_not_at_most less (take.seen p.ballot (in_promise told (stands_at after))))
  | at_one same older_same ↦ absurd (cc same)
]
granted_after cluster {log} {acceptor} {floor} {p} lawful orderly o some took (by_ride place is_in) less nothing = elim (order took.at place.at) [
  | older_than before ↦
      let take : MayTake place.older acceptor p.key p.read = law cluster lawful place.at in
      absurd (less_not_at_most some (subst (BallotAtMost floor) nothing (take.seen floor (in_take zero_ballot (stands_at before)))))
  | newer_than after ↦
      let take : MayTake took.older acceptor p.key floor = law cluster lawful took.at in
      absurd (less_not_at_most less (take.seen p.ballot (in_ride p.read (stands_at after))))
  | at_one same older_same ↦ let is_read : floor ≡ p.read = cc same in absurd (less_irreflexive (subst (BallotLess zero_ballot) (is_read ∙ nothing) some))
]

-- ---- what is read
-- a floor above it is under the link of a proposal
above_links : (cluster : Cluster) {log older : List Happening} {p : Proposal} {floor : Ballot} → Lawful cluster log → At (Marked (Proposed p)) older log → HasFloorAbove p.key floor (marks_of older)
    → link_of (marks_of older) p ≡ floor → ⊥
above_links cluster {log} {older} {p} {floor} lawful at above is =
    let low = at_most_floor_below above.stands.at ((proposal_law cluster lawful at).above_floors above.stands) in
    less_not_at_most above.above (subst (BallotAtMost above.floor) is (at_most_trans low (at_most_greater_right p.read (floor_below p.key p.ballot (marks_of older)))))

pub opening_read : (cluster : Cluster) → ClusterMeets cluster → {log older : List Happening} {p : Proposal} {floor : Ballot} → Lawful cluster log → Orderly cluster older → At (Marked (Proposed p)) older log
    → p.read ≡ zero_ballot → HistoryIsOpened cluster older p.key floor → link_of (marks_of older) p ≡ floor → ⊥
opening_read cluster meet {log} {older} {p} {floor} lawful orderly at nothing opened is =
    let may = proposal_law cluster lawful at in
    let before = lawful_older cluster lawful at in
    let o = opened.opening in
    elim (le_or_lt p.era 1) [
      | inl near ↦
          let shared = meet p.era 0 (omega arith) (omega arith) p.prepared_by opened.by may.quorum opened.accepts in
          let less = above_opening cluster lawful at (opening_at cluster lawful (has_opening_deeper o at)) in
          above_links cluster lawful at (granted_after cluster before orderly o opened.some (opened.took shared.acceptor shared.right) (may.granted shared.acceptor shared.left) less nothing) is
      | inr far ↦
          let entry = entered_at cluster lawful at (omega arith) in
          let next : p.era ≡ suc entry.left = entry.next in
          let there = lawful_older cluster before entry.at in
          let o_there : HasOpening p.key floor entry.older = opening_before (λ none. none) o entry.at in
          elim (entry.may_leave.openings o_there (omega arith)) [
            | inl rescanned ↦
                let r = rescan_at cluster entry.older rescanned in
                let low = rescan_below cluster meet lawful at entry refl r in
                let less = above_opening cluster there r.at (subst (λ k. OpeningAt k floor entry.older) (sym r.same_key) (opening_at cluster there o_there)) in
                less_not_at_most less (subst (BallotAtMost r.proposal.ballot) is low)
            | inr above ↦ above_links cluster lawful at (record { floor = above.floor; state = above.state; stands = stands_part above.stands (part_of entry.at); above = above.above }) is
          ]
    ]

-- ---- the stones
-- what was taken first stands in each part in which an era was entered
taken_in : {happening : Happening} {older then log place : List Happening} {proposer era : ℕ} → IsOlderPart then log → At (Entered proposer era) place then → At happening older log → AreFirst older → At happening older then
taken_in whole entered at first = at
taken_in (later part) entered here first = absurd (first_at _ first (stands_part (stands_at entered) part).at)
taken_in (later part) entered (past at) first = taken_in part entered at first

-- who took it did so first
took_first : (cluster : Cluster) {log : List Happening} {acceptor : ℕ} {key : List ℕ} {floor ride : Ballot} → Lawful cluster log → Orderly cluster log → HasOpening key floor log
    → (took : Stands (Took acceptor key floor ride) log) → AreFirst took.older
took_first cluster {log} {acceptor} {key} {floor} {ride} lawful orderly o took = by (reason cluster orderly took.at)
  where
    by : MayTakeBy took.older acceptor key floor ride ⊎ MayTakeFirst cluster took.older acceptor key floor ride → AreFirst took.older
    by (inr first) = first.first
    by (inl asked) =
        let at = deeper asked.was_asked.asked.at took.at in
        let may : MayAsk cluster asked.was_asked.asked.older asked.request asked.request.ask = reason cluster orderly at in
        let accept : MayAsk cluster asked.was_asked.asked.older asked.request (ask.Accept key floor asked.era asked.rides asked.state) = subst (MayAsk cluster asked.was_asked.asked.older asked.request) asked.is may in
        let p = proposed_at asked.was_asked.asked.older accept.1 in
        absurd (never_proposed cluster lawful o (record { proposal = p.proposal; older = p.older; at = deeper p.at at; same_key = p.same_key; same_ballot = p.same_ballot }))

-- an acceptor that took it and was shown without a slot later had removed the slot at a floor above it
absent_above : (cluster : Cluster) {log : List Happening} {era acceptor : ℕ} {key : List ℕ} {floor : Ballot} → Lawful cluster log → Orderly cluster log → HasOpening key floor log → BallotLess zero_ballot floor
    → (took : Stands (Took acceptor key floor zero_ballot) log) → WasAbsent cluster era log acceptor key → HasFloorAbove key floor (marks_of log)
absent_above cluster {log} {era} {acceptor} {key} {floor} lawful orderly o some took absent =
    let there = lawful_part cluster lawful absent.part in
    let entered = entered_of_mark cluster absent.then there (absent.entered 0 (omega arith)) in
    let at = taken_in absent.part entered.at took.at (took_first cluster lawful orderly o took) in
    let bounds : SlotBounds no_slot_told acceptor key absent.then = subst (λ (s : SlotTold). SlotBounds s acceptor key absent.then) absent.none (slot_bounds cluster absent.then acceptor key there) in
    elim (bounds.took floor zero_ballot (stands_at at)) [
      | inl low ↦ absurd (less_not_at_most some low)
      | inr dropped ↦ floor_of_drop cluster lawful orderly o (record { tombstone = dropped.tombstone; stands = stands_part dropped.stands absent.part; above = dropped.above })
    ]

pub opening_stone : (cluster : Cluster) → ClusterMeets cluster → {log : List Happening} {era : ℕ} {by : List ℕ} {key : List ℕ} {floor : Ballot} → Lawful cluster log → Orderly cluster log → 0 < era
    → AllEntered cluster era (marks_of log) → cluster.accepts era by ≡ true
    → ((acceptor : ℕ) (key : List ℕ) → has_member by acceptor ≡ true → IsRescanned cluster era key (marks_of log) ⊎ WasAbsent cluster era log acceptor key)
    → HistoryIsOpened cluster log key floor → IsRescanned cluster era key (marks_of log) ⊎ HasFloorAbove key floor (marks_of log)
opening_stone cluster meet {log} {era} {by} {key} {floor} lawful orderly some entered quorum listed opened = elim (early_of key era (marks_of log)) [
  | greatest_early q g ↦ elim (stones_of_listing cluster meet lawful entered quorum listed g.stands g.early) [
    | inl rescanned ↦ inl (subst (λ k. IsRescanned cluster era k (marks_of log)) g.same_key rescanned)
    | inr collected ↦
        let found = in_log log g.stands.at in
        let less : BallotLess floor q.ballot = above_opening cluster lawful found.at (subst (λ k. OpeningAt k floor log) (sym g.same_key) (opening_at cluster lawful opened.opening)) in
        inr (record {
          floor = collected.floor;
          state = collected.state;
          stands = subst (λ k. Stands (Floor k collected.floor collected.state) (marks_of log)) g.same_key collected.stands;
          above = less_at_most less (collected.above g.stands refl g.early);
        })
  ]
  | none_early none ↦ elim (le_or_lt era 1) [
    | inl first ↦
        let shared = meet 0 era (omega arith) (omega arith) opened.by by opened.prepares quorum in
        elim (listed shared.acceptor key shared.right) [
          | inl rescanned ↦ inl rescanned
          | inr absent ↦ inr (absent_above cluster lawful orderly opened.opening opened.some (opened.took shared.acceptor shared.left) absent)
        ]
    | inr far ↦
        let entry = entered_of_mark cluster log lawful (entered 0 (omega arith)) in
        let may = enter_law cluster lawful entry.at in
        let next : era ≡ suc may.left = may.next in
        elim (may.may_leave.openings (opening_before (λ no. no) opened.opening entry.at) (omega arith)) [
          | inl rescanned ↦
              let r = rescan_at cluster entry.older rescanned in
              let r_era : r.proposal.era ≡ may.left = r.same_era in
              absurd (none r.proposal (stands_at (mark_at (deeper r.at entry.at))) r.same_key (omega arith))
          | inr above ↦ inr (record { floor = above.floor; state = above.state; stands = stands_part above.stands (part_of entry.at); above = above.above })
        ]
  ]
]
