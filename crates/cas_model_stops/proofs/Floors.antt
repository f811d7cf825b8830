-- What is known of the floors of a key where a proposal reads nothing.
use Rattle.std.proofs.Common.{◌≡◌, ◌<◌, ◌≤◌, ℕ, true, List, [], ◌∷◌, ◌++◌, length, refl, sym, ap, subst, ◌∙◌, inl, inr, arith}
use Rattle.std.proofs.lemmas.List.{append-nil, length-append}
use Rattle.cas_ballot.specs.declared.ballot.Ballot.{Ballot}
use Rattle.cas_ballot.specs.Ballot.{zero_ballot, BallotAtMost, BallotLess}
use Rattle.cas_ballot.specs.Members.{has_member}
use Rattle.cas_ballot.proofs.BallotLemmas.{at_most_antisym, at_most_or_less, less_at_most, less_irreflexive}
use Rattle.cas_quorum.specs.Quorum.{Shared}
use Rattle.cas_slot.specs.Contents.{Contents}
use Rattle.cas_slot.specs.Slot.{accepted_ballot}
use Rattle.cas_slot.specs.Table.{accepted_at}
use Rattle.cas_record.specs.declared.entry.Entry.{Entry}
use Rattle.cas_record.specs.declared.mark.Mark.TheVariants.{Floor}
use Rattle.cas_record.specs.Histories.Chain.{chain_of, top_of, settled_of, link_of, entry_of}
use Rattle.cas_record.specs.Laws.{HistoryIsOpened}
use Rattle.cas_record.specs.Legal.{IsAcked, HasFloor}
use Rattle.cas_record.specs.Logs.Happening.{Happening, Marked, Dropped, Entered, marks_of}
use Rattle.cas_record.specs.Logs.Lawful.{Cluster, ClusterMeets, Lawful, IsIn, HasOpening, MayDrop, MayEnter}
use Rattle.cas_record.specs.Logs.Orderly.{Orderly, IsAgedOut, MayAsk, MayDropBy}
use Rattle.cas_record.specs.Places.{At, past, Stands, IsPrefix}
use Rattle.cas_record.proofs.Histories.Chains.{acked_at_most_top, chain-none}
use Rattle.cas_record.proofs.Logs.Agreement.{by_ack, settled_begins}
use Rattle.cas_record.proofs.Logs.Eras.{enter_law, le_or_lt, seam_of}
use Rattle.cas_record.proofs.Logs.Lemmas.{AckedAt, ProposedAt, acked_at, acked_proposed, chain_of_proposal, has_none_opening, law, lawful_older, part_of}
use Rattle.cas_record.proofs.Logs.Openings.{never_proposed, opening_at, opening_before}
use Rattle.cas_record.proofs.Logs.Orders.{reason}
use Rattle.cas_record.proofs.PlaceLemmas.{deeper, stands_later, stands_part}
use Rattle.cas_protocol.specs.Laws.{LogTellsKept}
use Rattle.cas_protocol.proofs.Staying.{taken}

-- ---- lists
-- two lists that begin each other are the same
pub same_prefix : {A : Type 0} (xs ys : List A) → IsPrefix xs ys → IsPrefix ys xs → xs ≡ ys
same_prefix {A} xs ys there back =
    let none : length there.rest ≡ 0 = omega (arith, ap (λ (l : List A). length l) there.joins, ap (λ (l : List A). length l) back.joins, length-append xs there.rest, length-append ys back.rest) in
    sym (append-nil xs) ∙ ap (λ (l : List A). xs ++ l) (sym (empty there.rest none)) ∙ sym there.joins
  where
    empty : (l : List A) → length l ≡ 0 → l ≡ []
    empty [] is = refl
    empty (x ∷ l) is = absurd (omega (arith, is))

-- what begins the empty list is empty
pub none_begins : {A : Type 0} (xs : List A) → IsPrefix xs [] → xs ≡ []
none_begins [] front = refl
none_begins (x ∷ xs) front = absurd (cc front.joins)

-- ---- opening floors
-- the greatest floor of the key, with which its history opened, was removed by nobody
opening_stays : (cluster : Cluster) (log : List Happening) (id : ℕ) (key : List ℕ) (floor : Ballot) → Lawful cluster log → Orderly cluster log → HasOpening key floor log
    → ((other : Ballot) → HasFloor key other (marks_of log) → BallotAtMost other floor) → (tomb : Ballot) → Stands (Dropped id key tomb) log → BallotLess tomb floor
opening_stays cluster log id key floor lawful orderly opening greatest tomb stands =
    let drop : MayDrop stands.older id key tomb = law cluster lawful stands.at in
    let low : BallotAtMost tomb floor = greatest tomb (record { state = drop.state; stands = stands_part drop.floor (part_of stands.at) }) in
    elim (at_most_or_less floor tomb) [
      | inl same ↦
          let is : tomb ≡ floor = at_most_antisym low same in
          let by : MayDropBy stands.older id key tomb = reason cluster orderly stands.at in
          let asked = by.was_asked.asked in
          let may : MayAsk cluster asked.older by.request by.request.ask = reason cluster orderly (deeper asked.at stands.at) in
          let remove : HasFloor key tomb (marks_of asked.older) × IsAcked key tomb (marks_of asked.older) × IsAgedOut asked.older by.request.to key tomb =
          subst (MayAsk cluster asked.older by.request) by.is may in
          let there = deeper asked.at stands.at in
          let acked : ProposedAt key tomb asked.older = acked_proposed cluster (lawful_older cluster lawful there) (acked_at asked.older remove.1) in
          let proposed : ProposedAt key floor log =
          subst (λ (b : Ballot). ProposedAt key b log) is (record {
            proposal = acked.proposal;
            older = acked.older;
            at = deeper acked.at there;
            same_key = acked.same_key;
            same_ballot = acked.same_ballot;
          }) in
          absurd (never_proposed cluster lawful opening proposed)
      | inr less ↦ less
    ]

-- an acknowledged ballot of the key is above the floor with which its history opened, and has an entry in what is settled
acked_entry : (cluster : Cluster) (log : List Happening) (key : List ℕ) (ballot : Ballot) → ClusterMeets cluster → Lawful cluster log → IsAcked key ballot (marks_of log)
    → settled_of key (marks_of log) ≡ [] → ⊥
acked_entry cluster log key ballot meets lawful acked none =
    let place : AckedAt key ballot log = acked_at log acked in
    let p = acked_proposed cluster lawful place in
    let low : BallotAtMost ballot (top_of key (marks_of log)) =
    subst (λ (k : List ℕ). BallotAtMost ballot (top_of k (marks_of log))) acked.same_key
    (subst (λ (b : Ballot). BallotAtMost b (top_of acked.acknowledgment.key (marks_of log))) acked.same_ballot (acked_at_most_top acked.stands.at)) in
    let begins : IsPrefix (chain_of key ballot (marks_of log)) (settled_of key (marks_of log)) = settled_begins cluster lawful (seam_of cluster meets log lawful) (by_ack place) low in
    let empty : chain_of key ballot (marks_of log) ≡ [] = none_begins (chain_of key ballot (marks_of log)) (subst (IsPrefix (chain_of key ballot (marks_of log))) none begins) in
    let link = link_of (marks_of p.older) p.proposal in
    let whole : chain_of p.proposal.key p.proposal.ballot (marks_of log) ≡ chain_of p.proposal.key link (marks_of log) ++ entry_of (marks_of p.older) p.proposal ∷ [] =
    chain_of_proposal cluster lawful p.at in
    not_empty (chain_of p.proposal.key (link_of (marks_of p.older) p.proposal) (marks_of log)) (entry_of (marks_of p.older) p.proposal)
    (sym whole ∙ ap (λ (k : List ℕ). chain_of k p.proposal.ballot (marks_of log)) p.same_key ∙ ap (λ (b : Ballot). chain_of key b (marks_of log)) p.same_ballot ∙ empty)
  where
    not_empty : (before : List Entry) (entry : Entry) → before ++ entry ∷ [] ≡ [] → ⊥
    not_empty [] entry is = cc is
    not_empty (x ∷ before) entry is = cc is

-- A floor with which the history of a key opened, and which is its greatest, is held by one of a prepare quorum of an era that a proposer is in.
pub opening_is_held : (cluster : Cluster) → ClusterMeets cluster
    → (log : List Happening) (key : List ℕ) (floor : Ballot) (proposer era : ℕ) (by : List ℕ) (left : ℕ → Contents) → Lawful cluster log → Orderly cluster log
    → HistoryIsOpened cluster log key floor → ((other : Ballot) → HasFloor key other (marks_of log) → BallotAtMost other floor) → cluster.prepares era by ≡ true
    → IsIn log proposer era
    → ((id : ℕ) → has_member by id ≡ true → (done : List Happening) × LogTellsKept cluster (done ++ log) id (left id) × (marks_of (done ++ log) ≡ marks_of log))
    → IsPrefix (settled_of key (marks_of log)) (chain_of key floor (marks_of log))
    → (id : ℕ) × (has_member by id ≡ true) × BallotAtMost floor (accepted_ballot (accepted_at (left id) key))
opening_is_held cluster meets log key floor proposer era by left lawful orderly opened greatest quorum is_in on begins = by_era is_in
  where
    nothing_settled : settled_of key (marks_of log) ≡ []
    nothing_settled = none_begins (settled_of key (marks_of log))
        (subst (IsPrefix (settled_of key (marks_of log))) (chain-none key floor (marks_of log) (has_none_opening cluster lawful (opening_at cluster lawful opened.opening))) begins)

    greatest_in : (done : List Happening) → marks_of (done ++ log) ≡ marks_of log → (other : Ballot) → HasFloor key other (marks_of (done ++ log)) → BallotAtMost other floor
    greatest_in done same other has = greatest other (subst (HasFloor key other) same has)

    opening_in : (done : List Happening) → HasOpening key floor (done ++ log)
    opening_in done = record { state = opened.opening.state; older = opened.opening.older; at = later done; first = opened.opening.first }
      where
        later : (done : List Happening) → At (Marked (Floor key floor opened.opening.state)) opened.opening.older (done ++ log)
        later [] = opened.opening.at
        later (x ∷ xs) = past (later xs)

    -- in the first two eras its quorum meets that of the opening
    early : era ≤ 1 → (id : ℕ) × (has_member by id ≡ true) × BallotAtMost floor (accepted_ballot (accepted_at (left id) key))
    early low =
        let shared : Shared by opened.by = meets era 0 (omega (arith, low)) (omega arith) by opened.by quorum opened.accepts in
        let id = shared.acceptor in
        let there = on id shared.left in (
          id,
          shared.left,
          taken cluster (there.0 ++ log) id (left id) key floor zero_ballot there.1 (stands_later there.0 (opened.took id shared.right))
              (opening_stays cluster (there.0 ++ log) id key floor there.1.lawful there.1.orderly (opening_in there.0) (greatest_in there.0 there.2)),
        )

    -- later ones were entered once the key was proposed anew and acknowledged
    entered : Stands (Entered proposer era) log → 1 < era → ⊥
    entered stands high =
        let may : MayEnter cluster stands.older proposer era = enter_law cluster lawful stands.at in
        let opening : HasOpening key floor stands.older = opening_before (λ none. none) opened.opening stands.at in
        elim (may.may_leave.openings opening (omega (arith, high, may.next))) [
          | inl rescanned ↦
              let acked : IsAcked key rescanned.proposal.ballot (marks_of log) = record {
                acknowledgment = rescanned.acked.acknowledgment;
                stands = stands_part rescanned.acked.stands (part_of stands.at);
                same_key = rescanned.acked.same_key;
                same_ballot = rescanned.acked.same_ballot;
              } in
              acked_entry cluster log key rescanned.proposal.ballot meets lawful acked nothing_settled
          | inr above ↦ less_irreflexive (less_at_most above.above (greatest above.floor (record { state = above.state; stands = stands_part above.stands (part_of stands.at) })))
        ]

    by_era : IsIn log proposer era → (id : ℕ) × (has_member by id ≡ true) × BallotAtMost floor (accepted_ballot (accepted_at (left id) key))
    by_era (inl first) = early (omega (arith, first))
    by_era (inr stands) = elim (le_or_lt era 1) [
      | inl low ↦ early low
      | inr high ↦ absurd (entered stands (omega (arith, high)))
    ]
