-- The seam, over any chain of eras of which neighbours meet.
use Rattle.std.proofs.Common.{◌≡◌, ℕ, suc, zero, ◌<◌, ◌≤◌, List, arith, refl, sym, ap, ◌∙◌, subst}
use Rattle.std.specs.Prelude.{◌⊎◌}
use mathlib.Core.Logic.{inl, inr}
use Rattle.cas_ballot.specs.declared.ballot.Ballot.{Ballot}
use Rattle.cas_ballot.specs.Ballot.{BallotAtMost, BallotLess}
use Rattle.cas_ballot.proofs.BallotLemmas.{at_most_trans, at_most_greater_right, less_not_at_most, at_most_less, at_most_of_less}
use Rattle.cas_record.specs.declared.mark.Mark.TheVariants.{Proposed, Floor, EraEntered}
use Rattle.cas_record.specs.declared.mark.Proposal.{Proposal}
use Rattle.cas_record.specs.Places.{At, Stands}
use Rattle.cas_record.specs.Histories.Chain.{floor_below, link_of}
use Rattle.cas_record.specs.Logs.Happening.{Happening, Marked, Took, Entered, marks_of}
use Rattle.cas_record.specs.Logs.Lawful.{Cluster, ClusterMeets, Lawful, MayTake, MayEnter, MayLeaveEra, MayMarkEra, HasSeen, in_promise, in_take, in_ride, AllEntered, IsRescanned, Granted, by_promise, by_ride}
use Rattle.cas_record.proofs.PlaceLemmas.{deeper, stands_deeper, stands_at, stands_part, older_than, newer_than, at_one, order}
use Rattle.cas_record.proofs.Histories.Chains.{at_most_floor_below}
use Rattle.cas_record.proofs.Logs.Lemmas.{made_proposed, law, lawful_older, mark_at, in_log, part_of, proposal_law, ack_law, AckedAt, acked_at, one_place, link_below}
use Rattle.cas_record.proofs.Logs.Agreement.{Seam, took_before_grant, under_shared, took_of_acked, place_of}

pub le_or_lt : (a b : ℕ) → (a ≤ b) ⊎ (suc b ≤ a)
le_or_lt a b = grind arith

-- ---- entries
pub enter_law : (cluster : Cluster) {log older : List Happening} {proposer era : ℕ} → Lawful cluster log → At (Entered proposer era) older log → MayEnter cluster older proposer era
enter_law cluster lawful at = law cluster lawful at

-- who is marked as in an era entered it
pub entered_of_mark : (cluster : Cluster) (log : List Happening) {proposer era : ℕ} → Lawful cluster log → Stands (EraEntered proposer era) (marks_of log) → Stands (Entered proposer era) log
entered_of_mark cluster log {proposer} {era} lawful s =
    let found = in_log log s.at in
    let may : MayMarkEra found.older proposer era = law cluster lawful found.at in
    stands_deeper may.entered found.at

-- who entered an era entered all that come before it
pub entered_by : (cluster : Cluster) (n : ℕ) {log : List Happening} {proposer era : ℕ} (earlier : ℕ) → era ≤ n → Lawful cluster log → Stands (Entered proposer era) log
    → 0 < earlier → earlier ≤ era → Stands (Entered proposer earlier) log
entered_by cluster zero earlier fuel lawful s some low = absurd (omega arith)
entered_by cluster (suc n) {log} {proposer} {era} earlier fuel lawful s some low =
    let may = enter_law cluster lawful s.at in
    elim (le_or_lt era earlier) [
      | inl high ↦ let same : era ≡ earlier = omega arith in subst (λ e. Stands (Entered proposer e) log) same s
      | inr below ↦
          let left = may.left in
          let next : era ≡ suc left = may.next in
          let marked = may.may_leave.all_in (omega arith) proposer may.may_leave.known in
          let before = lawful_older cluster lawful s.at in
          stands_deeper (entered_by cluster n earlier (omega arith) before (entered_of_mark cluster s.older before marked) some (omega arith)) s.at
    ]

-- once all proposers are marked as in an era, nothing is proposed in an earlier one
pub before_all_entered : (cluster : Cluster) {happening : Happening} {log older place : List Happening} {q : Proposal} {era : ℕ} → Lawful cluster log → At happening place log
    → AllEntered cluster era (marks_of place) → At (Marked (Proposed q)) older log → q.era < era → (happening ≡ Marked (Proposed q) → ⊥) → At (Marked (Proposed q)) older place
before_all_entered cluster {older = older} {place = place} {q = q} {era = era} lawful at entered q_at early other = elim (order q_at at) [
  | older_than before ↦ before
  | newer_than after ↦
      let may = proposal_law cluster lawful q_at in
      let there = lawful_older cluster lawful at in
      let mark = entered q.ballot.proposer may.known in
      let next = entered_by cluster era (suc q.era) (omega arith) there (entered_of_mark cluster place there mark) (omega arith) early in
      absurd (may.not_beyond (stands_deeper next after))
  | at_one same older_same ↦ absurd (other (sym same))
]

-- a proposer enters an era once
entered_once : (cluster : Cluster) {log xs ys : List Happening} {proposer era : ℕ} → Lawful cluster log → At (Entered proposer era) xs log → At (Entered proposer era) ys log → xs ≡ ys
entered_once cluster {xs = xs} {ys = ys} {proposer = proposer} {era = era} lawful at also = elim (order at also) [
  | older_than before ↦
      let may = enter_law cluster lawful also in
      absurd (may.may_leave.once (subst (λ e. Stands (Entered proposer e) ys) may.next (stands_at before)))
  | newer_than after ↦
      let may = enter_law cluster lawful at in
      absurd (may.may_leave.once (subst (λ e. Stands (Entered proposer e) xs) may.next (stands_at after)))
  | at_one same older_same ↦ older_same
]

-- ---- grants
-- who granted a ballot has seen it
pub granted_seen : {log : List Happening} {acceptor : ℕ} {p : Proposal} → Granted log acceptor p → HasSeen log acceptor p.key p.ballot
granted_seen (by_promise told place low is_in) = in_promise told place
granted_seen {p = p} (by_ride place is_in) = in_ride p.read place

pub seen_deeper : {happening : Happening} {older log : List Happening} {acceptor : ℕ} {key : List ℕ} {ballot : Ballot} → HasSeen older acceptor key ballot → At happening older log → HasSeen log acceptor key ballot
seen_deeper (in_promise told s) at = in_promise told (stands_deeper s at)
seen_deeper (in_take ride s) at = in_take ride (stands_deeper s at)
seen_deeper (in_ride taken s) at = in_ride taken (stands_deeper s at)

-- ---- rescans
pub record RescanAt (cluster : Cluster) (era : ℕ) (key : List ℕ) (log : List Happening) : Type 0 where
  pub proposal : Proposal
  pub older : List Happening
  pub at : At (Marked (Proposed proposal)) older log
  pub same_key : proposal.key ≡ key
  pub same_era : proposal.era ≡ era
  pub entered : AllEntered cluster era (marks_of older)
  pub acked : AckedAt key proposal.ballot log

pub rescan_at : (cluster : Cluster) (log : List Happening) {era : ℕ} {key : List ℕ} → IsRescanned cluster era key (marks_of log) → RescanAt cluster era key log
rescan_at cluster log {era} r =
    let found = in_log log r.proposed in
    record {
      proposal = r.proposal;
      older = found.older;
      at = found.at;
      same_key = r.same_key;
      same_era = r.same_era;
      entered = subst (AllEntered cluster era) found.is r.entered;
      acked = acked_at log r.acked;
    }

-- the era of an acknowledgment is that of its proposal
acked_era : (cluster : Cluster) {log older : List Happening} {p : Proposal} → Lawful cluster log → (a : AckedAt p.key p.ballot log) → At (Marked (Proposed p)) older log → a.acknowledgment.era ≡ p.era
acked_era cluster lawful a at =
    let votes = (ack_law cluster lawful a.at).votes in
    let found = in_log a.older votes.proposed.at in
    let one = one_place cluster lawful (deeper found.at a.at) at (votes.same_key ∙ a.same_key) (votes.same_ballot ∙ a.same_ballot) in
    sym votes.same_era ∙ ap (λ (x : Proposal). x.era) one.same

-- a proposal of the era before that stands before the rescan is at most the rescan
above_by : (cluster : Cluster) → ClusterMeets cluster → {log older before : List Happening} {p q : Proposal} → Lawful cluster log → At (Marked (Proposed p)) older log → AckedAt p.key p.ballot log
    → At (Marked (Proposed q)) before older → q.key ≡ p.key → q.era ≤ suc p.era → p.era ≤ suc q.era → BallotAtMost q.ballot p.ballot
above_by cluster meet {log} {older} {before} {p} {q} lawful at acked q_at same_key low high =
    let era = acked_era cluster lawful acked at in
    let quorum = (ack_law cluster lawful acked.at).quorum in
    let q_law = proposal_law cluster lawful (deeper q_at at) in
    let shared = meet q.era acked.acknowledgment.era (omega arith) (omega arith) q.prepared_by acked.acknowledgment.by q_law.quorum quorum in
    let took = took_of_acked cluster lawful acked shared.acceptor shared.right in
    let took_at = deeper took.stands.at acked.at in
    let take : MayTake took.stands.older shared.acceptor p.key p.ballot = law cluster lawful took_at in
    let there = made_proposed cluster lawful at took_at take.made in
    let one = one_place cluster lawful (deeper there.at took_at) at there.same_key there.same_ballot in
    let behind : At (Marked (Proposed q)) before there.older = subst (λ xs. At (Marked (Proposed q)) before xs) (sym one.older_same) q_at in
    let seen : HasSeen took.stands.older shared.acceptor q.key q.ballot = seen_deeper (granted_seen (q_law.granted shared.acceptor shared.left)) (deeper behind there.at) in
    take.seen q.ballot (subst (λ k. HasSeen took.stands.older shared.acceptor k q.ballot) same_key seen)

-- what stands before a proposal in the log does so because of the era that its proposer entered
pub record EnteredAt (cluster : Cluster) (p : Proposal) (log : List Happening) : Type 0 where
  pub older : List Happening
  pub at : At (Entered p.ballot.proposer p.era) older log
  pub left : ℕ
  pub next : p.era ≡ suc left
  pub may_leave : MayLeaveEra cluster older p.ballot.proposer left

pub entered_at : (cluster : Cluster) {log older : List Happening} {p : Proposal} → Lawful cluster log → At (Marked (Proposed p)) older log → 0 < p.era → EnteredAt cluster p older
entered_at cluster {p = p} lawful at some = elim (proposal_law cluster lawful at).is_in [
  | inl none ↦ absurd (omega arith)
  | inr entered ↦
      let may = enter_law cluster (lawful_older cluster lawful at) entered.at in
      record { older = entered.older; at = entered.at; left = may.left; next = may.next; may_leave = may.may_leave }
]

no_entry : {proposer era : ℕ} {p : Proposal} → Entered proposer era ≡ Marked (Proposed p) → ⊥
no_entry e = cc

-- a rescan is above every proposal of an earlier era
pub rescan_above : (cluster : Cluster) → ClusterMeets cluster → (n : ℕ) {log older : List Happening} {era : ℕ} {key : List ℕ} {q : Proposal} → era ≤ n → Lawful cluster log
    → (r : RescanAt cluster era key log) → At (Marked (Proposed q)) older log → q.key ≡ key → q.era < era → BallotAtMost q.ballot r.proposal.ballot
rescan_above cluster meet zero fuel lawful r q_at same_key early = absurd (omega arith)
rescan_above cluster meet (suc n) {log} {older} {era} {key} {q} fuel lawful r q_at same_key early =
    let p = r.proposal in
    let p_era : p.era ≡ era = r.same_era in
    let acked : AckedAt p.key p.ballot log = subst (λ k. AckedAt k p.ballot log) (sym r.same_key) r.acked in
    let other : Marked (Proposed p) ≡ Marked (Proposed q) → ⊥ = λ e. let same : p.era ≡ q.era = cc e in absurd (omega arith) in
    let q_in = before_all_entered cluster lawful r.at r.entered q_at early other in
    elim (le_or_lt era (suc q.era)) [
      | inl adjacent ↦ above_by cluster meet lawful r.at acked q_in (same_key ∙ sym r.same_key) (omega arith) (omega arith)
      | inr far ↦
          let entry = entered_at cluster lawful r.at (omega arith) in
          let left = entry.left in
          let next : p.era ≡ suc left = entry.next in
          let q_there = before_all_entered cluster (lawful_older cluster lawful r.at) entry.at (entry.may_leave.all_in (omega arith)) q_in (omega arith) no_entry in
          let there = lawful_older cluster lawful (deeper entry.at r.at) in
          elim (entry.may_leave.stones (stands_at (mark_at q_there)) (omega arith)) [
            | inl rescanned ↦
                let s = rescan_at cluster entry.older rescanned in
                let s_era : s.proposal.era ≡ left = s.same_era in
                at_most_trans (rescan_above cluster meet n (omega arith) there s q_there refl (omega arith))
                (above_by cluster meet lawful r.at acked (deeper s.at entry.at) (s.same_key ∙ same_key ∙ sym r.same_key) (omega arith) (omega arith))
            | inr collected ↦
                let floor : Stands (Floor q.key collected.floor collected.state) (marks_of r.older) = stands_part collected.stands (part_of entry.at) in
                at_most_trans (collected.above (stands_at (mark_at q_there)) refl (omega arith))
                (at_most_of_less ((proposal_law cluster lawful r.at).above_floors (subst (λ k. Stands (Floor k collected.floor collected.state) (marks_of r.older)) (same_key ∙ sym r.same_key) floor)))
          ]
    ]

-- ---- the seam
-- the grant of an acceptor to a proposer of a later era stands behind the proposer's entry
after_entry : (cluster : Cluster) {log older : List Happening} {p : Proposal} {acceptor : ℕ} {taken ride : Ballot} → Lawful cluster log → At (Marked (Proposed p)) older log
    → (entry : EnteredAt cluster p older) → (granted : Granted older acceptor p) → Stands (Took acceptor p.key taken ride) entry.older → Stands (Took acceptor p.key taken ride) (place_of granted)
unfolding place_of
after_entry cluster {p = p} {acceptor = acceptor} {taken = taken} {ride = ride} lawful at entry (by_promise told place low is_in) took = elim is_in [
  | inl none ↦ absurd (omega (arith, entry.next))
  | inr entered ↦
      let same = entered_once cluster (lawful_older cluster lawful at) entry.at (deeper entered.at place.at) in
      stands_deeper (subst (λ xs. Stands (Took acceptor p.key taken ride) xs) same took) entered.at
]
after_entry cluster {p = p} {acceptor = acceptor} {taken = taken} {ride = ride} lawful at entry (by_ride place is_in) took = elim is_in [
  | inl none ↦ absurd (omega (arith, entry.next))
  | inr entered ↦
      let same = entered_once cluster (lawful_older cluster lawful at) entry.at (deeper entered.at place.at) in
      stands_deeper (subst (λ xs. Stands (Took acceptor p.key taken ride) xs) same took) entered.at
]

-- a rescan in the era that was left is under the link of each proposal of the next
pub rescan_below : (cluster : Cluster) → ClusterMeets cluster → {log older : List Happening} {p : Proposal} {key : List ℕ} → Lawful cluster log → At (Marked (Proposed p)) older log
    → (entry : EnteredAt cluster p older) → key ≡ p.key → (r : RescanAt cluster entry.left key entry.older) → BallotAtMost r.proposal.ballot (link_of (marks_of older) p)
rescan_below cluster meet {log} {older} {p} {key} lawful at entry same_key r =
    let next : p.era ≡ suc entry.left = entry.next in
    let r_era : r.proposal.era ≡ entry.left = r.same_era in
    let there = lawful_older cluster lawful (deeper entry.at at) in
    let r_key : r.proposal.key ≡ p.key = r.same_key ∙ same_key in
    let acked : AckedAt r.proposal.key r.proposal.ballot entry.older = subst (λ k. AckedAt k r.proposal.ballot entry.older) (sym r.same_key) r.acked in
    let era = acked_era cluster there acked r.at in
    let quorum = (ack_law cluster there acked.at).quorum in
    let law_p = proposal_law cluster lawful at in
    let shared = meet p.era acked.acknowledgment.era (omega arith) (omega arith) p.prepared_by acked.acknowledgment.by law_p.quorum quorum in
    let took = took_of_acked cluster there acked shared.acceptor shared.right in
    let taken : Stands (Took shared.acceptor p.key r.proposal.ballot took.ride) entry.older =
    subst (λ k. Stands (Took shared.acceptor k r.proposal.ballot took.ride) entry.older) r_key (stands_deeper took.stands acked.at) in
    let granted = law_p.granted shared.acceptor shared.left in
    took_before_grant cluster lawful at granted (after_entry cluster lawful at entry granted taken)

-- a proposal of an era two or more before another's is under the other's link
far_below : (cluster : Cluster) → ClusterMeets cluster → {log older before : List Happening} {p q : Proposal} → Lawful cluster log → At (Marked (Proposed p)) older log
    → At (Marked (Proposed q)) before log → q.key ≡ p.key → suc (suc q.era) ≤ p.era → BallotAtMost q.ballot (link_of (marks_of older) p)
far_below cluster meet {log} {older} {before} {p} {q} lawful at q_at same_key far =
    let entry = entered_at cluster lawful at (omega arith) in
    let left = entry.left in
    let next : p.era ≡ suc left = entry.next in
    let entry_at = deeper entry.at at in
    let there = lawful_older cluster lawful entry_at in
    let q_there = before_all_entered cluster lawful entry_at (entry.may_leave.all_in (omega arith)) q_at (omega arith) no_entry in
    elim (entry.may_leave.stones (stands_at (mark_at q_there)) (omega arith)) [
      | inl rescanned ↦
          let r = rescan_at cluster entry.older rescanned in
          let r_era : r.proposal.era ≡ left = r.same_era in
          let high = rescan_above cluster meet left (omega arith) there r q_there refl (omega arith) in
          at_most_trans high (rescan_below cluster meet lawful at entry same_key r)
      | inr collected ↦
          let floor : Stands (Floor p.key collected.floor collected.state) (marks_of older) =
          subst (λ k. Stands (Floor k collected.floor collected.state) (marks_of older)) same_key (stands_part collected.stands (part_of entry.at)) in
          at_most_trans (collected.above (stands_at (mark_at q_there)) refl (omega arith))
          (at_most_trans (at_most_floor_below floor.at ((proposal_law cluster lawful at).above_floors floor)) (at_most_greater_right p.read (floor_below p.key p.ballot (marks_of older))))
    ]

under_acked : (cluster : Cluster) → ClusterMeets cluster → {log older : List Happening} {p : Proposal} {ballot : Ballot} → Lawful cluster log → (a : AckedAt p.key ballot log) → At (Marked (Proposed p)) older log
    → BallotLess ballot p.ballot → BallotAtMost ballot (link_of (marks_of older) p)
under_acked cluster meet {log} {older} {p} {ballot} lawful a at less =
    let votes = (ack_law cluster lawful a.at).votes in
    let found = in_log a.older votes.proposed.at in
    let q = votes.proposal in
    let q_at = deeper found.at a.at in
    let q_key : q.key ≡ p.key = votes.same_key ∙ a.same_key in
    let q_ballot : q.ballot ≡ ballot = votes.same_ballot ∙ a.same_ballot in
    let q_era : q.era ≡ a.acknowledgment.era = votes.same_era in
    elim (le_or_lt p.era (suc q.era)) [
      | inr far ↦ subst (λ b. BallotAtMost b (link_of (marks_of older) p)) q_ballot (far_below cluster meet lawful at q_at q_key far)
      | inl near ↦ elim (le_or_lt q.era (suc p.era)) [
        | inr far ↦
            let high = far_below cluster meet lawful q_at at (sym q_key) far in
            let above : BallotLess p.ballot ballot = subst (BallotLess p.ballot) q_ballot (at_most_less high (link_below cluster lawful q_at)) in
            absurd (less_not_at_most less (at_most_of_less above))
        | inl also ↦ under_shared cluster lawful a at
            (meet p.era a.acknowledgment.era (omega arith) (omega arith) p.prepared_by a.acknowledgment.by (proposal_law cluster lawful at).quorum (ack_law cluster lawful a.at).quorum) less
      ]
    ]

pub seam_of : (cluster : Cluster) → ClusterMeets cluster → (log : List Happening) → Lawful cluster log → Seam log
seam_of cluster meet log lawful = record { under = λ {p} {older} {ballot} a at less. under_acked cluster meet lawful a at less }
