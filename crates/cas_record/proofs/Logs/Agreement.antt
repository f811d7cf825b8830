-- Agreement: the history of a ballot that was acknowledged begins that of each greater proposal. All follows from the
-- seam: an acknowledged ballot is at most the link of each greater proposal.
use Rattle.std.proofs.Common.{◌≡◌, ℕ, suc, zero, ◌<◌, true, List, [], ◌∷◌, length, arith, sym, ap, ◌∙◌, subst}
use Rattle.std.specs.Prelude.{◌⊎◌}
use mathlib.Core.Logic.{inl, inr}
use Rattle.cas_ballot.specs.declared.ballot.Ballot.{Ballot}
use Rattle.cas_ballot.specs.Ballot.{zero_ballot, BallotAtMost, BallotLess}
use Rattle.cas_ballot.specs.Members.{has_member}
use Rattle.cas_ballot.proofs.BallotLemmas.{at_most_refl, at_most_trans, at_most_antisym, at_most_or_less, at_most_greater_left, at_most_greater_right, less_irreflexive, less_not_at_most, less_at_most, at_most_of_less, none_below_zero}
use Rattle.cas_quorum.specs.Quorum.{Shared}
use Rattle.cas_record.specs.declared.mark.Mark.{Mark}
use Rattle.cas_record.specs.declared.mark.Mark.TheVariants.{Proposed}
use Rattle.cas_record.specs.declared.mark.Proposal.{Proposal}
use Rattle.cas_record.specs.Places.{At, Stands, IsPrefix}
use Rattle.cas_record.specs.Histories.Chain.{floor_below, link_of, entry_of, chain_of, top_of, settled_of}
use Rattle.cas_record.specs.Legal.{HasFloor}
use Rattle.cas_record.specs.Logs.Happening.{Happening, Marked, Promised, Took, marks_of}
use Rattle.cas_record.specs.Logs.Lawful.{Cluster, Lawful, MayPromise, MayTake, MayVote, in_promise, in_take, in_ride, Granted, by_promise, by_ride}
use Rattle.cas_record.proofs.PlaceLemmas.{deeper, stands_deeper, stands_at, stands_part, older_than, newer_than, at_one, order, length-At, prefix_same, nil_prefix, prefix_append}
use Rattle.cas_record.proofs.Histories.Chains.{at_most_floor_below, top_cases, top_later, chain-none}
use Rattle.cas_record.proofs.Logs.Lemmas.{law, lawful_older, mark_at, mark_stands, in_log, part_of, proposal_law, ack_law, floor_law, ProposedAt, AckedAt, acked_at, acked_deeper, acked_proposed, OpeningAt, opening_deeper, above_opening, BeginsHistory, at_zero, at_proposal, at_opening, link_begins, has_none_zero, chain_whole, chain_of_proposal}

-- ---- what a granting acceptor took is under the link
low_read : (p : Proposal) (older : List Mark) {taken : Ballot} → BallotAtMost taken p.read → BallotAtMost taken (link_of older p)
low_read p older low = at_most_trans low (at_most_greater_left p.read (floor_below p.key p.ballot older))

no_promise : {a b : ℕ} {k l : List ℕ} {x y z w : Ballot} → Took a k x y ≡ Promised b l z w → ⊥
no_promise e = cc

same_taken : {a b : ℕ} {k l : List ℕ} {x y z w : Ballot} → Took a k x y ≡ Took b l z w → x ≡ z
same_taken e = cc

-- where in the log the acceptor granted the ballot of a proposal
unfoldable pub place_of : {log : List Happening} {acceptor : ℕ} {p : Proposal} → Granted log acceptor p → List Happening
place_of (by_promise told place low is_in) = place.older
place_of (by_ride place is_in) = place.older

-- what it took before it granted is under the link
pub took_before_grant : (cluster : Cluster) {log older : List Happening} {p : Proposal} {acceptor : ℕ} {taken ride : Ballot} → Lawful cluster log → At (Marked (Proposed p)) older log
    → (granted : Granted older acceptor p) → Stands (Took acceptor p.key taken ride) (place_of granted) → BallotAtMost taken (link_of (marks_of older) p)
unfolding place_of
took_before_grant cluster {older = older} {p = p} lawful at (by_promise told place low is_in) took =
    let may : MayPromise place.older _ p.key p.ballot told = law cluster lawful (deeper place.at at) in
    elim (may.tells took) [
      | inl at_most ↦ low_read p (marks_of older) (at_most_trans at_most low)
      | inr floored ↦
          let standing = stands_part floored.stands (part_of place.at) in
          at_most_trans floored.above (at_most_trans (at_most_floor_below standing.at floored.below) (at_most_greater_right p.read (floor_below p.key p.ballot (marks_of older))))
    ]
took_before_grant cluster {older = older} {p = p} {taken = taken} {ride = ride} lawful at (by_ride place is_in) took =
    let take : MayTake place.older _ p.key p.read = law cluster lawful (deeper place.at at) in
    low_read p (marks_of older) (take.seen taken (in_take ride took))

-- what it took at all, below the proposal, is under the link
pub covered : (cluster : Cluster) {log older : List Happening} {p : Proposal} {acceptor : ℕ} {taken ride : Ballot} → Lawful cluster log → At (Marked (Proposed p)) older log
    → Granted older acceptor p → Stands (Took acceptor p.key taken ride) log → BallotLess taken p.ballot → BallotAtMost taken (link_of (marks_of older) p)
unfolding place_of
covered cluster {older = older} {p = p} {taken = taken} lawful at (by_promise told place low is_in) took less =
    elim (order took.at (deeper place.at at)) [
      | older_than before ↦ took_before_grant cluster lawful at (by_promise told place low is_in) (stands_at before)
      | newer_than after ↦
          let take : MayTake took.older _ p.key taken = law cluster lawful took.at in
          absurd (less_not_at_most less (take.seen p.ballot (in_promise told (stands_at after))))
      | at_one same older_same ↦ absurd (no_promise same)
    ]
covered cluster {older = older} {p = p} {taken = taken} lawful at (by_ride place is_in) took less =
    elim (order took.at (deeper place.at at)) [
      | older_than before ↦ took_before_grant cluster lawful at (by_ride place is_in) (stands_at before)
      | newer_than after ↦
          let take : MayTake took.older _ p.key taken = law cluster lawful took.at in
          absurd (less_not_at_most less (take.seen p.ballot (in_ride p.read (stands_at after))))
      | at_one same older_same ↦ low_read p (marks_of older) (subst (λ b. BallotAtMost taken b) (same_taken same) (at_most_refl taken))
    ]

-- ---- the acceptors of an acknowledgment took its ballot
pub record TookAt (acceptor : ℕ) (key : List ℕ) (ballot : Ballot) (log : List Happening) : Type 0 where
  pub ride : Ballot
  pub stands : Stands (Took acceptor key ballot ride) log

pub took_of_acked : (cluster : Cluster) {log : List Happening} {key : List ℕ} {ballot : Ballot} → Lawful cluster log → (a : AckedAt key ballot log)
    → (acceptor : ℕ) → has_member a.acknowledgment.by acceptor ≡ true → TookAt acceptor key ballot a.older
took_of_acked cluster {key = key} {ballot = ballot} lawful a acceptor member =
    let voted = (ack_law cluster lawful a.at).votes.votes acceptor member in
    let found = in_log a.older voted.at in
    let may : MayVote found.older acceptor a.acknowledgment.key a.acknowledgment.ballot = law cluster (lawful_older cluster lawful a.at) found.at in
    let taken : Stands (Took acceptor a.acknowledgment.key a.acknowledgment.ballot may.ride) a.older = stands_deeper may.taken found.at in
    subst (λ k. TookAt acceptor k ballot a.older) a.same_key (subst (λ b. TookAt acceptor a.acknowledgment.key b a.older) a.same_ballot (record { ride = may.ride; stands = taken }))

-- ---- the seam
pub record Seam (log : List Happening) : Type 0 where
  pub under : {p : Proposal} {older : List Happening} {ballot : Ballot} → AckedAt p.key ballot log → At (Marked (Proposed p)) older log
      → BallotLess ballot p.ballot → BallotAtMost ballot (link_of (marks_of older) p)

-- an acknowledgment and a proposal whose quorums share an acceptor
pub under_shared : (cluster : Cluster) {log older : List Happening} {p : Proposal} {ballot : Ballot} → Lawful cluster log → (a : AckedAt p.key ballot log) → At (Marked (Proposed p)) older log
    → Shared p.prepared_by a.acknowledgment.by → BallotLess ballot p.ballot → BallotAtMost ballot (link_of (marks_of older) p)
under_shared cluster lawful a at shared less =
    let took = took_of_acked cluster lawful a shared.acceptor shared.right in
    covered cluster lawful at ((proposal_law cluster lawful at).granted shared.acceptor shared.left) (stands_deeper took.stands a.at) less

-- ---- what settles a history
pub data Settles (key : List ℕ) (ballot : Ballot) (log : List Happening) : Type 0 where
  by_ack : AckedAt key ballot log → Settles key ballot log
  by_opening : OpeningAt key ballot log → Settles key ballot log

pub settles_deeper : {key : List ℕ} {ballot : Ballot} {happening : Happening} {older log : List Happening} → Settles key ballot older → At happening older log → Settles key ballot log
settles_deeper (by_ack a) at = by_ack (acked_deeper a at)
settles_deeper (by_opening o) at = by_opening (opening_deeper o at)

pub settles_begins : (cluster : Cluster) {log : List Happening} {key : List ℕ} {ballot : Ballot} → Lawful cluster log → Settles key ballot log → BeginsHistory key ballot log
settles_begins cluster lawful (by_ack a) = at_proposal (acked_proposed cluster lawful a)
settles_begins cluster lawful (by_opening o) = at_opening o

-- a floor settles its key
pub settles_floor : (cluster : Cluster) {log : List Happening} {key : List ℕ} {floor : Ballot} → Lawful cluster log → HasFloor key floor (marks_of log) → Settles key floor log
settles_floor cluster {log} lawful f =
    let found = in_log log f.stands.at in
    elim (floor_law cluster lawful found.at) [
      | inl opening ↦ by_opening (record { state = f.state; older = found.older; at = found.at; opening = opening })
      | inr tombstone ↦ by_ack (acked_deeper (acked_at found.older tombstone.acked) found.at)
    ]

pub settles_top : (cluster : Cluster) (log : List Happening) (key : List ℕ) → Lawful cluster log → (top_of key (marks_of log) ≡ zero_ballot) ⊎ Settles key (top_of key (marks_of log)) log
settles_top cluster log key lawful = elim (top_cases key (marks_of log)) [
  | inl z ↦ inl z
  | inr settled ↦ inr (elim settled [ inl a ↦ by_ack (acked_at log a) | inr f ↦ settles_floor cluster lawful f ])
]

-- ---- opening floors are below all else
pub one_opening : {key : List ℕ} {floor other : Ballot} {log : List Happening} → OpeningAt key floor log → OpeningAt key other log → floor ≡ other
one_opening o q = elim (order o.at q.at) [
  | older_than before ↦ absurd (q.opening.first (mark_stands (stands_at before)))
  | newer_than after ↦ absurd (o.opening.first (mark_stands (stands_at after)))
  | at_one same older_same ↦ cc same
]

pub never_below_opening : (cluster : Cluster) {log : List Happening} {key : List ℕ} {ballot floor : Ballot} → Lawful cluster log → Settles key ballot log → OpeningAt key floor log
    → BallotLess ballot floor → ⊥
never_below_opening cluster {log} {key} {ballot} {floor} lawful (by_ack a) o less =
    let p = acked_proposed cluster lawful a in
    let above : BallotLess floor p.proposal.ballot = above_opening cluster lawful p.at (subst (λ k. OpeningAt k floor log) (sym p.same_key) o) in
    less_not_at_most less (at_most_of_less (subst (BallotLess floor) p.same_ballot above))
never_below_opening cluster {ballot = ballot} lawful (by_opening q) o less = less_irreflexive (subst (BallotLess ballot) (one_opening o q) less)

-- ---- agreement
-- what settles the key below a proposal is at most its link
under_link : (cluster : Cluster) {log older : List Happening} {p : Proposal} {ballot : Ballot} → Lawful cluster log → Seam log → Settles p.key ballot log
    → At (Marked (Proposed p)) older log → BallotLess ballot p.ballot → BallotAtMost ballot (link_of (marks_of older) p)
under_link cluster lawful seam (by_ack a) at less = seam.under a at less
under_link cluster {older = older} {p = p} lawful seam (by_opening o) at less =
    elim (order o.at at) [
      | older_than before ↦ at_most_trans (at_most_floor_below (mark_at before) less) (at_most_greater_right p.read (floor_below p.key p.ballot (marks_of older)))
      | newer_than after ↦
          let begun = (proposal_law cluster lawful at).first.begun in
          absurd (o.opening.none_begun p.caller p.call p.key begun.program (stands_deeper begun.stands (mark_at after)))
      | at_one same older_same ↦ absurd (cc same)
    ]

-- a step of the induction: the link was proposed, and what holds there holds here
agree_step : (cluster : Cluster) {log older : List Happening} {p : Proposal} {ballot link : Ballot} → Lawful cluster log → At (Marked (Proposed p)) older log → Settles p.key ballot log
    → BallotLess ballot link → (r : ProposedAt p.key link older)
    → (Settles r.proposal.key ballot log → BallotLess ballot r.proposal.ballot
    → IsPrefix (chain_of r.proposal.key ballot (marks_of log)) (chain_of r.proposal.key (link_of (marks_of r.older) r.proposal) (marks_of log)))
    → IsPrefix (chain_of p.key ballot (marks_of log)) (chain_of p.key link (marks_of log))
agree_step cluster {log = log} {p = p} {ballot = ballot} {link = link} lawful at settles below r step =
    let q = r.proposal in
    let there : IsPrefix (chain_of q.key ballot (marks_of log)) (chain_of q.key (link_of (marks_of r.older) q) (marks_of log)) =
    step (subst (λ k. Settles k ballot log) (sym r.same_key) settles) (subst (BallotLess ballot) (sym r.same_ballot) below) in
    let whole : IsPrefix (chain_of q.key ballot (marks_of log)) (chain_of q.key q.ballot (marks_of log)) =
    subst (IsPrefix (chain_of q.key ballot (marks_of log))) (sym (chain_of_proposal cluster lawful (deeper r.at at))) (prefix_append (entry_of (marks_of r.older) q ∷ []) there) in
    subst (λ k. IsPrefix (chain_of k ballot (marks_of log)) (chain_of k link (marks_of log))) r.same_key
    (subst (λ b. IsPrefix (chain_of q.key ballot (marks_of log)) (chain_of q.key b (marks_of log))) r.same_ballot whole)

-- its history begins that of the proposal's link
agree_by : (cluster : Cluster) (n : ℕ) {log older : List Happening} {p : Proposal} {ballot : Ballot} → length older < n → Lawful cluster log → Seam log → Settles p.key ballot log
    → At (Marked (Proposed p)) older log → BallotLess ballot p.ballot → IsPrefix (chain_of p.key ballot (marks_of log)) (chain_of p.key (link_of (marks_of older) p) (marks_of log))
agree_by cluster zero fuel lawful seam settles at less = absurd (omega arith)
agree_by cluster (suc n) {log = log} {older = older} {p = p} {ballot = ballot} fuel lawful seam settles at less =
    let link = link_of (marks_of older) p in
    let low : BallotAtMost ballot link = under_link cluster lawful seam settles at less in
    elim (at_most_or_less link ballot) [
      | inl high ↦ prefix_same (ap (λ b. chain_of p.key b (marks_of log)) (at_most_antisym low high))
      | inr below ↦ elim (link_begins cluster lawful at) [
        | at_zero z ↦ absurd (none_below_zero (subst (BallotLess ballot) z below))
        | at_opening o ↦ absurd (never_below_opening cluster lawful settles (opening_deeper o at) below)
        | at_proposal r ↦ agree_step cluster lawful at settles below r (λ s l. agree_by cluster n (omega (arith, length-At r.at)) lawful seam s (deeper r.at at) l)
      ]
    ]

pub agree : (cluster : Cluster) {log older : List Happening} {p : Proposal} {ballot : Ballot} → Lawful cluster log → Seam log → Settles p.key ballot log
    → At (Marked (Proposed p)) older log → BallotLess ballot p.ballot → IsPrefix (chain_of p.key ballot (marks_of log)) (chain_of p.key (link_of (marks_of older) p) (marks_of log))
agree cluster {older = older} lawful seam settles at less = agree_by cluster (suc (length older)) (omega arith) lawful seam settles at less

-- and so that of the proposal
pub agree_whole : (cluster : Cluster) {log : List Happening} {key : List ℕ} {ballot greater : Ballot} → Lawful cluster log → Seam log → Settles key ballot log
    → ProposedAt key greater log → BallotLess ballot greater → IsPrefix (chain_of key ballot (marks_of log)) (chain_of key greater (marks_of log))
agree_whole cluster {log = log} {key = key} {ballot = ballot} {greater = greater} lawful seam settles p less =
    let q = p.proposal in
    let there = agree cluster lawful seam (subst (λ k. Settles k ballot log) (sym p.same_key) settles) p.at (subst (BallotLess ballot) (sym p.same_ballot) less) in
    let whole : IsPrefix (chain_of q.key ballot (marks_of log)) (chain_of q.key q.ballot (marks_of log)) =
    subst (IsPrefix (chain_of q.key ballot (marks_of log))) (sym (chain_of_proposal cluster lawful p.at)) (prefix_append (entry_of (marks_of p.older) q ∷ []) there) in
    subst (λ k. IsPrefix (chain_of k ballot (marks_of log)) (chain_of k greater (marks_of log))) p.same_key
    (subst (λ b. IsPrefix (chain_of q.key ballot (marks_of log)) (chain_of q.key b (marks_of log))) p.same_ballot whole)

-- ---- what stands
-- the history of what settles the key begins what is settled
pub settled_begins : (cluster : Cluster) {log : List Happening} {key : List ℕ} {ballot : Ballot} → Lawful cluster log → Seam log → Settles key ballot log
    → BallotAtMost ballot (top_of key (marks_of log)) → IsPrefix (chain_of key ballot (marks_of log)) (settled_of key (marks_of log))
settled_begins cluster {log} {key} {ballot} lawful seam settles low =
    let top = top_of key (marks_of log) in
    elim (at_most_or_less top ballot) [
      | inl high ↦ prefix_same (ap (λ b. chain_of key b (marks_of log)) (at_most_antisym low high))
      | inr below ↦ elim (settles_top cluster log key lawful) [
        | inl z ↦ absurd (none_below_zero (subst (BallotLess ballot) z below))
        | inr settled ↦ elim settled [
          | by_ack a ↦ agree_whole cluster lawful seam settles (acked_proposed cluster lawful a) below
          | by_opening o ↦ absurd (never_below_opening cluster lawful settles o below)
        ]
      ]
    ]

-- what was settled stays settled
pub grows : (cluster : Cluster) {happening : Happening} {older log : List Happening} → Lawful cluster log → Seam log → At happening older log → (key : List ℕ)
    → IsPrefix (settled_of key (marks_of older)) (settled_of key (marks_of log))
grows cluster {older = older} {log = log} lawful seam at key =
    let top = top_of key (marks_of older) in
    let before = lawful_older cluster lawful at in
    elim (settles_top cluster older key before) [
      | inl z ↦ subst (λ xs. IsPrefix xs (settled_of key (marks_of log))) (sym (chain-none key top (marks_of older) (has_none_zero cluster older key before z))) (nil_prefix _)
      | inr settles ↦ subst (λ xs. IsPrefix xs (settled_of key (marks_of log))) (sym (chain_whole cluster lawful at (settles_begins cluster before settles)))
          (settled_begins cluster lawful seam (settles_deeper settles at) (top_later (part_of at) key))
    ]

-- ---- no proposal goes on from what stands before it was made
overtake_by : (cluster : Cluster) (n : ℕ) {log older before : List Happening} {p q : Proposal} → length before < n → Lawful cluster log → Seam log
    → At (Marked (Proposed p)) older log → AckedAt p.key p.ballot log → At (Marked (Proposed q)) before older → q.key ≡ p.key → BallotAtMost p.ballot q.ballot → ⊥
overtake_by cluster zero fuel lawful seam at acked q_at same_key low = absurd (omega arith)
overtake_by cluster (suc n) {log = log} {older = older} {before = before} {p = p} {q = q} fuel lawful seam at acked q_at same_key low =
    let q_in = deeper q_at at in
    let link = link_of (marks_of before) q in
    elim (at_most_or_less q.ballot p.ballot) [
      | inl high ↦ (proposal_law cluster lawful at).first.fresh (record { proposal = q; stands = stands_at (mark_at q_at); same_key = same_key; same_ballot = at_most_antisym high low })
      | inr below ↦
          let under : BallotAtMost p.ballot link = seam.under (subst (λ k. AckedAt k p.ballot log) (sym same_key) acked) q_in below in
          elim (link_begins cluster lawful q_in) [
            | at_zero z ↦ none_below_zero (less_at_most (proposal_law cluster lawful at).above_read (subst (BallotAtMost p.ballot) z under))
            | at_opening o ↦ less_not_at_most (above_opening cluster lawful at (opening_deeper (subst (λ k. OpeningAt k link before) same_key o) q_in)) under
            | at_proposal r ↦ overtake_by cluster n (omega (arith, length-At r.at)) lawful seam at acked (deeper r.at q_at) (r.same_key ∙ same_key)
                (subst (BallotAtMost p.ballot) (sym r.same_ballot) under)
          ]
    ]

pub overtake : (cluster : Cluster) {log older before : List Happening} {p q : Proposal} → Lawful cluster log → Seam log
    → At (Marked (Proposed p)) older log → AckedAt p.key p.ballot log → At (Marked (Proposed q)) before older → q.key ≡ p.key → BallotAtMost p.ballot q.ballot → ⊥
overtake cluster {before = before} lawful seam at acked q_at same_key low = overtake_by cluster (suc (length before)) (omega arith) lawful seam at acked q_at same_key low
