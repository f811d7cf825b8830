-- What stands in a lawful log was allowed; and a mark stands in the log just where it stands in its record.
use Rattle.std.proofs.Common.{◌≡◌, ℕ, true, false, List, [], ◌∷◌, ◌++◌, refl, sym, ap, ◌∙◌, subst}
use mathlib.Core.Logic.{inl, inr}
use Rattle.cas_ballot.specs.declared.ballot.Ballot.{Ballot}
use Rattle.cas_ballot.specs.Ballot.{zero_ballot, BallotLess}
use Rattle.cas_ballot.proofs.BallotLemmas.{greater_cases, less_irreflexive, none_below_zero}
use Rattle.cas_change.specs.declared.state.State.{State}
use Rattle.cas_record.specs.declared.mark.Mark.{Mark}
use Rattle.cas_record.specs.declared.mark.Mark.TheVariants.{Proposed, Acked, Floor}
use Rattle.cas_record.specs.declared.mark.Proposal.{Proposal}
use Rattle.cas_record.specs.declared.mark.Acknowledgment.{Acknowledgment}
use Rattle.cas_record.specs.Places.{At, Stands, IsOlderPart, here, past, whole, later}
use Rattle.cas_record.specs.Histories.Chain.{has_proposal, has_calls, has_opening, floor_below, link_of, entry_of, chain_of}
use Rattle.cas_record.specs.Legal.{HasProposal, HasFloor, IsAcked, NoneBegun, IsOpeningFloor, IsFloor}
use Rattle.cas_record.specs.Logs.Happening.{Happening, Marked, marks_of}
use Rattle.cas_record.specs.Logs.Lawful.{IsMade, Cluster, May, Lawful, MayPropose, MayAck}
use Rattle.cas_record.proofs.PlaceLemmas.{deeper, stands_deeper, stands_at, older_than, newer_than, at_one, order, none_at_nil}
use Rattle.cas_base.proofs.Bools.{false_of_not}
use Rattle.cas_record.proofs.Histories.Chains.{floor_below_cases, has_proposal_tells, has_proposal_is, opening_tells, no_calls, chain-none, chain-later, chain-at}

-- ---- laws
pub law : (cluster : Cluster) {happening : Happening} {older log : List Happening} → Lawful cluster log → At happening older log → May cluster older happening
law cluster lawful here = lawful.1
law cluster lawful (past at) = law cluster lawful.0 at

pub lawful_older : (cluster : Cluster) {happening : Happening} {older log : List Happening} → Lawful cluster log → At happening older log → Lawful cluster older
lawful_older cluster lawful here = lawful.0
lawful_older cluster lawful (past at) = lawful_older cluster lawful.0 at

-- ---- marks
pub mark_at : {mark : Mark} {older log : List Happening} → At (Marked mark) older log → At mark (marks_of older) (marks_of log)
mark_at here = here
mark_at (past {y = Marked other} at) = past (mark_at at)
mark_at (past {y = other} at) = mark_at at

pub mark_stands : {mark : Mark} {log : List Happening} → Stands (Marked mark) log → Stands mark (marks_of log)
mark_stands s = record { older = marks_of s.older; at = mark_at s.at }

-- a mark of the record in its log
pub record InLog (mark : Mark) (marks : List Mark) (log : List Happening) : Type 0 where
  pub older : List Happening
  pub is : marks ≡ marks_of older
  pub at : At (Marked mark) older log

in_more : {mark : Mark} {marks : List Mark} {happening : Happening} {log : List Happening} → InLog mark marks log → InLog mark marks (happening ∷ log)
in_more l = record { older = l.older; is = l.is; at = past l.at }

in_front : (other : Mark) (older : List Happening) {mark : Mark} {marks : List Mark} → At mark marks (other ∷ marks_of older)
    → (At mark marks (marks_of older) → InLog mark marks older) → InLog mark marks (Marked other ∷ older)
in_front other older here rest = record { older = older; is = refl; at = here }
in_front other older (past at) rest = in_more (rest at)

pub in_log : (log : List Happening) {mark : Mark} {marks : List Mark} → At mark marks (marks_of log) → InLog mark marks log
in_log [] at = absurd (none_at_nil at)
in_log (Marked other ∷ older) at = in_front other older at (λ rest. in_log older rest)
in_log (other ∷ older) at = in_more (in_log older at)

pub stands_in_log : (log : List Happening) {mark : Mark} → Stands mark (marks_of log) → Stands (Marked mark) log
stands_in_log log s = let found = in_log log s.at in record { older = found.older; at = found.at }

pub part_of : {happening : Happening} {older log : List Happening} → At happening older log → IsOlderPart (marks_of older) (marks_of log)
part_of {happening = Marked mark} here = later whole
part_of {happening = other} here = whole
part_of (past {y = Marked mark} at) = later (part_of at)
part_of (past {y = other} at) = part_of at

-- ---- the laws of marks
pub proposal_law : (cluster : Cluster) {log older : List Happening} {p : Proposal} → Lawful cluster log → At (Marked (Proposed p)) older log → MayPropose cluster older p
proposal_law cluster lawful at = law cluster lawful at

pub ack_law : (cluster : Cluster) {log older : List Happening} {a : Acknowledgment} → Lawful cluster log → At (Marked (Acked a)) older log → MayAck cluster older a
ack_law cluster lawful at = law cluster lawful at

pub floor_law : (cluster : Cluster) {log older : List Happening} {key : List ℕ} {floor : Ballot} {state : State} → Lawful cluster log → At (Marked (Floor key floor state)) older log
    → IsFloor key floor state (marks_of older)
floor_law cluster lawful at = law cluster lawful at

-- no proposal is at zero
pub not_zero : (cluster : Cluster) {log older : List Happening} {p : Proposal} → Lawful cluster log → At (Marked (Proposed p)) older log → p.ballot ≡ zero_ballot → ⊥
not_zero cluster {p = p} lawful at e = none_below_zero (subst (BallotLess p.read) e (proposal_law cluster lawful at).above_read)

-- ---- proposals and acknowledgments in the log
-- a proposal of the key at the ballot, in its place
pub record ProposedAt (key : List ℕ) (ballot : Ballot) (log : List Happening) : Type 0 where
  pub proposal : Proposal
  pub older : List Happening
  pub at : At (Marked (Proposed proposal)) older log
  pub same_key : proposal.key ≡ key
  pub same_ballot : proposal.ballot ≡ ballot

pub proposed_at : (log : List Happening) {key : List ℕ} {ballot : Ballot} → HasProposal key ballot (marks_of log) → ProposedAt key ballot log
proposed_at log h =
    let found = in_log log h.stands.at in
    record { proposal = h.proposal; older = found.older; at = found.at; same_key = h.same_key; same_ballot = h.same_ballot }

pub proposal_placed : {p : Proposal} {older log : List Happening} → At (Marked (Proposed p)) older log → ProposedAt p.key p.ballot log
proposal_placed {p} {older} at = record { proposal = p; older = older; at = at; same_key = refl; same_ballot = refl }

pub proposed_deeper : {key : List ℕ} {ballot : Ballot} {happening : Happening} {older log : List Happening} → ProposedAt key ballot older → At happening older log → ProposedAt key ballot log
proposed_deeper p at = record { proposal = p.proposal; older = p.older; at = deeper p.at at; same_key = p.same_key; same_ballot = p.same_ballot }

pub record AckedAt (key : List ℕ) (ballot : Ballot) (log : List Happening) : Type 0 where
  pub acknowledgment : Acknowledgment
  pub older : List Happening
  pub at : At (Marked (Acked acknowledgment)) older log
  pub same_key : acknowledgment.key ≡ key
  pub same_ballot : acknowledgment.ballot ≡ ballot

pub acked_at : (log : List Happening) {key : List ℕ} {ballot : Ballot} → IsAcked key ballot (marks_of log) → AckedAt key ballot log
acked_at log a =
    let found = in_log log a.stands.at in
    record { acknowledgment = a.acknowledgment; older = found.older; at = found.at; same_key = a.same_key; same_ballot = a.same_ballot }

pub acked_deeper : {key : List ℕ} {ballot : Ballot} {happening : Happening} {older log : List Happening} → AckedAt key ballot older → At happening older log → AckedAt key ballot log
acked_deeper a at = record { acknowledgment = a.acknowledgment; older = a.older; at = deeper a.at at; same_key = a.same_key; same_ballot = a.same_ballot }

-- what was acknowledged was proposed before
pub proposal_of_acked : (cluster : Cluster) {log : List Happening} {key : List ℕ} {ballot : Ballot} → Lawful cluster log → (a : AckedAt key ballot log) → ProposedAt key ballot a.older
proposal_of_acked cluster lawful a =
    let votes = (ack_law cluster lawful a.at).votes in
    proposed_at a.older (record { proposal = votes.proposal; stands = votes.proposed; same_key = votes.same_key ∙ a.same_key; same_ballot = votes.same_ballot ∙ a.same_ballot })

pub acked_proposed : (cluster : Cluster) {log : List Happening} {key : List ℕ} {ballot : Ballot} → Lawful cluster log → AckedAt key ballot log → ProposedAt key ballot log
acked_proposed cluster lawful a = proposed_deeper (proposal_of_acked cluster lawful a) a.at

-- two proposals of one key and one ballot are one
pub record OnePlace (p q : Proposal) (xs ys : List Happening) : Type 0 where
  pub same : p ≡ q
  pub older_same : xs ≡ ys

one_proposal : (p q : Proposal) → Marked (Proposed p) ≡ Marked (Proposed q) → p ≡ q
one_proposal p q e = cc

pub one_place : (cluster : Cluster) {log xs ys : List Happening} {p q : Proposal} → Lawful cluster log → At (Marked (Proposed p)) xs log → At (Marked (Proposed q)) ys log
    → p.key ≡ q.key → p.ballot ≡ q.ballot → OnePlace p q xs ys
one_place cluster {p = p} {q = q} lawful p_at q_at same_key same_ballot = elim (order p_at q_at) [
  | older_than before ↦ absurd ((proposal_law cluster lawful q_at).first.fresh (record { proposal = p; stands = stands_at (mark_at before); same_key = same_key; same_ballot = same_ballot }))
  | newer_than after ↦ absurd ((proposal_law cluster lawful p_at).first.fresh (record { proposal = q; stands = stands_at (mark_at after); same_key = sym same_key; same_ballot = sym same_ballot }))
  | at_one same older_same ↦ record { same = one_proposal p q same; older_same = older_same }
]

-- ---- opening floors
-- a proposal of the key is above each of its opening floors, wherever it stands
pub record OpeningAt (key : List ℕ) (floor : Ballot) (log : List Happening) : Type 0 where
  pub state : State
  pub older : List Happening
  pub at : At (Marked (Floor key floor state)) older log
  pub opening : IsOpeningFloor key (marks_of older)

pub opening_deeper : {key : List ℕ} {floor : Ballot} {happening : Happening} {older log : List Happening} → OpeningAt key floor older → At happening older log → OpeningAt key floor log
opening_deeper o at = record { state = o.state; older = o.older; at = deeper o.at at; opening = o.opening }

no_floor : (key : List ℕ) (floor : Ballot) (state : State) (p : Proposal) → Marked (Floor key floor state) ≡ Marked (Proposed p) → ⊥
no_floor key floor state p e = cc

above_first : (cluster : Cluster) {log older place : List Happening} {p : Proposal} {floor : Ballot} {state : State} → Lawful cluster log → At (Marked (Proposed p)) older log
    → At (Marked (Floor p.key floor state)) place log → NoneBegun (marks_of place) → BallotLess floor p.ballot
above_first cluster {p = p} {floor = floor} {state = state} lawful p_at at none_begun = elim (order at p_at) [
  | older_than before ↦ (proposal_law cluster lawful p_at).above_floors (stands_at (mark_at before))
  | newer_than after ↦
      let begun = (proposal_law cluster lawful p_at).first.begun in
      absurd (none_begun p.caller p.call p.key begun.program (stands_deeper begun.stands (mark_at after)))
  | at_one same older_same ↦ absurd (no_floor p.key floor state p same)
]

pub above_opening : (cluster : Cluster) {log older : List Happening} {p : Proposal} {floor : Ballot} → Lawful cluster log → At (Marked (Proposed p)) older log
    → OpeningAt p.key floor log → BallotLess floor p.ballot
above_opening cluster lawful p_at o = above_first cluster lawful p_at o.at o.opening.none_begun

-- so no proposal is at one
pub not_opened : (cluster : Cluster) {log : List Happening} {key : List ℕ} {ballot : Ballot} → Lawful cluster log → ProposedAt key ballot log → has_opening key ballot (marks_of log) ≡ false
not_opened cluster {log} {key} {ballot} lawful proposed = false_of_not _ (λ e.
    let o = opening_tells key ballot (marks_of log) e in
    let found = in_log log o.at in
    let p = proposed.proposal in
    let at : At (Marked (Floor p.key ballot o.state)) found.older log = subst (λ k. At (Marked (Floor k ballot o.state)) found.older log) (sym proposed.same_key) found.at in
    let none : NoneBegun (marks_of found.older) = λ caller call k program s. no_calls (subst (λ xs. has_calls xs ≡ false) found.is o.none) s.at in
    less_irreflexive (subst (BallotLess ballot) proposed.same_ballot (above_first cluster lawful proposed.at at none)))

-- ---- the link of a proposal
-- a ballot from which a history goes on: zero, one that was proposed, or an opening floor
pub data BeginsHistory (key : List ℕ) (ballot : Ballot) (log : List Happening) : Type 0 where
  at_zero : ballot ≡ zero_ballot → BeginsHistory key ballot log
  at_proposal : ProposedAt key ballot log → BeginsHistory key ballot log
  at_opening : OpeningAt key ballot log → BeginsHistory key ballot log

begins_floor : (cluster : Cluster) {log : List Happening} {key : List ℕ} {floor : Ballot} → Lawful cluster log → HasFloor key floor (marks_of log) → BeginsHistory key floor log
begins_floor cluster {log} {key} {floor} lawful f =
    let found = in_log log f.stands.at in
    elim (floor_law cluster lawful found.at) [
      | inl opening ↦ at_opening (record { state = f.state; older = found.older; at = found.at; opening = opening })
      | inr tombstone ↦ at_proposal (acked_proposed cluster lawful (acked_deeper (acked_at found.older tombstone.acked) found.at))
    ]

begins_made : (cluster : Cluster) {log : List Happening} {key : List ℕ} {ballot : Ballot} → Lawful cluster log → IsMade key ballot (marks_of log) → BeginsHistory key ballot log
begins_made cluster {log} lawful made = elim made [ inl h ↦ at_proposal (proposed_at log h) | inr f ↦ begins_floor cluster lawful f ]

-- what was made, and was proposed in the end, was proposed already
pub made_proposed : (cluster : Cluster) {happening : Happening} {log older place : List Happening} {p : Proposal} → Lawful cluster log → At (Marked (Proposed p)) older log
    → At happening place log → IsMade p.key p.ballot (marks_of place) → ProposedAt p.key p.ballot place
made_proposed cluster lawful p_at at made = elim (begins_made cluster (lawful_older cluster lawful at) made) [
  | at_zero z ↦ absurd (not_zero cluster lawful p_at z)
  | at_proposal p ↦ p
  | at_opening o ↦ absurd (less_irreflexive (above_opening cluster lawful p_at (opening_deeper o at)))
]

pub link_begins : (cluster : Cluster) {log older : List Happening} {p : Proposal} → Lawful cluster log → At (Marked (Proposed p)) older log → BeginsHistory p.key (link_of (marks_of older) p) older
link_begins cluster {older = older} {p = p} lawful at =
    let may = proposal_law cluster lawful at in
    elim (greater_cases p.read (floor_below p.key p.ballot (marks_of older))) [
      | inl read ↦ subst (λ b. BeginsHistory p.key b older) (sym read.0) (elim may.read_stands [ inl z ↦ at_zero z | inr made ↦ begins_made cluster (lawful_older cluster lawful at) made ])
      | inr floor ↦ subst (λ b. BeginsHistory p.key b older) (sym floor.0) (elim (floor_below_cases p.key p.ballot (marks_of older)) [
        | inl z ↦ at_zero z
        | inr f ↦ begins_floor cluster (lawful_older cluster lawful at) f.stands
      ])
    ]

-- the link is below the proposal
pub link_below : (cluster : Cluster) {log older : List Happening} {p : Proposal} → Lawful cluster log → At (Marked (Proposed p)) older log → BallotLess (link_of (marks_of older) p) p.ballot
link_below cluster {older = older} {p = p} lawful at =
    let may = proposal_law cluster lawful at in
    elim (greater_cases p.read (floor_below p.key p.ballot (marks_of older))) [
      | inl read ↦ subst (λ b. BallotLess b p.ballot) (sym read.0) may.above_read
      | inr floor ↦ subst (λ b. BallotLess b p.ballot) (sym floor.0) (elim (floor_below_cases p.key p.ballot (marks_of older)) [
        | inl z ↦ absurd (none_below_zero (subst (BallotLess p.read) z floor.1))
        | inr f ↦ f.below
      ])
    ]

-- a ballot with no proposal has no history; where it is zero or an opening floor it never has one
pub has_none_opening : (cluster : Cluster) {log : List Happening} {key : List ℕ} {floor : Ballot} → Lawful cluster log → OpeningAt key floor log → has_proposal key floor (marks_of log) ≡ false
has_none_opening cluster {log} {key} {floor} lawful o = false_of_not _ (λ e.
    let found = proposed_at log (has_proposal_tells key floor (marks_of log) e) in
    let less : BallotLess floor found.proposal.ballot = above_opening cluster lawful found.at (subst (λ k. OpeningAt k floor log) (sym found.same_key) o) in
    less_irreflexive (subst (BallotLess floor) found.same_ballot less))

pub has_none_zero : (cluster : Cluster) (log : List Happening) (key : List ℕ) {ballot : Ballot} → Lawful cluster log → ballot ≡ zero_ballot → has_proposal key ballot (marks_of log) ≡ false
has_none_zero cluster log key {ballot} lawful z = false_of_not _ (λ e.
    let found = proposed_at log (has_proposal_tells key ballot (marks_of log) e) in
    not_zero cluster lawful found.at (found.same_ballot ∙ z))

pub is_proposed : (cluster : Cluster) {log : List Happening} {key : List ℕ} {ballot : Ballot} → Lawful cluster log → ProposedAt key ballot log → has_proposal key ballot (marks_of log) ≡ true
is_proposed cluster lawful p =
    has_proposal_is (mark_at p.at) (record { same_key = p.same_key; same_ballot = p.same_ballot; not_zero = λ z. not_zero cluster lawful p.at (p.same_ballot ∙ z) })

-- the history of such a ballot is the same in the whole log
pub chain_whole : (cluster : Cluster) {happening : Happening} {older log : List Happening} {key : List ℕ} {ballot : Ballot} → Lawful cluster log → At happening older log
    → BeginsHistory key ballot older → chain_of key ballot (marks_of older) ≡ chain_of key ballot (marks_of log)
chain_whole cluster {older = older} {log = log} {key = key} {ballot = ballot} lawful at begins =
    let before = lawful_older cluster lawful at in
    elim begins [
      | at_zero z ↦ chain-none key ballot (marks_of older) (has_none_zero cluster older key before z) ∙ sym (chain-none key ballot (marks_of log) (has_none_zero cluster log key lawful z))
      | at_proposal p ↦ sym (chain-later key ballot (part_of at) (is_proposed cluster before p) (not_opened cluster lawful (proposed_deeper p at)))
      | at_opening o ↦ chain-none key ballot (marks_of older) (has_none_opening cluster before o) ∙ sym (chain-none key ballot (marks_of log) (has_none_opening cluster lawful (opening_deeper o at)))
    ]

-- the history of a proposal is that of its link, and its entry, all in the whole log
pub chain_of_proposal : (cluster : Cluster) {log older : List Happening} {p : Proposal} → Lawful cluster log → At (Marked (Proposed p)) older log
    → chain_of p.key p.ballot (marks_of log) ≡ chain_of p.key (link_of (marks_of older) p) (marks_of log) ++ entry_of (marks_of older) p ∷ []
chain_of_proposal cluster {log = log} {older = older} {p = p} lawful at =
    let fresh : has_proposal p.key p.ballot (marks_of older) ≡ false =
    false_of_not _ (λ e. (proposal_law cluster lawful at).first.fresh (has_proposal_tells p.key p.ballot (marks_of older) e)) in
    chain-at (mark_at at) fresh (not_zero cluster lawful at) (not_opened cluster lawful (proposal_placed at))
    ∙ ap (λ before. before ++ entry_of (marks_of older) p ∷ []) (chain_whole cluster lawful at (link_begins cluster lawful at))
