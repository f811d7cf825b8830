-- What an accept quorum told a read stands once what is settled last is at or above it, and before that it may be counted.
use Rattle.std.proofs.Common.{◌≡◌, ℕ, true, List, ◌∷◌, Some, refl, sym, ap, subst, ◌∙◌, inl, inr}
use Rattle.std.specs.Prelude.{◌⊎◌}
use Rattle.cas_base.proofs.Bools.{if_true}
use Rattle.cas_ballot.specs.declared.ballot.Ballot.{Ballot}
use Rattle.cas_ballot.specs.Ballot.{zero_ballot, greater_of, BallotAtMost, BallotLess}
use Rattle.cas_ballot.specs.Members.{has_member}
use Rattle.cas_ballot.proofs.BallotLemmas.{at_most_antisym, at_most_or_less, at_most_of_less, greater_cases, less_not_at_most, none_below_zero}
use Rattle.cas_record.specs.declared.entry.Entry.{Entry}
use Rattle.cas_record.specs.declared.mark.Mark.{Mark}
use Rattle.cas_record.specs.declared.mark.Mark.TheVariants.{Acked}
use Rattle.cas_record.specs.Histories.Chain.{is_key, chain_of, top_of, settled_of}
use Rattle.cas_record.specs.Laws.{IsChosen}
use Rattle.cas_record.specs.Logs.Happening.{Happening, Drew, marks_of}
use Rattle.cas_record.specs.Logs.Lawful.{Cluster, Lawful, MayVote}
use Rattle.cas_record.specs.Logs.Orderly.{Orderly}
use Rattle.cas_record.specs.Places.{Stands, IsPrefix}
use Rattle.cas_record.proofs.Histories.Chains.{chain-none, opening_tells}
use Rattle.cas_record.proofs.LawLemmas.{chains_extend}
use Rattle.cas_record.proofs.LegalLemmas.{lawful_part}
use Rattle.cas_record.proofs.Logs.Agreement.{Settles, by_ack, by_opening, settles_top}
use Rattle.cas_record.proofs.Logs.Lemmas.{mark_stands, stands_in_log, acked_proposed, OpeningAt, above_opening, has_none_opening}
use Rattle.cas_record.proofs.Logs.Listings.{marks_part}
use Rattle.cas_record.proofs.Logs.Openings.{opening_in_log}
use Rattle.cas_record.proofs.Logs.Slots.{took_tells}
use Rattle.cas_record.proofs.PlaceLemmas.{stands_deeper, stands_at, stands_part, at_part, nil_prefix, prefix_same}
use Rattle.cas_record.proofs.Tests.{key_is}
use Rattle.cas_protocol.specs.Acceptors.{IsMadeState, IsAcceptedState}
use Rattle.cas_protocol.specs.Proposers.{by_deed}
use Rattle.cas_protocol.specs.Reads.{HasToldBallot, acknowledgment_of, MayBeCounted, ReadsStand, ReadsMayCount}
use Rattle.cas_protocol.proofs.Answered.{accepted_not_zero}
use Rattle.cas_protocol.proofs.Probes.{probed_at, probed_state}
use Rattle.cas_protocol.proofs.QuorumReads.{floor_low}

-- who told a ballot took it
took_told : (cluster : Cluster) {log : List Happening} {tag : Ballot} {key : List ℕ} {ballot : Ballot} {acceptor : ℕ} → Orderly cluster log → (ballot ≡ zero_ballot → ⊥)
    → HasToldBallot log tag key ballot acceptor → MayVote log acceptor key ballot
took_told cluster {key = key} {ballot = ballot} {acceptor = acceptor} orderly some told =
    let at = probed_at cluster orderly told.probed in
    let took = took_tells at.now acceptor key ballot (at.slot ∙ told.same_ballot) some in
    record { ride = took.0; taken = stands_deeper took.1 at.at }

-- ---- what stands
pub stand : ReadsStand
stand cluster meets log later tag key by acceptor accepted orderly lawful part told was quorum high = by_state (probed_state was)
  where
    marks : List Mark
    marks = marks_of later

    there : Lawful cluster log
    there = lawful_part cluster lawful part

    vote : (member : ℕ) → has_member by member ≡ true → MayVote later member key accepted.ballot
    vote member is =
        let before = took_told cluster orderly (accepted_not_zero cluster log accepted there (probed_state was)) (told member is) in
        record { ride = before.ride; taken = stands_part before.taken part }

    chosen : (made : IsMadeState (marks_of log) key accepted.ballot accepted.era accepted.state) → IsChosen cluster later made.proposal
    chosen made = record {
      proposed = stands_part made.stands (marks_part part);
      by = by;
      quorum = subst (λ (e : ℕ). cluster.accepts e by ≡ true) (sym made.same_era) quorum;
      taken = λ member is. subst (λ (k : List ℕ). MayVote later member k made.proposal.ballot) (sym made.same_key) (subst (MayVote later member key) (sym made.same_ballot) (vote member is));
    }

    below : (made : IsMadeState (marks_of log) key accepted.ballot accepted.era accepted.state) → BallotLess accepted.ballot (top_of key marks)
        → (top_of key marks ≡ zero_ballot) ⊎ Settles key (top_of key marks) later → IsPrefix (chain_of key accepted.ballot marks) (settled_of key marks)
    below made less (inl zero) = absurd (none_below_zero (subst (BallotLess accepted.ballot) zero less))
    below made less (inr (by_opening o)) =
        let place = stands_in_log later (chosen made).proposed in
        let above = above_opening cluster lawful place.at (subst (λ k. OpeningAt k (top_of key marks) later) (sym made.same_key) o) in
        absurd (less_not_at_most less (at_most_of_less (subst (BallotLess (top_of key marks)) made.same_ballot above)))
    below made less (inr (by_ack a)) =
        let p = made.proposal in
        let greater = acked_proposed cluster lawful a in
        let q = greater.proposal in
        let less_there : BallotLess p.ballot q.ballot = subst (BallotLess p.ballot) (sym greater.same_ballot) (subst (λ b. BallotLess b (top_of key marks)) (sym made.same_ballot) less) in
        let whole : IsPrefix (chain_of q.key p.ballot marks) (chain_of q.key q.ballot marks) =
        chains_extend cluster meets later lawful p q (chosen made) (mark_stands (stands_at greater.at)) (greater.same_key ∙ sym made.same_key) less_there in
        subst (λ k. IsPrefix (chain_of k accepted.ballot marks) (chain_of k (top_of key marks) marks)) greater.same_key
        (subst (λ b. IsPrefix (chain_of q.key accepted.ballot marks) (chain_of q.key b marks)) greater.same_ballot
        (subst (λ b. IsPrefix (chain_of q.key b marks) (chain_of q.key q.ballot marks)) made.same_ballot whole))

    by_state : IsAcceptedState (marks_of log) key (Some accepted) → IsPrefix (chain_of key accepted.ballot marks) (settled_of key marks)
    by_state (inl made) = elim (at_most_or_less (top_of key marks) accepted.ballot) [
      | inl low ↦ prefix_same (ap (λ b. chain_of key b marks) (at_most_antisym high low))
      | inr less ↦ below made less (settles_top cluster later key lawful)
    ]
    by_state (inr opening) =
        let o = opening_in_log cluster log there opening.opens in
        let still : OpeningAt key accepted.ballot later = record { state = o.state; older = o.older; at = at_part o.at part; opening = o.opening } in
        subst (λ (xs : List Entry). IsPrefix xs (settled_of key marks)) (sym (chain-none key accepted.ballot marks (has_none_opening cluster lawful still))) (nil_prefix _)

-- ---- what may be counted
pub count_read : ReadsMayCount
count_read cluster log tag key by acceptor accepted lawful orderly drawn told was quorum above =
    (by_state (probed_state was), ap (λ b. chain_of key b (marks_of log)) (new_top (greater_cases accepted.ballot (top_of key (marks_of log)))))
  where
    new_top : ((greater_of accepted.ballot (top_of key (marks_of log)) ≡ accepted.ballot) × BallotAtMost (top_of key (marks_of log)) accepted.ballot)
        ⊎ ((greater_of accepted.ballot (top_of key (marks_of log)) ≡ top_of key (marks_of log)) × BallotLess accepted.ballot (top_of key (marks_of log)))
        → top_of key (Acked (acknowledgment_of key accepted by) ∷ marks_of log) ≡ accepted.ballot
    new_top (inl is) = if_true (is_key key key) _ _ (key_is {a = key} {b = key} refl) ∙ is.0
    new_top (inr other) = absurd (less_not_at_most above (at_most_of_less other.1))

    by_state : IsAcceptedState (marks_of log) key (Some accepted) → MayBeCounted cluster log (acknowledgment_of key accepted by)
    by_state (inl made) = record {
      votes = λ member is. let vote = took_told cluster orderly (accepted_not_zero cluster log accepted lawful (probed_state was)) (told member is) in by_deed vote.ride vote.taken;
      proposed = record {
        drawn = subst (λ (e : ℕ). Stands (Drew accepted.ballot key e) log) made.same_era
            (subst (λ (b : Ballot). Stands (Drew b key made.proposal.era) log) made.same_ballot
            (subst (λ (k : List ℕ). Stands (Drew made.proposal.ballot k made.proposal.era) log) made.same_key (drawn made.proposal made.stands)));
        proposal = made.proposal;
        proposed = made.stands;
        same_key = made.same_key;
        same_ballot = made.same_ballot;
        same_era = made.same_era;
      };
      quorum = quorum;
    }
    by_state (inr opening) = let o = opening_tells key accepted.ballot (marks_of log) opening.opens in absurd (less_not_at_most above (floor_low o.at))
