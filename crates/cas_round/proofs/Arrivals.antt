-- What a phase is after one more reply.
use Rattle.std.proofs.Common.{◌≡◌, ℕ, Bool, true, false, not, List, ◌∷◌, arith, refl, ◌∙◌, ap, eqb-true}
use Rattle.std.specs.Prelude.{Option, None, Some, ◌==◌, ◌&&◌}
use Rattle.std.specs.List.{cons_option}
use denote.Enum.Bare.{sameb}
use Rattle.cas_ballot.specs.declared.ballot.Ballot.{Ballot}
use Rattle.cas_ballot.specs.Ballot.{BallotAtMost}
use Rattle.cas_ballot.specs.Members.{with_member}
use Rattle.cas_ballot.proofs.BallotLemmas.{at_most_antisym, cmp_refl}
use Rattle.cas_quorum.specs.declared.era.Era.{Era}
use Rattle.cas_slot.specs.declared.slot.Accepted.{Accepted}
use Rattle.cas_slot.specs.declared.message.Phase.{Phase}
use Rattle.cas_slot.specs.declared.message.Phase.TheVariants as phase
use Rattle.cas_slot.specs.declared.message.Reply.{Reply}
use Rattle.cas_slot.specs.declared.message.Tell.{Tell}
use Rattle.cas_slot.specs.declared.message.Tell.TheVariants as tell
use Rattle.cas_slot.specs.contracts.message.Phase.{the_type}
use Rattle.cas_round.specs.declared.tally.Tally.{Tally}
use Rattle.cas_round.specs.declared.phase.PrepareRound.{PrepareRound}
use Rattle.cas_round.specs.declared.phase.AcceptRound.{AcceptRound}
use Rattle.cas_round.specs.Replies.{is_heard, heard, is_prepare, is_accept, is_promise, is_acceptance, accepted_by, accepteds_of}
use Rattle.cas_round.specs.Round.{IsTallyOf, GreatestOf, AcceptedAtMost, IsPrepareAfter, IsAcceptAfter, latest_of}
use Rattle.cas_round.proofs.Greatest.{read_more}
use Rattle.cas_round.proofs.TallyLemmas.{one_confirmer}

-- ---- the replies that are heard
pub prepare_tells : (p : Phase) → false ≡ not (sameb the_type p phase.Prepare) → is_prepare p ≡ true
prepare_tells phase.Prepare e = refl
prepare_tells other e = absurd (cc e)

pub accept_tells : (p : Phase) → false ≡ not (sameb the_type p phase.Accept) → is_accept p ≡ true
accept_tells phase.Accept e = refl
accept_tells other e = absurd (cc e)

both_left : (a b : Bool) → false ≡ not (a && b) → a ≡ true
both_left true b e = refl
both_left false b e = absurd (cc e)

both_right : (a b : Bool) → false ≡ not (a && b) → b ≡ true
both_right a true e = refl
both_right true false e = absurd (cc e)
both_right false false e = absurd (cc e)

pub same_tag : (a b : Ballot) → false ≡ not ((a.counter == b.counter) && (a.proposer == b.proposer)) → a ≡ b
same_tag a b e =
    let counters : a.counter ≡ b.counter = eqb-true _ _ (both_left _ (a.proposer == b.proposer) e) in
    let proposers : a.proposer ≡ b.proposer = eqb-true _ _ (both_right (a.counter == b.counter) _ e) in
    let up : BallotAtMost a b = record { counters = omega arith; proposers = λ h. omega arith } in
    let down : BallotAtMost b a = record { counters = omega arith; proposers = λ h. omega arith } in
    at_most_antisym up down

heard_more : (is_phase : Phase → Bool) (ballot : Ballot) (reply : Reply) (replies : List Reply) → is_phase reply.phase ≡ true → reply.tag ≡ ballot
    → heard is_phase ballot (reply ∷ replies) ≡ reply ∷ heard is_phase ballot replies
heard_more is_phase ballot reply replies p e = rw (p, e, cmp_refl ballot) refl

-- a reply of the phase and the ballot is no other
pub no_other : (is_phase : Phase → Bool) (ballot : Ballot) (reply : Reply) (own : Ballot) → is_phase reply.phase ≡ true → reply.tag ≡ own → own ≡ ballot
    → is_heard is_phase ballot reply ≡ false → ⊥
no_other is_phase ballot reply own p e same not_heard =
    let yes : is_heard is_phase ballot reply ≡ true = rw (p, e, same, cmp_refl ballot) refl in
    cc (yes, not_heard)

-- ---- the tally
pub acceptance : (from to : ℕ) (p : Phase) (tag : Ballot) (t : Tell) (replies : List Reply) (tally : Tally)
    → is_acceptance t ≡ true → IsTallyOf is_acceptance replies tally
    → IsTallyOf is_acceptance (record { from = from; to = to; phase = p; tag = tag; tell = t } ∷ replies) (record tally { confirmed = with_member tally.confirmed from })
acceptance from to p tag tell.Accepted replies tally e h = record {
  confirmed = ap (λ ids. with_member ids from) h.confirmed
      ∙ one_confirmer is_acceptance (record { from = from; to = to; phase = p; tag = tag; tell = tell.Accepted }) replies e;
  met = h.met;
  aged = h.aged;
  full = h.full;
}
acceptance from to p tag other replies tally e h = absurd (cc e)

pub promise : (from to : ℕ) (p : Phase) (tag : Ballot) (t : Tell) (replies : List Reply) (tally : Tally)
    → is_promise t ≡ true → IsTallyOf is_promise replies tally
    → IsTallyOf is_promise (record { from = from; to = to; phase = p; tag = tag; tell = t } ∷ replies) (record tally { confirmed = with_member tally.confirmed from })
promise from to p tag (tell.Promised accepted) replies tally e h = record {
  confirmed = ap (λ ids. with_member ids from) h.confirmed
      ∙ one_confirmer is_promise (record { from = from; to = to; phase = p; tag = tag; tell = tell.Promised accepted }) replies e;
  met = h.met;
  aged = h.aged;
  full = h.full;
}
promise from to p tag other replies tally e h = absurd (cc e)

-- ---- what was read
told : (one : Option Accepted) (list : List Accepted) (read : Option Accepted) → GreatestOf AcceptedAtMost list read
    → GreatestOf AcceptedAtMost (cons_option one list) (latest_of read one)
told None list None h = h
told None list (Some read) h = h
told (Some one) list read h = read_more one list read h

-- ---- the phases
pub accept_arrives : (era : Era) (ballot : Ballot) (replies : List Reply) (reply : Reply) (round : AcceptRound) (tally : Tally)
    → is_accept reply.phase ≡ true → reply.tag ≡ round.ballot
    → ((list : List Reply) → IsTallyOf is_acceptance list round.tally → IsTallyOf is_acceptance (reply ∷ list) tally)
    → IsAcceptAfter era ballot replies round → IsAcceptAfter era ballot (reply ∷ replies) (record round { tally = tally })
accept_arrives era ballot replies reply round tally p e step h =
    let tagged : reply.tag ≡ ballot = e ∙ h.same_ballot in
    record {
      same_era = h.same_era;
      same_ballot = h.same_ballot;
      tally = rw (heard_more is_accept ballot reply replies p tagged) (step (heard is_accept ballot replies) h.tally);
    }

pub prepare_arrives : (era : Era) (ballot : Ballot) (replies : List Reply) (reply : Reply) (round : PrepareRound) (tally : Tally)
    → is_prepare reply.phase ≡ true → reply.tag ≡ round.ballot
    → ((list : List Reply) → IsTallyOf is_promise list round.tally → IsTallyOf is_promise (reply ∷ list) tally)
    → IsPrepareAfter era ballot replies round
    → IsPrepareAfter era ballot (reply ∷ replies) (record round { tally = tally; read = latest_of round.read (accepted_by reply.tell) })
prepare_arrives era ballot replies reply round tally p e step h =
    let tagged : reply.tag ≡ ballot = e ∙ h.same_ballot in
    record {
      same_era = h.same_era;
      same_ballot = h.same_ballot;
      tally = rw (heard_more is_prepare ballot reply replies p tagged) (step (heard is_prepare ballot replies) h.tally);
      read = rw (heard_more is_prepare ballot reply replies p tagged) (told (accepted_by reply.tell) (accepteds_of (heard is_prepare ballot replies)) round.read h.read);
    }
