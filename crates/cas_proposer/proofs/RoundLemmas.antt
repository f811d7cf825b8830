-- What a reply makes of a round.
use Rattle.std.proofs.Common.{◌≡◌, Bool, true, false, cond, List, ◌∷◌, ◌++◌, Option, Some, None, refl, ap, sym, subst}
use Rattle.cas_ballot.specs.declared.ballot.Ballot.{Ballot}
use Rattle.cas_ballot.specs.Ballot.{BallotAtMost}
use Rattle.cas_quorum.specs.declared.era.Era.{Era}
use Rattle.cas_slot.specs.declared.message.Reply.{Reply}
use Rattle.cas_round.specs.Replies.{is_prepare, is_accept, is_heard, heard, mets_of, met_by}
use Rattle.cas_round.specs.Round.{GreatestOf, IsPrepareAfter, IsAcceptAfter}
use Rattle.cas_round.specs.declared.phase.PrepareRound.{PrepareRound}
use Rattle.cas_round.specs.declared.phase.AcceptRound.{AcceptRound}
use Rattle.cas_round.proofs.Greatest.{met_more}
use Rattle.cas_proposer.specs.declared.round.Round.{Round}
use Rattle.cas_proposer.specs.declared.round.OpenPhase.{OpenPhase}
use Rattle.cas_proposer.specs.declared.round.OpenPhase.TheVariants.{Prepare, Accept}
use Rattle.cas_proposer.specs.Round.{met_after, is_heard_at, Hears}

-- a reply that is heard or not, and tells a ballot as met or not
with_reply : (b : Bool) (reply : Reply) (before : List Reply) (told : Option Ballot) (met : Option Ballot) → met_by reply.tell ≡ told
    → GreatestOf BallotAtMost (mets_of before) met → GreatestOf BallotAtMost (mets_of (cond b (reply ∷ before) before)) (met_after b met reply.tell)
with_reply false reply before told met is h = h
with_reply true reply before None met is h = rw is h
with_reply true reply before (Some ballot) met is h = rw is (met_more ballot (mets_of before) met h)

with_reply_too : (b : Bool) (reply : Reply) (before : List Reply) (more : List Ballot) (told : Option Ballot) (met : Option Ballot) → met_by reply.tell ≡ told
    → GreatestOf BallotAtMost (mets_of before ++ more) met → GreatestOf BallotAtMost (mets_of (cond b (reply ∷ before) before) ++ more) (met_after b met reply.tell)
with_reply_too false reply before more told met is h = h
with_reply_too true reply before more None met is h = rw is h
with_reply_too true reply before more (Some ballot) met is h = rw is (met_more ballot (mets_of before ++ more) met h)

-- one that is not heard leaves the greatest
unheard : (b : Bool) (met : Option Ballot) (reply : Reply) → b ≡ false → met_after b met reply.tell ≡ met
unheard b met reply none = ap (λ (h : Bool). met_after h met reply.tell) none

abbrev pub in_phase : Round → OpenPhase → Round
in_phase round phase = record round { phase = phase }

abbrev pub after_reply : Round → Reply → OpenPhase → Round
after_reply old reply phase = record old { met = met_after (is_heard_at old reply) old.met reply.tell; phase = phase }

module _ (round : Round) (reply : Reply) where
  in_prepare : (p q : PrepareRound)
      → ((era : Era) (ballot : Ballot) (replies : List Reply) → IsPrepareAfter era ballot replies p → IsPrepareAfter era ballot (reply ∷ replies) q)
      → ((era : Era) (ballot : Ballot) (replies : List Reply) → IsPrepareAfter era ballot replies p → is_heard is_prepare ballot reply ≡ false → q ≡ p)
      → Hears (in_phase round (Prepare p)) reply (after_reply (in_phase round (Prepare p)) reply (Prepare q))
  in_prepare p q after other = record {
    same = refl;
    same_phase = refl;
    met = refl;
    prepares = λ replies open_. record {
      phase = after round.era round.ballot replies open_.phase;
      met = with_reply (is_heard is_prepare round.ballot reply) reply (heard is_prepare round.ballot replies) (met_by reply.tell) round.met refl open_.met;
    };
    accepts = λ prepared replies open_. absurd open_.phase;
    other_prepare = λ none replies open_.
        let same = other round.era round.ballot replies open_.phase none in
        let met = unheard (is_heard is_prepare round.ballot reply) round.met reply none in
        (λ t. record round { met = met t; phase = Prepare (same t) });
    other_accept = λ none prepared replies open_. absurd open_.phase;
  }

  in_accept : (p q : AcceptRound)
      → ((era : Era) (ballot : Ballot) (replies : List Reply) → IsAcceptAfter era ballot replies p → IsAcceptAfter era ballot (reply ∷ replies) q)
      → ((era : Era) (ballot : Ballot) (replies : List Reply) → IsAcceptAfter era ballot replies p → is_heard is_accept ballot reply ≡ false → q ≡ p)
      → Hears (in_phase round (Accept p)) reply (after_reply (in_phase round (Accept p)) reply (Accept q))
  in_accept p q after other = record {
    same = refl;
    same_phase = refl;
    met = refl;
    prepares = λ replies open_. absurd open_.phase;
    accepts = λ prepared replies open_. record {
      phase = after round.era round.ballot replies open_.phase;
      met = with_reply_too (is_heard is_accept round.ballot reply) reply (heard is_accept round.ballot replies) (mets_of (heard is_prepare round.ballot prepared)) (met_by reply.tell) round.met refl open_.met;
    };
    other_prepare = λ none replies open_. absurd open_.phase;
    other_accept = λ none prepared replies open_.
        let same = other round.era round.ballot replies open_.phase none in
        let met = unheard (is_heard is_accept round.ballot reply) round.met reply none in
        (λ t. record round { met = met t; phase = Accept (same t) });
  }

  pub prepare_hears : (p q : PrepareRound) → round.phase ≡ Prepare p
      → ((era : Era) (ballot : Ballot) (replies : List Reply) → IsPrepareAfter era ballot replies p → IsPrepareAfter era ballot (reply ∷ replies) q)
      → ((era : Era) (ballot : Ballot) (replies : List Reply) → IsPrepareAfter era ballot replies p → is_heard is_prepare ballot reply ≡ false → q ≡ p)
      → Hears round reply (after_reply round reply (Prepare q))
  prepare_hears p q is after other = subst (λ phase. Hears (in_phase round phase) reply (after_reply (in_phase round phase) reply (Prepare q))) (sym is) (in_prepare p q after other)

  pub accept_hears : (p q : AcceptRound) → round.phase ≡ Accept p
      → ((era : Era) (ballot : Ballot) (replies : List Reply) → IsAcceptAfter era ballot replies p → IsAcceptAfter era ballot (reply ∷ replies) q)
      → ((era : Era) (ballot : Ballot) (replies : List Reply) → IsAcceptAfter era ballot replies p → is_heard is_accept ballot reply ≡ false → q ≡ p)
      → Hears round reply (after_reply round reply (Accept q))
  accept_hears p q is after other = subst (λ phase. Hears (in_phase round phase) reply (after_reply (in_phase round phase) reply (Accept q))) (sym is) (in_accept p q after other)
