-- An open round, and the replies that arrived at it.
use Rattle.std.specs.Prelude.{◌≡◌, ℕ, Bool, true, false, not, nat_eq, ◌&&◌, if◌then◌else◌, List, [], ◌∷◌, ◌++◌, Option, None, Some}
use Rattle.std.specs.Cmp.Lexicographic.{pointwise}
use Rattle.std.specs.Ordering.{is_eq}
use Rattle.cas_ballot.specs.declared.ballot.Ballot.{Ballot}
use Rattle.cas_ballot.specs.Ballot.{ballot_cmp, BallotAtMost}
use Rattle.cas_quorum.specs.declared.era.Era.{Era}
use Rattle.cas_quorum.specs.Era.{holds_prep}
use Rattle.cas_cache.specs.declared.ready.Ready.{Ready}
use Rattle.cas_slot.specs.declared.slot.Accepted.{Accepted}
use Rattle.cas_slot.specs.declared.message.Phase.{Phase}
use Rattle.cas_slot.specs.declared.message.Reply.{Reply}
use Rattle.cas_slot.specs.declared.message.Tell.{Tell}
use Rattle.cas_round.specs.declared.verdict.RoundVerdict.{RoundVerdict}
use Rattle.cas_round.specs.Replies.{is_prepare, is_accept, heard, mets_of, met_by, promisers_of, accepters_of}
use Rattle.cas_round.specs.Round.{GreatestOf, IsPrepareAfter, IsAcceptAfter, IsPrepareVerdict, IsAcceptVerdict, IsRead, promised_in, read_in, is_promised, accepted_in, is_accepted}
use Rattle.cas_round.specs.Tally.{greatest_met}
use Rattle.cas_proposer.specs.declared.round.Round.{Round}
use Rattle.cas_proposer.specs.declared.round.OpenPhase.{OpenPhase}
use Rattle.cas_proposer.specs.declared.round.OpenPhase.TheVariants.{Prepare, Accept}

-- ---- the phase
abbrev pub is_preparing : OpenPhase → Bool
is_preparing (Prepare phase) = true
is_preparing (Accept phase) = false

-- whether it is the phase of such requests
abbrev pub is_of : OpenPhase → Phase → Bool
is_of (Prepare phase) asked = is_prepare asked
is_of (Accept phase) asked = is_accept asked

-- it is the prepare phase at that ballot in that era, after these replies; it is the accept phase, likewise
abbrev pub IsPrepare : Era → Ballot → List Reply → OpenPhase → Type 0
IsPrepare era ballot replies (Prepare phase) = IsPrepareAfter era ballot replies phase
IsPrepare era ballot replies (Accept phase) = ⊥

abbrev pub IsAccept : Era → Ballot → List Reply → OpenPhase → Type 0
IsAccept era ballot replies (Prepare phase) = ⊥
IsAccept era ballot replies (Accept phase) = IsAcceptAfter era ballot replies phase

-- ---- the round
-- what a round is about, before a ballot rides with it
pub record IsAbout (key : List ℕ) (era : Era) (ballot : Ballot) (round : Round) : Type 0 where
  pub of_key : round.key ≡ key
  pub in_era : round.era ≡ era
  pub at : round.ballot ≡ ballot
  pub ride : round.ride ≡ None
  pub met : round.met ≡ None

-- it is in its prepare phase, and these replies arrived there, the last one first
pub record IsPreparing (replies : List Reply) (round : Round) : Type 0 where
  pub phase : IsPrepare round.era round.ballot replies round.phase
  pub met : GreatestOf BallotAtMost (mets_of (heard is_prepare round.ballot replies)) round.met

-- it is in its accept phase: these replies arrived in its prepare phase, if it had one, and those in the accept phase
pub record IsAccepting (prepared replies : List Reply) (round : Round) : Type 0 where
  pub phase : IsAccept round.era round.ballot replies round.phase
  pub met : GreatestOf BallotAtMost (mets_of (heard is_accept round.ballot replies) ++ mets_of (heard is_prepare round.ballot prepared)) round.met

-- ---- replies
-- whether a reply answers a request of the open phase
abbrev pub is_heard_at : Round → Reply → Bool
is_heard_at round reply = is_of round.phase reply.phase && is_eq (ballot_cmp reply.tag round.ballot)

-- the greatest ballot that was met, after a reply that is heard or not
abbrev pub met_with : Option Ballot → Option Ballot → Option Ballot
met_with met None = met
met_with met (Some told) = Some (greatest_met met told)

abbrev pub met_after : Bool → Option Ballot → Tell → Option Ballot
met_after heard met tell = if heard then met_with met (met_by tell) else met

-- a reply arrives: one more in the open phase; one of another phase or another ballot changes nothing
pub record Hears (old : Round) (reply : Reply) (new : Round) : Type 0 where
  pub same : new ≡ record old { met = new.met; phase = new.phase }
  pub same_phase : is_preparing new.phase ≡ is_preparing old.phase
  pub met : new.met ≡ met_after (is_heard_at old reply) old.met reply.tell
  pub prepares : (replies : List Reply) → IsPreparing replies old → IsPreparing (reply ∷ replies) new
  pub accepts : (prepared replies : List Reply) → IsAccepting prepared replies old → IsAccepting prepared (reply ∷ replies) new
  pub other_prepare : is_heard_at old reply ≡ false → (replies : List Reply) → IsPreparing replies old → new ≡ old
  pub other_accept : is_heard_at old reply ≡ false → (prepared replies : List Reply) → IsAccepting prepared replies old → new ≡ old

-- the verdict of the open phase, by the replies that arrived
pub record IsVerdictOf (round : Round) (verdict : RoundVerdict) : Type 0 where
  pub prepare : (replies : List Reply) → IsPreparing replies round → IsPrepareVerdict round.era round.ballot replies verdict
  pub accept : (prepared replies : List Reply) → IsAccepting prepared replies round → IsAcceptVerdict round.era round.ballot replies verdict

-- the acceptors that confirmed in the open phase, by the replies that arrived
pub record IsConfirmersOf (round : Round) (by : List ℕ) : Type 0 where
  pub prepare : (replies : List Reply) → IsPreparing replies round → by ≡ promisers_of round.ballot replies
  pub accept : (prepared replies : List Reply) → IsAccepting prepared replies round → by ≡ accepters_of round.ballot replies

-- ---- what was read
-- the prepare phase ends and the accept phase opens, at the same ballot
pub record TurnsToAccept (old new : Round) : Type 0 where
  pub same : new ≡ record old { phase = new.phase }
  pub accepting : is_preparing new.phase ≡ false
  pub accepts : (replies : List Reply) → IsPreparing replies old → IsAccepting replies [] new

-- what was read in the prepare phase, by the replies that arrived
abbrev pub IsReadOf : Round → Option Accepted → Type 0
IsReadOf round read = (replies : List Reply) → IsPreparing replies round → IsRead round.ballot replies read

-- ---- the promise that rode along
-- the acceptors that confirmed in the open phase so far, and whether they hold its quorum
abbrev pub confirmed_in : OpenPhase → List ℕ
confirmed_in (Prepare phase) = promised_in phase
confirmed_in (Accept phase) = accepted_in phase

-- what was read in the prepare phase so far
abbrev pub latest_in : OpenPhase → Option Accepted
latest_in (Prepare phase) = read_in phase
latest_in (Accept phase) = None

abbrev pub has_quorum : OpenPhase → Bool
has_quorum (Prepare phase) = is_promised phase
has_quorum (Accept phase) = is_accepted phase

-- whether a ballot rode along, and it is this one
abbrev pub rode : Option Ballot → Ballot → Bool
rode None ballot = false
rode (Some ride) ballot = is_eq (ballot_cmp ride ballot)

-- whether what a round offers is the promise that its own acceptances made: its ballot rode along, what is read at it is what they
-- accepted, and they are those that hold it
abbrev pub is_own : Round → Ready → Bool
is_own round ready = rode round.ride ready.ballot && is_eq (ballot_cmp ready.read round.ballot) && pointwise nat_eq ready.by (confirmed_in round.phase)

-- whether it is kept: an accept quorum accepted, the promise is the round's own, and those that hold it are a prepare quorum
abbrev pub may_keep : Round → Ready → Bool
may_keep round ready = (not (is_preparing round.phase) && has_quorum round.phase) && is_own round ready && holds_prep round.era ready.by
