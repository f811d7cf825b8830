-- How a phase ends by the replies that arrived.
use Rattle.std.specs.Prelude.{◌≡◌, ℕ, ◌≤◌, Bool, true, false, if◌then◌else◌, List, [], Option, None, Some, All, Contains}
use Rattle.std.specs.Ordering.{is_lt}
use Rattle.cas_ballot.specs.declared.ballot.Ballot.{Ballot}
use Rattle.cas_ballot.specs.Ballot.{ballot_cmp, BallotAtMost}
use Rattle.cas_quorum.specs.declared.era.Era.{Era}
use Rattle.cas_quorum.specs.Era.{holds_prep, holds_acc}
use Rattle.cas_quorum.specs.Quorum.{count_in, has_quorum}
use Rattle.cas_slot.specs.declared.slot.Accepted.{Accepted}
use Rattle.cas_slot.specs.declared.message.Reply.{Reply}
use Rattle.cas_slot.specs.declared.message.Tell.{Tell}
use Rattle.cas_round.specs.declared.verdict.RoundVerdict.{RoundVerdict}
use Rattle.cas_round.specs.declared.verdict.RoundVerdict.TheVariants.{Quorum, Met, Aged, Full, Short}
use Rattle.cas_round.specs.declared.tally.Tally.{Tally}
use Rattle.cas_round.specs.declared.phase.PrepareRound.{PrepareRound}
use Rattle.cas_round.specs.declared.phase.AcceptRound.{AcceptRound}
use Rattle.cas_round.specs.Replies.{heard, is_prepare, is_accept, is_promise, is_acceptance, confirmers_of, mets_of, ages_of, fulls_of, accepteds_of}

-- ---- the greatest
-- it stands in the list, and every other is at most it
pub record IsGreatest {X : Type 0} (at_most : X → X → Type 0) (xs : List X) (most : X) : Type 0 where
  pub stands : Contains xs most
  pub above : All (λ x. at_most x most) xs

abbrev pub AgeAtMost : ℕ → ℕ → Type 0
AgeAtMost a b = a ≤ b

-- in the order in which the least acceptor is the greatest
abbrev pub IsNoLess : ℕ → ℕ → Type 0
IsNoLess a b = b ≤ a

abbrev pub AcceptedAtMost : Accepted → Accepted → Type 0
AcceptedAtMost a b = BallotAtMost a.ballot b.ballot

-- ---- the verdict
-- of the replies that were heard: a quorum, or the greatest ballot met, or the greatest age told, or the least acceptor
-- that was full, or how many of the members confirmed
abbrev pub IsRoundVerdict : List ℕ → ℕ → (Tell → Bool) → List Reply → RoundVerdict → Type 0
IsRoundVerdict members need confirms replies Quorum = has_quorum need members (confirmers_of confirms replies) ≡ true
IsRoundVerdict members need confirms replies (Met ballot) =
    (has_quorum need members (confirmers_of confirms replies) ≡ false) × IsGreatest BallotAtMost (mets_of replies) ballot
IsRoundVerdict members need confirms replies (Aged least) =
    (has_quorum need members (confirmers_of confirms replies) ≡ false) × (mets_of replies ≡ []) × IsGreatest AgeAtMost (ages_of replies) least
IsRoundVerdict members need confirms replies (Full acceptor) =
    (has_quorum need members (confirmers_of confirms replies) ≡ false) × (mets_of replies ≡ []) × (ages_of replies ≡ [])
    × IsGreatest IsNoLess (fulls_of replies) acceptor
IsRoundVerdict members need confirms replies (Short got needed) =
    (has_quorum need members (confirmers_of confirms replies) ≡ false) × (mets_of replies ≡ []) × (ages_of replies ≡ []) × (fulls_of replies ≡ [])
    × (got ≡ count_in members (confirmers_of confirms replies)) × (needed ≡ need)

-- the verdict of a prepare phase, and of an accept phase
abbrev pub IsPrepareVerdict : Era → Ballot → List Reply → RoundVerdict → Type 0
IsPrepareVerdict era ballot replies verdict = IsRoundVerdict era.prep era.need_prep is_promise (heard is_prepare ballot replies) verdict

abbrev pub IsAcceptVerdict : Era → Ballot → List Reply → RoundVerdict → Type 0
IsAcceptVerdict era ballot replies verdict = IsRoundVerdict era.acc era.need_acc is_acceptance (heard is_accept ballot replies) verdict

-- ---- what was read
-- the greatest of a list, or nothing where the list is empty
abbrev pub GreatestOf : {X : Type 0} → (X → X → Type 0) → List X → Option X → Type 0
GreatestOf at_most xs None = xs ≡ []
GreatestOf at_most xs (Some most) = IsGreatest at_most xs most

-- of all that the confirmations told as accepted, that of the greatest ballot
abbrev pub IsRead : Ballot → List Reply → Option Accepted → Type 0
IsRead ballot replies read = GreatestOf AcceptedAtMost (accepteds_of (heard is_prepare ballot replies)) read

-- of two that were told as accepted, that of the greater ballot
abbrev pub latest_of : Option Accepted → Option Accepted → Option Accepted
latest_of None told = told
latest_of (Some read) None = Some read
latest_of (Some read) (Some told) = Some (if is_lt (ballot_cmp read.ballot told.ballot) then told else read)

-- ---- a phase after replies
-- the tally of the replies that were heard
pub record IsTallyOf (confirms : Tell → Bool) (replies : List Reply) (tally : Tally) : Type 0 where
  pub confirmed : tally.confirmed ≡ confirmers_of confirms replies
  pub met : GreatestOf BallotAtMost (mets_of replies) tally.met
  pub aged : GreatestOf AgeAtMost (ages_of replies) tally.aged
  pub full : GreatestOf IsNoLess (fulls_of replies) tally.full

-- the prepare phase at that ballot in that era after these replies, in any order
pub record IsPrepareAfter (era : Era) (ballot : Ballot) (replies : List Reply) (round : PrepareRound) : Type 0 where
  pub same_era : round.era ≡ era
  pub same_ballot : round.ballot ≡ ballot
  pub tally : IsTallyOf is_promise (heard is_prepare ballot replies) round.tally
  pub read : IsRead ballot replies round.read

-- the accept phase, likewise
pub record IsAcceptAfter (era : Era) (ballot : Ballot) (replies : List Reply) (round : AcceptRound) : Type 0 where
  pub same_era : round.era ≡ era
  pub same_ballot : round.ballot ≡ ballot
  pub tally : IsTallyOf is_acceptance (heard is_accept ballot replies) round.tally

-- ---- what a phase shows
-- the acceptors that confirmed so far, and whether they hold a quorum of the phase
abbrev pub promised_in : PrepareRound → List ℕ
promised_in round = round.tally.confirmed

-- what was read so far
abbrev pub read_in : PrepareRound → Option Accepted
read_in round = round.read

abbrev pub is_promised : PrepareRound → Bool
is_promised round = holds_prep round.era (promised_in round)

abbrev pub accepted_in : AcceptRound → List ℕ
accepted_in round = round.tally.confirmed

abbrev pub is_accepted : AcceptRound → Bool
is_accepted round = holds_acc round.era (accepted_in round)
