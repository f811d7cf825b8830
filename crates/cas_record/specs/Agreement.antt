-- What members agree on of a key, by what they told that was kept for it.
use Rattle.std.specs.Prelude.{◌≡◌, ◌≢◌, ℕ, Bool, true, false, not, ◌==◌, ◌&&◌, ◌||◌, if◌then◌else◌, List, Option, Some, None, is_some}
use Rattle.std.specs.List.{list_any, position, Contains}
use Rattle.cas_ballot.specs.declared.ballot.Ballot.{Ballot}
use Rattle.cas_ballot.specs.Ballot.{zero_ballot, BallotAtMost}
use Rattle.cas_ballot.specs.Members.{members_where}
use Rattle.cas_quorum.specs.declared.era.Era.{Era}
use Rattle.cas_quorum.specs.Era.{holds_prep, holds_acc}
use Rattle.cas_quorum.specs.Quorum.{count_in}
use Rattle.cas_slot.specs.declared.message.Tell.{Tell}
use Rattle.cas_slot.specs.declared.message.Tell.TheVariants as tell
use Rattle.cas_slot.specs.declared.slot.Accepted.{Accepted}
use Rattle.cas_record.specs.declared.agreement.Agreement.{Agreement}
use Rattle.cas_record.specs.declared.agreement.Agreement.TheVariants.{Value, Short, NotAgreed, OldEra}
use Rattle.cas_record.specs.declared.operator.Probe.{Probe}
use Rattle.cas_record.specs.Histories.Chain.{is_ballot}

-- ---- what one member told
-- the state that it accepted, if any
abbrev pub accepted_told : Option Tell → Option Accepted
accepted_told (Some (tell.Probed promise accepted)) = accepted
accepted_told told = None

-- the ballot of that state, and zero if there is none
abbrev pub ballot_kept : Option Accepted → Ballot
ballot_kept None = zero_ballot
ballot_kept (Some accepted) = accepted.ballot

-- the ballot that it told; none if it told nothing of the key
abbrev pub ballot_told : Option Tell → Option Ballot
ballot_told (Some (tell.Probed promise accepted)) = Some (ballot_kept accepted)
ballot_told told = None

-- whether it told this ballot
abbrev pub is_ballot_told : Ballot → Option Ballot → Bool
is_ballot_told ballot None = false
is_ballot_told ballot (Some other) = is_ballot other ballot

-- whether what it accepted is of this era; at ballot zero nothing is accepted, and nothing is of each era
abbrev pub is_of_era : ℕ → Option Accepted → Bool
is_of_era number None = true
is_of_era number (Some accepted) = is_ballot accepted.ballot zero_ballot || (accepted.era == number)

-- whether it accepted a state at this ballot, and in this era
abbrev pub is_kept_in : ℕ → Ballot → Option Accepted → Bool
is_kept_in number ballot None = false
is_kept_in number ballot (Some accepted) = is_ballot accepted.ballot ballot && (accepted.era == number)

-- whether the probe's member told any ballot, this ballot, and this ballot as one of this era
abbrev pub tells : Probe → Bool
tells probe = is_some (ballot_told probe.told)

abbrev pub tells_ballot : Ballot → Probe → Bool
tells_ballot ballot probe = is_ballot_told ballot (ballot_told probe.told)

abbrev pub tells_in : ℕ → Ballot → Probe → Bool
tells_in number ballot probe = tells_ballot ballot probe && is_of_era number (accepted_told probe.told)

-- ---- what all told
-- the members whose probes pass a test
abbrev pub acceptors_where : (Probe → Bool) → List Probe → List ℕ
acceptors_where test found = members_where (λ n. list_any (λ probe. (n == probe.acceptor) && test probe) found)

-- those that told a ballot
abbrev pub tellers : List Probe → List ℕ
tellers found = acceptors_where tells found

-- whether any member told this ballot
abbrev pub is_told : List Probe → Ballot → Bool
is_told found ballot = list_any (tells_ballot ballot) found

-- whether any accepted a state at this ballot, and in this era
abbrev pub is_kept : ℕ → Ballot → List Probe → Bool
is_kept number ballot found = list_any (λ probe. is_kept_in number ballot (accepted_told probe.told)) found

-- the least of the ballots that were told, and the greatest
pub record IsLowest (told : Ballot → Bool) (low : Ballot) : Type 0 where
  pub has : told low ≡ true
  pub least : (ballot : Ballot) → told ballot ≡ true → BallotAtMost low ballot

pub record IsHighest (told : Ballot → Bool) (high : Ballot) : Type 0 where
  pub has : told high ≡ true
  pub greatest : (ballot : Ballot) → told ballot ≡ true → BallotAtMost ballot high

-- ---- what they agree on
-- whether the members that told this ballot, as one of the era, hold a quorum of each phase
abbrev pub is_agreed : Era → List Probe → Ballot → Bool
is_agreed era found ballot = let by : List ℕ = acceptors_where (tells_in era.number ballot) found in holds_prep era by && holds_acc era by

-- where the first of these stands; nowhere at zero, where nothing is accepted
abbrev pub place_of : ℕ → Ballot → List Probe → Option ℕ
place_of number ballot found = if is_ballot ballot zero_ballot then None else position (tells_in number ballot) found

-- no ballot is agreed on
abbrev pub NoneAgreed : Era → List Probe → Type 0
NoneAgreed era found = (ballot : Ballot) → is_agreed era found ballot ≡ false

-- how many of these a prepare quorum has, and how many it needs, if they hold none; else the same of an accept quorum
abbrev pub shortfall : Era → List ℕ → Option (ℕ × ℕ)
shortfall era by =
    if holds_prep era by then (if holds_acc era by then None else Some (count_in era.acc by, era.need_acc)) else Some (count_in era.prep by, era.need_prep)

-- those that told hold a quorum of each phase, but agree on no ballot
pub record IsUndecided (era : Era) (found : List Probe) : Type 0 where
  pub none : NoneAgreed era found
  pub enough : shortfall era (tellers found) ≡ None

-- two ballots that were told differ: the least and the greatest
pub record BallotsDiffer (found : List Probe) (low high : Ballot) : Type 0 where
  pub lowest : IsLowest (is_told found) low
  pub highest : IsHighest (is_told found) high
  pub apart : low ≢ high

-- one ballot was told, and its state was accepted in this other era
pub record IsOfOldEra (era : Era) (found : List Probe) (ballot : Ballot) (number : ℕ) : Type 0 where
  pub kept : is_kept number ballot found ≡ true
  pub only : (other : Ballot) → is_told found other ≡ true → other ≡ ballot
  pub older : number ≢ era.number

-- what the members agree on, or why they do not
abbrev pub IsAgreementOf : Era → List Probe → Agreement → Type 0
IsAgreementOf era found (Value ballot at) = (is_agreed era found ballot ≡ true) × (at ≡ place_of era.number ballot found)
IsAgreementOf era found (Short got need) = NoneAgreed era found × (shortfall era (tellers found) ≡ Some (got, need))
IsAgreementOf era found (NotAgreed low high) = IsUndecided era found × BallotsDiffer found low high
IsAgreementOf era found (OldEra ballot number) = IsUndecided era found × IsOfOldEra era found ballot number

-- ---- what holds of probes
-- no member told two things
abbrev pub TellOnce : List Probe → Type 0
TellOnce found = (p q : Probe) → Contains found p → Contains found q → p.acceptor ≡ q.acceptor → p ≡ q

-- states that were accepted at one ballot are of one era
abbrev pub HaveOneEra : List Probe → Type 0
HaveOneEra found =
    (p q : Probe) (a b : Accepted) → Contains found p → Contains found q → accepted_told p.told ≡ Some a → accepted_told q.told ≡ Some b → a.ballot ≡ b.ballot → a.era ≡ b.era

-- ---- on the way
-- whether the ballot that a member told is agreed on
abbrev pub tells_agreed : Era → List Probe → Option Ballot → Bool
tells_agreed era found None = false
tells_agreed era found (Some ballot) = is_agreed era found ballot

-- the least and the greatest of these ballots, if there are any
abbrev pub IsSpan : (Ballot → Bool) → Option (Ballot × Ballot) → Type 0
IsSpan told None = (ballot : Ballot) → told ballot ≡ false
IsSpan told (Some span) = IsLowest told span.0 × IsHighest told span.1

-- whether any accepted a state of another era than this
abbrev pub has_other_era : ℕ → List Probe → Bool
has_other_era number found = list_any (λ probe. not (is_of_era number (accepted_told probe.told))) found

-- a state is of that era, which is not this one
pub record IsOtherEra (number : ℕ) (found : List Probe) (other : ℕ) : Type 0 where
  pub ballot : Ballot
  pub kept : is_kept other ballot found ≡ true
  pub older : other ≢ number
