-- What is read of a world without changing it.
use Rattle.std.specs.Prelude.{◌≡◌, ◌↔◌, ℕ, ◌+◌, Bool, true, not, ◌&&◌, List, Option, None, Some, option_map, if◌then◌else◌, IsSomeAnd}
use Rattle.cas_acceptor.specs.Acceptor.{AcceptorView}
use Rattle.cas_ballot.specs.Members.{has_member}
use Rattle.cas_proposer.specs.Round.{IsVerdictOf, has_quorum}
use Rattle.cas_proposer.specs.declared.round.Round.{Round}
use Rattle.cas_record.specs.declared.answer.Answer.{Answer}
use Rattle.cas_round.specs.declared.verdict.RoundVerdict.{RoundVerdict}
use Rattle.cas_round.specs.declared.verdict.RoundVerdict.TheVariants.{Quorum}
use Rattle.cas_model.specs.View.{CallView, CallerView}
use Rattle.cas_protocol.specs.Protocol.{is_done}

-- the number of the caller's next call
abbrev pub next_number : CallerView → ℕ
next_number caller = caller.number + 1

-- what a call was told, where it is closed, unless that is that its change is done
abbrev pub told_if : Bool → Option Answer → Option Answer
told_if closed None = None
told_if closed (Some told) = if closed && not (is_done told) then Some told else None

-- what a call was told whose round was closed by another
abbrev pub closed_in : Option CallView → Option Answer
closed_in None = None
closed_in (Some call) = told_if call.is_closed call.told

-- how the open phase of an open round ends, should no other reply arrive: with a quorum exactly where it has one
abbrev pub IsVerdictIn : Option Round → Option RoundVerdict → Type 0
IsVerdictIn None verdict = verdict ≡ None
IsVerdictIn (Some round) verdict = IsSomeAnd verdict (λ v. IsVerdictOf round v × ((v ≡ Quorum) ↔ (has_quorum round.phase ≡ true)))

-- whether an acceptor is up, where it is one of these
abbrev pub up_in : {S : Type 0} → List ℕ → ℕ → Option (AcceptorView S) → Option Bool
up_in used id acceptor = if has_member used id then option_map (λ a. not a.down) acceptor else None
