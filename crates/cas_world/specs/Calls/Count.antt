-- The end of an accept phase.
use Rattle.std.specs.Prelude.{◌≡◌, ◌+◌, ◌<◌, ℕ, List, [], ◌∷◌, ◌++◌, Some}
use Rattle.cas_change.specs.declared.outcome.Outcome.{Outcome}
use Rattle.cas_proposer.specs.Desk.{DeskView}
use Rattle.cas_proposer.specs.Round.{IsConfirmersOf, confirmed_in}
use Rattle.cas_proposer.specs.declared.round.Round.{Round}
use Rattle.cas_record.specs.Book.{Book}
use Rattle.cas_record.specs.declared.answer.Answer.{Answer}
use Rattle.cas_record.specs.declared.answer.Answer.TheVariants as answer
use Rattle.cas_record.specs.declared.mark.Mark.TheVariants.{Acked}
use Rattle.cas_model.specs.Calls.Step.{offered_by}
use Rattle.cas_model.specs.Calls.Desks.{EndsRound}
use Rattle.cas_model.specs.View.{DiskMeaning}
use Rattle.cas_world_calls.specs.Call.{over}
use Rattle.cas_world_calls.specs.declared.call.Caller.{Caller}
use Rattle.cas_world_calls.specs.declared.call.OpenCall.{OpenCall}
use Rattle.cas_world_calls.specs.declared.proposal.Copies.{Copies}

-- an accept phase whose end has all that it needs: the copies of what was proposed, and a mark with its room
pub record MayCount {V : Type 0} (desk : DeskView V) (caller : Caller) (left : ℕ) : Type 0 where
  pub round : Round
  pub is_round : desk.round ≡ Some round
  pub call : OpenCall
  pub is_open : caller.call ≡ Some call
  pub outcome : Outcome
  pub proposed : call.proposed ≡ Some outcome
  pub copies : Copies
  pub has_copies : call.copies ≡ Some copies
  pub key : copies.key ≡ round.key
  pub told : copies.told ≡ outcome.state
  pub answer : copies.answer ≡ outcome.state
  pub kept : copies.kept ≡ outcome.state
  pub reserved : 0 < call.reserved
  pub room : 0 < left

-- the round ends with the promise that rode along, the acknowledgment is marked, and the caller is told that its change is done
pub record Counts {V : Type 0} (m : DiskMeaning V) (old new : DeskView V) (round : Round) (caller now : Caller) (call : OpenCall) (outcome : Outcome) (book after : Book) (told : Answer) : Type 0 where
  pub by : List ℕ
  pub confirmers : IsConfirmersOf round by
  pub shown : by ≡ confirmed_in round.phase
  pub ends : EndsRound m old new round (offered_by round round.ride outcome.state by)
  pub told_is : told ≡ answer.Done outcome.state outcome.took round.ballot
  pub caller_is : now ≡ record caller { call = Some (over call told) }
  pub marks : after.marks ≡ book.marks ++ Acked (record { key = round.key; ballot = round.ballot; era = round.era.number; by = by }) ∷ []
  pub room : after.room + 1 ≡ book.room
