-- What happens to the open round of a proposer: replies arrive at it, and all else passes it by.
use Rattle.std.specs.Prelude.{◌≡◌, ◌⊎◌, ℕ, List, [], ◌∷◌, ◌++◌, Some}
use Rattle.cas_flow.specs.Flow.{queue_at}
use Rattle.cas_flow.specs.declared.message.Message.TheVariants as message
use Rattle.cas_proposer.specs.Desk.{DeskView}
use Rattle.cas_proposer.specs.Round.{IsPreparing, IsAccepting}
use Rattle.cas_proposer.specs.declared.round.Round.{Round}
use Rattle.cas_slot.specs.declared.message.Reply.{Reply}
use Rattle.cas_model.specs.Step.{Event, Begin, RefuseBegin, Propose, Count, End, CrashProposer, Step, AskAll, EnterEra, BeginCollect, ReadHeld, CountCollect, EndCollect, Renew}
use Rattle.cas_model.specs.Calls.Desks.{HearsReply}
use Rattle.cas_model.specs.View.{Meaning, View, IsAt}

-- a call that may begin or end a round of the proposer; no other does
abbrev pub IsOwnCall : ℕ → Event → Type 0
IsOwnCall id (Begin caller key program) = caller ≡ id
IsOwnCall id (RefuseBegin caller key) = caller ≡ id
IsOwnCall id (Propose proposer) = proposer ≡ id
IsOwnCall id (Count proposer) = proposer ≡ id
IsOwnCall id (End caller answer) = caller ≡ id
IsOwnCall id (CrashProposer proposer) = proposer ≡ id
IsOwnCall id (AskAll question) = 0 ≡ id
IsOwnCall id (EnterEra proposer) = proposer ≡ id
IsOwnCall id (BeginCollect key) = 0 ≡ id
IsOwnCall id ReadHeld = 0 ≡ id
IsOwnCall id CountCollect = 0 ≡ id
IsOwnCall id (EndCollect answer) = 0 ≡ id
IsOwnCall id (Renew proposer) = proposer ≡ id
IsOwnCall id other = ⊥

-- a reply waited in front of the proposer's own frames, or among the late ones
abbrev pub ReplyIsUnderWay : {S V : Type 0} → View S V → ℕ → Reply → Type 0
ReplyIsUnderWay view id reply = IsAt (queue_at view.flow id).messages 0 (message.Reply reply) ⊎ ((index : ℕ) × IsAt view.flow.late index (message.Reply reply))

-- the replies that a step brings to the round of the proposer, of which there is one at most
pub data Brings {S V : Type 0} (old new : View S V) (id : ℕ) : List Reply → Type 0 where
  nothing : ((desk : DeskView V) → IsAt old.desks id desk → (now : DeskView V) × IsAt new.desks id now × (now.round ≡ desk.round)) → Brings old new id []
  one : (reply : Reply) (desk now : DeskView V) (round heard : Round) → ReplyIsUnderWay old id reply → IsAt old.desks id desk → desk.round ≡ Some round → HearsReply desk now round heard reply → IsAt new.desks id now
      → Brings old new id (reply ∷ [])

-- steps of anybody between two calls of the proposer's own, and the replies that they brought, the last one first
pub data RoundSteps {S V : Type 0} (m : Meaning S V) (id : ℕ) (first : View S V) : List Reply → View S V → Type 0 where
  none : RoundSteps m id first [] first
  one_more : {before brought : List Reply} {mid new : View S V} (event : Event) → RoundSteps m id first before mid → (IsOwnCall id event → ⊥) → Step m mid event new → Brings mid new id brought → RoundSteps m id first (brought ++ before) new

-- ---- the phases
-- the round is in its prepare phase, at which these replies arrived; in its accept phase, likewise, and those in the phase before
pub record PreparesWith {V : Type 0} (desks : List (DeskView V)) (id : ℕ) (replies : List Reply) (round : Round) : Type 0 where
  pub desk : DeskView V
  pub at_desk : IsAt desks id desk
  pub is_open : desk.round ≡ Some round
  pub preparing : IsPreparing replies round

pub record AcceptsWith {V : Type 0} (desks : List (DeskView V)) (id : ℕ) (prepared replies : List Reply) (round : Round) : Type 0 where
  pub desk : DeskView V
  pub at_desk : IsAt desks id desk
  pub is_open : desk.round ≡ Some round
  pub accepting : IsAccepting prepared replies round
