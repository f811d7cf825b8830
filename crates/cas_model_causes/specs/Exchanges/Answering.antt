-- What becomes of those that an exchange asks: each of them told something, or a frame to or from it waits, or one was harmed.
use Rattle.std.specs.Prelude.{◌≡◌, ⊤, ℕ, suc, ◌≤◌, true, false, if◌then◌else◌, List, [], ◌∷◌, length, map, Option, None, Some, is_none, Contains}
use Rattle.cas_ballot.specs.Members.{has_member}
use Rattle.cas_flow.specs.Flow.{queue_at}
use Rattle.cas_flow.specs.Message.{head_of}
use Rattle.cas_flow.specs.declared.message.Message.{Message}
use Rattle.cas_record.specs.declared.operator.Probe.{Probe as Answered}
use Rattle.cas_model.specs.Council.{ExchangeView, exchange_place}
use Rattle.cas_model.specs.Openings.{Opening, IsOpeningOn}
use Rattle.cas_model.specs.Safe.{IsSafe}
use Rattle.cas_model.specs.Step.{Event, Step, IsOpening}
use Rattle.cas_model.specs.View.{Meaning, View, IsAt}

-- ---- what was told
-- who is to tell, in their order
abbrev pub tellers_of : List Answered → List ℕ
tellers_of answers = map (λ one. one.acceptor) answers

-- how many of them told nothing
abbrev pub silent_in : List Answered → ℕ
silent_in [] = 0
silent_in (one ∷ later) = if is_none one.told then suc (silent_in later) else silent_in later

-- ---- what is awaited
-- of one that told nothing a frame to or from it waits, or one was harmed
pub data IsAwaited (harmed : List ℕ) (waiting : List Message) (member : ℕ) : Type 0 where
  waits : (each : Message) → Contains waiting each → (head_of each).1 ≡ member → IsAwaited harmed waiting member
  was_harmed : has_member harmed member ≡ true → IsAwaited harmed waiting member

-- It is told by its members, in their order. Until proposer 0 crashes within it, each that told nothing is awaited.
pub record IsHeardOut (exchange : ExchangeView) (waiting : List Message) : Type 0 where
  pub tellers : tellers_of exchange.told ≡ exchange.members
  pub silent : exchange.crashed ≡ false → (place : ℕ) (one : Answered) → IsAt exchange.told place one → one.told ≡ None → IsAwaited exchange.harmed waiting one.acceptor

abbrev pub IsHearing : Option ExchangeView → List Message → Type 0
IsHearing None waiting = ⊤
IsHearing (Some exchange) waiting = IsHeardOut exchange waiting

-- so it is of the exchange that is open, if one is
abbrev pub IsAnswering : {S V : Type 0} → View S V → Type 0
IsAnswering view = IsHearing view.council.exchange (queue_at view.flow exchange_place).messages

-- ---- the laws
-- A cluster that opens is so, and whatever is called on one that is safe keeps it so.
pub record ClustersAnswer {S V : Type 0} (m : Meaning S V) : Type 0 where
  pub opening : (members : List ℕ) (view : View S V) → IsOpening m members view → IsAnswering view
  pub opening_on : (members used : List ℕ) (floors : List Opening) (view : View S V) → IsOpeningOn m members used floors view → IsAnswering view
  pub steps : (old : View S V) (event : Event) (new : View S V) → IsSafe old → IsAnswering old → Step m old event new → IsAnswering new

-- Once no frame of an exchange waits any more, those that told nothing are no more than those of which a frame was harmed.
abbrev pub SilentAreHarmed : Type 0 → Type 0 → Type 0
SilentAreHarmed S V = (view : View S V) (exchange : ExchangeView) → IsSafe view → IsAnswering view → view.council.exchange ≡ Some exchange → exchange.crashed ≡ false → (queue_at view.flow exchange_place).messages ≡ []
    → silent_in exchange.told ≤ length exchange.harmed
