-- That what members tell of a key is current: it is at or above each ballot of it that was acknowledged when they were asked, and that they had
-- confirmed, until a floor of the key is.
use Rattle.std.specs.Prelude.{◌≡◌, ⊤, ℕ, ◌≤◌, true, List, length, reverse, take, Some, Contains}
use Rattle.cas_ballot.specs.Ballot.{BallotAtMost}
use Rattle.cas_ballot.specs.Members.{has_member}
use Rattle.cas_flow.specs.Flow.{queue_at}
use Rattle.cas_flow.specs.declared.message.Message.TheVariants as message
use Rattle.cas_record.specs.Logs.Orderly.{IsAboveFloors}
use Rattle.cas_record.specs.declared.mark.Acknowledgment.{Acknowledgment}
use Rattle.cas_record.specs.declared.mark.Mark.{Mark}
use Rattle.cas_record.specs.declared.mark.Mark.TheVariants.{Acked}
use Rattle.cas_record.specs.declared.operator.Probe.{Probe as Answered}
use Rattle.cas_slot.specs.Slot.{accepted_ballot}
use Rattle.cas_slot.specs.declared.message.Reply.{Reply}
use Rattle.cas_slot.specs.declared.message.Tell.{Tell}
use Rattle.cas_slot.specs.declared.message.Tell.TheVariants as tell
use Rattle.cas_model.specs.Council.{Probe, ExchangeView, exchange_place}
use Rattle.cas_model.specs.History.{IsRemembered}
use Rattle.cas_model.specs.Openings.{Opening, IsOpeningOn}
use Rattle.cas_model.specs.Safe.{IsSafe}
use Rattle.cas_model.specs.Step.{Event, Step, IsOpening}
use Rattle.cas_model.specs.View.{Meaning, View, IsAt}

-- ---- what is told
-- What the acceptor tells of the key is at or above each ballot of the key that was acknowledged among these marks, that the acceptor confirmed,
-- and that is above the floors of the key in all marks, which are read newest first.
abbrev pub IsCurrentTell : List Mark → List Mark → List ℕ → ℕ → Tell → Type 0
IsCurrentTell all among key acceptor (tell.Probed promise accepted) =
    (a : Acknowledgment) → Contains among (Acked a) → a.key ≡ key → has_member a.by acceptor ≡ true → IsAboveFloors all key a.ballot → BallotAtMost a.ballot (accepted_ballot accepted)
IsCurrentTell all among key acceptor other = ⊤

-- each that told something told this
abbrev pub AreCurrentTells : List Mark → List Mark → List ℕ → List Answered → Type 0
AreCurrentTells all among key answers = (place : ℕ) (one : Answered) (told : Tell) → IsAt answers place one → one.told ≡ Some told → IsCurrentTell all among key one.acceptor told

-- and so does each reply that waits, by the marks that had been made when the members were asked
pub record IsCurrent {S V : Type 0} (view : View S V) (exchange : ExchangeView) (key : List ℕ) : Type 0 where
  pub since : exchange.since ≤ length view.marks
  pub told : AreCurrentTells (reverse view.marks) (take exchange.since view.marks) key exchange.told
  pub replies : (reply : Reply) → Contains (queue_at view.flow exchange_place).messages (message.Reply reply) → IsCurrentTell (reverse view.marks) (take exchange.since view.marks) key reply.from reply.tell

-- so it is of an exchange that asks what is kept of a key
abbrev pub AreProbesCurrent : {S V : Type 0} → View S V → Type 0
AreProbesCurrent view = (exchange : ExchangeView) (key : List ℕ) → view.council.exchange ≡ Some exchange → exchange.question ≡ Probe key → IsCurrent view exchange key

-- ---- the law
-- Where shelves and disks tell what they keep, a cluster that opens is so, and whatever is called on it keeps it so.
pub record ProbesAreCurrent {S V : Type 0} (m : Meaning S V) : Type 0 where
  pub opening : (members : List ℕ) (view : View S V) → IsOpening m members view → AreProbesCurrent view
  pub opening_on : (members used : List ℕ) (floors : List Opening) (view : View S V) → IsOpeningOn m members used floors view → AreProbesCurrent view
  pub steps : m.shelves.tells → m.disks.tells → (old : View S V) (event : Event) (new : View S V) → IsSafe old → IsRemembered m old → AreProbesCurrent old → Step m old event new → AreProbesCurrent new
