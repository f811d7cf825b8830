-- That what members tell of a key is so: what they accepted of it was proposed, or is the floor with which its history opened.
use Rattle.std.specs.Prelude.{◌≡◌, ⊤, ℕ, List, reverse, Some, Contains}
use Rattle.cas_flow.specs.Flow.{queue_at}
use Rattle.cas_flow.specs.declared.message.Message.{Message}
use Rattle.cas_flow.specs.declared.message.Message.TheVariants as message
use Rattle.cas_record.specs.declared.mark.Mark.{Mark}
use Rattle.cas_record.specs.declared.operator.Probe.{Probe as Answered}
use Rattle.cas_slot.specs.declared.message.Reply.{Reply}
use Rattle.cas_slot.specs.declared.message.Tell.{Tell}
use Rattle.cas_slot.specs.declared.message.Tell.TheVariants as tell
use Rattle.cas_protocol.specs.Acceptors.{IsAcceptedState}
use Rattle.cas_model.specs.Council.{Probe, ExchangeView, exchange_place}
use Rattle.cas_model.specs.History.{IsRemembered}
use Rattle.cas_model.specs.Openings.{Opening, IsOpeningOn}
use Rattle.cas_model.specs.Safe.{IsSafe}
use Rattle.cas_model.specs.Step.{Event, Step, IsOpening}
use Rattle.cas_model.specs.View.{Meaning, View, IsAt}

-- ---- what is told
-- what is kept of the key, of which what was accepted is so by these marks; or that the request is too old
abbrev pub IsToldOf : List Mark → List ℕ → Tell → Type 0
IsToldOf marks key (tell.Probed promise accepted) = IsAcceptedState marks key accepted
IsToldOf marks key (tell.Aged least) = ⊤
IsToldOf marks key other = ⊥

-- each that told something told this
abbrev pub AreToldOf : List Mark → List ℕ → List Answered → Type 0
AreToldOf marks key answers = (place : ℕ) (one : Answered) (told : Tell) → IsAt answers place one → one.told ≡ Some told → IsToldOf marks key told

-- and so does each reply that waits
pub record IsProbeTold (marks : List Mark) (key : List ℕ) (answers : List Answered) (waiting : List Message) : Type 0 where
  pub told : AreToldOf marks key answers
  pub replies : (reply : Reply) → Contains waiting (message.Reply reply) → IsToldOf marks key reply.tell

-- so it is of an exchange that asks what is kept of a key
abbrev pub IsProbing : {S V : Type 0} → View S V → Type 0
IsProbing view = (exchange : ExchangeView) (key : List ℕ) → view.council.exchange ≡ Some exchange → exchange.question ≡ Probe key → IsProbeTold (reverse view.marks) key exchange.told (queue_at view.flow exchange_place).messages

-- ---- the law
-- Where shelves and disks tell what they keep, a cluster that opens is so, and whatever is called on it keeps it so.
pub record ProbesTellSo {S V : Type 0} (m : Meaning S V) : Type 0 where
  pub opening : (members : List ℕ) (view : View S V) → IsOpening m members view → IsProbing view
  pub opening_on : (members used : List ℕ) (floors : List Opening) (view : View S V) → IsOpeningOn m members used floors view → IsProbing view
  pub steps : m.shelves.tells → m.disks.tells → (old : View S V) (event : Event) (new : View S V) → IsSafe old → IsRemembered m old → IsProbing old → Step m old event new → IsProbing new
