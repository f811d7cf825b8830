-- That no member finds the request of a probe too old.
use Rattle.std.specs.Prelude.{◌≡◌, ⊤, ℕ, ◌≤◌, true, false, List, reverse, Some, None, Ok, Contains, Option}
use Rattle.cas_acceptor.specs.Acceptor.{AcceptorView}
use Rattle.cas_flow.specs.Flow.{FlowView, queue_at}
use Rattle.cas_flow.specs.declared.message.Message.{Message}
use Rattle.cas_flow.specs.declared.message.Message.TheVariants as message
use Rattle.cas_slot.specs.Ages.{least_age}
use Rattle.cas_slot.specs.Contents.{Contents}
use Rattle.cas_slot.specs.declared.message.Ask.{Ask}
use Rattle.cas_slot.specs.declared.message.Ask.TheVariants as ask
use Rattle.cas_proposer.specs.Desk.{DeskView}
use Rattle.cas_record.specs.declared.mark.Mark.{Mark}
use Rattle.cas_record.specs.declared.operator.Probe.{Probe as Answered}
use Rattle.cas_slot.specs.declared.message.Reply.{Reply}
use Rattle.cas_slot.specs.declared.message.Request.{Request}
use Rattle.cas_slot.specs.declared.message.Tell.{Tell}
use Rattle.cas_slot.specs.declared.message.Tell.TheVariants as tell
use Rattle.cas_slot.specs.declared.slot.Accepted.{Accepted}
use Rattle.cas_ballot.specs.declared.ballot.Ballot.{Ballot}
use Rattle.cas_protocol.specs.Acceptors.{IsAcceptedState}
use Rattle.cas_model.specs.Council.{Probe, ExchangeView, exchange_place}
use Rattle.cas_model.specs.History.{IsRemembered}
use Rattle.cas_model.specs.Parties.{IsAged}
use Rattle.cas_model.specs.Safe.{IsSafe}
use Rattle.cas_model.specs.Step.{Event, Step, IsOpening}
use Rattle.cas_model.specs.View.{ShelfMeaning, Meaning, View, IsAt}
use Rattle.cas_model_causes.specs.Exchanges.Probed.{IsProbing}

-- what an acceptor keeps, and whatever a crash leaves of it, asks proposer 0 for an age of which this holds
pub record AsksWithin {S : Type 0} (m : ShelfMeaning S) (P : ℕ → Type 0) (acceptor : AcceptorView S) : Type 0 where
  pub keeps : acceptor.down ≡ false → P (least_age (m.contents acceptor.shelf).ages 0)
  pub left : acceptor.started ≡ true → (left : Contents) → m.may_leave acceptor.shelf (Ok left) → P (least_age left.ages 0)

-- so does what new ages are told by a frame
abbrev pub TellsWithin : (ℕ → Type 0) → Ask → Type 0
TellsWithin P (ask.Ages tag least) = P (least_age least 0)
TellsWithin P other = ⊤

abbrev pub BearsWithin : (ℕ → Type 0) → Message → Type 0
BearsWithin P (message.Request request) = TellsWithin P request.ask
BearsWithin P (message.Reply reply) = ⊤

pub record FlowsWithin (P : ℕ → Type 0) (flow : FlowView) : Type 0 where
  pub own : (place : ℕ) (each : Message) → Contains (queue_at flow place).messages each → BearsWithin P each
  pub late : (each : Message) → Contains flow.late each → BearsWithin P each

-- each acceptor and each frame is so
pub record AreWithin {S V : Type 0} (m : Meaning S V) (P : ℕ → Type 0) (view : View S V) : Type 0 where
  pub acceptors : (id : ℕ) (acceptor : AcceptorView S) → IsAt view.acceptors id acceptor → AsksWithin m.shelves P acceptor
  pub flows : FlowsWithin P view.flow

-- ---- probes
-- it tells something else than that the request is too old
abbrev pub IsUnagedTell : Tell → Type 0
IsUnagedTell (tell.Aged least) = ⊥
IsUnagedTell other = ⊤

-- No acceptor asks for more than the age of its requests, nor does a frame that tells new ages; and nobody told that one is too old.
pub record IsOldEnough {S V : Type 0} (m : Meaning S V) (view : View S V) (exchange : ExchangeView) : Type 0 where
  pub age : ℕ
  pub within : AreWithin m (λ n. n ≤ age) view
  pub requests : (request : Request) → Contains (queue_at view.flow exchange_place).messages (message.Request request) → (request.from ≡ 0) × (request.age ≡ age)
  pub told : (place : ℕ) (one : Answered) (t : Tell) → IsAt exchange.told place one → one.told ≡ Some t → IsUnagedTell t
  pub replies : (reply : Reply) → Contains (queue_at view.flow exchange_place).messages (message.Reply reply) → IsUnagedTell reply.tell

-- No acceptor asks proposer 0 for more than the age that its vault keeps, wherever it stops; and a probe is old enough.
pub record IsUnaged {S V : Type 0} (m : Meaning S V) (view : View S V) : Type 0 where
  pub held : (desk : DeskView V) → IsAt view.desks 0 desk → AreWithin m (λ n. IsAged m.disks n desk.vault) view
  pub probes : (exchange : ExchangeView) (key : List ℕ) → view.council.exchange ≡ Some exchange → exchange.question ≡ Probe key → IsOldEnough m view exchange

-- ---- the law
-- Where shelves and disks tell what they keep, a cluster that opens with no floors is so, and any whose acceptors ask for no age, and in which
-- no exchange is open; and whatever is called on one that is safe keeps it so.
pub record ProbesAreUnaged {S V : Type 0} (m : Meaning S V) : Type 0 where
  pub opening : m.shelves.tells → (members : List ℕ) (view : View S V) → IsOpening m members view → IsUnaged m view
  pub afresh : (view : View S V) → AreWithin m (λ n. n ≡ 0) view → view.council.exchange ≡ None → IsUnaged m view
  pub steps : m.shelves.tells → m.disks.tells → (old : View S V) (event : Event) (new : View S V) → IsSafe old → IsRemembered m old → IsUnaged m old → Step m old event new → IsUnaged m new

-- what is told of the key is what is kept of it; and what was accepted is a state that was proposed, or that of the floor with which the key's
-- history opened
pub record IsToldSo (marks : List Mark) (key : List ℕ) (told : Tell) : Type 0 where
  pub promise : Ballot
  pub accepted : Option Accepted
  pub is : told ≡ tell.Probed promise accepted
  pub so : IsAcceptedState marks key accepted

-- each that told something told this
abbrev pub AreToldSo : List Mark → List ℕ → List Answered → Type 0
AreToldSo marks key answers = (place : ℕ) (one : Answered) (told : Tell) → IsAt answers place one → one.told ≡ Some told → IsToldSo marks key told

-- So it is of all that is told to a probe.
abbrev pub ProbesAreToldSo : {S V : Type 0} → Meaning S V → Type 0
ProbesAreToldSo {S} {V} m = (view : View S V) (exchange : ExchangeView) (key : List ℕ) → IsProbing view → IsUnaged m view → view.council.exchange ≡ Some exchange → exchange.question ≡ Probe key → AreToldSo (reverse view.marks) key exchange.told
