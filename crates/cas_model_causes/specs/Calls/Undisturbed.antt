-- What leaves a round undisturbed, and how such a round ends.
use Rattle.std.specs.Prelude.{◌≡◌, ◌⊎◌, ◌≤◌, ⊤, ℕ, true, false, List, [], None, Some}
use Rattle.cas_base.specs.Faults.{Rose}
use Rattle.cas_ballot.specs.Ballot.{BallotAtMost}
use Rattle.cas_ballot.specs.Members.{has_member}
use Rattle.cas_change.specs.declared.outcome.Outcome.{Outcome}
use Rattle.cas_change.specs.declared.program.Clause.{Clause}
use Rattle.cas_flow.specs.Flow.{queue_at}
use Rattle.cas_flow.specs.Message.{head_of}
use Rattle.cas_flow.specs.Queue.{fall_of}
use Rattle.cas_flow.specs.declared.fall.Fall.TheVariants.{Handle, Gone}
use Rattle.cas_flow.specs.declared.message.Message.{Message}
use Rattle.cas_flow.specs.declared.message.Message.TheVariants as message
use Rattle.cas_acceptor.specs.Acceptor.{AcceptorView}
use Rattle.cas_proposer.specs.declared.round.Round.{Round}
use Rattle.cas_quorum.specs.Era.{holds_prep, holds_acc}
use Rattle.cas_record.specs.declared.answer.Answer.TheVariants as answer
use Rattle.cas_slot.specs.Ages.{least_age}
use Rattle.cas_slot.specs.Contents.{Contents}
use Rattle.cas_slot.specs.Slots.{IsFullFor}
use Rattle.cas_slot.specs.Table.{seen_at, IsRepeat}
use Rattle.cas_slot.specs.declared.message.Ask.{Ask}
use Rattle.cas_slot.specs.declared.message.Ask.TheVariants as ask
use Rattle.cas_slot.specs.declared.message.Reply.{Reply}
use Rattle.cas_slot.specs.declared.message.Request.{Request}
use Rattle.cas_model.specs.Safe.{IsSafe}
use Rattle.cas_model.specs.Step.{Event, Begin, Turn, Propose, Count, Step}
use Rattle.cas_model.specs.Calls.Step.{prepares_to, accepts_to}
use Rattle.cas_model.specs.View.{Meaning, View, CallView, CallerView, IsAt}
use Rattle.cas_model_causes.specs.Calls.Causes.{CallIsTold}
use Rattle.cas_model_causes.specs.Calls.Told.{HasFaulted}
use Rattle.cas_model_causes.specs.Calls.Rounds.{RoundSteps, none, one_more, PreparesWith, AcceptsWith}

-- ---- what disturbs no round
-- Nothing that is kept for the key stands against a question: no greater ballot was seen, or just its own was accepted; and there is room.
abbrev pub LetsPass : Contents → Ask → Type 0
LetsPass kept (ask.Prepare key ballot) = BallotAtMost (seen_at kept key) ballot × (IsFullFor kept.slots key → ⊥)
LetsPass kept (ask.Accept key ballot era ride state) = IsRepeat kept key ballot ⊎ (BallotAtMost (seen_at kept key) ballot × (IsFullFor kept.slots key → ⊥))
LetsPass kept other = ⊤

-- its acceptor is up, keeps no greater age of the proposer, lets it pass, and its shelf has no fault
pub record IsHandledWell {S V : Type 0} (m : Meaning S V) (old new : View S V) (request : Request) : Type 0 where
  pub acceptor : AcceptorView S
  pub at_acceptor : IsAt old.acceptors request.to acceptor
  pub up : acceptor.down ≡ false
  pub age : least_age (m.shelves.contents acceptor.shelf).ages request.from ≤ request.age
  pub passes : LetsPass (m.shelves.contents acceptor.shelf) request.ask
  pub now : AcceptorView S
  pub at_now : IsAt new.acceptors request.to now
  pub no_fault : Rose (m.shelves.faults acceptor.shelf) (m.shelves.faults now.shelf) → ⊥

-- a frame is handled well; a reply always is
abbrev pub GoesWell : {S V : Type 0} → Meaning S V → View S V → View S V → Message → Type 0
GoesWell m old new (message.Request request) = IsHandledWell m old new request
GoesWell m old new (message.Reply reply) = ⊤

-- A step leaves the round of the proposer undisturbed with these acceptors: a frame of its own to or from one of them that has its turn
-- is neither lost nor late, and where it is handled, that goes well. A frame that is held, or finds no memory, waits on.
abbrev pub IsUndisturbedBy : {S V : Type 0} → Meaning S V → ℕ → List ℕ → View S V → Event → View S V → Type 0
IsUndisturbedBy m id set old (Turn proposer verdict) new =
    proposer ≡ id → (front : Message) → IsAt (queue_at old.flow id).messages 0 front → has_member set (head_of front).1 ≡ true
    → (fall_of (queue_at old.flow id).again verdict ≡ Gone → ⊥) × (fall_of (queue_at old.flow id).again verdict ≡ Handle → GoesWell m old new front)
IsUndisturbedBy m id set old other new = ⊤

-- so does each of these steps
abbrev pub AreUndisturbed : {S V : Type 0} (m : Meaning S V) (id : ℕ) (set : List ℕ) (first mid : View S V) (replies : List Reply) → RoundSteps m id first replies mid → Type 0
AreUndisturbed m id set first mid replies none = ⊤
AreUndisturbed m id set first mid replies (one_more {before = before} {mid = middle} event steps not_own by brings) = AreUndisturbed m id set first middle before steps × IsUndisturbedBy m id set middle event mid

-- ---- phases that have just begun
-- the caller's open call proposed this
pub record CallHasProposed (callers : List CallerView) (id : ℕ) (outcome : Outcome) : Type 0 where
  pub caller : CallerView
  pub at_caller : IsAt callers id caller
  pub call : CallView
  pub is_open : caller.call ≡ Some call
  pub proposed : call.proposed ≡ Some outcome

-- no reply arrived yet; each member that prepares is asked to, and nothing else waits
pub record PreparesAfresh {S V : Type 0} (view : View S V) (id : ℕ) (round : Round) : Type 0 where
  pub prepares : PreparesWith view.desks id [] round
  pub age : ℕ
  pub waits : (queue_at view.flow id).messages ≡ prepares_to id age round.key round.ballot round.era.prep

-- likewise, for what the caller's call proposed
pub record AcceptsAfresh {S V : Type 0} (view : View S V) (id : ℕ) (prepared : List Reply) (round : Round) (outcome : Outcome) : Type 0 where
  pub accepts : AcceptsWith view.desks id prepared [] round
  pub proposed : CallHasProposed view.callers id outcome
  pub age : ℕ
  pub waits : (queue_at view.flow id).messages ≡ accepts_to id age round.key round.ballot round.era.number round.ride outcome.state round.era.acc

-- a round that begins asks the members of its phase
pub record BeginsToAsk {S V : Type 0} (new : View S V) (id : ℕ) : Type 0 where
  pub prepares : (round : Round) → PreparesWith new.desks id [] round → PreparesAfresh new id round
  pub accepts : (round : Round) → AcceptsWith new.desks id [] [] round → (outcome : Outcome) × AcceptsAfresh new id [] round outcome

abbrev pub RoundsBeginToAsk : {S V : Type 0} → Meaning S V → Type 0
RoundsBeginToAsk {S} {V} m = (old new : View S V) (id : ℕ) (key : List ℕ) (program : List Clause) → IsSafe old → Step m old (Begin id key program) new → BeginsToAsk new id

-- ---- the prepare phase
-- It proposes: the round goes on at its ballot with an accept phase that has just begun. Else its vault failed in this very step, or no
-- memory was found.
pub data ProposesUndisturbed {S V : Type 0} (m : Meaning S V) (old new : View S V) (id : ℕ) (replies : List Reply) (round : Round) : Type 0 where
  proposes : (turned : Round) (outcome : Outcome) → turned ≡ record round { phase = turned.phase; met = turned.met; ride = turned.ride } → AcceptsAfresh new id replies turned outcome → CallIsTold new id None
      → ProposesUndisturbed m old new id replies round
  vault_fails : HasFaulted m.disks old new id → CallIsTold new id (Some answer.VaultFault) → ProposesUndisturbed m old new id replies round
  no_memory : CallIsTold new id (Some (answer.NoMemory false)) → ProposesUndisturbed m old new id replies round

-- A prepare phase that a prepare quorum answers, and nothing disturbs with it, proposes.
abbrev pub UndisturbedPreparesPropose : {S V : Type 0} → Meaning S V → Type 0
UndisturbedPreparesPropose {S} {V} m = (first mid new : View S V) (id : ℕ) (set : List ℕ) (replies : List Reply) (round : Round) (steps : RoundSteps m id first replies mid) → IsSafe first → PreparesAfresh first id round
    → holds_prep round.era set ≡ true → AreUndisturbed m id set first mid replies steps → Step m mid (Propose id) new → ProposesUndisturbed m mid new id replies round

-- ---- the accept phase
-- An accept phase that an accept quorum answers, and nothing disturbs with it, is done: with what its call proposed, at its ballot.
abbrev pub UndisturbedAcceptsAreDone : {S V : Type 0} → Meaning S V → Type 0
UndisturbedAcceptsAreDone {S} {V} m = (first mid new : View S V) (id : ℕ) (set : List ℕ) (prepared replies : List Reply) (round : Round) (outcome : Outcome) (steps : RoundSteps m id first replies mid) → IsSafe first → AcceptsAfresh first id prepared round outcome
    → holds_acc round.era set ≡ true → AreUndisturbed m id set first mid replies steps → Step m mid (Count id) new → CallIsTold new id (Some (answer.Done outcome.state outcome.took round.ballot))

-- ---- the round
-- A round that begins to prepare, proposes and is counted, and that nothing disturbs with a quorum in each phase, is done.
abbrev pub UndisturbedRoundsAreDone : {S V : Type 0} → Meaning S V → Type 0
UndisturbedRoundsAreDone {S} {V} m = (old first mid turned last new : View S V) (id : ℕ) (key : List ℕ) (program : List Clause) (promising accepting : List ℕ) (promised accepted : List Reply) (round : Round)
    (to_prepare : RoundSteps m id first promised mid) (to_accept : RoundSteps m id turned accepted last) → IsSafe old → holds_prep round.era promising ≡ true → holds_acc round.era accepting ≡ true
    → Step m old (Begin id key program) first → PreparesWith first.desks id [] round → AreUndisturbed m id promising first mid promised to_prepare → Step m mid (Propose id) turned → CallIsTold turned id None
    → AreUndisturbed m id accepting turned last accepted to_accept → Step m last (Count id) new
    → (outcome : Outcome) × CallHasProposed turned.callers id outcome × CallIsTold new id (Some (answer.Done outcome.state outcome.took round.ballot))
