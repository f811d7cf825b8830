-- What a round proposes.
use Rattle.std.specs.Prelude.{◌≡◌, ℕ, false, List, Option, Some, IfSome}
use Rattle.cas_ballot.specs.declared.ballot.Ballot.{Ballot}
use Rattle.cas_ballot.specs.Ballot.{FitsBallot}
use Rattle.cas_cache.specs.declared.ready.Ready.{Ready}
use Rattle.cas_change.specs.declared.program.Clause.{Clause}
use Rattle.cas_change.specs.declared.state.State.{State}
use Rattle.cas_change.specs.Outcome.{outcome_of}
use Rattle.cas_cache.specs.Entries.{without}
use Rattle.cas_proposer.specs.Desk.{DeskView}
use Rattle.cas_proposer.specs.declared.round.Round.{Round}
use Rattle.cas_record.specs.declared.answer.Answer.{Answer}
use Rattle.cas_record.specs.declared.answer.Answer.TheVariants as answer
use Rattle.cas_flow.specs.Flow.{FlowView}
use Rattle.cas_quorum.specs.declared.era.Era.{Era}
use Rattle.cas_vault.specs.Vault.{counter_of, kept_of}
use Rattle.cas_model.specs.Parties.{IsAged}
use Rattle.cas_model.specs.Calls.Step.{Sends, accepts_to}
use Rattle.cas_model.specs.Calls.Desks.{IsRideDue, MayHaveDrawn, FailsToDraw, LosesMemory}
use Rattle.cas_model.specs.View.{DiskMeaning}
use Rattle.cas_record.specs.declared.mark.Mark.TheVariants.{Proposed}
use Rattle.cas_world_calls.specs.declared.proposal.Author.{Author}
use Rattle.cas_world_calls.specs.declared.proposal.Copies.{Copies}
use Rattle.cas_world_calls.specs.declared.proposal.Proposing.{Proposing}

-- the copies of a key and a state
abbrev pub copies_of : List ℕ → State → Copies
copies_of key state = record { key = key; told = state; answer = state; kept = state }

-- the proposal of what the program makes of the state that stands ready, with its mark
abbrev pub proposing_of : Author → List ℕ → ℕ → List Clause → Ready → Proposing
proposing_of author key era program ready = record {
  outcome = outcome_of program ready.state;
  copies = copies_of key (outcome_of program ready.state).state;
  mark = Proposed (record { caller = author.caller; call = author.call; key = key; ballot = ready.ballot; read = ready.read; era = era; prepared_by = ready.by });
}

-- the ballot that rides with the accepts of the open round is drawn, or there is none; its vault keeps the age, wherever it stops
pub record RidesOn {V : Type 0} (m : DiskMeaning V) (round : Round) (old new : DeskView V) (ride : Option Ballot) : Type 0 where
  pub due : IsRideDue old.id (counter_of old.vault) ride
  pub drawn : MayHaveDrawn m old.id old.vault new.vault ride
  pub aged : m.tells → IsAged m (kept_of old.vault).age new.vault
  pub desk : new ≡ record old { vault = new.vault; round = Some (record round { ride = ride }) }
  pub fits : IfSome ride FitsBallot

-- and each member that accepts is asked to, at the age of the desk
pub record ProposesOn {V : Type 0} (m : DiskMeaning V) (round : Round) (old new : DeskView V) (caller : ℕ) (key : List ℕ) (era : Era) (state : State) (ballot : Ballot) (before after : FlowView) : Type 0 where
  pub ride : Option Ballot
  pub rides : RidesOn m round old new ride
  pub sends : Sends before caller (accepts_to caller (kept_of old.vault).age key ballot era.number ride state era.acc) after

-- why a round of the key ends before it proposes
abbrev pub FailsToPropose : {V : Type 0} → DiskMeaning V → List ℕ → DeskView V → DeskView V → Answer → Type 0
FailsToPropose m key old new answer.VaultFault = FailsToDraw m (without key old.cache) old new
FailsToPropose m key old new (answer.NoMemory proposed) = (proposed ≡ false) × (ballot : Option Ballot) × LosesMemory m key old new ballot
FailsToPropose m key old new other = ⊥
