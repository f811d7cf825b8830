-- What the event lines of a script do to a world, and what they answer.
use Rattle.std.specs.Prelude.{◌≡◌, ◌+◌, ◌<◌, ◌≤◌, ⊤, ℕ, Bool, true, false, List, length, Option, None, Some, IsSome, Result, Ok, Err, slice_get}
use Rattle.cas_acceptor.specs.Acceptor.{AcceptorView}
use Rattle.cas_proposer.specs.Desk.{DeskView}
use Rattle.cas_lines.specs.declared.answer.EventAnswer.{EventAnswer}
use Rattle.cas_lines.specs.declared.answer.EventAnswer.TheVariants as event
use Rattle.cas_lines.specs.declared.answer.Shown.{Shown}
use Rattle.cas_lines.specs.declared.answer.Shown.TheVariants as shown
use Rattle.cas_slot.specs.Contents.{kept_at}
use Rattle.cas_slot.specs.declared.slot.Slot.{Slot}
use Rattle.cas_slot.specs.declared.fault.ShelfFault.{ShelfFault}
use Rattle.cas_slot.specs.declared.fault.ShelfFault.TheVariants as shelf_fault
use Rattle.cas_vault.specs.declared.error.VaultError.{VaultError}
use Rattle.cas_vault.specs.declared.error.VaultError.TheVariants as vault_error
use Rattle.cas_model.specs.Step.{Step, Stray, RefuseStray, CrashAcceptor, RestartAcceptor, RestartProposer}
use Rattle.cas_model.specs.Calls.Step.{most_marks}
use Rattle.cas_model.specs.View.{Meaning, View, IsAt, reserved_in_all}
use Rattle.cas_world.specs.Readers.{up_in}
use Rattle.cas_world.specs.Stops.Restarting.{TellsOfAcceptor, TellsOfDesk}

-- whether the acceptor is up, where it is or was a member
abbrev pub is_up : {S V : Type 0} → View S V → ℕ → Option Bool
is_up view id = up_in view.council.used id (slice_get view.acceptors id)

-- ---- acceptors
-- one that is no member is absent
pub data CrashesAcceptor {S V : Type 0} (m : Meaning S V) (old : View S V) (id : ℕ) : EventAnswer → View S V → Type 0 where
  absent : is_up old id ≡ None → CrashesAcceptor m old id event.Absent old
  crashes : {new : View S V} → IsSome (is_up old id) → Step m old (CrashAcceptor id) new → CrashesAcceptor m old id event.Ok new

-- what is answered to a restart of a shelf, and of a vault
abbrev pub shelf_answer : Result ⊤ ShelfFault → EventAnswer
shelf_answer (Ok done) = event.Ok
shelf_answer (Err shelf_fault.DiskFault) = event.Fault
shelf_answer (Err shelf_fault.Full) = event.NoMemory
shelf_answer (Err (shelf_fault.Foreign at)) = event.Foreign at
shelf_answer (Err shelf_fault.NoMemory) = event.NoMemory

abbrev pub vault_answer : Result ⊤ VaultError → EventAnswer
vault_answer (Ok done) = event.Ok
vault_answer (Err vault_error.VaultFault) = event.Fault
vault_answer (Err vault_error.Spent) = event.NoMemory
vault_answer (Err (vault_error.Foreign at)) = event.Foreign at
vault_answer (Err vault_error.NoMemory) = event.NoMemory

pub data RestartsAcceptor {S V : Type 0} (m : Meaning S V) (old : View S V) (id : ℕ) : EventAnswer → View S V → Type 0 where
  absent : is_up old id ≡ None → RestartsAcceptor m old id event.Absent old
  restarts : {new : View S V} (result : Result ⊤ ShelfFault) → IsSome (is_up old id) → Step m old (RestartAcceptor id) new
      → ((was now : AcceptorView S) → IsAt old.acceptors id was → IsAt new.acceptors id now → TellsOfAcceptor m.shelves was now result) → RestartsAcceptor m old id (shelf_answer result) new

-- ---- proposers
pub data RestartsProposer {S V : Type 0} (m : Meaning S V) (old : View S V) (id : ℕ) : EventAnswer → View S V → Type 0 where
  restarts : {new : View S V} (result : Result ⊤ VaultError) → Step m old (RestartProposer id) new
      → ((was now : DeskView V) → IsAt old.desks id was → IsAt new.desks id now → TellsOfDesk m.disks was now result) → RestartsProposer m old id (vault_answer result) new

-- ---- late frames
-- the late frame of that place strays in: there is none, the record is full, or there was no memory
pub data AnswersStray {S V : Type 0} (m : Meaning S V) (old : View S V) (index : ℕ) : EventAnswer → View S V → Type 0 where
  absent : length old.flow.late ≤ index → AnswersStray m old index event.Absent old
  strays : {new : View S V} → Step m old (Stray index) new → AnswersStray m old index event.Ok new
  full : index < length old.flow.late → length old.marks + reserved_in_all old ≡ most_marks → AnswersStray m old index event.RecordFull old
  no_memory : {new : View S V} → index < length old.flow.late → Step m old RefuseStray new → AnswersStray m old index event.NoMemory new

-- ---- slots
abbrev pub shown_of : Option Slot → Shown
shown_of None = shown.Nothing
shown_of (Some slot) = shown.Kept slot

-- what the acceptor keeps for the key, if it is up
pub data IsShownSlot {S V : Type 0} (m : Meaning S V) (view : View S V) (id : ℕ) (key : List ℕ) : Shown → Type 0 where
  absent : is_up view id ≡ None → IsShownSlot m view id key shown.Nothing
  down : is_up view id ≡ Some false → IsShownSlot m view id key shown.Down
  keeps : is_up view id ≡ Some true → (acceptor : AcceptorView S) → IsAt view.acceptors id acceptor → IsShownSlot m view id key (shown_of (kept_at (m.shelves.contents acceptor.shelf) key))
