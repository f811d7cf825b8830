-- A line without a fault.
use Rattle.std.specs.Prelude.{ℕ}
use Rattle.cas_base.specs.Faults.{Rose}
use Rattle.cas_acceptor.specs.Acceptor.{AcceptorView}
use Rattle.cas_lines.specs.Command.{AskedChange}
use Rattle.cas_proposer.specs.Desk.{DeskView}
use Rattle.cas_quorum.specs.declared.era.Era.{Era}
use Rattle.cas_record.specs.declared.answer.Answer.{Answer}
use Rattle.cas_vault.specs.Vault.{disk_of}
use Rattle.cas_model.specs.View.{Meaning, View, IsAt}
use Rattle.casreg_script.specs.Script.{State, RunsChange, nowhere}
use Rattle.casreg_progress.specs.Lines.{IsMemberOf, AreUp}

-- no count of faults rose: not that of a shelf of a member of the era, nor that of the disk of the proposer's vault
pub record HasNoFault {S V : Type 0} (m : Meaning S V) (era : Era) (old new : View S V) (id : ℕ) : Type 0 where
  pub shelves : (member : ℕ) → IsMemberOf era member → (was now : AcceptorView S) → IsAt old.acceptors member was → IsAt new.acceptors member now → Rose (m.shelves.faults was.shelf) (m.shelves.faults now.shelf) → ⊥
  pub vault : (was now : DeskView V) → IsAt old.desks id was → IsAt new.desks id now → Rose (m.disks.faults (disk_of was.vault)) (m.disks.faults (disk_of now.vault)) → ⊥

-- A line without a fault, whose proposer is to halt nowhere, leaves up who was up: whatever its change is answered.
abbrev pub FaultlessLinesStayUp : {S V : Type 0} → Meaning S V → Type 0
FaultlessLinesStayUp {S} {V} m = (tries : ℕ) (era : Era) (old new : State S V) (asked : AskedChange) (answer : Answer) → IsAt old.halts asked.caller nowhere → AreUp era old.world asked.caller → RunsChange m tries old asked answer new → HasNoFault m era old.world new.world asked.caller → AreUp era new.world asked.caller
