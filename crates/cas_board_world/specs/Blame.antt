-- Whom marks and answers blame for what they tell, and that who is blamed has failed.
use Rattle.std.specs.Prelude.{◌≡◌, ⊤, ℕ, ◌<◌, true, List, Some, slice_get, All}
use Rattle.cas_record.specs.declared.answer.Answer.{Answer}
use Rattle.cas_record.specs.declared.answer.Answer.TheVariants as answer
use Rattle.cas_record.specs.declared.answer.Cause.TheVariants as cause
use Rattle.cas_record.specs.declared.mark.Mark.{Mark}
use Rattle.cas_record.specs.declared.mark.Mark.TheVariants.{Ended, Harmed, Told}
use Rattle.cas_record.specs.declared.operator.OpAnswer.{OpAnswer}
use Rattle.cas_record.specs.declared.operator.OpAnswer.TheVariants as told

-- the disk that is to have failed: none, that of some acceptor, or that of the vault of this proposer
pub data Blame : Type 0 where
  Nobody : Blame
  SomeAcceptor : Blame
  VaultOf : (proposer : ℕ) → Blame

-- whom an answer to a caller blames: its proposer's vault, where the proposer is told to be down, or to have failed
abbrev pub blame_by_answer : ℕ → Answer → Blame
blame_by_answer caller answer.Down = VaultOf caller
blame_by_answer caller answer.VaultFault = VaultOf caller
blame_by_answer caller answer.Crashed = VaultOf caller
blame_by_answer caller (answer.Unsettled cause.Crashed) = VaultOf caller
blame_by_answer caller other = Nobody

-- whom one to the operator blames; what stopped it was proposer 0
abbrev pub blame_by_op : OpAnswer → Blame
blame_by_op (told.ProposerDown proposer) = VaultOf proposer
blame_by_op (told.Stopped answer) = blame_by_answer 0 answer
blame_by_op other = Nobody

-- whom a mark blames; one of a frame that found its acceptor down, or brought it down, blames that acceptor, whom it does not name
abbrev pub blame_by : Mark → Blame
blame_by (Ended caller call rounds answer) = blame_by_answer caller answer
blame_by (Harmed caller call true) = SomeAcceptor
blame_by (Told asked answer) = blame_by_op answer
blame_by other = Nobody

-- at that place is one whose count of faults is above 0
pub record HasFailedAt {A : Type 0} (faults : A → ℕ) (all : List A) (place : ℕ) : Type 0 where
  pub one : A
  pub at : slice_get all place ≡ Some one
  pub failed : 0 < faults one

-- who is blamed has failed, by these counts of faults
abbrev pub IsDeserved : {A B : Type 0} → (A → ℕ) → (B → ℕ) → List A → List B → Blame → Type 0
IsDeserved acceptor_faults vault_faults acceptors vaults Nobody = ⊤
IsDeserved acceptor_faults vault_faults acceptors vaults SomeAcceptor = (id : ℕ) × HasFailedAt acceptor_faults acceptors id
IsDeserved acceptor_faults vault_faults acceptors vaults (VaultOf proposer) = HasFailedAt vault_faults vaults proposer

-- so has each whom one of the marks blames, by the disks of the acceptors and of the vaults
abbrev pub AreDeserved : {D : Type 0} → (D → ℕ) → List D → List D → List Mark → Type 0
AreDeserved faults acceptors vaults marks = All (λ mark. IsDeserved faults faults acceptors vaults (blame_by mark)) marks
