-- What a cluster is seen as: its acceptors and desks, the calls of its callers, the frames under way, and the marks. Shelves and vaults
-- are seen as they are, and what they mean is said apart.
use Rattle.std.specs.Prelude.{◌+◌, ◌∷◌, ℕ, List, [], ◌++◌, Bool, false, Option, None, Some, slice_get, slice_set, slice_index_or, ◌≡◌}
use Rattle.cas_change.specs.declared.program.Clause.{Clause}
use Rattle.cas_change.specs.declared.outcome.Outcome.{Outcome}
use Rattle.cas_quorum.specs.declared.era.Era.{Era}
use Rattle.cas_quorum.specs.Era.{majority_era}
use Rattle.cas_slot.specs.Contents.{Contents}
use Rattle.cas_slot.specs.Shelf.{Left}
use Rattle.cas_slot.specs.declared.shelf.Shelf.{Ghosts as ShelfKind}
use Rattle.cas_disk.specs.declared.disk.Disk.{Ghosts as DiskKind}
use Rattle.cas_acceptor.specs.Acceptor.{AcceptorView}
use Rattle.cas_proposer.specs.Desk.{DeskView}
use Rattle.cas_flow.specs.Flow.{FlowView}
use Rattle.cas_record.specs.declared.answer.Answer.{Answer}
use Rattle.cas_record.specs.declared.mark.Mark.{Mark}
use Rattle.cas_model.specs.Council.{Council, reserved_by}

-- ---- what disks mean
-- what a shelf holds, what a crash may leave of it, where shelves tell that, and its count of faults
pub record ShelfMeaning (S : Type 0) : Type 1 where
  pub contents : S → Contents
  pub tells : Type 0
  pub may_leave : S → Left → Type 0
  pub faults : S → ℕ

-- what a crash may leave of the disk of a vault, where disks tell that, and its count of faults
pub record DiskMeaning (V : Type 0) : Type 1 where
  pub tells : Type 0
  pub may_leave : V → List ℕ → Type 0
  pub faults : V → ℕ

pub record Meaning (S V : Type 0) : Type 1 where
  pub shelves : ShelfMeaning S
  pub disks : DiskMeaning V

-- ---- callers
-- a call that has begun and was not ended
pub record CallView : Type 0 where
  pub key : List ℕ
  pub program : List Clause
  pub rounds : ℕ
  -- how many marks are reserved for it still
  pub reserved : ℕ
  -- what was proposed, once something was
  pub proposed : Option Outcome
  -- the acceptors of which a frame was harmed in the open phase
  pub harmed : List ℕ
  -- what its last step told the caller, and whether its round was closed by another
  pub told : Option Answer
  pub is_closed : Bool

-- how many calls it began, and the one that is open
pub record CallerView : Type 0 where
  pub number : ℕ
  pub call : Option CallView

abbrev pub new_caller : CallerView
new_caller = record { number = 0; call = None }

-- a call whose first round begins, with so many marks reserved
abbrev pub new_call : List ℕ → List Clause → ℕ → CallView
new_call key program reserved = record { key = key; program = program; rounds = 1; reserved = reserved; proposed = None; harmed = []; told = None; is_closed = false }

-- how many marks are reserved for the callers' calls
abbrev pub reserved_in : Option CallView → ℕ
reserved_in None = 0
reserved_in (Some call) = call.reserved

abbrev pub reserved_of : List CallerView → ℕ
reserved_of [] = 0
reserved_of (caller ∷ callers) = reserved_in caller.call + reserved_of callers

-- ---- the whole
pub record View (S V : Type 0) : Type 0 where
  -- the greatest number of a proposer
  pub last_proposer : ℕ
  -- the era in which each proposer works, at the place of its number
  pub eras : List Era
  -- each at the place of its number
  pub acceptors : List (AcceptorView S)
  pub desks : List (DeskView V)
  pub callers : List CallerView
  -- what the operator has under way
  pub council : Council
  pub flow : FlowView
  -- in the order in which they were made
  pub marks : List Mark

-- how many marks are reserved in all
abbrev pub reserved_in_all : {S V : Type 0} → View S V → ℕ
reserved_in_all view = reserved_of view.callers + reserved_by view.council

-- ---- parts of it
-- the era in which a proposer works; a number that no proposer has is in one without members
abbrev pub era_in : List Era → ℕ → Era
era_in eras id = slice_index_or eras id (majority_era 0 [])

abbrev pub era_at : {S V : Type 0} → View S V → ℕ → Era
era_at view id = era_in view.eras id

abbrev pub with_acceptor : {S V : Type 0} → View S V → ℕ → AcceptorView S → View S V
with_acceptor view id acceptor = record view { acceptors = slice_set view.acceptors id acceptor }

abbrev pub with_desk : {S V : Type 0} → View S V → ℕ → DeskView V → View S V
with_desk view proposer desk = record view { desks = slice_set view.desks proposer desk }

abbrev pub with_caller : {S V : Type 0} → View S V → ℕ → CallerView → View S V
with_caller view caller new = record view { callers = slice_set view.callers caller new }

abbrev pub with_marks : {S V : Type 0} → View S V → List Mark → View S V
with_marks view marks = record view { marks = view.marks ++ marks }

-- it stands at that place
abbrev pub IsAt : {A : Type 0} → List A → ℕ → A → Type 0
IsAt all place x = slice_get all place ≡ Some x

-- what shelves and disks of these kinds mean
abbrev pub shelf_meaning : {S : Type 0} → ShelfKind S → ShelfMeaning S
shelf_meaning S = record { contents = S.contents; tells = S.tells; may_leave = S.may_leave; faults = S.fault_count }

abbrev pub disk_meaning : {V : Type 0} → DiskKind V → DiskMeaning V
disk_meaning V = record { tells = V.tells; may_leave = V.may_leave; faults = V.fault_count }

abbrev pub meaning : {S V : Type 0} → ShelfKind S → DiskKind V → Meaning S V
meaning S V = record { shelves = shelf_meaning S; disks = disk_meaning V }
