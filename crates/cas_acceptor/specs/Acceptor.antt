-- An acceptor, and what a crash within its answer leaves.
use Rattle.std.specs.Prelude.{◌≡◌, ◌⊎◌, ℕ, Bool, Ok}
use Rattle.cas_slot.specs.declared.message.Request.{Request}
use Rattle.cas_slot.specs.declared.message.Tell.{Tell}
use Rattle.cas_slot.specs.Contents.{Contents}
use Rattle.cas_slot.specs.Shelf.{Left}
use Rattle.cas_slot.specs.Table.{Handles}

-- its identity, whether a start of its shelf ever succeeded, whether it is down, and its shelf
pub record AcceptorView (S : Type 0) : Type 0 where
  pub id : ℕ
  pub started : Bool
  pub down : Bool
  pub shelf : S

-- it is what was kept before a request, or what the table makes of that
abbrev pub LeavesByTable : Contents → Request → Left → Type 0
LeavesByTable old request left = (left ≡ Ok old) ⊎ ((answer : Tell) × (new : Contents) × Handles old request answer new × (left ≡ Ok new))
