-- Shelves that are taken up one after another.
use Rattle.std.proofs.Common.{◌≡◌, ℕ, subst, arith}
use Rattle.std.specs.Prelude.{Option, Some, IfSome}
use Rattle.cas_slot.specs.Shelf.{Left}
use Rattle.cas_restore.specs.TakingUp.{LeavesNoMore}

-- the number that an identity was made of
pub id_is : (option : Option ℕ) (id number : ℕ) → option ≡ Some id → IfSome option (λ (i : ℕ). i ≡ number) → id ≡ number
id_is option id number some is = subst (λ (o : Option ℕ). IfSome o (λ (i : ℕ). i ≡ number)) some is

pub leaves_then : {S : Type 0} (tells : Type 0) (may_leave : S → Left → Type 0) (fault_count : S → ℕ) (old mid new : S)
    → LeavesNoMore tells may_leave fault_count old mid → LeavesNoMore tells may_leave fault_count mid new → LeavesNoMore tells may_leave fault_count old new
leaves_then tells may_leave fault_count old mid new first later = record {
  left = λ t l may. first.left t l (later.left t l may);
  never_falls = omega (arith, first.never_falls, later.never_falls);
}
