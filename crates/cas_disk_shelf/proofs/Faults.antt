-- What a fault of the cells says of a shelf's.
use Rattle.std.specs.Result.{IsErrAnd, IfOk}
use Rattle.std.proofs.Common.{◌≡◌, ℕ, Result, Ok, Err, refl, sym, ap, ◌∙◌}
use Rattle.cas_slot.specs.declared.fault.ShelfFault.{ShelfFault}
use Rattle.cas_slot.specs.declared.fault.ShelfFault.TheVariants as shelf
use Rattle.cas_cells.specs.declared.fault.CellFault.{CellFault}
use Rattle.cas_cells.specs.declared.fault.CellFault.TheVariants as cells
use Rattle.cas_disk_shelf.specs.FaultOf.{fault_of}

abbrev pub failed : {T : Type 0} → ShelfFault → Result T ShelfFault
failed f = Err f

fault_is : {T : Type 0} (f g : ShelfFault) → failed {T = T} f ≡ failed {T = T} g → f ≡ g
fault_is f g e = cc

no_memory : (e : CellFault) → fault_of e ≡ shelf.NoMemory → e ≡ cells.NoMemory
no_memory cells.DiskFault is = absurd cc
no_memory (cells.Foreign at) is = absurd cc
no_memory cells.NoMemory is = refl

foreign : (e : CellFault) (at : ℕ) → fault_of e ≡ shelf.Foreign at → e ≡ cells.Foreign at
foreign cells.DiskFault at is = absurd cc
foreign (cells.Foreign there) at is = ap cells.Foreign (let same : there ≡ at = cc in same)
foreign cells.NoMemory at is = absurd cc

module _ {T U : Type 0} (e : CellFault) (f : ShelfFault) (told : f ≡ fault_of e) (r : Result U CellFault) (was : r ≡ Err e) where
  pub told_no_memory : failed {T = T} f ≡ failed {T = T} shelf.NoMemory → r ≡ Err cells.NoMemory
  told_no_memory is = was ∙ ap (λ (x : CellFault). Err x) (no_memory e (sym told ∙ fault_is {T = T} f shelf.NoMemory is))

  pub told_foreign : (at : ℕ) → failed {T = T} f ≡ failed {T = T} (shelf.Foreign at) → r ≡ Err (cells.Foreign at)
  told_foreign at is = was ∙ ap (λ (x : CellFault). Err x) (foreign e at (sym told ∙ fault_is {T = T} f (shelf.Foreign at) is))

-- the fault that is passed on
pub told_err : {T : Type 0} (r : Result T ShelfFault) (e f : ShelfFault) → IsErrAnd r (λ x. x ≡ e) → r ≡ Err f → e ≡ f
told_err (Ok x) e f given is = absurd cc
told_err (Err x) e f given is = sym given ∙ (let same : x ≡ f = cc in same)

-- an `Err` that is passed on
pub err_again : {T E : Type 0} (r : Result T E) (e : E) → IsErrAnd r (λ x. x ≡ e) → r ≡ Err e
err_again (Ok x) e given = absurd given
err_again {T} {E} (Err x) e given = ap (λ (y : E). Err y) given

-- what is so of the value of each `Ok`
pub each_ok : {T E : Type 0} (r : Result T E) (P : T → Type 0) → ((x : T) → r ≡ Ok x → P x) → IfOk r P
each_ok (Ok x) P each = each x refl
each_ok (Err e) P each = tt

-- what follows of the value of an `Ok`
pub also_ok : {T E : Type 0} (r : Result T E) (P Q : T → Type 0) → ((x : T) → P x → Q x) → IfOk r P → IfOk r Q
also_ok (Ok x) P Q so p = so x p
also_ok (Err e) P Q so p = tt
