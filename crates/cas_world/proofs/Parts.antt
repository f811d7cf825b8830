-- Parts of a world by their places.
use Rattle.std.proofs.Common.{◌≤◌, ◌≡◌, ◌<◌, ℕ, zero, suc, Bool, List, [], ◌∷◌, length, slice_set, slice_index_or, refl, sym, ap, subst, ◌∙◌}
use Rattle.std.specs.Prelude.{Option, None, Some, IsSomeAnd}
use Rattle.std.proofs.lemmas.Option.{slice_get_read}
use Rattle.cas_acceptor.specs.Acceptor.{AcceptorView}
use Rattle.cas_disk.specs.Disk.{LeavesOnly as DiskLeavesOnly}
use Rattle.cas_slot.specs.Shelf.{Left, ShelfLeavesOnly}
use Rattle.cas_model.specs.History.{IsRemembered}
use Rattle.cas_model.specs.Step.{Event, Step}
use Rattle.cas_model.proofs.Places.{some_is}
use Rattle.cas_model.proofs.ViewLaws.{steps}
use Rattle.cas_model.specs.View.{Meaning, View, IsAt}

-- what an index reads stands there
pub at_place : {A : Type 0} (xs : List A) (n place : ℕ) (x : A) → n ≡ place → place < length xs → x ≡ slice_index_or xs n x → IsAt xs place x
at_place {A} xs n place x same low is = slice_get_read xs (length xs) place x refl low (is ∙ ap (λ (i : ℕ). slice_index_or xs i x) same)

-- an acceptor that keeps its identity and whether it ever started
pub same_but : {S : Type 0} (old new : AcceptorView S) (down : Bool) → new.id ≡ old.id → new.started ≡ old.started → new.down ≡ down → new ≡ record old { down = down; shelf = new.shelf }
same_but {S} old new down same_id same_started is_down =
    ap (λ (i : ℕ). record { id = i; started = new.started; down = new.down; shelf = new.shelf }) same_id
    ∙ ap (λ (s : Bool). record { id = old.id; started = s; down = new.down; shelf = new.shelf }) same_started
    ∙ ap (λ (d : Bool). record { id = old.id; started = old.started; down = d; shelf = new.shelf }) is_down

-- whatever a crash leaves at the end of a call it may leave at a moment within it
pub left_now : {S : Type 0} (moment : S → ℕ) (left_since : S → ℕ → Left → Type 0) (may_leave : S → Left → Type 0) (old new : S) (P : Left → Type 0)
    → ((t : ℕ) (left : Left) → t ≤ moment new → may_leave new left → left_since new t left) → ShelfLeavesOnly moment left_since old new P → (left : Left) → may_leave new left → P left
left_now moment left_since may_leave old new P now leaves left may = leaves.each left (now (moment old) left leaves.later may)

pub left_at : {D : Type 0} (moment : D → ℕ) (left_since : D → ℕ → List ℕ → Type 0) (may_leave : D → List ℕ → Type 0) (old new : D) (P : List ℕ → Type 0)
    → ((t : ℕ) (c : List ℕ) → t ≤ moment new → may_leave new c → left_since new t c) → DiskLeavesOnly moment left_since old new P → (c : List ℕ) → may_leave new c → P c
left_at moment left_since may_leave old new P now leaves c may = leaves.each c (now (moment old) c leaves.later may)

-- what is done to a world is done to what it is seen as
pub seen_from : {S V : Type 0} (m : Meaning S V) (event : Event) (new : View S V) {inside now : View S V} → inside ≡ now → Step m inside event new → Step m now event new
seen_from {S} {V} m event new same by = subst (λ (v : View S V). Step m v event new) same by

-- where shelves and disks tell what they keep, there is a log of all that happened
abbrev pub Remembers : {S V : Type 0} → Meaning S V → View S V → Type 0
Remembers m view = m.shelves.tells → m.disks.tells → IsRemembered m view

-- whatever is called, it is remembered
pub remembered_then : {S V : Type 0} (m : Meaning S V) (event : Event) {old new : View S V} → Step m old event new → Remembers m old → Remembers m new
remembered_then m event {old} {new} by was shelves disks = steps m shelves disks old event new (was shelves disks) by

-- what stands there stays where it is put there again
pub set_same : {A : Type 0} (xs : List A) (place : ℕ) (x : A) → IsAt xs place x → slice_set xs place x ≡ xs
set_same [] place x at = absurd (cc at)
set_same (y ∷ ys) zero x at = ap (λ (z : _). z ∷ ys) (sym (some_is at))
set_same (y ∷ ys) (suc place) x at = ap (λ (zs : _). y ∷ zs) (set_same ys place x at)

-- what is so of an option's value, by that value
pub some_and : {A : Type 0} (o : Option A) (P : A → Type 0) → IsSomeAnd o P → (x : A) × (o ≡ Some x) × P x
some_and {A} None P h = absurd h
some_and {A} (Some x) P h = (x, refl, h)
