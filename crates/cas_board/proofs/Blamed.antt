-- Whom the marks of a board blame has failed: by the disks that come back.
use Rattle.std.proofs.Common.{◌≡◌, ◌<◌, ℕ, zero, suc, List, [], ◌∷◌, Some, map, sym, ap, subst}
use Rattle.std.specs.Prelude.{◌+◌, slice_index_or, take, Contains}
use Rattle.std.proofs.lemmas.List.Elements.{All-contains_itself}
use Rattle.cas_acceptor.specs.Acceptor.{AcceptorView}
use Rattle.cas_disk_shelf.specs.Shelf.{disk_of}
use Rattle.cas_disk_shelf.specs.declared.shelf.DiskShelf.{DiskShelf}
use Rattle.cas_proposer.specs.Desk.{DeskView}
use Rattle.cas_record.specs.declared.mark.Mark.{Mark}
use Rattle.cas_vault.specs.Vault.{disk_of as vault_disk}
use Rattle.cas_model.specs.View.{DiskMeaning, Meaning, View, IsAt}
use Rattle.cas_model.proofs.Places.{some_is}
use Rattle.cas_store.specs.Store.{acceptor_disks}
use Rattle.cas_board_world.specs.Blame.{Blame, Nobody, SomeAcceptor, VaultOf, AreDeserved, IsDeserved, blame_by}
use Rattle.cas_board_world.specs.Steady.{AreDesksUp, IsBlamed, IsFair}
use Rattle.cas_world.specs.Openings.Opening.{AreDesksBelow, disks_of}

-- the proposers are up as a store opens
pub desks_up : {V : Type 0} (m : DiskMeaning V) (faults : V → ℕ) (disks : List V) (number : ℕ) (desks : List (DeskView V)) → AreDesksBelow m faults disks number desks → AreDesksUp desks
desks_up {V} m faults disks number desks below id desk at = ap (λ (d : DeskView V). d.down) (below.each id desk at).2.is

at_map : {A B : Type 0} (f : A → B) (xs : List A) (place : ℕ) (x : A) → IsAt xs place x → IsAt (map f xs) place (f x)
at_map f [] place x at = absurd (cc at)
at_map {A} {B} f (y ∷ xs) zero x at = ap (λ (z : A). Some (f z)) (some_is at)
at_map f (y ∷ xs) (suc place) x at = at_map f xs place x at

at_taken : {A : Type 0} (n : ℕ) (xs : List A) (place : ℕ) (x : A) → IsAt (take n xs) place x → IsAt xs place x
at_taken zero xs place x at = absurd (cc at)
at_taken (suc n) [] place x at = absurd (cc at)
at_taken (suc n) (y ∷ xs) zero x at = at
at_taken (suc n) (y ∷ xs) (suc place) x at = at_taken n xs place x at

-- an acceptor has failed by its disk, and a proposer by that of its vault
fair_closed : {D : Type 0} (m : Meaning (DiskShelf D) D) (faults : D → ℕ) (view : View (DiskShelf D) D) (acceptors vaults : List D) → ((shelf : DiskShelf D) → m.shelves.faults shelf ≡ faults (disk_of shelf)) → ((disk : D) → m.disks.faults disk ≡ faults disk)
    → acceptors ≡ acceptor_disks view.acceptors → take (view.last_proposer + 1) vaults ≡ disks_of view.desks → (blame : Blame) → IsFair m view.acceptors view.desks blame → IsDeserved faults faults acceptors vaults blame
fair_closed m faults view acceptors vaults first second shelves disks Nobody fair = tt
fair_closed {D} m faults view acceptors vaults first second shelves disks SomeAcceptor fair = (
  fair.0,
  record {
    one = disk_of fair.1.one.shelf;
    at = subst (λ (l : List D). IsAt l fair.0 (disk_of fair.1.one.shelf)) (sym shelves) (at_map (λ (a : AcceptorView (DiskShelf D)). disk_of a.shelf) view.acceptors fair.0 fair.1.one fair.1.at);
    failed = subst (λ (n : ℕ). 0 < n) (first fair.1.one.shelf) fair.1.failed;
  },
)
fair_closed {D} m faults view acceptors vaults first second shelves disks (VaultOf proposer) fair = record {
  one = vault_disk fair.one.vault;
  at = at_taken (view.last_proposer + 1) vaults proposer (vault_disk fair.one.vault) (subst (λ (l : List D). IsAt l proposer (vault_disk fair.one.vault)) (sym disks) (at_map (λ (d : DeskView D). vault_disk d.vault) view.desks proposer fair.one fair.at));
  failed = subst (λ (n : ℕ). 0 < n) (second (vault_disk fair.one.vault)) fair.failed;
}

pub deserved_closed : {D : Type 0} (m : Meaning (DiskShelf D) D) (faults : D → ℕ) (view : View (DiskShelf D) D) (acceptors vaults : List D) (marks : List Mark) → IsBlamed m view
    → ((shelf : DiskShelf D) → m.shelves.faults shelf ≡ faults (disk_of shelf)) → ((disk : D) → m.disks.faults disk ≡ faults disk) → acceptors ≡ acceptor_disks view.acceptors → take (view.last_proposer + 1) vaults ≡ disks_of view.desks → marks ≡ view.marks
    → AreDeserved faults acceptors vaults marks
deserved_closed m faults view acceptors vaults marks is first second shelves disks same k d low =
    let mark = slice_index_or marks k d in
    fair_closed m faults view acceptors vaults first second shelves disks (blame_by mark) (is.1.marked mark (subst (λ (l : List Mark). Contains l mark) same (All-contains_itself marks k d low)))
