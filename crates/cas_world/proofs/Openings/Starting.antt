-- Shelves and vaults that start one after another.
use Rattle.std.proofs.Common.{◌≡◌, ◌<◌, ◌≤◌, ℕ, Bool, true, false, List, [], ◌∷◌, ◌++◌, length, Result, Err, refl, sym, ap, subst, ◌∙◌, inl, inr, arith, length-set}
use Rattle.std.specs.Prelude.{◌⊎◌, ◌+◌, slice_set, slice_index_or, IsTrue, IsErrOf}
use Rattle.std.proofs.lemmas.List.{length_push, length-drop}
use Rattle.cas_base.specs.Faults.{Rose}
use Rattle.cas_acceptor.specs.Acceptor.{AcceptorView}
use Rattle.cas_proposer.specs.Desk.{DeskView}
use Rattle.cas_slot.specs.Contents.{nothing}
use Rattle.cas_slot.specs.Shelf.{OnlyLeaves, HasShelfCause}
use Rattle.cas_slot.specs.declared.fault.ShelfFault.{ShelfFault}
use Rattle.cas_slot.specs.declared.fault.ShelfFault.TheVariants as shelf_fault
use Rattle.cas_model.specs.View.{Meaning, ShelfMeaning, DiskMeaning, IsAt}
use Rattle.cas_model.proofs.Places.{but_set, own_set}
use Rattle.cas_world.specs.Openings.Opening.{unstarted, NoneStarted, IsFaultOf, fault_of_shelf, HasStarted, HasNotStarted, AreStartedBelow, AMemberFails, IsDeskOver, AreDesksBelow, SomeDiskFails}
use Rattle.cas_world.specs.Openings.Opening as opening
use Rattle.cas_world.specs.declared.fault.OpenFault.{OpenFault}
use Rattle.cas_world.proofs.Lists.{at_pushed}
use Rattle.cas_world.proofs.Parts.{at_place, same_but}

-- ---- shelves
pub has_started : {S : Type 0} (m : ShelfMeaning S) (faults : S → ℕ) (old new : AcceptorView S) → new.id ≡ old.id → new.started ≡ true → new.down ≡ false → m.contents new.shelf ≡ nothing
    → (m.tells → new.down ≡ false → OnlyLeaves (m.contents new.shelf) (m.may_leave new.shelf)) → faults old.shelf ≤ faults new.shelf → HasStarted m faults old new
has_started {S} m faults old new same started up holds lasts never_falls = record {
  acceptor = ap (λ (i : ℕ). record { id = i; started = new.started; down = new.down; shelf = new.shelf }) same
      ∙ ap (λ (s : Bool). record { id = old.id; started = s; down = new.down; shelf = new.shelf }) started
      ∙ ap (λ (d : Bool). record { id = old.id; started = true; down = d; shelf = new.shelf }) up;
  holds = holds;
  lasts = λ tells. lasts tells up;
  never_falls = never_falls;
}

fault_is : {T : Type 0} (number : ℕ) (r : Result T ShelfFault) (fault : ShelfFault) (old new : ℕ) → r ≡ Err fault → HasShelfCause r old new → IsFaultOf number old new (fault_of_shelf number fault)
fault_is {T} number r shelf_fault.DiskFault old new was cause = (refl, subst (λ (x : Result T ShelfFault). IsErrOf x shelf_fault.DiskFault → Rose old new) was cause.failed refl)
fault_is number r shelf_fault.Full old new was cause = tt
fault_is number r (shelf_fault.Foreign at) old new was cause = tt
fault_is number r shelf_fault.NoMemory old new was cause = tt

pub has_not_started : {S T : Type 0} (m : ShelfMeaning S) (faults : S → ℕ) (number : ℕ) (r : Result T ShelfFault) (fault : ShelfFault) (old new : AcceptorView S) → new.id ≡ old.id → new.started ≡ old.started → new.down ≡ true → old.down ≡ true
    → m.contents new.shelf ≡ m.contents old.shelf → r ≡ Err fault → HasShelfCause r (faults old.shelf) (faults new.shelf) → HasNotStarted m faults number (fault_of_shelf number fault) old new
has_not_started {S} m faults number r fault old new same same_started down was_down holds was cause = record {
  acceptor = same_but old new true same same_started down ∙ ap (λ (d : Bool). record old { down = d; shelf = new.shelf }) (sym was_down);
  holds = holds;
  never_falls = cause.never_falls;
  cause = fault_is number r fault (faults old.shelf) (faults new.shelf) was cause;
}

module _ {S : Type 0} (m : ShelfMeaning S) (faults : S → ℕ) (old : List (AcceptorView S)) where
  pub none_below : AreStartedBelow m faults old 1 old
  none_below = record { places = refl; members = λ id now from to at. absurd (omega (arith, from, to)); others = λ id now which at. at }

  pub one_more : (number : ℕ) (all : List (AcceptorView S)) (was now : AcceptorView S) → 0 < number → AreStartedBelow m faults old number all → IsAt all number was → HasStarted m faults was now
      → AreStartedBelow m faults old (number + 1) (slice_set all number now)
  one_more number all was now from before at starts = record {
    places = length-set all number now ∙ before.places;
    members = λ id x low high at_x. elim (but_set all number now id x at_x) [
      | inl here ↦ (was, subst (λ (i : ℕ). IsAt old i was) (sym here.0) (before.others number was (inr (omega arith)) at), subst (λ (y : AcceptorView S). HasStarted m faults was y) (sym here.1) starts)
      | inr there ↦ before.members id x low (below number id high there.0) there.1
    ];
    others = λ id x which at_x. elim (but_set all number now id x at_x) [
      | inl here ↦ absurd (not_here number id from which here.0)
      | inr there ↦ before.others id x (or_above number id which) there.1
    ];
  }
    where
      below : (number id : ℕ) → id < number + 1 → (id ≡ number → ⊥) → id < number
      below number id high other = omega (arith, high, other)

      not_here : (number id : ℕ) → 0 < number → (id ≡ 0) ⊎ (number + 1 ≤ id) → id ≡ number → ⊥
      not_here number id from (inl zero_is) here = omega (arith, from, zero_is, here)
      not_here number id from (inr above) here = omega (arith, above, here)

      or_above : (number id : ℕ) → (id ≡ 0) ⊎ (number + 1 ≤ id) → (id ≡ 0) ⊎ (number ≤ id)
      or_above number id (inl zero_is) = inl zero_is
      or_above number id (inr above) = inr (omega (arith, above))

  pub one_fails : (count number : ℕ) (all : List (AcceptorView S)) (fault : OpenFault) (was now : AcceptorView S) → 0 < number → number ≤ count → AreStartedBelow m faults old number all → IsAt all number was → HasNotStarted m faults number fault was now
      → AMemberFails m faults old count fault (slice_set all number now)
  one_fails count number all fault was now from to before at fails = record {
    number = number;
    from = from;
    to = to;
    starts = λ id x low high at_x. elim (but_set all number now id x at_x) [
      | inl here ↦ absurd (omega (arith, high, here.0))
      | inr there ↦ before.members id x low high there.1
    ];
    fails = λ x at_x. (was, before.others number was (inr (omega arith)) at, subst (λ (y : AcceptorView S). HasNotStarted m faults number fault was y) (sym (own_set all number now x at_x)) fails);
    others = λ id x which at_x. elim (but_set all number now id x at_x) [
      | inl here ↦ absurd (not_here number id from which here.0)
      | inr there ↦ before.others id x (or_above number id which) there.1
    ];
    places = length-set all number now ∙ before.places;
  }
    where
      not_here : (number id : ℕ) → 0 < number → (id ≡ 0) ⊎ (number < id) → id ≡ number → ⊥
      not_here number id from (inl zero_is) here = omega (arith, from, zero_is, here)
      not_here number id from (inr above) here = omega (arith, above, here)

      or_above : (number id : ℕ) → (id ≡ 0) ⊎ (number < id) → (id ≡ 0) ⊎ (number ≤ id)
      or_above number id (inl zero_is) = inl zero_is
      or_above number id (inr above) = inr (omega (arith, above))

-- the one that starts next never did
pub next_unstarted : {S : Type 0} (m : ShelfMeaning S) (faults : S → ℕ) (old all : List (AcceptorView S)) (number : ℕ) (was : AcceptorView S) → NoneStarted old → AreStartedBelow m faults old number all → IsAt all number was
    → (was.started ≡ false) × (was.down ≡ true)
next_unstarted m faults old all number was fresh before at = fresh number was (before.others number was (inr (omega arith)) at)

-- what an index reads and a restart makes of it
pub member_starts : {S : Type 0} (m : ShelfMeaning S) (faults : S → ℕ) (old all : List (AcceptorView S)) (number place : ℕ) (was now : AcceptorView S) → place ≡ number → number < length all → was ≡ slice_index_or all place was → 0 < number
    → NoneStarted old → AreStartedBelow m faults old number all → now.id ≡ was.id → now.started ≡ true → now.down ≡ false → (IsTrue was.down → was.started ≡ false → m.contents now.shelf ≡ nothing)
    → (m.tells → now.down ≡ false → OnlyLeaves (m.contents now.shelf) (m.may_leave now.shelf)) → faults was.shelf ≤ faults now.shelf → AreStartedBelow m faults old (number + 1) (slice_set all place now)
member_starts {S} m faults old all number place was now same low read from fresh before same_id started up holds lasts never_falls =
    let at = at_place all place number was same low read in
    let unstarted = next_unstarted m faults old all number was fresh before at in
    subst (λ (i : ℕ). AreStartedBelow m faults old (number + 1) (slice_set all i now)) (sym same)
    (one_more m faults old number all was now from before at (has_started m faults was now same_id started up (holds unstarted.1 unstarted.0) lasts never_falls))

pub member_fails : {S T : Type 0} (m : ShelfMeaning S) (faults : S → ℕ) (old all : List (AcceptorView S)) (count number place : ℕ) (was now : AcceptorView S) (r : Result T ShelfFault) (fault : ShelfFault) (told : OpenFault) → place ≡ number → number < length all
    → was ≡ slice_index_or all place was → 0 < number → number ≤ count → NoneStarted old → AreStartedBelow m faults old number all → now.id ≡ was.id → now.started ≡ was.started → now.down ≡ true → m.contents now.shelf ≡ m.contents was.shelf
    → r ≡ Err fault → HasShelfCause r (faults was.shelf) (faults now.shelf) → told ≡ fault_of_shelf number fault → AMemberFails m faults old count told (slice_set all place now)
member_fails {S} m faults old all count number place was now r fault told same low read from to fresh before same_id same_started down holds is cause told_is =
    let at = at_place all place number was same low read in
    let unstarted = next_unstarted m faults old all number was fresh before at in
    subst (λ (i : ℕ). AMemberFails m faults old count told (slice_set all i now)) (sym same)
    (one_fails m faults old count number all told was now from to before at
    (subst (λ (f : OpenFault). HasNotStarted m faults number f was now) (sym told_is) (has_not_started m faults number r fault was now same_id same_started down unstarted.1 holds is cause)))

-- ---- vaults
module _ {V : Type 0} (m : DiskMeaning V) (faults : V → ℕ) (disks : List V) where
  pub one_more_desk : (number : ℕ) (desks : List (DeskView V)) (disk : V) (desk : DeskView V) → AreDesksBelow m faults disks number desks → IsAt disks number disk → IsDeskOver m faults number disk desk
      → AreDesksBelow m faults disks (number + 1) (desks ++ desk ∷ [])
  one_more_desk number desks disk desk before at over = record {
    places = length_push desks desk ∙ ap (λ (n : ℕ). n + 1) before.places;
    each = λ id x at_x. elim (at_pushed desks desk id x at_x) [
      | inl earlier ↦ before.each id x earlier
      | inr last ↦ (let e : id ≡ number = last.0 ∙ before.places in
          (disk, subst (λ (i : ℕ). IsAt disks i disk) (sym e) at, subst (λ (i : ℕ). IsDeskOver m faults i disk x) (sym e) (subst (λ (y : DeskView V). IsDeskOver m faults number disk y) (sym last.1) over)))
    ];
  }

-- as many disks are there as came in
pub none_lost : {S V : Type 0} (m : Meaning S V) (shelf_faults : S → ℕ) (disk_faults : V → ℕ) (count last_proposer : ℕ) (old : List (AcceptorView S)) (disks : List V) (fault : OpenFault) (acceptors : List (AcceptorView S)) (desks : List (DeskView V)) (left : List V)
    → last_proposer < length disks → SomeDiskFails m shelf_faults disk_faults count last_proposer old disks fault acceptors desks left → length desks + length left ≡ length disks
none_lost {S} {V} m shelf_faults disk_faults count last_proposer old disks fault acceptors desks left low (opening.a_shelf fails none same) =
    omega (arith, ap (λ (l : List (DeskView V)). length l) none, ap (λ (l : List V). length l) same)
none_lost {S} {V} m shelf_faults disk_faults count last_proposer old disks fault acceptors desks left low (opening.a_disk starts fails) =
    omega (arith, low, fails.to, fails.made.places, ap (λ (l : List V). length l) fails.rest, length-drop (fails.number + 1) disks)

-- and as many acceptors
pub none_lost_either : {S V : Type 0} (m : Meaning S V) (shelf_faults : S → ℕ) (disk_faults : V → ℕ) (count last_proposer : ℕ) (old : List (AcceptorView S)) (disks : List V) (fault : OpenFault) (acceptors : List (AcceptorView S)) (desks : List (DeskView V)) (left : List V)
    → SomeDiskFails m shelf_faults disk_faults count last_proposer old disks fault acceptors desks left → length acceptors ≡ length old
none_lost_either m shelf_faults disk_faults count last_proposer old disks fault acceptors desks left (opening.a_shelf fails none same) = fails.places
none_lost_either m shelf_faults disk_faults count last_proposer old disks fault acceptors desks left (opening.a_disk starts fails) = starts.places
