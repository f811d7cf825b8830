-- Disks of a rack that are asked for their lengths, and what that leaves of what is said of them afterwards.
use Rattle.std.proofs.Common.{◌≡◌, ◌<◌, ◌≤◌, ◌+◌, ℕ, zero, suc, List, [], ◌∷◌, ◌++◌, length, Ok, Err, refl, sym, ap, subst, ◌∙◌, inl, inr, arith, false, true}
use Rattle.std.specs.Prelude.{◌⊎◌, slice_get, Some}
use Rattle.std.proofs.lemmas.Option.{slice_get_within}
use Rattle.cas_base.specs.Faults.{Rose}
use Rattle.cas_ballot.specs.Members.{has_member}
use Rattle.cas_disk.specs.declared.disk.DiskFault.{DiskFault as AskingFault}
use Rattle.cas_disk.specs.declared.disk.DiskFault.TheVariants as asking
use Rattle.cas_slot.specs.Contents.{Contents}
use Rattle.cas_slot.specs.Shelf.{Left}
use Rattle.cas_model.specs.View.{IsAt}
use Rattle.cas_model.proofs.Places.{at_one, same_or_not}
use Rattle.cas_restore.proofs.Faults.{rose_since}
use Rattle.cas_restore.proofs.Placing.{there_too}
use Rattle.cas_store.specs.Rack.{RackMeaning, IsAskedForLength, IsAllEmpty, IsFoundEmpty, AreFoundEmptyBelow}
use Rattle.cas_store.specs.declared.rack.Rack.{Rack}
use Rattle.cas_reopen.specs.declared.fault.ReopenFault.{ReopenFault}
use Rattle.cas_reopen.specs.declared.fault.ReopenFault.TheVariants as reopen
use Rattle.cas_reopen.specs.declared.lengths.FilledFault.{FilledFault}
use Rattle.cas_reopen.specs.Closed.{IsForeignDisk, IsSpentDisk, AreTooManyOn, IsWhyNotOpened, IsWhyClosed, StopsWithinOpening, OthersAreAsked}
use Rattle.cas_reopen.specs.Closed.IsForeignDisk.{no_shelf, no_vault}
use Rattle.cas_reopen.specs.Closed.StopsWithinOpening.{all_empty, within}
use Rattle.cas_reopen.specs.Faults.{fault_without_length, fault_of_asking, MayBeLeft}
use Rattle.cas_reopen.specs.Filled.{IsFoundFilled, AreFoundFilled, OneGivesNoLength, AreAskedAtMost, AreLengthsOf, DiskFailed, IsWhyUnknown, RackGivesNoLength, disks_in}
use Rattle.cas_reopen.specs.Opened.{leaves_of}
use Rattle.cas_reopen.specs.Ready.{OthersStay}
use Rattle.cas_reopen.specs.Shelves.{StopsWithinGiving, AreLeftBetween}
use Rattle.cas_reopen.specs.Shelves.StopsWithinGiving.{before_giving, in_giving}

-- ---- two rows of disks
pub at_first : {A : Type 0} (xs ys : List A) (place : ℕ) (x : A) → IsAt xs place x → IsAt (xs ++ ys) place x
at_first [] ys place x at = absurd (cc at)
at_first (z ∷ xs) ys zero x at = at
at_first (z ∷ xs) ys (suc place) x at = at_first xs ys place x at

pub at_second : {A : Type 0} (xs ys : List A) (place : ℕ) (x : A) → IsAt ys place x → IsAt (xs ++ ys) (length xs + place) x
at_second {A} [] ys place x at = subst (λ (p : ℕ). IsAt ys p x) (let e : place ≡ 0 + place = omega arith in e) at
at_second {A} (z ∷ xs) ys place x at =
    subst (λ (p : ℕ). IsAt (z ∷ xs ++ ys) p x) (let e : suc (length xs + place) ≡ suc (length xs) + place = omega arith in e) (at_second xs ys place x at)

pub at_either : {A : Type 0} (xs ys : List A) (place : ℕ) (x : A) → IsAt (xs ++ ys) place x → IsAt xs place x ⊎ ((rest : ℕ) × (length xs + rest ≡ place) × IsAt ys rest x)
at_either [] ys place x at = inr (place, omega arith, at)
at_either (z ∷ xs) ys zero x at = inl at
at_either (z ∷ xs) ys (suc place) x at = elim (at_either xs ys place x at) [
  | inl first ↦ inl first
  | inr second ↦ inr (second.0, omega (arith, second.1), second.2)
]

-- ---- one disk
module _ {D : Type 0} (m : RackMeaning D) where
  pub asked_itself : (disk : D) → IsAskedForLength m disk disk
  asked_itself disk = record { kept = λ told. record { content = refl; outcomes = λ c may. may }; never_falls = omega arith }

  -- what may be left of a shelf on it might have been left before
  pub left_before : (was now : D) (l : Left) → m.tells → IsAskedForLength m was now → leaves_of m.may_leave now l → leaves_of m.may_leave was l
  left_before was now l told asked leaves = (leaves.0, (asked.kept told).outcomes leaves.0 leaves.1, leaves.2)

  -- ---- rows
  pub all_itself : (disks : List D) → AreAskedAtMost m disks disks
  all_itself disks = record { places = refl; each = λ id was now at at_now. subst (IsAskedForLength m was) (at_one disks id at at_now) (asked_itself was) }

  pub found_asked : (found : List ℕ) (old new : List D) → AreFoundFilled m found old new → AreAskedAtMost m old new
  found_asked found old new are = record {
    places = are.places;
    each = λ id was now at at_now.
        let it = are.each id now at_now in
        subst (λ (d : D). IsAskedForLength m d now) (at_one old id it.1 at) it.2.asked;
  }

  pub one_asked : (first : ℕ) (fault : FilledFault) (old new : List D) → OneGivesNoLength m first fault old new → AreAskedAtMost m old new
  one_asked first fault old new one = record {
    places = one.places;
    each = λ id was now at at_now. elim (low_or_not id one.place) [
      | inl low ↦
          let it = one.before id now low at_now in
          subst (λ (d : D). IsAskedForLength m d now) (at_one old id it.1 at) it.2
      | inr high ↦ elim (same_or_not id one.place) [
        | inl same ↦
            subst (λ (d : D). IsAskedForLength m d now) (at_one old one.place one.at_was (subst (λ (i : ℕ). IsAt old i was) same at))
            (subst (IsAskedForLength m one.was) (at_one new one.place one.at_now (subst (λ (i : ℕ). IsAt new i now) same at_now)) one.why.asked)
        | inr other ↦ subst (IsAskedForLength m was) (at_one old id at (one.others id now (above id one.place high other) at_now)) (asked_itself was)
      ]
    ];
  }
    where
      low_or_not : (id place : ℕ) → (id < place) ⊎ (place ≤ id)
      low_or_not id place = grind arith

      above : (id place : ℕ) → place ≤ id → (id ≡ place → ⊥) → place < id
      above id place high other = omega (arith, high, other)

  -- ---- one that gives no length
  why_by : (kind : AskingFault) (disk : ℕ) (old new : Rack D) → (kind ≡ asking.Failed → DiskFailed m.faults disk old new) → IsWhyUnknown m.faults old new (fault_without_length disk kind)
  why_by asking.Failed disk old new failed = failed refl
  why_by asking.NoMemory disk old new failed = tt

  pub no_length_of_acceptor : (old new : Rack D) (fault : FilledFault) → OneGivesNoLength m 0 fault old.acceptors.items new.acceptors.items → new.vaults.items ≡ old.vaults.items
      → RackGivesNoLength m old new (fault_of_asking fault)
  no_length_of_acceptor old new fault one same = record {
    acceptors = one_asked 0 fault old.acceptors.items new.acceptors.items one;
    vaults = subst (AreAskedAtMost m old.vaults.items) (sym same) (all_itself old.vaults.items);
    why = why_by fault.fault fault.disk old new (λ failed. (
      one.was,
      one.now,
      subst (λ (n : ℕ). IsAt (disks_in old) n one.was) (here one.place fault.disk one.number) (at_first old.acceptors.items old.vaults.items one.place one.was one.at_was),
      subst (λ (n : ℕ). IsAt (disks_in new) n one.now) (here one.place fault.disk one.number) (at_first new.acceptors.items new.vaults.items one.place one.now one.at_now),
      one.why.cause failed,
    ));
  }
    where
      here : (place disk : ℕ) → disk ≡ 0 + place → place ≡ disk
      here place disk is = omega (arith, is)

  pub no_length_of_vault : (old new : Rack D) (found : List ℕ) (fault : FilledFault) → length old.acceptors.items ≡ 64 → AreFoundFilled m found old.acceptors.items new.acceptors.items
      → OneGivesNoLength m 64 fault old.vaults.items new.vaults.items → RackGivesNoLength m old new (fault_of_asking fault)
  no_length_of_vault old new found fault all are one = record {
    acceptors = found_asked found old.acceptors.items new.acceptors.items are;
    vaults = one_asked 64 fault old.vaults.items new.vaults.items one;
    why = why_by fault.fault fault.disk old new (λ failed. (
      one.was,
      one.now,
      subst (λ (n : ℕ). IsAt (disks_in old) n one.was) (here (length old.acceptors.items) one.place fault.disk all one.number)
          (at_second old.acceptors.items old.vaults.items one.place one.was one.at_was),
      subst (λ (n : ℕ). IsAt (disks_in new) n one.now) (here (length new.acceptors.items) one.place fault.disk (are.places ∙ all) one.number)
          (at_second new.acceptors.items new.vaults.items one.place one.now one.at_now),
      one.why.cause failed,
    ));
  }
    where
      here : (n place disk : ℕ) → n ≡ 64 → disk ≡ 64 + place → n + place ≡ disk
      here n place disk all is = omega (arith, all, is)

  -- ---- what it is to the caller
  pub closed_unknown : (members : List ℕ) (old new : Rack D) (fault : ReopenFault) → RackGivesNoLength m old new fault → IsWhyClosed m members old new fault
  closed_unknown members old new (reopen.DiskFault disk) gives = gives.why
  closed_unknown members old new reopen.NoMemory gives = tt
  closed_unknown members old new (reopen.Foreign disk at) gives = absurd gives.why
  closed_unknown members old new (reopen.TooManyKeys keys) gives = absurd gives.why
  closed_unknown members old new (reopen.LostDisk disk) gives = absurd gives.why
  closed_unknown members old new (reopen.Spent disk) gives = absurd gives.why

  pub stops_asked : (members : List ℕ) (old new : Rack D) → m.tells → AreAskedAtMost m old.acceptors.items new.acceptors.items → StopsWithinOpening m members old new
  stops_asked members old new told asked = within (before_giving (λ id was now l member at at_now leaves. left_before was now l told (asked.each id was now at at_now) leaves))

  pub others_asked : (members : List ℕ) (old new : List D) → AreAskedAtMost m old new → OthersAreAsked m members old new
  others_asked members old new asked = λ id was now other at at_now. asked.each id was now at at_now

  -- ---- what happens after all lengths are told
  module _ (members filled vaults : List ℕ) (old asked : Rack D) (lengths : AreLengthsOf m filled vaults old asked) where
    acceptors_asked : AreAskedAtMost m old.acceptors.items asked.acceptors.items
    acceptors_asked = found_asked filled old.acceptors.items asked.acceptors.items lengths.of_acceptors

    pub may_be_since : (left : ℕ → Contents) → m.tells → MayBeLeft (leaves_of m.may_leave) members asked.acceptors.items left → MayBeLeft (leaves_of m.may_leave) members old.acceptors.items left
    may_be_since left told may_be = λ id was member at.
        let now = there_too asked.acceptors.items old.acceptors.items (sym acceptors_asked.places) id was at in
        left_before was now.0 (Ok (left id)) told (acceptors_asked.each id was now.0 at now.1) (may_be id now.0 member now.1)

    -- a disk of the rack as it was
    was_in : (disk : ℕ) (now : D) → IsAt (disks_in asked) disk now → (was : D) × IsAt (disks_in old) disk was × IsAskedForLength m was now
    was_in disk now at = elim (at_either asked.acceptors.items asked.vaults.items disk now at) [
      | inl first ↦
          let it = lengths.of_acceptors.each disk now first in
          (it.0, at_first old.acceptors.items old.vaults.items disk it.0 it.1, it.2.asked)
      | inr second ↦
          let it = lengths.of_vaults.each second.0 now second.2 in (
            it.0,
            subst (λ (n : ℕ). IsAt (disks_in old) n it.0) (here (length old.acceptors.items) (length asked.acceptors.items) second.0 disk lengths.of_acceptors.places second.1)
                (at_second old.acceptors.items old.vaults.items second.0 it.0 it.1),
            it.2.asked,
          )
    ]
      where
        here : (n a place number : ℕ) → a ≡ n → a + place ≡ number → n + place ≡ number
        here n a place number same is = omega (arith, same, is)

    foreign_since : (new : Rack D) (disk at : ℕ) → IsForeignDisk m members asked new disk at → IsForeignDisk m members old new disk at
    foreign_since new disk at (no_shelf now member at_now leaves) =
        let it = lengths.of_acceptors.each disk now at_now in
        no_shelf it.0 member it.1 (λ told. left_before it.0 now (Err at) told it.2.asked (leaves told))
    foreign_since new disk at (no_vault now high at_now is) = no_vault now high at_now is

    pub closed_since : (new : Rack D) (fault : ReopenFault) → IsWhyNotOpened m members asked new fault → IsWhyClosed m members old new fault
    closed_since new (reopen.Foreign disk at) why = foreign_since new disk at why
    closed_since new (reopen.TooManyKeys keys) why = record { left = why.left; may_be = λ told. may_be_since why.left told (why.may_be told); many = why.many }
    closed_since new (reopen.LostDisk disk) why = absurd why
    closed_since new (reopen.Spent disk) why = why
    closed_since new (reopen.DiskFault disk) why =
        let it = was_in disk why.0 why.2 in
        (it.0, why.1, it.1, why.3, rose_since (m.faults it.0) (m.faults why.0) (m.faults why.1) it.2.never_falls why.4)
    closed_since new reopen.NoMemory why = tt

    pub stops_since : (new : Rack D) → m.tells → StopsWithinGiving (leaves_of m.may_leave) members asked.acceptors.items new.acceptors.items → StopsWithinOpening m members old new
    stops_since new told (before_giving leave) = within (before_giving (λ id was now l member at at_now leaves.
        let mid = there_too asked.acceptors.items old.acceptors.items (sym acceptors_asked.places) id was at in
        left_before was mid.0 l told (acceptors_asked.each id was mid.0 at mid.1) (leave id mid.0 now l member mid.1 at_now leaves)))
    stops_since new told (in_giving left may_be between) = within (in_giving left (may_be_since left told may_be) between)

    pub others_since : (new : Rack D) → OthersStay members asked.acceptors.items new.acceptors.items → OthersAreAsked m members old.acceptors.items new.acceptors.items
    others_since new stay = λ id was now other at at_now. acceptors_asked.each id was now at (sym (stay id other) ∙ at_now)
