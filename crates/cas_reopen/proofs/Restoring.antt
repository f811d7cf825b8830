-- Shelves of members that are taken up, and then given what they hold together.
use Rattle.std.proofs.Common.{◌≡◌, ◌∙◌, ℕ, List, length, Ok, Err, ap, sym, subst, refl}
use Rattle.std.specs.Prelude.{slice_get, Result, IfOk, IfErr}
use Rattle.cas_slot.specs.declared.fault.ShelfFault.{ShelfFault}
use Rattle.cas_slot.specs.declared.fault.ShelfFault.TheVariants as shelf
use Rattle.cas_slot.specs.Contents.{Contents}
use Rattle.cas_slot.specs.Shelf.{Left}
use Rattle.cas_model.specs.Openings.{Opening}
use Rattle.cas_survey.specs.Survey.{kept_of, kept_on, AreUp}
use Rattle.cas_restore.specs.declared.members.RestoreFault.{RestoreFault}
use Rattle.cas_restore.specs.Members.{MembersBecome}
use Rattle.cas_restore.specs.TakingUp.{IsShelfTakenUp, LeavesNoMore, OneIsRefused}
use Rattle.cas_restore.proofs.Faults.{rose_since}
use Rattle.cas_restore.proofs.Placing.{there_too}
use Rattle.cas_reopen.specs.declared.fault.ReopenFault.{ReopenFault}
use Rattle.cas_reopen.specs.declared.fault.ReopenFault.TheVariants as reopen
use Rattle.cas_reopen.specs.Faults.{fault_on, fault_of_member, MayBeLeft, IsWhyNotSettled, IsWhyNotRestored}
use Rattle.cas_reopen.specs.Shelves.{AreSettled, AreRestored, StaysWithin, StopsWithinGiving}
use Rattle.cas_reopen.specs.Shelves.StaysWithin.{untouched, between}
use Rattle.cas_reopen.specs.Shelves.StopsWithinGiving.{before_giving, in_giving}

pub if_ok : {T F : Type 0} (P Q : T → Type 0) (result : Result T F) → ((value : T) → P value → Q value) → IfOk result P → IfOk result Q
if_ok P Q (Ok value) turn holds = turn value holds
if_ok P Q (Err fault) turn holds = tt

pub if_err : {T F : Type 0} (P Q : F → Type 0) (result : Result T F) → ((fault : F) → P fault → Q fault) → IfErr result P → IfErr result Q
if_err P Q (Ok value) turn holds = tt
if_err P Q (Err fault) turn holds = turn fault holds

module _ {S : Type 0} (tells : Type 0) (is_up : S → Type 0) (contents : S → Contents) (may_leave : S → Left → Type 0) (fault_count : S → ℕ) (members : List ℕ) (old mid : List S)
    (leaves : MembersBecome members (LeavesNoMore tells may_leave fault_count) old mid) (taken : MembersBecome members (IsShelfTakenUp tells contents is_up may_leave) old mid) where
  pub up_then : AreUp is_up members mid
  up_then id now member at = let was = there_too old mid taken.places id now at in (taken.each id was.0 now member was.1 at).up

  may_be : tells → MayBeLeft may_leave members old (kept_on contents mid)
  may_be told id was member at =
      let now = there_too mid old (sym taken.places) id was at in
      subst (λ (c : Contents). may_leave was (Ok c)) (sym (ap (kept_of contents) now.1)) ((taken.each id was now.0 member at now.1).left told)

  pub restored_then : (new : List S) (floors : List Opening) (past : ℕ) → AreSettled is_up contents members mid new floors past → AreRestored tells is_up contents may_leave members old new floors past
  restored_then new floors past settled = record {
    left = kept_on contents mid;
    may_be = may_be;
    given = record {
      found = settled.found;
      openings = settled.openings;
      few = settled.few;
      counter = settled.counter;
      limit = settled.limit;
      held = settled.held;
      others = λ id other. settled.others id other ∙ taken.others id other;
    };
  }

  pub stops_then : (new : List S) → tells → StaysWithin contents may_leave members mid new → StopsWithinGiving may_leave members old new
  stops_then new told (untouched same) = before_giving (λ id was now l member at at_now may.
      (leaves.each id was now member at (ap (λ (all : List S). slice_get all id) (sym same) ∙ at_now)).left told l may)
  stops_then new told (between given) = in_giving (kept_on contents mid) (may_be told) given

  pub why_then : (new : List S) (fault : ReopenFault) → length new ≡ length mid → IsWhyNotSettled contents fault_count members mid new fault
      → IsWhyNotRestored tells contents may_leave fault_count members old new fault
  why_then new (reopen.Foreign disk at) places why = (
    why.0,
    λ was at_was told.
        let m = there_too mid old (sym taken.places) disk was at_was in
        let n = there_too new mid (sym places) disk m.0 m.1 in
        absurd (why.1 m.0 n.0 m.1 n.1),
  )
  why_then new (reopen.TooManyKeys keys) places why = (kept_on contents mid, may_be, why)
  why_then new (reopen.DiskFault disk) places why = (
    why.0,
    λ was now at_was at_now.
        let m = there_too mid old (sym taken.places) disk was at_was in
        rose_since (fault_count was) (fault_count m.0) (fault_count now) (leaves.each disk was m.0 why.0 at_was m.1).never_falls (why.1 m.0 now m.1 at_now),
  )
  why_then new reopen.NoMemory places why = tt
  why_then new (reopen.LostDisk disk) places why = absurd why
  why_then new (reopen.Spent disk) places why = absurd why

-- ---- one that is refused
refused_by : {S : Type 0} (tells : Type 0) (contents : S → Contents) (may_leave : S → Left → Type 0) (fault_count : S → ℕ) (members : List ℕ) (old new : List S) (fault : RestoreFault)
    (kind : ShelfFault)
    → length new ≡ length old → fault.fault ≡ kind → OneIsRefused tells may_leave fault_count members fault old new → IsWhyNotRestored tells contents may_leave fault_count members old new
    (fault_on fault.member kind)
refused_by tells contents may_leave fault_count members old new fault shelf.DiskFault places is one = (one.member, λ was now at at_now. (one.refused was now at at_now).failed is)
refused_by tells contents may_leave fault_count members old new fault shelf.NoMemory places is one = tt
refused_by tells contents may_leave fault_count members old new fault shelf.Full places is one = tt
refused_by tells contents may_leave fault_count members old new fault (shelf.Foreign at) places is one = (
  one.member,
  λ was at_was told.
      let n = there_too new old (sym places) fault.member was at_was in
      (one.refused was n.0 at_was n.1).foreign at is told,
)

pub refused_then : {S : Type 0} (tells : Type 0) (contents : S → Contents) (may_leave : S → Left → Type 0) (fault_count : S → ℕ) (members : List ℕ) (old new : List S) (fault : RestoreFault)
    → length new ≡ length old → OneIsRefused tells may_leave fault_count members fault old new → IsWhyNotRestored tells contents may_leave fault_count members old new (fault_of_member fault)
refused_then tells contents may_leave fault_count members old new fault places one = refused_by tells contents may_leave fault_count members old new fault fault.fault places refl one
