-- Members' shelves that are started one after another, and the floors of none.
use Rattle.std.proofs.Common.{◌≡◌, ◌≤◌, ◌<◌, ℕ, List, [], length, refl, sym, ap, subst, ◌∙◌, arith, true, false}
use Rattle.std.specs.Prelude.{slice_get, Some, None, ◌^◌}
use Rattle.std.specs.Cmp.Lexicographic.{slice_cmp}
use Rattle.std.specs.FinMap as map
use Rattle.std.specs.Ordering.{nat_cmp}
use Rattle.cas_base.specs.Faults.{Rose}
use Rattle.cas_ballot.specs.Members.{has_member}
use Rattle.cas_slot.specs.Contents.{Contents, nothing, kept_at}
use Rattle.cas_slot.specs.Shelf.{Left}
use Rattle.cas_slot.specs.declared.fault.ShelfFault.{ShelfFault}
use Rattle.cas_slot.specs.declared.fault.ShelfFault.TheVariants as shelf
use Rattle.cas_model.specs.Openings.{Opening, HoldsFloors}
use Rattle.cas_model.proofs.Places.{contains_none}
use Rattle.cas_restore.specs.declared.members.RestoreFault.{RestoreFault}
use Rattle.cas_restore.specs.Members.{MembersBecome, ChangesAt}
use Rattle.cas_restore.proofs.Placing.{BecameBelow, next_becomes, there_too}
use Rattle.cas_reopen.specs.Faults.{fault_on, fault_of_member, IsWhyNotRestored}
use Rattle.cas_reopen.specs.Ready.{OthersStay, AreReadyFor}
use Rattle.cas_reopen.specs.Shelves.{AreRestored}
use Rattle.cas_reopen.specs.Starting.{HasBegun, CountsFaults, HasNotBegun, OneDoesNotBegin}

pub counts_then : {S : Type 0} (fault_count : S → ℕ) (old mid new : S) → CountsFaults fault_count old mid → CountsFaults fault_count mid new → CountsFaults fault_count old new
counts_then fault_count old mid new first later = omega (arith, first, later)

pub one_does_not_begin : {S : Type 0} (contents : S → Contents) (is_up : S → Type 0) (fault_count : S → ℕ) (members : List ℕ) (old mid new : List S) (number : ℕ) (fault : RestoreFault)
    → has_member members number ≡ true → fault.member ≡ number → ChangesAt number (HasNotBegun fault_count fault) mid new → BecameBelow (HasBegun contents is_up) members old number mid
    → OneDoesNotBegin fault_count members fault old new
one_does_not_begin contents is_up fault_count members old mid new number fault member is change before = record {
  member = ap (has_member members) is ∙ member;
  begins = λ was now at at_now. next_becomes (HasBegun contents is_up) members old (HasNotBegun fault_count fault) number mid new change before was now (ap (slice_get old) (sym is) ∙ at)
      (ap (slice_get new) (sym is) ∙ at_now);
}

-- ---- shelves that are ready
none_kept : (key : List ℕ) → kept_at nothing key ≡ None
none_kept key = map.get-empty (slice_cmp nat_cmp) key

holds_none : (kept : Contents) → kept ≡ nothing → HoldsFloors [] kept
holds_none kept is = subst (HoldsFloors []) (sym is) (record { each = λ floor there. absurd (contains_none there); no_other = λ key none. none_kept key })

pub ready_begun : {S : Type 0} (is_up : S → Type 0) (contents : S → Contents) (members : List ℕ) (old new : List S) → MembersBecome members (HasBegun contents is_up) old new
    → AreReadyFor is_up contents members old new [] 0
ready_begun {S} is_up contents members old new became = record {
  places = became.places;
  openings = record { some = λ floor there. absurd (contains_none there); differ = tt };
  few = omega arith;
  limit = omega arith;
  held = record {
    up = λ id now member at. (begun id now member at).1.up;
    holds = λ id now member at. holds_none (contents now) (begun id now member at).1.holds;
  };
  others = became.others;
}
  where
    begun : (id : ℕ) (now : S) → has_member members id ≡ true → slice_get new id ≡ Some now → (was : S) × HasBegun contents is_up was now
    begun id now member at = let was = there_too old new became.places id now at in (was.0, became.each id was.0 now member was.1 at)

pub ready_restored : {S : Type 0} (tells : Type 0) (is_up : S → Type 0) (contents : S → Contents) (may_leave : S → Left → Type 0) (members : List ℕ) (old new : List S) (floors : List Opening)
    (past : ℕ)
    → length new ≡ length old → AreRestored tells is_up contents may_leave members old new floors past → AreReadyFor is_up contents members old new floors past
ready_restored tells is_up contents may_leave members old new floors past places restored = record {
  places = places;
  openings = restored.given.openings;
  few = restored.given.few;
  limit = restored.given.limit;
  held = restored.given.held;
  others = restored.given.others;
}

-- ---- one that does not start
refused_start_by : {S : Type 0} (tells : Type 0) (contents : S → Contents) (may_leave : S → Left → Type 0) (fault_count : S → ℕ) (members : List ℕ) (old new : List S) (fault : RestoreFault)
    (kind : ShelfFault)
    → length new ≡ length old → fault.fault ≡ kind → OneDoesNotBegin fault_count members fault old new
    → IsWhyNotRestored tells contents may_leave fault_count members old new (fault_on fault.member kind)
refused_start_by tells contents may_leave fault_count members old new fault shelf.DiskFault places is one = (one.member, λ was now at at_now. (one.begins was now at at_now).failed is)
refused_start_by tells contents may_leave fault_count members old new fault shelf.NoMemory places is one = tt
refused_start_by tells contents may_leave fault_count members old new fault shelf.Full places is one = tt
refused_start_by tells contents may_leave fault_count members old new fault (shelf.Foreign at) places is one = (
  one.member,
  λ was at_was told.
      let n = there_too new old (sym places) fault.member was at_was in
      absurd ((one.begins was n.0 at_was n.1).not_foreign at is),
)

pub refused_start : {S : Type 0} (tells : Type 0) (contents : S → Contents) (may_leave : S → Left → Type 0) (fault_count : S → ℕ) (members : List ℕ) (old new : List S) (fault : RestoreFault)
    → length new ≡ length old → OneDoesNotBegin fault_count members fault old new → IsWhyNotRestored tells contents may_leave fault_count members old new (fault_of_member fault)
refused_start tells contents may_leave fault_count members old new fault places one = refused_start_by tells contents may_leave fault_count members old new fault fault.fault places refl one
