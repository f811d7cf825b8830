-- What stands on a shelf that is brought to given slots, change by change.
use Rattle.std.proofs.Common.{◌≡◌, ℕ, Bool, true, false, List, None, Some, Ok, Err, inl, inr, refl, sym, ap, subst, ◌∙◌}
use Rattle.std.specs.Prelude.{◌⊎◌, Option, Result, OnOk, OnErr, is_some}
use Rattle.std.specs.Ordering.{nat_cmp, eq_by_cmp}
use Rattle.std.specs.Cmp.Lexicographic.{slice_cmp}
use Rattle.cas_slot.specs.declared.slot.Slot.{Slot}
use Rattle.cas_slot.specs.Contents.{Contents, with_kept, without_kept}
use Rattle.cas_slot.specs.Shelf.{Left, OnlyLeaves, IsOldOrNew}
use Rattle.cas_slot.specs.Slots.{Slots, slot_at}
use Rattle.cas_slot.proofs.SlotsLemmas.{slot_at-with_slot_same, slot_at-with_slot_other, slot_at-without_slot_same, slot_at-without_slot_other}
use Rattle.cas_survey.proofs.Keys.{same_key, own_key}
use Rattle.cas_restore.specs.Restored.{IsBetween, LeftBetween, MovesTowards}

-- ---- keys and options
by_test : (b : Bool) (q key : List ℕ) → eq_by_cmp (slice_cmp nat_cmp) q key ≡ b → (q ≡ key) ⊎ (q ≡ key → ⊥)
by_test true q key e = inl (same_key q key e)
by_test false q key e = inr (λ same. let yes : eq_by_cmp (slice_cmp nat_cmp) q key ≡ true = rw same (own_key key) in absurd cc)

pub at_key : (q key : List ℕ) → (q ≡ key) ⊎ (q ≡ key → ⊥)
at_key q key = by_test (eq_by_cmp (slice_cmp nat_cmp) q key) q key refl

pub none_of : {A : Type 0} (o : Option A) → is_some o ≡ false → o ≡ None
none_of None e = refl
none_of (Some a) e = absurd cc

pub ok_or_err : {T E : Type 0} {P Q : Type 0} (r : Result T E) → OnOk r P → OnErr r Q → Q ⊎ P
ok_or_err (Ok t) p q = inr p
ok_or_err (Err e) p q = inl q

-- ---- contents
pub between_itself : (old : Contents) (slots : Slots) → IsBetween old slots old
between_itself old slots = record { each = λ key. inl refl; ages = refl }

pub between_then : (old mid new : Contents) (slots : Slots) → IsBetween old slots mid → IsBetween mid slots new → IsBetween old slots new
between_then old mid new slots first later = record {
  each = λ key. elim (later.each key) [
    | inl kept ↦ elim (first.each key) [ inl before ↦ inl (kept ∙ before) | inr given ↦ inr (kept ∙ given) ]
    | inr given ↦ inr given
  ];
  ages = later.ages ∙ first.ages;
}

pub between_put : (old : Contents) (slots : Slots) (key : List ℕ) (slot : Slot) → slot_at slots key ≡ Some slot → IsBetween old slots (with_kept old key slot)
between_put old slots key slot given = record {
  each = λ q. elim (at_key q key) [
    | inl same ↦ inr (ap (slot_at (with_kept old key slot).slots) same ∙ slot_at-with_slot_same old.slots key slot ∙ sym given ∙ ap (slot_at slots) (sym same))
    | inr other ↦ inl (slot_at-with_slot_other old.slots key slot q other)
  ];
  ages = refl;
}

pub between_drop : (old : Contents) (slots : Slots) (key : List ℕ) → slot_at slots key ≡ None → IsBetween old slots (without_kept old key)
between_drop old slots key lacked = record {
  each = λ q. elim (at_key q key) [
    | inl same ↦ inr (ap (slot_at (without_kept old key).slots) same ∙ slot_at-without_slot_same old.slots key ∙ sym lacked ∙ ap (slot_at slots) (sym same))
    | inr other ↦ inl (slot_at-without_slot_other old.slots key q other)
  ];
  ages = refl;
}

old_or_new : (old new : Contents) (slots : Slots) → IsBetween old slots new → (left : Left) → IsOldOrNew old new left → LeftBetween old slots left
old_or_new old new slots between left (inl is) = (old, is, between_itself old slots)
old_or_new old new slots between left (inr is) = (new, is, between)

-- ---- shelves
module _ {S : Type 0} (tells : Type 0) (contents : S → Contents) (may_leave : S → Left → Type 0) (slots : Slots) where
  -- a shelf that was not changed
  pub towards_itself : (shelf : S) → (tells → OnlyLeaves (contents shelf) (may_leave shelf)) → MovesTowards tells contents may_leave slots shelf shelf
  towards_itself shelf only = record {
    between = between_itself (contents shelf) slots;
    left = λ t left may. (contents shelf, only t left may, between_itself (contents shelf) slots);
  }

  pub towards_then : (old mid new : S) → MovesTowards tells contents may_leave slots old mid → MovesTowards tells contents may_leave slots mid new → MovesTowards tells contents may_leave slots old new
  towards_then old mid new first later = record {
    between = between_then (contents old) (contents mid) (contents new) slots first.between later.between;
    left = λ t left may. let l = later.left t left may in (l.0, l.1, between_then (contents old) (contents mid) l.0 slots first.between l.2);
  }

  -- a change that leaves the old contents or the new ones
  pub towards_by : (old new : S) (after : Contents) → IsBetween (contents old) slots after → (contents new ≡ contents old) ⊎ (contents new ≡ after)
      → (tells → (left : Left) → may_leave new left → IsOldOrNew (contents old) after left) → MovesTowards tells contents may_leave slots old new
  towards_by old new after between now left = record {
    between = elim now [
      | inl same ↦ subst (IsBetween (contents old) slots) (sym same) (between_itself (contents old) slots)
      | inr changed ↦ subst (IsBetween (contents old) slots) (sym changed) between
    ];
    left = λ t l may. old_or_new (contents old) after slots between l (left t l may);
  }
