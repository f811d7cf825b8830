-- The entries of given slots, which are put one after another.
use Rattle.std.proofs.Common.{◌≡◌, ℕ, suc, ◌≤◌, ◌+◌, Bool, true, false, cond, List, [], ◌∷◌, map, length, None, Some, inl, inr, refl, sym, ap, ◌∙◌, arith}
use Rattle.std.specs.Prelude.{◌⊎◌, Option, ◌&&◌, is_some}
use lib.Dec.{T}
use Rattle.std.specs.List.{AllByRecursion}
use Rattle.std.specs.List.Sorted.{IsStrictlySortedBy}
use Rattle.std.specs.Ordering.{nat_cmp, is_lt, eq_by_cmp}
use Rattle.std.specs.Cmp.{eq_by_cmp_equiv}
use Rattle.std.specs.Cmp.Lexicographic.{slice_cmp, nat_list_cmp_total}
use Rattle.std.specs.FinMap as finite
use Rattle.std.specs.FinMap.Entries.{is_sorted, below_all}
use Rattle.std.specs.declared.cmp.Ordering.{Ordering}
use Rattle.std.specs.declared.cmp.Ordering.TheVariants.{Less, Equal, Greater}
use Rattle.std.proofs.lemmas.Map.Keys.{IsDistinct-from_sorted}
use Rattle.std.proofs.lemmas.Map.Made.{length-le_from_is_member}
use Rattle.cas_slot.specs.declared.slot.Slot.{Slot}
use Rattle.cas_slot.specs.declared.slots.TheConstants.{MOST_SLOTS}
use Rattle.cas_slot.specs.Contents.{Contents, kept_at}
use Rattle.cas_slot.specs.Slots.{Slots, slot_at, with_slot, slot_count, IsFullFor}
use Rattle.cas_slot.proofs.SlotsLemmas.{slot_at-with_slot_other}
use Rattle.cas_restore.specs.Restored.{IsBetween, HasNoOthers, with_slots}
use Rattle.cas_survey.proofs.Keys.{is_one_of, same_key, some_or_none}
use Rattle.cas_restore.proofs.Towards.{at_key}

-- at each key stands what these slots have there, or the entries that follow have it
abbrev pub StandsOrFollows : Slots → Contents → List (List ℕ × Slot) → Type 0
StandsOrFollows slots contents entries = (q : List ℕ) → (kept_at contents q ≡ slot_at slots q) ⊎ (finite.find (slice_cmp nat_cmp) q entries ≡ slot_at slots q)

pub all_follow : (entries : List (List ℕ × Slot)) (contents : Contents) → StandsOrFollows (finite.from_entries entries) contents entries
all_follow entries contents q = inr (sym (finite.get-from_entries nat_list_cmp_total entries q))

stays : (old : Contents) (slots : Slots) (new : Contents) (q : List ℕ) → IsBetween old slots new → kept_at old q ≡ slot_at slots q → kept_at new q ≡ slot_at slots q
stays old slots new q between is = elim (between.each q) [ inl kept ↦ kept ∙ is | inr given ↦ given ]

by_first : (slots : Slots) (new : Contents) (q key : List ℕ) (slot : Slot) (rest : List (List ℕ × Slot)) (b : Bool) → eq_by_cmp (slice_cmp nat_cmp) q key ≡ b → kept_at new key ≡ Some slot
    → cond b (Some slot) (finite.find (slice_cmp nat_cmp) q rest) ≡ slot_at slots q → (kept_at new q ≡ slot_at slots q) ⊎ (finite.find (slice_cmp nat_cmp) q rest ≡ slot_at slots q)
by_first slots new q key slot rest true same put is = inl (ap (kept_at new) (same_key q key same) ∙ put ∙ is)
by_first slots new q key slot rest false other put is = inr is

-- once the next entry is put
pub fewer_follow : (slots : Slots) (old new : Contents) (entries : List (List ℕ × Slot)) (key : List ℕ) (slot : Slot) (rest : List (List ℕ × Slot)) → entries ≡ (key, slot) ∷ rest
    → IsBetween old slots new
    → kept_at new key ≡ Some slot → StandsOrFollows slots old entries → StandsOrFollows slots new rest
fewer_follow slots old new entries key slot rest first between put before q = elim (before q) [
  | inl is ↦ inl (stays old slots new q between is)
  | inr follows ↦ by_first slots new q key slot rest (eq_by_cmp (slice_cmp nat_cmp) q key) refl put (sym (ap (finite.find (slice_cmp nat_cmp) q) first) ∙ follows)
]

-- once none follows, these slots stand there and no others
pub all_stand : (slots : Slots) (old new : Contents) (entries : List (List ℕ × Slot)) → entries ≡ [] → IsBetween old slots new → HasNoOthers slots new → StandsOrFollows slots new entries
    → new ≡ with_slots old slots
all_stand slots old new entries none between no_others stands =
    ap (λ (s : Slots). record { slots = s; ages = new.ages }) (finite.same_map nat_list_cmp_total (finite.slice_cmp-IsAntisymmetric finite.nat_cmp-IsAntisymmetric) new.slots slots each)
    ∙ ap (λ (a : _). record { slots = slots; ages = a }) between.ages
  where
    each : (q : List ℕ) → slot_at new.slots q ≡ slot_at slots q
    each q = elim (stands q) [
      | inl is ↦ is
      | inr follows ↦ let lacked : slot_at slots q ≡ None = sym follows ∙ ap (finite.find (slice_cmp nat_cmp) q) none in no_others q lacked ∙ sym lacked
    ]

-- ---- room
first : (a b : Bool) → T (a && b) → T a
first true b h = tt
first false b h = absurd h

second : (a b : Bool) → T (a && b) → T b
second true b h = h
second false b h = absurd h

less : (o : Ordering) → T (is_lt o) → o ≡ Less
less Less h = refl
less Equal h = absurd h
less Greater h = absurd h

above_all : (key : List ℕ) (entries : List (List ℕ × Slot)) → T (below_all (slice_cmp nat_cmp) key entries) → AllByRecursion (λ y. slice_cmp nat_cmp key y ≡ Less) (map (λ e. e.0) entries)
above_all key [] h = tt
above_all key (e ∷ es) h = (less _ (first _ _ h), above_all key es (second _ _ h))

rise : (entries : List (List ℕ × Slot)) → T (is_sorted (slice_cmp nat_cmp) entries) → IsStrictlySortedBy (slice_cmp nat_cmp) (map (λ e. e.0) entries)
unfolding IsStrictlySortedBy
rise [] h = tt
rise (e ∷ es) h = (above_all e.0 es (first _ _ h), rise es (second _ _ h))

as_many : (entries : List (List ℕ × Slot)) → length (map (λ e. e.0) entries) ≡ length entries
as_many [] = refl
as_many (e ∷ es) = ap suc (as_many es)

count_of_keys : (slots : Slots) → length (finite.keys slots) ≡ slot_count slots
count_of_keys slots = as_many (finite.entries slots) ∙ sym (finite.len-entries slots)

one_too : (a b : Slots) → ((q : List ℕ) → slot_at b q ≡ None → slot_at a q ≡ None) → (q : List ℕ) → is_one_of (finite.keys a) q ≡ true → is_one_of (finite.keys b) q ≡ true
one_too a b within q one = sym (finite.contains_key-keys b q) ∙ elim (some_or_none (slot_at b q)) [
  | inl some ↦ some
  | inr none ↦ absurd (let no : false ≡ true = sym (ap is_some (within q none)) ∙ (finite.contains_key-keys a q ∙ one) in cc no)
]

-- slots whose keys are all among those of others are no more than these
pub no_more : (a b : Slots) → ((q : List ℕ) → slot_at b q ≡ None → slot_at a q ≡ None) → slot_count a ≤ slot_count b
no_more a b within =
    let some : length (finite.keys a) ≤ length (finite.keys b) =
    length-le_from_is_member (eq_by_cmp_equiv nat_list_cmp_total) (finite.keys a) (finite.keys b)
    (IsDistinct-from_sorted (slice_cmp nat_cmp) (finite.keys a) (rise (finite.entries a) (finite.entries_sorted a))) (one_too a b within) in
    omega (arith, some, count_of_keys a, count_of_keys b)

-- there is room for a key of these slots where no other is kept
pub has_room : (slots : Slots) (contents : Contents) (key : List ℕ) (slot : Slot) → slot_count slots ≤ MOST_SLOTS → HasNoOthers slots contents → slot_at slots key ≡ Some slot
    → IsFullFor contents.slots key → ⊥
has_room slots contents key slot few no_others given full =
    let count = slot_count contents.slots in
    let counted : slot_count (with_slot contents.slots key slot) ≡ cond (is_some (slot_at contents.slots key)) count (count + 1) = finite.len-insert nat_list_cmp_total contents.slots key slot in
    let one_more : slot_count (with_slot contents.slots key slot) ≡ count + 1 = counted ∙ ap (λ (o : Option Slot). cond (is_some o) count (count + 1)) full.new_key in
    omega (arith, one_more, no_more (with_slot contents.slots key slot) slots within, few, full.no_room)
  where
    within : (q : List ℕ) → slot_at slots q ≡ None → slot_at (with_slot contents.slots key slot) q ≡ None
    within q lacked = elim (at_key q key) [
      | inl same ↦ absurd (let no : Some slot ≡ None = sym given ∙ ap (slot_at slots) (sym same) ∙ lacked in cc no)
      | inr other ↦ slot_at-with_slot_other contents.slots key slot q other ∙ no_others q lacked
    ]
