-- A shelf that is started, crashed or reopened.
use Rattle.std.specs.Prelude.{slice_get, unwrap_or}
use Rattle.std.specs.FinMap as map
use Rattle.std.specs.Ordering.{nat_cmp}
use Rattle.std.specs.Cmp.Lexicographic.{slice_cmp}
use Rattle.std.proofs.Common.{◌≡◌, ⊎_elim, ℕ, ◌+◌, ◌<◌, true, false, List, [], ◌∷◌, Option, Some, None, Ok, Err, sym, ap, subst, ◌∙◌, arith}
use Rattle.std.proofs.Math.ListN.{set}
use Rattle.std.proofs.lemmas.Option.{slice_get_within}
use Rattle.cas_slot.specs.declared.ages.Ages.{Ages}
use Rattle.cas_slot.specs.declared.slot.Slot.{Slot}
use Rattle.cas_slot.specs.Contents.{Contents, kept_at}
use Rattle.cas_slot.specs.Limits.{AllBallotsFit}
use Rattle.cas_slot.specs.Slots.{no_slots, slot_count}
use Rattle.cas_slot.proofs.LimitLemmas.{nothing_fits}
use Rattle.cas_cells.specs.Format.{count_in, narrow_in, wide_in, narrow_told, wide_told, foreign_at, IsImageOf, IsBeforeOrAfter}
use Rattle.cas_cells.specs.Held.{IsRow}
use Rattle.cas_disk_shelf.specs.declared.codec.Head.{Head}
use Rattle.cas_disk_shelf.specs.declared.memory.Loaded.{Loaded}
use Rattle.cas_disk_shelf.specs.declared.memory.Memory.{Memory}
use Rattle.cas_disk_shelf.specs.Head.{head_spelling, FitsHead}
use Rattle.cas_disk_shelf.specs.HeadLaws.{narrow-told, wide-told}
use Rattle.cas_disk_shelf.specs.Image.{left_by, left_in, left_on, place_on}
use Rattle.cas_disk_shelf.specs.Memory.{cell_of, is_free, head_for, CellsAreCounted, IsMemoryOf, IsMoving, IsReadFrom}
use Rattle.cas_disk_shelf.specs.ShelfLaws.{read_spelled}
use Rattle.cas_disk_shelf.proofs.Changing.{first_told}
use Rattle.cas_disk_shelf.proofs.Lists.{get_set_other}
use Rattle.cas_disk_shelf.proofs.Narrow.{loaded_same, shown_is, shown_of}
use Rattle.cas_disk_shelf.proofs.Using.{row_first, tells_same}

-- ---- what is no shelf

-- a disk whose frames are wrong
pub frames_wrong : (disk : List ℕ) (at : ℕ) → foreign_at disk ≡ Some at → left_on disk ≡ Err at
unfolding left_on
frames_wrong disk at wrong = ap (λ (o : Option ℕ). left_by o disk) wrong

-- a disk of whose cells a payload is wrong
pub payloads_wrong : (row : List (Option (List ℕ))) (disk now : List ℕ) (at : ℕ) → now ≡ disk → IsImageOf row disk → left_in (place_on now) row ≡ Err at → left_on disk ≡ Err at
unfolding left_on
payloads_wrong row disk now at same stands wrong =
    ap (λ (o : Option ℕ). left_by o disk) stands.sound
    ∙ ap (left_in (place_on disk)) stands.same
    ∙ ap (λ (l : List ℕ). left_in (place_on l) row) (sym same)
    ∙ wrong

-- ---- a new shelf

-- such a head takes the place of one of the old form
pub renewed : (row : List (Option (List ℕ))) (payload : List ℕ) (loaded : Loaded) → IsRow row → payload ≡ head_spelling (head_for row loaded.memory.held.ages) → IsReadFrom row loaded → IsMoving (set row 0 (Some payload)) loaded
renewed row payload loaded is_row spells read =
    let told = first_told row payload is_row in
    let same = tells_same row loaded.memory.held.ages payload read.spelled.fits spells in
    let narrow : narrow_in (set row 0 (Some payload)) ≡ narrow_in row = told.0 ∙ same.narrow in
    let wide : wide_in (set row 0 (Some payload)) ≡ wide_in row = told.1 ∙ same.wide in
    let head : head_for row loaded.memory.held.ages ≡ head_for (set row 0 (Some payload)) loaded.memory.held.ages = (λ t. record { narrow = sym narrow t; count = sym wide t; ages = loaded.memory.held.ages }) in
    record {
      fits = subst FitsHead head read.spelled.fits;
      head = told.2 ∙ spells ∙ ap head_spelling head;
      behind = loaded_same row (set row 0 (Some payload)) (count_in row) (count_in (set row 0 (Some payload))) loaded narrow (λ t. narrow t + wide t)
          (λ i pos. ap (λ (o : Option (Option (List ℕ))). unwrap_or o None) (get_set_other row 0 i (Some payload) (omega (arith, pos)))) read.behind;
    }

-- a crash within that leaves the same contents
pub renewing : (row : List (Option (List ℕ))) (payload : List ℕ) (loaded : Loaded) (disk : List ℕ) → IsRow row → payload ≡ head_spelling (head_for row loaded.memory.held.ages) → IsReadFrom row loaded → IsBeforeOrAfter row (set row 0 (Some payload)) disk → left_on disk ≡ Ok loaded.memory.held
renewing row payload loaded disk is_row spells read either = ⊎_elim
    (λ before. read_spelled row loaded.memory.held disk is_row read.read read.behind.show read.behind.few before)
    (λ after. shown_is (set row 0 (Some payload)) loaded.memory.held disk
    (shown_of (set row 0 (Some payload)) loaded (row_first row payload (tells_same row loaded.memory.held.ages payload read.spelled.fits spells) is_row) (renewed row payload loaded is_row spells read)) after)
    either

no_slots_behind : (payload : List ℕ) (i : ℕ) (cell : Option (List ℕ)) → 0 < i → slice_get (Some payload ∷ []) i ≡ Some cell → ⊥
no_slots_behind payload i cell pos there = let low = slice_get_within (Some payload ∷ []) i cell there in omega (arith, low, pos)

-- the memory of a row that is a head alone
pub new_memory : (head : Head) (payload : List ℕ) (row : List (Option (List ℕ))) (memory : Memory) → FitsHead head → head.narrow ≡ 0 → head.count ≡ 0 → payload ≡ head_spelling head → row ≡ Some payload ∷ []
    → memory.held ≡ record { slots = no_slots; ages = head.ages } → ((key : List ℕ) → cell_of memory key ≡ None) → ((i : ℕ) → is_free memory i ≡ false) → CellsAreCounted memory 0 → IsMemoryOf row memory
new_memory head payload row memory fits none none' spells is held keys free counted =
    let narrow : narrow_told payload ≡ head.narrow = ap narrow_told spells ∙ narrow-told head fits in
    let wide : wide_told payload ≡ head.count = ap wide_told spells ∙ wide-told head fits in
    let same : head ≡ head_for (Some payload ∷ []) memory.held.ages = (λ t. record { narrow = sym narrow t; count = sym wide t; ages = sym (ap (λ (c : Contents). c.ages) held) t }) in
    let empty : slot_count no_slots ≡ 0 = map.len-empty (slice_cmp nat_cmp) Slot in
    let alone : IsMemoryOf (Some payload ∷ []) memory = record {
      shown = record {
        fits = subst FitsHead same fits;
        head = spells ∙ ap head_spelling same;
        few = omega (arith, ap (λ (c : Contents). slot_count c.slots) held, empty);
        in_step = record {
          each = λ i cell pos there. absurd (no_slots_behind payload i cell pos there);
          free = λ i e. absurd (let no : true ≡ false = sym e ∙ free i in cc);
          held = λ key i e. absurd (let no : None ≡ Some i = sym (keys key) ∙ e in cc);
          none = λ key e. ap (λ (c : Contents). kept_at c key) held ∙ map.get-empty (slice_cmp nat_cmp) key;
        };
      };
      counted = subst (CellsAreCounted memory) (omega (arith, wide, none')) counted;
    } in
    subst (λ (l : List (Option (List ℕ))). IsMemoryOf l memory) (sym is) alone

pub new_fits : (ages : Ages) (held : Contents) → held ≡ record { slots = no_slots; ages = ages } → AllBallotsFit held
new_fits ages contents held = subst AllBallotsFit (sym held) (nothing_fits ages)
