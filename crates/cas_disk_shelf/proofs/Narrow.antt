-- The move of slots from narrow cells to wide ones: what each step leaves of the cells, and that a crash within it leaves the contents.
use Rattle.std.specs.Prelude.{nat_eq, slice_get, unwrap_or}
use Rattle.std.specs.Map.{lookup}
use Rattle.std.specs.BTreeSet.{btree_set_len}
use Rattle.std.specs.Cmp.Lexicographic.{pointwise, nat_list_eq_equiv}
use Rattle.indexmap.specs.IndexMap.{index_map_len}
use Rattle.std.proofs.Common.{◌≡◌, ◌≢◌, ⊎_elim, ℕ, zero, suc, ◌+◌, ◌-◌, ◌<◌, ◌≤◌, Bool, true, false, cond, List, [], ◌∷◌, ◌++◌, length, Option, Some, None, Result, Ok, refl, sym, ap, subst, ◌∙◌, arith, inl, inr}
use Rattle.std.proofs.Math.ListN.{set}
use Rattle.std.proofs.lemmas.Bool.{cases_lt}
use Rattle.std.proofs.lemmas.Option.{slice_get_within}
use Rattle.cas_slot.specs.declared.ages.Ages.{Ages}
use Rattle.cas_slot.specs.declared.slot.Slot.{Slot}
use Rattle.cas_slot.specs.Contents.{Contents}
use Rattle.cas_slot.specs.Slots.{Slots, slot_at, slot_count}
use Rattle.cas_disk.specs.Disk.{ContinuesOnly}
use Rattle.cas_disk.proofs.Moments.{started, then_on, weaker}
use Rattle.cas_cells.specs.Cells.{CellsStand, cells_of, disk_of}
use Rattle.cas_cells.specs.Length.{NotLonger}
use Rattle.cas_cells.specs.declared.cells.Cells.{Cells}
use Rattle.cas_cells.proofs.Survival.{crash_leaves}
use Rattle.cas_cells.specs.Format.{count_in, narrow_in, wide_in, head_in, grown, IsImageOf, IsBeforeOrAfter}
use Rattle.cas_cells.specs.Held.{IsRow}
use Rattle.cas_cells.proofs.Counting.{row_length}
use Rattle.cas_disk_shelf.specs.declared.memory.Loaded.{Loaded}
use Rattle.cas_disk_shelf.specs.Cell.{KeyedSlot}
use Rattle.cas_disk_shelf.specs.Head.{head_of, head_spelling, FitsHead}
use Rattle.cas_disk_shelf.specs.HeadLaws.{head_again}
use Rattle.cas_disk_shelf.specs.Image.{cell_in, entry_held, left_on, moved, removed}
use Rattle.cas_disk_shelf.specs.KeyLaws.{freed_own, freed_other, removed_own, removed_other, taken_own, taken_other}
use Rattle.cas_disk_shelf.specs.Memory.{alone_in, cell_of, is_free, head_for, freed, taken, AreCleared, AreCounted, AreKnown, CellHolds, InStep, CellIsKnown, IsLoadedFrom, IsMemoryOf, IsMoving, Show}
use Rattle.cas_disk_shelf.specs.ShelfLaws.{cell_is, get_some, read_spelled}
use Rattle.cas_disk_shelf.specs.ShowLaws.{IsStep, cleared_known, cleared_shows, next_step, nothing_known, nothing_shows, only_there, same_known, same_shows, twin_shows, wide_known}
use Rattle.cas_disk_shelf.proofs.Changing.{IsGrown, grown_head, head_behind, narrow_behind, wide_behind}
use Rattle.cas_disk_shelf.proofs.Lists.{get_set_other, get_set_same}
use Rattle.cas_disk_shelf.proofs.Loading.{same_known as known_again}
use Rattle.cas_disk_shelf.proofs.Using.{row_behind, row_grown}

-- ---- what cells show

-- these cells are a shelf with these contents
pub record IsRowShown (row : List (Option (List ℕ))) (contents : Contents) : Type 0 where
  pub is_row : IsRow row
  pub told : head_of (head_in row) ≡ Ok (head_for row contents.ages)
  pub show : Show (narrow_in row) (cell_in row) (count_in row) contents.slots
  pub few : slot_count contents.slots ≤ 4096

pub shown_is : (row : List (Option (List ℕ))) (contents : Contents) (disk : List ℕ) → IsRowShown row contents → IsImageOf row disk → left_on disk ≡ Ok contents
shown_is row contents disk is stands = read_spelled row contents disk is.is_row is.told is.show is.few stands

pub shown_of : (row : List (Option (List ℕ))) (loaded : Loaded) → IsRow row → IsMoving row loaded → IsRowShown row loaded.memory.held
shown_of row loaded is_row is = record { is_row = is_row; told = ap head_of is.head ∙ head_again _ is.fits; show = is.behind.show; few = is.behind.few }

-- a change from cells with these contents to others leaves them
pub shown_moment : {D : Type 0} (moment : D → ℕ) (left_since : D → ℕ → List ℕ → Type 0) (old new : D) (row row' : List (Option (List ℕ))) (contents : Contents) → IsRowShown row contents → IsRowShown row' contents → ContinuesOnly moment left_since old new (IsBeforeOrAfter row row') → ContinuesOnly moment left_since old new (λ c. left_on c ≡ Ok contents)
shown_moment moment left_since old new row row' contents before after run =
    weaker moment left_since old new (IsBeforeOrAfter row row') (λ c. left_on c ≡ Ok contents)
    (λ c either. ⊎_elim (λ stands. shown_is row contents c before stands) (λ stands. shown_is row' contents c after stands) either) run

-- the disk was not touched
pub shown_still : {D : Type 0} (tells : Type 0) (seen : D → List ℕ) (may_leave : D → List ℕ → Type 0) (moment : D → ℕ) (left_since : D → ℕ → List ℕ → Type 0) (now : Cells D) (contents : Contents) → CellsStand tells seen may_leave now → IsRowShown (cells_of now) contents → ((c : List ℕ) → left_since (disk_of now) (moment (disk_of now)) c → may_leave (disk_of now) c) → tells → ContinuesOnly moment left_since (disk_of now) (disk_of now) (λ c. left_on c ≡ Ok contents)
shown_still tells seen may_leave moment left_since now contents stands shown only t =
    started moment left_since (disk_of now) (λ c. left_on c ≡ Ok contents) (λ c left. shown_is (cells_of now) contents c shown (crash_leaves tells seen may_leave now stands t c (only c left)))

-- one run after another
pub then_shown : {D : Type 0} (moment : D → ℕ) (left_since : D → ℕ → List ℕ → Type 0) (old mid new : D) (contents contents' : Contents) → contents' ≡ contents → ContinuesOnly moment left_since old mid (λ c. left_on c ≡ Ok contents) → ContinuesOnly moment left_since mid new (λ c. left_on c ≡ Ok contents') → ContinuesOnly moment left_since old new (λ c. left_on c ≡ Ok contents)
then_shown moment left_since old mid new contents contents' same first second =
    then_on moment left_since old mid new (λ c. left_on c ≡ Ok contents) first
    (weaker moment left_since mid new (λ c. left_on c ≡ Ok contents') (λ c. left_on c ≡ Ok contents) (λ c is. is ∙ ap (λ (x : Contents). Ok x) same) second)

-- no bytes were written
pub no_longer : {D : Type 0} (moment : D → ℕ) (left_since : D → ℕ → List ℕ → Type 0) (may_leave : D → List ℕ → Type 0) (now : D) (bytes : ℕ) → ((c : List ℕ) → left_since now (moment now) c → may_leave now c) → NotLonger moment left_since may_leave now now bytes
no_longer moment left_since may_leave now bytes only = record { within = λ limit low all. started moment left_since now (λ c. length c ≤ limit) (λ c left. all c (only c left)) }

-- the same cells behind another head that tells them
pub loaded_same : (row row' : List (Option (List ℕ))) (n m : ℕ) (loaded : Loaded) → narrow_in row' ≡ narrow_in row → m ≡ n → ((i : ℕ) → 0 < i → cell_in row' i ≡ cell_in row i) → IsLoadedFrom row n loaded → IsLoadedFrom row' m loaded
loaded_same row row' n m loaded narrow same payloads is =
    let slots : Slots = loaded.memory.held.slots in
    record {
      show = subst (λ (x : ℕ × ℕ). Show x.0 (cell_in row') x.1 slots) (λ t. (sym narrow t, sym same t)) (same_shows (narrow_in row) (cell_in row) (cell_in row') n payloads slots is.show);
      known = subst (λ (x : ℕ × ℕ). AreKnown x.0 (cell_in row') x.1 (cell_of loaded.memory) (alone_in loaded) (is_free loaded.memory)) (λ t. (sym narrow t, sym same t))
          (same_known (narrow_in row) (cell_in row) (cell_in row') n payloads (cell_of loaded.memory) (alone_in loaded) (is_free loaded.memory) is.known);
      counted = subst (λ (x : ℕ × ℕ). AreCounted loaded (x.1 - x.0)) (λ t. (sym narrow t, sym same t)) is.counted;
      few = is.few;
    }

-- ---- growing

blank_behind : (cells : List (Option (List ℕ))) (j : ℕ) → unwrap_or (slice_get (cells ++ None ∷ []) j) None ≡ unwrap_or (slice_get cells j) None
blank_behind [] zero = refl
blank_behind [] (suc j) = refl
blank_behind (c ∷ cells) zero = refl
blank_behind (c ∷ cells) (suc j) = blank_behind cells j

-- a blank cell more has no payload, as if it were not there
grown_cell : (row : List (Option (List ℕ))) (i : ℕ) → IsRow row → 0 < i → cell_in (grown row) i ≡ cell_in row i
grown_cell [] i is_row pos = absurd is_row
grown_cell (None ∷ cells) i is_row pos = absurd is_row
grown_cell (Some head ∷ cells) zero is_row pos = absurd (omega arith)
grown_cell (Some head ∷ cells) (suc j) is_row pos = blank_behind cells j

past_row : (row : List (Option (List ℕ))) (i : ℕ) → length row ≤ i → cell_in row i ≡ None
past_row [] i low = refl
past_row (c ∷ row) zero low = absurd (omega (arith, low))
past_row (c ∷ row) (suc i) low = past_row row i (omega (arith, low))

module _ (row : List (Option (List ℕ))) (old : Loaded) (is : IsMoving row old) (is_row : IsRow row) where
  abbrev narrow : ℕ
  narrow = narrow_in row

  abbrev last : ℕ
  last = count_in row

  abbrev slots : Slots
  slots = old.memory.held.slots

  pub past_unused : (i : ℕ) → last < i → is_free old.memory i ≡ false
  past_unused i past = by_free (is_free old.memory i) refl
    where
      by_free : (b : Bool) → is_free old.memory i ≡ b → is_free old.memory i ≡ false
      by_free true f = let h = is.behind.known.free i f in let low = h.1 in absurd (omega (arith, low, past))
      by_free false f = f

  module _ (room : wide_in row < 4096) where
    told : IsGrown row (grown row) old.memory.held.ages
    told = grown_head row old.memory.held.ages is_row is.fits is.head room

    pub grown_row : IsRow (grown row)
    grown_row = row_grown row (omega (arith, told.narrow, told.wide)) is_row

    one_more : count_in (grown row) ≡ last + 1
    one_more = omega (arith, told.narrow, told.wide)

    step : IsStep (cell_in (grown row)) (cell_in (grown row)) last (last + 1) (last + 1)
    step = next_step (cell_in (grown row)) last (last + 1) refl

    nothing : entry_held (cell_in (grown row) (last + 1)) ≡ Ok None
    nothing = ap entry_held (grown_cell row (last + 1) is_row (omega arith) ∙ past_row row (last + 1) (omega (arith, row_length row is_row)))

    front_shows : Show narrow (cell_in (grown row)) last slots
    front_shows = same_shows narrow (cell_in row) (cell_in (grown row)) last (λ i pos. grown_cell row i is_row pos) slots is.behind.show

    grown_shows : Show (narrow_in (grown row)) (cell_in (grown row)) (count_in (grown row)) slots
    grown_shows = subst (λ (x : ℕ × ℕ). Show x.0 (cell_in (grown row)) x.1 slots) (λ t. (sym told.narrow t, sym one_more t))
        (nothing_shows narrow (cell_in (grown row)) (cell_in (grown row)) last (last + 1) (last + 1) step slots front_shows nothing)

    pub grown_shown : IsRowShown (grown row) old.memory.held
    grown_shown = record { is_row = grown_row; told = ap head_of told.head ∙ head_again _ told.fits; show = grown_shows; few = is.behind.few }

    pub grown_narrow : narrow_in (grown row) ≡ narrow
    grown_narrow = told.narrow

    pub grown_others : (i : ℕ) → 0 < i → i ≤ narrow → cell_in (grown row) i ≡ cell_in row i
    grown_others i pos low = grown_cell row i is_row pos

    pub grown_moving : (new : Loaded) → new.memory.held ≡ old.memory.held → new.memory.index ≡ old.memory.index → new.alone ≡ old.alone → ((i : ℕ) → is_free new.memory i ≡ freed (is_free old.memory) (last + 1) i) → btree_set_len new.memory.free ≡ btree_set_len old.memory.free + 1 → IsMoving (grown row) new
    grown_moving new held index alone free more =
        let known : AreKnown narrow (cell_in (grown row)) (last + 1) (cell_of old.memory) (alone_in old) (freed (is_free old.memory) (last + 1)) =
        nothing_known narrow (cell_in (grown row)) (cell_in (grown row)) last (last + 1) (last + 1) step slots front_shows nothing (cell_of old.memory) (alone_in old) (is_free old.memory) (freed (is_free old.memory) (last + 1))
        (same_known narrow (cell_in row) (cell_in (grown row)) last (λ i pos. grown_cell row i is_row pos) (cell_of old.memory) (alone_in old) (is_free old.memory) is.behind.known)
        (λ i other. freed_other (is_free old.memory) (last + 1) i (λ same. other (sym same))) (λ f. omega arith) (λ wide. freed_own (is_free old.memory) (last + 1) (last + 1) refl) in
        record {
          fits = subst (λ (c : Contents). FitsHead (head_for (grown row) c.ages)) (sym held) told.fits;
          head = told.head ∙ ap (λ (c : Contents). head_spelling (head_for (grown row) c.ages)) (sym held);
          behind = record {
            show = subst (λ (c : Contents). Show (narrow_in (grown row)) (cell_in (grown row)) (count_in (grown row)) c.slots) (sym held) grown_shows;
            known = subst (λ (x : ℕ × ℕ). AreKnown x.0 (cell_in (grown row)) x.1 (cell_of new.memory) (alone_in new) (is_free new.memory)) (λ t. (sym told.narrow t, sym one_more t))
                (known_again narrow (cell_in (grown row)) (last + 1) (cell_of old.memory) (cell_of new.memory) (alone_in old) (alone_in new) (freed (is_free old.memory) (last + 1)) (is_free new.memory)
                (λ q. ap (λ x. cell_of (record old.memory { index = x }) q) index) (λ q. ap (λ x. alone_in (record old { alone = x }) q) alone) free known);
            counted = record {
              cells = omega (arith, is.behind.counted.cells, ap (λ x. index_map_len x) index, more, told.narrow, told.wide);
              keys = ap (λ (c : Contents). slot_count c.slots) held ∙ is.behind.counted.keys ∙ (λ t. index_map_len (sym index t) + index_map_len (sym alone t));
            };
            few = subst (λ (c : Contents). slot_count c.slots ≤ 4096) (sym held) is.behind.few;
          };
        }

  -- ---- a change of a cell behind the head

  module _ (w : ℕ) (payload : List ℕ) (pos : 0 < w) where
    abbrev changed : List (Option (List ℕ))
    changed = set row w (Some payload)

    narrow_same : narrow_in changed ≡ narrow
    narrow_same = narrow_behind row w (Some payload) pos

    wide_same : wide_in changed ≡ wide_in row
    wide_same = wide_behind row w (Some payload) pos

    count_same : count_in changed ≡ last
    count_same = (λ t. narrow_same t + wide_same t)

    head_same : (ages : Ages) → head_for row ages ≡ head_for changed ages
    head_same ages = (λ t. record { narrow = sym narrow_same t; count = sym wide_same t; ages = ages })

    fits_same : (ages : Ages) → FitsHead (head_for row ages) → FitsHead (head_for changed ages)
    fits_same ages fits = subst FitsHead (head_same ages) fits

    spelled_same : (ages : Ages) → head_in row ≡ head_spelling (head_for row ages) → head_in changed ≡ head_spelling (head_for changed ages)
    spelled_same ages spelled = head_behind row w (Some payload) pos ∙ spelled ∙ ap head_spelling (head_same ages)

    others : (i : ℕ) → i ≢ w → cell_in changed i ≡ cell_in row i
    others i apart = ap (λ (o : Option (Option (List ℕ))). unwrap_or o None) (get_set_other row w i (Some payload) apart)

    this : w ≤ last → cell_in changed w ≡ Some payload
    this low = ap (λ (o : Option (Option (List ℕ))). unwrap_or o None) (get_set_same row w (Some payload) (omega (arith, low, row_length row is_row)))

    shown_by : Show narrow (cell_in changed) last slots → IsRowShown changed old.memory.held
    shown_by show = record {
      is_row = row_behind row w (Some payload) pos is_row;
      told = ap head_of (spelled_same old.memory.held.ages is.head) ∙ head_again _ (fits_same old.memory.held.ages is.fits);
      show = subst (λ (x : ℕ × ℕ). Show x.0 (cell_in changed) x.1 slots) (λ t. (sym narrow_same t, sym count_same t)) show;
      few = is.behind.few;
    }

    moving_by : (new : Loaded) → new.memory.held ≡ old.memory.held → Show narrow (cell_in changed) last slots → AreKnown narrow (cell_in changed) last (cell_of new.memory) (alone_in new) (is_free new.memory) → AreCounted new (last - narrow) → IsMoving changed new
    moving_by new held show known counted = record {
      fits = subst (λ (c : Contents). FitsHead (head_for changed c.ages)) (sym held) (fits_same old.memory.held.ages is.fits);
      head = spelled_same old.memory.held.ages is.head ∙ ap (λ (c : Contents). head_spelling (head_for changed c.ages)) (sym held);
      behind = record {
        show = subst (λ (c : Contents). Show (narrow_in changed) (cell_in changed) (count_in changed) c.slots) (sym held) (subst (λ (x : ℕ × ℕ). Show x.0 (cell_in changed) x.1 slots) (λ t. (sym narrow_same t, sym count_same t)) show);
        known = subst (λ (x : ℕ × ℕ). AreKnown x.0 (cell_in changed) x.1 (cell_of new.memory) (alone_in new) (is_free new.memory)) (λ t. (sym narrow_same t, sym count_same t)) known;
        counted = subst (λ (x : ℕ × ℕ). AreCounted new (x.1 - x.0)) (λ t. (sym narrow_same t, sym count_same t)) counted;
        few = subst (λ (c : Contents). slot_count c.slots ≤ 4096) (sym held) is.behind.few;
      };
    }

    pub changed_narrow : narrow_in changed ≡ narrow
    changed_narrow = narrow_same

    -- the payload of a narrow cell, in which a key stands alone, is put in a free cell
    module _ (v : ℕ) (key : List ℕ) (alone : alone_in old key ≡ Some v) (own : cell_in row v ≡ Some payload) (free : is_free old.memory w ≡ true) where
      first : (v ≤ narrow) × (cell_of old.memory key ≡ None) × ((slot : Slot) × CellHolds (cell_in row) last v key slot)
      first = is.behind.known.alone key v alone

      spare : (narrow < w) × (w ≤ last) × (entry_held (cell_in row w) ≡ Ok None)
      spare = is.behind.known.free w free

      here : entry_held (cell_in changed w) ≡ Ok (Some (key, first.2.0))
      here = ap entry_held (this spare.1 ∙ sym own) ∙ first.2.1.holds

      copy_step : IsStep (cell_in row) (cell_in changed) last last w
      copy_step = record {
        same = λ i pos' low apart. others i apart;
        vacant = λ q s h. let no : ◌≡◌ {A = Result (Option KeyedSlot) ℕ} (Ok None) (Ok (Some (q, s))) = sym spare.2 ∙ h.holds in cc;
        more = omega arith;
        behind = pos;
        within = spare.1;
        only = λ i low apart. low;
      }

      copied_shows : Show narrow (cell_in changed) last slots
      copied_shows = twin_shows narrow (cell_in row) (cell_in changed) last last w copy_step slots is.behind.show key first.2.0 here v first.0 spare.0 first.2.1
          (only_there narrow (cell_in row) last (cell_of old.memory) (alone_in old) (is_free old.memory) is.behind.known key v alone) (own ∙ sym (this spare.1))

      pub copied_shown : IsRowShown changed old.memory.held
      copied_shown = shown_by copied_shows

      pub copied_others : (i : ℕ) → 0 < i → i ≤ narrow → cell_in changed i ≡ cell_in row i
      copied_others i pos' low = others i (λ same. let far = spare.0 in absurd (omega (arith, same, far, low)))

      pub copied_moving : (new : Loaded) → new.memory.held ≡ old.memory.held → ((q : List ℕ) → cell_of new.memory q ≡ moved (cell_of old.memory) key w q) → ((q : List ℕ) → alone_in new q ≡ removed (alone_in old) key q) → ((i : ℕ) → is_free new.memory i ≡ taken (is_free old.memory) w i) → AreCounted new (last - narrow) → IsMoving changed new
      copied_moving new held keys lone frees counted =
          moving_by new held copied_shows
          (known_again narrow (cell_in changed) last (moved (cell_of old.memory) key w) (cell_of new.memory) (removed (alone_in old) key) (alone_in new) (taken (is_free old.memory) w) (is_free new.memory) keys lone frees
          (wide_known narrow (cell_in row) (cell_in changed) last last w copy_step slots is.behind.show key first.2.0 here (cell_of old.memory) (alone_in old) (removed (alone_in old) key) (is_free old.memory) (taken (is_free old.memory) w)
          spare.0 is.behind.known first.1 (λ q apart. removed_other (alone_in old) key q apart) (removed_own (alone_in old) key key refl)
          (taken_own (is_free old.memory) w w refl) (λ i apart. taken_other (is_free old.memory) w i (λ same. apart (sym same))))) counted

    -- a narrow cell is freed, whose key stands in a wide cell too
    module _ (key : List ℕ) (slot : Slot) (near : w ≤ narrow) (held : entry_held (cell_in row w) ≡ Ok (Some (key, slot))) (none : alone_in old key ≡ None) (nothing_there : entry_held (Some payload) ≡ Ok None) where
      that : CellHolds (cell_in row) last w key slot
      that = record { behind = pos; within = omega (arith, near); holds = held }

      its_cell : (o : Option ℕ) → cell_of old.memory key ≡ o → (u : ℕ) × (cell_of old.memory key ≡ Some u)
      its_cell (Some u) e = (u, e)
      its_cell None e = absurd (let no : None ≡ Some w = sym none ∙ is.behind.known.lone w key slot that near e in cc)

      wide : (u : ℕ) × (cell_of old.memory key ≡ Some u)
      wide = its_cell (cell_of old.memory key) refl

      nothing_here : entry_held (cell_in changed w) ≡ Ok None
      nothing_here = ap entry_held (this that.within) ∙ nothing_there

      cleared_show : Show narrow (cell_in changed) last slots
      cleared_show = cleared_shows narrow (cell_in row) (cell_in changed) last w key slot near others nothing_here that (cell_of old.memory) (alone_in old) (is_free old.memory) is.behind.known wide.0 wide.1 slots is.behind.show

      pub cleared_shown : IsRowShown changed old.memory.held
      cleared_shown = shown_by cleared_show

      pub cleared_moving : IsMoving changed old
      cleared_moving = moving_by old refl cleared_show
          (cleared_known narrow (cell_in row) (cell_in changed) last w key slot near others nothing_here that (cell_of old.memory) (alone_in old) (is_free old.memory) is.behind.known wide.0 wide.1) is.behind.counted

      pub cleared_up_to : AreCleared row (w - 1) → AreCleared changed w
      cleared_up_to before i pos' low = elim (cases_lt i w) [
        | inl less ↦ ap entry_held (others i (λ same. absurd (omega (arith, same, less)))) ∙ before i pos' (omega (arith, less))
        | inr equal ↦ ap (λ (j : ℕ). entry_held (cell_in changed j)) (let same : i ≡ w = omega (arith, low, equal) in same) ∙ nothing_here
      ]

-- ---- the shelf is up

none_keyed : {X : Type 0} (entries : List (List ℕ × X)) → ((key : List ℕ) → lookup (pointwise nat_eq key) entries ≡ None) → length entries ≡ 0
none_keyed [] none = refl
none_keyed {X} (e ∷ entries) none =
    absurd (let some : ◌≡◌ {A = Option X} (Some e.1) None = ap (λ (b : Bool). cond b (Some e.1) (lookup (pointwise nat_eq e.0) entries)) (sym (nat_list_eq_equiv.refl e.0)) ∙ none e.0 in cc)

pub some_keyed : {X : Type 0} (entries : List (List ℕ × X)) (key : List ℕ) (x : X) → lookup (pointwise nat_eq key) entries ≡ Some x → 0 < length entries
some_keyed {X} [] key x e = absurd (let no : ◌≡◌ {A = Option X} None (Some x) = e in cc)
some_keyed (e ∷ entries) key x is = omega arith

module _ (row : List (Option (List ℕ))) (loaded : Loaded) (is_row : IsRow row) (is : IsMoving row loaded) (cleared : AreCleared row (narrow_in row)) where
  abbrev show : Show (narrow_in row) (cell_in row) (count_in row) loaded.memory.held.slots
  show = is.behind.show

  known : AreKnown (narrow_in row) (cell_in row) (count_in row) (cell_of loaded.memory) (alone_in loaded) (is_free loaded.memory)
  known = is.behind.known

  -- only wide cells hold slots
  is_wide : (i : ℕ) (key : List ℕ) (slot : Slot) → CellHolds (cell_in row) (count_in row) i key slot → narrow_in row < i
  is_wide i key slot h = elim (cases_lt (narrow_in row) i) [
    | inl far ↦ far
    | inr near ↦ absurd (let no : ◌≡◌ {A = Result (Option KeyedSlot) ℕ} (Ok None) (Ok (Some (key, slot))) = sym (cleared i h.behind near) ∙ h.holds in cc)
  ]

  at_cell : (i : ℕ) → i ≤ count_in row → (cell : Option (List ℕ)) × (slice_get row i ≡ Some cell)
  at_cell i low = get_some row i (omega (arith, low, row_length row is_row))

  known_by : (i : ℕ) (entry : Option KeyedSlot) → 0 < i → i ≤ count_in row → entry_held (cell_in row i) ≡ Ok entry → CellIsKnown (narrow_in row) (cell_of loaded.memory) (is_free loaded.memory) i (Ok entry)
  known_by i None pos low e = λ far. known.spare i far low e
  known_by i (Some entry) pos low e =
      let h : CellHolds (cell_in row) (count_in row) i entry.0 entry.1 = record { behind = pos; within = low; holds = e } in
      known.wide i entry.0 entry.1 h (is_wide i entry.0 entry.1 h)

  in_step : InStep (narrow_in row) loaded.memory.held (cell_of loaded.memory) (is_free loaded.memory) row
  in_step = record {
    each = λ i cell pos there.
        let within = slice_get_within row i cell there in
        let low : i ≤ count_in row = omega (arith, within, row_length row is_row) in
        let e = show.each i pos low in
        subst (CellIsKnown (narrow_in row) (cell_of loaded.memory) (is_free loaded.memory) i) (sym (ap entry_held (sym (cell_is row i cell there)) ∙ e.1)) (known_by i e.0 pos low e.1);
    free = λ i f.
        let h = known.free i f in
        let c = at_cell i h.1 in
        record { behind = h.0; cell = c.0; there = c.1; holds = ap entry_held (sym (cell_is row i c.0 c.1)) ∙ h.2 };
    held = λ key i e.
        let h = known.own key i e in
        let c = at_cell i h.1.1.within in
        (h.1.0, record { behind = h.0; cell = c.0; there = c.1; holds = ap entry_held (sym (cell_is row i c.0 c.1)) ∙ h.1.1.holds }, show.kept i key h.1.0 h.1.1);
    none = λ key e. by_slot key e (slot_at loaded.memory.held.slots key) refl;
  }
    where
      by_slot : (key : List ℕ) → cell_of loaded.memory key ≡ None → (o : Option Slot) → slot_at loaded.memory.held.slots key ≡ o → slot_at loaded.memory.held.slots key ≡ None
      by_slot key e None is' = is'
      by_slot key e (Some s) is' =
          let h = show.there key s is' in
          absurd (let no : None ≡ Some h.0 = sym e ∙ known.wide h.0 key s h.1 (is_wide h.0 key s h.1) in cc)

  none_alone : index_map_len loaded.alone ≡ 0
  none_alone = none_keyed loaded.alone.entries (λ key. by_cell key (alone_in loaded key) refl)
    where
      by_cell : (key : List ℕ) (o : Option ℕ) → alone_in loaded key ≡ o → alone_in loaded key ≡ None
      by_cell key None e = e
      by_cell key (Some i) e =
          let h = known.alone key i e in
          let far = is_wide i key h.2.0 h.2.1 in
          let near = h.0 in
          absurd (omega (arith, far, near))

  -- what was loaded is the memory of a shelf
  pub up_memory : IsMemoryOf row loaded.memory
  up_memory = record {
    shown = record { fits = is.fits; head = is.head; few = is.behind.few; in_step = in_step };
    counted = record {
      cells = omega (arith, is.behind.counted.cells);
      keys = omega (arith, is.behind.counted.keys, none_alone);
    };
  }
