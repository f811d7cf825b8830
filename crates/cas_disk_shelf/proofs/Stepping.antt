-- What a change of a cell leaves of the slots, the cells of the keys and the free cells.
use Rattle.std.specs.Prelude.{slice_get}
use Rattle.std.proofs.Common.{◌≡◌, ◌≢◌, ℕ, ◌<◌, Bool, true, false, List, [], ◌∷◌, ◌++◌, length, Option, Some, None, Result, Ok, Err, refl, sym, ap, subst, ◌∙◌, arith, inl, inr}
use Rattle.std.proofs.lemmas.Bool.{cases_eq}
use Rattle.std.proofs.lemmas.List.{length-append}
use Rattle.std.proofs.lemmas.Option.{slice_get_within}
use Rattle.std.proofs.Math.ListN.{set}
use Rattle.cas_base.proofs.Bools.{some_is}
use Rattle.cas_slot.specs.declared.slot.Slot.{Slot}
use Rattle.cas_slot.specs.Contents.{Contents, with_kept, without_kept}
use Rattle.cas_disk_shelf.specs.KeyLaws.{by_key, put_same, put_other, take_same, take_other, moved_own, moved_other, removed_own, removed_other, freed_own, freed_other, taken_own, taken_other}
use Rattle.cas_disk_shelf.specs.Cell.{KeyedSlot}
use Rattle.cas_disk_shelf.specs.Image.{entry_held, moved, removed}
use Rattle.cas_disk_shelf.specs.Memory.{InStep, IsCell, CellIsKnown, freed, taken}
use Rattle.cas_disk_shelf.proofs.Lists.{get_set_same, get_set_other, get_before, get_last}

-- ---- cells

no_number : (i : ℕ) → Some i ≡ None → ⊥
no_number i e = cc

no_entry : (x : KeyedSlot) → Some x ≡ None → ⊥
no_entry x e = cc

yes_no : true ≡ false → ⊥
yes_no e = cc

read_is : (x y : Option KeyedSlot) (r : Result (Option KeyedSlot) ℕ) → r ≡ Ok x → r ≡ Ok y → x ≡ y
read_is x y r e f = cc

key_is : (x y : KeyedSlot) → Some x ≡ Some y → x.0 ≡ y.0
key_is x y e = ap (λ (z : KeyedSlot). z.0) (some_is x y e)

-- a cell has one content
pub same_cell : (narrow : ℕ) (cells : List (Option (List ℕ))) (i : ℕ) (x y : Option KeyedSlot) → IsCell narrow cells i x → IsCell narrow cells i y → x ≡ y
same_cell narrow cells i x y one two =
    let same : one.cell ≡ two.cell = some_is one.cell two.cell (sym one.there ∙ two.there) in
    read_is x y (entry_held two.cell) (ap entry_held (sym same) ∙ one.holds) two.holds

-- a cell has one key
pub one_key : (narrow : ℕ) (contents : Contents) (cell_of : List ℕ → Option ℕ) (is_free : ℕ → Bool) (cells : List (Option (List ℕ))) → InStep narrow contents cell_of is_free cells → (p q : List ℕ) (i : ℕ) → cell_of p ≡ Some i → cell_of q ≡ Some i → p ≡ q
one_key narrow contents cell_of is_free cells is p q i e f =
    let a = is.held p i e in
    let b = is.held q i f in
    key_is (p, a.0) (q, b.0) (same_cell narrow cells i (Some (p, a.0)) (Some (q, b.0)) a.1 b.1)

-- and is not free
pub not_free : (narrow : ℕ) (contents : Contents) (cell_of : List ℕ → Option ℕ) (is_free : ℕ → Bool) (cells : List (Option (List ℕ))) → InStep narrow contents cell_of is_free cells → (p : List ℕ) (i : ℕ) → cell_of p ≡ Some i → is_free i ≡ true → ⊥
not_free narrow contents cell_of is_free cells is p i e f =
    let a = is.held p i e in
    no_entry (p, a.0) (same_cell narrow cells i (Some (p, a.0)) None a.1 (is.free i f))

before : (cells : List (Option (List ℕ))) (cell : Option (List ℕ)) (j : ℕ) (c : Option (List ℕ)) → slice_get (cells ++ cell ∷ []) j ≡ Some c → j ≢ length cells → j < length cells
before cells cell j c there other =
    let within = slice_get_within (cells ++ cell ∷ []) j c there in
    omega (arith, within, length-append cells (cell ∷ []))

-- a cell that stays
stays : (narrow : ℕ) (cells cells' : List (Option (List ℕ))) (i : ℕ) (entry : Option KeyedSlot) → slice_get cells' i ≡ slice_get cells i → IsCell narrow cells i entry → IsCell narrow cells' i entry
stays narrow cells cells' i entry same is = record { behind = is.behind; cell = is.cell; there = same ∙ is.there; holds = is.holds }

known_so : (narrow : ℕ) (cell_of : List ℕ → Option ℕ) (is_free : ℕ → Bool) (i : ℕ) (r s : Result (Option KeyedSlot) ℕ) → r ≡ s → CellIsKnown narrow cell_of is_free i s → CellIsKnown narrow cell_of is_free i r
known_so narrow cell_of is_free i r s e known = subst (CellIsKnown narrow cell_of is_free i) (sym e) known

known_along : (narrow : ℕ) (cell_of cell_of' : List ℕ → Option ℕ) (is_free is_free' : ℕ → Bool) (i : ℕ) (r : Result (Option KeyedSlot) ℕ) → ((key : List ℕ) → cell_of key ≡ Some i → cell_of' key ≡ Some i) → (is_free i ≡ true → is_free' i ≡ true) → CellIsKnown narrow cell_of is_free i r → CellIsKnown narrow cell_of' is_free' i r
known_along narrow cell_of cell_of' is_free is_free' i (Ok None) keys free known = λ wide. free (known wide)
known_along narrow cell_of cell_of' is_free is_free' i (Ok (Some entry)) keys free known = keys entry.0 known
known_along narrow cell_of cell_of' is_free is_free' i (Err at) keys free known = known

module _ (narrow : ℕ) (contents : Contents) (cell_of : List ℕ → Option ℕ) (is_free : ℕ → Bool) (cells : List (Option (List ℕ))) (is : InStep narrow contents cell_of is_free cells) where
  -- cell 0 does not count
  pub head_in_step : (head : Option (List ℕ)) → InStep narrow contents cell_of is_free (set cells 0 head)
  head_in_step head = record {
    each = λ i cell pos there. is.each i cell pos (sym (get_set_other cells 0 i head (omega arith)) ∙ there);
    free = λ i f. let c = is.free i f in stays narrow cells (set cells 0 head) i None (get_set_other cells 0 i head (let pos = c.behind in omega arith)) c;
    held = λ key i e. let h = is.held key i e in (h.0, stays narrow cells (set cells 0 head) i (Some (key, h.0)) (get_set_other cells 0 i head (let pos = h.1.behind in omega arith)) h.1, h.2);
    none = is.none;
  }

  module _ (key : List ℕ) (slot : Slot) (i : ℕ) (cell : Option (List ℕ)) (holds : entry_held cell ≡ Ok (Some (key, slot))) where
    -- a slot is put in a cell that no other key has, where its key has no other cell
    pub put_in_step : narrow < i → i < length cells → ((q : List ℕ) → cell_of q ≡ Some i → key ≡ q) → ((n : ℕ) → cell_of key ≡ Some n → n ≡ i) → InStep narrow (with_kept contents key slot) (moved cell_of key i) (taken is_free i) (set cells i cell)
    put_in_step pos low no_other nowhere = record {
      each = λ j c posj there. elim (cases_eq j i) [
        | inl same ↦
            let this : cell ≡ c = some_is cell c (sym (get_set_same cells i cell low) ∙ ap (slice_get (set cells i cell)) (sym same) ∙ there) in
            known_so narrow (moved cell_of key i) (taken is_free i) j (entry_held c) (Ok (Some (key, slot))) (ap entry_held (sym this) ∙ holds) (moved_own cell_of key i key refl ∙ ap Some (sym same))
        | inr other ↦
            known_along narrow cell_of (moved cell_of key i) is_free (taken is_free i) j (entry_held c)
            (λ q e. moved_other cell_of key i q (λ same. other (nowhere j (ap cell_of same ∙ e))) ∙ e)
            (λ f. taken_other is_free i j (λ same. other (sym same)) ∙ f)
            (is.each j c posj (sym (get_set_other cells i j cell other) ∙ there))
      ];
      free = λ j f. elim (cases_eq j i) [
        | inl same ↦ absurd (yes_no (sym f ∙ taken_own is_free i j (sym same)))
        | inr other ↦ stays narrow cells (set cells i cell) j None (get_set_other cells i j cell other) (is.free j (sym (taken_other is_free i j (λ same. other (sym same))) ∙ f))
      ];
      held = λ q n e. by_key key q
          (λ same.
          let here : i ≡ n = some_is i n (sym (moved_own cell_of key i q same) ∙ e) in
          let this : IsCell narrow (set cells i cell) i (Some (key, slot)) = record { behind = pos; cell = cell; there = get_set_same cells i cell low; holds = holds } in
          (slot, subst (λ (p : List ℕ × ℕ). IsCell narrow (set cells i cell) p.1 (Some (p.0, slot))) (λ t. (same t, here t)) this, put_same contents.slots key slot q (sym same)))
          (λ other.
          let e' : cell_of q ≡ Some n = sym (moved_other cell_of key i q other) ∙ e in
          let h = is.held q n e' in
          let away : n ≢ i = λ same. other (no_other q (e' ∙ ap Some same)) in
          (h.0, stays narrow cells (set cells i cell) n (Some (q, h.0)) (get_set_other cells i n cell away) h.1, put_other contents.slots key slot q (λ same. other (sym same)) ∙ h.2));
      none = λ q e. by_key key q
          (λ same. absurd (no_number i (sym (moved_own cell_of key i q same) ∙ e)))
          (λ other. put_other contents.slots key slot q (λ same. other (sym same)) ∙ is.none q (sym (moved_other cell_of key i q other) ∙ e));
    }

  -- the slot of a key is removed from its cell
  pub drop_in_step : (key : List ℕ) (i : ℕ) (cell : Option (List ℕ)) → entry_held cell ≡ Ok None → cell_of key ≡ Some i → InStep narrow (without_kept contents key) (removed cell_of key) (freed is_free i) (set cells i cell)
  drop_in_step key i cell holds own =
      let was = (is.held key i own).1 in
      let low : i < length cells = slice_get_within cells i was.cell was.there in
      record {
        each = λ j c posj there. elim (cases_eq j i) [
          | inl same ↦
              let this : cell ≡ c = some_is cell c (sym (get_set_same cells i cell low) ∙ ap (slice_get (set cells i cell)) (sym same) ∙ there) in
              known_so narrow (removed cell_of key) (freed is_free i) j (entry_held c) (Ok None) (ap entry_held (sym this) ∙ holds) (λ wide. freed_own is_free i j (sym same))
          | inr other ↦
              known_along narrow cell_of (removed cell_of key) is_free (freed is_free i) j (entry_held c)
              (λ q e. removed_other cell_of key q (λ same. other (some_is j i (sym e ∙ ap cell_of (sym same) ∙ own))) ∙ e)
              (λ f. freed_other is_free i j (λ same. other (sym same)) ∙ f)
              (is.each j c posj (sym (get_set_other cells i j cell other) ∙ there))
        ];
        free = λ j f. elim (cases_eq j i) [
          | inl same ↦ subst (λ (n : ℕ). IsCell narrow (set cells i cell) n None) (sym same) (record { behind = was.behind; cell = cell; there = get_set_same cells i cell low; holds = holds })
          | inr other ↦ stays narrow cells (set cells i cell) j None (get_set_other cells i j cell other) (is.free j (sym (freed_other is_free i j (λ same. other (sym same))) ∙ f))
        ];
        held = λ q n e. by_key key q
            (λ same. absurd (no_number n (sym e ∙ removed_own cell_of key q same)))
            (λ other.
            let e' : cell_of q ≡ Some n = sym (removed_other cell_of key q other) ∙ e in
            let h = is.held q n e' in
            let away : n ≢ i = λ same. other (one_key narrow contents cell_of is_free cells is key q i own (e' ∙ ap Some same)) in
            (h.0, stays narrow cells (set cells i cell) n (Some (q, h.0)) (get_set_other cells i n cell away) h.1, take_other contents.slots key q (λ same. other (sym same)) ∙ h.2));
        none = λ q e. by_key key q
            (λ same. take_same contents.slots key q (sym same))
            (λ other. take_other contents.slots key q (λ same. other (sym same)) ∙ is.none q (sym (removed_other cell_of key q other) ∙ e));
      }

  -- one cell more, which is blank or free
  pub free_in_step : (cell : Option (List ℕ)) → entry_held cell ≡ Ok None → narrow < length cells → InStep narrow contents cell_of (freed is_free (length cells)) (cells ++ cell ∷ [])
  free_in_step cell holds pos = record {
    each = λ j c posj there. elim (cases_eq j (length cells)) [
      | inl same ↦
          let this : cell ≡ c = some_is cell c (sym (get_last cells cell) ∙ ap (slice_get (cells ++ cell ∷ [])) (sym same) ∙ there) in
          known_so narrow cell_of (freed is_free (length cells)) j (entry_held c) (Ok None) (ap entry_held (sym this) ∙ holds) (λ wide. freed_own is_free (length cells) j (sym same))
      | inr other ↦
          known_along narrow cell_of cell_of is_free (freed is_free (length cells)) j (entry_held c) (λ q e. e) (λ f. freed_other is_free (length cells) j (λ same. other (sym same)) ∙ f)
          (is.each j c posj (sym (get_before cells (cell ∷ []) j (before cells cell j c there other)) ∙ there))
    ];
    free = λ j f. elim (cases_eq j (length cells)) [
      | inl same ↦ subst (λ (n : ℕ). IsCell narrow (cells ++ cell ∷ []) n None) (sym same) (record { behind = pos; cell = cell; there = get_last cells cell; holds = holds })
      | inr other ↦
          let c = is.free j (sym (freed_other is_free (length cells) j (λ same. other (sym same))) ∙ f) in
          stays narrow cells (cells ++ cell ∷ []) j None (get_before cells (cell ∷ []) j (slice_get_within cells j c.cell c.there)) c
    ];
    held = λ q n e.
        let h = is.held q n e in
        (h.0, stays narrow cells (cells ++ cell ∷ []) n (Some (q, h.0)) (get_before cells (cell ∷ []) n (slice_get_within cells n h.1.cell h.1.there)) h.1, h.2);
    none = is.none;
  }
