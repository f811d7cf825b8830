-- Laws of what cells show: what one cell more, or a change of one, leaves of the slots and of what is known of the cells.
use Rattle.std.proofs.Common.{◌≡◌, ◌≢◌, ℕ, ◌+◌, ◌<◌, ◌≤◌, Bool, true, false, List, Option, Some, None, Result, Ok, refl, sym, ap, subst, ◌∙◌, arith, inl, inr}
use Rattle.std.proofs.lemmas.Bool.{cases_eq, cases_lt}
use Rattle.cas_slot.specs.declared.slot.Slot.{Slot}
use Rattle.cas_slot.specs.Slots.{Slots, slot_at, with_slot}
use Rattle.cas_disk_shelf.specs.Cell.{KeyedSlot}
use Rattle.cas_disk_shelf.specs.Image.{entry_held, moved}
use Rattle.cas_disk_shelf.specs.KeyLaws.{by_key, put_same, put_other, moved_own, moved_other}
use Rattle.cas_disk_shelf.specs.Memory.{CellHolds, Show, AreKnown}

no_slot : (s : Slot) → None ≡ Some s → ⊥
no_slot s e = cc

no_number : (i : ℕ) → None ≡ Some i → ⊥
no_number i e = cc

one_number : (i j : ℕ) → Some i ≡ Some j → i ≡ j
one_number i j e = cc

one_slot : (s t : Slot) → Some s ≡ Some t → s ≡ t
one_slot s t e = cc

nothing_held : (e : KeyedSlot) (r : Result (Option KeyedSlot) ℕ) → r ≡ Ok None → r ≡ Ok (Some e) → ⊥
nothing_held e r is other = cc

one_entry : (x y : KeyedSlot) (r : Result (Option KeyedSlot) ℕ) → r ≡ Ok (Some x) → r ≡ Ok (Some y) → (x.0 ≡ y.0) × (x.1 ≡ y.1)
one_entry x y r e f =
    let same : x ≡ y = cc in
    (ap (λ (z : KeyedSlot). z.0) same, ap (λ (z : KeyedSlot). z.1) same)

-- of the first m cells cell w is new or changed, and held no slot before; the others are the first n as they were
pub record IsStep (old new : ℕ → Option (List ℕ)) (n m w : ℕ) : Type 0 where
  pub same : (i : ℕ) → 0 < i → i ≤ n → i ≢ w → new i ≡ old i
  pub vacant : (key : List ℕ) (slot : Slot) → CellHolds old n w key slot → ⊥
  pub more : n ≤ m
  pub behind : 0 < w
  pub within : w ≤ m
  pub only : (i : ℕ) → i ≤ m → i ≢ w → i ≤ n

-- one cell more
pub next_step : (payload : ℕ → Option (List ℕ)) (n m : ℕ) → m ≡ n + 1 → IsStep payload payload n m m
next_step payload n m next = record {
  same = λ i pos low other. refl;
  vacant = λ key slot h. let low = h.within in absurd (omega (arith, low, next));
  more = omega (arith, next);
  behind = omega (arith, next);
  within = omega arith;
  only = λ i low other. omega (arith, low, other, next);
}

module _ (narrow : ℕ) (old new : ℕ → Option (List ℕ)) (n m w : ℕ) (step : IsStep old new n m w) where
  still : (i : ℕ) (key : List ℕ) (slot : Slot) → CellHolds old n i key slot → CellHolds new m i key slot
  still i key slot h = elim (cases_eq i w) [
    | inl same ↦ absurd (step.vacant key slot (subst (λ (j : ℕ). CellHolds old n j key slot) same h))
    | inr other ↦ record { behind = h.behind; within = (let low = h.within in let more = step.more in omega (arith, low, more)); holds = ap entry_held (step.same i h.behind h.within other) ∙ h.holds }
  ]

  was : (i : ℕ) (key : List ℕ) (slot : Slot) → CellHolds new m i key slot → i ≢ w → CellHolds old n i key slot
  was i key slot h other =
      let low : i ≤ n = step.only i h.within other in
      record { behind = h.behind; within = low; holds = ap entry_held (sym (step.same i h.behind low other)) ∙ h.holds }

  at_w : (i : ℕ) (key : List ℕ) (slot : Slot) → CellHolds new m i key slot → i ≡ w → entry_held (new w) ≡ Ok (Some (key, slot))
  at_w i key slot h same = ap (λ (j : ℕ). entry_held (new j)) (sym same) ∙ h.holds

  same_entry : (i : ℕ) → 0 < i → i ≤ n → i ≢ w → entry_held (new i) ≡ entry_held (old i)
  same_entry i pos low other = ap entry_held (step.same i pos low other)

  each_read : (slots : Slots) → Show narrow old n slots → (entry : Option KeyedSlot) → entry_held (new w) ≡ Ok entry → (i : ℕ) → 0 < i → i ≤ m → (e : Option KeyedSlot) × (entry_held (new i) ≡ Ok e)
  each_read slots is entry here i pos low = elim (cases_eq i w) [
    | inl same ↦ (entry, ap (λ (j : ℕ). entry_held (new j)) same ∙ here)
    | inr other ↦
        let low' : i ≤ n = step.only i low other in
        let e = is.each i pos low' in
        (e.0, same_entry i pos low' other ∙ e.1)
  ]

  -- two cells that both were there
  once_before : (slots : Slots) → Show narrow old n slots → (i j : ℕ) (key : List ℕ) (s t : Slot) → CellHolds new m i key s → CellHolds new m j key t → i ≢ w → j ≢ w → i < j → (i ≤ narrow) × (narrow < j) × (new i ≡ new j)
  once_before slots is i j key s t h k ni nj less =
      let a = was i key s h ni in
      let b = was j key t k nj in
      let o = is.once i j key s t a b less in
      (o.0, o.1, step.same i a.behind a.within ni ∙ o.2 ∙ sym (step.same j b.behind b.within nj))

  module _ (slots : Slots) (is : Show narrow old n slots) where
    -- the cell holds no slot
    module _ (nothing : entry_held (new w) ≡ Ok None) where
      away : (i : ℕ) (key : List ℕ) (slot : Slot) → CellHolds new m i key slot → i ≢ w
      away i key slot h = λ same. nothing_held (key, slot) (entry_held (new w)) nothing (at_w i key slot h same)

      pub nothing_shows : Show narrow new m slots
      nothing_shows = record {
        each = each_read slots is None nothing;
        kept = λ i key slot h. is.kept i key slot (was i key slot h (away i key slot h));
        there = λ key slot e. let h = is.there key slot e in (h.0, still h.0 key slot h.1);
        once = λ i j key s t h k less. once_before slots is i j key s t h k (away i key s h) (away j key t k) less;
      }

      pub nothing_known : (cell_of alone_in : List ℕ → Option ℕ) (is_free is_free' : ℕ → Bool) → AreKnown narrow old n cell_of alone_in is_free
          → ((i : ℕ) → i ≢ w → is_free' i ≡ is_free i) → (is_free' w ≡ true → narrow < w) → (narrow < w → is_free' w ≡ true) → AreKnown narrow new m cell_of alone_in is_free'
      nothing_known cell_of alone_in is_free is_free' known others only_wide wide = record {
        wide = λ i key slot h far. known.wide i key slot (was i key slot h (away i key slot h)) far;
        lone = λ i key slot h near none. known.lone i key slot (was i key slot h (away i key slot h)) near none;
        own = λ key i e. let h = known.own key i e in (h.0, (h.1.0, still i key h.1.0 h.1.1));
        alone = λ key i e. let h = known.alone key i e in (h.0, h.1, (h.2.0, still i key h.2.0 h.2.1));
        free = λ i f. elim (cases_eq i w) [
          | inl same ↦
              let here : is_free' w ≡ true = ap is_free' (sym same) ∙ f in
              let far : narrow < w = only_wide here in
              let low = step.within in
              ((omega (arith, far, same)), (omega (arith, low, same)), ap (λ (j : ℕ). entry_held (new j)) same ∙ nothing)
          | inr other ↦
              let h = known.free i (sym (others i other) ∙ f) in
              let far = h.0 in
              let low = h.1 in
              let more = step.more in
              (h.0, (omega (arith, low, more)), same_entry i (omega (arith, far)) h.1 other ∙ h.2)
        ];
        spare = λ i far low none. elim (cases_eq i w) [
          | inl same ↦ ap is_free' same ∙ wide (omega (arith, far, same))
          | inr other ↦
              let low' : i ≤ n = step.only i low other in
              others i other ∙ known.spare i far low' (sym (same_entry i (omega (arith, far)) low' other) ∙ none)
        ];
      }

    -- the cell holds this slot
    module _ (key : List ℕ) (slot : Slot) (here : entry_held (new w) ≡ Ok (Some (key, slot))) where
      this : CellHolds new m w key slot
      this = record { behind = step.behind; within = step.within; holds = here }

      key_at : (i : ℕ) (q : List ℕ) (s : Slot) → CellHolds new m i q s → i ≡ w → (q ≡ key) × (s ≡ slot)
      key_at i q s h same = one_entry (q, s) (key, slot) (entry_held (new w)) (at_w i q s h same) here

      -- of a new key
      module _ (unknown : slot_at slots key ≡ None) where
        other_key : (i : ℕ) (q : List ℕ) (s : Slot) → CellHolds old n i q s → q ≢ key
        other_key i q s h = λ same. no_slot s (sym unknown ∙ ap (slot_at slots) (sym same) ∙ is.kept i q s h)

        pub new_shows : Show narrow new m (with_slot slots key slot)
        new_shows = record {
          each = each_read slots is (Some (key, slot)) here;
          kept = λ i q s h. elim (cases_eq i w) [
            | inl same ↦ let k = key_at i q s h same in put_same slots key slot q k.0 ∙ ap Some (sym k.1)
            | inr other ↦ let a = was i q s h other in put_other slots key slot q (other_key i q s a) ∙ is.kept i q s a
          ];
          there = λ q s e. by_key q key
              (λ same.
              let own : slot ≡ s = one_slot slot s (sym (put_same slots key slot q same) ∙ e) in
              (w, subst (λ (p : List ℕ × Slot). CellHolds new m w p.0 p.1) (λ t. (sym same t, own t)) this))
              (λ other. let h = is.there q s (sym (put_other slots key slot q other) ∙ e) in (h.0, still h.0 q s h.1));
          once = λ i j q s t h k less. elim (cases_eq i w) [
            | inl first ↦ elim (cases_eq j w) [
              | inl second ↦ absurd (omega (arith, first, second, less))
              | inr other ↦ absurd (other_key j q t (was j q t k other) (key_at i q s h first).0)
            ]
            | inr ni ↦ elim (cases_eq j w) [
              | inl second ↦ absurd (other_key i q s (was i q s h ni) (key_at j q t k second).0)
              | inr nj ↦ once_before slots is i j q s t h k ni nj less
            ]
          ];
        }

        pub none_of : (cell_of alone_in : List ℕ → Option ℕ) (is_free : ℕ → Bool) → AreKnown narrow old n cell_of alone_in is_free → (cell_of key ≡ None) × (alone_in key ≡ None)
        none_of cell_of alone_in is_free known = (own_none (cell_of key) refl, alone_none (alone_in key) refl)
          where
            own_none : (o : Option ℕ) → cell_of key ≡ o → cell_of key ≡ None
            own_none None e = e
            own_none (Some i) e = let h = known.own key i e in absurd (other_key i key h.1.0 h.1.1 refl)

            alone_none : (o : Option ℕ) → alone_in key ≡ o → alone_in key ≡ None
            alone_none None e = e
            alone_none (Some i) e = let h = known.alone key i e in absurd (other_key i key h.2.0 h.2.1 refl)

        -- in a narrow cell
        pub narrow_known : (cell_of alone_in : List ℕ → Option ℕ) (is_free : ℕ → Bool) → w ≤ narrow → AreKnown narrow old n cell_of alone_in is_free → AreKnown narrow new m cell_of (moved alone_in key w) is_free
        narrow_known cell_of alone_in is_free near known = record {
          wide = λ i q s h far. known.wide i q s (was i q s h (λ same. let far' : narrow < i = far in absurd (omega (arith, far', same, near)))) far;
          lone = λ i q s h low none. elim (cases_eq i w) [
            | inl same ↦ let k = key_at i q s h same in moved_own alone_in key w q (sym k.0) ∙ ap Some (sym same)
            | inr other ↦ let a = was i q s h other in moved_other alone_in key w q (λ same. other_key i q s a (sym same)) ∙ known.lone i q s a low none
          ];
          own = λ q i e. let h = known.own q i e in (h.0, (h.1.0, still i q h.1.0 h.1.1));
          alone = λ q i e. by_key key q
              (λ same.
              let it : w ≡ i = one_number w i (sym (moved_own alone_in key w q same) ∙ e) in
              ((omega (arith, near, it)), ap cell_of (sym same) ∙ (none_of cell_of alone_in is_free known).0, (slot, subst (λ (p : ℕ × List ℕ). CellHolds new m p.0 p.1 slot) (λ t. (it t, same t)) this)))
              (λ other. let h = known.alone q i (sym (moved_other alone_in key w q other) ∙ e) in (h.0, h.1, (h.2.0, still i q h.2.0 h.2.1)));
          free = λ i f.
              let h = known.free i f in
              let far = h.0 in
              let low = h.1 in
              let more = step.more in
              (h.0, (omega (arith, low, more)), same_entry i (omega (arith, far)) h.1 (λ same. absurd (omega (arith, far, same, near))) ∙ h.2);
          spare = λ i far low none.
              let other : i ≢ w = λ same. absurd (omega (arith, far, same, near)) in
              let low' : i ≤ n = step.only i low other in
              known.spare i far low' (sym (same_entry i (omega (arith, far)) low' other) ∙ none);
        }

      -- in a wide cell
      pub wide_known : (cell_of alone_in alone_in' : List ℕ → Option ℕ) (is_free is_free' : ℕ → Bool) → narrow < w → AreKnown narrow old n cell_of alone_in is_free
          → cell_of key ≡ None → ((q : List ℕ) → key ≢ q → alone_in' q ≡ alone_in q) → alone_in' key ≡ None → is_free' w ≡ false → ((i : ℕ) → i ≢ w → is_free' i ≡ is_free i) → AreKnown narrow new m (moved cell_of key w) alone_in' is_free'
      wide_known cell_of alone_in alone_in' is_free is_free' far known unknown others gone taken free_others = record {
        wide = λ i q s h past. elim (cases_eq i w) [
          | inl same ↦ let k = key_at i q s h same in moved_own cell_of key w q (sym k.0) ∙ ap Some (sym same)
          | inr other ↦
              let e = known.wide i q s (was i q s h other) past in
              moved_other cell_of key w q (λ same. no_number i (sym unknown ∙ ap cell_of same ∙ e)) ∙ e
        ];
        lone = λ i q s h near none.
            let other : i ≢ w = λ same. absurd (omega (arith, near, same, far)) in
            by_key key q
            (λ same. absurd (no_number w (sym none ∙ moved_own cell_of key w q same)))
            (λ apart. others q apart ∙ known.lone i q s (was i q s h other) near (sym (moved_other cell_of key w q apart) ∙ none));
        own = λ q i e. by_key key q
            (λ same.
            let it : w ≡ i = one_number w i (sym (moved_own cell_of key w q same) ∙ e) in
            ((omega (arith, far, it)), (slot, subst (λ (p : ℕ × List ℕ). CellHolds new m p.0 p.1 slot) (λ t. (it t, same t)) this)))
            (λ apart. let h = known.own q i (sym (moved_other cell_of key w q apart) ∙ e) in (h.0, (h.1.0, still i q h.1.0 h.1.1)));
        alone = λ q i e. by_key key q
            (λ same. absurd (no_number i (sym gone ∙ ap alone_in' same ∙ e)))
            (λ apart.
            let h = known.alone q i (sym (others q apart) ∙ e) in
            (h.0, moved_other cell_of key w q apart ∙ h.1, (h.2.0, still i q h.2.0 h.2.1)));
        free = λ i f. elim (cases_eq i w) [
          | inl same ↦ absurd (let no : false ≡ true = sym taken ∙ ap is_free' (sym same) ∙ f in cc)
          | inr other ↦
              let h = known.free i (sym (free_others i other) ∙ f) in
              let past = h.0 in
              let low = h.1 in
              let more = step.more in
              (h.0, (omega (arith, low, more)), same_entry i (omega (arith, past)) h.1 other ∙ h.2)
        ];
        spare = λ i past low none. elim (cases_eq i w) [
          | inl same ↦ absurd (nothing_held (key, slot) (entry_held (new w)) (ap (λ (j : ℕ). entry_held (new j)) (sym same) ∙ none) here)
          | inr other ↦
              let low' : i ≤ n = step.only i low other in
              free_others i other ∙ known.spare i past low' (sym (same_entry i (omega (arith, past)) low' other) ∙ none)
        ];
      }

      -- with the payload of the only narrow cell that holds the key
      pub twin_shows : (v : ℕ) → v ≤ narrow → narrow < w → CellHolds old n v key slot → ((j : ℕ) (t : Slot) → CellHolds old n j key t → j ≡ v) → old v ≡ new w → Show narrow new m slots
      twin_shows v near far first only equal = record {
        each = each_read slots is (Some (key, slot)) here;
        kept = λ i q s h. elim (cases_eq i w) [
          | inl same ↦ let k = key_at i q s h same in ap (slot_at slots) k.0 ∙ is.kept v key slot first ∙ ap Some (sym k.1)
          | inr other ↦ is.kept i q s (was i q s h other)
        ];
        there = λ q s e. let h = is.there q s e in (h.0, still h.0 q s h.1);
        once = λ i j q s t h k less. elim (cases_eq i w) [
          | inl same ↦
              let nj : j ≢ w = λ second. absurd (omega (arith, same, second, less)) in
              let q_is = (key_at i q s h same).0 in
              let it : j ≡ v = only j t (subst (λ (p : List ℕ). CellHolds old n j p t) q_is (was j q t k nj)) in
              absurd (omega (arith, it, same, less, near, far))
          | inr ni ↦ elim (cases_eq j w) [
            | inl same ↦
                let q_is = (key_at j q t k same).0 in
                let a = was i q s h ni in
                let it : i ≡ v = only i s (subst (λ (p : List ℕ). CellHolds old n i p s) q_is a) in
                ((omega (arith, it, near)), (omega (arith, same, far)), step.same i a.behind a.within ni ∙ ap old it ∙ equal ∙ ap new (sym same))
            | inr nj ↦ once_before slots is i j q s t h k ni nj less
          ]
        ];
      }

-- a key that stands in a narrow cell alone is in no other cell
pub only_there : (narrow : ℕ) (payload : ℕ → Option (List ℕ)) (n : ℕ) (cell_of alone_in : List ℕ → Option ℕ) (is_free : ℕ → Bool) → AreKnown narrow payload n cell_of alone_in is_free → (key : List ℕ) (v : ℕ) → alone_in key ≡ Some v → (j : ℕ) (t : Slot) → CellHolds payload n j key t → j ≡ v
only_there narrow payload n cell_of alone_in is_free known key v alone j t h =
    let none = (known.alone key v alone).1 in
    elim (cases_lt narrow j) [
      | inl far ↦ absurd (no_number j (sym none ∙ known.wide j key t h far))
      | inr near ↦ one_number j v (sym (known.lone j key t h near none) ∙ alone)
    ]

-- the slot of a narrow cell is taken out of it, where its key stands in a wide cell too
module _ (narrow : ℕ) (old new : ℕ → Option (List ℕ)) (n v : ℕ) (key : List ℕ) (slot : Slot) (near : v ≤ narrow) (same : (i : ℕ) → i ≢ v → new i ≡ old i) (nothing : entry_held (new v) ≡ Ok None) (held : CellHolds old n v key slot) where
  apart_from : (i : ℕ) (q : List ℕ) (s : Slot) → CellHolds new n i q s → i ≢ v
  apart_from i q s h = λ it. nothing_held (q, s) (entry_held (new v)) nothing (ap (λ (j : ℕ). entry_held (new j)) (sym it) ∙ h.holds)

  before : (i : ℕ) (q : List ℕ) (s : Slot) → CellHolds new n i q s → CellHolds old n i q s
  before i q s h = record { behind = h.behind; within = h.within; holds = ap entry_held (sym (same i (apart_from i q s h))) ∙ h.holds }

  after : (i : ℕ) (q : List ℕ) (s : Slot) → CellHolds old n i q s → i ≢ v → CellHolds new n i q s
  after i q s h other = record { behind = h.behind; within = h.within; holds = ap entry_held (same i other) ∙ h.holds }

  key_there : (i : ℕ) (q : List ℕ) (s : Slot) → CellHolds old n i q s → i ≡ v → q ≡ key
  key_there i q s h it = (one_entry (q, s) (key, slot) (entry_held (old v)) (ap (λ (j : ℕ). entry_held (old j)) (sym it) ∙ h.holds) held.holds).0

  module _ (cell_of alone_in : List ℕ → Option ℕ) (is_free : ℕ → Bool) (known : AreKnown narrow old n cell_of alone_in is_free) (u : ℕ) (own : cell_of key ≡ Some u) where
    pub cleared_shows : (slots : Slots) → Show narrow old n slots → Show narrow new n slots
    cleared_shows slots is =
        let other = known.own key u own in
        let far = other.0 in
        let apart : u ≢ v = λ it. absurd (omega (arith, it, far, near)) in
        record {
          each = λ i pos low. elim (cases_eq i v) [
            | inl it ↦ (None, ap (λ (j : ℕ). entry_held (new j)) it ∙ nothing)
            | inr away ↦ let e = is.each i pos low in (e.0, ap entry_held (same i away) ∙ e.1)
          ];
          kept = λ i q s h. is.kept i q s (before i q s h);
          there = λ q s e.
              let h = is.there q s e in
              elim (cases_eq h.0 v) [
                | inl it ↦
                    let q_is : q ≡ key = key_there h.0 q s h.1 it in
                    let s_is : other.1.0 ≡ s = one_slot other.1.0 s (sym (is.kept u key other.1.0 other.1.1) ∙ ap (slot_at slots) (sym q_is) ∙ e) in
                    (u, subst (λ (p : List ℕ × Slot). CellHolds new n u p.0 p.1) (λ t. (sym q_is t, s_is t)) (after u key other.1.0 other.1.1 apart))
                | inr away ↦ (h.0, after h.0 q s h.1 away)
              ];
          once = λ i j q s t h k less.
              let o = is.once i j q s t (before i q s h) (before j q t k) less in
              (o.0, o.1, same i (apart_from i q s h) ∙ o.2 ∙ sym (same j (apart_from j q t k)));
        }

    pub cleared_known : AreKnown narrow new n cell_of alone_in is_free
    cleared_known = record {
      wide = λ i q s h far. known.wide i q s (before i q s h) far;
      lone = λ i q s h low none. known.lone i q s (before i q s h) low none;
      own = λ q i e.
          let h = known.own q i e in
          let far = h.0 in
          (h.0, (h.1.0, after i q h.1.0 h.1.1 (λ it. absurd (omega (arith, it, far, near)))));
      alone = λ q i e.
          let h = known.alone q i e in
          (h.0, h.1, (h.2.0, after i q h.2.0 h.2.1 (λ it. no_number u (sym h.1 ∙ ap cell_of (key_there i q h.2.0 h.2.1 it) ∙ own))));
      free = λ i f.
          let h = known.free i f in
          let far = h.0 in
          (h.0, h.1, ap entry_held (same i (λ it. absurd (omega (arith, it, far, near)))) ∙ h.2);
      spare = λ i far low none. known.spare i far low (ap entry_held (sym (same i (λ it. absurd (omega (arith, it, far, near))))) ∙ none);
    }

-- the same cells behind the head
module _ (narrow : ℕ) (old new : ℕ → Option (List ℕ)) (n : ℕ) (same : (i : ℕ) → 0 < i → new i ≡ old i) where
  there_too : (i : ℕ) (key : List ℕ) (slot : Slot) → CellHolds old n i key slot → CellHolds new n i key slot
  there_too i key slot h = record { behind = h.behind; within = h.within; holds = ap entry_held (same i h.behind) ∙ h.holds }

  there_before : (i : ℕ) (key : List ℕ) (slot : Slot) → CellHolds new n i key slot → CellHolds old n i key slot
  there_before i key slot h = record { behind = h.behind; within = h.within; holds = ap entry_held (sym (same i h.behind)) ∙ h.holds }

  pub same_shows : (slots : Slots) → Show narrow old n slots → Show narrow new n slots
  same_shows slots is = record {
    each = λ i pos low. let e = is.each i pos low in (e.0, ap entry_held (same i pos) ∙ e.1);
    kept = λ i key slot h. is.kept i key slot (there_before i key slot h);
    there = λ key slot e. let h = is.there key slot e in (h.0, there_too h.0 key slot h.1);
    once = λ i j key s t h k less. let o = is.once i j key s t (there_before i key s h) (there_before j key t k) less in (o.0, o.1, same i h.behind ∙ o.2 ∙ sym (same j k.behind));
  }

  pub same_known : (cell_of alone_in : List ℕ → Option ℕ) (is_free : ℕ → Bool) → AreKnown narrow old n cell_of alone_in is_free → AreKnown narrow new n cell_of alone_in is_free
  same_known cell_of alone_in is_free known = record {
    wide = λ i key slot h far. known.wide i key slot (there_before i key slot h) far;
    lone = λ i key slot h near none. known.lone i key slot (there_before i key slot h) near none;
    own = λ key i e. let h = known.own key i e in (h.0, (h.1.0, there_too i key h.1.0 h.1.1));
    alone = λ key i e. let h = known.alone key i e in (h.0, h.1, (h.2.0, there_too i key h.2.0 h.2.1));
    free = λ i f. let h = known.free i f in let far = h.0 in (h.0, h.1, ap entry_held (same i (omega (arith, far))) ∙ h.2);
    spare = λ i far low none. known.spare i far low (ap entry_held (sym (same i (omega (arith, far)))) ∙ none);
  }
