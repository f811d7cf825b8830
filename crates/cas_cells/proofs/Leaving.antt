-- What the steps of a change leave of a disk.
use Rattle.std.specs.Prelude.{OnOk}
use Rattle.std.proofs.Common.{Result, Ok, Err, ◌≡◌, ◌⊎◌, inl, inr, ⊎_elim, ℕ, ◌+◌, ◌*◌, ◌<◌, ◌≤◌, ◌++◌, true, false, Option, Some, List, [], ◌∷◌, length, get_or, drop, refl, sym, ◌∙◌, ap, subst, arith}
use Rattle.cas_disk.specs.Disk.{Only, Keeps, ContinuesOnly}
use Rattle.cas_disk.proofs.Moments.{weaker, then_on}
use Rattle.cas_cells.specs.Format.{frame_at, frame_size, half_size, next, IsPayload}
use Rattle.cas_cells.specs.Torn.{Others, GateTorn, TailTorn}
use Rattle.cas_cells.specs.Held.{tail_of, IsShut, FramesHeld, CellHeld, HoldsTail, payload_held, frame_of, other, LeavesPayload, MayOpen, IsAsBefore, Shuts, Writes, OpensSpare, Still}
use Rattle.cas_cells.specs.declared.cell.Side.{Side}
use Rattle.cas_cells.specs.declared.cell.Side.TheVariants.{First, Second}
use Rattle.cas_cells.specs.declared.cell.Cell.{Cell}
use Rattle.cas_cells.proofs.Turning.{held_shut, spare_size, while_closing, while_writing, while_opening, held_with, opened_held, closed_held, shut_frame}
use Rattle.cas_cells.proofs.Places.{sized, size_of_side}
use Rattle.cas_cells.proofs.Rows.{sound_from, cell_sound, sides_apart}
use Rattle.cas_cells.proofs.Zeros.{zero_past, zero_further, covered}

-- two facts of a call that succeeded
pub on_ok_both : {T E : Type 0} {P Q R : Type 0} (r : Result T E) → (P → Q → R) → OnOk r P → OnOk r Q → OnOk r R
on_ok_both (Ok x) f p q = f p q
on_ok_both (Err e) f p q = p

module _ (narrow : ℕ) where
  -- a step after other changes of the same frame
  pub leaves_from : (k i : ℕ) (pay : Option (List ℕ)) (old mid c : List ℕ) → Others narrow k old mid → LeavesPayload narrow k mid i pay c → LeavesPayload narrow k old i pay c
  leaves_from k i pay old mid c others leaves = record { others = λ j apart. leaves.others j apart ∙ others j apart; here = leaves.here }

  pub opens_from : (k i : ℕ) (pay : Option (List ℕ)) (p old mid c : List ℕ) → Others narrow k old mid → MayOpen narrow k mid i pay p c → MayOpen narrow k old i pay p c
  opens_from k i pay p old mid c others opens = record { others = λ j apart. opens.others j apart ∙ others j apart; here = opens.here }

  pub leaves_opens : (k i : ℕ) (pay : Option (List ℕ)) (p old c : List ℕ) → LeavesPayload narrow k old i pay c → MayOpen narrow k old i pay p c
  leaves_opens k i pay p old c leaves = record { others = leaves.others; here = inl leaves.here }

  pub others_from : (k : ℕ) (old mid new : List ℕ) → Others narrow k old mid → Others narrow k mid new → Others narrow k old new
  others_from k old mid new first second j apart = second j apart ∙ first j apart

  -- the disk is as it was after the steps before
  pub still_after : (old mid new : List ℕ) (may_mid may_new : List ℕ → Type 0) (i : ℕ) (before now : Cell) → CellHeld narrow mid i now → Others narrow (frame_of i (other before.side)) old mid → Only mid may_mid → Keeps mid new may_mid may_new → Still narrow old new may_new i before now
  still_after old mid new may_mid may_new i before now held others durable keeps = record {
    held = subst (λ (d : List ℕ). CellHeld narrow d i now) (sym keeps.content) held;
    others = λ j apart. ap (λ (d : List ℕ). frame_at narrow d j) keeps.content ∙ others j apart;
    durable = λ image left. durable image (keeps.outcomes image left) ∙ sym keeps.content;
  }

  module _ (cell : Cell) (old : List ℕ) (i : ℕ) (held : CellHeld narrow old i cell) where
    abbrev k : ℕ
    k = frame_of i (other cell.side)

    abbrev current : List ℕ
    current = frame_at narrow old (frame_of i cell.side)

    abbrev spare : List ℕ
    spare = frame_at narrow old k

    -- the spare is whole
    pub spare_whole : length spare ≡ half_size narrow i
    spare_whole = spare_size (half_size narrow i) (sized narrow (2 * i)) cell current spare held

    pub whole_at : (j : ℕ) → j ≡ k → length (frame_at narrow old j) ≡ frame_size narrow j
    whole_at j is = subst (λ (n : ℕ). length (frame_at narrow old n) ≡ frame_size narrow n) (sym is) (spare_whole ∙ sym (size_of_side narrow i (other cell.side)))

    -- nothing changed
    pub leaves_same : LeavesPayload narrow k old i (payload_held cell) old
    leaves_same = record { others = λ j apart. refl; here = cell_sound narrow old i cell held }

    -- the gate of the open spare is written
    pub leaves_gate : (c : List ℕ) → cell.spare_open ≡ true → GateTorn narrow k old c → LeavesPayload narrow k old i (payload_held cell) c
    leaves_gate c opened torn = record {
      others = torn.others;
      here = sound_from narrow cell.side c i (payload_held cell) current (frame_at narrow c k) (torn.others (frame_of i cell.side) (sides_apart i cell.side)) refl
          (while_closing (half_size narrow i) (sized narrow (2 * i)) cell current spare (frame_at narrow c k) held opened torn.tail (torn.size ∙ size_of_side narrow i (other cell.side)));
    }

    -- the gate of the open spare is written, in a run
    pub closing : {D : Type 0} {moment : D → ℕ} {left_since : D → ℕ → List ℕ → Type 0} {d0 d1 : D} {j : ℕ} → cell.spare_open ≡ true → j ≡ k → ContinuesOnly moment left_since d0 d1 (GateTorn narrow j old) → ContinuesOnly moment left_since d0 d1 (LeavesPayload narrow k old i (payload_held cell))
    closing opened is_k run = weaker _ _ _ _ _ (LeavesPayload narrow k old i (payload_held cell)) (λ c torn. leaves_gate c opened (subst (λ (n : ℕ). GateTorn narrow n old c) is_k torn)) run

    -- the tail of the closed spare is written
    pub leaves_tail : (c : List ℕ) → cell.spare_open ≡ false → TailTorn narrow k old c → LeavesPayload narrow k old i (payload_held cell) c
    leaves_tail c closed torn = record {
      others = torn.others;
      here = sound_from narrow cell.side c i (payload_held cell) current (frame_at narrow c k) (torn.others (frame_of i cell.side) (sides_apart i cell.side)) refl
          (held_shut (half_size narrow i) (sized narrow (2 * i)) cell current spare (frame_at narrow c k) held (while_writing (half_size narrow i) (sized narrow (2 * i)) cell current spare (frame_at narrow c k) held closed torn.gate (torn.size ∙ size_of_side narrow i (other cell.side))));
    }

    -- the gate of the spare is written behind which this payload stands
    pub may_open : (c payload : List ℕ) → IsPayload (half_size narrow i) payload → drop 1 spare ≡ tail_of (half_size narrow i) (next cell.number) payload → GateTorn narrow k old c → MayOpen narrow k old i (payload_held cell) payload c
    may_open c payload fits staged torn =
        let same : frame_at narrow c (frame_of i cell.side) ≡ current = torn.others (frame_of i cell.side) (sides_apart i cell.side) in
        record {
          others = torn.others;
          here = ⊎_elim
              (λ is. inl (sound_from narrow cell.side c i (payload_held cell) current (frame_at narrow c k) same refl is))
              (λ is. inr (sound_from narrow cell.side c i (Some payload) current (frame_at narrow c k) same refl is))
              (while_opening (half_size narrow i) (sized narrow (2 * i)) cell payload current spare (frame_at narrow c k) held fits staged torn.tail (torn.size ∙ size_of_side narrow i (other cell.side)));
        }

    -- the open spare was closed
    pub held_closed : (cell' : Cell) (new : List ℕ) → cell.spare_open ≡ true → Shuts cell cell' → Others narrow k old new → frame_at narrow new k ≡ 0 ∷ drop 1 spare → FramesHeld (half_size narrow i) cell' (frame_at narrow new (frame_of i cell.side)) (frame_at narrow new k)
    held_closed cell' new opened shuts others is =
        let same : frame_at narrow new (frame_of i cell.side) ≡ current = others (frame_of i cell.side) (sides_apart i cell.side) in
        let long : length (frame_at narrow new k) ≡ half_size narrow i = ap length is ∙ zero_tail spare spare_whole in
        let gate : get_or (frame_at narrow new k) 0 0 ≡ 0 = ap (λ (l : List ℕ). get_or l 0 0) is in
        let shut : IsShut (half_size narrow i) (frame_at narrow new k) = shut_frame (half_size narrow i) (sized narrow (2 * i)) (frame_at narrow new k) long (λ one. let zero_one : 0 ≡ 1 = sym gate ∙ one in absurd (omega arith)) in
        subst (λ (f : List ℕ). FramesHeld (half_size narrow i) cell' f (frame_at narrow new k)) (sym same) (closed_held (half_size narrow i) (sized narrow (2 * i)) cell cell' current spare (frame_at narrow new k) held shut opened shuts (ap (λ (l : List ℕ). drop 1 l) is))
      where
        zero_tail : (f : List ℕ) → length f ≡ half_size narrow i → length (0 ∷ drop 1 f) ≡ half_size narrow i
        zero_tail [] none = absurd (omega (arith, none, (sized narrow (2 * i)).least))
        zero_tail (g ∷ f) some = some

    -- the spare ends behind the bytes that were written
    pub spare_covered : (new p tail : List ℕ) (reach : ℕ) → IsPayload (reach + 1) p → reach < half_size narrow i → (cell.spare_used ≤ reach) ⊎ (half_size narrow i ≡ reach + 1) → tail ≡ tail_of (reach + 1) (next cell.number) p → drop 1 (frame_at narrow new k) ≡ tail ++ drop (length tail + 1) spare → drop 1 (frame_at narrow new k) ≡ tail_of (half_size narrow i) (next cell.number) p
    spare_covered new p tail reach fits within used made is =
        is ∙ covered (half_size narrow i) reach (next cell.number) p tail spare fits within spare_whole
        (⊎_elim (λ low. zero_further cell.spare_used reach spare low held.in_rest) (λ all. zero_past reach spare (let e : length spare ≤ reach + 1 = omega (arith, all, spare_whole) in e)) used) made

    -- a payload was written into the closed spare
    pub held_tail : (cell' : Cell) (new p : List ℕ) → cell.spare_open ≡ false → TailTorn narrow k old new → Writes p cell cell' → drop 1 (frame_at narrow new k) ≡ tail_of (half_size narrow i) (next cell.number) p → CellHeld narrow new i cell'
    held_tail cell' new p closed torn writes tail =
        let same : frame_at narrow new (frame_of i cell.side) ≡ current = torn.others (frame_of i cell.side) (sides_apart i cell.side) in
        subst (λ (s : Side). FramesHeld (half_size narrow i) cell' (frame_at narrow new (frame_of i s)) (frame_at narrow new (frame_of i (other s)))) (sym writes.same.side)
        (subst (λ (f : List ℕ). FramesHeld (half_size narrow i) cell' f (frame_at narrow new k)) (sym same)
        (held_with (half_size narrow i) (sized narrow (2 * i)) cell cell' p current spare (frame_at narrow new k) held closed (while_writing (half_size narrow i) (sized narrow (2 * i)) cell current spare (frame_at narrow new k) held closed torn.gate (torn.size ∙ size_of_side narrow i (other cell.side))) writes tail))

    -- it stands there under the number that follows
    pub stands_written : (cell' : Cell) (new p : List ℕ) → IsAsBefore cell cell' → drop 1 (frame_at narrow new k) ≡ tail_of (half_size narrow i) (next cell.number) p → HoldsTail narrow new i cell' p
    stands_written cell' new p same tail =
        ap (λ (s : Side). drop 1 (frame_at narrow new (frame_of i (other s)))) same.side ∙ tail ∙ ap (λ (n : ℕ). tail_of (half_size narrow i) (next n) p) (sym same.number)

    -- the spare was opened
    pub held_opened : (after : Cell) (new payload : List ℕ) → IsPayload (half_size narrow i) payload → drop 1 spare ≡ tail_of (half_size narrow i) (next cell.number) payload → Others narrow k old new → frame_at narrow new k ≡ 1 ∷ drop 1 spare → OpensSpare payload cell after → CellHeld narrow new i after
    held_opened after new payload fits staged others is opens =
        let same : frame_at narrow new (frame_of i cell.side) ≡ current = others (frame_of i cell.side) (sides_apart i cell.side) in
        let frames : FramesHeld (half_size narrow i) after (frame_at narrow new k) current = opened_held (half_size narrow i) (sized narrow (2 * i)) cell after payload current spare (frame_at narrow new k) held fits staged is spare_whole opens in
        let sides : FramesHeld (half_size narrow i) after (frame_at narrow new k) (frame_at narrow new (frame_of i cell.side)) = subst (λ (f : List ℕ). FramesHeld (half_size narrow i) after (frame_at narrow new k) f) (sym same) frames in
        subst (λ (s : Side). FramesHeld (half_size narrow i) after (frame_at narrow new (frame_of i s)) (frame_at narrow new (frame_of i (other s)))) (sym opens.side)
        (subst (λ (s : Side). FramesHeld (half_size narrow i) after (frame_at narrow new k) (frame_at narrow new (frame_of i s))) (sym (twice cell.side)) sides)
      where
        twice : (s : Side) → other (other s) ≡ s
        twice First = refl
        twice Second = refl

  -- the three steps of one cell after one another, in which a crash leaves its old payload or the new
  module _ {D : Type 0} {moment : D → ℕ} {left_since : D → ℕ → List ℕ → Type 0} {d0 d1 d2 d3 : D} {old mid1 mid2 p : List ℕ} {i j : ℕ} {cell cell1 cell2 : Cell} where
    pub three_steps : Shuts cell cell1 → IsAsBefore cell1 cell2 → ContinuesOnly moment left_since d0 d1 (LeavesPayload narrow (frame_of i (other cell.side)) old i (payload_held cell)) → ContinuesOnly moment left_since d1 d2 (LeavesPayload narrow (frame_of i (other cell1.side)) mid1 i (payload_held cell1)) → ContinuesOnly moment left_since d2 d3 (GateTorn narrow j mid2)
        → CellHeld narrow mid2 i cell2 → IsPayload (half_size narrow i) p → HoldsTail narrow mid2 i cell2 p → j ≡ frame_of i (other cell2.side) → Others narrow (frame_of i (other cell.side)) old mid1 → Others narrow (frame_of i (other cell1.side)) mid1 mid2
        → ContinuesOnly moment left_since d0 d3 (MayOpen narrow (frame_of i (other cell.side)) old i (payload_held cell) p)
    three_steps shuts stays first second third held fits staged is_j others1 others2 =
        let k = frame_of i (other cell.side) in
        let k1 = frame_of i (other cell1.side) in
        let pay = payload_held cell in
        let k2 = frame_of i (other cell2.side) in
        let same : k1 ≡ k = ap (λ (s : Side). frame_of i (other s)) shuts.side in
        let same2 : k2 ≡ k = ap (λ (s : Side). frame_of i (other s)) stays.side ∙ same in
        let others2' : Others narrow k mid1 mid2 = subst (λ (n : ℕ). Others narrow n mid1 mid2) same others2 in
        let old_mid2 : Others narrow k old mid2 = others_from k old mid1 mid2 others1 others2' in
        then_on moment left_since d0 d2 d3 (MayOpen narrow k old i pay p)
        (then_on moment left_since d0 d1 d2 (MayOpen narrow k old i pay p)
        (weaker moment left_since d0 d1 (LeavesPayload narrow k old i pay) (MayOpen narrow k old i pay p) (λ image leaves. leaves_opens k i pay p old image leaves) first)
        (weaker moment left_since d1 d2 (LeavesPayload narrow k1 mid1 i (payload_held cell1)) (MayOpen narrow k old i pay p)
        (λ image leaves. leaves_opens k i pay p old image (leaves_from k i pay old mid1 image others1
        (subst (λ (n : ℕ). LeavesPayload narrow n mid1 i pay image) same (subst (λ (o : Option (List ℕ)). LeavesPayload narrow k1 mid1 i o image) shuts.held leaves)))) second))
        (weaker moment left_since d2 d3 (GateTorn narrow j mid2) (MayOpen narrow k old i pay p)
        (λ image torn. opens_from k i pay p old mid2 image old_mid2
        (subst (λ (n : ℕ). MayOpen narrow n mid2 i pay p image) same2 (subst (λ (o : Option (List ℕ)). MayOpen narrow k2 mid2 i o p image) (stays.held ∙ shuts.held)
        (may_open cell2 mid2 i held image p fits staged (subst (λ (n : ℕ). GateTorn narrow n mid2 image) is_j torn))))) third)
