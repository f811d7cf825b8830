-- The three steps of a change, on the two frames of its cell.
use Rattle.std.specs.Prelude.{MatchOption, MatchBool, is_some, Vec}
use Rattle.std.specs.Option.{option_map}
use Rattle.std.specs.declared.alloc.Global.{Global}
use Rattle.std.proofs.Common.{◌≡◌, ◌≢◌, ◌⊎◌, inl, inr, ℕ, ◌<◌, Bool, true, false, Option, Some, None, List, ◌∷◌, length, get_or, drop, refl, sym, ◌∙◌, ap, subst, arith}
use Rattle.std.proofs.lemmas.Bool.{cases_eq}
use Rattle.std.proofs.lemmas.Bool.Decides.{nat_tests}
use Rattle.cas_cells.specs.Format.{next, IsPayload}
use Rattle.cas_cells.specs.Held.{on, tail_of, IsFrame, IsShut, IsOlder, IsBlank, IsZeroBehind, used_by, FramesHeld, payload_held, other, IsAsBefore, Writes, OpensSpare, Shuts}
use Rattle.cas_cells.specs.declared.cell.Side.{Side}
use Rattle.cas_cells.specs.declared.cell.Side.TheVariants.{First, Second}
use Rattle.cas_cells.specs.declared.cell.Cell.{Cell}
use Rattle.cas_cells.proofs.Places.{IsSize}
use Rattle.cas_cells.proofs.Frames.{frame_whole}
use Rattle.cas_cells.proofs.Sound.{IsCellSound, sound}
use Rattle.cas_cells.proofs.Tearing.{gate_tail}
use Rattle.cas_cells.proofs.Zeros.{zero_past, zero_gate, zero_tail, zero_frame}

module _ (size : ℕ) (fit : IsSize size) where
  pub weaken : (o : Option (List ℕ)) (P Q : Type 0) (F : List ℕ → Type 0) → (P → Q) → MatchOption o P F → MatchOption o Q F
  weaken None P Q F f here = f here
  weaken (Some p) P Q F f here = here

  -- a cell in memory whose frames stand on the disk is sound
  pub held_sound : (cell : Cell) (current spare : List ℕ) → FramesHeld size cell current spare → IsCellSound size (payload_held cell) (on cell.side current spare) (on cell.side spare current)
  held_sound cell current spare held =
      sound size fit cell.side (payload_held cell) cell.number cell.spare_open current spare
      (weaken (payload_held cell) (IsBlank cell × IsShut size current) ((cell.spare_open ≡ false) × IsShut size current) (λ p. IsFrame size cell.number p current) (λ blank. (blank.0.spare, blank.1)) held.in_current)
      held.in_spare

  -- a cell in memory whose frames stand on the disk but for the spare, which is closed
  pub held_shut : (cell : Cell) (current spare spare' : List ℕ) → FramesHeld size cell current spare → IsShut size spare' → IsCellSound size (payload_held cell) (on cell.side current spare') (on cell.side spare' current)
  held_shut cell current spare spare' held shut =
      sound size fit cell.side (payload_held cell) cell.number false current spare'
      (weaken (payload_held cell) (IsBlank cell × IsShut size current) ((false ≡ false) × IsShut size current) (λ p. IsFrame size cell.number p current) (λ blank. (refl, blank.1)) held.in_current)
      shut

  pub shut_frame : (f : List ℕ) → length f ≡ size → get_or f 0 0 ≢ 1 → IsShut size f
  shut_frame f long closed = record { whole = long; closed = closed }

  in_shut : (o : Bool) (n : ℕ) (spare : List ℕ) → o ≡ false → MatchBool o (IsOlder size n spare) (IsShut size spare) → IsShut size spare
  in_shut true n spare is held = absurd (cc)
  in_shut false n spare is held = held

  in_older : (o : Bool) (n : ℕ) (spare : List ℕ) → o ≡ true → MatchBool o (IsOlder size n spare) (IsShut size spare) → IsOlder size n spare
  in_older true n spare is held = held
  in_older false n spare is held = absurd (cc)

  -- the spare of a cell is whole
  pub spare_size : (cell : Cell) (current spare : List ℕ) → FramesHeld size cell current spare → length spare ≡ size
  spare_size cell current spare held = go cell.spare_open refl
    where
      go : (o : Bool) → cell.spare_open ≡ o → length spare ≡ size
      go false is = (in_shut cell.spare_open cell.number spare is held.in_spare).whole
      go true is = let older = in_older cell.spare_open cell.number spare is held.in_spare in frame_whole size fit older.0 older.1 spare older.3

  -- while an open spare is closed, its gate may hold anything
  pub while_closing : (cell : Cell) (current spare spare' : List ℕ) → FramesHeld size cell current spare → cell.spare_open ≡ true → drop 1 spare' ≡ drop 1 spare → length spare' ≡ size
      → IsCellSound size (payload_held cell) (on cell.side current spare') (on cell.side spare' current)
  while_closing cell current spare spare' held opened tail long = elim (cases_eq (get_or spare' 0 0) 1) [
    | inl gate ↦
        let older = in_older cell.spare_open cell.number spare opened held.in_spare in
        let same : spare' ≡ spare =
        gate_tail spare' (omega (arith, long, fit.least)) ∙ (λ i. gate i ∷ tail i) ∙ ap (λ (l : List ℕ). 1 ∷ drop 1 l) older.3.bytes ∙ sym older.3.bytes in
        subst (λ (f : List ℕ). IsCellSound size (payload_held cell) (on cell.side current f) (on cell.side f current)) (sym same) (held_sound cell current spare held)
    | inr shut ↦ held_shut cell current spare spare' held (shut_frame spare' long shut)
  ]

  -- while a closed spare is written, it stays closed
  pub while_writing : (cell : Cell) (current spare spare' : List ℕ) → FramesHeld size cell current spare → cell.spare_open ≡ false → get_or spare' 0 0 ≡ get_or spare 0 0 → length spare' ≡ size → IsShut size spare'
  while_writing cell current spare spare' held closed gate long =
      let shut = in_shut cell.spare_open cell.number spare closed held.in_spare in
      shut_frame spare' long (λ opened. shut.closed (sym gate ∙ opened))

  -- what a blank cell says of its current frame, and any other, it says as long as that stays
  current_stays : (cell cell' : Cell) (current : List ℕ) → IsAsBefore cell cell' → MatchOption (payload_held cell) (IsBlank cell × IsShut size current) (λ p. IsFrame size cell.number p current) → MatchOption (payload_held cell') (IsBlank cell' × IsShut size current) (λ p. IsFrame size cell'.number p current)
  current_stays cell cell' current same held =
      subst (λ (o : Option (List ℕ)). MatchOption o (IsBlank cell' × IsShut size current) (λ p. IsFrame size cell'.number p current)) (sym same.held)
      (subst (λ (n : ℕ). MatchOption (payload_held cell) (IsBlank cell' × IsShut size current) (λ p. IsFrame size n p current)) (sym same.number)
      (weaken (payload_held cell) (IsBlank cell × IsShut size current) (IsBlank cell' × IsShut size current) (λ p. IsFrame size cell.number p current)
      (λ blank. (record { side = same.side ∙ blank.0.side; number = same.number ∙ blank.0.number; spare = same.spare ∙ blank.0.spare }, blank.1)) held))

  -- once a payload was written into the closed spare, the cell in memory says what stands there
  pub held_with : (cell cell' : Cell) (p current spare spare' : List ℕ) → FramesHeld size cell current spare → cell.spare_open ≡ false → IsShut size spare' → Writes p cell cell' → drop 1 spare' ≡ tail_of size (next cell.number) p → FramesHeld size cell' current spare'
  held_with cell cell' p current spare spare' held closed shut writes tail = record {
    in_current = current_stays cell cell' current writes.same held.in_current;
    in_spare = subst (λ (o : Bool). MatchBool o (IsOlder size cell'.number spare') (IsShut size spare')) (sym (writes.same.spare ∙ closed)) shut;
    in_rest = subst (λ (n : ℕ). IsZeroBehind n spare') (sym writes.used) (zero_tail size (next cell.number) p spare' tail shut.whole);
  }

  next_small : (n : ℕ) → n < 3 → next n < 3
  next_small n small = grind (arith, nat_tests)

  -- the new frame is open
  staged : (cell : Cell) (p spare' : List ℕ) → IsPayload size p → drop 1 spare' ≡ tail_of size (next cell.number) p → length spare' ≡ size → get_or spare' 0 0 ≡ 1 → IsFrame size (next cell.number) p spare'
  staged cell p spare' fits tail long gate = record {
    bytes = gate_tail spare' (omega (arith, long, fit.least)) ∙ (λ i. gate i ∷ tail i);
    small = next_small cell.number cell.small;
    fits = fits;
  }

  older_or_shut : (cell : Cell) (pay : Option (List ℕ)) (n : ℕ) (current : List ℕ) → pay ≡ payload_held cell → MatchOption (payload_held cell) (IsBlank cell × IsShut size current) (λ q. IsFrame size cell.number q current) → next cell.number ≡ n → MatchBool (is_some pay) (IsOlder size n current) (IsShut size current)
  older_or_shut cell None n current is held follows =
      (subst (λ (o : Option (List ℕ)). MatchOption o (IsBlank cell × IsShut size current) (λ q. IsFrame size cell.number q current)) (sym is) held).1
  older_or_shut cell (Some q) n current is held follows =
      (cell.number, q, follows, subst (λ (o : Option (List ℕ)). MatchOption o (IsBlank cell × IsShut size current) (λ q. IsFrame size cell.number q current)) (sym is) held)

  turned : (side : Side) (pay : Option (List ℕ)) (f g : List ℕ) → IsCellSound size pay (on (other side) g f) (on (other side) f g) → IsCellSound size pay (on side f g) (on side g f)
  turned First pay f g is = is
  turned Second pay f g is = is

  -- while a spare that holds a payload is opened, the cell has its old payload or that one
  pub while_opening : (cell : Cell) (p current spare spare' : List ℕ) → FramesHeld size cell current spare → IsPayload size p → drop 1 spare ≡ tail_of size (next cell.number) p → drop 1 spare' ≡ drop 1 spare → length spare' ≡ size
      → IsCellSound size (payload_held cell) (on cell.side current spare') (on cell.side spare' current) ⊎ IsCellSound size (Some p) (on cell.side current spare') (on cell.side spare' current)
  while_opening cell p current spare spare' held fits holds tail long = elim (cases_eq (get_or spare' 0 0) 1) [
    | inl gate ↦
        let frame = staged cell p spare' fits (tail ∙ holds) long gate in
        inr (turned cell.side (Some p) current spare' (sound size fit (other cell.side) (Some p) (next cell.number) (is_some (payload_held cell)) spare' current frame (older_or_shut cell (payload_held cell) (next cell.number) current refl held.in_current refl)))
    | inr shut ↦ inl (held_shut cell current spare spare' held (shut_frame spare' long shut))
  ]

  -- behind what is in use of the current frame there are zeros
  current_used : (cell : Cell) (pay : Option (List ℕ)) (current : List ℕ) → pay ≡ payload_held cell → MatchOption (payload_held cell) (IsBlank cell × IsShut size current) (λ q. IsFrame size cell.number q current) → IsZeroBehind (used_by pay) current
  current_used cell None current is held =
      let shut = (subst (λ (o : Option (List ℕ)). MatchOption o (IsBlank cell × IsShut size current) (λ q. IsFrame size cell.number q current)) (sym is) held).1 in
      zero_past 4608 current (omega (arith, shut.whole, fit.most))
  current_used cell (Some q) current is held =
      zero_frame size fit cell.number q current (subst (λ (o : Option (List ℕ)). MatchOption o (IsBlank cell × IsShut size current) (λ q. IsFrame size cell.number q current)) (sym is) held)

  map_some : (o : Option (Vec ℕ Global)) → is_some (option_map (λ (v : Vec ℕ Global). v.items) o) ≡ is_some o
  map_some None = refl
  map_some (Some v) = refl

  is_some_map : (cell : Cell) → is_some (payload_held cell) ≡ is_some cell.payload
  is_some_map cell = map_some cell.payload

  -- once it is open, the cell in memory says so
  pub opened_held : (cell cell' : Cell) (p current spare spare' : List ℕ) → FramesHeld size cell current spare → IsPayload size p → drop 1 spare ≡ tail_of size (next cell.number) p → spare' ≡ 1 ∷ drop 1 spare → length spare ≡ size → OpensSpare p cell cell' → FramesHeld size cell' spare' current
  opened_held cell cell' p current spare spare' held fits holds is long opens =
      let frame : IsFrame size (next cell.number) p spare' = record { bytes = is ∙ ap (λ (l : List ℕ). 1 ∷ l) holds; small = next_small cell.number cell.small; fits = fits } in
      record {
        in_current = subst (λ (o : Option (List ℕ)). MatchOption o (IsBlank cell' × IsShut size spare') (λ q. IsFrame size cell'.number q spare')) (sym opens.held) (subst (λ (n : ℕ). IsFrame size n p spare') (sym opens.number) frame);
        in_spare = subst (λ (o : Bool). MatchBool o (IsOlder size cell'.number current) (IsShut size current)) (is_some_map cell ∙ sym opens.spare) (older_or_shut cell (payload_held cell) cell'.number current refl held.in_current (sym opens.number));
        in_rest = subst (λ (n : ℕ). IsZeroBehind n current) (sym opens.used) (current_used cell (payload_held cell) current refl held.in_current);
      }

  -- once it is closed, the cell in memory says so
  pub closed_held : (cell cell' : Cell) (current spare spare' : List ℕ) → FramesHeld size cell current spare → IsShut size spare' → cell.spare_open ≡ true → Shuts cell cell' → drop 1 spare' ≡ drop 1 spare → FramesHeld size cell' current spare'
  closed_held cell cell' current spare spare' held shut opened closes tail = record {
    in_current =
        subst (λ (o : Option (List ℕ)). MatchOption o (IsBlank cell' × IsShut size current) (λ p. IsFrame size cell'.number p current)) (sym closes.held)
        (subst (λ (n : ℕ). MatchOption (payload_held cell) (IsBlank cell' × IsShut size current) (λ p. IsFrame size n p current)) (sym closes.number)
        (weaken (payload_held cell) (IsBlank cell × IsShut size current) (IsBlank cell' × IsShut size current) (λ p. IsFrame size cell.number p current) (λ blank. absurd (cc (blank.0.spare, opened))) held.in_current));
    in_spare = subst (λ (o : Bool). MatchBool o (IsOlder size cell'.number spare') (IsShut size spare')) (sym closes.spare) shut;
    in_rest = subst (λ (n : ℕ). IsZeroBehind n spare') (sym closes.used) (zero_gate cell.spare_used spare spare' tail (shut.whole ∙ sym (spare_size cell current spare held)) held.in_rest);
  }
