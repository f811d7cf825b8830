-- What a torn write into one frame leaves of the frames of a disk.
use Rattle.std.proofs.Common.{◌≡◌, ◌≢◌, ⊎_elim, ℕ, suc, ◌+◌, ◌-◌, ◌*◌, ◌<◌, ◌≤◌, List, [], ◌∷◌, ◌++◌, length, get_or, take, drop, refl, sym, ◌∙◌, ap, arith, length-append, length-take, length-drop}
use Rattle.std.proofs.lemmas.List.{take_at, drop_at, drop-drop, drop-take, take-take, take-append-le, length-take-le, get_or-take, get_or-drop}
use Rattle.std.proofs.lemmas.Bool.{cases_lt}
use Rattle.cas_disk.specs.Disk.{HoldsBytes, Torn}
use Rattle.cas_cells.specs.Format.{frame_at, frame_place, frame_size, cell_place, half_size}
use Rattle.cas_cells.specs.Torn.{GateTorn, TailTorn, SameBelow}
use Rattle.cas_cells.specs.Held.{IsShut}
use Rattle.cas_cells.proofs.Places.{sized, place_below, place_second, size_second}
use Rattle.cas_cells.proofs.Lists.{regroup}

-- what a write does as a whole it may do in part
pub holds_torn : (old new bytes : List ℕ) (at : ℕ) → at ≤ length old → HoldsBytes old at bytes new → Torn at (length bytes) old new
holds_torn old new bytes at within holds =
    let front : length (take at old ++ bytes) ≡ at + length bytes = omega (arith, length-append (take at old) bytes, length-take-le at old within) in
    let rest = drop (at + length bytes) old in
    let long : length new ≡ at + length bytes + (length old - (at + length bytes)) = omega (arith, ap length holds, length-append (take at old ++ bytes) rest, front, length-drop (at + length bytes) old) in
    record {
      before = ap (λ (l : List ℕ). take at l) holds ∙ take-append-le at (take at old ++ bytes) rest (omega (arith, front)) ∙ take_at (take at old) bytes at (length-take-le at old within);
      after = ap (λ (l : List ℕ). drop (at + length bytes) l) holds ∙ drop_at (take at old ++ bytes) rest (at + length bytes) front;
      no_shorter = omega (arith, long);
      no_longer = omega (arith, long);
    }

-- what was written stands there, and behind it what stood there
held_behind : (old new bytes : List ℕ) (at : ℕ) → at ≤ length old → HoldsBytes old at bytes new → drop at new ≡ bytes ++ drop (at + length bytes) old
held_behind old new bytes at within holds =
    let rest = drop (at + length bytes) old in
    ap (λ (l : List ℕ). drop at l) (holds ∙ regroup (take at old) bytes rest)
    ∙ drop_at (take at old) (bytes ++ rest) at (length-take-le at old within)

pub held_bytes : (old new bytes : List ℕ) (at : ℕ) → at ≤ length old → HoldsBytes old at bytes new → take (length bytes) (drop at new) ≡ bytes
held_bytes old new bytes at within holds =
    ap (λ (l : List ℕ). take (length bytes) l) (held_behind old new bytes at within holds) ∙ take_at bytes (drop (at + length bytes) old) (length bytes) refl

take_more : (a b : List ℕ) (m : ℕ) → take (length a + m) (a ++ b) ≡ a ++ take m b
take_more [] b m = ap (λ (k : ℕ). take k b) (let e : 0 + m ≡ m = omega arith in e)
take_more (x ∷ a) b m = ap (λ (k : ℕ). take k (x ∷ a ++ b)) (let e : length (x ∷ a) + m ≡ suc (length a + m) = omega arith in e) ∙ ap (λ (l : List ℕ). x ∷ l) (take_more a b m)

-- what lies below a torn range stays
below : (old c : List ℕ) (at n p m : ℕ) → Torn at n old c → p + m ≤ at → take m (drop p c) ≡ take m (drop p old)
below old c at n p m torn under =
    sym (drop-take p m c)
    ∙ ap (λ (l : List ℕ). drop p l) (sym (take-take (p + m) at c under) ∙ ap (λ (l : List ℕ). take (p + m) l) torn.before ∙ take-take (p + m) at old under)
    ∙ drop-take p m old

-- and what lies above it
above : (old c : List ℕ) (at n p : ℕ) → Torn at n old c → at + n ≤ p → drop p c ≡ drop p old
above old c at n p torn over =
    let split : (at + n) + (p - (at + n)) ≡ p = omega arith in
    ap (λ (k : ℕ). drop k c) (sym split)
    ∙ sym (drop-drop (p - (at + n)) (at + n) c)
    ∙ ap (λ (l : List ℕ). drop (p - (at + n)) l) torn.after
    ∙ drop-drop (p - (at + n)) (at + n) old
    ∙ ap (λ (k : ℕ). drop k old) split

-- a frame is its gate and its tail
pub gate_tail : (f : List ℕ) → 0 < length f → f ≡ get_or f 0 0 ∷ drop 1 f
gate_tail [] long = absurd (omega arith)
gate_tail (g ∷ f) long = refl

head_at : (disk : List ℕ) (p x : ℕ) → take 1 (drop p disk) ≡ x ∷ [] → get_or disk p 0 ≡ x
head_at disk p x is =
    let none : p + 0 ≡ p = omega arith in
    sym (get_or-take 1 (drop p disk) 0 0 (omega arith) ∙ get_or-drop p disk 0 0 ∙ ap (λ (q : ℕ). get_or disk q 0) none)
    ∙ ap (λ (l : List ℕ). get_or l 0 0) is

module _ (narrow : ℕ) where
  -- the frames below a torn range stay
  pub frames_below : (old c : List ℕ) (at n j : ℕ) → Torn at n old c → frame_place narrow j + frame_size narrow j ≤ at → frame_at narrow c j ≡ frame_at narrow old j
  frames_below old c at n j torn under = below old c at n (frame_place narrow j) (frame_size narrow j) torn under

  -- the other frames stay
  pub other_frames : (old c : List ℕ) (k at n j : ℕ) → Torn at n old c → frame_place narrow k ≤ at → at + n ≤ frame_place narrow k + frame_size narrow k → j ≢ k → frame_at narrow c j ≡ frame_at narrow old j
  other_frames old c k at n j torn low high apart = ⊎_elim
      (λ (less : j < k). frames_below old c at n j torn (let before = place_below narrow j k less in omega (arith, before, low)))
      (λ (not_less : k ≤ j).
      let more : k < j = omega (arith, not_less, apart) in
      let behind = place_below narrow k j more in
      ap (λ (l : List ℕ). take (frame_size narrow j) l) (above old c at n (frame_place narrow j) torn (omega (arith, behind, high))))
      (cases_lt j k)

  pub frame_length : (disk : List ℕ) (k : ℕ) → frame_place narrow k + frame_size narrow k ≤ length disk → length (frame_at narrow disk k) ≡ frame_size narrow k
  frame_length disk k within = omega (arith, length-take (frame_size narrow k) (drop (frame_place narrow k) disk), length-drop (frame_place narrow k) disk)

  -- a whole frame lies within the disk
  pub frame_within : (disk : List ℕ) (k : ℕ) → length (frame_at narrow disk k) ≡ frame_size narrow k → frame_place narrow k + frame_size narrow k ≤ length disk
  frame_within disk k whole = omega (arith, length-take (frame_size narrow k) (drop (frame_place narrow k) disk), length-drop (frame_place narrow k) disk, (sized narrow k).least)

  pub gate_of : (disk : List ℕ) (k : ℕ) → get_or (frame_at narrow disk k) 0 0 ≡ get_or disk (frame_place narrow k) 0
  gate_of disk k =
      let none : frame_place narrow k + 0 ≡ frame_place narrow k = omega arith in
      get_or-take (frame_size narrow k) (drop (frame_place narrow k) disk) 0 0 (omega (arith, (sized narrow k).least)) ∙ get_or-drop (frame_place narrow k) disk 0 0 ∙ ap (λ (p : ℕ). get_or disk p 0) none

  tail_at : (disk : List ℕ) (k n : ℕ) → n + 1 ≡ frame_size narrow k → drop 1 (frame_at narrow disk k) ≡ take n (drop (frame_place narrow k + 1) disk)
  tail_at disk k n is =
      let all : 1 + n ≡ frame_size narrow k = omega (arith, is) in
      ap (λ (m : ℕ). drop 1 (take m (drop (frame_place narrow k) disk))) (sym all)
      ∙ drop-take 1 n (drop (frame_place narrow k) disk) ∙ ap (λ (l : List ℕ). take n l) (drop-drop 1 (frame_place narrow k) disk)

  behind_gate : (k : ℕ) → (frame_size narrow k - 1) + 1 ≡ frame_size narrow k
  behind_gate k = omega (arith, (sized narrow k).least)

  pub gate_torn : (k : ℕ) (old c : List ℕ) → length (frame_at narrow old k) ≡ frame_size narrow k → Torn (frame_place narrow k) 1 old c → GateTorn narrow k old c
  gate_torn k old c whole torn =
      let within : frame_place narrow k + frame_size narrow k ≤ length old = frame_within old k whole in
      let least = (sized narrow k).least in
      let n : ℕ = frame_size narrow k - 1 in
      record {
        others = λ j apart. other_frames old c k (frame_place narrow k) 1 j torn (omega arith) (omega (arith, least)) apart;
        tail = tail_at c k n (behind_gate k) ∙ ap (λ (l : List ℕ). take n l) torn.after ∙ sym (tail_at old k n (behind_gate k));
        size = frame_length c k (omega (arith, torn.no_shorter, within));
      }

  pub tail_torn : (k : ℕ) (old c : List ℕ) → length (frame_at narrow old k) ≡ frame_size narrow k → (n : ℕ) → n + 1 ≤ frame_size narrow k → Torn (frame_place narrow k + 1) n old c → TailTorn narrow k old c
  tail_torn k old c whole n rest torn =
      let within : frame_place narrow k + frame_size narrow k ≤ length old = frame_within old k whole in
      let before : frame_place narrow k < frame_place narrow k + 1 = omega arith in
      record {
        others = λ j apart. other_frames old c k (frame_place narrow k + 1) n j torn (omega arith) (omega (arith, rest)) apart;
        gate =
            gate_of c k
            ∙ sym (get_or-take (frame_place narrow k + 1) c (frame_place narrow k) 0 before)
            ∙ ap (λ (l : List ℕ). get_or l (frame_place narrow k) 0) torn.before
            ∙ get_or-take (frame_place narrow k + 1) old (frame_place narrow k) 0 before
            ∙ sym (gate_of old k);
        size = frame_length c k (omega (arith, torn.no_shorter, within));
      }

  -- a gate was written
  pub gate_held : (k g : ℕ) (old new : List ℕ) → length (frame_at narrow old k) ≡ frame_size narrow k → HoldsBytes old (frame_place narrow k) (g ∷ []) new → frame_at narrow new k ≡ g ∷ drop 1 (frame_at narrow old k)
  gate_held k g old new whole holds =
      let within : frame_place narrow k ≤ length old = omega (arith, frame_within old k whole) in
      let torn = gate_torn k old new whole (holds_torn old new (g ∷ []) (frame_place narrow k) within holds) in
      let gate : get_or (frame_at narrow new k) 0 0 ≡ g = gate_of new k ∙ head_at new (frame_place narrow k) g (held_bytes old new (g ∷ []) (frame_place narrow k) within holds) in
      gate_tail (frame_at narrow new k) (omega (arith, torn.size, (sized narrow k).least)) ∙ (λ i. gate i ∷ torn.tail i)

  -- a front of a tail was written
  pub tail_held : (k : ℕ) (tail old new : List ℕ) → length (frame_at narrow old k) ≡ frame_size narrow k → length tail + 1 ≤ frame_size narrow k → HoldsBytes old (frame_place narrow k + 1) tail new → drop 1 (frame_at narrow new k) ≡ tail ++ drop (length tail + 1) (frame_at narrow old k)
  tail_held k tail old new whole long holds =
      let within : frame_place narrow k + 1 ≤ length old = omega (arith, frame_within old k whole, (sized narrow k).least) in
      let place = frame_place narrow k in
      let n = length tail in
      let m : ℕ = frame_size narrow k - (n + 1) in
      let all : (n + m) + 1 ≡ frame_size narrow k = omega (arith, long) in
      let front : (n + 1) + m ≡ frame_size narrow k = omega (arith, long) in
      let stayed : drop (n + 1) (frame_at narrow old k) ≡ take m (drop (place + 1 + n) old) =
      ap (λ (s : ℕ). drop (n + 1) (take s (drop place old))) (sym front) ∙ drop-take (n + 1) m (drop place old)
      ∙ ap (λ (l : List ℕ). take m l) (drop-drop (n + 1) place old) ∙ ap (λ (p : ℕ). take m (drop p old)) (let e : place + (n + 1) ≡ place + 1 + n = omega arith in e) in
      tail_at new k (n + m) all ∙ ap (λ (l : List ℕ). take (n + m) l) (held_behind old new tail (place + 1) within holds)
      ∙ take_more tail (drop (place + 1 + n) old) m ∙ ap (λ (l : List ℕ). tail ++ l) (sym stayed)

  -- the frames below a cell stay while the cell is written
  pub same_below : (i n : ℕ) (old c : List ℕ) → Torn (cell_place narrow i) n old c → SameBelow narrow (2 * i) old c
  same_below i n old c torn j less = frames_below old c (cell_place narrow i) n j torn (place_below narrow j (2 * i) less)

  -- zeros were written over a cell
  pub blank_held : (i : ℕ) (old new z : List ℕ) → length z ≡ 2 * half_size narrow i → ((o : ℕ) → o < length z → get_or z o 0 ≡ 0) → cell_place narrow i ≤ length old → HoldsBytes old (cell_place narrow i) z new
      → IsShut (half_size narrow i) (frame_at narrow new (2 * i)) × IsShut (half_size narrow i) (frame_at narrow new (2 * i + 1))
  blank_held i old new z size zero within holds =
      (shut_at (2 * i) 0 (omega arith) refl (omega (arith, least)), shut_at (2 * i + 1) (half_size narrow i) (place_second narrow i) (size_second narrow i) (omega (arith, least)))
    where
      least : 512 ≤ half_size narrow i
      least = (sized narrow (2 * i)).least

      zeros : take (length z) (drop (cell_place narrow i) new) ≡ z
      zeros = held_bytes old new z (cell_place narrow i) within holds

      long : cell_place narrow i + 2 * half_size narrow i ≤ length new
      long = omega (arith, ap length zeros, length-take (length z) (drop (cell_place narrow i) new), length-drop (cell_place narrow i) new, size, least)

      shut_at : (k o : ℕ) → frame_place narrow k ≡ cell_place narrow i + o → frame_size narrow k ≡ half_size narrow i → o + half_size narrow i ≤ 2 * half_size narrow i → IsShut (half_size narrow i) (frame_at narrow new k)
      shut_at k o place same inside =
          let less : o < length z = omega (arith, inside, size, least) in
          let gate : get_or (frame_at narrow new k) 0 0 ≡ 0 =
          gate_of new k ∙ ap (λ (p : ℕ). get_or new p 0) place ∙ sym (get_or-drop (cell_place narrow i) new o 0) ∙ sym (get_or-take (length z) (drop (cell_place narrow i) new) o 0 less)
          ∙ ap (λ (l : List ℕ). get_or l o 0) zeros ∙ zero o less in
          record { whole = frame_length new k (omega (arith, long, place, same, inside)) ∙ same; closed = λ one. let zero_one : 0 ≡ 1 = sym gate ∙ one in absurd (omega arith) }
