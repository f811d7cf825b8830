-- Frames as bytes: what an open frame and a closed one hold, and what the bytes of a frame without fault are.
use Rattle.std.specs.Prelude.{replicate, nat_lt, ◌==◌, ◌||◌, if◌then◌else◌}
use Rattle.std.proofs.Common.{◌≡◌, inl, inr, ℕ, zero, suc, ◌+◌, ◌-◌, ◌*◌, ◌/◌, ◌%◌, ◌<◌, ◌≤◌, min, Bool, true, false, Option, List, [], ◌∷◌, ◌++◌, length, get_or, take, drop, refl, sym, ◌∙◌, ap, arith, length-append, length-take, length-drop, take-append-drop}
use Rattle.std.proofs.lemmas.List.{take_at, drop_at, drop-drop, length-replicate}
use Rattle.std.proofs.lemmas.Bool.{cases_eq}
use Rattle.std.proofs.lemmas.Bool.Decides.{nat_tests}
use Rattle.cas_cells.specs.Format.{is_open, number_of, length_told, payload_in, zeros_in_front, is_wrong_number, wrong_in_open, first_wrong, IsPayload}
use Rattle.cas_cells.specs.Held.{IsFrame, IsShut, tail_of}
use Rattle.cas_cells.proofs.Places.{IsSize}

-- how long the bytes behind a gate are
pub length-tail_of : (size n : ℕ) (p : List ℕ) → IsPayload size p → length (tail_of size n p) + 1 ≡ size
length-tail_of size n p fits = omega (arith, length-append p (replicate (size - (length p + 4)) 0), length-replicate {A = ℕ} (size - (length p + 4)) 0, fits.fits)

module _ (size : ℕ) (fit : IsSize size) where
  zeros_of_zeros : (n : ℕ) → zeros_in_front (replicate n 0) ≡ n
  zeros_of_zeros zero = refl
  zeros_of_zeros (suc n) = let so_far = zeros_of_zeros n in omega (arith, so_far)

  only_zeros : (bytes : List ℕ) → length bytes ≤ zeros_in_front bytes → bytes ≡ replicate (length bytes) 0
  only_zeros [] all = refl
  only_zeros (b ∷ bytes) all = elim (cases_eq b 0) [
    | inl is_zero ↦
        let more : zeros_in_front (b ∷ bytes) ≡ zeros_in_front bytes + 1 = grind (arith, nat_tests) in
        (λ i. is_zero i ∷ only_zeros bytes (omega arith) i)
    | inr not_zero ↦ let none : zeros_in_front (b ∷ bytes) ≡ 0 = grind (arith, nat_tests) in absurd (omega arith)
  ]

  -- what a closed frame is
  pub shut_open : (f : List ℕ) → IsShut size f → is_open f ≡ false
  shut_open f shut = let no = shut.closed in grind (arith, nat_tests)

  pub shut_wrong : (taken : Option ℕ) (f : List ℕ) → IsShut size f → first_wrong size taken f ≡ size
  shut_wrong taken f shut = rw (shut_open f shut, shut.whole) (omega arith)

  -- what an open frame is
  module _ (n : ℕ) (p f : List ℕ) (is : IsFrame size n p f) where
    pub frame_whole : length f ≡ size
    frame_whole = omega (arith, ap length is.bytes, length-append p (replicate (size - (length p + 4)) 0), length-replicate {A = ℕ} (size - (length p + 4)) 0, is.fits.fits)

    pub frame_open : is_open f ≡ true
    frame_open = rw is.bytes

    pub frame_number : number_of f ≡ n
    frame_number = rw is.bytes

    pub frame_length : length_told f ≡ length p
    frame_length = rw is.bytes (omega arith)

    behind : drop 4 f ≡ p ++ replicate (size - (length p + 4)) 0
    behind = rw is.bytes

    pub frame_payload : payload_in f ≡ p
    frame_payload = ap (λ (k : ℕ). take k (drop 4 f)) frame_length ∙ ap (λ (l : List ℕ). take (length p) l) behind ∙ take_at p (replicate (size - (length p + 4)) 0) (length p) refl

    frame_zeros : zeros_in_front (drop (4 + length p) f) ≡ size - (length p + 4)
    frame_zeros =
        ap zeros_in_front (sym (drop-drop (length p) 4 f) ∙ ap (λ (l : List ℕ). drop (length p) l) behind ∙ drop_at p (replicate (size - (length p + 4)) 0) (length p) refl)
        ∙ zeros_of_zeros (size - (length p + 4))

    pub frame_wrong : (taken : Option ℕ) → is_wrong_number taken n ≡ false → first_wrong size taken f ≡ size
    frame_wrong taken right =
        let few : length p + 4 ≤ size = is.fits.fits in
        let some : 1 ≤ length p = is.fits.not_empty in
        let high_is : get_or f 2 0 ≡ length p / 256 = rw is.bytes in
        let high : nat_lt size (256 * get_or f 2 0 + 4) ≡ false = rw high_is (grind (arith, nat_tests)) in
        let long : (length_told f == 0 || nat_lt size (length_told f + 4)) ≡ false = rw frame_length (grind (arith, nat_tests)) in
        let number : is_wrong_number taken (number_of f) ≡ false = rw frame_number right in
        let wrong : wrong_in_open size taken f ≡ size = rw (number, high, long, frame_length, frame_zeros) (omega arith) in
        rw (frame_open, wrong, frame_whole) (omega arith)

  four_bytes : (f : List ℕ) → 4 ≤ length f → f ≡ get_or f 0 0 ∷ get_or f 1 0 ∷ get_or f 2 0 ∷ get_or f 3 0 ∷ drop 4 f
  four_bytes [] long = absurd (omega arith)
  four_bytes (a ∷ []) long = absurd (omega arith)
  four_bytes (a ∷ b ∷ []) long = absurd (omega arith)
  four_bytes (a ∷ b ∷ c ∷ []) long = absurd (omega arith)
  four_bytes (a ∷ b ∷ c ∷ d ∷ f) long = refl

  -- the tests of an open frame without fault
  pub record Right (taken : Option ℕ) (f : List ℕ) : Type 0 where
    pub whole : length f ≡ size
    pub number : is_wrong_number taken (number_of f) ≡ false
    pub high : 256 * get_or f 2 0 + 4 ≤ size
    pub some : 1 ≤ length_told f
    pub few : length_told f + 4 ≤ size
    pub rest : size - (length_told f + 4) ≤ zeros_in_front (drop (4 + length_told f) f)

  nested : (a b c : Bool) (x : ℕ) → size ≤ (if a then 1 else (if b then 2 else (if c then 3 else x))) → (a ≡ false) × (b ≡ false) × (c ≡ false) × (size ≤ x)
  nested true b c x far = absurd (omega arith)
  nested false true c x far = absurd (omega arith)
  nested false false true x far = absurd (omega arith)
  nested false false false x far = (refl, refl, refl, far)

  pub right_of : (taken : Option ℕ) (f : List ℕ) → is_open f ≡ true → first_wrong size taken f ≡ size → length f ≤ size → Right taken f
  right_of taken f opened sound short =
      let least : min (length f) (wrong_in_open size taken f) ≡ size = rw opened at sound in
      let tests = nested (is_wrong_number taken (number_of f)) (nat_lt size (256 * get_or f 2 0 + 4)) (length_told f == 0 || nat_lt size (length_told f + 4)) (4 + length_told f + zeros_in_front (drop (4 + length_told f) f)) (omega (arith, least)) in
      let high : nat_lt size (256 * get_or f 2 0 + 4) ≡ false = tests.1 in
      let long : (length_told f == 0 || nat_lt size (length_told f + 4)) ≡ false = tests.2 in
      record {
        whole = omega (arith, least, short);
        number = tests.0;
        high = grind (arith, nat_tests);
        some = grind (arith, nat_tests);
        few = grind (arith, nat_tests);
        rest = omega (arith, tests.3);
      }

  -- an open frame without fault is its number and its payload
  pub frame_of_right : (taken : Option ℕ) (f : List ℕ) → is_open f ≡ true → number_of f < 3 → get_or f 3 0 < 256 → Right taken f → IsFrame size (number_of f) (payload_in f) f
  frame_of_right taken f opened small byte right =
      let told = length_told f in
      let long : length (payload_in f) ≡ told = omega (arith, length-take told (drop 4 f), length-drop 4 f, right.whole, right.few) in
      let gate : get_or f 0 0 ≡ 1 = grind (arith, nat_tests) in
      let high : get_or f 2 0 ≡ length (payload_in f) / 256 = omega (arith, long, byte, right.high) in
      let low : get_or f 3 0 ≡ length (payload_in f) % 256 = omega (arith, long, byte, right.high) in
      let end : drop told (drop 4 f) ≡ replicate (size - (length (payload_in f) + 4)) 0 =
      drop-drop told 4 f
      ∙ only_zeros (drop (4 + told) f) (omega (arith, right.rest, length-drop (4 + told) f, right.whole))
      ∙ ap (λ (k : ℕ). replicate k 0) (omega (arith, long, length-drop (4 + told) f, right.whole)) in
      let rest : drop 4 f ≡ payload_in f ++ replicate (size - (length (payload_in f) + 4)) 0 =
      sym (take-append-drop told (drop 4 f)) ∙ ap (λ (l : List ℕ). payload_in f ++ l) end in
      record {
        bytes = four_bytes f (omega (arith, right.whole)) ∙ (λ i. gate i ∷ number_of f ∷ high i ∷ low i ∷ rest i);
        small = small;
        fits = record { not_empty = omega (arith, long, right.some); fits = omega (arith, long, right.few) };
      }

  -- a frame without fault that is not open is closed
  pub shut_of : (taken : Option ℕ) (f : List ℕ) → is_open f ≡ false → first_wrong size taken f ≡ size → length f ≤ size → IsShut size f
  shut_of taken f closed sound short =
      let least : min (length f) size ≡ size = rw closed at sound in
      record { whole = omega (arith, least, short); closed = grind (arith, nat_tests) }
