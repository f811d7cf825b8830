-- A cell of two frames: what it holds, and that nothing in it is wrong.
use Rattle.std.specs.Prelude.{◌==◌, nat_lt, MatchOption, MatchBool}
use Rattle.std.proofs.Common.{◌≡◌, ℕ, ◌*◌, ◌<◌, Bool, true, false, Option, Some, None, List, arith}
use Rattle.std.proofs.lemmas.Bool.Decides.{nat_tests}
use Rattle.cas_cells.specs.Format.{number_of, next, is_wrong_number, wrong_in_cell, payload_of}
use Rattle.cas_cells.specs.Held.{IsFrame, IsShut, IsOlder, on}
use Rattle.cas_cells.specs.declared.cell.Side.{Side}
use Rattle.cas_cells.specs.declared.cell.Side.TheVariants.{First, Second}
use Rattle.cas_cells.proofs.Places.{IsSize}
use Rattle.cas_cells.proofs.Frames.{shut_open, shut_wrong, frame_open, frame_number, frame_payload, frame_wrong}

-- nothing is wrong in a cell of frames of this size, and this is its payload
pub record IsCellSound (size : ℕ) (payload : Option (List ℕ)) (f g : List ℕ) : Type 0 where
  pub whole : wrong_in_cell size f g ≡ 2 * size
  pub same : payload_of f g ≡ payload

pub not_less : (n : ℕ) → nat_lt n n ≡ false
not_less n = grind (arith, nat_tests)

module _ (size : ℕ) (fit : IsSize size) where
  pub both_shut : (f g : List ℕ) → IsShut size f → IsShut size g → IsCellSound size None f g
  both_shut f g f_shut g_shut = record {
    whole = rw (shut_wrong size fit None f f_shut, shut_open size fit f f_shut, shut_wrong size fit None g g_shut, not_less size) (omega arith);
    same = rw (shut_open size fit f f_shut, shut_open size fit g g_shut);
  }

  small_right : (n : ℕ) → n < 3 → is_wrong_number None n ≡ false
  small_right n small = grind (arith, nat_tests)

  first_only : (n : ℕ) (p f g : List ℕ) → IsFrame size n p f → IsShut size g → IsCellSound size (Some p) f g
  first_only n p f g frame g_shut = record {
    whole = rw (frame_wrong size fit n p f frame None (small_right n frame.small), frame_open size fit n p f frame, shut_wrong size fit (Some (number_of f)) g g_shut, not_less size) (omega arith);
    same = rw (shut_open size fit g g_shut, frame_open size fit n p f frame, frame_payload size fit n p f frame);
  }

  second_only : (n : ℕ) (p f g : List ℕ) → IsShut size f → IsFrame size n p g → IsCellSound size (Some p) f g
  second_only n p f g f_shut frame = record {
    whole = rw (shut_wrong size fit None f f_shut, shut_open size fit f f_shut, frame_wrong size fit n p g frame None (small_right n frame.small), not_less size) (omega arith);
    same = rw (frame_open size fit n p g frame, shut_open size fit f f_shut, frame_payload size fit n p g frame);
  }

  -- the first frame is newer
  first_newer : (n k : ℕ) (p q f g : List ℕ) → IsFrame size n p f → IsFrame size k q g → next k ≡ n → IsCellSound size (Some p) f g
  first_newer n k p q f g frame old follows =
      let k_small : k < 3 = old.small in
      let apart : is_wrong_number (Some n) k ≡ false = grind (arith, nat_tests) in
      let not_next : (k == next n) ≡ false = grind (arith, nat_tests) in
      record {
        whole = rw (frame_wrong size fit n p f frame None (small_right n frame.small), frame_open size fit n p f frame, frame_number size fit n p f frame, frame_wrong size fit k q g old (Some n) apart, not_less size) (omega arith);
        same = rw (frame_open size fit k q g old, frame_open size fit n p f frame, frame_number size fit k q g old, frame_number size fit n p f frame, not_next, frame_payload size fit n p f frame);
      }

  -- the second frame is newer
  second_newer : (n k : ℕ) (p q f g : List ℕ) → IsFrame size k q f → IsFrame size n p g → next k ≡ n → IsCellSound size (Some p) f g
  second_newer n k p q f g old frame follows =
      let k_small : k < 3 = old.small in
      let apart : is_wrong_number (Some k) n ≡ false = grind (arith, nat_tests) in
      let is_next : (n == next k) ≡ true = grind (arith, nat_tests) in
      record {
        whole = rw (frame_wrong size fit k q f old None (small_right k old.small), frame_open size fit k q f old, frame_number size fit k q f old, frame_wrong size fit n p g frame (Some k) apart, not_less size) (omega arith);
        same = rw (frame_open size fit n p g frame, frame_open size fit k q f old, frame_number size fit n p g frame, frame_number size fit k q f old, is_next, frame_payload size fit n p g frame);
      }

  -- what a cell holds, from its current frame and its spare
  pub sound : (side : Side) (payload : Option (List ℕ)) (n : ℕ) (spare_open : Bool) (current spare : List ℕ) → MatchOption payload ((spare_open ≡ false) × IsShut size current) (λ p. IsFrame size n p current) → MatchBool spare_open (IsOlder size n spare) (IsShut size spare)
      → IsCellSound size payload (on side current spare) (on side spare current)
  sound side None n true current spare here there = absurd (cc (here.0))
  sound First None n false current spare here there = both_shut current spare here.1 there
  sound Second None n false current spare here there = both_shut spare current there here.1
  sound First (Some p) n false current spare here there = first_only n p current spare here there
  sound Second (Some p) n false current spare here there = second_only n p spare current there here
  sound First (Some p) n true current spare here there = first_newer n there.0 p there.1 current spare here there.3 there.2
  sound Second (Some p) n true current spare here there = second_newer n there.0 p there.1 spare current there.3 here there.2
