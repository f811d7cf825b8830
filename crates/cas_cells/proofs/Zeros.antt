-- The zeros at the end of a frame.
use Rattle.std.specs.Prelude.{replicate}
use Rattle.std.proofs.Common.{◌≡◌, ℕ, zero, suc, ◌+◌, ◌-◌, ◌/◌, ◌%◌, ◌<◌, ◌≤◌, List, [], ◌∷◌, ◌++◌, length, drop, refl, sym, ◌∙◌, ap, arith}
use Rattle.std.proofs.lemmas.List.{drop_at, drop-drop}
use Rattle.cas_cells.specs.Format.{IsPayload}
use Rattle.cas_cells.specs.Held.{IsFrame, IsZeroBehind, tail_of}
use Rattle.cas_cells.proofs.Places.{IsSize}
use Rattle.cas_cells.proofs.Frames.{length-tail_of, frame_whole}
use Rattle.cas_cells.proofs.Lists.{regroup}

drop_past : (n : ℕ) (bytes : List ℕ) → length bytes ≤ n → drop n bytes ≡ []
drop_past zero [] past = refl
drop_past (suc n) [] past = refl
drop_past zero (b ∷ bytes) past = absurd (omega (arith, past))
drop_past (suc n) (b ∷ bytes) past = drop_past n bytes (omega (arith, past))

drop_zeros : (n k : ℕ) → drop {A = ℕ} n (replicate k 0) ≡ replicate (k - n) 0
drop_zeros zero k = ap (λ (m : ℕ). replicate m 0) (let e : k ≡ k - 0 = omega arith in e)
drop_zeros (suc n) zero = ap (λ (m : ℕ). replicate m 0) (let e : 0 ≡ 0 - suc n = omega arith in e)
drop_zeros (suc n) (suc k) = drop_zeros n k ∙ ap (λ (m : ℕ). replicate m 0) (let e : k - n ≡ suc k - suc n = omega arith in e)

append_zeros : (a b : ℕ) → ◌++◌ {A = ℕ} (replicate a 0) (replicate b 0) ≡ replicate (a + b) 0
append_zeros zero b = ap (λ (m : ℕ). replicate m 0) (let e : b ≡ 0 + b = omega arith in e)
append_zeros (suc a) b = ap (λ (l : List ℕ). 0 ∷ l) (append_zeros a b) ∙ ap (λ (m : ℕ). replicate m 0) (let e : suc (a + b) ≡ suc a + b = omega arith in e)

-- nothing stands behind the end
pub zero_past : (n : ℕ) (frame : List ℕ) → length frame ≤ n + 1 → IsZeroBehind n frame
zero_past n frame past = drop_past (n + 1) frame past ∙ ap (λ (m : ℕ). replicate m 0) (let e : 0 ≡ length frame - (n + 1) = omega (arith, past) in e)

-- and behind zeros there are zeros
pub zero_further : (n m : ℕ) (frame : List ℕ) → n ≤ m → IsZeroBehind n frame → IsZeroBehind m frame
zero_further n m frame more is =
    let split : (n + 1) + (m - n) ≡ m + 1 = omega (arith, more) in
    ap (λ (k : ℕ). drop k frame) (sym split) ∙ sym (drop-drop (m - n) (n + 1) frame) ∙ ap (λ (l : List ℕ). drop (m - n) l) is ∙ drop_zeros (m - n) (length frame - (n + 1))
    ∙ ap (λ (k : ℕ). replicate k 0) (let e : (length frame - (n + 1)) - (m - n) ≡ length frame - (m + 1) = omega (arith, more) in e)

-- another gate leaves them
pub zero_gate : (n : ℕ) (frame frame' : List ℕ) → drop 1 frame' ≡ drop 1 frame → length frame' ≡ length frame → IsZeroBehind n frame → IsZeroBehind n frame'
zero_gate n frame frame' tail long is =
    let split : n + 1 ≡ 1 + n = omega arith in
    ap (λ (k : ℕ). drop k frame') split ∙ sym (drop-drop n 1 frame') ∙ ap (λ (l : List ℕ). drop n l) tail ∙ drop-drop n 1 frame ∙ ap (λ (k : ℕ). drop k frame) (sym split) ∙ is
    ∙ ap (λ (k : ℕ). replicate (k - (n + 1)) 0) (sym long)

-- behind a payload there are zeros
pub zero_tail : (size number : ℕ) (p frame : List ℕ) → drop 1 frame ≡ tail_of size number p → length frame ≡ size → IsZeroBehind (length p + 3) frame
zero_tail size number p frame tail long =
    let split : length p + 3 + 1 ≡ 1 + (3 + length p) = omega arith in
    let rest : List ℕ = replicate (size - (length p + 4)) 0 in
    ap (λ (k : ℕ). drop k frame) split ∙ sym (drop-drop (3 + length p) 1 frame) ∙ ap (λ (l : List ℕ). drop (3 + length p) l) tail
    ∙ sym (drop-drop (length p) 3 (tail_of size number p)) ∙ drop_at p rest (length p) refl
    ∙ ap (λ (k : ℕ). replicate k 0) (let e : size - (length p + 4) ≡ length frame - (length p + 3 + 1) = omega (arith, long) in e)

pub zero_frame : (size : ℕ) → IsSize size → (number : ℕ) (p frame : List ℕ) → IsFrame size number p frame → IsZeroBehind (length p + 3) frame
zero_frame size fit number p frame is = zero_tail size number p frame (ap (λ (l : List ℕ). drop 1 l) is.bytes) (frame_whole size fit number p frame is)

-- a front of the bytes behind a gate, with the zeros that stood behind it, are the bytes of a whole frame
pub covered : (size reach number : ℕ) (p tail frame : List ℕ) → IsPayload (reach + 1) p → reach < size → length frame ≡ size → IsZeroBehind reach frame → tail ≡ tail_of (reach + 1) number p → tail ++ drop (length tail + 1) frame ≡ tail_of size number p
covered size reach number p tail frame fits within long is made =
    let front = number ∷ length p / 256 ∷ length p % 256 ∷ p in
    let zeros = reach + 1 - (length p + 4) in
    let all : length tail + 1 ≡ reach + 1 = ap (λ (l : List ℕ). length l + 1) made ∙ length-tail_of (reach + 1) number p fits in
    (λ i. made i ++ drop (all i) frame)
    ∙ ap (λ (l : List ℕ). tail_of (reach + 1) number p ++ l) is
    ∙ regroup front (replicate zeros 0) (replicate (length frame - (reach + 1)) 0)
    ∙ ap (λ (l : List ℕ). front ++ l) (append_zeros zeros (length frame - (reach + 1)))
    ∙ ap (λ (k : ℕ). front ++ replicate k 0) (let e : zeros + (length frame - (reach + 1)) ≡ size - (length p + 4) = omega (arith, long, within, fits.fits) in e)
