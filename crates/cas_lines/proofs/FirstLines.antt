-- Lemmas on the first of the lines of some bytes.
use Rattle.std.proofs.Common.{◌≡◌, ℕ, ◌≤◌, Bool, true, false, ◌||◌, ◌&&◌, ◌==◌, not, ◌+◌, cond, List, [], ◌∷◌, ◌++◌, length, drop, refl, ap, ◌∙◌, arith}
use Rattle.std.specs.Io.BufRead.{take_through, drop_through}
use Rattle.cas_lines.specs.Lines.{has_newline, is_at_newline, text_of, lines_of, onto_first, longer_first, line_lens, first_len}

-- and false is false
and_false : (b : Bool) → (b && false) ≡ false
and_false true = refl
and_false false = refl

-- what is dropped with the first line is what stands before its end
pub drop-length-take_through : (bytes : List ℕ) → drop (length (take_through 10 bytes)) bytes ≡ drop_through 10 bytes
drop-length-take_through [] = refl
drop-length-take_through (byte ∷ bytes) =
    elim (byte == 10) as (λ b. drop (length (cond b (byte ∷ []) (byte ∷ take_through 10 bytes))) (byte ∷ bytes) ≡ cond b bytes (drop_through 10 bytes))
    [ true ↦ refl | false ↦ drop-length-take_through bytes ]

-- the first line has no more bytes than all lines
pub length-take_through-le : (bytes : List ℕ) → length (take_through 10 bytes) ≤ length bytes
length-take_through-le [] = omega arith
length-take_through-le (byte ∷ bytes) =
    elim (byte == 10) as (λ b. length (cond b (byte ∷ []) (byte ∷ take_through 10 bytes)) ≤ length (byte ∷ bytes))
    [ true ↦ omega arith | false ↦ omega (arith, length-take_through-le bytes) ]

-- the line before a newline right in front is empty
text_of-at_newline : (bytes : List ℕ) → is_at_newline bytes ≡ true → text_of bytes ≡ []
text_of-at_newline [] at = refl
text_of-at_newline (byte ∷ bytes) at =
    ap (λ b. cond b [] (cond ((byte == 13) && is_at_newline bytes) [] (byte ∷ text_of bytes))) at

-- a byte goes onto the first line unless it is a carriage return right before a newline
onto_first-step : (return newline : Bool) (byte : ℕ) (lines rest : List (List ℕ)) (text : List ℕ) → lines ≡ text ∷ rest → (newline ≡ true → text ≡ [])
    → cond (return && newline) lines (onto_first byte lines) ≡ cond (return && newline) [] (byte ∷ text) ∷ rest
onto_first-step true true byte lines rest text first empty = first ∙ ap (λ t. t ∷ rest) (empty refl)
onto_first-step true false byte lines rest text first empty = ap (onto_first byte) first
onto_first-step false newline byte lines rest text first empty = ap (onto_first byte) first

-- the first line of some bytes
pub lines_of-first : (byte : ℕ) (bytes : List ℕ) → lines_of (byte ∷ bytes) ≡ text_of (byte ∷ bytes) ∷ lines_of (drop_through 10 (byte ∷ bytes))
lines_of-first byte [] =
    elim (byte == 10) as (λ n. cond n ([] ∷ []) (cond ((byte == 13) && false) [] ((byte ∷ []) ∷ [])) ≡ cond n [] (cond ((byte == 13) && false) [] (byte ∷ [])) ∷ lines_of (cond n [] []))
    [ true ↦ refl | false ↦ rw (and_false (byte == 13)) refl ]
lines_of-first byte (next ∷ bytes) =
    let later = lines_of-first next bytes in
    elim (byte == 10) as (λ n. cond n ([] ∷ lines_of (next ∷ bytes)) (cond ((byte == 13) && (next == 10)) (lines_of (next ∷ bytes)) (onto_first byte (lines_of (next ∷ bytes))))
    ≡ cond n [] (cond ((byte == 13) && (next == 10)) [] (byte ∷ text_of (next ∷ bytes))) ∷ lines_of (cond n (next ∷ bytes) (drop_through 10 (next ∷ bytes)))) [
      | true ↦ refl
      | false ↦ onto_first-step (byte == 13) (next == 10) byte (lines_of (next ∷ bytes)) (lines_of (drop_through 10 (next ∷ bytes))) (text_of (next ∷ bytes)) later (λ at. text_of-at_newline (next ∷ bytes) at)
    ]

-- how long the first line of some bytes is
pub line_lens-first : (byte : ℕ) (bytes : List ℕ) → line_lens (byte ∷ bytes) ≡ first_len (byte ∷ bytes) ∷ line_lens (drop_through 10 (byte ∷ bytes))
line_lens-first byte [] =
    elim (byte == 10) as (λ n. cond n (0 ∷ []) (1 ∷ []) ≡ cond (not n) (1 + first_len []) 0 ∷ line_lens (cond n [] []))
    [ true ↦ refl | false ↦ refl ]
line_lens-first byte (next ∷ bytes) =
    let later = line_lens-first next bytes in
    elim (byte == 10) as (λ n. cond n (0 ∷ line_lens (next ∷ bytes)) (longer_first (line_lens (next ∷ bytes)))
    ≡ cond (not n) (1 + first_len (next ∷ bytes)) 0 ∷ line_lens (cond n (next ∷ bytes) (drop_through 10 (next ∷ bytes))))
    [ true ↦ refl | false ↦ ap longer_first later ]

-- a newline in front stays in front when more bytes follow
is_at_newline-append : (bytes more : List ℕ) → has_newline bytes ≡ true → is_at_newline (bytes ++ more) ≡ is_at_newline bytes
is_at_newline-append [] more some = absurd cc
is_at_newline-append (byte ∷ bytes) more some = refl

-- what follows the first newline changes nothing of the first line
pub text_of-append : (bytes more : List ℕ) → has_newline bytes ≡ true → text_of (bytes ++ more) ≡ text_of bytes
text_of-append [] more some = absurd cc
text_of-append (byte ∷ bytes) more some =
    elim (byte == 10) as (λ n. (n || has_newline bytes) ≡ true → cond n [] (cond ((byte == 13) && is_at_newline (bytes ++ more)) [] (byte ∷ text_of (bytes ++ more)))
    ≡ cond n [] (cond ((byte == 13) && is_at_newline bytes) [] (byte ∷ text_of bytes))) [
      | true ↦ λ h. refl
      | false ↦ λ h. rw (is_at_newline-append bytes more h, text_of-append bytes more h) refl
    ]
    some

-- the first line is spelled as before when more bytes follow its newline
pub take_through-append : (bytes more : List ℕ) → has_newline bytes ≡ true → take_through 10 (bytes ++ more) ≡ take_through 10 bytes
take_through-append [] more some = absurd cc
take_through-append (byte ∷ bytes) more some =
    elim (byte == 10) as (λ n. (n || has_newline bytes) ≡ true → cond n (byte ∷ []) (byte ∷ take_through 10 (bytes ++ more)) ≡ cond n (byte ∷ []) (byte ∷ take_through 10 bytes))
    [ true ↦ λ h. refl | false ↦ λ h. ap (λ l. byte ∷ l) (take_through-append bytes more h) ]
    some
