-- Lemmas on a reader that hands out the first line of what is ahead, or finds that it is too long.
use Rattle.std.proofs.Common.{◌≡◌, ℕ, zero, suc, ◌+◌, ◌<◌, ◌≤◌, true, false, ◌||◌, ◌==◌, not, cond, List, [], ◌∷◌, ◌++◌, length, get_or, take, drop, Option, Some, None, refl, sym, ap, ◌∙◌, subst, arith, take-append-drop, length-append, append-nil}
use Rattle.std.proofs.lemmas.List.{take-append-le, drop-append-le}
use Rattle.std.proofs.lemmas.List.Folds.{list_any-append}
use Rattle.std.proofs.lemmas.List.Sums.{prefix_len-le-length}
use Rattle.std.proofs.Math.Seq.{take-suc}
use Rattle.std.specs.Io.BufRead.{take_through, drop_through}
use Rattle.std.specs.Io.KnownBytes.{Keeps, IsAtEnd, prepend_known}
use Rattle.cas_lines.specs.Lines.{has_newline, text_of, lines_of, first_len, LinesState, IsFirstLine, HandsOut, IsLongLine, HasMore}
use Rattle.cas_lines.specs.declared.lines.TheConstants.{LINE_LIMIT}
use Rattle.cas_lines.proofs.FirstLines.{drop-length-take_through, length-take_through-le, lines_of-first, text_of-append, take_through-append}
use Rattle.cas_lines.proofs.Newlines.{has_newline-front, newline_kept}

-- a newline among the first bytes ends the first line there
first_len-le : (n : ℕ) (bytes : List ℕ) → has_newline (take (suc n) bytes) ≡ true → first_len bytes ≤ n
first_len-le n [] some = absurd cc
first_len-le zero (byte ∷ bytes) some =
    elim (byte == 10) as (λ b. (b || false) ≡ true → cond (not b) (1 + first_len bytes) 0 ≤ 0)
    [ true ↦ λ h. omega arith | false ↦ λ h. absurd cc ]
    some
first_len-le (suc n) (byte ∷ bytes) some =
    elim (byte == 10) as (λ b. (b || has_newline (take (suc n) bytes)) ≡ true → cond (not b) (1 + first_len bytes) 0 ≤ suc n)
    [ true ↦ λ h. omega arith | false ↦ λ h. omega (arith, first_len-le n bytes h) ]
    some

-- where there is none, the first line goes on
first_len-gt : (n : ℕ) (bytes : List ℕ) → has_newline (take (suc n) bytes) ≡ false → n < length bytes → n < first_len bytes
first_len-gt n [] none long = absurd (omega arith)
first_len-gt zero (byte ∷ bytes) none long =
    elim (byte == 10) as (λ b. (b || false) ≡ false → 0 < cond (not b) (1 + first_len bytes) 0)
    [ true ↦ λ h. absurd cc | false ↦ λ h. omega arith ]
    none
first_len-gt (suc n) (byte ∷ bytes) none long =
    elim (byte == 10) as (λ b. (b || has_newline (take (suc n) bytes)) ≡ false → suc n < cond (not b) (1 + first_len bytes) 0)
    [ true ↦ λ h. absurd cc | false ↦ λ h. omega (arith, first_len-gt n bytes h (omega arith)) ]
    none

-- one byte more
newline_at : (n : ℕ) (bytes : List ℕ) → n < length bytes → has_newline (take (suc n) bytes) ≡ (has_newline (take n bytes) || ((get_or bytes n 0 == 10) || false))
newline_at n bytes inside = ap has_newline (take-suc bytes n 0 inside) ∙ list_any-append (λ byte. byte == 10) (take n bytes) (get_or bytes n 0 ∷ [])

-- a newline stays among more bytes
newline_wider : (n : ℕ) (bytes : List ℕ) → has_newline (take n bytes) ≡ true → has_newline (take (suc n) bytes) ≡ true
newline_wider zero bytes some = absurd cc
newline_wider (suc n) [] some = absurd cc
newline_wider (suc n) (byte ∷ bytes) some =
    elim (byte == 10) as (λ b. (b || has_newline (take n bytes)) ≡ true → (b || has_newline (take (suc n) bytes)) ≡ true)
    [ true ↦ λ h. refl | false ↦ λ h. newline_wider n bytes h ]
    some

-- the lines of bytes
lines_of-some : (bytes : List ℕ) → 0 < length bytes → lines_of bytes ≡ text_of bytes ∷ lines_of (drop (length (take_through 10 bytes)) bytes)
lines_of-some [] some = absurd (omega arith)
lines_of-some (byte ∷ bytes) some = lines_of-first byte bytes ∙ ap (λ r. text_of (byte ∷ bytes) ∷ lines_of r) (sym (drop-length-take_through (byte ∷ bytes)))

newline_some : (bytes : List ℕ) → has_newline bytes ≡ true → 0 < length bytes
newline_some [] some = absurd cc
newline_some (byte ∷ bytes) some = omega arith

pub newline_within : (n : ℕ) (bytes : List ℕ) → has_newline (take n bytes) ≡ true → 0 < length bytes
newline_within zero bytes some = absurd cc
newline_within (suc n) [] some = absurd cc
newline_within (suc n) (byte ∷ bytes) some = omega arith

-- a newline ends the first line, whatever follows
pub first_line_ends : (bytes later : List ℕ) → has_newline bytes ≡ true → lines_of (bytes ++ later) ≡ text_of bytes ∷ lines_of (drop_through 10 bytes ++ later)
first_line_ends bytes later some =
    let count = length (take_through 10 bytes) in
    let more : 0 < length (bytes ++ later) = omega (arith, newline_some bytes some, length-append bytes later) in
    lines_of-some (bytes ++ later) more
    ∙ ap (λ t. t ∷ lines_of (drop (length (take_through 10 (bytes ++ later))) (bytes ++ later))) (text_of-append bytes later some)
    ∙ ap (λ l. text_of bytes ∷ lines_of (drop (length l) (bytes ++ later))) (take_through-append bytes later some)
    ∙ ap (λ l. text_of bytes ∷ lines_of l) (drop-append-le count bytes later (length-take_through-le bytes))
    ∙ ap (λ rest. text_of bytes ∷ lines_of (rest ++ later)) (drop-length-take_through bytes)

-- a line whose newline is held goes out
takes_first : (n : ℕ) (held left : List ℕ) → n ≡ LINE_LIMIT → has_newline (take (suc n) held) ≡ true
    → IsFirstLine (held ++ left) (drop (length (take_through 10 held)) held ++ left) (text_of held)
takes_first n held left is some =
    let count = length (take_through 10 held) in
    let here : has_newline held ≡ true = ap has_newline (sym (take-append-drop (suc n) held)) ∙ has_newline-front (take (suc n) held) (drop (suc n) held) some in
    let more : 0 < length (held ++ left) = omega (arith, newline_some held here, length-append held left) in
    let fits : first_len (held ++ left) ≤ n = first_len-le n (held ++ left) (newline_kept (suc n) held left some) in
    record {
      first = first_line_ends held left here ∙ ap (λ rest. text_of held ∷ lines_of (rest ++ left)) (sym (drop-length-take_through held));
      behind = sym (drop-append-le count held left (length-take_through-le held))
          ∙ ap (λ l. drop (length l) (held ++ left)) (sym (take_through-append held left here))
          ∙ drop-length-take_through (held ++ left);
      some = more;
      fits = subst (λ m. first_len (held ++ left) ≤ m) is fits;
    }

-- what is held at the end of the input goes out
takes_rest : (held : List ℕ) → 0 < length held → length held ≤ LINE_LIMIT
    → IsFirstLine (held ++ []) (drop (length (take_through 10 held)) held ++ []) (text_of held)
takes_rest held some fits =
    let count = length (take_through 10 held) in
    record {
      first = ap lines_of (append-nil held) ∙ lines_of-some held some ∙ ap (λ l. text_of held ∷ lines_of l) (sym (append-nil (drop count held)));
      behind = append-nil (drop count held) ∙ drop-length-take_through held ∙ ap (drop_through 10) (sym (append-nil held));
      some = omega (arith, length-append held []);
      fits = subst (λ l. first_len l ≤ LINE_LIMIT) (sym (append-nil held)) (omega (arith, prefix_len-le-length (λ byte. not (byte == 10)) held));
    }

-- where it is known what is ahead, the reader handed out its first line
hands_first : (old new : LinesState) (left new_left : Option (List ℕ)) (held line : List ℕ)
    → Keeps (prepend_known old.held left) (prepend_known held new_left)
    → new.held ≡ drop (length (take_through 10 held)) held → line ≡ text_of held
    → ((rest : List ℕ) → new_left ≡ Some rest → IsFirstLine (held ++ rest) (drop (length (take_through 10 held)) held ++ rest) (text_of held))
    → HandsOut old new left new_left line
hands_first old new None new_left held line kept is_held is_text takes = tt
hands_first old new (Some left) None held line kept is_held is_text takes = absurd kept
hands_first old new (Some left) (Some rest) held line kept is_held is_text takes = rw (is_held, is_text, ← kept) (takes rest refl)

-- the newline stands within the limit
pub hands_line : (n : ℕ) (old new : LinesState) (left new_left : Option (List ℕ)) (held line : List ℕ) → n ≡ LINE_LIMIT
    → Keeps (prepend_known old.held left) (prepend_known held new_left)
    → new.held ≡ drop (length (take_through 10 held)) held → line ≡ text_of held → has_newline (take n held) ≡ true → HandsOut old new left new_left line
hands_line n old new left new_left held line is kept is_held is_text some =
    hands_first old new left new_left held line kept is_held is_text (λ rest _. takes_first n held rest is (newline_wider n held some))

-- the newline stands right behind the limit
pub hands_longest : (n : ℕ) (old new : LinesState) (left new_left : Option (List ℕ)) (held line : List ℕ) → n ≡ LINE_LIMIT
    → Keeps (prepend_known old.held left) (prepend_known held new_left)
    → new.held ≡ drop (length (take_through 10 held)) held → line ≡ text_of held → has_newline (take n held) ≡ false → n < length held → get_or held n 0 ≡ 10
    → HandsOut old new left new_left line
hands_longest n old new left new_left held line is kept is_held is_text none inside at =
    let some : has_newline (take (suc n) held) ≡ true = newline_at n held inside ∙ (λ i. none i || ((at i == 10) || false)) in
    hands_first old new left new_left held line kept is_held is_text (λ rest _. takes_first n held rest is some)

-- the last line has no newline
pub hands_rest : (old new : LinesState) (left new_left : Option (List ℕ)) (held line : List ℕ)
    → Keeps (prepend_known old.held left) (prepend_known held new_left)
    → new.held ≡ drop (length (take_through 10 held)) held → line ≡ text_of held → IsAtEnd new_left → 0 < length held → length held ≤ LINE_LIMIT
    → HandsOut old new left new_left line
hands_rest old new left new_left held line kept is_held is_text end some fits =
    hands_first old new left new_left held line kept is_held is_text
    (λ rest is. let empty : rest ≡ [] = subst IsAtEnd is end in rw empty (takes_rest held some fits))

-- no newline stands within the limit or right behind it
pub is_long_line : (n : ℕ) (old : LinesState) (left new_left : Option (List ℕ)) (held : List ℕ) → n ≡ LINE_LIMIT
    → Keeps (prepend_known old.held left) (prepend_known held new_left)
    → has_newline (take n held) ≡ false → n < length held → (get_or held n 0 == 10) ≡ false → IsLongLine old left
is_long_line n old None new_left held is kept none inside at = tt
is_long_line n old (Some left) None held is kept none inside at = absurd kept
is_long_line n old (Some left) (Some rest) held is kept none inside at =
    let here : has_newline (take (suc n) held) ≡ false = newline_at n held inside ∙ (λ i. none i || (at i || false)) in
    let ahead : has_newline (take (suc n) (held ++ rest)) ≡ false = ap has_newline (take-append-le (suc n) held rest (omega arith)) ∙ here in
    let long : n < first_len (held ++ rest) = first_len-gt n (held ++ rest) ahead (omega (arith, length-append held rest)) in
    rw (← kept) (subst (λ m. m < first_len (held ++ rest)) is long)

-- what is held is ahead
pub has_more : (old : LinesState) (left new_left : Option (List ℕ)) (held : List ℕ)
    → Keeps (prepend_known old.held left) (prepend_known held new_left) → 0 < length held → HasMore old left
has_more old None new_left held kept some = tt
has_more old (Some left) None held kept some = absurd kept
has_more old (Some left) (Some rest) held kept some =
    let more : 0 < length (held ++ rest) = omega (arith, length-append held rest) in
    rw (← kept) more
