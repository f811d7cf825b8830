-- Lemmas on a reader of lines over its whole run.
use Rattle.std.proofs.Common.{◌≡◌, ℕ, suc, ◌+◌, ◌<◌, ◌≤◌, List, [], ◌∷◌, ◌++◌, length, Option, Some, None, IfSome, refl, sym, ap, ◌∙◌, arith, length-append, append_assoc, append-nil}
use Rattle.std.specs.Io.BufRead.{drop_through}
use Rattle.std.specs.Io.KnownBytes.{IsAtEnd}
use Rattle.std.proofs.lemmas.Bool.Decides.{nat_tests}
use Rattle.cas_lines.specs.declared.lines.TheConstants.{LINE_LIMIT, MOST_LINES}
use Rattle.cas_lines.specs.Lines.{lines_of, line_lens, first_len, Whole, TooMany, TooLong, ending_from, ending_of, LinesState, ahead, HandsOut, IsLongLine, HasMore, HasHandedOut}
use Rattle.cas_lines.proofs.FirstLines.{line_lens-first}

-- ---- where an input ends
-- the first line's length, and those behind it
first_of : (bytes : List ℕ) → 0 < length bytes → line_lens bytes ≡ first_len bytes ∷ line_lens (drop_through 10 bytes)
first_of [] some = absurd (omega arith)
first_of (byte ∷ bytes) some = line_lens-first byte bytes

-- there is no line beyond the most
too_many_at : (before len : ℕ) (lens : List ℕ) → before ≡ MOST_LINES → ending_from before (len ∷ lens) ≡ TooMany
unfolding ending_from
too_many_at before len lens full = grind (arith, nat_tests)

-- a line that is too long
too_long_at : (before len : ℕ) (lens : List ℕ) → before < MOST_LINES → LINE_LIMIT < len → ending_from before (len ∷ lens) ≡ TooLong (suc before)
unfolding ending_from
too_long_at before len lens few long = grind (arith, nat_tests)

-- a line that fits
goes_on : (before len : ℕ) (lens : List ℕ) → before < MOST_LINES → len ≤ LINE_LIMIT → ending_from before (len ∷ lens) ≡ ending_from (suc before) lens
unfolding ending_from
goes_on before len lens few fits = grind (arith, nat_tests)

whole_at : (before : ℕ) → ending_from before [] ≡ Whole
unfolding ending_from
whole_at before = refl

-- ---- the run
-- nothing was handed out at first
pub HasHandedOut-nothing : (start : Option (List ℕ)) (reader : LinesState) → reader.held ≡ [] → HasHandedOut start [] reader start
HasHandedOut-nothing None reader empty = tt
HasHandedOut-nothing (Some input) reader empty = rw empty (record { lines_split = refl; ends_alike = refl })

-- one line more
pub HasHandedOut-line : (start left new_left : Option (List ℕ)) (lines : List (List ℕ)) (old new : LinesState) (line : List ℕ)
    → HasHandedOut start lines old left → HandsOut old new left new_left line → length lines < MOST_LINES → HasHandedOut start (lines ++ line ∷ []) new new_left
HasHandedOut-line None left new_left lines old new line before out few = tt
HasHandedOut-line (Some input) None new_left lines old new line before out few = absurd before
HasHandedOut-line (Some input) (Some left) None lines old new line before out few = absurd out
HasHandedOut-line (Some input) (Some left) (Some new_left) lines old new line before out few =
    let bytes = old.held ++ left in
    let rest = new.held ++ new_left in
    let lens : line_lens bytes ≡ first_len bytes ∷ line_lens rest = first_of bytes out.some ∙ ap (λ r. first_len bytes ∷ line_lens r) (sym out.behind) in
    let longer : suc (length lines) ≡ length (lines ++ line ∷ []) = omega (arith, length-append lines (line ∷ [])) in
    record {
      lines_split = before.lines_split ∙ ap (λ l. lines ++ l) out.first ∙ sym (append_assoc lines (line ∷ []) (lines_of rest));
      ends_alike = before.ends_alike ∙ ap (ending_from (length lines)) lens
          ∙ goes_on (length lines) (first_len bytes) (line_lens rest) few out.fits
          ∙ ap (λ n. ending_from n (line_lens rest)) longer;
    }

-- at the end of the input all its lines were handed out
pub HasHandedOut-end : (start left : Option (List ℕ)) (lines : List (List ℕ)) (reader : LinesState)
    → HasHandedOut start lines reader left → IsAtEnd (ahead reader left) → IfSome start (λ input. (ending_of input ≡ Whole) × (lines ≡ lines_of input))
HasHandedOut-end None left lines reader before end = tt
HasHandedOut-end (Some input) None lines reader before end = absurd before
HasHandedOut-end (Some input) (Some left) lines reader before end = (
  before.ends_alike ∙ ap (λ rest. ending_from (length lines) (line_lens rest)) end ∙ whole_at (length lines),
  sym (append-nil lines) ∙ ap (λ rest. lines ++ lines_of rest) (sym end) ∙ sym before.lines_split,
)

-- where a byte is ahead behind the most lines, the input has too many
pub HasHandedOut-too_many : (start left : Option (List ℕ)) (lines : List (List ℕ)) (reader : LinesState)
    → HasHandedOut start lines reader left → length lines ≡ MOST_LINES → HasMore reader left → IfSome start (λ input. ending_of input ≡ TooMany)
HasHandedOut-too_many None left lines reader before full more = tt
HasHandedOut-too_many (Some input) None lines reader before full more = absurd before
HasHandedOut-too_many (Some input) (Some left) lines reader before full more =
    let bytes = reader.held ++ left in
    before.ends_alike ∙ ap (ending_from (length lines)) (first_of bytes more)
    ∙ too_many_at (length lines) (first_len bytes) (line_lens (drop_through 10 bytes)) full

-- where the next line is too long, the input has a line that is
pub HasHandedOut-endless : (start left : Option (List ℕ)) (lines : List (List ℕ)) (reader : LinesState) (number : ℕ)
    → HasHandedOut start lines reader left → length lines < MOST_LINES → IsLongLine reader left → number ≡ length lines + 1
    → IfSome start (λ input. ending_of input ≡ TooLong number)
HasHandedOut-endless None left lines reader number before few long next = tt
HasHandedOut-endless (Some input) None lines reader number before few long next = absurd before
HasHandedOut-endless (Some input) (Some left) lines reader number before few long next =
    let bytes = reader.held ++ left in
    let counted : suc (length lines) ≡ number = omega (arith, next) in
    before.ends_alike ∙ ap (ending_from (length lines)) (first_of bytes (some_byte bytes long))
    ∙ too_long_at (length lines) (first_len bytes) (line_lens (drop_through 10 bytes)) few long
    ∙ ap TooLong counted
  where
    some_byte : (bytes : List ℕ) → LINE_LIMIT < first_len bytes → 0 < length bytes
    some_byte [] long = absurd (omega arith)
    some_byte (byte ∷ bytes) long = omega arith
