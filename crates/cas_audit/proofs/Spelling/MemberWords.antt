-- Sets of acceptors as they are printed, read again.
use Rattle.std.proofs.Common.{◌≡◌, ℕ, zero, suc, ◌+◌, ◌^◌, ◌<◌, ◌≤◌, Bool, true, false, not, cond, List, [], ◌∷◌, ◌++◌, map, Some, refl, sym, ap, subst, ◌∙◌, append-nil, arith}
use Rattle.std.specs.Prelude.{codes, decimal, filter}
use Rattle.std.specs.Char.{is_ascii_digit}
use Rattle.std.specs.List.{All, AllByRecursion, range_with_len, slice_split, flat_map, list_all}
use Rattle.std.specs.Str.{bytes_eq}
use Rattle.std.proofs.lemmas.Bool.{and_from}
use Rattle.std.proofs.lemmas.Bool.Decides.{nat_tests}
use Rattle.std.proofs.lemmas.List.Elements.{All-from_recursion}
use Rattle.std.proofs.lemmas.List.Folds.{list_all-append}
use Rattle.std.proofs.lemmas.List.Splits.{slice_split_none, slice_split_at}
use Rattle.std.proofs.lemmas.Slice.Eq.{bytes_eq-Decides}
use Rattle.std.proofs.lemmas.Bool.{and_parts, not-true}
use Rattle.cas_ballot.specs.Members.{members_where, has_member, IsMemberSet}
use Rattle.cas_change_text.specs.Decimal.{u64_of}
use Rattle.cas_change_text.specs.Words.{Word, is_blank}
use Rattle.cas_change_text.proofs.Printed.{IsWord, has_no_blank, IsWord-decimal, u64_of-decimal}
use Rattle.cas_lines.specs.Reading.{within, begins_with_digit}
use Rattle.cas_lines.proofs.Commands.{number_begins}
use Rattle.cas_lines.proofs.EventLines.{within_again}
use Rattle.cas_audit.specs.Spelling.Printing.{next_number_text, numbers_text}
use Rattle.cas_audit.specs.Spelling.Reading.{is_comma, members_from, members_of}
use Rattle.cas_audit.proofs.Spelling.TextWords.{are_digits, digits_lack, joined_word}

abbrev pub all_fit : List ℕ → Type 0
all_fit ids = AllByRecursion (λ id. id < 2 ^ 64) ids

-- ---- the parts of the word
no_comma : (digit : ℕ) → is_ascii_digit digit ≡ true → not (is_comma digit) ≡ true
no_comma digit d = grind (arith, nat_tests)

none_passes : (p : ℕ → Bool) (bytes : List ℕ) → list_all (λ byte. not (p byte)) bytes ≡ true → AllByRecursion (λ byte. p byte ≡ false) bytes
none_passes p [] e = tt
none_passes p (byte ∷ bytes) e =
    let parts = and_parts (not (p byte)) (list_all (λ each. not (p each)) bytes) e in
    (not-true (p byte) parts.0, none_passes p bytes parts.1)

pub no_comma_in : (digits : List ℕ) → list_all is_ascii_digit digits ≡ true → All (λ byte. is_comma byte ≡ false) digits
no_comma_in digits are = All-from_recursion (λ byte. is_comma byte ≡ false) digits (none_passes is_comma digits (digits_lack is_comma no_comma digits are))

parts_of_numbers : (id : ℕ) (ids : List ℕ) → id < 2 ^ 64 → all_fit ids → slice_split is_comma (numbers_text (id ∷ ids)) ≡ map decimal (id ∷ ids)
parts_of_numbers id [] fits others =
    ap (slice_split is_comma) (append-nil (decimal id)) ∙ slice_split_none is_comma (decimal id) (no_comma_in (decimal id) (are_digits id fits))
parts_of_numbers id (next ∷ ids) fits others =
    slice_split_at is_comma (decimal id) 44 (numbers_text (next ∷ ids)) (no_comma_in (decimal id) (are_digits id fits)) refl
    ∙ ap (λ (parts : List Word). decimal id ∷ parts) (parts_of_numbers next ids others.0 others.1)

-- ---- rising numbers
-- the members of a set are read from their numbers
members_again : (p : ℕ → Bool) (w a least : ℕ) → least ≤ a → a + w ≤ 64 → members_from least (map decimal (filter p (range_with_len a w))) ≡ Some (filter p (range_with_len a w))
members_again p zero a least from to = refl
members_again p (suc w) a least from to =
    by (p a) (members_again p w (a + 1) (a + 1) (omega arith) (omega (arith, to))) (members_again p w (a + 1) least (omega (arith, from)) (omega (arith, to)))
  where
    by : (b : Bool) → members_from (a + 1) (map decimal (filter p (range_with_len (a + 1) w))) ≡ Some (filter p (range_with_len (a + 1) w))
        → members_from least (map decimal (filter p (range_with_len (a + 1) w))) ≡ Some (filter p (range_with_len (a + 1) w))
        → members_from least (map decimal (cond b (a ∷ filter p (range_with_len (a + 1) w)) (filter p (range_with_len (a + 1) w)))) ≡ Some (cond b (a ∷ filter p (range_with_len (a + 1) w)) (filter p (range_with_len (a + 1) w)))
    by true taken left =
        let here : within least 63 (u64_of (decimal a)) ≡ Some a = within_again least 63 (u64_of (decimal a)) a (u64_of-decimal a (omega (arith, to))) from (omega (arith, to)) in
        rw (here, taken) refl
    by false taken left = left

fit_in_range : (p : ℕ → Bool) (w a : ℕ) → a + w ≤ 64 → all_fit (filter p (range_with_len a w))
fit_in_range p zero a to = tt
fit_in_range p (suc w) a to = by (p a) (fit_in_range p w (a + 1) (omega (arith, to)))
  where
    by : (b : Bool) → all_fit (filter p (range_with_len (a + 1) w)) → all_fit (cond b (a ∷ filter p (range_with_len (a + 1) w)) (filter p (range_with_len (a + 1) w)))
    by true rest = (omega (arith, to), rest)
    by false rest = rest

pub members_fit : (ids : List ℕ) → IsMemberSet ids → all_fit ids
unfolding members_where
members_fit ids set = subst all_fit (sym set.lists) (fit_in_range (has_member ids) 64 0 (omega arith))

rising_again : (ids : List ℕ) → IsMemberSet ids → members_from 0 (map decimal ids) ≡ Some ids
unfolding members_where
rising_again ids set = subst (λ (xs : List ℕ). members_from 0 (map decimal xs) ≡ Some xs) (sym set.lists) (members_again (has_member ids) 64 0 0 (omega arith) (omega arith))

-- ---- the word
pub begins : (one two : List ℕ) → begins_with_digit one ≡ true → begins_with_digit (one ++ two) ≡ true
begins [] two e = absurd cc
begins (byte ∷ one) two e = e

pub no_dash : (word : Word) → begins_with_digit word ≡ true → bytes_eq word (codes "-") ≡ false
no_dash word digit = by (bytes_eq word (codes "-")) refl
  where
    by : (b : Bool) → bytes_eq word (codes "-") ≡ b → b ≡ false
    by false e = refl
    by true e =
        let same : word ≡ codes "-" = (bytes_eq-Decides word (codes "-")).0 e in
        let no : false ≡ true = sym (ap begins_with_digit same) ∙ digit in
        absurd cc

pub members_read_again : (ids : List ℕ) → IsMemberSet ids → members_of (numbers_text ids) ≡ Some ids
members_read_again [] set = refl
members_read_again (id ∷ ids) set =
    let fits = members_fit (id ∷ ids) set in
    let digit : begins_with_digit (numbers_text (id ∷ ids)) ≡ true = begins (decimal id) (flat_map next_number_text ids) (number_begins (decimal id) id (u64_of-decimal id fits.0)) in
    ap (λ b. cond b (Some []) (members_from 0 (slice_split is_comma (numbers_text (id ∷ ids))))) (no_dash (numbers_text (id ∷ ids)) digit)
    ∙ ap (members_from 0) (parts_of_numbers id ids fits.0 fits.1) ∙ rising_again (id ∷ ids) set

others_whole : (ids : List ℕ) → all_fit ids → has_no_blank (flat_map next_number_text ids) ≡ true
others_whole [] fits = refl
others_whole (id ∷ ids) fits =
    list_all-append (λ byte. not (is_blank byte)) (next_number_text id) (flat_map next_number_text ids) ∙ and_from _ _ (IsWord-decimal id fits.0).whole (others_whole ids fits.1)

pub members_word : (ids : List ℕ) → IsMemberSet ids → IsWord (numbers_text ids)
members_word [] set = record { some = omega arith; whole = refl }
members_word (id ∷ ids) set =
    let fits = members_fit (id ∷ ids) set in
    joined_word (decimal id) (flat_map next_number_text ids) (IsWord-decimal id fits.0) (others_whole ids fits.1)
