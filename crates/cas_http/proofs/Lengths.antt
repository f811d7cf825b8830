-- The number that 1 to 10 digits say.
use Rattle.std.proofs.Common.{◌≡◌, ℕ, ◌<◌, ◌≤◌, true, ◌&&◌, nat_le, List, length, Result, Ok, subst, ⊎_elim, arith}
use Rattle.std.specs.Cmp.{first_so, second_so}
use Rattle.std.specs.Str.{IsAscii, IsUtf8, all_ascii_digits}
use Rattle.std.specs.Str.Parse.{digits_value, ParsesUnsigned}
use Rattle.std.proofs.lemmas.Grind.{common_steps}
use Rattle.std.proofs.lemmas.List.{get_or_past}
use Rattle.std.proofs.lemmas.Bool.{cases_lt}
use Rattle.std.proofs.lemmas.Str.{IsUtf8-from_ascii}
use Rattle.std.proofs.lemmas.Str.Parse.{IsNumeralModel, numerals_by_value, tells_all_ascii_digits, digits_value_short, digit_at, parse_gives}
use Rattle.cas_http.specs.Fields.{is_length}

own : IsNumeralModel (λ ds. all_ascii_digits ds ≡ true) (digits_value 10)
own = numerals_by_value (λ ds. all_ascii_digits ds ≡ true) tells_all_ascii_digits

are_digits : (digits : List ℕ) → is_length digits ≡ true → all_ascii_digits digits ≡ true
are_digits digits e = second_so (nat_le 1 (length digits) && nat_le (length digits) 10) _ e

some : (digits : List ℕ) → is_length digits ≡ true → 0 < length digits
some digits e =
    let one : nat_le 1 (length digits) ≡ true = first_so _ _ (first_so (nat_le 1 (length digits) && nat_le (length digits) 10) (all_ascii_digits digits) e) in
    grind (arith, common_steps)

short : (digits : List ℕ) → is_length digits ≡ true → length digits ≤ 10
short digits e =
    let ten : nat_le (length digits) 10 ≡ true = second_so (nat_le 1 (length digits)) _ (first_so (nat_le 1 (length digits) && nat_le (length digits) 10) (all_ascii_digits digits) e) in
    grind (arith, common_steps)

are_ascii : (digits : List ℕ) → all_ascii_digits digits ≡ true → IsAscii digits
are_ascii digits e i =
    ⊎_elim (λ inside. let digit = digit_at digits i (own.to digits e) inside in omega arith) (λ past. rw (get_or_past digits i 0 past) (omega arith)) (cases_lt i (length digits))

pub digits_are_utf8 : (digits : List ℕ) → is_length digits ≡ true → IsUtf8 digits
digits_are_utf8 digits e = IsUtf8-from_ascii digits (are_ascii digits (are_digits digits e))

pub number_read : {E : Type 0} (digits text : List ℕ) (read : Result ℕ E) → text ≡ digits → is_length digits ≡ true → ParsesUnsigned 64 10 text read → read ≡ Ok (digits_value 10 digits)
number_read {E} digits text read same e parsed =
    let P : List ℕ → Type 0 = λ t. ParsesUnsigned 64 10 t read in
    parse_gives own 64 digits read (subst P same parsed) (are_digits digits e) (some digits e) (omega (arith, digits_value_short own digits 10 (are_digits digits e) (short digits e)))
