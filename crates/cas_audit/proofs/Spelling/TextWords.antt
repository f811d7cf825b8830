-- The words of printed texts.
use Rattle.std.proofs.Common.{◌≡◌, ℕ, ◌+◌, ◌^◌, ◌<◌, Bool, true, false, not, cond, List, [], ◌∷◌, ◌++◌, length, take, drop, refl, sym, ap, ◌∙◌, append_assoc, arith, rules}
use Rattle.std.specs.Prelude.{nat_lt, codes, decimal}
use Rattle.std.specs.Char.{is_ascii_digit}
use Rattle.std.specs.List.{filter, slice_split, onto_first, position_or_len, before_first, after_first, list_all}
use Rattle.std.proofs.lemmas.Bool.{and_parts, and_from}
use Rattle.std.proofs.lemmas.Bool.Decides.{nat_tests}
use Rattle.std.proofs.lemmas.List.{take_at, drop_at, length-append}
use Rattle.std.proofs.lemmas.List.Elements.{filter-append}
use Rattle.std.proofs.lemmas.List.Folds.{list_all-append}
use Rattle.std.proofs.lemmas.Str.Parse.{IsNumeralModel, numerals_by_fold}
use Rattle.std.proofs.lemmas.Fmt.{digits_decimal}
use Rattle.cas_change_text.specs.Decimal.{number_after}
use Rattle.cas_change_text.specs.Words.{Word, is_blank, words_of}
use Rattle.cas_change_text.proofs.Printed.{IsWord, has_no_blank, Prints-word, IsWord-decimal}
use Rattle.cas_audit.specs.Spelling.Reading.{is_point}

-- ---- words behind words
-- there is a first part
pub first_part : (p : ℕ → Bool) (text : List ℕ) → (part : List ℕ) × (parts : List Word) × (slice_split p text ≡ part ∷ parts)
first_part p [] = ([], [], refl)
first_part p (byte ∷ text) = by (first_part p text) (p byte) refl
  where
    by : (part : List ℕ) × (parts : List Word) × (slice_split p text ≡ part ∷ parts) → (b : Bool) → p byte ≡ b
        → (part : List ℕ) × (parts : List Word) × (cond (p byte) ([] ∷ slice_split p text) (onto_first byte (slice_split p text)) ≡ part ∷ parts)
    by first true e = ([], slice_split p text, rw e refl)
    by first false e = (byte ∷ first.0, first.1, rw (e, first.2) refl)

onto_front : (p : ℕ → Bool) (byte : ℕ) (text : List ℕ) (more : List Word) → onto_first byte (slice_split p text ++ more) ≡ onto_first byte (slice_split p text) ++ more
onto_front p byte text more = let first = first_part p text in rw first.2 refl

-- the parts on both sides of a byte that cuts
split_apart : (p : ℕ → Bool) (one : List ℕ) (cut : ℕ) (two : List ℕ) → p cut ≡ true → slice_split p (one ++ cut ∷ two) ≡ slice_split p one ++ slice_split p two
split_apart p [] cut two e = rw e refl
split_apart p (byte ∷ one) cut two e = by (split_apart p one cut two e) (p byte)
  where
    by : slice_split p (one ++ cut ∷ two) ≡ slice_split p one ++ slice_split p two → (b : Bool)
        → cond b ([] ∷ slice_split p (one ++ cut ∷ two)) (onto_first byte (slice_split p (one ++ cut ∷ two))) ≡ cond b ([] ∷ slice_split p one) (onto_first byte (slice_split p one)) ++ slice_split p two
    by rest true = rw rest refl
    by rest false = rw rest (onto_front p byte one (slice_split p two))

pub words_apart : (one two : List ℕ) → words_of (one ++ 32 ∷ two) ≡ words_of one ++ words_of two
words_apart one two =
    ap (filter (λ part. nat_lt 0 (length part))) (split_apart is_blank one 32 two refl) ∙ filter-append (λ part. nat_lt 0 (length part)) (slice_split is_blank one) (slice_split is_blank two)

-- a word
pub word_alone : (word : Word) → IsWord word → words_of word ≡ word ∷ []
word_alone word is = (Prints-word word is).alone

pub name : (word : Word) → 0 < length word → has_no_blank word ≡ true → words_of word ≡ word ∷ []
name word some whole = word_alone word (record { some = some; whole = whole })

-- a text that follows a blank
pub behind : (one two : List ℕ) (words more : List Word) → words_of one ≡ words → words_of two ≡ more → words_of (one ++ 32 ∷ two) ≡ words ++ more
behind one two words more p q = words_apart one two ∙ (λ i. p i ++ q i)

-- a text that follows another and a blank
pub after_blank : (one two : List ℕ) (words more : List Word) → words_of one ≡ words → words_of two ≡ more → words_of (one ++ codes " " ++ two) ≡ words ++ more
after_blank one two words more p q = ap words_of (append_assoc one (codes " ") two) ∙ behind one two words more p q

-- a text that follows another and a name
pub after_name : (one two : List ℕ) (word : Word) (words more : List Word) → words_of word ≡ word ∷ [] → words_of one ≡ words → words_of two ≡ more
    → words_of (one ++ 32 ∷ (word ++ codes " ") ++ two) ≡ words ++ word ∷ more
after_name one two word words more w p q =
    ap words_of (append_assoc one (32 ∷ (word ++ codes " ")) two ∙ ap (λ (bytes : List ℕ). one ++ 32 ∷ bytes) (append_assoc word (codes " ") two))
    ∙ behind one (word ++ 32 ∷ two) words (word ∷ more) p (behind word two (word ∷ []) more w q)

-- ---- numbers
own : IsNumeralModel (λ ds. list_all is_ascii_digit ds ≡ true) (number_after 0)
own = numerals_by_fold _ (search rules) number_after (search rules)

pub are_digits : (n : ℕ) → n < 2 ^ 64 → list_all is_ascii_digit (decimal n) ≡ true
are_digits n fits = digits_decimal own n fits

pub digits_lack : (p : ℕ → Bool) → ((digit : ℕ) → is_ascii_digit digit ≡ true → not (p digit) ≡ true) → (digits : List ℕ) → list_all is_ascii_digit digits ≡ true
    → list_all (λ digit. not (p digit)) digits ≡ true
digits_lack p lacks [] e = refl
digits_lack p lacks (digit ∷ digits) e =
    let parts = and_parts (is_ascii_digit digit) (list_all is_ascii_digit digits) e in
    and_from _ _ (lacks digit parts.0) (digits_lack p lacks digits parts.1)

no_point : (digit : ℕ) → is_ascii_digit digit ≡ true → not (is_point digit) ≡ true
no_point digit d = grind (arith, nat_tests)

-- ---- two numbers with a point between them
found_at : (p : ℕ → Bool) (one : List ℕ) (cut : ℕ) (two : List ℕ) → list_all (λ byte. not (p byte)) one ≡ true → p cut ≡ true → position_or_len p (one ++ cut ∷ two) ≡ length one
found_at p [] cut two lacks e = rw e refl
found_at p (byte ∷ one) cut two lacks e =
    let parts = and_parts (not (p byte)) (list_all (λ each. not (p each)) one) lacks in
    let rest : position_or_len p (one ++ cut ∷ two) ≡ length one = found_at p one cut two parts.1 e in
    rw (parts.0, rest) (omega arith)

place_of_point : (one two : List ℕ) → list_all is_ascii_digit one ≡ true → position_or_len is_point (one ++ 46 ∷ two) ≡ length one
place_of_point one two digits = found_at is_point one 46 two (digits_lack is_point no_point one digits) refl

-- the digits in front of a point
pub before_digits : (one two : List ℕ) → list_all is_ascii_digit one ≡ true → before_first is_point (one ++ codes "." ++ two) ≡ one
before_digits one two digits =
    ap (before_first is_point) (append_assoc one (codes ".") two) ∙ ap (λ n. take n (one ++ 46 ∷ two)) (place_of_point one two digits)
    ∙ take_at one (46 ∷ two) (length one) refl

-- what stands behind it
pub behind_digits : (one two : List ℕ) → list_all is_ascii_digit one ≡ true → after_first is_point (one ++ codes "." ++ two) ≡ two
behind_digits one two digits =
    ap (after_first is_point) (append_assoc one (codes ".") two) ∙ ap (λ n. drop (n + 1) (one ++ 46 ∷ two)) (place_of_point one two digits)
    ∙ ap (drop (length one + 1)) (sym (append_assoc one (codes ".") two))
    ∙ drop_at (one ++ codes ".") two (length one + 1) (length-append one (codes "."))

abbrev pub point_text : ℕ → ℕ → List ℕ
point_text one two = decimal one ++ codes "." ++ decimal two

pub before_point : (one two : ℕ) → one < 2 ^ 64 → before_first is_point (point_text one two) ≡ decimal one
before_point one two fits = before_digits (decimal one) (decimal two) (are_digits one fits)

pub behind_point : (one two : ℕ) → one < 2 ^ 64 → after_first is_point (point_text one two) ≡ decimal two
behind_point one two fits = behind_digits (decimal one) (decimal two) (are_digits one fits)

-- no blank stands in it
joined_whole : (one two : List ℕ) → has_no_blank one ≡ true → has_no_blank two ≡ true → has_no_blank (one ++ two) ≡ true
joined_whole one two p q = list_all-append (λ byte. not (is_blank byte)) one two ∙ and_from _ _ p q

pub joined_word : (one two : List ℕ) → IsWord one → has_no_blank two ≡ true → IsWord (one ++ two)
joined_word one two is whole = record { some = omega (arith, is.some, length-append one two); whole = joined_whole one two is.whole whole }

pub point_word : (one two : ℕ) → one < 2 ^ 64 → two < 2 ^ 64 → IsWord (point_text one two)
point_word one two fits also =
    joined_word (decimal one ++ codes ".") (decimal two) (joined_word (decimal one) (codes ".") (IsWord-decimal one fits) refl) (IsWord-decimal two also).whole
