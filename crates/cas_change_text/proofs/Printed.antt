-- What is printed is spelled so.
use Rattle.std.proofs.Common.{◌≡◌, ℕ, suc, ◌+◌, ◌-◌, ◌*◌, ◌/◌, ◌%◌, ◌^◌, ◌<◌, ◌≤◌, Bool, true, false, cond, not, List, [], ◌∷◌, ◌++◌, length, get_or, take, drop, Some, refl, sym, ap, subst, ◌∙◌, append_assoc, append-nil, arith, inl, inr, rules}
use Rattle.std.specs.Prelude.{◌==◌, nat_lt, codes, decimal, ℤ, pos, negsuc, FitsSigned, All}
use Rattle.std.specs.Fmt.{signed_decimal}
use Rattle.std.specs.Int.{w64}
use Rattle.std.specs.Char.{is_ascii_digit}
use Rattle.std.specs.List.{filter, slice_split, flat_map, list_all, AllByRecursion}
use Rattle.std.proofs.lemmas.Bool.{agree_below_at, and_parts, and_from, cases_lt, lt-ltb, le-ltb, le-leb, lt-leb, not-true}
use Rattle.std.proofs.lemmas.Bool.Decides.{nat_tests}
use Rattle.std.proofs.lemmas.List.Elements.{recursion_from_All, All-from_recursion}
use Rattle.std.proofs.lemmas.List.{take_all}
use Rattle.std.proofs.lemmas.List.Folds.{list_all-append}
use Rattle.std.proofs.lemmas.List.Splits.{slice_split_none, slice_split_at}
use Rattle.std.proofs.lemmas.Str.Parse.{IsNumeralModel, numerals_by_fold}
use Rattle.std.proofs.lemmas.Fmt.{digits_decimal, digits_value-decimal, decimal_nonempty, length-decimal-le}
use Rattle.cas_change.specs.declared.program.TheConstants.{MOST_CLAUSES}
use Rattle.cas_change.specs.declared.program.Guard.{Guard}
use Rattle.cas_change.specs.declared.program.Guard.TheVariants.{Always, IsEmpty, VersionIs, NumberBelow, TextIs}
use Rattle.cas_change.specs.declared.program.Act.{Act}
use Rattle.cas_change.specs.declared.program.Act.TheVariants.{Keep, PutText, PutNumber, Add, Clear}
use Rattle.cas_change.specs.declared.program.Clause.{Clause}
use Rattle.cas_change.specs.declared.state.Body.{Body}
use Rattle.cas_change.specs.declared.state.Body.TheVariants.{Number, Text}
use Rattle.cas_change.specs.declared.state.State.{State}
use Rattle.cas_change.specs.declared.state.State.TheVariants.{Empty, Held}
use Rattle.cas_change_text.specs.Grammar.{IsPair, IsTextWord, IsGuard, IsAct, IsClause, IsClauses, IsProgram, IsBody, IsState}
use Rattle.cas_change_text.specs.Printing.{guard_text, act_text, clause_text, program_text, body_text, state_text}
use Rattle.cas_change_text.specs.Ranges.{TextFits, GuardFits, ActFits, ClauseFits, BodyFits, StateFits}
use Rattle.cas_change_text.specs.Decimal.{is_numeral, number_after, u64_of, i64_of, is_negative, digits_of}
use Rattle.cas_change_text.specs.Escapes.{is_plain, hex_value, hex_digit, escaped_byte, escaped, StandsForByte, SpellsEach, SpellsEscaped}
use Rattle.cas_change_text.specs.Words.{Word, is_blank, words_of}
use Rattle.cas_change_text.proofs.WordLists.{kept}

-- ---- words

-- no byte of these is a blank
abbrev pub has_no_blank : List ℕ → Bool
has_no_blank word = list_all (λ byte. not (is_blank byte)) word

-- what may stand as one word: bytes without a blank, and at least one
pub record IsWord (word : List ℕ) : Type 0 where
  pub some : 0 < length word
  pub whole : has_no_blank word ≡ true

no_blank : (word : List ℕ) → has_no_blank word ≡ true → AllByRecursion (λ byte. is_blank byte ≡ false) word
no_blank [] e = tt
no_blank (byte ∷ word) e =
    let parts = and_parts (not (is_blank byte)) (has_no_blank word) e in
    (not-true (is_blank byte) parts.0, no_blank word parts.1)

all_no_blank : (word : List ℕ) → has_no_blank word ≡ true → All (λ byte. is_blank byte ≡ false) word
all_no_blank word e = All-from_recursion (λ byte. is_blank byte ≡ false) word (no_blank word e)

-- a text has these words, alone and with more words behind it
pub record Prints (text : List ℕ) (words : List Word) : Type 0 where
  pub alone : words_of text ≡ words
  pub behind : (rest : List ℕ) → words_of (text ++ 32 ∷ rest) ≡ words ++ words_of rest

pub Prints-word : (word : List ℕ) → IsWord word → Prints word (word ∷ [])
Prints-word word is = record {
  alone = ap (filter (λ part. nat_lt 0 (length part))) (slice_split_none is_blank word (all_no_blank word is.whole)) ∙ kept word [] is.some;
  behind = λ rest. ap (filter (λ part. nat_lt 0 (length part))) (slice_split_at is_blank word 32 rest (all_no_blank word is.whole) refl) ∙ kept word (slice_split is_blank rest) is.some;
}

pub Prints-then : (one two : List ℕ) (words more : List Word) → Prints one words → Prints two more → Prints (one ++ 32 ∷ two) (words ++ more)
Prints-then one two words more p q = record {
  alone = p.behind two ∙ ap (λ (ws : List Word). words ++ ws) q.alone;
  behind = λ rest. ap words_of (append_assoc one (32 ∷ two) (32 ∷ rest)) ∙ p.behind (two ++ 32 ∷ rest) ∙ ap (λ (ws : List Word). words ++ ws) (q.behind rest)
      ∙ sym (append_assoc words more (words_of rest));
}

-- ---- numbers

own : IsNumeralModel (λ ds. list_all is_ascii_digit ds ≡ true) (number_after 0)
own = numerals_by_fold _ (search rules) number_after (search rules)

digits_no_blank : (digits : List ℕ) → list_all is_ascii_digit digits ≡ true → has_no_blank digits ≡ true
digits_no_blank [] e = refl
digits_no_blank (digit ∷ digits) e =
    let parts = and_parts (is_ascii_digit digit) (list_all is_ascii_digit digits) e in
    and_from _ _ (no_digit parts.0) (digits_no_blank digits parts.1)
  where
    no_digit : is_ascii_digit digit ≡ true → not (is_blank digit) ≡ true
    no_digit d = grind (arith, nat_tests)

pub IsWord-decimal : (n : ℕ) → n < 2 ^ 64 → IsWord (decimal n)
IsWord-decimal n fits = record {
  some = decimal_nonempty n fits;
  whole = digits_no_blank (decimal n) (digits_decimal own n fits);
}

is_numeral-decimal : (n : ℕ) → n < 2 ^ 64 → is_numeral (decimal n) ≡ true
is_numeral-decimal n fits =
    and_from _ _ (and_from _ _ (le-leb 1 (length (decimal n)) (decimal_nonempty n fits)) (le-leb (length (decimal n)) 20 (length-decimal-le 20 n (omega arith) (omega arith) fits)))
    (digits_decimal own n fits)

pub u64_of-decimal : (n : ℕ) → n < 2 ^ 64 → u64_of (decimal n) ≡ Some n
u64_of-decimal n fits = rw (is_numeral-decimal n fits, digits_value-decimal own n fits, lt-ltb n (2 ^ 64) fits) refl

-- ---- signed numbers

-- a number that is no minus in front
first_digit : (digits : List ℕ) → list_all is_ascii_digit digits ≡ true → (is_negative digits ≡ false) × (digits_of digits ≡ digits)
first_digit [] e = (refl, refl)
first_digit (digit ∷ digits) e =
    let parts = and_parts (is_ascii_digit digit) (list_all is_ascii_digit digits) e in
    let other : (digit == 45) ≡ false = no_minus parts.0 in
    (other, ap (λ b. cond b digits (digit ∷ digits)) other)
  where
    no_minus : is_ascii_digit digit ≡ true → (digit == 45) ≡ false
    no_minus d = grind (arith, nat_tests)

pub i64_of-signed_decimal : (z : ℤ) → FitsSigned w64 z → i64_of (signed_decimal z) ≡ Some z
i64_of-signed_decimal (pos n) fits =
    let small : n < 2 ^ 63 = omega arith in
    let first = first_digit (decimal n) (digits_decimal own n (omega arith)) in
    rw (first.1, first.0, is_numeral-decimal n (omega arith), digits_value-decimal own n (omega arith), lt-ltb n (2 ^ 63) small) refl
i64_of-signed_decimal (negsuc n) fits =
    let small : suc n ≤ 2 ^ 63 = omega arith in
    rw (is_numeral-decimal (suc n) (omega arith), digits_value-decimal own (suc n) (omega arith), le-leb (suc n) (2 ^ 63) small) refl

pub IsWord-signed : (z : ℤ) → FitsSigned w64 z → IsWord (signed_decimal z)
IsWord-signed (pos n) fits = IsWord-decimal n (omega arith)
IsWord-signed (negsuc n) fits =
    let digits = IsWord-decimal (suc n) (omega arith) in
    record { some = omega arith; whole = digits.whole }

-- ---- texts

-- the value of a digit that is printed
hex_value-hex_digit : (n : ℕ) → n < 16 → hex_value (hex_digit n) ≡ Some n
hex_value-hex_digit n below = elim (cases_lt n 10) [
  | inl lt ↦ low lt
  | inr le ↦ high le
]
  where
    low : n < 10 → hex_value (hex_digit n) ≡ Some n
    low lt = let back : 48 + n - 48 ≡ n = omega arith in
        rw (lt-ltb n 10 lt, le-leb 48 (48 + n) (omega arith), le-leb (48 + n) 57 (omega arith), back) refl

    high : 10 ≤ n → hex_value (hex_digit n) ≡ Some n
    high le = let back : 55 + n - 55 ≡ n = omega arith in
        rw (le-ltb n 10 le, le-leb 48 (55 + n) (omega arith), lt-leb (55 + n) 57 (omega arith), le-leb 65 (55 + n) (omega arith), le-leb (55 + n) 70 (omega arith), back) refl

-- what is printed for a byte stands for it
StandsFor-escaped_byte : (byte : ℕ) → byte < 256 → StandsForByte (escaped_byte byte) byte
StandsFor-escaped_byte byte fits = go (is_plain byte) refl
  where
    go : (b : Bool) → is_plain byte ≡ b → StandsForByte (cond b (byte ∷ []) (37 ∷ hex_digit (byte / 16) ∷ hex_digit (byte % 16) ∷ [])) byte
    go true e = (e, refl)
    go false e =
        let whole : byte / 16 * 16 + byte % 16 ≡ byte = omega arith in
        (refl, rw (hex_value-hex_digit (byte / 16) (omega arith), hex_value-hex_digit (byte % 16) (omega arith), whole) refl)

SpellsEach-escaped : (bytes : List ℕ) → AllByRecursion (λ byte. byte < 256) bytes → SpellsEach (flat_map escaped_byte bytes) bytes
SpellsEach-escaped [] fits = refl
SpellsEach-escaped (byte ∷ bytes) fits = (escaped_byte byte, flat_map escaped_byte bytes, StandsFor-escaped_byte byte fits.0, SpellsEach-escaped bytes fits.1, refl)

pub Spells-escaped : (bytes : List ℕ) → AllByRecursion (λ byte. byte < 256) bytes → SpellsEscaped (escaped bytes) bytes
Spells-escaped [] fits = refl
Spells-escaped (byte ∷ bytes) fits = SpellsEach-escaped (byte ∷ bytes) fits

escaped_byte-no_blank : (byte : ℕ) → byte < 256 → has_no_blank (escaped_byte byte) ≡ true
escaped_byte-no_blank byte fits = agree_below_at (λ b. has_no_blank (escaped_byte b)) (λ b. true) 256 byte refl fits

escaped_bytes-no_blank : (bytes : List ℕ) → AllByRecursion (λ byte. byte < 256) bytes → has_no_blank (flat_map escaped_byte bytes) ≡ true
escaped_bytes-no_blank [] fits = refl
escaped_bytes-no_blank (byte ∷ bytes) fits =
    list_all-append (λ b. not (is_blank b)) (escaped_byte byte) (flat_map escaped_byte bytes) ∙ and_from _ _ (escaped_byte-no_blank byte fits.0) (escaped_bytes-no_blank bytes fits.1)

escaped_byte-some : (byte : ℕ) (rest : List ℕ) → 0 < length (escaped_byte byte ++ rest)
escaped_byte-some byte rest = go (is_plain byte)
  where
    go : (b : Bool) → 0 < length (cond b (byte ∷ []) (37 ∷ hex_digit (byte / 16) ∷ hex_digit (byte % 16) ∷ []) ++ rest)
    go true = omega arith
    go false = omega arith

pub IsWord-escaped : (bytes : List ℕ) → AllByRecursion (λ byte. byte < 256) bytes → IsWord (escaped bytes)
IsWord-escaped [] fits = record { some = omega arith; whole = refl }
IsWord-escaped (byte ∷ bytes) fits = record { some = escaped_byte-some byte (flat_map escaped_byte bytes); whole = escaped_bytes-no_blank (byte ∷ bytes) fits }

-- ---- programs and states

abbrev pub fits_all : List Clause → Type 0
fits_all clauses = AllByRecursion ClauseFits clauses

text_fits : (bytes : List ℕ) → TextFits bytes → AllByRecursion (λ byte. byte < 256) bytes
text_fits bytes fits = recursion_from_All (λ byte. byte < 256) bytes fits.1

-- words that a text has, and that say this
pub record Says {X : Type 0} (P : List Word → X → Type 0) (text : List ℕ) (x : X) : Type 0 where
  pub words : List Word
  pub says : P words x
  pub prints : Prints text words

-- a name, and then a word
pair_says : {X : Type 0} (P : List Word → X → Type 0) (Q : Word → Type 0) (name word : Word) (x : X) → IsWord name → IsWord word → Q word
    → ((words : List Word) → IsPair words name Q → P words x) → Says P (name ++ 32 ∷ word) x
pair_says P Q name word x named is holds says = record {
  words = name ∷ word ∷ [];
  says = says (name ∷ word ∷ []) (word, refl, holds);
  prints = Prints-then name word (name ∷ []) (word ∷ []) (Prints-word name named) (Prints-word word is);
}

one_says : {X : Type 0} (P : List Word → X → Type 0) (name : Word) (x : X) → IsWord name → P (name ∷ []) x → Says P name x
one_says P name x named says = record { words = name ∷ []; says = says; prints = Prints-word name named }

word : (name : Word) → 0 < length name → has_no_blank name ≡ true → IsWord name
word name some whole = record { some = some; whole = whole }

guard_says : (guard : Guard) → GuardFits guard → Says IsGuard (guard_text guard) guard
guard_says Always fits = one_says IsGuard (codes "always") Always (word (codes "always") (omega arith) refl) refl
guard_says IsEmpty fits = one_says IsGuard (codes "empty") IsEmpty (word (codes "empty") (omega arith) refl) refl
guard_says (VersionIs version) fits = pair_says IsGuard (λ w. u64_of w ≡ Some version) (codes "version") (decimal version) (VersionIs version) (word (codes "version") (omega arith) refl) (IsWord-decimal version fits) (u64_of-decimal version fits) (λ words is. is)
guard_says (NumberBelow number) fits = pair_says IsGuard (λ w. i64_of w ≡ Some number) (codes "below") (signed_decimal number) (NumberBelow number) (word (codes "below") (omega arith) refl) (IsWord-signed number fits) (i64_of-signed_decimal number fits) (λ words is. is)
guard_says (TextIs bytes) fits = pair_says IsGuard (IsTextWord bytes) (codes "is") (escaped bytes) (TextIs bytes) (word (codes "is") (omega arith) refl) (IsWord-escaped bytes (text_fits bytes fits)) (Spells-escaped bytes (text_fits bytes fits), fits.0) (λ words is. is)

act_says : (act : Act) → ActFits act → Says IsAct (act_text act) act
act_says Keep fits = one_says IsAct (codes "keep") Keep (word (codes "keep") (omega arith) refl) refl
act_says (PutText bytes) fits = pair_says IsAct (IsTextWord bytes) (codes "text") (escaped bytes) (PutText bytes) (word (codes "text") (omega arith) refl) (IsWord-escaped bytes (text_fits bytes fits)) (Spells-escaped bytes (text_fits bytes fits), fits.0) (λ words is. is)
act_says (PutNumber number) fits = pair_says IsAct (λ w. i64_of w ≡ Some number) (codes "num") (signed_decimal number) (PutNumber number) (word (codes "num") (omega arith) refl) (IsWord-signed number fits) (i64_of-signed_decimal number fits) (λ words is. is)
act_says (Add number) fits = pair_says IsAct (λ w. i64_of w ≡ Some number) (codes "add") (signed_decimal number) (Add number) (word (codes "add") (omega arith) refl) (IsWord-signed number fits) (i64_of-signed_decimal number fits) (λ words is. is)
act_says Clear fits = one_says IsAct (codes "clear") Clear (word (codes "clear") (omega arith) refl) refl

clause_says : (clause : Clause) → ClauseFits clause → Says IsClause (clause_text clause) clause
clause_says clause fits =
    let guard = guard_says clause.guard fits.0 in
    let act = act_says clause.act fits.1 in
    let text : clause_text clause ≡ guard_text clause.guard ++ 32 ∷ act_text clause.act = append_assoc (guard_text clause.guard) (codes " ") (act_text clause.act) in
    record {
      words = guard.words ++ act.words;
      says = (guard.words, act.words, guard.says, act.says, refl);
      prints = subst (λ (t : List ℕ). Prints t (guard.words ++ act.words)) (sym text) (Prints-then (guard_text clause.guard) (act_text clause.act) guard.words act.words guard.prints act.prints);
    }

-- a clause, and others behind it
program_says : (clause : Clause) (clauses : List Clause) → ClauseFits clause → fits_all clauses → Says IsClauses (program_text (clause ∷ clauses)) (clause ∷ clauses)
program_says clause [] fits others =
    let first = clause_says clause fits in
    record {
      words = first.words;
      says = first.says;
      prints = subst (λ (t : List ℕ). Prints t first.words) (sym (append-nil (clause_text clause))) first.prints;
    }
program_says clause (next ∷ clauses) fits others =
    let first = clause_says clause fits in
    let rest = program_says next clauses others.0 others.1 in
    let behind : Prints (codes ";" ++ 32 ∷ program_text (next ∷ clauses)) (codes ";" ∷ rest.words) =
    Prints-then (codes ";") (program_text (next ∷ clauses)) (codes ";" ∷ []) rest.words (Prints-word (codes ";") (word (codes ";") (omega arith) refl)) rest.prints in
    record {
      words = first.words ++ codes ";" ∷ rest.words;
      says = (first.words, rest.words, first.says, rest.says, refl);
      prints = Prints-then (clause_text clause) (codes ";" ++ 32 ∷ program_text (next ∷ clauses)) first.words (codes ";" ∷ rest.words) first.prints behind;
    }

-- a program that is printed has the words of the program
pub IsProgram-printed : (program : List Clause) → 0 < length program → length program ≤ MOST_CLAUSES → fits_all program → IsProgram (words_of (program_text program)) program
IsProgram-printed [] some few fits = absurd (omega arith)
IsProgram-printed (clause ∷ clauses) some few fits =
    let all = program_says clause clauses fits.0 fits.1 in
    (subst (λ (ws : List Word). IsClauses ws (clause ∷ clauses)) (sym all.prints.alone) all.says, few)

body_says : (body : Body) → BodyFits body → Says IsBody (body_text body) body
body_says (Number number) fits = pair_says IsBody (λ w. i64_of w ≡ Some number) (codes "num") (signed_decimal number) (Number number) (word (codes "num") (omega arith) refl) (IsWord-signed number fits) (i64_of-signed_decimal number fits) (λ words is. is)
body_says (Text bytes) fits = pair_says IsBody (IsTextWord bytes) (codes "text") (escaped bytes) (Text bytes) (word (codes "text") (omega arith) refl) (IsWord-escaped bytes (text_fits bytes fits)) (Spells-escaped bytes (text_fits bytes fits), fits.0) (λ words is. is)

-- a state that is printed has the words of the state
pub IsState-printed : (state : State) → StateFits state → IsState (words_of (state_text state)) state
IsState-printed Empty fits = (Prints-word (codes "empty") (word (codes "empty") (omega arith) refl)).alone
IsState-printed (Held version body) fits =
    let digits : List ℕ = decimal version in
    let number = IsWord-decimal version fits.0 in
    let first : Word = codes "v" ++ decimal version in
    let is : IsWord (codes "v" ++ decimal version) = record { some = omega arith; whole = number.whole } in
    let says = body_says body fits.1 in
    let text : state_text (Held version body) ≡ (codes "v" ++ decimal version) ++ 32 ∷ body_text body = append_assoc (codes "v" ++ decimal version) (codes " ") (body_text body) in
    let prints : Prints ((codes "v" ++ decimal version) ++ 32 ∷ body_text body) ((codes "v" ++ decimal version) ∷ says.words) =
    Prints-then (codes "v" ++ decimal version) (body_text body) ((codes "v" ++ decimal version) ∷ []) says.words (Prints-word (codes "v" ++ decimal version) is) says.prints in
    (decimal version, says.words, u64_of-decimal version fits.0, says.says, ap words_of text ∙ prints.alone)

-- what fits in front of what fits
pub fits_front : (clauses : List Clause) (first : Clause) → 0 < length clauses → first ≡ get_or clauses 0 first → ClauseFits first
    → All ClauseFits (take (length clauses - 1) (drop 1 clauses)) → AllByRecursion ClauseFits clauses
fits_front [] first some is fits others = absurd (omega arith)
fits_front (clause ∷ clauses) first some is fits others =
    let whole : take (length (clause ∷ clauses) - 1) clauses ≡ clauses = take_all (length (clause ∷ clauses) - 1) clauses (omega arith) in
    (subst ClauseFits is fits, recursion_from_All ClauseFits clauses (subst (All ClauseFits) whole others))
