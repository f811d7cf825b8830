-- A record's bytes: which may stand at a place, and that a record is read as it was written.
use Rattle.std.specs.Prelude.{nat_eq}
use Rattle.std.specs.Int.{w32, w64, byte_at, from_be_bytes}
use Rattle.std.proofs.Common.{◌≡◌, ◌≢◌, ◌⊎◌, inl, inr, ⊎_elim, ℕ, zero, suc, ◌+◌, ◌-◌, ◌/◌, ◌%◌, ◌^◌, ◌<◌, ◌≤◌, true, false, ◌||◌, List, ◌++◌, length, get_or, take, drop, refl, sym, ap, subst, ◌∙◌, append_assoc, replicate, arith, lit<, lit≤}
use Rattle.std.proofs.lemmas.Bool.{cases_lt, cases_eq, eqb-true, eq-eqb, leb-true, le-leb}
use Rattle.std.proofs.lemmas.Bool.Decides.{nat_tests}
use Rattle.std.proofs.lemmas.List.{take_at, take_all, take-append-drop, length-append, length-take, length-drop, length-replicate, get_or-drop, get_or-take, get_or-replicate, get_or_past, drop-drop, ext_get_or, get_or-append_right}
use Rattle.std.proofs.Math.ListN.{get_or-append}
use Rattle.std.proofs.lemmas.Nat.{be_bytes_4, be_bytes_8, from_be_bytes-to_be_bytes_4, from_be_bytes-to_be_bytes_8}
use Rattle.std.proofs.Math.Nat.{div-eq_of_lt}
use Rattle.cas_base.proofs.Bytes.{IsBytes}
use Rattle.cas_vault.specs.Codec.{RecordFits, spelling, SpellsRecord, BeginsOne, IsFirstWrongByte}
use Rattle.cas_vault.specs.Places.{head, may_stand, AllStand}
use Rattle.cas_vault.specs.declared.kept.Kept.{Kept}

-- every byte of a record's length may stand where it does
abbrev pub EachStands : List ℕ → Type 0
EachStands bytes = (i : ℕ) → i < 29 → may_stand bytes i ≡ true

-- ---- places

-- what holds of each place below n, one after another
abbrev Each : (ℕ → Type 0) → ℕ → Type 0
Each P zero = Unit {0}
Each P (suc n) = Each P n × P n

each_below : (P : ℕ → Type 0) (n : ℕ) → Each P n → (i : ℕ) → i < n → P i
each_below P zero all i low = absurd (omega arith)
each_below P (suc n) all i low = elim (cases_lt i n) [
  | inl lower ↦ each_below P n all.0 i lower
  | inr last ↦ let same : n ≡ i = omega arith in subst P same all.1
]

-- behind the head a zero may stand
zero_stands : (bytes : List ℕ) (i : ℕ) → 9 ≤ i → i < 29 → get_or bytes i 0 ≡ 0 → may_stand bytes i ≡ true
zero_stands bytes i low high is = grind (arith, nat_tests)

-- whether a byte may stand at a place hangs on it and those before it
same_stands : (xs ys : List ℕ) (i : ℕ) → get_or xs i 0 ≡ get_or ys i 0 → (10 ≤ i → get_or xs 10 0 ≡ get_or ys 10 0) → (18 ≤ i → get_or xs 18 0 ≡ get_or ys 18 0) → may_stand xs i ≡ may_stand ys i
same_stands xs ys i here first second = grind (arith, nat_tests)

same_at : (xs ys : List ℕ) (i j : ℕ) → take (i + 1) xs ≡ take (i + 1) ys → j ≤ i → get_or xs j 0 ≡ get_or ys j 0
same_at xs ys i j same low =
    sym (get_or-take (i + 1) xs j 0 (omega arith)) ∙ ap (λ (l : List ℕ). get_or l j 0) same ∙ get_or-take (i + 1) ys j 0 (omega arith)

stands_along : (xs ys : List ℕ) (i : ℕ) → take (i + 1) xs ≡ take (i + 1) ys → may_stand xs i ≡ may_stand ys i
stands_along xs ys i same =
    same_stands xs ys i (same_at xs ys i i same (omega arith)) (λ low. same_at xs ys i 10 same low) (λ low. same_at xs ys i 18 same low)

-- ---- a record that is written

-- the bytes of a number of at most 2 ^ 48
record InNumber (n : ℕ) : Type 0 where
  high : byte_at 7 n ≡ 0
  second : byte_at 6 n ≤ 1
  rest : (byte_at 6 n ≡ 0) ⊎ (n ≡ 2 ^ 48)

in_number_of : (n : ℕ) → n ≤ 2 ^ 48 → InNumber n
in_number_of n low = elim (cases_lt n (2 ^ 48)) [
  | inl lower ↦
      let none : n / 256 ^ 6 ≡ 0 = div-eq_of_lt lower in
      let high : n / 256 ^ 7 ≡ 0 = div-eq_of_lt (omega arith) in
      let zero6 : byte_at 6 n ≡ 0 = ap (λ (x : ℕ). x % 256) none in
      record { high = ap (λ (x : ℕ). x % 256) high; second = omega (arith, zero6); rest = inl zero6 }
  | inr last ↦
      let same : n ≡ 2 ^ 48 = omega arith in
      record { high = ap (byte_at 7) same; second = omega (arith, ap (byte_at 6) same); rest = inr same }
]

either_zero : (a b : ℕ) → (a ≡ 0) ⊎ (b ≡ 0) → (nat_eq a 0 || nat_eq b 0) ≡ true
either_zero a b (inl is) = rw is refl
either_zero a b (inr is) = grind (arith, nat_tests)

low_byte : (n j : ℕ) → InNumber n → byte_at j (2 ^ 48) ≡ 0 → (nat_eq (byte_at 6 n) 0 || nat_eq (byte_at j n) 0) ≡ true
low_byte n j is zero_there = either_zero (byte_at 6 n) (byte_at j n) (⊎_elim (λ none. inl none) (λ last. inr (ap (byte_at j) last ∙ zero_there)) is.rest)

spelled_stands : (kept : Kept) → RecordFits kept → EachStands (spelling kept)
spelled_stands kept fits =
    let b = in_number_of kept.bound fits.bound in
    let a = in_number_of kept.age fits.age in
    each_below (λ i. may_stand (spelling kept) i ≡ true) 29 (
      (
        (
          (
            (
              (
                (
                  (
                    (
                      (
                        (
                          (
                            (
                              (
                                (
                                  (
                                    (
                                      (
                                        (
                                          (
                                            (((((((((tt, refl), refl), refl), refl), refl), refl), refl), refl), refl),
                                            eq-eqb _ _ b.high,
                                          ),
                                          le-leb _ _ b.second,
                                        ),
                                        low_byte kept.bound 5 b refl,
                                      ),
                                      low_byte kept.bound 4 b refl,
                                    ),
                                    low_byte kept.bound 3 b refl,
                                  ),
                                  low_byte kept.bound 2 b refl,
                                ),
                                low_byte kept.bound 1 b refl,
                              ),
                              low_byte kept.bound 0 b refl,
                            ),
                            eq-eqb _ _ a.high,
                          ),
                          le-leb _ _ a.second,
                        ),
                        low_byte kept.age 5 a refl,
                      ),
                      low_byte kept.age 4 a refl,
                    ),
                    low_byte kept.age 3 a refl,
                  ),
                  low_byte kept.age 2 a refl,
                ),
                low_byte kept.age 1 a refl,
              ),
              low_byte kept.age 0 a refl,
            ),
            refl,
          ),
          refl,
        ),
        refl,
      ),
      refl,
    )

pub length-spelling : (kept : Kept) → length (spelling kept) ≡ 29
length-spelling kept = refl

-- ---- a record that is read

-- the record in these bytes
abbrev pub kept_in : List ℕ → Kept
kept_in bytes = record { bound = from_be_bytes w64 (take 8 (drop 9 bytes)); age = from_be_bytes w64 (take 8 (drop 17 bytes)); era = from_be_bytes w32 (take 4 (drop 25 bytes)) }

read_at : (bytes : List ℕ) (start n j : ℕ) → j < n → get_or (take n (drop start bytes)) j 0 ≡ get_or bytes (start + j) 0
read_at bytes start n j low = get_or-take n (drop start bytes) j 0 low ∙ get_or-drop start bytes j 0

zero_of_two : (a b : ℕ) → a ≢ 0 → (nat_eq a 0 || nat_eq b 0) ≡ true → b ≡ 0
zero_of_two a b some is = grind (arith, nat_tests)

-- a number whose bytes may stand is at most 2 ^ 48
number_fits : (bytes : List ℕ) (start : ℕ) → IsBytes bytes → get_or bytes (start + 0) 0 ≡ 0 → get_or bytes (start + 1) 0 ≤ 1 → ((j : ℕ) → 2 ≤ j → j < 8 → (nat_eq (get_or bytes (start + 1) 0) 0 || nat_eq (get_or bytes (start + j) 0) 0) ≡ true) → from_be_bytes w64 (take 8 (drop start bytes)) ≤ 2 ^ 48
number_fits bytes start fits first second rest =
    let a0 = read_at bytes start 8 0 (lit< tt) in
    let a1 = read_at bytes start 8 1 (lit< tt) in
    let a2 = read_at bytes start 8 2 (lit< tt) in
    let a3 = read_at bytes start 8 3 (lit< tt) in
    let a4 = read_at bytes start 8 4 (lit< tt) in
    let a5 = read_at bytes start 8 5 (lit< tt) in
    let a6 = read_at bytes start 8 6 (lit< tt) in
    let a7 = read_at bytes start 8 7 (lit< tt) in
    elim (cases_eq (get_or bytes (start + 1) 0) 0) [
      | inl none ↦ omega (arith, a0, a1, a2, a3, a4, a5, a6, a7, first, none, fits (start + 2), fits (start + 3), fits (start + 4), fits (start + 5), fits (start + 6), fits (start + 7))
      | inr some ↦
          let z2 = zero_of_two _ _ some (rest 2 (lit≤ tt) (lit< tt)) in
          let z3 = zero_of_two _ _ some (rest 3 (lit≤ tt) (lit< tt)) in
          let z4 = zero_of_two _ _ some (rest 4 (lit≤ tt) (lit< tt)) in
          let z5 = zero_of_two _ _ some (rest 5 (lit≤ tt) (lit< tt)) in
          let z6 = zero_of_two _ _ some (rest 6 (lit≤ tt) (lit< tt)) in
          let z7 = zero_of_two _ _ some (rest 7 (lit≤ tt) (lit< tt)) in
          omega (arith, a0, a1, a2, a3, a4, a5, a6, a7, first, second, z2, z3, z4, z5, z6, z7)
    ]

IsBytes-part : (bytes : List ℕ) (start n : ℕ) → IsBytes bytes → IsBytes (take n (drop start bytes))
IsBytes-part bytes start n fits i = elim (cases_lt i n) [
  | inl low ↦ rw (read_at bytes start n i low) (fits (start + i))
  | inr past ↦ rw (get_or_past (take n (drop start bytes)) i 0 (omega (arith, length-take n (drop start bytes)))) (omega arith)
]

length-part : (bytes : List ℕ) (start n : ℕ) → start + n ≤ length bytes → length (take n (drop start bytes)) ≡ n
length-part bytes start n within = omega (arith, length-take n (drop start bytes), length-drop start bytes)

-- the bytes of a record part by part
parts : (bytes : List ℕ) → length bytes ≡ 29 → bytes ≡ take 9 bytes ++ take 8 (drop 9 bytes) ++ take 8 (drop 17 bytes) ++ take 4 (drop 25 bytes)
parts bytes long =
    let last : take 4 (drop 25 bytes) ≡ drop 25 bytes = take_all 4 (drop 25 bytes) (omega (arith, length-drop 25 bytes)) in
    let third : take 8 (drop 17 bytes) ++ drop 25 bytes ≡ drop 17 bytes = ap (λ (l : List ℕ). take 8 (drop 17 bytes) ++ l) (sym (drop-drop 8 17 bytes)) ∙ take-append-drop 8 (drop 17 bytes) in
    let second : take 8 (drop 9 bytes) ++ drop 17 bytes ≡ drop 9 bytes = ap (λ (l : List ℕ). take 8 (drop 9 bytes) ++ l) (sym (drop-drop 8 9 bytes)) ∙ take-append-drop 8 (drop 9 bytes) in
    sym (ap (λ (l : List ℕ). take 9 bytes ++ take 8 (drop 9 bytes) ++ take 8 (drop 17 bytes) ++ l) last
    ∙ append_assoc (take 9 bytes ++ take 8 (drop 9 bytes)) (take 8 (drop 17 bytes)) (drop 25 bytes)
    ∙ ap (λ (l : List ℕ). take 9 bytes ++ take 8 (drop 9 bytes) ++ l) third
    ∙ append_assoc (take 9 bytes) (take 8 (drop 9 bytes)) (drop 17 bytes)
    ∙ ap (λ (l : List ℕ). take 9 bytes ++ l) second
    ∙ take-append-drop 9 bytes)

stands_in_head : (bytes : List ℕ) (i : ℕ) → i < 9 → may_stand bytes i ≡ true → get_or bytes i 0 ≡ get_or head i 0
stands_in_head bytes i low is = grind (arith, nat_tests)

head_stands : (bytes : List ℕ) (i : ℕ) → i < 9 → get_or bytes i 0 ≡ get_or head i 0 → may_stand bytes i ≡ true
head_stands bytes i low is = grind (arith, nat_tests)

behind_first : (bytes : List ℕ) (j : ℕ) → 2 ≤ j → j < 8 → may_stand bytes (9 + j) ≡ true → (nat_eq (get_or bytes 10 0) 0 || nat_eq (get_or bytes (9 + j) 0) 0) ≡ true
behind_first bytes j low high is = grind (arith, nat_tests)

behind_second : (bytes : List ℕ) (j : ℕ) → 2 ≤ j → j < 8 → may_stand bytes (17 + j) ≡ true → (nat_eq (get_or bytes 18 0) 0 || nat_eq (get_or bytes (17 + j) 0) 0) ≡ true
behind_second bytes j low high is = grind (arith, nat_tests)

head_there : (bytes : List ℕ) → length bytes ≡ 29 → EachStands bytes → take 9 bytes ≡ head
head_there bytes long each = ext_get_or 0 (take 9 bytes) head (omega (arith, length-take 9 bytes))
    (λ i low.
    let below : i < 9 = omega (arith, length-take 9 bytes) in
    get_or-take 9 bytes i 0 below ∙ stands_in_head bytes i below (each i (omega (arith, below))))

-- bytes that may all stand spell the record that is in them
pub stands_spelled : (bytes : List ℕ) → IsBytes bytes → length bytes ≡ 29 → EachStands bytes → SpellsRecord bytes (kept_in bytes)
stands_spelled bytes fits long each =
    let bound = be_bytes_8 (take 8 (drop 9 bytes)) _ (length-part bytes 9 8 (omega arith)) (IsBytes-part bytes 9 8 fits) refl in
    let age = be_bytes_8 (take 8 (drop 17 bytes)) _ (length-part bytes 17 8 (omega arith)) (IsBytes-part bytes 17 8 fits) refl in
    let era = be_bytes_4 (take 4 (drop 25 bytes)) _ (length-part bytes 25 4 (omega arith)) (IsBytes-part bytes 25 4 fits) refl in
    let f = IsBytes-part bytes 25 4 fits in
    record {
      fits = record {
        bound = number_fits bytes 9 fits (eqb-true _ _ (each 9 (lit< tt))) (leb-true _ _ (each 10 (lit< tt))) (λ j low high. behind_first bytes j low high (each (9 + j) (omega arith)));
        age = number_fits bytes 17 fits (eqb-true _ _ (each 17 (lit< tt))) (leb-true _ _ (each 18 (lit< tt))) (λ j low high. behind_second bytes j low high (each (17 + j) (omega arith)));
        era = omega (arith, f 0, f 1, f 2, f 3);
      };
      bytes_are = parts bytes long ∙ (λ t. head_there bytes long each t ++ sym bound t ++ sym age t ++ sym era t);
    }

-- ---- the first wrong byte

-- the record of zeros
abbrev zeros : List ℕ
zeros = head ++ replicate 20 0

length-zeros : length zeros ≡ 29
length-zeros = refl

zero_behind : (i : ℕ) → 9 ≤ i → get_or zeros i 0 ≡ 0
zero_behind i low = get_or-append_right head (replicate 20 0) 9 i 0 refl low ∙ elim (cases_lt (i - 9) 20) [
  | inl within ↦ get_or-replicate 20 (i - 9) 0 0 within
  | inr past ↦ get_or_past (replicate 20 0) (i - 9) 0 (omega (arith, length-replicate {A = ℕ} 20 0, past))
]

zeros_head : (i : ℕ) → i < 9 → get_or zeros i 0 ≡ get_or head i 0
zeros_head i low = get_or-append head (replicate 20 0) 0 i low

head_bytes : (i : ℕ) → i < 9 → get_or head i 0 < 256
head_bytes = each_below (λ i. get_or head i 0 < 256) 9 (((((((((tt, lit< tt), lit< tt), lit< tt), lit< tt), lit< tt), lit< tt), lit< tt), lit< tt), lit< tt)

zeros_bytes : IsBytes zeros
zeros_bytes i = elim (cases_lt i 9) [
  | inl low ↦ rw (zeros_head i low) (head_bytes i low)
  | inr high ↦ rw (zero_behind i high) (omega arith)
]

zeros_stand : (bytes : List ℕ) (i : ℕ) → i < 29 → get_or bytes i 0 ≡ get_or zeros i 0 → may_stand bytes i ≡ true
zeros_stand bytes i within is = elim (cases_lt i 9) [
  | inl low ↦ head_stands bytes i low (is ∙ zeros_head i low)
  | inr high ↦ zero_stands bytes i high within (is ∙ zero_behind i high)
]

-- a front, filled up with what the record of zeros has behind it
abbrev filled : ℕ → List ℕ → List ℕ
filled at bytes = take at bytes ++ drop at zeros

filled_below : (at : ℕ) (bytes : List ℕ) (i : ℕ) → at ≤ length bytes → i < at → get_or (filled at bytes) i 0 ≡ get_or bytes i 0
filled_below at bytes i within low =
    get_or-append (take at bytes) (drop at zeros) 0 i (omega (arith, length-take at bytes)) ∙ get_or-take at bytes i 0 low

filled_above : (at : ℕ) (bytes : List ℕ) (i : ℕ) → at ≤ length bytes → at ≤ i → get_or (filled at bytes) i 0 ≡ get_or zeros i 0
filled_above at bytes i within low =
    get_or-append_right (take at bytes) (drop at zeros) at i 0 (omega (arith, length-take at bytes)) low
    ∙ get_or-drop at zeros (i - at) 0
    ∙ (let same : at + (i - at) ≡ i = omega arith in ap (λ (j : ℕ). get_or zeros j 0) same)

-- bytes that may stand begin a record
pub begins : (bytes : List ℕ) (at : ℕ) → IsBytes bytes → at ≤ length bytes → at ≤ 29 → ((i : ℕ) → i < at → may_stand bytes i ≡ true) → BeginsOne (take at bytes)
begins bytes at fits within short each =
    let long : length (filled at bytes) ≡ 29 = omega (arith, length-append (take at bytes) (drop at zeros), length-take at bytes, length-drop at zeros, length-zeros) in
    let whole : IsBytes (filled at bytes) = λ i. elim (cases_lt i at) [
      | inl low ↦ rw (filled_below at bytes i within low) (fits i)
      | inr high ↦ rw (filled_above at bytes i within high) (zeros_bytes i)
    ] in
    let stand : EachStands (filled at bytes) = λ i below. elim (cases_lt i at) [
      | inl low ↦ same_stands (filled at bytes) bytes i (filled_below at bytes i within low) (λ past. filled_below at bytes 10 within (omega arith)) (λ past. filled_below at bytes 18 within (omega arith)) ∙ each i low
      | inr high ↦ zeros_stand (filled at bytes) i below (filled_above at bytes i within high)
    ] in
    let spelled = stands_spelled (filled at bytes) whole long stand in
    (kept_in (filled at bytes), spelled.fits, ap (λ (l : List ℕ). take (length (take at bytes)) l) (sym spelled.bytes_are) ∙ take_at (take at bytes) (drop at zeros) (length (take at bytes)) refl)

-- a byte that may not stand begins none
pub begins_none : (bytes : List ℕ) (at : ℕ) → at < length bytes → may_stand bytes at ≡ false → BeginsOne (take (at + 1) bytes) → ⊥
begins_none bytes at within wrong (kept, fits, is) =
    let long : length (take (at + 1) bytes) ≡ at + 1 = omega (arith, length-take (at + 1) bytes) in
    let same : take (at + 1) (spelling kept) ≡ take (at + 1) bytes = ap (λ (n : ℕ). take n (spelling kept)) (sym long) ∙ is in
    let short : at < 29 = omega (arith, ap (λ (l : List ℕ). length l) same, long, length-take (at + 1) (spelling kept), length-spelling kept) in
    let stands : may_stand bytes at ≡ true = sym (stands_along (spelling kept) bytes at same) ∙ spelled_stands kept fits at short in
    cc

-- nothing may stand behind a record
pub none_behind : (bytes : List ℕ) → may_stand bytes 29 ≡ false
none_behind bytes = refl

-- ---- one record

-- what was written is read again
pub read_back : (kept : Kept) → RecordFits kept → kept_in (spelling kept) ≡ kept
read_back kept fits = λ t. record {
  bound = from_be_bytes-to_be_bytes_8 kept.bound (omega (arith, fits.bound)) t;
  age = from_be_bytes-to_be_bytes_8 kept.age (omega (arith, fits.age)) t;
  era = from_be_bytes-to_be_bytes_4 kept.era fits.era t;
}

pub same_spelling : (kept kept' : Kept) → RecordFits kept → RecordFits kept' → spelling kept ≡ spelling kept' → kept ≡ kept'
same_spelling kept kept' fits fits' same = sym (read_back kept fits) ∙ ap kept_in same ∙ read_back kept' fits'

pub same_record : (bytes : List ℕ) (kept kept' : Kept) → SpellsRecord bytes kept → SpellsRecord bytes kept' → kept ≡ kept'
same_record bytes kept kept' is is' = same_spelling kept kept' is.fits is'.fits (sym is.bytes_are ∙ is'.bytes_are)

-- in a record nothing is wrong
pub not_wrong : (bytes : List ℕ) (kept : Kept) (at : ℕ) → SpellsRecord bytes kept → IsFirstWrongByte bytes at → ⊥
not_wrong bytes kept at is wrong =
    let long : length bytes ≡ 29 = ap (λ (l : List ℕ). length l) is.bytes_are ∙ length-spelling kept in
    elim (cases_lt at (length bytes)) [
      | inl within ↦ wrong.wrong within (
        kept,
        is.fits,
        ap (λ (l : List ℕ). take (length (take (at + 1) bytes)) l) (sym is.bytes_are) ∙ ap (λ (n : ℕ). take n bytes) (let n : length (take (at + 1) bytes) ≡ at + 1 = omega (arith, length-take (at + 1) bytes) in n),
      )
      | inr past ↦ let short = wrong.too_short past in omega (arith, short, long)
    ]

-- the record that was read part by part
pub spelled_by_parts : (bytes : List ℕ) (bound age era : ℕ) → IsBytes bytes → AllStand bytes → bound ≡ (kept_in bytes).bound → age ≡ (kept_in bytes).age → era ≡ (kept_in bytes).era → SpellsRecord bytes (record { bound = bound; age = age; era = era })
spelled_by_parts bytes bound age era fits all is_bound is_age is_era =
    let same : kept_in bytes ≡ record { bound = bound; age = age; era = era } = λ t. record { bound = sym is_bound t; age = sym is_age t; era = sym is_era t } in
    subst (λ (k : Kept). SpellsRecord bytes k) same (stands_spelled bytes fits all.long all.each)

-- the bytes from a place on
pub rest_from : (bytes : List ℕ) (start : ℕ) → take (length bytes - start) (drop start bytes) ≡ drop start bytes
rest_from bytes start = take_all (length bytes - start) (drop start bytes) (omega (arith, length-drop start bytes))
