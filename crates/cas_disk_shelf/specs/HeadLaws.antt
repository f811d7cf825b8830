-- A head is read as it was written.
use Rattle.std.proofs.Common.{◌≡◌, ℕ, zero, suc, ◌+◌, ◌*◌, ◌^◌, ◌<◌, ◌≤◌, Bool, true, false, cond, leb, List, [], ◌∷◌, ◌++◌, length, get_or, take, drop, map, Option, Some, None, Result, Ok, Err, refl, sym, ap, subst, ◌∙◌, arith, lit<}
use Rattle.std.specs.Prelude.{nat_eq, nat_lt, if◌then◌else◌, min, ◌&&◌, ◌||◌, ◌/◌, ◌%◌}
use Rattle.std.specs.List.{range_with_len}
use Rattle.std.specs.Int.{w32, w64, to_be_bytes, from_be_bytes}
use Rattle.std.proofs.lemmas.Bool.{eqb-true, eq-eqb, le-leb, le-ltb}
use Rattle.std.proofs.lemmas.List.{take_at, drop_at, take_all, take-append-drop, drop-drop, length-append, length-take, length-drop}
use Rattle.std.proofs.lemmas.List.FromFn.{fill_by_all}
use Rattle.std.proofs.lemmas.Nat.{be_bytes_4, be_bytes_8, from_be_bytes-to_be_bytes_4, from_be_bytes-to_be_bytes_8}
use Rattle.cas_slot.specs.declared.ages.Ages.{Ages}
use Rattle.cas_cells.specs.Format.{is_head, is_old_head, number_told, narrow_told, wide_told, with_count}
use Rattle.cas_wire.specs.Reading.{rise_at, one_later}
use Rattle.cas_base.proofs.Bytes.{IsBytes}
use Rattle.cas_wire.proofs.Formats.{IsBytes-drop, IsBytes-take, wide64}
use Rattle.cas_wire.proofs.Limits.{value, rise_le, le_rise}
use Rattle.cas_disk_shelf.specs.declared.codec.Head.{Head}
use Rattle.cas_disk_shelf.specs.Head.{head_front, old_front, numbers_spelling, head_spelling, old_spelling, spelled_as, unlike_at, number_from, ages_in, most_cells, ages_end, count_of, count_by, count_at, behind_wide, behind_narrow, new_head_by, new_head_of, behind_old, old_head_by, old_head_of, is_old, head_as, head_of, FitsHead, IsSpelledHead}

-- ---- numbers

length-numbers : (numbers : List ℕ) → length (numbers_spelling numbers) ≡ 8 * length numbers
length-numbers [] = refl
length-numbers (n ∷ numbers) = omega (arith, length-numbers numbers, length-append (to_be_bytes w64 n) (numbers_spelling numbers))

number-from : (numbers : List ℕ) (k : ℕ) → ((i : ℕ) → get_or numbers i 0 < 2 ^ 64) → k < length numbers → number_from (8 * k) (numbers_spelling numbers) ≡ get_or numbers k 0
number-from [] k small low = absurd (omega arith)
number-from (n ∷ numbers) zero small low =
    ap (from_be_bytes w64) (take_at (to_be_bytes w64 n) (numbers_spelling numbers) 8 refl) ∙ from_be_bytes-to_be_bytes_8 n (small 0)
number-from (n ∷ numbers) (suc k) small low =
    let further : 8 * suc k ≡ 8 + 8 * k = omega arith in
    let behind : drop (8 * suc k) (to_be_bytes w64 n ++ numbers_spelling numbers) ≡ drop (8 * k) (numbers_spelling numbers) =
    ap (λ (m : ℕ). drop m (to_be_bytes w64 n ++ numbers_spelling numbers)) further
    ∙ sym (drop-drop (8 * k) 8 (to_be_bytes w64 n ++ numbers_spelling numbers))
    ∙ ap (λ (l : List ℕ). drop (8 * k) l) (drop_at (to_be_bytes w64 n) (numbers_spelling numbers) 8 refl) in
    ap (λ (l : List ℕ). from_be_bytes w64 (take 8 l)) behind ∙ number-from numbers k (λ i. small (suc i)) (omega arith)

ages_again : (ages : Ages) → length ages.0 ≡ 17 → ((i : ℕ) → get_or ages.0 i 0 < 2 ^ 64) → ages_in (numbers_spelling ages.0) ≡ ages
unfolding ages_in
ages_again ages long small =
    ap (λ (l : List ℕ). record { 0 = l }) (sym (fill_by_all (λ i. number_from (8 * i) (numbers_spelling ages.0)) ages.0 17 0 long (λ k low. sym (number-from ages.0 k small (omega arith)))))

seam : (a b c : ℕ) (xs : List ℕ) → c ≡ a + b → take a xs ++ take b (drop a xs) ≡ take c xs
seam zero b c xs e = ap (λ (m : ℕ). take m xs) (let same : b ≡ c = omega arith in same)
seam (suc a) zero zero [] e = refl
seam (suc a) (suc b) zero [] e = refl
seam (suc a) zero (suc c) [] e = refl
seam (suc a) (suc b) (suc c) [] e = refl
seam (suc a) b zero (x ∷ xs) e = absurd (omega arith)
seam (suc a) b (suc c) (x ∷ xs) e = ap (λ (l : List ℕ). x ∷ l) (seam a b c xs (omega arith))

-- the numbers in the bytes from number i on
numbers_back : (bytes : List ℕ) (n i : ℕ) → IsBytes bytes → 8 * (i + n) ≤ length bytes → numbers_spelling (map (λ j. number_from (8 * j) bytes) (range_with_len i n)) ≡ take (8 * n) (drop (8 * i) bytes)
numbers_back bytes zero i fits long = refl
numbers_back bytes (suc n) i fits long =
    let here : to_be_bytes w64 (number_from (8 * i) bytes) ≡ take 8 (drop (8 * i) bytes) =
    be_bytes_8 (take 8 (drop (8 * i) bytes)) _ (omega (arith, length-take 8 (drop (8 * i) bytes), length-drop (8 * i) bytes)) (IsBytes-take 8 (drop (8 * i) bytes) (IsBytes-drop (8 * i) bytes fits)) refl in
    let next : 8 * (i + 1) ≡ 8 * i + 8 = omega arith in
    let rest : numbers_spelling (map (λ j. number_from (8 * j) bytes) (range_with_len (i + 1) n)) ≡ take (8 * n) (drop 8 (drop (8 * i) bytes)) =
    numbers_back bytes n (i + 1) fits (omega arith) ∙ ap (λ (m : ℕ). take (8 * n) (drop m bytes)) next ∙ ap (λ (l : List ℕ). take (8 * n) l) (sym (drop-drop 8 (8 * i) bytes)) in
    (λ t. here t ++ rest t) ∙ seam 8 (8 * n) (8 * suc n) (drop (8 * i) bytes) (omega arith)

le-not-lt : (a b : ℕ) → b ≤ a → nat_lt a b ≡ false
le-not-lt a b low = le-ltb a b low

-- ---- heads

IsBytes-limit : IsBytes most_cells
IsBytes-limit zero = lit< tt
IsBytes-limit (suc zero) = lit< tt
IsBytes-limit (suc (suc zero)) = lit< tt
IsBytes-limit (suc (suc (suc zero))) = lit< tt
IsBytes-limit (suc (suc (suc (suc i)))) = lit< tt

value-of_4 : (bytes : List ℕ) → length bytes ≡ 4 → value bytes ≡ from_be_bytes w32 bytes
value-of_4 (a ∷ b ∷ c ∷ d ∷ []) len = omega arith
value-of_4 (a ∷ b ∷ c ∷ d ∷ e ∷ bytes) len = absurd (omega (arith, len))
value-of_4 [] len = absurd (omega (arith, len))
value-of_4 (a ∷ []) len = absurd (omega (arith, len))
value-of_4 (a ∷ b ∷ []) len = absurd (omega (arith, len))
value-of_4 (a ∷ b ∷ c ∷ []) len = absurd (omega (arith, len))

small_count : (n : ℕ) (rest : List ℕ) → n ≤ 4096 → count_by 0 (rise_at most_cells (to_be_bytes w32 n ++ rest)) (to_be_bytes w32 n ++ rest) ≡ Ok n
small_count n rest low =
    let four : List ℕ = to_be_bytes w32 n in
    let back : from_be_bytes w32 four ≡ n = from_be_bytes-to_be_bytes_4 n (omega (arith, low)) in
    let none : rise_at most_cells (four ++ rest) ≡ None = le_rise most_cells four rest refl IsBytes-limit (omega (arith, low, value-of_4 four refl, back)) in
    let enough : nat_lt (length (four ++ rest)) 4 ≡ false = le-ltb _ _ (omega arith) in
    let told : count_of (four ++ rest) ≡ n = ap (λ (b : Bool). cond b 0 (from_be_bytes w32 (take 4 (four ++ rest)))) enough ∙ ap (from_be_bytes w32) (take_at four rest 4 refl) ∙ back in
    ap (λ (o : Option ℕ). count_by 0 o (four ++ rest)) none ∙ ap (λ (m : ℕ). Ok m) told

at_place : (at : ℕ) (o : Option ℕ) (bytes : List ℕ) (n : ℕ) → count_by 0 o bytes ≡ Ok n → count_by at o bytes ≡ Ok n
at_place at None bytes n e = e
at_place at (Some risen) bytes n e = absurd cc

ages_told : (at narrow count : ℕ) (bytes : List ℕ) (ages : Ages) → length bytes ≡ at + 136 → drop at bytes ≡ numbers_spelling ages.0 → length ages.0 ≡ 17 → ((i : ℕ) → get_or ages.0 i 0 < 2 ^ 64) → ages_end at narrow count bytes ≡ Ok (record { narrow = narrow; count = count; ages = ages })
ages_told at narrow count bytes ages long behind many small =
    ap (λ (b : Bool). cond b (Ok (record { narrow = narrow; count = count; ages = ages_in (drop at bytes) })) (Err (min (length bytes) (at + 136)))) (eq-eqb _ _ long)
    ∙ (λ t. Ok (record { narrow = narrow; count = count; ages = (ap ages_in behind ∙ ages_again ages many small) t }))

-- what was written is read again
pub head_again : (head : Head) → FitsHead head → head_of (head_spelling head) ≡ Ok head
unfolding new_head_of
head_again head fits =
    let bytes : List ℕ = head_spelling head in
    let numbers : List ℕ = numbers_spelling head.ages.0 in
    let narrow : count_at 9 bytes ≡ Ok head.narrow = at_place 9 _ _ _ (small_count head.narrow (to_be_bytes w32 head.count ++ numbers) fits.narrow) in
    let count : count_at 13 bytes ≡ Ok head.count = at_place 13 _ _ _ (small_count head.count numbers fits.count) in
    let enough : nat_lt (length bytes) 13 ≡ false = le-ltb _ _ (omega (arith, length-numbers head.ages.0)) in
    ap (behind_narrow bytes) narrow
    ∙ ap (λ (b : Bool). cond b (Err (length bytes)) (behind_wide head.narrow bytes (count_at 13 bytes))) enough
    ∙ ap (behind_wide head.narrow bytes) count
    ∙ ages_told 17 head.narrow head.count bytes head.ages (omega (arith, length-numbers head.ages.0, fits.long)) refl fits.long fits.small

-- ---- what was read

later_none : (o : Option ℕ) → one_later o ≡ None → o ≡ None
later_none None e = refl
later_none (Some i) e = absurd cc

unlike_by : (text bytes : List ℕ) (b c : ℕ) (t : Bool) → nat_eq b c ≡ t → (unlike_at text bytes ≡ None → bytes ≡ text ++ drop (length text) bytes) → (if t then one_later (unlike_at text bytes) else Some 0) ≡ None
    → b ∷ bytes ≡ (c ∷ text) ++ drop (length (c ∷ text)) (b ∷ bytes)
unlike_by text bytes b c true same rest e =
    let first : b ≡ c = eqb-true b c same in
    let behind = rest (later_none (unlike_at text bytes) e) in
    (λ t. first t ∷ behind t)
unlike_by text bytes b c false same rest e = absurd cc

unlike_none : (text bytes : List ℕ) → unlike_at text bytes ≡ None → bytes ≡ text ++ drop (length text) bytes
unlike_none [] bytes e = refl
unlike_none (c ∷ text) [] e = absurd cc
unlike_none (c ∷ text) (b ∷ bytes) e = unlike_by text bytes b c (nat_eq b c) refl (unlike_none text bytes) e

abbrev head_told : ℕ → ℕ → ℕ → List ℕ → Head
head_told at narrow count bytes = record { narrow = narrow; count = count; ages = ages_in (drop at bytes) }

told_by : (b : Bool) (told head : Head) (at : ℕ) → cond b (Ok told) (Err at) ≡ Ok head → (b ≡ true) × (told ≡ head)
told_by true told head at e = (refl, cc)
told_by false told head at e = absurd cc

counted : (at : ℕ) (o : Option ℕ) (bytes : List ℕ) (n : ℕ) → count_by at o bytes ≡ Ok n → (o ≡ None) × (count_of bytes ≡ n)
counted at None bytes n e = (refl, cc)
counted at (Some risen) bytes n e = absurd cc

wide_ok : (narrow : ℕ) (bytes : List ℕ) (r : Result ℕ ℕ) (head : Head) → behind_wide narrow bytes r ≡ Ok head → (count : ℕ) × (r ≡ Ok count) × (ages_end 17 narrow count bytes ≡ Ok head)
wide_ok narrow bytes (Ok count) head e = (count, refl, e)
wide_ok narrow bytes (Err at) head e = absurd cc

short_ok : (b : Bool) (at : ℕ) (r : Result Head ℕ) (head : Head) → cond b (Err at) r ≡ Ok head → r ≡ Ok head
short_ok true at r head e = absurd cc
short_ok false at r head e = e

narrow_ok : (bytes : List ℕ) (r : Result ℕ ℕ) (head : Head) → behind_narrow bytes r ≡ Ok head → (narrow : ℕ) × (r ≡ Ok narrow) × (behind_wide narrow bytes (count_at 13 bytes) ≡ Ok head)
narrow_ok bytes (Ok narrow) head e = (narrow, refl, short_ok (nat_lt (length bytes) 13) (length bytes) (behind_wide narrow bytes (count_at 13 bytes)) head e)
narrow_ok bytes (Err at) head e = absurd cc

old_ok : (bytes : List ℕ) (r : Result ℕ ℕ) (head : Head) → behind_old bytes r ≡ Ok head → (narrow : ℕ) × (r ≡ Ok narrow) × (ages_end 13 narrow 0 bytes ≡ Ok head)
old_ok bytes (Ok narrow) head e = (narrow, refl, e)
old_ok bytes (Err at) head e = absurd cc

new_by_ok : (o : Option ℕ) (bytes : List ℕ) (head : Head) → new_head_by o bytes ≡ Ok head → (o ≡ None) × (behind_narrow bytes (count_at 9 bytes) ≡ Ok head)
new_by_ok None bytes head e = (refl, e)
new_by_ok (Some unlike) bytes head e = absurd cc

old_by_ok : (o : Option ℕ) (bytes : List ℕ) (head : Head) → old_head_by o bytes ≡ Ok head → (o ≡ None) × (behind_old bytes (count_at 9 bytes) ≡ Ok head)
old_by_ok None bytes head e = (refl, e)
old_by_ok (Some unlike) bytes head e = absurd cc

number_small : (at : ℕ) (bytes : List ℕ) → IsBytes bytes → number_from at bytes < 2 ^ 64
number_small at bytes fits = wide64.below (take 8 (drop at bytes)) (IsBytes-take 8 (drop at bytes) (IsBytes-drop at bytes fits))

each_small : (f : ℕ → ℕ) (xs : List ℕ) (i : ℕ) → ((x : ℕ) → f x < 2 ^ 64) → get_or (map f xs) i 0 < 2 ^ 64
each_small f [] i small = lit< tt
each_small f (x ∷ xs) zero small = small x
each_small f (x ∷ xs) (suc i) small = each_small f xs i small

-- four bytes of a number that is within its limit
four_back : (at n : ℕ) (bytes : List ℕ) → IsBytes bytes → at + 4 ≤ length bytes → count_at at bytes ≡ Ok n → (drop at bytes ≡ to_be_bytes w32 n ++ drop (at + 4) bytes) × (n ≤ 4096)
four_back at n bytes fits long told =
    let is = counted at (rise_at most_cells (drop at bytes)) (drop at bytes) n told in
    let four : List ℕ = take 4 (drop at bytes) in
    let four_bytes : IsBytes four = IsBytes-take 4 (drop at bytes) (IsBytes-drop at bytes fits) in
    let four_long : length four ≡ 4 = omega (arith, length-take 4 (drop at bytes), length-drop at bytes) in
    let enough : nat_lt (length (drop at bytes)) 4 ≡ false = le-not-lt _ _ (omega (arith, length-drop at bytes)) in
    let number : from_be_bytes w32 four ≡ n = ap (λ (b : Bool). cond b 0 (from_be_bytes w32 four)) (sym enough) ∙ is.1 in
    let parts : drop at bytes ≡ four ++ drop (at + 4) bytes = sym (take-append-drop 4 (drop at bytes)) ∙ ap (λ (l : List ℕ). four ++ l) (drop-drop 4 at bytes) in
    let back : to_be_bytes w32 (from_be_bytes w32 four) ≡ four = be_bytes_4 four _ four_long four_bytes refl in
    let le : value four ≤ value most_cells = rise_le most_cells four (drop (at + 4) bytes) four_long four_bytes (ap (rise_at most_cells) (sym parts) ∙ is.0) in
    (parts ∙ (λ t. (sym back ∙ ap (to_be_bytes w32) number) t ++ drop (at + 4) bytes), omega (arith, le, value-of_4 four four_long, number))

ages_back : (at : ℕ) (bytes : List ℕ) → IsBytes bytes → length bytes ≡ at + 136 → drop at bytes ≡ numbers_spelling (ages_in (drop at bytes)).0
unfolding ages_in
ages_back at bytes fits long =
    sym (numbers_back (drop at bytes) 17 0 (IsBytes-drop at bytes fits) (omega (arith, length-drop at bytes)) ∙ take_all 136 (drop at bytes) (omega (arith, length-drop at bytes)))

ages_fit : (at narrow count : ℕ) (bytes : List ℕ) → IsBytes bytes → narrow ≤ 4096 → count ≤ 4096 → FitsHead (head_told at narrow count bytes)
unfolding ages_in
ages_fit at narrow count bytes fits few few' = record {
  narrow = few;
  count = few';
  long = refl;
  small = λ i. each_small (λ j. number_from (8 * j) (drop at bytes)) (range_with_len 0 17) i (λ j. number_small (8 * j) (drop at bytes) (IsBytes-drop at bytes fits));
}

new_back : (bytes : List ℕ) (head : Head) → IsBytes bytes → new_head_of bytes ≡ Ok head → (bytes ≡ head_spelling head) × FitsHead head
unfolding new_head_of
new_back bytes head fits e =
    let front = new_by_ok (unlike_at head_front bytes) bytes head e in
    let narrow = narrow_ok bytes (count_at 9 bytes) head front.1 in
    let wide = wide_ok narrow.0 bytes (count_at 13 bytes) head narrow.2 in
    let told = told_by (nat_eq (length bytes) (17 + 136)) (head_told 17 narrow.0 wide.0 bytes) head (min (length bytes) (17 + 136)) wide.2 in
    let long : length bytes ≡ 17 + 136 = eqb-true _ _ told.0 in
    let first = four_back 9 narrow.0 bytes fits (omega (arith, long)) narrow.1 in
    let second = four_back 13 wide.0 bytes fits (omega (arith, long)) wide.1 in
    let begins : bytes ≡ head_front ++ drop 9 bytes = unlike_none head_front bytes front.0 in
    let is : bytes ≡ head_spelling (head_told 17 narrow.0 wide.0 bytes) =
    begins ∙ ap (λ (l : List ℕ). head_front ++ l) (first.0 ∙ ap (λ (l : List ℕ). to_be_bytes w32 narrow.0 ++ l) (second.0 ∙ ap (λ (l : List ℕ). to_be_bytes w32 wide.0 ++ l) (ages_back 17 bytes fits long))) in
    (is ∙ ap head_spelling told.1, subst FitsHead told.1 (ages_fit 17 narrow.0 wide.0 bytes fits first.1 second.1))

old_back : (bytes : List ℕ) (head : Head) → IsBytes bytes → old_head_of bytes ≡ Ok head → (bytes ≡ old_spelling head) × FitsHead head × (head.count ≡ 0)
unfolding old_head_of
old_back bytes head fits e =
    let front = old_by_ok (unlike_at old_front bytes) bytes head e in
    let narrow = old_ok bytes (count_at 9 bytes) head front.1 in
    let told = told_by (nat_eq (length bytes) (13 + 136)) (head_told 13 narrow.0 0 bytes) head (min (length bytes) (13 + 136)) narrow.2 in
    let long : length bytes ≡ 13 + 136 = eqb-true _ _ told.0 in
    let first = four_back 9 narrow.0 bytes fits (omega (arith, long)) narrow.1 in
    let begins : bytes ≡ old_front ++ drop 9 bytes = unlike_none old_front bytes front.0 in
    let is : bytes ≡ old_spelling (head_told 13 narrow.0 0 bytes) =
    begins ∙ ap (λ (l : List ℕ). old_front ++ l) (first.0 ∙ ap (λ (l : List ℕ). to_be_bytes w32 narrow.0 ++ l) (ages_back 13 bytes fits long)) in
    (is ∙ ap old_spelling told.1, subst FitsHead told.1 (ages_fit 13 narrow.0 0 bytes fits first.1 (omega arith)), ap (λ (h : Head). h.count) (sym told.1))

as_back : (old : Bool) (bytes : List ℕ) (head : Head) → is_old bytes ≡ old → IsBytes bytes → head_as old bytes ≡ Ok head → IsSpelledHead bytes head
as_back true bytes head is fits e =
    let back = old_back bytes head fits e in
    record { bytes_are = back.0 ∙ ap (λ (b : Bool). spelled_as b head) (sym is); no_wide = λ t. back.2; fits = back.1 }
as_back false bytes head is fits e =
    let back = new_back bytes head fits e in
    record { bytes_are = back.0 ∙ ap (λ (b : Bool). spelled_as b head) (sym is); no_wide = λ t. absurd (let both : true ≡ false = sym t ∙ is in cc); fits = back.1 }

-- what is read was spelled so
pub head_back : (bytes : List ℕ) (head : Head) → IsBytes bytes → head_of bytes ≡ Ok head → IsSpelledHead bytes head
head_back bytes head fits e = as_back (is_old bytes) bytes head refl fits e

-- ---- what the cells read of a head

either_way : (x : ℕ) (b : Bool) → cond b x x ≡ x
either_way x true = refl
either_way x false = refl

number_back : (n : ℕ) → n ≤ 4096 → from_be_bytes w32 (to_be_bytes w32 n) ≡ n
number_back n low = from_be_bytes-to_be_bytes_4 n (omega (arith, low))

-- a head tells that wide cells stand behind it, and how many of each kind
pub tells-head : (head : Head) → FitsHead head → is_head (head_spelling head) ≡ true
tells-head head fits =
    let told : number_told 9 (head_spelling head) ≡ head.narrow = omega (arith, number_back head.narrow fits.narrow) in
    let told' : number_told 13 (head_spelling head) ≡ head.count = omega (arith, number_back head.count fits.count) in
    let few : leb (number_told 9 (head_spelling head)) 4096 ≡ true = le-leb _ _ (omega (arith, told, fits.narrow)) in
    let few' : leb (number_told 13 (head_spelling head)) 4096 ≡ true = le-leb _ _ (omega (arith, told', fits.count)) in
    let long : leb 17 (length (head_spelling head)) ≡ true = le-leb _ _ (omega (arith, length-numbers head.ages.0)) in
    (λ t. long t && (few t && few' t))

pub wide-told : (head : Head) → FitsHead head → wide_told (head_spelling head) ≡ head.count
wide-told head fits =
    let told : number_told 13 (head_spelling head) ≡ head.count = omega (arith, number_back head.count fits.count) in
    ap (λ (b : Bool). cond b (number_told 13 (head_spelling head)) 0) (tells-head head fits) ∙ told

pub narrow-told : (head : Head) → FitsHead head → narrow_told (head_spelling head) ≡ head.narrow
narrow-told head fits =
    let told : number_told 9 (head_spelling head) ≡ head.narrow = omega (arith, number_back head.narrow fits.narrow) in
    ap (λ (b : Bool). cond b (number_told 9 (head_spelling head)) 0) (tells-head head fits) ∙ told

-- a head of the old form tells narrow cells alone
tells-old : (head : Head) → FitsHead head → is_old_head (old_spelling head) ≡ true
tells-old head fits =
    let told : number_told 9 (old_spelling head) ≡ head.narrow = omega (arith, number_back head.narrow fits.narrow) in
    let few : leb (number_told 9 (old_spelling head)) 4096 ≡ true = le-leb _ _ (omega (arith, told, fits.narrow)) in
    let long : leb 13 (length (old_spelling head)) ≡ true = le-leb _ _ (omega (arith, length-numbers head.ages.0)) in
    (λ t. long t && few t)

pub old-narrow-told : (head : Head) → FitsHead head → narrow_told (old_spelling head) ≡ head.narrow
old-narrow-told head fits =
    let told : number_told 9 (old_spelling head) ≡ head.narrow = omega (arith, number_back head.narrow fits.narrow) in
    ap (λ (b : Bool). cond (b || is_head (old_spelling head)) (number_told 9 (old_spelling head)) 0) (tells-old head fits) ∙ told

-- what the cells read of a head of either form
pub as-narrow-told : (old : Bool) (head : Head) → FitsHead head → narrow_told (spelled_as old head) ≡ head.narrow
as-narrow-told true head fits = old-narrow-told head fits
as-narrow-told false head fits = narrow-told head fits

pub as-wide-told : (old : Bool) (head : Head) → FitsHead head → (old ≡ true → head.count ≡ 0) → wide_told (spelled_as old head) ≡ head.count
as-wide-told true head fits none = sym (none refl)
as-wide-told false head fits none = wide-told head fits

IsBytes-four : (a b : ℕ) → a < 256 → b < 256 → IsBytes (0 ∷ 0 ∷ a ∷ b ∷ [])
IsBytes-four a b low low' zero = lit< tt
IsBytes-four a b low low' (suc zero) = lit< tt
IsBytes-four a b low low' (suc (suc zero)) = low
IsBytes-four a b low low' (suc (suc (suc zero))) = low'
IsBytes-four a b low low' (suc (suc (suc (suc i)))) = lit< tt

-- a head with another count
pub other-count : (k n m : ℕ) (ages : Ages) → m ≤ 4096 → with_count (head_spelling (record { narrow = k; count = n; ages = ages })) m ≡ head_spelling (record { narrow = k; count = m; ages = ages })
other-count k n m ages low =
    let four : to_be_bytes w32 m ≡ 0 ∷ 0 ∷ m / 256 ∷ m % 256 ∷ [] = be_bytes_4 (0 ∷ 0 ∷ m / 256 ∷ m % 256 ∷ []) m refl (IsBytes-four (m / 256) (m % 256) (omega (arith, low)) (omega (arith, low))) (omega (arith, low)) in
    ap (λ (l : List ℕ). head_front ++ (to_be_bytes w32 k ++ (l ++ numbers_spelling ages.0))) (sym four)

pub length-head : (head : Head) → FitsHead head → length (head_spelling head) ≡ 153
length-head head fits = omega (arith, length-numbers head.ages.0, fits.long)
