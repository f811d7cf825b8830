-- A word that is cut at its first byte of a kind.
use Rattle.std.proofs.Common.{◌≡◌, ℕ, ◌+◌, ◌-◌, ◌<◌, ◌≤◌, Bool, false, not, List, [], ◌∷◌, length, get_or, take, drop, sym, ap, ◌∙◌, arith}
use Rattle.std.specs.List.{All, slice_split, position_or_len, before_first, after_first}
use Rattle.std.proofs.lemmas.Bool.{not-true}
use Rattle.std.proofs.lemmas.List.{take_all, length-drop, drop-drop}
use Rattle.std.proofs.lemmas.List.Splits.{slice_split_first, slice_split_none}
use Rattle.std.proofs.lemmas.List.Sums.{prefix_len-le-length, prefix_len_passes}

-- the cut is within the word
pub within_word : (p : ℕ → Bool) (word : List ℕ) (n : ℕ) → n ≡ position_or_len p word → n ≤ length word
within_word p word n is = omega (arith, is, prefix_len-le-length (λ byte. not (p byte)) word)

-- what stands behind the byte of the cut
pub behind_cut : (p : ℕ → Bool) (word from : List ℕ) (n : ℕ) → n ≡ position_or_len p word → from ≡ drop n word → take (length from - 1) (drop 1 from) ≡ after_first p word
behind_cut p word from n is cut =
    take_all (length from - 1) (drop 1 from) (omega (arith, length-drop 1 from))
    ∙ ap (λ (bytes : List ℕ). drop 1 bytes) cut ∙ drop-drop 1 n word ∙ ap (λ m. drop (m + 1) word) is

-- where nothing is left, the word is the one part
pub one_part : (p : ℕ → Bool) (word front from : List ℕ) (n : ℕ) → n ≡ position_or_len p word → front ≡ take n word → from ≡ drop n word → length from < 1 → slice_split p word ≡ front ∷ []
one_part p word front from n is before cut none =
    let past : length word ≤ n = omega (arith, none, ap (λ (bytes : List ℕ). length bytes) cut, length-drop n word) in
    let fails : All (λ byte. p byte ≡ false) word = λ k d lt. not-true (p (get_or word k d)) (prefix_len_passes (λ byte. not (p byte)) word k d (omega (arith, is, past, lt))) in
    slice_split_none p word fails ∙ ap (λ (bytes : List ℕ). bytes ∷ []) (sym (before ∙ take_all n word past))

-- and else it is the part before the cut, and the parts of what stands behind
pub first_of_parts : (p : ℕ → Bool) (word front from : List ℕ) (n : ℕ) → n ≡ position_or_len p word → front ≡ take n word → from ≡ drop n word → 1 ≤ length from
    → slice_split p word ≡ front ∷ slice_split p (take (length from - 1) (drop 1 from))
first_of_parts p word front from n is before cut some =
    let inside : position_or_len p word < length word = omega (arith, some, is, ap (λ (bytes : List ℕ). length bytes) cut, length-drop n word) in
    let part : before_first p word ≡ front = sym (before ∙ ap (λ m. take m word) is) in
    let rest : after_first p word ≡ take (length from - 1) (drop 1 from) = sym (behind_cut p word from n is cut) in
    slice_split_first p word 0 inside ∙ (λ i. part i ∷ slice_split p (rest i))
