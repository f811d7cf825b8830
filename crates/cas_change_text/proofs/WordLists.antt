-- Lemmas on the words of a line.
use Rattle.std.proofs.Common.{◌≡◌, ℕ, suc, ◌+◌, ◌<◌, ◌≤◌, Bool, true, false, not, cond, List, [], ◌∷◌, length, get_or, take, drop, refl, sym, ap, ◌∙◌, arith, add-one, inl, inr}
use Rattle.std.specs.Prelude.{nat_lt}
use Rattle.std.specs.List.{All, filter, slice_split, prefix_len, onto_first}
use Rattle.std.proofs.Math.Seq.{drop-cons}
use Rattle.std.proofs.lemmas.Bool.{cases_lt, lt-ltb, not-true, not-false}
use Rattle.std.proofs.lemmas.List.{take_all, drop_all, length-take}
use Rattle.std.proofs.lemmas.List.Splits.{slice_split_first, slice_split_none}
use Rattle.std.proofs.lemmas.List.Sums.{prefix_len-le-length, prefix_len_passes, prefix_len_stops}
use Rattle.cas_change_text.specs.Words.{Word, is_blank, words_of}

-- a blank in front is ignored
pub words_of-blank : (byte : ℕ) (line : List ℕ) → is_blank byte ≡ true → words_of (byte ∷ line) ≡ words_of line
words_of-blank byte line blank = ap (λ b. filter (λ part. nat_lt 0 (length part)) (cond b ([] ∷ slice_split is_blank line) (onto_first byte (slice_split is_blank line)))) blank

-- all blanks in front are ignored
pub words_of-blanks : (line : List ℕ) → words_of (drop (prefix_len is_blank line) line) ≡ words_of line
words_of-blanks [] = refl
words_of-blanks (byte ∷ line) =
    let step : (b : Bool) → is_blank byte ≡ b → words_of (drop (cond b (1 + prefix_len is_blank line) 0) (byte ∷ line)) ≡ words_of (byte ∷ line) =
    λ b. elim b as (λ v. is_blank byte ≡ v → words_of (drop (cond v (1 + prefix_len is_blank line) 0) (byte ∷ line)) ≡ words_of (byte ∷ line)) [
      | true ↦ λ e. let one : 1 + prefix_len is_blank line ≡ suc (prefix_len is_blank line) = omega arith in
          ap (λ n. words_of (drop n (byte ∷ line))) one ∙ words_of-blanks line ∙ sym (words_of-blank byte line e)
      | false ↦ λ e. refl
    ] in
    step (is_blank byte) refl

abbrev pub word_len : List ℕ → ℕ
word_len line = prefix_len (λ byte. not (is_blank byte)) line

-- where nothing stands behind the blanks, there is no word
pub no_first_word : (line : List ℕ) → length (take (word_len (drop (prefix_len is_blank line) line)) (drop (prefix_len is_blank line) line)) ≡ 0 → words_of line ≡ []
no_first_word line none =
    elim (cases_lt (prefix_len is_blank line) (length line)) [
      | inl lt ↦ absurd (stands lt)
      | inr past ↦ sym (words_of-blanks line) ∙ ap words_of (drop_all (prefix_len is_blank line) line past)
    ]
  where
    stands : prefix_len is_blank line < length line → ⊥
    stands lt =
        let first : ℕ = get_or line (prefix_len is_blank line) 0 in
        let seen : is_blank (get_or line (prefix_len is_blank line) 0) ≡ false = prefix_len_stops is_blank line 0 lt in
        let split : drop (prefix_len is_blank line) line ≡ get_or line (prefix_len is_blank line) 0 ∷ drop (suc (prefix_len is_blank line)) line = drop-cons line (prefix_len is_blank line) 0 lt in
        let begins : word_len (drop (prefix_len is_blank line) line) ≡ 1 + word_len (drop (suc (prefix_len is_blank line)) line) =
        ap word_len split ∙ ap (λ b. cond (not b) (1 + word_len (drop (suc (prefix_len is_blank line)) line)) 0) seen in
        omega (arith, none, begins, length-take (word_len (drop (prefix_len is_blank line) line)) (drop (prefix_len is_blank line) line), prefix_len-le-length (λ byte. not (is_blank byte)) (drop (prefix_len is_blank line) line))

-- a part that is not empty is a word
pub kept : (word : List ℕ) (parts : List Word) → 0 < length word → filter (λ part. nat_lt 0 (length part)) (word ∷ parts) ≡ word ∷ filter (λ part. nat_lt 0 (length part)) parts
kept word parts some = ap (λ b. cond b (word ∷ filter (λ part. nat_lt 0 (length part)) parts) (filter (λ part. nat_lt 0 (length part)) parts)) (lt-ltb 0 (length word) some)

-- the first word, and the words behind it
pub first_word : (line : List ℕ) → 0 < word_len line → words_of line ≡ take (word_len line) line ∷ words_of (drop (word_len line) line)
first_word line some =
    elim (cases_lt (word_len line) (length line)) [
      | inl lt ↦ within lt
      | inr past ↦ whole past
    ]
  where
    within : word_len line < length line → words_of line ≡ take (word_len line) line ∷ words_of (drop (word_len line) line)
    within lt =
        let blank : is_blank (get_or line (word_len line) 0) ≡ true = not-false (is_blank (get_or line (word_len line) 0)) (prefix_len_stops (λ byte. not (is_blank byte)) line 0 lt) in
        ap (filter (λ part. nat_lt 0 (length part))) (slice_split_first is_blank line 0 lt)
        ∙ kept (take (word_len line) line) (slice_split is_blank (drop (word_len line + 1) line)) (omega (arith, length-take (word_len line) line))
        ∙ ap (λ (ws : List Word). take (word_len line) line ∷ ws) (ap (λ m. words_of (drop m line)) (add-one (word_len line))
        ∙ sym (words_of-blank (get_or line (word_len line) 0) (drop (suc (word_len line)) line) blank) ∙ ap words_of (sym (drop-cons line (word_len line) 0 lt)))

    whole : length line ≤ word_len line → words_of line ≡ take (word_len line) line ∷ words_of (drop (word_len line) line)
    whole past =
        let none : All (λ x. is_blank x ≡ false) line = λ k d lt. not-true (is_blank (get_or line k d)) (prefix_len_passes (λ byte. not (is_blank byte)) line k d (omega arith)) in
        rw (take_all (word_len line) line past, drop_all (word_len line) line past)
        (ap (filter (λ part. nat_lt 0 (length part))) (slice_split_none is_blank line none) ∙ kept line [] (omega (arith, prefix_len-le-length (λ byte. not (is_blank byte)) line)))
