-- What is written of a race, piece by piece.
use Rattle.std.proofs.Common.{◌≡◌, ◌+◌, ◌<◌, ◌≤◌, ℕ, zero, suc, List, [], ◌∷◌, ◌++◌, length, take, drop, get_or, map, Option, Result, Ok, Err, OnOk, OnErr, refl, sym, ap, ◌∙◌, inl, inr, append_assoc, append-nil, arith}
use Rattle.std.specs.Io.KnownBytes.{Appends}
use Rattle.std.specs.List.{flat_map}
use Rattle.std.proofs.KnownBytes.{Appends-trans}
use Rattle.std.proofs.Math.Seq.{drop-cons}
use Rattle.std.proofs.lemmas.List.{take_more, take-append-drop, length-map, length-take-le, get_or-map}
use Rattle.cas_base.specs.Faults.{Rose}
use Rattle.cas_lines.specs.Sink.{AppendsFront}
use Rattle.cas_record.specs.declared.mark.Mark.{Mark}
use Rattle.casreg_tasks.specs.Histories.{AreHistories, history_text}
use Rattle.casreg_tasks.specs.Texts.{WroteFrontOf, WroteText}
use Rattle.casreg_tasks.proofs.SettledKeys.{settled_keys, are_settled}
use Rattle.casreg_race.specs.declared.told.Told.{Told}
use Rattle.casreg_race.specs.Texts.{IsRaceText, told_line, told_lines}

pub on_err : {T E : Type 0} (result : Result T E) (P : Type 0) → P → OnErr result P
on_err (Ok x) P p = tt
on_err (Err e) P p = p

pub on_err_then : {T E : Type 0} (result : Result T E) (P Q : Type 0) → (P → Q) → OnErr result P → OnErr result Q
on_err_then (Ok x) P Q f p = tt
on_err_then (Err e) P Q f p = f p

pub on_ok_then : {T E : Type 0} (result : Result T E) (P Q : Type 0) → (P → Q) → OnOk result P → OnOk result Q
on_ok_then (Ok x) P Q f p = f p
on_ok_then (Err e) P Q f p = tt

-- ---- pieces of a text
-- a piece was written, and nothing behind it
pub front_done : (whole done later : List ℕ) (a b : Option (List ℕ)) → done ++ later ≡ whole → Appends a b done → WroteFrontOf (λ text. text ≡ whole) a b
front_done whole done later a b is written = record { front = done; rest = later; has = is; written = written }

-- a piece was written, and a front of the next one
pub front_within : (whole done next later : List ℕ) (a b c : Option (List ℕ)) → done ++ (next ++ later) ≡ whole → Appends a b done → AppendsFront b c next → WroteFrontOf (λ text. text ≡ whole) a c
front_within whole done next later a b c is written front = record {
  front = done ++ take front.0 next;
  rest = drop front.0 next ++ later;
  has =
      append_assoc done (take front.0 next) (drop front.0 next ++ later)
      ∙ ap (λ (l : List ℕ). done ++ l) (sym (append_assoc (take front.0 next) (drop front.0 next) later) ∙ ap (λ (l : List ℕ). l ++ later) (take-append-drop front.0 next)) ∙ is;
  written = Appends-trans a b c done (take front.0 next) written front.2;
}

-- ---- answers
-- those of the callers below this one, and the rest
pub told_split : (n i : ℕ) (all : List (List Told)) → told_lines n (take i all) ++ told_lines (n + i) (drop i all) ≡ told_lines n all
told_split n zero all = ap (λ (k : ℕ). told_lines k all) (let e : n + 0 ≡ n = omega arith in e)
told_split n (suc i) [] = refl
told_split n (suc i) (answers ∷ later) =
    append_assoc (flat_map (told_line n) answers) (told_lines (suc n) (take i later)) (told_lines (n + suc i) (drop i later))
    ∙ ap (λ (l : List ℕ). flat_map (told_line n) answers ++ l)
    (ap (λ (k : ℕ). told_lines (suc n) (take i later) ++ told_lines k (drop i later)) (let e : n + suc i ≡ suc n + i = omega arith in e) ∙ told_split (suc n) i later)

pub told_rest : (bad : List ℕ) (i : ℕ) (all : List (List Told)) → (bad ++ told_lines 0 (take i all)) ++ told_lines (0 + i) (drop i all) ≡ bad ++ told_lines 0 all
told_rest bad i all = append_assoc bad (told_lines 0 (take i all)) (told_lines (0 + i) (drop i all)) ∙ ap (λ (l : List ℕ). bad ++ l) (told_split 0 i all)

told_append : (n : ℕ) (all : List (List Told)) (answers : List Told) → told_lines n (all ++ answers ∷ []) ≡ told_lines n all ++ flat_map (told_line (n + length all)) answers
told_append n [] answers = append-nil (flat_map (told_line n) answers) ∙ ap (λ (k : ℕ). flat_map (told_line k) answers) (let e : n ≡ n + 0 = omega arith in e)
told_append n (first ∷ later) answers =
    ap (λ (l : List ℕ). flat_map (told_line n) first ++ l) (told_append (suc n) later answers)
    ∙ sym (append_assoc (flat_map (told_line n) first) (told_lines (suc n) later) (flat_map (told_line (suc n + length later)) answers))
    ∙ ap (λ (k : ℕ). (flat_map (told_line n) first ++ told_lines (suc n) later) ++ flat_map (told_line k) answers) (let e : suc n + length later ≡ n + suc (length later) = omega arith in e)

-- a caller's answers among those of all
module _ {Says : Type 0} (says : Says → List Told) (told : List Says) (i : ℕ) (one : Says) (low : i < length told) (is : one ≡ get_or told i one) (bad : List ℕ) where
  abbrev all : List (List Told)
  all = map says told

  here : get_or all i (says one) ≡ says one
  here = get_or-map says told i one (says one) low ∙ ap says (sym is)

  low_all : i < length all
  low_all = let long = length-map told says in omega (arith, low, long)

  from_here : drop i all ≡ says one ∷ drop (suc i) all
  from_here = drop-cons all i (says one) low_all ∙ ap (λ (l : List Told). l ∷ drop (suc i) all) here

  pub told_around : (bad ++ told_lines 0 (take i all)) ++ (flat_map (told_line i) (says one) ++ told_lines (suc i) (drop (suc i) all)) ≡ bad ++ told_lines 0 all
  told_around =
      ap (λ (l : List (List Told)). (bad ++ told_lines 0 (take i all)) ++ told_lines i l) (sym from_here)
      ∙ ap (λ (k : ℕ). (bad ++ told_lines 0 (take i all)) ++ told_lines k (drop i all)) (let e : i ≡ 0 + i = omega arith in e)
      ∙ told_rest bad i all

  pub told_next : bad ++ told_lines 0 (take (i + 1) all) ≡ (bad ++ told_lines 0 (take i all)) ++ flat_map (told_line i) (says one)
  told_next =
      ap (λ (l : List (List Told)). bad ++ told_lines 0 l) (take_more all i (says one) low_all ∙ ap (λ (l : List Told). take i all ++ l ∷ []) here)
      ∙ ap (λ (l : List ℕ). bad ++ l) (told_append 0 (take i all) (says one))
      ∙ ap (λ (k : ℕ). bad ++ (told_lines 0 (take i all) ++ flat_map (told_line k) (says one))) (let long = length-take-le i all (omega (arith, low_all)) in let e : 0 + length (take i all) ≡ i = omega (arith, long) in e)
      ∙ sym (append_assoc bad (told_lines 0 (take i all)) (flat_map (told_line i) (says one)))

-- ---- counts of faults
pub rose_later : (a b c : ℕ) → a ≤ b → Rose b c → Rose a c
rose_later a b c low (inl more) = inl (omega (arith, low, more))
rose_later a b c low (inr most) = inr most

-- ---- the whole text
module _ (bad : List ℕ) (answers : List (List Told)) (marks : List Mark) (a b c : Option (List ℕ)) where
  pub text_whole : Appends a b (bad ++ told_lines 0 answers) → WroteText (AreHistories marks) b c → WroteText (IsRaceText bad answers marks) a c
  text_whole first histories = record {
    text = bad ++ told_lines 0 answers ++ histories.text;
    has = record { histories = histories.text; are_histories = histories.has; is = refl };
    written = Appends-trans a b c (bad ++ told_lines 0 answers) histories.text first histories.written;
  }

  pub text_in_histories : Appends a b (bad ++ told_lines 0 answers) → WroteFrontOf (AreHistories marks) b c → WroteFrontOf (IsRaceText bad answers marks) a c
  text_in_histories first histories = record {
    front = bad ++ told_lines 0 answers ++ histories.front;
    rest = histories.rest;
    has = record { histories = histories.front ++ histories.rest; are_histories = histories.has; is = append_assoc (bad ++ told_lines 0 answers) histories.front histories.rest };
    written = Appends-trans a b c (bad ++ told_lines 0 answers) histories.front first histories.written;
  }

  -- there are histories, whatever the marks are
  pub text_in_answers : WroteFrontOf (λ text. text ≡ bad ++ told_lines 0 answers) a c → WroteFrontOf (IsRaceText bad answers marks) a c
  text_in_answers answered =
      let text : List ℕ = flat_map (history_text marks) (settled_keys marks) in
      record {
        front = answered.front;
        rest = answered.rest ++ text;
        has = record {
          histories = text;
          are_histories = record { keys = settled_keys marks; are_keys = are_settled marks; is = refl };
          is = sym (append_assoc answered.front answered.rest text) ∙ ap (λ (l : List ℕ). l ++ text) answered.has;
        };
        written = answered.written;
      }
