-- What is written of a record's text, line by line.
use Rattle.std.proofs.Common.{◌≡◌, ◌+◌, ◌<◌, ℕ, suc, List, [], ◌∷◌, ◌++◌, length, take, drop, get_or, Option, Result, Ok, Err, OnErr, sym, ap, ◌∙◌, append_assoc, append-nil}
use Rattle.std.specs.Io.KnownBytes.{Appends}
use Rattle.std.specs.List.{flat_map, AllByRecursion}
use Rattle.std.proofs.KnownBytes.{Appends-trans}
use Rattle.std.proofs.Math.Seq.{drop-cons}
use Rattle.std.proofs.lemmas.Grind.{flat_map-append}
use Rattle.std.proofs.lemmas.List.{take_more, take-append-drop}
use Rattle.cas_lines.specs.Sink.{AppendsFront}
use Rattle.cas_record.specs.declared.mark.Mark.{Mark}
use Rattle.casreg_tasks.specs.Texts.{WroteFrontOf}
use Rattle.casreg_marks.specs.Marks.{with_text, count_line, mark_line, record_text}
use Rattle.casreg_marks.proofs.Lined.{only_with_text}

pub on_err : {T E : Type 0} (result : Result T E) (P : Type 0) → P → OnErr result P
on_err (Ok x) P p = tt
on_err (Err e) P p = p

-- ---- fronts
-- a front was written, and nothing behind it
pub front_done : (whole done later : List ℕ) (a b : Option (List ℕ)) → done ++ later ≡ whole → Appends a b done → WroteFrontOf (λ text. text ≡ whole) a b
front_done whole done later a b is written = record { front = done; rest = later; has = is; written = written }

-- a front was written, and a front of what follows it
pub front_within : (whole done next later : List ℕ) (a b c : Option (List ℕ)) → done ++ (next ++ later) ≡ whole → Appends a b done → AppendsFront b c next → WroteFrontOf (λ text. text ≡ whole) a c
front_within whole done next later a b c is written front = record {
  front = done ++ take front.0 next;
  rest = drop front.0 next ++ later;
  has =
      append_assoc done (take front.0 next) (drop front.0 next ++ later)
      ∙ ap (λ (l : List ℕ). done ++ l) (sym (append_assoc (take front.0 next) (drop front.0 next) later) ∙ ap (λ (l : List ℕ). l ++ later) (take-append-drop front.0 next)) ∙ is;
  written = Appends-trans a b c done (take front.0 next) written front.2;
}

-- ---- the lines of the first marks
module _ (marks : List Mark) where
  abbrev head : List ℕ
  head = count_line (length (with_text marks))

  -- what was written of the text before the mark of that place
  abbrev pub so_far : ℕ → List ℕ
  so_far i = head ++ flat_map mark_line (take i marks)

  -- what of it is still to be written
  abbrev pub to_come : ℕ → List ℕ
  to_come i = flat_map mark_line (drop i marks)

  pub is_whole : head ++ flat_map mark_line marks ≡ record_text (with_text marks)
  is_whole = ap (λ (l : List ℕ). head ++ l) (sym (only_with_text marks))

  pub whole_at : (i : ℕ) → so_far i ++ to_come i ≡ record_text (with_text marks)
  whole_at i =
      append_assoc head (flat_map mark_line (take i marks)) (flat_map mark_line (drop i marks))
      ∙ ap (λ (l : List ℕ). head ++ l) (sym (flat_map-append mark_line (take i marks) (drop i marks)) ∙ ap (flat_map mark_line) (take-append-drop i marks))
      ∙ is_whole

  -- the mark of that place
  module _ (i : ℕ) (mark : Mark) (low : i < length marks) (is : mark ≡ get_or marks i mark) where
    pub first_to_come : to_come i ≡ mark_line mark ++ to_come (suc i)
    first_to_come = ap (flat_map mark_line) (drop-cons marks i mark low ∙ ap (λ (one : Mark). one ∷ drop (suc i) marks) (sym is))

    pub whole_around : so_far i ++ (mark_line mark ++ to_come (suc i)) ≡ record_text (with_text marks)
    whole_around = ap (λ (l : List ℕ). so_far i ++ l) (sym first_to_come) ∙ whole_at i

    pub taken_more : take (i + 1) marks ≡ take i marks ++ mark ∷ []
    taken_more = take_more marks i mark low ∙ ap (λ (one : Mark). take i marks ++ one ∷ []) (sym is)

    pub so_far_more : so_far (i + 1) ≡ so_far i ++ mark_line mark
    so_far_more =
        ap (λ (l : List ℕ). head ++ l) (ap (flat_map mark_line) taken_more ∙ flat_map-append mark_line (take i marks) (mark ∷ [])
        ∙ ap (λ (l : List ℕ). flat_map mark_line (take i marks) ++ l) (append-nil (mark_line mark)))
        ∙ sym (append_assoc head (flat_map mark_line (take i marks)) (mark_line mark))

-- what holds of each element and of one more
pub each_more : {X : Type 0} (P : X → Type 0) (xs : List X) (x : X) → AllByRecursion P xs → P x → AllByRecursion P (xs ++ x ∷ [])
each_more P [] x each one = (one, tt)
each_more P (y ∷ xs) x each one = (each.0, each_more P xs x each.1 one)
