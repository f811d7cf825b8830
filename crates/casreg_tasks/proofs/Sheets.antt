-- A sheet, as the lines come onto it one by one.
use Rattle.std.proofs.Common.{◌≡◌, ℕ, suc, ◌+◌, ◌<◌, ◌≤◌, Bool, true, false, List, [], ◌∷◌, ◌++◌, length, get_or, set, get_or-set_same, get_or-set_other, length-set, Option, Some, None, Result, Ok, Err, refl, sym, ap, ◌∙◌, arith, inl, inr, append_assoc, length-append, map, Vec, Global}
use Rattle.std.specs.Prelude.{◌==◌, if◌then◌else◌, IfSome, OnOk, vec_items}
use Rattle.std.specs.Io.KnownBytes.{IsAtEnd}
use Rattle.std.proofs.lemmas.Bool.{eqb-true, eq-eqb}
use Rattle.std.proofs.lemmas.List.{append-nil, map-set, get_or-map}
use Rattle.cas_base.proofs.Bools.{some_is, true_or_false}
use Rattle.cas_change_text.specs.declared.refusal.TextRefusal.{TextRefusal}
use Rattle.cas_lines.specs.declared.command.Command.{Command}
use Rattle.cas_lines.specs.declared.command.Command.TheVariants.{Get, Set, Num, Init, Add, Cas, CasNum, Del, DelVersion, Do, Join, Leave, Resize, Collect, Probe, Read}
use Rattle.cas_lines.specs.Command.{IsKnown}
use Rattle.cas_lines.specs.declared.lines.TheConstants.{MOST_LINES}
use Rattle.cas_lines.specs.Answers.{bad_line}
use Rattle.cas_lines.specs.Lines.{Whole, TooMany, TooLong, ending_of, LineState, LinesState, ahead, HandsOut, HasMore, IsLongLine, HasHandedOut}
use Rattle.cas_lines.proofs.WholeRuns.{HasHandedOut-nothing, HasHandedOut-line, HasHandedOut-end, HasHandedOut-too_many, HasHandedOut-endless}
use Rattle.casreg_tasks.specs.declared.tasks.Task.{Task}
use Rattle.casreg_tasks.specs.Tasks.{race_line_in, task_of, asked_in, onto_tasks, tasks_of, bad_text, bad_lines, AreParted, AreAllLines}

-- ---- one line more
onto-append : (n : ℕ) (asked : Option (ℕ × Task)) (xs ys : List Task) → onto_tasks n asked (xs ++ ys) ≡ onto_tasks n asked xs ++ ys
onto-append n None xs ys = refl
onto-append n (Some asked) xs ys =
    elim (asked.0 == n) as (λ b. (if b then asked.1 ∷ (xs ++ ys) else xs ++ ys) ≡ (if b then asked.1 ∷ xs else xs) ++ ys) [ true ↦ refl | false ↦ refl ]

tasks-push : (proposers n : ℕ) (lines : List (List ℕ)) (line : List ℕ) → tasks_of proposers n (lines ++ line ∷ []) ≡ tasks_of proposers n lines ++ onto_tasks n (asked_in (race_line_in proposers line)) []
tasks-push proposers n [] line = refl
tasks-push proposers n (first_ ∷ later) line =
    let asked = asked_in (race_line_in proposers first_) in
    ap (onto_tasks n asked) (tasks-push proposers n later line) ∙ onto-append n asked (tasks_of proposers n later) (onto_tasks n (asked_in (race_line_in proposers line)) [])

bad-push : (proposers number : ℕ) (lines : List (List ℕ)) (line : List ℕ) → bad_lines proposers number (lines ++ line ∷ []) ≡ bad_lines proposers number lines ++ bad_text (number + length lines) (race_line_in proposers line)
bad-push proposers number [] line =
    append-nil (bad_text number (race_line_in proposers line)) ∙ ap (λ n. bad_text n (race_line_in proposers line)) (omega arith)
bad-push proposers number (first_ ∷ later) line =
    let place : suc number + length later ≡ number + length (first_ ∷ later) = omega arith in
    let text = bad_text number (race_line_in proposers first_) in
    ap (λ t. text ++ t) (bad-push proposers (suc number) later line ∙ ap (λ n. bad_lines proposers (suc number) later ++ bad_text n (race_line_in proposers line)) place)
    ∙ sym (append_assoc text (bad_lines proposers (suc number) later) (bad_text (number + length (first_ ∷ later)) (race_line_in proposers line)))

module _ (proposers : ℕ) (lines : List (List ℕ)) (line bad : List ℕ) (tasks : List (List Task)) (parted : AreParted proposers lines bad tasks) where
  -- the texts, where this one comes for the line
  bad_on : (text : List ℕ) → text ≡ bad_text (1 + length lines) (race_line_in proposers line) → bad ++ text ≡ bad_lines proposers 1 (lines ++ line ∷ [])
  bad_on text is = ap (λ t. t ++ text) parted.bad_are ∙ ap (λ t. bad_lines proposers 1 lines ++ t) is ∙ sym (bad-push proposers 1 lines line)

  -- where the line asks nobody, the tasks stay
  tasks_stay : asked_in (race_line_in proposers line) ≡ None → (n : ℕ) → n ≤ proposers → get_or tasks n [] ≡ tasks_of proposers n (lines ++ line ∷ [])
  tasks_stay none n low =
      parted.tasks_are n low ∙ sym (tasks-push proposers n lines line ∙ ap (λ a. tasks_of proposers n lines ++ onto_tasks n a []) none ∙ append-nil (tasks_of proposers n lines))

  -- a remark
  pub parted_remark : race_line_in proposers line ≡ Ok None → AreParted proposers (lines ++ line ∷ []) bad tasks
  parted_remark is = record {
    bad_are = sym (append-nil bad) ∙ bad_on [] (sym (ap (bad_text (1 + length lines)) is));
    callers = parted.callers;
    tasks_are = tasks_stay (ap asked_in is);
  }

  -- a bad line
  pub parted_bad : (number : ℕ) (refusal : TextRefusal) (text : List ℕ) → race_line_in proposers line ≡ Err refusal → number ≡ length lines + 1 → text ≡ bad ++ bad_line number refusal.why
      → AreParted proposers (lines ++ line ∷ []) text tasks
  parted_bad number refusal text is numbered text_is = record {
    bad_are = text_is ∙ bad_on (bad_line number refusal.why) (ap (λ n. bad_line n refusal.why) (omega (arith, numbered)) ∙ sym (ap (bad_text (1 + length lines)) is));
    callers = parted.callers;
    tasks_are = tasks_stay (ap asked_in is);
  }

  -- a line that asks a caller
  pub parted_task : (command : Command) (caller : ℕ) (task : Task) (now : List (List Task)) → race_line_in proposers line ≡ Ok (Some command) → task_of command ≡ Some (caller, task) → caller ≤ proposers
      → now ≡ set tasks caller (get_or tasks caller [] ++ task ∷ []) → AreParted proposers (lines ++ line ∷ []) bad now
  parted_task command caller task now is asks within now_is = record {
    bad_are = sym (append-nil bad) ∙ bad_on [] (sym (ap (bad_text (1 + length lines)) is));
    callers = ap length now_is ∙ length-set tasks caller (get_or tasks caller [] ++ task ∷ []) ∙ parted.callers;
    tasks_are = λ n low. ap (λ ts. get_or ts n []) now_is ∙ by n low;
  }
    where
      asked : asked_in (race_line_in proposers line) ≡ Some (caller, task)
      asked = ap asked_in is ∙ asks

      -- what the line adds to the tasks of a caller
      added : (n : ℕ) (b : Bool) → (caller == n) ≡ b → tasks_of proposers n (lines ++ line ∷ []) ≡ tasks_of proposers n lines ++ (if b then task ∷ [] else [])
      added n b e = tasks-push proposers n lines line ∙ ap (λ a. tasks_of proposers n lines ++ onto_tasks n a []) asked ∙ ap (λ (t : Bool). tasks_of proposers n lines ++ (if t then task ∷ [] else [])) e

      place : caller < length tasks
      place = omega (arith, within, parted.callers)

      by : (n : ℕ) → n ≤ proposers → get_or (set tasks caller (get_or tasks caller [] ++ task ∷ [])) n [] ≡ tasks_of proposers n (lines ++ line ∷ [])
      by n low = elim (true_or_false (caller == n)) [
        | inl same ↦
            let e : caller ≡ n = eqb-true caller n same in
            ap (λ m. get_or (set tasks caller (get_or tasks caller [] ++ task ∷ [])) m []) (sym e) ∙ get_or-set_same tasks caller (get_or tasks caller [] ++ task ∷ []) [] place
            ∙ ap (λ ts. ts ++ task ∷ []) (ap (λ m. get_or tasks m []) e ∙ parted.tasks_are n low) ∙ sym (added n true same)
        | inr other ↦
            let apart : n ≡ caller → ⊥ = λ e. absurd (cc (other, eq-eqb caller n (sym e))) in
            get_or-set_other tasks caller n (get_or tasks caller [] ++ task ∷ []) [] apart ∙ parted.tasks_are n low ∙ sym (added n false other ∙ append-nil (tasks_of proposers n lines))
      ]

-- one list of tasks grew by one
pub grew : (items : List (Vec Task Global)) (i : ℕ) (old new : Vec Task Global) (task : Task) → i < length items → old ≡ get_or items i old → new.items ≡ old.items ++ task ∷ []
    → map vec_items (set items i new) ≡ set (map vec_items items) i (get_or (map vec_items items) i [] ++ task ∷ [])
grew items i old new task low is new_is =
    let there : old.items ≡ get_or (map vec_items items) i [] = ap vec_items is ∙ sym (get_or-map vec_items items i old [] low) in
    map-set vec_items items i new ∙ ap (set (map vec_items items) i) (new_is ∙ ap (λ ts. ts ++ task ∷ []) there)

abbrev asks_for : ℕ → Task → Option (ℕ × Task)
asks_for caller task = Some (caller, task)

same_caller : (asker caller : ℕ) (asked task : Task) → asks_for asker asked ≡ asks_for caller task → asker ≡ caller
same_caller asker caller asked task e = ap (λ (p : ℕ × Task). p.0) (some_is (asker, asked) (caller, task) e)

-- a task is that of a caller there is, or the operator's
pub task_within : (proposers : ℕ) (command : Command) (caller : ℕ) (task : Task) → IsKnown proposers command → task_of command ≡ Some (caller, task) → caller ≤ proposers
task_within proposers (Get asker key) caller task known asks = let e = same_caller asker caller _ task asks in omega (arith, known.1)
task_within proposers (Set asker key text) caller task known asks = let e = same_caller asker caller _ task asks in omega (arith, known.1)
task_within proposers (Num asker key number) caller task known asks = let e = same_caller asker caller _ task asks in omega (arith, known.1)
task_within proposers (Init asker key number) caller task known asks = let e = same_caller asker caller _ task asks in omega (arith, known.1)
task_within proposers (Add asker key number) caller task known asks = let e = same_caller asker caller _ task asks in omega (arith, known.1)
task_within proposers (Cas asker key version text) caller task known asks = let e = same_caller asker caller _ task asks in omega (arith, known.1)
task_within proposers (CasNum asker key version number) caller task known asks = let e = same_caller asker caller _ task asks in omega (arith, known.1)
task_within proposers (Del asker key) caller task known asks = let e = same_caller asker caller _ task asks in omega (arith, known.1)
task_within proposers (DelVersion asker key version) caller task known asks = let e = same_caller asker caller _ task asks in omega (arith, known.1)
task_within proposers (Do asker key program) caller task known asks = let e = same_caller asker caller _ task asks in omega (arith, known.1)
task_within proposers (Join id) caller task known asks = let e = same_caller 0 caller _ task asks in omega arith
task_within proposers (Leave id) caller task known asks = let e = same_caller 0 caller _ task asks in omega arith
task_within proposers (Resize need_prep need_acc) caller task known asks = let e = same_caller 0 caller _ task asks in omega arith
task_within proposers (Collect key) caller task known asks = let e = same_caller 0 caller _ task asks in omega arith
task_within proposers (Probe key) caller task known asks = let e = same_caller 0 caller _ task asks in omega arith
task_within proposers (Read key) caller task known asks = let e = same_caller 0 caller _ task asks in omega arith
task_within proposers command caller task known asks = absurd cc

-- what holds where a call did well, by two facts that do
pub ok_of_both : {T E P Q : Type 0} (result : Result T E) (R : Type 0) → OnOk result P → OnOk result Q → (P → Q → R) → OnOk result R
ok_of_both (Ok x) R p q both = both p q
ok_of_both (Err e) R p q both = tt

-- ---- the first sheet
pub parted_first : (proposers : ℕ) (bad : List ℕ) (tasks : List (List Task)) → bad ≡ [] → length tasks ≡ suc proposers → ((n : ℕ) → get_or tasks n [] ≡ []) → AreParted proposers [] bad tasks
parted_first proposers bad tasks none callers bare = record { bad_are = none; callers = callers; tasks_are = λ n low. bare n }

-- ---- up to some line
-- some lines of the input were handed out, and these are parted
pub record IsSheetReadSoFar (proposers : ℕ) (input left : Option (List ℕ)) (reader : LinesState) (bad : List ℕ) (tasks : List (List Task)) : Type 0 where
  pub lines : List (List ℕ)
  pub handed_out : HasHandedOut input lines reader left
  pub counted : reader.handed ≡ length lines
  pub parted : AreParted proposers lines bad tasks

pub read_first : (proposers : ℕ) (input : Option (List ℕ)) (reader : LinesState) (bad : List ℕ) (tasks : List (List Task)) → reader.held ≡ [] → reader.handed ≡ 0 → AreParted proposers [] bad tasks
    → IsSheetReadSoFar proposers input input reader bad tasks
read_first proposers input reader bad tasks empty handed parted = record { lines = []; handed_out = HasHandedOut-nothing input reader empty; counted = handed; parted = parted }

pub read_on : (proposers : ℕ) (input left new_left : Option (List ℕ)) (old new : LinesState) (line : LineState) (bad now_bad : List ℕ) (tasks now_tasks : List (List Task)) → IsSheetReadSoFar proposers input left old bad tasks
    → HandsOut old new left new_left line.bytes → old.handed < MOST_LINES → line.number ≡ old.handed + 1 → new.handed ≡ line.number
    → ((lines : List (List ℕ)) → line.number ≡ length lines + 1 → AreParted proposers lines bad tasks → AreParted proposers (lines ++ line.bytes ∷ []) now_bad now_tasks)
    → IsSheetReadSoFar proposers input new_left new now_bad now_tasks
read_on proposers input left new_left old new line bad now_bad tasks now_tasks so_far out few number_is handed adds = record {
  lines = so_far.lines ++ line.bytes ∷ [];
  handed_out = HasHandedOut-line input left new_left so_far.lines old new line.bytes so_far.handed_out out (omega (arith, few, so_far.counted));
  counted = omega (arith, handed, number_is, so_far.counted, length-append so_far.lines (line.bytes ∷ []));
  parted = adds so_far.lines (omega (arith, number_is, so_far.counted)) so_far.parted;
}

pub read_whole : (proposers : ℕ) (input left : Option (List ℕ)) (reader : LinesState) (bad : List ℕ) (tasks : List (List Task)) → IsSheetReadSoFar proposers input left reader bad tasks → IsAtEnd (ahead reader left)
    → (lines : List (List ℕ)) × AreAllLines input lines × AreParted proposers lines bad tasks
read_whole proposers None left reader bad tasks so_far end = (so_far.lines, tt, so_far.parted)
read_whole proposers (Some bytes) left reader bad tasks so_far end = (so_far.lines, (HasHandedOut-end (Some bytes) left so_far.lines reader so_far.handed_out end).1, so_far.parted)

pub read_ends : (proposers : ℕ) (input left : Option (List ℕ)) (reader : LinesState) (bad : List ℕ) (tasks : List (List Task)) → IsSheetReadSoFar proposers input left reader bad tasks → IsAtEnd (ahead reader left)
    → IfSome input (λ bytes. ending_of bytes ≡ Whole)
read_ends proposers None left reader bad tasks so_far end = tt
read_ends proposers (Some bytes) left reader bad tasks so_far end = (HasHandedOut-end (Some bytes) left so_far.lines reader so_far.handed_out end).0

pub read_too_many : (proposers : ℕ) (input left : Option (List ℕ)) (reader : LinesState) (bad : List ℕ) (tasks : List (List Task)) → IsSheetReadSoFar proposers input left reader bad tasks → (reader.handed ≡ MOST_LINES) × HasMore reader left
    → IfSome input (λ bytes. ending_of bytes ≡ TooMany)
read_too_many proposers input left reader bad tasks so_far full = HasHandedOut-too_many input left so_far.lines reader so_far.handed_out (omega (arith, so_far.counted, full.0)) full.1

pub read_endless : (proposers : ℕ) (input left : Option (List ℕ)) (reader : LinesState) (number : ℕ) (bad : List ℕ) (tasks : List (List Task)) → IsSheetReadSoFar proposers input left reader bad tasks
    → (number ≡ reader.handed + 1) × (reader.handed < MOST_LINES) × IsLongLine reader left → IfSome input (λ bytes. ending_of bytes ≡ TooLong number)
read_endless proposers input left reader number bad tasks so_far long =
    HasHandedOut-endless input left so_far.lines reader number so_far.handed_out (omega (arith, long.1, so_far.counted)) long.2 (omega (arith, long.0, so_far.counted))
