-- Whom the lines of a race ask for what is an operator's.
use Rattle.std.proofs.Common.{◌≡◌, ℕ, ◌==◌, Bool, if◌then◌else◌, List, [], ◌∷◌, Option, Some, None, inl, inr, refl, sym, subst}
use Rattle.std.specs.Prelude.{All, Result, Ok, Err, option_map}
use Rattle.std.proofs.lemmas.List.Elements.{All-nil, All-cons}
use Rattle.cas_base.proofs.Bools.{true_or_false}
use Rattle.cas_change_text.specs.declared.refusal.TextRefusal.{TextRefusal}
use Rattle.cas_model.proofs.Places.{some_is}
use Rattle.cas_record.proofs.Tests.{nat_same}
use Rattle.cas_lines.specs.Command.{AskedChange, change_of}
use Rattle.cas_lines.specs.declared.command.Command.{Command}
use Rattle.cas_lines.specs.declared.command.Command.TheVariants.{Join, Leave, Resize, Collect, Probe, Read}
use Rattle.casreg_tasks.specs.Tasks.{race_line_in, task_of, asked_in, onto_tasks, tasks_of}
use Rattle.casreg_tasks.specs.declared.tasks.Task.{Task}
use Rattle.casreg_tasks.specs.declared.tasks.Task.TheVariants as task
use Rattle.casreg_race.specs.Runs.{IsMeantFor}

abbrev IsMeant : ℕ × Task → Type 0
IsMeant asked = IsMeantFor asked.0 asked.1

of_change : (o : Option AskedChange) (asked : ℕ × Task) → option_map (λ (a : AskedChange). (a.caller, task.Change a.key a.program)) o ≡ Some asked → IsMeant asked
of_change None asked is = absurd (cc is)
of_change (Some a) asked is = subst IsMeant (some_is is) tt

of_command : (command : Command) (asked : ℕ × Task) → task_of command ≡ Some asked → IsMeant asked
of_command (Join id) asked is = subst IsMeant (some_is is) refl
of_command (Leave id) asked is = subst IsMeant (some_is is) refl
of_command (Resize need_prep need_acc) asked is = subst IsMeant (some_is is) refl
of_command (Collect key) asked is = subst IsMeant (some_is is) refl
of_command (Probe key) asked is = subst IsMeant (some_is is) refl
of_command (Read key) asked is = subst IsMeant (some_is is) refl
of_command command asked is = of_change (change_of command) asked is

of_line : (said : Result (Option Command) TextRefusal) (asked : ℕ × Task) → asked_in said ≡ Some asked → IsMeant asked
of_line (Ok None) asked is = absurd (cc is)
of_line (Ok (Some command)) asked is = of_command command asked is
of_line (Err refusal) asked is = absurd (cc is)

onto : (n : ℕ) (o : Option (ℕ × Task)) (later : List Task) → ((asked : ℕ × Task) → o ≡ Some asked → IsMeant asked) → All (IsMeantFor n) later → All (IsMeantFor n) (onto_tasks n o later)
onto n None later each all = all
onto n (Some asked) later each all = elim (true_or_false (asked.0 == n)) [
  | inl same ↦ subst (λ (t : Bool). All (IsMeantFor n) (if t then asked.1 ∷ later else later)) (sym same)
      (All-cons (IsMeantFor n) asked.1 later (subst (λ (k : ℕ). IsMeantFor k asked.1) (nat_same same) (each asked refl)) all)
  | inr other ↦ subst (λ (t : Bool). All (IsMeantFor n) (if t then asked.1 ∷ later else later)) (sym other) all
]

-- the operator's tasks are caller 0's
pub all_meant : (proposers n : ℕ) (lines : List (List ℕ)) → All (IsMeantFor n) (tasks_of proposers n lines)
all_meant proposers n [] = All-nil (IsMeantFor n)
all_meant proposers n (line ∷ later) = onto n (asked_in (race_line_in proposers line)) (tasks_of proposers n later) (of_line (race_line_in proposers line)) (all_meant proposers n later)
