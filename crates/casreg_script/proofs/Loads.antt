-- A load so far, and one line more of it.
use Rattle.std.proofs.Common.{◌≡◌, ◌+◌, ◌%◌, ◌^◌, ℕ, Bool, true, false, nat_lt, nat_eq, List, [], ◌∷◌, ◌++◌, length, refl, sym, ap, subst, ◌∙◌}
use Rattle.std.specs.Prelude.{if◌then◌else◌, pos, Option, Some}
use Rattle.std.specs.Option.{option_map_or}
use Rattle.cas_lines.specs.Command.{AskedChange, change_of}
use Rattle.std.proofs.lemmas.List.{length-append}
use Rattle.rand_pcg.specs.Lcg.{Lcg}
use Rattle.cas_fate.specs.Seeded.{generator_of_seed}
use Rattle.cas_fate.specs.declared.generator.Drawn.{Drawn}
use Rattle.cas_lines.specs.declared.command.Command.{Command}
use Rattle.cas_lines.specs.declared.command.Command.TheVariants.{Add, Get, Set, Del, Num}
use Rattle.cas_lines.specs.Summary.{summary_of}
use Rattle.cas_lines.specs.declared.summary.Summary.{Summary}
use Rattle.cas_record.specs.declared.answer.Answer.{Answer}
use Rattle.cas_model.specs.View.{Meaning, View}
use Rattle.casreg_script.specs.Frames.Conditions.{NetworkView, Drawn as DrawnBy}
use Rattle.casreg_script.specs.Load as load_specs
use Rattle.casreg_script.specs.Load.{LoadRun, AnswersDrawn, StopsBehind, CollectsBehind, RunsDrawn, SumsUp, LoadBreaksOff, before_line, before_collection, load_opening, key_of, text_of, command_of}
use Rattle.casreg_script.specs.Frames.Network.{IsNetwork, Through}
use Rattle.casreg_script.specs.declared.load.Load.{Load}
use Rattle.casreg_script.specs.declared.network.Network.{Network}
use Rattle.casreg_script.proofs.Calls.Keeping.{KeepsCallers, crashes_keep, restarts_keep, stays_quiet}

-- ---- stops
callers_join : {S V : Type 0} (old mid new : View S V) → KeepsCallers old mid → KeepsCallers mid new → KeepsCallers old new
callers_join old mid new before after = record {
  last_proposer = after.last_proposer ∙ before.last_proposer;
  callers = after.callers ∙ before.callers;
  council = λ rest. after.council (stays_quiet (before.council rest) rest) ∙ before.council rest;
}

pub stops_keep : {S V : Type 0} (m : Meaning S V) (load : Load) (line : ℕ) (old new : View S V) → StopsBehind m load line old new → KeepsCallers old new
stops_keep m load line old new (load_specs.none other) = record { last_proposer = refl; callers = refl; council = λ rest. refl }
stops_keep m load line old new (load_specs.stops {down = down} at crashes restarts) = callers_join old down new (crashes_keep m old down _ _ crashes) (restarts_keep m down new _ _ restarts)

-- ---- so far
-- lines were run up to that number, and their answers are counted
pub record RunsSoFar {S V : Type 0} (m : Meaning S V) (load : Load) (first : View S V) (network : Network) (lines : Lcg) (summary : Summary) (line : ℕ) (world : View S V) : Type 0 where
  pub answers : List Answer
  pub view : NetworkView
  pub is : IsNetwork network view
  pub run : LoadRun m load (load_opening load first) answers (record { world = world; network = view; lines = lines })
  pub many : length answers ≡ line
  pub counted : summary ≡ summary_of answers

pub none_yet : {S V : Type 0} (m : Meaning S V) (load : Load) (first : View S V) (network : Network) (lines : Lcg) (summary : Summary) → IsNetwork network (DrawnBy (generator_of_seed ((load.seed + 1) % 2 ^ 64))) → lines ≡ generator_of_seed load.seed → summary ≡ summary_of []
    → RunsSoFar m load first network lines summary 0 first
none_yet m load first network lines summary is begins counted = record {
  answers = [];
  view = DrawnBy (generator_of_seed ((load.seed + 1) % 2 ^ 64));
  is = is;
  run = subst (λ (g : Lcg). LoadRun m load (load_opening load first) [] (record { world = first; network = DrawnBy (generator_of_seed ((load.seed + 1) % 2 ^ 64)); lines = g })) (sym begins) load_specs.none;
  many = refl;
  counted = counted;
}

module _ {S V : Type 0} (m : Meaning S V) (load : Load) (first world mid stopped new : View S V) (network between next : Network) (lines then_ : Lcg) (summary after : Summary) (line : ℕ) (answer : Answer) where
  -- one line more
  pub one_line : RunsSoFar m load first network lines summary line world
      → Through network between (λ by view. AnswersDrawn m load line (record { world = world; network = by; lines = lines }) answer (record { world = mid; network = view; lines = then_ }))
      → StopsBehind m load line mid stopped → Through between next (λ by view. CollectsBehind m load line by stopped view new)
      → ((answers : List Answer) → summary ≡ summary_of answers → after ≡ summary_of (answers ++ answer ∷ [])) → RunsSoFar m load first next then_ after (line + 1) new
  one_line so answers stops collects counts =
      let answered = answers so.view so.is in
      let collected = collects answered.view answered.is in
      let runs : RunsDrawn m load line (record { world = world; network = so.view; lines = lines }) answer (record { world = new; network = collected.view; lines = then_ }) = record {
        answered = record { world = mid; network = answered.view; lines = then_ };
        answers = answered.has;
        stopped = stopped;
        stops = stops;
        collects = collected.has;
        lines = refl;
      } in
      record {
        answers = so.answers ++ answer ∷ [];
        view = collected.view;
        is = collected.is;
        run = load_specs.one_more answer so.run (subst (λ (n : ℕ). RunsDrawn m load n (record { world = world; network = so.view; lines = lines }) answer (record { world = new; network = collected.view; lines = then_ })) (sym so.many) runs);
        many = length-append so.answers (answer ∷ []) ∙ ap (λ (n : ℕ). n + 1) so.many;
        counted = counts so.answers so.counted;
      }

-- no memory was found before a line
pub no_line : {S V : Type 0} (m : Meaning S V) (load : Load) (first world new : View S V) (network : Network) (lines : Lcg) (summary : Summary) (line : ℕ) → RunsSoFar m load first network lines summary line world → new ≡ world → LoadBreaksOff m load first new
no_line m load first world new network lines summary line so same = before_line so.run (sym same)

-- or for the collection behind it
pub no_collection : {S V : Type 0} (m : Meaning S V) (load : Load) (first world mid stopped new : View S V) (network between : Network) (lines then_ : Lcg) (summary : Summary) (line : ℕ) (answer : Answer) → RunsSoFar m load first network lines summary line world
    → Through network between (λ by view. AnswersDrawn m load line (record { world = world; network = by; lines = lines }) answer (record { world = mid; network = view; lines = then_ }))
    → StopsBehind m load line mid stopped → new ≡ stopped → line % 100 ≡ 99 → LoadBreaksOff m load first new
no_collection m load first world mid stopped new network between lines then_ summary line answer so answers stops same due =
    let answered = answers so.view so.is in
    before_collection so.run
    (subst (λ (n : ℕ). AnswersDrawn m load n (record { world = world; network = so.view; lines = lines }) answer (record { world = mid; network = answered.view; lines = then_ })) (sym so.many) answered.has)
    (subst (λ (n : ℕ). StopsBehind m load n mid new) (sym so.many) (subst (StopsBehind m load line mid) (sym same) stops)) (ap (λ (n : ℕ). n % 100) so.many ∙ due)

-- all lines were run
pub all_lines : {S V : Type 0} (m : Meaning S V) (load : Load) (first world : View S V) (network : Network) (lines : Lcg) (summary : Summary) (line : ℕ) → RunsSoFar m load first network lines summary line world → line ≡ load.lines → SumsUp m load first summary world
all_lines m load first world network lines summary line so all = record { answers = so.answers; last = record { world = world; network = so.view; lines = lines }; run = so.run; all = so.many ∙ all; counted = so.counted; ends = refl }

-- ---- its lines
-- the command by the tests of its kind
abbrev choose : Bool → Bool → Bool → Bool → ℕ → Drawn → Command
choose low middle seven eight line drawn =
    if low then Add drawn.caller (key_of drawn.key) (pos 1)
    else (if middle then Get drawn.caller (key_of drawn.key)
    else (if seven then Set drawn.caller (key_of drawn.key) (text_of line)
    else (if eight then Del drawn.caller (key_of drawn.key)
    else Num drawn.caller (key_of drawn.key) (pos line))))

-- the change that a drawn line asks for is its caller's
asks_by : (low middle seven eight : Bool) (line : ℕ) (drawn : Drawn) (asked : AskedChange) → change_of (choose low middle seven eight line drawn) ≡ Some asked → asked.caller ≡ drawn.caller
asks_by true middle seven eight line drawn asked is = sym (ap (λ (o : Option AskedChange). option_map_or (λ (a : AskedChange). a.caller) o drawn.caller) is)
asks_by false true seven eight line drawn asked is = sym (ap (λ (o : Option AskedChange). option_map_or (λ (a : AskedChange). a.caller) o drawn.caller) is)
asks_by false false true eight line drawn asked is = sym (ap (λ (o : Option AskedChange). option_map_or (λ (a : AskedChange). a.caller) o drawn.caller) is)
asks_by false false false true line drawn asked is = sym (ap (λ (o : Option AskedChange). option_map_or (λ (a : AskedChange). a.caller) o drawn.caller) is)
asks_by false false false false line drawn asked is = sym (ap (λ (o : Option AskedChange). option_map_or (λ (a : AskedChange). a.caller) o drawn.caller) is)

pub asks_for : (line : ℕ) (drawn : Drawn) (asked : AskedChange) → change_of (command_of line drawn) ≡ Some asked → asked.caller ≡ drawn.caller
asks_for line drawn asked is = asks_by (nat_lt drawn.kind 5) (nat_lt drawn.kind 7) (nat_eq drawn.kind 7) (nat_eq drawn.kind 8) line drawn asked is
