-- The options of a script, of a race, of a load and of an audit, where clap takes the words.
use Rattle.std.proofs.Common.{◌≡◌, ℕ, Bool, true, false, cond, List, [], Option, Some, None, is_some, refl, sym, ap, subst, inl, inr, codes, find}
use Rattle.std.specs.Prelude.{◌⊎◌, option_map, slice_get, unwrap_or}
use Rattle.clap.specs.declared.builder.value_parser.ValueParser.TheVariants.{Unsigned}
use Rattle.clap.proofs.ValueTestLemmas.{accepts-Accepts}
use Rattle.clap.proofs.OnLiterals.{clap_on_literals}
use Rattle.clap.specs.Simple.{Shape, new_shape, built, entered, names_of, subcommand_of, rows_at}
use Rattle.clap.specs.Walk.{Rule, Row, Text, Waiting, walk, walk_from, nothing_held, settled, finished, with_default, default_rows, reading_by, has_row, answers_to, subcommand_met, arg_by_index}
use Rattle.clap.specs.Walk.Waiting.{idle, option, positional}
use Rattle.clap.specs.Faults.{level_fault, entered_fault, walk_fault, settle_fault, defaults_fault, check_fault}
use Rattle.casreg_command.specs.Words.{casreg, command_line, faults_of, HasOptions, HasMarks, HasDrawing, HasCommand}
use Rattle.casreg_command.proofs.Taken.{Each, IsOption, IsKnown, PassesAsOption, IsNamed, by_test, neither, found_each, walk_each, settled_each, default_each, default_there, default_stays, read_passes, reads_first, walk_named}

-- the subcommand as clap builds it, and its rules
abbrev taken : Shape
taken = unwrap_or (slice_get (built casreg).subs 0) (new_shape [])

abbrev rules : List Rule
rules = taken.rules

abbrev no_rule : Rule
no_rule = Rattle.clap.specs.Simple.help_rule

abbrev acceptors : Rule
acceptors = unwrap_or (slice_get rules 0) no_rule

abbrev proposers : Rule
proposers = unwrap_or (slice_get rules 1) no_rule

abbrev tries : Rule
tries = unwrap_or (slice_get rules 2) no_rule

abbrev marks : Rule
marks = unwrap_or (slice_get rules 3) no_rule

abbrev help : Rule
help = unwrap_or (slice_get rules 4) no_rule

is_acceptors : IsOption rules acceptors
unfolding clap_on_literals
is_acceptors = record { own = refl; action = refl; least = refl; most = refl; reading = refl }

is_proposers : IsOption rules proposers
unfolding clap_on_literals
is_proposers = record { own = refl; action = refl; least = refl; most = refl; reading = refl }

is_tries : IsOption rules tries
unfolding clap_on_literals
is_tries = record { own = refl; action = refl; least = refl; most = refl; reading = refl }

is_marks : IsOption rules marks
unfolding clap_on_literals
is_marks = record { own = refl; action = refl; least = refl; most = refl; reading = refl }

known : (test : Rule → Bool) (a : Rule) → find test rules ≡ Some a → IsKnown rules a
unfolding clap_on_literals
known test a is = found_each (IsKnown rules) test rules a (inl is_acceptors, (inl is_proposers, (inl is_tries, (inl is_marks, (inr refl, tt))))) is

no_places : (place : ℕ) → arg_by_index rules place ≡ None
unfolding clap_on_literals
no_places place = refl

-- what has no default stays
default_none : (a : Rule) (rows : List Row) → a.defaults ≡ [] → with_default rows a ≡ rows
default_none a rows is =
    by_test (has_row a.id rows) (λ b. cond b rows (default_rows a.id (reading_by a) a.defaults rows) ≡ rows) (λ on. refl)
    (λ off. ap (λ (vs : List Text). default_rows a.id (reading_by a) vs rows) is)

-- ---- the subcommand
module _ (rows : List Row) (each : Each (PassesAsOption rules) rows) where
  abbrev first : List Row
  first = with_default rows acceptors

  abbrev second : List Row
  second = with_default first proposers

  abbrev third : List Row
  third = with_default second tries

  abbrev fourth : List Row
  fourth = with_default third marks

  all_pass : Each (PassesAsOption rules) fourth
  unfolding clap_on_literals
  all_pass =
      default_each rules marks is_marks (codes "no") refl refl third (default_each rules tries is_tries (codes "1") refl refl second
      (default_each rules proposers is_proposers (codes "1") refl refl first (default_each rules acceptors is_acceptors (codes "3") refl refl rows each)))

  has_acceptors : has_row acceptors.id fourth ≡ true
  unfolding clap_on_literals
  has_acceptors =
      default_stays rules marks (codes "no") refl acceptors.id third (default_stays rules tries (codes "1") refl acceptors.id second
      (default_stays rules proposers (codes "1") refl acceptors.id first (default_there rules acceptors (codes "3") refl rows)))

  has_proposers : has_row proposers.id fourth ≡ true
  unfolding clap_on_literals
  has_proposers = default_stays rules marks (codes "no") refl proposers.id third (default_stays rules tries (codes "1") refl proposers.id second (default_there rules proposers (codes "1") refl first))

  has_tries : has_row tries.id fourth ≡ true
  unfolding clap_on_literals
  has_tries = default_stays rules marks (codes "no") refl tries.id third (default_there rules tries (codes "1") refl second)

  has_marks : has_row marks.id fourth ≡ true
  unfolding clap_on_literals
  has_marks = default_there rules marks (codes "no") refl third

  -- each option has a number within its bounds, and `--marks` a text
  options : HasOptions fourth × HasMarks fourth
  unfolding clap_on_literals
  options =
      let a = read_passes rules acceptors fourth is_acceptors has_acceptors all_pass in
      let p = read_passes rules proposers fourth is_proposers has_proposers all_pass in
      let t = read_passes rules tries fourth is_tries has_tries all_pass in
      let m = reads_first rules marks fourth is_marks has_marks all_pass in (
        (
          (a.0, a.1, accepts-Accepts false (Unsigned 1 9) a.0 a.2),
          (p.0, p.1, accepts-Accepts false (Unsigned 1 16) p.0 p.2),
          (t.0, t.1, accepts-Accepts false (Unsigned 1 64) t.0 t.2),
        ),
        ap is_some m.1,
      )

leaf : (words : List Text) → level_fault taken [] nothing_held words false [] ≡ [] → HasCommand (Some (rows_at taken words))
unfolding clap_on_literals
leaf words none =
    let end = (walk rules [] nothing_held words).held in
    let parts = neither (walk_fault taken [] (walk_from nothing_held) words) _ none in
    let settles = neither (settle_fault rules taken.args_override_self end) _ parts.1 in
    let rows = walk_each rules known taken refl no_places [] words (walk_from nothing_held) parts.0 tt in
    let each = settled_each rules known taken.args_override_self end settles.0 rows in
    let last : with_default (fourth (settled rules end).rows each) help ≡ fourth (settled rules end).rows each = default_none help (fourth (settled rules end).rows each) refl in
    let has = subst (λ (l : List Row). HasOptions l × HasMarks l) (sym last) (options (settled rules end).rows each) in
    inl (inl refl, has.0, has.1)

-- ---- the options of a race, whose rules are those of a script
abbrev racing : Shape
racing = unwrap_or (slice_get (built casreg).subs 1) (new_shape [])

race_leaf : (words : List Text) → level_fault racing [] nothing_held words false [] ≡ [] → HasCommand (Some (rows_at racing words))
unfolding clap_on_literals
race_leaf words none =
    let end = (walk rules [] nothing_held words).held in
    let parts = neither (walk_fault racing [] (walk_from nothing_held) words) _ none in
    let settles = neither (settle_fault rules racing.args_override_self end) _ parts.1 in
    let rows = walk_each rules known racing refl no_places [] words (walk_from nothing_held) parts.0 tt in
    let each = settled_each rules known racing.args_override_self end settles.0 rows in
    let last : with_default (fourth (settled rules end).rows each) help ≡ fourth (settled rules end).rows each = default_none help (fourth (settled rules end).rows each) refl in
    let has = subst (λ (l : List Row). HasOptions l × HasMarks l) (sym last) (options (settled rules end).rows each) in
    inl (inr refl, has.0, has.1)

-- ---- the options of a load
abbrev loading : Shape
loading = unwrap_or (slice_get (built casreg).subs 2) (new_shape [])

abbrev load_rules : List Rule
load_rules = loading.rules

abbrev load_acceptors : Rule
load_acceptors = unwrap_or (slice_get load_rules 0) no_rule

abbrev load_proposers : Rule
load_proposers = unwrap_or (slice_get load_rules 1) no_rule

abbrev load_tries : Rule
load_tries = unwrap_or (slice_get load_rules 2) no_rule

abbrev load_marks : Rule
load_marks = unwrap_or (slice_get load_rules 3) no_rule

abbrev load_seed : Rule
load_seed = unwrap_or (slice_get load_rules 4) no_rule

abbrev load_lines : Rule
load_lines = unwrap_or (slice_get load_rules 5) no_rule

abbrev load_help : Rule
load_help = unwrap_or (slice_get load_rules 6) no_rule

is_load_acceptors : IsOption load_rules load_acceptors
unfolding clap_on_literals
is_load_acceptors = record { own = refl; action = refl; least = refl; most = refl; reading = refl }

is_load_proposers : IsOption load_rules load_proposers
unfolding clap_on_literals
is_load_proposers = record { own = refl; action = refl; least = refl; most = refl; reading = refl }

is_load_tries : IsOption load_rules load_tries
unfolding clap_on_literals
is_load_tries = record { own = refl; action = refl; least = refl; most = refl; reading = refl }

is_load_marks : IsOption load_rules load_marks
unfolding clap_on_literals
is_load_marks = record { own = refl; action = refl; least = refl; most = refl; reading = refl }

is_load_seed : IsOption load_rules load_seed
unfolding clap_on_literals
is_load_seed = record { own = refl; action = refl; least = refl; most = refl; reading = refl }

is_load_lines : IsOption load_rules load_lines
unfolding clap_on_literals
is_load_lines = record { own = refl; action = refl; least = refl; most = refl; reading = refl }

load_known : (test : Rule → Bool) (a : Rule) → find test load_rules ≡ Some a → IsKnown load_rules a
unfolding clap_on_literals
load_known test a is =
    found_each (IsKnown load_rules) test load_rules a
    (inl is_load_acceptors, (inl is_load_proposers, (inl is_load_tries, (inl is_load_marks, (inl is_load_seed, (inl is_load_lines, (inr refl, tt))))))) is

no_load_places : (place : ℕ) → arg_by_index load_rules place ≡ None
unfolding clap_on_literals
no_load_places place = refl

module _ (rows : List Row) (each : Each (PassesAsOption load_rules) rows) where
  abbrev with_one : List Row
  with_one = with_default rows load_acceptors

  abbrev with_two : List Row
  with_two = with_default with_one load_proposers

  abbrev with_three : List Row
  with_three = with_default with_two load_tries

  abbrev with_four : List Row
  with_four = with_default with_three load_marks

  abbrev with_five : List Row
  with_five = with_default with_four load_seed

  abbrev with_six : List Row
  with_six = with_default with_five load_lines

  loads_pass : Each (PassesAsOption load_rules) with_six
  unfolding clap_on_literals
  loads_pass =
      default_each load_rules load_lines is_load_lines (codes "1000") refl refl with_five
      (default_each load_rules load_seed is_load_seed (codes "1") refl refl with_four
      (default_each load_rules load_marks is_load_marks (codes "no") refl refl with_three
      (default_each load_rules load_tries is_load_tries (codes "1") refl refl with_two
      (default_each load_rules load_proposers is_load_proposers (codes "1") refl refl with_one
      (default_each load_rules load_acceptors is_load_acceptors (codes "3") refl refl rows each)))))

  -- what is there behind the tries stays
  stays_there : (wanted : Text) → has_row wanted with_three ≡ true → has_row wanted with_six ≡ true
  unfolding clap_on_literals
  stays_there wanted has =
      default_stays load_rules load_lines (codes "1000") refl wanted with_five (default_stays load_rules load_seed (codes "1") refl wanted with_four
      (default_stays load_rules load_marks (codes "no") refl wanted with_three has))

  load_has_acceptors : has_row load_acceptors.id with_six ≡ true
  unfolding clap_on_literals
  load_has_acceptors =
      stays_there load_acceptors.id
      (default_stays load_rules load_tries (codes "1") refl load_acceptors.id with_two
      (default_stays load_rules load_proposers (codes "1") refl load_acceptors.id with_one (default_there load_rules load_acceptors (codes "3") refl rows)))

  load_has_proposers : has_row load_proposers.id with_six ≡ true
  unfolding clap_on_literals
  load_has_proposers =
      stays_there load_proposers.id
      (default_stays load_rules load_tries (codes "1") refl load_proposers.id with_two (default_there load_rules load_proposers (codes "1") refl with_one))

  load_has_tries : has_row load_tries.id with_six ≡ true
  unfolding clap_on_literals
  load_has_tries = stays_there load_tries.id (default_there load_rules load_tries (codes "1") refl with_two)

  load_has_marks : has_row load_marks.id with_six ≡ true
  unfolding clap_on_literals
  load_has_marks =
      default_stays load_rules load_lines (codes "1000") refl load_marks.id with_five
      (default_stays load_rules load_seed (codes "1") refl load_marks.id with_four (default_there load_rules load_marks (codes "no") refl with_three))

  load_has_seed : has_row load_seed.id with_six ≡ true
  unfolding clap_on_literals
  load_has_seed = default_stays load_rules load_lines (codes "1000") refl load_seed.id with_five (default_there load_rules load_seed (codes "1") refl with_four)

  load_has_lines : has_row load_lines.id with_six ≡ true
  unfolding clap_on_literals
  load_has_lines = default_there load_rules load_lines (codes "1000") refl with_five

  load_options : HasOptions with_six × HasMarks with_six × HasDrawing with_six
  unfolding clap_on_literals
  load_options =
      let a = read_passes load_rules load_acceptors with_six is_load_acceptors load_has_acceptors loads_pass in
      let p = read_passes load_rules load_proposers with_six is_load_proposers load_has_proposers loads_pass in
      let t = read_passes load_rules load_tries with_six is_load_tries load_has_tries loads_pass in
      let m = reads_first load_rules load_marks with_six is_load_marks load_has_marks loads_pass in
      let s = read_passes load_rules load_seed with_six is_load_seed load_has_seed loads_pass in
      let l = read_passes load_rules load_lines with_six is_load_lines load_has_lines loads_pass in (
        (
          (a.0, a.1, accepts-Accepts false (Unsigned 1 9) a.0 a.2),
          (p.0, p.1, accepts-Accepts false (Unsigned 1 16) p.0 p.2),
          (t.0, t.1, accepts-Accepts false (Unsigned 1 64) t.0 t.2),
        ),
        ap is_some m.1,
        ((s.0, s.1, accepts-Accepts false (Unsigned 0 18446744073709551615) s.0 s.2), (l.0, l.1, accepts-Accepts false (Unsigned 0 100000) l.0 l.2)),
      )

load_leaf : (words : List Text) → level_fault loading [] nothing_held words false [] ≡ [] → HasCommand (Some (rows_at loading words))
unfolding clap_on_literals
load_leaf words none =
    let end = (walk load_rules [] nothing_held words).held in
    let parts = neither (walk_fault loading [] (walk_from nothing_held) words) _ none in
    let settles = neither (settle_fault load_rules loading.args_override_self end) _ parts.1 in
    let rows = walk_each load_rules load_known loading refl no_load_places [] words (walk_from nothing_held) parts.0 tt in
    let each = settled_each load_rules load_known loading.args_override_self end settles.0 rows in
    let filled = with_six (settled load_rules end).rows each in
    let last : with_default filled load_help ≡ filled = default_none load_help filled refl in
    let has = subst (λ (l : List Row). HasOptions l × HasMarks l × HasDrawing l) (sym last) (load_options (settled load_rules end).rows each) in
    inr (inl (refl, has.0, has.1, has.2))

-- ---- an audit, which has none
abbrev auditing : Shape
auditing = unwrap_or (slice_get (built casreg).subs 3) (new_shape [])

audit_leaf : (words : List Text) → HasCommand (Some (rows_at auditing words))
unfolding clap_on_literals
audit_leaf words = inr (inr refl)

-- ---- the program
-- the names of its subcommands
abbrev IsCommand : Text → Type 0
IsCommand name = (name ≡ codes "script") ⊎ (name ≡ codes "race") ⊎ (name ≡ codes "load") ⊎ (name ≡ codes "audit")

only : (waiting : Waiting) (word name : Text) → subcommand_met (names_of (built casreg)) waiting word ≡ Some name → IsCommand name ⊎ (name ≡ codes "help")
unfolding clap_on_literals
only idle word name is = go (find (answers_to word) (names_of (built casreg))) refl is
  where
    go : (o : Option (Text × List Text)) → find (answers_to word) (names_of (built casreg)) ≡ o → option_map (λ (n : Text × List Text). n.0) o ≡ Some name
        → IsCommand name ⊎ (name ≡ codes "help")
    go None found e = absurd (cc e)
    go (Some n) found e =
        let one = found_each (λ (n : Text × List Text). IsCommand n.0 ⊎ (n.0 ≡ codes "help")) (answers_to word) (names_of (built casreg)) n (inl (inl refl), (inl (inr (inl refl)), (inl (inr (inr (inl refl))), (inl (inr (inr (inr refl))), (inr refl, tt))))) found in
        let same : n.0 ≡ name = cc e in
        subst (λ (t : Text). IsCommand t ⊎ (t ≡ codes "help")) same one
only (option id) word name is = absurd (cc is)
only positional word name is = absurd (cc is)

-- where a subcommand is wanted, one was met
wanted : (rows : List Row) (has : Bool) → check_fault (built casreg).top rows has ≡ [] → has ≡ true
unfolding clap_on_literals
wanted rows true none = refl
wanted rows false none = absurd (cc none)

met : (stop : Option (Text × List Text)) → IsNamed IsCommand stop → is_some (entered (built casreg) stop) ≡ true → (words : List Text) × ((stop ≡ Some (codes "script", words)) ⊎ (stop ≡ Some (codes "race", words)) ⊎ (stop ≡ Some (codes "load", words)) ⊎ (stop ≡ Some (codes "audit", words)))
met None named is = absurd (cc is)
met (Some p) named is = (
  p.1,
  elim (named p refl) [
    | inl script ↦ inl (ap (λ (n : Text). Some (n, p.1)) script)
    | inr (inl race) ↦ inr (inl (ap (λ (n : Text). Some (n, p.1)) race))
    | inr (inr (inl load)) ↦ inr (inr (inl (ap (λ (n : Text). Some (n, p.1)) load)))
    | inr (inr (inr audit)) ↦ inr (inr (inr (ap (λ (n : Text). Some (n, p.1)) audit)))
  ],
)

-- Where clap finds nothing wrong, a subcommand was met, each of its options has a number within its bounds, and `--marks` a text.
pub has_command : (words : List Text) → faults_of words ≡ [] → HasCommand (subcommand_of casreg (command_line words))
unfolding clap_on_literals
has_command words none =
    let top = (built casreg).top in
    let stop = (walk top.rules (names_of (built casreg)) nothing_held words).stopped in
    let end = (walk top.rules (names_of (built casreg)) nothing_held words).held in
    let has = is_some (entered (built casreg) stop) in
    let walks = neither (walk_fault top (names_of (built casreg)) (walk_from nothing_held) words) _ none in
    let enters = neither (entered_fault (built casreg) stop) _ walks.1 in
    let settles = neither (settle_fault top.rules top.args_override_self end) _ enters.1 in
    let defaults = neither (defaults_fault (settled top.rules end).rows top.rules) _ settles.1 in
    let named = walk_named top (names_of (built casreg)) IsCommand only refl words (walk_from nothing_held) walks.0 (λ p is. absurd (cc is)) in
    let there = met stop named (wanted (finished top.rules end) has defaults.1) in
    elim there.1 [
      | inl script ↦
          let below : level_fault taken [] nothing_held there.0 false [] ≡ [] = subst (λ (o : Option (Text × List Text)). entered_fault (built casreg) o ≡ []) script enters.0 in
          subst (λ (o : Option (Text × List Text)). HasCommand (entered (built casreg) o)) (sym script) (leaf there.0 below)
      | inr (inl race) ↦
          let below : level_fault racing [] nothing_held there.0 false [] ≡ [] = subst (λ (o : Option (Text × List Text)). entered_fault (built casreg) o ≡ []) race enters.0 in
          subst (λ (o : Option (Text × List Text)). HasCommand (entered (built casreg) o)) (sym race) (race_leaf there.0 below)
      | inr (inr (inl load)) ↦
          let below : level_fault loading [] nothing_held there.0 false [] ≡ [] = subst (λ (o : Option (Text × List Text)). entered_fault (built casreg) o ≡ []) load enters.0 in
          subst (λ (o : Option (Text × List Text)). HasCommand (entered (built casreg) o)) (sym load) (load_leaf there.0 below)
      | inr (inr (inr audit)) ↦ subst (λ (o : Option (Text × List Text)). HasCommand (entered (built casreg) o)) (sym audit) (audit_leaf there.0)
    ]
