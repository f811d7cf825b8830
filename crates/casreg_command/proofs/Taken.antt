-- What clap finds of options, where it takes the words: each row is of an option that is known, and its values pass.
use Rattle.std.proofs.Common.{◌≡◌, ◌<◌, ◌++◌, ◌==◌, ◌||◌, ◌&&◌, ℕ, zero, suc, Bool, true, false, cond, not, List, [], ◌∷◌, length, drop, Option, Some, None, is_some, refl, sym, ap, subst, ◌∙◌, inl, inr, arith, find, codes}
use Rattle.std.specs.Prelude.{◌⊎◌, encode_utf8, slice_get, fold, option_map, option_and_then, if◌then◌else◌}
use Rattle.std.specs.List.{list_any}
use Rattle.std.specs.Option.{option_map_or}
use Rattle.std.specs.Str.{bytes_eq, chars}
use Rattle.std.proofs.lemmas.Slice.Eq.{bytes_eq-Decides}
use Rattle.clap.specs.Facts.{parser_of_value, unwrap_or_range}
use Rattle.clap.specs.Lexer.{long_of, short_of}
use Rattle.clap.specs.Values.{read_as, refused_kind}
use borrow.Author.Tests.{eqb-true}
use Rattle.clap.specs.ValueTests.{accepts}
use Rattle.clap.specs.declared.builder.action.ArgAction.{ArgAction}
use Rattle.clap.specs.declared.builder.action.ArgAction.TheVariants.{Set, Help}
use Rattle.clap.specs.declared.builder.value_parser.ValueParser.{ValueParser}
use Rattle.clap.specs.declared.builder.value_parser.Reading.{Reading}
use Rattle.clap.specs.declared.builder.value_parser.Reading.TheVariants.{AsWritten}
use Rattle.clap.specs.declared.parser.matches.ValueSource.{ValueSource}
use Rattle.clap.specs.declared.parser.matches.ValueSource.TheVariants.{DefaultValue, CommandLine}
use Rattle.clap.specs.declared.error.kind.ErrorKind.{ErrorKind}
use Rattle.clap.specs.declared.error.kind.ErrorKind.TheVariants as kind
use Rattle.clap.specs.Kinds.{Kinds, or_else, values_kinds, value_kinds, range_kinds}
use Rattle.clap.specs.Simple.{Shape}
use Rattle.clap.specs.Walk.{Rule, Row, Held, Text, Walk, Waiting, Step, Outcome, Names, action_of, reading_by, arg_by_id, arg_by_long, arg_by_short, arg_by_index, takes_values, at_row, without, more_values, with_values, used, used_as, values_or_missing, most_values, short_or_plain, settled, settled_rows, used_by_id, reacted, option_met, flag_met, long_met, short_met, bundle_met, bundle_step, bundle, attached_value, plain_word, option_word, after_flag, long_or_other, subcommand_or_other, subcommand_met, word_met, after_step, walked, walked_from, to_positional, has_row, with_default, default_rows, row_text, first_of, one_of}
use Rattle.clap.specs.Walk.Outcome.{done, waits, plain, refused}
use Rattle.clap.specs.Walk.Waiting.{idle, option, positional}
use Rattle.clap.specs.Walk.Step.{next, trailing, subcommand, value}
use Rattle.clap.specs.Faults.{action_fault, repeat_fault, values_fault, use_fault, settle_fault, react_fault, option_fault, long_fault, short_fault, bundle_step_fault, flags_fault, bundle_fault, flag_word_fault, other_fault, word_fault, turn_fault, walk_fault, step_fault}

-- ---- tests
pub true_or_false : (b : Bool) → (b ≡ true) ⊎ (b ≡ false)
true_or_false true = inl refl
true_or_false false = inr refl

-- by the outcome of a test
pub by_test : (b : Bool) (P : Bool → Type 0) → (b ≡ true → P true) → (b ≡ false → P false) → P b
by_test true P on off = on refl
by_test false P on off = off refl

pub same_bytes : (a b : Text) → bytes_eq a b ≡ true → a ≡ b
same_bytes a b e = (bytes_eq-Decides a b).0 e

pub bytes_same : (a b : Text) → a ≡ b → bytes_eq a b ≡ true
bytes_same a b e = (bytes_eq-Decides a b).1 e

pub or_left : (a b : Bool) → a ≡ true → (a || b) ≡ true
or_left a b e = rw e refl

pub or_right : (a b : Bool) → b ≡ true → (a || b) ≡ true
or_right true b e = refl
or_right false b e = e

-- ---- kinds
pub neither : (a b : Kinds) → or_else a b ≡ [] → (a ≡ []) × (b ≡ [])
neither [] b none = (refl, none)
neither (k ∷ ks) b none = absurd (cc none)

pub both_none : (a b : Kinds) → a ≡ [] → b ≡ [] → or_else a b ≡ []
both_none [] b e f = f
both_none (k ∷ ks) b e f = absurd (cc e)

pub values_append : (i : Bool) (p : ValueParser) (xs ys : List Text) → values_kinds i p xs ≡ [] → values_kinds i p ys ≡ [] → values_kinds i p (xs ++ ys) ≡ []
values_append i p [] ys a b = b
values_append i p (x ∷ xs) ys a b =
    let parts = neither (value_kinds i p x) (values_kinds i p xs) a in
    both_none (value_kinds i p x) (values_kinds i p (xs ++ ys)) parts.0 (values_append i p xs ys parts.1 b)

pub not_refused : (k : ErrorKind) → (k ∷ []) ≡ [] → ⊥
not_refused k e = absurd (cc e)

-- a value that is not refused is accepted
pub accepted : (i : Bool) (p : ValueParser) (v : Text) → value_kinds i p v ≡ [] → accepts i p v ≡ true
accepted i p v none =
    by_test (accepts i p v) (λ b. cond b [] (refused_kind p ∷ []) ≡ [] → b ≡ true) (λ is e. refl) (λ is e. absurd (not_refused (refused_kind p) e)) none

-- ---- lists
abbrev pub Each : {X : Type 0} → (X → Type 0) → List X → Type 0
Each P [] = Unit {0}
Each P (x ∷ xs) = P x × Each P xs

each_append : {X : Type 0} (P : X → Type 0) (xs ys : List X) → Each P xs → Each P ys → Each P (xs ++ ys)
each_append P [] ys a b = b
each_append P (x ∷ xs) ys a b = (a.0, each_append P xs ys a.1 b)

pub found_each : {X : Type 0} (P : X → Type 0) (test : X → Bool) (xs : List X) (x : X) → Each P xs → find test xs ≡ Some x → P x
found_each P test [] x each is = absurd (cc is)
found_each {X} P test (y ∷ ys) x each is =
    by_test (test y) (λ b. cond b (Some y) (find test ys) ≡ Some x → P x)
    (λ yes e. subst P (let s : y ≡ x = cc e in s) each.0)
    (λ other e. found_each P test ys x each.1 e) is

pub found_passes : {X : Type 0} (test : X → Bool) (xs : List X) → list_any test xs ≡ true → (x : X) × (find test xs ≡ Some x) × (test x ≡ true)
found_passes test [] any = absurd (cc any)
found_passes {X} test (y ∷ ys) any =
    by_test (test y) (λ b. (b || list_any test ys) ≡ true → (x : X) × (cond b (Some y) (find test ys) ≡ Some x) × (test x ≡ true))
    (λ is e. (y, refl, is))
    (λ other e. found_passes test ys e) any

-- ---- rows that change
at_row_each : (P : Row → Type 0) (id : Text) (change : Row → List Row) (missing rows : List Row) → ((r : Row) → bytes_eq r.id id ≡ true → P r → Each P (change r)) → Each P missing → Each P rows → Each P (at_row id change missing rows)
at_row_each P id change missing [] changes more each = more
at_row_each P id change missing (r ∷ rs) changes more each =
    by_test (bytes_eq r.id id) (λ b. Each P (cond b (change r ++ rs) (r ∷ at_row id change missing rs)))
    (λ is. each_append P (change r) rs (changes r is each.0) each.1)
    (λ other. (each.0, at_row_each P id change missing rs changes more each.1))

-- a row of that id is there then
row_there : (id : Text) (s : ValueSource) (values : List Text) (new : Row) (rows : List Row) → new.id ≡ id → has_row id (at_row id (more_values s values) (new ∷ []) rows) ≡ true
row_there id s values new [] same = or_left (bytes_eq new.id id) false (bytes_same new.id id same)
row_there id s values new (r ∷ rs) same =
    by_test (bytes_eq r.id id) (λ b. has_row id (cond b (more_values s values r ++ rs) (r ∷ at_row id (more_values s values) (new ∷ []) rs)) ≡ true)
    (λ is. or_left (bytes_eq r.id id) (has_row id rs) is)
    (λ other. or_right (bytes_eq r.id id) _ (row_there id s values new rs same))

row_stays : (wanted id : Text) (s : ValueSource) (values : List Text) (new : Row) (rows : List Row) → has_row wanted rows ≡ true → has_row wanted (at_row id (more_values s values) (new ∷ []) rows) ≡ true
row_stays wanted id s values new [] has = absurd (cc has)
row_stays wanted id s values new (r ∷ rs) has =
    by_test (bytes_eq r.id id) (λ b. has_row wanted (cond b (more_values s values r ++ rs) (r ∷ at_row id (more_values s values) (new ∷ []) rs)) ≡ true)
    (λ is. has)
    (λ other. by_test (bytes_eq r.id wanted) (λ b. (b || has_row wanted rs) ≡ true → (b || has_row wanted (at_row id (more_values s values) (new ∷ []) rs)) ≡ true) (λ here e. refl)
    (λ there e. row_stays wanted id s values new rs e) has)

-- ---- options
-- the rule is that of its identity, of an option that takes one value, which is read as it is written
pub record IsOption (c : List Rule) (a : Rule) : Type 0 where
  pub own : arg_by_id c a.id ≡ Some a
  pub action : action_of a ≡ Set
  pub least : (unwrap_or_range a.range).start_inclusive ≡ 1
  pub most : (unwrap_or_range a.range).end_inclusive ≡ 1
  pub reading : reading_by a ≡ AsWritten

-- an option, or a request for help
abbrev pub IsKnown : List Rule → Rule → Type 0
IsKnown c a = IsOption c a ⊎ (action_of a ≡ Help)

-- the row is of an option, and its values pass
pub record PassesAsOption (c : List Rule) (r : Row) : Type 0 where
  pub rule : Rule
  pub known : IsOption c rule
  pub id : r.id ≡ rule.id
  pub values : values_fault rule r.values ≡ []
  pub some : 0 < length r.values
  pub reading : r.reading ≡ AsWritten

-- one rule has that identity
one_rule : (c : List Rule) (a b : Rule) → IsOption c a → IsOption c b → a.id ≡ b.id → a ≡ b
one_rule c a b x y same =
    let e : Some a ≡ Some b = sym x.own ∙ (ap (arg_by_id c) same ∙ y.own) in
    cc e

longer : {X : Type 0} (xs ys : List X) → 0 < length xs → 0 < length (xs ++ ys)
longer [] ys lt = absurd (omega (arith, lt))
longer (x ∷ xs) ys lt = omega arith

pub with_values_each : (c : List Rule) (a : Rule) (s : ValueSource) (vs : List Text) (rows : List Row) → IsOption c a → values_fault a vs ≡ [] → 0 < length vs → Each (PassesAsOption c) rows → Each (PassesAsOption c) (with_values a.id (reading_by a) s vs rows)
with_values_each c a s vs rows known pass some each =
    at_row_each (PassesAsOption c) a.id (more_values s vs) _ rows
    (λ r is passed. (
      record {
        rule = passed.rule;
        known = passed.known;
        id = passed.id;
        values = values_append passed.rule.ignore_case (parser_of_value passed.rule.parser) r.values vs passed.values
            (subst (λ (x : Rule). values_fault x vs ≡ []) (one_rule c a passed.rule known passed.known (sym (same_bytes r.id a.id is) ∙ passed.id)) pass);
        some = longer r.values vs passed.some;
        reading = passed.reading;
      },
      tt,
    ))
    (record { rule = a; known = known; id = refl; values = pass; some = some; reading = known.reading }, tt)
    each

without_each : (c : List Rule) (id : Text) (rows : List Row) → Each (PassesAsOption c) rows → Each (PassesAsOption c) (without id rows)
without_each c id rows each = at_row_each (PassesAsOption c) id (λ r. []) [] rows (λ r is passed. tt) tt each

-- ---- a use of an option
one_value : (least most n : ℕ) → least ≡ 1 → most ≡ 1 → range_kinds least most n ≡ [] → n ≡ 1
one_value least most n a b none = go (rw (a, b) at none)
  where
    go : range_kinds 1 1 n ≡ [] → n ≡ 1
    go e =
        by_test (n == 0) (λ b. cond b (kind.InvalidValue ∷ []) (cond (1 == n) [] (kind.WrongNumberOfValues ∷ [])) ≡ [] → n ≡ 1)
        (λ is e. absurd (not_refused kind.InvalidValue e))
        (λ is e. by_test (1 == n) (λ b. (1 == n) ≡ b → cond b [] (kind.WrongNumberOfValues ∷ []) ≡ [] → n ≡ 1) (λ on same e. sym (eqb-true 1 n same)) (λ off same e. absurd (not_refused kind.WrongNumberOfValues e)) refl e) e

alone : {X : Type 0} (xs : List X) → length xs ≡ 1 → (x : X) × (xs ≡ x ∷ [])
alone [] e = absurd (cc e)
alone (x ∷ []) e = (x, refl)
alone (x ∷ y ∷ xs) e = absurd (omega (arith, e))

module _ (c : List Rule) where
  -- a use of an option
  set_each : (again : Bool) (a : Rule) (v : Text) (rows : List Row) → IsOption c a → action_fault Set again a (v ∷ []) rows ≡ [] → Each (PassesAsOption c) rows → Each (PassesAsOption c) (used_as Set a.id (reading_by a) (v ∷ []) rows)
  set_each again a v rows known none each =
      with_values_each c a CommandLine (v ∷ []) (without a.id rows) known ((neither (repeat_fault again a.id rows) (values_fault a (v ∷ [])) none).1) (let e : 0 < 1 = omega arith in e) (without_each c a.id rows each)

  used_each : (again : Bool) (a : Rule) (values : List Text) (rows : List Row) → IsKnown c a → use_fault again a values rows ≡ [] → Each (PassesAsOption c) rows
      → Each (PassesAsOption c) (used a values rows)
  used_each again a values rows (inr help) none each =
      subst (λ (x : ArgAction). Each (PassesAsOption c) (used_as x a.id (reading_by a) (values_or_missing a values) rows)) (sym help) each
  used_each again a values rows (inl known) none each =
      let parts = neither (range_kinds (unwrap_or_range a.range).start_inclusive (most_values a) (length values)) (action_fault (action_of a) again a (values_or_missing a values) rows) none in
      let one = alone values (one_value (unwrap_or_range a.range).start_inclusive (most_values a) (length values) known.least known.most parts.0) in
      let same : values_or_missing a values ≡ one.0 ∷ [] = ap (values_or_missing a) one.1 in
      subst (λ (x : ArgAction). Each (PassesAsOption c) (used_as x a.id (reading_by a) (values_or_missing a values) rows)) (sym known.action)
      (subst (λ (vs : List Text). Each (PassesAsOption c) (used_as Set a.id (reading_by a) vs rows)) (sym same)
      (set_each again a one.0 rows known (subst (λ (x : ArgAction). action_fault x again a (one.0 ∷ []) rows ≡ []) known.action (subst (λ (vs : List Text). action_fault (action_of a) again a vs rows ≡ []) same parts.1)) each))

module _ (c : List Rule) (rules : (test : Rule → Bool) (a : Rule) → find test c ≡ Some a → IsKnown c a) where
  used_found : (again : Bool) (o : Option Rule) (values : List Text) (rows : List Row) → ((a : Rule) → o ≡ Some a → IsKnown c a) → option_map_or (λ (a : Rule). use_fault again a values rows) o [] ≡ [] → Each (PassesAsOption c) rows
      → Each (PassesAsOption c) (used_by_id o values rows)
  used_found again None values rows known none each = each
  used_found again (Some a) values rows known none each = used_each c again a values rows (known a refl) none each

  settled_rows_each : (again : Bool) (pending : Option (Text × List Text)) (rows : List Row) → option_map_or (λ (p : Text × List Text). option_map_or (λ (a : Rule). use_fault again a p.1 rows) (arg_by_id c p.0) []) pending [] ≡ []
      → Each (PassesAsOption c) rows → Each (PassesAsOption c) (settled_rows c pending rows)
  settled_rows_each again None rows none each = each
  settled_rows_each again (Some p) rows none each = used_found again (arg_by_id c p.0) p.1 rows (λ a is. rules (λ a. bytes_eq a.id p.0) a is) none each

  pub settled_each : (again : Bool) (h : Held) → settle_fault c again h ≡ [] → Each (PassesAsOption c) h.rows → Each (PassesAsOption c) (settled c h).rows
  settled_each again h none each = settled_rows_each again h.pending h.rows none each

  reacted_each : (again : Bool) (a : Rule) (values : List Text) (h : Held) → IsKnown c a → react_fault c again a values h ≡ [] → Each (PassesAsOption c) h.rows
      → Each (PassesAsOption c) (reacted c a values h).rows
  reacted_each again a values h known none each =
      let parts = neither (settle_fault c again h) (use_fault again a values (settled c h).rows) none in
      used_each c again a values (settled c h).rows known parts.1 (settled_each again h parts.0 each)

  option_met_each : (again : Bool) (a : Rule) (v : Option Text) (h : Held) → IsKnown c a → option_fault c again a v h ≡ [] → Each (PassesAsOption c) h.rows
      → Each (PassesAsOption c) (option_met c a v h).0.rows
  option_met_each again a (Some v) h known none each = reacted_each again a (v ∷ []) h known none each
  option_met_each again a None h known none each = settled_each again h none each

  flag_met_each : (again : Bool) (a : Rule) (v : Option Text) (h : Held) → IsKnown c a → (if is_some v then kind.TooManyValues ∷ [] else react_fault c again a [] h) ≡ [] → Each (PassesAsOption c) h.rows → Each (PassesAsOption c) (flag_met c a v h).0.rows
  flag_met_each again a (Some v) h known none each = each
  flag_met_each again a None h known none each = reacted_each again a [] h known none each

  long_met_each : (again : Bool) (o : Option Rule) (v : Option Text) (h : Held) → ((a : Rule) → o ≡ Some a → IsKnown c a) → long_fault c again o v h ≡ [] → Each (PassesAsOption c) h.rows → Each (PassesAsOption c) (long_met c o v h).0.rows
  long_met_each again None v h known none each = each
  long_met_each again (Some a) v h known none each =
      by_test (takes_values a) (λ b. cond b (option_fault c again a v h) (if is_some v then kind.TooManyValues ∷ [] else react_fault c again a [] h) ≡ [] → Each (PassesAsOption c) (cond b (option_met c a v h) (flag_met c a v h)).0.rows)
      (λ yes e. option_met_each again a v h (known a refl) e each)
      (λ other e. flag_met_each again a v h (known a refl) e each) none

  -- ---- bundles of short flags
  abbrev Reads : Bool → (Text → ℕ → Outcome → Held → Held × Outcome) → (Text → ℕ → Held → Kinds) → Type 0
  Reads again met fault = (flags : Text) (skip : ℕ) (so_far : Outcome) (h : Held) → fault flags skip h ≡ [] → Each (PassesAsOption c) h.rows → Each (PassesAsOption c) (met flags skip so_far h).0.rows

  short_met_each : (again : Bool) (o : Option Rule) (rest : Text) (h : Held) (met : Held → Held × Outcome) (fault : Held → Kinds) → ((a : Rule) → o ≡ Some a → IsKnown c a)
      → ((h : Held) → fault h ≡ [] → Each (PassesAsOption c) h.rows → Each (PassesAsOption c) (met h).0.rows) → short_fault c again o rest h fault ≡ [] → Each (PassesAsOption c) h.rows → Each (PassesAsOption c) (short_met c o rest h met).0.rows
  short_met_each again None rest h met fault known reads none each = each
  short_met_each again (Some a) rest h met fault known reads none each =
      by_test (takes_values a) (λ b. cond b (option_fault c again a (attached_value rest) h) (or_else (react_fault c again a [] h) (fault (reacted c a [] h))) ≡ [] → Each (PassesAsOption c) (cond b (option_met c a (attached_value rest) h) (met (reacted c a [] h))).0.rows)
      (λ yes e. option_met_each again a (attached_value rest) h (known a refl) e each)
      (λ other e. let parts = neither (react_fault c again a [] h) (fault (reacted c a [] h)) e in reads (reacted c a [] h) parts.1 (reacted_each again a [] h (known a refl) parts.0 each)) none

  bundle_step_each : (again : Bool) (o : Option ℕ) (flags : Text) (skip : ℕ) (so_far : Outcome) (h : Held) (met : Text → ℕ → Outcome → Held → Held × Outcome) (fault : Text → ℕ → Held → Kinds) → Reads again met fault
      → bundle_step_fault c again o flags skip h fault ≡ [] → Each (PassesAsOption c) h.rows → Each (PassesAsOption c) (bundle_step c o flags skip so_far h met).0.rows
  bundle_step_each again None flags skip so_far h met fault reads none each = each
  bundle_step_each again (Some x) flags zero so_far h met fault reads none each =
      let rest = drop (length (encode_utf8 x)) flags in
      short_met_each again (arg_by_short c x) rest h (met rest 0 done) (fault rest 0) (λ a is. rules _ a is) (λ h e passed. reads rest 0 done h e passed) none each
  bundle_step_each again (Some x) flags (suc skip) so_far h met fault reads none each = reads (drop (length (encode_utf8 x)) flags) skip so_far h none each

  bundle_met_each : (again : Bool) (k : ℕ) → Reads again (bundle_met c k) (flags_fault c again k)
  unfolding bundle_met flags_fault
  bundle_met_each again zero flags skip so_far h none each = each
  bundle_met_each again (suc k) flags skip so_far h none each =
      bundle_step_each again (slice_get (chars flags) 0) flags skip so_far h (bundle_met c k) (flags_fault c again k) (bundle_met_each again k) none each

  -- ---- words
  plain_word_rows : (waiting : Waiting) (word : Text) (h : Held) → (plain_word c waiting word h).0.rows ≡ h.rows
  plain_word_rows idle word h = refl
  plain_word_rows positional word h = refl
  plain_word_rows (option id) word h = go (arg_by_id c id)
    where
      go : (o : Option Rule) → (option_word o id word h).0.rows ≡ h.rows
      go None = refl
      go (Some a) = refl

  after_flag_each : (waiting : Waiting) (word : Text) (h : Held) (o : Outcome) → Each (PassesAsOption c) h.rows → Each (PassesAsOption c) (after_flag c waiting word h o).0.rows
  after_flag_each waiting word h done each = each
  after_flag_each waiting word h (waits id) each = each
  after_flag_each waiting word h plain each = subst (Each (PassesAsOption c)) (sym (plain_word_rows waiting word h)) each
  after_flag_each waiting word h refused each = subst (Each (PassesAsOption c)) (sym (plain_word_rows waiting word h)) each

  short_or_plain_each : (again : Bool) (waiting : Waiting) (word : Text) (o : Option Text) (h : Held) → option_map_or (λ (flags : Text). bundle_fault c again flags h) o [] ≡ [] → Each (PassesAsOption c) h.rows → Each (PassesAsOption c) (short_or_plain c waiting word o h).0.rows
  short_or_plain_each again waiting word None h none each = subst (Each (PassesAsOption c)) (sym (plain_word_rows waiting word h)) each
  short_or_plain_each again waiting word (Some flags) h none each =
      after_flag_each waiting word (bundle c flags h).0 (bundle c flags h).1 (bundle_met_each again (length flags) flags h.skip plain (record h { skip = 0 }) none each)

  long_or_other_each : (again : Bool) (waiting : Waiting) (word : Text) (o : Option (Text × Option Text)) (h : Held) → flag_word_fault c again o word h ≡ [] → Each (PassesAsOption c) h.rows → Each (PassesAsOption c) (long_or_other c waiting word o h).0.rows
  long_or_other_each again waiting word None h none each = short_or_plain_each again waiting word (short_of word) h none each
  long_or_other_each again waiting word (Some p) h none each =
      after_flag_each waiting word (long_met c (arg_by_long c p.0) p.1 h).0 (long_met c (arg_by_long c p.0) p.1 h).1 (long_met_each again (arg_by_long c p.0) p.1 h (λ a is. rules _ a is) none each)

  -- a word that is no value of a positional, of which there is none
  subcommand_or_other_each : (s : Shape) → s.rules ≡ c → (o : Option Text) (waiting : Waiting) (position : ℕ) (word : Text) (h : Held) → other_fault s o word h ≡ [] → Each (PassesAsOption c) h.rows → Each (PassesAsOption c) (subcommand_or_other c o waiting position word h).0.rows
  subcommand_or_other_each s same (Some name) waiting position word h none each = each
  subcommand_or_other_each s same None waiting position word h none each =
      by_test (bytes_eq word (45 ∷ 45 ∷ [])) (λ b. cond b [] (flag_word_fault s.rules s.args_override_self (long_of word) word h) ≡ [] → Each (PassesAsOption c) (cond b (h, trailing position) (long_or_other c waiting word (long_of word) h)).0.rows)
      (λ on e. each)
      (λ off e. long_or_other_each s.args_override_self waiting word (long_of word) h (subst (λ (x : List Rule). flag_word_fault x s.args_override_self (long_of word) word h ≡ []) same e) each) none

  word_met_each : (s : Shape) → s.rules ≡ c → (names : Names) (is_trailing : Bool) (waiting : Waiting) (position : ℕ) (word : Text) (h : Held) → word_fault s names is_trailing waiting word h ≡ [] → Each (PassesAsOption c) h.rows → Each (PassesAsOption c) (word_met c names is_trailing waiting position word h).0.rows
  word_met_each s same names true waiting position word h none each = each
  word_met_each s same names false waiting position word h none each = subcommand_or_other_each s same (subcommand_met names waiting word) waiting position word h none each

  after_step_each : ((place : ℕ) → arg_by_index c place ≡ None) → (word : Text) (w : Walk) (h : Held) (step : Step) → Each (PassesAsOption c) h.rows
      → Each (PassesAsOption c) (after_step c word w h step).held.rows
  after_step_each no_places word w h (next waiting) each = each
  after_step_each no_places word w h (trailing position) each = each
  after_step_each no_places word w h (subcommand name) each = each
  after_step_each no_places word w h value each = subst (λ (o : Option Rule). Each (PassesAsOption c) (to_positional c o word w h).held.rows) (sym (no_places w.position)) each

  walked_each : (s : Shape) → s.rules ≡ c → ((place : ℕ) → arg_by_index c place ≡ None) → (names : Names) (stopped : Option (Text × List Text)) (w : Walk) (word : Text)
      → (if is_some stopped then [] else or_else (word_fault s names w.is_trailing w.waiting word w.held) (step_fault s w.position (word_met s.rules names w.is_trailing w.waiting w.position word w.held).0 (word_met s.rules names w.is_trailing w.waiting w.position word w.held).1)) ≡ []
      → Each (PassesAsOption c) w.held.rows → Each (PassesAsOption c) (walked_from c names stopped w word).held.rows
  walked_each s same no_places names (Some p) w word none each = each
  walked_each s same no_places names None w word none each =
      let met = word_met c names w.is_trailing w.waiting w.position word w.held in
      let parts = neither (word_fault s names w.is_trailing w.waiting word w.held) (step_fault s w.position (word_met s.rules names w.is_trailing w.waiting w.position word w.held).0 (word_met s.rules names w.is_trailing w.waiting w.position word w.held).1) none in
      after_step_each no_places word w met.0 met.1 (word_met_each s same names w.is_trailing w.waiting w.position word w.held parts.0 each)

  pub walk_each : (s : Shape) → s.rules ≡ c → ((place : ℕ) → arg_by_index c place ≡ None) → (names : Names) (words : List Text) (w : Walk) → walk_fault s names w words ≡ [] → Each (PassesAsOption c) w.held.rows → Each (PassesAsOption c) (fold (walked c names) w words).held.rows
  unfolding walked walk_fault
  walk_each s same no_places names [] w none each = each
  walk_each s same no_places names (word ∷ words) w none each =
      let parts = neither (turn_fault s names w word) (walk_fault s names (walked s.rules names w word) words) none in
      walk_each s same no_places names words (walked c names w word) (subst (λ (x : List Rule). walk_fault s names (walked x names w word) words ≡ []) same parts.1) (walked_each s same no_places names w.stopped w word parts.0 each)

-- ---- defaults
module _ (c : List Rule) (a : Rule) where
  pub default_each : IsOption c a → (v : Text) → a.defaults ≡ v ∷ [] → values_fault a (v ∷ []) ≡ [] → (rows : List Row) → Each (PassesAsOption c) rows → Each (PassesAsOption c) (with_default rows a)
  default_each known v is pass rows each =
      by_test (has_row a.id rows) (λ b. Each (PassesAsOption c) (cond b rows (default_rows a.id (reading_by a) a.defaults rows)))
      (λ on. each)
      (λ off. subst (λ (vs : List Text). Each (PassesAsOption c) (default_rows a.id (reading_by a) vs rows)) (sym is) (with_values_each c a DefaultValue (v ∷ []) rows known pass (let e : 0 < 1 = omega arith in e) each))

  pub default_there : (v : Text) → a.defaults ≡ v ∷ [] → (rows : List Row) → has_row a.id (with_default rows a) ≡ true
  default_there v is rows =
      by_test (has_row a.id rows) (λ b. has_row a.id rows ≡ b → has_row a.id (cond b rows (default_rows a.id (reading_by a) a.defaults rows)) ≡ true)
      (λ on e. e)
      (λ off e. subst (λ (vs : List Text). has_row a.id (default_rows a.id (reading_by a) vs rows) ≡ true) (sym is) (row_there a.id DefaultValue (v ∷ []) _ rows refl)) refl

  pub default_stays : (v : Text) → a.defaults ≡ v ∷ [] → (wanted : Text) (rows : List Row) → has_row wanted rows ≡ true → has_row wanted (with_default rows a) ≡ true
  default_stays v is wanted rows has =
      by_test (has_row a.id rows) (λ b. has_row wanted (cond b rows (default_rows a.id (reading_by a) a.defaults rows)) ≡ true)
      (λ on. has)
      (λ off. subst (λ (vs : List Text). has_row wanted (default_rows a.id (reading_by a) vs rows) ≡ true) (sym is) (row_stays wanted a.id DefaultValue (v ∷ []) _ rows has))

-- ---- what is read of an option
first_passes : (c : List Rule) (a : Rule) (r : Row) → IsOption c a → r.id ≡ a.id → PassesAsOption c r → (v : Text) × (row_text r ≡ Some v) × (accepts a.ignore_case (parser_of_value a.parser) v ≡ true)
first_passes c a r known same passed = go r.values (subst (λ (x : Rule). values_fault x r.values ≡ []) (one_rule c passed.rule a passed.known known (sym passed.id ∙ same)) passed.values) passed.some
  where
    go : (vs : List Text) → values_fault a vs ≡ [] → 0 < length vs → (v : Text) × (option_map (read_as r.reading) (slice_get vs 0) ≡ Some v) × (accepts a.ignore_case (parser_of_value a.parser) v ≡ true)
    go [] pass some = absurd (omega (arith, some))
    go (v ∷ vs) pass some = (v, ap (λ (how : Reading). Some (read_as how v)) passed.reading, accepted a.ignore_case (parser_of_value a.parser) v ((neither (value_kinds a.ignore_case (parser_of_value a.parser) v) (values_fault a vs) pass).0))

pub read_passes : (c : List Rule) (a : Rule) (rows : List Row) → IsOption c a → has_row a.id rows ≡ true → Each (PassesAsOption c) rows → (v : Text) × (one_of a.id rows ≡ Some v) × (accepts a.ignore_case (parser_of_value a.parser) v ≡ true)
read_passes c a rows known has each =
    let row = found_passes (λ (r : Row). bytes_eq r.id a.id) rows has in
    let first = first_passes c a row.0 known (same_bytes row.0.id a.id row.2) (found_each (PassesAsOption c) (λ (r : Row). bytes_eq r.id a.id) rows row.0 each row.1) in
    (first.0, ap (λ (o : Option Row). option_and_then row_text o) row.1 ∙ first.1, first.2)

-- the first value of an option, as it is written
pub reads_first : (c : List Rule) (a : Rule) (rows : List Row) → IsOption c a → has_row a.id rows ≡ true → Each (PassesAsOption c) rows → (v : Text) × (first_of a.id rows ≡ Some v)
reads_first c a rows known has each =
    let row = found_passes (λ (r : Row). bytes_eq r.id a.id) rows has in
    let passed = found_each (PassesAsOption c) (λ (r : Row). bytes_eq r.id a.id) rows row.0 each row.1 in
    let value = there row.0.values passed.some in
    (value.0, ap (λ (o : Option Row). option_and_then (λ (r : Row). slice_get r.values 0) o) row.1 ∙ value.1)
  where
    there : (vs : List Text) → 0 < length vs → (v : Text) × (slice_get vs 0 ≡ Some v)
    there [] some = absurd (omega (arith, some))
    there (v ∷ vs) some = (v, refl)

-- ---- the subcommand at which a walk stops
-- its name is one that is wanted, if there is one
abbrev pub IsNamed : (Text → Type 0) → Option (Text × List Text) → Type 0
IsNamed IsWanted stopped = (p : Text × List Text) → stopped ≡ Some p → IsWanted p.0

after_step_goes_on : (c : List Rule) (word : Text) (w : Walk) (h : Held) (step : Step) → ((name : Text) → step ≡ subcommand name → ⊥) → w.stopped ≡ None → (after_step c word w h step).stopped ≡ None
after_step_goes_on c word w h (next waiting) no_sub is = is
after_step_goes_on c word w h (trailing position) no_sub is = is
after_step_goes_on c word w h (subcommand name) no_sub is = absurd (no_sub name refl)
after_step_goes_on c word w h value no_sub is = go (arg_by_index c w.position)
  where
    go : (o : Option Rule) → (to_positional c o word w h).stopped ≡ None
    go None = is
    go (Some a) = refl

module _ (c : List Rule) (waiting : Waiting) (word : Text) where
  plain_is_none : (h : Held) (name : Text) → (plain_word c waiting word h).1 ≡ subcommand name → ⊥
  plain_is_none h name is = go waiting is
    where
      go : (x : Waiting) → (plain_word c x word h).1 ≡ subcommand name → ⊥
      go idle e = absurd (cc e)
      go positional e = absurd (cc e)
      go (option id) e = absurd (cc e)

  after_flag_is_none : (h : Held) (o : Outcome) (name : Text) → (after_flag c waiting word h o).1 ≡ subcommand name → ⊥
  after_flag_is_none h done name e = absurd (cc e)
  after_flag_is_none h (waits id) name e = absurd (cc e)
  after_flag_is_none h plain name e = plain_is_none h name e
  after_flag_is_none h refused name e = plain_is_none h name e

  long_or_other_is_none : (o : Option (Text × Option Text)) (h : Held) (name : Text) → (long_or_other c waiting word o h).1 ≡ subcommand name → ⊥
  long_or_other_is_none (Some p) h name e = after_flag_is_none _ _ name e
  long_or_other_is_none None h name e = go (short_of word) e
    where
      go : (o : Option Text) → (short_or_plain c waiting word o h).1 ≡ subcommand name → ⊥
      go (Some flags) e = after_flag_is_none _ _ name e
      go None e = plain_is_none h name e

none_named : (IsWanted : Text → Type 0) (stopped : Option (Text × List Text)) → stopped ≡ None → IsNamed IsWanted stopped
none_named IsWanted stopped none p is = absurd (cc (none, is))

-- the names of which one is met are the wanted ones and `help`, which is refused
module _ (s : Shape) (names : Names) (IsWanted : Text → Type 0) (only : (waiting : Waiting) (word name : Text) → subcommand_met names waiting word ≡ Some name → IsWanted name ⊎ (name ≡ codes "help")) (helps : s.disable_help_subcommand ≡ false) where
  help_is_refused : (name : Text) (word : Text) (h : Held) → name ≡ codes "help" → other_fault s (Some name) word h ≡ [] → ⊥
  help_is_refused name word h is none = go (bytes_eq name (codes "help")) s.disable_help_subcommand (bytes_same name (codes "help") is) helps none
    where
      go : (a b : Bool) → a ≡ true → b ≡ false → cond (a && not b) (kind.DisplayHelp ∷ kind.InvalidSubcommand ∷ []) [] ≡ [] → ⊥
      go true false x y e = absurd (cc e)
      go true true x y e = cc y
      go false b x y e = cc x

  other_named : (o : Option Text) (waiting : Waiting) (w : Walk) (word : Text) → subcommand_met names waiting word ≡ o → w.stopped ≡ None → other_fault s o word w.held ≡ []
      → IsNamed IsWanted (after_step s.rules word w (subcommand_or_other s.rules o waiting w.position word w.held).0 (subcommand_or_other s.rules o waiting w.position word w.held).1).stopped
  other_named (Some name) waiting w word met open_still none = λ p is.
      let same : p.0 ≡ name = sym (ap (λ (o : Option (Text × List Text)). option_map_or (λ (q : Text × List Text). q.0) o name) is) in
      elim (only waiting word name met) [
        | inl it ↦ subst IsWanted (sym same) it
        | inr help ↦ absurd (help_is_refused name word w.held help none)
      ]
  other_named None waiting w word met open_still none =
      by_test (bytes_eq word (45 ∷ 45 ∷ []))
      (λ b. IsNamed IsWanted (after_step s.rules word w (cond b (w.held, trailing w.position) (long_or_other s.rules waiting word (long_of word) w.held)).0 (cond b (w.held, trailing w.position) (long_or_other s.rules waiting word (long_of word) w.held)).1).stopped)
      (λ on. none_named IsWanted w.stopped open_still)
      (λ off. none_named IsWanted _ (after_step_goes_on s.rules word w _ (long_or_other s.rules waiting word (long_of word) w.held).1 (long_or_other_is_none s.rules waiting word (long_of word) w.held) open_still))

  word_named : (is_trailing : Bool) (w : Walk) (word : Text) → w.stopped ≡ None → word_fault s names is_trailing w.waiting word w.held ≡ []
      → IsNamed IsWanted (after_step s.rules word w (word_met s.rules names is_trailing w.waiting w.position word w.held).0 (word_met s.rules names is_trailing w.waiting w.position word w.held).1).stopped
  word_named true w word open_still none = none_named IsWanted _ (after_step_goes_on s.rules word w w.held value (λ name e. cc e) open_still)
  word_named false w word open_still none = other_named (subcommand_met names w.waiting word) w.waiting w word refl open_still none

  walked_named : (stopped : Option (Text × List Text)) (w : Walk) (word : Text) → w.stopped ≡ stopped
      → (if is_some stopped then [] else or_else (word_fault s names w.is_trailing w.waiting word w.held) (step_fault s w.position (word_met s.rules names w.is_trailing w.waiting w.position word w.held).0 (word_met s.rules names w.is_trailing w.waiting w.position word w.held).1)) ≡ []
      → IsNamed IsWanted stopped → IsNamed IsWanted (walked_from s.rules names stopped w word).stopped
  walked_named (Some p) w word same none named = λ q is.
      subst IsWanted (ap (λ (o : Option (Text × List Text)). option_map_or (λ (x : Text × List Text). x.0) o p.0) is) (named p refl)
  walked_named None w word same none named =
      word_named w.is_trailing w word same ((neither (word_fault s names w.is_trailing w.waiting word w.held) (step_fault s w.position (word_met s.rules names w.is_trailing w.waiting w.position word w.held).0 (word_met s.rules names w.is_trailing w.waiting w.position word w.held).1) none).0)

  pub walk_named : (words : List Text) (w : Walk) → walk_fault s names w words ≡ [] → IsNamed IsWanted w.stopped → IsNamed IsWanted (fold (walked s.rules names) w words).stopped
  unfolding walked walk_fault
  walk_named [] w none named = named
  walk_named (word ∷ words) w none named =
      let parts = neither (turn_fault s names w word) (walk_fault s names (walked s.rules names w word) words) none in
      walk_named words (walked s.rules names w word) parts.1 (walked_named w.stopped w word refl parts.0 named)
