-- The first word of a program or a state that does not fit.
use Rattle.std.proofs.Common.{◌≡◌, ℕ, zero, suc, ◌+◌, Bool, true, false, List, [], ◌∷◌, length, Option, Some, None, Result, Ok, Err, refl, sym, ap, ◌∙◌, append-nil, arith, inl, inr}
use Rattle.std.specs.Prelude.{◌≢◌, codes, nat_le, if◌then◌else◌, IfErr, pos}
use Rattle.std.specs.Option.{ok_or}
use Rattle.std.specs.Str.{bytes_eq}
use Rattle.cas_change.specs.declared.text.TheConstants.{LONGEST_TEXT}
use Rattle.cas_change.specs.declared.program.TheConstants.{MOST_CLAUSES}
use Rattle.cas_change.specs.declared.program.Guard.{Guard}
use Rattle.cas_change.specs.declared.program.Guard.TheVariants.{Always, IsEmpty, VersionIs, NumberBelow, TextIs}
use Rattle.cas_change.specs.declared.program.Act.TheVariants.{Keep, PutText, PutNumber, Add, Clear}
use Rattle.cas_change.specs.declared.program.Clause.{Clause}
use Rattle.cas_change.specs.declared.state.Body.{Body}
use Rattle.cas_change.specs.declared.state.Body.TheVariants.{Number, Text}
use Rattle.cas_change.specs.declared.state.State.{State}
use Rattle.cas_change.specs.declared.state.State.TheVariants.{Empty, Held}
use Rattle.cas_change_text.specs.declared.refusal.Why.{Why}
use Rattle.cas_change_text.specs.declared.refusal.Why.TheVariants as why
use Rattle.cas_change_text.specs.declared.refusal.TextRefusal.{TextRefusal}
use Rattle.cas_change_text.specs.declared.names.GuardName.{GuardName}
use Rattle.cas_change_text.specs.declared.names.GuardName.TheVariants as guards
use Rattle.cas_change_text.specs.declared.names.ActName.{ActName}
use Rattle.cas_change_text.specs.declared.names.ActName.TheVariants as acts
use Rattle.cas_change_text.specs.Decimal.{u64_of, i64_of}
use Rattle.cas_change_text.specs.Escapes.{text_of}
use Rattle.cas_change_text.specs.Misfit.{IsFirstMisfit, AreProgram, AreClauses, AreState}
use Rattle.cas_change_text.specs.Reading.{◌>>=◌, Read, word_at, word_from, refusal_at, version_at, number_at, text_in, text_at, guard_name, guard_of, guard_at, act_name, act_of, act_at, clause_at, semicolon_at, clauses_at, program_at, body_of, body_at, after_v, held_at, state_at, whole_state, GivesInMemory}
use Rattle.cas_change_text.specs.Words.{Word, WordsLeft, all_of}
use Rattle.cas_change_text.proofs.BothWays.{from, clauses_found, program_again, whole_state-found, whole_state-again}
use Rattle.cas_change_text.proofs.Stopping.{IsReader, IsWhole, StopsWhole, Repeats, starts, same_reader, one_word, one_word_reader, read_as, after, then_reader, reads_nothing, made_reader, to_end, whole_to_end, whole_after, first_misfit, bind_err}

-- ---- words that say something

pub ok_or_err : {A : Type 0} (o : Option A) (refusal other : TextRefusal) → ok_or o refusal ≡ Err other → other ≡ refusal
ok_or_err (Some x) refusal other e = absurd cc
ok_or_err None refusal other e = let same : refusal ≡ other = cc in sym same

-- a word that says a value, or is refused for this reason
abbrev pub said : {X : Type 0} → (Word → Option X) → Why → ℕ → Word → Result X TextRefusal
said value reason at word = ok_or (value word) (record { why = reason; word = at })

pub said_reader : {X : Type 0} (value : Word → Option X) (reason : Why) (good : Word) (x : X) → value good ≡ Some x → IsReader (one_word (said value reason))
said_reader value reason good x is =
    one_word_reader (said value reason) (λ at word refusal e. ap (λ (r : TextRefusal). r.word) (ok_or_err (value word) (record { why = reason; word = at }) refusal e))
    good x (λ at. rw is refl)

-- a word that says a name, and then what the name asks for
pub by_name : {N X : Type 0} (name_of : Word → Option N) (next : N → WordsLeft → Result X TextRefusal) (left : WordsLeft)
    → (word_at left >>= λ word. (ok_or (name_of word.0) (refusal_at why.UnknownWord left) >>= λ name. next name word.1)) ≡ after (one_word (said name_of why.UnknownWord)) next left
by_name {N} {X} name_of next left = by_words left.words
  where
    by_option : (o : Option N) (at : ℕ) (words : List Word)
        → (ok_or o (record { why = why.UnknownWord; word = at }) >>= λ name. next name (from (at + 1) words))
        ≡ ((ok_or o (record { why = why.UnknownWord; word = at }) >>= read_as (from (at + 1) words)) >>= λ x. next x.0 x.1)
    by_option None at words = refl
    by_option (Some name) at words = refl

    by_words : (words : List Word)
        → (word_from left.at words >>= λ word. (ok_or (name_of word.0) (refusal_at why.UnknownWord left) >>= λ name. next name word.1)) ≡ after (one_word (said name_of why.UnknownWord)) next (from left.at words)
    by_words [] = refl
    by_words (word ∷ words) = by_option (name_of word) left.at words

pub version_reader : IsReader version_at
unfolding version_at
version_reader = said_reader u64_of why.BadNumber (codes "0") 0 refl

pub number_reader : IsReader number_at
unfolding number_at
number_reader = said_reader i64_of why.BadNumber (codes "0") (pos 0) refl

text_in-place : (at : ℕ) (word : Word) (refusal : TextRefusal) → text_in at word ≡ Err refusal → refusal.word ≡ at
unfolding text_in
text_in-place at word refusal e = by (text_of word) e
  where
    fits : (b : Bool) (bytes : List ℕ) → (if b then Ok bytes else Err (record { why = why.TooLong; word = at })) ≡ Err refusal → refusal.word ≡ at
    fits true bytes is = absurd cc
    fits false bytes is = let same : record { why = why.TooLong; word = at } ≡ refusal = cc in ap (λ (r : TextRefusal). r.word) (sym same)

    by : (o : Option (List ℕ)) → (ok_or o (record { why = why.UnknownWord; word = at }) >>= λ bytes. (if nat_le (length bytes) LONGEST_TEXT then Ok bytes else Err (record { why = why.TooLong; word = at }))) ≡ Err refusal
        → refusal.word ≡ at
    by None is = let same : record { why = why.UnknownWord; word = at } ≡ refusal = cc in ap (λ (r : TextRefusal). r.word) (sym same)
    by (Some bytes) is = fits (nat_le (length bytes) LONGEST_TEXT) bytes is

pub text_reader : IsReader text_at
unfolding text_at text_in
text_reader = one_word_reader text_in text_in-place (codes "x") (120 ∷ []) (λ at. refl)

-- ---- clauses

guard_of-reader : (name : GuardName) → IsReader (guard_of name)
unfolding guard_of
guard_of-reader guards.Always = reads_nothing Always
guard_of-reader guards.Empty = reads_nothing IsEmpty
guard_of-reader guards.Version = made_reader version_at (λ version. VersionIs version) version_reader
guard_of-reader guards.Below = made_reader number_at (λ number. NumberBelow number) number_reader
guard_of-reader guards.Is = made_reader text_at (λ bytes. TextIs bytes) text_reader

guard_reader : IsReader guard_at
unfolding guard_at
guard_reader = same_reader (after (one_word (said guard_name why.UnknownWord)) guard_of) guard_at (by_name guard_name guard_of)
    (then_reader (one_word (said guard_name why.UnknownWord)) guard_of (said_reader guard_name why.UnknownWord (codes "always") guards.Always refl) guard_of-reader)

act_of-reader : (name : ActName) → IsReader (act_of name)
unfolding act_of
act_of-reader acts.Keep = reads_nothing Keep
act_of-reader acts.Text = made_reader text_at (λ bytes. PutText bytes) text_reader
act_of-reader acts.Num = made_reader number_at (λ number. PutNumber number) number_reader
act_of-reader acts.Add = made_reader number_at (λ number. Add number) number_reader
act_of-reader acts.Clear = reads_nothing Clear

act_reader : IsReader act_at
unfolding act_at
act_reader = same_reader (after (one_word (said act_name why.UnknownWord)) act_of) act_at (by_name act_name act_of)
    (then_reader (one_word (said act_name why.UnknownWord)) act_of (said_reader act_name why.UnknownWord (codes "keep") acts.Keep refl) act_of-reader)

-- a guard, and then an act
abbrev clause_with : Guard → WordsLeft → Read Clause
clause_with guard left = act_at left >>= λ act. Ok (record { guard = guard; act = act.0 }, act.1)

clause_reader : IsReader clause_at
unfolding clause_at
clause_reader = then_reader guard_at clause_with guard_reader (λ guard. made_reader act_at (λ act. record { guard = guard; act = act }) act_reader)

-- ---- programs

-- what follows a clause, where this many more may come
abbrev behind_clause : ℕ → Clause → WordsLeft → Result (List Clause) TextRefusal
behind_clause most clause left = semicolon_at left >>= λ more. (if more.0 then (clauses_at most more.1 >>= λ clauses. Ok (clause ∷ clauses)) else Ok (clause ∷ []))

-- the same where a word follows, which is a semicolon or is not
abbrev semicolon_or : ℕ → Bool → List Word → Read Bool
semicolon_or at is_semicolon words = if is_semicolon then Ok (true, from (at + 1) words) else Err (record { why = why.UnknownWord; word = at })

abbrev behind_word : ℕ → Clause → ℕ → Bool → List Word → Result (List Clause) TextRefusal
behind_word most clause at is_semicolon words = semicolon_or at is_semicolon words
    >>= λ more. (if more.0 then (clauses_at most more.1 >>= λ clauses. Ok (clause ∷ clauses)) else Ok (clause ∷ []))

behind_whole : (most : ℕ) (clause : Clause) → IsWhole clauses_at most → IsWhole (λ m. behind_clause m clause) most
behind_whole most clause inner at [] refusal e = absurd cc
behind_whole most clause inner at (word ∷ words) refusal e = by (bytes_eq word (codes ";")) refl e
  where
    later : (before rest : List Word) → bytes_eq word (codes ";") ≡ true → Repeats (clauses_at most) (at + 1) before rest refusal → Repeats (behind_clause most clause) at (word ∷ before) rest refusal
    later before [] is repeats = tt
    later before (next ∷ rest) is repeats = λ other. rw (is, repeats other) refl

    by : (b : Bool) → bytes_eq word (codes ";") ≡ b → behind_word most clause at b words ≡ Err refusal → StopsWhole (λ m. behind_clause m clause) most at (word ∷ words) refusal
    by false is stops =
        let same : record { why = why.UnknownWord; word = at } ≡ refusal = cc in
        record {
          before = [];
          rest = word ∷ words;
          split = refl;
          place = ap (λ (r : TextRefusal). r.word) (sym same) ∙ omega arith;
          again = λ other. rw is (ap Err same);
          enough = most;
          more = [];
          x = clause ∷ [];
          on = refl;
        }
    by true is stops = elim (bind_err (clauses_at most (from (at + 1) words)) (λ clauses. Ok (clause ∷ clauses)) refusal stops) [
      | inl stopped ↦
          let s = inner (at + 1) words refusal stopped in
          record {
            before = word ∷ s.before;
            rest = s.rest;
            split = ap (λ (ws : List Word). word ∷ ws) s.split;
            place = omega (arith, s.place);
            again = later s.before s.rest is s.again;
            enough = s.enough;
            more = s.more;
            x = clause ∷ s.x;
            on = rw (is, s.on) refl;
          }
      | inr step ↦ absurd (let no : Ok (clause ∷ step.0) ≡ Err refusal = step.2 in cc)
    ]

pub clauses_whole : (most : ℕ) → IsWhole clauses_at most
unfolding clauses_at
clauses_whole zero = λ at words refusal e. none at words refusal e
  where
    one_clause : (at : ℕ) → (more : List Word) × (clauses : List Clause) × (clauses_at 1 (from at more) ≡ Ok clauses)
    one_clause at =
        let s = starts clause_at clause_reader at in
        (s.more, s.x ∷ [], ap (λ (ws : List Word). clauses_at 1 (from at ws)) (sym (append-nil s.more)) ∙ rw (s.on []) refl)

    none : (at : ℕ) (words : List Word) (refusal : TextRefusal) → clauses_at 0 (from at words) ≡ Err refusal → StopsWhole clauses_at 0 at words refusal
    none at [] refusal e =
        let same : record { why = why.NoWord; word = at } ≡ refusal = cc in
        let one = one_clause at in
        record {
          before = [];
          rest = [];
          split = refl;
          place = ap (λ (r : TextRefusal). r.word) (sym same) ∙ omega arith;
          again = tt;
          enough = 1;
          more = one.0;
          x = one.1;
          on = one.2;
        }
    none at (word ∷ words) refusal e =
        let same : record { why = why.TooManyClauses; word = at } ≡ refusal = cc in
        let one = one_clause at in
        record {
          before = [];
          rest = word ∷ words;
          split = refl;
          place = ap (λ (r : TextRefusal). r.word) (sym same) ∙ omega arith;
          again = λ other. ap Err same;
          enough = 1;
          more = one.0;
          x = one.1;
          on = one.2;
        }
clauses_whole (suc most) = λ at words refusal e.
    let s = whole_after clause_at behind_clause most clause_reader (λ clause. behind_whole most clause (clauses_whole most)) at words refusal e in
    record {
      before = s.before;
      rest = s.rest;
      split = s.split;
      place = s.place;
      again = repeats at s.before s.rest refusal s.again;
      enough = suc s.enough;
      more = s.more;
      x = s.x;
      on = s.on;
    }
  where
    repeats : (at : ℕ) (before rest : List Word) (refusal : TextRefusal) → Repeats (after clause_at (behind_clause most)) at before rest refusal → Repeats (clauses_at (suc most)) at before rest refusal
    repeats at before [] refusal again = tt
    repeats at before (word ∷ rest) refusal again = λ other. again other

pub program_misfit : (words : List Word) (refusal : TextRefusal) → program_at (all_of words) ≡ Err refusal → IsFirstMisfit AreClauses AreProgram words refusal.word
program_misfit words refusal e =
    first_misfit clauses_at MOST_CLAUSES AreClauses AreProgram
    (λ enough ws clauses read. (clauses, (clauses_found enough (all_of ws) clauses read).0))
    (λ ws is. (is.0, program_again ws is.0 is.1))
    (clauses_whole MOST_CLAUSES) words refusal e

-- ---- states

-- whether a word begins a number or a text
abbrev body_says : ℕ → Word → Result Bool TextRefusal
body_says at word = if bytes_eq word (codes "num") then Ok true else (if bytes_eq word (codes "text") then Ok false else Err (record { why = why.UnknownWord; word = at }))

abbrev body_with : Bool → WordsLeft → Read Body
body_with true left = number_at left >>= λ x. Ok (Number x.0, x.1)
body_with false left = text_at left >>= λ x. Ok (Text x.0, x.1)

body_by_name : (left : WordsLeft) → body_at left ≡ after (one_word body_says) body_with left
unfolding body_at body_of
body_by_name left = by_words left.words
  where
    by_text : (b : Bool) (words : List Word)
        → (if b then body_with false (from (left.at + 1) words) else Err (record { why = why.UnknownWord; word = left.at }))
        ≡ (((if b then Ok false else Err (record { why = why.UnknownWord; word = left.at })) >>= read_as (from (left.at + 1) words)) >>= λ x. body_with x.0 x.1)
    by_text true words = refl
    by_text false words = refl

    by_number : (b c : Bool) (words : List Word)
        → (if b then body_with true (from (left.at + 1) words) else (if c then body_with false (from (left.at + 1) words) else Err (record { why = why.UnknownWord; word = left.at })))
        ≡ (((if b then Ok true else (if c then Ok false else Err (record { why = why.UnknownWord; word = left.at }))) >>= read_as (from (left.at + 1) words)) >>= λ x. body_with x.0 x.1)
    by_number true c words = refl
    by_number false c words = by_text c words

    by_words : (words : List Word) → body_at (from left.at words) ≡ after (one_word body_says) body_with (from left.at words)
    by_words [] = refl
    by_words (word ∷ words) = by_number (bytes_eq word (codes "num")) (bytes_eq word (codes "text")) words

body_says-place : (at : ℕ) (word : Word) (refusal : TextRefusal) → body_says at word ≡ Err refusal → refusal.word ≡ at
body_says-place at word refusal e = by (bytes_eq word (codes "num")) (bytes_eq word (codes "text")) e
  where
    by : (b c : Bool) → (if b then Ok true else (if c then Ok false else Err (record { why = why.UnknownWord; word = at }))) ≡ Err refusal → refusal.word ≡ at
    by true c is = absurd cc
    by false true is = absurd cc
    by false false is = let same : record { why = why.UnknownWord; word = at } ≡ refusal = cc in ap (λ (r : TextRefusal). r.word) (sym same)

body_with-reader : (is_number : Bool) → IsReader (body_with is_number)
body_with-reader true = made_reader number_at (λ number. Number number) number_reader
body_with-reader false = made_reader text_at (λ bytes. Text bytes) text_reader

body_reader : IsReader body_at
body_reader = same_reader (after (one_word body_says) body_with) body_at body_by_name
    (then_reader (one_word body_says) body_with (one_word_reader body_says body_says-place (codes "num") true (λ at. refl)) body_with-reader)

-- the version that a word says behind a `v`, or none where it says `empty`
abbrev head_says : ℕ → Word → Result (Option ℕ) TextRefusal
head_says at word = if bytes_eq word (codes "empty") then Ok None
    else (ok_or (after_v word) (record { why = why.UnknownWord; word = at }) >>= λ digits. (ok_or (u64_of digits) (record { why = why.BadNumber; word = at }) >>= λ version. Ok (Some version)))

abbrev state_with : Option ℕ → WordsLeft → Read State
state_with None left = Ok (Empty, left)
state_with (Some version) left = body_at left >>= λ body. Ok (Held version body.0, body.1)

state_by_head : (left : WordsLeft) → state_at left ≡ after (one_word head_says) state_with left
unfolding state_at held_at
state_by_head left = by_words left.words
  where
    by_version : (o : Option ℕ) (bad : TextRefusal) (after : WordsLeft)
        → (ok_or o bad >>= λ version. (body_at after >>= λ body. Ok (Held version body.0, body.1)))
        ≡ (((ok_or o bad >>= λ version. Ok (Some version)) >>= read_as after) >>= λ x. state_with x.0 x.1)
    by_version None bad after = refl
    by_version (Some version) bad after = refl

    by_digits : (o : Option Word) (bad worse : TextRefusal) (after : WordsLeft)
        → (ok_or o bad >>= λ digits. (ok_or (u64_of digits) worse >>= λ version. (body_at after >>= λ body. Ok (Held version body.0, body.1))))
        ≡ (((ok_or o bad >>= λ digits. (ok_or (u64_of digits) worse >>= λ version. Ok (Some version))) >>= read_as after) >>= λ x. state_with x.0 x.1)
    by_digits None bad worse after = refl
    by_digits (Some digits) bad worse after = by_version (u64_of digits) worse after

    by_empty : (b : Bool) (word : Word) (bad worse : TextRefusal) (after : WordsLeft)
        → (if b then Ok (Empty, after) else (ok_or (after_v word) bad >>= λ digits. (ok_or (u64_of digits) worse >>= λ version. (body_at after >>= λ body. Ok (Held version body.0, body.1)))))
        ≡ (((if b then Ok None else (ok_or (after_v word) bad >>= λ digits. (ok_or (u64_of digits) worse >>= λ version. Ok (Some version)))) >>= read_as after) >>= λ x. state_with x.0 x.1)
    by_empty true word bad worse after = refl
    by_empty false word bad worse after = by_digits (after_v word) bad worse after

    by_words : (words : List Word) → state_at (from left.at words) ≡ after (one_word head_says) state_with (from left.at words)
    by_words [] = refl
    by_words (word ∷ words) =
        by_empty (bytes_eq word (codes "empty")) word (record { why = why.UnknownWord; word = left.at }) (record { why = why.BadNumber; word = left.at }) (from (left.at + 1) words)

head_says-place : (at : ℕ) (word : Word) (refusal : TextRefusal) → head_says at word ≡ Err refusal → refusal.word ≡ at
head_says-place at word refusal e = by_empty (bytes_eq word (codes "empty")) e
  where
    by_version : (o : Option ℕ) → (ok_or o (record { why = why.BadNumber; word = at }) >>= λ version. Ok (Some version)) ≡ Err refusal → refusal.word ≡ at
    by_version None is = let same : record { why = why.BadNumber; word = at } ≡ refusal = cc in ap (λ (r : TextRefusal). r.word) (sym same)
    by_version (Some version) is = absurd cc

    by_digits : (o : Option Word) → (ok_or o (record { why = why.UnknownWord; word = at }) >>= λ digits. (ok_or (u64_of digits) (record { why = why.BadNumber; word = at }) >>= λ version. Ok (Some version))) ≡ Err refusal
        → refusal.word ≡ at
    by_digits None is = let same : record { why = why.UnknownWord; word = at } ≡ refusal = cc in ap (λ (r : TextRefusal). r.word) (sym same)
    by_digits (Some digits) is = by_version (u64_of digits) is

    by_empty : (b : Bool) → (if b then Ok None else (ok_or (after_v word) (record { why = why.UnknownWord; word = at }) >>= λ digits. (ok_or (u64_of digits) (record { why = why.BadNumber; word = at }) >>= λ version. Ok (Some version)))) ≡ Err refusal
        → refusal.word ≡ at
    by_empty true is = absurd cc
    by_empty false is = by_digits (after_v word) is

state_with-reader : (version : Option ℕ) → IsReader (state_with version)
state_with-reader None = reads_nothing Empty
state_with-reader (Some version) = made_reader body_at (λ body. Held version body) body_reader

state_reader : IsReader state_at
state_reader = same_reader (after (one_word head_says) state_with) state_at state_by_head
    (then_reader (one_word head_says) state_with (one_word_reader head_says head_says-place (codes "empty") None (λ at. refl)) state_with-reader)

pub state_misfit : (words : List Word) (refusal : TextRefusal) → whole_state (all_of words) ≡ Err refusal → IsFirstMisfit AreState AreState words refusal.word
unfolding whole_state
state_misfit words refusal e =
    first_misfit (to_end state_at) 0 AreState AreState
    (λ enough ws state read. (state, whole_state-found ws state read))
    (λ ws is. (is.0, whole_state-again ws is.0 is.1))
    (whole_to_end state_at 0 state_reader) words refusal e

-- the same of a function that gives what reading gives, unless memory ran out
pub misfit_from_gives : {X : Type 0} (result read : Result X TextRefusal) (Unlimited Text : List Word → Type 0) (words : List Word) → GivesInMemory result read
    → ((refusal : TextRefusal) → read ≡ Err refusal → IsFirstMisfit Unlimited Text words refusal.word)
    → IfErr result (λ refusal. refusal.why ≢ why.NoMemory → IsFirstMisfit Unlimited Text words refusal.word)
misfit_from_gives (Ok x) read wide texts words gives misfit = tt
misfit_from_gives (Err refusal) read wide texts words gives misfit = λ known. misfit refusal (gives known)
