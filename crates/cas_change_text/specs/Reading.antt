-- Reading from left to right, up to the first word that does not fit.
use Rattle.std.specs.Prelude.{◌≡◌, ◌≢◌, ℕ, zero, suc, ◌+◌, Bool, true, false, nat_le, ◌==◌, if◌then◌else◌, List, [], ◌∷◌, length, codes, Option, Some, None, Result, Ok, Err, MatchResult, ℤ}
use Rattle.std.specs.Option.{ok_or}
use Rattle.std.specs.Str.{bytes_eq}
use Rattle.cas_change.specs.declared.text.TheConstants.{LONGEST_TEXT}
use Rattle.cas_change.specs.declared.program.TheConstants.{MOST_CLAUSES}
use Rattle.cas_change.specs.declared.program.Guard.{Guard}
use Rattle.cas_change.specs.declared.program.Guard.TheVariants.{Always, IsEmpty, VersionIs, NumberBelow, TextIs}
use Rattle.cas_change.specs.declared.program.Act.{Act}
use Rattle.cas_change.specs.declared.program.Act.TheVariants.{Keep, PutText, PutNumber, Add, Clear}
use Rattle.cas_change.specs.declared.program.Clause.{Clause}
use Rattle.cas_change.specs.declared.state.Body.{Body}
use Rattle.cas_change.specs.declared.state.Body.TheVariants.{Number, Text}
use Rattle.cas_change.specs.declared.state.State.{State}
use Rattle.cas_change.specs.declared.state.State.TheVariants.{Empty, Held}
use Rattle.cas_change_text.specs.declared.refusal.Why.{Why}
use Rattle.cas_change_text.specs.declared.refusal.Why.TheVariants as why
use Rattle.cas_change_text.specs.declared.refusal.TextRefusal.{TextRefusal}
use Rattle.cas_change_text.specs.declared.names.GuardName.{GuardName}
use Rattle.cas_change_text.specs.declared.names.GuardName.TheVariants as guards
use Rattle.cas_change_text.specs.declared.names.ActName.{ActName}
use Rattle.cas_change_text.specs.declared.names.ActName.TheVariants as acts
use Rattle.cas_change_text.specs.Decimal.{u64_of, i64_of}
use Rattle.cas_change_text.specs.Escapes.{text_of}
use Rattle.cas_change_text.specs.Words.{Word, WordsLeft}

infixl 10 ◌>>=◌
abbrev pub ◌>>=◌ : {A B : Type 0} → Result A TextRefusal → (A → Result B TextRefusal) → Result B TextRefusal
(Ok x) >>= f = f x
(Err e) >>= f = Err e

-- what was read from the front, and the words that follow it
abbrev pub Read : Type 0 → Type 0
Read X = Result (X × WordsLeft) TextRefusal

-- a function that left these words returned what reading gives
abbrev pub Reads : {X : Type 0} → Result X TextRefusal → WordsLeft → Read X → Type 0
Reads result left read = MatchResult result (λ x. read ≡ Ok (x, left)) (λ refusal. read ≡ Err refusal)

-- the same, unless memory ran out
abbrev pub ReadsInMemory : {X : Type 0} → Result X TextRefusal → WordsLeft → Read X → Type 0
ReadsInMemory result left read = MatchResult result (λ x. read ≡ Ok (x, left)) (λ refusal. refusal.why ≢ why.NoMemory → read ≡ Err refusal)

-- the same of a function that reads to the end
abbrev pub GivesInMemory : {X : Type 0} → Result X TextRefusal → Result X TextRefusal → Type 0
GivesInMemory result read = MatchResult result (λ x. read ≡ Ok x) (λ refusal. refusal.why ≢ why.NoMemory → read ≡ Err refusal)

-- a refusal at the next word
abbrev pub refusal_at : Why → WordsLeft → TextRefusal
refusal_at reason left = record { why = reason; word = left.at }

abbrev pub word_from : ℕ → List Word → Read Word
word_from at [] = Err (record { why = why.NoWord; word = at })
word_from at (word ∷ words) = Ok (word, record { at = at + 1; words = words })

-- the next word, where one is needed
abbrev pub word_at : WordsLeft → Read Word
word_at left = word_from left.at left.words

unfoldable pub version_at : WordsLeft → Read ℕ
version_at left = do
  word ← word_at left
  version ← ok_or (u64_of word.0) (refusal_at why.BadNumber left)
  Ok (version, word.1)

unfoldable pub number_at : WordsLeft → Read ℤ
number_at left = do
  word ← word_at left
  number ← ok_or (i64_of word.0) (refusal_at why.BadNumber left)
  Ok (number, word.1)

-- the text that a word spells, which stands at this place
unfoldable pub text_in : ℕ → Word → Result (List ℕ) TextRefusal
text_in at word = do
  bytes ← ok_or (text_of word) (record { why = why.UnknownWord; word = at })
  if nat_le (length bytes) LONGEST_TEXT then Ok bytes else Err (record { why = why.TooLong; word = at })

unfoldable pub text_at : WordsLeft → Read (List ℕ)
text_at left = do
  word ← word_at left
  bytes ← text_in left.at word.0
  Ok (bytes, word.1)

-- the guard that a word begins
abbrev pub guard_name : Word → Option GuardName
guard_name word = if bytes_eq word (codes "always") then Some guards.Always
    else (if bytes_eq word (codes "empty") then Some guards.Empty
    else (if bytes_eq word (codes "version") then Some guards.Version
    else (if bytes_eq word (codes "below") then Some guards.Below
    else (if bytes_eq word (codes "is") then Some guards.Is else None))))

-- what follows the name of a guard
unfoldable pub guard_of : GuardName → WordsLeft → Read Guard
guard_of guards.Always left = Ok (Always, left)
guard_of guards.Empty left = Ok (IsEmpty, left)
guard_of guards.Version left = version_at left >>= λ x. Ok (VersionIs x.0, x.1)
guard_of guards.Below left = number_at left >>= λ x. Ok (NumberBelow x.0, x.1)
guard_of guards.Is left = text_at left >>= λ x. Ok (TextIs x.0, x.1)

unfoldable pub guard_at : WordsLeft → Read Guard
guard_at left = do
  word ← word_at left
  name ← ok_or (guard_name word.0) (refusal_at why.UnknownWord left)
  guard_of name word.1

-- the act that a word begins
abbrev pub act_name : Word → Option ActName
act_name word = if bytes_eq word (codes "keep") then Some acts.Keep
    else (if bytes_eq word (codes "text") then Some acts.Text
    else (if bytes_eq word (codes "num") then Some acts.Num
    else (if bytes_eq word (codes "add") then Some acts.Add
    else (if bytes_eq word (codes "clear") then Some acts.Clear else None))))

-- what follows the name of an act
unfoldable pub act_of : ActName → WordsLeft → Read Act
act_of acts.Keep left = Ok (Keep, left)
act_of acts.Text left = text_at left >>= λ x. Ok (PutText x.0, x.1)
act_of acts.Num left = number_at left >>= λ x. Ok (PutNumber x.0, x.1)
act_of acts.Add left = number_at left >>= λ x. Ok (Add x.0, x.1)
act_of acts.Clear left = Ok (Clear, left)

unfoldable pub act_at : WordsLeft → Read Act
act_at left = do
  word ← word_at left
  name ← ok_or (act_name word.0) (refusal_at why.UnknownWord left)
  act_of name word.1

unfoldable pub clause_at : WordsLeft → Read Clause
clause_at left = do
  guard ← guard_at left
  act ← act_at guard.1
  Ok (record { guard = guard.0; act = act.0 }, act.1)

abbrev pub semicolon_from : ℕ → List Word → Read Bool
semicolon_from at [] = Ok (false, record { at = at; words = [] })
semicolon_from at (word ∷ words) = if bytes_eq word (codes ";") then Ok (true, record { at = at + 1; words = words })
    else Err (record { why = why.UnknownWord; word = at })

-- whether a clause follows: a semicolon says so, and the end that none does
abbrev pub semicolon_at : WordsLeft → Read Bool
semicolon_at left = semicolon_from left.at left.words

-- to the end, where this many clauses may come
unfoldable pub clauses_at : ℕ → WordsLeft → Result (List Clause) TextRefusal
clauses_at zero left = do
  word ← word_at left
  Err (refusal_at why.TooManyClauses left)
clauses_at (suc most) left = do
  clause ← clause_at left
  more ← semicolon_at clause.1
  if more.0 then (clauses_at most more.1 >>= λ clauses. Ok (clause.0 ∷ clauses)) else Ok (clause.0 ∷ [])

-- a program, to the end
abbrev pub program_at : WordsLeft → Result (List Clause) TextRefusal
program_at left = clauses_at MOST_CLAUSES left

-- the body that a word begins, which stands at this place
unfoldable pub body_of : Word → WordsLeft → ℕ → Read Body
body_of word left at = if bytes_eq word (codes "num") then (number_at left >>= λ x. Ok (Number x.0, x.1))
    else (if bytes_eq word (codes "text") then (text_at left >>= λ x. Ok (Text x.0, x.1))
    else Err (record { why = why.UnknownWord; word = at }))

unfoldable pub body_at : WordsLeft → Read Body
body_at left = do
  word ← word_at left
  body_of word.0 word.1 left.at

-- the word without a `v` in front, where one stands there
abbrev pub after_v : Word → Option Word
after_v [] = None
after_v (byte ∷ bytes) = if byte == 118 then Some bytes else None

-- the version that the next word says, behind a `v`
unfoldable pub held_at : Word → WordsLeft → ℕ → Read State
held_at word left at = do
  digits ← ok_or (after_v word) (record { why = why.UnknownWord; word = at })
  version ← ok_or (u64_of digits) (record { why = why.BadNumber; word = at })
  body ← body_at left
  Ok (Held version body.0, body.1)

unfoldable pub state_at : WordsLeft → Read State
state_at left = do
  word ← word_at left
  if bytes_eq word.0 (codes "empty") then Ok (Empty, word.1) else held_at word.0 word.1 left.at

abbrev pub end_from : ℕ → List Word → Result (List Word) TextRefusal
end_from at [] = Ok []
end_from at (word ∷ words) = Err (record { why = why.UnknownWord; word = at })

-- no more words, where none is left
abbrev pub end_at : WordsLeft → Result (List Word) TextRefusal
end_at left = end_from left.at left.words

-- a state, to the end
unfoldable pub whole_state : WordsLeft → Result State TextRefusal
whole_state left = do
  state ← state_at left
  end ← end_at state.1
  Ok state.0
