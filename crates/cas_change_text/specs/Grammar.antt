-- The words of programs and states, by cases on what they say.
use Rattle.std.specs.Prelude.{◌≡◌, ℕ, ◌≤◌, List, [], ◌∷◌, ◌++◌, length, codes, Some}
use Rattle.cas_change.specs.Text.{IsText}
use Rattle.cas_change.specs.declared.program.TheConstants.{MOST_CLAUSES}
use Rattle.cas_change.specs.declared.program.Guard.{Guard}
use Rattle.cas_change.specs.declared.program.Guard.TheVariants.{Always, IsEmpty, VersionIs, NumberBelow, TextIs}
use Rattle.cas_change.specs.declared.program.Act.{Act}
use Rattle.cas_change.specs.declared.program.Act.TheVariants.{Keep, PutText, PutNumber, Add, Clear}
use Rattle.cas_change.specs.declared.program.Clause.{Clause}
use Rattle.cas_change.specs.declared.state.Body.{Body}
use Rattle.cas_change.specs.declared.state.Body.TheVariants.{Number, Text}
use Rattle.cas_change.specs.declared.state.State.{State}
use Rattle.cas_change.specs.declared.state.State.TheVariants.{Empty, Held}
use Rattle.cas_change_text.specs.Decimal.{u64_of, i64_of}
use Rattle.cas_change_text.specs.Escapes.{SpellsEscaped}
use Rattle.cas_change_text.specs.Words.{Word}

-- two words: a name, and a number or a text
abbrev pub IsPair : List Word → Word → (Word → Type 0) → Type 0
IsPair words name P = (word : Word) × (words ≡ name ∷ word ∷ []) × P word

-- the word spells this text, which has at most 4,000 bytes
abbrev pub IsTextWord : List ℕ → Word → Type 0
IsTextWord bytes word = SpellsEscaped word bytes × IsText bytes

abbrev pub IsGuard : List Word → Guard → Type 0
IsGuard words Always = words ≡ codes "always" ∷ []
IsGuard words IsEmpty = words ≡ codes "empty" ∷ []
IsGuard words (VersionIs version) = IsPair words (codes "version") (λ word. u64_of word ≡ Some version)
IsGuard words (NumberBelow number) = IsPair words (codes "below") (λ word. i64_of word ≡ Some number)
IsGuard words (TextIs bytes) = IsPair words (codes "is") (IsTextWord bytes)

abbrev pub IsAct : List Word → Act → Type 0
IsAct words Keep = words ≡ codes "keep" ∷ []
IsAct words (PutText bytes) = IsPair words (codes "text") (IsTextWord bytes)
IsAct words (PutNumber number) = IsPair words (codes "num") (λ word. i64_of word ≡ Some number)
IsAct words (Add number) = IsPair words (codes "add") (λ word. i64_of word ≡ Some number)
IsAct words Clear = words ≡ codes "clear" ∷ []

-- a guard, and then an act
abbrev pub IsClause : List Word → Clause → Type 0
IsClause words clause = (guard act : List Word) × IsGuard guard clause.guard × IsAct act clause.act × (words ≡ guard ++ act)

-- clauses, with a semicolon between any two
abbrev pub IsClauses : List Word → List Clause → Type 0
IsClauses words [] = ⊥
IsClauses words (clause ∷ []) = IsClause words clause
IsClauses words (clause ∷ next ∷ clauses) = (first rest : List Word) × IsClause first clause × IsClauses rest (next ∷ clauses) × (words ≡ first ++ codes ";" ∷ rest)

-- a program: 1 to 8 clauses
abbrev pub IsProgram : List Word → List Clause → Type 0
IsProgram words program = IsClauses words program × (length program ≤ MOST_CLAUSES)

abbrev pub IsBody : List Word → Body → Type 0
IsBody words (Number number) = IsPair words (codes "num") (λ word. i64_of word ≡ Some number)
IsBody words (Text bytes) = IsPair words (codes "text") (IsTextWord bytes)

-- a state: `empty`, or a `v` with a version, and a body
abbrev pub IsState : List Word → State → Type 0
IsState words Empty = words ≡ codes "empty" ∷ []
IsState words (Held version body) = (digits : List ℕ) × (rest : List Word) × (u64_of digits ≡ Some version) × IsBody rest body × (words ≡ (codes "v" ++ digits) ∷ rest)
