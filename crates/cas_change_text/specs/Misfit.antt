-- The first word of a text that does not fit.
use Rattle.std.specs.Prelude.{◌≡◌, ℕ, List, [], ◌∷◌, ◌++◌, length}
use Rattle.cas_change.specs.declared.program.Clause.{Clause}
use Rattle.cas_change.specs.declared.state.State.{State}
use Rattle.cas_change_text.specs.Grammar.{IsClauses, IsProgram, IsState}
use Rattle.cas_change_text.specs.Words.{Word}

-- some text begins with these words
abbrev pub BeginsText : (List Word → Type 0) → List Word → Type 0
BeginsText Text words = (rest : List Word) × Text (words ++ rest)

-- these words break off before what follows: they are no whole text where nothing does, and else no text begins with
-- them and the word that follows
abbrev pub BreaksOff : (List Word → Type 0) → List Word → List Word → Type 0
BreaksOff Text before [] = Text before → ⊥
BreaksOff Text before (word ∷ rest) = BeginsText Text (before ++ word ∷ []) → ⊥

-- the first word that fits no text stands at this place, or is missing there: the words before it begin one, where a limit
-- to the number of parts is passed over, and with it they begin none
pub record IsFirstMisfit (Unlimited Text : List Word → Type 0) (words : List Word) (place : ℕ) : Type 0 where
  pub before : List Word
  pub rest : List Word
  pub split : words ≡ before ++ rest
  pub stands : place ≡ length before
  pub begins : BeginsText Unlimited before
  pub breaks_off : BreaksOff Text before rest

-- the words of a program, of any number of clauses, and of a state
abbrev pub AreProgram : List Word → Type 0
AreProgram words = (program : List Clause) × IsProgram words program

abbrev pub AreClauses : List Word → Type 0
AreClauses words = (clauses : List Clause) × IsClauses words clauses

abbrev pub AreState : List Word → Type 0
AreState words = (state : State) × IsState words state
