-- A script's run, up to some line.
use Rattle.std.proofs.Common.{◌≡◌, ℕ, suc, ◌+◌, ◌<◌, List, [], ◌∷◌, ◌++◌, length, arith, length-append, append_assoc, refl, sym, ap, ◌∙◌, subst}
use Rattle.std.specs.Prelude.{Option, Some, None, Ok, IfSome}
use Rattle.std.specs.Io.KnownBytes.{IsAtEnd, Appends}
use Rattle.std.proofs.lemmas.List.{append-nil}
use Rattle.cas_lines.specs.declared.lines.TheConstants.{MOST_LINES}
use Rattle.cas_lines.specs.Lines.{Whole, TooMany, TooLong, ending_of, LineState, LinesState, ahead, HandsOut, HasMore, IsLongLine, TellsAtOnce, HasHandedOut}
use Rattle.cas_lines.specs.Source.{Taken}
use Rattle.cas_lines.proofs.Told.{HandsOutTold, hands_nothing, hands_told}
use Rattle.cas_lines.proofs.WholeRuns.{HasHandedOut-nothing, HasHandedOut-line, HasHandedOut-end, HasHandedOut-too_many, HasHandedOut-endless}
use Rattle.cas_model.specs.View.{Meaning}
use Rattle.casreg_script.specs.Stage.{Stage}
use Rattle.casreg_script.specs.Script.{State, IsInState, LineAnswer, IsAnswered, ScriptRun, none, one_more, text_of, transcript_of}

-- some lines of the input were handed out, and as many were counted, run and answered
pub record IsScriptMidway {S H V : Type 0} (gives : S → Taken → S → Type 0) (meant : Meaning H V) (tries : ℕ) (first : State H V) (start source : S) (input : Option (List ℕ)) (reader : LinesState) (left old new : Option (List ℕ)) (world : State H V) : Type 0 where
  pub lines : List (List ℕ)
  pub handed_out : HasHandedOut input lines reader left
  pub told : HandsOutTold gives start lines reader.held source
  pub counted : reader.handed ≡ length lines
  pub answers : List LineAnswer
  pub run : ScriptRun meant tries first lines answers world
  pub written : Appends old new (transcript_of 1 answers)

-- and the script is in the state that they led to
pub record IsMidwayIn {S H V : Type 0} (gives : S → Taken → S → Type 0) (meant : Meaning H V) (tries : ℕ) (first : State H V) (start source : S) (input : Option (List ℕ)) (reader : LinesState) (left old new : Option (List ℕ)) (stage : Stage H V) : Type 0 where
  pub state : State H V
  pub is_in : IsInState stage state
  pub midway : IsScriptMidway gives meant tries first start source input reader left old new state

-- ---- transcripts
-- each line has one answer
as_many : {S V : Type 0} {meant : Meaning S V} {tries : ℕ} {old new : State S V} {lines : List (List ℕ)} {answers : List LineAnswer} → ScriptRun meant tries old lines answers new → length answers ≡ length lines
as_many none = refl
as_many (one_more {lines = lines} {answers = answers} line answer run is) = omega (arith, as_many run, length-append lines (line ∷ []), length-append answers (answer ∷ []))

-- one answer more
transcript_push : (number : ℕ) (answers : List LineAnswer) (answer : LineAnswer)
    → transcript_of number (answers ++ answer ∷ []) ≡ transcript_of number answers ++ text_of (number + length answers) answer
transcript_push number [] answer = append-nil (text_of number answer) ∙ ap (λ n. text_of n answer) (omega arith)
transcript_push number (first ∷ later) answer =
    let rest : transcript_of (suc number) (later ++ answer ∷ []) ≡ transcript_of (suc number) later ++ text_of (suc number + length later) answer = transcript_push (suc number) later answer in
    let place : suc number + length later ≡ number + length (first ∷ later) = omega arith in
    ap (λ text. text_of number first ++ text) (rest ∙ ap (λ n. transcript_of (suc number) later ++ text_of n answer) place)
    ∙ sym (append_assoc (text_of number first) (transcript_of (suc number) later) (text_of (number + length (first ∷ later)) answer))

pub transcript_more : {S V : Type 0} {meant : Meaning S V} {tries : ℕ} {old new : State S V} {lines : List (List ℕ)} {answers : List LineAnswer} (answer : LineAnswer) (number : ℕ) → ScriptRun meant tries old lines answers new → number ≡ length lines + 1
    → transcript_of 1 (answers ++ answer ∷ []) ≡ transcript_of 1 answers ++ text_of number answer
transcript_more {answers = answers} answer number run e =
    transcript_push 1 answers answer ∙ ap (λ n. transcript_of 1 answers ++ text_of n answer) (omega (arith, e, as_many run))

-- ---- what a sink holds
pub appends_nothing : (held : Option (List ℕ)) → Appends held held []
appends_nothing None = tt
appends_nothing (Some xs) = sym (append-nil xs)

pub appends_both : (a b c : Option (List ℕ)) (first second : List ℕ) → Appends a b first → Appends b c second → Appends a c (first ++ second)
appends_both None b c first second p q = tt
appends_both (Some xs) None c first second p q = absurd p
appends_both (Some xs) (Some ys) None first second p q = absurd q
appends_both (Some xs) (Some ys) (Some zs) first second p q = q ∙ ap (λ front. front ++ second) p ∙ append_assoc xs first second

-- ---- midway
pub midway-nothing : {S H V : Type 0} (gives : S → Taken → S → Type 0) (meant : Meaning H V) (tries : ℕ) (first : State H V) (start : S) (input : Option (List ℕ)) (reader : LinesState) (held : Option (List ℕ)) (world : State H V) → reader.held ≡ [] → reader.handed ≡ 0 → world ≡ first
    → IsScriptMidway gives meant tries first start start input reader input held held world
midway-nothing gives meant tries first start input reader held world empty handed new = record {
  lines = [];
  handed_out = HasHandedOut-nothing input reader empty;
  told = hands_nothing gives start reader.held empty;
  counted = handed;
  answers = [];
  run = subst (ScriptRun meant tries first [] []) (sym new) none;
  written = appends_nothing held;
}

-- the next line, which is still to be run
pub record IsNextLine {S H V : Type 0} (gives : S → Taken → S → Type 0) (meant : Meaning H V) (tries : ℕ) (first : State H V) (start source : S) (input : Option (List ℕ)) (reader : LinesState) (left old held : Option (List ℕ)) (world : State H V) (line : List ℕ) (number : ℕ) : Type 0 where
  pub lines : List (List ℕ)
  pub handed_out : HasHandedOut input (lines ++ line ∷ []) reader left
  pub told : HandsOutTold gives start (lines ++ line ∷ []) reader.held source
  pub counted : number ≡ length lines + 1
  pub handed : reader.handed ≡ number
  pub answers : List LineAnswer
  pub run : ScriptRun meant tries first lines answers world
  pub written : Appends old held (transcript_of 1 answers)

pub midway-next : {S H V : Type 0} (gives : S → Taken → S → Type 0) (meant : Meaning H V) (tries : ℕ) (first : State H V) (start source new_source : S) (input left new_left held_old held : Option (List ℕ)) (old new : LinesState) (world : State H V) (line : LineState)
    → IsScriptMidway gives meant tries first start source input old left held_old held world
    → HandsOut old new left new_left line.bytes → TellsAtOnce gives old source (Ok (Some line)) new new_source → old.handed < MOST_LINES → line.number ≡ old.handed + 1 → new.handed ≡ line.number
    → IsNextLine gives meant tries first start new_source input new new_left held_old held world line.bytes line.number
midway-next gives meant tries first start source new_source input left new_left held_old held old new world line at out at_once few number_is handed = record {
  lines = at.lines;
  told = hands_told gives start at.lines old new line source new_source at.told at_once;
  handed_out = HasHandedOut-line input left new_left at.lines old new line.bytes at.handed_out out (omega (arith, few, at.counted));
  counted = omega (arith, number_is, at.counted);
  handed = handed;
  answers = at.answers;
  run = at.run;
  written = at.written;
}

pub midway-line : {S H V : Type 0} (gives : S → Taken → S → Type 0) (meant : Meaning H V) (tries : ℕ) (first : State H V) (start source : S) (input left old held new : Option (List ℕ)) (reader : LinesState) (world after : State H V) (line : List ℕ) (number : ℕ) (answer : LineAnswer) (text : List ℕ)
    → IsNextLine gives meant tries first start source input reader left old held world line number → IsAnswered meant tries world line answer after → text ≡ text_of number answer → Appends held new text
    → IsScriptMidway gives meant tries first start source input reader left old new after
midway-line gives meant tries first start source input left old held new reader world after line number answer text n is text_is appended = record {
  lines = n.lines ++ line ∷ [];
  handed_out = n.handed_out;
  told = n.told;
  counted = omega (arith, n.handed, n.counted, length-append n.lines (line ∷ []));
  answers = n.answers ++ answer ∷ [];
  run = one_more line answer n.run is;
  written = subst (Appends old new) (ap (λ t. transcript_of 1 n.answers ++ t) text_is ∙ sym (transcript_more answer number n.run n.counted))
      (appends_both old held new (transcript_of 1 n.answers) text n.written appended);
}

pub midway-end : {S H V : Type 0} (gives : S → Taken → S → Type 0) (meant : Meaning H V) (tries : ℕ) (first : State H V) (start source : S) (input left old new : Option (List ℕ)) (reader : LinesState) (world : State H V) → IsScriptMidway gives meant tries first start source input reader left old new world → IsAtEnd (ahead reader left)
    → IfSome input (λ bytes. ending_of bytes ≡ Whole)
midway-end gives meant tries first start source None left old new reader world at end = tt
midway-end gives meant tries first start source (Some bytes) left old new reader world at end = (HasHandedOut-end (Some bytes) left at.lines reader at.handed_out end).0

pub midway-too_many : {S H V : Type 0} (gives : S → Taken → S → Type 0) (meant : Meaning H V) (tries : ℕ) (first : State H V) (start source : S) (input left old new : Option (List ℕ)) (reader : LinesState) (world : State H V) → IsScriptMidway gives meant tries first start source input reader left old new world → (reader.handed ≡ MOST_LINES) × HasMore reader left
    → IfSome input (λ bytes. ending_of bytes ≡ TooMany)
midway-too_many gives meant tries first start source input left old new reader world at full =
    HasHandedOut-too_many input left at.lines reader at.handed_out (omega (arith, at.counted, full.0)) full.1

pub midway-endless : {S H V : Type 0} (gives : S → Taken → S → Type 0) (meant : Meaning H V) (tries : ℕ) (first : State H V) (start source : S) (input left old new : Option (List ℕ)) (reader : LinesState) (world : State H V) (number : ℕ) → IsScriptMidway gives meant tries first start source input reader left old new world
    → (number ≡ reader.handed + 1) × (reader.handed < MOST_LINES) × IsLongLine reader left → IfSome input (λ bytes. ending_of bytes ≡ TooLong number)
midway-endless gives meant tries first start source input left old new reader world number at long =
    HasHandedOut-endless input left at.lines reader number at.handed_out (omega (arith, long.1, at.counted)) long.2 (omega (arith, long.0, at.counted))
