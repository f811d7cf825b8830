-- The lines of an input, and what a reader of lines has before it.
use Rattle.std.specs.Prelude.{◌≡◌, ◌⊎◌, ◌↔◌, ℕ, suc, ◌+◌, ◌<◌, ◌≤◌, Bool, true, false, ◌&&◌, ◌==◌, nat_lt, if◌then◌else◌, List, [], ◌∷◌, ◌++◌, length, Option, Some, None, Result, Ok, Err, IfSome, IsSomeAnd}
use Rattle.std.specs.List.{list_any, position_or_len}
use Rattle.std.specs.Io.BufRead.{drop_through}
use Rattle.std.specs.Io.KnownBytes.{prepend_known}
use Rattle.cas_lines.specs.Source.{Taken, Bytes, End, Fault}
use Rattle.cas_lines.specs.declared.lines.LineFault.{LineFault}
use Rattle.cas_lines.specs.declared.lines.LineFault.TheVariants.{ReadFault}
use Rattle.cas_lines.specs.declared.lines.TheConstants.{LINE_LIMIT, MOST_LINES}

-- some byte is a newline
abbrev pub has_newline : List ℕ → Bool
has_newline bytes = list_any (λ byte. byte == 10) bytes

-- the next byte is a newline
abbrev pub is_at_newline : List ℕ → Bool
is_at_newline [] = false
is_at_newline (byte ∷ _) = byte == 10

-- the text of the first line: up to its newline, without one carriage return right before that
abbrev pub text_of : List ℕ → List ℕ
text_of [] = []
text_of (byte ∷ bytes) = if byte == 10 then [] else (if (byte == 13) && is_at_newline bytes then [] else byte ∷ text_of bytes)

-- the byte begins the first of these lines. Where there is none, it is a line of its own
abbrev pub onto_first : ℕ → List (List ℕ) → List (List ℕ)
onto_first byte [] = (byte ∷ []) ∷ []
onto_first byte (line ∷ lines) = (byte ∷ line) ∷ lines

-- the lines of an input. A newline ends a line, and one carriage return right before it is dropped. What follows the
-- last newline is a line where it has a byte
abbrev pub lines_of : List ℕ → List (List ℕ)
lines_of [] = []
lines_of (byte ∷ bytes) = if byte == 10 then [] ∷ lines_of bytes
    else (if (byte == 13) && is_at_newline bytes then lines_of bytes else onto_first byte (lines_of bytes))

-- how many bytes stand before the first newline
abbrev pub first_len : List ℕ → ℕ
first_len bytes = position_or_len (λ byte. byte == 10) bytes

-- ---- how an input ends
-- one byte more in the first of these lines. Where there is none, it is a line of its own
abbrev pub longer_first : List ℕ → List ℕ
longer_first [] = 1 ∷ []
longer_first (len ∷ lens) = (1 + len) ∷ lens

-- how many bytes each line has before its newline
abbrev pub line_lens : List ℕ → List ℕ
line_lens [] = []
line_lens (byte ∷ bytes) = if byte == 10 then 0 ∷ line_lens bytes else longer_first (line_lens bytes)

-- where the reading of an input ends: at its own end, at the first line beyond the most that there may be, or at the
-- line of this number, which is the first that is too long
pub data Ending : Type 0 where
  Whole : Ending
  TooMany : Ending
  TooLong : ℕ → Ending

-- the same by how many lines come before, and how long those are that follow
unfoldable pub ending_from : ℕ → List ℕ → Ending
ending_from before [] = Whole
ending_from before (len ∷ lens) = if before == MOST_LINES then TooMany
    else (if nat_lt LINE_LIMIT len then TooLong (suc before) else ending_from (suc before) lens)

abbrev pub ending_of : List ℕ → Ending
ending_of input = ending_from 0 (line_lens input)

-- ---- readers
-- what callers see of a line: its number, counted from 1, and its text
pub record LineState : Type 0 where
  pub number : ℕ
  pub bytes : List ℕ

-- what callers see of a reader of lines: the bytes taken and not handed out, and how many lines were handed out
pub record LinesState : Type 0 where
  pub held : List ℕ
  pub handed : ℕ

-- the bytes that are not handed out, where the source tells what it has left
abbrev pub ahead : LinesState → Option (List ℕ) → Option (List ℕ)
ahead reader left = prepend_known reader.held left

-- the first line of the bytes, which fits, and the bytes behind it
pub record IsFirstLine (bytes rest line : List ℕ) : Type 0 where
  pub first : lines_of bytes ≡ line ∷ lines_of rest
  pub behind : rest ≡ drop_through 10 bytes
  pub some : 0 < length bytes
  pub fits : first_len bytes ≤ LINE_LIMIT

-- the first line of what was ahead went out, where that is known
abbrev pub HandsOut : LinesState → LinesState → Option (List ℕ) → Option (List ℕ) → List ℕ → Type 0
HandsOut old new left new_left line =
    IfSome (ahead old left) (λ bytes. IsSomeAnd (ahead new new_left) (λ rest. IsFirstLine bytes rest line))

-- the next line is longer than a line may be
abbrev pub IsLongLine : LinesState → Option (List ℕ) → Type 0
IsLongLine reader left = IfSome (ahead reader left) (λ bytes. LINE_LIMIT < first_len bytes)

-- a byte is ahead
abbrev pub HasMore : LinesState → Option (List ℕ) → Type 0
HasMore reader left = IfSome (ahead reader left) (λ bytes. 0 < length bytes)

-- ---- what the source is asked
-- how many bytes may be held while it is open what comes next: those of a line, or none behind the last line that may be
abbrev pub room_behind : ℕ → ℕ
room_behind handed = if handed == MOST_LINES then 0 else LINE_LIMIT

-- it is open what comes next: no newline is there, and no byte beyond the room
abbrev pub IsOpen : ℕ → List ℕ → Type 0
IsOpen room bytes = (has_newline bytes ≡ false) × (length bytes ≤ room)

-- a source was asked for what follows the bytes held, each time only while it was open what comes next. It gave these
pub data SourceGave {S : Type 0} (gives : S → Taken → S → Type 0) (room : ℕ) (held : List ℕ) (old : S) : List ℕ → S → Type 0 where
  not_asked : SourceGave gives room held old [] old
  asked : {more bytes : List ℕ} {mid new : S} → SourceGave gives room held old more mid → IsOpen room (held ++ more) → gives mid (Bytes bytes) new → SourceGave gives room held old (more ++ bytes) new

-- the same up to the end of the input or a fault, where the last call told one
pub data Heard {S : Type 0} (gives : S → Taken → S → Type 0) (room : ℕ) (held : List ℕ) (old : S) : List ℕ → Option Taken → S → Type 0 where
  going : {more : List ℕ} {new : S} → SourceGave gives room held old more new → Heard gives room held old more None new
  stopped : {more : List ℕ} {mid new : S} {last : Taken} → SourceGave gives room held old more mid → IsOpen room (held ++ more) → gives mid last new → Heard gives room held old more (Some last) new

-- the text of the first line of the bytes, and what follows it
abbrev pub IsTextOf : List ℕ → List ℕ → List ℕ → Type 0
IsTextOf bytes line rest = (line ≡ text_of bytes) × (rest ≡ drop_through 10 bytes)

-- what a reader tells by the bytes ahead and by what stopped its source, and which bytes it holds then: a line whose
-- newline is there or behind whose bytes the input ended, the end of the input, or a fault, which is the source's exactly
-- where that one failed
abbrev pub Tells : List ℕ → Option Taken → Result (Option LineState) LineFault → List ℕ → Type 0
Tells bytes stop (Ok (Some line)) rest =
    IsTextOf bytes line.bytes rest × (((stop ≡ None) × (has_newline bytes ≡ true)) ⊎ ((stop ≡ Some End) × (has_newline bytes ≡ false) × (0 < length bytes)))
Tells bytes stop (Ok None) rest = (stop ≡ Some End) × (bytes ≡ []) × (rest ≡ [])
Tells bytes stop (Err fault) rest = (stop ≡ Some Fault ↔ fault ≡ ReadFault) × (rest ≡ bytes)

-- what a reader tells after it asked its source only while it was open what comes next
pub record TellsAtOnce {S : Type 0} (gives : S → Taken → S → Type 0) (old : LinesState) (old_source : S) (result : Result (Option LineState) LineFault) (new : LinesState) (new_source : S) : Type 0 where
  pub more : List ℕ
  pub stop : Option Taken
  pub heard : Heard gives (room_behind old.handed) old.held old_source more stop new_source
  pub tells : Tells (old.held ++ more) stop result new.held

-- ---- whole runs
-- of an input these lines were handed out, and these bytes are still ahead
pub record HasRead (input : List ℕ) (lines : List (List ℕ)) (rest : List ℕ) : Type 0 where
  pub lines_split : lines_of input ≡ lines ++ lines_of rest
  pub ends_alike : ending_of input ≡ ending_from (length lines) (line_lens rest)

-- the same of a reader, where it is known what the input was
abbrev pub HasHandedOut : Option (List ℕ) → List (List ℕ) → LinesState → Option (List ℕ) → Type 0
HasHandedOut start lines reader left = IfSome start (λ input. IsSomeAnd (ahead reader left) (λ rest. HasRead input lines rest))

-- ---- what a source told in a whole run
-- by the ends that it told a source ended these lines, and it gave these bytes since the last of them
pub data HasTold {S : Type 0} (gives : S → Taken → S → Type 0) (old : S) : List (List ℕ) → List ℕ → S → Type 0 where
  told_nothing : HasTold gives old [] [] old
  told_bytes : {lines : List (List ℕ)} {bytes more : List ℕ} {mid new : S} → HasTold gives old lines bytes mid → gives mid (Bytes more) new → HasTold gives old lines (bytes ++ more) new
  told_end : {lines : List (List ℕ)} {bytes : List ℕ} {mid new : S} → HasTold gives old lines bytes mid → gives mid End new → HasTold gives old (lines ++ lines_of bytes) [] new

-- these lines end within the bytes, whatever follows, and the rest has no newline
pub record EndWithin (bytes : List ℕ) (lines : List (List ℕ)) (rest : List ℕ) : Type 0 where
  pub split : (later : List ℕ) → lines_of (bytes ++ later) ≡ lines ++ lines_of (rest ++ later)
  pub none : has_newline rest ≡ false

-- the last call of a source failed, and these are all lines whose end it told before, be it a newline or the end of the input
pub record FailsBehind {S : Type 0} (gives : S → Taken → S → Type 0) (old new : S) (lines : List (List ℕ)) : Type 0 where
  pub told : List (List ℕ)
  pub bytes : List ℕ
  pub mid : S
  pub calls : HasTold gives old told bytes mid
  pub fails : gives mid Fault new
  pub ended : List (List ℕ)
  pub rest : List ℕ
  pub within : EndWithin bytes ended rest
  pub all : lines ≡ told ++ ended
