-- Lemmas on what calls of a source gave.
use Rattle.std.proofs.Common.{◌≡◌, ◌≢◌, ℕ, zero, suc, ◌<◌, ◌≤◌, ◌==◌, true, false, ◌||◌, cond, List, [], ◌∷◌, ◌++◌, length, get_or, take, drop, Option, Some, None, Ok, refl, sym, ap, ◌∙◌, subst, arith, append_assoc, append-nil, take-append-drop}
use Rattle.std.specs.Prelude.{◌↔◌, ◌⊎◌, Result, Contains}
use Rattle.std.proofs.lemmas.List.{take_all}
use Rattle.std.proofs.lemmas.Bool.{ne_eqb, eq-eqb}
use Rattle.std.proofs.KnownBytes.{starts_with_rest}
use Rattle.std.specs.Io.{StartsWith}
use Rattle.std.specs.Io.BufRead.{take_through}
use Rattle.cas_lines.specs.Filling.{GrowsBy}
use Rattle.cas_lines.specs.Lines.{has_newline, text_of, room_behind, IsOpen, SourceGave, not_asked, asked, Heard, going, stopped, LineState, LinesState, Tells, TellsAtOnce}
use Rattle.cas_lines.proofs.FirstLines.{drop-length-take_through}
use Rattle.cas_lines.proofs.Newlines.{has_newline-front}
use Rattle.cas_lines.specs.Source.{Taken, Bytes, End, Fault, taken_of, bytes_of, call_after, MemorySourceState, GivesNext}
use Rattle.cas_lines.specs.declared.lines.LineFault.{LineFault}
use Rattle.cas_lines.specs.declared.lines.LineFault.TheVariants.{ReadFault, TooManyLines, Endless, NoMemory}
use Rattle.cas_lines.specs.declared.lines.TheConstants.{LINE_LIMIT, MOST_LINES}

-- ---- what one call gave
-- a call of a source over memory that answered took the front of its buffer
pub gives_front : (E : Type 0) (old new : MemorySourceState) (count : ℕ) (buf : List ℕ)
    → new.calls ≡ call_after old.calls → (Contains old.failing (call_after old.calls) → ⊥) → old.left ≡ take count buf ++ new.left → GivesNext old (taken_of {E = E} (Ok count) buf) new
gives_front E old new count buf counted fine next = record {
  counted = counted;
  fails = (λ failed. absurd (no_fault count buf failed), λ named. absurd (fine named));
  next = next ∙ ap (λ front. front ++ new.left) (sym (bytes_taken count buf));
}
  where
    bytes_taken : (count : ℕ) (buf : List ℕ) → bytes_of (taken_of {E = E} (Ok count) buf) ≡ take count buf
    bytes_taken zero [] = refl
    bytes_taken zero (byte ∷ buf) = refl
    bytes_taken (suc count) buf = refl

    no_fault : (count : ℕ) (buf : List ℕ) → taken_of {E = E} (Ok count) buf ≢ Fault
    no_fault zero [] = λ is. cc
    no_fault zero (byte ∷ buf) = λ is. cc
    no_fault (suc count) buf = λ is. cc

-- ---- filling up
-- the bytes held grew by what calls gave
pub record FilledUp {S : Type 0} (gives : S → Taken → S → Type 0) (room : ℕ) (old : List ℕ) (old_source : S) (held : List ℕ) (source : S) : Type 0 where
  pub more : List ℕ
  pub calls : SourceGave gives room old old_source more source
  pub grown : held ≡ old ++ more

pub gathered_nothing : {S : Type 0} (gives : S → Taken → S → Type 0) (room : ℕ) (held : List ℕ) (source : S) → FilledUp gives room held source held source
gathered_nothing gives room held source = record { more = []; calls = not_asked; grown = sym (append-nil held) }

-- no newline within the room, and no byte beyond it
pub is_open : (room : ℕ) (held : List ℕ) → has_newline (take room held) ≡ false → length held ≤ room → IsOpen room held
is_open room held none within = (sym (ap has_newline (take_all room held within)) ∙ none, within)

-- where nothing is held, there is neither
pub empty_open : (held : List ℕ) → length held ≡ 0 → IsOpen 0 held
empty_open [] none = (refl, omega arith)
empty_open (byte ∷ held) none = absurd (omega arith)

-- bytes that did not grow are the same
pub nothing_added : (old new : List ℕ) → StartsWith new old → length new ≡ length old → new ≡ old
nothing_added old new front same = sym (take_all (length old) new (omega arith)) ∙ front

-- one call more
pub gathered_more : {S : Type 0} (gives : S → Taken → S → Type 0) (room : ℕ) (old : List ℕ) (old_source : S) (held new : List ℕ) (mid new_source : S)
    → FilledUp gives room old old_source held mid → IsOpen room held → StartsWith new held → gives mid (Bytes (drop (length held) new)) new_source
    → FilledUp gives room old old_source new new_source
gathered_more gives room old old_source held new mid new_source g still front gave = record {
  more = g.more ++ drop (length held) new;
  calls = asked g.calls (subst (IsOpen room) g.grown still) gave;
  grown = starts_with_rest new held front ∙ ap (λ b. b ++ drop (length held) new) g.grown ∙ append_assoc old g.more (drop (length held) new);
}

-- the last call gave bytes
pub grows_on : {S : Type 0} (gives : S → Taken → S → Type 0) (room : ℕ) (old : List ℕ) (old_source : S) (Stops : Option Taken → Type 0) (held : List ℕ) (source : S)
    → FilledUp gives room old old_source held source → Stops None → GrowsBy gives room old old_source Stops held source
grows_on gives room old old_source Stops held source g stops = record { more = g.more; stop = None; heard = going g.calls; grown = g.grown; stops = stops }

-- the last call gave none
pub grows_to : {S : Type 0} (gives : S → Taken → S → Type 0) (room : ℕ) (old : List ℕ) (old_source : S) (Stops : Option Taken → Type 0) (held : List ℕ) (mid new_source : S) (last : Taken)
    → FilledUp gives room old old_source held mid → IsOpen room held → gives mid last new_source → Stops (Some last) → GrowsBy gives room old old_source Stops held new_source
grows_to gives room old old_source Stops held mid new_source last g still gave stops =
    record { more = g.more; stop = Some last; heard = stopped g.calls (subst (IsOpen room) g.grown still) gave; grown = g.grown; stops = stops }

-- the last call failed, or was not made for want of memory
pub grows_not : {S : Type 0} (gives : S → Taken → S → Type 0) (room : ℕ) (old : List ℕ) (old_source : S) (held : List ℕ) (mid new_source : S) (fault : LineFault)
    → FilledUp gives room old old_source held mid → IsOpen room held
    → (fault ≡ ReadFault → gives mid Fault new_source) → (fault ≡ NoMemory → new_source ≡ mid) → fault ≢ TooManyLines → ((line : ℕ) → fault ≢ Endless line)
    → GrowsBy gives room old old_source (λ stop. stop ≡ Some Fault ↔ fault ≡ ReadFault) held new_source
grows_not gives room old old_source held mid new_source ReadFault g still failed unasked few short =
    grows_to gives room old old_source _ held mid new_source Fault g still (failed refl) (λ _. refl, λ _. refl)
grows_not gives room old old_source held mid new_source TooManyLines g still failed unasked few short = absurd (few refl)
grows_not gives room old old_source held mid new_source (Endless line) g still failed unasked few short = absurd (short line refl)
grows_not gives room old old_source held mid new_source NoMemory g still failed unasked few short =
    grows_on gives room old old_source _ held new_source (subst (λ source. FilledUp gives room old old_source held source) (sym (unasked refl)) g) (λ is. cc, λ is. cc)

-- ---- what is told
pub tells : {S : Type 0} (gives : S → Taken → S → Type 0) (room : ℕ) (old new : LinesState) (source new_source : S) (Stops : Option Taken → Type 0) (held : List ℕ) (result : Result (Option LineState) LineFault)
    → GrowsBy gives room old.held source Stops held new_source → room ≡ room_behind old.handed → ((stop : Option Taken) → Stops stop → Tells held stop result new.held)
    → TellsAtOnce gives old source result new new_source
tells gives room old new source new_source Stops held result g is tell = record {
  more = g.more;
  stop = g.stop;
  heard = subst (λ n. Heard gives n old.held source g.more g.stop new_source) is g.heard;
  tells = subst (λ b. Tells b g.stop result new.held) g.grown (tell g.stop g.stops);
}

-- a line is told where its newline is there
pub tells_line : (bytes rest : List ℕ) (line : LineState) (stop : Option Taken) → rest ≡ drop (length (take_through 10 bytes)) bytes → line.bytes ≡ text_of bytes
    → ((stop ≡ None) × (has_newline bytes ≡ true)) ⊎ ((stop ≡ Some End) × (has_newline bytes ≡ false) × (0 < length bytes)) → Tells bytes stop (Ok (Some line)) rest
tells_line bytes rest line stop left text why = ((text, left ∙ drop-length-take_through bytes), why)

-- the room for a line, and behind the last one
pub room_for_line : (handed : ℕ) → handed ≢ MOST_LINES → LINE_LIMIT ≡ room_behind handed
room_for_line handed more = ap (λ b. cond b 0 LINE_LIMIT) (sym (ne_eqb handed MOST_LINES more))

pub room_for_end : (handed : ℕ) → handed ≡ MOST_LINES → 0 ≡ room_behind handed
room_for_end handed full = ap (λ b. cond b 0 LINE_LIMIT) (sym (eq-eqb handed MOST_LINES full))

-- where the source was stopped, it was open what comes next
stopped_open : {S : Type 0} (gives : S → Taken → S → Type 0) (room : ℕ) (held : List ℕ) (old : S) (more : List ℕ) (stop : Option Taken) (new : S)
    → Heard gives room held old more stop new → (last : Taken) → stop ≡ Some last → IsOpen room (held ++ more)
stopped_open gives room held old more stop new (going calls) last is = absurd cc
stopped_open gives room held old more stop new (stopped calls still gave) last is = still

-- behind the last line that may be, the input ended where nothing is held
pub nothing_held : {S : Type 0} (gives : S → Taken → S → Type 0) (old : List ℕ) (old_source : S) (Stops : Option Taken → Type 0) (new : List ℕ) (new_source : S)
    → GrowsBy gives 0 old old_source Stops new new_source → ((stop : Option Taken) → Stops stop → stop ≡ Some End) → new ≡ []
nothing_held gives old old_source Stops new new_source g ends =
    g.grown ∙ empty (old ++ g.more) (stopped_open gives 0 old old_source g.more g.stop new_source g.heard End (ends g.stop g.stops)).1
  where
    empty : (bytes : List ℕ) → length bytes ≤ 0 → bytes ≡ []
    empty [] none = refl
    empty (byte ∷ bytes) none = absurd (omega arith)

-- a newline at some place
pub newline_at : (at : ℕ) (bytes : List ℕ) → at < length bytes → get_or bytes at 0 ≡ 10 → has_newline bytes ≡ true
newline_at at [] inside is = absurd (omega arith)
newline_at zero (byte ∷ bytes) inside is = ap (λ b. (b == 10) || has_newline bytes) is
newline_at (suc at) (byte ∷ bytes) inside is =
    elim (byte == 10) as (λ b. (b || has_newline bytes) ≡ true) [ true ↦ refl | false ↦ newline_at at bytes (omega arith) is ]

-- a newline among the first bytes
pub newline_in_front : (room : ℕ) (bytes : List ℕ) → has_newline (take room bytes) ≡ true → has_newline bytes ≡ true
newline_in_front room bytes some = ap has_newline (sym (take-append-drop room bytes)) ∙ has_newline-front (take room bytes) (drop room bytes) some
