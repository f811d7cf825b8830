-- What was written by the end of a run.
use Rattle.std.proofs.Common.{◌≡◌, ℕ, suc, ◌+◌, ◌<◌, List, [], ◌∷◌, ◌++◌, length, take, drop, arith, append_assoc, refl, sym, ap, ◌∙◌, subst, Err}
use Rattle.std.specs.Prelude.{◌⊎◌, reverse, Option, Some, None, Result, IfErr, IfSome}
use mathlib.Core.Logic.{inl, inr}
use Rattle.std.specs.Io.KnownBytes.{IsAtEnd}
use Rattle.std.proofs.lemmas.List.{append-nil, take-append-drop}
use Rattle.cas_lines.specs.declared.lines.LineFault.{LineFault}
use Rattle.cas_lines.specs.declared.lines.LineFault.TheVariants as fault
use Rattle.cas_lines.specs.declared.lines.TheConstants.{MOST_LINES}
use Rattle.cas_lines.specs.Lines.{lines_of, Ending, Whole, TooMany, TooLong, ending_of, LinesState, ahead, HasHandedOut, HasMore, IsLongLine, TellsAtOnce, FailsBehind}
use Rattle.cas_lines.specs.Source.{Taken}
use Rattle.cas_lines.proofs.Told.{fails_told}
use Rattle.cas_lines.specs.Sink.{AppendsFront}
use Rattle.cas_lines.proofs.WholeRuns.{HasHandedOut-end}
use Rattle.casreg_command.specs.declared.status.Status.{Status}
use Rattle.casreg_command.specs.declared.status.Status.TheVariants as status
use Rattle.cas_disk_shelf.specs.declared.shelf.DiskShelf.{DiskShelf}
use Rattle.cas_record.specs.Legal.{IsLegal}
use Rattle.cas_record.specs.declared.mark.Mark.{Mark}
use Rattle.cas_model.specs.View.{View}
use Rattle.cas_world.specs.Openings.Opening.{disks_of}
use Rattle.cas_world.specs.declared.fault.OpenFault.{OpenFault}
use Rattle.cas_world.specs.declared.fault.OpenFault.TheVariants as opening
use Rattle.cas_store.specs.Kept.{AreHeld, AreKept}
use Rattle.cas_store.specs.Rack.{RackMeaning, IsAllEmpty}
use Rattle.cas_store.specs.Store.{acceptor_disks, StaysClosed}
use Rattle.cas_store.specs.declared.rack.Rack.{Rack}
use Rattle.casreg_script.specs.Stage.{Stage}
use Rattle.casreg_script.specs.declared.load.Load.{Load}
use Rattle.casreg_command.specs.Causes.{AnswersTo, AreFirstLines, WroteIn, EndsIn, TellsWhyClosed, IsRackOf, Ran, RanLeaving, LoadedLeaving, LoadedOver, WroteSummary, WentIn, CameOut, NothingRan, WroteBy, Wrote, no_words_read, not_opened, not_empty, not_begun, no_board, status_of, LoadEnds, whole, sink_failed, no_text, broke_off}
use Rattle.cas_model.specs.View.{Meaning}
use Rattle.casreg_script.specs.Script.{State, opening_state, AnswersLine, RanOrNot, not_run, ran, one_more, text_of, transcript_of}
use Rattle.casreg_command.specs.Status.{status_of_fault, status_of_opening}
use Rattle.casreg_command.specs.declared.words.LoadOptions.{LoadOptions}
use Rattle.casreg_command.specs.declared.words.Options.{Options}
use Rattle.casreg_command.specs.declared.words.Request.{Request}
use Rattle.casreg_command.specs.declared.words.Request.TheVariants as request
use Rattle.casreg_command.proofs.Marked.{behind_holds}
use Rattle.casreg_command.proofs.Runs.{IsScriptMidway, IsMidwayIn, IsNextLine, appends_both, transcript_more, midway-too_many, midway-endless}

-- what holds of the error holds of the result that has it
pub if_err : {T E : Type 0} (r : Result T E) (e : E) (P : E → Type 0) → r ≡ Err e → P e → IfErr r P
if_err r e P is p = subst (λ (x : Result _ _). IfErr x P) (sym is) p

-- ---- which lines were answered
handed_first : (input left : Option (List ℕ)) (lines : List (List ℕ)) (reader : LinesState) → HasHandedOut input lines reader left → AreFirstLines input lines
handed_first None left lines reader h = tt
handed_first (Some bytes) None lines reader h = absurd h
handed_first (Some bytes) (Some rest) lines reader h = (lines_of (reader.held ++ rest), h.lines_split)

-- a front of the first lines are first lines
front_first : (input : Option (List ℕ)) (lines : List (List ℕ)) (line : List ℕ) → AreFirstLines input (lines ++ line ∷ []) → AreFirstLines input lines
front_first None lines line first = tt
front_first (Some bytes) lines line first = (line ∷ first.0, first.1 ∙ append_assoc lines (line ∷ []) first.0)

handed_all : (input left : Option (List ℕ)) (lines : List (List ℕ)) (reader : LinesState) → HasHandedOut input lines reader left → IsAtEnd (ahead reader left)
    → IfSome input (λ bytes. lines ≡ lines_of bytes)
handed_all None left lines reader h end = tt
handed_all (Some bytes) left lines reader h end = (HasHandedOut-end (Some bytes) left lines reader h end).1

-- ---- ends
midway_to : {S H V : Type 0} (gives : S → Taken → S → Type 0) (meant : Meaning H V) (tries : ℕ) (first : State H V) (start source : S) (P : List (List ℕ) → Type 0) (input left old new : Option (List ℕ)) (reader : LinesState) (world : State H V) → (at : IsScriptMidway gives meant tries first start source input reader left old new world) → P at.lines
    → AnswersTo meant tries P input old new first world
midway_to gives meant tries first start source P input left old new reader world at holds = record {
  lines = at.lines;
  of_input = handed_first input left at.lines reader at.handed_out;
  are = holds;
  answers = at.answers;
  run = at.run;
  written = at.written;
}

pub wrote_all : {S H V : Type 0} (gives : S → Taken → S → Type 0) (meant : Meaning H V) (tries : ℕ) (first : State H V) (start source : S) (input left old new : Option (List ℕ)) (reader : LinesState) (world : State H V) → IsScriptMidway gives meant tries first start source input reader left old new world → IsAtEnd (ahead reader left)
    → AnswersTo meant tries (λ lines. IfSome input (λ bytes. lines ≡ lines_of bytes)) input old new first world
wrote_all gives meant tries first start source input left old new reader world at end =
    midway_to gives meant tries first start source (λ lines. IfSome input (λ bytes. lines ≡ lines_of bytes)) input left old new reader world at (handed_all input left at.lines reader at.handed_out end)

-- the next line could not be read
pub wrote_fault : {S H V : Type 0} (gives : S → Taken → S → Type 0) (meant : Meaning H V) (tries : ℕ) (first : State H V) (start source new_source : S) (input left old new : Option (List ℕ)) (reader new_reader : LinesState) (world : State H V) (f : LineFault) → IsScriptMidway gives meant tries first start source input reader left old new world
    → (f ≡ fault.TooManyLines → (reader.handed ≡ MOST_LINES) × HasMore reader left)
    → ((line : ℕ) → f ≡ fault.Endless line → (line ≡ reader.handed + 1) × (reader.handed < MOST_LINES) × IsLongLine reader left)
    → TellsAtOnce gives reader source (Err f) new_reader new_source
    → WroteIn meant tries (FailsBehind gives start new_source) input old new first world (status_of_fault f)
wrote_fault gives meant tries first start source new_source input left old new reader new_reader world fault.ReadFault at many endless at_once = midway_to gives meant tries first start source (FailsBehind gives start new_source) input left old new reader world at
    (fails_told gives start at.lines reader new_reader source new_source at.told at_once)
wrote_fault gives meant tries first start source new_source input left old new reader new_reader world fault.TooManyLines at many endless at_once =
    midway_to gives meant tries first start source (λ lines. length lines ≡ MOST_LINES) input left old new reader world at (omega (arith, (many refl).0, at.counted))
wrote_fault gives meant tries first start source new_source input left old new reader new_reader world (fault.Endless line) at many endless at_once =
    midway_to gives meant tries first start source (λ lines. suc (length lines) ≡ line) input left old new reader world at (omega (arith, (endless line refl).0, at.counted))
wrote_fault gives meant tries first start source new_source input left old new reader new_reader world fault.NoMemory at many endless at_once = record {
  lines = at.lines;
  of_input = handed_first input left at.lines reader at.handed_out;
  answers = at.answers;
  run = at.run;
  front = transcript_of 1 at.answers;
  rest = [];
  is_front = sym (append-nil (transcript_of 1 at.answers));
  written = at.written;
}

-- there was no memory for the answer of the next line
pub wrote_no_answer : {S H V : Type 0} (gives : S → Taken → S → Type 0) (meant : Meaning H V) (tries : ℕ) (first : State H V) (start source : S) (P : List (List ℕ) → Type 0) (input left old new : Option (List ℕ)) (reader : LinesState) (state : State H V) (stage : Stage H V) (line : List ℕ) (number : ℕ) → IsNextLine gives meant tries first start source input reader left old new state line number
    → RanOrNot meant tries state line stage → EndsIn meant tries P input old new first stage status.NoMemory
wrote_no_answer gives meant tries first start source P input left old new reader state stage line number n (not_run is_in) = record {
  last = state;
  is_in = is_in;
  wrote = record {
    lines = n.lines;
    of_input = front_first input n.lines line (handed_first input left (n.lines ++ line ∷ []) reader n.handed_out);
    answers = n.answers;
    run = n.run;
    front = transcript_of 1 n.answers;
    rest = [];
    is_front = sym (append-nil (transcript_of 1 n.answers));
    written = n.written;
  };
}
wrote_no_answer gives meant tries first start source P input left old new reader state stage line number n (ran answer after is_in is) = record {
  last = after;
  is_in = is_in;
  wrote = record {
    lines = n.lines ++ line ∷ [];
    of_input = handed_first input left (n.lines ++ line ∷ []) reader n.handed_out;
    answers = n.answers ++ answer ∷ [];
    run = one_more line answer n.run is;
    front = transcript_of 1 n.answers;
    rest = text_of number answer;
    is_front = transcript_more answer number n.run n.counted;
    written = n.written;
  };
}

-- the answer of the next line could not be written whole
pub wrote_front : {S H V : Type 0} (gives : S → Taken → S → Type 0) (meant : Meaning H V) (tries : ℕ) (first : State H V) (start source : S) (P : List (List ℕ) → Type 0) (input left old held new : Option (List ℕ)) (reader : LinesState) (state : State H V) (stage : Stage H V) (line : List ℕ) (number : ℕ) (text : List ℕ)
    → IsNextLine gives meant tries first start source input reader left old held state line number → AnswersLine meant tries state line number text stage
    → AppendsFront held new text → EndsIn meant tries P input old new first stage status.WriteFault
wrote_front gives meant tries first start source P input left old held new reader state stage line number text n a part = record {
  last = a.new;
  is_in = a.is_in;
  wrote = record {
    lines = n.lines ++ line ∷ [];
    of_input = handed_first input left (n.lines ++ line ∷ []) reader n.handed_out;
    answers = n.answers ++ a.answer ∷ [];
    run = one_more line a.answer n.run a.run;
    front = transcript_of 1 n.answers ++ take part.0 text;
    rest = drop part.0 text;
    is_front = transcript_more a.answer number n.run n.counted ∙ ap (λ t. transcript_of 1 n.answers ++ t) (sym a.text_is ∙ sym (take-append-drop part.0 text))
        ∙ sym (append_assoc (transcript_of 1 n.answers) (take part.0 text) (drop part.0 text));
    written = appends_both old held new (transcript_of 1 n.answers) (take part.0 text) n.written part.2;
  };
}

-- ---- results
-- what a run wrote whose script is in the state that its lines led to
pub ends_all : {S H V : Type 0} (gives : S → Taken → S → Type 0) (meant : Meaning H V) (tries : ℕ) (first : State H V) (start source : S) (P : List (List ℕ) → Type 0) (input left old new : Option (List ℕ)) (reader : LinesState) (stage : Stage H V) → IsMidwayIn gives meant tries first start source input reader left old new stage → IsAtEnd (ahead reader left)
    → EndsIn meant tries P input old new first stage status.Ok
ends_all gives meant tries first start source P input left old new reader stage at end = record { last = at.state; is_in = at.is_in; wrote = wrote_all gives meant tries first start source input left old new reader at.state at.midway end }

pub ends_fault : {S H V : Type 0} (gives : S → Taken → S → Type 0) (meant : Meaning H V) (tries : ℕ) (first : State H V) (start source new_source : S) (input left old new : Option (List ℕ)) (reader new_reader : LinesState) (stage : Stage H V) (f : LineFault) → IsMidwayIn gives meant tries first start source input reader left old new stage
    → (f ≡ fault.TooManyLines → (reader.handed ≡ MOST_LINES) × HasMore reader left)
    → ((line : ℕ) → f ≡ fault.Endless line → (line ≡ reader.handed + 1) × (reader.handed < MOST_LINES) × IsLongLine reader left)
    → TellsAtOnce gives reader source (Err f) new_reader new_source
    → EndsIn meant tries (FailsBehind gives start new_source) input old new first stage (status_of_fault f)
ends_fault gives meant tries first start source new_source input left old new reader new_reader stage f at many endless at_once =
    record { last = at.state; is_in = at.is_in; wrote = wrote_fault gives meant tries first start source new_source input left old new reader new_reader at.state f at.midway many endless at_once }

-- ---- causes
-- the end of an input that a fault of its reader tells
pub fault_ends : {S H V : Type 0} (gives : S → Taken → S → Type 0) (meant : Meaning H V) (tries : ℕ) (first : State H V) (start source : S) (input left old new : Option (List ℕ)) (reader : LinesState) (world : State H V) (f : LineFault) → IsScriptMidway gives meant tries first start source input reader left old new world
    → (f ≡ fault.TooManyLines → (reader.handed ≡ MOST_LINES) × HasMore reader left)
    → ((line : ℕ) → f ≡ fault.Endless line → (line ≡ reader.handed + 1) × (reader.handed < MOST_LINES) × IsLongLine reader left)
    → (ending : Ending) → status_of_fault f ≡ status_of ending → IfSome input (λ bytes. ending_of bytes ≡ ending)
fault_ends gives meant tries first start source input left old new reader world fault.ReadFault at many endless Whole is = absurd cc
fault_ends gives meant tries first start source input left old new reader world fault.ReadFault at many endless TooMany is = absurd cc
fault_ends gives meant tries first start source input left old new reader world fault.ReadFault at many endless (TooLong line) is = absurd cc
fault_ends gives meant tries first start source input left old new reader world fault.TooManyLines at many endless Whole is = absurd cc
fault_ends gives meant tries first start source input left old new reader world fault.TooManyLines at many endless TooMany is = midway-too_many gives meant tries first start source input left old new reader world at (many refl)
fault_ends gives meant tries first start source input left old new reader world fault.TooManyLines at many endless (TooLong line) is = absurd cc
fault_ends gives meant tries first start source input left old new reader world (fault.Endless number) at many endless Whole is = absurd cc
fault_ends gives meant tries first start source input left old new reader world (fault.Endless number) at many endless TooMany is = absurd cc
fault_ends gives meant tries first start source input left old new reader world (fault.Endless number) at many endless (TooLong line) is =
    let same : number ≡ line = cc in
    subst (λ n. IfSome input (λ bytes. ending_of bytes ≡ TooLong n)) same (midway-endless gives meant tries first start source input left old new reader world number at (endless number refl))
fault_ends gives meant tries first start source input left old new reader world fault.NoMemory at many endless Whole is = absurd cc
fault_ends gives meant tries first start source input left old new reader world fault.NoMemory at many endless TooMany is = absurd cc
fault_ends gives meant tries first start source input left old new reader world fault.NoMemory at many endless (TooLong line) is = absurd cc

-- a run that nothing hinders ends by its input, or finds no memory, or its store was not opened
pub completes_of : (input : Option (List ℕ)) (result : Status) (read wrote : Type 0) → (result ≡ status.Usage → ⊥) → (result ≡ status.ReadFault → read)
    → (result ≡ status.WriteFault → wrote)
    → ((ending : Ending) → result ≡ status_of ending → IfSome input (λ bytes. ending_of bytes ≡ ending)) → (read → ⊥) → (wrote → ⊥)
    → IfSome input (λ bytes. (result ≡ status_of (ending_of bytes)) ⊎ (result ≡ status.NoMemory) ⊎ TellsWhyClosed result)
completes_of None result read wrote usage read_fault write_fault ends no_read no_write = tt
completes_of (Some bytes) status.Ok read wrote u r w ends no_read no_write = inl (ap status_of (sym (ends Whole refl)))
completes_of (Some bytes) status.Usage read wrote u r w ends no_read no_write = absurd (u refl)
completes_of (Some bytes) status.ReadFault read wrote u r w ends no_read no_write = absurd (no_read (r refl))
completes_of (Some bytes) status.WriteFault read wrote u r w ends no_read no_write = absurd (no_write (w refl))
completes_of (Some bytes) (status.NotEmpty disk) read wrote u r w ends no_read no_write = inr (inr tt)
completes_of (Some bytes) (status.Foreign disk at) read wrote u r w ends no_read no_write = inr (inr tt)
completes_of (Some bytes) (status.TooManyKeys keys) read wrote u r w ends no_read no_write = inr (inr tt)
completes_of (Some bytes) (status.LostDisk disk) read wrote u r w ends no_read no_write = inr (inr tt)
completes_of (Some bytes) (status.Spent disk) read wrote u r w ends no_read no_write = inr (inr tt)
completes_of (Some bytes) (status.DiskFault disk) read wrote u r w ends no_read no_write = inr (inr tt)
completes_of (Some bytes) status.TooManyLines read wrote u r w ends no_read no_write = inl (ap status_of (sym (ends TooMany refl)))
completes_of (Some bytes) status.NoMemory read wrote u r w ends no_read no_write = inr (inl refl)
completes_of (Some bytes) (status.Endless line) read wrote u r w ends no_read no_write = inl (ap status_of (sym (ends (TooLong line) refl)))

-- where there was no memory, no end of the input is told
pub no_end : (ending : Ending) → status.NoMemory ≡ status_of ending → ⊥
no_end Whole is = cc is
no_end TooMany is = cc is
no_end (TooLong line) is = cc is

pub no_memory_completes : (input : Option (List ℕ))
    → IfSome input (λ bytes. (status.NoMemory ≡ status_of (ending_of bytes)) ⊎ (status.NoMemory ≡ status.NoMemory) ⊎ TellsWhyClosed status.NoMemory)
no_memory_completes None = tt
no_memory_completes (Some bytes) = inr (inl refl)

-- and so does a load, which has no input
pub load_completes_of : (result : Status) → LoadEnds result → (result ≡ status.WriteFault → ⊥) → (result ≡ status.Ok) ⊎ (result ≡ status.NoMemory) ⊎ TellsWhyClosed result
load_completes_of status.Ok ends no_write = inl refl
load_completes_of status.Usage ends no_write = absurd ends
load_completes_of status.ReadFault ends no_write = absurd ends
load_completes_of status.WriteFault ends no_write = absurd (no_write refl)
load_completes_of (status.NotEmpty disk) ends no_write = absurd ends
load_completes_of (status.Foreign disk at) ends no_write = inr (inr tt)
load_completes_of (status.TooManyKeys keys) ends no_write = inr (inr tt)
load_completes_of (status.LostDisk disk) ends no_write = inr (inr tt)
load_completes_of (status.Spent disk) ends no_write = inr (inr tt)
load_completes_of (status.DiskFault disk) ends no_write = inr (inr tt)
load_completes_of status.TooManyLines ends no_write = absurd ends
load_completes_of status.NoMemory ends no_write = inr (inl refl)
load_completes_of (status.Endless line) ends no_write = absurd ends

-- the statuses with which a summary is written or not
pub summed_ends : {S V : Type 0} {meant : Meaning S V} {load : Load} {old new : Option (List ℕ)} {world last : View S V} (result : Status)
    → WroteSummary meant load old new world last result → LoadEnds result
summed_ends result (whole summary sums wrote) = tt
summed_ends result (sink_failed summary sums wrote) = tt
summed_ends result (no_text summary sums same) = tt
summed_ends result (broke_off breaks same) = tt

-- and those with which a load ends behind its record
pub loaded_ends : {D : Type 0} {meant : Meaning (DiskShelf D) D} {tells : Type 0} {options : LoadOptions} {old new : Option (List ℕ)}
    {world : View (DiskShelf D) D} {result : Status} {back : Rack D} → LoadedOver meant tells options old new world result back → LoadEnds result
loaded_ends by = behind_holds LoadEnds tt tt by.behind (summed_ends by.before by.loaded.wrote)

-- a run that ends well ends by the end of its input
pub ends_whole : (input : Option (List ℕ)) → IfSome input (λ bytes. ending_of bytes ≡ Whole) → (ending : Ending) → status.Ok ≡ status_of ending
    → IfSome input (λ bytes. ending_of bytes ≡ ending)
ends_whole input ends Whole is = ends
ends_whole input ends TooMany is = absurd (cc is)
ends_whole input ends (TooLong line) is = absurd (cc is)

-- ---- the store is taken apart
pub ran_from : {D : Type 0} (meant : Meaning (DiskShelf D) D) (tells : Type 0) (tries made : ℕ) (P : List (List ℕ) → Type 0) (input old new : Option (List ℕ)) (world closed : View (DiskShelf D) D) (stage : Stage (DiskShelf D) D) (marks : List Mark) (result : Status) (back : Rack D) → made ≡ tries
    → closed ≡ stage.world → EndsIn meant made P input old new (opening_state world) stage result → marks ≡ closed.marks → (tells → IsLegal (reverse marks))
    → (tells → AreKept meant.disks.may_leave (reverse marks) back.acceptors.items) → (tells → AreHeld meant.disks.may_leave closed back.acceptors.items)
    → back.acceptors.items ≡ acceptor_disks closed.acceptors
    → take (closed.last_proposer + 1) back.vaults.items ≡ disks_of closed.desks → Ran meant tells tries P input old new world result back
ran_from {D} meant tells tries made P input old new world closed stage marks result back tries_are is ends marks_are legal kept held acceptors vaults =
    let e : EndsIn meant tries P input old new (opening_state world) stage result = subst (λ (n : ℕ). EndsIn meant n P input old new (opening_state world) stage result) tries_are ends in
    let same : closed ≡ e.last.world = is ∙ e.is_in.world in
    record {
      last = e.last;
      wrote = e.wrote;
      legal = λ tell. subst (λ (w : View (DiskShelf D) D). IsLegal (reverse w.marks)) same (subst (λ (l : List Mark). IsLegal (reverse l)) marks_are (legal tell));
      kept = λ tell. subst (λ (w : View (DiskShelf D) D). AreKept meant.disks.may_leave (reverse w.marks) back.acceptors.items) same (subst (λ (l : List Mark). AreKept meant.disks.may_leave (reverse l) back.acceptors.items) marks_are (kept tell));
      held = λ tell. subst (λ (w : View (DiskShelf D) D). AreHeld meant.disks.may_leave w back.acceptors.items) same (held tell);
      rack = subst (λ (w : View (DiskShelf D) D). IsRackOf w back) same (record { acceptors = acceptors; vaults = vaults });
    }

-- the same with the marks of its record
pub leaving_from : {D : Type 0} (meant : Meaning (DiskShelf D) D) (tells : Type 0) (tries made : ℕ) (P : List (List ℕ) → Type 0) (input old new : Option (List ℕ)) (world closed : View (DiskShelf D) D) (stage : Stage (DiskShelf D) D) (marks : List Mark) (result : Status) (back : Rack D) → made ≡ tries
    → closed ≡ stage.world → EndsIn meant made P input old new (opening_state world) stage result → marks ≡ closed.marks → (tells → IsLegal (reverse marks))
    → (tells → AreKept meant.disks.may_leave (reverse marks) back.acceptors.items) → (tells → AreHeld meant.disks.may_leave closed back.acceptors.items)
    → back.acceptors.items ≡ acceptor_disks closed.acceptors
    → take (closed.last_proposer + 1) back.vaults.items ≡ disks_of closed.desks → RanLeaving meant tells tries P input old new world marks result back
unfolding ran_from
leaving_from {D} meant tells tries made P input old new world closed stage marks result back tries_are is ends marks_are legal kept held acceptors vaults = record {
  ran = ran_from meant tells tries made P input old new world closed stage marks result back tries_are is ends marks_are legal kept held acceptors vaults;
  marks_are = marks_are
      ∙ ap (λ (w : View (DiskShelf D) D). w.marks) (is ∙ (subst (λ (n : ℕ). EndsIn meant n P input old new (opening_state world) stage result) tries_are ends).is_in.world);
}

-- the same of a load
pub loaded_from : {D : Type 0} (meant : Meaning (DiskShelf D) D) (tells : Type 0) (load : Load) (old new : Option (List ℕ)) (world closed : View (DiskShelf D) D)
    (marks : List Mark) (result : Status) (back : Rack D)
    → WroteSummary meant load old new world closed result → marks ≡ closed.marks → (tells → IsLegal (reverse marks))
    → (tells → AreKept meant.disks.may_leave (reverse marks) back.acceptors.items) → (tells → AreHeld meant.disks.may_leave closed back.acceptors.items)
    → back.acceptors.items ≡ acceptor_disks closed.acceptors
    → take (closed.last_proposer + 1) back.vaults.items ≡ disks_of closed.desks → LoadedLeaving meant tells load old new world marks result back
loaded_from meant tells load old new world closed marks result back wrote marks_are legal kept held acceptors vaults = record {
  loaded = record {
    last = closed;
    wrote = wrote;
    legal = λ tell. subst (λ (l : List Mark). IsLegal (reverse l)) marks_are (legal tell);
    kept = λ tell. subst (λ (l : List Mark). AreKept meant.disks.may_leave (reverse l) back.acceptors.items) marks_are (kept tell);
    held = held;
    rack = record { acceptors = acceptors; vaults = vaults };
  };
  marks_are = marks_are;
}

-- ---- nothing was run
pub wrote_nothing : {D : Type 0} (meant : Meaning (DiskShelf D) D) (m : RackMeaning D) (asked : Request) (given : WentIn D) (out : CameOut D) → NothingRan m asked given out
    → out.written ≡ given.written → Wrote meant m asked given out
wrote_nothing meant m asked given out why same = inl (record { why = why; unwritten = same })

-- the board of a race did not open, or there was no memory for it
pub no_race : {D : Type 0} (m : RackMeaning D) (asked : Request) (given : WentIn D) (out : CameOut D) (options : Options) (empty : Rack D) (fault : OpenFault) (acceptors proposers : ℕ)
    → acceptors ≡ options.acceptors → proposers ≡ options.proposers → asked ≡ request.Race options → out.status ≡ status_of_opening fault → IsAllEmpty m given.rack empty
    → (fault ≡ opening.NoMemory) ⊎ StaysClosed m.faults acceptors proposers empty.acceptors.items empty.vaults.items fault out.rack.acceptors.items out.rack.vaults.items
    → NothingRan m asked given out
no_race m asked given out options empty fault acceptors proposers are_acceptors are_proposers is_race is are_empty (inl none) = no_board options empty is_race are_empty (is ∙ ap status_of_opening none)
no_race m asked given out options empty fault acceptors proposers are_acceptors are_proposers is_race is are_empty (inr closed) =
    not_begun options empty fault is_race are_empty
    (subst (λ (n : ℕ). StaysClosed m.faults options.acceptors n empty.acceptors.items empty.vaults.items fault out.rack.acceptors.items out.rack.vaults.items) are_proposers
    (subst (λ (n : ℕ). StaysClosed m.faults n proposers empty.acceptors.items empty.vaults.items fault out.rack.acceptors.items out.rack.vaults.items) are_acceptors closed))
    is

-- ---- by what was asked for
pub wrote_by : {D : Type 0} (meant : Meaning (DiskShelf D) D) (m : RackMeaning D) (asked other : Request) (given : WentIn D) (out : CameOut D) → asked ≡ other
    → WroteBy meant m other given out
    → Wrote meant m asked given out
wrote_by meant m asked other given out is wrote = inr (subst (λ (r : Request). WroteBy meant m r given out) (sym is) wrote)

-- a load reads nothing, so it does not matter which lines had ended
pub load_told : {D : Type 0} (meant : Meaning (DiskShelf D) D) (m : RackMeaning D) (options : LoadOptions) (given : WentIn D) (out : CameOut D) (H : List (List ℕ) → Type 0)
    → Wrote meant m (request.Load options) given (record out { HadEnded = H }) → Wrote meant m (request.Load options) given out
load_told {D} meant m options given out H (inl nothing) = inl (record { why = why nothing.why; unwritten = nothing.unwritten })
  where
    why : NothingRan m (request.Load options) given (record out { HadEnded = H }) → NothingRan m (request.Load options) given out
    why (no_words_read is same) = no_words_read is same
    why (not_opened fault goes closed stops is) = not_opened fault goes closed stops is
    why (not_empty other fault race not is) = not_empty other fault race not is
    why (not_begun other empty fault race are closed is) = not_begun other empty fault race are closed is
    why (no_board other empty race are is) = no_board other empty race are is
load_told meant m options given out H (inr by) = inr (record { world = by.world; over = by.over; loaded = by.loaded })

-- the same command by another name
pub wrote_of : {D : Type 0} (meant : Meaning (DiskShelf D) D) (m : RackMeaning D) {given : WentIn D} {out : CameOut D} (asked other : Request) → asked ≡ other
    → Wrote meant m asked given out → Wrote meant m other given out
wrote_of meant m {given} {out} asked other same wrote = subst (λ (r : Request). Wrote meant m r given out) same wrote
