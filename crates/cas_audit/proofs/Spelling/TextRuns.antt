-- The audit of a text, up to some line.
use Rattle.std.proofs.Common.{◌≡◌, ℕ, ◌+◌, ◌<◌, List, [], ◌∷◌, ◌++◌, length, arith, length-append, refl, ap}
use Rattle.std.specs.Prelude.{Option, Some, None, Ok, IfSome}
use Rattle.std.specs.Io.KnownBytes.{IsAtEnd}
use Rattle.cas_lines.specs.declared.lines.TheConstants.{MOST_LINES}
use Rattle.cas_lines.specs.Lines.{Whole, TooMany, TooLong, ending_of, LineState, LinesState, ahead, HandsOut, HasMore, IsLongLine, TellsAtOnce, HasHandedOut}
use Rattle.cas_lines.specs.Source.{Taken}
use Rattle.cas_lines.proofs.Told.{HandsOutTold, hands_nothing, hands_told, ends_told}
use Rattle.cas_lines.proofs.WholeRuns.{HasHandedOut-nothing, HasHandedOut-line, HasHandedOut-end, HasHandedOut-too_many, HasHandedOut-endless}
use Rattle.cas_lines.specs.declared.lines.LineFault.{LineFault}
use Rattle.cas_lines.specs.declared.lines.LineFault.TheVariants as line
use Rattle.cas_audit.specs.Spelling.Progress.{IsProgress, AreLines, fault_of_line}
use Rattle.cas_audit.specs.declared.text.AuditFault.{AuditFault}
use Rattle.cas_audit.specs.declared.text.AuditFault.TheVariants as fault
use Rattle.cas_audit.specs.declared.text.TextAudit.{TextAudit}

-- some lines of the input were handed out, as many were counted and taken, and this is known of them
pub record IsAuditMidway {S : Type 0} (gives : S → Taken → S → Type 0) (start source : S) (input left : Option (List ℕ)) (reader : LinesState) (audit : TextAudit) : Type 0 where
  pub lines : List (List ℕ)
  pub handed_out : HasHandedOut input lines reader left
  pub told : HandsOutTold gives start lines reader.held source
  pub counted : reader.handed ≡ length lines
  pub taken : audit.lines ≡ length lines
  pub known : IsProgress lines audit.auditor audit.progress

pub midway-nothing : {S : Type 0} (gives : S → Taken → S → Type 0) (start : S) (input : Option (List ℕ)) (reader : LinesState) (audit : TextAudit) → reader.held ≡ [] → reader.handed ≡ 0 → audit.lines ≡ 0 → IsProgress [] audit.auditor audit.progress
    → IsAuditMidway gives start start input input reader audit
midway-nothing gives start input reader audit empty handed taken known = record {
  lines = [];
  handed_out = HasHandedOut-nothing input reader empty;
  told = hands_nothing gives start reader.held empty;
  counted = handed;
  taken = taken;
  known = known;
}

-- one line more
pub midway-line : {S : Type 0} (gives : S → Taken → S → Type 0) (start source new_source : S) (input left new_left : Option (List ℕ)) (old new : LinesState) (before after : TextAudit) (line : LineState)
    → (at : IsAuditMidway gives start source input left old before)
    → HandsOut old new left new_left line.bytes → TellsAtOnce gives old source (Ok (Some line)) new new_source → old.handed < MOST_LINES → line.number ≡ old.handed + 1 → new.handed ≡ line.number
    → after.lines ≡ line.number → IsProgress (at.lines ++ line.bytes ∷ []) after.auditor after.progress
    → IsAuditMidway gives start new_source input new_left new after
midway-line gives start source new_source input left new_left old new before after line at out at_once few number_is handed taken known = record {
  lines = at.lines ++ line.bytes ∷ [];
  handed_out = HasHandedOut-line input left new_left at.lines old new line.bytes at.handed_out out (omega (arith, few, at.counted));
  told = hands_told gives start at.lines old new line source new_source at.told at_once;
  counted = omega (arith, handed, number_is, at.counted, length-append at.lines (line.bytes ∷ []));
  taken = omega (arith, taken, number_is, at.counted, length-append at.lines (line.bytes ∷ []));
  known = known;
}

-- at the end of the input
pub midway-end : {S : Type 0} (gives : S → Taken → S → Type 0) (start source new_source : S) (input left : Option (List ℕ)) (old new : LinesState) (audit : TextAudit) → (at : IsAuditMidway gives start source input left old audit)
    → IsAtEnd (ahead old left) → TellsAtOnce gives old source (Ok None) new new_source → AreLines gives start new_source input at.lines
midway-end gives start source new_source None left old new audit at end at_once = record { told = ends_told gives start at.lines old new source new_source at.told at_once; known = tt }
midway-end gives start source new_source (Some bytes) left old new audit at end at_once = record {
  told = ends_told gives start at.lines old new source new_source at.told at_once;
  known = (HasHandedOut-end (Some bytes) left at.lines old at.handed_out end).1;
}

pub midway-whole : {S : Type 0} (gives : S → Taken → S → Type 0) (start source : S) (input left : Option (List ℕ)) (reader : LinesState) (audit : TextAudit) → IsAuditMidway gives start source input left reader audit → IsAtEnd (ahead reader left)
    → IfSome input (λ bytes. ending_of bytes ≡ Whole)
midway-whole gives start source None left reader audit at end = tt
midway-whole gives start source (Some bytes) left reader audit at end = (HasHandedOut-end (Some bytes) left at.lines reader at.handed_out end).0

pub midway-too_many : {S : Type 0} (gives : S → Taken → S → Type 0) (start source : S) (input left : Option (List ℕ)) (reader : LinesState) (audit : TextAudit) → IsAuditMidway gives start source input left reader audit → (reader.handed ≡ MOST_LINES) × HasMore reader left
    → IfSome input (λ bytes. ending_of bytes ≡ TooMany)
midway-too_many gives start source input left reader audit at full = HasHandedOut-too_many input left at.lines reader at.handed_out (omega (arith, at.counted, full.0)) full.1

pub midway-endless : {S : Type 0} (gives : S → Taken → S → Type 0) (start source : S) (input left : Option (List ℕ)) (reader : LinesState) (audit : TextAudit) (number : ℕ) → IsAuditMidway gives start source input left reader audit
    → (number ≡ reader.handed + 1) × (reader.handed < MOST_LINES) × IsLongLine reader left → IfSome input (λ bytes. ending_of bytes ≡ TooLong number)
midway-endless gives start source input left reader audit number at long =
    HasHandedOut-endless input left at.lines reader number at.handed_out (omega (arith, long.1, at.counted)) long.2 (omega (arith, long.0, at.counted))

-- ---- faults
-- which fault of the lines it was
pub was_too_many : (was : LineFault) (told : AuditFault) → told ≡ fault_of_line was → told ≡ fault.TooManyLines → was ≡ line.TooManyLines
was_too_many line.ReadFault told by is = absurd cc
was_too_many line.TooManyLines told by is = refl
was_too_many (line.Endless number) told by is = absurd cc
was_too_many line.NoMemory told by is = absurd cc

pub was_read_fault : (was : LineFault) (told : AuditFault) → told ≡ fault_of_line was → told ≡ fault.ReadFault → was ≡ line.ReadFault
was_read_fault line.ReadFault told by is = refl
was_read_fault line.TooManyLines told by is = absurd cc
was_read_fault (line.Endless number) told by is = absurd cc
was_read_fault line.NoMemory told by is = absurd cc

pub was_endless : (was : LineFault) (told : AuditFault) (number : ℕ) → told ≡ fault_of_line was → told ≡ fault.Endless number → was ≡ line.Endless number
was_endless line.ReadFault told number by is = absurd cc
was_endless line.TooManyLines told number by is = absurd cc
was_endless (line.Endless other) told number by is = let same : other ≡ number = cc in ap line.Endless same
was_endless line.NoMemory told number by is = absurd cc

-- it was none of a sink
pub not_write : (was : LineFault) (told : AuditFault) → told ≡ fault_of_line was → told ≡ fault.WriteFault → ⊥
not_write line.ReadFault told by is = cc
not_write line.TooManyLines told by is = cc
not_write (line.Endless number) told by is = cc
not_write line.NoMemory told by is = cc
