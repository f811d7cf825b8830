-- How a run ends with its record behind all else.
use Rattle.std.proofs.Common.{◌≡◌, ◌<◌, ◌≤◌, ℕ, ◌^◌, zero, suc, Bool, true, cond, List, [], ◌∷◌, length, Option, refl, sym, ap, ◌∙◌, subst, inl, inr, arith}
use Rattle.std.specs.Io.KnownBytes.{Appends}
use Rattle.std.specs.Prelude.{◌⊎◌}
use Rattle.cas_base.specs.Faults.{Rose}
use Rattle.cas_audit.specs.Spelling.Printing.{has_text}
use Rattle.cas_audit.specs.Spelling.Texts.{Spells}
use Rattle.cas_lines.specs.Lines.{lines_of, Ending, Whole, TooMany, TooLong}
use Rattle.cas_record.specs.declared.mark.Mark.{Mark}
use Rattle.cas_record.specs.declared.mark.Mark.TheVariants.{Begun, Proposed, Voted, Acked, Floor, EraEntered, Ended, Harmed, Told}
use Rattle.cas_model.specs.Exchanges.Tellings.{AreToldAnswers, AreWritable}
use Rattle.cas_model.proofs.Places.{contains_new, contains_older}
use Rattle.cas_store.specs.Rack.{RackMeaning}
use Rattle.cas_store.specs.declared.rack.Rack.{Rack}
use Rattle.casreg_tasks.specs.Texts.{WroteFrontOf}
use Rattle.casreg_marks.specs.Marks.{with_text, record_text}
use Rattle.casreg_marks.specs.declared.marks.MarksFault.{MarksFault}
use Rattle.casreg_marks.specs.declared.marks.MarksFault.TheVariants as fault
use Rattle.casreg_command.specs.Causes.{AreDisksToBlame, UsesDisks, status_of}
use Rattle.casreg_command.specs.Records.{WroteRecord, EndsBehindMarks, IsComplete, unasked, incomplete, whole, cut_off}
use Rattle.casreg_command.specs.Status.{status_of_marks}
use Rattle.casreg_command.specs.declared.status.Status.{Status}
use Rattle.casreg_command.specs.declared.status.Status.TheVariants as status
use Rattle.casreg_command.specs.declared.words.Request.{Request}
use Rattle.casreg_command.specs.declared.words.Request.TheVariants as request

-- ---- what is written
-- a text has a line for this mark
its_text : (mark : Mark) (marks : List Mark) → AreToldAnswers (mark ∷ marks) → has_text mark ≡ true
its_text (Begun caller number key program) marks told = refl
its_text (Proposed proposal) marks told = refl
its_text (Voted acceptor key ballot) marks told = refl
its_text (Acked acknowledgment) marks told = refl
its_text (Floor key ballot state) marks told = refl
its_text (EraEntered proposer era) marks told = refl
its_text (Ended caller number proposed answer) marks told = refl
its_text (Harmed caller number down) marks told = refl
its_text (Told asks said) marks told = told asks said (contains_new (Told asks said) marks)

-- and for each of these
all_with_text : (marks : List Mark) → AreToldAnswers marks → with_text marks ≡ marks
all_with_text [] told = refl
all_with_text (mark ∷ marks) told =
    ap (λ b. cond b (mark ∷ with_text marks) (with_text marks)) (its_text mark marks told)
    ∙ ap (λ (l : List Mark). mark ∷ l) (all_with_text marks (λ asks said has. told asks said (contains_older marks has)))

pub wrote_record : (marks : List Mark) (old new : Option (List ℕ)) → AreWritable marks → Appends old new (record_text (with_text marks))
    → (length marks < 2 ^ 32 → Spells (lines_of (record_text (with_text marks))) (with_text marks)) → WroteRecord marks old new
wrote_record marks old new writable written spells =
    let all : with_text marks ≡ marks = all_with_text marks writable.told in
    let spelled : Spells (lines_of (record_text marks)) marks = subst (λ (l : List Mark). Spells (lines_of (record_text l)) l) all (spells (omega (arith, writable.few))) in
    record {
      written = subst (λ (l : List Mark). Appends old new (record_text l)) all written;
      spells = spelled;
      audited = λ legal finding found. found.legal.1 (record { marks = marks; spelled = spelled; legal = legal });
    }

pub wrote_front : (marks : List Mark) (old new : Option (List ℕ)) → AreWritable marks → WroteFrontOf (λ text. text ≡ record_text (with_text marks)) old new → WroteFrontOf (λ text. text ≡ record_text marks) old new
wrote_front marks old new writable front = subst (λ (l : List Mark). WroteFrontOf (λ text. text ≡ record_text l) old new) (all_with_text marks writable.told) front

-- ---- how a run ends
-- it ends as it had, or the record could not be written whole
pub behind_is : {asked : Bool} {marks : List Mark} {before : Status} {old new : Option (List ℕ)} {result : Status} → EndsBehindMarks asked marks before old new result
    → (result ≡ before) ⊎ ((why : MarksFault) × (result ≡ status_of_marks why))
behind_is (unasked off same is) = inl is
behind_is (incomplete short same is) = inl is
behind_is (whole on all wrote is) = inl is
behind_is (cut_off why on all wrote is) = inr (why, is)

-- no other status comes by that
pub before_is : {asked : Bool} {marks : List Mark} {before : Status} {old new : Option (List ℕ)} {result : Status} (s : Status) → (s ≡ status.WriteFault → ⊥)
    → (s ≡ status.NoMemory → ⊥) → EndsBehindMarks asked marks before old new result → result ≡ s → before ≡ s
before_is {before = before} {result = result} s no_write no_memory behind is = go (behind_is behind)
  where
    go : (result ≡ before) ⊎ ((why : MarksFault) × (result ≡ status_of_marks why)) → before ≡ s
    go (inl same) = sym same ∙ is
    go (inr (fault.WriteFault, why)) = absurd (no_write (sym is ∙ why))
    go (inr (fault.NoMemory, why)) = absurd (no_memory (sym is ∙ why))

pub before_ending : {asked : Bool} {marks : List Mark} {before : Status} {old new : Option (List ℕ)} {result : Status} (ending : Ending)
    → EndsBehindMarks asked marks before old new result → result ≡ status_of ending → before ≡ status_of ending
before_ending Whole behind is = before_is status.Ok (λ e. absurd (cc e)) (λ e. absurd (cc e)) behind is
before_ending TooMany behind is = before_is status.TooManyLines (λ e. absurd (cc e)) (λ e. absurd (cc e)) behind is
before_ending (TooLong line) behind is = before_is (status.Endless line) (λ e. absurd (cc e)) (λ e. absurd (cc e)) behind is

-- what holds of how it had ended, and of these two, holds of how it ends
pub behind_holds : {asked : Bool} {marks : List Mark} {before : Status} {old new : Option (List ℕ)} {result : Status} (P : Status → Type 0)
    → P status.WriteFault → P status.NoMemory → EndsBehindMarks asked marks before old new result → P before → P result
behind_holds {before = before} {result = result} P on_fault on_memory behind held = go (behind_is behind)
  where
    go : (result ≡ before) ⊎ ((why : MarksFault) × (result ≡ status_of_marks why)) → P result
    go (inl same) = subst P (sym same) held
    go (inr (fault.WriteFault, why)) = subst P (sym why) on_fault
    go (inr (fault.NoMemory, why)) = subst P (sym why) on_memory

-- it names a disk where it had
pub behind_blamed : {D : Type 0} (m : RackMeaning D) (rack back : Rack D) {asked : Bool} {marks : List Mark} {before : Status} {old new : Option (List ℕ)} {result : Status}
    → EndsBehindMarks asked marks before old new result → AreDisksToBlame m rack back before → AreDisksToBlame m rack back result
behind_blamed m rack back behind blamed = behind_holds (λ (s : Status). AreDisksToBlame m rack back s) tt tt behind blamed

-- ---- counts of faults
pub low_or_high : (a b : ℕ) → (a < b) ⊎ (b ≤ a)
low_or_high a zero = inr (omega arith)
low_or_high zero (suc b) = inl (omega arith)
low_or_high (suc a) (suc b) = elim (low_or_high a b) [
  | inl low ↦ inl (omega (arith, low))
  | inr high ↦ inr (omega (arith, high))
]

rose_then : (a b c : ℕ) → a ≤ b → Rose a b → b ≤ c → Rose a c
rose_then a b c low (inl more) high = inl (omega (arith, more, high))
rose_then a b c low (inr most) high = go (low_or_high b c)
  where
    go : (b < c) ⊎ (c ≤ b) → Rose a c
    go (inl less) = inl (omega (arith, low, less))
    go (inr no_more) = inr (let same : c ≡ b = omega (arith, high, no_more) in same ∙ most)

pub rose_later : (a b c : ℕ) → a ≤ b → Rose b c → Rose a c
rose_later a b c low (inl more) = inl (omega (arith, low, more))
rose_later a b c low (inr most) = inr most

-- where the sink failed its count rose, be it before the record or in it
pub write_fault_behind : {asked : Bool} {marks : List Mark} {before : Status} {old new : Option (List ℕ)} {result : Status} (a b c : ℕ) → a ≤ b → b ≤ c
    → EndsBehindMarks asked marks before old new result
    → (before ≡ status.WriteFault → Rose a b) → (result ≡ status.WriteFault → (before ≡ status.WriteFault → ⊥) → Rose b c) → result ≡ status.WriteFault → Rose a c
write_fault_behind a b c low high (unasked off same is) first later wrong = rose_then a b c low (first (sym is ∙ wrong)) high
write_fault_behind a b c low high (incomplete short same is) first later wrong = rose_then a b c low (first (sym is ∙ wrong)) high
write_fault_behind a b c low high (whole on all wrote is) first later wrong = rose_then a b c low (first (sym is ∙ wrong)) high
write_fault_behind a b c low high (cut_off why on all wrote is) first later wrong = rose_later a b c low (later wrong (λ same. subst IsComplete same all))

-- ---- audits
-- a command that uses no disks is one
pub is_audit : (asked : Request) → (UsesDisks asked → ⊥) → asked ≡ request.Audit
is_audit (request.Script options) not = absurd (not tt)
is_audit (request.Race options) not = absurd (not tt)
is_audit (request.Load options) not = absurd (not tt)
is_audit request.Audit not = refl
