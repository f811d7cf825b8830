-- Each program is read from its JSON.
use Rattle.std.proofs.Common.{◌≡◌, ℕ, ◌^◌, true, nat_lt, nat_le, List, [], ◌∷◌, length, Some, ℤ, pos, negsuc, FitsSigned, refl, ap, ◌∙◌, arith}
use Rattle.std.specs.Int.{w64}
use Rattle.std.specs.List.{AllByRecursion}
use Rattle.std.specs.Option.{option_and_then}
use Rattle.std.specs.Str.{IsUtf8}
use Rattle.std.proofs.lemmas.Grind.{common_steps}
use Rattle.serde_json.specs.Find.{as_i64, of_integer}
use Rattle.serde_json.specs.Read.{read}
use Rattle.cas_change.specs.Program.{IsProgramLength}
use Rattle.cas_change.specs.Text.{IsText}
use Rattle.cas_change.specs.declared.program.TheConstants.{MOST_CLAUSES}
use Rattle.cas_change.specs.declared.text.TheConstants.{LONGEST_TEXT}
use Rattle.cas_change.specs.declared.program.Guard.{Guard}
use Rattle.cas_change.specs.declared.program.Guard.TheVariants.{Always, IsEmpty, VersionIs, NumberBelow, TextIs}
use Rattle.cas_change.specs.declared.program.Act.{Act}
use Rattle.cas_change.specs.declared.program.Act.TheVariants.{Keep, PutText, PutNumber, Add, Clear}
use Rattle.cas_change.specs.declared.program.Clause.{Clause}
use Rattle.cas_change_text.specs.Ranges.{GuardFits, ActFits, ClauseFits}
use Rattle.cas_http.specs.Programs.{if_text, guard_in, act_in, clause_with, clause_in, with_first, clauses_in, if_program, program_in, program_of_body}
use Rattle.cas_http.specs.ProgramJson.{guard_data, act_data, clause_data, clauses_data, program_data}
use Rattle.cas_http.proofs.BodyPrograms.{spelled}

number_again : (n : ℤ) → FitsSigned w64 n → as_i64 (of_integer n) ≡ Some n
number_again (pos n) fits =
    let small : nat_lt n (2 ^ 63) ≡ true = grind (arith, common_steps) in
    rw small refl
number_again (negsuc n) fits = refl

text_again : (bytes : List ℕ) → IsText bytes → if_text bytes ≡ Some bytes
text_again bytes fits =
    let short : nat_le (length bytes) LONGEST_TEXT ≡ true = grind (arith, common_steps) in
    rw short refl

guard_again : (guard : Guard) → GuardFits guard → guard_in (guard_data guard) ≡ Some guard
guard_again Always fits = refl
guard_again IsEmpty fits = refl
guard_again (VersionIs version) fits = refl
guard_again (NumberBelow n) fits = rw (number_again n fits) refl
guard_again (TextIs bytes) fits = rw (text_again bytes fits.0) refl

act_again : (act : Act) → ActFits act → act_in (act_data act) ≡ Some act
act_again Keep fits = refl
act_again (PutText bytes) fits = rw (text_again bytes fits.0) refl
act_again (PutNumber n) fits = rw (number_again n fits) refl
act_again (Add n) fits = rw (number_again n fits) refl
act_again Clear fits = refl

clause_again : (clause : Clause) → ClauseFits clause → clause_in (clause_data clause) ≡ Some clause
clause_again clause fits =
    λ i. clause_with (guard_again clause.guard fits.0 i) (act_again clause.act fits.1 i)

clauses_again : (clauses : List Clause) → AllByRecursion ClauseFits clauses → clauses_in (clauses_data clauses) ≡ Some clauses
clauses_again [] fits = refl
clauses_again (clause ∷ clauses) fits =
    λ i. with_first (clause_again clause fits.0 i) (clauses_again clauses fits.1 i)

program_again : (clauses : List Clause) → IsProgramLength (length clauses) → AllByRecursion ClauseFits clauses → program_in (program_data clauses) ≡ Some clauses
program_again clauses size fits =
    let some : nat_le 1 (length clauses) ≡ true = grind (arith, common_steps) in
    let few : nat_le (length clauses) MOST_CLAUSES ≡ true = grind (arith, common_steps) in
    let lawful : if_program clauses ≡ Some clauses = rw (some, few) refl in
    ap (option_and_then if_program) (clauses_again clauses fits) ∙ lawful

pub read_from_its_json : (clauses : List Clause) (body : List ℕ) → IsProgramLength (length clauses) → AllByRecursion ClauseFits clauses
    → IsUtf8 body → read body ≡ Some (program_data clauses) → program_of_body body ≡ Some clauses
read_from_its_json clauses body size fits text is =
    spelled body (program_data clauses) text is ∙ program_again clauses size fits
