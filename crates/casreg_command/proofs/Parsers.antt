-- What the parsers of clap become and read, and what holds of a command that has one option more.
use Rattle.std.proofs.Common.{◌≡◌, ◌<◌, ◌^◌, ℕ, ℤ, List, Option, Some, None, Result, Ok, Err, IfOk, ap, ◌∙◌, arith}
use Rattle.std.specs.Str.Parse.{ParsesUnsigned}
use Rattle.std.specs.Ordering.{nat_cmp, ord_max}
use Rattle.std.specs.Int.{saturate_unsigned}
use mir.Syntax.{w64}
use Rattle.clap.specs.Matches.{ReadsOne, one_text}
use Rattle.clap.specs.Values.{unsigned_up_to, IsUnsignedIn}
use Rattle.clap.specs.Walk.{one_of, rows_of}
use Rattle.clap.specs.declared.parser.matches.Found.{Found}
use Rattle.clap.specs.declared.builder.value_parser.ValueParser.{ValueParser}
use Rattle.clap.proofs.WalkLemmas.{one_text-rows}
use Rattle.casreg_command.specs.Words.{number_in, IsNumberIn}

pub if_ok : {T E : Type 0} (r : Result T E) (P Q : T → Type 0) → ((x : T) → P x → Q x) → IfOk r P → IfOk r Q
if_ok (Ok x) P Q f h = f x h
if_ok (Err e) P Q f h = tt

-- what a parser of numbers becomes within these bounds
abbrev pub narrowed : ℤ → ℤ → ValueParser
narrowed low high = unsigned_up_to (ord_max nat_cmp 0 (saturate_unsigned w64 low)) 18446744073709551615 (Some high)

-- what is read of a text that spells such a number is that number
reads : {E : Type 0} (bits least most : ℕ) (text : List ℕ) (r : Option ℕ) (G : List ℕ → Result ℕ E → Type 0) → ((x : Result ℕ E) → G text x → ParsesUnsigned bits 10 text x) → most < 2 ^ bits → IsUnsignedIn least most text → ReadsOne G text r → r ≡ Some (number_in text)
reads bits least most text (Some n) G parses small fits read = ap (λ (n : ℕ). Some n) ((parses (Ok n) read).1)
reads bits least most text None G parses small fits read = absurd (parses (Err read.0) read.1 (fits.0, omega (arith, small, fits.3)))

-- and so it is of an option
pub reads_option : (bits least most : ℕ) (E : Type 0) (G : List ℕ → Result ℕ E → Type 0) → ((text : List ℕ) (x : Result ℕ E) → G text x → ParsesUnsigned bits 10 text x) → (f : Found) (name : List ℕ) (r : Option ℕ) (has : IsNumberIn least most (one_of name (rows_of f)))
    → most < 2 ^ bits → ((t : List ℕ) → one_text f name ≡ Some t → ReadsOne G t r) → r ≡ Some (number_in has.0)
reads_option bits least most E G parses f name r has small value =
    reads bits least most has.0 r G (parses has.0) small has.2 (value has.0 (one_text-rows f name ∙ has.1))
