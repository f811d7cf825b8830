use Rattle.std.proofs.Common.{◌≡◌, ◌≤◌, ℕ, Option, Some, codes, refl, sym, ap, subst, ◌∙◌, arith}
use Rattle.std.specs.Prelude.{option_map, IsSome}
use Rattle.std.specs.Str.Parse.{ParsesUnsigned, ExplainsUnsignedError, HasUnsignedDigitsIfOk}
use Rattle.clap.specs.Matches.{found_of}
use Rattle.casreg_command.specs.Words.{number_in}
use Rattle.casreg_command.proofs.Parsers.{reads_option}
use Rattle.casreg_command.proofs.words.lines_of.Goals as goal

pub unwrap-requires : goal.unwrap-requires
unwrap-requires c =
    subst (λ (o : Option ℕ). IsSome o) (sym (reads_option 32 0 100000 _ (λ bs r. ParsesUnsigned 32 10 bs r × ExplainsUnsignedError 10 bs r × HasUnsignedDigitsIfOk bs r) (λ text x g. g.0) (found_of c.args.given.now) (codes "lines") c.get_one.result c.requires (omega arith) c.get_one.ensures.value)) refl

number : (c : goal.After-unwrap) → c.unwrap.result ≡ number_in c.requires.0
number c =
    let e : Some c.unwrap.result ≡ Some (number_in c.requires.0) = sym c.unwrap.ensures ∙ reads_option 32 0 100000 _ (λ bs r. ParsesUnsigned 32 10 bs r × ExplainsUnsignedError 10 bs r × HasUnsignedDigitsIfOk bs r) (λ text x g. g.0) (found_of c.args.given.now) (codes "lines") c.get_one.result c.requires (omega arith) c.get_one.ensures.value in
    cc e

pub returns-clause-number : goal.returns-clause-number
returns-clause-number c = ap (option_map number_in) c.requires.1 ∙ ap (λ (n : ℕ). Some n) (sym (number c))

pub returns-clause-few : goal.returns-clause-few
returns-clause-few c = subst (λ (n : ℕ). n ≤ 100000) (sym (number c)) c.requires.2.3
