use Rattle.std.proofs.Common.{◌≡◌, Bool, true, false, Option, Some, None, is_some, refl, sym, ap, ◌∙◌, codes}
use Rattle.std.specs.Prelude.{option_map, IsSome}
use Rattle.std.specs.Str.{bytes_eq}
use Rattle.clap.specs.Matches.{found_of, first_value}
use Rattle.clap.specs.Walk.{Text, first_of, rows_of}
use Rattle.clap.specs.declared.parser.matches.Found.{Found}
use Rattle.clap.proofs.WalkLemmas.{first_value-rows}
use Rattle.casreg_command.specs.Words.{marks_word}
use Rattle.casreg_command.proofs.Taken.{same_bytes, bytes_same}
use Rattle.casreg_command.proofs.words.marks_of.Goals as goal

some_of : {A : Type 0} (text : A → Text) (o : Option A) → is_some (option_map text o) ≡ true → IsSome o
some_of text None e = absurd (cc e)
some_of text (Some a) e = refl

pub unwrap-text-requires : goal.unwrap-text-requires
unwrap-text-requires c = some_of _ c.get_str.result (ap is_some (c.get_str.ensures ∙ first_value-rows (found_of c.args.given.now) (codes "marks")) ∙ c.requires)

-- what was read is what stands there
stands : {A : Type 0} (text : A → Text) (f : Found) (o : Option A) (a : A) → option_map text o ≡ first_value f (codes "marks") → o ≡ Some a → first_of (codes "marks") (rows_of f) ≡ Some (text a)
stands text f o a read is = sym (first_value-rows f (codes "marks")) ∙ sym read ∙ ap (option_map text) is

-- it is no other word
neither : (text : Text) → false ≡ bytes_eq text (codes "yes") → false ≡ bytes_eq text (codes "no") → (marks : Bool) → Some text ≡ Some (marks_word marks) → ⊥
neither text no_yes no_no true e = let same : text ≡ codes "yes" = cc e in let both : false ≡ true = no_yes ∙ bytes_same text (codes "yes") same in absurd (cc both)
neither text no_yes no_no false e = let same : text ≡ codes "no" = cc e in let both : false ≡ true = no_no ∙ bytes_same text (codes "no") same in absurd (cc both)

pub returns-then-eq : goal.returns-then-eq
returns-then-eq c =
    stands (λ s. s.now) (found_of c.args.given.now) c.get_str.result c.unwrap-text.result c.get_str.ensures c.unwrap-text.ensures
    ∙ ap (λ (t : Text). Some t) (same_bytes c.unwrap-text.result.now (codes "yes") (sym c.if-eq.ensures))

pub returns-then-eq-2 : goal.returns-then-eq-2
returns-then-eq-2 c =
    stands (λ s. s.now) (found_of c.args.given.now) c.get_str.result c.unwrap-text.result c.get_str.ensures c.unwrap-text.ensures
    ∙ ap (λ (t : Text). Some t) (same_bytes c.unwrap-text.result.now (codes "no") (sym c.if-eq-2.ensures))

pub returns-else-eq-2 : goal.returns-else-eq-2
returns-else-eq-2 c marks e =
    neither c.unwrap-text.result.now c.if-eq.ensures c.if-eq-2.ensures marks
    (sym (stands (λ s. s.now) (found_of c.args.given.now) c.get_str.result c.unwrap-text.result c.get_str.ensures c.unwrap-text.ensures) ∙ e)
