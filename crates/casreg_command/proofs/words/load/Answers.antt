use Rattle.std.proofs.Common.{◌≡◌, ap, ap₂, ◌∙◌, codes}
use Rattle.clap.specs.Simple.{with_rule}
use Rattle.clap.specs.Walk.{rule_of}
use Rattle.clap.specs.declared.builder.value_parser.ValueParser.{ValueParser}
use Rattle.clap.specs.declared.builder.value_parser.ValueParser.TheVariants.{Unsigned}
use Rattle.casreg_command.specs.Words.{option_of}
use Rattle.casreg_command.proofs.Parsers.{if_ok, narrowed}
use Rattle.casreg_command.proofs.words.load.Goals as goal

pub returns-clause-app : goal.returns-clause-app
returns-clause-app c =
    let seed : rule_of c.option_of-seed.result ≡ option_of (codes "seed") (Unsigned 0 18446744073709551615) (codes "1") =
    c.option_of-seed.ensures.rule ∙ ap (λ (p : ValueParser). option_of (codes "seed") p (codes "1")) c.value_parser.ensures in
    let lines : rule_of c.option_of-lines.result ≡ option_of (codes "lines") (Unsigned 0 100000) (codes "1000") =
    c.option_of-lines.ensures.rule ∙ ap (λ (p : ValueParser). option_of (codes "lines") p (codes "1000")) ((rw c.value_parser-2.ensures at c.range.ensures) ∙ ap₂ narrowed c.new.ensures.start c.new.ensures.end) in
    if_ok c.arg-2.result _ _
    (λ r adds. adds.shape c.option_of-lines.ensures.local ∙ ap₂ with_rule
    (c.in_ok-arg.ensures.shape c.option_of-seed.ensures.local ∙ ap₂ with_rule c.in_ok-over_cluster.ensures.app seed) lines)
    c.arg-2.ensures
