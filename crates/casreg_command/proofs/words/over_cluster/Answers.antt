use Rattle.std.proofs.Common.{◌≡◌, ◌||◌, Bool, ap, ap₂, ◌∙◌, codes}
use Rattle.clap.specs.Simple.{with_rule}
use Rattle.clap.specs.Walk.{rule_of}
use Rattle.clap.specs.declared.builder.value_parser.ValueParser.{ValueParser}
use Rattle.clap.specs.declared.builder.value_parser.ValueParser.TheVariants.{Unsigned}
use Rattle.casreg_command.specs.Words.{option_of}
use Rattle.casreg_command.proofs.Parsers.{if_ok, narrowed}
use Rattle.casreg_command.proofs.words.over_cluster.Goals as goal

pub returns-clause-app : goal.returns-clause-app
returns-clause-app c =
    let acceptors : rule_of c.option_of-acceptors.result ≡ option_of (codes "acceptors") (Unsigned 1 9) (codes "3") =
    c.option_of-acceptors.ensures.rule ∙ ap (λ (p : ValueParser). option_of (codes "acceptors") p (codes "3")) ((rw c.value_parser.ensures at c.range.ensures) ∙ ap₂ narrowed c.new.ensures.start c.new.ensures.end) in
    let proposers : rule_of c.option_of-proposers.result ≡ option_of (codes "proposers") (Unsigned 1 16) (codes "1") =
    c.option_of-proposers.ensures.rule ∙ ap (λ (p : ValueParser). option_of (codes "proposers") p (codes "1")) ((rw c.value_parser-2.ensures at c.range-2.ensures) ∙ ap₂ narrowed c.new-2.ensures.start c.new-2.ensures.end) in
    let tries : rule_of c.option_of-tries.result ≡ option_of (codes "tries") (Unsigned 1 64) (codes "1") =
    c.option_of-tries.ensures.rule ∙ ap (λ (p : ValueParser). option_of (codes "tries") p (codes "1")) ((rw c.value_parser-3.ensures at c.range-3.ensures) ∙ ap₂ narrowed c.new-3.ensures.start c.new-3.ensures.end) in
    if_ok c.arg-4.result _ _
    (λ r adds. adds.shape c.option_of-marks.ensures.local ∙ ap₂ with_rule
    (c.in_ok-arg-3.ensures.shape c.option_of-tries.ensures.local ∙ ap₂ with_rule
    (c.in_ok-arg-2.ensures.shape c.option_of-proposers.ensures.local ∙ ap₂ with_rule
    (c.in_ok-arg.ensures.shape c.option_of-acceptors.ensures.local ∙ ap₂ with_rule c.new-4.ensures.app acceptors) proposers) tries) c.option_of-marks.ensures.rule)
    c.arg-4.ensures

pub returns-clause-local : goal.returns-clause-local
returns-clause-local c =
    if_ok c.arg-4.result _ _
    (λ r adds. adds.globals ∙ ap₂ (λ (a b : Bool). a || b)
    (c.in_ok-arg-3.ensures.globals ∙ ap₂ (λ (a b : Bool). a || b)
    (c.in_ok-arg-2.ensures.globals ∙ ap₂ (λ (a b : Bool). a || b)
    (c.in_ok-arg.ensures.globals ∙ ap₂ (λ (a b : Bool). a || b) c.new-4.ensures.local c.option_of-acceptors.ensures.local)
    c.option_of-proposers.ensures.local) c.option_of-tries.ensures.local) c.option_of-marks.ensures.local)
    c.arg-4.ensures
