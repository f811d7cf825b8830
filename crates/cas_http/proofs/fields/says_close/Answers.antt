use Rattle.std.proofs.Common.{codes, rules}
use Rattle.std.specs.Str.{str_eq_ignore_ascii_case}
use Rattle.std.proofs.lemmas.Iterator.Search.{any_from_yields_List}
use Rattle.std.proofs.lemmas.Iterator.Splits.{YieldsList-from_slice_split}
use Rattle.cas_http.specs.Fields.{is_separator}
use Rattle.cas_http.proofs.fields.says_close.Goals as goal

pub returns : goal.returns
returns c =
    any_from_yields_List (λ word. str_eq_ignore_ascii_case word (codes "close")) _ _ _ c.any.ensures.ran
    (YieldsList-from_slice_split _ is_separator c.args.value.now c.split.ensures.rest c.split.ensures.done c.split.ensures.closure
    (λ x b q h. search rules))
    (λ x b q h. search rules)
