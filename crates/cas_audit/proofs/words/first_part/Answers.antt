use Rattle.cas_audit.specs.Spelling.Reading.{is_comma}
use Rattle.cas_audit.proofs.Spelling.Parts.{within_word, one_part, first_of_parts}
use Rattle.cas_audit.proofs.words.first_part.Goals as goal

pub split_at-requires : goal.split_at-requires
split_at-requires c = within_word is_comma c.args.list.now c.count_before.result c.count_before.ensures

pub returns-in-empty-clause-split : goal.returns-in-empty-clause-split
returns-in-empty-clause-split c =
    one_part is_comma c.args.list.now c.split_at.result.0.now c.split_at.result.1.now c.count_before.result c.count_before.ensures c.split_at.ensures.front c.split_at.ensures.back c.in-empty.len_below

pub returns-in-len1-up-clause-split : goal.returns-in-len1-up-clause-split
returns-in-len1-up-clause-split c =
    first_of_parts is_comma c.args.list.now c.split_at.result.0.now c.split_at.result.1.now c.count_before.result c.count_before.ensures c.split_at.ensures.front c.split_at.ensures.back c.in-len1-up.len_at_least
