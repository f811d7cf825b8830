use Rattle.std.proofs.Common.{◌==◌}
use Rattle.cas_audit.proofs.Spelling.Parts.{within_word, behind_cut}
use Rattle.cas_audit.proofs.words.around.Goals as goal

pub split_at-requires : goal.split_at-requires
split_at-requires c = within_word (λ each. each == c.args.byte) c.args.bytes.now c.count_before.result c.count_before.ensures

pub returns-in-len1-up-clause-behind : goal.returns-in-len1-up-clause-behind
returns-in-len1-up-clause-behind c =
    behind_cut (λ each. each == c.args.byte) c.args.bytes.now c.split_at.result.1.now c.count_before.result c.count_before.ensures c.split_at.ensures.back
