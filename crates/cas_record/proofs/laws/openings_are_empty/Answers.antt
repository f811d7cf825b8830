use Rattle.cas_record.proofs.Histories.Chains.{chain-opened}
use Rattle.cas_record.proofs.laws.openings_are_empty.Goals as goal

pub returns : goal.returns
returns c marks key ballot opens = chain-opened key ballot marks opens
