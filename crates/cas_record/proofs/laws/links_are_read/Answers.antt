use Rattle.cas_record.proofs.Histories.Links.{link_read}
use Rattle.cas_record.proofs.laws.links_are_read.Goals as goal

pub returns : goal.returns
returns c cluster log lawful orderly p was clear = link_read cluster lawful orderly was clear
