use Rattle.cas_record.proofs.Logs.Openings.{opening_stone}
use Rattle.cas_record.proofs.laws.a_complete_listing_gives_opening_stones.Goals as goal

pub returns : goal.returns
returns c cluster meet log lawful orderly era by some entered quorum listed key floor opened = opening_stone cluster meet lawful orderly some entered quorum listed opened
