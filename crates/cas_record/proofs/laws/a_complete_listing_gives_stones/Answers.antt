use Rattle.cas_record.proofs.Logs.Listings.{stones_of_listing}
use Rattle.cas_record.proofs.laws.a_complete_listing_gives_stones.Goals as goal

pub returns : goal.returns
returns c cluster meet log lawful era by entered quorum listed p stands early = stones_of_listing cluster meet lawful entered quorum listed stands early
