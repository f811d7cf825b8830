-- What a table of links says.
use Rattle.std.specs.Prelude.{ℕ, [], slice_index_or}
use Rattle.cas_fate.specs.declared.fate.Leg.{Leg}
use Rattle.cas_fate.specs.Legs.{row_of}
use Rattle.cas_fate.specs.declared.fate.Verdict.{Verdict}
use Rattle.cas_fate.specs.declared.fate.Verdict.TheVariants.{Deliver}
use Rattle.cas_fate.specs.declared.links.Links.{Links}

-- what becomes of the frames of a leg to or from an acceptor
abbrev pub verdict_at : Links → Leg → ℕ → Verdict
verdict_at links leg peer = slice_index_or (slice_index_or links.rows (row_of leg) []) peer Deliver

-- how many frames were harmed
abbrev pub harms_of : Links → ℕ
harms_of links = links.harms
