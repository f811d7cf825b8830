-- The rows of a table with one row for each leg.
use Rattle.std.specs.Prelude.{ℕ}
use Rattle.cas_fate.specs.declared.fate.Leg.{Leg}
use Rattle.cas_fate.specs.declared.fate.Leg.TheVariants.{Prepare, Accept, Ages, Remove, List as Listing, Probe, Reply}

-- the row of a leg in the table
abbrev pub row_of : Leg → ℕ
row_of Prepare = 0
row_of Accept = 1
row_of Ages = 2
row_of Remove = 3
row_of Listing = 4
row_of Probe = 5
row_of Reply = 6
