use Rattle.std.proofs.Common.{◌≡◌, ℕ, get_or, replicate, inl, inr, arith}
use Rattle.std.proofs.lemmas.Bool.{cases_lt}
use Rattle.std.proofs.lemmas.List.{get_or-replicate, get_or_past, length-replicate}
use Rattle.cas_fate.specs.declared.fate.Leg.TheVariants.{Prepare, Accept, Ages, Remove, List, Probe, Reply}
use Rattle.cas_fate.proofs.links.Links.new.Goals as goal

-- copies of one value have it at each place, and past their end it is what a read gives
at_each : {X : Type 0} (n i : ℕ) (x : X) → get_or (replicate n x) i x ≡ x
at_each n i x = elim (cases_lt i n) [
  | inl within ↦ get_or-replicate n i x x within
  | inr past ↦ get_or_past (replicate n x) i x (omega (arith, length-replicate n x, past))
]

pub returns-clause-all : goal.returns-clause-all
returns-clause-all c Prepare peer = at_each 64 peer _
returns-clause-all c Accept peer = at_each 64 peer _
returns-clause-all c Ages peer = at_each 64 peer _
returns-clause-all c Remove peer = at_each 64 peer _
returns-clause-all c List peer = at_each 64 peer _
returns-clause-all c Probe peer = at_each 64 peer _
returns-clause-all c Reply peer = at_each 64 peer _
