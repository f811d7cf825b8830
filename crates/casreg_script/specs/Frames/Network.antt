-- What a network keeps: a table that says of each frame what the rules say, or a fate that draws.
use Rattle.std.specs.Prelude.{◌≡◌, ◌≢◌, ◌<◌, ℕ, Bool, List, if◌then◌else◌}
use Rattle.rand_pcg.specs.Lcg.{Lcg}
use Rattle.cas_fate.specs.Links.{verdict_at}
use Rattle.cas_fate.specs.Seeded.{random_of}
use Rattle.cas_fate.specs.declared.fate.Leg.{Leg}
use Rattle.cas_fate.specs.declared.fate.Verdict.{Verdict}
use Rattle.cas_fate.specs.declared.fate.Verdict.TheVariants.{Hold}
use Rattle.cas_fate.specs.declared.links.Links.{Links}
use Rattle.cas_fate.specs.declared.seeded.Seeded.{Seeded}
use Rattle.casreg_script.specs.Frames.Conditions.{Rule, NetworkView, Ruled, Drawn, verdict_of}
use Rattle.casreg_script.specs.declared.network.Network.{Network}
use Rattle.casreg_script.specs.declared.network.Network.TheVariants as network

-- the table agrees with these rules, none of which holds a frame back
pub record TableAgrees (links : Links) (rules : List Rule) : Type 0 where
  pub table : (leg : Leg) (peer : ℕ) → peer < 64 → verdict_at links leg peer ≡ verdict_of rules leg peer
  pub none_held : (leg : Leg) (peer : ℕ) → verdict_of rules leg peer ≢ Hold

-- what decides in a network
pub data IsNetwork : Network → NetworkView → Type 0 where
  by_rules : {links : Links} {rules : List Rule} → TableAgrees links rules → IsNetwork (network.Ruled links) (Ruled rules)
  by_draw : {fate : Seeded} {random : Lcg} → random_of fate ≡ random → IsNetwork (network.Drawn fate) (Drawn random)

-- in the network this decides that has P
pub record NetworkLeaves (network : Network) (P : NetworkView → Type 0) : Type 0 where
  pub view : NetworkView
  pub is : IsNetwork network view
  pub has : P view

-- a verdict that is set where that is so, and stays otherwise
abbrev pub ruled : Bool → Verdict → Verdict → Verdict
ruled here verdict before = if here then verdict else before

-- whatever decided in the old network, this decides in the new one, and R holds of the two
abbrev pub Through : Network → Network → (NetworkView → NetworkView → Type 0) → Type 0
Through old new R = (by : NetworkView) → IsNetwork old by → NetworkLeaves new (R by)
