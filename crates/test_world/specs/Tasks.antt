-- What the operator's open call asks for.
use Rattle.std.specs.Prelude.{⊤, Bool, true, false, Option, None, Some}
use Rattle.cas_world.specs.declared.exchange.Exchange.{Exchange}
use Rattle.cas_world.specs.declared.exchange.Exchange.TheVariants as what
use Rattle.test_world.specs.declared.task.Task.{Task}
use Rattle.test_world.specs.declared.task.Task.TheVariants.{Change, Collection}

-- a change of membership
abbrev pub is_change : Option Task → Bool
is_change None = false
is_change (Some (Change plan)) = true
is_change (Some (Collection key)) = false

-- a collection
abbrev pub is_collection : Option Task → Bool
is_collection None = false
is_collection (Some (Change plan)) = false
is_collection (Some (Collection key)) = true

-- members are asked this for a removal: to raise their least ages, or to give back their slots
abbrev pub IsOfRemoval : Exchange → Type 0
IsOfRemoval what.Ages = ⊤
IsOfRemoval what.Remove = ⊤
IsOfRemoval other = ⊥
