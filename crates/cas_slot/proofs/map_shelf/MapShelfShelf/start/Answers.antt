use Rattle.cas_slot.specs.Contents.{no_ages}
use Rattle.cas_slot.proofs.LimitLemmas.{none_fit}
use Rattle.cas_slot.proofs.map_shelf.MapShelfShelf.start.Goals as goal

pub invariant_of-self : goal.invariant_of-self
invariant_of-self c = none_fit no_ages _ c.clear.ensures.empty

pub returns-clause-up : goal.returns-clause-up
returns-clause-up c = none_fit no_ages _ c.clear.ensures.empty
