use Rattle.cas_slot.specs.Contents.{no_ages}
use Rattle.cas_slot.proofs.LimitLemmas.{none_fit}
use Rattle.cas_slot.proofs.map_shelf.MapShelf.new.Goals as goal

pub invariant_of-result : goal.invariant_of-result
invariant_of-result c = none_fit no_ages _ c.new.ensures.empty

pub returns-clause-up : goal.returns-clause-up
returns-clause-up c = none_fit no_ages _ c.new.ensures.empty
