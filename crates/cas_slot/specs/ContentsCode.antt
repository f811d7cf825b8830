-- The code of what an acceptor keeps, by which a model can have it as its value.
use Rattle.std.specs.Prelude.{refl}
use Rattle.std.specs.Coded.{Coded, code_by, coded×}
use Rattle.cas_slot.specs.contracts.ages.Ages as ages
use Rattle.cas_slot.specs.declared.ages.Ages.{Ages}
use Rattle.cas_slot.specs.Slots.{Slots}
use Rattle.cas_slot.specs.SlotsCode.{slots_code}
use Rattle.cas_slot.specs.Contents.{Contents}

abbrev pub contents_code : Coded Contents
contents_code = code_by (Slots × Ages) (coded× slots_code ages.the_row.coded) (λ c. (c.slots, c.ages)) (λ p. record { slots = p.0; ages = p.1 }) (λ _. refl)
