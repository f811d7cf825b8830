use Rattle.std.proofs.Common.{◌≡◌, ◌+◌, ℕ, List, length, drop, sym, ap, subst, ◌∙◌, arith}
use Rattle.std.specs.Prelude.{reverse}
use Rattle.std.proofs.lemmas.List.{length-append, length-drop, length-map, length-reverse, reverse-reverse}
use Rattle.cas_acceptor.specs.Acceptor.{AcceptorView}
use Rattle.cas_ballot.specs.Members.{union_of}
use Rattle.cas_proposer.specs.Desk.{DeskView}
use Rattle.cas_quorum.specs.Era.{majority_era}
use Rattle.cas_quorum.specs.declared.era.Era.{Era}
use Rattle.cas_model.specs.View.{meaning, disk_meaning}
use Rattle.cas_vault.specs.Vault.{disk_of}
use Rattle.cas_world_calls.specs.Council.{opening_council}
use Rattle.cas_world_calls.specs.declared.council.Council.{Council}
use Rattle.cas_world.specs.Openings.Opening.{shelves_of, disks_of}
use Rattle.cas_world.specs.Openings.OpeningOn as opening
use Rattle.cas_world.specs.Openings.OpeningOn.{AreTakenUpBelow, AVaultIsNotTakenUp}
use Rattle.cas_world.specs.World.{IsWorld, view_of}
use Rattle.cas_model.specs.Openings.{IsOpeningOn}
use Rattle.cas_model.specs.SafeLaws.{HasPlaces}
use Rattle.cas_world.proofs.Openings.OpeningsOn.{is_opening_on, has_places_on, is_world_on, placed_places, placed_shelves, none_lost_on}
use Rattle.cas_world.proofs.world.World.open_on.Given.{Over}
use Rattle.cas_world.proofs.world.World.open_on.Goals as goal
use Rattle.cas_world.proofs.world.World.open_on.Goals.{In-Ok-take_up_desks, In-Err-take_up_desks}

-- ---- all are taken up
disks_there : (g : Over) (c : In-Ok-take_up_desks g) → reverse c.reverse.new.self.items ≡ c.args.vaults.items
disks_there g c = ap (λ (l : List _). reverse l) c.reverse.ensures.items ∙ reverse-reverse c.args.vaults.items

taken : (g : Over) (c : In-Ok-take_up_desks g)
    → AreTakenUpBelow (disk_meaning g.V.Disk) g.V.Disk.seen g.V.Disk.fault_count c.args.past c.args.vaults.items (c.args.config.proposers + 1) c.take_up_desks.new.desks.items
taken g c =
    subst (λ (l : List _). AreTakenUpBelow (disk_meaning g.V.Disk) g.V.Disk.seen g.V.Disk.fault_count c.args.past l (c.args.config.proposers + 1) c.take_up_desks.new.desks.items) (disks_there g c) (c.in-Ok-take_up_desks.ensures {u = tt}).ok

council_is : (council : Council) (era : Era) (used members all : List ℕ) (n : ℕ) → council ≡ opening_council era all → era ≡ majority_era n members → all ≡ union_of used members → council ≡ opening_council (majority_era n members) (union_of used members)
council_is council era used members all n is era_is all_is = is ∙ ap (λ (e : Era). opening_council e all) era_is ∙ ap (opening_council (majority_era n members)) all_is

pub invariant_of-result : goal.invariant_of-result
invariant_of-result g c = record {
  no_shelf = c.place_shelves.ensures.taken;
  shelf_room = omega (arith, c.place_shelves.ensures.capacity, c.args.shelves.ok.1, c.requires.shelves);
  disks_left = omega (arith, c.take_up_desks.new.disks.ok.0, length-reverse c.take_up_desks.new.disks.items, ap (λ (l : List _). length l) ((c.in-Ok-take_up_desks.ensures {u = tt}).left ∙ ap (drop (c.args.config.proposers + 1)) (disks_there g (goal.at.invariant_of-result g c).In-Ok-take_up_desks)), length-drop (c.args.config.proposers + 1) c.args.vaults.items, c.args.vaults.ok.0, c.requires.vaults, c.requires.proposers);
  disk_room = omega (arith, c.take_up_desks.ensures.capacity, c.reverse.ensures.capacity, c.args.vaults.ok.1, c.requires.vaults);
}

pub invariant_of-result-in-Ok-take_up_desks : goal.invariant_of-result-in-Ok-take_up_desks
invariant_of-result-in-Ok-take_up_desks g c =
    subst (λ (l : List (AcceptorView _)). IsWorld (meaning g.S.Shelf g.V.Disk) (view_of c.args.config.proposers c.new-in-Ok-take_up_desks.result l c.take_up_desks.new.desks.items c.in-Ok-new.lists.callers.items c.in-Ok-new.lists.flow c.in-Ok.record) c.in-Ok-new.lists.callers.items c.in-Ok.record.room) (sym c.place_shelves.ensures.acceptors)
    (is_world_on (meaning g.S.Shelf g.V.Disk) g.S.Shelf.is_up g.V.Disk.seen g.V.Disk.fault_count c.args.past c.args.members c.args.used c.args.floors.items c.args.config.proposers c.args.shelves.items c.args.vaults.items c.new-in-Ok-take_up_desks.result
    c.take_up_desks.new.desks.items c.in-Ok-new.lists.callers.items c.in-Ok-new.lists.flow c.in-Ok.record c.majority.ensures.set (omega (arith, c.requires.some, c.requires.count)) (omega (arith, c.requires.few, c.requires.count)) c.requires.proposers (sym c.args.shelves.ok.0 ∙ c.requires.shelves) c.requires.floors
    (omega (arith, c.args.floors.ok.0, c.requires.marks)) g.met.S.Shelf.up_is_kept c.requires.held c.requires.counters (taken g (goal.at.invariant_of-result-in-Ok-take_up_desks g c).In-Ok-take_up_desks)
    (council_is _ _ _ _ _ _ c.new-in-Ok-take_up_desks.ensures c.majority.ensures.value c.union.ensures) (c.in-Ok-new.ensures {u = tt}).callers (c.in-Ok-new.ensures {u = tt}).flow (c.in-Ok.ensures {u = tt}))

pub returns-in-Ok-take_up_desks-clause-opening : goal.returns-in-Ok-take_up_desks-clause-opening
returns-in-Ok-take_up_desks-clause-opening g c =
    subst (λ (l : List (AcceptorView _)). IsOpeningOn (meaning g.S.Shelf g.V.Disk) c.args.members (union_of c.args.used c.args.members) (opening.openings_of c.args.floors.items) (view_of c.args.config.proposers c.new-in-Ok-take_up_desks.result l c.take_up_desks.new.desks.items c.in-Ok-new.lists.callers.items c.in-Ok-new.lists.flow c.in-Ok.record)) (sym c.place_shelves.ensures.acceptors)
    (is_opening_on (meaning g.S.Shelf g.V.Disk) g.S.Shelf.is_up g.V.Disk.seen g.V.Disk.fault_count c.args.past c.args.members c.args.used c.args.floors.items c.args.config.proposers c.args.shelves.items c.args.vaults.items c.new-in-Ok-take_up_desks.result
    c.take_up_desks.new.desks.items c.in-Ok-new.lists.callers.items c.in-Ok-new.lists.flow c.in-Ok.record c.majority.ensures.set (omega (arith, c.requires.some, c.requires.count)) (omega (arith, c.requires.few, c.requires.count)) c.requires.proposers (sym c.args.shelves.ok.0 ∙ c.requires.shelves) c.requires.floors
    (omega (arith, c.args.floors.ok.0, c.requires.marks)) g.met.S.Shelf.up_is_kept c.requires.held c.requires.counters (taken g (goal.at.returns-in-Ok-take_up_desks-clause-opening g c).In-Ok-take_up_desks)
    (council_is _ _ _ _ _ _ c.new-in-Ok-take_up_desks.ensures c.majority.ensures.value c.union.ensures) (c.in-Ok-new.ensures {u = tt}).callers (c.in-Ok-new.ensures {u = tt}).flow (c.in-Ok.ensures {u = tt}))

pub returns-in-Ok-take_up_desks-clause-places : goal.returns-in-Ok-take_up_desks-clause-places
returns-in-Ok-take_up_desks-clause-places g c =
    subst (λ (l : List (AcceptorView _)). HasPlaces (view_of c.args.config.proposers c.new-in-Ok-take_up_desks.result l c.take_up_desks.new.desks.items c.in-Ok-new.lists.callers.items c.in-Ok-new.lists.flow c.in-Ok.record)) (sym c.place_shelves.ensures.acceptors)
    (has_places_on (meaning g.S.Shelf g.V.Disk) g.S.Shelf.is_up g.V.Disk.seen g.V.Disk.fault_count c.args.past c.args.members c.args.used c.args.floors.items c.args.config.proposers c.args.shelves.items c.args.vaults.items c.new-in-Ok-take_up_desks.result
    c.take_up_desks.new.desks.items c.in-Ok-new.lists.callers.items c.in-Ok-new.lists.flow c.in-Ok.record c.majority.ensures.set (omega (arith, c.requires.some, c.requires.count)) (omega (arith, c.requires.few, c.requires.count)) c.requires.proposers (sym c.args.shelves.ok.0 ∙ c.requires.shelves) c.requires.floors
    (omega (arith, c.args.floors.ok.0, c.requires.marks)) g.met.S.Shelf.up_is_kept c.requires.held c.requires.counters (taken g (goal.at.returns-in-Ok-take_up_desks-clause-places g c).In-Ok-take_up_desks)
    (council_is _ _ _ _ _ _ c.new-in-Ok-take_up_desks.ensures c.majority.ensures.value c.union.ensures) (c.in-Ok-new.ensures {u = tt}).callers (c.in-Ok-new.ensures {u = tt}).flow (c.in-Ok.ensures {u = tt}))

pub returns-in-Ok-take_up_desks-clause-vaults : goal.returns-in-Ok-take_up_desks-clause-vaults
returns-in-Ok-take_up_desks-clause-vaults g c = taken g (goal.at.returns-in-Ok-take_up_desks-clause-vaults g c).In-Ok-take_up_desks

-- ---- one is not
fails : (g : Over) (c : In-Err-take_up_desks g) → AVaultIsNotTakenUp (disk_meaning g.V.Disk) g.V.Disk.seen g.V.Disk.fault_count c.args.past c.args.vaults.items c.args.config.proposers c.in-Err-take_up_desks.fault c.take_up_desks.new.desks.items (reverse c.take_up_desks.new.disks.items)
fails g c =
    subst (λ (l : List _). AVaultIsNotTakenUp (disk_meaning g.V.Disk) g.V.Disk.seen g.V.Disk.fault_count c.args.past l c.args.config.proposers c.in-Err-take_up_desks.fault c.take_up_desks.new.desks.items (reverse c.take_up_desks.new.disks.items))
    (ap (λ (l : List _). reverse l) c.reverse.ensures.items ∙ reverse-reverse c.args.vaults.items) (c.in-Err-take_up_desks.ensures {u = tt}).err

-- as many shelves and as many disks as there were
shelves_back : (g : Over) (c : In-Err-take_up_desks g) → length c.place_shelves.new.acceptors.items ≡ 64
shelves_back g c = ap (λ (l : List _). length l) c.place_shelves.ensures.acceptors ∙ (placed_places c.args.members 0 c.args.shelves.items ∙ (sym c.args.shelves.ok.0 ∙ c.requires.shelves))

disks_back : (g : Over) (c : In-Err-take_up_desks g) → length c.take_up_desks.new.desks.items + length (reverse c.take_up_desks.new.disks.items) ≡ 17
disks_back g c =
    none_lost_on (disk_meaning g.V.Disk) g.V.Disk.seen g.V.Disk.fault_count c.args.past c.args.vaults.items c.args.config.proposers c.in-Err-take_up_desks.fault c.take_up_desks.new.desks.items (reverse c.take_up_desks.new.disks.items)
    (omega (arith, c.args.vaults.ok.0, c.requires.vaults, c.requires.proposers)) (fails g c)
    ∙ (sym c.args.vaults.ok.0 ∙ c.requires.vaults)

pub give_shelves-requires-clause-room : goal.give_shelves-requires-clause-room
give_shelves-requires-clause-room g c = omega (arith, c.place_shelves.new.acceptors.ok.0, shelves_back g (goal.at.give_shelves-requires-clause-room g c).In-Err-take_up_desks, c.place_shelves.ensures.capacity, c.args.shelves.ok.1, c.requires.shelves)

pub give_disks-requires : goal.give_disks-requires
give_disks-requires g c = omega (arith, c.take_up_desks.new.desks.ok.0, c.take_up_desks.new.disks.ok.0, length-reverse c.take_up_desks.new.disks.items, disks_back g (goal.at.give_disks-requires g c).In-Err-take_up_desks, c.take_up_desks.ensures.capacity, c.reverse.ensures.capacity, c.args.vaults.ok.1, c.requires.vaults)

pub returns-in-Err-take_up_desks-clause-fault : goal.returns-in-Err-take_up_desks-clause-fault
returns-in-Err-take_up_desks-clause-fault g c =
    opening.one_refused c.take_up_desks.new.desks.items (reverse c.take_up_desks.new.disks.items) (fails g (goal.at.returns-in-Err-take_up_desks-clause-fault g c).In-Err-take_up_desks)
    (c.give_shelves.ensures ∙ (ap (λ (l : List _). shelves_of l) c.place_shelves.ensures.acceptors ∙ placed_shelves c.args.members 0 c.args.shelves.items)) c.give_disks.ensures

pub returns-in-Err-take_up_desks-clause-back : goal.returns-in-Err-take_up_desks-clause-back
returns-in-Err-take_up_desks-clause-back g c = (
  c.give_shelves.new.shelves.ok.0 ∙ (ap (λ (l : List _). length l) c.give_shelves.ensures ∙ (length-map c.place_shelves.new.acceptors.items (λ a. a.shelf) ∙ shelves_back g (goal.at.returns-in-Err-take_up_desks-clause-back g c).In-Err-take_up_desks)),
  omega (arith, c.give_disks.new.disks.ok.0, ap (λ (l : List _). length l) c.give_disks.ensures, length-append (disks_of c.take_up_desks.new.desks.items) (reverse c.take_up_desks.new.disks.items), length-map c.take_up_desks.new.desks.items (λ (d : DeskView _). disk_of d.vault), disks_back g (goal.at.returns-in-Err-take_up_desks-clause-back g c).In-Err-take_up_desks),
)
