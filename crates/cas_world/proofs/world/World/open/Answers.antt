use Rattle.std.proofs.Common.{◌≡◌, ◌+◌, List, length, sym, ap, subst, ◌∙◌, arith}
use Rattle.std.specs.Prelude.{reverse}
use Rattle.std.proofs.lemmas.List.{length-append, length-drop, length-map, length-reverse, reverse-reverse}
use Rattle.cas_acceptor.specs.Acceptor.{AcceptorView}
use Rattle.cas_proposer.specs.Desk.{DeskView}
use Rattle.cas_quorum.specs.Era.{majority_era}
use Rattle.cas_model.specs.View.{IsAt, meaning}
use Rattle.cas_vault.specs.Vault.{disk_of}
use Rattle.cas_world_calls.specs.Council.{opening_council}
use Rattle.cas_world.specs.Openings.Opening.{members_to}
use Rattle.cas_world.specs.Openings.Opening as opening
use Rattle.cas_world.specs.Openings.Opening.{unstarted, disks_of, AllStart, SomeDiskFails}
use Rattle.cas_world.proofs.Lists.{unstarted_at, unstarted_places}
use Rattle.cas_world.proofs.Openings.Openings.{is_opening, has_places, is_world}
use Rattle.cas_world.proofs.Openings.Starting.{none_lost, none_lost_either}
use Rattle.cas_world.proofs.world.World.open.Given.{Over}
use Rattle.cas_world.proofs.world.World.open.Goals as goal
use Rattle.cas_world.proofs.world.World.open.Goals.{In-Ok-start, In-Err-start}

-- ---- before the start
pub start-requires-clause-acceptors : goal.start-requires-clause-acceptors
start-requires-clause-acceptors g c = omega (arith, c.requires.few, c.take_shelves.new.acceptors.ok.0, ap (λ (l : List (AcceptorView _)). length l) c.take_shelves.ensures.acceptors, unstarted_places 0 c.args.shelves.items, c.args.shelves.ok.0, c.requires.shelves)

pub start-requires-clause-identities : goal.start-requires-clause-identities
start-requires-clause-identities g c = omega (arith, c.take_shelves.new.acceptors.ok.0, ap (λ (l : List (AcceptorView _)). length l) c.take_shelves.ensures.acceptors, unstarted_places 0 c.args.shelves.items, c.args.shelves.ok.0, c.requires.shelves)

pub start-requires-clause-fresh : goal.start-requires-clause-fresh
start-requires-clause-fresh g c id acceptor at =
    let was = unstarted_at 0 c.args.shelves.items id acceptor (subst (λ (l : List (AcceptorView _)). IsAt l id acceptor) c.take_shelves.ensures.acceptors at) in
    (ap (λ (a : AcceptorView _). a.started) was.1, ap (λ (a : AcceptorView _). a.down) was.1)

-- ---- all start
starts : (g : Over) (c : In-Ok-start g) → AllStart (meaning g.S.Shelf g.V.Disk) g.S.Shelf.fault_count g.V.Disk.fault_count c.args.config.acceptors c.args.config.proposers (unstarted 0 c.args.shelves.items) c.args.vaults.items
    c.start.new.acceptors.items c.start.new.desks.items (reverse c.start.new.disks.items)
starts g c =
    let m = meaning g.S.Shelf g.V.Disk in
    subst (λ (l : List (AcceptorView _)). AllStart m g.S.Shelf.fault_count g.V.Disk.fault_count c.args.config.acceptors c.args.config.proposers l c.args.vaults.items c.start.new.acceptors.items c.start.new.desks.items (reverse c.start.new.disks.items)) c.take_shelves.ensures.acceptors
    (subst (λ (l : List _). AllStart m g.S.Shelf.fault_count g.V.Disk.fault_count c.args.config.acceptors c.args.config.proposers c.take_shelves.new.acceptors.items l c.start.new.acceptors.items c.start.new.desks.items (reverse c.start.new.disks.items))
    (ap (λ (l : List _). reverse l) c.reverse.ensures.items ∙ reverse-reverse c.args.vaults.items) (c.in-Ok-start.ensures {u = tt}).ok)

pub invariant_of-result : goal.invariant_of-result
invariant_of-result g c = record {
  no_shelf = c.take_shelves.ensures.taken;
  shelf_room = omega (arith, c.take_shelves.ensures.capacity, c.args.shelves.ok.1, c.requires.shelves);
  disks_left = omega (arith, c.start.new.disks.ok.0, length-reverse c.start.new.disks.items, ap (λ (l : List _). length l) (starts g (goal.at.invariant_of-result g c).In-Ok-start).rest, length-drop (c.args.config.proposers + 1) c.args.vaults.items, c.args.vaults.ok.0, c.requires.vaults, c.requires.proposers);
  disk_room = omega (arith, c.start.ensures.capacity, c.reverse.ensures.capacity, c.args.vaults.ok.1, c.requires.vaults);
}

pub invariant_of-result-in-Ok-start : goal.invariant_of-result-in-Ok-start
invariant_of-result-in-Ok-start g c =
    is_world (meaning g.S.Shelf g.V.Disk) g.S.Shelf.fault_count g.V.Disk.fault_count c.args.config.acceptors c.args.config.proposers c.args.shelves.items c.args.vaults.items c.new-in-Ok-start.result
    c.start.new.acceptors.items c.start.new.desks.items c.in-Ok.lists.callers.items c.in-Ok.lists.flow c.new-in-Ok-start-2.result (reverse c.start.new.disks.items) c.requires.some c.requires.few c.requires.proposers (sym c.args.shelves.ok.0 ∙ c.requires.shelves)
    (starts g (goal.at.invariant_of-result-in-Ok-start g c).In-Ok-start) (c.new-in-Ok-start.ensures ∙ ap (λ (e : _). opening_council e c.first_members-members.result) (c.majority.ensures.value ∙ ap (majority_era 0) c.first_members-members.ensures) ∙ ap (opening_council (majority_era 0 (members_to c.args.config.acceptors))) c.first_members-members.ensures) (c.in-Ok.ensures {u = tt}).callers (c.in-Ok.ensures {u = tt}).flow c.new-in-Ok-start-2.ensures

pub returns-in-Ok-start-clause-opening : goal.returns-in-Ok-start-clause-opening
returns-in-Ok-start-clause-opening g c =
    is_opening (meaning g.S.Shelf g.V.Disk) g.S.Shelf.fault_count g.V.Disk.fault_count c.args.config.acceptors c.args.config.proposers c.args.shelves.items c.args.vaults.items c.new-in-Ok-start.result
    c.start.new.acceptors.items c.start.new.desks.items c.in-Ok.lists.callers.items c.in-Ok.lists.flow c.new-in-Ok-start-2.result (reverse c.start.new.disks.items) c.requires.some c.requires.few c.requires.proposers (sym c.args.shelves.ok.0 ∙ c.requires.shelves)
    (starts g (goal.at.returns-in-Ok-start-clause-opening g c).In-Ok-start) (c.new-in-Ok-start.ensures ∙ ap (λ (e : _). opening_council e c.first_members-members.result) (c.majority.ensures.value ∙ ap (majority_era 0) c.first_members-members.ensures) ∙ ap (opening_council (majority_era 0 (members_to c.args.config.acceptors))) c.first_members-members.ensures) (c.in-Ok.ensures {u = tt}).callers (c.in-Ok.ensures {u = tt}).flow c.new-in-Ok-start-2.ensures

pub returns-in-Ok-start-clause-places : goal.returns-in-Ok-start-clause-places
returns-in-Ok-start-clause-places g c =
    has_places (meaning g.S.Shelf g.V.Disk) g.S.Shelf.fault_count g.V.Disk.fault_count c.args.config.acceptors c.args.config.proposers c.args.shelves.items c.args.vaults.items c.new-in-Ok-start.result
    c.start.new.acceptors.items c.start.new.desks.items c.in-Ok.lists.callers.items c.in-Ok.lists.flow c.new-in-Ok-start-2.result (reverse c.start.new.disks.items) c.requires.some c.requires.few c.requires.proposers (sym c.args.shelves.ok.0 ∙ c.requires.shelves)
    (starts g (goal.at.returns-in-Ok-start-clause-places g c).In-Ok-start) (c.new-in-Ok-start.ensures ∙ ap (λ (e : _). opening_council e c.first_members-members.result) (c.majority.ensures.value ∙ ap (majority_era 0) c.first_members-members.ensures) ∙ ap (opening_council (majority_era 0 (members_to c.args.config.acceptors))) c.first_members-members.ensures) (c.in-Ok.ensures {u = tt}).callers (c.in-Ok.ensures {u = tt}).flow c.new-in-Ok-start-2.ensures

pub returns-in-Ok-start-clause-vaults : goal.returns-in-Ok-start-clause-vaults
returns-in-Ok-start-clause-vaults g c = (starts g (goal.at.returns-in-Ok-start-clause-vaults g c).In-Ok-start).made

-- ---- something fails
fails : (g : Over) (c : In-Err-start g) → SomeDiskFails (meaning g.S.Shelf g.V.Disk) g.S.Shelf.fault_count g.V.Disk.fault_count c.args.config.acceptors c.args.config.proposers (unstarted 0 c.args.shelves.items) c.args.vaults.items
    c.in-Err-start.fault c.start.new.acceptors.items c.start.new.desks.items (reverse c.start.new.disks.items)
fails g c =
    let m = meaning g.S.Shelf g.V.Disk in
    subst (λ (l : List (AcceptorView _)). SomeDiskFails m g.S.Shelf.fault_count g.V.Disk.fault_count c.args.config.acceptors c.args.config.proposers l c.args.vaults.items c.in-Err-start.fault c.start.new.acceptors.items c.start.new.desks.items (reverse c.start.new.disks.items)) c.take_shelves.ensures.acceptors
    (subst (λ (l : List _). SomeDiskFails m g.S.Shelf.fault_count g.V.Disk.fault_count c.args.config.acceptors c.args.config.proposers c.take_shelves.new.acceptors.items l c.in-Err-start.fault c.start.new.acceptors.items c.start.new.desks.items (reverse c.start.new.disks.items))
    (ap (λ (l : List _). reverse l) c.reverse.ensures.items ∙ reverse-reverse c.args.vaults.items) (c.in-Err-start.ensures {u = tt}).err)

-- as many shelves and as many disks as there were
shelves_back : (g : Over) (c : In-Err-start g) → length c.start.new.acceptors.items ≡ 64
shelves_back g c =
    none_lost_either (meaning g.S.Shelf g.V.Disk) g.S.Shelf.fault_count g.V.Disk.fault_count c.args.config.acceptors c.args.config.proposers (unstarted 0 c.args.shelves.items) c.args.vaults.items
    c.in-Err-start.fault c.start.new.acceptors.items c.start.new.desks.items (reverse c.start.new.disks.items) (fails g c)
    ∙ (unstarted_places 0 c.args.shelves.items ∙ (sym c.args.shelves.ok.0 ∙ c.requires.shelves))

disks_back : (g : Over) (c : In-Err-start g) → length c.start.new.desks.items + length (reverse c.start.new.disks.items) ≡ 17
disks_back g c =
    none_lost (meaning g.S.Shelf g.V.Disk) g.S.Shelf.fault_count g.V.Disk.fault_count c.args.config.acceptors c.args.config.proposers (unstarted 0 c.args.shelves.items) c.args.vaults.items
    c.in-Err-start.fault c.start.new.acceptors.items c.start.new.desks.items (reverse c.start.new.disks.items) (omega (arith, c.args.vaults.ok.0, c.requires.vaults, c.requires.proposers)) (fails g c)
    ∙ (sym c.args.vaults.ok.0 ∙ c.requires.vaults)

pub give_shelves-requires-clause-room : goal.give_shelves-requires-clause-room
give_shelves-requires-clause-room g c = omega (arith, c.start.new.acceptors.ok.0, shelves_back g (goal.at.give_shelves-requires-clause-room g c).In-Err-start, c.take_shelves.ensures.capacity, c.args.shelves.ok.1, c.requires.shelves)

pub give_disks-requires : goal.give_disks-requires
give_disks-requires g c = omega (arith, c.start.new.desks.ok.0, c.start.new.disks.ok.0, length-reverse c.start.new.disks.items, disks_back g (goal.at.give_disks-requires g c).In-Err-start, c.start.ensures.capacity, c.reverse.ensures.capacity, c.args.vaults.ok.1, c.requires.vaults)

pub returns-in-Err-start-clause-fault : goal.returns-in-Err-start-clause-fault
returns-in-Err-start-clause-fault g c =
    opening.some_fails c.start.new.acceptors.items c.start.new.desks.items (reverse c.start.new.disks.items) (fails g (goal.at.returns-in-Err-start-clause-fault g c).In-Err-start) c.give_shelves.ensures c.give_disks.ensures

pub returns-in-Err-start-clause-back : goal.returns-in-Err-start-clause-back
returns-in-Err-start-clause-back g c = (
  c.give_shelves.new.shelves.ok.0 ∙ (ap (λ (l : List _). length l) c.give_shelves.ensures ∙ (length-map c.start.new.acceptors.items (λ a. a.shelf) ∙ shelves_back g (goal.at.returns-in-Err-start-clause-back g c).In-Err-start)),
  omega (arith, c.give_disks.new.disks.ok.0, ap (λ (l : List _). length l) c.give_disks.ensures, length-append (disks_of c.start.new.desks.items) (reverse c.start.new.disks.items), length-map c.start.new.desks.items (λ (d : DeskView _). disk_of d.vault), disks_back g (goal.at.returns-in-Err-start-clause-back g c).In-Err-start),
)
