use Rattle.std.proofs.Common.{◌≡◌, ◌+◌, ◌++◌, ◌∷◌, [], ℕ, List, drop, sym, ap, subst, ◌∙◌, arith}
use Rattle.std.specs.Prelude.{Option, Some, IfSome, reverse}
use Rattle.cas_proposer.specs.Desk.{DeskView}
use Rattle.cas_world.specs.Openings.OpeningOn.{IsFaultOfVault, IsTakenUpOver, AreTakenUpBelow}
use Rattle.cas_world.proofs.Lists.{last_first, next_disk}
use Rattle.cas_world.proofs.Openings.OpeningsOn.{one_more_taken}
use Rattle.cas_world.proofs.reopen.take_up_desks.Given.{Over}
use Rattle.cas_world.proofs.reopen.take_up_desks.Goals as goal
use Rattle.cas_world.proofs.reopen.take_up_desks.Goals.{In-Ok}
use Rattle.cas_model.specs.View.{disk_meaning}

id_is : (option : Option ℕ) (id number : ℕ) → option ≡ Some id → IfSome option (λ (i : ℕ). i ≡ number) → id ≡ number
id_is option id number some is = subst (λ (o : Option ℕ). IfSome o (λ (i : ℕ). i ≡ number)) some is

made : (g : Over) (c : In-Ok g) → AreTakenUpBelow (disk_meaning g.V.Disk) g.V.Disk.seen g.V.Disk.fault_count c.args.past (reverse c.args.disks.now.items) (c.loop-number.number + 1) (c.loop-number.desks.items ++ c.in-Ok.desk ∷ [])
made g c = one_more_taken (disk_meaning g.V.Disk) g.V.Disk.seen g.V.Disk.fault_count c.args.past (reverse c.args.disks.now.items) c.loop-number.number c.loop-number.desks.items c.unwrap-disk.result c.in-Ok.desk c.loop-number.invariant.made
    (next_disk (reverse c.args.disks.now.items) c.loop-number.disks.items c.pop.new.self.items c.loop-number.number c.unwrap-disk.result c.pop.result c.pop.ensures.items c.unwrap-disk.ensures c.loop-number.invariant.left).0
    (subst (λ (i : ℕ). IsTakenUpOver (disk_meaning g.V.Disk) g.V.Disk.seen g.V.Disk.fault_count c.args.past i c.unwrap-disk.result c.in-Ok.desk) (id_is c.new.result c.unwrap-id.result c.loop-number.number c.unwrap-id.ensures c.new.ensures.value) (c.in-Ok.ensures {u = tt}).desk)

left : (g : Over) (c : In-Ok g) → reverse c.pop.new.self.items ≡ drop (c.loop-number.number + 1) (reverse c.args.disks.now.items)
left g c = (next_disk (reverse c.args.disks.now.items) c.loop-number.disks.items c.pop.new.self.items c.loop-number.number c.unwrap-disk.result c.pop.result c.pop.ensures.items c.unwrap-disk.ensures c.loop-number.invariant.left).1

pub loop-number-preserved : goal.loop-number-preserved
loop-number-preserved g c = record {
  made = subst (λ (l : List (DeskView _)). AreTakenUpBelow (disk_meaning g.V.Disk) g.V.Disk.seen g.V.Disk.fault_count c.args.past (reverse c.args.disks.now.items) (c.loop-number.number + 1) l) (sym c.push_reserved.ensures.items) (made g (goal.at.loop-number-preserved g c).In-Ok);
  left = left g (goal.at.loop-number-preserved g c).In-Ok;
  room = omega (arith, c.loop-number.invariant.room, c.push_reserved.ensures.capacity);
  capacity = c.pop.ensures.capacity ∙ c.loop-number.invariant.capacity;
}

pub returns-in-Ok-clause-ok : goal.returns-in-Ok-clause-ok
returns-in-Ok-clause-ok g c =
    let last : c.loop-number.number ≡ c.args.proposers = omega arith in
    subst (λ (n : ℕ). AreTakenUpBelow (disk_meaning g.V.Disk) g.V.Disk.seen g.V.Disk.fault_count c.args.past (reverse c.args.disks.now.items) (n + 1) c.push_reserved.new.self.items) last
    (subst (λ (l : List (DeskView _)). AreTakenUpBelow (disk_meaning g.V.Disk) g.V.Disk.seen g.V.Disk.fault_count c.args.past (reverse c.args.disks.now.items) (c.loop-number.number + 1) l) (sym c.push_reserved.ensures.items) (made g (goal.at.returns-in-Ok-clause-ok g c).In-Ok))

pub returns-in-Ok-clause-left : goal.returns-in-Ok-clause-left
returns-in-Ok-clause-left g c =
    let last : c.loop-number.number ≡ c.args.proposers = omega arith in
    left g (goal.at.returns-in-Ok-clause-left g c).In-Ok ∙ ap (λ (n : ℕ). drop (n + 1) (reverse c.args.disks.now.items)) last

pub returns-in-Err-clause-err : goal.returns-in-Err-clause-err
returns-in-Err-clause-err g c =
    let next = next_disk (reverse c.args.disks.now.items) c.loop-number.disks.items c.pop.new.self.items c.loop-number.number c.unwrap-disk.result c.pop.result c.pop.ensures.items c.unwrap-disk.ensures c.loop-number.invariant.left in
    record {
      number = c.loop-number.number;
      to = omega arith;
      made = c.loop-number.invariant.made;
      disk = c.unwrap-disk.result;
      at_disk = next.0;
      now = c.in-Err.disk;
      never_falls = (c.in-Err.ensures {u = tt}).never_falls;
      cause = subst (λ (i : ℕ). IsFaultOfVault (disk_meaning g.V.Disk) g.V.Disk.seen (64 + i) (g.V.Disk.fault_count c.unwrap-disk.result) (g.V.Disk.fault_count c.in-Err.disk) c.in-Err.disk c.in-Err.fault) (id_is c.new.result c.unwrap-id.result c.loop-number.number c.unwrap-id.ensures c.new.ensures.value) (c.in-Err.ensures {u = tt}).fault;
      rest = last_first c.push_reserved-in-Err.new.self.items c.pop.new.self.items c.in-Err.disk c.push_reserved-in-Err.ensures.items ∙ ap (λ (l : List _). c.in-Err.disk ∷ l) next.1;
    }
