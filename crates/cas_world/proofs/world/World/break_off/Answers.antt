use Rattle.std.proofs.Common.{sym, subst}
use Rattle.cas_model.specs.View.{View, meaning}
use Rattle.cas_world.specs.World.{IsWorld}
use Rattle.cas_world.proofs.Exchanges.Exchanges.{broken_seen, broken_world}
use Rattle.cas_world.proofs.world.World.break_off.Goals as goal

-- src/parties.rt:79:5
pub invariant_of-self : goal.invariant_of-self
invariant_of-self g c =
    let m = meaning g.S.Shelf g.V.Disk in
    subst (λ (v : View g.row.S.Denot g.row.V.Denot). IsWorld m v c.self.inside.callers.items c.self.inside.record.room)
    (sym (broken_seen c.self.inside.setup.proposers c.self.inside.council c.break_off.new.self c.self.inside.acceptors.items c.self.inside.desks.items c.self.inside.callers.items c.self.inside.flow c.abandon.new.self c.self.inside.record c.abandon.ensures c.break_off.ensures.eras c.break_off.ensures.broken))
    (broken_world _ c.self.inside.callers.items c.self.inside.record.room c.self.invariant)
