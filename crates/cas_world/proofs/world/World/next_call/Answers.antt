use Rattle.std.proofs.Common.{ap, arith}
use Rattle.std.proofs.lemmas.List.{length-map}
use Rattle.cas_model.specs.View.{View}
use Rattle.cas_world.specs.World.{caller_view}
use Rattle.cas_world.proofs.Parts.{at_place}
use Rattle.cas_world.proofs.Readers.{few_calls}
use Rattle.cas_world.proofs.world.World.next_call.Goals as goal

pub next-requires : goal.next-requires
next-requires g c = few_calls c.self.inside.setup.proposers c.self.inside.council c.self.inside.acceptors.items c.self.inside.desks.items c.self.inside.callers.items c.self.inside.flow c.self.inside.record
    c.args.caller c.index.result.now c.self.invariant.safe (omega (arith, c.requires, ap (λ (v : View _ _). v.last_proposer) c.self.view_is))
    (at_place c.self.inside.callers.items c.from.result c.args.caller c.index.result.now c.from.ensures
    (omega (arith, c.self.invariant.safe.sound.callers, c.requires, ap (λ (v : View _ _). v.last_proposer) c.self.view_is, length-map c.self.inside.callers.items caller_view)) c.index.ensures)
