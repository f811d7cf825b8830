use Rattle.std.proofs.Common.{refl, ap, ◌∙◌, arith}
use Rattle.std.specs.Prelude.{slice_get}
use Rattle.std.proofs.lemmas.List.{length-map}
use Rattle.cas_model.specs.View.{View, IsAt}
use Rattle.cas_world.specs.World.{caller_view}
use Rattle.cas_world.proofs.Parts.{at_place}
use Rattle.cas_world.proofs.Calls.Settling.{phase_tells}
use Rattle.cas_world.proofs.world.World.has_proposed.Goals as goal

pub returns-clause-phase : goal.returns-clause-phase
returns-clause-phase g c desk at_desk =
    let here : IsAt c.self.inside.desks.items c.args.caller desk = ap (λ (v : View _ _). slice_get v.desks c.args.caller) c.self.view_is ∙ at_desk in
    let at_caller = at_place c.self.inside.callers.items c.from.result c.args.caller c.index.result.now c.from.ensures
    (omega (arith, c.requires, ap (λ (v : View _ _). v.last_proposer) c.self.view_is, c.self.invariant.safe.sound.callers, length-map c.self.inside.callers.items caller_view)) c.index.ensures in
    phase_tells c.self.inside.setup.proposers c.self.inside.council c.self.inside.acceptors.items c.self.inside.desks.items c.self.inside.callers.items c.self.inside.flow c.self.inside.record c.args.caller desk c.index.result.now c.has_proposed.result
    c.self.invariant.safe here at_caller c.has_proposed.ensures desk.round refl
