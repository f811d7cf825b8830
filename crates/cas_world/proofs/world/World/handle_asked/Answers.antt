use Rattle.std.proofs.Common.{◌≡◌, ◌∙◌, Some, ap}
use Rattle.cas_model.specs.Council.{exchange_place}
use Rattle.cas_model.specs.Step as step
use Rattle.cas_model.specs.Exchanges.Step.{StepTurnExchange, hears, with_exchange}
use Rattle.cas_model.specs.View.{View, meaning}
use Rattle.cas_flow.specs.Flow.{queue_at}
use Rattle.cas_flow.specs.Queue.{fall_of}
use Rattle.cas_flow.specs.declared.message.Message.{Message}
use Rattle.cas_flow.specs.declared.message.Message.TheVariants as message
use Rattle.cas_world.specs.World.{view_of}
use Rattle.cas_world.proofs.Exchanges.Exchanges.{asking, front_is, heard_seen, heard, heard_world}
use Rattle.cas_world.proofs.Parts.{seen_from}
use Rattle.cas_world.proofs.world.World.handle_asked.Given.{Over}
use Rattle.cas_world.proofs.world.World.handle_asked.Goals as goal
use Rattle.cas_world.proofs.world.World.handle_asked.Goals.{After-hear}

seen : (g : Over) (c : After-hear g) → (view_of c.self.inside.setup.proposers c.hear.new.self c.self.inside.acceptors.items c.self.inside.desks.items c.self.inside.callers.items c.take.new.self c.self.inside.record) ≡ with_exchange (record (view_of c.self.inside.setup.proposers c.self.inside.council c.self.inside.acceptors.items c.self.inside.desks.items c.self.inside.callers.items c.self.inside.flow c.self.inside.record) { flow = c.take.new.self }) (record (asking (view_of c.self.inside.setup.proposers c.self.inside.council c.self.inside.acceptors.items c.self.inside.desks.items c.self.inside.callers.items c.self.inside.flow c.self.inside.record) c.args.self.now c.self.invariant.safe c.self.view_is c.requires.«open» c.requires.waits).exchange { told = hears c.in-Reply.reply (asking (view_of c.self.inside.setup.proposers c.self.inside.council c.self.inside.acceptors.items c.self.inside.desks.items c.self.inside.callers.items c.self.inside.flow c.self.inside.record) c.args.self.now c.self.invariant.safe c.self.view_is c.requires.«open» c.requires.waits).exchange.told })
seen g c =
    let at = asking (view_of c.self.inside.setup.proposers c.self.inside.council c.self.inside.acceptors.items c.self.inside.desks.items c.self.inside.callers.items c.self.inside.flow c.self.inside.record) c.args.self.now c.self.invariant.safe c.self.view_is c.requires.«open» c.requires.waits in
    heard_seen c.self.inside.setup.proposers c.self.inside.council c.hear.new.self c.self.inside.acceptors.items c.self.inside.desks.items c.self.inside.callers.items c.take.new.self c.self.inside.record at.exchange c.in-Reply.reply at.is_open c.hear.ensures.eras c.hear.ensures.heard

step_so : (g : Over) (c : After-hear g) → StepTurnExchange (meaning g.S.Shelf g.V.Disk) (view_of c.self.inside.setup.proposers c.self.inside.council c.self.inside.acceptors.items c.self.inside.desks.items c.self.inside.callers.items c.self.inside.flow c.self.inside.record) c.args.verdict (view_of c.self.inside.setup.proposers c.hear.new.self c.self.inside.acceptors.items c.self.inside.desks.items c.self.inside.callers.items c.take.new.self c.self.inside.record)
step_so g c =
    let at = asking (view_of c.self.inside.setup.proposers c.self.inside.council c.self.inside.acceptors.items c.self.inside.desks.items c.self.inside.callers.items c.self.inside.flow c.self.inside.record) c.args.self.now c.self.invariant.safe c.self.view_is c.requires.«open» c.requires.waits in
    heard (meaning g.S.Shelf g.V.Disk) (view_of c.self.inside.setup.proposers c.self.inside.council c.self.inside.acceptors.items c.self.inside.desks.items c.self.inside.callers.items c.self.inside.flow c.self.inside.record) (view_of c.self.inside.setup.proposers c.hear.new.self c.self.inside.acceptors.items c.self.inside.desks.items c.self.inside.callers.items c.take.new.self c.self.inside.record) c.args.verdict at c.in-Reply.reply (ap (λ (v : View g.row.S.Denot g.row.V.Denot). fall_of (queue_at v.flow exchange_place).again c.args.verdict) c.self.view_is ∙ c.requires.handled)
    (front_is (view_of c.self.inside.setup.proposers c.self.inside.council c.self.inside.acceptors.items c.self.inside.desks.items c.self.inside.callers.items c.self.inside.flow c.self.inside.record) at (message.Reply c.in-Reply.reply) (c.in_ok-request.ensures.message ∙ ap (λ (each : Message). Some each) c.in-Reply.is))
    (seen g c ∙ (λ i. with_exchange (record (view_of c.self.inside.setup.proposers c.self.inside.council c.self.inside.acceptors.items c.self.inside.desks.items c.self.inside.callers.items c.self.inside.flow c.self.inside.record) { flow = c.take.ensures i }) (record at.exchange { told = hears c.in-Reply.reply at.exchange.told })))

pub invariant_of-self : goal.invariant_of-self
invariant_of-self g c =
    let at = asking (view_of c.self.inside.setup.proposers c.self.inside.council c.self.inside.acceptors.items c.self.inside.desks.items c.self.inside.callers.items c.self.inside.flow c.self.inside.record) c.args.self.now c.self.invariant.safe c.self.view_is c.requires.«open» c.requires.waits in
    heard_world (view_of c.self.inside.setup.proposers c.self.inside.council c.self.inside.acceptors.items c.self.inside.desks.items c.self.inside.callers.items c.self.inside.flow c.self.inside.record) (view_of c.self.inside.setup.proposers c.hear.new.self c.self.inside.acceptors.items c.self.inside.desks.items c.self.inside.callers.items c.take.new.self c.self.inside.record) c.take.new.self at.exchange c.in-Reply.reply c.args.verdict c.self.inside.callers.items c.self.inside.record.room c.self.invariant at.is_open (step_so g c) (seen g c)

pub returns-in-Reply-clause-ok : goal.returns-in-Reply-clause-ok
returns-in-Reply-clause-ok g c = seen_from (meaning g.S.Shelf g.V.Disk) (step.TurnExchange c.args.verdict) _ c.self.view_is (step_so g c)
