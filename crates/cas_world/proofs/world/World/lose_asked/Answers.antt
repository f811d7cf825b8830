use Rattle.std.proofs.Common.{◌≡◌, ◌∙◌, ◌<◌, ◌+◌, ℕ, true, false, sym, ap, subst, length}
use Rattle.cas_ballot.specs.Members.{has_member}
use Rattle.cas_model.specs.Council.{exchange_place}
use Rattle.cas_model.specs.Step as step
use Rattle.cas_model.specs.Exchanges.Step.{StepTurnExchange}
use Rattle.cas_model.specs.View.{View, meaning}
use Rattle.cas_flow.specs.Flow.{queue_at}
use Rattle.cas_world.specs.World.{view_of}
use Rattle.cas_flow.specs.Queue.{fall_of}
use Rattle.cas_model.specs.Exchanges.Step.{harms}
use Rattle.cas_world_calls.specs.Council.{harms_of}
use Rattle.cas_world.proofs.Exchanges.Exchanges.{asking, in_code, first_harm, harm_room, is_member, loses, harmed_seen, harmed_world}
use Rattle.cas_world.proofs.Parts.{seen_from}
use Rattle.cas_world.proofs.world.World.lose_asked.Given.{Over}
use Rattle.cas_world.proofs.world.World.lose_asked.Goals as goal
use Rattle.cas_world.proofs.world.World.lose_asked.Goals.{After-harm}

pub peer_of-member-requires-clause-waits : goal.peer_of-member-requires-clause-waits
peer_of-member-requires-clause-waits g c = λ none. c.requires.waits (ap (λ (v : View g.row.S.Denot g.row.V.Denot). (queue_at v.flow exchange_place).messages) (sym c.self.view_is) ∙ none)

pub take-requires-clause-front : goal.take-requires-clause-front
take-requires-clause-front g c = λ none. c.requires.waits (ap (λ (v : View g.row.S.Denot g.row.V.Denot). (queue_at v.flow exchange_place).messages) (sym c.self.view_is) ∙ none)

pub harm-requires-clause-reserved : goal.harm-requires-clause-reserved
harm-requires-clause-reserved g c =
    let at = asking (view_of c.self.inside.setup.proposers c.self.inside.council c.self.inside.acceptors.items c.self.inside.desks.items c.self.inside.callers.items c.self.inside.flow c.self.inside.record) c.args.self.now c.self.invariant.safe c.self.view_is c.requires.«open» c.requires.waits in
    in_code (λ e. has_member e.harmed c.peer_of-member.result ≡ false → 0 < e.reserved) c.self.inside.council.exchange at.exchange at.is_open (first_harm at.exchange (queue_at c.self.inside.flow exchange_place) c.peer_of-member.result at.safe (subst (λ (a : ℕ). has_member at.exchange.members a ≡ true) (sym (c.peer_of-member.ensures at.front at.waits)) (is_member (view_of c.self.inside.setup.proposers c.self.inside.council c.self.inside.acceptors.items c.self.inside.desks.items c.self.inside.callers.items c.self.inside.flow c.self.inside.record) at)))

pub harm-requires-clause-room : goal.harm-requires-clause-room
harm-requires-clause-room g c =
    let at = asking (view_of c.self.inside.setup.proposers c.self.inside.council c.self.inside.acceptors.items c.self.inside.desks.items c.self.inside.callers.items c.self.inside.flow c.self.inside.record) c.args.self.now c.self.invariant.safe c.self.view_is c.requires.«open» c.requires.waits in
    in_code (λ e. has_member e.harmed c.peer_of-member.result ≡ false → 0 < c.self.inside.record.room) c.self.inside.council.exchange at.exchange at.is_open
    (λ first. harm_room (view_of c.self.inside.setup.proposers c.self.inside.council c.self.inside.acceptors.items c.self.inside.desks.items c.self.inside.callers.items c.self.inside.flow c.self.inside.record) c.self.inside.callers.items c.self.inside.record.room at.exchange c.self.invariant at.is_open (first_harm at.exchange (queue_at c.self.inside.flow exchange_place) c.peer_of-member.result at.safe (subst (λ (a : ℕ). has_member at.exchange.members a ≡ true) (sym (c.peer_of-member.ensures at.front at.waits)) (is_member (view_of c.self.inside.setup.proposers c.self.inside.council c.self.inside.acceptors.items c.self.inside.desks.items c.self.inside.callers.items c.self.inside.flow c.self.inside.record) at)) first))

-- the member of the frame is harmed
seen : (g : Over) (c : After-harm g) → (view_of c.self.inside.setup.proposers c.harm.new.self c.self.inside.acceptors.items c.self.inside.desks.items c.self.inside.callers.items c.take.new.self c.harm.new.record) ≡ harms (record (view_of c.self.inside.setup.proposers c.self.inside.council c.self.inside.acceptors.items c.self.inside.desks.items c.self.inside.callers.items c.self.inside.flow c.self.inside.record) { acceptors = c.self.inside.acceptors.items; flow = c.take.new.self }) (asking (view_of c.self.inside.setup.proposers c.self.inside.council c.self.inside.acceptors.items c.self.inside.desks.items c.self.inside.callers.items c.self.inside.flow c.self.inside.record) c.args.self.now c.self.invariant.safe c.self.view_is c.requires.«open» c.requires.waits).exchange c.peer_of-member.result false
seen g c =
    let at = asking (view_of c.self.inside.setup.proposers c.self.inside.council c.self.inside.acceptors.items c.self.inside.desks.items c.self.inside.callers.items c.self.inside.flow c.self.inside.record) c.args.self.now c.self.invariant.safe c.self.view_is c.requires.«open» c.requires.waits in
    harmed_seen c.self.inside.setup.proposers c.self.inside.council c.harm.new.self c.self.inside.acceptors.items c.self.inside.acceptors.items c.self.inside.desks.items c.self.inside.callers.items c.self.inside.flow c.take.new.self c.self.inside.record c.harm.new.record at.exchange c.peer_of-member.result false at.is_open c.harm.ensures.eras c.harm.ensures.harmed c.harm.ensures.marks

step_so : (g : Over) (c : After-harm g) → StepTurnExchange (meaning g.S.Shelf g.V.Disk) (view_of c.self.inside.setup.proposers c.self.inside.council c.self.inside.acceptors.items c.self.inside.desks.items c.self.inside.callers.items c.self.inside.flow c.self.inside.record) c.args.verdict (view_of c.self.inside.setup.proposers c.harm.new.self c.self.inside.acceptors.items c.self.inside.desks.items c.self.inside.callers.items c.take.new.self c.harm.new.record)
step_so g c =
    let at = asking (view_of c.self.inside.setup.proposers c.self.inside.council c.self.inside.acceptors.items c.self.inside.desks.items c.self.inside.callers.items c.self.inside.flow c.self.inside.record) c.args.self.now c.self.invariant.safe c.self.view_is c.requires.«open» c.requires.waits in
    loses (meaning g.S.Shelf g.V.Disk) (view_of c.self.inside.setup.proposers c.self.inside.council c.self.inside.acceptors.items c.self.inside.desks.items c.self.inside.callers.items c.self.inside.flow c.self.inside.record) (view_of c.self.inside.setup.proposers c.harm.new.self c.self.inside.acceptors.items c.self.inside.desks.items c.self.inside.callers.items c.take.new.self c.harm.new.record) c.args.verdict at (ap (λ (v : View g.row.S.Denot g.row.V.Denot). fall_of (queue_at v.flow exchange_place).again c.args.verdict) c.self.view_is ∙ c.requires.gone)
    (seen g c ∙ (λ i. harms (record (view_of c.self.inside.setup.proposers c.self.inside.council c.self.inside.acceptors.items c.self.inside.desks.items c.self.inside.callers.items c.self.inside.flow c.self.inside.record) { flow = c.take.ensures i }) at.exchange (c.peer_of-member.ensures at.front at.waits i) false))

pub invariant_of-self : goal.invariant_of-self
invariant_of-self g c =
    let at = asking (view_of c.self.inside.setup.proposers c.self.inside.council c.self.inside.acceptors.items c.self.inside.desks.items c.self.inside.callers.items c.self.inside.flow c.self.inside.record) c.args.self.now c.self.invariant.safe c.self.view_is c.requires.«open» c.requires.waits in
    harmed_world (view_of c.self.inside.setup.proposers c.self.inside.council c.self.inside.acceptors.items c.self.inside.desks.items c.self.inside.callers.items c.self.inside.flow c.self.inside.record) (view_of c.self.inside.setup.proposers c.harm.new.self c.self.inside.acceptors.items c.self.inside.desks.items c.self.inside.callers.items c.take.new.self c.harm.new.record) c.self.inside.acceptors.items c.take.new.self at.exchange c.peer_of-member.result false c.args.verdict c.self.inside.callers.items c.self.inside.record.room c.harm.new.record.room c.self.invariant at.is_open
    (subst (λ (a : ℕ). has_member at.exchange.members a ≡ true) (sym (c.peer_of-member.ensures at.front at.waits)) (is_member (view_of c.self.inside.setup.proposers c.self.inside.council c.self.inside.acceptors.items c.self.inside.desks.items c.self.inside.callers.items c.self.inside.flow c.self.inside.record) at)) at.safe (step_so g c) (seen g c)
    (subst (λ (o : _). c.harm.new.record.room + length (harms_of o c.peer_of-member.result false) ≡ c.self.inside.record.room) at.is_open c.harm.ensures.room_left)

pub returns : goal.returns
returns g c = seen_from (meaning g.S.Shelf g.V.Disk) (step.TurnExchange c.args.verdict) _ c.self.view_is (step_so g c)
