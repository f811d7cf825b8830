use Rattle.std.proofs.Common.{◌≡◌, ◌∙◌, ◌<◌, ◌+◌, true, false, sym, ap, subst, length}
use Rattle.std.specs.Prelude.{Option, Result, Ok, Err, OnErr, slice_get}
use Rattle.cas_ballot.specs.Members.{has_member}
use Rattle.cas_model.specs.Council.{ExchangeView, exchange_place}
use Rattle.cas_model.specs.Step as step
use Rattle.cas_model.specs.Exchanges.Step.{StepTurnExchange, harms}
use Rattle.cas_model.specs.Frames.Step.{FindsNoRoom}
use Rattle.cas_model.specs.View.{View, meaning}
use Rattle.cas_flow.specs.Flow.{FlowView, queue_at}
use Rattle.cas_flow.specs.Message.{head_of}
use Rattle.cas_flow.specs.Queue.{fall_of}
use Rattle.cas_flow.specs.declared.message.Message.{Message}
use Rattle.cas_flow.specs.declared.message.Message.TheVariants as message
use Rattle.cas_world_calls.specs.Council.{harms_of}
use Rattle.cas_world.specs.Frames.Serve.{Serves}
use Rattle.cas_world.specs.World.{view_of}
use Rattle.cas_world.specs.declared.serve.Served.{Served}
use Rattle.cas_world.proofs.Exchanges.Exchanges.{asked_in, front_is, in_code, first_harm, harm_room, is_member, harmed_seen, harmed_world, reply_room, answers, answered_world, falls}
use Rattle.cas_world.proofs.Parts.{seen_from}
use Rattle.cas_world.proofs.Frames.Turns.{find_no_room}
use Rattle.cas_world.proofs.world.World.serve_asked.Given.{Over}
use Rattle.cas_world.proofs.world.World.serve_asked.Goals as goal
use Rattle.cas_world.proofs.world.World.serve_asked.Goals.{After-from_residual, Joined-served-2, After-harm}

-- ---- no memory
on_err : {T E P : Type 0} (result : Result T E) → P → OnErr result P
on_err (Ok x) p = tt
on_err (Err e) p = p

none : (g : Over) (c : After-from_residual g) → FindsNoRoom (meaning g.S.Shelf g.V.Disk) (view_of c.self.inside.setup.proposers c.self.inside.council c.self.inside.acceptors.items c.self.inside.desks.items c.self.inside.callers.items c.self.inside.flow c.self.inside.record) (view_of c.self.inside.setup.proposers c.self.inside.council c.serve.new.acceptors.items c.self.inside.desks.items c.self.inside.callers.items c.self.inside.flow c.self.inside.record)
none g c = find_no_room (meaning g.S.Shelf g.V.Disk) c.self.inside.setup.proposers c.self.inside.council c.self.inside.acceptors.items c.serve.new.acceptors.items c.self.inside.desks.items c.self.inside.callers.items c.self.inside.flow c.self.inside.record c.in_err-served.ensures.err

pub invariant_of-self : goal.invariant_of-self
invariant_of-self g c = answered_world c.self.inside.setup.proposers c.self.inside.council c.self.inside.acceptors.items c.serve.new.acceptors.items c.self.inside.desks.items c.self.inside.callers.items c.self.inside.flow c.self.inside.flow c.self.inside.record step.RefuseStray c.self.invariant (none g c)

pub returns-in_err-served-clause-err : goal.returns-in_err-served-clause-err
returns-in_err-served-clause-err g c = on_err c.from_residual.result (subst (λ (v : View g.row.S.Denot g.row.V.Denot). FindsNoRoom (meaning g.S.Shelf g.V.Disk) v (view_of c.self.inside.setup.proposers c.self.inside.council c.serve.new.acceptors.items c.self.inside.desks.items c.self.inside.callers.items c.self.inside.flow c.self.inside.record)) c.self.view_is (none g c))

-- ---- it answers
pub push_own-requires-clause-room : goal.push_own-requires-clause-room
push_own-requires-clause-room g c =
    let at = asked_in (view_of c.self.inside.setup.proposers c.self.inside.council c.self.inside.acceptors.items c.self.inside.desks.items c.self.inside.callers.items c.self.inside.flow c.self.inside.record) c.args.self.now c.args.request.now c.self.invariant.safe c.self.view_is c.requires.«open» c.requires.waits in
    subst (λ (f : FlowView). 0 < (queue_at f exchange_place).room) (sym c.take.ensures) (reply_room (view_of c.self.inside.setup.proposers c.self.inside.council c.self.inside.acceptors.items c.self.inside.desks.items c.self.inside.callers.items c.self.inside.flow c.self.inside.record) at c.args.verdict c.args.request.now (ap (λ (v : View g.row.S.Denot g.row.V.Denot). fall_of (queue_at v.flow exchange_place).again c.args.verdict) c.self.view_is ∙ c.requires.handled) (ap (λ (v : View g.row.S.Denot g.row.V.Denot). slice_get (queue_at v.flow exchange_place).messages 0) c.self.view_is ∙ c.requires.waits))

replied : (g : Over) (c : Joined-served-2 g) → StepTurnExchange (meaning g.S.Shelf g.V.Disk) (view_of c.self.inside.setup.proposers c.self.inside.council c.self.inside.acceptors.items c.self.inside.desks.items c.self.inside.callers.items c.self.inside.flow c.self.inside.record) c.args.verdict (view_of c.self.inside.setup.proposers c.self.inside.council c.serve.new.acceptors.items c.self.inside.desks.items c.self.inside.callers.items c.push_own.new.self c.self.inside.record)
replied g c =
    let at = asked_in (view_of c.self.inside.setup.proposers c.self.inside.council c.self.inside.acceptors.items c.self.inside.desks.items c.self.inside.callers.items c.self.inside.flow c.self.inside.record) c.args.self.now c.args.request.now c.self.invariant.safe c.self.view_is c.requires.«open» c.requires.waits in
    answers (meaning g.S.Shelf g.V.Disk) c.self.inside.setup.proposers c.self.inside.council c.self.inside.acceptors.items c.serve.new.acceptors.items c.self.inside.desks.items c.self.inside.callers.items c.self.inside.flow c.take.new.self c.push_own.new.self c.self.inside.record c.args.verdict c.args.request.now c.in-Replied.frame c.in-Replied.vote at (ap (λ (v : View g.row.S.Denot g.row.V.Denot). fall_of (queue_at v.flow exchange_place).again c.args.verdict) c.self.view_is ∙ c.requires.handled) (ap (λ (v : View g.row.S.Denot g.row.V.Denot). slice_get (queue_at v.flow exchange_place).messages 0) c.self.view_is ∙ c.requires.waits)
    (subst (λ (s : Served). Serves (meaning g.S.Shelf g.V.Disk).shelves c.self.inside.acceptors.items c.args.request.now s c.serve.new.acceptors.items) c.in-Replied.is c.in_ok-served.ensures.ok) c.take.ensures c.push_own.ensures

pub invariant_of-self-in-Replied : goal.invariant_of-self-in-Replied
invariant_of-self-in-Replied g c = answered_world c.self.inside.setup.proposers c.self.inside.council c.self.inside.acceptors.items c.serve.new.acceptors.items c.self.inside.desks.items c.self.inside.callers.items c.self.inside.flow c.push_own.new.self c.self.inside.record (step.TurnExchange c.args.verdict) c.self.invariant (replied g c)

-- ---- it is down, or goes down
pub harm-requires-clause-reserved : goal.harm-requires-clause-reserved
harm-requires-clause-reserved g c =
    let at = asked_in (view_of c.self.inside.setup.proposers c.self.inside.council c.self.inside.acceptors.items c.self.inside.desks.items c.self.inside.callers.items c.self.inside.flow c.self.inside.record) c.args.self.now c.args.request.now c.self.invariant.safe c.self.view_is c.requires.«open» c.requires.waits in
    in_code (λ e. has_member e.harmed c.args.request.now.to ≡ false → 0 < e.reserved) c.self.inside.council.exchange at.exchange at.is_open (first_harm at.exchange (queue_at c.self.inside.flow exchange_place) c.args.request.now.to at.safe (ap (λ (each : Message). has_member at.exchange.members (head_of each).1) (sym (front_is (view_of c.self.inside.setup.proposers c.self.inside.council c.self.inside.acceptors.items c.self.inside.desks.items c.self.inside.callers.items c.self.inside.flow c.self.inside.record) at (message.Request c.args.request.now) (ap (λ (v : View g.row.S.Denot g.row.V.Denot). slice_get (queue_at v.flow exchange_place).messages 0) c.self.view_is ∙ c.requires.waits))) ∙ is_member (view_of c.self.inside.setup.proposers c.self.inside.council c.self.inside.acceptors.items c.self.inside.desks.items c.self.inside.callers.items c.self.inside.flow c.self.inside.record) at))

pub harm-requires-clause-room : goal.harm-requires-clause-room
harm-requires-clause-room g c =
    let at = asked_in (view_of c.self.inside.setup.proposers c.self.inside.council c.self.inside.acceptors.items c.self.inside.desks.items c.self.inside.callers.items c.self.inside.flow c.self.inside.record) c.args.self.now c.args.request.now c.self.invariant.safe c.self.view_is c.requires.«open» c.requires.waits in
    in_code (λ e. has_member e.harmed c.args.request.now.to ≡ false → 0 < c.self.inside.record.room) c.self.inside.council.exchange at.exchange at.is_open
    (λ first. harm_room (view_of c.self.inside.setup.proposers c.self.inside.council c.self.inside.acceptors.items c.self.inside.desks.items c.self.inside.callers.items c.self.inside.flow c.self.inside.record) c.self.inside.callers.items c.self.inside.record.room at.exchange c.self.invariant at.is_open (first_harm at.exchange (queue_at c.self.inside.flow exchange_place) c.args.request.now.to at.safe (ap (λ (each : Message). has_member at.exchange.members (head_of each).1) (sym (front_is (view_of c.self.inside.setup.proposers c.self.inside.council c.self.inside.acceptors.items c.self.inside.desks.items c.self.inside.callers.items c.self.inside.flow c.self.inside.record) at (message.Request c.args.request.now) (ap (λ (v : View g.row.S.Denot g.row.V.Denot). slice_get (queue_at v.flow exchange_place).messages 0) c.self.view_is ∙ c.requires.waits))) ∙ is_member (view_of c.self.inside.setup.proposers c.self.inside.council c.self.inside.acceptors.items c.self.inside.desks.items c.self.inside.callers.items c.self.inside.flow c.self.inside.record) at) first))

seen : (g : Over) (c : After-harm g) → (view_of c.self.inside.setup.proposers c.harm.new.self c.serve.new.acceptors.items c.self.inside.desks.items c.self.inside.callers.items c.take.new.self c.harm.new.record) ≡ harms (record (view_of c.self.inside.setup.proposers c.self.inside.council c.self.inside.acceptors.items c.self.inside.desks.items c.self.inside.callers.items c.self.inside.flow c.self.inside.record) { acceptors = c.serve.new.acceptors.items; flow = c.take.new.self }) (asked_in (view_of c.self.inside.setup.proposers c.self.inside.council c.self.inside.acceptors.items c.self.inside.desks.items c.self.inside.callers.items c.self.inside.flow c.self.inside.record) c.args.self.now c.args.request.now c.self.invariant.safe c.self.view_is c.requires.«open» c.requires.waits).exchange c.args.request.now.to true
seen g c =
    let at = asked_in (view_of c.self.inside.setup.proposers c.self.inside.council c.self.inside.acceptors.items c.self.inside.desks.items c.self.inside.callers.items c.self.inside.flow c.self.inside.record) c.args.self.now c.args.request.now c.self.invariant.safe c.self.view_is c.requires.«open» c.requires.waits in
    harmed_seen c.self.inside.setup.proposers c.self.inside.council c.harm.new.self c.self.inside.acceptors.items c.serve.new.acceptors.items c.self.inside.desks.items c.self.inside.callers.items c.self.inside.flow c.take.new.self c.self.inside.record c.harm.new.record at.exchange c.args.request.now.to true at.is_open c.harm.ensures.eras c.harm.ensures.harmed c.harm.ensures.marks

fell : (g : Over) (c : After-harm g) → StepTurnExchange (meaning g.S.Shelf g.V.Disk) (view_of c.self.inside.setup.proposers c.self.inside.council c.self.inside.acceptors.items c.self.inside.desks.items c.self.inside.callers.items c.self.inside.flow c.self.inside.record) c.args.verdict (view_of c.self.inside.setup.proposers c.harm.new.self c.serve.new.acceptors.items c.self.inside.desks.items c.self.inside.callers.items c.take.new.self c.harm.new.record)
fell g c =
    let at = asked_in (view_of c.self.inside.setup.proposers c.self.inside.council c.self.inside.acceptors.items c.self.inside.desks.items c.self.inside.callers.items c.self.inside.flow c.self.inside.record) c.args.self.now c.args.request.now c.self.invariant.safe c.self.view_is c.requires.«open» c.requires.waits in
    falls (meaning g.S.Shelf g.V.Disk) (view_of c.self.inside.setup.proposers c.self.inside.council c.self.inside.acceptors.items c.self.inside.desks.items c.self.inside.callers.items c.self.inside.flow c.self.inside.record) (view_of c.self.inside.setup.proposers c.harm.new.self c.serve.new.acceptors.items c.self.inside.desks.items c.self.inside.callers.items c.take.new.self c.harm.new.record) c.serve.new.acceptors.items c.args.verdict c.args.request.now at (ap (λ (v : View g.row.S.Denot g.row.V.Denot). fall_of (queue_at v.flow exchange_place).again c.args.verdict) c.self.view_is ∙ c.requires.handled) (ap (λ (v : View g.row.S.Denot g.row.V.Denot). slice_get (queue_at v.flow exchange_place).messages 0) c.self.view_is ∙ c.requires.waits)
    (subst (λ (s : Served). Serves (meaning g.S.Shelf g.V.Disk).shelves c.self.inside.acceptors.items c.args.request.now s c.serve.new.acceptors.items) c.in-Down.is c.in_ok-served.ensures.ok)
    (seen g c ∙ (λ i. harms (record (view_of c.self.inside.setup.proposers c.self.inside.council c.self.inside.acceptors.items c.self.inside.desks.items c.self.inside.callers.items c.self.inside.flow c.self.inside.record) { acceptors = c.serve.new.acceptors.items; flow = c.take.ensures i }) at.exchange c.args.request.now.to true))

pub invariant_of-self-in-Down : goal.invariant_of-self-in-Down
invariant_of-self-in-Down g c =
    let at = asked_in (view_of c.self.inside.setup.proposers c.self.inside.council c.self.inside.acceptors.items c.self.inside.desks.items c.self.inside.callers.items c.self.inside.flow c.self.inside.record) c.args.self.now c.args.request.now c.self.invariant.safe c.self.view_is c.requires.«open» c.requires.waits in
    harmed_world (view_of c.self.inside.setup.proposers c.self.inside.council c.self.inside.acceptors.items c.self.inside.desks.items c.self.inside.callers.items c.self.inside.flow c.self.inside.record) (view_of c.self.inside.setup.proposers c.harm.new.self c.serve.new.acceptors.items c.self.inside.desks.items c.self.inside.callers.items c.take.new.self c.harm.new.record) c.serve.new.acceptors.items c.take.new.self at.exchange c.args.request.now.to true c.args.verdict c.self.inside.callers.items c.self.inside.record.room c.harm.new.record.room c.self.invariant at.is_open
    (ap (λ (each : Message). has_member at.exchange.members (head_of each).1) (sym (front_is (view_of c.self.inside.setup.proposers c.self.inside.council c.self.inside.acceptors.items c.self.inside.desks.items c.self.inside.callers.items c.self.inside.flow c.self.inside.record) at (message.Request c.args.request.now) (ap (λ (v : View g.row.S.Denot g.row.V.Denot). slice_get (queue_at v.flow exchange_place).messages 0) c.self.view_is ∙ c.requires.waits))) ∙ is_member (view_of c.self.inside.setup.proposers c.self.inside.council c.self.inside.acceptors.items c.self.inside.desks.items c.self.inside.callers.items c.self.inside.flow c.self.inside.record) at) at.safe (fell g c) (seen g c)
    (subst (λ (o : Option ExchangeView). c.harm.new.record.room + length (harms_of o c.args.request.now.to true) ≡ c.self.inside.record.room) at.is_open c.harm.ensures.room_left)

pub returns-in-Replied-clause-ok : goal.returns-in-Replied-clause-ok
returns-in-Replied-clause-ok g c = seen_from (meaning g.S.Shelf g.V.Disk) (step.TurnExchange c.args.verdict) _ c.self.view_is (replied g c)

pub returns-clause-ok : goal.returns-clause-ok
returns-clause-ok g c = seen_from (meaning g.S.Shelf g.V.Disk) (step.TurnExchange c.args.verdict) _ c.self.view_is (fell g c)
