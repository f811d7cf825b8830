use Rattle.std.proofs.Common.{◌∙◌, sym, ap, subst}
use Rattle.cas_model.specs.Exchanges.Step.{StepTurnExchange, told_view}
use Rattle.cas_model.specs.Exchanges.Tellings.{StopsUndone}
use Rattle.cas_model.specs.Frames.Step.{FindsNoRoom}
use Rattle.cas_model.specs.View.{View, meaning}
use Rattle.cas_world.specs.World.{view_of}
use Rattle.cas_world.proofs.Exchanges.Exchanges.{asking, holds, told_world, told_seen, some_there}
use Rattle.cas_world.proofs.world.World.turn_exchange.Goals as goal

pub returns-in-Held-clause-ok : goal.returns-in-Held-clause-ok
returns-in-Held-clause-ok g c =
    subst (λ (v : View g.row.S.Denot g.row.V.Denot). StepTurnExchange (meaning g.S.Shelf g.V.Disk) v c.args.verdict v) c.self.view_is
    (holds (meaning g.S.Shelf g.V.Disk) (view_of c.self.inside.setup.proposers c.self.inside.council c.self.inside.acceptors.items c.self.inside.desks.items c.self.inside.callers.items c.self.inside.flow c.self.inside.record) c.args.verdict (asking (view_of c.self.inside.setup.proposers c.self.inside.council c.self.inside.acceptors.items c.self.inside.desks.items c.self.inside.callers.items c.self.inside.flow c.self.inside.record) c.args.self.now c.self.invariant.safe c.self.view_is c.requires.«open» c.requires.waits) (sym c.falls.ensures ∙ c.in-Held.is))

pub invariant_of-self : goal.invariant_of-self
invariant_of-self g c = told_world c.self-in-Handle.inside.setup.proposers c.self-in-Handle.inside.council c.self-in-Handle.inside.acceptors.items c.self-in-Handle.inside.desks.items c.self-in-Handle.inside.callers.items c.self-in-Handle.inside.flow c.self-in-Handle.inside.record c.tell.new.self c.no_memory.result (subst StopsUndone (sym c.no_memory.ensures) tt) c.self-in-Handle.invariant c.tell.ensures.eras c.tell.ensures.told

pub returns-in-Err-clause-err : goal.returns-in-Err-clause-err
returns-in-Err-clause-err g c =
    let is_open = some_there c.args.self.now.council.exchange c.requires.«open» in
    record {
      at = record { exchange = is_open.0; is_open = is_open.1 };
      middle = view_of c.self-in-Handle.inside.setup.proposers c.self-in-Handle.inside.council c.self-in-Handle.inside.acceptors.items c.self-in-Handle.inside.desks.items c.self-in-Handle.inside.callers.items c.self-in-Handle.inside.flow c.self-in-Handle.inside.record;
      refuses = subst (λ (v : View g.row.S.Denot g.row.V.Denot). FindsNoRoom (meaning g.S.Shelf g.V.Disk) c.args.self.now v) (sym c.self-in-Handle.view_is) c.in-Err.ensures.err;
      view =
          told_seen c.self-in-Handle.inside.setup.proposers c.self-in-Handle.inside.council c.self-in-Handle.inside.acceptors.items c.self-in-Handle.inside.desks.items c.self-in-Handle.inside.callers.items c.self-in-Handle.inside.flow c.self-in-Handle.inside.record c.tell.new.self c.no_memory.result c.tell.ensures.eras c.tell.ensures.told
          ∙ ap (told_view (view_of c.self-in-Handle.inside.setup.proposers c.self-in-Handle.inside.council c.self-in-Handle.inside.acceptors.items c.self-in-Handle.inside.desks.items c.self-in-Handle.inside.callers.items c.self-in-Handle.inside.flow c.self-in-Handle.inside.record)) c.no_memory.ensures;
    }
