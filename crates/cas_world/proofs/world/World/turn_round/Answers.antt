use Rattle.std.proofs.Common.{ℕ, List, false, slice_set, sym, subst, ◌∙◌}
use Rattle.cas_model.specs.Step as step
use Rattle.cas_model.specs.Step.{StepTurn, StepRefuseTurn}
use Rattle.cas_model.proofs.Safety.Steps.{steps_are_safe}
use Rattle.cas_flow.specs.Flow.{FlowView}
use Rattle.cas_proposer.specs.Desk.{DeskView}
use Rattle.cas_record.specs.Book.{Book}
use Rattle.cas_world_calls.specs.declared.call.Caller.{Caller}
use Rattle.cas_world.specs.World.{view_of, IsWorld}
use Rattle.cas_world.proofs.Parts.{seen_from, remembered_then}
use Rattle.cas_model.specs.View.{View, meaning}
use Rattle.cas_world.proofs.Frames.Turns.{turning, open_in, may_mark, has_room, holds, loses, place_in, desk_in, harm_kept, handles, handled_kept, told_caller, may_tell, IsTurnRefused, refused, refused_step, refused_kept}
use Rattle.cas_world.proofs.world.World.turn_round.Goals as goal

-- src/turn.rt:43:27
pub returns-in-Held-clause-ok : goal.returns-in-Held-clause-ok
returns-in-Held-clause-ok g c =
    let at = turning c.args.self.now c.self.inside.setup.proposers c.self.inside.council c.self.inside.acceptors.items c.self.inside.desks.items c.self.inside.callers.items c.self.inside.flow c.self.inside.record c.args.proposer c.self.view_is c.self.invariant c.requires.proposer c.requires.waits in
    subst (λ (v : View g.row.S.Denot g.row.V.Denot). StepTurn (meaning g.S.Shelf g.V.Disk) v c.args.proposer c.args.verdict v) c.self.view_is
    (holds (meaning g.S.Shelf g.V.Disk) c.args.self.now c.self.inside.setup.proposers c.self.inside.council c.self.inside.acceptors.items c.self.inside.desks.items c.self.inside.callers.items c.self.inside.flow c.self.inside.record c.args.proposer c.args.verdict at (sym c.falls.ensures ∙ c.in-Held.is))

-- src/turn.rt:45:17
pub lose-requires-clause-mark : goal.lose-requires-clause-mark
lose-requires-clause-mark g c =
    let at = turning c.args.self.now c.self.inside.setup.proposers c.self.inside.council c.self.inside.acceptors.items c.self.inside.desks.items c.self.inside.callers.items c.self.inside.flow c.self.inside.record c.args.proposer c.self.view_is c.self.invariant c.requires.proposer c.requires.waits in
    let is_open = open_in c.args.self.now c.self.inside.setup.proposers c.self.inside.council c.self.inside.acceptors.items c.self.inside.desks.items c.self.inside.callers.items c.self.inside.flow c.self.inside.record c.args.proposer c.from-place.result c.index_mut.result.now at c.from-place.ensures c.index_mut.ensures.value in
    may_mark c.self.inside.desks.items c.self.inside.flow c.args.proposer c.index_mut.result.now _ is_open

-- src/turn.rt:54:29
pub handle-done-requires-clause-room : goal.handle-done-requires-clause-room
handle-done-requires-clause-room g c =
    let at = turning c.args.self.now c.self.inside.setup.proposers c.self.inside.council c.self.inside.acceptors.items c.self.inside.desks.items c.self.inside.callers.items c.self.inside.flow c.self.inside.record c.args.proposer c.self.view_is c.self.invariant c.requires.proposer c.requires.waits in
    let is_open = open_in c.args.self.now c.self.inside.setup.proposers c.self.inside.council c.self.inside.acceptors.items c.self.inside.desks.items c.self.inside.callers.items c.self.inside.flow c.self.inside.record c.args.proposer c.from-place.result c.index_mut-in-Handle-2.result.now at c.from-place.ensures c.index_mut-in-Handle-2.ensures.value in
    has_room c.self.inside.desks.items c.self.inside.flow c.args.proposer c.index_mut-in-Handle-2.result.now _ c.args.verdict is_open (sym c.falls.ensures ∙ c.in-Handle.is)

-- src/turn.rt:54:29
pub handle-done-requires-clause-mark : goal.handle-done-requires-clause-mark
handle-done-requires-clause-mark g c =
    let at = turning c.args.self.now c.self.inside.setup.proposers c.self.inside.council c.self.inside.acceptors.items c.self.inside.desks.items c.self.inside.callers.items c.self.inside.flow c.self.inside.record c.args.proposer c.self.view_is c.self.invariant c.requires.proposer c.requires.waits in
    let is_open = open_in c.args.self.now c.self.inside.setup.proposers c.self.inside.council c.self.inside.acceptors.items c.self.inside.desks.items c.self.inside.callers.items c.self.inside.flow c.self.inside.record c.args.proposer c.from-place.result c.index_mut-in-Handle-2.result.now at c.from-place.ensures c.index_mut-in-Handle-2.ensures.value in
    may_mark c.self.inside.desks.items c.self.inside.flow c.args.proposer c.index_mut-in-Handle-2.result.now _ is_open

-- src/turn.rt:52:17
pub invariant_of-self : goal.invariant_of-self
invariant_of-self g c =
    let at = turning c.args.self.now c.self.inside.setup.proposers c.self.inside.council c.self.inside.acceptors.items c.self.inside.desks.items c.self.inside.callers.items c.self.inside.flow c.self.inside.record c.args.proposer c.self.view_is c.self.invariant c.requires.proposer c.requires.waits in
    let is_open = open_in c.args.self.now c.self.inside.setup.proposers c.self.inside.council c.self.inside.acceptors.items c.self.inside.desks.items c.self.inside.callers.items c.self.inside.flow c.self.inside.record c.args.proposer c.from-place.result c.index_mut.result.now at c.from-place.ensures c.index_mut.ensures.value in
    let at_caller = place_in c.args.self.now c.self.inside.setup.proposers c.self.inside.council c.self.inside.acceptors.items c.self.inside.desks.items c.self.inside.callers.items c.self.inside.flow c.self.inside.record c.args.proposer c.from-place.result c.index_mut.result.now at c.from-place.ensures c.index_mut.ensures.value in
    let taken_so = loses (meaning g.S.Shelf g.V.Disk) c.args.self.now c.self.inside.setup.proposers c.self.inside.council c.self.inside.acceptors.items c.self.inside.desks.items c.self.inside.callers.items c.self.inside.flow c.lose.new.flow c.self.inside.record c.lose.new.record c.args.proposer c.args.verdict c.index_mut.result.now c.lose.new.caller at_caller is_open
    (sym c.falls.ensures ∙ c.in-Gone.is) c.lose.ensures.flow c.lose.ensures.harms in
    subst (λ (n : ℕ). IsWorld (meaning g.S.Shelf g.V.Disk) (view_of c.self.inside.setup.proposers c.self.inside.council c.self.inside.acceptors.items c.self.inside.desks.items (slice_set c.self.inside.callers.items n c.lose.new.caller) c.lose.new.flow c.lose.new.record) (slice_set c.self.inside.callers.items n c.lose.new.caller) c.lose.new.record.room) (sym c.from-place.ensures)
    (harm_kept c.self.inside.setup.proposers c.self.inside.council c.self.inside.acceptors.items c.self.inside.acceptors.items c.self.inside.desks.items c.self.inside.callers.items c.self.inside.flow c.lose.new.flow c.self.inside.record c.lose.new.record
    c.args.proposer c.index_mut.result.now c.lose.new.caller _ false c.self.invariant at_caller is_open (c.lose.ensures.harms is_open.front is_open.waits)
    (steps_are_safe (meaning g.S.Shelf g.V.Disk) _ (step.Turn c.args.proposer c.args.verdict) _ c.self.invariant.safe taken_so)
    (remembered_then (meaning g.S.Shelf g.V.Disk) (step.Turn c.args.proposer c.args.verdict) taken_so c.self.invariant.remembered))

-- src/turn.rt:52:17
pub returns-in-Gone-clause-ok : goal.returns-in-Gone-clause-ok
returns-in-Gone-clause-ok g c =
    let at = turning c.args.self.now c.self.inside.setup.proposers c.self.inside.council c.self.inside.acceptors.items c.self.inside.desks.items c.self.inside.callers.items c.self.inside.flow c.self.inside.record c.args.proposer c.self.view_is c.self.invariant c.requires.proposer c.requires.waits in
    let is_open = open_in c.args.self.now c.self.inside.setup.proposers c.self.inside.council c.self.inside.acceptors.items c.self.inside.desks.items c.self.inside.callers.items c.self.inside.flow c.self.inside.record c.args.proposer c.from-place.result c.index_mut.result.now at c.from-place.ensures c.index_mut.ensures.value in
    let at_caller = place_in c.args.self.now c.self.inside.setup.proposers c.self.inside.council c.self.inside.acceptors.items c.self.inside.desks.items c.self.inside.callers.items c.self.inside.flow c.self.inside.record c.args.proposer c.from-place.result c.index_mut.result.now at c.from-place.ensures c.index_mut.ensures.value in
    let taken_so = loses (meaning g.S.Shelf g.V.Disk) c.args.self.now c.self.inside.setup.proposers c.self.inside.council c.self.inside.acceptors.items c.self.inside.desks.items c.self.inside.callers.items c.self.inside.flow c.lose.new.flow c.self.inside.record c.lose.new.record c.args.proposer c.args.verdict c.index_mut.result.now c.lose.new.caller at_caller is_open
    (sym c.falls.ensures ∙ c.in-Gone.is) c.lose.ensures.flow c.lose.ensures.harms in
    subst (λ (n : ℕ). StepTurn (meaning g.S.Shelf g.V.Disk) c.args.self.now c.args.proposer c.args.verdict (view_of c.self.inside.setup.proposers c.self.inside.council c.self.inside.acceptors.items c.self.inside.desks.items (slice_set c.self.inside.callers.items n c.lose.new.caller) c.lose.new.flow c.lose.new.record)) (sym c.from-place.ensures)
    (seen_from (meaning g.S.Shelf g.V.Disk) (step.Turn c.args.proposer c.args.verdict) _ c.self.view_is taken_so)

-- src/turn.rt:66:23
pub invariant_of-self-in-Ok : goal.invariant_of-self-in-Ok
invariant_of-self-in-Ok g c =
    let at = turning c.args.self.now c.self.inside.setup.proposers c.self.inside.council c.self.inside.acceptors.items c.self.inside.desks.items c.self.inside.callers.items c.self.inside.flow c.self.inside.record c.args.proposer c.self.view_is c.self.invariant c.requires.proposer c.requires.waits in
    let is_open = open_in c.args.self.now c.self.inside.setup.proposers c.self.inside.council c.self.inside.acceptors.items c.self.inside.desks.items c.self.inside.callers.items c.self.inside.flow c.self.inside.record c.args.proposer c.from-place.result c.index_mut-in-Handle-2.result.now at c.from-place.ensures c.index_mut-in-Handle-2.ensures.value in
    let at_caller = place_in c.args.self.now c.self.inside.setup.proposers c.self.inside.council c.self.inside.acceptors.items c.self.inside.desks.items c.self.inside.callers.items c.self.inside.flow c.self.inside.record c.args.proposer c.from-place.result c.index_mut-in-Handle-2.result.now at c.from-place.ensures c.index_mut-in-Handle-2.ensures.value in
    let at_desk = desk_in c.args.self.now c.self.inside.setup.proposers c.self.inside.council c.self.inside.acceptors.items c.self.inside.desks.items c.self.inside.callers.items c.self.inside.flow c.self.inside.record c.args.proposer c.from-place.result c.index_mut-in-Handle.result.now at c.from-place.ensures c.index_mut-in-Handle.ensures.value in
    let handled = handles (meaning g.S.Shelf g.V.Disk) c.self.inside.setup.proposers c.self.inside.council c.self.inside.acceptors.items c.handle-done.new.acceptors.items c.self.inside.desks.items c.index_mut-in-Handle.result.now c.handle-done.new.desk c.self.inside.callers.items c.self.inside.flow c.handle-done.new.flow c.self.inside.record c.handle-done.new.record c.args.proposer c.args.verdict c.index_mut-in-Handle-2.result.now c.handle-done.new.caller at_desk at_caller is_open (sym c.falls.ensures ∙ c.in-Handle.is) c.in-Ok.ensures.ok in
    subst (λ (n : ℕ). IsWorld (meaning g.S.Shelf g.V.Disk) (view_of c.self.inside.setup.proposers c.self.inside.council c.handle-done.new.acceptors.items (slice_set c.self.inside.desks.items n c.handle-done.new.desk) (slice_set c.self.inside.callers.items n c.handle-done.new.caller) c.handle-done.new.flow c.handle-done.new.record) (slice_set c.self.inside.callers.items n c.handle-done.new.caller) c.handle-done.new.record.room) (sym c.from-place.ensures)
    (handled_kept (meaning g.S.Shelf g.V.Disk).shelves c.self.inside.setup.proposers c.self.inside.council c.self.inside.acceptors.items c.handle-done.new.acceptors.items c.self.inside.desks.items c.index_mut-in-Handle.result.now c.handle-done.new.desk c.self.inside.callers.items c.self.inside.flow c.handle-done.new.flow c.self.inside.record c.handle-done.new.record c.args.proposer c.args.verdict c.index_mut-in-Handle-2.result.now c.handle-done.new.caller c.self.invariant at_desk at_caller is_open c.in-Ok.ensures.ok
    (steps_are_safe (meaning g.S.Shelf g.V.Disk) _ (step.Turn c.args.proposer c.args.verdict) _ c.self.invariant.safe handled)
    (remembered_then (meaning g.S.Shelf g.V.Disk) (step.Turn c.args.proposer c.args.verdict) handled c.self.invariant.remembered))

-- src/turn.rt:34:5
pub returns-in-Ok-clause-ok : goal.returns-in-Ok-clause-ok
returns-in-Ok-clause-ok g c =
    let at = turning c.args.self.now c.self.inside.setup.proposers c.self.inside.council c.self.inside.acceptors.items c.self.inside.desks.items c.self.inside.callers.items c.self.inside.flow c.self.inside.record c.args.proposer c.self.view_is c.self.invariant c.requires.proposer c.requires.waits in
    let is_open = open_in c.args.self.now c.self.inside.setup.proposers c.self.inside.council c.self.inside.acceptors.items c.self.inside.desks.items c.self.inside.callers.items c.self.inside.flow c.self.inside.record c.args.proposer c.from-place.result c.index_mut-in-Handle-2.result.now at c.from-place.ensures c.index_mut-in-Handle-2.ensures.value in
    let at_caller = place_in c.args.self.now c.self.inside.setup.proposers c.self.inside.council c.self.inside.acceptors.items c.self.inside.desks.items c.self.inside.callers.items c.self.inside.flow c.self.inside.record c.args.proposer c.from-place.result c.index_mut-in-Handle-2.result.now at c.from-place.ensures c.index_mut-in-Handle-2.ensures.value in
    let at_desk = desk_in c.args.self.now c.self.inside.setup.proposers c.self.inside.council c.self.inside.acceptors.items c.self.inside.desks.items c.self.inside.callers.items c.self.inside.flow c.self.inside.record c.args.proposer c.from-place.result c.index_mut-in-Handle.result.now at c.from-place.ensures c.index_mut-in-Handle.ensures.value in
    let handled = handles (meaning g.S.Shelf g.V.Disk) c.self.inside.setup.proposers c.self.inside.council c.self.inside.acceptors.items c.handle-done.new.acceptors.items c.self.inside.desks.items c.index_mut-in-Handle.result.now c.handle-done.new.desk c.self.inside.callers.items c.self.inside.flow c.handle-done.new.flow c.self.inside.record c.handle-done.new.record c.args.proposer c.args.verdict c.index_mut-in-Handle-2.result.now c.handle-done.new.caller at_desk at_caller is_open (sym c.falls.ensures ∙ c.in-Handle.is) c.in-Ok.ensures.ok in
    subst (λ (n : ℕ). StepTurn (meaning g.S.Shelf g.V.Disk) c.args.self.now c.args.proposer c.args.verdict (view_of c.self.inside.setup.proposers c.self.inside.council c.handle-done.new.acceptors.items (slice_set c.self.inside.desks.items n c.handle-done.new.desk) (slice_set c.self.inside.callers.items n c.handle-done.new.caller) c.handle-done.new.flow c.handle-done.new.record)) (sym c.from-place.ensures)
    (seen_from (meaning g.S.Shelf g.V.Disk) (step.Turn c.args.proposer c.args.verdict) _ c.self.view_is handled)

-- src/turn.rt:68:17
pub tell_no_memory-requires : goal.tell_no_memory-requires
tell_no_memory-requires g c =
    let at = turning c.args.self.now c.self.inside.setup.proposers c.self.inside.council c.self.inside.acceptors.items c.self.inside.desks.items c.self.inside.callers.items c.self.inside.flow c.self.inside.record c.args.proposer c.self.view_is c.self.invariant c.requires.proposer c.requires.waits in
    let is_open = open_in c.args.self.now c.self.inside.setup.proposers c.self.inside.council c.self.inside.acceptors.items c.self.inside.desks.items c.self.inside.callers.items c.self.inside.flow c.self.inside.record c.args.proposer c.from-place.result c.index_mut-in-Handle-2.result.now at c.from-place.ensures c.index_mut-in-Handle-2.ensures.value in
    let at_caller = place_in c.args.self.now c.self.inside.setup.proposers c.self.inside.council c.self.inside.acceptors.items c.self.inside.desks.items c.self.inside.callers.items c.self.inside.flow c.self.inside.record c.args.proposer c.from-place.result c.index_mut-in-Handle-2.result.now at c.from-place.ensures c.index_mut-in-Handle-2.ensures.value in
    let at_desk = desk_in c.args.self.now c.self.inside.setup.proposers c.self.inside.council c.self.inside.acceptors.items c.self.inside.desks.items c.self.inside.callers.items c.self.inside.flow c.self.inside.record c.args.proposer c.from-place.result c.index_mut-in-Handle.result.now at c.from-place.ensures c.index_mut-in-Handle.ensures.value in
    let same_who = told_caller c.self.inside.callers.items c.from-place.result c.args.proposer c.index_mut-in-Handle-2.result.now c.handle-done.new.caller c.index_mut-in-Err.result.now at_caller c.from-place.ensures c.in-Err.ensures.same.1 c.index_mut-in-Err.ensures.value in
    may_tell c.self.inside.desks.items c.self.inside.flow c.args.proposer c.index_mut-in-Handle-2.result.now c.index_mut-in-Err.result.now _ is_open same_who

-- src/turn.rt:69:17
pub invariant_of-self-in-Err : goal.invariant_of-self-in-Err
invariant_of-self-in-Err g c =
    let at = turning c.args.self.now c.self.inside.setup.proposers c.self.inside.council c.self.inside.acceptors.items c.self.inside.desks.items c.self.inside.callers.items c.self.inside.flow c.self.inside.record c.args.proposer c.self.view_is c.self.invariant c.requires.proposer c.requires.waits in
    let is_open = open_in c.args.self.now c.self.inside.setup.proposers c.self.inside.council c.self.inside.acceptors.items c.self.inside.desks.items c.self.inside.callers.items c.self.inside.flow c.self.inside.record c.args.proposer c.from-place.result c.index_mut-in-Handle-2.result.now at c.from-place.ensures c.index_mut-in-Handle-2.ensures.value in
    let at_caller = place_in c.args.self.now c.self.inside.setup.proposers c.self.inside.council c.self.inside.acceptors.items c.self.inside.desks.items c.self.inside.callers.items c.self.inside.flow c.self.inside.record c.args.proposer c.from-place.result c.index_mut-in-Handle-2.result.now at c.from-place.ensures c.index_mut-in-Handle-2.ensures.value in
    let at_desk = desk_in c.args.self.now c.self.inside.setup.proposers c.self.inside.council c.self.inside.acceptors.items c.self.inside.desks.items c.self.inside.callers.items c.self.inside.flow c.self.inside.record c.args.proposer c.from-place.result c.index_mut-in-Handle.result.now at c.from-place.ensures c.index_mut-in-Handle.ensures.value in
    let same_who = told_caller c.self.inside.callers.items c.from-place.result c.args.proposer c.index_mut-in-Handle-2.result.now c.handle-done.new.caller c.index_mut-in-Err.result.now at_caller c.from-place.ensures c.in-Err.ensures.same.1 c.index_mut-in-Err.ensures.value in
    let by : IsTurnRefused c.self.inside.desks.items c.index_mut-in-Handle.result.now c.handle-done.new.desk c.self.inside.callers.items c.self.inside.flow c.handle-done.new.flow c.self.inside.record c.handle-done.new.record c.args.proposer c.from-place.result c.index_mut-in-Handle-2.result.now c.handle-done.new.caller c.index_mut-in-Err.result.now c.tell_no_memory.new.caller = record {
      at_desk = at_desk;
      at_caller = at_caller;
      is_open = is_open;
      place = c.from-place.ensures;
      same_who = same_who;
      same_desk = c.in-Err.ensures.same.0;
      same_caller = c.in-Err.ensures.same.1;
      same_flow = c.in-Err.ensures.same.2;
      same_book = c.in-Err.ensures.same.3;
      tells = c.tell_no_memory.ensures;
    } in
    let step_is = refused_step (meaning g.S.Shelf g.V.Disk) c.self.inside.setup.proposers c.self.inside.council c.self.inside.acceptors.items c.handle-done.new.acceptors.items c.self.inside.desks.items c.index_mut-in-Handle.result.now c.handle-done.new.desk c.self.inside.callers.items c.self.inside.flow c.handle-done.new.flow c.self.inside.record c.handle-done.new.record c.args.proposer c.from-place.result c.index_mut-in-Handle-2.result.now c.handle-done.new.caller c.index_mut-in-Err.result.now c.tell_no_memory.new.caller by c.in-Err.ensures.err in
    refused (λ (ds : List (DeskView g.row.V.Denot)) (cs : List Caller) (f : FlowView) (b : Book). IsWorld (meaning g.S.Shelf g.V.Disk) (view_of c.self.inside.setup.proposers c.self.inside.council c.handle-done.new.acceptors.items ds cs f b) cs b.room) c.self.inside.desks.items c.index_mut-in-Handle.result.now c.handle-done.new.desk c.self.inside.callers.items c.self.inside.flow c.handle-done.new.flow c.self.inside.record c.handle-done.new.record c.args.proposer c.from-place.result c.index_mut-in-Handle-2.result.now c.handle-done.new.caller c.index_mut-in-Err.result.now c.tell_no_memory.new.caller by
    (refused_kept (meaning g.S.Shelf g.V.Disk) c.self.inside.setup.proposers c.self.inside.council c.self.inside.acceptors.items c.handle-done.new.acceptors.items c.self.inside.desks.items c.index_mut-in-Handle.result.now c.handle-done.new.desk c.self.inside.callers.items c.self.inside.flow c.handle-done.new.flow c.self.inside.record c.handle-done.new.record c.args.proposer c.from-place.result c.index_mut-in-Handle-2.result.now c.handle-done.new.caller c.index_mut-in-Err.result.now c.tell_no_memory.new.caller c.self.invariant by
    (steps_are_safe (meaning g.S.Shelf g.V.Disk) _ (step.RefuseTurn c.args.proposer) _ c.self.invariant.safe step_is)
    (remembered_then (meaning g.S.Shelf g.V.Disk) (step.RefuseTurn c.args.proposer) step_is c.self.invariant.remembered))

-- src/turn.rt:34:5
pub returns-in-Err-clause-err : goal.returns-in-Err-clause-err
returns-in-Err-clause-err g c =
    let at = turning c.args.self.now c.self.inside.setup.proposers c.self.inside.council c.self.inside.acceptors.items c.self.inside.desks.items c.self.inside.callers.items c.self.inside.flow c.self.inside.record c.args.proposer c.self.view_is c.self.invariant c.requires.proposer c.requires.waits in
    let is_open = open_in c.args.self.now c.self.inside.setup.proposers c.self.inside.council c.self.inside.acceptors.items c.self.inside.desks.items c.self.inside.callers.items c.self.inside.flow c.self.inside.record c.args.proposer c.from-place.result c.index_mut-in-Handle-2.result.now at c.from-place.ensures c.index_mut-in-Handle-2.ensures.value in
    let at_caller = place_in c.args.self.now c.self.inside.setup.proposers c.self.inside.council c.self.inside.acceptors.items c.self.inside.desks.items c.self.inside.callers.items c.self.inside.flow c.self.inside.record c.args.proposer c.from-place.result c.index_mut-in-Handle-2.result.now at c.from-place.ensures c.index_mut-in-Handle-2.ensures.value in
    let at_desk = desk_in c.args.self.now c.self.inside.setup.proposers c.self.inside.council c.self.inside.acceptors.items c.self.inside.desks.items c.self.inside.callers.items c.self.inside.flow c.self.inside.record c.args.proposer c.from-place.result c.index_mut-in-Handle.result.now at c.from-place.ensures c.index_mut-in-Handle.ensures.value in
    let same_who = told_caller c.self.inside.callers.items c.from-place.result c.args.proposer c.index_mut-in-Handle-2.result.now c.handle-done.new.caller c.index_mut-in-Err.result.now at_caller c.from-place.ensures c.in-Err.ensures.same.1 c.index_mut-in-Err.ensures.value in
    let by : IsTurnRefused c.self.inside.desks.items c.index_mut-in-Handle.result.now c.handle-done.new.desk c.self.inside.callers.items c.self.inside.flow c.handle-done.new.flow c.self.inside.record c.handle-done.new.record c.args.proposer c.from-place.result c.index_mut-in-Handle-2.result.now c.handle-done.new.caller c.index_mut-in-Err.result.now c.tell_no_memory.new.caller = record {
      at_desk = at_desk;
      at_caller = at_caller;
      is_open = is_open;
      place = c.from-place.ensures;
      same_who = same_who;
      same_desk = c.in-Err.ensures.same.0;
      same_caller = c.in-Err.ensures.same.1;
      same_flow = c.in-Err.ensures.same.2;
      same_book = c.in-Err.ensures.same.3;
      tells = c.tell_no_memory.ensures;
    } in
    let step_is = refused_step (meaning g.S.Shelf g.V.Disk) c.self.inside.setup.proposers c.self.inside.council c.self.inside.acceptors.items c.handle-done.new.acceptors.items c.self.inside.desks.items c.index_mut-in-Handle.result.now c.handle-done.new.desk c.self.inside.callers.items c.self.inside.flow c.handle-done.new.flow c.self.inside.record c.handle-done.new.record c.args.proposer c.from-place.result c.index_mut-in-Handle-2.result.now c.handle-done.new.caller c.index_mut-in-Err.result.now c.tell_no_memory.new.caller by c.in-Err.ensures.err in
    refused (λ (ds : List (DeskView g.row.V.Denot)) (cs : List Caller) (f : FlowView) (b : Book). StepRefuseTurn (meaning g.S.Shelf g.V.Disk) c.args.self.now c.args.proposer (view_of c.self.inside.setup.proposers c.self.inside.council c.handle-done.new.acceptors.items ds cs f b)) c.self.inside.desks.items c.index_mut-in-Handle.result.now c.handle-done.new.desk c.self.inside.callers.items c.self.inside.flow c.handle-done.new.flow c.self.inside.record c.handle-done.new.record c.args.proposer c.from-place.result c.index_mut-in-Handle-2.result.now c.handle-done.new.caller c.index_mut-in-Err.result.now c.tell_no_memory.new.caller by
    (seen_from (meaning g.S.Shelf g.V.Disk) (step.RefuseTurn c.args.proposer) _ c.self.view_is step_is)
