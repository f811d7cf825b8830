use Rattle.std.proofs.Common.{Option, sym, ap, subst, ◌∙◌}
use Rattle.std.specs.Prelude.{IfSome, IfNone}
use Rattle.cas_protocol.specs.Protocol.{is_done}
use Rattle.cas_model.specs.Collection.Step.{keep_always}
use Rattle.cas_model.specs.View.{meaning}
use Rattle.cas_record.specs.declared.answer.Answer.{Answer}
use Rattle.cas_record.specs.declared.operator.OpAnswer.TheVariants as op
use Rattle.cas_world.specs.Exchanges.Exchange.{WasToldOrder}
use Rattle.casreg_script.specs.Collection.Collecting.{HasStopped, IsTombstoneSet}
use Rattle.casreg_script.specs.Collection.Collections.{over, ended}
use Rattle.casreg_script.proofs.Collection.Rounds.{collecting_call, end_idle, end_tombstone_set, end_told}
use Rattle.casreg_script.proofs.Collection.Collecting.{called_idle}
use Rattle.casreg_script.proofs.Eras.Rescanning.{not_done}
use Rattle.casreg_script.proofs.collect.set_tombstone.Goals as goal

pub returns-in_err-told-clause-called : goal.returns-in_err-told-clause-called
returns-in_err-told-clause-called g c by is = let called = c.in_err-told.ensures.called by is in record { view = called.view; is = called.is; has = over called.has c.in_err-told.ensures.none }

pub returns-in_err-told-clause-idle : goal.returns-in_err-told-clause-idle
returns-in_err-told-clause-idle g c =
    called_idle (meaning g.S.Shelf g.V.Disk) c.args.tries c.args.key.now c.args.halt.now c.call_for.new.halt c.args.world.now c.call_for.new.world (over (c.in_err-told.ensures.called c.requires.network.0 c.requires.network.1).has c.in_err-told.ensures.none) c.in_err-told.ensures.none

pub end_collect-requires-clause-told : goal.end_collect-requires-clause-told
end_collect-requires-clause-told g c =
    let stopped = subst (λ (o : Option Answer). IfSome o (HasStopped c.call_for.new.world (record { number = c.next_call-call.result; key = c.args.key.now; program = keep_always }))) c.in-Some.is c.in_ok-told.ensures.stopped in
    stopped.over.was_told

pub end_collect-requires-clause-calling : goal.end_collect-requires-clause-calling
end_collect-requires-clause-calling g c =
    let stopped = subst (λ (o : Option Answer). IfSome o (HasStopped c.call_for.new.world (record { number = c.next_call-call.result; key = c.args.key.now; program = keep_always }))) c.in-Some.is c.in_ok-told.ensures.stopped in
    collecting_call c.call_for.new.world _ stopped.over.call stopped.over.is_for stopped.seeks

pub returns-in-Done-clause-called : goal.returns-in-Done-clause-called
returns-in-Done-clause-called g c by is = let called = c.in_ok-told.ensures.called by is in record { view = called.view; is = called.is; has = ended c.in-Some.told called.has c.end_collect.ensures.step }

pub returns-in-Done-clause-tombstone_set : goal.returns-in-Done-clause-tombstone_set
returns-in-Done-clause-tombstone_set g c =
    let stopped = subst (λ (o : Option Answer). IfSome o (HasStopped c.call_for.new.world (record { number = c.next_call-call.result; key = c.args.key.now; program = keep_always }))) c.in-Some.is c.in_ok-told.ensures.stopped in
    end_tombstone_set (meaning g.S.Shelf g.V.Disk) c.call_for.new.world c.end_collect.new.self _ c.in-Some.told stopped c.end_collect.ensures.step (ap is_done (sym c.end_collect.ensures.same) ∙ ap is_done c.in-Done.is)

pub returns-in-Done-clause-idle : goal.returns-in-Done-clause-idle
returns-in-Done-clause-idle g c =
    let stopped = subst (λ (o : Option Answer). IfSome o (HasStopped c.call_for.new.world (record { number = c.next_call-call.result; key = c.args.key.now; program = keep_always }))) c.in-Some.is c.in_ok-told.ensures.stopped in
    called_idle (meaning g.S.Shelf g.V.Disk) c.args.tries c.args.key.now c.args.halt.now c.call_for.new.halt c.args.world.now c.end_collect.new.self (ended c.in-Some.told (c.in_ok-told.ensures.called c.requires.network.0 c.requires.network.1).has c.end_collect.ensures.step)
    (end_idle (meaning g.S.Shelf g.V.Disk) c.call_for.new.world c.end_collect.new.self _ c.in-Some.told stopped c.end_collect.ensures.step)

pub returns-in_default : goal.returns-in_default
returns-in_default g c =
    let stopped = subst (λ (o : Option Answer). IfSome o (HasStopped c.call_for.new.world (record { number = c.next_call-call.result; key = c.args.key.now; program = keep_always }))) c.in-Some.is c.in_ok-told.ensures.stopped in
    record {
      called = λ by is. let called = c.in_ok-told.ensures.called by is in record { view = called.view; is = called.is; has = ended c.in-Some.told called.has c.end_collect.ensures.step };
      tombstone_set = tt;
      told = subst (λ (a : Answer). WasToldOrder c.end_collect.new.self (op.Stopped a)) (sym c.end_collect.ensures.same)
          (end_told (meaning g.S.Shelf g.V.Disk) c.call_for.new.world c.end_collect.new.self _ c.in-Some.told stopped c.end_collect.ensures.step (ap is_done (sym c.end_collect.ensures.same) ∙ not_done c.end_collect.result c.in_default.not-Done));
      network = c.in_ok-told.ensures.network;
      idle = called_idle (meaning g.S.Shelf g.V.Disk) c.args.tries c.args.key.now c.args.halt.now c.call_for.new.halt c.args.world.now c.end_collect.new.self (ended c.in-Some.told (c.in_ok-told.ensures.called c.requires.network.0 c.requires.network.1).has c.end_collect.ensures.step)
          (end_idle (meaning g.S.Shelf g.V.Disk) c.call_for.new.world c.end_collect.new.self _ c.in-Some.told stopped c.end_collect.ensures.step);
    }

pub returns-in-None-clause-called : goal.returns-in-None-clause-called
returns-in-None-clause-called g c by is =
    let called = c.in_ok-told.ensures.called by is in
    let tombstone_set = subst (λ (o : Option Answer). IfNone o (IsTombstoneSet c.call_for.new.world c.args.key.now)) c.in-None.is c.in_ok-told.ensures.tombstone_set in
    record { view = called.view; is = called.is; has = over called.has tombstone_set.due.idle }

pub returns-in-None-clause-tombstone_set : goal.returns-in-None-clause-tombstone_set
returns-in-None-clause-tombstone_set g c =
    let tombstone_set = subst (λ (o : Option Answer). IfNone o (IsTombstoneSet c.call_for.new.world c.args.key.now)) c.in-None.is c.in_ok-told.ensures.tombstone_set in
    tombstone_set

pub returns-in-None-clause-idle : goal.returns-in-None-clause-idle
returns-in-None-clause-idle g c =
    let tombstone_set = subst (λ (o : Option Answer). IfNone o (IsTombstoneSet c.call_for.new.world c.args.key.now)) c.in-None.is c.in_ok-told.ensures.tombstone_set in
    called_idle (meaning g.S.Shelf g.V.Disk) c.args.tries c.args.key.now c.args.halt.now c.call_for.new.halt c.args.world.now c.call_for.new.world (over (c.in_ok-told.ensures.called c.requires.network.0 c.requires.network.1).has tombstone_set.due.idle) tombstone_set.due.idle
