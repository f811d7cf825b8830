use Rattle.std.proofs.Common.{Option, sym, ap, subst, ◌∙◌}
use Rattle.std.specs.Prelude.{IfSome, IfNone}
use Rattle.cas_protocol.specs.Protocol.{is_done}
use Rattle.cas_model.specs.Collection.Step.{keep_always}
use Rattle.cas_record.specs.declared.answer.Answer.{Answer}
use Rattle.cas_record.specs.declared.operator.OpAnswer.TheVariants as op
use Rattle.cas_model.specs.View.{meaning}
use Rattle.cas_world.specs.Exchanges.Exchange.{WasToldOrder}
use Rattle.casreg_script.specs.Collection.Collecting.{HasStopped, IsTombstoneSet}
use Rattle.casreg_script.proofs.Collection.Rounds.{collecting_call, end_idle, end_tombstone_set, end_told}
use Rattle.casreg_script.proofs.Eras.Rescanning.{not_done}
use Rattle.test_world.proofs.Leading.{end_leads, leads_on, then_leads}
use Rattle.test_world.proofs.collection.run_call.Goals as goal

pub returns-in_err-told-clause-goes : goal.returns-in_err-told-clause-goes
returns-in_err-told-clause-goes g c = leads_on c.args.world.now c.begin_call.new.world c.begin_call.ensures.leads c.in_err-told.ensures.none

pub end_collect-requires-clause-told : goal.end_collect-requires-clause-told
end_collect-requires-clause-told g c =
    let stopped = subst (λ (o : Option Answer). IfSome o (HasStopped c.begin_call.new.world (record { number = c.next_call-call.result; key = c.args.key.now; program = keep_always }))) c.in-Some.is c.in_ok-told.ensures.stopped in
    stopped.over.was_told

pub end_collect-requires-clause-calling : goal.end_collect-requires-clause-calling
end_collect-requires-clause-calling g c =
    let stopped = subst (λ (o : Option Answer). IfSome o (HasStopped c.begin_call.new.world (record { number = c.next_call-call.result; key = c.args.key.now; program = keep_always }))) c.in-Some.is c.in_ok-told.ensures.stopped in
    collecting_call c.begin_call.new.world _ stopped.over.call stopped.over.is_for stopped.seeks

pub returns-in-Done-clause-tombstone_set : goal.returns-in-Done-clause-tombstone_set
returns-in-Done-clause-tombstone_set g c =
    let stopped = subst (λ (o : Option Answer). IfSome o (HasStopped c.begin_call.new.world (record { number = c.next_call-call.result; key = c.args.key.now; program = keep_always }))) c.in-Some.is c.in_ok-told.ensures.stopped in
    end_tombstone_set (meaning g.S.Shelf g.V.Disk) c.begin_call.new.world c.end_collect.new.self _ c.in-Some.told stopped c.end_collect.ensures.step (ap is_done (sym c.end_collect.ensures.same) ∙ ap is_done c.in-Done.is)

pub returns-in-Done-clause-goes : goal.returns-in-Done-clause-goes
returns-in-Done-clause-goes g c =
    let stopped = subst (λ (o : Option Answer). IfSome o (HasStopped c.begin_call.new.world (record { number = c.next_call-call.result; key = c.args.key.now; program = keep_always }))) c.in-Some.is c.in_ok-told.ensures.stopped in
    leads_on c.args.world.now c.end_collect.new.self (then_leads c.args.world.now c.begin_call.new.world c.end_collect.new.self c.begin_call.ensures.leads (end_leads (meaning g.S.Shelf g.V.Disk) c.begin_call.new.world c.end_collect.new.self _ c.end_collect.ensures.step))
    (end_idle (meaning g.S.Shelf g.V.Disk) c.begin_call.new.world c.end_collect.new.self _ c.in-Some.told stopped c.end_collect.ensures.step)

pub returns-in_default : goal.returns-in_default
returns-in_default g c =
    let stopped = subst (λ (o : Option Answer). IfSome o (HasStopped c.begin_call.new.world (record { number = c.next_call-call.result; key = c.args.key.now; program = keep_always }))) c.in-Some.is c.in_ok-told.ensures.stopped in
    record {
      tombstone_set = tt;
      told = subst (λ (a : Answer). WasToldOrder c.end_collect.new.self (op.Stopped a)) (sym c.end_collect.ensures.same)
          (end_told (meaning g.S.Shelf g.V.Disk) c.begin_call.new.world c.end_collect.new.self _ c.in-Some.told stopped c.end_collect.ensures.step (ap is_done (sym c.end_collect.ensures.same) ∙ not_done c.end_collect.result c.in_default.not-Done));
      goes = leads_on c.args.world.now c.end_collect.new.self (then_leads c.args.world.now c.begin_call.new.world c.end_collect.new.self c.begin_call.ensures.leads (end_leads (meaning g.S.Shelf g.V.Disk) c.begin_call.new.world c.end_collect.new.self _ c.end_collect.ensures.step))
          (end_idle (meaning g.S.Shelf g.V.Disk) c.begin_call.new.world c.end_collect.new.self _ c.in-Some.told stopped c.end_collect.ensures.step);
    }

pub returns-in-None-clause-tombstone_set : goal.returns-in-None-clause-tombstone_set
returns-in-None-clause-tombstone_set g c = subst (λ (o : Option Answer). IfNone o (IsTombstoneSet c.begin_call.new.world c.args.key.now)) c.in-None.is c.in_ok-told.ensures.tombstone_set

pub returns-in-None-clause-goes : goal.returns-in-None-clause-goes
returns-in-None-clause-goes g c =
    let tombstone_set = subst (λ (o : Option Answer). IfNone o (IsTombstoneSet c.begin_call.new.world c.args.key.now)) c.in-None.is c.in_ok-told.ensures.tombstone_set in
    leads_on c.args.world.now c.begin_call.new.world c.begin_call.ensures.leads tombstone_set.due.idle
