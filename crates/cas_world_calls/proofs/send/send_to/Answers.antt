use Rattle.std.proofs.Common.{◌≡◌, ◌<◌, List, length, subst, sym, ap, ◌∙◌}
use Rattle.cas_flow.specs.Flow.{FlowView, queue_at}
use Rattle.cas_flow.specs.Queue.{all_bear, messages_of}
use Rattle.cas_flow.specs.declared.message.Message.{Message}
use Rattle.cas_model.specs.Calls.Step.{Sends}
use Rattle.cas_world_calls.specs.Sending.{requests_to}
use Rattle.cas_world_calls.proofs.Sending.{sends_after, messages_borne, all_borne}
use Rattle.cas_world_calls.proofs.send.send_to.Goals as goal

-- src/send.rt:36:5
pub push_all-requires-clause-bear : goal.push_all-requires-clause-bear
push_all-requires-clause-bear c = ap all_bear c.in_ok-frames.ensures.each ∙ all_borne (requests_to c.args.proposer c.args.age c.args.ask c.args.members.now)

-- src/send.rt:20:1
pub returns-clause-sent : goal.returns-clause-sent
returns-clause-sent c =
    let asked : List Message = requests_to c.args.proposer c.args.age c.args.ask c.args.members.now in
    let same : c.frames_to.new.flow ≡ c.args.flow.now = c.in_ok-frames.ensures.same in
    let messages : messages_of c.in_ok-frames.frames.items ≡ asked = ap messages_of c.in_ok-frames.ensures.each ∙ messages_borne asked in
    subst (λ (flow : FlowView). Sends flow c.args.queue asked c.push_all.new.flow) same
    (sends_after c.frames_to.new.flow c.reserve_own.new.self c.push_all.new.flow c.args.queue (queue_at c.reserve_own.new.self c.args.queue).room asked
    (subst (λ (flow : FlowView). c.args.queue < length flow.own) (sym same) c.requires.queue) c.in_ok-reserve_own.ensures.same
    (subst (λ (l : List Message). Sends c.reserve_own.new.self c.args.queue l c.push_all.new.flow) messages c.push_all.ensures))
