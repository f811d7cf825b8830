use Rattle.std.proofs.Common.{List, subst, ap, ◌∙◌}
use Rattle.cas_flow.specs.Flow.{queue_at}
use Rattle.cas_flow.specs.Queue.{all_bear, messages_of}
use Rattle.cas_flow.specs.declared.message.Message.{Message}
use Rattle.cas_model.specs.Council.{exchange_place}
use Rattle.cas_model.specs.Calls.Step.{Sends}
use Rattle.cas_model.specs.Exchanges.Step.{questions_to}
use Rattle.cas_world_calls.specs.Council.{question_view}
use Rattle.cas_world_calls.proofs.Sending.{sends_after, messages_borne, all_borne}
use Rattle.cas_world_calls.proofs.send.send_questions.Goals as goal

pub push_all-requires-clause-bear : goal.push_all-requires-clause-bear
push_all-requires-clause-bear c = ap all_bear c.in_ok-frames.ensures.each ∙ all_borne (questions_to c.args.age c.args.tag (question_view c.args.question.now) c.args.members.now)

pub returns-clause-sent : goal.returns-clause-sent
returns-clause-sent c =
    let all = questions_to c.args.age c.args.tag (question_view c.args.question.now) c.args.members.now in
    sends_after c.args.flow.now c.reserve_own.new.self c.push_all.new.flow exchange_place (queue_at c.reserve_own.new.self exchange_place).room all c.requires.queue c.in_ok-reserve_own.ensures.same
    (subst (λ (l : List Message). Sends c.reserve_own.new.self exchange_place l c.push_all.new.flow) (ap messages_of c.in_ok-frames.ensures.each ∙ messages_borne all) c.push_all.ensures)
