use Rattle.std.proofs.Common.{refl, vec_items}
use Rattle.cas_http_connection.proofs.Answering.{refusal_answered, change_answered}
use Rattle.cas_http_connection.proofs.connection.answer.Goals as goal

pub returns-in-Refused : goal.returns-in-Refused
returns-in-Refused g c =
    refusal_answered _ c.args.last c.args.request.now c.in-Refused.code c.args.changer.now
    c.print_answer.result vec_items _ c.in-Refused.is c.requires refl c.print_answer.ensures.text

pub returns-in-Change : goal.returns-in-Change
returns-in-Change g c =
    change_answered _ c.args.last c.args.request.now c.in-Change.key c.in-Change.program c.change-told.result _ _
    c.print_reply.result vec_items c.in-Change.is c.change-told.ensures c.print_reply.ensures
