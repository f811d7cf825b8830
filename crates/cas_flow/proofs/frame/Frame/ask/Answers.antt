use Rattle.std.proofs.Common.{ap, ◌∙◌}
use Rattle.cas_flow.specs.Message.{leg_of_phase}
use Rattle.cas_flow.proofs.FrameLemmas.{bears_request, asked_is}
use Rattle.cas_flow.proofs.frame.Frame.ask.Goals as goal

pub invariant_of-self : goal.invariant_of-self
invariant_of-self c =
    bears_request c.encode_request_into.new.out.items c.args.request.now c.leg_of_phase.result (c.leg_of_phase.ensures ∙ ap leg_of_phase c.phase.ensures) c.encode_request_into.ensures.frame

pub returns : goal.returns
returns c = asked_is c.encode_request_into.new.out.items c.args.request.now c.encode_request_into.ensures.frame
