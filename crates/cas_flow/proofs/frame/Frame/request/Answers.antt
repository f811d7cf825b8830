use Rattle.std.proofs.Common.{ap, ◌∙◌}
use Rattle.cas_flow.specs.Message.{leg_of_phase}
use Rattle.cas_flow.proofs.FrameLemmas.{bears_request, asked_is}
use Rattle.cas_flow.proofs.frame.Frame.request.Goals as goal

pub invariant_of-result : goal.invariant_of-result
invariant_of-result c =
    bears_request c.in_ok-bytes.bytes.items c.args.request.now c.leg_of_phase.result (c.leg_of_phase.ensures ∙ ap leg_of_phase c.phase.ensures) c.in_ok-bytes.ensures.frame

pub returns : goal.returns
returns c = asked_is c.in_ok-bytes.bytes.items c.args.request.now c.in_ok-bytes.ensures.frame
