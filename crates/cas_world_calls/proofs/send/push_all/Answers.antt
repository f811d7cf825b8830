use Rattle.std.proofs.Common.{◌≡◌, List, [], subst, arith}
use Rattle.std.specs.Prelude.{Option}
use Rattle.std.specs.Vec.Iter.{into_iter_items}
use Rattle.std.proofs.lemmas.List.{nil_from_length}
use Rattle.cas_flow.specs.declared.message.Message.{Message}
use Rattle.cas_world_calls.proofs.Sending.{IsSending, all_sent}
use Rattle.cas_world_calls.proofs.send.push_all.Goals as goal

-- src/send.rt:70:1
pub returns : goal.returns
returns c =
    let gives : into_iter_items c.into_iter-frame-iterator.result ≡ c.args.frames.items = c.into_iter-frame-iterator.ensures.into_iter_gives.0 in
    let none : into_iter_items c.loop-frame.frame-iterator ≡ [] = nil_from_length (into_iter_items c.loop-frame.frame-iterator) (omega (arith, c.loop-frame.frame-iterator.rest.ok.0, c.in-None.ensures.steps.0)) in
    all_sent c.args.flow.now c.loop-frame.flow c.args.queue c.args.frames.items
    (subst (λ (all : List (Option Message)). IsSending c.args.flow.now c.args.queue all c.loop-frame.flow []) gives
    (subst (λ (rest : List (Option Message)). IsSending c.args.flow.now c.args.queue (into_iter_items c.into_iter-frame-iterator.result) c.loop-frame.flow rest) none c.loop-frame.invariant.2))
