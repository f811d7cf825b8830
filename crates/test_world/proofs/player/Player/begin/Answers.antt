use Rattle.std.proofs.Common.{Bool, Some, sym, ap, ◌∙◌}
use Rattle.std.specs.Prelude.{⊤}
use Rattle.cas_model.specs.Step as step
use Rattle.casreg_script.proofs.Calls.Keeping.{begin_keeps}
use Rattle.casreg_script.proofs.Calls.Playing.{begun_first, refusal_is, told_is}
use Rattle.test_world.proofs.Plays.{begins, ends_after, ends_at_once, refused, stays}
use Rattle.test_world.proofs.player.Player.begin.Goals as goal

pub begin-requires-clause-may : goal.begin-requires-clause-may
begin-requires-clause-may g c =
    begun_first c.self.inside.world c.args.caller c.next_call-call.result c.args.key.now c.args.program.now
    (c.self.invariant.idle c.args.caller c.in-Some-false.ensures.0 (c.in-Some-false.ensures.1 ∙ ap (λ (b : Bool). Some b) c.in-Some-false.field-0-test)) c.next_call-call.ensures

pub invariant_of-self : goal.invariant_of-self
invariant_of-self g c =
    begins _ c.self.inside.world c.begin.new.self c.args.caller c.self.inside.proposers c.args.key.now c.args.program.now c.self.inside.calls c.set.new.calls _ c.self.invariant c.set.ensures (λ operator. c.is_free.ensures c.if-not-is_free.false operator) c.in-Ok.ensures.step.0

pub invariant_of-self-then-is_refusal : goal.invariant_of-self-then-is_refusal
invariant_of-self-then-is_refusal g c =
    let none = c.self.invariant.idle c.args.caller c.in-Some-false.ensures.0 (c.in-Some-false.ensures.1 ∙ ap (λ (b : Bool). Some b) c.in-Some-false.field-0-test) in
    let not_begun = refusal_is _ c.self.inside.world c.begin.new.self c.args.caller c.next_call-call.result c.args.key.now c.args.program.now c.in-Err.refusal none (sym c.is_refusal.ensures ∙ c.if-is_refusal.true) c.in-Err.ensures.full c.in-Err.ensures.step in
    stays _ c.self.inside.world c.begin.new.self (step.RefuseBegin c.args.caller c.args.key.now) c.self.inside.proposers c.self.inside.calls _ c.self.invariant not_begun.1
    (refused _ c.self.inside.world c.begin.new.self c.args.caller c.self.inside.proposers c.args.key.now c.self.inside.calls _ c.self.invariant (λ operator. c.is_free.ensures c.if-not-is_free.false operator) not_begun.1)

pub invariant_of-self-in-Err-2 : goal.invariant_of-self-in-Err-2
invariant_of-self-in-Err-2 g c =
    let begun = told_is ⊤ _ c.self.inside.world c.begin.new.self c.args.caller c.next_call-call.result c.args.key.now c.args.program.now c.in-Err.refusal (sym c.is_refusal.ensures ∙ c.if-is_refusal.false) c.in-Err.ensures.step in
    ends_at_once _ c.self.inside.world c.end.new.self c.args.caller c.self.inside.proposers c.self.inside.calls _ c.self.invariant (λ operator. c.is_free.ensures c.if-not-is_free.false operator)
    (ends_after _ c.self.inside.world c.begin.new.self c.end.new.self (step.Begin c.args.caller c.args.key.now c.args.program.now) c.args.caller _ c.self.invariant.safe begun.0
    (begin_keeps _ c.self.inside.world c.begin.new.self c.args.caller c.args.key.now c.args.program.now begun.0) c.end.ensures.step)
