use Rattle.std.proofs.Common.{Some, refl, sym, ap, ◌∙◌}
use Rattle.cas_flow.specs.declared.message.Message.{Message}
use Rattle.cas_world.specs.Frames.Stray.{asks, arrives}
use Rattle.cas_world.proofs.stray.let_in.Goals as goal

-- src/stray.rt:72:1
pub returns-in_ok-ask-in-Request-clause-ok : goal.returns-in_ok-ask-in-Request-clause-ok
returns-in_ok-ask-in-Request-clause-ok g c =
    asks c.in-Request.request c.reserve.new.self (sym c.look_late.ensures ∙ sym c.in_ok-request.ensures.message ∙ ap (λ (x : Message). Some x) c.in-Request.is) refl
    (record { same = c.reserve.ensures.same; room = c.in_ok-reserve.ensures.ok }) c.in_ok-ask-in-Request.ensures.ok refl

-- src/stray.rt:72:1
pub returns-in-Reply-clause-ok : goal.returns-in-Reply-clause-ok
returns-in-Reply-clause-ok g c =
    arrives c.in-Reply.reply (sym c.look_late.ensures ∙ sym c.in_ok-request.ensures.message ∙ ap (λ (x : Message). Some x) c.in-Reply.is) refl
    (record { same = c.reserve.ensures.same; room = c.in_ok-reserve.ensures.ok }) c.arrive.ensures refl c.take_late.ensures
