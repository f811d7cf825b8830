use Rattle.std.proofs.Common.{Some, refl, ap, ◌∙◌}
use Rattle.cas_flow.specs.declared.message.Message.{Message}
use Rattle.cas_world.specs.Frames.Turn.{asks, arrives}
use Rattle.cas_world.proofs.Frames.Turning.{on_ok, makes_none}
use Rattle.cas_world.proofs.turn.handle.Goals as goal

-- src/turn.rt:98:1
pub returns-in-Request-clause-ok : goal.returns-in-Request-clause-ok
returns-in-Request-clause-ok g c =
    on_ok c.ask.result (λ asked. asks c.in-Request.request (c.in_ok-request.ensures.message ∙ ap (λ (x : Message). Some x) c.in-Request.is) asked refl) c.ask.ensures.ok

-- src/turn.rt:98:1
pub returns-in-Reply-clause-ok : goal.returns-in-Reply-clause-ok
returns-in-Reply-clause-ok g c =
    arrives c.in-Reply.reply (c.in_ok-request.ensures.message ∙ ap (λ (x : Message). Some x) c.in-Reply.is) c.arrive.ensures.desk
    (makes_none c.args.caller.now _ _ c.requires.mark.is_open c.arrive.ensures.caller) refl c.arrive.ensures.flow
