use Rattle.std.proofs.Common.{Bool, Option, sym, subst, ◌∙◌}
use Rattle.std.specs.Prelude.{IsSome}
use Rattle.cas_lines.specs.declared.answer.EventAnswer.{EventAnswer}
use Rattle.cas_model.specs.View.{meaning}
use Rattle.casreg_script.specs.Events.{RestartsAcceptor, absent, restarts}
use Rattle.casreg_script.proofs.Happenings.{some_there}
use Rattle.casreg_script.proofs.events.restart_acceptor.Goals as goal

pub returns-in-None : goal.returns-in-None
returns-in-None g c = absent (sym c.acceptor_up.ensures ∙ c.in-None.is)

pub returns-in-Some : goal.returns-in-Some
returns-in-Some g c =
    subst (λ (a : EventAnswer). RestartsAcceptor (meaning g.S.Shelf g.V.Disk) c.args.world.now c.args.id a c.restart_acceptor.new.self)
    (sym c.shelf_answer.ensures)
    (restarts c.restart_acceptor.result (subst (λ (o : Option Bool). IsSome o) c.acceptor_up.ensures (some_there c.acceptor_up.result c.in-Some.field-0 c.in-Some.is)) c.restart_acceptor.ensures.step c.restart_acceptor.ensures.tells)
