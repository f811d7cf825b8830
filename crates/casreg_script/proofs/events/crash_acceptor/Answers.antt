use Rattle.std.proofs.Common.{Bool, Option, sym, subst, ◌∙◌}
use Rattle.std.specs.Prelude.{IsSome}
use Rattle.casreg_script.specs.Events.{absent, crashes}
use Rattle.casreg_script.proofs.Happenings.{some_there}
use Rattle.casreg_script.proofs.events.crash_acceptor.Goals as goal

pub returns-in-None : goal.returns-in-None
returns-in-None g c = absent (sym c.acceptor_up.ensures ∙ c.in-None.is)

pub returns-in-Some : goal.returns-in-Some
returns-in-Some g c = crashes (subst (λ (o : Option Bool). IsSome o) c.acceptor_up.ensures (some_there c.acceptor_up.result c.in-Some.field-0 c.in-Some.is)) c.crash_acceptor.ensures
