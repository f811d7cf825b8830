use Rattle.std.proofs.Common.{subst, sym}
use Rattle.cas_lines.specs.declared.answer.EventAnswer.{EventAnswer}
use Rattle.cas_model.specs.View.{meaning}
use Rattle.casreg_script.specs.Events.{RestartsProposer, restarts}
use Rattle.casreg_script.proofs.events.restart_proposer.Goals as goal

pub returns : goal.returns
returns g c =
    subst (λ (a : EventAnswer). RestartsProposer (meaning g.S.Shelf g.V.Disk) c.args.world.now c.args.proposer a c.restart_proposer.new.self)
    (sym c.vault_answer.ensures) (restarts c.restart_proposer.result c.restart_proposer.ensures.step c.restart_proposer.ensures.tells)
