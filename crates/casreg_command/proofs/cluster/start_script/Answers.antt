use Rattle.std.proofs.Common.{ℕ, List, length, refl, sym, ap, subst, ◌∙◌}
use Rattle.std.proofs.lemmas.List.FromFn.{length-range_with_len}
use Rattle.cas_store.specs.Rack.{rack_meaning}
use Rattle.cas_store.proofs.Keeping.{stored}
use Rattle.cas_reopen.specs.Closed.{IsWhyClosed, StopsWithinOpening}
use Rattle.casreg_command.specs.Causes.{not_opened}
use Rattle.casreg_command.specs.declared.words.Request.TheVariants as request
use Rattle.casreg_command.proofs.Along.{ran_over}
use Rattle.casreg_command.proofs.Opened.{begins_over, begins_idle, opened_as}
use Rattle.casreg_command.proofs.Written.{wrote_nothing, wrote_by}
use Rattle.casreg_command.proofs.cluster.start_script.Goals as goal

pub open_rack-requires-clause-count : goal.open_rack-requires-clause-count
open_rack-requires-clause-count g c = ap (λ (l : List ℕ). length l) c.first_members-members.ensures ∙ (length-range_with_len 1 c.args.options.acceptors ∙ sym c.config_of.ensures.acceptors)

pub run_script-requires-clause-idle : goal.run_script-requires-clause-idle
run_script-requires-clause-idle g c = begins_idle (begins_over _ _ _ _ _ _ _ c.in-Ok.ensures.opened)

pub returns-in-Ok-clause-wrote : goal.returns-in-Ok-clause-wrote
returns-in-Ok-clause-wrote g c harms harms_then =
    wrote_by (stored g.D.Disk) (rack_meaning g.D.Disk) (request.Script c.args.options) (request.Script c.args.options) _ _ refl
    (ran_over c.args.options c.in-Ok.store.world (λ tells. (tells, tells))
    (opened_as _ _ _ _ _ _ _ _ _ _ c.config_of.ensures.acceptors c.config_of.ensures.proposers c.first_members-members.ensures c.in-Ok.ensures.opened)
    c.run_script.ensures.ran)

pub returns-in-Err-clause-wrote : goal.returns-in-Err-clause-wrote
returns-in-Err-clause-wrote g c harms harms_then =
    wrote_nothing (stored g.D.Disk) (rack_meaning g.D.Disk) (request.Script c.args.options) _ _
    (not_opened c.in-Err.fault tt
    (subst (λ (l : List ℕ). IsWhyClosed (rack_meaning g.D.Disk) l c.args.rack c.in-Err.rack c.in-Err.fault) c.first_members-members.ensures c.in-Err.ensures.fault)
    (λ tells. subst (λ (l : List ℕ). StopsWithinOpening (rack_meaning g.D.Disk) l c.args.rack c.in-Err.rack) c.first_members-members.ensures (c.in-Err.ensures.stops tells))
    c.from.ensures) refl
