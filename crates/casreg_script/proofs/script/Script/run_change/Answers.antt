use Rattle.std.proofs.Common.{ℕ, slice_set, slice_index_or, ap, subst, arith}
use Rattle.cas_model.specs.View.{meaning}
use Rattle.casreg_script.specs.Frames.Conditions.{Ruled}
use Rattle.casreg_script.specs.Script.{RunsChange, Runs, nowhere}
use Rattle.casreg_script.specs.Stage.{Stage}
use Rattle.casreg_script.proofs.Answering.{change_runs, change_stage}
use Rattle.casreg_script.proofs.Stages.{stage_of}
use Rattle.casreg_script.proofs.script.Script.run_change.Goals as goal

pub invariant_of-self : goal.invariant_of-self
invariant_of-self g c =
    change_stage (meaning g.S.Shelf g.V.Disk) c.self.inside.world c.change.new.world c.self.inside.network c.change.new.network c.self.inside.halts _ c.self.inside.tries c.self.inside.proposers c.args.asked.now.caller c.args.asked.now.key.now c.args.asked.now.program
    (slice_index_or c.self.inside.halts c.from.result nowhere) c.change.new.halt c.change.result c.self.invariant c.change.ensures.last_proposer c.change.ensures.idle c.change.ensures.change

pub returns-clause-runs : goal.returns-clause-runs
returns-clause-runs g c state at =
    subst (λ (n : ℕ). Runs (RunsChange (meaning g.S.Shelf g.V.Disk) n state (record { caller = c.args.asked.now.caller; key = c.args.asked.now.key.now; program = c.args.asked.now.program }) c.change.result)
    (stage_of c.change.new.world c.change.new.network (slice_set c.self.inside.halts c.from.result c.change.new.halt) c.self.inside.tries)) (ap (λ (v : Stage _ _). v.tries) c.self.view_is)
    (change_runs (meaning g.S.Shelf g.V.Disk) c.self.inside.world c.change.new.world c.self.inside.network c.change.new.network c.self.inside.halts c.self.inside.tries c.args.self.now state c.from.result
    (record { caller = c.args.asked.now.caller; key = c.args.asked.now.key.now; program = c.args.asked.now.program }) c.change.new.halt c.change.result c.self.view_is at c.from.ensures
    (omega (arith, c.requires, ap (λ (v : Stage _ _). v.world.last_proposer) c.self.view_is, c.self.invariant.known, c.self.invariant.few, c.self.ranges)) (c.change.ensures.change (Ruled state.rules)))
