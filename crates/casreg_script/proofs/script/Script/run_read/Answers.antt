use Rattle.std.proofs.Common.{◌∙◌}
use Rattle.std.proofs.lemmas.Result.{IfOk-weaker}
use Rattle.cas_model.specs.View.{meaning}
use Rattle.casreg_script.specs.Exchanges.Reads.{IsReadLine}
use Rattle.casreg_script.specs.Frames.Conditions.{Ruled}
use Rattle.casreg_script.specs.Frames.Network.{Through}
use Rattle.casreg_script.specs.Script.{RunsRead, Runs}
use Rattle.casreg_script.proofs.Answering.{read_runs}
use Rattle.casreg_script.proofs.Calls.Keeping.{still_idle}
use Rattle.casreg_script.proofs.Frames.Ruled.{ruled_after, read_stay}
use Rattle.casreg_script.proofs.Stages.{stage_of}
use Rattle.casreg_script.proofs.script.Script.run_read.Goals as goal

pub invariant_of-self : goal.invariant_of-self
invariant_of-self g c = record {
  known = c.read.ensures.calls.last_proposer ∙ c.self.invariant.known;
  few = c.self.invariant.few;
  some = c.self.invariant.some;
  idle = still_idle c.self.inside.world c.read.new.world c.read.ensures.calls.last_proposer c.read.ensures.calls.callers c.self.invariant.idle;
  quiet = c.read.ensures.quiet;
  ruled = (c.self.invariant.ruled.0, ruled_after c.read.result c.self.inside.network c.read.new.network (λ a by next. IsReadLine (meaning g.S.Shelf g.V.Disk) by c.args.key.now c.self.inside.world a next c.read.new.world) (λ a by next. read_stay (meaning g.S.Shelf g.V.Disk) by next c.args.key.now c.self.inside.world c.read.new.world a) (λ same. same.1) c.read.ensures.read c.read.ensures.err c.self.invariant.ruled.0 c.self.invariant.ruled.1);
}

pub returns-clause-runs : goal.returns-clause-runs
returns-clause-runs g c state at =
    IfOk-weaker c.read.result (λ a. Through c.self.inside.network c.read.new.network (λ by next. IsReadLine (meaning g.S.Shelf g.V.Disk) by c.args.key.now c.self.inside.world a next c.read.new.world))
    (λ a. Runs (RunsRead (meaning g.S.Shelf g.V.Disk) state c.args.key.now a) (stage_of c.read.new.world c.read.new.network c.self.inside.halts c.self.inside.tries))
    (λ a h. read_runs (meaning g.S.Shelf g.V.Disk) c.self.inside.world c.read.new.world c.self.inside.network c.read.new.network c.self.inside.halts c.self.inside.tries c.args.self.now state c.args.key.now a c.self.view_is at (h (Ruled state.rules)))
    c.read.ensures.read
