use Rattle.std.proofs.Common.{ℕ, slice_set, slice_index_or, ap, subst, ◌∙◌, arith}
use Rattle.std.proofs.lemmas.Result.{IfOk-weaker}
use Rattle.cas_model.specs.View.{meaning}
use Rattle.casreg_script.specs.Collection.Collections.{IsCollection}
use Rattle.casreg_script.specs.Frames.Conditions.{Ruled}
use Rattle.casreg_script.specs.Frames.Network.{Through}
use Rattle.casreg_script.specs.Script.{RunsCollection, Runs, nowhere}
use Rattle.casreg_script.specs.Stage.{Stage}
use Rattle.casreg_script.proofs.Answering.{collection_runs}
use Rattle.casreg_script.proofs.Calls.Keeping.{all_idle}
use Rattle.casreg_script.proofs.Frames.Ruled.{ruled_after, collection_stay}
use Rattle.casreg_script.proofs.Stages.{stage_of}
use Rattle.casreg_script.proofs.script.Script.run_collection.Goals as goal

pub invariant_of-self : goal.invariant_of-self
invariant_of-self g c = record {
  known = c.collect.ensures.idle.last_proposer ∙ c.self.invariant.known;
  few = c.self.invariant.few;
  some = c.self.invariant.some;
  idle = all_idle c.self.inside.world c.collect.new.world c.collect.ensures.idle c.self.invariant.idle;
  quiet = c.collect.ensures.quiet;
  ruled = (c.self.invariant.ruled.0, ruled_after c.collect.result c.self.inside.network c.collect.new.network (λ a by next. IsCollection (meaning g.S.Shelf g.V.Disk) c.self.inside.tries by c.args.key.now (slice_index_or c.self.inside.halts 0 nowhere) c.self.inside.world a next c.collect.new.halt c.collect.new.world) (λ a by next. collection_stay (meaning g.S.Shelf g.V.Disk) c.self.inside.tries by next c.args.key.now (slice_index_or c.self.inside.halts 0 nowhere) c.collect.new.halt c.self.inside.world c.collect.new.world a) (λ same. same.1) c.collect.ensures.collects c.collect.ensures.err c.self.invariant.ruled.0 c.self.invariant.ruled.1);
}

pub returns-clause-runs : goal.returns-clause-runs
returns-clause-runs g c state at =
    IfOk-weaker c.collect.result (λ a. Through c.self.inside.network c.collect.new.network (λ by next. IsCollection (meaning g.S.Shelf g.V.Disk) c.self.inside.tries by c.args.key.now (slice_index_or c.self.inside.halts 0 nowhere) c.self.inside.world a next c.collect.new.halt c.collect.new.world))
    (λ a. Runs (RunsCollection (meaning g.S.Shelf g.V.Disk) c.args.self.now.tries state c.args.key.now a) (stage_of c.collect.new.world c.collect.new.network (slice_set c.self.inside.halts 0 c.collect.new.halt) c.self.inside.tries))
    (λ a h. subst (λ (n : ℕ). Runs (RunsCollection (meaning g.S.Shelf g.V.Disk) n state c.args.key.now a) (stage_of c.collect.new.world c.collect.new.network (slice_set c.self.inside.halts 0 c.collect.new.halt) c.self.inside.tries)) (ap (λ (v : Stage _ _). v.tries) c.self.view_is)
    (collection_runs (meaning g.S.Shelf g.V.Disk) c.self.inside.world c.collect.new.world c.self.inside.network c.collect.new.network c.self.inside.halts c.self.inside.tries c.args.self.now state c.args.key.now c.collect.new.halt a c.self.view_is at
    (omega (arith, c.self.ranges)) (h (Ruled state.rules))))
    c.collect.ensures.collects
