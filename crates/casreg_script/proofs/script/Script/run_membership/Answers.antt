use Rattle.std.proofs.Common.{ℕ, slice_set, slice_index_or, ap, subst, ◌∙◌, arith}
use Rattle.std.proofs.lemmas.Result.{IfOk-weaker}
use Rattle.cas_model.specs.View.{meaning}
use Rattle.cas_world.specs.Eras.Plans.{asked_of}
use Rattle.casreg_script.specs.Eras.Membership.{ChangesMembers}
use Rattle.casreg_script.specs.Frames.Conditions.{Ruled}
use Rattle.casreg_script.specs.Frames.Network.{Through}
use Rattle.casreg_script.specs.Script.{RunsMembership, Runs, nowhere}
use Rattle.casreg_script.specs.Stage.{Stage}
use Rattle.casreg_script.proofs.Answering.{membership_runs}
use Rattle.casreg_script.proofs.Calls.Keeping.{all_idle}
use Rattle.casreg_script.proofs.Frames.Ruled.{ruled_after, membership_stay}
use Rattle.casreg_script.proofs.Stages.{stage_of}
use Rattle.casreg_script.proofs.script.Script.run_membership.Goals as goal

pub invariant_of-self : goal.invariant_of-self
invariant_of-self g c = record {
  known = c.change_members.ensures.idle.last_proposer ∙ c.self.invariant.known;
  few = c.self.invariant.few;
  some = c.self.invariant.some;
  idle = all_idle c.self.inside.world c.change_members.new.world c.change_members.ensures.idle c.self.invariant.idle;
  quiet = c.change_members.ensures.quiet;
  ruled = (c.self.invariant.ruled.0, ruled_after c.change_members.result c.self.inside.network c.change_members.new.network (λ a by next. ChangesMembers (meaning g.S.Shelf g.V.Disk) c.self.inside.tries by (asked_of c.args.target.now) (slice_index_or c.self.inside.halts 0 nowhere) c.self.inside.world a next c.change_members.new.halt c.change_members.new.world) (λ a by next. membership_stay (meaning g.S.Shelf g.V.Disk) c.self.inside.tries by next (asked_of c.args.target.now) (slice_index_or c.self.inside.halts 0 nowhere) c.change_members.new.halt c.self.inside.world c.change_members.new.world a) (λ same. same.1) c.change_members.ensures.changes c.change_members.ensures.err c.self.invariant.ruled.0 c.self.invariant.ruled.1);
}

pub returns-clause-runs : goal.returns-clause-runs
returns-clause-runs g c state at =
    IfOk-weaker c.change_members.result (λ a. Through c.self.inside.network c.change_members.new.network (λ by next. ChangesMembers (meaning g.S.Shelf g.V.Disk) c.self.inside.tries by (asked_of c.args.target.now) (slice_index_or c.self.inside.halts 0 nowhere) c.self.inside.world a next c.change_members.new.halt c.change_members.new.world))
    (λ a. Runs (RunsMembership (meaning g.S.Shelf g.V.Disk) c.args.self.now.tries state (asked_of c.args.target.now) a) (stage_of c.change_members.new.world c.change_members.new.network (slice_set c.self.inside.halts 0 c.change_members.new.halt) c.self.inside.tries))
    (λ a h. subst (λ (n : ℕ). Runs (RunsMembership (meaning g.S.Shelf g.V.Disk) n state (asked_of c.args.target.now) a) (stage_of c.change_members.new.world c.change_members.new.network (slice_set c.self.inside.halts 0 c.change_members.new.halt) c.self.inside.tries)) (ap (λ (v : Stage _ _). v.tries) c.self.view_is)
    (membership_runs (meaning g.S.Shelf g.V.Disk) c.self.inside.world c.change_members.new.world c.self.inside.network c.change_members.new.network c.self.inside.halts c.self.inside.tries c.args.self.now state (asked_of c.args.target.now) c.change_members.new.halt a c.self.view_is at
    (omega (arith, c.self.ranges)) (h (Ruled state.rules))))
    c.change_members.ensures.changes
