use Rattle.std.proofs.Common.{◌≡◌, List, ◌∙◌, ℕ, map, refl, slice_set, sym, ap, subst, inl, inr, arith}
use Rattle.cas_base.proofs.Bools.{true_or_false}
use Rattle.cas_vault.specs.Vault.{disk_of}
use Rattle.cas_model.specs.Step as step
use Rattle.cas_model.specs.Step.{StepRestartProposer}
use Rattle.cas_model.specs.View.{View, IsAt, meaning, disk_meaning}
use Rattle.cas_model.proofs.Safety.Parts.{at_low}
use Rattle.cas_model.proofs.Safety.Steps.{steps_are_safe}
use Rattle.cas_world.specs.World.{view_of, caller_view}
use Rattle.cas_model.specs.Council.{reserved_by}
use Rattle.cas_model.specs.Eras.Course.{era_shown}
use Rattle.cas_model.specs.View.{era_at}
use Rattle.cas_proposer.specs.Desk.{DeskView}
use Rattle.cas_vault.specs.Vault.{kept_of}
use Rattle.cas_world_calls.specs.Council.{council_view}
use Rattle.cas_world.proofs.Parts.{set_same}
use Rattle.cas_world.proofs.Stops.Stops.{on_err_not, on_err_of, on_ok_of, on_ok_so, restarts_vault, lasts_then, desk_restarted, desk_tells, desk_is_up, desk_stays_down, copies_still, same_round}
use Rattle.cas_world.proofs.Parts.{at_place, left_at, seen_from, remembered_then}
use Rattle.cas_world.proofs.world.World.restart_proposer.Goals as goal

-- ---- it was up
pub invariant_of-self : goal.invariant_of-self
invariant_of-self g c =
    let by = (let up = sym c.is_down-was_down.ensures ∙ c.if-not-was_down.true in
    subst (λ (i : ℕ). StepRestartProposer (meaning g.S.Shelf g.V.Disk) (view_of c.self.inside.setup.proposers c.self.inside.council c.self.inside.acceptors.items c.self.inside.desks.items c.self.inside.callers.items c.self.inside.flow c.self.inside.record) c.args.proposer (view_of c.self.inside.setup.proposers c.self.inside.council c.self.inside.acceptors.items (slice_set c.self.inside.desks.items i c.restart-restarted.new.self) c.self.inside.callers.items c.self.inside.flow c.self.inside.record)) (sym c.from.ensures)
    (step.was_up_already c.index_mut-desk.result.now (at_place c.self.inside.desks.items c.from.result c.args.proposer c.index_mut-desk.result.now c.from.ensures (omega (arith, c.self.invariant.safe.sound.desks, c.requires, ap (λ (v : View _ _). v.last_proposer) c.self.view_is)) c.index_mut-desk.ensures.value) up
    (ap (λ (l : List (DeskView _)). record (view_of c.self.inside.setup.proposers c.self.inside.council c.self.inside.acceptors.items c.self.inside.desks.items c.self.inside.callers.items c.self.inside.flow c.self.inside.record) { desks = l }) (ap (λ (d : DeskView _). slice_set c.self.inside.desks.items c.args.proposer d) (c.restart-restarted.ensures.up up).1 ∙ set_same c.self.inside.desks.items c.args.proposer c.index_mut-desk.result.now (at_place c.self.inside.desks.items c.from.result c.args.proposer c.index_mut-desk.result.now c.from.ensures (omega (arith, c.self.invariant.safe.sound.desks, c.requires, ap (λ (v : View _ _). v.last_proposer) c.self.view_is)) c.index_mut-desk.ensures.value))))) in record {
      safe = steps_are_safe (meaning g.S.Shelf g.V.Disk) (view_of c.self.inside.setup.proposers c.self.inside.council c.self.inside.acceptors.items c.self.inside.desks.items c.self.inside.callers.items c.self.inside.flow c.self.inside.record) (step.RestartProposer c.args.proposer) (view_of c.self.inside.setup.proposers c.self.inside.council c.self.inside.acceptors.items (slice_set c.self.inside.desks.items c.from.result c.restart-restarted.new.self) c.self.inside.callers.items c.self.inside.flow c.self.inside.record) c.self.invariant.safe by;
      remembered = remembered_then (meaning g.S.Shelf g.V.Disk) (step.RestartProposer c.args.proposer) by c.self.invariant.remembered;
      room = c.self.invariant.room;
      copies = (copies_still c.self.inside.desks.items c.self.inside.callers.items c.from.result c.index_mut-desk.result.now c.restart-restarted.new.self (subst (λ (i : ℕ). IsAt c.self.inside.desks.items i c.index_mut-desk.result.now) (sym c.from.ensures) (at_place c.self.inside.desks.items c.from.result c.args.proposer c.index_mut-desk.result.now c.from.ensures (omega (arith, c.self.invariant.safe.sound.desks, c.requires, ap (λ (v : View _ _). v.last_proposer) c.self.view_is)) c.index_mut-desk.ensures.value)) (same_round c.index_mut-desk.result.now c.restart-restarted.new.self c.restart-restarted.result c.restart-restarted.ensures.desk c.restart-restarted.ensures.refused) c.self.invariant.copies);
    }

pub returns-then-not-was_down-clause-step : goal.returns-then-not-was_down-clause-step
returns-then-not-was_down-clause-step g c = seen_from (meaning g.S.Shelf g.V.Disk) (step.RestartProposer c.args.proposer) (view_of c.self.inside.setup.proposers c.self.inside.council c.self.inside.acceptors.items (slice_set c.self.inside.desks.items c.from.result c.restart-restarted.new.self) c.self.inside.callers.items c.self.inside.flow c.self.inside.record) c.self.view_is (let up = sym c.is_down-was_down.ensures ∙ c.if-not-was_down.true in
    subst (λ (i : ℕ). StepRestartProposer (meaning g.S.Shelf g.V.Disk) (view_of c.self.inside.setup.proposers c.self.inside.council c.self.inside.acceptors.items c.self.inside.desks.items c.self.inside.callers.items c.self.inside.flow c.self.inside.record) c.args.proposer (view_of c.self.inside.setup.proposers c.self.inside.council c.self.inside.acceptors.items (slice_set c.self.inside.desks.items i c.restart-restarted.new.self) c.self.inside.callers.items c.self.inside.flow c.self.inside.record)) (sym c.from.ensures)
    (step.was_up_already c.index_mut-desk.result.now (at_place c.self.inside.desks.items c.from.result c.args.proposer c.index_mut-desk.result.now c.from.ensures (omega (arith, c.self.invariant.safe.sound.desks, c.requires, ap (λ (v : View _ _). v.last_proposer) c.self.view_is)) c.index_mut-desk.ensures.value) up
    (ap (λ (l : List (DeskView _)). record (view_of c.self.inside.setup.proposers c.self.inside.council c.self.inside.acceptors.items c.self.inside.desks.items c.self.inside.callers.items c.self.inside.flow c.self.inside.record) { desks = l }) (ap (λ (d : DeskView _). slice_set c.self.inside.desks.items c.args.proposer d) (c.restart-restarted.ensures.up up).1 ∙ set_same c.self.inside.desks.items c.args.proposer c.index_mut-desk.result.now (at_place c.self.inside.desks.items c.from.result c.args.proposer c.index_mut-desk.result.now c.from.ensures (omega (arith, c.self.invariant.safe.sound.desks, c.requires, ap (λ (v : View _ _). v.last_proposer) c.self.view_is)) c.index_mut-desk.ensures.value)))))

pub returns-then-not-was_down-clause-tells : goal.returns-then-not-was_down-clause-tells
returns-then-not-was_down-clause-tells g c was now at_was at_now =
    let by = c.restart-restarted.ensures in
    let desk = c.index_mut-desk.result.now in
    desk_tells (disk_meaning g.V.Disk) c.self.inside.desks.items c.from.result c.args.proposer desk c.restart-restarted.new.self was now c.restart-restarted.result c.from.ensures (at_place c.self.inside.desks.items c.from.result c.args.proposer c.index_mut-desk.result.now c.from.ensures (omega (arith, c.self.invariant.safe.sound.desks, c.requires, ap (λ (v : View _ _). v.last_proposer) c.self.view_is)) c.index_mut-desk.ensures.value)
    (subst (λ (v : View _ _). IsAt v.desks c.args.proposer was) (sym c.self.view_is) at_was) at_now
    (record {
      up = desk_is_up desk c.restart-restarted.new.self c.restart-restarted.result by.desk by.up;
      down = desk_stays_down desk c.restart-restarted.new.self c.restart-restarted.result by.refused by.up;
      cause = by.cause;
      foreign = λ tells at is. elim (true_or_false desk.down) [
        | inl down ↦ (g.V.Disk.seen (disk_of c.restart-restarted.new.self.vault), by.image tells down, by.foreign tells at is)
        | inr up ↦ absurd (cc ((by.up up).0, is))
      ];
      not_spent = by.not_spent;
    })

-- ---- it stays down
pub invariant_of-self-then-is_err : goal.invariant_of-self-then-is_err
invariant_of-self-then-is_err g c =
    let by = (let its = (at_low (map caller_view c.self.inside.callers.items) c.args.proposer (omega (arith, c.self.invariant.safe.sound.callers, c.requires, ap (λ (v : View _ _). v.last_proposer) c.self.view_is))) in
    subst (λ (i : ℕ). StepRestartProposer (meaning g.S.Shelf g.V.Disk) (view_of c.self.inside.setup.proposers c.self.inside.council c.self.inside.acceptors.items c.self.inside.desks.items c.self.inside.callers.items c.self.inside.flow c.self.inside.record) c.args.proposer (view_of c.self.inside.setup.proposers c.self.inside.council c.self.inside.acceptors.items (slice_set c.self.inside.desks.items i c.restart-restarted.new.self) c.self.inside.callers.items c.self.inside.flow c.self.inside.record)) (sym c.from.ensures)
    (desk_restarted (meaning g.S.Shelf g.V.Disk) (view_of c.self.inside.setup.proposers c.self.inside.council c.self.inside.acceptors.items c.self.inside.desks.items c.self.inside.callers.items c.self.inside.flow c.self.inside.record) c.args.proposer c.index_mut-desk.result.now c.restart-restarted.new.self its.0 c.self.inside.council.eras.0 c.restart-restarted.result (at_place c.self.inside.desks.items c.from.result c.args.proposer c.index_mut-desk.result.now c.from.ensures (omega (arith, c.self.invariant.safe.sound.desks, c.requires, ap (λ (v : View _ _). v.last_proposer) c.self.view_is)) c.index_mut-desk.ensures.value) its.1 (sym c.is_down-was_down.ensures ∙ c.if-not-was_down.false) c.restart-restarted.ensures.desk c.restart-restarted.ensures.refused
    (restarts_vault (disk_meaning g.V.Disk) c.index_mut-desk.result.now.vault c.restart-restarted.new.self.vault c.restart-restarted.result (g.V.Disk.seen (disk_of c.restart-restarted.new.self.vault)) (λ tells. c.restart-restarted.ensures.image tells (sym c.is_down-was_down.ensures ∙ c.if-not-was_down.false)) (λ tells. c.restart-restarted.ensures.reopened tells (sym c.is_down-was_down.ensures ∙ c.if-not-was_down.false)) (c.restart-restarted.ensures.counter (sym c.is_down-was_down.ensures ∙ c.if-not-was_down.false)) (lasts_then (disk_meaning g.V.Disk) g.V.Disk.seen c.index_mut-desk.result.now c.restart-restarted.new.self c.restart-restarted.result c.restart-restarted.ensures.desk c.restart-restarted.ensures.stands) c.restart-restarted.ensures.same_vault (λ tells image may. left_at g.V.Disk.moment g.V.Disk.left_since g.V.Disk.may_leave _ _ _ (λ t left later may_now. g.met.V.Disk.counts_now _ t left tells later may_now) (c.restart-restarted.ensures.any_moment tells (sym c.is_down-was_down.ensures ∙ c.if-not-was_down.false)) image may) c.restart-restarted.ensures.still_past c.restart-restarted.ensures.cause.never_falls)
    (on_ok_of c.restart-restarted.result (c.self.inside.council.eras.0 ≡ slice_set c.self.inside.council.eras.0 c.args.proposer (era_shown (council_view c.self.inside.council).plan (era_at (view_of c.self.inside.setup.proposers c.self.inside.council c.self.inside.acceptors.items c.self.inside.desks.items c.self.inside.callers.items c.self.inside.flow c.self.inside.record) c.args.proposer) (kept_of c.restart-restarted.new.self.vault).era)) (sym c.is_err.ensures.value ∙ c.if-is_err.true)) (on_err_of c.restart-restarted.result (c.self.inside.council.eras.0 ≡ c.self.inside.council.eras.0) refl))) in record {
      safe = steps_are_safe (meaning g.S.Shelf g.V.Disk) (view_of c.self.inside.setup.proposers c.self.inside.council c.self.inside.acceptors.items c.self.inside.desks.items c.self.inside.callers.items c.self.inside.flow c.self.inside.record) (step.RestartProposer c.args.proposer) (view_of c.self.inside.setup.proposers c.self.inside.council c.self.inside.acceptors.items (slice_set c.self.inside.desks.items c.from.result c.restart-restarted.new.self) c.self.inside.callers.items c.self.inside.flow c.self.inside.record) c.self.invariant.safe by;
      remembered = remembered_then (meaning g.S.Shelf g.V.Disk) (step.RestartProposer c.args.proposer) by c.self.invariant.remembered;
      room = c.self.invariant.room;
      copies = (copies_still c.self.inside.desks.items c.self.inside.callers.items c.from.result c.index_mut-desk.result.now c.restart-restarted.new.self (subst (λ (i : ℕ). IsAt c.self.inside.desks.items i c.index_mut-desk.result.now) (sym c.from.ensures) (at_place c.self.inside.desks.items c.from.result c.args.proposer c.index_mut-desk.result.now c.from.ensures (omega (arith, c.self.invariant.safe.sound.desks, c.requires, ap (λ (v : View _ _). v.last_proposer) c.self.view_is)) c.index_mut-desk.ensures.value)) (same_round c.index_mut-desk.result.now c.restart-restarted.new.self c.restart-restarted.result c.restart-restarted.ensures.desk c.restart-restarted.ensures.refused) c.self.invariant.copies);
    }

pub returns-then-is_err-clause-step : goal.returns-then-is_err-clause-step
returns-then-is_err-clause-step g c = seen_from (meaning g.S.Shelf g.V.Disk) (step.RestartProposer c.args.proposer) (view_of c.self.inside.setup.proposers c.self.inside.council c.self.inside.acceptors.items (slice_set c.self.inside.desks.items c.from.result c.restart-restarted.new.self) c.self.inside.callers.items c.self.inside.flow c.self.inside.record) c.self.view_is (let its = (at_low (map caller_view c.self.inside.callers.items) c.args.proposer (omega (arith, c.self.invariant.safe.sound.callers, c.requires, ap (λ (v : View _ _). v.last_proposer) c.self.view_is))) in
    subst (λ (i : ℕ). StepRestartProposer (meaning g.S.Shelf g.V.Disk) (view_of c.self.inside.setup.proposers c.self.inside.council c.self.inside.acceptors.items c.self.inside.desks.items c.self.inside.callers.items c.self.inside.flow c.self.inside.record) c.args.proposer (view_of c.self.inside.setup.proposers c.self.inside.council c.self.inside.acceptors.items (slice_set c.self.inside.desks.items i c.restart-restarted.new.self) c.self.inside.callers.items c.self.inside.flow c.self.inside.record)) (sym c.from.ensures)
    (desk_restarted (meaning g.S.Shelf g.V.Disk) (view_of c.self.inside.setup.proposers c.self.inside.council c.self.inside.acceptors.items c.self.inside.desks.items c.self.inside.callers.items c.self.inside.flow c.self.inside.record) c.args.proposer c.index_mut-desk.result.now c.restart-restarted.new.self its.0 c.self.inside.council.eras.0 c.restart-restarted.result (at_place c.self.inside.desks.items c.from.result c.args.proposer c.index_mut-desk.result.now c.from.ensures (omega (arith, c.self.invariant.safe.sound.desks, c.requires, ap (λ (v : View _ _). v.last_proposer) c.self.view_is)) c.index_mut-desk.ensures.value) its.1 (sym c.is_down-was_down.ensures ∙ c.if-not-was_down.false) c.restart-restarted.ensures.desk c.restart-restarted.ensures.refused
    (restarts_vault (disk_meaning g.V.Disk) c.index_mut-desk.result.now.vault c.restart-restarted.new.self.vault c.restart-restarted.result (g.V.Disk.seen (disk_of c.restart-restarted.new.self.vault)) (λ tells. c.restart-restarted.ensures.image tells (sym c.is_down-was_down.ensures ∙ c.if-not-was_down.false)) (λ tells. c.restart-restarted.ensures.reopened tells (sym c.is_down-was_down.ensures ∙ c.if-not-was_down.false)) (c.restart-restarted.ensures.counter (sym c.is_down-was_down.ensures ∙ c.if-not-was_down.false)) (lasts_then (disk_meaning g.V.Disk) g.V.Disk.seen c.index_mut-desk.result.now c.restart-restarted.new.self c.restart-restarted.result c.restart-restarted.ensures.desk c.restart-restarted.ensures.stands) c.restart-restarted.ensures.same_vault (λ tells image may. left_at g.V.Disk.moment g.V.Disk.left_since g.V.Disk.may_leave _ _ _ (λ t left later may_now. g.met.V.Disk.counts_now _ t left tells later may_now) (c.restart-restarted.ensures.any_moment tells (sym c.is_down-was_down.ensures ∙ c.if-not-was_down.false)) image may) c.restart-restarted.ensures.still_past c.restart-restarted.ensures.cause.never_falls)
    (on_ok_of c.restart-restarted.result (c.self.inside.council.eras.0 ≡ slice_set c.self.inside.council.eras.0 c.args.proposer (era_shown (council_view c.self.inside.council).plan (era_at (view_of c.self.inside.setup.proposers c.self.inside.council c.self.inside.acceptors.items c.self.inside.desks.items c.self.inside.callers.items c.self.inside.flow c.self.inside.record) c.args.proposer) (kept_of c.restart-restarted.new.self.vault).era)) (sym c.is_err.ensures.value ∙ c.if-is_err.true)) (on_err_of c.restart-restarted.result (c.self.inside.council.eras.0 ≡ c.self.inside.council.eras.0) refl)))

pub returns-then-is_err-clause-tells : goal.returns-then-is_err-clause-tells
returns-then-is_err-clause-tells g c was now at_was at_now =
    let by = c.restart-restarted.ensures in
    let desk = c.index_mut-desk.result.now in
    desk_tells (disk_meaning g.V.Disk) c.self.inside.desks.items c.from.result c.args.proposer desk c.restart-restarted.new.self was now c.restart-restarted.result c.from.ensures (at_place c.self.inside.desks.items c.from.result c.args.proposer c.index_mut-desk.result.now c.from.ensures (omega (arith, c.self.invariant.safe.sound.desks, c.requires, ap (λ (v : View _ _). v.last_proposer) c.self.view_is)) c.index_mut-desk.ensures.value)
    (subst (λ (v : View _ _). IsAt v.desks c.args.proposer was) (sym c.self.view_is) at_was) at_now
    (record {
      up = desk_is_up desk c.restart-restarted.new.self c.restart-restarted.result by.desk by.up;
      down = desk_stays_down desk c.restart-restarted.new.self c.restart-restarted.result by.refused by.up;
      cause = by.cause;
      foreign = λ tells at is. elim (true_or_false desk.down) [
        | inl down ↦ (g.V.Disk.seen (disk_of c.restart-restarted.new.self.vault), by.image tells down, by.foreign tells at is)
        | inr up ↦ absurd (cc ((by.up up).0, is))
      ];
      not_spent = by.not_spent;
    })

-- ---- it is up again
pub invariant_of-self-2 : goal.invariant_of-self-2
invariant_of-self-2 g c =
    let by = (let its = (at_low (map caller_view c.self.inside.callers.items) c.args.proposer (omega (arith, c.self.invariant.safe.sound.callers, c.requires, ap (λ (v : View _ _). v.last_proposer) c.self.view_is))) in
    subst (λ (i : ℕ). StepRestartProposer (meaning g.S.Shelf g.V.Disk) (view_of c.self.inside.setup.proposers c.self.inside.council c.self.inside.acceptors.items c.self.inside.desks.items c.self.inside.callers.items c.self.inside.flow c.self.inside.record) c.args.proposer (view_of c.self.inside.setup.proposers c.show.new.self c.self.inside.acceptors.items (slice_set c.self.inside.desks.items i c.restart-restarted.new.self) c.self.inside.callers.items c.self.inside.flow c.self.inside.record)) (sym c.from.ensures)
    (subst (StepRestartProposer (meaning g.S.Shelf g.V.Disk) (view_of c.self.inside.setup.proposers c.self.inside.council c.self.inside.acceptors.items c.self.inside.desks.items c.self.inside.callers.items c.self.inside.flow c.self.inside.record) c.args.proposer) (λ i. record (view_of c.self.inside.setup.proposers c.show.new.self c.self.inside.acceptors.items (slice_set c.self.inside.desks.items c.args.proposer c.restart-restarted.new.self) c.self.inside.callers.items c.self.inside.flow c.self.inside.record) { council = sym c.show.ensures.council i })
    (desk_restarted (meaning g.S.Shelf g.V.Disk) (view_of c.self.inside.setup.proposers c.self.inside.council c.self.inside.acceptors.items c.self.inside.desks.items c.self.inside.callers.items c.self.inside.flow c.self.inside.record) c.args.proposer c.index_mut-desk.result.now c.restart-restarted.new.self its.0 c.show.new.self.eras.0 c.restart-restarted.result (at_place c.self.inside.desks.items c.from.result c.args.proposer c.index_mut-desk.result.now c.from.ensures (omega (arith, c.self.invariant.safe.sound.desks, c.requires, ap (λ (v : View _ _). v.last_proposer) c.self.view_is)) c.index_mut-desk.ensures.value) its.1 (sym c.is_down-was_down.ensures ∙ c.if-not-was_down.false) c.restart-restarted.ensures.desk c.restart-restarted.ensures.refused
    (restarts_vault (disk_meaning g.V.Disk) c.index_mut-desk.result.now.vault c.restart-restarted.new.self.vault c.restart-restarted.result (g.V.Disk.seen (disk_of c.restart-restarted.new.self.vault)) (λ tells. c.restart-restarted.ensures.image tells (sym c.is_down-was_down.ensures ∙ c.if-not-was_down.false)) (λ tells. c.restart-restarted.ensures.reopened tells (sym c.is_down-was_down.ensures ∙ c.if-not-was_down.false)) (c.restart-restarted.ensures.counter (sym c.is_down-was_down.ensures ∙ c.if-not-was_down.false)) (lasts_then (disk_meaning g.V.Disk) g.V.Disk.seen c.index_mut-desk.result.now c.restart-restarted.new.self c.restart-restarted.result c.restart-restarted.ensures.desk c.restart-restarted.ensures.stands) c.restart-restarted.ensures.same_vault (λ tells image may. left_at g.V.Disk.moment g.V.Disk.left_since g.V.Disk.may_leave _ _ _ (λ t left later may_now. g.met.V.Disk.counts_now _ t left tells later may_now) (c.restart-restarted.ensures.any_moment tells (sym c.is_down-was_down.ensures ∙ c.if-not-was_down.false)) image may) c.restart-restarted.ensures.still_past c.restart-restarted.ensures.cause.never_falls)
    (on_ok_so c.restart-restarted.result (c.show.new.self.eras.0 ≡ slice_set c.self.inside.council.eras.0 c.args.proposer (era_shown (council_view c.self.inside.council).plan (era_at (view_of c.self.inside.setup.proposers c.self.inside.council c.self.inside.acceptors.items c.self.inside.desks.items c.self.inside.callers.items c.self.inside.flow c.self.inside.record) c.args.proposer) (kept_of c.restart-restarted.new.self.vault).era))
    (c.show.ensures.eras ∙ ap (λ (n : ℕ). slice_set c.self.inside.council.eras.0 c.args.proposer (era_shown (council_view c.self.inside.council).plan (era_at (view_of c.self.inside.setup.proposers c.self.inside.council c.self.inside.acceptors.items c.self.inside.desks.items c.self.inside.callers.items c.self.inside.flow c.self.inside.record) c.args.proposer) n)) c.era-number.ensures))
    (on_err_not c.restart-restarted.result (c.show.new.self.eras.0 ≡ c.self.inside.council.eras.0) (sym c.is_err.ensures.value ∙ c.if-is_err.false))))) in record {
      safe = steps_are_safe (meaning g.S.Shelf g.V.Disk) (view_of c.self.inside.setup.proposers c.self.inside.council c.self.inside.acceptors.items c.self.inside.desks.items c.self.inside.callers.items c.self.inside.flow c.self.inside.record) (step.RestartProposer c.args.proposer) (view_of c.self.inside.setup.proposers c.show.new.self c.self.inside.acceptors.items (slice_set c.self.inside.desks.items c.from.result c.restart-restarted.new.self) c.self.inside.callers.items c.self.inside.flow c.self.inside.record) c.self.invariant.safe by;
      remembered = remembered_then (meaning g.S.Shelf g.V.Disk) (step.RestartProposer c.args.proposer) by c.self.invariant.remembered;
      room = (omega (arith, c.self.invariant.room, ap reserved_by c.show.ensures.council));
      copies = (copies_still c.self.inside.desks.items c.self.inside.callers.items c.from.result c.index_mut-desk.result.now c.restart-restarted.new.self (subst (λ (i : ℕ). IsAt c.self.inside.desks.items i c.index_mut-desk.result.now) (sym c.from.ensures) (at_place c.self.inside.desks.items c.from.result c.args.proposer c.index_mut-desk.result.now c.from.ensures (omega (arith, c.self.invariant.safe.sound.desks, c.requires, ap (λ (v : View _ _). v.last_proposer) c.self.view_is)) c.index_mut-desk.ensures.value)) (same_round c.index_mut-desk.result.now c.restart-restarted.new.self c.restart-restarted.result c.restart-restarted.ensures.desk c.restart-restarted.ensures.refused) c.self.invariant.copies);
    }

pub returns-clause-step : goal.returns-clause-step
returns-clause-step g c = seen_from (meaning g.S.Shelf g.V.Disk) (step.RestartProposer c.args.proposer) (view_of c.self.inside.setup.proposers c.show.new.self c.self.inside.acceptors.items (slice_set c.self.inside.desks.items c.from.result c.restart-restarted.new.self) c.self.inside.callers.items c.self.inside.flow c.self.inside.record) c.self.view_is (let its = (at_low (map caller_view c.self.inside.callers.items) c.args.proposer (omega (arith, c.self.invariant.safe.sound.callers, c.requires, ap (λ (v : View _ _). v.last_proposer) c.self.view_is))) in
    subst (λ (i : ℕ). StepRestartProposer (meaning g.S.Shelf g.V.Disk) (view_of c.self.inside.setup.proposers c.self.inside.council c.self.inside.acceptors.items c.self.inside.desks.items c.self.inside.callers.items c.self.inside.flow c.self.inside.record) c.args.proposer (view_of c.self.inside.setup.proposers c.show.new.self c.self.inside.acceptors.items (slice_set c.self.inside.desks.items i c.restart-restarted.new.self) c.self.inside.callers.items c.self.inside.flow c.self.inside.record)) (sym c.from.ensures)
    (subst (StepRestartProposer (meaning g.S.Shelf g.V.Disk) (view_of c.self.inside.setup.proposers c.self.inside.council c.self.inside.acceptors.items c.self.inside.desks.items c.self.inside.callers.items c.self.inside.flow c.self.inside.record) c.args.proposer) (λ i. record (view_of c.self.inside.setup.proposers c.show.new.self c.self.inside.acceptors.items (slice_set c.self.inside.desks.items c.args.proposer c.restart-restarted.new.self) c.self.inside.callers.items c.self.inside.flow c.self.inside.record) { council = sym c.show.ensures.council i })
    (desk_restarted (meaning g.S.Shelf g.V.Disk) (view_of c.self.inside.setup.proposers c.self.inside.council c.self.inside.acceptors.items c.self.inside.desks.items c.self.inside.callers.items c.self.inside.flow c.self.inside.record) c.args.proposer c.index_mut-desk.result.now c.restart-restarted.new.self its.0 c.show.new.self.eras.0 c.restart-restarted.result (at_place c.self.inside.desks.items c.from.result c.args.proposer c.index_mut-desk.result.now c.from.ensures (omega (arith, c.self.invariant.safe.sound.desks, c.requires, ap (λ (v : View _ _). v.last_proposer) c.self.view_is)) c.index_mut-desk.ensures.value) its.1 (sym c.is_down-was_down.ensures ∙ c.if-not-was_down.false) c.restart-restarted.ensures.desk c.restart-restarted.ensures.refused
    (restarts_vault (disk_meaning g.V.Disk) c.index_mut-desk.result.now.vault c.restart-restarted.new.self.vault c.restart-restarted.result (g.V.Disk.seen (disk_of c.restart-restarted.new.self.vault)) (λ tells. c.restart-restarted.ensures.image tells (sym c.is_down-was_down.ensures ∙ c.if-not-was_down.false)) (λ tells. c.restart-restarted.ensures.reopened tells (sym c.is_down-was_down.ensures ∙ c.if-not-was_down.false)) (c.restart-restarted.ensures.counter (sym c.is_down-was_down.ensures ∙ c.if-not-was_down.false)) (lasts_then (disk_meaning g.V.Disk) g.V.Disk.seen c.index_mut-desk.result.now c.restart-restarted.new.self c.restart-restarted.result c.restart-restarted.ensures.desk c.restart-restarted.ensures.stands) c.restart-restarted.ensures.same_vault (λ tells image may. left_at g.V.Disk.moment g.V.Disk.left_since g.V.Disk.may_leave _ _ _ (λ t left later may_now. g.met.V.Disk.counts_now _ t left tells later may_now) (c.restart-restarted.ensures.any_moment tells (sym c.is_down-was_down.ensures ∙ c.if-not-was_down.false)) image may) c.restart-restarted.ensures.still_past c.restart-restarted.ensures.cause.never_falls)
    (on_ok_so c.restart-restarted.result (c.show.new.self.eras.0 ≡ slice_set c.self.inside.council.eras.0 c.args.proposer (era_shown (council_view c.self.inside.council).plan (era_at (view_of c.self.inside.setup.proposers c.self.inside.council c.self.inside.acceptors.items c.self.inside.desks.items c.self.inside.callers.items c.self.inside.flow c.self.inside.record) c.args.proposer) (kept_of c.restart-restarted.new.self.vault).era))
    (c.show.ensures.eras ∙ ap (λ (n : ℕ). slice_set c.self.inside.council.eras.0 c.args.proposer (era_shown (council_view c.self.inside.council).plan (era_at (view_of c.self.inside.setup.proposers c.self.inside.council c.self.inside.acceptors.items c.self.inside.desks.items c.self.inside.callers.items c.self.inside.flow c.self.inside.record) c.args.proposer) n)) c.era-number.ensures))
    (on_err_not c.restart-restarted.result (c.show.new.self.eras.0 ≡ c.self.inside.council.eras.0) (sym c.is_err.ensures.value ∙ c.if-is_err.false)))))

pub returns-clause-tells : goal.returns-clause-tells
returns-clause-tells g c was now at_was at_now =
    let by = c.restart-restarted.ensures in
    let desk = c.index_mut-desk.result.now in
    desk_tells (disk_meaning g.V.Disk) c.self.inside.desks.items c.from.result c.args.proposer desk c.restart-restarted.new.self was now c.restart-restarted.result c.from.ensures (at_place c.self.inside.desks.items c.from.result c.args.proposer c.index_mut-desk.result.now c.from.ensures (omega (arith, c.self.invariant.safe.sound.desks, c.requires, ap (λ (v : View _ _). v.last_proposer) c.self.view_is)) c.index_mut-desk.ensures.value)
    (subst (λ (v : View _ _). IsAt v.desks c.args.proposer was) (sym c.self.view_is) at_was) at_now
    (record {
      up = desk_is_up desk c.restart-restarted.new.self c.restart-restarted.result by.desk by.up;
      down = desk_stays_down desk c.restart-restarted.new.self c.restart-restarted.result by.refused by.up;
      cause = by.cause;
      foreign = λ tells at is. elim (true_or_false desk.down) [
        | inl down ↦ (g.V.Disk.seen (disk_of c.restart-restarted.new.self.vault), by.image tells down, by.foreign tells at is)
        | inr up ↦ absurd (cc ((by.up up).0, is))
      ];
      not_spent = by.not_spent;
    })
