use Rattle.std.proofs.Common.{◌≡◌, ℕ, List, false, Err, inl, inr, sym, ap, subst}
use Rattle.std.specs.Prelude.{◌⊎◌}
use Rattle.cas_collect.specs.declared.collect.CollectStep.TheVariants.{End}
use Rattle.cas_record.specs.declared.answer.Answer.{Answer}
use Rattle.cas_record.specs.declared.answer.Answer.TheVariants as answer
use Rattle.cas_record.specs.declared.operator.Asked.TheVariants as asked
use Rattle.cas_record.specs.declared.operator.OpAnswer.{OpAnswer}
use Rattle.cas_model.specs.Exchanges.Step.{StepOrder}
use Rattle.cas_model.specs.View.{meaning}
use Rattle.cas_world.specs.Exchanges.Exchange.{WasToldOrder}
use Rattle.cas_world.specs.Eras.Plans.{HasCollectedAll, was_told, has_collected}
use Rattle.casreg_script.specs.Collection.Collecting.{IsDue}
use Rattle.casreg_script.specs.Collection.Collections.{IsCollection, refused, told}
use Rattle.casreg_script.specs.Exchanges.Orders.{IsNotOrdered, full, no_memory}
use Rattle.casreg_script.proofs.Exchanges.Asking.{both_idle, keeps_idle, order_keeps, tell_keeps, quiet_after}
use Rattle.casreg_script.proofs.Eras.Entering.{is_ordered, free_then}
use Rattle.casreg_script.proofs.collect.collect.Goals as goal
use Rattle.casreg_script.proofs.collect.collect.Goals.{in-Ok-carry_out, in-Err-carry_out}

pub carry_out-requires-clause-ordered : goal.carry_out-requires-clause-ordered
carry_out-requires-clause-ordered g c = is_ordered c.args.world.now c.order.new.self (asked.Collect c.args.key.now) (subst (λ (k : List ℕ). StepOrder c.args.world.now (asked.Collect k) c.order.new.self) c.in_ok-copy.ensures c.in-Ok.ensures.ok)

pub carry_out-requires-clause-free : goal.carry_out-requires-clause-free
carry_out-requires-clause-free g c =
    free_then c.args.world.now c.order.new.self _ c.requires.quiet ((keeps_idle c.args.world.now c.order.new.self (order_keeps c.args.world.now c.order.new.self _ c.in-Ok.ensures.ok)).idle 0 c.requires.idle) c.in-Ok.ensures.ok

pub collected-answer-requires : goal.collected-answer-requires
collected-answer-requires g c = subst (λ (k : List ℕ). IsDue c.carry_out.new.world k End) (sym c.in_ok-told.ensures) c.in-Ok-carry_out.ensures.end

pub tell-requires : goal.tell-requires
tell-requires g c = elim c.match-carry_out.branch [
  | in-Ok-carry_out w ↦ has_collected (subst (HasCollectedAll c.carry_out.new.world) (sym w.answer-is) w.collected-answer.ensures)
  | in-Err-carry_out w ↦ was_told (subst (WasToldOrder c.carry_out.new.world) (sym w.answer-is) w.in-Err-carry_out.ensures.told)
]

pub returns-in-Ok-clause-collects : goal.returns-in-Ok-clause-collects
returns-in-Ok-clause-collects g c by is =
    let carried = c.carry_out.ensures.carried by is in
    record {
      view = carried.view;
      is = carried.is;
      has = subst (λ (a : OpAnswer). IsCollection (meaning g.S.Shelf g.V.Disk) c.args.tries by c.args.key.now c.args.halt.now c.args.world.now a carried.view c.carry_out.new.halt c.tell.new.self) (sym c.tell.ensures.same)
          (told (subst (λ (k : List ℕ). StepOrder c.args.world.now (asked.Collect k) c.order.new.self) c.in_ok-copy.ensures c.in-Ok.ensures.ok) carried.has c.tell.ensures.step);
    }

pub returns-in-Ok-clause-quiet : goal.returns-in-Ok-clause-quiet
returns-in-Ok-clause-quiet g c = quiet_after c.carry_out.new.world c.tell.new.self _ c.tell.ensures.step

pub returns-in-Ok-clause-idle : goal.returns-in-Ok-clause-idle
returns-in-Ok-clause-idle g c =
    both_idle c.args.world.now c.order.new.self c.tell.new.self (keeps_idle c.args.world.now c.order.new.self (order_keeps c.args.world.now c.order.new.self _ c.in-Ok.ensures.ok))
    (both_idle c.order.new.self c.carry_out.new.world c.tell.new.self c.carry_out.ensures.idle (keeps_idle c.carry_out.new.world c.tell.new.self (tell_keeps c.carry_out.new.world c.tell.new.self _ c.tell.ensures.step)))

pub returns-clause-collects : goal.returns-clause-collects
returns-clause-collects g c by is = record { view = by; is = is; has = refused (why c.in-Err.ensures.cause) c.in-Err.ensures.err }
  where
    why : (c.in-Err.refusal ≡ answer.RecordFull) ⊎ (c.in-Err.refusal ≡ answer.NoMemory false) → IsNotOrdered c.args.world.now c.in-Err.refusal
    why (inl is_full) = subst (IsNotOrdered c.args.world.now) (sym is_full) (full (c.in-Err.ensures.full.0 (ap (λ (a : Answer). Err a) is_full)))
    why (inr none) = subst (IsNotOrdered c.args.world.now) (sym none) (no_memory (λ count. absurd (cc (c.in-Err.ensures.full.1 count, none))))
