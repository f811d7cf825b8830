use Rattle.std.proofs.Common.{◌≡◌, false, Err, inl, inr, sym, ap, subst}
use Rattle.std.specs.Prelude.{◌⊎◌}
use Rattle.cas_record.specs.declared.answer.Answer.{Answer}
use Rattle.cas_record.specs.declared.answer.Answer.TheVariants as answer
use Rattle.cas_record.specs.declared.operator.Asked.{Asked}
use Rattle.cas_record.specs.declared.operator.OpAnswer.{OpAnswer}
use Rattle.cas_model.specs.Exchanges.Step.{StepOrder}
use Rattle.cas_model.specs.View.{meaning}
use Rattle.cas_world.specs.Eras.Plans.{asked_of}
use Rattle.casreg_script.specs.Eras.Membership.{ChangesMembers, refused, told}
use Rattle.casreg_script.specs.Exchanges.Orders.{IsNotOrdered, full, no_memory}
use Rattle.casreg_script.proofs.Exchanges.Asking.{both_idle, keeps_idle, order_keeps, tell_keeps, quiet_after}
use Rattle.casreg_script.proofs.Eras.Entering.{is_ordered, free_then}
use Rattle.casreg_script.proofs.membership.change_members.Goals as goal

pub carry_out-answer-requires-clause-ordered : goal.carry_out-answer-requires-clause-ordered
carry_out-answer-requires-clause-ordered g c = is_ordered c.args.world.now c.order.new.self (asked_of c.args.target.now) (subst (λ (a : Asked). StepOrder c.args.world.now a c.order.new.self) c.asked.ensures c.in-Ok.ensures.ok)

pub carry_out-answer-requires-clause-free : goal.carry_out-answer-requires-clause-free
carry_out-answer-requires-clause-free g c =
    free_then c.args.world.now c.order.new.self _ c.requires.quiet ((keeps_idle c.args.world.now c.order.new.self (order_keeps c.args.world.now c.order.new.self _ c.in-Ok.ensures.ok)).idle 0 c.requires.idle) c.in-Ok.ensures.ok

pub returns-in-Ok-clause-changes : goal.returns-in-Ok-clause-changes
returns-in-Ok-clause-changes g c by is =
    let carried = c.carry_out-answer.ensures.carried by is in
    record {
      view = carried.view;
      is = carried.is;
      has = subst (λ (a : OpAnswer). ChangesMembers (meaning g.S.Shelf g.V.Disk) c.args.tries by (asked_of c.args.target.now) c.args.halt.now c.args.world.now a carried.view c.carry_out-answer.new.halt c.tell.new.self) (sym c.tell.ensures.same)
          (told (subst (λ (a : Asked). StepOrder c.args.world.now a c.order.new.self) c.asked.ensures c.in-Ok.ensures.ok) carried.has c.tell.ensures.step);
    }

pub returns-in-Ok-clause-quiet : goal.returns-in-Ok-clause-quiet
returns-in-Ok-clause-quiet g c = quiet_after c.carry_out-answer.new.world c.tell.new.self _ c.tell.ensures.step

pub returns-in-Ok-clause-idle : goal.returns-in-Ok-clause-idle
returns-in-Ok-clause-idle g c =
    both_idle c.args.world.now c.order.new.self c.tell.new.self (keeps_idle c.args.world.now c.order.new.self (order_keeps c.args.world.now c.order.new.self _ c.in-Ok.ensures.ok))
    (both_idle c.order.new.self c.carry_out-answer.new.world c.tell.new.self c.carry_out-answer.ensures.idle (keeps_idle c.carry_out-answer.new.world c.tell.new.self (tell_keeps c.carry_out-answer.new.world c.tell.new.self _ c.tell.ensures.step)))

pub returns-clause-changes : goal.returns-clause-changes
returns-clause-changes g c by is = record { view = by; is = is; has = refused (why c.in-Err.ensures.cause) c.in-Err.ensures.err }
  where
    why : (c.in-Err.refusal ≡ answer.RecordFull) ⊎ (c.in-Err.refusal ≡ answer.NoMemory false) → IsNotOrdered c.args.world.now c.in-Err.refusal
    why (inl is_full) = subst (IsNotOrdered c.args.world.now) (sym is_full) (full (c.in-Err.ensures.full.0 (ap (λ (a : Answer). Err a) is_full)))
    why (inr none) = subst (IsNotOrdered c.args.world.now) (sym none) (no_memory (λ count. absurd (cc (c.in-Err.ensures.full.1 count, none))))
