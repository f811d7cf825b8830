use Rattle.std.proofs.Common.{◌≡◌, ℕ, List, false, Err, inl, inr, sym, ap, subst, ◌∙◌}
use Rattle.std.specs.Prelude.{◌⊎◌}
use Rattle.cas_record.specs.declared.answer.Answer.{Answer}
use Rattle.cas_record.specs.declared.answer.Answer.TheVariants as answer
use Rattle.cas_record.specs.declared.operator.Asked.TheVariants as asked
use Rattle.cas_record.specs.declared.operator.OpAnswer.{OpAnswer}
use Rattle.cas_record.specs.declared.operator.OpAnswer.TheVariants as op
use Rattle.cas_model.specs.Council.{Probe}
use Rattle.cas_model.specs.Step.{AskAll, Gather}
use Rattle.cas_model.specs.Exchanges.Step.{StepOrder}
use Rattle.cas_model.specs.View.{meaning}
use Rattle.cas_world.specs.Exchanges.Exchange.{MayAskKey, WasToldOrder}
use Rattle.cas_world.specs.Eras.Plans.{was_told}
use Rattle.casreg_script.specs.Exchanges.Exchanges.{AsksMembers}
use Rattle.casreg_script.specs.Exchanges.Orders.{IsNotOrdered, full, no_memory}
use Rattle.casreg_script.specs.Exchanges.Probes.{IsProbe, refused, told}
use Rattle.casreg_script.proofs.Exchanges.Asking.{may_ask, was_probed, told_found}
use Rattle.casreg_script.proofs.probe.probe.Goals as goal
use Rattle.casreg_script.proofs.probe.probe.Goals.{in-Ok-exchange, in-Err-exchange}

pub exchange-requires-clause-may : goal.exchange-requires-clause-may
exchange-requires-clause-may g c =
    subst (λ (k : List ℕ). MayAskKey c.order.new.self (asked.Probe k)) (sym c.in_ok-copy-2.ensures)
    (may_ask c.args.world.now c.order.new.self (asked.Probe c.args.key.now) c.requires.quiet c.requires.idle (subst (λ (k : List ℕ). StepOrder c.args.world.now (asked.Probe k) c.order.new.self) c.in_ok-copy.ensures c.in-Ok.ensures.ok))

pub into_probes-requires : goal.into_probes-requires
into_probes-requires g c = was_probed c.order.new.self c.exchange.new.world c.in_ok-copy-2.field-0 c.in-Ok-exchange.gathered c.in-Ok-exchange.ensures.gathered

pub tell-requires : goal.tell-requires
tell-requires g c = elim c.match-exchange.branch [
  | in-Ok-exchange w ↦ was_told (subst (WasToldOrder c.exchange.new.world) (sym w.answer-is) (subst (λ (k : List ℕ). WasToldOrder c.exchange.new.world (op.Probed k w.into_probes.result)) (c.in_ok-copy-2.ensures ∙ sym c.in_ok-told.ensures)
      (told_found c.order.new.self c.exchange.new.world c.in_ok-copy-2.field-0 w.in-Ok-exchange.gathered w.into_probes.result w.in-Ok-exchange.ensures.gathered w.into_probes.ensures)))
  | in-Err-exchange w ↦ was_told (subst (WasToldOrder c.exchange.new.world) (sym w.answer-is) w.in-Err-exchange.ensures.told)
]

pub returns-in-Ok-clause-probe : goal.returns-in-Ok-clause-probe
returns-in-Ok-clause-probe g c by is =
    let asks = c.exchange.ensures.asks by is in
    record {
      view = asks.view;
      is = asks.is;
      has = subst (λ (a : OpAnswer). IsProbe (meaning g.S.Shelf g.V.Disk) by c.args.key.now c.args.world.now a asks.view c.tell.new.self) (sym c.tell.ensures.same)
          (told (subst (λ (k : List ℕ). StepOrder c.args.world.now (asked.Probe k) c.order.new.self) c.in_ok-copy.ensures c.in-Ok.ensures.ok) (subst (λ (k : List ℕ). AsksMembers (meaning g.S.Shelf g.V.Disk) by (AskAll (Probe k)) Gather c.order.new.self asks.view c.exchange.new.world) c.in_ok-copy-2.ensures asks.has) c.tell.ensures.step);
    }

pub returns-clause-probe : goal.returns-clause-probe
returns-clause-probe g c by is = record { view = by; is = is; has = refused (why c.in-Err.ensures.cause) c.in-Err.ensures.err }
  where
    why : (c.in-Err.refusal ≡ answer.RecordFull) ⊎ (c.in-Err.refusal ≡ answer.NoMemory false) → IsNotOrdered c.args.world.now c.in-Err.refusal
    why (inl is_full) = subst (IsNotOrdered c.args.world.now) (sym is_full) (full (c.in-Err.ensures.full.0 (ap (λ (a : Answer). Err a) is_full)))
    why (inr none) = subst (IsNotOrdered c.args.world.now) (sym none) (no_memory (λ count. absurd (cc (c.in-Err.ensures.full.1 count, none))))
