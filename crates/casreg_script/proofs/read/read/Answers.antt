use Rattle.std.proofs.Common.{◌≡◌, ℕ, false, List, Err, inl, inr, sym, ap, subst, ◌∙◌}
use Rattle.std.specs.Prelude.{◌⊎◌}
use Rattle.cas_record.specs.declared.answer.Answer.{Answer}
use Rattle.cas_record.specs.declared.answer.Answer.TheVariants as answer
use Rattle.cas_record.specs.declared.operator.Asked.TheVariants as asked
use Rattle.cas_record.specs.declared.operator.OpAnswer.TheVariants as op
use Rattle.cas_record.specs.declared.read_answer.ReadAnswer.TheVariants as read
use Rattle.cas_model.specs.Council.{Probe}
use Rattle.cas_model.specs.Step.{AskAll, Gather}
use Rattle.cas_model.specs.Exchanges.Step.{StepOrder}
use Rattle.cas_model.specs.View.{meaning}
use Rattle.cas_world_calls.specs.declared.council.Gathered.{Gathered}
use Rattle.cas_world.specs.Exchanges.Exchange.{MayAskKey}
use Rattle.cas_world.specs.declared.exchange.Exchange.TheVariants as what
use Rattle.casreg_script.specs.Exchanges.Exchanges.{AsksMembers, CameOf}
use Rattle.casreg_script.specs.Exchanges.Orders.{IsNotOrdered, full, no_memory}
use Rattle.casreg_script.specs.Exchanges.Probes.{refused}
use Rattle.casreg_script.specs.Exchanges.Reads.{stopped}
use Rattle.casreg_script.proofs.Exchanges.Asking.{may_ask}
use Rattle.casreg_script.proofs.Exchanges.Reading.{is_read, read_told, read_stopped}
use Rattle.casreg_script.proofs.read.read.Goals as goal

pub returns-in-Err-clause-read : goal.returns-in-Err-clause-read
returns-in-Err-clause-read g c by is =
    record {
      view = by;
      is = is;
      has = is_read (meaning g.S.Shelf g.V.Disk) c.args.key.now c.args.world.now c.order.new.self (op.Stopped c.in-Err.refusal) (read.Stopped c.in-Err.refusal)
          (refused (why c.in-Err.ensures.cause) c.in-Err.ensures.err) (stopped c.in-Err.refusal);
    }
  where
    why : (c.in-Err.refusal ≡ answer.RecordFull) ⊎ (c.in-Err.refusal ≡ answer.NoMemory false) → IsNotOrdered c.args.world.now c.in-Err.refusal
    why (inl is_full) = subst (IsNotOrdered c.args.world.now) (sym is_full) (full (c.in-Err.ensures.full.0 (ap (λ (a : Answer). Err a) is_full)))
    why (inr none) = subst (IsNotOrdered c.args.world.now) (sym none) (no_memory (λ count. absurd (cc (c.in-Err.ensures.full.1 count, none))))

pub exchange-requires-clause-may : goal.exchange-requires-clause-may
exchange-requires-clause-may g c =
    subst (λ (k : List ℕ). MayAskKey c.order.new.self (asked.Read k)) (sym c.in_ok-copy-2.ensures)
    (may_ask c.args.world.now c.order.new.self (asked.Read c.args.key.now) c.requires.quiet c.requires.idle (subst (λ (k : List ℕ). StepOrder c.args.world.now (asked.Read k) c.order.new.self) c.in_ok-copy.ensures c.in_default.ensures.ok))

pub returns-in-Probed-clause-read : goal.returns-in-Probed-clause-read
returns-in-Probed-clause-read g c by is =
    let asks = c.exchange.ensures.asks by is in
    record {
      view = asks.view;
      is = asks.is;
      has = read_told (meaning g.S.Shelf g.V.Disk) c.args.key.now c.args.world.now c.order.new.self c.exchange.new.world c.tell.new.self _ c.in-Probed.key c.in-Ok-Read.agreement c.in-Ok-Read.found c.in-Probed.found _
          (subst (λ (k : List ℕ). StepOrder c.args.world.now (asked.Read k) c.order.new.self) c.in_ok-copy.ensures c.in_default.ensures.ok)
          (subst (λ (k : List ℕ). AsksMembers (meaning g.S.Shelf g.V.Disk) by (AskAll (Probe k)) Gather c.order.new.self asks.view c.exchange.new.world) c.in_ok-copy-2.ensures asks.has)
          (subst (λ (r : Gathered). CameOf (what.Read c.in_ok-copy-2.field-0) c.order.new.self r c.exchange.new.world) c.in-Ok-Read.field-0-is c.in-Ok-Read.ensures.gathered).agrees c.tell.ensures.step c.in_ok-key.ensures (sym c.tell.ensures.same ∙ c.in-Probed.is) c.of.ensures;
    }

pub returns-in-Stopped-clause-read : goal.returns-in-Stopped-clause-read
returns-in-Stopped-clause-read g c by is =
    let asks = c.exchange.ensures.asks by is in
    record {
      view = asks.view;
      is = asks.is;
      has = read_stopped (meaning g.S.Shelf g.V.Disk) c.args.key.now c.args.world.now c.order.new.self c.exchange.new.world c.tell-in-Err-exchange.new.self c.in-Err-exchange.stopped c.in-Stopped.answer
          (subst (λ (k : List ℕ). StepOrder c.args.world.now (asked.Read k) c.order.new.self) c.in_ok-copy.ensures c.in_default.ensures.ok)
          (subst (λ (k : List ℕ). AsksMembers (meaning g.S.Shelf g.V.Disk) by (AskAll (Probe k)) Gather c.order.new.self asks.view c.exchange.new.world) c.in_ok-copy-2.ensures asks.has)
          c.tell-in-Err-exchange.ensures.step (sym c.tell-in-Err-exchange.ensures.same ∙ c.in-Stopped.is);
    }
