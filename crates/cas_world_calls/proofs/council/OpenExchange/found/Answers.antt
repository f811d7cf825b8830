use Rattle.std.proofs.Common.{◌∙◌, List, length, ap, arith}
use Rattle.std.proofs.lemmas.List.{take_all}
use Rattle.cas_record.specs.declared.operator.Probe.{Probe as Answered}
use Rattle.cas_world_calls.proofs.council.OpenExchange.found.Goals as goal

pub returns : goal.returns
returns c =
    c.new.ensures ∙ c.loop-probe.invariant ∙ take_all c.loop-probe.probe-index c.args.self.now.told.items (omega (arith, c.loop-probe-test.false, ap (λ (l : List Answered). length l) c.deref-probe-items.ensures.value))
