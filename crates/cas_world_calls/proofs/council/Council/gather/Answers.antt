use Rattle.std.proofs.Common.{Option, Ok, refl, sym, ap, ◌∙◌}
use Rattle.std.specs.Prelude.{option_map}
use Rattle.cas_model.specs.Council.{telling}
use Rattle.cas_model.specs.View.{era_in}
use Rattle.cas_record.specs.declared.operator.OpAnswer.{OpAnswer}
use Rattle.cas_world_calls.specs.Council.{council_view, exchange_view, question_view, probed}
use Rattle.cas_record.specs.declared.operator.OpAnswer.TheVariants as op
use Rattle.cas_world_calls.specs.declared.council.Gathered.TheVariants as gathered
use Rattle.cas_world_calls.specs.declared.council.OpenExchange.{OpenExchange}
use Rattle.cas_world_calls.proofs.Gathering.{of_open}
use Rattle.cas_world_calls.specs.Read.{GathersIn, plain}
use Rattle.cas_world_calls.proofs.Listed.{gathers_from}
use Rattle.cas_world_calls.proofs.Reading.{gathers_in}
use Rattle.cas_world_calls.proofs.council.Council.gather.Goals as goal

pub returns-in-Probe-Some-clause-gathers : goal.returns-in-Probe-Some-clause-gathers
returns-in-Probe-Some-clause-gathers c =
    of_open c.args.self.now.exchange c.in-Some.exchange
    (λ e. GathersIn (era_in c.args.self.now.eras.0 0) e (council_view c.args.self.now) c.args.record.now c.gather_read.new.record c.gather_read.result (council_view c.gather_read.new.self))
    (sym c.take.ensures.value ∙ c.in-Some.is)
    (gathers_in (era_in c.args.self.now.eras.0 0) (exchange_view c.in-Some.exchange) (council_view c.args.self.now) (council_view c.gather_read.new.self) (option_map exchange_view c.take.new.self) c.args.record.now c.gather_read.new.record c.gather_read.result c.gather_read.ensures.gathers)

pub returns-in-Ok-clause-gathers : goal.returns-in-Ok-clause-gathers
returns-in-Ok-clause-gathers c =
    of_open c.args.self.now.exchange c.in-Some.exchange
    (λ e. GathersIn (era_in c.args.self.now.eras.0 0) e (council_view c.args.self.now) c.args.record.now c.args.record.now (Ok (gathered.Probed c.new.result)) (council_view c.tell-in-Ok.new.self))
    (sym c.take.ensures.value ∙ c.in-Some.is)
    (plain (probed c.in-Probe-None.key c.new.result c.in-Ok.ensures.found c.if-exchange.false (ap question_view c.in-Probe-None.is-0) c.in-Probe-None.is-1 c.new.ensures c.in-Ok.ensures.same refl
    (c.tell-in-Ok.ensures.told ∙ ap (λ (a : OpAnswer). telling (council_view (record c.args.self.now { exchange = c.take.new.self })) a) c.in-Ok.ensures.tells
    ∙ ap (λ (o : Option OpenExchange). record (telling (council_view c.args.self.now) (op.Probed c.in-Probe-None.key c.in-Ok.ensures.found)) { exchange = option_map exchange_view o }) c.take.ensures.after)) refl)

pub returns-in-NextKeys-default-clause-gathers : goal.returns-in-NextKeys-default-clause-gathers
returns-in-NextKeys-default-clause-gathers c =
    of_open c.args.self.now.exchange c.in-Some.exchange
    (λ e. GathersIn (era_in c.args.self.now.eras.0 0) e (council_view c.args.self.now) c.args.record.now c.args.record.now c.gather_keys.result (council_view c.gather_keys.new.self))
    (sym c.take.ensures.value ∙ c.in-Some.is)
    (plain (gathers_from (era_in c.args.self.now.eras.0 0) (exchange_view c.in-Some.exchange) (council_view c.args.self.now) (council_view c.gather_keys.new.self) (option_map exchange_view c.take.new.self) c.gather_keys.result c.gather_keys.ensures.gathers) refl)
