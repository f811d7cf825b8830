use Rattle.std.proofs.Common.{List, Option, Some, Ok, Err, Result, ap, subst, ◌∙◌}
use Rattle.std.specs.Prelude.{IfSome, option_map}
use Rattle.cas_quorum.specs.declared.era.Era.{Era}
use Rattle.cas_model.specs.Council as cluster
use Rattle.cas_model.specs.View.{era_in}
use Rattle.cas_record.specs.declared.answer.Answer.{Answer}
use Rattle.cas_record.specs.declared.operator.OpAnswer.TheVariants as op
use Rattle.cas_record.specs.declared.operator.Probe.{Probe as Answered}
use Rattle.cas_world_calls.specs.Council.{council_view, exchange_view, plan_view, listed_with, over_with, GoesOnBy}
use Rattle.cas_world_calls.specs.declared.council.Gathered.{Gathered}
use Rattle.cas_world_calls.specs.declared.council.OpenExchange.{OpenExchange}
use Rattle.cas_world_calls.proofs.Listed.{gone_on, keys_gathered, keys_missed}
use Rattle.cas_world_calls.proofs.council.Council.gather_keys.Goals as goal

pub returns-in-Ok-Ok-clause-gathers : goal.returns-in-Ok-Ok-clause-gathers
returns-in-Ok-Ok-clause-gathers c =
    let is_plan = ap (option_map plan_view) c.in-Some.is in
    let by = gone_on (council_view c.args.self.now).plan (plan_view c.in-Some.plan) (plan_view c.go_on.new.self) (era_in c.args.self.now.eras.0 0) c.args.exchange.told.items (Ok c.in-Ok-Ok.gathered) c.requires.lists is_plan
    (subst (λ (e : Era). IfSome c.in-Some.plan.listing (λ listing. GoesOnBy e c.args.exchange.told.items listing (plan_view c.in-Some.plan) (Ok c.in-Ok-Ok.gathered) (plan_view c.go_on.new.self))) c.of.ensures
    (subst (λ (l : List Answered). IfSome c.in-Some.plan.listing (λ listing. GoesOnBy c.of.result.now l listing (plan_view c.in-Some.plan) (Ok c.in-Ok-Ok.gathered) (plan_view c.go_on.new.self))) c.deref.ensures.value
    (subst (λ (r : Result Gathered Answer). IfSome c.in-Some.plan.listing (λ listing. GoesOnBy c.of.result.now c.deref.result.now listing (plan_view c.in-Some.plan) r (plan_view c.go_on.new.self))) c.in-Ok-Ok.field-0-is c.in-Ok-Ok.ensures.gone_on))) in
    keys_gathered (era_in c.args.self.now.eras.0 0) (exchange_view c.args.exchange) (council_view c.args.self.now) (council_view c.hush.new.self) (plan_view c.in-Some.plan) (plan_view c.go_on.new.self) by.0 c.in-Ok-Ok.gathered
    c.requires.lists is_plan by.1 c.requires.up c.requires.asked by.2
    (c.hush.ensures.hushed ∙ ap (λ (o : Option OpenExchange). record (listed_with (council_view c.args.self.now) (plan_view c.go_on.new.self)) { exchange = option_map exchange_view o }) c.requires.taken)

pub returns-in-Ok-Err-clause-gathers : goal.returns-in-Ok-Err-clause-gathers
returns-in-Ok-Err-clause-gathers c =
    let is_plan = ap (option_map plan_view) c.in-Some.is in
    let by = gone_on (council_view c.args.self.now).plan (plan_view c.in-Some.plan) (plan_view c.go_on.new.self) (era_in c.args.self.now.eras.0 0) c.args.exchange.told.items (Err c.in-Ok-Err.short) c.requires.lists is_plan
    (subst (λ (e : Era). IfSome c.in-Some.plan.listing (λ listing. GoesOnBy e c.args.exchange.told.items listing (plan_view c.in-Some.plan) (Err c.in-Ok-Err.short) (plan_view c.go_on.new.self))) c.of.ensures
    (subst (λ (l : List Answered). IfSome c.in-Some.plan.listing (λ listing. GoesOnBy c.of.result.now l listing (plan_view c.in-Some.plan) (Err c.in-Ok-Err.short) (plan_view c.go_on.new.self))) c.deref.ensures.value
    (subst (λ (r : Result Gathered Answer). IfSome c.in-Some.plan.listing (λ listing. GoesOnBy c.of.result.now c.deref.result.now listing (plan_view c.in-Some.plan) r (plan_view c.go_on.new.self))) c.in-Ok-Err.field-0-is c.in-Ok-Err.ensures.gone_on))) in
    keys_missed (era_in c.args.self.now.eras.0 0) (exchange_view c.args.exchange) (council_view c.args.self.now) (council_view c.tell.new.self) (plan_view c.in-Some.plan) (plan_view c.go_on.new.self) by.0 c.in-Ok-Err.short
    c.requires.lists is_plan by.1 c.requires.up c.requires.asked by.2
    (c.tell.ensures.told ∙ ap (λ (a : Answer). cluster.telling (record (council_view c.args.self.now) { plan = Some (plan_view c.go_on.new.self); exchange = option_map exchange_view c.args.self.now.exchange }) (op.Stopped a)) c.copy_of.ensures
    ∙ ap (λ (o : Option OpenExchange). record (over_with (record (council_view c.args.self.now) { plan = Some (plan_view c.go_on.new.self) }) (op.Stopped c.in-Ok-Err.short)) { exchange = option_map exchange_view o }) c.requires.taken)
