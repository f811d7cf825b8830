use Rattle.std.proofs.Common.{◌≡◌, ℕ, List, Option, Some, None, Ok, Err, length, sym, ap, subst, ◌∙◌}
use Rattle.std.specs.Prelude.{option_map, IsSome, true}
use Rattle.cas_ballot.specs.Members.{has_member}
use Rattle.cas_record.specs.declared.operator.OpAnswer.{OpAnswer}
use Rattle.cas_record.specs.declared.operator.OpAnswer.TheVariants as op
use Rattle.cas_model.specs.Collection.State.{CollectionView, confirmed_step}
use Rattle.cas_model.specs.Council as cluster
use Rattle.cas_model.specs.Council.{ExchangeView, hushed, telling}
use Rattle.cas_model.specs.Collection.Step.{IsLeastWithout, is_removed, those_telling}
use Rattle.cas_world_calls.specs.Collecting as gathers
use Rattle.cas_world_calls.specs.Collecting.{GathersCollectAs}
use Rattle.cas_world_calls.specs.Council.{council_view, exchange_view}
use Rattle.cas_world_calls.specs.declared.council.OpenExchange.{OpenExchange}
use Rattle.cas_world_calls.specs.declared.council.Gathered.TheVariants as gathered
use Rattle.cas_world_calls.proofs.Gathering.{of_open}
use Rattle.cas_world_calls.proofs.council.Council.gather_collection.Goals as goal
use Rattle.cas_world_calls.proofs.council.Council.gather_collection.Goals.{in-Some-collection, in_default-collection}

pub returns-in-Some-least_without-clause-gathers : goal.returns-in-Some-least_without-clause-gathers
returns-in-Some-least_without-clause-gathers c =
    of_open c.args.self.now.exchange c.in-Some.exchange (λ (e : ExchangeView). GathersCollectAs e (council_view c.args.self.now) (Err c.refuse-in-Some-least_without.result) (council_view c.refuse-in-Some-least_without.new.self)) (sym c.take.ensures.value ∙ c.in-Some.is)
    (gathers.is_absent c.in-Some-least_without.acceptor c.if-exchange.false (subst (λ (l : List ℕ). IsLeastWithout c.in-Some.exchange.members l c.in-Some-least_without.acceptor) c.saying-confirmed.ensures c.in-Some-least_without.ensures.least)
    (ap (λ (a : OpAnswer). Err a) c.refuse-in-Some-least_without.ensures.answer)
    (c.refuse-in-Some-least_without.ensures.told ∙ ap (λ (o : Option OpenExchange). telling (record (council_view c.args.self.now) { exchange = option_map exchange_view o }) (op.Absent c.in-Some-least_without.acceptor)) c.take.ensures.after))

pub returns-clause-gathers : goal.returns-clause-gathers
returns-clause-gathers c =
    of_open c.args.self.now.exchange c.in-Some.exchange (λ (e : ExchangeView). GathersCollectAs e (council_view c.args.self.now) (Ok (gathered.All c.count-removed.result c.count-kept.result)) (council_view c.match-self.self)) (sym c.take.ensures.value ∙ c.in-Some.is) (elim c.match-self.branch [
      | in-Some-collection w ↦
          gathers.all w.in-Some-collection.collection c.if-exchange.false (sym (ap (λ (k : cluster.Council). k.collection) c.hush.ensures.hushed) ∙ w.in-Some-collection.is)
          (subst (λ (l : List ℕ). (acceptor : ℕ) → has_member c.in-Some.exchange.members acceptor ≡ true → has_member l acceptor ≡ true) c.saying-confirmed.ensures c.in_default-least_without.ensures.none)
          (ap (λ (n : ℕ). Ok (gathered.All n c.count-kept.result)) (c.count-removed.ensures.value ∙ ap (λ (l : List ℕ). length l) c.saying.ensures)
          ∙ ap (λ (n : ℕ). Ok (gathered.All (length (those_telling is_removed c.in-Some.exchange.told.items)) n)) (c.count-kept.ensures.value ∙ ap (λ (l : List ℕ). length l) c.saying-2.ensures))
          (ap council_view w.self-is ∙ ap (λ (k : cluster.Council). record k { collection = Some w.gather.new.self }) c.hush.ensures.hushed
          ∙ ap (λ (o : Option OpenExchange). record (hushed (record (council_view c.args.self.now) { exchange = option_map exchange_view o })) { collection = Some w.gather.new.self }) c.take.ensures.after
          ∙ ap (λ (v : CollectionView). record (hushed (council_view c.args.self.now)) { exchange = None; collection = Some v }) w.gather.ensures
          ∙ ap (λ (n : ℕ). record (hushed (council_view c.args.self.now)) { exchange = None; collection = Some (record (confirmed_step w.in-Some-collection.collection) { removed = n; kept = c.count-kept.result }) }) (c.count-removed.ensures.value ∙ ap (λ (l : List ℕ). length l) c.saying.ensures)
          ∙ ap (λ (n : ℕ). record (hushed (council_view c.args.self.now)) { exchange = None; collection = Some (record (confirmed_step w.in-Some-collection.collection) { removed = length (those_telling is_removed c.in-Some.exchange.told.items); kept = n }) }) (c.count-kept.ensures.value ∙ ap (λ (l : List ℕ). length l) c.saying-2.ensures))
      | in_default-collection w ↦ absurd (cc (subst (λ (o : Option CollectionView). IsSome o) (sym (ap (λ (k : cluster.Council). k.collection) c.hush.ensures.hushed) ∙ w.in_default-collection.is) c.requires.under_way))
    ])
