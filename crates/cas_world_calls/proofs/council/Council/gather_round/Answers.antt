use Rattle.std.proofs.Common.{◌≡◌, Option, Err, refl, sym, ap, subst, ◌∙◌, ℕ, true}
use Rattle.std.specs.Prelude.{option_map}
use Rattle.cas_ballot.specs.Members.{has_member}
use Rattle.cas_quorum.specs.declared.era.Era.{Era}
use Rattle.cas_record.specs.declared.operator.OpAnswer.{OpAnswer}
use Rattle.cas_model.specs.Collection.State.{CollectionView, confirmed_step}
use Rattle.cas_model.specs.Council.{hushed}
use Rattle.cas_model.specs.Collection.Step.{IsLeastWithout}
use Rattle.cas_world_calls.specs.Collection.{tombstone_view}
use Rattle.cas_world_calls.specs.Collecting as gathers
use Rattle.cas_world_calls.specs.Council.{council_view}
use Rattle.cas_world_calls.proofs.council.Council.gather_round.Goals as goal

pub returns-in-Some-least_without-clause-gathers : goal.returns-in-Some-least_without-clause-gathers
returns-in-Some-least_without-clause-gathers c =
    gathers.is_absent c.in-Some.collection c.in-Acknowledged.ballot c.in-Acknowledged.by c.in-Some-least_without.acceptor c.in-Some.is (sym c.tombstone-tombstone.ensures ∙ ap tombstone_view c.in-Acknowledged.is)
    (subst (λ (e : Era). IsLeastWithout e.acc c.in-Acknowledged.by c.in-Some-least_without.acceptor) c.of.ensures c.in-Some-least_without.ensures.least) (ap (λ (a : OpAnswer). Err a) c.refuse.ensures.answer) c.refuse.ensures.told

pub returns-in-None-least_without-clause-gathers : goal.returns-in-None-least_without-clause-gathers
returns-in-None-least_without-clause-gathers c =
    gathers.all c.in-Some.collection c.in-Acknowledged.ballot c.in-Acknowledged.by c.in-Some.is (sym c.tombstone-tombstone.ensures ∙ ap tombstone_view c.in-Acknowledged.is)
    (subst (λ (e : Era). (acceptor : ℕ) → has_member e.acc acceptor ≡ true → has_member c.in-Acknowledged.by acceptor ≡ true) c.of.ensures c.in-None-least_without.ensures.none) refl
    (c.confirm_round.ensures.confirmed ∙ ap (λ (o : Option CollectionView). record (hushed (council_view c.args.self.now)) { collection = option_map confirmed_step o }) c.in-Some.is)

pub returns-in-FoundHeld-clause-gathers : goal.returns-in-FoundHeld-clause-gathers
returns-in-FoundHeld-clause-gathers c =
    gathers.is_held c.in-Some.collection c.in-FoundHeld.version c.in-Some.is (sym c.tombstone-tombstone.ensures ∙ ap tombstone_view c.in-FoundHeld.is) (ap (λ (a : OpAnswer). Err a) c.refuse-in-FoundHeld.ensures.answer) c.refuse-in-FoundHeld.ensures.told
