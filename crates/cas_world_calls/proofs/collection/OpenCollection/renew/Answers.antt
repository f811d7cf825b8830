use Rattle.std.proofs.Common.{◌≤◌, ◌+◌, ℕ, length, slice_set, sym, subst}
use Rattle.cas_model.specs.Collection.State.{CollectionView}
use Rattle.cas_world_calls.specs.Collection.{IsRenewedTo}
use Rattle.cas_world_calls.proofs.Renewed.{renewed_more}
use Rattle.cas_world_calls.proofs.collection.OpenCollection.renew.Goals as goal

pub invariant_of-self : goal.invariant_of-self
invariant_of-self c = record {
  ages = subst (λ (n : ℕ). IsRenewedTo (c.self.inside.renewed + 1) (record { 0 = slice_set c.self.inside.least.0 n c.args.age })) (sym c.from.ensures)
      (renewed_more c.self.inside.renewed c.self.inside.least c.args.age (subst (λ (v : CollectionView). length v.ages ≤ 16) (sym c.self.view_is) c.requires) c.self.invariant.ages);
  floor = c.self.invariant.floor;
}
