use Rattle.std.proofs.Common.{◌≡◌, ◌<◌, ◌≤◌, List, ℕ, subst, sym, ◌∙◌, ap}
use Rattle.std.specs.Prelude.{length}
use Rattle.std.specs.List.{insert, HoldsAt}
use Rattle.std.specs.List.Sorted.{IsNonDecreasingBy, IsPartitionPoint}
use Rattle.std.specs.Ordering.{nat_cmp, ordering_index}
use Rattle.std.specs.Cmp.Lexicographic.{slice_cmp}
use Rattle.std.specs.declared.cmp.Ordering.TheVariants.{Less, Equal, Greater}
use Rattle.cas_record.specs.Histories.Chain.{is_key}
use Rattle.cas_world_listing.specs.Keys.{Adds}
use Rattle.cas_world_listing.proofs.KeyLemmas.{searchable, inserted, found}
use Rattle.cas_world_listing.proofs.keys.add_key.Goals as goal

pub returns-in_ok-insert : goal.returns-in_ok-insert
returns-in_ok-insert c =
    let keys = c.args.keys.now.items in
    let key = c.args.key.now in
    let searched = c.in-Err.ensures {u = tt} in
    let place = c.in-Err.place in
    let parts : IsPartitionPoint (λ y. slice_cmp nat_cmp y key ≡ Less) (λ y. slice_cmp nat_cmp y key ≡ Greater) keys place =
    subst (λ (l : List (List ℕ)). IsNonDecreasingBy (λ y. ordering_index (slice_cmp nat_cmp y key)) l → IsPartitionPoint (λ y. slice_cmp nat_cmp y key ≡ Less) (λ y. slice_cmp nat_cmp y key ≡ Greater) l place) c.deref.ensures.value searched.position (searchable keys key c.requires) in
    subst (λ (l : List (List ℕ)). Adds (λ other. is_key other key) keys l) (ap (insert keys place) (sym c.in_ok-copy.ensures) ∙ sym (c.in_ok-insert.ensures {u = tt}).items)
    (inserted keys place key c.requires parts.0 parts.1 (subst (λ (l : List (List ℕ)). place ≤ length l) c.deref.ensures.value searched.bound))

pub returns-in_default : goal.returns-in_default
returns-in_default c =
    let key = c.args.key.now in
    let searched = c.in_default.ensures {u = tt} in
    let at = c.in_default.field-0 in
    found c.args.keys.now.items at key c.requires (subst (λ (l : List (List ℕ)). at < length l) c.deref.ensures.value searched.bound)
    (subst (λ (l : List (List ℕ)). HoldsAt (λ y. slice_cmp nat_cmp y key ≡ Equal) l at) c.deref.ensures.value searched.ok)
