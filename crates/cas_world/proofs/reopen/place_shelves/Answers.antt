use Rattle.std.proofs.Common.{◌≡◌, ◌+◌, ◌++◌, ◌∷◌, ℕ, suc, List, true, length, refl, sym, ap, subst, ◌∙◌, arith}
use Rattle.std.specs.Prelude.{Option, Some, IfSome, reverse}
use Rattle.cas_ballot.specs.Members.{has_member}
use Rattle.cas_model.specs.View.{IsAt}
use Rattle.cas_world.specs.Openings.OpeningOn.{placed, placed_as}
use Rattle.cas_world.proofs.Lists.{last_first}
use Rattle.cas_world.proofs.Openings.OpeningsOn.{placed_more}
use Rattle.cas_world.proofs.reopen.place_shelves.Given.{Over}
use Rattle.cas_world.proofs.reopen.place_shelves.Goals as goal
use Rattle.cas_world.proofs.reopen.place_shelves.Goals.{After-has}

id_is : (option : Option ℕ) (id number : ℕ) → option ≡ Some id → IfSome option (λ (i : ℕ). i ≡ number) → id ≡ number
id_is option id number some is = subst (λ (o : Option ℕ). IfSome o (λ (i : ℕ). i ≡ number)) some is

-- the shelf that is taken comes first of those that were left
left : (g : Over) (c : After-has g) → reverse c.loop-shelf.shelves.items ≡ c.in-Some.shelf ∷ reverse c.pop.new.self.items
left g c = last_first c.loop-shelf.shelves.items c.pop.new.self.items c.in-Some.shelf (c.in-Some.ensures {u = tt}).items

number : (g : Over) (c : After-has g) → c.unwrap-id.result ≡ length c.loop-shelf.acceptors.items
number g c = id_is c.new.result c.unwrap-id.result _ c.unwrap-id.ensures c.new.ensures.value ∙ (c.len.ensures ∙ c.loop-shelf.acceptors.ok.0)

pub place-requires : goal.place-requires
place-requires g c = λ member.
    let at = goal.at.place-requires g c in
    c.loop-shelf.invariant.up 0 c.in-Some.shelf
    (subst (λ (n : ℕ). has_member c.args.members n ≡ true) (number g at.After-has ∙ (let e : length c.loop-shelf.acceptors.items ≡ length c.loop-shelf.acceptors.items + 0 = omega arith in e)) (sym c.has.ensures ∙ member))
    (subst (λ (l : List _). IsAt l 0 c.in-Some.shelf) (sym (left g at.After-has)) refl)

pub loop-shelf-preserved : goal.loop-shelf-preserved
loop-shelf-preserved g c =
    let at = goal.at.loop-shelf-preserved g c in
    let pushed = c.push_reserved.ensures.items in
    let is : c.place.result ≡ placed_as (has_member c.args.members (length c.loop-shelf.acceptors.items)) (length c.loop-shelf.acceptors.items) c.in-Some.shelf =
    c.place.ensures ∙ ap (λ (b : _). placed_as b c.unwrap-id.result c.in-Some.shelf) c.has.ensures ∙ ap (λ (n : ℕ). placed_as (has_member c.args.members n) n c.in-Some.shelf) (number g at.After-has) in
    record {
      all = ap (λ (l : List _). l ++ placed c.args.members (length l) (reverse c.pop.new.self.items)) pushed
          ∙ placed_more c.args.members c.loop-shelf.acceptors.items (reverse c.pop.new.self.items) c.in-Some.shelf c.place.result is
          ∙ ap (λ (l : List _). c.loop-shelf.acceptors.items ++ placed c.args.members (length c.loop-shelf.acceptors.items) l) (sym (left g at.After-has))
          ∙ c.loop-shelf.invariant.all;
      up = λ id shelf member there. c.loop-shelf.invariant.up (suc id) shelf
          (subst (λ (n : ℕ). has_member c.args.members n ≡ true) (let e : length c.push_reserved.new.self.items + id ≡ length c.loop-shelf.acceptors.items + suc id = omega (arith, c.push_reserved.ensures.len, c.push_reserved.new.self.ok.0, c.loop-shelf.acceptors.ok.0) in e) member)
          (subst (λ (l : List _). IsAt l (suc id) shelf) (sym (left g at.After-has)) there);
      few = omega (arith, c.loop-shelf.invariant.few, (c.in-Some.ensures {u = tt}).cases, c.push_reserved.ensures.len);
      room = omega (arith, c.loop-shelf.invariant.room, c.push_reserved.ensures.capacity);
      capacity = c.pop.ensures.capacity ∙ c.loop-shelf.invariant.capacity;
    }
