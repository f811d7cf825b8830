use Rattle.std.proofs.Common.{◌≡◌, ◌∙◌, ap, sym, arith}
use Rattle.std.proofs.lemmas.Option.{slice_get_within}
use Rattle.cas_ballot.specs.Members.{has_member}
use Rattle.cas_restore.specs.TakingUp.{IsShelfTakenUp, LeavesNoMore}
use Rattle.cas_restore.proofs.Placing.{one_became, passed_over, one_more, all_became}
use Rattle.cas_restore.proofs.Taking.{leaves_then, id_is}
use Rattle.cas_restore.proofs.taking_up.take_up_members.Given.{Over}
use Rattle.cas_restore.proofs.taking_up.take_up_members.Goals as goal
use Rattle.cas_restore.proofs.taking_up.take_up_members.Goals.{After-has, then-has+in_ok-take_up_at, else-has}

has_is : (g : Over) (c : After-has g) → c.has.result ≡ has_member c.args.members c.loop-number.number
has_is g c = c.has.ensures ∙ ap (has_member c.args.members) (id_is c.new.result c.unwrap-id.result c.loop-number.number c.unwrap-id.ensures c.new.ensures.value)

pub returns-in_err-take_up_at-clause-leaves : goal.returns-in_err-take_up_at-clause-leaves
returns-in_err-take_up_at-clause-leaves g c =
    one_became (LeavesNoMore g.S.Shelf.tells g.S.Shelf.may_leave g.S.Shelf.fault_count) c.args.members c.args.shelves.now.items c.loop-number.shelves.items c.take_up_at.new.shelves.items
    c.loop-number.number
    (leaves_then g.S.Shelf.tells g.S.Shelf.may_leave g.S.Shelf.fault_count)
    (sym (has_is g (goal.at.returns-in_err-take_up_at-clause-leaves g c).After-has) ∙ c.if-has.true) c.loop-number.invariant.leaves c.take_up_at.ensures.leaves

pub loop-number-preserved : goal.loop-number-preserved
loop-number-preserved g c =
    let is = has_is g (goal.at.loop-number-preserved g c).After-has in
    elim c.if-has.branch [
      | then-has+in_ok-take_up_at w ↦ rw w.shelves-is (record {
        leaves = one_became (LeavesNoMore g.S.Shelf.tells g.S.Shelf.may_leave g.S.Shelf.fault_count) c.args.members c.args.shelves.now.items c.loop-number.shelves.items w.take_up_at.new.shelves.items
            c.loop-number.number (leaves_then g.S.Shelf.tells g.S.Shelf.may_leave g.S.Shelf.fault_count)
            (sym is ∙ w.if-has.true) c.loop-number.invariant.leaves w.take_up_at.ensures.leaves;
        taken = one_more (IsShelfTakenUp g.S.Shelf.tells g.S.Shelf.contents g.S.Shelf.is_up g.S.Shelf.may_leave) c.args.members c.args.shelves.now.items
            c.loop-number.number c.loop-number.shelves.items
            w.take_up_at.new.shelves.items (w.in_ok-take_up_at.ensures {u = tt}).ok c.loop-number.invariant.taken;
      })
      | else-has w ↦ rw w.shelves-is (record {
        leaves = c.loop-number.invariant.leaves;
        taken = passed_over (IsShelfTakenUp g.S.Shelf.tells g.S.Shelf.contents g.S.Shelf.is_up g.S.Shelf.may_leave) c.args.members c.args.shelves.now.items
            c.loop-number.number c.loop-number.shelves.items
            (sym is ∙ w.if-has.false) c.loop-number.invariant.taken;
      })
    ]

pub returns-clause-ok : goal.returns-clause-ok
returns-clause-ok g c =
    all_became (IsShelfTakenUp g.S.Shelf.tells g.S.Shelf.contents g.S.Shelf.is_up g.S.Shelf.may_leave) c.args.members c.args.shelves.now.items c.loop-number.number c.loop-number.shelves.items
    c.loop-number.invariant.leaves.places c.loop-number.invariant.leaves.others
    (λ id was at. omega (arith, slice_get_within c.args.shelves.now.items id was at, c.args.shelves.now.ok.0, c.requires.all, c.loop-number-test.false)) c.loop-number.invariant.taken
