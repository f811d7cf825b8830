use Rattle.std.proofs.Common.{◌≡◌, ◌∙◌, ap, sym, arith}
use Rattle.std.proofs.lemmas.Option.{slice_get_within}
use Rattle.std.proofs.lemmas.Result.{err_from_is_err_and}
use Rattle.cas_ballot.specs.Members.{has_member}
use Rattle.cas_restore.specs.Restored.{slots_of, HoldsJust}
use Rattle.cas_restore.specs.Members.{GoesTowards}
use Rattle.cas_restore.proofs.Placing.{goes_itself, goes_then, none_became, one_became, none_below, passed_over, one_more, all_became, one_fails, there_too}
use Rattle.cas_restore.proofs.Taking.{id_is}
use Rattle.cas_restore.proofs.members.restore_members.Given.{Over}
use Rattle.cas_restore.proofs.members.restore_members.Goals as goal
use Rattle.cas_restore.proofs.members.restore_members.Goals.{After-has, then-has+in_ok-restore_at, else-has}

pub loop-number-init : goal.loop-number-init
loop-number-init g c = record {
  moved = none_became (GoesTowards g.S.Shelf.tells g.S.Shelf.contents g.S.Shelf.may_leave g.S.Shelf.fault_count (slots_of c.args.slots.now)) c.args.members c.args.shelves.now.items
      (λ id shelf member at. goes_itself g.S.Shelf.tells g.S.Shelf.contents g.S.Shelf.may_leave g.S.Shelf.fault_count (slots_of c.args.slots.now) shelf
      (λ tells. g.met.S.Shelf.up_is_kept shelf tells (c.requires.up id shelf member at)));
  hold = none_below (HoldsJust g.S.Shelf.contents g.S.Shelf.is_up (slots_of c.args.slots.now)) c.args.members c.args.shelves.now.items;
}

has_is : (g : Over) (c : After-has g) → c.has.result ≡ has_member c.args.members c.loop-number.number
has_is g c = c.has.ensures ∙ ap (has_member c.args.members) (id_is c.new.result c.unwrap-id.result c.loop-number.number c.unwrap-id.ensures c.new.ensures.value)

pub returns-in_err-restore_at-clause-towards : goal.returns-in_err-restore_at-clause-towards
returns-in_err-restore_at-clause-towards g c =
    one_became (GoesTowards g.S.Shelf.tells g.S.Shelf.contents g.S.Shelf.may_leave g.S.Shelf.fault_count (slots_of c.args.slots.now)) c.args.members c.args.shelves.now.items
    c.loop-number.shelves.items
    c.restore_at.new.shelves.items c.loop-number.number (goes_then g.S.Shelf.tells g.S.Shelf.contents g.S.Shelf.may_leave g.S.Shelf.fault_count (slots_of c.args.slots.now))
    (sym (has_is g (goal.at.returns-in_err-restore_at-clause-towards g c).After-has) ∙ c.if-has.true) c.loop-number.invariant.moved c.restore_at.ensures.towards

pub returns-in_err-restore_at-clause-err : goal.returns-in_err-restore_at-clause-err
returns-in_err-restore_at-clause-err g c =
    let p = err_from_is_err_and c.from_residual.result c.from_residual.ensures.1 in
    let fails = (c.in_err-restore_at.ensures {u = tt}).err in
    rw (p.1, p.2) (one_fails g.S.Shelf.contents g.S.Shelf.is_up (slots_of c.args.slots.now) c.args.members c.args.shelves.now.items g.S.Shelf.fault_count c.loop-number.number
    c.loop-number.shelves.items c.restore_at.new.shelves.items
    c.in_err-restore_at.field-0.0 (sym (has_is g (goal.at.returns-in_err-restore_at-clause-err g c).After-has) ∙ c.if-has.true) fails.0 c.requires.up
    (there_too c.args.shelves.now.items c.loop-number.shelves.items c.loop-number.invariant.moved.places) fails.1 c.loop-number.invariant.hold)

pub loop-number-preserved : goal.loop-number-preserved
loop-number-preserved g c =
    let is = has_is g (goal.at.loop-number-preserved g c).After-has in
    elim c.if-has.branch [
      | then-has+in_ok-restore_at w ↦ rw w.shelves-is (record {
        moved = one_became (GoesTowards g.S.Shelf.tells g.S.Shelf.contents g.S.Shelf.may_leave g.S.Shelf.fault_count (slots_of c.args.slots.now)) c.args.members c.args.shelves.now.items
            c.loop-number.shelves.items w.restore_at.new.shelves.items
            c.loop-number.number (goes_then g.S.Shelf.tells g.S.Shelf.contents g.S.Shelf.may_leave g.S.Shelf.fault_count (slots_of c.args.slots.now))
            (sym is ∙ w.if-has.true) c.loop-number.invariant.moved w.restore_at.ensures.towards;
        hold = one_more (HoldsJust g.S.Shelf.contents g.S.Shelf.is_up (slots_of c.args.slots.now)) c.args.members c.args.shelves.now.items c.loop-number.number c.loop-number.shelves.items
            w.restore_at.new.shelves.items
            (w.in_ok-restore_at.ensures {u = tt}).ok c.loop-number.invariant.hold;
      })
      | else-has w ↦ rw w.shelves-is (record {
        moved = c.loop-number.invariant.moved;
        hold = passed_over (HoldsJust g.S.Shelf.contents g.S.Shelf.is_up (slots_of c.args.slots.now)) c.args.members c.args.shelves.now.items c.loop-number.number c.loop-number.shelves.items
            (sym is ∙ w.if-has.false) c.loop-number.invariant.hold;
      })
    ]

pub returns-clause-ok : goal.returns-clause-ok
returns-clause-ok g c =
    all_became (HoldsJust g.S.Shelf.contents g.S.Shelf.is_up (slots_of c.args.slots.now)) c.args.members c.args.shelves.now.items c.loop-number.number c.loop-number.shelves.items
    c.loop-number.invariant.moved.places c.loop-number.invariant.moved.others
    (λ id was at. omega (arith, slice_get_within c.args.shelves.now.items id was at, c.args.shelves.now.ok.0, c.requires.all, c.loop-number-test.false)) c.loop-number.invariant.hold
