use Rattle.std.proofs.Common.{◌≡◌, ◌∙◌, ap, sym, arith}
use Rattle.std.proofs.lemmas.Option.{slice_get_within}
use Rattle.std.proofs.lemmas.Result.{err_from_is_err_and}
use Rattle.cas_ballot.specs.Members.{has_member}
use Rattle.cas_restore.proofs.Placing.{one_became, passed_over, one_more, all_became}
use Rattle.cas_restore.proofs.Taking.{id_is}
use Rattle.cas_reopen.specs.Starting.{HasBegun, CountsFaults}
use Rattle.cas_reopen.proofs.Beginning.{counts_then, one_does_not_begin}
use Rattle.cas_reopen.proofs.ready.start_members.Given.{Over}
use Rattle.cas_reopen.proofs.ready.start_members.Goals as goal
use Rattle.cas_reopen.proofs.ready.start_members.Goals.{After-has, then-has+in_ok-start_at, else-has}

has_is : (g : Over) (c : After-has g) → c.has.result ≡ has_member c.args.members c.loop-number.number
has_is g c = c.has.ensures ∙ ap (has_member c.args.members) (id_is c.new.result c.unwrap-id.result c.loop-number.number c.unwrap-id.ensures c.new.ensures.value)

pub loop-number-preserved : goal.loop-number-preserved
loop-number-preserved g c =
    let is = has_is g (goal.at.loop-number-preserved g c).After-has in
    elim c.if-has.branch [
      | then-has+in_ok-start_at w ↦ rw w.shelves-is (record {
        counts = one_became (CountsFaults g.S.Shelf.fault_count) c.args.members c.args.shelves.now.items c.loop-number.shelves.items w.start_at.new.shelves.items
            c.loop-number.number (counts_then g.S.Shelf.fault_count)
            (sym is ∙ w.if-has.true) c.loop-number.invariant.counts w.start_at.ensures.any;
        begun = one_more (HasBegun g.S.Shelf.contents g.S.Shelf.is_up) c.args.members c.args.shelves.now.items
            c.loop-number.number c.loop-number.shelves.items
            w.start_at.new.shelves.items (w.in_ok-start_at.ensures {u = tt}).ok c.loop-number.invariant.begun;
      })
      | else-has w ↦ rw w.shelves-is (record {
        counts = c.loop-number.invariant.counts;
        begun = passed_over (HasBegun g.S.Shelf.contents g.S.Shelf.is_up) c.args.members c.args.shelves.now.items
            c.loop-number.number c.loop-number.shelves.items
            (sym is ∙ w.if-has.false) c.loop-number.invariant.begun;
      })
    ]

pub returns-clause-ok : goal.returns-clause-ok
returns-clause-ok g c =
    all_became (HasBegun g.S.Shelf.contents g.S.Shelf.is_up) c.args.members c.args.shelves.now.items c.loop-number.number c.loop-number.shelves.items
    c.loop-number.invariant.counts.places c.loop-number.invariant.counts.others
    (λ id was at. omega (arith, slice_get_within c.args.shelves.now.items id was at, c.args.shelves.now.ok.0, c.requires.all, c.loop-number-test.false)) c.loop-number.invariant.begun
