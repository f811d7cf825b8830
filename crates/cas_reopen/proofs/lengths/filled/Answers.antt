use Rattle.std.proofs.Common.{◌≡◌, ◌+◌, ◌<◌, length, List, ℕ, Bool, arith, sym, subst, ap, ◌∙◌}
use Rattle.std.specs.Prelude.{Option, Some, IfSome, slice_set}
use Rattle.std.proofs.lemmas.Result.{err_from_is_err_and}
use Rattle.cas_ballot.specs.Members.{members_where, with_member}
use Rattle.cas_store.specs.Rack.{rack_meaning}
use Rattle.cas_reopen.specs.Filled.{IsFoundFilled}
use Rattle.cas_reopen.proofs.Filling.{FoundBelow, none_below, one_filled, one_empty, one_gives_none, all_found}
use Rattle.cas_reopen.proofs.lengths.filled.Goals as goal
use Rattle.cas_reopen.proofs.lengths.filled.Goals.{then-branch, else-branch}

pub loop-place-init : goal.loop-place-init
unfolding members_where
loop-place-init g c = record { found = none_below (rack_meaning g.D.Disk) c.args.disks.now.items; to = omega arith }

pub returns-in_err-is_filled-clause-err : goal.returns-in_err-is_filled-clause-err
returns-in_err-is_filled-clause-err g c =
    let p = err_from_is_err_and c.from_residual.result c.from_residual.ensures.1 in
    rw (p.1, p.2)
    (one_gives_none (rack_meaning g.D.Disk) c.args.disks.now.items c.args.first c.from.result c.loop-place.place c.loop-place.disks.items c.loop-place.found c.in_err-is_filled.field-0.0
    c.index_mut.result.now c.is_filled.new.disk
    c.from.ensures (omega (arith, c.loop-place.invariant.found.places, c.args.disks.now.ok.0, c.requires.few, c.loop-place-test.true)) c.index_mut.ensures.value c.loop-place.invariant.found
    c.in_err-is_filled.ensures.err.0 c.in_err-is_filled.ensures.err.1)

id_is : (option : Option ℕ) (id number : ℕ) → option ≡ Some id → IfSome option (λ (i : ℕ). i ≡ number) → id ≡ number
id_is option id number some is = subst (λ (o : Option ℕ). IfSome o (λ (i : ℕ). i ≡ number)) some is

pub loop-place-preserved : goal.loop-place-preserved
loop-place-preserved g c =
    let low : c.loop-place.place < length c.loop-place.disks.items = omega (arith, c.loop-place.invariant.found.places, c.args.disks.now.ok.0, c.requires.few, c.loop-place-test.true) in
    elim c.if-branch.branch [
      | then-branch w ↦ record {
        found = subst (λ (found : List ℕ). FoundBelow (rack_meaning g.D.Disk) c.args.disks.now.items (c.loop-place.place + 1) found
            (slice_set c.loop-place.disks.items c.from.result c.is_filled.new.disk))
            (sym (w.found-is ∙ w.insert.ensures ∙ ap (with_member c.loop-place.found) (id_is c.new.result c.unwrap-id.result c.loop-place.place c.unwrap-id.ensures c.new.ensures.value)))
            (one_filled (rack_meaning g.D.Disk) c.args.disks.now.items c.from.result c.loop-place.place c.loop-place.disks.items c.loop-place.found c.index_mut.result.now c.is_filled.new.disk
            c.from.ensures low c.index_mut.ensures.value (omega (arith, c.loop-place-test.true)) c.loop-place.invariant.found
            (subst (λ (b : Bool). IsFoundFilled (rack_meaning g.D.Disk) b c.index_mut.result.now c.is_filled.new.disk) w.if-branch.true c.in_ok-is_filled.ensures.ok));
        to = omega (arith, c.loop-place-test.true);
      }
      | else-branch w ↦ record {
        found = subst (λ (found : List ℕ). FoundBelow (rack_meaning g.D.Disk) c.args.disks.now.items (c.loop-place.place + 1) found
            (slice_set c.loop-place.disks.items c.from.result c.is_filled.new.disk)) (sym w.found-is)
            (one_empty (rack_meaning g.D.Disk) c.args.disks.now.items c.from.result c.loop-place.place c.loop-place.disks.items c.loop-place.found c.index_mut.result.now c.is_filled.new.disk
            c.from.ensures low c.index_mut.ensures.value c.loop-place.invariant.found
            (subst (λ (b : Bool). IsFoundFilled (rack_meaning g.D.Disk) b c.index_mut.result.now c.is_filled.new.disk) w.if-branch.false c.in_ok-is_filled.ensures.ok));
        to = omega (arith, c.loop-place-test.true);
      }
    ]

pub returns-clause-ok : goal.returns-clause-ok
returns-clause-ok g c =
    all_found (rack_meaning g.D.Disk) c.args.disks.now.items c.loop-place.place c.loop-place.found c.loop-place.disks.items
    (omega (arith, c.args.disks.now.ok.0, c.requires.few, c.loop-place-test.false)) c.loop-place.invariant.found
