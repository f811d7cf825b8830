use Rattle.std.proofs.Common.{reverse, subst, arith}
use Rattle.std.proofs.lemmas.Result.{err_from_is_err_and}
use Rattle.std.specs.Io.KnownBytes.{Appends}
use Rattle.cas_lines.specs.Sink.{AppendsFront}
use Rattle.casreg_tasks.proofs.KeysAhead.{so_far_first, so_far_on, so_far_whole, front_of, front_within}
use Rattle.casreg_tasks.proofs.SettledKeys.{listed_in, count_falls}
use Rattle.casreg_tasks.proofs.histories.write_histories.Goals as goal

pub loop-key-init : goal.loop-key-init
loop-key-init g c = record { so_far = so_far_first (reverse c.args.book.now.marks) (g.K.Sink.contents c.args.sink.now); faults = omega arith }

pub returns-in_err-text-clause-front : goal.returns-in_err-text-clause-front
returns-in_err-text-clause-front g c =
    let p = err_from_is_err_and c.from_residual.result c.from_residual.ensures.1 in
    rw p.1 (front_of _ _ _ _ c.loop-key.invariant.so_far)

pub returns-in_err-put_all-clause-front : goal.returns-in_err-put_all-clause-front
returns-in_err-put_all-clause-front g c =
    let p = err_from_is_err_and c.from_residual-in_err-put_all.result c.from_residual-in_err-put_all.ensures.1 in
    rw p.1 (front_within _ _ c.in-Some.key.now c.in_ok-text.text.items _ _ _ c.loop-key.invariant.so_far
    (record { listed = c.in-Some.ensures.next.0; is_after = c.in-Some.ensures.next.1; least = c.in-Some.ensures.least })
    c.in_ok-text.ensures (subst (AppendsFront _ _) c.deref.ensures.value c.in_err-put_all.ensures.front))

pub loop-key-smaller : goal.loop-key-smaller
loop-key-smaller g c = count_falls _ c.in-Some.key.now _ c.in-Some.ensures.next.1 (listed_in c.in-Some.key.now (reverse c.args.book.now.marks) c.in-Some.ensures.next.0)

pub loop-key-preserved : goal.loop-key-preserved
loop-key-preserved g c = record {
  so_far = so_far_on _ _ c.in-Some.key.now c.in_ok-text.text.items _ _ _ c.loop-key.invariant.so_far
      (record { listed = c.in-Some.ensures.next.0; is_after = c.in-Some.ensures.next.1; least = c.in-Some.ensures.least })
      c.in_ok-text.ensures (subst (Appends _ _) c.deref.ensures.value c.in_ok-put_all.ensures.all);
  faults = omega (arith, c.loop-key.invariant.faults, c.put_all.ensures.by_count.never_falls);
}

pub returns-clause-all : goal.returns-clause-all
returns-clause-all g c = so_far_whole _ _ _ _ c.loop-key.invariant.so_far (λ key listed is_after. c.in_default.ensures.least key listed is_after)
