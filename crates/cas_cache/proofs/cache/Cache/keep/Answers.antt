use Rattle.std.proofs.Common.{◌∙◌, ap, arith}
use Rattle.cas_cache.specs.Entries.{promises_in}
use Rattle.cas_cache.proofs.Rows.{Lru, keeps, keeps_but_last, taken_promises, kept_all}
use Rattle.cas_cache.proofs.cache.Cache.keep.Goals as goal

pub invariant_of-self : goal.invariant_of-self
invariant_of-self c =
    let s = c.args.self.now in
    let kept = keeps_but_last c.args.key.now c.args.ready s.entries.entries c.pop_lru.new.self s.entries.cap s.capacity s.row c.requires s.few c.pop_lru.ensures.entries in
    record { capacity = kept.capacity; row = kept.row; few = kept.few }

pub invariant_of-self-else-len-gt-KEPT : goal.invariant_of-self-else-len-gt-KEPT
invariant_of-self-else-len-gt-KEPT c =
    let s = c.args.self.now in
    let kept = keeps c.args.key.now c.args.ready s.entries.entries s.entries.cap s.capacity s.row c.requires (omega (arith, c.len.ensures.len, c.if-len-gt-KEPT.false)) in
    record { capacity = kept.capacity; row = kept.row; few = kept.few }

pub returns-then-len-gt-KEPT-clause-promises : goal.returns-then-len-gt-KEPT-clause-promises
returns-then-len-gt-KEPT-clause-promises c =
    let s = c.args.self.now in
    ap (λ (d : Lru). promises_in d.entries) c.pop_lru.ensures.entries
    ∙ taken_promises c.args.key.now c.args.ready s.entries.entries s.row c.requires s.few (omega (arith, c.len.ensures.len, c.if-len-gt-KEPT.true))

pub returns-else-len-gt-KEPT-clause-promises : goal.returns-else-len-gt-KEPT-clause-promises
returns-else-len-gt-KEPT-clause-promises c =
    let s = c.args.self.now in
    kept_all c.args.key.now c.args.ready s.entries.entries s.row c.requires (omega (arith, c.len.ensures.len, c.if-len-gt-KEPT.false))
