use Rattle.cas_cache.proofs.Rows.{IsCache, forgets, forgets_promise, forgets_all}
use Rattle.cas_cache.proofs.cache.Cache.forget.Goals as goal

pub invariant_of-self : goal.invariant_of-self
invariant_of-self c =
    let s = c.args.self.now in
    let is : IsCache s.entries = record { capacity = s.capacity; row = s.row; few = s.few } in
    let kept = forgets c.args.key.now s.entries c.pop.new.self is c.len.ensures.valid.0 c.pop.ensures.entries in
    record { capacity = kept.capacity; row = kept.row; few = kept.few }

pub returns-clause-promises : goal.returns-clause-promises
returns-clause-promises c =
    let s = c.args.self.now in
    forgets_promise c.args.key.now s.entries c.pop.new.self (record { capacity = s.capacity; row = s.row; few = s.few }) c.len.ensures.valid.0 c.pop.ensures.entries

pub returns-clause-gone : goal.returns-clause-gone
returns-clause-gone c = forgets_all c.args.key.now c.args.self.now.entries c.pop.new.self c.len.ensures.valid.0 c.pop.ensures.entries
