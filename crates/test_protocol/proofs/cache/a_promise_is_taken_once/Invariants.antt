use Rattle.std.proofs.Common.{◌≡◌, None}
use Rattle.cas_cache.specs.Cache.{place_of}
use Rattle.test_protocol.proofs.cache.a_promise_is_taken_once.Given as goal

abbrev pub invariant-loop-row : goal.invariant-loop-row
invariant-loop-row g l = place_of l.cache ≡ None
