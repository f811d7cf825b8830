use Rattle.std.proofs.Common.{◌≡◌, None}
use Rattle.cas_cache.specs.Cache.{place_of}
use Rattle.test_protocol.proofs.cache.the_least_recent_of_65_promises_goes.Given as goal

abbrev pub invariant-loop-number : goal.invariant-loop-number
invariant-loop-number g l = place_of l.cache ≡ None
