-- What a cache shows.
use Rattle.std.specs.Prelude.{ℕ, List, Option}
use Rattle.cas_cache.specs.Entries.{promises_in, place_in}
use Rattle.cas_cache.specs.declared.cache.Cache.{Cache}
use Rattle.cas_cache.specs.declared.ready.Ready.{Ready}

-- the keys and their promises, the most recently used first
abbrev pub promises_of : Cache → List (List ℕ × Ready)
promises_of cache = promises_in cache.entries.entries

-- the key whose place is open
abbrev pub place_of : Cache → Option (List ℕ)
place_of cache = place_in cache.entries.entries
