-- The entries of a cache: each key has a promise, but for the key of the open place, which stands in front and has none yet.
use Rattle.std.specs.Prelude.{ℕ, Bool, true, ◌&&◌, is_some, nat_eq, List, [], ◌∷◌, Option, Some, None}
use Rattle.std.specs.Cmp.Lexicographic.{pointwise}
use Rattle.std.specs.Map.{lookup, remove_entry}
use Rattle.cas_cache.specs.declared.ready.Ready.{Ready}

-- an entry's promise in front of these, if it has one
abbrev pub with_promise : List ℕ → Option Ready → List (List ℕ × Ready) → List (List ℕ × Ready)
with_promise key None promises = promises
with_promise key (Some ready) promises = (key, ready) ∷ promises

-- the promises of these entries
abbrev pub promises_in : List (List ℕ × Option Ready) → List (List ℕ × Ready)
promises_in [] = []
promises_in (entry ∷ entries) = with_promise entry.0 entry.1 (promises_in entries)

abbrev pub key_without_promise : List ℕ → Option Ready → Option (List ℕ)
key_without_promise key None = Some key
key_without_promise key (Some ready) = None

-- the key of the open place
abbrev pub place_in : List (List ℕ × Option Ready) → Option (List ℕ)
place_in [] = None
place_in (entry ∷ entries) = key_without_promise entry.0 entry.1

-- each of these entries has a promise
abbrev pub all_kept : List (List ℕ × Option Ready) → Bool
all_kept [] = true
all_kept (entry ∷ entries) = is_some entry.1 && all_kept entries

-- no entry but the first is without a promise
abbrev pub is_row : List (List ℕ × Option Ready) → Bool
is_row [] = true
is_row (entry ∷ entries) = all_kept entries

-- the promise of a key
abbrev pub promise_at : List ℕ → List (List ℕ × Ready) → Option Ready
promise_at key promises = lookup (pointwise nat_eq key) promises

-- the promises without that of a key
abbrev pub without : List ℕ → List (List ℕ × Ready) → List (List ℕ × Ready)
without key promises = remove_entry (pointwise nat_eq key) promises
