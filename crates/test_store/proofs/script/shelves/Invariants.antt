use Rattle.std.proofs.Common.{◌≡◌, vec_len}
use Rattle.test_store.proofs.script.shelves.Given as goal

abbrev pub invariant-loop-shelf : goal.invariant-loop-shelf
invariant-loop-shelf l = record { made : vec_len l.shelves ≡ l._shelf }
