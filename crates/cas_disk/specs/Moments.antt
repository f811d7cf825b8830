-- What a disk in memory tells of crashes, at this moment and at those before.
use Rattle.std.specs.Prelude.{ℕ, ◌+◌, List, length}
use Rattle.cas_disk.specs.Medium.{undone, MayLeave, LeftAfter}
use Rattle.cas_disk.specs.declared.medium.Medium.{Medium}

-- what was there after the last sync or crash
abbrev pub durable_in : Medium → List ℕ
durable_in m = undone m.pending.items m.bytes.items

-- the moment: how many epochs are over
abbrev pub moment_in : Medium → ℕ
moment_in m = m.forgotten + length m.past.items

-- how many of those are kept
abbrev pub epochs_in : Medium → ℕ
epochs_in m = length m.past.items

-- a crash now may leave this
abbrev pub may_leave_in : Medium → List ℕ → Type 0
may_leave_in m c = MayLeave m.pending.items m.bytes.items c

-- a crash since that moment might have left this
abbrev pub left_in : Medium → ℕ → List ℕ → Type 0
left_in m t c = LeftAfter m.forgotten m.past.items m.pending.items m.bytes.items t c
