-- What a call of a source may give, and what callers see of a source over memory.
use Rattle.std.specs.Prelude.{◌≡◌, ◌↔◌, ℕ, zero, ◌+◌, ◌-◌, ◌^◌, min, List, [], ◌∷◌, ◌++◌, take, Result, Ok, Err, Contains}
use Rattle.cas_base.specs.Faults.{Rose}

-- ---- calls
-- what a call of a source gave: bytes, the end of the input, or a fault
pub data Taken : Type 0 where
  Bytes : List ℕ → Taken
  End : Taken
  Fault : Taken

-- the same by the answer of the call and its buffer. Nothing in a buffer with room is the end of the input
abbrev pub taken_of : {E : Type 0} → Result ℕ E → List ℕ → Taken
taken_of (Ok zero) (byte ∷ buf) = End
taken_of (Ok count) buf = Bytes (take count buf)
taken_of (Err failed) buf = Fault

-- the bytes that a call took
abbrev pub bytes_of : Taken → List ℕ
bytes_of (Bytes bytes) = bytes
bytes_of End = []
bytes_of Fault = []

-- a fault raises the count, and nothing else changes it
abbrev pub CountsFaults : ℕ → Taken → ℕ → Type 0
CountsFaults old (Bytes bytes) new = new ≡ old
CountsFaults old End new = new ≡ old
CountsFaults old Fault new = Rose old new

-- ---- a source over memory
-- the bytes left, the most that one call takes, the numbers of the calls that fail, and how many calls and faults there were
pub record MemorySourceState : Type 0 where
  pub left : List ℕ
  pub piece : ℕ
  pub failing : List ℕ
  pub calls : ℕ
  pub faults : ℕ

-- the number of the next call, counted from 1. It stands still at the greatest u64
abbrev pub call_after : ℕ → ℕ
call_after calls = min (calls + 1) (2 ^ 64 - 1)

-- a call fails exactly where its number was named, and else gives the next bytes
pub record GivesNext (old : MemorySourceState) (taken : Taken) (new : MemorySourceState) : Type 0 where
  pub counted : new.calls ≡ call_after old.calls
  pub fails : taken ≡ Fault ↔ Contains old.failing (call_after old.calls)
  pub next : old.left ≡ bytes_of taken ++ new.left
