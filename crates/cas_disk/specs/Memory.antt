-- What a disk in memory was told to do, and what it does at each call.
use Rattle.std.specs.Prelude.{◌≡◌, ℕ, ◌+◌, ◌-◌, ◌^◌, min, Bool, true, false, not, ◌&&◌, ◌||◌, ◌==◌, List, Option, Some, None, is_some, option_map, Result, MatchResult}
use Rattle.std.specs.List.{find}
use Rattle.cas_disk.specs.Moments.{durable_in}
use Rattle.cas_disk.specs.declared.disk.DiskFault.{DiskFault}
use Rattle.cas_disk.specs.declared.disk.DiskFault.TheVariants.{Failed}
use Rattle.cas_disk.specs.declared.medium.Image.{Image}
use Rattle.cas_disk.specs.declared.memory.MemoryDisk.{MemoryDisk}
use Rattle.cas_disk.specs.declared.memory.Trouble.{Trouble}
use Rattle.cas_disk.specs.declared.memory.Trouble.TheVariants.{Fail, Stop}

-- the bytes that a read of a disk in memory gives
abbrev pub bytes_of : MemoryDisk → List ℕ
bytes_of d = d.medium.bytes.items

-- the bytes that were there after the last sync or crash
abbrev pub durable_of : MemoryDisk → List ℕ
durable_of d = durable_in d.medium

-- how often a disk in memory has failed
abbrev pub faults_of : MemoryDisk → ℕ
faults_of d = d.faults

-- the number of the last call
abbrev pub calls_of : MemoryDisk → ℕ
calls_of d = d.calls

-- it stopped, and has not crashed since
abbrev pub is_stopped : MemoryDisk → Bool
is_stopped d = d.stopped

-- the numbers of the calls that go wrong, and how
abbrev pub troubles_of : MemoryDisk → List (ℕ × Trouble)
troubles_of d = d.troubles.items

-- what a crash of a disk in memory leaves
abbrev pub image_of : MemoryDisk → Image
image_of d = d.image

-- the first trouble at the call of this number
abbrev pub trouble_at : List (ℕ × Trouble) → ℕ → Option Trouble
trouble_at troubles call = option_map (λ trouble. trouble.1) (find (λ trouble. trouble.0 == call) troubles)

-- the number of the next call; the greatest stays
abbrev pub next_call : MemoryDisk → ℕ
next_call d = min (calls_of d + 1) (2 ^ 64 - 1)

-- what goes wrong at the next call
abbrev pub next_trouble : MemoryDisk → Option Trouble
next_trouble d = trouble_at (troubles_of d) (next_call d)

abbrev pub is_stop : Option Trouble → Bool
is_stop None = false
is_stop (Some Fail) = false
is_stop (Some Stop) = true

-- the next call fails: it has a trouble, or the disk is stopped
abbrev pub fails_next : MemoryDisk → Bool
fails_next d = is_stopped d || is_some (next_trouble d)

-- the disk runs, and stops at the next call
abbrev pub stops_next : MemoryDisk → Bool
stops_next d = not (is_stopped d) && is_stop (next_trouble d)

-- a call was made and numbered; it failed exactly where it had to, unless no memory was found for it
pub record IsCall {T : Type 0} (result : Result T DiskFault) (old new : MemoryDisk) : Type 0 where
  pub answer : MatchResult result (λ x. fails_next old ≡ false) (λ fault. (fault ≡ Failed) → fails_next old ≡ true)
  pub number : calls_of new ≡ next_call old
  pub stopped : is_stopped new ≡ (is_stopped old || is_stop (next_trouble old))
  pub same_troubles : troubles_of new ≡ troubles_of old
  pub same_image : image_of new ≡ image_of old
